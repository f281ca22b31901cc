-- How a deck is gone through up to the line at which it ends.
use Rattle.std.proofs.Common.{◌≡◌, ℕ, ◌+◌, Bool, true, false, cond, List, [], ◌∷◌, ◌++◌, length, take, eqb, arith, append_assoc, append-nil, length-append, refl, sym, ap, ◌∙◌}
use Rattle.std.proofs.Math.Seq.{take-append_seam}
use Rattle.std.specs.Str.{byte}
use Rattle.l6_word.specs.Lines.{lines_of}
use Rattle.l6_word.specs.Split.{lacks, IsCutAt}
use Rattle.l6_word.proofs.Cuts.{lines_of_cut, lines_of_front, lines_of_lacks}
use Rattle.l6_check.specs.JobText.{is_mark, lines_to_mark}

-- so many bytes of a deck are passed, up to a line feed: they are these lines, which are no marks
pub record IsPassed (deck rest : List ℕ) (count : ℕ) : Type 0 where
  pub front : List ℕ
  pub whole : deck ≡ front ++ rest
  pub long : length front ≡ count
  pub done : List (List ℕ)
  pub has : (tail : List ℕ) → lines_of (front ++ tail) ≡ done ++ lines_of tail
  pub left : done ++ lines_to_mark (lines_of rest) ≡ lines_to_mark (lines_of deck)

pub none_passed : (deck : List ℕ) → IsPassed deck deck 0
none_passed deck = record {
  front = [];
  whole = refl;
  long = refl;
  done = [];
  has = λ tail. refl;
  left = refl;
}

-- the line feed after a line, and what follows it
line_and_rest : (line tail : List ℕ) → (line ++ byte "\n" ∷ []) ++ tail ≡ line ++ byte "\n" ∷ tail
line_and_rest line tail = append_assoc line (byte "\n" ∷ []) tail

to_mark : (deck rest line following : List ℕ) (holds : Bool) → IsCutAt (byte "\n") rest line following →
    is_mark line ≡ holds →
    lines_to_mark (lines_of rest) ≡ cond holds (line ∷ []) (line ∷ lines_to_mark (lines_of following))
to_mark deck rest line following holds cut marked =
    ap lines_to_mark (lines_of_cut cut)
    ∙ ap (λ b. cond b (line ∷ []) (line ∷ lines_to_mark (lines_of following))) marked

has_next : (front line tail : List ℕ) (done : List (List ℕ)) →
    ((more : List ℕ) → lines_of (front ++ more) ≡ done ++ lines_of more) →
    lacks (byte "\n") line ≡ true →
    lines_of ((front ++ (line ++ byte "\n" ∷ [])) ++ tail) ≡ (done ++ line ∷ []) ++ lines_of tail
has_next front line tail done has lacking =
    ap lines_of (append_assoc front (line ++ byte "\n" ∷ []) tail
    ∙ ap (λ l. front ++ l) (line_and_rest line tail))
    ∙ has (line ++ byte "\n" ∷ tail)
    ∙ ap (λ ls. done ++ ls) (lines_of_front line tail lacking)
    ∙ sym (append_assoc done (line ∷ []) (lines_of tail))

long_next : (front line : List ℕ) (count : ℕ) → length front ≡ count →
    length (front ++ (line ++ byte "\n" ∷ [])) ≡ count + (length line + 1)
long_next front line count long =
    let both = length-append front (line ++ byte "\n" ∷ []) in
    let own = length-append line (byte "\n" ∷ []) in
    let one : length (byte "\n" ∷ []) ≡ 1 = refl in
    omega (arith, both, own, long, one)

whole_next : (deck front rest line following : List ℕ) → deck ≡ front ++ rest →
    IsCutAt (byte "\n") rest line following → deck ≡ (front ++ (line ++ byte "\n" ∷ [])) ++ following
whole_next deck front rest line following whole cut =
    whole ∙ ap (λ l. front ++ l) (cut.whole ∙ sym (line_and_rest line following))
    ∙ sym (append_assoc front (line ++ byte "\n" ∷ []) following)

-- one more line is passed, which is no mark
pub line_passed : (deck rest line following : List ℕ) (count : ℕ) →
    IsCutAt (byte "\n") rest line following → is_mark line ≡ false → IsPassed deck rest count →
    IsPassed deck following (count + (length line + 1))
line_passed deck rest line following count cut plain passed = record {
  front = passed.front ++ (line ++ byte "\n" ∷ []);
  whole = whole_next deck passed.front rest line following passed.whole cut;
  long = long_next passed.front line count passed.long;
  done = passed.done ++ line ∷ [];
  has = λ tail. has_next passed.front line tail passed.done passed.has cut.first;
  left = append_assoc passed.done (line ∷ []) (lines_to_mark (lines_of following))
      ∙ sym (ap (λ ls. passed.done ++ ls) (to_mark deck rest line following false cut plain))
      ∙ passed.left;
}

-- the deck up to a line that is a mark
pub mark_met : (deck rest line following : List ℕ) (count : ℕ) →
    IsCutAt (byte "\n") rest line following → is_mark line ≡ true → IsPassed deck rest count →
    lines_of (take (count + (length line + 1)) deck) ≡ lines_to_mark (lines_of deck)
mark_met deck rest line following count cut marked passed =
    let front = passed.front ++ (line ++ byte "\n" ∷ []) in
    let taken : take (count + (length line + 1)) deck ≡ front =
    ap (λ n. take n deck) (sym (long_next passed.front line count passed.long))
    ∙ ap (take (length front)) (whole_next deck passed.front rest line following passed.whole cut)
    ∙ take-append_seam front following in
    let none : lines_of [] ≡ [] = refl in
    ap lines_of taken
    ∙ ap lines_of (sym (append-nil front))
    ∙ has_next passed.front line [] passed.done passed.has cut.first
    ∙ append_assoc passed.done (line ∷ []) (lines_of [])
    ∙ sym (ap (λ ls. passed.done ++ ls) (to_mark deck rest line following true cut marked))
    ∙ passed.left

same_lines : (holds : Bool) (line : List ℕ) →
    cond holds (line ∷ []) (line ∷ lines_to_mark []) ≡ line ∷ []
same_lines true line = refl
same_lines false line = refl

last_line : (rest : List ℕ) → lacks (byte "\n") rest ≡ true →
    lines_of rest ≡ lines_to_mark (lines_of rest)
last_line [] lacking = refl
last_line (first ∷ others) lacking =
    let rest : List ℕ = first ∷ others in
    let some : eqb (length rest) 0 ≡ false = grind arith in
    let one = lines_of_lacks rest some lacking in
    one ∙ sym (same_lines (is_mark rest) rest) ∙ sym (ap lines_to_mark one)

-- a deck of which no line that ends is a mark
pub all_passed : (deck rest : List ℕ) (count : ℕ) → lacks (byte "\n") rest ≡ true →
    IsPassed deck rest count → lines_of deck ≡ lines_to_mark (lines_of deck)
all_passed deck rest count lacking passed =
    ap lines_of passed.whole ∙ passed.has rest
    ∙ ap (λ ls. passed.done ++ ls) (last_line rest lacking)
    ∙ passed.left
