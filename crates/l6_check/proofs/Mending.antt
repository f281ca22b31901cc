-- How the text of a part is written with a stand-in for what objects.
use Rattle.std.proofs.Common.{◌≡◌, ℕ, ◌+◌, ◌-◌, Bool, true, false, cond, zero, suc, replicate, List, [], ◌∷◌, ◌++◌, length, take, drop, arith, append_assoc, append-nil, length-append, length-take, take_all, eqb, refl, sym, ap, ◌∙◌}
use Rattle.std.specs.Prelude.{not}
use Rattle.std.proofs.lemmas.List.Folds.{list_all-append}
use Rattle.std.specs.Str.{byte}
use Rattle.std.proofs.lemmas.List.{length-drop, take-append-drop}
use Rattle.l6_word.specs.Lines.{lines_of}
use Rattle.l6_word.specs.Split.{lacks, IsCutAt}
use Rattle.l6_word.proofs.Cuts.{lacks_append, lacks_cons, lines_of_cut, lines_of_front, lines_of_lacks}
use Rattle.l6_card.specs.declared.objection.Objection.{Objection}
use Rattle.l6_check.specs.Statements.{mended, mended_line, overwritten}

-- a part of bytes without a line feed has none
pub lacks_taken : (count : ℕ) (bytes : List ℕ) → lacks (byte "\n") bytes ≡ true →
    lacks (byte "\n") (take count bytes) ≡ true
lacks_taken count bytes lacking =
    lacks_append (byte "\n") (take count bytes) (drop count bytes)
    (ap (lacks (byte "\n")) (take-append-drop count bytes) ∙ lacking)

lacks_behind : (front following : List ℕ) → lacks (byte "\n") (front ++ following) ≡ true →
    lacks (byte "\n") following ≡ true
lacks_behind [] following lacking = lacking
lacks_behind (first ∷ rest) following lacking =
    lacks_behind rest following (lacks_cons (byte "\n") first (rest ++ following) lacking).1

lacks_dropped : (count : ℕ) (bytes : List ℕ) → lacks (byte "\n") bytes ≡ true →
    lacks (byte "\n") (drop count bytes) ≡ true
lacks_dropped count bytes lacking =
    lacks_behind (take count bytes) (drop count bytes)
    (ap (lacks (byte "\n")) (take-append-drop count bytes) ∙ lacking)

pub lacks_joined : (front following : List ℕ) → lacks (byte "\n") front ≡ true →
    lacks (byte "\n") following ≡ true → lacks (byte "\n") (front ++ following) ≡ true
lacks_joined front following lacking others =
    list_all-append (λ b. not (eqb b (byte "\n"))) front following ∙ rw (lacking, others) refl

-- nor have blanks
pub lacks_blanks : (count : ℕ) → lacks (byte "\n") (replicate count (byte " ")) ≡ true
lacks_blanks zero = refl
lacks_blanks (suc count) = lacks_blanks count

-- a line that is overwritten is as long as it was
pub overwritten_length : (from : ℕ) (columns line : List ℕ) →
    length (overwritten from columns line) ≡ length line
overwritten_length from columns line =
    let front = take from line in
    let new = take (length line - from) columns in
    let end = drop (from + length columns) line in
    let long : length (front ++ new ++ end) ≡ length line = omega (
      arith,
      length-append (front ++ new) end,
      length-append front new,
      length-take from line,
      length-take (length line - from) columns,
      length-drop (from + length columns) line,
    ) in
    long

-- and has no line feed
overwritten_lacks : (from : ℕ) (columns line : List ℕ) → lacks (byte "\n") columns ≡ true →
    lacks (byte "\n") line ≡ true → lacks (byte "\n") (overwritten from columns line) ≡ true
overwritten_lacks from columns line others lacking =
    let front = take from line in
    let new = take (length line - from) columns in
    let end = drop (from + length columns) line in
    lacks_joined (front ++ new) end
    (lacks_joined front new (lacks_taken from line lacking) (lacks_taken (length line - from) columns others))
    (lacks_dropped (from + length columns) line lacking)

chosen_lacks : (holds : Bool) (one other : List ℕ) → lacks (byte "\n") one ≡ true →
    lacks (byte "\n") other ≡ true → lacks (byte "\n") (cond holds one other) ≡ true
chosen_lacks true one other first second = first
chosen_lacks false one other first second = second

mended_lacks : (objection : Objection) (columns : List ℕ) (card : ℕ) (line : List ℕ) →
    lacks (byte "\n") columns ≡ true → lacks (byte "\n") line ≡ true →
    lacks (byte "\n") (mended_line objection columns card line) ≡ true
mended_lacks objection columns card line others lacking =
    chosen_lacks (eqb card objection.card) (overwritten objection.from columns line) line
    (overwritten_lacks objection.from columns line others lacking) lacking

chosen_length : (holds : Bool) (one other : List ℕ) (count : ℕ) → length one ≡ count →
    length other ≡ count → length (cond holds one other) ≡ count
chosen_length true one other count first second = first
chosen_length false one other count first second = second

pub mended_length : (objection : Objection) (columns : List ℕ) (card : ℕ) (line : List ℕ) →
    length (mended_line objection columns card line) ≡ length line
mended_length objection columns card line =
    chosen_length (eqb card objection.card) (overwritten objection.from columns line) line (length line)
    (overwritten_length objection.from columns line) refl

-- as many lines are mended as there are
pub mended_count : (objection : Objection) (columns : List ℕ) (card : ℕ) (lines : List (List ℕ)) →
    length (mended objection columns card lines) ≡ length lines
mended_count objection columns card [] = refl
mended_count objection columns card (line ∷ lines) =
    ap (λ n. suc n) (mended_count objection columns (card + 1) lines)

-- the text so far has these lines, whatever follows it
abbrev pub HasLines : List ℕ → List (List ℕ) → Type 0
HasLines text lines = (tail : List ℕ) → lines_of (text ++ tail) ≡ lines ++ lines_of tail

-- these lines and the mended ones that are left are all
abbrev pub LeaveLines : Objection → List ℕ → ℕ → ℕ → List ℕ → List (List ℕ) → List (List ℕ) → Type 0
LeaveLines objection columns card left rest done all =
    done ++ mended objection columns (card + 1) (take left (lines_of rest)) ≡ all

pub record AreWritten (objection : Objection) (columns : List ℕ) (card left : ℕ) (rest text : List ℕ)
    (all : List (List ℕ)) : Type 0 where
  pub done : List (List ℕ)
  pub has : HasLines text done
  pub leave : LeaveLines objection columns card left rest done all

-- a line that ends at a line feed is written, and the line feed after it
pub written_next : (objection : Objection) (columns : List ℕ) (card left more : ℕ)
    (rest line following text : List ℕ) (all : List (List ℕ)) →
    lacks (byte "\n") columns ≡ true → IsCutAt (byte "\n") rest line following → left ≡ suc more →
    AreWritten objection columns card left rest text all →
    AreWritten objection columns (card + 1) more following
    ((text ++ mended_line objection columns (card + 1) line) ++ byte "\n" ∷ []) all
written_next objection columns card left more rest line following text all others cut counted so_far =
    let new = mended_line objection columns (card + 1) line in
    let end : List ℕ = byte "\n" ∷ [] in
    let lacking = mended_lacks objection columns (card + 1) line others cut.first in
    let rest_of = λ (lines : List (List ℕ)). mended objection columns (card + 1) lines in
    let split : take (suc more) (line ∷ lines_of following) ≡ line ∷ take more (lines_of following) = refl in
    record {
      done = so_far.done ++ new ∷ [];
      has = λ tail.
          ap lines_of (append_assoc (text ++ new) end tail ∙ append_assoc text new (byte "\n" ∷ tail))
          ∙ so_far.has (new ++ byte "\n" ∷ tail)
          ∙ ap (λ ls. so_far.done ++ ls) (lines_of_front new tail lacking)
          ∙ sym (append_assoc so_far.done (new ∷ []) (lines_of tail));
      leave =
          append_assoc so_far.done (new ∷ [])
          (mended objection columns (card + 1 + 1) (take more (lines_of following)))
          ∙ sym (ap (λ ls. so_far.done ++ rest_of ls)
          (ap (λ n. take n (lines_of rest)) counted
          ∙ ap (take (suc more)) (lines_of_cut cut) ∙ split))
          ∙ so_far.leave;
    }

-- where no line is left, all are written
pub written_all : (objection : Objection) (columns : List ℕ) (card left : ℕ) (rest text : List ℕ)
    (all : List (List ℕ)) → left ≡ 0 → AreWritten objection columns card left rest text all →
    lines_of text ≡ all
written_all objection columns card left rest text all none so_far =
    ap lines_of (sym (append-nil text)) ∙ so_far.has []
    ∙ ap (λ n. so_far.done ++ mended objection columns (card + 1) (take n (lines_of rest))) (sym none)
    ∙ so_far.leave

no_bytes : (bytes : List ℕ) → length bytes ≡ 0 → bytes ≡ []
no_bytes [] none = refl
no_bytes (first ∷ rest) none = absurd (cc)

some_bytes : (bytes : List ℕ) (count : ℕ) → length bytes ≡ suc count → eqb (length bytes) 0 ≡ false
some_bytes [] count some = absurd (cc)
some_bytes (first ∷ rest) count some = grind arith

-- a last line has no line feed
pub written_last : (objection : Objection) (columns : List ℕ) (card left more : ℕ) (rest text : List ℕ)
    (all : List (List ℕ)) → lacks (byte "\n") columns ≡ true → lacks (byte "\n") rest ≡ true →
    left ≡ suc more → AreWritten objection columns card left rest text all →
    lines_of (text ++ mended_line objection columns (card + 1) rest) ≡ all
written_last objection columns card left more [] text all others lacking counted so_far =
    let none = no_bytes (mended_line objection columns (card + 1) [])
    (mended_length objection columns (card + 1) []) in
    let empty : take (suc more) (lines_of []) ≡ [] = refl in
    ap (λ l. lines_of (text ++ l)) none ∙ so_far.has []
    ∙ ap (λ ls. so_far.done ++ mended objection columns (card + 1) ls)
    (sym (ap (λ n. take n (lines_of [])) counted ∙ empty))
    ∙ so_far.leave
written_last objection columns card left more (first ∷ others_there) text all others lacking counted so_far =
    let rest : List ℕ = first ∷ others_there in
    let new = mended_line objection columns (card + 1) rest in
    let long = mended_length objection columns (card + 1) rest in
    let some = some_bytes new (length others_there) long in
    let one = take_all (suc more) (rest ∷ []) (omega arith) in
    so_far.has new
    ∙ ap (λ ls. so_far.done ++ ls)
    (lines_of_lacks new some (mended_lacks objection columns (card + 1) rest others lacking))
    ∙ ap (λ ls. so_far.done ++ mended objection columns (card + 1) ls)
    (sym (ap (λ n. take n (lines_of rest)) counted
    ∙ ap (take (suc more)) (lines_of_lacks rest (some_bytes rest (length others_there) refl) lacking) ∙ one))
    ∙ so_far.leave
