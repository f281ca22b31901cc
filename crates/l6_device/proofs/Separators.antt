-- Lemmas on the lines of a text and its separators.
use Rattle.std.proofs.Common.{◌≡◌, ℕ, ◌-◌, ◌<◌, List, [], ◌∷◌, ◌++◌, length, take, get_or, Bool, true, false, eqb, refl, ap, sym, ◌∙◌, arith, append_assoc, append-nil, length-append}
use Rattle.std.specs.List.{onto_first}
use Rattle.std.specs.Str.{byte}
use Rattle.std.proofs.lemmas.Bool.{both_ways, false_from_ne_true}
use Rattle.std.proofs.lemmas.List.Folds.{list_all_at}
use Rattle.std.proofs.Math.Seq.{take-append_seam, get_or-append_seam}
use Rattle.l6_word.specs.Split.{lacks, IsCutAt}
use Rattle.l6_word.proofs.Cuts.{lacks_cons}
use Rattle.l6_device.specs.JobParts.{TextHalves, halves, is_separator, text_of_lines, whole_lines, without_feed}
use Rattle.l6_device.specs.inner.Lines.{BeginsWithLine}
use Rattle.l6_word.specs.Lines.{without_return}
use Rattle.l6_device.specs.JobParts.{reads_as}

-- a line in front of a text
whole_lines_front : (line following : List ℕ) → lacks (byte "\n") line ≡ true →
    whole_lines (line ++ byte "\n" ∷ following) ≡ (line ++ byte "\n" ∷ []) ∷ whole_lines following
unfolding whole_lines
whole_lines_front [] following lacking = refl
whole_lines_front (first ∷ rest) following lacking =
    let parts = lacks_cons (byte "\n") first rest lacking in
    rw parts.0 (ap (onto_first first) (whole_lines_front rest following parts.1))

-- a text that has no line feed
whole_lines_last : (first : ℕ) (rest : List ℕ) → lacks (byte "\n") (first ∷ rest) ≡ true →
    whole_lines (first ∷ rest) ≡ (first ∷ rest) ∷ []
unfolding whole_lines
whole_lines_last first [] lacking =
    let parts = lacks_cons (byte "\n") first [] lacking in
    rw parts.0 refl
whole_lines_last first (second ∷ rest) lacking =
    let parts = lacks_cons (byte "\n") first (second ∷ rest) lacking in
    rw parts.0 (ap (onto_first first) (whole_lines_last second rest parts.1))

-- the lines of a text make it
text_of_lines_onto : (first : ℕ) (lines : List (List ℕ)) →
    text_of_lines (onto_first first lines) ≡ first ∷ text_of_lines lines
unfolding text_of_lines
text_of_lines_onto first [] = refl
text_of_lines_onto first (line ∷ lines) = refl

text_of_lines_first : (feeds : Bool) (first : ℕ) (rest : List ℕ) → eqb first (byte "\n") ≡ feeds →
    text_of_lines (whole_lines rest) ≡ rest → text_of_lines (whole_lines (first ∷ rest)) ≡ first ∷ rest
unfolding text_of_lines whole_lines
text_of_lines_first true first rest is others = rw is (ap (λ l. first ∷ l) others)
text_of_lines_first false first rest is others =
    rw is (text_of_lines_onto first (whole_lines rest) ∙ ap (λ l. first ∷ l) others)

pub text_of_lines_lines : (text : List ℕ) → text_of_lines (whole_lines text) ≡ text
unfolding text_of_lines whole_lines
text_of_lines_lines [] = refl
text_of_lines_lines (first ∷ rest) =
    text_of_lines_first (eqb first (byte "\n")) first rest refl (text_of_lines_lines rest)

-- a line with its line feed, without it
without_feed_fed : (line : List ℕ) → without_feed (line ++ byte "\n" ∷ []) ≡ line
without_feed_fed line =
    let size : length (line ++ byte "\n" ∷ []) - 1 ≡ length line =
    omega (arith, length-append line (byte "\n" ∷ [])) in
    rw (size, get_or-append_seam line (byte "\n") [] 0) (take-append_seam line (byte "\n" ∷ []))

-- a line that has none
without_feed_lacks : (line : List ℕ) → 0 < length line → lacks (byte "\n") line ≡ true →
    without_feed line ≡ line
without_feed_lacks line some lacking =
    let last : ℕ = get_or line (length line - 1) 0 in
    let other : eqb last (byte "\n") ≡ false =
    false_from_ne_true (eqb last (byte "\n"))
    (λ feed. both_ways (lacks (byte "\n") line)
    (list_all_at _ line (length line - 1) 0 (omega (arith, some)) (rw feed refl)) lacking) in
    rw other refl

-- the first line of a text, cut at its first line feed
pub line_cut : {text line following : List ℕ} → IsCutAt (byte "\n") text line following →
    BeginsWithLine text line following
line_cut {text} {line} {following} cut = record {
  whole = line ++ byte "\n" ∷ [];
  text_is = cut.whole ∙ sym (append_assoc line (byte "\n" ∷ []) following);
  lines = ap whole_lines cut.whole ∙ whole_lines_front line following cut.first;
  line_is = without_feed_fed line;
}

-- the one line of a text without a line feed
pub line_whole : (text : List ℕ) → 0 < length text → lacks (byte "\n") text ≡ true →
    BeginsWithLine text text []
unfolding whole_lines
line_whole [] some lacking = absurd (omega (arith, some))
line_whole (first ∷ rest) some lacking = record {
  whole = first ∷ rest;
  text_is = sym (append-nil (first ∷ rest));
  lines = whole_lines_last first rest lacking;
  line_is = without_feed_lacks (first ∷ rest) some lacking;
}

-- halves with some lines more in front of the first
abbrev pub following_front : List ℕ → TextHalves → TextHalves
following_front front parts = record parts { before = front ++ parts.before }

-- the text is some lines that are no separators, and the rest
pub record Keeps (word text rest : List ℕ) : Type 0 where
  pub front : List ℕ
  pub whole : text ≡ front ++ rest
  pub parts : halves word (whole_lines text) ≡ following_front front (halves word (whole_lines rest))

-- at first no line is kept
pub none_kept : (word text : List ℕ) → Keeps word text text
none_kept word text = record { front = []; whole = refl; parts = refl }

-- one line more that is no separator
pub one_kept : (word text rest line following : List ℕ) → Keeps word text rest →
    BeginsWithLine rest line following → reads_as word (without_return line) ≡ false →
    Keeps word text following
unfolding halves
one_kept word text rest line following kept begins other =
    let none : is_separator word begins.whole ≡ false =
    ap (λ l. reads_as word (without_return l)) begins.line_is ∙ other in
    let next : TextHalves = halves word (whole_lines following) in
    let more : halves word (whole_lines rest) ≡ following_front begins.whole next =
    ap (halves word) begins.lines ∙ rw none refl in
    record {
      front = kept.front ++ begins.whole;
      whole = kept.whole ∙ ap (λ l. kept.front ++ l) begins.text_is
          ∙ sym (append_assoc kept.front begins.whole following);
      parts = kept.parts ∙ ap (following_front kept.front) more
          ∙ ap (λ l. record next { before = l })
          (sym (append_assoc kept.front begins.whole next.before));
    }

-- at a separator the text is in two
pub before_separator : (word text rest line following : List ℕ) → Keeps word text rest →
    BeginsWithLine rest line following → reads_as word (without_return line) ≡ true →
    (take (length text - length rest) text ≡ (halves word (whole_lines text)).before)
    × (following ≡ (halves word (whole_lines text)).following)
unfolding halves
before_separator word text rest line following kept begins is =
    let separator : is_separator word begins.whole ≡ true =
    ap (λ l. reads_as word (without_return l)) begins.line_is ∙ is in
    let parts : halves word (whole_lines rest) ≡ record { before = []; following = following } =
    ap (halves word) begins.lines
    ∙ rw separator (ap (λ l. record { before = []; following = l }) (text_of_lines_lines following)) in
    let both : halves word (whole_lines text) ≡ record { before = kept.front; following = following } =
    kept.parts ∙ ap (following_front kept.front) parts
    ∙ ap (λ l. record { before = l; following = following }) (append-nil kept.front) in
    let size : length text - length rest ≡ length kept.front =
    omega (arith, ap length kept.whole, length-append kept.front rest) in
    let front : take (length text - length rest) text ≡ kept.front =
    ap (λ n. take n text) size ∙ ap (take (length kept.front)) kept.whole
    ∙ take-append_seam kept.front rest in (
      front ∙ sym (ap (λ (h : TextHalves). h.before) both),
      sym (ap (λ (h : TextHalves). h.following) both),
    )

-- a text without a separator is all before it
pub no_separator : (word text rest : List ℕ) → Keeps word text rest → length rest ≡ 0 →
    (text ≡ (halves word (whole_lines text)).before)
    × ([] ≡ (halves word (whole_lines text)).following)
unfolding halves whole_lines
no_separator word text [] kept none =
    let both : halves word (whole_lines text) ≡ record { before = kept.front; following = [] } =
    kept.parts
    ∙ ap (λ l. record { before = l; following = [] }) (append-nil kept.front) in
    let front : text ≡ kept.front = kept.whole ∙ append-nil kept.front in (
      front ∙ sym (ap (λ (h : TextHalves). h.before) both),
      sym (ap (λ (h : TextHalves). h.following) both),
    )
no_separator word text (first ∷ rest) kept none = absurd (omega (arith, none))
