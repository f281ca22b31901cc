-- Bytes that are cut at their first separator, and the lines of a text so cut.
use Rattle.std.proofs.Common.{◌≡◌, ℕ, ◌+◌, ◌-◌, ◌<◌, List, [], ◌∷◌, ◌++◌, Some, None, length, take, drop, true, false, eqb, refl, sym, ap, ◌∙◌, subst, arith, get_or-take, length-take, length-append, append_assoc, take_all}
use Rattle.std.specs.Prelude.{not, Option, MatchOption}
use Rattle.std.specs.List.{AllWithin, HoldsAt, onto_first}
use Rattle.std.proofs.lemmas.List.Elements.{All-from_get_or}
use Rattle.std.proofs.lemmas.List.Folds.{list_all-append}
use Rattle.std.proofs.lemmas.Grind.{common_steps}
use Rattle.std.proofs.Math.Seq.{take-append_seam}
use Rattle.std.specs.Str.{byte}
use Rattle.std.proofs.lemmas.Bool.{and_parts, not-true}
use Rattle.std.proofs.lemmas.List.Sums.{list_all-from_AllPass}
use Rattle.l6_word.specs.Split.{lacks, IsCutAt}
use Rattle.l6_word.specs.Lines.{lines_of}

-- the separator is not the first byte, nor after it
pub lacks_cons : (separator first : ℕ) (rest : List ℕ) →
    lacks separator (first ∷ rest) ≡ true → (eqb first separator ≡ false) × (lacks separator rest ≡ true)
lacks_cons separator first rest lacking =
    let parts = and_parts (not (eqb first separator)) (lacks separator rest) lacking in
    (not-true (eqb first separator) parts.0, parts.1)

-- the separator is not in the front of bytes without it
pub lacks_append : (separator : ℕ) (front following : List ℕ) →
    lacks separator (front ++ following) ≡ true → lacks separator front ≡ true
lacks_append separator [] following lacking = refl
lacks_append separator (first ∷ rest) following lacking =
    let parts = lacks_cons separator first (rest ++ following) lacking in
    rw parts.0 (lacks_append separator rest following parts.1)

pub lines_of_front : (front following : List ℕ) →
    lacks (byte "\n") front ≡ true →
    lines_of (front ++ byte "\n" ∷ following) ≡ front ∷ lines_of following
lines_of_front [] following lacking = refl
lines_of_front (first ∷ rest) following lacking =
    let parts = lacks_cons (byte "\n") first rest lacking in
    rw parts.0 (ap (onto_first first) (lines_of_front rest following parts.1))

-- the first line ends at the first line feed
pub lines_of_cut : {text front following : List ℕ} →
    IsCutAt (byte "\n") text front following → lines_of text ≡ front ∷ lines_of following
lines_of_cut {text} {front} {following} cut =
    ap lines_of cut.whole ∙ lines_of_front front following cut.first

lines_of_last : (first : ℕ) (rest : List ℕ) →
    lacks (byte "\n") (first ∷ rest) ≡ true → lines_of (first ∷ rest) ≡ (first ∷ rest) ∷ []
lines_of_last first [] lacking =
    let parts = lacks_cons (byte "\n") first [] lacking in
    rw parts.0 refl
lines_of_last first (second ∷ rest) lacking =
    let parts = lacks_cons (byte "\n") first (second ∷ rest) lacking in
    let others = lines_of_last second rest parts.1 in
    rw parts.0 (ap (onto_first first) others)

-- a text without a line feed is one line, unless it is empty
pub lines_of_lacks : (text : List ℕ) →
    eqb (length text) 0 ≡ false → lacks (byte "\n") text ≡ true → lines_of text ≡ text ∷ []
lines_of_lacks [] some lacking = absurd (cc)
lines_of_lacks (first ∷ rest) some lacking = lines_of_last first rest lacking

-- the separator is none of so many bytes
abbrev pub OthersBefore : ℕ → List ℕ → ℕ → Type 0
OthersBefore separator bytes n = AllWithin (λ b. not (eqb b separator) ≡ true) bytes 0 n

lacks_take : (separator : ℕ) (bytes : List ℕ) (n : ℕ) →
    OthersBefore separator bytes n → lacks separator (take n bytes) ≡ true
lacks_take separator bytes n others =
    list_all-from_AllPass (λ b. not (eqb b separator)) (take n bytes)
    (All-from_get_or (λ b. not (eqb b separator) ≡ true) (take n bytes) 0
    (λ k within.
    let before : k < n = grind (arith, length-take) in
    subst (λ b. not (eqb b separator) ≡ true) (sym (get_or-take n bytes k 0 before))
    (others k 0 (omega arith) before)))

-- bytes are cut at the first separator that is found in them
pub cut_first : (separator : ℕ) (bytes : List ℕ) (found : Option ℕ) →
    MatchOption found (OthersBefore separator bytes (length bytes))
    (λ place. (place < length bytes) × HoldsAt (λ b. b ≡ separator) bytes place
    × OthersBefore separator bytes place) →
    MatchOption found (lacks separator bytes ≡ true)
    (λ place. IsCutAt separator bytes (take place bytes)
    (take (length bytes - (place + 1)) (drop (place + 1) bytes)))
cut_first separator bytes None others =
    subst (λ l. lacks separator l ≡ true) (take_all (length bytes) bytes (omega arith))
    (lacks_take separator bytes (length bytes) others)
cut_first separator bytes (Some place) found = record {
  whole = (let within = found.0 in let is = found.1 0 in grind (arith, common_steps));
  first = lacks_take separator bytes place found.2;
}

-- the separator is not in bytes of which it is in neither part
lacks_both : (separator : ℕ) (front following : List ℕ) →
    lacks separator front ≡ true → lacks separator following ≡ true →
    lacks separator (front ++ following) ≡ true
lacks_both separator front following lacking others =
    list_all-append (λ byte. not (eqb byte separator)) front following
    ∙ rw (lacking, others) refl

-- a front without the separator, and a block without it
pub skip_block : (separator : ℕ) (bytes front rest block following : List ℕ) →
    bytes ≡ front ++ rest → lacks separator front ≡ true →
    rest ≡ block ++ following → lacks separator block ≡ true →
    (longer : List ℕ) × (bytes ≡ longer ++ following) × (lacks separator longer ≡ true)
skip_block separator bytes front rest block following whole lacking parts others = (
  front ++ block,
  whole ∙ ap (λ (r : List ℕ). front ++ r) parts ∙ sym (append_assoc front block following),
  lacks_both separator front block lacking others,
)

-- bytes that are cut behind a front without the separator are cut there
pub cut_behind : (separator : ℕ) (bytes front rest line following : List ℕ) →
    bytes ≡ front ++ rest → lacks separator front ≡ true →
    IsCutAt separator rest line following →
    IsCutAt separator bytes (take (length bytes - length following - 1) bytes) following
cut_behind separator bytes front rest line following whole lacking cut =
    let parts : bytes ≡ (front ++ line) ++ separator ∷ following
    = whole ∙ ap (λ (r : List ℕ). front ++ r) cut.whole
    ∙ sym (append_assoc front line (separator ∷ following)) in
    let place : length bytes - length following - 1 ≡ length (front ++ line)
    = omega (arith, ap length parts, length-append (front ++ line) (separator ∷ following)) in
    let taken : take (length bytes - length following - 1) bytes ≡ front ++ line
    = ap (λ (n : ℕ). take n bytes) place ∙ ap (take (length (front ++ line))) parts
    ∙ take-append_seam (front ++ line) (separator ∷ following) in
    record {
      whole = parts ∙ ap (λ (f : List ℕ). f ++ separator ∷ following) (sym taken);
      first = ap (lacks separator) taken ∙ lacks_both separator front line lacking cut.first;
    }
