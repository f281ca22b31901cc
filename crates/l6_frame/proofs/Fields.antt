-- Lines of a head, cut at their colon.
use Rattle.std.proofs.Common.{◌≡◌, ℕ, ◌≤◌, ◌<◌, ◌+◌, ◌-◌, ◌*◌, List, [], ◌∷◌, ◌++◌, length, true, false, eqb, refl, sym, ap, ◌∙◌, subst, arith, Option, Some, None}
use Rattle.std.specs.Str.{byte}
use Rattle.l6_word.specs.Split.{lacks, IsCutAt}
use Rattle.l6_word.proofs.Cuts.{lacks_cons}
use Rattle.std.specs.Prelude.{map, codes}
use Rattle.std.specs.Char.{to_ascii_lowercase}
use Rattle.l6_word.specs.Lines.{without_return}
use Rattle.l6_frame.specs.Frame.{name_of, value_of, after_blanks, number_after, length_of, IsNamed, IsOther, GivesLength}
use Rattle.std.proofs.lemmas.Bool.Decides.{nat_tests}
use Rattle.l6_frame.specs.Numerals.{most_body}
use Rattle.l6_frame.specs.Read.{IsField}
use Rattle.l6_frame.specs.declared.field.Field.TheVariants.{Malformed}

name_of_front : (front following : List ℕ) →
    lacks (byte ":") front ≡ true → name_of (front ++ byte ":" ∷ following) ≡ front
name_of_front [] following lacking = refl
name_of_front (first ∷ rest) following lacking =
    let parts = lacks_cons (byte ":") first rest lacking in
    rw parts.0 (ap (λ (it : List ℕ). first ∷ it) (name_of_front rest following parts.1))

value_of_front : (front following : List ℕ) →
    lacks (byte ":") front ≡ true →
    value_of (front ++ byte ":" ∷ following) ≡ after_blanks following
value_of_front [] following lacking = refl
value_of_front (first ∷ rest) following lacking =
    let parts = lacks_cons (byte ":") first rest lacking in
    rw parts.0 (value_of_front rest following parts.1)

lacks_front : (front following : List ℕ) →
    lacks (byte ":") front ≡ true → lacks (byte ":") (front ++ byte ":" ∷ following) ≡ false
lacks_front [] following lacking = refl
lacks_front (first ∷ rest) following lacking =
    let parts = lacks_cons (byte ":") first rest lacking in
    rw parts.0 (lacks_front rest following parts.1)

-- a line that is cut at its first colon has that name, and that value
pub name_of_cut : {line name value : List ℕ} → IsCutAt (byte ":") line name value → name_of line ≡ name
name_of_cut {line} {name} {value} cut = ap name_of cut.whole ∙ name_of_front name value cut.first

pub value_of_cut : {line name value : List ℕ} →
    IsCutAt (byte ":") line name value → value_of line ≡ after_blanks value
value_of_cut {line} {name} {value} cut = ap value_of cut.whole ∙ value_of_front name value cut.first

pub colon_of_cut : {line name value : List ℕ} →
    IsCutAt (byte ":") line name value → lacks (byte ":") line ≡ false
colon_of_cut {line} {name} {value} cut =
    ap (lacks (byte ":")) cut.whole ∙ lacks_front name value cut.first

-- a number does not become smaller by digits after it
pub number_after_grows : (number : ℕ) (digits : List ℕ) → number ≤ number_after number digits
number_after_grows number [] = omega arith
number_after_grows number (digit ∷ digits) =
    let more = number_after_grows (number * 10 + (digit - byte "0")) digits in
    omega arith

-- ---- what a line is, that is cut at its colon

-- it is another field
pub other_field : (line : List ℕ) {name value : List ℕ} →
    IsCutAt (byte ":") (without_return line) name value →
    (map to_ascii_lowercase name ≡ map to_ascii_lowercase (codes "Content-Length") → ⊥) →
    IsOther line
other_field line cut other = (
  colon_of_cut cut,
  λ named. other (ap (map to_ascii_lowercase) (sym (name_of_cut cut)) ∙ named.1),
)

named_so : (line : List ℕ) {name value : List ℕ} → IsCutAt (byte ":") (without_return line) name value →
    map to_ascii_lowercase name ≡ map to_ascii_lowercase (codes "Content-Length") →
    IsNamed (without_return line) (codes "Content-Length")
named_so line cut named =
    (colon_of_cut cut, ap (map to_ascii_lowercase) (name_of_cut cut) ∙ named)

-- it gives this length
pub given_length : (line : List ℕ) {name value : List ℕ} (size : ℕ) →
    IsCutAt (byte ":") (without_return line) name value →
    map to_ascii_lowercase name ≡ map to_ascii_lowercase (codes "Content-Length") →
    length_of (after_blanks value) ≡ Some size → GivesLength line size
given_length line size cut named is = (named_so line cut named, ap length_of (value_of_cut cut) ∙ is)

-- it gives no length
pub wrong_length : (line : List ℕ) {name value : List ℕ} →
    IsCutAt (byte ":") (without_return line) name value →
    map to_ascii_lowercase name ≡ map to_ascii_lowercase (codes "Content-Length") →
    length_of (after_blanks value) ≡ None → IsField line Malformed
wrong_length line cut named none = (
  λ other. other.1 (named_so line cut named),
  λ size given.
      let is : None ≡ Some size = sym none ∙ ap length_of (sym (value_of_cut cut)) ∙ given.1 in
      absurd (cc),
)

-- a number that is too large is no length
pub too_large : (digits : List ℕ) → most_body < number_after 0 digits → None ≡ length_of digits
too_large digits large = grind (arith, nat_tests, large)
