-- What is spelled once is spelled so again, and condition words are exits.
use Rattle.std.proofs.Common.{◌≡◌, ℕ, List, [], ◌∷◌, Bool, true, false, cond, eqb, Option, Some, None, refl, sym, ap, ◌∙◌, arith, codes, filter, map}
use Rattle.std.specs.Prelude.{not, ◌&&◌}
use Rattle.std.specs.List.{list_all}
use Rattle.std.specs.Option.{is_some}
use Rattle.std.specs.Str.{byte, bytes_eq}
use Rattle.std.proofs.lemmas.Bool.{and_parts, eqb-true}
use Rattle.std.proofs.lemmas.Grind.{common_steps}
use Rattle.std.proofs.lemmas.Slice.Eq.{bytes_eq-Decides}
use Rattle.l6_word.specs.Code.{character_of}
use Rattle.l6_prog.specs.declared.condition.Cond.{Cond}
use Rattle.l6_group.specs.Character.{is_blank, spelled}
use Rattle.l6_group.specs.Spelling.{Line, find_spelled}
use Rattle.l6_group.specs.Word.{conditions, condition_from, exit_from, after_then}

-- a character is read as itself, and is no blank
record Again (given : ℕ) : Type 0 where
  solid : is_blank (character_of given) ≡ false
  same : character_of (character_of given) ≡ character_of given

again : (given : ℕ) → is_blank given ≡ false → Again given
again given solid = record {
  solid = grind (arith, common_steps);
  same = grind (arith, common_steps);
}

-- what is spelled once is spelled so again
spelled_step : (given : ℕ) (columns : List ℕ) (blank : Bool) → is_blank given ≡ blank →
    spelled (spelled columns) ≡ spelled columns →
    let front : List ℕ =
    map character_of (cond (not blank) (given ∷ filter (λ c. not (is_blank c)) columns)
    (filter (λ c. not (is_blank c)) columns)) in
    spelled front ≡ front
spelled_step given columns true is_so later = later
spelled_step given columns false is_so later =
    let a = again given is_so in
    rw (a.solid, a.same) (ap (λ cs. character_of given ∷ cs) later)

pub spelled_again : (columns : List ℕ) → spelled (spelled columns) ≡ spelled columns
spelled_again [] = refl
spelled_again (given ∷ columns) =
    spelled_step given columns (is_blank given) refl (spelled_again columns)

-- a word that begins with THEN
record Chosen (begins : Bool) (rest following : List ℕ) : Type 0 where
  is_then : begins ≡ true
  same : rest ≡ following

then_chosen : (is_then : Bool) (rest following : List ℕ) →
    ◌≡◌ {A = Option (List ℕ)} (cond is_then (Some rest) None) (Some following) →
    Chosen is_then rest following
then_chosen true rest following found = record { is_then = refl; same = cc }
then_chosen false rest following found = absurd (cc)

-- what follows THEN in something spelled is spelled so again
following_then_in : (characters : List ℕ) (following : List ℕ) → spelled characters ≡ characters →
    after_then characters ≡ Some following → spelled following ≡ following
following_then_in [] following same found = absurd (cc)
following_then_in (t ∷ []) following same found = absurd (cc)
following_then_in (t ∷ h ∷ []) following same found = absurd (cc)
following_then_in (t ∷ h ∷ e ∷ []) following same found = absurd (cc)
following_then_in (t ∷ h ∷ e ∷ n ∷ rest) following same found =
    let first = eqb t (byte "T") in
    let second = eqb h (byte "H") in
    let third = eqb e (byte "E") in
    let fourth = eqb n (byte "N") in
    let chosen = then_chosen (((first && second) && third) && fourth) rest following found in
    let three = and_parts ((first && second) && third) fourth chosen.is_then in
    let two = and_parts (first && second) third three.0 in
    let one = and_parts first second two.0 in
    let front : t ∷ h ∷ e ∷ n ∷ rest ≡ byte "T" ∷ byte "H" ∷ byte "E" ∷ byte "N" ∷ following =
    cc (
      eqb-true t (byte "T") one.0,
      eqb-true h (byte "H") one.1,
      eqb-true e (byte "E") two.1,
      eqb-true n (byte "N") three.1,
      chosen.same,
    ) in
    let whole : byte "T" ∷ byte "H" ∷ byte "E" ∷ byte "N" ∷ spelled following
    ≡ byte "T" ∷ byte "H" ∷ byte "E" ∷ byte "N" ∷ following =
    sym (ap spelled front) ∙ same ∙ front in
    cc (whole)

pub following_then_spelled : (columns following : List ℕ) →
    after_then (spelled columns) ≡ Some following →
    spelled following ≡ following
following_then_spelled columns following found =
    following_then_in (spelled columns) following (spelled_again columns) found

-- what a table has a line for passes a test that each of its lines passes
found_line : (passes : List ℕ → Bool) (line : Line Cond) (others : Option Cond)
    (characters : List ℕ) (c : Cond) (here : Bool) →
    bytes_eq (codes line.spelling) characters ≡ here →
    passes (codes line.spelling) ≡ true →
    (others ≡ Some c → passes characters ≡ true) →
    cond here (Some line.meaning) others ≡ Some c → passes characters ≡ true
found_line passes line others characters c true is_here pass later found =
    let same = (bytes_eq-Decides (codes line.spelling) characters).0 is_here in
    ap passes (sym same) ∙ pass
found_line passes line others characters c false is_here pass later found = later found

found_passes : (passes : List ℕ → Bool) (lines : List (Line Cond)) (characters : List ℕ)
    (c : Cond) →
    list_all (λ (line : Line Cond). passes (codes line.spelling)) lines ≡ true →
    find_spelled lines characters ≡ Some c → passes characters ≡ true
found_passes passes [] characters c each found = absurd (cc)
found_passes passes (line ∷ lines) characters c each found =
    let parts = and_parts (passes (codes line.spelling))
    (list_all (λ (l : Line Cond). passes (codes l.spelling)) lines) each in
    found_line passes line (find_spelled lines characters) characters c
    (bytes_eq (codes line.spelling) characters) refl parts.0
    (found_passes passes lines characters c parts.1) found

-- a condition word is an exit too
pub condition_is_exit : (characters : List ℕ) (c : Cond) →
    condition_from characters ≡ Some c → is_some (exit_from characters) ≡ true
condition_is_exit characters c found =
    found_passes (λ cs. is_some (exit_from cs)) conditions characters c refl found
