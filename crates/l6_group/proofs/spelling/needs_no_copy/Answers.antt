use Rattle.std.proofs.Common.{◌≡◌, ℕ, List, [], ◌∷◌, Bool, true, eqb, refl, sym, ap, ◌∙◌, rules, tests}
use Rattle.std.specs.Prelude.{not, ◌&&◌}
use Rattle.std.specs.List.{list_all}
use Rattle.std.proofs.lemmas.Bool.{and_parts, eqb-true, not-true}
use Rattle.std.proofs.lemmas.Iterator.{YieldsList-from_slice}
use Rattle.std.proofs.lemmas.Iterator.Search.{all_from_yields_List}
use Rattle.l6_word.specs.Code.{character_of}
use Rattle.l6_group.specs.Character.{is_blank, spelled}
use Rattle.l6_group.proofs.spelling.needs_no_copy.Goals as goal

-- a byte that is spelled as it is
abbrev is_plain : ℕ → Bool
is_plain byte = not (is_blank byte) && eqb (character_of byte) byte

-- an element of such bytes, too
spelled_plain : (element : List ℕ) → list_all is_plain element ≡ true → spelled element ≡ element
spelled_plain [] plain = refl
spelled_plain (first ∷ rest) plain =
    let parts = and_parts (is_plain first) (list_all is_plain rest) plain in
    let here = and_parts (not (is_blank first)) (eqb (character_of first) first) parts.0 in
    let same = eqb-true (character_of first) first here.1 in
    let others = spelled_plain rest parts.1 in
    rw (not-true (is_blank first) here.0) (ap (λ c. c ∷ spelled rest) same ∙ ap (λ l. first ∷ l) others)

pub returns : goal.returns
returns c =
    let tested = all_from_yields_List is_plain _ _ c.all.result c.all.ensures.ran
    (YieldsList-from_slice c.args.element.now cc) (λ x b q k. search (rules, tests)) in
    λ is. spelled_plain c.args.element.now (sym tested ∙ is)
