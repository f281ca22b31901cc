-- Maps of blocks.
use Rattle.std.proofs.Common.{◌≡◌, ℕ, List, ap, sym, ◌∙◌, inl, inr}
use Rattle.std.proofs.lemmas.Bool.{cases_eq}
use Rattle.std.specs.Cmp.{nat_cmp_total}
use Rattle.std.specs.FinMap as map
use Rattle.l6_store.specs.Blocks.{Blocks}
use Rattle.l6_store.proofs.Gathered.{get_insert_same, get_insert_other}

-- what is inserted last stays
pub insert_twice : (blocks : Blocks) (place : ℕ) (first second : List ℕ) →
    map.insert (map.insert blocks place first) place second ≡ map.insert blocks place second
insert_twice blocks place first second =
    let one = map.insert blocks place first in
    map.same_map nat_cmp_total map.nat_cmp-IsAntisymmetric (map.insert one place second)
    (map.insert blocks place second)
    (λ q.
    elim (cases_eq q place)
    as (λ _. map.get (map.insert one place second) q ≡ map.get (map.insert blocks place second) q) [
      | inl same ↦
          ap (map.get (map.insert one place second)) same
          ∙ get_insert_same one place second
          ∙ sym (ap (map.get (map.insert blocks place second)) same
          ∙ get_insert_same blocks place second)
      | inr other ↦
          get_insert_other one place second q other
          ∙ get_insert_other blocks place first q other
          ∙ sym (get_insert_other blocks place second q other)
    ])
