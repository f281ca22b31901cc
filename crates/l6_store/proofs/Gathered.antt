-- The blocks that tags and words tell.
use Rattle.std.proofs.Common.{◌≡◌, ◌≢◌, ℕ, zero, suc, ◌+◌, ◌^◌, ◌<◌, ◌≤◌, List, length, slice_range, true, false, cond, nat_eq, Option, Some, None, refl, ap, sym, ◌∙◌, arith, inl, inr, eq-eqb}
use Rattle.std.proofs.lemmas.Bool.{cases_lt}
use Rattle.std.proofs.lemmas.Bool.Decides.{eqb_tells}
use Rattle.std.proofs.lemmas.List.{get_or_past}
use Rattle.std.specs.Ordering.{nat_cmp, eq_by_cmp}
use Rattle.std.specs.Cmp.{nat_cmp_total, unsigned_tied}
use Rattle.std.specs.FinMap as map
use Rattle.l6_store.specs.Blocks.{Blocks}
use Rattle.l6_store.specs.inner.Tags.{tag_at, tagged, with, gathered}
use Rattle.l6_store.specs.declared.tag.Tag.{Tag}
use Rattle.l6_store.specs.declared.tag.Tag.TheVariants.{Free, First, Inside}

-- only equal places tie
pub tie_same : (q : ℕ) → eq_by_cmp nat_cmp q q ≡ true
tie_same q = unsigned_tied q q ∙ eq-eqb q q refl

pub tie_other : (q place : ℕ) → q ≢ place → eq_by_cmp nat_cmp q place ≡ false
tie_other q place other =
    unsigned_tied q place
    ∙ elim (eqb_tells q place)
    as (λ _. nat_eq q place ≡ false)
    [ inl same ↦ absurd (other same.1) | inr differs ↦ differs.0 ]

pub get_insert_same : (blocks : Blocks) (place : ℕ) (words : List ℕ)
    → map.get (map.insert blocks place words) place ≡ Some words
get_insert_same blocks place words =
    map.get-insert nat_cmp_total blocks place words place
    ∙ ap (λ b. cond b (Some words) (map.get blocks place)) (tie_same place)

pub get_insert_other : (blocks : Blocks) (place : ℕ) (words : List ℕ) (q : ℕ) → q ≢ place
    → map.get (map.insert blocks place words) q ≡ map.get blocks q
get_insert_other blocks place words q other =
    map.get-insert nat_cmp_total blocks place words q
    ∙ ap (λ b. cond b (Some words) (map.get blocks q)) (tie_other q place other)

pub get_remove_same : (blocks : Blocks) (place : ℕ) → map.get (map.remove blocks place) place ≡ None
get_remove_same blocks place =
    map.get-remove nat_cmp_total blocks place place
    ∙ ap (λ b. cond b None (map.get blocks place)) (tie_same place)

pub get_remove_other : (blocks : Blocks) (place q : ℕ) → q ≢ place
    → map.get (map.remove blocks place) q ≡ map.get blocks q
get_remove_other blocks place q other =
    map.get-remove nat_cmp_total blocks place q
    ∙ ap (λ b. cond b None (map.get blocks q)) (tie_other q place other)

with_same : (place : ℕ) (found : Option (List ℕ)) (blocks : Blocks) → map.get blocks place ≡ None
    → map.get (with place found blocks) place ≡ found
with_same place None blocks none = none
with_same place (Some words) blocks none = get_insert_same blocks place words

with_other : (place q : ℕ) (found : Option (List ℕ)) (blocks : Blocks) → q ≢ place
    → map.get (with place found blocks) q ≡ map.get blocks q
with_other place q None blocks other = refl
with_other place q (Some words) blocks other = get_insert_other blocks place words q other

get_gathered_past : (tags : List Tag) (words : List ℕ) (bound q : ℕ) → bound ≤ q
    → map.get (gathered tags words bound) q ≡ None
unfolding gathered
get_gathered_past tags words zero q past = map.get-empty nat_cmp q
get_gathered_past tags words (suc bound) q past =
    with_other bound q (tagged words bound (tag_at tags bound)) (gathered tags words bound)
    (λ same. absurd (omega arith))
    ∙ get_gathered_past tags words bound q (omega arith)

get_gathered_below : (tags : List Tag) (words : List ℕ) (bound q : ℕ) → q < bound
    → map.get (gathered tags words bound) q ≡ tagged words q (tag_at tags q)
unfolding gathered
get_gathered_below tags words zero q below = absurd (omega arith)
get_gathered_below tags words (suc bound) q below =
    elim (cases_lt q bound)
    as (λ _. map.get
    (with bound (tagged words bound (tag_at tags bound)) (gathered tags words bound)) q
    ≡ tagged words q (tag_at tags q)) [
      | inl less ↦
          with_other bound q (tagged words bound (tag_at tags bound)) (gathered tags words bound)
          (λ same. absurd (omega arith))
          ∙ get_gathered_below tags words bound q less
      | inr not_less ↦
          let same : q ≡ bound = omega arith in
          ap (map.get (with bound (tagged words bound (tag_at tags bound))
          (gathered tags words bound))) same
          ∙ with_same bound (tagged words bound (tag_at tags bound)) (gathered tags words bound)
          (get_gathered_past tags words bound bound (omega arith))
          ∙ ap (λ (p : ℕ). tagged words p (tag_at tags p)) (sym same)
    ]

-- the block that begins at a place is the one that its tag gives
pub get_gathered : (tags : List Tag) (words : List ℕ) (q : ℕ)
    → map.get (gathered tags words (length tags)) q ≡ tagged words q (tag_at tags q)
get_gathered tags words q =
    elim (cases_lt q (length tags))
    as (λ _. map.get (gathered tags words (length tags)) q ≡ tagged words q (tag_at tags q)) [
      | inl less ↦ get_gathered_below tags words (length tags) q less
      | inr past ↦ get_gathered_past tags words (length tags) q past
          ∙ sym (ap (tagged words q) (get_or_past tags q Free past))
    ]

-- the blocks are those that answer alike
pub gathered_is : (tags : List Tag) (words : List ℕ) (blocks : Blocks)
    → ((q : ℕ) → tagged words q (tag_at tags q) ≡ map.get blocks q)
    → gathered tags words (length tags) ≡ blocks
gathered_is tags words blocks each =
    map.same_map nat_cmp_total map.nat_cmp-IsAntisymmetric (gathered tags words (length tags))
    blocks (λ q. get_gathered tags words q ∙ each q)

-- where a block that is found comes from
pub record Told (tags : List Tag) (words : List ℕ) (q : ℕ) (block : List ℕ) : Type 0 where
  pub level : ℕ
  pub tag : tag_at tags q ≡ First level
  pub is : block ≡ slice_range words q (q + 2 ^ level)

known_by : (tags : List Tag) (words : List ℕ) (q : ℕ) (block : List ℕ) (tag : Tag)
    → tag_at tags q ≡ tag → tagged words q tag ≡ Some block → Told tags words q block
known_by tags words q block (First level) is determined =
    record {
      level = level;
      tag = is;
      is = (let same : Some (slice_range words q (q + 2 ^ level)) ≡ Some block = determined in cc);
    }
known_by tags words q block Free is determined = cc
known_by tags words q block Inside is determined = cc

pub determined : (tags : List Tag) (words : List ℕ) (q : ℕ) (block : List ℕ)
    → map.get (gathered tags words (length tags)) q ≡ Some block → Told tags words q block
determined tags words q block is =
    known_by tags words q block (tag_at tags q) refl (sym (get_gathered tags words q) ∙ is)

-- and the other way round
pub determines : (tags : List Tag) (words : List ℕ) (q level : ℕ) → tag_at tags q ≡ First level
    → map.get (gathered tags words (length tags)) q ≡ Some (slice_range words q (q + 2 ^ level))
determines tags words q level tag = get_gathered tags words q ∙ ap (tagged words q) tag
