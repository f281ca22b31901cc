use Rattle.std.proofs.Common.{◌≡◌, ℕ, ◌*◌, ◌%◌, ◌^◌, List, replicate, set, arith, ap, sym, ◌∙◌, subst, Option, Some}
use Rattle.std.proofs.lemmas.List.{with_items_is}
use Rattle.std.proofs.lemmas.Nat.{one_shl}
use Rattle.std.specs.Vec.{with_items}
use Rattle.std.specs.FinMap as finite
use Rattle.l6_store.specs.Open.{IsAnswer}
use Rattle.l6_store.specs.Scan.{scan_rule}
use Rattle.l6_store.specs.Store.{Store, IsSound, picked, after_get}
use Rattle.l6_store.specs.inner.Tags.{store_of, IsKept}
use Rattle.l6_store.specs.inner.PlaceTags.{AreSizes, IsTagged, IsCleared, IsFull, IsLowest}
use Rattle.l6_store.specs.declared.tag.Tag.{Tag}
use Rattle.l6_store.proofs.Gathered.{get_insert_same}
use Rattle.l6_store.proofs.Runs.{raised_full}
use Rattle.l6_store.proofs.Kept.{sound_of}
use Rattle.l6_store.proofs.Sizes.{got_sizes}
use Rattle.l6_store.proofs.Kept.{picked_of_lowest, answer_of_lowest}
use Rattle.l6_store.proofs.Calls.{got_kept, got_store}
use Rattle.l6_store.proofs.scan_store.ScanStorePlaces.get.Goals as goal

-- what the scan found, in the store's own tags
lowest_none : (c : goal.After-from_residual)
    → IsLowest c.self.inside.tags.items (2 ^ c.args.level) c.lowest_open.result
lowest_none c =
    subst (λ (tags : List Tag). IsLowest tags (2 ^ c.args.level) c.lowest_open.result)
    c.deref.ensures.value c.lowest_open.ensures

pub returns-in_err-place-clause-pick : goal.returns-in_err-place-clause-pick
returns-in_err-place-clause-pick c =
    c.from_residual.ensures ∙ sym c.in_err-place.was
    ∙ picked_of_lowest c.self.inside.units c.self.inside.tags.items c.self.inside.words.items
    c.self.invariant.kept c.args.level c.lowest_open.result (lowest_none c)
    ∙ ap (λ (s : Store). picked scan_rule s c.args.level) c.self.view_is

pub returns-in_err-place-clause-fits : goal.returns-in_err-place-clause-fits
returns-in_err-place-clause-fits c =
    subst (λ (answer : Option ℕ). IsAnswer c.args.self.now.units c.args.self.now.blocks
    (2 ^ c.args.level) answer) (c.in_err-place.was ∙ sym c.from_residual.ensures)
    (subst (λ (s : Store). IsAnswer s.units s.blocks (2 ^ c.args.level) c.lowest_open.result)
    c.self.view_is
    (answer_of_lowest c.self.inside.units c.self.inside.tags.items c.self.inside.words.items
    c.self.invariant.kept c.args.level c.lowest_open.result
    c.requires (lowest_none c)))

pub returns-in_err-place-clause-sound : goal.returns-in_err-place-clause-sound
returns-in_err-place-clause-sound c =
    subst (λ (s : Store). IsSound scan_rule s) c.self.view_is
    (sound_of c.self.inside.units c.self.inside.tags.items c.self.inside.words.items
    c.self.invariant.kept)

lowest : (c : goal.After-self-4-1)
    → IsLowest c.self.inside.tags.items (2 ^ c.args.level) (Some c.in_ok-place.place)
lowest c =
    subst (λ (answer : Option ℕ). IsLowest c.self.inside.tags.items (2 ^ c.args.level) answer)
    c.in_ok-place.was
    (subst (λ (tags : List Tag). IsLowest tags (2 ^ c.args.level) c.lowest_open.result)
    c.deref.ensures.value c.lowest_open.ensures)

with_tag : (c : goal.After-self-4-1)
    → IsTagged c.self.inside.tags.items c.place_tag.new.tags c.in_ok-place.place c.args.level
with_tag c =
    subst (λ (old : List Tag). IsTagged old c.place_tag.new.tags c.in_ok-place.place c.args.level)
    c.deref_mut.ensures.value c.place_tag.ensures

cleared : (c : goal.After-self-4-1)
    → IsCleared c.self.inside.words.items c.clear.new.words c.in_ok-place.place (2 ^ c.args.level)
cleared c =
    subst (λ (size : ℕ). IsCleared c.self.inside.words.items c.clear.new.words c.in_ok-place.place
    size) c.size_of.ensures
    (subst (λ (old : List ℕ). IsCleared old c.clear.new.words c.in_ok-place.place c.size_of.result)
    c.deref_mut-2.ensures.value c.clear.ensures)

tags_are : (c : goal.After-self-4-1)
    → (with_items c.self.inside.tags c.place_tag.new.tags).items ≡ c.place_tag.new.tags
tags_are c =
    with_items_is c.self.inside.tags c.place_tag.new.tags
    ((with_tag c).count ∙ sym c.self.inside.tags.ok.0)

words_are : (c : goal.After-self-4-1)
    → (with_items c.self.inside.words c.clear.new.words).items ≡ c.clear.new.words
words_are c =
    with_items_is c.self.inside.words c.clear.new.words
    ((cleared c).count ∙ sym c.self.inside.words.ok.0)

kept : (c : goal.After-self-4-1)
    → IsKept c.self.inside.units (with_items c.self.inside.tags c.place_tag.new.tags).items
    (with_items c.self.inside.words c.clear.new.words).items
kept c =
    subst (λ (ts : List Tag). IsKept c.self.inside.units ts
    (with_items c.self.inside.words c.clear.new.words).items) (sym (tags_are c))
    (subst (λ (ws : List ℕ). IsKept c.self.inside.units c.place_tag.new.tags ws) (sym (words_are c))
    (got_kept c.self.inside.units c.self.inside.tags.items c.place_tag.new.tags
    c.self.inside.words.items
    c.clear.new.words c.self.invariant.kept
    c.in_ok-place.place c.args.level c.requires (lowest c).0 (with_tag c) (cleared c)))

pub invariant_of-self : goal.invariant_of-self
invariant_of-self c = record {
  kept = kept c;
  sized = subst (λ (ts : List Tag). AreSizes ts
      (set c.self.inside.sizes.items c.in_ok-place.place (1 * 2 ^ c.args.level % 2 ^ 16)))
      (sym (tags_are c))
      (got_sizes c.self.inside.tags.items c.place_tag.new.tags c.self.inside.sizes.items
      c.in_ok-place.place c.args.level c.self.invariant.sized (lowest c).0 (with_tag c)
      (1 * 2 ^ c.args.level % 2 ^ 16)
      (one_shl c.args.level 16 (omega (arith, c.requires))));
  full = subst (λ (ts : List Tag). IsFull ts c.raised-self-inside.result) (sym (tags_are c))
      (raised_full c.self.inside.tags.items c.place_tag.new.tags c.self.inside.low c.in_ok-place.place
      c.args.level c.raised-self-inside.result
      c.self.invariant.full (lowest c) (with_tag c) c.raised-self-inside.ensures);
}

pub returns-clause-pick : goal.returns-clause-pick
returns-clause-pick c =
    picked_of_lowest c.self.inside.units c.self.inside.tags.items c.self.inside.words.items
    c.self.invariant.kept c.args.level (Some c.in_ok-place.place) (lowest c)
    ∙ ap (λ (s : Store). picked scan_rule s c.args.level) c.self.view_is

pub returns-clause-fits : goal.returns-clause-fits
returns-clause-fits c =
    subst (λ (s : Store). IsAnswer s.units s.blocks (2 ^ c.args.level) (Some c.in_ok-place.place))
    c.self.view_is
    (answer_of_lowest c.self.inside.units c.self.inside.tags.items c.self.inside.words.items
    c.self.invariant.kept c.args.level (Some c.in_ok-place.place)
    c.requires (lowest c))

pub returns-clause-after : goal.returns-clause-after
returns-clause-after c =
    ap (λ (ts : List Tag). store_of c.self.inside.units ts
    (with_items c.self.inside.words c.clear.new.words).items) (tags_are c)
    ∙ ap (λ (ws : List ℕ). store_of c.self.inside.units c.place_tag.new.tags ws) (words_are c)
    ∙ got_store c.self.inside.units c.self.inside.tags.items c.place_tag.new.tags
    c.self.inside.words.items c.clear.new.words c.self.invariant.kept
    c.in_ok-place.place c.args.level (lowest c).0 (with_tag c) (cleared c)
    ∙ ap (λ (s : Store). after_get scan_rule s c.args.level (Some c.in_ok-place.place))
    c.self.view_is

pub returns-clause-block : goal.returns-clause-block
returns-clause-block c =
    ap (λ (s : Store). finite.get s.blocks c.in_ok-place.place) (returns-clause-after c)
    ∙ get_insert_same _ c.in_ok-place.place (replicate (2 ^ c.args.level) 0)

pub returns-clause-sound : goal.returns-clause-sound
returns-clause-sound c =
    sound_of c.self.inside.units (with_items c.self.inside.tags c.place_tag.new.tags).items
    (with_items c.self.inside.words c.clear.new.words).items
    (kept c)
