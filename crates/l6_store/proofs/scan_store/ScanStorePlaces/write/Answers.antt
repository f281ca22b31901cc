use Rattle.std.proofs.Common.{◌≡◌, ℕ, ap, sym, ◌∙◌, subst, arith, set}
use Rattle.l6_store.specs.Blocks.{LiesIn, index_in}
use Rattle.l6_store.specs.Store.{Store, with_block}
use Rattle.l6_store.specs.inner.Tags.{store_of}
use Rattle.l6_store.proofs.Kept.{sound_of}
use Rattle.l6_store.proofs.Calls.{found_within, written_kept, written_store}
use Rattle.l6_store.proofs.scan_store.ScanStorePlaces.write.Goals as goal

pub index_mut-requires : goal.index_mut-requires
index_mut-requires c =
    let found : LiesIn _ c.args.place
    = subst (λ (s : Store). LiesIn s.blocks c.args.place) (sym c.self.view_is) c.requires in
    omega (
      arith,
      c.self.inside.words.ok.0,
      found_within c.self.inside.units c.self.inside.tags.items c.self.inside.words.items
          c.self.invariant.kept c.args.place found,
    )

pub returns-clause-after : goal.returns-clause-after
returns-clause-after c =
    let value = c.get.ensures.value in
    subst
    (λ (s : Store). (found : LiesIn s.blocks c.args.place)
    → store_of c.self.inside.units c.self.inside.tags.items
    (set c.self.inside.words.items c.args.place c.get.result)
    ≡ with_block s found.start (set found.words (index_in c.args.place found) c.args.word))
    c.self.view_is
    (λ found.
    ap (λ (w : ℕ). store_of c.self.inside.units c.self.inside.tags.items
    (set c.self.inside.words.items c.args.place w)) value
    ∙ written_store c.self.inside.units c.self.inside.tags.items c.self.inside.words.items
    c.self.invariant.kept c.args.place c.args.word found)

pub returns-clause-sound : goal.returns-clause-sound
returns-clause-sound c =
    sound_of c.self.inside.units c.self.inside.tags.items
    (set c.self.inside.words.items c.args.place c.get.result)
    (written_kept c.self.inside.units c.self.inside.tags.items c.self.inside.words.items
    c.self.invariant.kept c.args.place c.get.result c.get.ensures.range)
