use Rattle.std.proofs.Common.{◌≡◌, sym, ◌∙◌, subst, arith}
use Rattle.l6_store.specs.Blocks.{LiesIn, word_at}
use Rattle.l6_store.specs.Store.{Store}
use Rattle.l6_store.proofs.Calls.{found_within, read_fits, read_word}
use Rattle.l6_store.proofs.scan_store.ScanStorePlaces.read.Goals as goal

pub index-requires : goal.index-requires
index-requires c =
    let found : LiesIn _ c.args.place
    = subst (λ (s : Store). LiesIn s.blocks c.args.place) (sym c.self.view_is) c.requires in
    omega (
      arith,
      c.self.inside.words.ok.0,
      found_within c.self.inside.units c.self.inside.tags.items c.self.inside.words.items
          c.self.invariant.kept c.args.place found,
    )

-- each word of the store is one
pub from_value-requires : goal.from_value-requires
from_value-requires c =
    read_fits c.self.inside.units c.self.inside.tags.items c.self.inside.words.items
    c.self.invariant.kept c.args.place c.index.result.now c.index.ensures
    (subst (λ (s : Store). LiesIn s.blocks c.args.place) (sym c.self.view_is) c.requires)

pub returns : goal.returns
returns c =
    subst (λ (s : Store). (found : LiesIn s.blocks c.args.place) →
    c.from_value.result ≡ word_at c.args.place found) c.self.view_is
    (λ found.
    c.from_value.ensures
    ∙ read_word c.self.inside.units c.self.inside.tags.items c.self.inside.words.items
    c.self.invariant.kept c.args.place c.index.result.now
    c.index.ensures found)
