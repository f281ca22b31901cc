use Rattle.l6_places.specs.inner.View.{board_of}
use Rattle.l6_places.proofs.Changes.{releases}
use Rattle.l6_places.proofs.Values.{most}
use Rattle.l6_places.proofs.tree.Tree.release.Goals as goal

pub node_at-node-requires-clause-level : goal.node_at-node-requires-clause-level
node_at-node-requires-clause-level c =
    (c.requires.told.fits.each c.args.place c.args.level c.requires.begins).small

pub merge-requires-clause-merges : goal.merge-requires-clause-merges
merge-requires-clause-merges c =
    let b = board_of c.args.self.now in
    let tree = c.args.self.now.nodes.items in
    record {
      settles = releases b tree c.args.level c.args.place c.node_at-node.result c.requires.told c.requires.begins
          c.node_at-node.ensures;
      small = most b tree c.requires.told;
    }
