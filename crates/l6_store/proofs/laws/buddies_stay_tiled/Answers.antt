use Rattle.l6_store.proofs.First.{new_tiled}
use Rattle.l6_store.proofs.Live.{live_words}
use Rattle.l6_store.proofs.Steps.{freed_tiles}
use Rattle.l6_store.specs.Blocks.{block_at}
use Rattle.l6_store.proofs.Stores.{got_tiled}
use Rattle.l6_store.proofs.laws.buddies_stay_tiled.Goals as goal

pub returns-clause-first : goal.returns-clause-first
returns-clause-first c = new_tiled

pub returns-clause-got : goal.returns-clause-got
returns-clause-got c = got_tiled

pub returns-clause-freed : goal.returns-clause-freed
returns-clause-freed c = λ store place fits tiles live.
    freed_tiles store.units store.blocks store.order place (block_at store.blocks place) fits tiles
    (live_words store.blocks place live)
