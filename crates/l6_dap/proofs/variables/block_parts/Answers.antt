use Rattle.std.proofs.Common.{◌≡◌, [], ◌∷◌, ◌++◌, codes, decimal, Some, None, ◌∙◌, rules}
use Rattle.std.specs.Prelude.{slice_get}
use Rattle.l6_store.specs.Blocks.{block_at}
use Rattle.l6_word.specs.Octal.{octal12}
use Rattle.l6_dap.specs.Variables.{text_named}
use Rattle.l6_dap.proofs.Words.{words_end, words_next}
use Rattle.l6_dap.proofs.variables.block_parts.Goals as goal

pub loop-word-preserved : goal.loop-word-preserved
loop-word-preserved c =
    let blocks = c.args.machine.now.configuration.state.memory.blocks in
    let index = c.loop-word.index in
    let there : slice_get (block_at blocks c.args.place) index ≡ Some c.in-Some.word =
    search rules in
    let added : c.push.new.self.items ≡ c.loop-word.list.items
    ++ text_named (codes "word " ++ decimal index) (octal12 c.in-Some.word) ∷ [] = search rules in
    words_next c.loop-word.list.items c.push.new.self.items index (block_at blocks c.args.place) c.in-Some.word there added
    ∙ c.loop-word.invariant

pub returns : goal.returns
returns c =
    let blocks = c.args.machine.now.configuration.state.memory.blocks in
    let index = c.loop-word.index in
    let none : slice_get (block_at blocks c.args.place) index ≡ None = search rules in
    words_end c.loop-word.list.items _ index (block_at blocks c.args.place) none c.loop-word.invariant
