use Rattle.std.proofs.Common.{◌∙◌}
use Rattle.l6_registers.proofs.Levels.{level_known}
use Rattle.l6_registers.proofs.registers.Registers.level_at.Goals as goal

-- a block's size gives its level
pub returns-clause-value : goal.returns-clause-value
returns-clause-value g c =
    c.ok_or.ensures.value
    ∙ level_known c.args.self.now.memory c.args.pointer c.live.result c.live.ensures.size
    c.live.ensures.level
