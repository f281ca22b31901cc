use Rattle.std.proofs.Common.{◌≡◌, drop}
use Rattle.l6_steps.specs.Locus.{follow}
use Rattle.l6_registers.specs.inner.Registers.{IsIn}
use Rattle.l6_registers.proofs.readable.follow.Given as goal

-- something is at the locus so far, from where the names that are left lead on
abbrev pub invariant-loop-name : goal.invariant-loop-name
invariant-loop-name g l = record {
  holds_there : IsIn (g.M.Readable.memory l.memory) l.locus;
  on : follow (g.M.Readable.memory l.memory) l.locus (drop l.name-index l.fields)
      ≡ follow (g.M.Readable.memory l.memory) l.fn.from l.fields;
}
