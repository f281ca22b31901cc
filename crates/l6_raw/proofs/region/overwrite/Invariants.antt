use Rattle.std.proofs.Common.{◌≡◌, ◌*◌}
use Rattle.l6_raw.proofs.Pages.{AreTaken}
use Rattle.l6_raw.proofs.region.overwrite.Given as goal

-- the pages so far are those of the others
abbrev pub invariant-loop-page : goal.invariant-loop-page
invariant-loop-page l = record {
  taken : AreTaken l.fn.memory.words l.words l.memory.words (l.page * 1024);
  room : l.memory.room ≡ l.fn.memory.room;
  start : l.memory.start ≡ l.fn.memory.start;
}
