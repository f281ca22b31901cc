use Rattle.std.proofs.Common.{◌≡◌, ◌-◌, ◌≤◌, drop, length, take}
use Rattle.l6_session.specs.Texts.{broken_from, broken_text}
use Rattle.l6_session.proofs.values.push_broken.Given as goal

-- nothing is said so far, and the first field that can't be followed is among those that are left
abbrev pub invariant-loop-place : goal.invariant-loop-place
invariant-loop-place g l = record {
  text : l.text.items ≡ l.fn.text.items;
  left : broken_from l.machine.configuration.state.memory (take l.place l.names) l.pointer
      (drop l.place l.names)
      ≡ broken_text l.machine.configuration.state.memory l.names;
  begun : 1 ≤ l.place;
}

abbrev pub decreases-loop-place : goal.decreases-loop-place
decreases-loop-place g l = length l.names - l.place
