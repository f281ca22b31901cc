use Rattle.std.proofs.Common.{◌≡◌, ◌+◌, ◌^◌, ◌<◌, drop, take}
use Rattle.l6_steps.specs.Characters.{number_of}
use Rattle.l6_registers.proofs.input.Input.take.Given as goal

-- so many are taken, which stand for the number
abbrev pub invariant-loop : goal.invariant-loop
invariant-loop l = record {
  number : l.number ≡ number_of (take l.counter (drop l.fn.self.taken l.fn.self.characters));
  small : l.number < 64 ^ l.counter;
  characters : l.self.characters ≡ l.fn.self.characters;
  taken : l.self.taken ≡ l.fn.self.taken + l.counter;
}
