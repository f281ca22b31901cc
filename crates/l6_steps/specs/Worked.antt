-- Worked examples of the definitions, each by hand.
use Rattle.std.specs.Prelude.{◌≡◌, ℕ, ◌+◌, ◌-◌, ◌^◌, List, [], ◌∷◌, replicate, slice_set, Option, None, Some, Ok, Err}
use Rattle.std.specs.FinMap as map
use Rattle.l6_word.specs.Window.{Window}
use Rattle.l6_store.specs.Open.{Choice}
use Rattle.l6_prog.specs.Numerals.{first_letter, letter_count, name_count}
use Rattle.l6_prog.specs.declared.operand.Operand.TheVariants.{Number}
use Rattle.l6_prog.specs.declared.operation.Op.TheVariants.{Set, Subtract, Exchange, Get, Call}
use Rattle.l6_steps.specs.declared.jump.Jump.TheVariants.{Onward}
use Rattle.l6_steps.specs.declared.locus.Locus.TheVariants.{Field}
use Rattle.l6_steps.specs.declared.trap.Trap.TheVariants.{NotABlock, NoFailExit}
use Rattle.l6_steps.specs.ActionResult.{leave, took}
use Rattle.l6_steps.specs.Locus.{content, index_of, locus}
use Rattle.l6_steps.specs.Row.{row}
use Rattle.l6_steps.specs.State.{RunContext, State, Memory, RunParameters, start}
use Rattle.l6_prog.specs.declared.condition.Cond.TheVariants.{Always, IfNotAll}
use Rattle.l6_prog.specs.declared.condition.Comparison.{Comparison}
use Rattle.l6_prog.specs.declared.condition.Comparison.TheVariants.{Equal, Greater}
use Rattle.l6_prog.specs.declared.condition.Test.{Test}
use Rattle.l6_prog.specs.declared.exit.Exit.TheVariants.{Next, Done, Fail}
use Rattle.l6_prog.specs.Statement.{Parts, plain_done}
use Rattle.l6_steps.specs.declared.halt.Halt.TheVariants as halts
use Rattle.l6_steps.specs.declared.returns.Return.{Return}
use Rattle.l6_steps.specs.Step.{next}

-- the names A and N
abbrev pub name_a : ℕ
name_a = first_letter

abbrev pub name_n : ℕ
name_n = first_letter + 13

-- a small context with this program
abbrev pub small_context : List Parts → RunContext
small_context program = record {
  program = program;
  parameters = record { units = 1; limits = record { steps = 100; output = 100 }; input = [] };
}

-- the state at a statement's action after so many steps, in which nothing is held but these returns
abbrev pub at_action : ℕ → ℕ → ℕ → List Return → State
at_action statement action count returns = record start {
  memory = record start.memory { returns = returns };
  at = record { statement = statement; action = action };
  count = count;
}

-- the test that compares the content of a chain to 0
abbrev pub to_zero : Comparison → List ℕ → Test
to_zero comparison chain = record { comparison = comparison; chain = chain; operand = Number 0 }

-- the program that begins with IFNALL (A,E,0)(A,G,0)(AN,E,0)
abbrev pub not_all_context : RunContext
not_all_context =
    small_context (record {
      condition = IfNotAll;
      tests =
          to_zero Equal (name_a ∷ [])
          ∷ to_zero Greater (name_a ∷ [])
          ∷ to_zero Equal (name_a ∷ name_n ∷ [])
          ∷ [];
      operations = [];
      exit = Next;
    } ∷ plain_done ∷ [])

-- A is 0: the first test holds, the second fails, and so the condition is true; the third test,
-- which would trap, is not taken
abbrev pub NotAllStops : Type 0
NotAllStops = (choice : Choice) → next not_all_context choice start ≡ at_action 0 1 1 []

-- the program whose statement 0 calls statement 1, which fails; the call may have a fail label
abbrev pub call_context : Option ℕ → RunContext
call_context fail =
    small_context (record {
      condition = Always;
      tests = [];
      operations = Call 1 fail ∷ [];
      exit = Done;
    } ∷ record { condition = Always; tests = []; operations = []; exit = Fail }
    ∷ plain_done
    ∷ [])

-- what the call waits for: the exit of statement 0, with its fail label
abbrev pub waits : Option ℕ → List Return
waits fail = record { at = record { statement = 0; action = 2 }; fail = fail } ∷ []

-- with the fail label 2 the exit FAIL goes to statement 2, and the call waits no more
abbrev pub FailGoesToItsLabel : Type 0
FailGoesToItsLabel =
    (choice : Choice) →
    (next (call_context (Some 2)) choice (at_action 0 1 1 [])
    ≡ at_action 1 0 2 (waits (Some 2)))
    × (next (call_context (Some 2)) choice (at_action 1 1 3 (waits (Some 2)))
    ≡ at_action 2 0 4 [])

-- without a fail label it traps, and the call waits on: a trap changes the ending alone
abbrev pub FailWithoutLabelTraps : Type 0
FailWithoutLabelTraps =
    (choice : Choice) →
    next (call_context None) choice (at_action 1 1 3 (waits None))
    ≡ record (at_action 1 1 3 (waits None)) { ending = Some (halts.Trap NoFailExit) }

-- the chains of the bugs A and B
abbrev pub chain_a : List ℕ
chain_a = first_letter ∷ []

abbrev pub chain_b : List ℕ
chain_b = (first_letter + 1) ∷ []

-- the memory of the start, but with these numbers in A and B
abbrev pub with_bugs : ℕ → ℕ → Memory
with_bugs a b = record start.memory { bugs = a ∷ b ∷ replicate (letter_count - 2) 0 }

-- 7 less 9 is 2 below 0, so A becomes 2 ^ 36 - 2
abbrev pub DifferenceWraps : Type 0
DifferenceWraps =
    (parameters : RunParameters) (choice : Choice) →
    row parameters choice (Subtract chain_a (Number 9)) (with_bugs 7 0)
    ≡ leave (with_bugs (2 ^ 36 - 2) 0)

-- A and B exchange what they hold
abbrev pub BugsExchange : Type 0
BugsExchange =
    (parameters : RunParameters) (choice : Choice) →
    row parameters choice (Exchange chain_a chain_b) (with_bugs 1 2) ≡ leave (with_bugs 2 1)

-- the names V and X
abbrev pub name_v : ℕ
name_v = first_letter + 21

abbrev pub name_x : ℕ
name_x = first_letter + 23

-- nothing but the bug X
abbrev pub just_x : ℕ → List ℕ
just_x number = slice_set (replicate letter_count 0) (index_of name_x) number

-- N is defined as these bits of this word, and V as the last six bits of word 1
abbrev pub defined : Window → List (Option Window)
defined window =
    slice_set
    (slice_set (replicate name_count None) name_n (Some window)) name_v
    (Some (record { word = 1; first = 30; last = 35 }))

-- two blocks of two words, at 1024 and at 1026; X points to the first, and N, its word 0 from bit 18
-- on, to the second
abbrev pub linked : Memory
linked = record start.memory {
  bugs = just_x 1024;
  definitions = defined (record { word = 0; first = 18; last = 35 });
  blocks = map.insert (map.insert map.empty 1024 (1026 ∷ 0 ∷ [])) 1026 (0 ∷ 71 ∷ []);
}

-- there the chain XNV leads to the last six bits of word 1 of the block at 1026: 71 is 64 + 7
abbrev pub ChainLeads : Type 0
ChainLeads =
    let at = Field 1026 (record { word = 1; first = 30; last = 35 }) in
    (locus linked (name_x ∷ name_n ∷ name_v ∷ []) ≡ Ok at) × (content linked at ≡ 7)

-- a block of four zeros at 1024, to which X points; N is word 1 from bit 18 on
abbrev pub stacked : Memory
stacked = record start.memory {
  bugs = just_x 1024;
  definitions = defined (record { word = 1; first = 18; last = 35 });
  blocks = map.insert map.empty 1024 (0 ∷ 0 ∷ 0 ∷ 0 ∷ []);
}

-- (X,GT,3,XN): where a block of level 2 is given the place 1028, X becomes 1028, and XN, which is now
-- a field of the new block, becomes 1024
abbrev pub GetKeepsTheOld : Type 0
GetKeepsTheOld =
    (parameters : RunParameters) (choice : Choice) → choice 2 ≡ Some 1028 →
    row parameters choice (Get (name_x ∷ []) (Number 3) (Some (name_x ∷ name_n ∷ [])) None) stacked
    ≡ Ok (record {
      memory = record stacked {
        bugs = just_x 1028;
        blocks = map.insert stacked.blocks 1028 (0 ∷ 1024 ∷ 0 ∷ 0 ∷ []);
      };
      jump = Onward;
      effect = took 2;
    })

-- the same block once it is freed, though X still points there
abbrev pub freed_still : Memory
freed_still = record stacked { blocks = map.remove stacked.blocks 1024 }

-- (XN,E,5) traps then
abbrev pub UseAfterFreeTraps : Type 0
UseAfterFreeTraps =
    (parameters : RunParameters) (choice : Choice) →
    row parameters choice (Set (name_x ∷ name_n ∷ []) (Number 5)) freed_still ≡ Err NotABlock
