-- What becomes of a session: which of its answers go out, and why there is none.
use Rattle.std.specs.Prelude.{ℕ, ◌<◌, ◌≤◌, ◌⊎◌, List, [], length, take, Option, Result, Ok, Err, IsSomeAnd}
use Rattle.std.specs.Io.KnownBytes.{Appends}
use Rattle.std.specs.List.{concat}
use Rattle.l6_steps.specs.Configuration.{state_at}
use Rattle.l6_steps.specs.Numerals.{most_input}
use Rattle.l6_steps.specs.Run.{IsReached}
use Rattle.l6_machine.specs.Options.{OptionValues, context_under, store_rule}
use Rattle.l6_card.specs.Numerals.{most_deck_bytes}
use Rattle.l6_asm.specs.Assembled.{Assembled}
use Rattle.l6_asm.specs.AssemblyFault.{assembly_fault}
use Rattle.l6_asm.specs.Spells.{Spells, IsUnspelled}
use Rattle.l6_device.specs.declared.fault.Part.TheVariants.{Deck, Input, Commands}
use Rattle.l6_device.specs.declared.fault.RunFault.{RunFault}
use Rattle.l6_device.specs.declared.fault.RunFault.TheVariants.{TooLong, Asm, Read, Write, NoMemory}
use Rattle.l6_device.specs.Numerals.{most_command_bytes}
use Rattle.l6_device.specs.Transfer.{Reads, TakesFront}
use Rattle.l6_debug.specs.Transcript.{answers_to}

-- the first answers of some went out, each whole
pub record TakesAnswers (all : List (List ℕ)) (old new : Option (List ℕ)) : Type 0 where
  pub count : ℕ
  pub within : count ≤ length all
  pub out : Appends old new (concat (take count all))

-- what became of answers, of which so many bytes went out before these: all of them went out; or the
-- first bytes of them, and no more; or the first answers, where memory ran out
abbrev pub GoOut : {Outcome : Type 0} → List (List ℕ) → ℕ → Option (List ℕ) → Option (List ℕ) →
    Result Outcome RunFault → Type 0
GoOut all before old new (Ok outcome) = Appends old new (concat all)
GoOut all before old new (Err (Write n)) = TakesFront (concat all) before n old new
GoOut all before old new (Err NoMemory) = TakesAnswers all old new
GoOut all before old new (Err other) = ⊥

-- the deck spells a program, and the answers to the commands, of the states of its run under the
-- store's rule, went out so; and each of those states is one to which steps of the written machine lead
pub record Debugs {Outcome : Type 0} (options : OptionValues) (deck input commands : List ℕ)
    (old new : Option (List ℕ)) (result : Result Outcome RunFault) : Type 0 where
  pub fits : length deck ≤ most_deck_bytes
  pub input_fits : length input ≤ most_input
  pub commands_fit : length commands ≤ most_command_bytes
  pub assembly : Assembled
  pub spelled : Spells deck assembly
  pub out : GoOut
      (answers_to store_rule (context_under options input assembly.program) commands) 0 old new result
  pub by_steps : (n : ℕ) → IsReached (context_under options input assembly.program)
      (state_at store_rule (context_under options input assembly.program) n)

-- what became of a deck, an input and commands: the first of them that is too long is reported, and
-- then that the deck spells no program; out of memory may come before there is one
abbrev pub ServesSession : {Outcome : Type 0} → OptionValues → List ℕ → List ℕ → List ℕ →
    Option (List ℕ) → Option (List ℕ) → Result Outcome RunFault → Type 0
ServesSession options deck input commands old new (Err (TooLong Deck)) = most_deck_bytes < length deck
ServesSession options deck input commands old new (Err (TooLong Input)) =
    (length deck ≤ most_deck_bytes) × (most_input < length input)
ServesSession options deck input commands old new (Err (TooLong Commands)) =
    (length deck ≤ most_deck_bytes) × (length input ≤ most_input)
    × (most_command_bytes < length commands)
ServesSession options deck input commands old new (Err (TooLong part)) = ⊥
ServesSession options deck input commands old new (Err (Asm fault)) =
    (length deck ≤ most_deck_bytes) × (length input ≤ most_input)
    × (length commands ≤ most_command_bytes) × IsSomeAnd (assembly_fault fault) (IsUnspelled deck)
ServesSession options deck input commands old new (Err (Read part)) = ⊥
ServesSession {Outcome = T} options deck input commands old new (Err NoMemory) =
    Appends old new [] ⊎ Debugs {Outcome = T} options deck input commands old new (Err NoMemory)
ServesSession options deck input commands old new result =
    Debugs options deck input commands old new result

-- what became of a session: what the readers of the deck, of the input and of the commands gave, and
-- what went out for it
abbrev pub DebugsFrom : {Outcome : Type 0} → OptionValues → Option (List ℕ) → Option (List ℕ) →
    Option (List ℕ) → Option (List ℕ) → Option (List ℕ) → Option (List ℕ) →
    Option (List ℕ) → Option (List ℕ) → Result Outcome RunFault → Type 0
DebugsFrom options deck deck' input input' commands commands' taken taken' result =
    Reads Deck deck deck' taken taken' (λ cards.
    Reads Input input input' taken taken' (λ characters.
    Reads Commands commands commands' taken taken' (λ lines.
    ServesSession options cards characters lines taken taken' result) result) result) result

-- the session was refused before anything was to go out
abbrev pub IsRefused : {Outcome : Type 0} → Result Outcome RunFault → Type 0
IsRefused (Ok outcome) = ⊥
IsRefused (Err (Write n)) = ⊥
IsRefused (Err NoMemory) = ⊥
IsRefused (Err fault) = Unit {0}
