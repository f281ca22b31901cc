-- The run of a deck's program is explained by that deck.
use Rattle.std.proofs.Common.{◌≡◌, ℕ, ◌≤◌, List, length, Result, Ok, Err, IfOk, subst}
use Rattle.l6_prog.specs.Statement.{Parts}
use Rattle.l6_steps.specs.Numerals.{most_input}
use Rattle.l6_machine.specs.Options.{OptionValues, context_under, store_rule}
use Rattle.l6_card.specs.Numerals.{most_deck_bytes}
use Rattle.l6_asm.specs.Assembled.{Assembled}
use Rattle.l6_asm.specs.Spells.{Spells}
use Rattle.l6_run.specs.Explains.{Explains, RunExplains}
use Rattle.l6_run.specs.declared.explained.Explained.{Explained}

-- what follows from what holds of a value
pub on_found : {X E : Type 0} {P Q : X → Type 0} (result : Result X E) → ((x : X) → P x → Q x) →
    IfOk result P → IfOk result Q
on_found (Ok value) leads holds = leads value holds
on_found (Err error) leads holds = tt

-- the program is the one that the deck spells
pub by_deck : (options : OptionValues) (deck input : List ℕ) (assembly : Assembled)
    (program : List Parts) (explained : Explained) (text : List ℕ) →
    length deck ≤ most_deck_bytes → length input ≤ most_input → Spells deck assembly →
    program ≡ assembly.program →
    RunExplains store_rule deck (context_under options input program) explained text →
    Explains options deck input explained text
by_deck options deck input assembly program explained text fits input_fits spelled is explains =
    let under : RunExplains store_rule deck (context_under options input assembly.program) explained text
    = subst (λ (p : List Parts). RunExplains store_rule deck (context_under options input p)
    explained text) is explains in
    record {
      prints = record {
        fits = fits;
        input_fits = input_fits;
        assembly = assembly;
        spelled = spelled;
        run = under.run;
      };
      why = under.why;
    }
