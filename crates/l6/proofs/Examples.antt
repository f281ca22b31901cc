-- The worked examples compute.
use Rattle.std.proofs.Common.{◌≡◌, inl, ℕ, ◌-◌, List, [], ◌∷◌, refl, sym, subst, false, Option, None, Some, codes, lit≤}
use Rattle.std.proofs.Math.ListN.{replicate}
use Rattle.std.specs.FinMap as map
use Rattle.std.specs.Fmt.{digits}
use Rattle.l6_prog.specs.Numerals.{letter_count}
use Rattle.l6_prog.specs.declared.operand.Operand.TheVariants.{Number}
use Rattle.l6_prog.specs.declared.operation.Op.TheVariants.{Set, PrintDecimal}
use Rattle.l6_prog.specs.declared.operation.Op.{Op}
use Rattle.l6_prog.specs.declared.condition.Cond.TheVariants.{Always}
use Rattle.l6_prog.specs.declared.exit.Exit.TheVariants.{Next}
use Rattle.l6_store.specs.Blocks.{Blocks}
use Rattle.l6_store.specs.Laws.{ScanChooses}
use Rattle.l6_store.specs.Open.{Choice, FitsStore}
use Rattle.l6_store.specs.Scan.{scan_rule}
use Rattle.l6_group.specs.declared.label.Label.{Label}
use Rattle.l6_steps.specs.Configuration.{EndsBy}
use Rattle.l6_steps.specs.Run.{IsRun}
use Rattle.l6_steps.specs.declared.halt.Halt.{Halt}
use Rattle.l6_steps.specs.declared.halt.Halt.TheVariants.{Done}
use Rattle.l6_steps.specs.State.{RunContext, State, is_last, start}
use Rattle.l6_steps.specs.Step.{Step, next}
use Rattle.l6_machine.specs.Options.{context_under, default_options, store_rule}
use Rattle.l6_card.specs.declared.cards.Placed.{Placed}
use Rattle.l6_card.specs.Items.{PlacedItem, group, item_on}
use Rattle.l6_card.specs.Numerals.{card_width}
use Rattle.l6.specs.Worked.{FiveIsSpelled, FiveIsPrinted, five_program, five_assembly, name_a}

-- the items of the second card
abbrev five_items : List PlacedItem
five_items = item_on 2 (group 8 (codes "A,E,5")) ∷ item_on 2 (group 15 (codes "A,PD")) ∷ []

-- the operations of the second card
abbrev five_operations : List (Placed (Op Label))
five_operations =
    record {
      reading = Set (name_a ∷ []) (Number 5);
      card = 2;
      span = record { offset = 8; length = 7 };
    }
    ∷ record {
      reading = PrintDecimal (name_a ∷ []);
      card = 2;
      span = record { offset = 15; length = 6 };
    }
    ∷ []

pub five_spelled : FiveIsSpelled
unfolding card_width
five_spelled = record {
  written = record {
    label = None;
    condition = Always;
    tests = [];
    operations = five_operations;
    exit = Next;
  } ∷ [];
  reads = record {
    begins = refl;
    cards = (
      record {
        labelled = refl;
        denote = inl (record {
          condition = refl;
          tests = refl;
          denote = record {
            groups = five_items;
            last = [];
            in_order = refl;
            operations = refl;
            exit = refl;
          };
        });
        fit = refl;
        few = lit≤ tt;
      },
      tt,
    );
    fits = lit≤ tt;
  };
  whole = refl;
}

-- the context of the run
abbrev context : RunContext
context = context_under default_options [] five_program

-- what bug A holds, the output, the statement, the action, the count and the ending make a state
abbrev state_of : ℕ → List ℕ → ℕ → ℕ → ℕ → Option Halt → State
state_of a output statement action count ending = record {
  memory = record start.memory {
    bugs = a ∷ replicate (letter_count - 1) 0;
    output = output;
  };
  at = record { statement = statement; action = action };
  count = count;
  ending = ending;
}

-- the states before the last, the latest first
abbrev earlier : List State
earlier =
    state_of 5 (codes "5") 1 1 5 None
    ∷ state_of 5 (codes "5") 1 0 4 None
    ∷ state_of 5 (codes "5") 0 3 3 None
    ∷ state_of 5 [] 0 2 2 None
    ∷ state_of 0 [] 0 1 1 None
    ∷ state_of 0 [] 0 0 0 None
    ∷ []

-- the last state
abbrev final : State
final = state_of 5 (codes "5") 1 1 6 (Some Done)

-- for each level the lowest open place, of a store without blocks: this run gets no block, so any
-- choice that fits is the run's
abbrev choice : Choice
choice = scan_rule.pick context.parameters.units map.empty []

-- each state is a step from the one before, since both compute to the same
stepped : ScanChooses → (old : State) → old.memory.blocks ≡ map.empty → is_last context old ≡ false →
    Step context old (next context choice old)
stepped chooses old none goes_on = record {
  goes_on = goes_on;
  choice = choice;
  fits = subst (λ (blocks : Blocks). FitsStore context.parameters.units blocks choice) (sym none)
      (chooses context.parameters.units map.empty []);
  leads = refl;
}

run : ScanChooses → IsRun context (final ∷ earlier)
unfolding digits
run chooses = (
  stepped chooses (state_of 5 (codes "5") 1 1 5 None) refl refl,
  (
    stepped chooses (state_of 5 (codes "5") 1 0 4 None) refl refl,
    (
      stepped chooses (state_of 5 (codes "5") 0 3 3 None) refl refl,
      (
        stepped chooses (state_of 5 [] 0 2 2 None) refl refl,
        (
          stepped chooses (state_of 0 [] 0 1 1 None) refl refl,
          (stepped chooses (state_of 0 [] 0 0 0 None) refl refl, refl),
        ),
      ),
    ),
  ),
)

-- the run under the rule reaches it after 6 steps
by_rule : EndsBy store_rule context final
unfolding digits
by_rule = record { number = 6; is = refl; last = refl }

pub five_printed : ScanChooses → FiveIsPrinted
unfolding digits
five_printed chooses = record {
  fits = lit≤ tt;
  input_fits = lit≤ tt;
  assembly = five_assembly;
  spelled = five_spelled;
  run = record {
    final = final;
    ends = record { reached = record { older = earlier; run = run chooses }; last = refl };
    by_rule = by_rule;
    ended = refl;
    printed = refl;
  };
}
