-- The output of a run grows.
use Rattle.std.proofs.Common.{◌≡◌, ℕ, zero, suc, ◌+◌, ◌-◌, ◌^◌, Bool, true, false, cond, List, [], ◌∷◌, ◌++◌, length, map, take, replicate, Option, None, Some, Result, Ok, Err, refl, ap, sym, ◌∙◌, subst, arith, inl, inr, ok_or}
use Rattle.std.specs.Prelude.{IfOk, codes, decimal, nat_le, slice_index_or}
use Rattle.std.proofs.Math.Nat.{suc-add, zero-add}
use Rattle.std.proofs.lemmas.Bool.{cases_lt}
use Rattle.std.proofs.lemmas.List.{append-nil, append_assoc}
use Rattle.std.specs.FinMap as finite
use Rattle.l6_word.specs.Code.{char_of}
use Rattle.l6_word.specs.Octal.{octal12}
use Rattle.l6_word.specs.Trying.{◌>>=◌}
use Rattle.l6_word.specs.Window.{Window, is_window}
use Rattle.l6_store.specs.Blocks.{block_at}
use Rattle.l6_store.specs.Open.{Choice}
use Rattle.l6_store.specs.Rule.{Rule}
use Rattle.l6_prog.specs.declared.exit.Exit.TheVariants as exits
use Rattle.l6_prog.specs.declared.operand.Operand.{Operand}
use Rattle.l6_prog.specs.declared.operand.Operand.TheVariants.{Chain}
use Rattle.l6_prog.specs.declared.operation.Op.{Op}
use Rattle.l6_prog.specs.declared.operation.Op.TheVariants as op
use Rattle.l6_steps.specs.declared.calculation.Calculation.{Calculation}
use Rattle.l6_steps.specs.declared.calculation.Calculation.TheVariants.{Set, Add, Subtract, Multiply, Divide, Remainder, And, Or, ExclusiveOr, Complement, ShiftLeft, ShiftRight}
use Rattle.l6_steps.specs.declared.jump.Jump.TheVariants as jumps
use Rattle.l6_steps.specs.declared.locus.Locus.{Locus}
use Rattle.l6_steps.specs.declared.locus.Locus.TheVariants.{Bug, Field}
use Rattle.l6_steps.specs.declared.returns.Return.{Return}
use Rattle.l6_steps.specs.declared.trap.Trap.{Trap}
use Rattle.l6_steps.specs.declared.trap.Trap.TheVariants.{InputEnded, NoFailExit, StoreFull}
use Rattle.l6_steps.specs.Calculation.{calculated}
use Rattle.l6_steps.specs.Characters.{count_of, last_characters, left_of, number_of, take_characters}
use Rattle.l6_steps.specs.Condition.{is_true}
use Rattle.l6_steps.specs.ActionResult.{ActionResult, took}
use Rattle.l6_steps.specs.Getting.{get, keep, level_at, level_for, lies_in, new_block, read_or_0, refuse, with_place}
use Rattle.l6_steps.specs.Laws.{OutputsGrow}
use Rattle.l6_steps.specs.Locus.{assign, content, locus, read, width}
use Rattle.l6_steps.specs.Configuration.{Configuration, configuration_after, configuration_at, pick_at, state_at}
use Rattle.l6_steps.specs.Output.{BeginAlike, IsBeginning}
use Rattle.l6_steps.specs.Row.{Action, condition, operation, exit, combine, action_result_of, done, fail, print, row}
use Rattle.l6_steps.specs.Stack.{has_room, pop, push}
use Rattle.l6_steps.specs.State.{Memory, RunParameters, State, RunContext, is_last}
use Rattle.l6_steps.specs.Step.{action_at, done_at, outcome}
use Rattle.l6_steps.proofs.Numbered.{configuration_after_goes_on, configuration_after_stays}
use Rattle.l6_steps.proofs.Rows.{both, chosen}

-- ---- beginnings
-- a list begins each list that is the same, ..
beginning_same : (front whole : List ℕ) → whole ≡ front → IsBeginning front whole
beginning_same front whole same = record { rest = []; is = same ∙ sym (append-nil front) }

-- .. and what begins a beginning begins the whole
beginning_of : (front middle whole : List ℕ) → IsBeginning front middle →
    IsBeginning middle whole → IsBeginning front whole
beginning_of front middle whole first second = record {
  rest = first.rest ++ second.rest;
  is = second.is ∙ ap (λ (xs : List ℕ). xs ++ second.rest) first.is
      ∙ append_assoc front first.rest second.rest;
}

-- what is assigned leaves the output alone
pub assign_prints : (memory : Memory) (at : Locus) (number : ℕ) →
    (assign memory at number).output ≡ memory.output
assign_prints memory (Bug bug) number = refl
assign_prints memory (Field place window) number = refl

-- ---- operations
-- an action's result leaves an output that begins with the one before
pub record Prints (memory : Memory) (action_result : ActionResult) : Type 0 where
  pub begins : IsBeginning memory.output action_result.memory.output

prints_same : (memory : Memory) (action_result : ActionResult) →
    action_result.memory.output ≡ memory.output →
    Prints memory action_result
prints_same memory action_result same =
    record { begins = beginning_same memory.output action_result.memory.output same }

combine_prints : (calculation : Calculation) (chain : List ℕ) (operand : Operand)
    (memory : Memory) → IfOk (combine calculation chain operand memory) (Prints memory)
combine_prints calculation chain operand memory =
    both (Prints memory) (locus memory chain) _
    (λ at. both (Prints memory) (read memory operand) _
    (λ value. both (Prints memory) (calculated calculation (width at) (content memory at) value) _
    (λ number. prints_same memory _ (assign_prints memory at number))))

print_prints : (parameters : RunParameters) (text : List ℕ) (memory : Memory) →
    IfOk (print parameters text memory) (Prints memory)
print_prints parameters text memory =
    chosen (Prints memory) (nat_le (length memory.output + length text) parameters.limits.output) _ _
    (record { begins = record { rest = text; is = refl } }) tt

refuse_prints : (trap : Trap) (label : Option ℕ) (memory : Memory) →
    IfOk (refuse trap label memory) (Prints memory)
refuse_prints trap None memory = tt
refuse_prints trap (Some statement) memory = prints_same memory _ refl

place_prints : (found label : Option ℕ) (memory : Memory) (use_of : ℕ → Result ActionResult Trap) →
    ((place : ℕ) → IfOk (use_of place) (Prints memory)) →
    IfOk (with_place found label memory use_of) (Prints memory)
place_prints None label memory use_of each = refuse_prints StoreFull label memory
place_prints (Some place) label memory use_of each = each place

located_prints : (found : Result Locus Trap) (number level : ℕ) (memory later : Memory) →
    later.output ≡ memory.output →
    IfOk ((found >>= λ at. Ok (assign later at number)) >>= λ after.
    Ok (record { memory = after; jump = jumps.Onward; effect = took level })) (Prints memory)
located_prints (Ok at) number level memory later same =
    prints_same memory _ (assign_prints later at number ∙ same)
located_prints (Err trap) number level memory later same = tt

kept_prints : (old : Option (List ℕ)) (number level : ℕ) (memory later : Memory) →
    later.output ≡ memory.output →
    IfOk (keep old number later >>= λ after.
    Ok (record { memory = after; jump = jumps.Onward; effect = took level })) (Prints memory)
kept_prints None number level memory later same = prints_same memory _ same
kept_prints (Some chain) number level memory later same =
    located_prints (locus later chain) number level memory later same

block_prints : (memory : Memory) (words : List ℕ) (at : Locus) (place : ℕ) →
    (new_block memory words at place).output ≡ memory.output
block_prints memory words at place =
    assign_prints (record memory { blocks = finite.insert memory.blocks place words }) at place

free_prints : (lies : Bool) (rest : Memory) (at : Locus) (number : ℕ) →
    (cond lies rest (assign rest at number)).output ≡ rest.output
free_prints true rest at number = refl
free_prints false rest at number = assign_prints rest at number

take_prints : (parameters : RunParameters) (count : ℕ) (at : Locus) (label : Option ℕ)
    (memory : Memory) →
    IfOk (take_characters parameters count at label memory) (Prints memory)
take_prints parameters count at label memory =
    let left = left_of parameters memory in
    let later : Memory = record memory { taken = memory.taken + count } in
    chosen (Prints memory) (nat_le count (length left)) _ _
    (prints_same memory _ (assign_prints later at (number_of (take count left))))
    (refuse_prints InputEnded label memory)

module _ (parameters : RunParameters) (choice : Choice) (memory : Memory) where
  row_prints : (operation : Op ℕ) → IfOk (row parameters choice operation memory) (Prints memory)
  row_prints (op.Set chain operand) = combine_prints Set chain operand memory
  row_prints (op.Add chain operand) = combine_prints Add chain operand memory
  row_prints (op.Subtract chain operand) = combine_prints Subtract chain operand memory
  row_prints (op.Multiply chain operand) = combine_prints Multiply chain operand memory
  row_prints (op.Divide chain operand) = combine_prints Divide chain operand memory
  row_prints (op.Remainder chain operand) = combine_prints Remainder chain operand memory
  row_prints (op.And chain operand) = combine_prints And chain operand memory
  row_prints (op.Or chain operand) = combine_prints Or chain operand memory
  row_prints (op.ExclusiveOr chain operand) = combine_prints ExclusiveOr chain operand memory
  row_prints (op.Complement chain operand) = combine_prints Complement chain operand memory
  row_prints (op.ShiftLeft chain operand) = combine_prints ShiftLeft chain operand memory
  row_prints (op.ShiftRight chain operand) = combine_prints ShiftRight chain operand memory
  row_prints (op.Exchange one other) =
      both (Prints memory) (locus memory one) _
      (λ here. both (Prints memory) (locus memory other) _
      (λ there. prints_same memory _
      (assign_prints (assign memory here (content memory there)) there (content memory here)
      ∙ assign_prints memory here (content memory there))))
  row_prints (op.Define field word first last) =
      both (Prints memory) (read memory word) _
      (λ index. both (Prints memory) (read memory first) _
      (λ from. both (Prints memory) (read memory last) _
      (λ to.
      let window : Window = record { word = index; first = from; last = to } in
      chosen (Prints memory) (is_window window) _ _ (prints_same memory _ refl) tt)))
  row_prints (op.SaveContent chain) =
      both (Prints memory) (read memory (Chain chain)) _
      (λ content. both (Prints memory) (push content memory.saved_contents) _
      (λ saved. prints_same memory _ refl))
  row_prints (op.RestoreContent chain) =
      both (Prints memory) (locus memory chain) _
      (λ at. both (Prints memory) (pop memory.saved_contents) _
      (λ saved. prints_same memory _
      (assign_prints (record memory { saved_contents = saved.rest }) at saved.latest)))
  row_prints (op.SaveDefinition field) =
      both (Prints memory)
      (push (slice_index_or memory.definitions field None) memory.saved_definitions) _
      (λ saved. prints_same memory _ refl)
  row_prints (op.RestoreDefinition field) =
      both (Prints memory) (pop memory.saved_definitions) _ (λ saved. prints_same memory _ refl)
  row_prints (op.Get chain size old label) =
      both (Prints memory) (locus memory chain) _
      (λ at. both (Prints memory) (read memory size) _
      (λ wanted. both (Prints memory) (level_for wanted) _
      (λ level. place_prints (choice level) label memory (get level at old memory)
      (λ place.
      let zeros : List ℕ = replicate (2 ^ level) 0 in
      kept_prints old (content memory at) level memory (new_block memory zeros at place)
      (block_prints memory zeros at place)))))
  row_prints (op.Duplicate chain block label) =
      both (Prints memory) (locus memory chain) _
      (λ at. both (Prints memory) (read memory block) _
      (λ from. both (Prints memory) (level_at memory from) _
      (λ level. place_prints (choice level) label memory _
      (λ place. prints_same memory _
      (block_prints memory (block_at memory.blocks from) at place)))))
  row_prints (op.Free chain value) =
      both (Prints memory) (locus memory chain) _
      (λ at. both (Prints memory) (level_at memory (content memory at)) _
      (λ level. both (Prints memory) (read_or_0 memory value) _
      (λ number.
      let place = content memory at in
      prints_same memory _ (free_prints (lies_in place at)
      (record memory { blocks = finite.remove memory.blocks place }) at number))))
  row_prints (op.Call called fail) =
      chosen (Prints memory) (has_room memory.returns) _ _ (prints_same memory _ refl) tt
  row_prints (op.Input chain count label) =
      both (Prints memory) (locus memory chain) _
      (λ at. both (Prints memory) (read memory count) _
      (λ wanted. both (Prints memory) (count_of wanted) _
      (λ characters. take_prints parameters characters at label memory)))
  row_prints (op.PrintCharacters chain count) =
      both (Prints memory) (locus memory chain) _
      (λ at. both (Prints memory) (read memory count) _
      (λ wanted. both (Prints memory) (count_of wanted) _
      (λ characters.
      print_prints parameters (last_characters characters (content memory at)) memory)))
  row_prints (op.PrintDecimal chain) =
      both (Prints memory) (locus memory chain) _
      (λ at. print_prints parameters (decimal (content memory at)) memory)
  row_prints (op.PrintOctal chain) =
      both (Prints memory) (locus memory chain) _
      (λ at. print_prints parameters (octal12 (content memory at)) memory)
  row_prints (op.PrintText text) = print_prints parameters (map char_of text) memory
  row_prints op.PrintLine = print_prints parameters (codes "\n") memory

  -- ---- actions
  done_prints : (waiting : List Return) → IfOk (done waiting memory) (Prints memory)
  done_prints [] = prints_same memory _ refl
  done_prints (latest ∷ earlier) = prints_same memory _ refl

  fail_prints : (waiting : List Return) → IfOk (fail waiting memory) (Prints memory)
  fail_prints [] = prints_same memory _ refl
  fail_prints (latest ∷ earlier) =
      both (Prints memory) (ok_or latest.fail NoFailExit) _ (λ label. prints_same memory _ refl)

  action_prints : (action : Action) →
      IfOk (action_result_of parameters choice action memory) (Prints memory)
  action_prints (condition cond tests) =
      both (Prints memory) (is_true cond tests memory) _ (λ answer. prints_same memory _ refl)
  action_prints (operation op) = row_prints op
  action_prints (exit exits.Next) = prints_same memory _ refl
  action_prints (exit (exits.Label statement)) = prints_same memory _ refl
  action_prints (exit exits.Done) = done_prints memory.returns
  action_prints (exit exits.Fail) = fail_prints memory.returns

-- ---- runs
outcome_prints : (old : State) (asked : Result ActionResult Trap) → IfOk asked (Prints old.memory) →
    IsBeginning old.memory.output
    (outcome old (asked >>= λ action_result. Ok (done_at old.at action_result))).memory.output
outcome_prints old (Ok action_result) prints = prints.begins
outcome_prints old (Err trap) prints = beginning_same old.memory.output old.memory.output refl

after_prints : (rule : Rule) (context : RunContext) (old : Configuration) (last : Bool) →
    is_last context old.state ≡ last →
    IsBeginning old.state.memory.output (configuration_after rule context old).state.memory.output
after_prints rule context old true is =
    beginning_same old.state.memory.output _
    (ap (λ (m : Configuration). m.state.memory.output) (configuration_after_stays rule context old is))
after_prints rule context old false is =
    subst (λ (m : Configuration). IsBeginning old.state.memory.output m.state.memory.output)
    (sym (configuration_after_goes_on rule context old is))
    (outcome_prints old.state
    (action_result_of context.parameters (pick_at rule context old)
    (action_at context.program old.state.at)
    old.state.memory)
    (action_prints context.parameters (pick_at rule context old) old.state.memory
    (action_at context.program old.state.at)))

more_prints : (rule : Rule) (context : RunContext) (more n : ℕ) →
    IsBeginning (state_at rule context n).memory.output
    (state_at rule context (more + n)).memory.output
more_prints rule context zero n =
    beginning_same (state_at rule context n).memory.output _
    (ap (λ k. (state_at rule context k).memory.output) (zero-add n))
more_prints rule context (suc more) n =
    let old = configuration_at rule context (more + n) in
    subst (λ k. IsBeginning (state_at rule context n).memory.output
    (state_at rule context k).memory.output)
    (sym (suc-add more n))
    (beginning_of (state_at rule context n).memory.output old.state.memory.output _
    (more_prints rule context more n)
    (after_prints rule context old (is_last context old.state) refl))

pub outputs_grow : OutputsGrow
outputs_grow rule context earlier later order =
    let apart : (later - earlier) + earlier ≡ later = omega (arith, order) in
    subst (λ k. IsBeginning (state_at rule context earlier).memory.output
    (state_at rule context k).memory.output) apart
    (more_prints rule context (later - earlier) earlier)

-- so the outputs of any two states begin alike
pub outputs_begin_alike : (rule : Rule) (context : RunContext) (one other : ℕ) →
    BeginAlike (state_at rule context one).memory.output (state_at rule context other).memory.output
outputs_begin_alike rule context one other =
    elim (cases_lt one other)
    as (λ _. BeginAlike (state_at rule context one).memory.output
    (state_at rule context other).memory.output) [
      | inl below ↦ inl (outputs_grow rule context one other (omega (arith, below)))
      | inr above ↦ inr (outputs_grow rule context other one above)
    ]
