-- Runs keep their memory within its bounds.
use Rattle.std.proofs.Common.{◌≡◌, ℕ, ◌+◌, ◌^◌, ◌≤◌, Bool, true, false, cond, List, [], ◌∷◌, length, map, take, replicate, Option, None, Some, Result, Ok, Err, refl, sym, subst, slice_set, ok_or}
use Rattle.std.specs.Prelude.{IfOk, codes, decimal, nat_le, slice_index_or}
use Rattle.std.proofs.lemmas.Bool.{eq-eqb}
use Rattle.std.proofs.lemmas.List.{length-replicate}
use Rattle.std.proofs.lemmas.List.Elements.{All-cons, All-head, All-nil, All-replicate, All-set, All-tail}
use Rattle.std.proofs.lemmas.Nat.{pow_pos}
use Rattle.std.specs.List.{All}
use Rattle.std.specs.FinMap as finite
use Rattle.l6_word.specs.Code.{char_of}
use Rattle.l6_word.specs.Numerals.{largest_level, word_bits}
use Rattle.l6_word.specs.Octal.{octal12}
use Rattle.l6_word.specs.Trying.{◌>>=◌}
use Rattle.l6_word.specs.Window.{Window, is_window}
use Rattle.l6_store.specs.Blocks.{block_at}
use Rattle.l6_store.specs.Open.{Choice, FitsStore, IsAnswer, IsOpen}
use Rattle.l6_store.proofs.Fitting.{fits_got}
use Rattle.l6_store.proofs.Fresh.{no_fits}
use Rattle.l6_store.proofs.Gathered.{get_remove_other}
use Rattle.l6_store.proofs.Tagged.{fits_remove}
use Rattle.l6_prog.specs.declared.exit.Exit.TheVariants as exits
use Rattle.l6_prog.specs.declared.operand.Operand.{Operand}
use Rattle.l6_prog.specs.declared.operand.Operand.TheVariants.{Chain}
use Rattle.l6_prog.specs.declared.operation.Op.{Op}
use Rattle.l6_prog.specs.declared.operation.Op.TheVariants as op
use Rattle.l6_prog.specs.Numerals.{letter_count, name_count}
use Rattle.l6_steps.specs.declared.calculation.Calculation.{Calculation}
use Rattle.l6_steps.specs.declared.calculation.Calculation.TheVariants.{Set, Add, Subtract, Multiply, Divide, Remainder, And, Or, ExclusiveOr, Complement, ShiftLeft, ShiftRight}
use Rattle.l6_steps.specs.declared.jump.Jump.TheVariants as jumps
use Rattle.l6_steps.specs.declared.locus.Locus.{Locus}
use Rattle.l6_steps.specs.declared.locus.Locus.TheVariants.{Bug, Field}
use Rattle.l6_steps.specs.declared.returns.Return.{Return}
use Rattle.l6_steps.specs.declared.trap.Trap.{Trap}
use Rattle.l6_steps.specs.declared.trap.Trap.TheVariants.{BadDefinition, InputEnded, NoFailExit, PushdownFull, StoreFull}
use Rattle.l6_steps.specs.Bounds.{IsDefinition, IsWithinBounds, IsWord}
use Rattle.l6_steps.specs.Calculation.{calculated}
use Rattle.l6_steps.specs.Characters.{count_of, last_characters, left_of, number_of, take_characters}
use Rattle.l6_steps.specs.Condition.{is_true}
use Rattle.l6_steps.specs.ActionResult.{ActionResult, leave, took}
use Rattle.l6_steps.specs.Getting.{duplicate, get, keep, level_at, level_for, lies_in, new_block, read_or_0, refuse, with_place}
use Rattle.l6_steps.specs.Laws.{RunsStayWithinBounds}
use Rattle.l6_steps.specs.Locus.{assign, content, locus, read, width}
use Rattle.l6_steps.specs.Row.{Action, condition, operation, exit, combine, action_result_of, done, fail, print, row}
use Rattle.l6_steps.specs.Run.{IsRun}
use Rattle.l6_steps.specs.Stack.{Popped, has_room, pop, push}
use Rattle.l6_steps.specs.State.{Memory, RunParameters, State, RunContext, start}
use Rattle.l6_steps.specs.Step.{action_at, done_at, outcome, returns_after}
use Rattle.l6_steps.proofs.Levels.{HasLevel, level_at_fills, level_is_small}
use Rattle.l6_steps.proofs.Loci.{StandsIn, after, assign_within, definition_of, locus_holds, read_fits, holds_assigned, holds_insert, words_at}
use Rattle.l6_steps.proofs.Rows.{both, chosen}

push_by : {A : Type 0} (P : A → Type 0) (entry : A) (stack : List A) (room : Bool) → P entry →
    All P stack → IfOk (cond room (Ok (entry ∷ stack)) (Err PushdownFull)) (All P)
push_by P entry stack true one rest = All-cons P entry stack one rest
push_by P entry stack false one rest = tt

-- what holds of the entries of a stack and of a further one holds once that is saved
push_keeps : {A : Type 0} (P : A → Type 0) (entry : A) (stack : List A) → P entry → All P stack →
    IfOk (push entry stack) (All P)
push_keeps P entry stack one rest = push_by P entry stack (has_room stack) one rest

pop_keeps : {A : Type 0} (P : A → Type 0) (stack : List A) → All P stack →
    IfOk (pop stack) (λ (saved : Popped A). P saved.latest × All P saved.rest)
pop_keeps P [] each = tt
pop_keeps P (latest ∷ rest) each = (All-head P latest rest each, All-tail P latest rest each)

module _ (units : ℕ) where
  -- the memory that an action's result leaves is within its bounds
  Stays : ActionResult → Type 0
  Stays action_result = IsWithinBounds units action_result.memory

  -- returns, input and output have no part in that
  beside : (memory : Memory) (returns : List Return) (taken : ℕ) (output : List ℕ) →
      IsWithinBounds units memory →
      IsWithinBounds units (record memory { returns = returns; taken = taken; output = output })
  beside memory returns taken output within = record {
    bugs = within.bugs;
    saved_contents = within.saved_contents;
    definitions = within.definitions;
    saved_definitions = within.saved_definitions;
    blocks = within.blocks;
  }

  start_within : IsWithinBounds units start.memory
  start_within = record {
    bugs = All-replicate IsWord letter_count 0 (pow_pos word_bits);
    saved_contents = All-nil IsWord;
    definitions = All-replicate IsDefinition name_count None tt;
    saved_definitions = All-nil IsDefinition;
    blocks = no_fits units;
  }

  module _ (memory : Memory) (within : IsWithinBounds units memory) where
    IsAlignedPlace : Locus → Type 0
    IsAlignedPlace at = StandsIn memory.blocks at

    -- what is done with what a chain leads to
    located : (chain : List ℕ) (second : Locus → Result ActionResult Trap) →
        ((at : Locus) → StandsIn memory.blocks at → IfOk (second at) Stays) →
        IfOk (locus memory chain >>= second) Stays
    located chain second each =
        after (StandsIn memory.blocks) Stays (locus memory chain) second
        (locus_holds units memory within chain) each

    combine_stays : (calculation : Calculation) (chain : List ℕ) (operand : Operand) →
        IfOk (combine calculation chain operand memory) Stays
    unfolding Stays
    combine_stays calculation chain operand =
        located chain _
        (λ at holds_there. both Stays (read memory operand) _
        (λ value. both Stays (calculated calculation (width at) (content memory at) value) _
        (λ number. assign_within units memory within at number holds_there)))

    print_stays : (parameters : RunParameters) (text : List ℕ) →
        IfOk (print parameters text memory) Stays
    unfolding Stays
    print_stays parameters text =
        chosen Stays (nat_le (length memory.output + length text) parameters.limits.output) _ _
        (beside memory memory.returns memory.taken _ within) tt

    define_by : (field : ℕ) (window : Window) (is : Bool) → is_window window ≡ is →
        IfOk (cond is
        (leave (record memory { definitions = slice_set memory.definitions field (Some window) }))
        (Err BadDefinition)) Stays
    unfolding Stays
    define_by field window true is = record {
      bugs = within.bugs;
      saved_contents = within.saved_contents;
      definitions = All-set IsDefinition memory.definitions field (Some window) is
          within.definitions;
      saved_definitions = within.saved_definitions;
      blocks = within.blocks;
    }
    define_by field window false is = tt

    refuse_stays : (trap : Trap) (label : Option ℕ) → IfOk (refuse trap label memory) Stays
    unfolding Stays
    refuse_stays trap None = tt
    refuse_stays trap (Some statement) = within

    -- what is done with an open place
    place_stays : (size : ℕ) (found label : Option ℕ) (use_of : ℕ → Result ActionResult Trap) →
        IsAnswer units memory.blocks size found →
        ((place : ℕ) → IsOpen units memory.blocks size place → IfOk (use_of place) Stays) →
        IfOk (with_place found label memory use_of) Stays
    place_stays size None label use_of none each = refuse_stays StoreFull label
    place_stays size (Some place) label use_of clear each = each place clear

    pub new_block_within : (level place : ℕ) (words : List ℕ) (at : Locus) → level ≤ largest_level →
        IsOpen units memory.blocks (2 ^ level) place → length words ≡ 2 ^ level →
        All IsWord words → StandsIn memory.blocks at →
        IsWithinBounds units (new_block memory words at place)
    new_block_within level place words at small clear count are_words holds_there =
        let later : Memory = record memory { blocks = finite.insert memory.blocks place words } in
        assign_within units later
        (record {
          bugs = within.bugs;
          saved_contents = within.saved_contents;
          definitions = within.definitions;
          saved_definitions = within.saved_definitions;
          blocks = fits_got units memory.blocks level place words within.blocks small clear count
              are_words;
        }) at place (holds_insert memory.blocks place words at holds_there)

    -- a block is taken out; what lay elsewhere still is
    removed_within : (place : ℕ) →
        IsWithinBounds units (record memory { blocks = finite.remove memory.blocks place })
    removed_within place = record {
      bugs = within.bugs;
      saved_contents = within.saved_contents;
      definitions = within.definitions;
      saved_definitions = within.saved_definitions;
      blocks = fits_remove units memory.blocks place within.blocks;
    }

    pub holds_removed : (place : ℕ) (at : Locus) → lies_in place at ≡ false →
        StandsIn memory.blocks at → StandsIn (finite.remove memory.blocks place) at
    holds_removed place (Bug bug) outside holds_there = tt
    holds_removed place (Field q window) outside holds_there =
        let kept = get_remove_other memory.blocks place q
        (λ same. (let inside = eq-eqb q place same in cc)) in
        (holds_there.0, (let live = holds_there.1 in cc))

    free_by : (place : ℕ) (at : Locus) (number : ℕ) (lies : Bool) → lies_in place at ≡ lies →
        StandsIn memory.blocks at →
        IsWithinBounds units
        (cond lies (record memory { blocks = finite.remove memory.blocks place })
        (assign (record memory { blocks = finite.remove memory.blocks place }) at number))
    free_by place at number true is holds_there = removed_within place
    free_by place at number false is holds_there =
        assign_within units (record memory { blocks = finite.remove memory.blocks place })
        (removed_within place) at number (holds_removed place at is holds_there)

    take_stays : (parameters : RunParameters) (count : ℕ) (at : Locus) (label : Option ℕ) →
        StandsIn memory.blocks at → IfOk (take_characters parameters count at label memory) Stays
    unfolding Stays
    take_stays parameters count at label holds_there =
        let left = left_of parameters memory in
        let later : Memory = record memory { taken = memory.taken + count } in
        chosen Stays (nat_le count (length left)) _ _
        (assign_within units later
        (beside memory memory.returns (memory.taken + count) memory.output within) at
        (number_of (take count left)) holds_there)
        (refuse_stays InputEnded label)

  -- what is done once a content is kept in a memory that is within its bounds
  kept_stays : (old : Option (List ℕ)) (number level : ℕ) (memory : Memory) →
      IsWithinBounds units memory →
      IfOk (keep old number memory >>= λ after.
      Ok (record { memory = after; jump = jumps.Onward; effect = took level })) Stays
  unfolding Stays
  kept_stays None number level memory within = within
  kept_stays (Some chain) number level memory within =
      after (IsWithinBounds units) Stays (keep (Some chain) number memory) _
      (after (StandsIn memory.blocks) (IsWithinBounds units) (locus memory chain) _
      (locus_holds units memory within chain)
      (λ at holds_there. assign_within units memory within at number holds_there))
      (λ later within_later. within_later)

  module _ (parameters : RunParameters) (choice : Choice) (memory : Memory)
      (within : IsWithinBounds units memory) (fits : FitsStore units memory.blocks choice) where
    row_stays : (operation : Op ℕ) → IfOk (row parameters choice operation memory) Stays
    unfolding Stays
    row_stays (op.Set chain operand) = combine_stays memory within Set chain operand
    row_stays (op.Add chain operand) = combine_stays memory within Add chain operand
    row_stays (op.Subtract chain operand) = combine_stays memory within Subtract chain operand
    row_stays (op.Multiply chain operand) = combine_stays memory within Multiply chain operand
    row_stays (op.Divide chain operand) = combine_stays memory within Divide chain operand
    row_stays (op.Remainder chain operand) = combine_stays memory within Remainder chain operand
    row_stays (op.And chain operand) = combine_stays memory within And chain operand
    row_stays (op.Or chain operand) = combine_stays memory within Or chain operand
    row_stays (op.ExclusiveOr chain operand) =
        combine_stays memory within ExclusiveOr chain operand
    row_stays (op.Complement chain operand) = combine_stays memory within Complement chain operand
    row_stays (op.ShiftLeft chain operand) = combine_stays memory within ShiftLeft chain operand
    row_stays (op.ShiftRight chain operand) = combine_stays memory within ShiftRight chain operand
    row_stays (op.Exchange one other) =
        located memory within one _
        (λ here holds_there. located memory within other _
        (λ there holds_too.
        assign_within units (assign memory here (content memory there))
        (assign_within units memory within here (content memory there) holds_there) there
        (content memory here)
        (holds_assigned memory here (content memory there) there holds_too)))
    row_stays (op.Define field word first last) =
        both Stays (read memory word) _
        (λ index. both Stays (read memory first) _
        (λ from. both Stays (read memory last) _
        (λ to.
        let window : Window = record { word = index; first = from; last = to } in
        define_by memory within field window (is_window window) refl)))
    row_stays (op.SaveContent chain) =
        after IsWord Stays (read memory (Chain chain)) _ (read_fits units memory within chain)
        (λ content is_word.
        after (All IsWord) Stays (push content memory.saved_contents) _
        (push_keeps IsWord content memory.saved_contents is_word within.saved_contents)
        (λ saved are_words. record {
          bugs = within.bugs;
          saved_contents = are_words;
          definitions = within.definitions;
          saved_definitions = within.saved_definitions;
          blocks = within.blocks;
        }))
    row_stays (op.RestoreContent chain) =
        located memory within chain _
        (λ at holds_there.
        after (λ (saved : Popped ℕ). IsWord saved.latest × All IsWord saved.rest) Stays
        (pop memory.saved_contents) _
        (pop_keeps IsWord memory.saved_contents within.saved_contents)
        (λ saved are_words.
        assign_within units (record memory { saved_contents = saved.rest })
        (record {
          bugs = within.bugs;
          saved_contents = are_words.1;
          definitions = within.definitions;
          saved_definitions = within.saved_definitions;
          blocks = within.blocks;
        }) at saved.latest holds_there))
    row_stays (op.SaveDefinition field) =
        let definition = slice_index_or memory.definitions field None in
        after (All IsDefinition) Stays (push definition memory.saved_definitions) _
        (push_keeps IsDefinition definition memory.saved_definitions
        (definition_of units memory field within) within.saved_definitions)
        (λ saved are_definitions. record {
          bugs = within.bugs;
          saved_contents = within.saved_contents;
          definitions = within.definitions;
          saved_definitions = are_definitions;
          blocks = within.blocks;
        })
    row_stays (op.RestoreDefinition field) =
        after (λ (saved : Popped (Option Window)).
        IsDefinition saved.latest × All IsDefinition saved.rest) Stays
        (pop memory.saved_definitions) _
        (pop_keeps IsDefinition memory.saved_definitions within.saved_definitions)
        (λ saved are_definitions. record {
          bugs = within.bugs;
          saved_contents = within.saved_contents;
          definitions = All-set IsDefinition memory.definitions field saved.latest
              are_definitions.0 within.definitions;
          saved_definitions = are_definitions.1;
          blocks = within.blocks;
        })
    row_stays (op.Get chain size old label) =
        located memory within chain _
        (λ at holds_there. both Stays (read memory size) _
        (λ wanted.
        after (λ level. level ≤ largest_level) Stays (level_for wanted) _ (level_is_small wanted)
        (λ level small.
        place_stays memory within (2 ^ level) (choice level) label (get level at old memory)
        (fits level small)
        (λ place clear.
        let zeros : List ℕ = replicate (2 ^ level) 0 in
        kept_stays old (content memory at) level (new_block memory zeros at place)
        (new_block_within memory within level place zeros at small clear
        (length-replicate {A = ℕ} (2 ^ level) 0)
        (All-replicate IsWord (2 ^ level) 0 (pow_pos word_bits)) holds_there)))))
    row_stays (op.Duplicate chain block label) =
        located memory within chain _
        (λ at holds_there. both Stays (read memory block) _
        (λ from.
        after (HasLevel memory from) Stays (level_at memory from) _
        (level_at_fills units memory from within.blocks)
        (λ level has_level.
        place_stays memory within (2 ^ level) (choice level) label (duplicate level from at memory)
        (fits level has_level.small)
        (λ place clear.
        new_block_within memory within level place (block_at memory.blocks from) at
        has_level.small clear has_level.size (words_at units memory.blocks from within.blocks)
        holds_there))))
    row_stays (op.Free chain value) =
        located memory within chain _
        (λ at holds_there. both Stays (level_at memory (content memory at)) _
        (λ level. both Stays (read_or_0 memory value) _
        (λ number.
        free_by memory within (content memory at) at number (lies_in (content memory at) at) refl
        holds_there)))
    row_stays (op.Call called fail) = chosen Stays (has_room memory.returns) _ _ within tt
    row_stays (op.Input chain count label) =
        located memory within chain _
        (λ at holds_there. both Stays (read memory count) _
        (λ wanted. both Stays (count_of wanted) _
        (λ characters. take_stays memory within parameters characters at label holds_there)))
    row_stays (op.PrintCharacters chain count) =
        both Stays (locus memory chain) _
        (λ at. both Stays (read memory count) _
        (λ wanted. both Stays (count_of wanted) _
        (λ characters.
        print_stays memory within parameters (last_characters characters (content memory at)))))
    row_stays (op.PrintDecimal chain) =
        both Stays (locus memory chain) _
        (λ at. print_stays memory within parameters (decimal (content memory at)))
    row_stays (op.PrintOctal chain) =
        both Stays (locus memory chain) _
        (λ at. print_stays memory within parameters (octal12 (content memory at)))
    row_stays (op.PrintText text) = print_stays memory within parameters (map char_of text)
    row_stays op.PrintLine = print_stays memory within parameters (codes "\n")

    done_stays : (waiting : List Return) → IfOk (done waiting memory) Stays
    unfolding Stays
    done_stays [] = within
    done_stays (latest ∷ earlier) = beside memory earlier memory.taken memory.output within

    fail_stays : (waiting : List Return) → IfOk (fail waiting memory) Stays
    unfolding Stays
    fail_stays [] = within
    fail_stays (latest ∷ earlier) =
        both Stays (ok_or latest.fail NoFailExit) _
        (λ label. beside memory earlier memory.taken memory.output within)

    action_stays : (action : Action) → IfOk (action_result_of parameters choice action memory) Stays
    unfolding Stays
    action_stays (condition cond tests) =
        both Stays (is_true cond tests memory) _ (λ answer. within)
    action_stays (operation op) = row_stays op
    action_stays (exit exits.Next) = within
    action_stays (exit (exits.Label statement)) = within
    action_stays (exit exits.Done) = done_stays memory.returns
    action_stays (exit exits.Fail) = fail_stays memory.returns

  outcome_within : (old : State) (asked : Result ActionResult Trap) → IsWithinBounds units old.memory →
      IfOk asked Stays →
      IsWithinBounds units (outcome old
      (asked >>= λ action_result. Ok (done_at old.at action_result))).memory
  unfolding Stays
  outcome_within old (Ok action_result) within stays =
      beside action_result.memory
      (returns_after action_result.jump old.at action_result.memory.returns)
      action_result.memory.taken
      action_result.memory.output stays
  outcome_within old (Err trap) within stays = within

run_within : (context : RunContext) (state : State) (older : List State) →
    IsRun context (state ∷ older) → IsWithinBounds context.parameters.units state.memory
run_within context state [] run =
    subst (λ (s : State). IsWithinBounds context.parameters.units s.memory) (sym run)
    (start_within context.parameters.units)
run_within context state (old ∷ older) run =
    let units = context.parameters.units in
    let step = run.0 in
    let within = run_within context old older run.1 in
    subst (λ (s : State). IsWithinBounds units s.memory) (sym step.leads)
    (outcome_within units old
    (action_result_of context.parameters step.choice (action_at context.program old.at) old.memory)
    within
    (action_stays units context.parameters step.choice old.memory within step.fits
    (action_at context.program old.at)))

pub runs_stay_within_bounds : RunsStayWithinBounds
runs_stay_within_bounds context state reached = run_within context state reached.older reached.run
