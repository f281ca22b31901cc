-- Under the buddy system's rule, blocks and free pieces fill the store at each configuration of a run.
-- So the rule's picks are open places, and the run goes by steps.
use Rattle.std.proofs.Common.{◌≡◌, ℕ, zero, suc, ◌+◌, ◌^◌, ◌≤◌, Bool, true, false, cond, List, [], ◌∷◌, length, map, take, replicate, Option, None, Some, Result, Ok, Err, refl, ap, sym, ◌∙◌, subst, arith, inl, inr, ok_or}
use Rattle.std.specs.Prelude.{IfOk, codes, decimal, nat_le, slice_index, slice_index_or}
use Rattle.std.proofs.lemmas.Bool.{cases_eq}
use Rattle.std.proofs.lemmas.List.{length-replicate, length-set}
use Rattle.std.proofs.lemmas.List.Elements.{All-replicate}
use Rattle.std.proofs.lemmas.Nat.{pow_pos}
use Rattle.std.specs.FinMap as finite
use Rattle.l6_word.specs.Code.{char_of}
use Rattle.l6_word.specs.Numerals.{largest_level, word_bits}
use Rattle.l6_word.specs.Octal.{octal12}
use Rattle.l6_word.specs.Trying.{◌>>=◌}
use Rattle.l6_word.specs.Window.{Window, is_window, put}
use Rattle.l6_store.specs.Blocks.{Blocks, LiesIn, block_at}
use Rattle.l6_store.specs.Buddy.{buddy_rule}
use Rattle.l6_store.specs.Open.{Choice, FitsStore, IsAnswer, IsOpen}
use Rattle.l6_store.specs.Rule.{Order}
use Rattle.l6_store.specs.Store.{Store, after_get}
use Rattle.l6_store.specs.Tiles.{Tiles}
use Rattle.l6_store.proofs.Finding.{chooses}
use Rattle.l6_store.proofs.First.{new_tiled}
use Rattle.l6_store.proofs.Gathered.{get_insert_other, get_insert_same}
use Rattle.l6_store.proofs.Live.{live_words}
use Rattle.l6_store.proofs.Steps.{freed_tiles}
use Rattle.l6_store.proofs.Stores.{got_tiled, written_tiles}
use Rattle.l6_prog.specs.declared.exit.Exit.TheVariants as exits
use Rattle.l6_prog.specs.declared.operand.Operand.{Operand}
use Rattle.l6_prog.specs.declared.operand.Operand.TheVariants.{Chain}
use Rattle.l6_prog.specs.declared.operation.Op.{Op}
use Rattle.l6_prog.specs.declared.operation.Op.TheVariants as op
use Rattle.l6_steps.specs.declared.calculation.Calculation.{Calculation}
use Rattle.l6_steps.specs.declared.calculation.Calculation.TheVariants.{Set, Add, Subtract, Multiply, Divide, Remainder, And, Or, ExclusiveOr, Complement, ShiftLeft, ShiftRight}
use Rattle.l6_steps.specs.declared.jump.Jump.TheVariants as jumps
use Rattle.l6_steps.specs.declared.locus.Locus.{Locus}
use Rattle.l6_steps.specs.declared.locus.Locus.TheVariants.{Bug, Field}
use Rattle.l6_steps.specs.declared.returns.Return.{Return}
use Rattle.l6_steps.specs.declared.trap.Trap.{Trap}
use Rattle.l6_steps.specs.declared.trap.Trap.TheVariants.{InputEnded, NoFailExit, StoreFull}
use Rattle.l6_steps.specs.Bounds.{IsWithinBounds, IsWord}
use Rattle.l6_steps.specs.Calculation.{calculated}
use Rattle.l6_steps.specs.Characters.{count_of, last_characters, left_of, number_of, take_characters}
use Rattle.l6_steps.specs.Condition.{is_true}
use Rattle.l6_steps.specs.ActionResult.{ActionResult, freed, took}
use Rattle.l6_steps.specs.Configuration.{Configuration, configuration_at, effect_of, next_configuration, order_after, pick_at}
use Rattle.l6_steps.specs.Getting.{duplicate, get, keep, level_at, level_for, lies_in, new_block, read_or_0, refuse, with_place}
use Rattle.l6_steps.specs.Laws.{BuddyRunsBySteps}
use Rattle.l6_steps.specs.Locus.{assign, content, locus, put_into, read, width}
use Rattle.l6_steps.specs.Row.{Action, condition, operation, exit, combine, action_result_of, done, fail, print, row}
use Rattle.l6_steps.specs.Run.{IsReached}
use Rattle.l6_steps.specs.Stack.{has_room, pop, push}
use Rattle.l6_steps.specs.State.{Memory, RunParameters, RunContext, State, is_last}
use Rattle.l6_steps.specs.Step.{action_at, done_at, outcome}
use Rattle.l6_steps.proofs.Bounds.{new_block_within, runs_stay_within_bounds, holds_removed}
use Rattle.l6_steps.proofs.Levels.{HasLevel, level_at_fills, level_is_small}
use Rattle.l6_steps.proofs.Loci.{StandsIn, after, locus_holds, holds_assigned, holds_insert}
use Rattle.l6_steps.proofs.Rows.{both, chosen}
use Rattle.l6_steps.proofs.Run.{reached_by, step_by_rule}

-- ---- blocks of the same sizes
-- a word of a block is one whatever the block's words are
lies_alike : (blocks : Blocks) (place : ℕ) (one other : List ℕ) → length other ≡ length one →
    (at : ℕ) → LiesIn (finite.insert blocks place one) at →
    LiesIn (finite.insert blocks place other) at
lies_alike blocks place one other count at lies =
    elim (cases_eq lies.start place) as (λ _. LiesIn (finite.insert blocks place other) at) [
      | inl same ↦
          let found : Some one ≡ Some lies.words =
          sym (get_insert_same blocks place one)
          ∙ ap (finite.get (finite.insert blocks place one)) (sym same) ∙ lies.is in
          let words_are : one ≡ lies.words = cc in
          let counts : length one ≡ length lies.words =
          ap (λ (ws : List ℕ). length ws) words_are in
          record {
            start = place;
            words = other;
            is = get_insert_same blocks place other;
            from = omega (arith, lies.from, same);
            below = omega (arith, lies.below, same, counts, count);
          }
      | inr apart ↦
          record {
            start = lies.start;
            words = lies.words;
            is = get_insert_other blocks place other lies.start apart
                ∙ sym (get_insert_other blocks place one lies.start apart) ∙ lies.is;
            from = lies.from;
            below = lies.below;
          }
    ]

-- so the store is filled whatever they are
tiles_alike : (units : ℕ) (blocks : Blocks) (order : Order) (place : ℕ) (one other : List ℕ) →
    length other ≡ length one → Tiles units (finite.insert blocks place one) order →
    Tiles units (finite.insert blocks place other) order
tiles_alike units blocks order place one other count tiles = record {
  lists = tiles.lists;
  is_aligned = tiles.is_aligned;
  whole = tiles.whole;
  apart = λ at lies. tiles.apart at (lies_alike blocks place other one (sym count) at lies);
  once = λ at from before none. tiles.once at from before
      (λ lies. none (lies_alike blocks place one other count at lies));
}

-- and whatever is assigned
assign_tiled : (units : ℕ) (order : Order) (memory : Memory) (at : Locus) (number : ℕ) →
    StandsIn memory.blocks at → Tiles units memory.blocks order →
    Tiles units (assign memory at number).blocks order
assign_tiled units order memory (Bug bug) number holds_there tiles = tiles
assign_tiled units order memory (Field place window) number holds_there tiles =
    let words = block_at memory.blocks place in
    written_tiles units memory.blocks order place words (put_into words window number)
    (live_words memory.blocks place holds_there.1)
    (length-set words window.word (put window (slice_index words window.word) number)) tiles

module _ (units : ℕ) (memory : Memory) (order : Order) (within : IsWithinBounds units memory)
    (tiles : Tiles units memory.blocks order) where
  -- the blocks that an action leaves and the free pieces after it fill the store
  Tiled : ActionResult → Type 0
  Tiled result = Tiles units result.memory.blocks
      (order_after buddy_rule units memory.blocks order result.effect)

  located_tiled : (chain : List ℕ) (second : Locus → Result ActionResult Trap) →
      ((at : Locus) → StandsIn memory.blocks at → IfOk (second at) Tiled) →
      IfOk (locus memory chain >>= second) Tiled
  located_tiled chain second each =
      after (StandsIn memory.blocks) Tiled (locus memory chain) second
      (locus_holds units memory within chain) each

  combine_tiled : (calculation : Calculation) (chain : List ℕ) (operand : Operand) →
      IfOk (combine calculation chain operand memory) Tiled
  unfolding Tiled
  combine_tiled calculation chain operand =
      located_tiled chain _
      (λ at holds_there. both Tiled (read memory operand) _
      (λ value. both Tiled (calculated calculation (width at) (content memory at) value) _
      (λ number. assign_tiled units order memory at number holds_there tiles)))

  print_tiled : (parameters : RunParameters) (text : List ℕ) →
      IfOk (print parameters text memory) Tiled
  unfolding Tiled
  print_tiled parameters text =
      chosen Tiled (nat_le (length memory.output + length text) parameters.limits.output) _ _ tiles tt

  refuse_tiled : (trap : Trap) (label : Option ℕ) → IfOk (refuse trap label memory) Tiled
  unfolding Tiled
  refuse_tiled trap None = tt
  refuse_tiled trap (Some statement) = tiles

  place_tiled : (found label : Option ℕ) (use_of : ℕ → Result ActionResult Trap) →
      ((place : ℕ) → found ≡ Some place → IfOk (use_of place) Tiled) →
      IfOk (with_place found label memory use_of) Tiled
  place_tiled None label use_of each = refuse_tiled StoreFull label
  place_tiled (Some place) label use_of each = each place refl

  choice : Choice
  choice = buddy_rule.pick units memory.blocks order

  fits : FitsStore units memory.blocks choice
  unfolding choice
  fits = chooses units memory.blocks order tiles

  open_by : (size : ℕ) (found : Option ℕ) (place : ℕ) → IsAnswer units memory.blocks size found →
      found ≡ Some place → IsOpen units memory.blocks size place
  open_by size found place answer is = subst (IsAnswer units memory.blocks size) is answer

  -- the place that the rule picks is open
  open_at : (level place : ℕ) → level ≤ largest_level → choice level ≡ Some place →
      IsOpen units memory.blocks (2 ^ level) place
  open_at level place small is = open_by (2 ^ level) (choice level) place (fits level small) is

  -- a block of zeros at the place that the rule picks, and the free pieces that are left
  got : (level place : ℕ) → choice level ≡ Some place →
      Tiles units (finite.insert memory.blocks place (replicate (2 ^ level) 0))
      (order_after buddy_rule units memory.blocks order (took level))
  unfolding choice
  got level place is =
      let store : Store = record {
        units = units;
        blocks = memory.blocks;
        order = order;
        moves = 0;
      } in
      subst (λ (found : Option ℕ).
      Tiles (after_get buddy_rule store level found).units
      (after_get buddy_rule store level found).blocks
      (after_get buddy_rule store level found).order) is
      (got_tiled store level within.blocks tiles)

  -- the same for a block of any words
  got_words : (level place : ℕ) (words : List ℕ) (at : Locus) → choice level ≡ Some place →
      length words ≡ 2 ^ level → StandsIn memory.blocks at →
      Tiles units (new_block memory words at place).blocks
      (order_after buddy_rule units memory.blocks order (took level))
  got_words level place words at is count holds_there =
      let new = order_after buddy_rule units memory.blocks order (took level) in
      let later : Memory = record memory { blocks = finite.insert memory.blocks place words } in
      assign_tiled units new later at place
      (holds_insert memory.blocks place words at holds_there)
      (tiles_alike units memory.blocks new place (replicate (2 ^ level) 0) words
      (count ∙ sym (length-replicate {A = ℕ} (2 ^ level) 0)) (got level place is))

  -- what is done once the old content is kept in the memory that has the new block
  kept_tiled : (old : Option (List ℕ)) (number level : ℕ) (later : Memory) →
      IsWithinBounds units later →
      Tiles units later.blocks (order_after buddy_rule units memory.blocks order (took level)) →
      IfOk (keep old number later >>= λ kept.
      Ok (record { memory = kept; jump = jumps.Onward; effect = took level })) Tiled
  unfolding Tiled
  kept_tiled None number level later later_within filled = filled
  kept_tiled (Some chain) number level later later_within filled =
      let new = order_after buddy_rule units memory.blocks order (took level) in
      after (λ (kept : Memory). Tiles units kept.blocks new) Tiled
      (keep (Some chain) number later) _
      (after (StandsIn later.blocks) (λ (kept : Memory). Tiles units kept.blocks new)
      (locus later chain) _ (locus_holds units later later_within chain)
      (λ at holds_there. assign_tiled units new later at number holds_there filled))
      (λ kept kept_filled. kept_filled)

  -- a block is freed, and a number is assigned to what does not lie in it
  free_tiled : (place : ℕ) (at : Locus) (number : ℕ) (new : Order) (lies : Bool) →
      lies_in place at ≡ lies → StandsIn memory.blocks at →
      Tiles units (finite.remove memory.blocks place) new →
      Tiles units (cond lies (record memory { blocks = finite.remove memory.blocks place })
      (assign (record memory { blocks = finite.remove memory.blocks place }) at number)).blocks new
  free_tiled place at number new true is holds_there filled = filled
  free_tiled place at number new false is holds_there filled =
      assign_tiled units new (record memory { blocks = finite.remove memory.blocks place }) at
      number (holds_removed units memory within place at is holds_there) filled

  take_tiled : (parameters : RunParameters) (count : ℕ) (at : Locus) (label : Option ℕ) →
      StandsIn memory.blocks at → IfOk (take_characters parameters count at label memory) Tiled
  unfolding Tiled
  take_tiled parameters count at label holds_there =
      let left = left_of parameters memory in
      let later : Memory = record memory { taken = memory.taken + count } in
      chosen Tiled (nat_le count (length left)) _ _
      (assign_tiled units order later at (number_of (take count left)) holds_there tiles)
      (refuse_tiled InputEnded label)

  row_tiled : (parameters : RunParameters) (operation : Op ℕ) →
      IfOk (row parameters choice operation memory) Tiled
  unfolding Tiled
  row_tiled parameters (op.Set chain operand) = combine_tiled Set chain operand
  row_tiled parameters (op.Add chain operand) = combine_tiled Add chain operand
  row_tiled parameters (op.Subtract chain operand) = combine_tiled Subtract chain operand
  row_tiled parameters (op.Multiply chain operand) = combine_tiled Multiply chain operand
  row_tiled parameters (op.Divide chain operand) = combine_tiled Divide chain operand
  row_tiled parameters (op.Remainder chain operand) = combine_tiled Remainder chain operand
  row_tiled parameters (op.And chain operand) = combine_tiled And chain operand
  row_tiled parameters (op.Or chain operand) = combine_tiled Or chain operand
  row_tiled parameters (op.ExclusiveOr chain operand) = combine_tiled ExclusiveOr chain operand
  row_tiled parameters (op.Complement chain operand) = combine_tiled Complement chain operand
  row_tiled parameters (op.ShiftLeft chain operand) = combine_tiled ShiftLeft chain operand
  row_tiled parameters (op.ShiftRight chain operand) = combine_tiled ShiftRight chain operand
  row_tiled parameters (op.Exchange one other) =
      located_tiled one _
      (λ here holds_there. located_tiled other _
      (λ there holds_too.
      assign_tiled units order (assign memory here (content memory there)) there
      (content memory here)
      (holds_assigned memory here (content memory there) there holds_too)
      (assign_tiled units order memory here (content memory there) holds_there tiles)))
  row_tiled parameters (op.Define field word first last) =
      both Tiled (read memory word) _
      (λ index. both Tiled (read memory first) _
      (λ from. both Tiled (read memory last) _
      (λ to.
      let window : Window = record { word = index; first = from; last = to } in
      chosen Tiled (is_window window) _ _ tiles tt)))
  row_tiled parameters (op.SaveContent chain) =
      both Tiled (read memory (Chain chain)) _
      (λ content. both Tiled (push content memory.saved_contents) _ (λ saved. tiles))
  row_tiled parameters (op.RestoreContent chain) =
      located_tiled chain _
      (λ at holds_there. both Tiled (pop memory.saved_contents) _
      (λ saved.
      assign_tiled units order (record memory { saved_contents = saved.rest }) at saved.latest
      holds_there tiles))
  row_tiled parameters (op.SaveDefinition field) =
      both Tiled (push (slice_index_or memory.definitions field None) memory.saved_definitions) _
      (λ saved. tiles)
  row_tiled parameters (op.RestoreDefinition field) =
      both Tiled (pop memory.saved_definitions) _ (λ saved. tiles)
  row_tiled parameters (op.Get chain size old label) =
      located_tiled chain _
      (λ at holds_there. both Tiled (read memory size) _
      (λ wanted.
      after (λ level. level ≤ largest_level) Tiled (level_for wanted) _ (level_is_small wanted)
      (λ level small.
      place_tiled (choice level) label (get level at old memory)
      (λ place is.
      let zeros : List ℕ = replicate (2 ^ level) 0 in
      let count = length-replicate {A = ℕ} (2 ^ level) 0 in
      kept_tiled old (content memory at) level (new_block memory zeros at place)
      (new_block_within units memory within level place zeros at small
      (open_at level place small is) count
      (All-replicate IsWord (2 ^ level) 0 (pow_pos word_bits)) holds_there)
      (got_words level place zeros at is count holds_there)))))
  row_tiled parameters (op.Duplicate chain block label) =
      located_tiled chain _
      (λ at holds_there. both Tiled (read memory block) _
      (λ from.
      after (HasLevel memory from) Tiled (level_at memory from) _
      (level_at_fills units memory from within.blocks)
      (λ level has_level.
      place_tiled (choice level) label (duplicate level from at memory)
      (λ place is.
      got_words level place (block_at memory.blocks from) at is has_level.size holds_there))))
  row_tiled parameters (op.Free chain value) =
      located_tiled chain _
      (λ at holds_there.
      after (HasLevel memory (content memory at)) Tiled (level_at memory (content memory at)) _
      (level_at_fills units memory (content memory at) within.blocks)
      (λ level has_level. both Tiled (read_or_0 memory value) _
      (λ number.
      let place = content memory at in
      free_tiled place at number (order_after buddy_rule units memory.blocks order (freed place))
      (lies_in place at) refl holds_there
      (freed_tiles units memory.blocks order place (block_at memory.blocks place) within.blocks
      tiles has_level.is))))
  row_tiled parameters (op.Call called fail) = chosen Tiled (has_room memory.returns) _ _ tiles tt
  row_tiled parameters (op.Input chain count label) =
      located_tiled chain _
      (λ at holds_there. both Tiled (read memory count) _
      (λ wanted. both Tiled (count_of wanted) _
      (λ characters. take_tiled parameters characters at label holds_there)))
  row_tiled parameters (op.PrintCharacters chain count) =
      both Tiled (locus memory chain) _
      (λ at. both Tiled (read memory count) _
      (λ wanted. both Tiled (count_of wanted) _
      (λ characters.
      print_tiled parameters (last_characters characters (content memory at)))))
  row_tiled parameters (op.PrintDecimal chain) =
      both Tiled (locus memory chain) _
      (λ at. print_tiled parameters (decimal (content memory at)))
  row_tiled parameters (op.PrintOctal chain) =
      both Tiled (locus memory chain) _
      (λ at. print_tiled parameters (octal12 (content memory at)))
  row_tiled parameters (op.PrintText text) = print_tiled parameters (map char_of text)
  row_tiled parameters op.PrintLine = print_tiled parameters (codes "\n")

  done_tiled : (waiting : List Return) → IfOk (done waiting memory) Tiled
  unfolding Tiled
  done_tiled [] = tiles
  done_tiled (latest ∷ earlier) = tiles

  fail_tiled : (waiting : List Return) → IfOk (fail waiting memory) Tiled
  unfolding Tiled
  fail_tiled [] = tiles
  fail_tiled (latest ∷ earlier) = both Tiled (ok_or latest.fail NoFailExit) _ (λ label. tiles)

  action_tiled : (parameters : RunParameters) (action : Action) →
      IfOk (action_result_of parameters choice action memory) Tiled
  unfolding Tiled
  action_tiled parameters (condition cond tests) =
      both Tiled (is_true cond tests memory) _ (λ answer. tiles)
  action_tiled parameters (operation op) = row_tiled parameters op
  action_tiled parameters (exit exits.Next) = tiles
  action_tiled parameters (exit (exits.Label statement)) = tiles
  action_tiled parameters (exit exits.Done) = done_tiled memory.returns
  action_tiled parameters (exit exits.Fail) = fail_tiled memory.returns

  outcome_tiled : (old : State) → old.memory ≡ memory → (asked : Result ActionResult Trap) →
      IfOk asked Tiled →
      let taken = asked >>= λ result. Ok (done_at old.at result) in
      Tiles units (outcome old taken).memory.blocks
      (order_after buddy_rule units memory.blocks order (effect_of taken))
  unfolding Tiled
  outcome_tiled old same (Ok result) filled = filled
  outcome_tiled old same (Err trap) filled =
      subst (λ (m : Memory). Tiles units m.blocks order) (sym same) tiles

-- ---- the configurations of a run
-- at a configuration of the run the store is filled, and steps lead to its state
record IsFilled (context : RunContext) (configuration : Configuration) : Type 0 where
  reached : IsReached context configuration.state
  tiles : Tiles context.parameters.units configuration.state.memory.blocks configuration.order

filled_cond : (context : RunContext) (old : Configuration) (last : Bool) →
    is_last context old.state ≡ last → IsFilled context old →
    IsFilled context (cond last old (next_configuration buddy_rule context old))
unfolding choice
filled_cond context old true is filled = filled
filled_cond context old false is filled =
    let units = context.parameters.units in
    let memory = old.state.memory in
    let within = runs_stay_within_bounds context old.state filled.reached in
    let picks = pick_at buddy_rule context old in
    record {
      reached = reached_by context old.state _
          (step_by_rule buddy_rule context old is
          (chooses units memory.blocks old.order filled.tiles)) filled.reached;
      tiles = outcome_tiled units memory old.order within filled.tiles old.state refl
          (action_result_of context.parameters picks (action_at context.program old.state.at) memory)
          (action_tiled units memory old.order within filled.tiles context.parameters
          (action_at context.program old.state.at));
    }

filled_at : (context : RunContext) (n : ℕ) →
    IsFilled context (configuration_at buddy_rule context n)
filled_at context zero = record {
  reached = record { older = []; run = refl };
  tiles = new_tiled context.parameters.units;
}
filled_at context (suc n) =
    let old = configuration_at buddy_rule context n in
    filled_cond context old (is_last context old.state) refl (filled_at context n)

pub buddy_by_steps : BuddyRunsBySteps
buddy_by_steps context n = (filled_at context n).reached
