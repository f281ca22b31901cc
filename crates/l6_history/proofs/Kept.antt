-- What a step leaves as it was: a chain or a word that its action does not change reads as before.
use Rattle.std.proofs.Common.{◌≡◌, ℕ, ◌+◌, ◌%◌, ◌^◌, Bool, true, false, List, [], ◌∷◌, length, map, Option, Some, None, Ok, Err, if◌then◌else◌, refl, sym, ap, ◌∙◌, arith, true≢false}
use Rattle.std.specs.Prelude.{◌||◌, IfOk, Result, codes, decimal, nat_le, nat_lt, ok_or, replicate, slice_get, slice_index, slice_index_or, slice_set, take}
use Rattle.std.specs.FinMap as finite
use Rattle.std.specs.Result.{result_ok}
use Rattle.std.proofs.lemmas.Bool.{eqb-false, lt-ltb, or_parts}
use Rattle.std.proofs.lemmas.List.{get_or-set_other}
use Rattle.std.proofs.lemmas.Option.{none-some}
use Rattle.std.proofs.lemmas.Result.{IfOk-at_ok}
use Rattle.l6_word.specs.Code.{char_of}
use Rattle.l6_word.specs.Numerals.{word_bits}
use Rattle.l6_word.specs.Octal.{octal12}
use Rattle.l6_word.specs.Trying.{◌>>=◌}
use Rattle.l6_word.specs.Window.{Window, is_window}
use Rattle.l6_store.specs.Blocks.{block_at}
use Rattle.l6_store.specs.Open.{Choice}
use Rattle.l6_store.specs.Rule.{Rule}
use Rattle.l6_prog.specs.declared.exit.Exit.{Exit}
use Rattle.l6_prog.specs.declared.exit.Exit.TheVariants.{Next, Label, Done, Fail}
use Rattle.l6_prog.specs.declared.operand.Operand.{Operand}
use Rattle.l6_prog.specs.declared.operand.Operand.TheVariants.{Chain}
use Rattle.l6_prog.specs.declared.operation.Op.{Op}
use Rattle.l6_prog.specs.declared.operation.Op.TheVariants as op
use Rattle.l6_steps.specs.declared.calculation.Calculation.{Calculation}
use Rattle.l6_steps.specs.declared.calculation.Calculation.TheVariants.{Set, Add, Subtract, Multiply, Divide, Remainder, And, Or, ExclusiveOr, Complement, ShiftLeft, ShiftRight}
use Rattle.l6_steps.specs.declared.locus.Locus.{Locus}
use Rattle.l6_steps.specs.declared.locus.Locus.TheVariants.{Bug, Field}
use Rattle.l6_steps.specs.declared.position.Position.{Position}
use Rattle.l6_steps.specs.declared.returns.Return.{Return}
use Rattle.l6_steps.specs.declared.trap.Trap.{Trap}
use Rattle.l6_steps.specs.declared.trap.Trap.TheVariants.{InputEnded, NoFailExit, NotABlock, StoreFull, UndefinedField, WordOutsideBlock}
use Rattle.l6_steps.specs.ActionResult.{ActionResult}
use Rattle.l6_steps.specs.Calculation.{calculated}
use Rattle.l6_steps.specs.Characters.{count_of, last_characters, left_of, number_of}
use Rattle.l6_steps.specs.Condition.{is_true}
use Rattle.l6_steps.specs.Configuration.{Configuration, configuration_after, next_configuration, pick_at}
use Rattle.l6_steps.specs.Getting.{duplicate, get, keep, level_at, level_for, lies_in, new_block, read_or_0, refuse, with_place}
use Rattle.l6_steps.specs.Locus.{assign, content, field_at, follow, index_of, locus, read, width}
use Rattle.l6_steps.specs.Row.{Action, action_result_of, combine, condition, done, exit, fail, leave_by, operation, print, row}
use Rattle.l6_steps.specs.Stack.{has_room, pop, push}
use Rattle.l6_steps.specs.State.{Memory, RunContext, RunParameters, State, is_last}
use Rattle.l6_steps.specs.Step.{action_at, action_result_at, outcome, taken_at}
use Rattle.l6_steps.proofs.Loci.{after}
use Rattle.l6_steps.proofs.Rows.{both, chosen}
use Rattle.l6_history.specs.Stop.{value_of, values_of}
use Rattle.l6_history.specs.declared.watched.BlockWord.{BlockWord}
use Rattle.l6_history.specs.declared.watched.Watched.{Watched}
use Rattle.l6_history.specs.declared.watched.Watched.TheVariants.{Chain as WatchedChain, Word as WatchedWord}
use Rattle.l6_history.specs.inner.Changing.{IsTable, action_changes, changes, changes_by, changes_some, reads_blocks, reads_fields, says}

-- what is watched is read from a bug on, which is the first name of a chain
abbrev is_from_bug : Watched → Bool
is_from_bug (WatchedChain chain) = true
is_from_bug (WatchedWord at) = false

abbrev first_name : List ℕ → ℕ
first_name [] = 0
first_name (first ∷ fields) = first

abbrev first_of : Watched → ℕ
first_of (WatchedChain chain) = first_name chain
first_of (WatchedWord at) = 0

-- what it reads as is left alone: its bug, and, if it is read by fields or in blocks, all definitions or
-- blocks
pub record Keeps (watched : Watched) (old new : Memory) : Type 0 where
  pub bug : is_from_bug watched ≡ true → slice_index new.bugs (index_of (first_of watched))
      ≡ slice_index old.bugs (index_of (first_of watched))
  pub definitions : reads_fields watched ≡ true → new.definitions ≡ old.definitions
  pub blocks : reads_blocks watched ≡ true → new.blocks ≡ old.blocks

-- ---- it then reads as before
-- a locus is a word of a block
abbrev is_in_block : Locus → Bool
is_in_block (Bug bug) = false
is_in_block (Field place window) = true

abbrev IsInBlock : Locus → Type 0
IsInBlock at = is_in_block at ≡ true

if_within : (b : Bool) (at : Locus) → IsInBlock at →
    IfOk (if b then Ok at else Err WordOutsideBlock) IsInBlock
if_within true at is = is
if_within false at is = tt

-- where a field is, a block is
field_in : (memory : Memory) (name pointer : ℕ) → IfOk (field_at memory name pointer) IsInBlock
field_in memory name pointer =
    both IsInBlock (ok_or (slice_index_or memory.definitions name None) UndefinedField) _
    (λ (window : Window). both IsInBlock (ok_or (finite.get memory.blocks pointer) NotABlock) _
    (λ (words : List ℕ). if_within (nat_lt window.word (length words)) (Field pointer window) refl))

follow_in : (memory : Memory) (at : Locus) (name : ℕ) (names : List ℕ) →
    IfOk (follow memory at (name ∷ names)) IsInBlock
follow_in memory at name [] =
    after IsInBlock IsInBlock (field_at memory name (content memory at)) _
    (field_in memory name (content memory at)) (λ next is. is)
follow_in memory at name (other ∷ names) =
    both IsInBlock (field_at memory name (content memory at)) _
    (λ (next : Locus). follow_in memory next other names)

content_same : (old new : Memory) (at : Locus) → new.blocks ≡ old.blocks → IsInBlock at →
    content new at ≡ content old at
content_same old new (Bug bug) blocks is = cc
content_same old new (Field place window) blocks is =
    ap (λ b. content (record old { blocks = b }) (Field place window)) blocks

field_same : (old new : Memory) (name pointer : ℕ) → new.definitions ≡ old.definitions →
    new.blocks ≡ old.blocks → field_at new name pointer ≡ field_at old name pointer
field_same old new name pointer definitions blocks =
    ap (λ d. field_at (record new { definitions = d }) name pointer) definitions
    ∙ ap (λ b. field_at (record old { blocks = b }) name pointer) blocks

-- what is found at one locus is followed alike
then_same : (old new : Memory) (names : List ℕ) (found : Result Locus Trap) → IfOk found IsInBlock →
    ((next : Locus) → IsInBlock next →
    (follow new next names >>= λ at. Ok (content new at))
    ≡ (follow old next names >>= λ at. Ok (content old at))) →
    ((found >>= λ next. follow new next names) >>= λ at. Ok (content new at))
    ≡ ((found >>= λ next. follow old next names) >>= λ at. Ok (content old at))
then_same old new names (Ok next) is each = each next is
then_same old new names (Err trap) is each = refl

follow_same : (old new : Memory) (at : Locus) (names : List ℕ) →
    new.definitions ≡ old.definitions → new.blocks ≡ old.blocks →
    content new at ≡ content old at →
    (follow new at names >>= λ at. Ok (content new at))
    ≡ (follow old at names >>= λ at. Ok (content old at))
follow_same old new at [] definitions blocks same = ap (λ (n : ℕ). Ok n) same
follow_same old new at (name ∷ names) definitions blocks same =
    let there : field_at new name (content new at) ≡ field_at old name (content old at) =
    field_same old new name (content new at) definitions blocks ∙ ap (field_at old name) same in
    ap (λ (found : Result Locus Trap).
    (found >>= λ next. follow new next names) >>= λ at. Ok (content new at)) there
    ∙ then_same old new names (field_at old name (content old at))
    (field_in old name (content old at))
    (λ next is. follow_same old new next names definitions blocks
    (content_same old new next blocks is))

pub value_same : (old new : Memory) (watched : Watched) → Keeps watched old new →
    value_of new watched ≡ value_of old watched
value_same old new (WatchedChain []) kept = refl
value_same old new (WatchedChain (first ∷ [])) kept = ap (λ (n : ℕ). Some n) (kept.bug refl)
value_same old new (WatchedChain (first ∷ name ∷ names)) kept =
    ap (λ (r : Result ℕ Trap). result_ok r)
    (let has = lt-ltb 1 (length (first ∷ name ∷ names)) (omega arith) in
    follow_same old new (Bug first) (name ∷ names) (kept.definitions has) (kept.blocks has)
    (kept.bug refl))
value_same old new (WatchedWord at) kept =
    ap (λ b. slice_get (block_at b at.place) at.word) (kept.blocks refl)

-- ---- and a step keeps it
keeps_same : (watched : Watched) (memory : Memory) → Keeps watched memory memory
keeps_same watched memory =
    record { bug = λ _. refl; definitions = λ _. refl; blocks = λ _. refl }

-- what is read by fields is read in blocks
in_blocks : (watched : Watched) → reads_fields watched ≡ true → reads_blocks watched ≡ true
in_blocks (WatchedChain chain) by = by
in_blocks (WatchedWord at) by = absurd (true≢false (sym by))

-- where it is not read in blocks all but the bugs may change
without_blocks : (watched : Watched) (old new : Memory) → reads_blocks watched ≡ false →
    new.bugs ≡ old.bugs → Keeps watched old new
without_blocks watched old new none bugs = record {
  bug = λ _. ap (λ (words : List ℕ). slice_index words (index_of (first_of watched))) bugs;
  definitions = λ by. absurd (true≢false (sym (in_blocks watched by) ∙ none));
  blocks = λ are. absurd (true≢false (sym are ∙ none));
}

-- and where it is not read by fields, all definitions
without_fields : (watched : Watched) (old new : Memory) → reads_fields watched ≡ false →
    new.bugs ≡ old.bugs → new.blocks ≡ old.blocks → Keeps watched old new
without_fields watched old new none bugs blocks = record {
  bug = λ _. ap (λ (words : List ℕ). slice_index words (index_of (first_of watched))) bugs;
  definitions = λ by. absurd (true≢false (sym by ∙ none));
  blocks = λ _. blocks;
}

-- what is assigned to another bug
assign_bug : (watched : Watched) (old new : Memory) (bug number : ℕ) → Keeps watched old new →
    changes_by (bug ∷ []) watched ≡ false → Keeps watched old (assign new (Bug bug) number)
assign_bug (WatchedChain []) old new bug number kept other = absurd (true≢false other)
assign_bug (WatchedChain (first ∷ fields)) old new bug number kept other = record {
  bug = λ from. get_or-set_other new.bugs (index_of bug) (index_of first) (number % 2 ^ word_bits) 0
      (eqb-false (index_of first) (index_of bug) other)
      ∙ kept.bug from;
  definitions = kept.definitions;
  blocks = kept.blocks;
}
assign_bug (WatchedWord at) old new bug number kept other = record {
  bug = λ from. absurd (true≢false (sym from));
  definitions = kept.definitions;
  blocks = kept.blocks;
}

-- or to a field
assign_field : (watched : Watched) (old new : Memory) (at : Locus) (number : ℕ) →
    Keeps watched old new → IsInBlock at → reads_blocks watched ≡ false →
    Keeps watched old (assign new at number)
assign_field watched old new (Bug bug) number kept is none = absurd (true≢false (sym is))
assign_field watched old new (Field place window) number kept is none = record {
  bug = kept.bug;
  definitions = kept.definitions;
  blocks = λ are. absurd (true≢false (sym are ∙ none));
}

-- so what is assigned to a chain that does not change it
assigned : (watched : Watched) (old new there : Memory) (target : List ℕ) (at : Locus)
    (number : ℕ) → Keeps watched old new → locus there target ≡ Ok at →
    changes_by target watched ≡ false → Keeps watched old (assign new at number)
assigned watched old new there [] at number kept is other =
    absurd (none-some at (ap (λ (r : Result Locus Trap). result_ok r) is))
assigned watched old new there (bug ∷ []) at number kept is other =
    IfOk-at_ok (λ (l : Locus). Keeps watched old (assign new l number)) is
    (assign_bug watched old new bug number kept other)
assigned watched old new there (bug ∷ name ∷ names) at number kept is other =
    assign_field watched old new at number kept
    (IfOk-at_ok IsInBlock is (follow_in there (Bug bug) name names)) other

-- ---- action by action
-- an action may change what is watched
abbrev action_changes_one : Watched → Action → Bool
action_changes_one watched (operation op) = changes op watched
action_changes_one watched action = false

-- what is done at a locus is given how it was found
itself : (found : Result Locus Trap) → IfOk found (λ at. found ≡ Ok at)
itself (Ok at) = refl
itself (Err trap) = tt

at_locus : {B : Type 0} (P : B → Type 0) (memory : Memory) (chain : List ℕ)
    (second : Locus → Result B Trap) →
    ((at : Locus) → locus memory chain ≡ Ok at → IfOk (second at) P) →
    IfOk (locus memory chain >>= second) P
at_locus P memory chain second each =
    after (λ at. locus memory chain ≡ Ok at) P (locus memory chain) second
    (itself (locus memory chain)) each

either : {A : Type 0} (P : A → Type 0) (b : Bool) (one other : A) → P one → P other →
    P (if b then one else other)
either P true one other is is_other = is
either P false one other is is_other = is_other

module _ (parameters : RunParameters) (choice : Choice) (watched : Watched) (memory : Memory) where
  abbrev Leaves : ActionResult → Type 0
  Leaves action_result = Keeps watched memory action_result.memory

  same : Keeps watched memory memory
  same = keeps_same watched memory

  combined : (calculation : Calculation) (chain : List ℕ) (operand : Operand) →
      changes_by chain watched ≡ false → IfOk (combine calculation chain operand memory) Leaves
  combined calculation chain operand other =
      at_locus Leaves memory chain _
      (λ at is. both Leaves (read memory operand) _
      (λ value. both Leaves (calculated calculation (width at) (content memory at) value) _
      (λ number. assigned watched memory memory memory chain at number same is other)))

  printed : (text : List ℕ) → IfOk (print parameters text memory) Leaves
  printed text =
      chosen Leaves (nat_le (length memory.output + length text) parameters.limits.output) _ _
      (record { bug = λ _. refl; definitions = λ _. refl; blocks = λ _. refl }) tt

  refused : (trap : Trap) (label : Option ℕ) → IfOk (refuse trap label memory) Leaves
  refused trap None = tt
  refused trap (Some label) = same

  placed : (place label : Option ℕ) (use_of : ℕ → Result ActionResult Trap) →
      ((place : ℕ) → IfOk (use_of place) Leaves) →
      IfOk (with_place place label memory use_of) Leaves
  placed None label use_of each = refused StoreFull label
  placed (Some place) label use_of each = each place

  -- a block more, and its place is assigned
  new-block : (words : List ℕ) (chain : List ℕ) (at : Locus) (place : ℕ) →
      reads_blocks watched ≡ false → locus memory chain ≡ Ok at →
      changes_by chain watched ≡ false → Keeps watched memory (new_block memory words at place)
  new-block words chain at place none is other =
      assigned watched memory
      (record memory { blocks = finite.insert memory.blocks place words }) memory chain at place
      (without_blocks watched memory
      (record memory { blocks = finite.insert memory.blocks place words }) none refl)
      is other

  old-kept : (old : List ℕ) (number : ℕ) (later : Memory) → Keeps watched memory later →
      changes_by old watched ≡ false → IfOk (keep (Some old) number later) (Keeps watched memory)
  old-kept old number later kept other =
      at_locus (Keeps watched memory) later old _
      (λ at is. assigned watched memory later later old at number kept is other)

  got : (chain : List ℕ) (size : Operand) (old : Option (List ℕ)) (label : Option ℕ) →
      changes (op.Get chain size old label) watched ≡ false →
      IfOk (row parameters choice (op.Get chain size old label) memory) Leaves
  got chain size None label other =
      let parts = or_parts (reads_blocks watched) (changes_by chain watched) other in
      at_locus Leaves memory chain _
      (λ at is. both Leaves (read memory size) _
      (λ wanted. both Leaves (level_for wanted) _
      (λ level. placed (choice level) label (get level at None memory)
      (λ place. new-block (replicate (2 ^ level) 0) chain at place parts.0 is parts.1))))
  got chain size (Some old) label other =
      let parts =
      or_parts (reads_blocks watched) (changes_by chain watched || changes_by old watched) other in
      let chains = or_parts (changes_by chain watched) (changes_by old watched) parts.1 in
      at_locus Leaves memory chain _
      (λ at is. both Leaves (read memory size) _
      (λ wanted. both Leaves (level_for wanted) _
      (λ level. placed (choice level) label (get level at (Some old) memory)
      (λ place. after (Keeps watched memory) Leaves
      (keep (Some old) (content memory at)
      (new_block memory (replicate (2 ^ level) 0) at place)) _
      (old-kept old (content memory at) (new_block memory (replicate (2 ^ level) 0) at place)
      (new-block (replicate (2 ^ level) 0) chain at place parts.0 is chains.0) chains.1)
      (λ later kept. kept)))))

  duplicated : (chain : List ℕ) (block : Operand) (label : Option ℕ) →
      changes (op.Duplicate chain block label) watched ≡ false →
      IfOk (row parameters choice (op.Duplicate chain block label) memory) Leaves
  duplicated chain block label other =
      let parts = or_parts (reads_blocks watched) (changes_by chain watched) other in
      at_locus Leaves memory chain _
      (λ at is. both Leaves (read memory block) _
      (λ from. both Leaves (level_at memory from) _
      (λ level. placed (choice level) label (duplicate level from at memory)
      (λ place. new-block (block_at memory.blocks from) chain at place parts.0 is parts.1))))

  freed-kept : (chain : List ℕ) (value : Option Operand) →
      changes (op.Free chain value) watched ≡ false →
      IfOk (row parameters choice (op.Free chain value) memory) Leaves
  freed-kept chain value other =
      let parts = or_parts (reads_blocks watched) (changes_by chain watched) other in
      at_locus Leaves memory chain _
      (λ at is. both Leaves (level_at memory (content memory at)) _
      (λ level. both Leaves (read_or_0 memory value) _
      (λ number.
      let rest : Memory =
      record memory { blocks = finite.remove memory.blocks (content memory at) } in
      let kept = without_blocks watched memory rest parts.0 refl in
      either (Keeps watched memory) (lies_in (content memory at) at) rest (assign rest at number)
      kept (assigned watched memory rest memory chain at number kept is parts.1))))

  taken : (chain : List ℕ) (count : Operand) (label : Option ℕ) →
      changes_by chain watched ≡ false →
      IfOk (row parameters choice (op.Input chain count label) memory) Leaves
  taken chain count label other =
      at_locus Leaves memory chain _
      (λ at is. both Leaves (read memory count) _
      (λ wanted. both Leaves (count_of wanted) _
      (λ characters. chosen Leaves (nat_le characters (length (left_of parameters memory))) _ _
      (assigned watched memory (record memory { taken = memory.taken + characters }) memory chain at
      (number_of (take characters (left_of parameters memory)))
      (record { bug = λ _. refl; definitions = λ _. refl; blocks = λ _. refl }) is other)
      (refused InputEnded label))))

  -- each operation but those that may change it
  row-kept : (operation : Op ℕ) → changes operation watched ≡ false →
      IfOk (row parameters choice operation memory) Leaves
  row-kept (op.Set chain operand) other = combined Set chain operand other
  row-kept (op.Add chain operand) other = combined Add chain operand other
  row-kept (op.Subtract chain operand) other = combined Subtract chain operand other
  row-kept (op.Multiply chain operand) other = combined Multiply chain operand other
  row-kept (op.Divide chain operand) other = combined Divide chain operand other
  row-kept (op.Remainder chain operand) other = combined Remainder chain operand other
  row-kept (op.And chain operand) other = combined And chain operand other
  row-kept (op.Or chain operand) other = combined Or chain operand other
  row-kept (op.ExclusiveOr chain operand) other = combined ExclusiveOr chain operand other
  row-kept (op.Complement chain operand) other = combined Complement chain operand other
  row-kept (op.ShiftLeft chain operand) other = combined ShiftLeft chain operand other
  row-kept (op.ShiftRight chain operand) other = combined ShiftRight chain operand other
  row-kept (op.Exchange one two) other =
      let parts = or_parts (changes_by one watched) (changes_by two watched) other in
      at_locus Leaves memory one _
      (λ here is. at_locus Leaves memory two _
      (λ there is_there.
      assigned watched memory (assign memory here (content memory there)) memory two there
      (content memory here)
      (assigned watched memory memory memory one here (content memory there) same is parts.0)
      is_there parts.1))
  row-kept (op.Define field word first last) other =
      both Leaves (read memory word) _
      (λ index. both Leaves (read memory first) _
      (λ from. both Leaves (read memory last) _
      (λ to.
      let window : Window = record { word = index; first = from; last = to } in
      chosen Leaves (is_window window) _ _
      (without_fields watched memory
      (record memory { definitions = slice_set memory.definitions field (Some window) }) other refl
      refl)
      tt)))
  row-kept (op.SaveContent chain) other =
      both Leaves (read memory (Chain chain)) _
      (λ content. both Leaves (push content memory.saved_contents) _
      (λ saved. record { bug = λ _. refl; definitions = λ _. refl; blocks = λ _. refl }))
  row-kept (op.RestoreContent chain) other =
      at_locus Leaves memory chain _
      (λ at is. both Leaves (pop memory.saved_contents) _
      (λ saved. assigned watched memory (record memory { saved_contents = saved.rest }) memory chain
      at saved.latest (record { bug = λ _. refl; definitions = λ _. refl; blocks = λ _. refl }) is other))
  row-kept (op.SaveDefinition field) other =
      both Leaves (push (slice_index_or memory.definitions field None) memory.saved_definitions) _
      (λ saved. record { bug = λ _. refl; definitions = λ _. refl; blocks = λ _. refl })
  row-kept (op.RestoreDefinition field) other =
      both Leaves (pop memory.saved_definitions) _
      (λ saved. without_fields watched memory
      (record memory {
        definitions = slice_set memory.definitions field saved.latest;
        saved_definitions = saved.rest;
      }) other refl refl)
  row-kept (op.Get chain size old label) other = got chain size old label other
  row-kept (op.Duplicate chain block label) other = duplicated chain block label other
  row-kept (op.Free chain value) other = freed-kept chain value other
  row-kept (op.Call called fail) other =
      chosen Leaves (has_room memory.returns) _ _ same tt
  row-kept (op.Input chain count label) other = taken chain count label other
  row-kept (op.PrintCharacters chain count) other =
      both Leaves (locus memory chain) _
      (λ at. both Leaves (read memory count) _
      (λ wanted. both Leaves (count_of wanted) _
      (λ characters. printed (last_characters characters (content memory at)))))
  row-kept (op.PrintDecimal chain) other =
      both Leaves (locus memory chain) _ (λ at. printed (decimal (content memory at)))
  row-kept (op.PrintOctal chain) other =
      both Leaves (locus memory chain) _ (λ at. printed (octal12 (content memory at)))
  row-kept (op.PrintText text) other = printed (map char_of text)
  row-kept op.PrintLine other = printed (codes "\n")

  -- ---- step by step
  done-kept : (returns : List Return) → IfOk (done returns memory) Leaves
  done-kept [] = same
  done-kept (latest ∷ earlier) = record { bug = λ _. refl; definitions = λ _. refl; blocks = λ _. refl }

  fail-kept : (returns : List Return) → IfOk (fail returns memory) Leaves
  fail-kept [] = same
  fail-kept (latest ∷ earlier) =
      both Leaves (ok_or latest.fail NoFailExit) _
      (λ label. record { bug = λ _. refl; definitions = λ _. refl; blocks = λ _. refl })

  exit-kept : (last : Exit ℕ) → IfOk (leave_by last memory) Leaves
  exit-kept Next = same
  exit-kept (Label statement) = same
  exit-kept Done = done-kept memory.returns
  exit-kept Fail = fail-kept memory.returns

  action-kept : (action : Action) → action_changes_one watched action ≡ false →
      IfOk (action_result_of parameters choice action memory) Leaves
  action-kept (condition cond tests) other = both Leaves (is_true cond tests memory) _ (λ answer. same)
  action-kept (operation op) other = row-kept op other
  action-kept (exit last) other = exit-kept last

  taken-kept : (action : Action) (at : Position) → action_changes_one watched action ≡ false →
      IfOk (taken_at parameters choice action at memory) Leaves
  taken-kept action at other =
      after Leaves Leaves (action_result_of parameters choice action memory) _
      (action-kept action other)
      (λ action_result kept.
      record { bug = kept.bug; definitions = kept.definitions; blocks = kept.blocks })

outcome_kept : (watched : Watched) (old : State) (result : Result ActionResult Trap) →
    IfOk result (λ (r : ActionResult). Keeps watched old.memory r.memory) →
    Keeps watched old.memory (outcome old result).memory
outcome_kept watched old (Ok action_result) kept = kept
outcome_kept watched old (Err trap) kept = keeps_same watched old.memory

after_kept : (rule : Rule) (context : RunContext) (old : Configuration) (watched : Watched)
    (last : Bool) → action_changes_one watched (action_at context.program old.state.at) ≡ false →
    Keeps watched old.state.memory
    (if last then old else next_configuration rule context old).state.memory
after_kept rule context old watched true other = keeps_same watched old.state.memory
after_kept rule context old watched false other =
    outcome_kept watched old.state (action_result_at context (pick_at rule context old) old.state)
    (taken-kept context.parameters (pick_at rule context old) watched old.state.memory
    (action_at context.program old.state.at) old.state.at other)

-- ---- and all that is watched
first_apart : (one : Watched) (others : List Watched) (action : Action) →
    action_changes (one ∷ others) action ≡ false →
    (action_changes_one one action ≡ false) × (action_changes others action ≡ false)
first_apart one others (condition cond tests) other = (refl, refl)
first_apart one others (operation op) other =
    or_parts (changes op one) (changes_some others op) other
first_apart one others (exit last) other = (refl, refl)

values_kept : (rule : Rule) (context : RunContext) (old : Configuration)
    (watched : List Watched) →
    action_changes watched (action_at context.program old.state.at) ≡ false →
    values_of watched (configuration_after rule context old).state.memory
    ≡ values_of watched old.state.memory
values_kept rule context old [] other = refl
values_kept rule context old (one ∷ others) other =
    let action = action_at context.program old.state.at in
    let after = (configuration_after rule context old).state.memory in
    let parts = first_apart one others action other in
    let kept : Keeps one old.state.memory after =
    after_kept rule context old one (is_last context old.state) parts.0 in
    ap (λ (v : Option ℕ). v ∷ values_of others after) (value_same old.state.memory after one kept)
    ∙ ap (λ (vs : List (Option ℕ)). value_of old.state.memory one ∷ vs)
    (values_kept rule context old others parts.1)

pub known_kept : (rule : Rule) (context : RunContext) (old : Configuration)
    (watched : List Watched) (table : List (List Bool)) → IsTable watched context.program table →
    says table old.state.at ≡ false →
    values_of watched (configuration_after rule context old).state.memory
    ≡ values_of watched old.state.memory
known_kept rule context old watched table known none =
    values_kept rule context old watched (known old.state.at none)

-- where the word of a block is kept, all blocks are
pub blocks_kept : (rule : Rule) (context : RunContext) (old : Configuration)
    (at : BlockWord) (table : List (List Bool)) →
    IsTable (WatchedWord at ∷ []) context.program table → says table old.state.at ≡ false →
    (configuration_after rule context old).state.memory.blocks ≡ old.state.memory.blocks
blocks_kept rule context old at table known none =
    let action = action_at context.program old.state.at in
    let parts = first_apart (WatchedWord at) [] action (known old.state.at none) in
    let kept : Keeps (WatchedWord at) old.state.memory (configuration_after rule context old).state.memory =
    after_kept rule context old (WatchedWord at) (is_last context old.state) parts.0 in
    kept.blocks refl
