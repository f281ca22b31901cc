-- What is known of the rows of a table.
use Rattle.std.proofs.Common.{◌≡◌, ℕ, zero, suc, ◌+◌, ◌-◌, ◌<◌, Bool, true, false, List, [], length, slice_get, slice_index_or, slice_set, replicate, refl, sym, ap, ◌∙◌, arith, inl, inr, true≢false, get_or, if◌then◌else◌}
use Rattle.std.proofs.lemmas.Bool.{cases_lt, ne_eqb}
use Rattle.std.proofs.lemmas.Bool.Decides.{eqb_tells}
use Rattle.std.proofs.lemmas.Grind.{get_or-set_at}
use Rattle.std.proofs.lemmas.List.{get_or-set_other, get_or_past, length-set}
use Rattle.std.proofs.lemmas.Option.{slice_get_past, slice_get_read}
use Rattle.l6_prog.specs.Statement.{Parts}
use Rattle.l6_prog.specs.declared.operation.Op.{Op}
use Rattle.l6_steps.specs.Row.{condition}
use Rattle.l6_steps.specs.Step.{action_following, action_of}
use Rattle.l6_history.specs.declared.watched.Watched.{Watched}
use Rattle.l6_history.specs.inner.Changing.{IsRow, IsTable, action_changes, changes_some}

-- ---- a row
-- where nothing is said to change nothing, all that is said is so
true_all : (count index : ℕ) → slice_index_or (replicate count true) index true ≡ true
true_all zero index = refl
true_all (suc count) zero = refl
true_all (suc count) (suc index) = true_all count index

pub first_row : (watched : List Watched) (statement : Parts) (count : ℕ) →
    IsRow watched statement (replicate count true)
first_row watched statement count number none =
    absurd (true≢false (sym (true_all count number) ∙ none))

-- the entry that was set
set_here : (row : List Bool) (number : ℕ) (entry : Bool) →
    slice_index_or (slice_set row number entry) number true ≡ false → entry ≡ false
set_here row number entry none = elim (cases_lt number (length row)) as (λ _. entry ≡ false) [
  | inl below ↦ sym (get_or-set_at row number number entry true refl below) ∙ none
  | inr past ↦
      (let same = length-set row number entry in
      absurd (true≢false
      (sym (get_or_past (slice_set row number entry) number true (omega (arith, same, past)))
      ∙ none)))
]

-- one more entry is known
pub set_row : (watched : List Watched) (statement : Parts) (row : List Bool) (number : ℕ)
    (entry : Bool) → IsRow watched statement row →
    (entry ≡ false → action_changes watched (action_of statement number) ≡ false) →
    IsRow watched statement (slice_set row number entry)
set_row watched statement row number entry known is other none =
    elim (eqb_tells other number) as (λ _. action_changes watched (action_of statement other) ≡ false) [
      | inl here ↦
          (let at : other ≡ number = here.1 in
          ap (λ n. action_changes watched (action_of statement n)) at
          ∙ is (set_here row number entry
          (ap (λ n. slice_index_or (slice_set row number entry) n true) (sym at) ∙ none)))
      | inr elsewhere ↦
          known other (sym (get_or-set_other row number other entry true elsewhere.1) ∙ none)
    ]

-- the action after the last operation is the exit
pub exit_changes : (watched : List Watched) (statement : Parts) →
    action_changes watched (action_of statement (length statement.operations + 1)) ≡ false
exit_changes watched statement =
    let count = length statement.operations in
    let back : count + 1 - 1 ≡ count = omega arith in
    ap (λ b. action_changes watched (if b then condition statement.condition statement.tests
    else action_following statement.exit (slice_get statement.operations (count + 1 - 1))))
    (ne_eqb (count + 1) 0 (λ same. omega (arith, same)))
    ∙ ap (λ found. action_changes watched (action_following statement.exit found))
    (ap (slice_get statement.operations) back
    ∙ slice_get_past statement.operations count (omega arith))

-- and before it, each is an operation
pub operation_changes : (watched : List Watched) (statement : Parts) (index : ℕ) (op : Op ℕ) →
    index < length statement.operations → op ≡ get_or statement.operations index op →
    action_changes watched (action_of statement (index + 1)) ≡ changes_some watched op
operation_changes watched statement index op within is =
    let back : index + 1 - 1 ≡ index = omega arith in
    ap (λ b. action_changes watched (if b then condition statement.condition statement.tests
    else action_following statement.exit (slice_get statement.operations (index + 1 - 1))))
    (ne_eqb (index + 1) 0 (λ same. omega (arith, same)))
    ∙ ap (λ found. action_changes watched (action_following statement.exit found))
    (ap (slice_get statement.operations) back
    ∙ slice_get_read statement.operations (length statement.operations) index op refl within is)

-- ---- a table
-- none of an action is said to change nothing at first
all_rows : (count entries statement action : ℕ) →
    slice_index_or (slice_index_or (replicate count (replicate entries true)) statement []) action true
    ≡ true
all_rows zero entries statement action = refl
all_rows (suc count) entries zero action = true_all entries action
all_rows (suc count) entries (suc statement) action = all_rows count entries statement action

pub first_table : (watched : List Watched) (program : List Parts) (count entries : ℕ) →
    IsTable watched program (replicate count (replicate entries true))
first_table watched program count entries at none =
    absurd (true≢false (sym (all_rows count entries at.statement at.action) ∙ none))
