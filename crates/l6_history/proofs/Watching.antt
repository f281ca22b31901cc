-- What a watch sees, by the stop for which it is made.
use Rattle.std.proofs.Common.{◌≡◌, ℕ, Bool, true, false, List, [], ◌∷◌, Option, Some, None, refl, sym, ap, ◌∙◌, arith, length}
use Rattle.std.specs.Prelude.{◌==◌, ◌&&◌, ◌||◌, is_some}
use Rattle.std.specs.List.{list_any}
use Rattle.std.proofs.Math.Bool.{and-false, or-false}
use Rattle.std.proofs.lemmas.Bool.{or_parts, true≢false}
use Rattle.std.proofs.lemmas.List.{length-map}
use Rattle.l6_steps.specs.State.{State}
use Rattle.l6_history.specs.Stop.{Stop, breaks_at, changes_between, differs, is_shallow, is_wanted, meets, some_differ, stops_at, value_of, values_of}
use Rattle.l6_history.specs.declared.watched.Watched.{Watched}
use Rattle.l6_history.specs.declared.watched.Watched.TheVariants.{Chain}
use Rattle.l6_history.specs.inner.Seeking.{ComparesValues, goal_of}
use Rattle.l6_history.specs.inner.Watches.{BugWatch, ChainWatch, IsForBreakpoints, bug_changed, chains_changed}
use Rattle.l6_history.proofs.Sought.{none_breakpoint}
use Rattle.l6_history.proofs.ValueLists.{none_differ, same_values}

pub none_watched : (stop : Stop) (watched : List Watched) → watched ≡ stop.watched →
    length watched ≡ 0 → stop.watched ≡ []
none_watched stop [] same none = sym same
none_watched stop (one ∷ others) same none = absurd (omega (arith, none))

-- ---- states
-- without a depth, and stops at each statement, one stops at breakpoints alone
not_shallow : (depth : Option ℕ) (state : State) → is_some depth ≡ false →
    is_shallow depth state ≡ false
not_shallow None state none = refl
not_shallow (Some depth) state none = absurd (cc)

not_further : (each : Bool) (depth : Option ℕ) (state : State) → (each || is_some depth) ≡ false →
    is_wanted each depth state ≡ false
not_further true depth state none = absurd (true≢false none)
not_further false depth state none = not_shallow depth state none

pub near_stops : (stop : Stop) (state : State) → IsForBreakpoints stop →
    breaks_at stop state ≡ stops_at stop state
near_stops stop state made =
    sym (or-false (breaks_at stop state))
    ∙ ap (λ b. breaks_at stop state || b) (sym (not_further stop.each stop.depth state made.near))

-- where there is no such state, one stops at none
pub no_place : (stop : Stop) (state : State) →
    (list_any (λ breakpoint. breakpoint) stop.breakpoints || (stop.each || is_some stop.depth)) ≡ false →
    stops_at stop state ≡ false
no_place stop state none =
    let parts = or_parts (list_any (λ breakpoint. breakpoint) stop.breakpoints)
    (stop.each || is_some stop.depth) none in
    let further = is_wanted stop.each stop.depth state in
    ap (λ b. ((state.at.action == 0 && b) && meets stop.tests state) || further)
    (none_breakpoint stop.breakpoints state.at.statement parts.0)
    ∙ ap (λ b. (b && meets stop.tests state) || further) (and-false (state.at.action == 0))
    ∙ not_further stop.each stop.depth state parts.1

-- ---- values
-- where nothing is watched nothing changes
pub none_changes : (stop : Stop) (before there : State) → stop.watched ≡ [] →
    false ≡ changes_between stop before there
none_changes stop before there none =
    ap (λ (watched : List Watched). some_differ (values_of watched before.memory)
    (values_of watched there.memory)) (sym none)

-- what a bug holds is compared
pub bug_changes : (watch : BugWatch) (stop : Stop) (before there : State) →
    stop.watched ≡ Chain (watch.bug ∷ []) ∷ [] →
    Some watch.word ≡ value_of before.memory (Chain (watch.bug ∷ [])) →
    bug_changed watch there ≡ changes_between stop before there
bug_changes watch stop before there alone held =
    let value = value_of there.memory (Chain (watch.bug ∷ [])) in
    sym (or-false (differs (Some watch.word) value))
    ∙ ap (λ (kept : Option ℕ). some_differ (kept ∷ []) (value ∷ [])) held
    ∙ ap (λ (watched : List Watched). some_differ (values_of watched before.memory)
    (values_of watched there.memory)) (sym alone)

-- what chains and words read as is compared
pub chains_change : (watch : ChainWatch) (stop : Stop) (before there : State) → watch.stop ≡ stop →
    watch.values ≡ values_of stop.watched before.memory →
    chains_changed watch there ≡ changes_between stop before there
chains_change watch stop before there same read =
    ap (λ (values : List (Option ℕ)). some_differ values (values_of watch.stop.watched there.memory))
    read
    ∙ ap (λ (s : Stop). some_differ (values_of stop.watched before.memory)
    (values_of s.watched there.memory)) same

-- nothing differs from itself
pub none_changed : (stop : Stop) (state : State) → changes_between stop state state ≡ false
none_changed stop state = same_values (values_of stop.watched state.memory)

-- as long as nothing has changed, what changes later does so from either state
pub changes_alike : (stop : Stop) (one other there : State) → changes_between stop one other ≡ false →
    changes_between stop other there ≡ changes_between stop one there
changes_alike stop one other there same =
    ap (λ (values : List (Option ℕ)). some_differ values (values_of stop.watched there.memory))
    (sym (none_differ (values_of stop.watched one.memory) (values_of stop.watched other.memory)
    (length-map stop.watched (value_of one.memory)
    ∙ sym (length-map stop.watched (value_of other.memory))) same))

-- so a stop compares values alone
pub stops_compare : (stop : Stop) → ComparesValues (goal_of stop)
stops_compare stop = record { unchanged = none_changed stop; alike = changes_alike stop }
