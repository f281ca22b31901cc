-- The test of what is reached finds the end of every path, and of no other list.
use Rattle.std.proofs.Common.{◌≡◌, ℕ, zero, suc, ◌≤◌, Bool, true, ◌||◌, ◌&&◌, ◌==◌, List, [], ◌∷◌, map, length, inl, inr, ◌⊎◌, arith, ap, ◌∙◌, sym}
use Rattle.std.proofs.lemmas.Bool.{and_parts, and_from, or_cases, or_left, or_right}
use Rattle.std.proofs.lemmas.List.{length-map}
use Rattle.std.proofs.lemmas.List.Kept.{IsStrictlyIncreasing-filter}
use Rattle.std.specs.List.{Contains, filter, list_any}
use Rattle.std.specs.FinMap as places
use Rattle.l6_store.specs.Blocks.{IsLive}
use Rattle.l6_steps.specs.State.{Memory}
use Rattle.l6_draw.specs.Reach.{AreReachable, IsPath, IsReachable, held_by_bugs, held_in, is_reached, is_within, reached_places}
use Rattle.l6_draw.specs.Laws.{ReachIsDecided, ReachIsSettled}
use Rattle.l6_draw.proofs.Members.{any_gives, any_held, any_made, filter_has, filter_keeps, held_any}
use Rattle.l6_draw.proofs.Keys.{keys_rise, live_key, same_rising}
use Rattle.l6_draw.proofs.Counting.{all_pass, more_or_same}

-- whether a field of the block at a place holds another place
abbrev leads : Memory → ℕ → ℕ → Bool
leads memory before place = list_any (λ held. held == place) (held_in memory before)

abbrev from_block : Memory → ℕ → ℕ → Bool
from_block memory count place =
    list_any (λ before. is_within memory count before && leads memory before place)
    (places.keys memory.blocks)

abbrev from_bug : Memory → ℕ → Bool
from_bug memory place = list_any (λ held. held == place) (held_by_bugs memory)

-- where a path of so many places ends a block begins
within_live : (memory : Memory) (count place : ℕ) → is_within memory count place ≡ true
    → IsLive memory.blocks place
within_live memory zero place is = absurd (cc)
within_live memory (suc count) place is =
    (and_parts (places.contains_key memory.blocks place)
    (from_bug memory place || from_block memory count place) is).0

within_bug : (memory : Memory) (count place : ℕ) → IsLive memory.blocks place
    → Contains (held_by_bugs memory) place → is_within memory (suc count) place ≡ true
within_bug memory count place live held =
    and_from (places.contains_key memory.blocks place)
    (from_bug memory place || from_block memory count place) live
    (or_left (from_bug memory place) (from_block memory count place)
    (any_held (held_by_bugs memory) place held))

within_block : (memory : Memory) (count before place : ℕ) → IsLive memory.blocks place
    → is_within memory count before ≡ true → Contains (held_in memory before) place
    → is_within memory (suc count) place ≡ true
within_block memory count before place live reached held =
    and_from (places.contains_key memory.blocks place)
    (from_bug memory place || from_block memory count place) live
    (or_right (from_bug memory place) (from_block memory count place)
    (any_made (λ other. is_within memory count other && leads memory other place)
    (places.keys memory.blocks) before
    (live_key memory.blocks before (within_live memory count before reached))
    (and_from (is_within memory count before) (leads memory before place) reached
    (any_held (held_in memory before) place held))))

-- the block before the last on a path
record Before (memory : Memory) (count place : ℕ) : Type 0 where
  before : ℕ
  reached : is_within memory count before ≡ true
  held : Contains (held_in memory before) place

before_of : (memory : Memory) (count place : ℕ) → from_block memory count place ≡ true
    → Before memory count place
before_of memory count place is =
    let found = any_gives (λ other. is_within memory count other && leads memory other place)
    (places.keys memory.blocks) is in
    let both = and_parts (is_within memory count found.0) (leads memory found.0 place) found.2 in
    record {
      before = found.0;
      reached = both.0;
      held = held_any (held_in memory found.0) place both.1;
    }

within_cases : (memory : Memory) (count place : ℕ) → is_within memory (suc count) place ≡ true
    → Contains (held_by_bugs memory) place ⊎ Before memory count place
within_cases memory count place is =
    let both = and_parts (places.contains_key memory.blocks place)
    (from_bug memory place || from_block memory count place) is in
    elim (or_cases (from_bug memory place) (from_block memory count place) both.1)
    as (λ _. Contains (held_by_bugs memory) place ⊎ Before memory count place) [
      | inl bug ↦ inl (held_any (held_by_bugs memory) place bug)
      | inr block ↦ inr (before_of memory count place block)
    ]

-- a path ends where the test says so
pub within_reached : (memory : Memory) (count place : ℕ) → is_within memory count place ≡ true
    → IsReachable memory place
within_reached memory zero place is = absurd (cc)
within_reached memory (suc count) place is =
    let live = within_live memory (suc count) place is in
    elim (within_cases memory count place is) as (λ _. IsReachable memory place) [
      | inl bug ↦ ([], (bug, live))
      | inr block ↦
          (let path = within_reached memory count block.before block.reached in
          (block.before ∷ path.0, (block.held, live, path.1)))
    ]

-- a longer path may be as short
grows : (memory : Memory) (count place : ℕ) → is_within memory count place ≡ true
    → is_within memory (suc count) place ≡ true
grows memory zero place is = absurd (cc)
grows memory (suc count) place is =
    let live = within_live memory (suc count) place is in
    elim (within_cases memory count place is) as
    (λ _. is_within memory (suc (suc count)) place ≡ true) [
      | inl bug ↦ within_bug memory (suc count) place live bug
      | inr block ↦ within_block memory (suc count) block.before place live
          (grows memory count block.before block.reached) block.held
    ]

-- nothing further is reached by one place more
record Closed (memory : Memory) (count : ℕ) : Type 0 where
  stays : (place : ℕ) → is_within memory (suc count) place ≡ true
      → is_within memory count place ≡ true

closed_next : (memory : Memory) (count : ℕ) → Closed memory count → Closed memory (suc count)
closed_next memory count closed = record {
  stays = λ place is.
      let live = within_live memory (suc (suc count)) place is in
      elim (within_cases memory (suc count) place is) as
      (λ _. is_within memory (suc count) place ≡ true) [
        | inl bug ↦ within_bug memory count place live bug
        | inr block ↦ within_block memory count block.before place live
            (closed.stays block.before block.reached) block.held
      ];
}

-- then every path's end is found
closed_finds : (memory : Memory) (count : ℕ) → Closed memory count → (older : List ℕ) (place : ℕ)
    → IsPath memory (place ∷ older) → is_within memory count place ≡ true
closed_finds memory count closed [] place path =
    closed.stays place (within_bug memory count place path.1 path.0)
closed_finds memory count closed (before ∷ older) place path =
    closed.stays place
    (within_block memory count before place path.1
    (closed_finds memory count closed older before path.2) path.0)

-- each place more finds a further block, until nothing further is reached
abbrev found : Memory → ℕ → ℕ
found memory count = length (filter (is_within memory count) (places.keys memory.blocks))

closed_by : (memory : Memory) (count : ℕ)
    → ((place : ℕ) → Contains (places.keys memory.blocks) place
    → is_within memory (suc count) place ≡ true → is_within memory count place ≡ true)
    → Closed memory count
closed_by memory count stays = record {
  stays = λ place is.
      stays place (live_key memory.blocks place (within_live memory (suc count) place is)) is;
}

finds_more : (memory : Memory) (count : ℕ) → count ≤ found memory count
    → Closed memory (suc count) ⊎ (suc count ≤ found memory (suc count))
finds_more memory count many =
    elim (more_or_same (is_within memory count) (is_within memory (suc count)) (grows memory count)
    (places.keys memory.blocks))
    as (λ _. Closed memory (suc count) ⊎ (suc count ≤ found memory (suc count))) [
      | inl none ↦ inl (closed_next memory count (closed_by memory count none))
      | inr more ↦ inr (omega arith)
    ]

closed_or_more : (memory : Memory) (count : ℕ) → Closed memory count ⊎ (count ≤ found memory count)
closed_or_more memory zero = inr (omega arith)
closed_or_more memory (suc count) =
    elim (closed_or_more memory count)
    as (λ _. Closed memory (suc count) ⊎ (suc count ≤ found memory (suc count))) [
      | inl closed ↦ inl (closed_next memory count closed)
      | inr many ↦ finds_more memory count many
    ]

block_count : (memory : Memory)
    → length (places.keys memory.blocks) ≡ places.len memory.blocks
block_count memory =
    length-map (places.entries memory.blocks) (λ e. e.0) ∙ sym (places.len-entries memory.blocks)

closed_at_last : (memory : Memory) → Closed memory (places.len memory.blocks)
closed_at_last memory =
    elim (closed_or_more memory (places.len memory.blocks))
    as (λ _. Closed memory (places.len memory.blocks)) [
      | inl closed ↦ closed
      | inr many ↦ closed_by memory (places.len memory.blocks) (λ place is _.
          all_pass (is_within memory (places.len memory.blocks)) (places.keys memory.blocks)
          (let count = block_count memory in omega arith) place is)
    ]

pub reached_is : (memory : Memory) (place : ℕ) → is_reached memory place ≡ true
    → IsReachable memory place
unfolding is_reached
reached_is memory place is = within_reached memory (places.len memory.blocks) place is

pub reached_exactly : (memory : Memory) (place : ℕ) → IsReachable memory place
    → is_reached memory place ≡ true
unfolding is_reached
reached_exactly memory place path =
    closed_finds memory (places.len memory.blocks) (closed_at_last memory) path.0 place path.1

pub reached_live : (memory : Memory) (place : ℕ) → is_reached memory place ≡ true
    → IsLive memory.blocks place
unfolding is_reached
reached_live memory place is = within_live memory (places.len memory.blocks) place is

pub reach_decided : ReachIsDecided
reach_decided memory place = (reached_is memory place, reached_exactly memory place)

pub are_reached : (memory : Memory) → AreReachable memory (reached_places memory)
are_reached memory = record {
  rising = IsStrictlyIncreasing-filter (is_reached memory) (places.keys memory.blocks)
      (keys_rise memory.blocks);
  each = λ place. (
    (λ is. reached_is memory place
        (filter_has (is_reached memory) (places.keys memory.blocks) place is).1),
    (λ path.
        let passes = reached_exactly memory place path in
        filter_keeps (is_reached memory) (places.keys memory.blocks) place
        (live_key memory.blocks place (reached_live memory place passes)) passes),
  );
}

pub reach_settled : ReachIsSettled
reach_settled memory =
    let ours = are_reached memory in (
      ours,
      λ others theirs.
          same_rising others (reached_places memory) theirs.rising ours.rising
          (λ place is. (ours.each place).1 ((theirs.each place).0 is))
          (λ place is. (theirs.each place).1 ((ours.each place).0 is)),
    )
