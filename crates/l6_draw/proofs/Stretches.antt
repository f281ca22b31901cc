-- The stretches of a store are whole, and lie side by side.
use Rattle.std.proofs.Common.{◌≡◌, ℕ, ◌+◌, ◌-◌, ◌<◌, ◌≤◌, List, [], ◌∷◌, length, inl, inr, ◌⊎◌, refl, arith, ap, sym, subst}
use Rattle.std.specs.List.{AllByRecursion, Contains}
use Rattle.std.specs.List.Sorted.{IsStrictlySortedBy}
use Rattle.std.specs.Option.{is_some, unwrap_or}
use Rattle.std.specs.Ordering.{nat_cmp}
use Rattle.std.specs.FinMap as places
use Rattle.l6_word.specs.Numerals.{unit_size}
use Rattle.l6_store.specs.Blocks.{Blocks, Fits, IsLive, LiesIn, block_at, end_of}
use Rattle.l6_store.proofs.Live.{live_words}
use Rattle.l6_steps.specs.State.{Memory}
use Rattle.l6_draw.specs.Laws.{AreSideBySide, IsFreeRun, IsWhole, MapIsWhole}
use Rattle.l6_draw.specs.StoreMap.{size_at, stretches_from}
use Rattle.l6_draw.proofs.Keys.{below_later, key_live, keys_sorted, live_key}
use Rattle.l6_draw.proofs.Members.{first_in, first_or_later, later_in}
use Rattle.l6_draw.proofs.Scanning.{live_above, live_apart, live_some, live_within}

-- what is true of the blocks that are left, after a place: they rise from there on, all others end
-- before it, and the store begins there or a word of a block is before it
record Left (units : ℕ) (memory : Memory) (place : ℕ) (starts : List ℕ) : Type 0 where
  sorted : IsStrictlySortedBy nat_cmp starts
  live : (start : ℕ) → Contains starts start → IsLive memory.blocks start
  above : (start : ℕ) → Contains starts start → place ≤ start
  others : (start : ℕ) → IsLive memory.blocks start
      → Contains starts start ⊎ (start + size_at memory start ≤ place)
  begins : (place ≡ unit_size) ⊎ LiesIn memory.blocks (place - 1)
  within : place ≤ end_of units

last_word : (memory : Memory) (start : ℕ) → IsLive memory.blocks start → 0 < size_at memory start
    → LiesIn memory.blocks (start + size_at memory start - 1)
last_word memory start live some = record {
  start = start;
  words = block_at memory.blocks start;
  is = live_words memory.blocks start live;
  from = omega arith;
  below = omega arith;
}

left_following : (units : ℕ) (memory : Memory) → Fits units memory.blocks → (place start : ℕ)
    (starts : List ℕ) → Left units memory place (start ∷ starts)
    → Left units memory (start + size_at memory start) starts
unfolding IsStrictlySortedBy
left_following units memory fits place start starts left =
    let here = left.live start (first_in start starts) in
    let first = left.above start (first_in start starts) in
    record {
      sorted = left.sorted.1;
      live = λ other is. left.live other (later_in start other starts is);
      above = λ other is.
          live_apart units memory.blocks fits start other here
          (left.live other (later_in start other starts is))
          (below_later start other starts left.sorted.0 is);
      others = λ other live.
          elim (left.others other live)
          as (λ _. Contains starts other
          ⊎ (other + size_at memory other ≤ start + size_at memory start)) [
            | inl among ↦ elim (first_or_later start other starts among)
                as (λ _. Contains starts other
                ⊎ (other + size_at memory other ≤ start + size_at memory start)) [
                  | inl same ↦
                      inr (let size = ap (size_at memory) same in omega arith)
                  | inr later ↦ inl later
                ]
            | inr before ↦ inr (omega arith)
          ];
      begins = inr (last_word memory start here (live_some units memory.blocks fits start here));
      within = live_within units memory.blocks fits start here;
    }

-- no block has a word between the place and the next block
lies_live : (blocks : Blocks) (place : ℕ) (lies : LiesIn blocks place) → IsLive blocks lies.start
lies_live blocks place lies = ap is_some lies.is

lies_size : (blocks : Blocks) (place : ℕ) (lies : LiesIn blocks place)
    → length (block_at blocks lies.start) ≡ length lies.words
lies_size blocks place lies = ap (λ found. length (unwrap_or found [])) lies.is

none_between : (units : ℕ) (memory : Memory) (place end : ℕ) (starts : List ℕ)
    → Left units memory place starts
    → ((start : ℕ) → Contains starts start → end ≤ start) → (at : ℕ) → place ≤ at → at < end
    → LiesIn memory.blocks at → ⊥
none_between units memory place end starts left far at from below lies =
    let size = lies_size memory.blocks at lies in
    let inside = lies.below in
    let begun = lies.from in
    elim (left.others lies.start (lies_live memory.blocks at lies)) as (λ _. ⊥) [
      | inl among ↦ (let later = far lies.start among in omega arith)
      | inr before ↦ omega arith
    ]

next_far : (units : ℕ) (memory : Memory) (place start : ℕ) (starts : List ℕ)
    → Left units memory place (start ∷ starts) → (other : ℕ) → Contains (start ∷ starts) other
    → start ≤ other
unfolding IsStrictlySortedBy
next_far units memory place start starts left other is =
    elim (first_or_later start other starts is) as (λ _. start ≤ other) [
      | inl same ↦ omega arith
      | inr later ↦ (let below = below_later start other starts left.sorted.0 later in omega arith)
    ]

run_up_to : (units : ℕ) (memory : Memory) (place end : ℕ) (starts : List ℕ)
    → Left units memory place starts → ((start : ℕ) → Contains starts start → end ≤ start)
    → (end ≡ end_of units) ⊎ IsLive memory.blocks end → 0 < end - place
    → IsFreeRun units memory.blocks place (end - place)
run_up_to units memory place end starts left far ends some =
    let whole : place + (end - place) ≡ end = omega arith in
    record {
      free = λ at from below lies.
          none_between units memory place end starts left far at from (omega arith) lies;
      begins = left.begins;
      ends = subst (λ (p : ℕ). (p ≡ end_of units) ⊎ IsLive memory.blocks p) (sym whole) ends;
    }

each_whole : (units : ℕ) (memory : Memory) → Fits units memory.blocks → (place : ℕ)
    (starts : List ℕ) → Left units memory place starts
    → AllByRecursion (IsWhole units memory) (stretches_from memory place (end_of units) starts)
each_whole units memory fits place [] left = (
  run_up_to units memory place (end_of units) [] left
      (λ start is. absurd (let none = is.1 in omega arith))
      (inl refl),
  tt,
)
each_whole units memory fits place (start ∷ starts) left =
    let here = left.live start (first_in start starts) in (
      run_up_to units memory place start (start ∷ starts) left
          (next_far units memory place start starts left) (inr here),
      (
        (here, refl),
        each_whole units memory fits (start + size_at memory start) starts
            (left_following units memory fits place start starts left),
      ),
    )

side_by_side : (units : ℕ) (memory : Memory) → Fits units memory.blocks → (place : ℕ)
    (starts : List ℕ) → Left units memory place starts
    → AreSideBySide place (end_of units) (stretches_from memory place (end_of units) starts)
side_by_side units memory fits place [] left =
    (refl, (let within = left.within in omega arith))
side_by_side units memory fits place (start ∷ starts) left =
    let first = left.above start (first_in start starts) in
    let reaches : place + (start - place) ≡ start = omega arith in
    let rest = side_by_side units memory fits (start + size_at memory start) starts
    (left_following units memory fits place start starts left) in (
      refl,
      (
        sym reaches,
        subst (λ (p : ℕ). AreSideBySide (p + size_at memory start) (end_of units)
            (stretches_from memory (start + size_at memory start) (end_of units) starts))
            (sym reaches) rest,
      ),
    )

all_left : (units : ℕ) (memory : Memory) → Fits units memory.blocks
    → Left units memory unit_size (places.keys memory.blocks)
all_left units memory fits = record {
  sorted = keys_sorted memory.blocks;
  live = key_live memory.blocks;
  above = λ start is. live_above units memory.blocks fits start (key_live memory.blocks start is);
  others = λ start live. inl (live_key memory.blocks start live);
  begins = inl refl;
  within = omega arith;
}

pub map_whole : MapIsWhole
map_whole units memory fits = (
  each_whole units memory fits unit_size (places.keys memory.blocks) (all_left units memory fits),
  side_by_side units memory fits unit_size (places.keys memory.blocks) (all_left units memory fits),
)
