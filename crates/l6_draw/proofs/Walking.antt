-- The walk visited places what is reached, and nothing else.
use Rattle.std.proofs.Common.{◌≡◌, ℕ, zero, suc, ◌<◌, Bool, true, false, List, [], ◌∷◌, ◌++◌, length, set, replicate, inl, inr, ◌⊎◌, refl, arith, ap, ◌∙◌, sym, subst}
use Rattle.std.proofs.lemmas.Bool.{both_ways}
use Rattle.std.proofs.lemmas.List.{get_or-set_same, length-append, length-replicate, append_assoc}
use Rattle.std.proofs.lemmas.List.Elements.{Contains-append_left, Contains-append_cases, Contains-push}
use Rattle.std.specs.List.{Contains}
use Rattle.l6_store.specs.Blocks.{Blocks, Fits, IsLive, end_of}
use Rattle.l6_steps.specs.State.{Memory}
use Rattle.l6_draw.specs.Reach.{IsPath, held_by_bugs, held_in, is_reached}
use Rattle.l6_draw.specs.inner.Walk.{Walk, all_met, is_visited, met}
use Rattle.l6_draw.proofs.Members.{first_in, first_or_later, later_in, none_in}
use Rattle.l6_draw.proofs.Reaching.{reached_exactly, reached_is}
use Rattle.l6_draw.proofs.Scanning.{live_some, live_within}
use Rattle.l6_draw.proofs.Visiting.{visited_place_stays, visited_place_by, untagged, left, met_by, all_met_grows, Room, room_stays, all_met_visited}

-- the walk has looked at a block: where its fields lead is visited
pub record LookedAt (memory : Memory) (visited : List Bool) (place : ℕ) : Type 0 where
  pub each : (next : ℕ) → Contains (held_in memory place) next → IsLive memory.blocks next
      → is_visited visited next ≡ true

-- what is true all along: visited places are reached, places that wait are visited, and each visited
-- place waits or was looked at
pub record Walks (memory : Memory) (visited : List Bool) (worklist : List ℕ) : Type 0 where
  pub sound : (place : ℕ) → is_visited visited place ≡ true → is_reached memory place ≡ true
  pub waits : (place : ℕ) → Contains worklist place → is_visited visited place ≡ true
  pub seen : (place : ℕ) → is_visited visited place ≡ true
      → Contains worklist place ⊎ LookedAt memory visited place

looked_stays : (memory : Memory) (visited : List Bool) (number place : ℕ) → number < length visited
    → LookedAt memory visited place → LookedAt memory (set visited number true) place
looked_stays memory visited number place within looked = record {
  each = λ next held live. visited_place_stays visited number next within (looked.each next held live);
}

-- one number that is new
waits_after : (memory : Memory) (front : List ℕ) (number : ℕ) (walk : Walk) →
    number < length walk.visited
    → Walks memory walk.visited (front ++ walk.worklist) → (place : ℕ)
    → Contains ((front ++ walk.worklist) ++ number ∷ []) place
    → is_visited (set walk.visited number true) place ≡ true
waits_after memory front number walk within walks place is =
    elim (Contains-append_cases (front ++ walk.worklist) (number ∷ []) place is)
    as (λ _. is_visited (set walk.visited number true) place ≡ true) [
      | inl before ↦ visited_place_stays walk.visited number place within (walks.waits place before)
      | inr last ↦ elim (first_or_later number place [] last)
          as (λ _. is_visited (set walk.visited number true) place ≡ true) [
            | inl same ↦
                subst (λ (p : ℕ). is_visited (set walk.visited number true) p ≡ true) same
                (get_or-set_same walk.visited number true false within)
            | inr none ↦ absurd (none_in place none)
          ]
    ]

seen_after : (memory : Memory) (front : List ℕ) (number : ℕ) (walk : Walk) →
    number < length walk.visited
    → Walks memory walk.visited (front ++ walk.worklist) → (place : ℕ)
    → is_visited (set walk.visited number true) place ≡ true
    → Contains ((front ++ walk.worklist) ++ number ∷ []) place
    ⊎ LookedAt memory (set walk.visited number true) place
seen_after memory front number walk within walks place is =
    elim (visited_place_by walk.visited number place is)
    as (λ _. Contains ((front ++ walk.worklist) ++ number ∷ []) place
    ⊎ LookedAt memory (set walk.visited number true) place) [
      | inl same ↦
          inl (subst (λ (p : ℕ). Contains ((front ++ walk.worklist) ++ number ∷ []) p) (sym same)
          (Contains-push (front ++ walk.worklist) number))
      | inr before ↦ elim (walks.seen place before)
          as (λ _. Contains ((front ++ walk.worklist) ++ number ∷ []) place
          ⊎ LookedAt memory (set walk.visited number true) place) [
            | inl waits ↦ inl (Contains-append_left (front ++ walk.worklist) (number ∷ []) place waits)
            | inr looked ↦ inr (looked_stays memory walk.visited number place within looked)
          ]
    ]

sound_after : (memory : Memory) (visited : List Bool) (number : ℕ) → is_reached memory number ≡ true
    → ((place : ℕ) → is_visited visited place ≡ true → is_reached memory place ≡ true) → (place : ℕ)
    → is_visited (set visited number true) place ≡ true → is_reached memory place ≡ true
sound_after memory visited number reached sound place is =
    elim (visited_place_by visited number place is) as (λ _. is_reached memory place ≡ true) [
      | inl same ↦ ap (is_reached memory) same ∙ reached
      | inr before ↦ sound place before
    ]

met_walks : (memory : Memory) (front : List ℕ) (number : ℕ) (walk : Walk)
    → (IsLive memory.blocks number → is_reached memory number ≡ true)
    → Walks memory walk.visited (front ++ walk.worklist)
    → Walks memory (met memory.blocks number walk).visited
    (front ++ (met memory.blocks number walk).worklist)
met_walks memory front number walk reached walks =
    met_by (λ new. Walks memory new.visited (front ++ new.worklist)) memory.blocks number walk
    (λ new.
    subst (λ (worklist : List ℕ). Walks memory (set walk.visited number true) worklist)
    (append_assoc front walk.worklist (number ∷ []))
    (let after : Walks memory (set walk.visited number true) ((front ++ walk.worklist) ++ number ∷ [])
    = record {
      sound = sound_after memory walk.visited number (reached new.live) walks.sound;
      waits = waits_after memory front number walk new.within walks;
      seen = seen_after memory front number walk new.within walks;
    } in after))
    (λ _. walks)

all_met_walks : (memory : Memory) (front numbers : List ℕ) (walk : Walk)
    → ((number : ℕ) → Contains numbers number → IsLive memory.blocks number
    → is_reached memory number ≡ true)
    → Walks memory walk.visited (front ++ walk.worklist)
    → Walks memory (all_met memory.blocks numbers walk).visited
    (front ++ (all_met memory.blocks numbers walk).worklist)
all_met_walks memory front [] walk reached walks = walks
all_met_walks memory front (number ∷ numbers) walk reached walks =
    all_met_walks memory front numbers (met memory.blocks number walk)
    (λ other is. reached other (later_in number other numbers is))
    (met_walks memory front number walk (reached number (first_in number numbers)) walks)

-- the whole invariant: there is room, and what the bugs hold is visited
pub record IsWalk (memory : Memory) (walk : Walk) : Type 0 where
  pub room : Room memory.blocks walk.visited
  pub walks : Walks memory walk.visited walk.worklist
  pub bugs : (number : ℕ) → Contains (held_by_bugs memory) number → IsLive memory.blocks number
      → is_visited walk.visited number ≡ true

-- it holds after the bugs
untagged_walks : (memory : Memory) (walk : Walk) → walk.worklist ≡ []
    → ((place : ℕ) → is_visited walk.visited place ≡ false) → Walks memory walk.visited walk.worklist
untagged_walks memory walk none untagged = record {
  sound = λ place is. absurd (both_ways (is_visited walk.visited place) (untagged place) is);
  waits = λ place is. absurd (none_in place (subst (λ (w : List ℕ). Contains w place) none is));
  seen = λ place is. absurd (both_ways (is_visited walk.visited place) (untagged place) is);
}

bug_reached : (memory : Memory) (number : ℕ) → Contains (held_by_bugs memory) number
    → IsLive memory.blocks number → is_reached memory number ≡ true
bug_reached memory number held live = reached_exactly memory number ([], (held, live))

pub bugs_walk : (memory : Memory) (walk : Walk) → Room memory.blocks walk.visited → walk.worklist ≡ []
    → ((place : ℕ) → is_visited walk.visited place ≡ false)
    → IsWalk memory (all_met memory.blocks (held_by_bugs memory) walk)
bugs_walk memory walk room none untagged = record {
  room = room_stays memory.blocks walk (all_met memory.blocks (held_by_bugs memory) walk)
      (all_met_grows memory.blocks (held_by_bugs memory) walk) room;
  walks = all_met_walks memory [] (held_by_bugs memory) walk (bug_reached memory)
      (untagged_walks memory walk none untagged);
  bugs = all_met_visited memory.blocks (held_by_bugs memory) walk room;
}

-- and after each block that is looked at
further_reached : (memory : Memory) (before place : ℕ) → is_reached memory before ≡ true
    → Contains (held_in memory before) place → IsLive memory.blocks place
    → is_reached memory place ≡ true
further_reached memory before place reached held live =
    let path = reached_is memory before reached in
    reached_exactly memory place (before ∷ path.0, (held, live, path.1))

first_waits : (memory : Memory) (visited : List Bool) (place : ℕ) (rest : List ℕ)
    → Walks memory visited (rest ++ place ∷ []) → Walks memory visited (place ∷ rest)
first_waits memory visited place rest walks = record {
  sound = walks.sound;
  waits = λ other is.
      walks.waits other
      (elim (first_or_later place other rest is) as (λ _. Contains (rest ++ place ∷ []) other) [
        | inl same ↦
            subst (λ (p : ℕ). Contains (rest ++ place ∷ []) p) same (Contains-push rest place)
        | inr later ↦ Contains-append_left rest (place ∷ []) other later
      ]);
  seen = λ other is.
      elim (walks.seen other is) as
      (λ _. Contains (place ∷ rest) other ⊎ LookedAt memory visited other) [
        | inl waits ↦ inl
            (elim (Contains-append_cases rest (place ∷ []) other waits)
            as (λ _. Contains (place ∷ rest) other) [
              | inl before ↦ later_in place other rest before
              | inr last ↦
                  elim (first_or_later place other [] last) as (λ _. Contains (place ∷ rest) other) [
                    | inl same ↦
                        subst (λ (p : ℕ). Contains (place ∷ rest) p) same (first_in place rest)
                    | inr none ↦ absurd (none_in other none)
                  ]
            ])
        | inr looked ↦ inr looked
      ];
}

looked_off : (memory : Memory) (visited : List Bool) (place : ℕ) (rest : List ℕ)
    → LookedAt memory visited place → Walks memory visited (place ∷ rest) → Walks memory visited rest
looked_off memory visited place rest looked walks = record {
  sound = walks.sound;
  waits = λ other is. walks.waits other (later_in place other rest is);
  seen = λ other is.
      elim (walks.seen other is) as (λ _. Contains rest other ⊎ LookedAt memory visited other) [
        | inl waits ↦
            elim (first_or_later place other rest waits)
            as (λ _. Contains rest other ⊎ LookedAt memory visited other) [
              | inl same ↦ inr (subst (λ (p : ℕ). LookedAt memory visited p) same looked)
              | inr later ↦ inl later
            ]
        | inr before ↦ inr before
      ];
}

pub block_walk : (memory : Memory) (walk popped : Walk) (place : ℕ) → IsWalk memory walk
    → walk.worklist ≡ popped.worklist ++ place ∷ [] → popped.visited ≡ walk.visited
    → IsWalk memory (all_met memory.blocks (held_in memory place) popped)
block_walk memory walk popped place is waited same =
    let room : Room memory.blocks popped.visited
    = subst (λ (m : List Bool). Room memory.blocks m) (sym same) is.room in
    let grows = all_met_grows memory.blocks (held_in memory place) popped in
    let before : Walks memory popped.visited (popped.worklist ++ place ∷ [])
    = subst (λ (w : List ℕ). Walks memory popped.visited w) waited
    (subst (λ (m : List Bool). Walks memory m walk.worklist) (sym same) is.walks) in
    let reached = before.sound place
    (before.waits place (Contains-push popped.worklist place)) in
    let after = all_met_walks memory (place ∷ []) (held_in memory place) popped
    (λ number held live. further_reached memory place number reached held live)
    (first_waits memory popped.visited place popped.worklist before) in
    let looked : LookedAt memory (all_met memory.blocks (held_in memory place) popped).visited place
    = record { each = all_met_visited memory.blocks (held_in memory place) popped room } in
    record {
      room = room_stays memory.blocks popped
          (all_met memory.blocks (held_in memory place) popped) grows room;
      walks = looked_off memory (all_met memory.blocks (held_in memory place) popped).visited place
          (all_met memory.blocks (held_in memory place) popped).worklist looked after;
      bugs = λ number held live. grows.stays number
          (subst (λ (m : List Bool). is_visited m number ≡ true) (sym same)
          (is.bugs number held live));
    }

-- so there is less left to do
pub block_less : (blocks : Blocks) (numbers : List ℕ) (walk popped : Walk) (place : ℕ)
    → walk.worklist ≡ popped.worklist ++ place ∷ [] → popped.visited ≡ walk.visited
    → left (all_met blocks numbers popped) < left walk
block_less blocks numbers walk popped place waited same =
    let grows = all_met_grows blocks numbers popped in
    let done = grows.to_do in
    let visited = ap untagged same in
    let waits = ap length waited in
    let one = length-append popped.worklist (place ∷ []) in
    omega arith

-- in the end each path leads to a visit
path_visited_place : (memory : Memory) (walk : Walk) → IsWalk memory walk → walk.worklist ≡ []
    → (older : List ℕ) (place : ℕ) → IsPath memory (place ∷ older)
    → is_visited walk.visited place ≡ true
path_visited_place memory walk is none [] place path = is.bugs place path.0 path.1
path_visited_place memory walk is none (before ∷ older) place path =
    elim (is.walks.seen before (path_visited_place memory walk is none older before path.2))
    as (λ _. is_visited walk.visited place ≡ true) [
      | inl waits ↦
          absurd (none_in before (subst (λ (w : List ℕ). Contains w before) none waits))
      | inr looked ↦ looked.each place path.0 path.1
    ]

same_tests : (one other : Bool) → (one ≡ true → other ≡ true) → (other ≡ true → one ≡ true)
    → one ≡ other
same_tests true other to from = sym (to refl)
same_tests false true to from = from refl
same_tests false false to from = refl

pub walk_done : (memory : Memory) (walk : Walk) → IsWalk memory walk → walk.worklist ≡ []
    → (place : ℕ) → is_visited walk.visited place ≡ is_reached memory place
walk_done memory walk is none place =
    same_tests (is_visited walk.visited place) (is_reached memory place) (is.walks.sound place)
    (λ reached.
    let path = reached_is memory place reached in
    path_visited_place memory walk is none path.0 place path.1)

-- the walk as the code makes it: it begins with no visit
fresh_visited : (end : ℕ) (place : ℕ) → is_visited (replicate end false) place ≡ false
fresh_visited zero place = refl
fresh_visited (suc end) zero = refl
fresh_visited (suc end) (suc place) = fresh_visited end place

pub walk_begun : (units end : ℕ) (memory : Memory) → Fits units memory.blocks
    → end ≡ end_of units → (old new : Walk)
    → old ≡ record { visited = replicate end false; worklist = [] }
    → new ≡ all_met memory.blocks (held_by_bugs memory) old → IsWalk memory new
walk_begun units end memory fits is old new fresh met_all =
    let room : Room memory.blocks old.visited = record {
      each = λ place live.
          (let within = live_within units memory.blocks fits place live in
          let some = live_some units memory.blocks fits place live in
          let count : length old.visited ≡ end
          = ap (λ (walk : Walk). length walk.visited) fresh ∙ length-replicate end false in
          omega arith);
    } in
    subst (λ (walk : Walk). IsWalk memory walk) (sym met_all)
    (bugs_walk memory old room (ap (λ (walk : Walk). walk.worklist) fresh)
    (λ place. ap (λ (walk : Walk). is_visited walk.visited place) fresh ∙ fresh_visited end place))

pub walk_goes_on : (memory : Memory) (walk popped new : Walk) (place : ℕ) → IsWalk memory walk
    → popped.visited ≡ walk.visited → walk.worklist ≡ popped.worklist ++ place ∷ []
    → new ≡ all_met memory.blocks (held_in memory place) popped → IsWalk memory new
walk_goes_on memory walk popped new place is same waited met_all =
    subst (λ (w : Walk). IsWalk memory w) (sym met_all)
    (block_walk memory walk popped place is waited same)

pub walk_less : (memory : Memory) (walk popped new : Walk) (place : ℕ)
    → popped.visited ≡ walk.visited → walk.worklist ≡ popped.worklist ++ place ∷ []
    → new ≡ all_met memory.blocks (held_in memory place) popped → left new < left walk
walk_less memory walk popped new place same waited met_all =
    let less = block_less memory.blocks (held_in memory place) walk popped place waited same in
    let same_left = ap left met_all in
    omega arith

-- and ends where none waits
none_left : (worklist : List ℕ) → (0 < length worklist → ⊥) → worklist ≡ []
none_left [] none = refl
none_left (place ∷ worklist) none = absurd (none (omega arith))

pub walk_ends : (memory : Memory) (walk after : Walk) (visited : List Bool) → IsWalk memory walk
    → (0 < length walk.worklist → ⊥) → after.visited ≡ walk.visited → visited ≡ after.visited
    → (place : ℕ) → is_visited visited place ≡ is_reached memory place
walk_ends memory walk after visited is none same determined place =
    ap (λ (m : List Bool). is_visited m place) (determined ∙ same)
    ∙ walk_done memory walk is (none_left walk.worklist none) place
