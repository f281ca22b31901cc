-- Worked examples, step by step.
use Rattle.std.proofs.Common.{arith, ◌^◌, replicate, ◌≡◌, ◌≢◌, ℕ, List, [], ◌∷◌, length, None, Some, Ok, Err, ok_or, true, refl, ap, ◌∙◌, nat_lt, slice_index_or, unwrap_or, if◌then◌else◌}
use Rattle.std.specs.FinMap as map
use Rattle.l6_word.specs.Window.{Window, take}
use Rattle.l6_store.specs.Blocks.{Blocks}
use Rattle.l6_store.proofs.Gathered.{get_insert_same, get_insert_other, get_remove_same}
use Rattle.l6_steps.specs.declared.locus.Locus.TheVariants.{Bug, Field}
use Rattle.l6_steps.specs.declared.trap.Trap.TheVariants.{UndefinedField, NotABlock, WordOutsideBlock}
use Rattle.l6_store.specs.Least.{least}
use Rattle.l6_steps.specs.declared.jump.Jump.TheVariants.{Onward}
use Rattle.l6_steps.specs.ActionResult.{leave, took}
use Rattle.l6_steps.specs.Getting.{get, level_for, new_block, with_place}
use Rattle.l6_steps.proofs.Maps.{insert_twice}
use Rattle.l6_steps.specs.Locus.{assign, content, field_at, follow, locus, put_into}
use Rattle.l6_steps.specs.State.{Memory}
use Rattle.l6_word.specs.Trying.{◌>>=◌}
use Rattle.l6_steps.specs.Worked.{ChainLeads, GetKeepsTheOld, UseAfterFreeTraps, freed_still, just_x, linked, name_n, name_v, name_x, stacked}

-- one name further, by what is known of the definition and the block
field_by : (memory : Memory) (name pointer : ℕ) (window : Window) (words : List ℕ) →
    slice_index_or memory.definitions name None ≡ Some window →
    map.get memory.blocks pointer ≡ Some words → nat_lt window.word (length words) ≡ true →
    field_at memory name pointer ≡ Ok (Field pointer window)
field_by memory name pointer window words defined there inside =
    ap (λ found. ok_or found UndefinedField >>= λ w.
    ok_or (map.get memory.blocks pointer) NotABlock >>= λ ws.
    if nat_lt w.word (length ws) then Ok (Field pointer w) else Err WordOutsideBlock) defined
    ∙ ap (λ found. ok_or found NotABlock >>= λ ws.
    if nat_lt window.word (length ws) then Ok (Field pointer window) else Err WordOutsideBlock)
    there
    ∙ ap (λ b. if b then Ok (Field pointer window) else Err WordOutsideBlock) inside

abbrev low : Window
low = record { word = 0; first = 18; last = 35 }

abbrev six : Window
six = record { word = 1; first = 30; last = 35 }

abbrev one : Blocks
one = map.insert map.empty 1024 (1026 ∷ 0 ∷ [])

apart : ◌≢◌ {A = ℕ} 1024 1026
apart same = absurd (omega (arith, same))

first_there : map.get linked.blocks 1024 ≡ Some (1026 ∷ 0 ∷ [])
first_there =
    get_insert_other one 1026 (0 ∷ 71 ∷ []) 1024 apart
    ∙ get_insert_same map.empty 1024 (1026 ∷ 0 ∷ [])

second_there : map.get linked.blocks 1026 ≡ Some (0 ∷ 71 ∷ [])
second_there = get_insert_same one 1026 (0 ∷ 71 ∷ [])

-- what XN holds
pointer : content linked (Field 1024 low) ≡ 1026
pointer = ap (λ found. take low (slice_index_or (unwrap_or found []) 0 0)) first_there

pub chain_leads : ChainLeads
chain_leads = (
  ap (λ at. at >>= λ next. follow linked next (name_v ∷ []))
      (field_by linked name_n 1024 low (1026 ∷ 0 ∷ []) refl first_there refl)
      ∙ ap (λ q. field_at linked name_v q >>= λ next. Ok next) pointer
      ∙ ap (λ at. at >>= λ next. Ok next)
      (field_by linked name_v 1026 six (0 ∷ 71 ∷ []) refl second_there refl),
  ap (λ found. take six (slice_index_or (unwrap_or found []) 1 0)) second_there,
)

abbrev high : Window
high = record { word = 1; first = 18; last = 35 }

-- no block begins at a place whose block was freed
gone : map.get freed_still.blocks 1024 ≡ None
gone = get_remove_same stacked.blocks 1024

freed_field : field_at freed_still name_n 1024 ≡ Err NotABlock
freed_field =
    ap (λ found. ok_or found NotABlock >>= λ ws.
    if nat_lt 1 (length ws) then Ok (Field 1024 high) else Err WordOutsideBlock) gone

pub use_after_free_traps : UseAfterFreeTraps
use_after_free_traps parameters choice =
    ap (λ at. (at >>= λ next. follow freed_still next []) >>= λ l.
    Ok 5 >>= λ value. Ok value >>= λ number. leave (assign freed_still l number)) freed_field

-- three words want a block of four
level_of_three : level_for 3 ≡ Ok 2
unfolding least
level_of_three = refl

-- the memory once the block is and X points to it
abbrev got : Memory
got = new_block stacked (replicate (2 ^ 2) 0) (Bug name_x) 1028

got_there : map.get got.blocks 1028 ≡ Some (0 ∷ 0 ∷ 0 ∷ 0 ∷ [])
got_there = get_insert_same stacked.blocks 1028 (0 ∷ 0 ∷ 0 ∷ 0 ∷ [])

got_field : locus got (name_x ∷ name_n ∷ []) ≡ Ok (Field 1028 high)
got_field =
    ap (λ at. at >>= λ next. follow got next [])
    (field_by got name_n 1028 high (0 ∷ 0 ∷ 0 ∷ 0 ∷ []) refl got_there refl)

kept : assign got (Field 1028 high) 1024 ≡ record stacked {
  bugs = just_x 1028;
  blocks = map.insert stacked.blocks 1028 (0 ∷ 1024 ∷ 0 ∷ 0 ∷ []);
}
kept =
    ap (λ found. record got {
      blocks = map.insert got.blocks 1028 (put_into (unwrap_or found []) high 1024);
    }) got_there
    ∙ ap (λ b. record stacked { bugs = just_x 1028; blocks = b })
    (insert_twice stacked.blocks 1028 (0 ∷ 0 ∷ 0 ∷ 0 ∷ []) (0 ∷ 1024 ∷ 0 ∷ 0 ∷ []))

pub get_keeps_the_old : GetKeepsTheOld
get_keeps_the_old parameters choice picks =
    let other = Some (name_x ∷ name_n ∷ []) in
    ap
    (λ level. level >>= λ k. with_place (choice k) None stacked (get k (Bug name_x) other stacked))
    level_of_three
    ∙ ap (λ found. with_place found None stacked (get 2 (Bug name_x) other stacked)) picks
    ∙ ap (λ at. (at >>= λ l. Ok (assign got l 1024)) >>= λ after.
    Ok (record { memory = after; jump = Onward; effect = took 2 })) got_field
    ∙ ap (λ after. Ok (record { memory = after; jump = Onward; effect = took 2 })) kept
