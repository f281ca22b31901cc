-- What a field shows of the block at a pointer, or why it can't be followed.
use Rattle.std.proofs.Common.{◌≡◌, ℕ, ◌≤◌, List, [], length, get_or, slice_get, slice_index_or, Option, None, Some, Result, Ok, Err, refl, ap, sym, ◌∙◌, inl, inr, nat_lt, if◌then◌else◌}
use Rattle.std.specs.Option.{unwrap_or, ok_or}
use Rattle.std.specs.FinMap as map
use Rattle.std.proofs.lemmas.Bool.{cases_lt, le-ltb, lt-ltb}
use Rattle.std.proofs.lemmas.Option.{get_or_from_slice_get, none-some, slice_get-get_or, slice_get_within}
use Rattle.l6_word.specs.Window as windows
use Rattle.l6_word.specs.Trying.{◌>>=◌}
use Rattle.l6_store.specs.Blocks.{block_at}
use Rattle.l6_steps.specs.declared.locus.Locus.{Locus}
use Rattle.l6_steps.specs.declared.locus.Locus.TheVariants.{Field}
use Rattle.l6_steps.specs.declared.trap.Trap.{Trap}
use Rattle.l6_steps.specs.declared.trap.Trap.TheVariants.{UndefinedField, NotABlock, WordOutsideBlock}
use Rattle.l6_steps.specs.Locus.{content}
use Rattle.l6_steps.specs.State.{Memory}
use Rattle.l6_session.specs.Texts.{followed}

-- the word of a window, if a block has it
abbrev within : ℕ → windows.Window → List ℕ → Result Locus Trap
within pointer window words =
    if nat_lt window.word (length words) then Ok (Field pointer window) else Err WordOutsideBlock

-- what is followed, by the definition of the field and the block at the pointer
abbrev by : Memory → ℕ → Option windows.Window → Option (List ℕ) → Result ℕ Trap
by memory pointer definition found =
    (ok_or definition UndefinedField >>= λ window. ok_or found NotABlock >>= within pointer window)
    >>= λ at. Ok (content memory at)

pub undefined : (memory : Memory) (field pointer : ℕ) →
    slice_index_or memory.definitions field None ≡ None →
    followed memory field pointer ≡ Err UndefinedField
undefined memory field pointer is =
    ap (λ definition. by memory pointer definition (map.get memory.blocks pointer)) is

pub not_there : (memory : Memory) (field pointer : ℕ) (window : windows.Window) →
    slice_index_or memory.definitions field None ≡ Some window →
    map.get memory.blocks pointer ≡ None → followed memory field pointer ≡ Err NotABlock
not_there memory field pointer window is none =
    ap (λ definition. by memory pointer definition (map.get memory.blocks pointer)) is
    ∙ ap (by memory pointer (Some window)) none

past_end : (words : List ℕ) (index : ℕ) → slice_get words index ≡ None → length words ≤ index
past_end words index none = elim (cases_lt index (length words)) as (λ _. length words ≤ index) [
  | inl inside ↦
      (let found = slice_get-get_or words index 0 inside in
      absurd (none-some (get_or words index 0) (sym none ∙ found)))
  | inr past ↦ past
]

pub outside : (memory : Memory) (field pointer : ℕ) (window : windows.Window) (words : List ℕ) →
    slice_index_or memory.definitions field None ≡ Some window →
    map.get memory.blocks pointer ≡ Some words →
    slice_get (block_at memory.blocks pointer) window.word ≡ None →
    followed memory field pointer ≡ Err WordOutsideBlock
outside memory field pointer window words is found none =
    let block = ap (λ f. unwrap_or f []) found in
    let past = past_end words window.word
    (sym (ap (λ w. slice_get w window.word) block) ∙ none) in
    ap (λ definition. by memory pointer definition (map.get memory.blocks pointer)) is
    ∙ ap (by memory pointer (Some window)) found
    ∙ ap (λ b. (if b then Ok (Field pointer window) else Err WordOutsideBlock)
    >>= λ at. Ok (content memory at)) (le-ltb window.word (length words) past)

there_by : (memory : Memory) (field pointer word : ℕ) (window : windows.Window) (found : Option (List ℕ)) →
    map.get memory.blocks pointer ≡ found →
    slice_get (unwrap_or found []) window.word ≡ Some word →
    by memory pointer (Some window) found ≡ Ok (content memory (Field pointer window))
there_by memory field pointer word window None is shows =
    absurd (none-some word shows)
there_by memory field pointer word window (Some words) is shows =
    ap (λ b. (if b then Ok (Field pointer window) else Err WordOutsideBlock)
    >>= λ at. Ok (content memory at))
    (lt-ltb window.word (length words) (slice_get_within words window.word word shows))

pub there : (memory : Memory) (field pointer word : ℕ) (window : windows.Window) →
    slice_index_or memory.definitions field None ≡ Some window →
    slice_get (block_at memory.blocks pointer) window.word ≡ Some word →
    followed memory field pointer ≡ Ok (windows.take window word)
there memory field pointer word window is shows =
    ap (λ definition. by memory pointer definition (map.get memory.blocks pointer)) is
    ∙ there_by memory field pointer word window (map.get memory.blocks pointer) refl shows
    ∙ ap (λ w. Ok (windows.take window w))
    (get_or_from_slice_get (block_at memory.blocks pointer) window.word word 0 shows)
