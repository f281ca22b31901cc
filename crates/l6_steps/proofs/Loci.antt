-- What chains lead to: bugs, and windows of blocks. What is assigned there keeps a memory within its
-- bounds.
use Rattle.std.proofs.Common.{◌≡◌, ℕ, ◌+◌, ◌/◌, ◌%◌, ◌^◌, ◌<◌, ◌≤◌, Bool, true, false, cond, List, [], ◌∷◌, length, slice_index, Option, None, Some, Result, Ok, Err, refl, ap, sym, ◌∙◌, subst, arith, inl, inr, nat_le, nat_lt, ok_or}
use Rattle.std.specs.Prelude.{◌&&◌, IfOk, slice_index_or}
use Rattle.std.proofs.lemmas.Bool.{and_parts, cases_eq, cases_lt, leb-true, ltb-true}
use Rattle.std.proofs.lemmas.List.{get_or_past, length-set}
use Rattle.std.proofs.lemmas.List.Elements.{All-get_or, All-nil, All-set}
use Rattle.std.proofs.lemmas.Nat.{mod_below, pow_pos}
use Rattle.std.proofs.Math.Nat.{div-le_self, mod-le}
use Rattle.std.specs.List.{All}
use Rattle.std.specs.Option.{unwrap_or}
use Rattle.std.specs.FinMap as map
use Rattle.l6_word.specs.Numerals.{unit_size, word_bits}
use Rattle.l6_word.specs.Trying.{◌>>=◌}
use Rattle.l6_word.specs.Window.{Window, is_window, put, right_of, width}
use Rattle.l6_word.proofs.Masks.{masks_fit, put_by_masks}
use Rattle.l6_store.specs.Blocks.{Blocks, Fits, IsLive, block_at}
use Rattle.l6_store.proofs.Fitting.{fits_changed}
use Rattle.l6_store.proofs.Gathered.{get_insert_other, get_insert_same}
use Rattle.l6_store.proofs.Live.{live_words}
use Rattle.l6_prog.specs.declared.operand.Operand.TheVariants.{Chain}
use Rattle.l6_steps.specs.Bounds.{IsDefinition, IsWithinBounds, IsWord}
use Rattle.l6_steps.specs.declared.locus.Locus.{Locus}
use Rattle.l6_steps.specs.declared.locus.Locus.TheVariants.{Bug, Field}
use Rattle.l6_steps.specs.declared.trap.Trap.{Trap}
use Rattle.l6_steps.specs.declared.trap.Trap.TheVariants.{NotABlock, UndefinedField, WordOutsideBlock}
use Rattle.l6_steps.specs.Locus.{assign, content, field_at, follow, index_of, locus, put_into, read}
use Rattle.l6_steps.specs.State.{Memory}

-- a second part is given what is known of the first
pub after : {A B : Type 0} (Q : A → Type 0) (P : B → Type 0) (first : Result A Trap)
    (second : A → Result B Trap) → IfOk first Q → ((a : A) → Q a → IfOk (second a) P) →
    IfOk (first >>= second) P
after Q P (Ok a) second known each = each a known
after Q P (Err trap) second known each = tt

-- ---- words
-- each word of a list of words, and 0 past its end
word_of : (words : List ℕ) (index : ℕ) → All IsWord words → IsWord (slice_index words index)
word_of words index are_words =
    elim (cases_lt index (length words)) as (λ _. IsWord (slice_index words index)) [
      | inl below ↦ All-get_or IsWord words index 0 below are_words
      | inr past ↦
          subst (λ (n : ℕ). n < 2 ^ word_bits) (sym (get_or_past words index 0 past))
          (pow_pos word_bits)
    ]

-- a word with a value in a window is a word
put_fits : (window : Window) (word value : ℕ) → is_window window ≡ true → IsWord word →
    IsWord (put window word value)
put_fits window word value is fits =
    let word_ok = nat_lt window.word unit_size in
    let order = nat_le window.first window.last in
    let parts = and_parts (word_ok && order) (nat_lt window.last word_bits) is in
    let rises : window.first ≤ window.last =
    leb-true window.first window.last (and_parts word_ok order parts.0).1 in
    let last : window.last < word_bits = ltb-true window.last word_bits parts.1 in
    let room : width window + right_of window ≤ word_bits = omega (arith, rises, last) in
    subst (λ (n : ℕ). n < 2 ^ word_bits)
    (put_by_masks word value (right_of window) (width window) (omega (arith, fits))
    (omega (arith, room)))
    (masks_fit word value (right_of window) (width window) word_bits fits room (omega arith))

words_by : (units : ℕ) (blocks : Blocks) (place : ℕ) → Fits units blocks →
    (found : Option (List ℕ)) → map.get blocks place ≡ found → All IsWord (unwrap_or found [])
words_by units blocks place fits (Some words) is = (fits.each place words is).are_words
words_by units blocks place fits None is = All-nil IsWord

-- the words of a block, none where no block begins
pub words_at : (units : ℕ) (blocks : Blocks) (place : ℕ) → Fits units blocks →
    All IsWord (block_at blocks place)
words_at units blocks place fits = words_by units blocks place fits (map.get blocks place) refl

-- what is at a locus is a word
pub content_fits : (units : ℕ) (memory : Memory) (at : Locus) → IsWithinBounds units memory →
    IsWord (content memory at)
content_fits units memory (Bug bug) within = word_of memory.bugs (index_of bug) within.bugs
content_fits units memory (Field place window) within =
    let word = slice_index (block_at memory.blocks place) window.word in
    omega (
      arith,
      word_of (block_at memory.blocks place) window.word
          (words_at units memory.blocks place within.blocks),
      div-le_self word (2 ^ right_of window),
      mod-le (word / 2 ^ right_of window) (2 ^ width window),
    )

-- ---- loci
-- a locus is a bug, or a window of a block that begins at its place
abbrev pub StandsIn : Blocks → Locus → Type 0
StandsIn blocks (Bug bug) = Unit {0}
StandsIn blocks (Field place window) = (is_window window ≡ true) × IsLive blocks place

live_insert : (blocks : Blocks) (place : ℕ) (words : List ℕ) (q : ℕ) → IsLive blocks q →
    IsLive (map.insert blocks place words) q
live_insert blocks place words q live =
    elim (cases_eq q place) as (λ _. IsLive (map.insert blocks place words) q) [
      | inl same ↦
          let found : map.get (map.insert blocks place words) q ≡ Some words =
          ap (map.get (map.insert blocks place words)) same ∙ get_insert_same blocks place words in
          cc
      | inr other ↦ let kept = get_insert_other blocks place words q other in cc
    ]

-- it still is where a block is new or has new words
pub holds_insert : (blocks : Blocks) (place : ℕ) (words : List ℕ) (at : Locus) →
    StandsIn blocks at → StandsIn (map.insert blocks place words) at
holds_insert blocks place words (Bug bug) holds_there = tt
holds_insert blocks place words (Field q window) holds_there =
    (holds_there.0, live_insert blocks place words q holds_there.1)

-- and so where something is assigned
pub holds_assigned : (memory : Memory) (there : Locus) (number : ℕ) (at : Locus) →
    StandsIn memory.blocks at → StandsIn (assign memory there number).blocks at
holds_assigned memory (Bug bug) number at holds_there = holds_there
holds_assigned memory (Field place window) number at holds_there =
    holds_insert memory.blocks place (put_into (block_at memory.blocks place) window number) at
    holds_there

pub definition_of : (units : ℕ) (memory : Memory) (name : ℕ) → IsWithinBounds units memory →
    IsDefinition (slice_index_or memory.definitions name None)
definition_of units memory name within =
    elim (cases_lt name (length memory.definitions))
    as (λ _. IsDefinition (slice_index_or memory.definitions name None)) [
      | inl below ↦ All-get_or IsDefinition memory.definitions name None below within.definitions
      | inr past ↦
          subst IsDefinition (sym (get_or_past memory.definitions name None past)) tt
    ]

field_by : (blocks : Blocks) (pointer : ℕ) (window : Window) (words : List ℕ) (inside : Bool) →
    is_window window ≡ true → map.get blocks pointer ≡ Some words →
    IfOk (cond inside (Ok (Field pointer window)) (Err WordOutsideBlock)) (StandsIn blocks)
field_by blocks pointer window words true window_is found = (window_is, cc)
field_by blocks pointer window words false window_is found = tt

field_holds : (blocks : Blocks) (pointer : ℕ) (defined : Option Window)
    (found : Option (List ℕ)) → IsDefinition defined → map.get blocks pointer ≡ found →
    IfOk (ok_or defined UndefinedField >>= λ window. ok_or found NotABlock >>= λ words.
    cond (nat_lt window.word (length words)) (Ok (Field pointer window)) (Err WordOutsideBlock))
    (StandsIn blocks)
field_holds blocks pointer None found is holds_there = tt
field_holds blocks pointer (Some window) None is holds_there = tt
field_holds blocks pointer (Some window) (Some words) is holds_there =
    field_by blocks pointer window words (nat_lt window.word (length words)) is holds_there

module _ (units : ℕ) (memory : Memory) (within : IsWithinBounds units memory) where
  follow_holds : (names : List ℕ) (at : Locus) → StandsIn memory.blocks at →
      IfOk (follow memory at names) (StandsIn memory.blocks)
  follow_holds [] at holds_there = holds_there
  follow_holds (name ∷ names) at holds_there =
      after (StandsIn memory.blocks) (StandsIn memory.blocks)
      (field_at memory name (content memory at)) _
      (field_holds memory.blocks (content memory at) (slice_index_or memory.definitions name None)
      (map.get memory.blocks (content memory at)) (definition_of units memory name within) refl)
      (λ next there. follow_holds names next there)

  -- what a chain leads to
  pub locus_holds : (chain : List ℕ) → IfOk (locus memory chain) (StandsIn memory.blocks)
  locus_holds [] = tt
  locus_holds (bug ∷ fields) = follow_holds fields (Bug bug) tt

  -- what it reads as
  pub read_fits : (chain : List ℕ) → IfOk (read memory (Chain chain)) IsWord
  read_fits chain =
      after (StandsIn memory.blocks) IsWord (locus memory chain) _ (locus_holds chain)
      (λ at holds_there. content_fits units memory at within)

  -- what is assigned keeps the memory within its bounds
  pub assign_within : (at : Locus) (number : ℕ) → StandsIn memory.blocks at →
      IsWithinBounds units (assign memory at number)
  assign_within (Bug bug) number holds_there = record {
    bugs = All-set IsWord memory.bugs (index_of bug) (number % 2 ^ word_bits)
        (mod_below number (2 ^ word_bits) (pow_pos word_bits)) within.bugs;
    saved_contents = within.saved_contents;
    definitions = within.definitions;
    saved_definitions = within.saved_definitions;
    blocks = within.blocks;
  }
  assign_within (Field place window) number holds_there =
      let words = block_at memory.blocks place in
      let are_words = words_at units memory.blocks place within.blocks in
      let word = slice_index words window.word in
      record {
        bugs = within.bugs;
        saved_contents = within.saved_contents;
        definitions = within.definitions;
        saved_definitions = within.saved_definitions;
        blocks = fits_changed units memory.blocks place words (put_into words window number)
            within.blocks (live_words memory.blocks place holds_there.1)
            (length-set words window.word (put window word number))
            (All-set IsWord words window.word (put window word number)
            (put_fits window word number holds_there.0 (word_of words window.word are_words))
            are_words);
      }
