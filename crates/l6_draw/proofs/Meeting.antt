-- The numbers that are met, with those that are left.
use Rattle.std.proofs.Common.{◌≡◌, ℕ, ◌+◌, ◌<◌, List, map, ap, sym, Option}
use Rattle.std.specs.List.{filter_map}
use Rattle.l6_prog.specs.Numerals.{name_count}
use Rattle.l6_steps.specs.declared.locus.Locus.TheVariants.{Bug}
use Rattle.l6_steps.specs.Locus.{content}
use Rattle.l6_steps.specs.State.{Memory}
use Rattle.l6_word.specs.Window.{Window}
use Rattle.l6_draw.specs.Reach.{held_by, letters_from}
use Rattle.l6_draw.specs.inner.Walk.{Walk, all_met, met}
use Rattle.l6_draw.proofs.Letters.{letters_more, letters_none}

-- the bugs from a letter on
abbrev pub bugs_met : Memory → ℕ → Walk → Walk
bugs_met memory letter walk =
    all_met memory.blocks (map (λ bug. content memory (Bug bug)) (letters_from letter)) walk

pub bugs_more : (memory : Memory) (letter : ℕ) (walk : Walk) → letter < name_count
    → bugs_met memory (letter + 1) (met memory.blocks (content memory (Bug letter)) walk)
    ≡ bugs_met memory letter walk
bugs_more memory letter walk below =
    sym (ap (λ (bugs : List ℕ). all_met memory.blocks (map (λ bug. content memory (Bug bug)) bugs) walk)
    (letters_more letter below))

pub bugs_none : (memory : Memory) (letter : ℕ) (walk : Walk) → letter ≡ name_count
    → bugs_met memory letter walk ≡ walk
bugs_none memory letter walk is =
    ap (λ (bugs : List ℕ). all_met memory.blocks (map (λ bug. content memory (Bug bug)) bugs) walk)
    (letters_none letter is)

-- the fields from one on, in a block of these words
abbrev pub fields_met : Memory → List ℕ → List (Option Window) → Walk → Walk
fields_met memory words fields walk = all_met memory.blocks (filter_map (held_by words) fields) walk
