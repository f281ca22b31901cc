-- What the calls answer of blocks, by the levels and words that a store tells.
use Rattle.std.proofs.Common.{◌≡◌, ℕ, ◌^◌, ◌<◌, ◌≤◌, Bool, true, false, List, length, Option, Some, None, refl, ap, sym, ◌∙◌, arith, inl, inr, ◌⊎◌}
use Rattle.std.specs.Prelude.{◌==◌, ◌||◌, not, if◌then◌else◌, Ok, Err}
use Rattle.std.specs.FinMap as map
use Rattle.std.specs.Option.{IfSome, is_some, ok_or, option_map}
use Rattle.std.proofs.lemmas.Bool.{cases_lt, eq-eqb, ne_eqb}
use Rattle.std.proofs.lemmas.Nat.{pow_below}
use Rattle.std.proofs.lemmas.Option.{slice_get_past}
use Rattle.l6_word.specs.Numerals.{largest_level}
use Rattle.l6_store.specs.Blocks.{Blocks}
use Rattle.l6_store.specs.Buddy.{level_at}
use Rattle.l6_store.proofs.Multiples.{size_le}
use Rattle.l6_store.proofs.Steps.{level_at_is}
use Rattle.l6_store_c.specs.declared.fault.CallFault.TheVariants.{NoWord, NotAlike}
use Rattle.l6_store_c.specs.Outcome.{copy_outcome, level_of, read_outcome}

-- two levels whose blocks are as long are one
same_level : (one other : ℕ) → 2 ^ one ≡ 2 ^ other → one ≡ other
same_level one other same =
    elim (cases_lt one other) as (λ _. one ≡ other) [
      | inl less ↦ absurd (omega (arith, same, pow_below one other less))
      | inr from ↦ elim (cases_lt other one) as (λ _. one ≡ other) [
        | inl more ↦ absurd (omega (arith, same, pow_below other one more))
        | inr up_to ↦ omega (arith, from, up_to)
      ]
    ]

or_true : (b c : Bool) → c ≡ true → (b || c) ≡ true
or_true true c is = refl
or_true false c is = is

or_first : (b c : Bool) → b ≡ true → (b || c) ≡ true
or_first true c is = refl
or_first false c is = cc

pub apart : (from to level other : ℕ) →
    (from ≡ to) ⊎ ((from ≡ to → ⊥) × (level ≡ other → ⊥)) → (from ≡ to) ⊎ (level ≡ other → ⊥)
apart from to level other (inl same) = inl same
apart from to level other (inr both) = inr both.1

pub not_alike : (from to level other : ℕ) (block target : Option (List ℕ)) →
    Some (2 ^ level) ≡ option_map (λ (words : List ℕ). length words) block →
    Some (2 ^ other) ≡ option_map (λ (words : List ℕ). length words) target →
    (from ≡ to) ⊎ (level ≡ other → ⊥) → Err NotAlike ≡ copy_outcome from block to target
not_alike from to level other None target one two apart = cc
not_alike from to level other (Some words) None one two apart = cc
not_alike from to level other (Some words) (Some others) one two apart =
    let size : 2 ^ level ≡ length words = cc in
    let target_size : 2 ^ other ≡ length others = cc in
    let test : Bool = from == to || not (length words == length others) in
    let is : test ≡ true = elim apart as (λ _. test ≡ true) [
      | inl same ↦ or_first (from == to) (not (length words == length others)) (eq-eqb from to same)
      | inr differ ↦
          or_true (from == to) (not (length words == length others))
          (ap not (ne_eqb (length words) (length others)
          (λ same. differ (same_level level other (size ∙ same ∙ sym target_size)))))
    ] in
    sym (ap (λ (b : Bool). if b then Err NotAlike else Ok 0) is)

pub level_told : (blocks : Blocks) (place level : ℕ) (block : Option (List ℕ)) →
    map.get blocks place ≡ block → level ≤ largest_level →
    Some (2 ^ level) ≡ option_map (λ (words : List ℕ). length words) block →
    Ok level ≡ level_of block (level_at blocks place)
level_told blocks place level None is small size = cc
level_told blocks place level (Some words) is small size =
    let long : 2 ^ level ≡ length words = cc in
    ap (λ (l : ℕ). Ok l) (sym (level_at_is blocks place level words small is (sym long)))

pub past_word : (level : Option ℕ) (block : Option (List ℕ)) (index : ℕ) →
    option_map (λ (l : ℕ). 2 ^ l) level ≡ option_map (λ (words : List ℕ). length words) block →
    IfSome level (λ l. l ≤ largest_level) → is_some level ≡ true → 65535 < index →
    Err NoWord ≡ read_outcome block index
past_word None block index same small some past = cc
past_word (Some level) None index same small some past = cc
past_word (Some level) (Some words) index same small some past =
    let size : 2 ^ level ≡ length words = cc in
    ap (λ (word : Option ℕ). ok_or word NoWord)
    (sym (slice_get_past words index
    (omega (arith, size, size_le level largest_level small, past))))
