-- The next block from a place on.
use Rattle.std.proofs.Common.{◌≡◌, ℕ, zero, suc, ◌≤◌, slice_index, Option, Some, None, refl, ap, sym, subst, arith, inl, inr}
use Rattle.std.specs.Option.{IsSome}
use Rattle.std.proofs.lemmas.Nat.{pow_pos}
use Rattle.std.proofs.lemmas.Bool.{cases_lt}
use Rattle.l6_places.specs.Board.{Board, Fits, IsNextBlock, level_of}
use Rattle.l6_places.specs.inner.Ways.{IsFirstBlock}

-- behind the end no block begins
none_behind : (b : Board) → Fits b → (at mark : ℕ) → b.end ≤ at → slice_index b.marks at ≡ mark
    → level_of mark ≡ None
none_behind b fits at zero behind is = refl
none_behind b fits at (suc level) behind is =
    absurd (omega (arith, behind, pow_pos level, (fits.each at level is).within))

pub next_of : (b : Board) → Fits b → (from : ℕ) (found : Option ℕ) → IsFirstBlock b from b.end found
    → IsNextBlock b from found
next_of b fits from (Some place) i = (
  i.low,
  subst (λ (mark : ℕ). IsSome (level_of mark)) (sym i.begins) refl,
  λ at low less. ap level_of (i.before at low less),
)
next_of b fits from None none = λ at low.
    elim (cases_lt at b.end) as (λ _. level_of (slice_index b.marks at) ≡ None) [
      | inl before ↦ ap level_of (none at low before)
      | inr behind ↦ none_behind b fits at (slice_index b.marks at) behind refl
    ]
