-- The words of a line, cut at its blanks.
use Rattle.std.proofs.Common.{◌≡◌, ℕ, ◌+◌, ◌-◌, List, [], ◌∷◌, Option, Some, None, length, take, drop, false, sym, ap, ◌∙◌, subst, arith, inl, inr, length-drop, take_all}
use Rattle.std.specs.Prelude.{MatchOption, cond}
use Rattle.std.specs.List.{after_first, position, position_or_len, slice_split}
use Rattle.std.proofs.lemmas.Bool.{cases_lt, lt-ltb, le-ltb}
use Rattle.std.proofs.lemmas.List.Elements.{All-from_get_or}
use Rattle.std.proofs.lemmas.List.Splits.{slice_split_first, slice_split_none}
use Rattle.std.proofs.lemmas.List.Sums.{fails_before_first}
use Rattle.l6_group.specs.Character.{is_blank}

-- bytes are cut at the first blank, if one is found
abbrev pub IsCutAt : List ℕ → Option ℕ → Type 0
IsCutAt bytes found =
    MatchOption found (slice_split is_blank bytes ≡ bytes ∷ [])
    (λ place. slice_split is_blank bytes
    ≡ take place bytes ∷ slice_split is_blank
    (take (length bytes - (place + 1)) (drop (place + 1) bytes)))

pub split_first : (bytes : List ℕ) → IsCutAt bytes (position is_blank bytes)
split_first bytes =
    let place = position_or_len is_blank bytes in
    elim (cases_lt place (length bytes)) as (λ _. IsCutAt bytes (position is_blank bytes)) [
      | inl within ↦
          (let after = after_first is_blank bytes in
          subst (λ b. IsCutAt bytes (cond b (Some place) None)) (sym (lt-ltb place (length bytes) within))
          (slice_split_first is_blank bytes 0 within
          ∙ ap (λ l. take place bytes ∷ slice_split is_blank l)
          (sym (take_all (length bytes - (place + 1)) after
          (omega (arith, length-drop (place + 1) bytes))))))
      | inr past ↦
          subst (λ b. IsCutAt bytes (cond b (Some place) None)) (sym (le-ltb place (length bytes) past))
          (slice_split_none is_blank bytes
          (All-from_get_or (λ b. is_blank b ≡ false) bytes 0
          (λ i within. fails_before_first is_blank bytes i 0 (omega arith))))
    ]
