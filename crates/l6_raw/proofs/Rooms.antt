-- Room for words after those that are written: it gives the room of the next word, and with the words
-- themselves it is the whole room again. Assumes `Logic`.
use Rattle.std.proofs.Common.{◌≡◌, ℕ, ◌+◌, ◌*◌, List, [], ◌∷◌, length, refl, sym, ◌∙◌, w64, arith}
use seplogic.Ra.Ura.{Ura}
use base.Fml.{Fml, froom}
use base.Fraction.{full_share}
use base.Logic.{ent}
use mir.Syntax.{ty_int}
use mir.Val.{vint}
use types.Logic.{Logic, sem}
use types.Kit.{‵, ⋆, ◌$◌, ◌∵◌, !, qed, by, move, drop, use1, fsplit, rewrite}
use denote.Plain.{uint_out}
use denote.RawPtr.Room.{room_glue}
use Rattle.l6_raw.proofs.Rows.{past_words, row_at, array_at, cell_at, row_of_array}
use Rattle.l6_raw.specs.Room.{row_of}

module _ {M : Type 1} {𝓤 : Ura M} (𝓛 : Logic 𝓤) (block : ℕ) where
  -- room for so many words
  abbrev pub room_at : ℕ → ℕ → Fml
  room_at count from = froom (row_of count) block from

  -- where words are there is room for them
  room_of_row : (words : List ℕ) (from : ℕ) →
      ent 𝓤 (sem 𝓛 (row_at 𝓛 block words from)) (sem 𝓛 (room_at (length words) from))
  room_of_row [] from =
      qed 𝓛 (‵ (row_at 𝓛 block [] from) ∷ []) ∵ drop ! $
      by ! (𝓛.laws.room_nil (ty_int w64) block from)
  room_of_row (word ∷ words) from =
      qed 𝓛 (‵ (row_at 𝓛 block (word ∷ words) from) ∷ []) ∵ fsplit ! $
      use1 𝓛 (‵ (cell_at 𝓛 block word from)) (uint_out 𝓛 full_share w64 word block from) $
      use1 𝓛 (‵ (froom (ty_int w64) block from))
      (𝓛.laws.at_room (ty_int w64) block from (vint w64 word)) $ move ! (1 ∷ []) $
      use1 𝓛 (‵ (room_at (length words) (from + 8))) (room_of_row words (from + 8)) $
      move ! (1 ∷ 0 ∷ []) $
      by ! (𝓛.laws.room_cons (ty_int w64) (length words) block from)

  -- the words, and the room after them, are room for all
  pub emptied : (words : List ℕ) (more from : ℕ) →
      ent 𝓤
      (⋆ 𝓛 (‵ (array_at 𝓛 block words from) ∷ ‵ (room_at more (from + length words * 8)) ∷ []))
      (sem 𝓛 (room_at (length words + more) from))
  emptied words more from =
      let start : from + length words * 8 ≡ length words * 8 + from = omega arith in
      qed 𝓛 (‵ (array_at 𝓛 block words from) ∷ ‵ (room_at more (from + length words * 8)) ∷ []) ∵
      use1 𝓛 (‵ (row_at 𝓛 block words from)) (row_of_array 𝓛 block words from) $
      use1 𝓛 (‵ (room_at (length words) from)) (room_of_row words from) $
      rewrite ! 1 (λ (k : ℕ). ‵ (room_at more k))
      (start ∙ sym (past_words (length words) from)) refl $
      by ! (room_glue 𝓛 (ty_int w64) (length words) more block from)
