-- Rows of words in memory. A row is cut in two and glued again, and is an array of its length; so one
-- word of an array is reached and another put in its place, and one is added after the last.
-- Assumes `Logic`.
use Rattle.std.proofs.Common.{◌≡◌, ℕ, zero, suc, ◌+◌, ◌*◌, ◌<◌, List, [], ◌∷◌, ◌++◌, length, take, drop, get_or, set, refl, sym, ap, ◌∙◌, w64, arith}
use Rattle.std.proofs.lemmas.List.{length-take-le, take-append-drop, take-set, drop-set, drop_more}
use seplogic.Ra.Ura.{Ura}
use base.Fml.{Fml, fat, fsep}
use base.Fraction.{full_share}
use base.Logic.{ent}
use mir.Syntax.{ty_int}
use mir.Val.{vint}
use types.Logic.{Logic, sem}
use types.Share.{arr_parts}
use types.Kit.{‵, ◌⊛◌, ⋆, ◌$◌, ◌∵◌, !, qed, by, move, drop as lose, use1, use2, split, fsplit, fjoin, feq_i, rewrite, done}
use denote.ArrayMemory.{Array-apart, Array-whole}
use denote.Builtin.{u64}
use denote.Index.{row}
use denote.Memory.{part_at, shares}
use denote.Plain.{uint_in, uint_out}
use denote.RawPtr.Room.{past}
use denote.Steps.{nothing}
use Rattle.std.specs.Borrow.{Array}

-- the byte after so many words from a byte on
pub past_words : (count from : ℕ) → past (ty_int w64) count from ≡ count * 8 + from
past_words zero from = omega arith
past_words (suc count) from =
    let next : count * 8 + (from + 8) ≡ suc count * 8 + from = omega arith in
    past_words count (from + 8) ∙ next

module _ {M : Type 1} {𝓤 : Ura M} (𝓛 : Logic 𝓤) (block : ℕ) where
  -- these words, one after the other
  abbrev pub row_at : List ℕ → ℕ → Fml
  row_at words from = row u64 full_share words block from

  -- the same as one array
  abbrev pub array_at : List ℕ → ℕ → Fml
  array_at words from = part_at (Array u64 (length words)) full_share words block from

  -- the cell of one word
  abbrev pub cell_at : ℕ → ℕ → Fml
  cell_at word from = fat full_share (ty_int w64) block from (vint w64 word)

  pub row_of_array : (words : List ℕ) (from : ℕ) →
      ent 𝓤 (sem 𝓛 (array_at words from)) (sem 𝓛 (row_at words from))
  row_of_array words from =
      qed 𝓛 (‵ (array_at words from) ∷ []) ∵
      use1 𝓛 (‵ ((arr_parts (shares u64) (length words)).part full_share words block from))
      (Array-apart 𝓛 u64 full_share tt (length words) words block from) $
      fsplit ! $ lose ! $ done !

  pub array_of_row : (words : List ℕ) (from : ℕ) →
      ent 𝓤 (sem 𝓛 (row_at words from)) (sem 𝓛 (array_at words from))
  array_of_row words from =
      qed 𝓛 (‵ (row_at words from) ∷ []) ∵
      feq_i ! ℕ (length words) (length words) refl $ fjoin ! $
      by ! (Array-whole 𝓛 u64 full_share (length words) words block from)

  pub cut : (front back : List ℕ) (from : ℕ) →
      ent 𝓤 (sem 𝓛 (row_at (front ++ back) from))
      (⋆ 𝓛 (‵ (row_at front from) ∷ ‵ (row_at back (past (ty_int w64) (length front) from)) ∷ []))
  cut [] back from = qed 𝓛 (‵ (row_at back from) ∷ []) ∵ nothing ! $ done !
  cut (word ∷ front) back from =
      let following = past (ty_int w64) (length front) (from + 8) in
      qed 𝓛 (‵ (row_at (word ∷ (front ++ back)) from) ∷ []) ∵ fsplit ! $ move ! (1 ∷ []) $
      use1 𝓛 (‵ (row_at front (from + 8)) ⊛ ‵ (row_at back following)) (cut front back (from + 8)) $
      split ! $ move ! (2 ∷ 0 ∷ []) $ fjoin ! $ done !

  pub glue : (front back : List ℕ) (from : ℕ) →
      ent 𝓤
      (⋆ 𝓛 (‵ (row_at front from) ∷ ‵ (row_at back (past (ty_int w64) (length front) from)) ∷ []))
      (sem 𝓛 (row_at (front ++ back) from))
  glue [] back from = qed 𝓛 (‵ (row_at [] from) ∷ ‵ (row_at back from) ∷ []) ∵ lose ! $ done !
  glue (word ∷ front) back from =
      let following = past (ty_int w64) (length front) (from + 8) in
      qed 𝓛 (‵ (row_at (word ∷ front) from) ∷ ‵ (row_at back following) ∷ []) ∵
      fsplit ! $ move ! (1 ∷ 2 ∷ []) $
      use2 𝓛 (‵ (row_at (front ++ back) (from + 8))) (glue front back (from + 8)) $
      move ! (1 ∷ 0 ∷ []) $ fjoin ! $ done !

  -- no word
  pub none_at : (from : ℕ) → ent 𝓤 (⋆ 𝓛 []) (sem 𝓛 (array_at [] from))
  none_at from = qed 𝓛 [] ∵ nothing ! $ by ! (array_of_row [] from)

  -- one word after the others
  pub added : (words : List ℕ) (word from : ℕ) →
      ent 𝓤 (⋆ 𝓛 (‵ (array_at words from) ∷ ‵ (cell_at word (length words * 8 + from)) ∷ []))
      (sem 𝓛 (array_at (words ++ word ∷ []) from))
  added words word from =
      let following = length words * 8 + from in
      let last = past (ty_int w64) (length words) from in
      qed 𝓛 (‵ (array_at words from) ∷ ‵ (cell_at word following) ∷ []) ∵
      use1 𝓛 (‵ (row_at words from)) (row_of_array words from) $ move ! (1 ∷ []) $
      use1 𝓛 (‵ (part_at u64 full_share word block following))
      (uint_in 𝓛 full_share w64 word block following) $
      rewrite ! 0 (λ (k : ℕ). ‵ (part_at u64 full_share word block k))
      (sym (past_words (length words) from)) refl $
      nothing ! $ move ! (1 ∷ 0 ∷ []) $ fjoin ! $ move ! (1 ∷ 0 ∷ []) $
      use2 𝓛 (‵ (row_at (words ++ word ∷ []) from)) (glue words (word ∷ []) from) $
      by ! (array_of_row (words ++ word ∷ []) from)

  -- the word of an index, with what is before and after it
  module _ (words : List ℕ) (index from : ℕ) (inside : index < length words) where
    abbrev pub at : ℕ
    at = index * 8 + from

    abbrev before : List ℕ
    before = take index words

    abbrev following : List ℕ
    following = drop (index + 1) words

    abbrev pub others : Fml
    others = fsep (row_at before from) (row_at following (at + 8))

    place : past (ty_int w64) (length before) from ≡ at
    place =
        past_words (length before) from
        ∙ ap (λ (k : ℕ). k * 8 + from) (length-take-le index words (omega arith))

    parts : words ≡ before ++ (get_or words index 0 ∷ following)
    parts =
        sym (take-append-drop index words)
        ∙ ap (λ (rest : List ℕ). before ++ rest) (drop_more words index 0 inside)

    parts_set : (word : ℕ) → before ++ (word ∷ following) ≡ set words index word
    parts_set word =
        ap (λ (rest : List ℕ). before ++ rest) (sym (drop-set words index word inside))
        ∙ ap (λ (front : List ℕ). front ++ drop index (set words index word))
        (sym (take-set words index word))
        ∙ take-append-drop index (set words index word)

    pub reach : ent 𝓤 (sem 𝓛 (array_at words from))
        (⋆ 𝓛 (‵ (cell_at (get_or words index 0) at) ∷ ‵ others ∷ []))
    reach =
        let word = get_or words index 0 in
        qed 𝓛 (‵ (array_at words from) ∷ []) ∵
        use1 𝓛 (‵ (row_at words from)) (row_of_array words from) $
        rewrite ! 0 (λ (ws : List ℕ). ‵ (row_at ws from)) parts refl $
        use1 𝓛 (‵ (row_at before from)
        ⊛ ‵ (row_at (word ∷ following) (past (ty_int w64) (length before) from)))
        (cut before (word ∷ following) from) $ split ! $
        rewrite ! 1 (λ (k : ℕ). ‵ (row_at (word ∷ following) k)) place refl $
        move ! (1 ∷ []) $ fsplit ! $
        use1 𝓛 (‵ (cell_at word at)) (uint_out 𝓛 full_share w64 word block at) $
        move ! (2 ∷ 1 ∷ []) $ fjoin ! $ move ! (1 ∷ 0 ∷ []) $ done !

    pub put : (word : ℕ) → ent 𝓤 (⋆ 𝓛 (‵ (cell_at word at) ∷ ‵ others ∷ []))
        (sem 𝓛 (array_at (set words index word) from))
    put word =
        qed 𝓛 (‵ (cell_at word at) ∷ ‵ others ∷ []) ∵
        use1 𝓛 (‵ (part_at u64 full_share word block at))
        (uint_in 𝓛 full_share w64 word block at) $
        move ! (1 ∷ []) $ fsplit ! $ move ! (2 ∷ 1 ∷ []) $ fjoin ! $
        rewrite ! 0 (λ (k : ℕ). ‵ (row_at (word ∷ following) k)) (sym place) refl $
        move ! (1 ∷ 0 ∷ []) $
        use2 𝓛 (‵ (row_at (before ++ (word ∷ following)) from)) (glue before (word ∷ following) from) $
        rewrite ! 0 (λ (ws : List ℕ). ‵ (row_at ws from)) (parts_set word) refl $
        by ! (array_of_row (set words index word) from)
