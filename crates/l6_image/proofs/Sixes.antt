-- Names and codes, six in a word.
use Rattle.std.proofs.Common.{◌≡◌, ℕ, ◌≤◌, ◌&&◌, List, [], ◌∷◌, ◌++◌, length, drop, min, true, false, eqb, refl, ap, sym, ◌∙◌, arith, append_assoc}
use Rattle.std.specs.List.{list_all}
use Rattle.std.specs.Prelude.{nat_le}
use Rattle.std.proofs.lemmas.List.{drop_min}
use Rattle.std.proofs.lemmas.Bool.{and_parts, leb-true}
use Rattle.l6_prog.specs.Numerals.{most_names, first_letter}
use Rattle.l6_prog.specs.Chain.{is_name, is_chain}
use Rattle.l6_image.specs.Bits.{six}
use Rattle.l6_image.specs.Row.{sixes}

-- the first of some codes are in one word, and the others after it
sixes_step : (codes : List ℕ) → eqb (length codes) 0 ≡ false →
    sixes codes ≡ six 0 codes ∷ sixes (drop 6 codes)
sixes_step [] some = absurd (cc)
sixes_step (a ∷ []) some = refl
sixes_step (a ∷ b ∷ []) some = refl
sixes_step (a ∷ b ∷ c ∷ []) some = refl
sixes_step (a ∷ b ∷ c ∷ d ∷ []) some = refl
sixes_step (a ∷ b ∷ c ∷ d ∷ e ∷ []) some = refl
sixes_step (a ∷ b ∷ c ∷ d ∷ e ∷ f ∷ codes) some = refl

-- there is no name, or not too many
pub few_names : (names : List ℕ) → is_chain names ≡ true → length names ≤ most_names
few_names [] chained = omega arith
few_names (bug ∷ fields) chained =
    let letter = nat_le first_letter bug in
    let few = nat_le (length (bug ∷ fields)) most_names in
    let front = (and_parts (letter && few) (list_all is_name (bug ∷ fields)) chained).0 in
    leb-true (length (bug ∷ fields)) most_names (and_parts letter few front).1

-- each name of a chain is one
pub each_name : (names : List ℕ) → is_chain names ≡ true → list_all is_name names ≡ true
each_name [] chained = refl
each_name (bug ∷ fields) chained =
    (and_parts (nat_le first_letter bug && nat_le (length (bug ∷ fields)) most_names)
    (list_all is_name (bug ∷ fields)) chained).1

-- the codes in front are written, and those after are left
pub sixes_more : (words more codes following : List ℕ) (room : ℕ) → eqb (length codes) 0 ≡ false →
    room ≡ min 6 (length codes) → following ≡ drop room codes → more ≡ words ++ six 0 codes ∷ [] →
    more ++ sixes following ≡ words ++ sixes codes
sixes_more words more codes following room some is left written =
    let rest : following ≡ drop 6 codes =
    left ∙ ap (λ n. drop n codes) is ∙ drop_min 6 codes in
    ap (λ ws. ws ++ sixes following) written ∙ ap (λ cs. (words ++ six 0 codes ∷ []) ++ sixes cs) rest
    ∙ append_assoc words (six 0 codes ∷ []) (sixes (drop 6 codes))
    ∙ ap (λ ws. words ++ ws) (sym (sixes_step codes some))
