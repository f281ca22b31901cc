-- Columns, and what they show.
use Rattle.std.proofs.Common.{◌≡◌, ℕ, ◌+◌, ◌<◌, List, [], ◌∷◌, ◌++◌, length, map, take, drop, get_or, set, ap, sym, ◌∙◌, arith, append_assoc}
use Rattle.std.proofs.Math.Seq.{set-append_seam, get_or-append_seam}
use Rattle.std.proofs.lemmas.List.{map_more, drop_more, length-take-le, length-map}

-- one column more shows what it shows
pub shown_more : (f : ℕ → ℕ) (columns items : List ℕ) (place value : ℕ) → place < length columns →
    items ≡ map f (take place columns) ++ drop place columns → value ≡ f (get_or items place 0) →
    set items place value ≡ map f (take (place + 1) columns) ++ drop (place + 1) columns
shown_more f columns items place value within so_far is =
    let front : List ℕ = map f (take place columns) in
    let column : ℕ = get_or columns place 0 in
    let rest : List ℕ = drop (place + 1) columns in
    let count : length front ≡ place =
    length-map (take place columns) f ∙ length-take-le place columns (omega (arith, within)) in
    let whole : items ≡ front ++ column ∷ rest =
    so_far ∙ ap (λ xs. front ++ xs) (drop_more columns place 0 within) in
    let read : get_or items place 0 ≡ column =
    ap (λ xs. get_or xs place 0) whole ∙ ap (λ n. get_or (front ++ column ∷ rest) n 0) (sym count)
    ∙ get_or-append_seam front column rest 0 in
    ap (λ xs. set xs place value) whole
    ∙ ap (λ n. set (front ++ column ∷ rest) n value) (sym count)
    ∙ set-append_seam front column rest value
    ∙ ap (λ v. front ++ v ∷ rest) (is ∙ ap f read)
    ∙ sym (append_assoc front (f column ∷ []) rest)
    ∙ ap (λ xs. xs ++ rest) (sym (map_more f columns place 0 within))
