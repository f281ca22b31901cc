-- Lines that are added, one after another.
use Rattle.std.proofs.Common.{◌≡◌, ℕ, ◌+◌, ◌-◌, ◌<◌, List, ◌∷◌, ◌++◌, length, get_or, drop, Bool, ap, sym, ◌∙◌, append_assoc, append-nil, add-one, drop-cons}
use Rattle.std.specs.List.{flat_map}
use Rattle.l6_prog.specs.Numerals.{name_count}
use Rattle.l6_steps.specs.State.{Memory}
use Rattle.l6_draw.specs.Reach.{is_reached, letters_from}
use Rattle.l6_draw.specs.StoreMap.{block_line, free_line, line_of, size_at, stretches_from}
use Rattle.l6_draw.proofs.Letters.{letters_more, letters_none}

-- the line of one letter more, or none
pub letter_line_more : (line : ℕ → List ℕ) (letter : ℕ) (text now all : List ℕ) → letter < name_count
    → now ≡ text ++ line letter → text ++ flat_map line (letters_from letter) ≡ all
    → now ++ flat_map line (letters_from (letter + 1)) ≡ all
letter_line_more line letter text now all below added before =
    ap (λ (t : List ℕ). t ++ flat_map line (letters_from (letter + 1))) added
    ∙ append_assoc text (line letter) (flat_map line (letters_from (letter + 1)))
    ∙ ap (λ (bugs : List ℕ). text ++ flat_map line bugs) (sym (letters_more letter below))
    ∙ before

pub letter_line_none : (line : ℕ → List ℕ) (letter : ℕ) (text all : List ℕ) → letter ≡ name_count
    → text ++ flat_map line (letters_from letter) ≡ all → text ≡ all
letter_line_none line letter text all is before =
    sym (append-nil text)
    ∙ ap (λ (bugs : List ℕ). text ++ flat_map line bugs) (sym (letters_none letter is)) ∙ before

-- the lines of one block more
one_stretch : (memory : Memory) (start : ℕ) (starts : List ℕ) (from end : ℕ)
    (text free block : List ℕ) (reached : Bool) (gap size : ℕ) → gap ≡ start - from
    → free ≡ text ++ free_line from gap → size ≡ size_at memory start
    → reached ≡ is_reached memory start → block ≡ free ++ block_line start size reached
    → block ++ flat_map (line_of memory) (stretches_from memory (start + size) end starts)
    ≡ text ++ flat_map (line_of memory) (stretches_from memory from end (start ∷ starts))
one_stretch memory start starts from end text free block reached gap size far added is test line =
    let before : List ℕ = free_line from (start - from) in
    let this : List ℕ = block_line start (size_at memory start) (is_reached memory start) in
    let rest : List ℕ
    = flat_map (line_of memory) (stretches_from memory (start + size_at memory start) end starts) in
    let between : free ≡ text ++ before = added ∙ ap (λ (n : ℕ). text ++ free_line from n) far in
    let whole : block ≡ (text ++ before) ++ this
    = line ∙ (λ i. between i ++ block_line start (is i) (test i)) in
    (λ i. whole i ++ flat_map (line_of memory) (stretches_from memory (start + is i) end starts))
    ∙ append_assoc (text ++ before) this rest ∙ append_assoc text before (this ++ rest)

next_start : (starts : List ℕ) (index : ℕ) → index < length starts
    → drop index starts ≡ get_or starts index 0 ∷ drop (index + 1) starts
next_start starts index within = rw (add-one, drop-cons starts index 0)

pub stretch_more : (memory : Memory) (starts : List ℕ) (index from end : ℕ)
    (text free block all : List ℕ) (reached : Bool) (gap size : ℕ) → index < length starts
    → gap ≡ get_or starts index 0 - from → free ≡ text ++ free_line from gap
    → size ≡ size_at memory (get_or starts index 0)
    → reached ≡ is_reached memory (get_or starts index 0)
    → block ≡ free ++ block_line (get_or starts index 0) size reached
    → text ++ flat_map (line_of memory) (stretches_from memory from end (drop index starts)) ≡ all
    → block ++ flat_map (line_of memory)
    (stretches_from memory (get_or starts index 0 + size) end (drop (index + 1) starts)) ≡ all
stretch_more memory starts index from end text free block all reached gap size within far added is
    test line
    before =
    one_stretch memory (get_or starts index 0) (drop (index + 1) starts) from end text free block
    reached gap size far added is test line
    ∙ ap (λ (left : List ℕ). text ++ flat_map (line_of memory) (stretches_from memory from end left))
    (sym (next_start starts index within))
    ∙ before
