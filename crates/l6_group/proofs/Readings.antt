-- Elements, read character by character from the front.
use Rattle.std.proofs.Common.{◌≡◌, ℕ, ◌+◌, ◌<◌, List, [], ◌∷◌, ◌++◌, length, drop, get_or, false, Option, Some, None, refl, ap, ◌∙◌, arith, length-append, drop-cons, add-one, leb}
use Rattle.std.specs.Option.{option_map, option_and_then}
use Rattle.std.proofs.lemmas.Bool.{lt-leb, and_right}
use Rattle.l6_prog.specs.Numerals.{first_letter, most_names}
use Rattle.l6_group.specs.Character.{is_blank}
use Rattle.l6_group.specs.Element.{chain_from}
use Rattle.l6_group.specs.Number.{onto_read, each_read}

-- what was read, in front of what follows
abbrev pub with_read : List ℕ → Option (List ℕ) → Option (List ℕ)
with_read front others = option_map (λ all. front ++ all) others

-- an element from a place on: the character there is read as this, and then come those after it
pub read_on : (read : ℕ → Option ℕ) (element : List ℕ) (place one : ℕ) → place < length element →
    is_blank (get_or element place 0) ≡ false → read (get_or element place 0) ≡ Some one →
    each_read read (drop place element) ≡ onto_read (Some one)
    (each_read read (drop (place + 1) element))
read_on read element place one within blank known =
    ap (each_read read) (drop-cons element place 0 within)
    ∙ rw (blank, known, add-one) refl

-- more names than a chain may have are none
long_chain : (names : List ℕ) → most_names < length names → chain_from names ≡ None
long_chain [] many = refl
long_chain (bug ∷ fields) many =
    let long = lt-leb (length (bug ∷ fields)) most_names many in
    rw (and_right (leb first_letter bug) (leb (length (bug ∷ fields)) most_names) long) refl

-- as many names as a chain may have, and one more, are no chain, whatever follows
pub too_many_names : (front : List ℕ) (name : ℕ) (others : Option (List ℕ)) →
    length front ≡ most_names →
    option_and_then chain_from (with_read front (onto_read (Some name) others)) ≡ None
too_many_names front name None full = refl
too_many_names front name (Some names) full =
    long_chain (front ++ name ∷ names) (omega (arith, length-append front (name ∷ names)))
