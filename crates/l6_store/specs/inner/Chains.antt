-- The list that words hold from a head on, and what the helpers of links do to words and heads.
use Rattle.std.specs.Prelude.{ℕ, zero, suc, ◌/◌, ◌%◌, ◌^◌, ◌==◌, List, [], ◌∷◌, length, map, slice_index, slice_set, if◌then◌else◌}
use Rattle.l6_store.specs.Numerals.{place_bits}
use Rattle.l6_store.specs.Rule.{Order}
use Rattle.l6_store.specs.Links.{link_word}

-- the places before and after that a word holds
abbrev pub before_in : ℕ → ℕ
before_in word = word / 2 ^ place_bits

abbrev pub after_in : ℕ → ℕ
after_in word = word % 2 ^ place_bits

-- the places from one on, by the links in the words, at most so many
unfoldable pub followed : ℕ → List ℕ → ℕ → List ℕ
followed zero words place = []
followed (suc count) words place =
    if place == 0 then [] else place ∷ followed count words (after_in (slice_index words place))

unfoldable pub list_of : List ℕ → ℕ → List ℕ
list_of words head = followed (length words) words head

-- the lists from each head on
unfoldable pub order_of : List ℕ → List ℕ → Order
order_of words heads = map (list_of words) heads

-- the words with another place before or after the one at a place; place 0 has no link
unfoldable pub with_before : List ℕ → ℕ → ℕ → List ℕ
with_before words place before =
    if place == 0 then words
    else slice_set words place (link_word before (after_in (slice_index words place)))

unfoldable pub with_after : List ℕ → ℕ → ℕ → List ℕ
with_after words place after =
    if place == 0 then words
    else slice_set words place (link_word (before_in (slice_index words place)) after)

-- the heads with another one where nothing is before a place
unfoldable pub with_head : List ℕ → ℕ → ℕ → ℕ → List ℕ
with_head heads level before after = if before == 0 then slice_set heads level after else heads

-- the words after a place was linked in front of a list that begins with another
unfoldable pub words_linked : List ℕ → ℕ → ℕ → List ℕ
words_linked words place head = with_before (slice_set words place (link_word 0 head)) head place

-- and after a place was taken out of its list
unfoldable pub words_unlinked : List ℕ → ℕ → List ℕ
words_unlinked words place =
    let word = slice_index words place in
    with_before (with_after words (before_in word) (after_in word)) (after_in word) (before_in word)
