-- The buddy system's rule of choice (K. C. Knowlton, A fast storage allocator, CACM 8(10), 1965). What
-- is free lies in pieces of the sizes of blocks. For each level there is a list of its free pieces, by
-- their first places. A get takes the first piece of the least level that serves, and halves it as
-- often as needed; a free joins the piece with its buddy as often as that one is free and whole.
use Rattle.std.specs.Prelude.{◌≡◌, ◌≢◌, ℕ, zero, suc, ◌+◌, ◌-◌, ◌*◌, ◌%◌, ◌^◌, ◌<◌, ◌≤◌, Bool, true, false, ◌||◌, ◌&&◌, ◌==◌, nat_le, List, [], ◌∷◌, ◌++◌, length, replicate, slice_index_or, slice_set, Option, Some, None, is_some, option_map, unwrap_or, if◌then◌else◌}
use Rattle.l6_word.specs.Numerals.{largest_level, unit_size}
use Rattle.l6_store.specs.Blocks.{Blocks, block_at}
use Rattle.l6_store.specs.Rule.{Order, Rule}
use Rattle.l6_store.specs.Least.{least}

-- whether a place is in a list
unfoldable pub has : ℕ → List ℕ → Bool
has place [] = false
has place (first ∷ rest) = place == first || has place rest

-- a list without a place
unfoldable pub without : ℕ → List ℕ → List ℕ
without place [] = []
without place (first ∷ rest) = if place == first then rest else first ∷ without place rest

-- the first place of a list, and the same where there is none
abbrev pub first_of : List ℕ → Option ℕ
first_of [] = None
first_of (place ∷ places) = Some place

abbrev pub first_or : List ℕ → ℕ → ℕ
first_or [] none = none
first_or (place ∷ places) none = place

-- the place after one in a list, if it is in the list and not the last
unfoldable pub next_in : ℕ → List ℕ → Option ℕ
next_in place [] = None
next_in place (first ∷ rest) = if place == first then first_of rest else next_in place rest

-- the list of a level
abbrev pub listed : Order → ℕ → List ℕ
listed order level = slice_index_or order level []

abbrev pub IsListed : Order → ℕ → ℕ → Type 0
IsListed order level place = has place (listed order level) ≡ true

-- the lists with a place in front of that of a level, and without a place of it
abbrev pub in_front : Order → ℕ → ℕ → Order
in_front order level place = slice_set order level (place ∷ listed order level)

abbrev pub taken_out : Order → ℕ → ℕ → Order
taken_out order level place = slice_set order level (without place (listed order level))

-- two pieces of a level are buddies where they are the halves of one piece of the next: that piece
-- begins at a multiple of its size, and the one of them that does so is its lower half
abbrev pub buddy_of : ℕ → ℕ → ℕ
buddy_of level place = if place % 2 ^ suc level == 0 then place + 2 ^ level else place - 2 ^ level

abbrev pub whole_of : ℕ → ℕ → ℕ
whole_of level place = if place % 2 ^ suc level == 0 then place else place - 2 ^ level

-- a piece that was taken out of its list, and the lists without it
pub record DetachedPiece : Type 0 where
  pub order : Order
  pub level : ℕ
  pub place : ℕ

-- the upper half goes in front of its list, the lower one is kept detached
abbrev pub halved : DetachedPiece → DetachedPiece
halved detached = record {
  order = in_front detached.order (detached.level - 1) (detached.place + 2 ^ (detached.level - 1));
  level = detached.level - 1;
  place = detached.place;
}

-- the buddy comes out of its list, and the two are one piece
abbrev pub joined : DetachedPiece → DetachedPiece
joined detached = record {
  order = taken_out detached.order detached.level (buddy_of detached.level detached.place);
  level = suc detached.level;
  place = whole_of detached.level detached.place;
}

-- halved so many times
unfoldable pub halved_often : ℕ → DetachedPiece → DetachedPiece
halved_often zero detached = detached
halved_often (suc times) detached = halved_often times (halved detached)

-- joined at most so many times, as long as the buddy is listed
unfoldable pub joined_often : ℕ → DetachedPiece → DetachedPiece
joined_often zero detached = detached
joined_often (suc times) detached =
    if has (buddy_of detached.level detached.place) (listed detached.order detached.level)
    then joined_often times (joined detached) else detached

-- how many words the free pieces of the levels below one have, and those of all levels
unfoldable pub free_words_below : ℕ → Order → ℕ
free_words_below zero order = 0
free_words_below (suc level) order =
    2 ^ level * length (listed order level) + free_words_below level order

unfoldable pub free_words : Order → ℕ
free_words order = free_words_below (suc largest_level) order

-- the largest level with a free piece, or none if no level has one
abbrev pub IsLargestFree : Order → Option ℕ → Type 0
IsLargestFree order (Some level) =
    (level ≤ largest_level) × (listed order level ≢ [])
    × ((higher : ℕ) → level < higher → listed order higher ≡ [])
IsLargestFree order None = (level : ℕ) → listed order level ≡ []

-- the least level with a free piece that is at least the level asked for
unfoldable pub level_found : Order → ℕ → Option ℕ
level_found order level =
    least (suc largest_level) (λ k. nat_le level k && is_some (first_of (listed order k)))

-- the first piece of a level, taken out of its list
abbrev pub first_taken : Order → ℕ → DetachedPiece
first_taken order level =
    let place = first_or (listed order level) 0 in
    record { order = taken_out order level place; level = level; place = place }

-- a piece of the level asked for, from the first one of the level found
abbrev pub piece_got : Order → ℕ → ℕ → DetachedPiece
piece_got order level found = halved_often (found - level) (first_taken order found)

-- the piece that is left of a block of a level when it is freed
abbrev pub piece_freed : Order → ℕ → ℕ → DetachedPiece
piece_freed order level place =
    joined_often (largest_level - level) (record { order = order; level = level; place = place })

-- a detached piece goes in front of its list
abbrev pub put_back : DetachedPiece → Order
put_back detached = in_front detached.order detached.level detached.place

-- the level of the block that begins at a place
unfoldable pub level_at : Blocks → ℕ → ℕ
level_at blocks place =
    unwrap_or (least (suc largest_level) (λ k. 2 ^ k == length (block_at blocks place))) 0

-- so many units from a place on
unfoldable pub units_from : ℕ → ℕ → List ℕ
units_from place zero = []
units_from place (suc units) = place ∷ units_from (place + unit_size) units

-- of a new store the largest level lists the units, rising, and no other level lists a piece
abbrev pub first_order : ℕ → Order
first_order units = replicate largest_level [] ++ units_from unit_size units ∷ []

-- the order after a get, by the level found
abbrev pub order_after : Order → ℕ → Option ℕ → Order
order_after order level None = order
order_after order level (Some found) = (piece_got order level found).order

abbrev pub buddy_rule : Rule
buddy_rule = record {
  first = first_order;
  pick = λ _ _ order level.
      option_map (λ found. first_or (listed order found) 0) (level_found order level);
  order_got = λ _ _ order level. order_after order level (level_found order level);
  moves_got = λ _ _ order level. unwrap_or (level_found order level) level - level;
  order_freed = λ _ blocks order place. put_back (piece_freed order (level_at blocks place) place);
  moves_freed = λ _ blocks order place.
      (piece_freed order (level_at blocks place) place).level - level_at blocks place;
}
