-- The pages of a region, and which of them are used.
use Rattle.std.specs.Prelude.{◌≡◌, ℕ, ◌/◌, ◌%◌, List, Bool, false, slice_index, slice_index_or}

-- how many words a page has, and how many pages the largest region has
abbrev pub page_size : ℕ
page_size = 1024

abbrev pub most_pages : ℕ
most_pages = 256

-- after the first word of each page that is not used all words are 0
pub record AreUnused (words : List ℕ) (used : List Bool) : Type 0 where
  pub zeros : (index : ℕ) → (index % page_size ≡ 0 → ⊥) →
      slice_index_or used (index / page_size) false ≡ false → slice_index words index ≡ 0
