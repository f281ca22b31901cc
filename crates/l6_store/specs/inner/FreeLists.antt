-- The free list of one level: what is true of it before a place is put in or taken out, and after it.
use Rattle.std.specs.Prelude.{◌≡◌, ℕ, ◌<◌, ◌≤◌, true, List, length, slice_index}
use Rattle.l6_store.specs.Buddy.{first_or, has}
use Rattle.l6_store.specs.Links.{AreLinked}
use Rattle.l6_store.specs.inner.ArenaLayout.{AreDistinct}

-- these places are the free list of a level: it begins at the level's head, the words link it, no
-- place is twice in it, and each is the place of a word, but not 0
pub record IsFreeList (words heads : List ℕ) (level : ℕ) (places : List ℕ) : Type 0 where
  pub begun : slice_index heads level ≡ first_or places 0
  pub linked : AreLinked words 0 places 0
  pub distinct : AreDistinct places
  pub within : (place : ℕ) → has place places ≡ true → (1 ≤ place) × (place < length words)
