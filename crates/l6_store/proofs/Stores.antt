-- What each call of a buddy store does, from what its arena promises.
use Rattle.std.proofs.Common.{◌≡◌, ℕ, ◌+◌, ◌-◌, ◌^◌, ◌≤◌, List, length, replicate, Option, Some, None, refl, ap, sym, ◌∙◌, subst, arith, inl, inr}
use Rattle.std.proofs.lemmas.Bool.{cases_eq}
use Rattle.std.specs.FinMap as map
use Rattle.l6_word.specs.Numerals.{largest_level}
use Rattle.l6_store.specs.Blocks.{Blocks, Fits, IsLive, LiesIn, IsAlignedPlace, block_at}
use Rattle.l6_store.specs.Rule.{Order}
use Rattle.std.specs.Option.{option_map}
use Rattle.l6_store.specs.Store.{Store, IsSound, after_free, after_get, picked}
use Rattle.l6_store.specs.Buddy.{IsListed, buddy_rule, first_or, halved_often, level_at, level_found, listed, order_after, piece_freed, piece_got, put_back, taken_out}
use Rattle.l6_store.specs.Tiles.{Tiles}
use Rattle.l6_store.specs.inner.Detached.{Holding, IsDetached}
use Rattle.l6_store.specs.inner.ArenaLayout.{IsSoundLayout, ArenaLayout}
use Rattle.l6_store.proofs.Live.{live_words}
use Rattle.l6_store.proofs.Gathered.{get_insert_same, get_insert_other}
use Rattle.l6_store.proofs.DetachedBlocks.{block_is_detached, insert_lies}
use Rattle.l6_store.proofs.Detached.{holds_taken}
use Rattle.l6_store.proofs.Finding.{Found, chooses, level_is_found}
use Rattle.l6_store.proofs.Steps.{got_holds, got_tiles, freed_tiles, level_at_is, moves_few_freed, moves_few_got}

-- a filled arena is a sound store
pub sound_store : (layout : ArenaLayout) (moves : ℕ) → IsSoundLayout layout
    → Tiles layout.units layout.blocks layout.order
    → IsSound buddy_rule (record {
      units = layout.units;
      blocks = layout.blocks;
      order = layout.order;
      moves = moves;
    })
sound_store layout moves sound tiles = record {
  some = sound.some;
  most = sound.most;
  fits = sound.fits;
  chooses = chooses layout.units layout.blocks layout.order tiles;
}

-- what fills a store fills it under other names
pub tiles_along : (units one : ℕ) (blocks two : Blocks) (order three : Order) → units ≡ one
    → blocks ≡ two → order ≡ three → Tiles one two three → Tiles units blocks order
tiles_along units one blocks two order three units_are blocks_are order_is tiles =
    subst (λ (u : ℕ). Tiles u blocks order) (sym units_are)
    (subst (λ (b : Blocks). Tiles one b order) (sym blocks_are)
    (subst (λ (o : Order). Tiles one two o) (sym order_is) tiles))

detached_along : (units one : ℕ) (blocks two : Blocks) (level : ℕ) (order three : Order)
    (place four : ℕ) → units ≡ one → blocks ≡ two → order ≡ three → place ≡ four
    → Holding one two (record { order = three; level = level; place = four })
    → Holding units blocks (record { order = order; level = level; place = place })
detached_along units one blocks two level order three place four us bs os ps holding =
    subst (λ (u : ℕ). Holding u blocks (record { order = order; level = level; place = place }))
    (sym us)
    (subst (λ (b : Blocks). Holding one b (record { order = order; level = level; place = place }))
    (sym bs)
    (subst (λ (o : Order). Holding one two (record { order = o; level = level; place = place }))
    (sym os)
    (subst (λ (p : ℕ). Holding one two (record { order = three; level = level; place = p }))
    (sym ps) holding)))

-- ---- other words in a block
again_lies : (blocks : Blocks) (place : ℕ) (old new : List ℕ) → map.get blocks place ≡ Some old
    → length new ≡ length old → (at : ℕ) → LiesIn blocks at → LiesIn (map.insert blocks place new) at
again_lies blocks place old new is count at lies =
    elim (cases_eq lies.start place) as (λ _. LiesIn (map.insert blocks place new) at) [
      | inl same ↦
          let found : Some lies.words ≡ Some old = sym lies.is ∙ ap (map.get blocks) same ∙ is in
          let words_are : lies.words ≡ old = cc in
          let counts : length lies.words ≡ length old = ap (λ (ws : List ℕ). length ws) words_are in
          record {
            start = place;
            words = new;
            is = get_insert_same blocks place new;
            from = omega (arith, lies.from, same);
            below = omega (arith, lies.below, same, counts, count);
          }
      | inr other ↦
          record {
            start = lies.start;
            words = lies.words;
            is = get_insert_other blocks place new lies.start other ∙ lies.is;
            from = lies.from;
            below = lies.below;
          }
    ]

was_lying : (blocks : Blocks) (place : ℕ) (old new : List ℕ) → map.get blocks place ≡ Some old
    → length new ≡ length old → (at : ℕ) → LiesIn (map.insert blocks place new) at → LiesIn blocks at
was_lying blocks place old new is count at lies =
    elim (insert_lies blocks place new at lies) as (λ _. LiesIn blocks at) [
      | inl (from, before) ↦
          record { start = place; words = old; is = is; from = from; below = omega (arith, count) }
      | inr was ↦ was
    ]

pub written_tiles : (units : ℕ) (blocks : Blocks) (order : Order) (place : ℕ) (old new : List ℕ)
    → map.get blocks place ≡ Some old → length new ≡ length old → Tiles units blocks order
    → Tiles units (map.insert blocks place new) order
written_tiles units blocks order place old new is count tiles = record {
  lists = tiles.lists;
  is_aligned = tiles.is_aligned;
  whole = tiles.whole;
  apart = λ at lies. tiles.apart at (was_lying blocks place old new is count at lies);
  once = λ at from before none. tiles.once at from before
      (λ lies. none (again_lies blocks place old new is count at lies));
}

-- ---- a get
pub found_facts : (order : Order) (level found : ℕ) → Some found ≡ level_found order level
    → (level ≤ found) × (found ≤ largest_level)
    × IsListed order found (first_or (listed order found) 0)
unfolding Found
found_facts order level found is =
    subst (λ (o : Option ℕ). Found order level o) (sym is) (level_is_found order level)

module _ (was : ArenaLayout) (sound : IsSoundLayout was) (tiles : Tiles was.units was.blocks was.order)
    (level found place : ℕ) (is : Some found ≡ level_found was.order level) (popped : ArenaLayout)
    (popped_units : popped.units ≡ was.units) (popped_blocks : popped.blocks ≡ was.blocks)
    (popped_order : popped.order ≡ taken_out was.order found place)
    (first : place ≡ first_or (listed was.order found) 0) where
  taken : popped.order ≡ taken_out was.order found (first_or (listed was.order found) 0)
  taken = popped_order ∙ ap (taken_out was.order found) first

  pub is_detached : IsDetached popped.units popped.blocks
      (record { order = popped.order; level = found; place = place })
  is_detached = record {
    most = omega (arith, sound.most, popped_units);
    holds = detached_along popped.units was.units popped.blocks was.blocks found popped.order
        (taken_out was.order found (first_or (listed was.order found) 0)) place
        (first_or (listed was.order found) 0) popped_units popped_blocks taken first
        (holds_taken was.units was.blocks was.order found (first_or (listed was.order found) 0) tiles
        (found_facts was.order level found is).2);
  }

  module _ (now : ArenaLayout) (units : now.units ≡ popped.units) (blocks : now.blocks ≡ popped.blocks)
      (order : now.order ≡ (halved_often (found - level)
      (record { order = popped.order; level = found; place = place })).order) where
    got_order : now.order ≡ (piece_got was.order level found).order
    got_order =
        order
        ∙ ap (λ (o : Order). (halved_often (found - level)
        (record { order = o; level = found; place = place })).order) taken
        ∙ ap (λ (p : ℕ). (halved_often (found - level)
        (record {
          order = taken_out was.order found (first_or (listed was.order found) 0);
          level = found;
          place = p;
        })).order) first

    pub got_detached : Holding now.units now.blocks
        (record { order = now.order; level = level; place = place })
    got_detached = detached_along now.units was.units now.blocks was.blocks level now.order
        (piece_got was.order level found).order place (first_or (listed was.order found) 0)
        (units ∙ popped_units) (blocks ∙ popped_blocks) got_order first
        (got_holds was.units was.blocks was.order level found tiles
        (found_facts was.order level found is).0 (found_facts was.order level found is).2)

    module _ (new : ArenaLayout) (new_units : new.units ≡ now.units)
        (new_blocks : new.blocks ≡ map.insert now.blocks place (replicate (2 ^ level) 0))
        (new_order : new.order ≡ now.order) where
      pub got_filled : Tiles new.units new.blocks new.order
      got_filled = tiles_along new.units was.units new.blocks
          (map.insert was.blocks (first_or (listed was.order found) 0) (replicate (2 ^ level) 0))
          new.order (piece_got was.order level found).order (new_units ∙ units ∙ popped_units)
          (new_blocks
          ∙ ap (λ (b : Blocks). map.insert b place (replicate (2 ^ level) 0))
          (blocks ∙ popped_blocks)
          ∙ ap (λ (p : ℕ). map.insert was.blocks p (replicate (2 ^ level) 0)) first)
          (new_order ∙ got_order)
          (got_tiles was.units was.blocks was.order level found sound.fits tiles
          (found_facts was.order level found is).0 (found_facts was.order level found is).2)

-- ---- a free
module _ (was : ArenaLayout) (sound : IsSoundLayout was) (tiles : Tiles was.units was.blocks was.order)
    (place level : ℕ) (live : IsLive was.blocks place) (small : level ≤ largest_level)
    (size : 2 ^ level ≡ length (block_at was.blocks place)) (closed : ArenaLayout)
    (closed_units : closed.units ≡ was.units)
    (closed_blocks : closed.blocks ≡ map.remove was.blocks place)
    (closed_order : closed.order ≡ was.order) where
  pub level_known : level_at was.blocks place ≡ level
  level_known = level_at_is was.blocks place level (block_at was.blocks place) small
      (live_words was.blocks place live) (sym size)

  freed_holds : IsAlignedPlace was.units level place
  freed_holds =
      let block = sound.fits.each place (block_at was.blocks place) (live_words was.blocks place live)
      in
      let its : level_at was.blocks place ≡ block.level
      = level_at_is was.blocks place block.level (block_at was.blocks place) block.is_aligned.small
      (live_words was.blocks place live) block.size in
      subst (λ (k : ℕ). IsAlignedPlace was.units k place) (sym its ∙ level_known) block.is_aligned

  pub closed_detached : IsDetached closed.units closed.blocks
      (record { order = closed.order; level = level; place = place })
  closed_detached = record {
    most = omega (arith, sound.most, closed_units);
    holds = detached_along closed.units was.units closed.blocks (map.remove was.blocks place) level
        closed.order was.order place place closed_units closed_blocks closed_order refl
        (block_is_detached was.units was.blocks was.order level place (block_at was.blocks place)
        sound.fits tiles (live_words was.blocks place live) (sym size) freed_holds);
  }

  module _ (new : ArenaLayout) (units : new.units ≡ closed.units) (blocks : new.blocks ≡ closed.blocks)
      (order : new.order ≡ put_back (piece_freed closed.order level place)) where
    pub freed_order : new.order
        ≡ put_back (piece_freed was.order (level_at was.blocks place) place)
    freed_order =
        order ∙ ap (λ (o : Order). put_back (piece_freed o level place)) closed_order
        ∙ ap (λ (k : ℕ). put_back (piece_freed was.order k place)) (sym level_known)

    pub freed_filled : Tiles new.units new.blocks new.order
    freed_filled = tiles_along new.units was.units new.blocks (map.remove was.blocks place) new.order
        (put_back (piece_freed was.order (level_at was.blocks place) place)) (units ∙ closed_units)
        (blocks ∙ closed_blocks) freed_order
        (freed_tiles was.units was.blocks was.order place (block_at was.blocks place) sound.fits tiles
        (live_words was.blocks place live))

    pub freed_moves : (moves : ℕ) → moves + level ≡ (piece_freed closed.order level place).level
        → moves ≡ (piece_freed was.order (level_at was.blocks place) place).level
        - level_at was.blocks place
    freed_moves moves counted =
        let piece : (piece_freed closed.order level place).level
        ≡ (piece_freed was.order level place).level
        = ap (λ (o : Order). (piece_freed o level place).level) closed_order in
        let determined : (piece_freed was.order (level_at was.blocks place) place).level
        ≡ (piece_freed was.order level place).level
        = ap (λ (k : ℕ). (piece_freed was.order k place).level) level_known in
        omega (arith, counted, piece, determined, level_known)

-- records of a store are equal where their fields are
pub store_is : (units one : ℕ) (blocks two : Blocks) (order three : Order) (moves four : ℕ)
    → units ≡ one → blocks ≡ two → order ≡ three → moves ≡ four
    → ◌≡◌ {A = Store} (record { units = units; blocks = blocks; order = order; moves = moves })
    (record { units = one; blocks = two; order = three; moves = four })
store_is units one blocks two order three moves four us bs os ms =
    ap (λ (u : ℕ). let s : Store
    = record { units = u; blocks = blocks; order = order; moves = moves } in s) us
    ∙ ap (λ (b : Blocks). let s : Store
    = record { units = one; blocks = b; order = order; moves = moves } in s) bs
    ∙ ap (λ (o : Order). let s : Store
    = record { units = one; blocks = two; order = o; moves = moves } in s) os
    ∙ ap (λ (m : ℕ). let s : Store
    = record { units = one; blocks = two; order = three; moves = m } in s) ms

-- ---- laws of stores
got_tiled_by : (store : Store) (level : ℕ) → Fits store.units store.blocks
    → Tiles store.units store.blocks store.order → (found : Option ℕ)
    → found ≡ level_found store.order level
    → let after : Store = after_get buddy_rule store level
    (option_map (λ k. first_or (listed store.order k) 0) found) in
    Tiles after.units after.blocks after.order
got_tiled_by store level fits tiles None is = tiles
got_tiled_by store level fits tiles (Some found) is =
    let facts = found_facts store.order level found is in
    let place : ℕ = first_or (listed store.order found) 0 in
    subst (λ (o : Option ℕ). Tiles store.units
    (map.insert store.blocks place (replicate (2 ^ level) 0)) (order_after store.order level o)) is
    (got_tiles store.units store.blocks store.order level found fits tiles facts.0 facts.2)

pub got_tiled : (store : Store) (level : ℕ) → Fits store.units store.blocks
    → Tiles store.units store.blocks store.order
    → let after : Store = after_get buddy_rule store level (picked buddy_rule store level) in
    Tiles after.units after.blocks after.order
got_tiled store level fits tiles =
    got_tiled_by store level fits tiles (level_found store.order level) refl

moves_got_by : (store : Store) (level : ℕ) → level ≤ largest_level → (answer : Option ℕ)
    → (after_get buddy_rule store level answer).moves ≤ largest_level
moves_got_by store level small None = omega arith
moves_got_by store level small (Some place) = moves_few_got store.order level small

pub moves_got : (store : Store) (level : ℕ) → level ≤ largest_level
    → (after_get buddy_rule store level (picked buddy_rule store level)).moves ≤ largest_level
moves_got store level small = moves_got_by store level small (picked buddy_rule store level)

pub moves_freed : (store : Store) (place : ℕ)
    → (after_free buddy_rule store place).moves ≤ largest_level
moves_freed store place = moves_few_freed store.order (level_at store.blocks place) place
