-- What is seen of the block at a place.
use Rattle.std.proofs.Common.{◌≡◌, ℕ, true, false, List, Option, Some, None, refl, sym, ap, ◌≤◌, arith, true≢false}
use Rattle.std.specs.Prelude.{is_some, not}
use Rattle.std.specs.FinMap as map
use Rattle.std.specs.Str.{bytes_eq}
use Rattle.std.proofs.lemmas.Bool.{not-false}
use Rattle.std.proofs.lemmas.Nat.{pow_pos}
use Rattle.std.proofs.lemmas.Slice.Eq.{bytes_eq-Decides}
use Rattle.l6_store.specs.Blocks.{Blocks, Fits, end_of}
use Rattle.l6_history.specs.Life.{is_freed, is_got, is_written}
use Rattle.l6_history.specs.declared.block_watch.Looked.{Looked}
use Rattle.l6_history.specs.declared.block_watch.Looked.TheVariants.{Presence}
use Rattle.l6_history.specs.inner.Seeking.{ComparesValues}
use Rattle.l6_history.specs.inner.Watches.{block_goal, blocks_differ, seen_at, seen_by}

-- a block does not differ from itself
same_block : (block : Option (List ℕ)) → blocks_differ block block ≡ false
same_block None = refl
same_block (Some words) = ap not ((bytes_eq-Decides words words).1 refl)

-- and what does not differ is the same
alike_blocks : (one other : Option (List ℕ)) → blocks_differ one other ≡ false → one ≡ other
alike_blocks None None same = refl
alike_blocks None (Some words) same = absurd (true≢false same)
alike_blocks (Some words) None same = absurd (true≢false same)
alike_blocks (Some one) (Some other) same =
    ap (λ (words : List ℕ). Some words)
    ((bytes_eq-Decides one other).0 (not-false (bytes_eq one other) same))

pub blocks_compare : (place : ℕ) (by : Looked) → ComparesValues (block_goal place by)
blocks_compare place by = record {
  unchanged = λ state. same_block (seen_at place by state);
  alike = λ one other there same.
      ap (λ (block : Option (List ℕ)). blocks_differ block (seen_at place by there))
      (sym (alike_blocks (seen_at place by one) (seen_at place by other) same));
}

-- ---- whether it is there
pub there_alike : (one other : Option (List ℕ)) →
    blocks_differ (seen_by Presence one) (seen_by Presence other) ≡ false → is_some one ≡ is_some other
there_alike None None same = refl
there_alike None (Some words) same = absurd (true≢false same)
there_alike (Some words) None same = absurd (true≢false same)
there_alike (Some one) (Some other) same = refl

pub got_there : (one other : Option (List ℕ)) →
    blocks_differ (seen_by Presence one) (seen_by Presence other) ≡ true → is_some other ≡ true →
    is_got one other ≡ true
got_there None None differ there = absurd (true≢false (sym there))
got_there None (Some words) differ there = refl
got_there (Some words) None differ there = absurd (true≢false (sym there))
got_there (Some one) (Some other) differ there = absurd (true≢false (sym differ))

pub freed_there : (one other : Option (List ℕ)) →
    blocks_differ (seen_by Presence one) (seen_by Presence other) ≡ true → is_some other ≡ false →
    is_freed one other ≡ true
freed_there None None differ gone = absurd (true≢false (sym differ))
freed_there None (Some words) differ gone = absurd (true≢false gone)
freed_there (Some words) None differ gone = refl
freed_there (Some one) (Some other) differ gone = absurd (true≢false gone)

-- what was there is not got, and what is there no longer neither
pub not_got : (one other : Option (List ℕ)) → is_some one ≡ is_some other → is_got one other ≡ false
not_got None None same = refl
not_got None (Some words) same = absurd (true≢false (sym same))
not_got (Some words) None same = refl
not_got (Some one) (Some other) same = refl

pub not_freed : (one other : Option (List ℕ)) → is_some one ≡ is_some other →
    is_freed one other ≡ false
not_freed None None same = refl
not_freed None (Some words) same = refl
not_freed (Some words) None same = absurd (true≢false same)
not_freed (Some one) (Some other) same = refl

-- what is freed was there
pub was_there : (one other : Option (List ℕ)) → is_freed one other ≡ true → is_some one ≡ true
was_there None None freed = absurd (true≢false (sym freed))
was_there None (Some words) freed = absurd (true≢false (sym freed))
was_there (Some words) None freed = refl
was_there (Some one) (Some other) freed = refl

-- what is there before and after is written if it differs
pub written_there : (one other : Option (List ℕ)) → is_some one ≡ true → is_some other ≡ true →
    blocks_differ one other ≡ is_written one other
written_there None None before after = absurd (true≢false (sym before))
written_there None (Some words) before after = absurd (true≢false (sym before))
written_there (Some words) None before after = absurd (true≢false (sym after))
written_there (Some one) (Some other) before after = refl

-- ---- the store
-- no block begins past its end
past_by : (units : ℕ) (blocks : Blocks) → Fits units blocks → (place : ℕ) → end_of units ≤ place →
    (found : Option (List ℕ)) → map.get blocks place ≡ found → map.get blocks place ≡ None
past_by units blocks fits place past None is = is
past_by units blocks fits place past (Some words) is =
    let block = fits.each place words is in
    absurd (omega (arith, block.is_aligned.within, past, pow_pos block.level))

pub none_past : (units : ℕ) (blocks : Blocks) → Fits units blocks → (place : ℕ) →
    end_of units ≤ place → map.get blocks place ≡ None
none_past units blocks fits place past =
    past_by units blocks fits place past (map.get blocks place) refl
