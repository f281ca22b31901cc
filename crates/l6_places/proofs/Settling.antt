-- The way up the tree.
use Rattle.std.proofs.Common.{◌≡◌, ℕ, zero, suc, ◌+◌, ◌-◌, ◌*◌, ◌/◌, ◌^◌, ◌<◌, ◌≤◌, Bool, ◌==◌, List, length, slice_index, if◌then◌else◌, ap, sym, ◌∙◌, subst, refl, arith, inl, inr, get_or-set_other, get_or-set_same, ◌≢◌}
use Rattle.std.specs.Prelude.{max, slice_set, ◌⊎◌}
use Rattle.std.proofs.Math.ListN.{length-set}
use Rattle.std.proofs.lemmas.Nat.{pow_pos}
use Rattle.std.proofs.lemmas.Bool.{cases_lt}
use Rattle.std.proofs.lemmas.Bool.Decides.{eqb_tells}
use Rattle.l6_places.specs.Board.{Board, Fits}
use Rattle.l6_places.specs.inner.Tree.{Node, start_of, joined, value_of, AreRightBut, IsTold, buddy_of}
use Rattle.l6_places.specs.inner.Descent.{IsUncovered}
use Rattle.l6_places.specs.inner.Settling.{AreSmall, Merges, Settles, Spreads, Written}
use Rattle.l6_places.proofs.Multiples.{double, size_le, multiple_down, multiple_next, apart}
use Rattle.l6_places.proofs.Nodes.{node_from, node_below, below_top, node_within, lower_node, parent_node, parent_start, start_aligned, upper_node}
use Rattle.l6_places.proofs.Values.{joined_full, joined_larger, joined_other, larger_most, value_open}

-- a node has one level
level_order : (top one other node : ℕ) → Node top one node → Node top other node → one < other → ⊥
level_order top one other node is also less =
    let d = double (top - other) in
    omega (
      arith,
      d,
      node_from top one node is,
      node_below top other node also,
      size_le (suc (top - other)) (top - one) (omega (arith, less, also.small)),
    )

pub same_level : (top one other node : ℕ) → Node top one node → Node top other node → one ≡ other
same_level top one other node is also =
    elim (cases_lt one other) as (λ _. one ≡ other) [
      | inl less ↦ absurd (level_order top one other node is also less)
      | inr more ↦
          elim (cases_lt other one) as (λ _. one ≡ other) [
            | inl less ↦ absurd (level_order top other one node also is less)
            | inr none ↦ omega arith
          ]
    ]

-- where the node has its value, all have
pub settled : (b : Board) (tree : List ℕ) (level node value : ℕ) → Settles b tree level node value
    → slice_index tree node ≡ value → IsTold b tree
settled b tree level node value s same = record {
  count = s.right.count;
  marked = s.marked;
  low = s.low;
  fits = s.fits;
  each = λ l m is.
      elim (eqb_tells m node) as (λ _. slice_index tree m ≡ value_of b tree l m) [
        | inl t ↦
            let here : Node b.top l node = subst (λ (n : ℕ). Node b.top l n) t.1 is in
            let one : l ≡ level = same_level b.top l level node here s.is_node in
            ap (slice_index tree) t.1 ∙ same ∙ s.is
            ∙ ap (λ (k : ℕ). value_of b tree k node) (sym one)
            ∙ ap (λ (n : ℕ). value_of b tree l n) (sym t.1)
        | inr f ↦ s.right.each l m is f.1
      ];
}

pub at_other : (tree : List ℕ) (node other value : ℕ) → (node ≡ other → ⊥)
    → slice_index (slice_set tree other value) node ≡ slice_index tree node
at_other tree node other value not =
    let ne : node ≢ other = not in rw get_or-set_other refl

-- a value written changes that of the node above alone
value_written : (b : Board) (tree : List ℕ) (level node other value : ℕ)
    → (other ≡ 2 * node → ⊥) → (other ≡ 2 * node + 1 → ⊥)
    → value_of b (slice_set tree other value) level node ≡ value_of b tree level node
value_written b tree zero node other value not nor = refl
value_written b tree (suc level) node other value not nor =
    let test : Bool = slice_index b.marks (start_of b.top (suc level) node) == suc (suc level) in
    ap (λ (v : ℕ). if test then 0 else joined (suc level) v
    (slice_index (slice_set tree other value) (2 * node + 1)))
    (at_other tree (2 * node) other value (λ e. not (sym e)))
    ∙ ap (λ (v : ℕ). if test then 0 else joined (suc level) (slice_index tree (2 * node)) v)
    (at_other tree (2 * node + 1) other value (λ e. nor (sym e)))

-- all but the node above are right once it has its value
right_written : (b : Board) (tree : List ℕ) (level node value parent : ℕ)
    → Settles b tree level node value → parent ≡ node / 2
    → AreRightBut b (slice_set tree node value) parent
right_written b tree level node value parent s at = record {
  count = ap (λ (n : ℕ). n) (simp length-set s.right.count);
  each = λ l m is not.
      let same = value_written b tree l m node value
      (λ e. not (omega (arith, e, at))) (λ e. not (omega (arith, e, at))) in
      elim (eqb_tells m node)
      as (λ _. slice_index (slice_set tree node value) m ≡ value_of b (slice_set tree node value) l m) [
        | inl t ↦
            let here : Node b.top l node = subst (λ (n : ℕ). Node b.top l n) t.1 is in
            let one : l ≡ level = same_level b.top l level node here s.is_node in
            let lt : node < length tree
            = omega (arith, s.right.count, node_within b.top level node s.is_node) in
            let wrote : slice_index (slice_set tree node value) node ≡ value
            = rw get_or-set_same refl in
            ap (slice_index (slice_set tree node value)) t.1 ∙ wrote ∙ s.is
            ∙ ap (λ (k : ℕ). value_of b tree k node) (sym one)
            ∙ ap (λ (n : ℕ). value_of b tree l n) (sym t.1)
            ∙ sym same
        | inr f ↦ at_other tree m node value f.1 ∙ s.right.each l m is f.1 ∙ sym same
      ];
}

-- what is above a node that is not covered is not covered
parent_uncovered : (b : Board) (level node parent : ℕ) → Fits b → Node b.top level node
    → Node b.top (suc level) parent → parent ≡ node / 2
    → IsUncovered b level node → IsUncovered b (suc level) parent
parent_uncovered b level node parent fits is above at uncovered =
    λ place upper begins larger low high.
    let s = parent_start b.top level node parent is above at in
    let start : ℕ = start_of b.top (suc level) parent in
    let multiple = start_aligned b.top (suc level) parent above in
    let its = (fits.each place upper begins).aligned in
    uncovered place upper begins (omega arith) (omega (arith, s.0, low))
    (omega (
      arith,
      s.1,
      apart (2 ^ suc level) start (place + 2 ^ upper) multiple
          (multiple_down (suc level) upper (place + 2 ^ upper) (omega arith)
          (multiple_next upper place its))
          high,
    ))

pub written : (b : Board) (tree : List ℕ) (level node value parent next : ℕ)
    → Settles b tree level node value → (node ≡ 1 → ⊥) → parent ≡ node / 2
    → next ≡ joined (suc level) (slice_index (slice_set tree node value) (2 * parent))
    (slice_index (slice_set tree node value) (2 * parent + 1))
    → Settles b (slice_set tree node value) (suc level) parent next
written b tree level node value parent next s not at is =
    let above = parent_node b.top level node parent s.is_node
    (below_top b.top level node s.is_node not) at in
    let inside = parent_start b.top level node parent s.is_node above at in
    record {
      marked = s.marked;
      low = s.low;
      fits = s.fits;
      is_node = above;
      right = right_written b tree level node value parent s at;
      is = is ∙ sym (value_open b (slice_set tree node value) (suc level) parent
          (λ begins. s.uncovered (start_of b.top (suc level) parent) (suc level) begins (omega arith)
          inside.0 inside.1));
      uncovered = parent_uncovered b level node parent s.fits s.is_node above at s.uncovered;
    }

pub written_root : (b : Board) (tree : List ℕ) (level node value : ℕ)
    → Settles b tree level node value → node ≡ 1 → IsTold b (slice_set tree node value)
written_root b tree level node value s one =
    let r = right_written b tree level node value 0 s (omega (arith, one)) in
    record {
      count = r.count;
      marked = s.marked;
      low = s.low;
      fits = s.fits;
      each = λ l m is. r.each l m is (λ z. omega (arith, z, node_from b.top l m is, pow_pos (b.top - l)));
    }

-- of two nodes below the same one, the one is the lower half and the other the upper one
which : (node parent : ℕ) → parent ≡ node / 2
    → ((node ≡ 2 * parent) × (buddy_of node ≡ 2 * parent + 1))
    ⊎ ((node ≡ 2 * parent + 1) × (buddy_of node ≡ 2 * parent))
which node parent at =
    elim (cases_lt node (2 * parent + 1)) as (λ _. ((node ≡ 2 * parent) × (buddy_of node ≡ 2 * parent + 1))
    ⊎ ((node ≡ 2 * parent + 1) × (buddy_of node ≡ 2 * parent))) [
      | inl less ↦ inl (omega (arith, at, less), omega (arith, at, less))
      | inr more ↦ inr (omega (arith, at, more), omega (arith, at, more))
    ]

pub buddy_node : (top level node : ℕ) → Node top level node → (node ≡ 1 → ⊥) → Node top level (buddy_of node)
buddy_node top level node is not =
    let above = parent_node top level node (node / 2) is (below_top top level node is not) refl in
    elim (which node (node / 2) refl) as (λ _. Node top level (buddy_of node)) [
      | inl low ↦
          subst (λ (n : ℕ). Node top level n) (sym low.1) (upper_node top level (node / 2) above)
      | inr high ↦
          subst (λ (n : ℕ). Node top level n) (sym high.1) (lower_node top level (node / 2) above)
    ]

other_buddy : (node : ℕ) → buddy_of node ≡ node → ⊥
other_buddy node same = omega (arith, same)

wrote : (b : Board) (tree : List ℕ) (level node value : ℕ) → Settles b tree level node value
    → slice_index (slice_set tree node value) node ≡ value
wrote b tree level node value s =
    let lt : node < length tree
    = omega (arith, s.right.count, node_within b.top level node s.is_node) in
    rw get_or-set_same refl

-- a small value that is written leaves all small
small_written : (b : Board) (tree : List ℕ) (level node value : ℕ) → Settles b tree level node value
    → AreSmall b tree → value ≤ suc level → AreSmall b (slice_set tree node value)
small_written b tree level node value s small low =
    λ l m is.
    elim (eqb_tells m node) as (λ _. slice_index (slice_set tree node value) m ≤ suc l) [
      | inl t ↦
          let here : Node b.top l node = subst (λ (n : ℕ). Node b.top l n) t.1 is in
          omega (
            arith,
            ap (slice_index (slice_set tree node value)) t.1 ∙ wrote b tree level node value s,
            same_level b.top l level node here s.is_node,
            low,
          )
      | inr f ↦ omega (arith, at_other tree m node value f.1, small l m is)
    ]

-- the value of the node above, from those of a node and its buddy
above_value : (b : Board) (tree : List ℕ) (level node value parent next : ℕ)
    → Settles b tree level node value → parent ≡ node / 2
    → next ≡ joined (suc level) value (slice_index tree (buddy_of node))
    → next ≡ joined (suc level) (slice_index tree (buddy_of node)) value
    → next ≡ joined (suc level) (slice_index (slice_set tree node value) (2 * parent))
    (slice_index (slice_set tree node value) (2 * parent + 1))
above_value b tree level node value parent next s at is also =
    let new = slice_set tree node value in
    let here = wrote b tree level node value s in
    let beside = at_other tree (buddy_of node) node value (other_buddy node) in
    elim (which node parent at) as (λ _. next ≡ joined (suc level) (slice_index new (2 * parent)) (slice_index new (2 * parent + 1))) [
      | inl low ↦
          is ∙ ap (λ (v : ℕ). joined (suc level) v (slice_index tree (buddy_of node)))
          (sym here ∙ ap (slice_index new) low.0)
          ∙ ap (λ (v : ℕ). joined (suc level) (slice_index new (2 * parent)) v)
          (sym beside ∙ ap (slice_index new) low.1)
      | inr high ↦
          also ∙ ap (λ (v : ℕ). joined (suc level) (slice_index tree (buddy_of node)) v)
          (sym here ∙ ap (slice_index new) high.0)
          ∙ ap (λ (v : ℕ). joined (suc level) v (slice_index new (2 * parent + 1)))
          (sym beside ∙ ap (slice_index new) high.1)
    ]

-- one step up, where the two halves are not both whole
pub spread : (b : Board) (tree : List ℕ) (node value parent next : ℕ) → Spreads b tree node value
    → (node ≡ 1 → ⊥) → parent ≡ node / 2
    → next ≡ max value (slice_index (slice_set tree node value) (buddy_of node))
    → Spreads b (slice_set tree node value) parent next
spread b tree node value parent next up not at is =
    let level = up.level in
    let s = up.settles in
    let beside = at_other tree (buddy_of node) node value (other_buddy node) in
    let larger : next ≡ max value (slice_index tree (buddy_of node)) = is ∙ ap (max value) beside in
    let part = λ (v : value ≡ suc level) (w : slice_index tree (buddy_of node) ≡ suc level). up.part not v w in
    let most = larger_most value (slice_index tree (buddy_of node)) (suc level) up.low
    (up.small level (buddy_of node) (buddy_node b.top level node s.is_node not)) in
    record {
      level = suc level;
      settles = written b tree level node value parent next s not at
          (above_value b tree level node value parent next s at
          (larger ∙ sym (joined_larger (suc level) value (slice_index tree (buddy_of node)) part))
          (larger ∙ sym (joined_other (suc level) (slice_index tree (buddy_of node)) value part)));
      small = small_written b tree level node value s up.small up.low;
      low = omega (arith, larger, most);
      part = λ _ full _. omega (arith, larger, most, full);
    }

-- and where they are
pub merged : (b : Board) (tree : List ℕ) (level node parent : ℕ) → Merges b tree level node
    → (node ≡ 1 → ⊥) → parent ≡ node / 2 → slice_index tree (buddy_of node) ≡ suc level
    → Merges b (slice_set tree node (suc level)) (suc level) parent
merged b tree level node parent up not at whole =
    let full = sym (joined_full (suc level) (suc level) (slice_index tree (buddy_of node)) refl whole) in
    let also = sym (joined_full (suc level) (slice_index tree (buddy_of node)) (suc level) whole refl) in
    record {
      settles = written b tree level node (suc level) parent (suc (suc level)) up.settles not at
          (above_value b tree level node (suc level) parent (suc (suc level)) up.settles at full also);
      small = small_written b tree level node (suc level) up.settles up.small (omega arith);
    }

-- a small value that is not that of the whole
pub spread_part : (b : Board) (tree : List ℕ) (level node value : ℕ) → Settles b tree level node value
    → AreSmall b tree → value ≤ suc level → (value ≡ suc level → ⊥) → Spreads b tree node value
spread_part b tree level node value settles small low part = record {
  level = level;
  settles = settles;
  small = small;
  low = low;
  part = λ _ full _. part full;
}

-- one step up from a node that has its value
pub spread_up : (b : Board) (tree : List ℕ) (node value parent next : ℕ) → Written b tree node value
    → (node ≡ 1 → ⊥) → parent ≡ node / 2 → next ≡ max value (slice_index tree (buddy_of node))
    → Spreads b tree parent next
spread_up b tree node value parent next w not at is =
    subst (λ (t : List ℕ). Spreads b t parent next) (sym w.same)
    (spread b w.before node value parent next w.spreads not at
    (is ∙ ap (λ (t : List ℕ). max value (slice_index t (buddy_of node))) w.same))
