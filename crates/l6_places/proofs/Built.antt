-- The way from the last node to the first.
use Rattle.std.proofs.Common.{◌≡◌, ◌≢◌, ℕ, zero, suc, ◌+◌, ◌-◌, ◌*◌, ◌^◌, ◌<◌, ◌≤◌, List, length, replicate, slice_index, ap, sym, ◌∙◌, subst, refl, arith, inl, inr, get_or-set_same}
use Rattle.std.specs.Prelude.{slice_set, slice_index_or, [], ◌∷◌}
use Rattle.std.proofs.Math.ListN.{length-set}
use Rattle.std.specs.Prelude.{◌⊎◌}
use Rattle.std.proofs.lemmas.List.{length-replicate}
use Rattle.std.proofs.lemmas.Nat.{pow_pos, mul-le}
use Rattle.std.proofs.lemmas.Bool.Decides.{eqb_tells}
use Rattle.l6_places.specs.Board.{Begins, fresh}
use Rattle.l6_places.specs.inner.Tree.{leaf_between}
use Rattle.l6_places.specs.inner.Tree.{Node, start_of, joined, below, IsBuilt, IsTold}
use Rattle.l6_places.specs.inner.Building.{Builds}
use Rattle.l6_places.proofs.Multiples.{double}
use Rattle.l6_places.proofs.Nodes.{split}
use Rattle.l6_places.proofs.Values.{value_open}
use Rattle.l6_places.proofs.Settling.{same_level, at_other}

-- the nodes of a level by their numbers
node_between : (top level node : ℕ) → level ≤ top → 2 ^ (top - level) ≤ node
    → node < 2 * 2 ^ (top - level) → Node top level node
node_between top level node le from under =
    let s = split top level le in
    record {
      small = le;
      from = omega (arith, s, mul-le (2 ^ (top - level)) (2 ^ level) node (2 ^ level) from (omega arith));
      under = omega (
        arith,
        s,
        pow_pos level,
        mul-le (node + 1) (2 ^ level) (2 * 2 ^ (top - level)) (2 ^ level) (omega (arith, under)) (omega arith),
      );
    }

-- a node of the level reached is written
builds_write : (top : ℕ) (old new : List ℕ) (level node was value : ℕ) → length old ≡ 2 * 2 ^ top
    → Builds top old new was (node + 1) → level ≤ top → 2 ^ (top - level) ≤ node
    → node < 2 * 2 ^ (top - level)
    → value ≡ joined level (slice_index new (2 * node)) (slice_index new (2 * node + 1))
    → Builds top old (slice_set new node value) level node
builds_write top old new level node was value long b le from under is =
    let some : 0 < node = omega (arith, from, pow_pos (top - level)) in
    let mine = node_between top level node le from under in
    let lt : node < length new = omega (arith, b.count, long, b.whole) in
    let wrote : slice_index (slice_set new node value) node ≡ value = rw get_or-set_same refl in
    record {
      count = simp length-set b.count;
      small = le;
      whole = omega (arith, b.whole);
      from = from;
      under = omega (arith, under);
      leaves = λ at low.
          at_other new at node value (λ e. omega (arith, e, low, b.whole)) ∙ b.leaves at low;
      above = λ l at isn more.
          let one = at_other new (2 * at) node value (λ e. omega (arith, e, more, some)) in
          let two = at_other new (2 * at + 1) node value (λ e. omega (arith, e, more, some)) in
          let both : joined (suc l) (slice_index new (2 * at)) (slice_index new (2 * at + 1))
          ≡ joined (suc l) (slice_index (slice_set new node value) (2 * at))
          (slice_index (slice_set new node value) (2 * at + 1))
          = ap (λ (v : ℕ). joined (suc l) v (slice_index new (2 * at + 1))) (sym one)
          ∙ ap (λ (v : ℕ). joined (suc l) (slice_index (slice_set new node value) (2 * at)) v) (sym two)
          in
          elim (eqb_tells at node)
          as (λ _. slice_index (slice_set new node value) at
          ≡ joined (suc l) (slice_index (slice_set new node value) (2 * at))
          (slice_index (slice_set new node value) (2 * at + 1))) [
            | inl t ↦
                let here : Node top (suc l) node = subst (λ (n : ℕ). Node top (suc l) n) t.1 isn in
                let k : suc l ≡ level = same_level top (suc l) level node here mine in
                ap (slice_index (slice_set new node value)) t.1 ∙ wrote ∙ is
                ∙ ap (λ (n : ℕ). joined n (slice_index new (2 * node)) (slice_index new (2 * node + 1)))
                (sym k)
                ∙ ap (λ (n : ℕ). joined (suc l) (slice_index new (2 * n)) (slice_index new (2 * n + 1)))
                (sym t.1)
                ∙ both
            | inr f ↦
                at_other new at node value f.1
                ∙ b.above l at isn (omega (arith, more, f.1)) ∙ both
          ];
    }

-- in the row of the level, or in the next one
pub builds_more : (top : ℕ) (old new : List ℕ) (was level node value : ℕ) → length old ≡ 2 * 2 ^ top
    → Builds top old new was node → 1 < node
    → ((node ≡ 2 ^ (top - was)) × (level ≡ was + 1)) ⊎ ((node ≢ 2 ^ (top - was)) × (level ≡ was))
    → value ≡ joined level (slice_index new (2 * (node - 1))) (slice_index new (2 * (node - 1) + 1))
    → Builds top old (slice_set new (node - 1) value) level (node - 1)
builds_more top old new was level node value long b more rows is =
    let n : node ≡ node - 1 + 1 = omega (arith, more) in
    let now : Builds top old new was (node - 1 + 1)
    = subst (λ (m : ℕ). Builds top old new was m) n b in
    elim rows as (λ _. Builds top old (slice_set new (node - 1) value) level (node - 1)) [
      | inl next ↦
          let z : top - was ≡ 0 → ⊥ = λ e.
          let one : 2 ^ (top - was) ≡ 1 = ap (λ (k : ℕ). 2 ^ k) e in omega (arith, one, next.0, more) in
          let up : top - was ≡ suc (top - level) = omega (arith, next.1, z) in
          let size : 2 ^ (top - was) ≡ 2 ^ (top - level) + 2 ^ (top - level)
          = ap (λ (k : ℕ). 2 ^ k) up ∙ double (top - level) in
          builds_write top old new level (node - 1) was value long now (omega (arith, next.1, z))
          (omega (arith, size, next.0, more)) (omega (arith, size, next.0, more)) is
      | inr same ↦
          let size : 2 ^ (top - level) ≡ 2 ^ (top - was)
          = ap (λ (k : ℕ). 2 ^ (top - k)) same.1 in
          builds_write top old new level (node - 1) was value long now
          (omega (arith, same.1, b.small))
          (omega (arith, size, same.0, b.from)) (omega (arith, size, b.under, more)) is
    ]

-- a new board has no blocks
zeros : (count at : ℕ) → slice_index (replicate count 0) at ≡ 0
zeros zero at = refl
zeros (suc count) zero = refl
zeros (suc count) (suc at) = zeros count at

none : (count at level : ℕ) → Begins (replicate count 0) at level → ⊥
none count at level begins = omega (arith, zeros count at, begins)

fresh_value : (top first end : ℕ) (old new : List ℕ)
    → ((place : ℕ) → place < 2 ^ top → slice_index old (2 ^ top + place) ≡ leaf_between first end place)
    → IsBuilt top old new → (level node : ℕ) → Node top level node
    → slice_index new node ≡ below (fresh top first end) new level node
fresh_value top first end old new filled built zero node is =
    let place : ℕ = start_of top 0 node in
    let at : node ≡ 2 ^ top + place = omega (arith, is.from) in
    built.leaves node (omega (arith, is.from)) ∙ ap (slice_index old) at
    ∙ filled place (omega (arith, is.under, is.from))
fresh_value top first end old new filled built (suc level) node is = built.above level node is

-- and the tree above it is right
pub fresh_told : (top first end : ℕ) (old new : List ℕ) → end ≤ 2 ^ top → length old ≡ 2 * 2 ^ top
    → ((place : ℕ) → place < 2 ^ top → slice_index old (2 ^ top + place) ≡ leaf_between first end place)
    → IsBuilt top old new → IsTold (fresh top first end) new
fresh_told top first end old new low long filled built = record {
  count = built.count ∙ long;
  marked = length-replicate (2 ^ top) 0;
  low = low;
  fits = record {
    each = λ place level begins. absurd (none (2 ^ top) place level begins);
    apart = λ one other level k begins _ _. absurd (none (2 ^ top) one level begins);
  };
  each = λ level node is.
      fresh_value top first end old new filled built level node is
      ∙ sym (value_open (fresh top first end) new level node
      (none (2 ^ top) (start_of top level node) level));
}

-- what is in a list is so whatever stands for what is not
any_default : (xs : List ℕ) (i d e : ℕ) → i < length xs → slice_index_or xs i d ≡ slice_index_or xs i e
any_default [] i d e less = absurd (omega (arith, less))
any_default (x ∷ xs) zero d e less = refl
any_default (x ∷ xs) (suc i) d e less = any_default xs i d e (omega (arith, less))

pub indexed : (xs : List ℕ) (i v : ℕ) → i < length xs → v ≡ slice_index_or xs i v → v ≡ slice_index xs i
indexed xs i v less is = is ∙ any_default xs i v 0 less
