-- What becomes of a board and its tree when a block is taken or released.
use Rattle.std.proofs.Common.{◌≡◌, ◌≢◌, ℕ, zero, suc, ◌+◌, ◌*◌, ◌/◌, ◌%◌, ◌^◌, ◌<◌, ◌≤◌, Bool, ◌==◌, List, length, slice_index, if◌then◌else◌, ap, sym, ◌∙◌, subst, refl, arith, inl, inr, get_or-set_other, get_or-set_same}
use Rattle.std.specs.Prelude.{slice_set}
use Rattle.std.proofs.Math.ListN.{length-set}
use Rattle.std.proofs.lemmas.Nat.{pow_pos}
use Rattle.std.proofs.lemmas.Bool.{cases_lt, eq-eqb, ne_eqb}
use Rattle.std.proofs.lemmas.Bool.Decides.{eqb_tells}
use Rattle.l6_places.specs.Board.{Board, Begins, IsAligned, Fits, IsOpen, taken, released}
use Rattle.l6_places.specs.inner.Tree.{Node, start_of, below, IsTold}
use Rattle.l6_places.specs.inner.Settling.{Settles}
use Rattle.l6_places.proofs.Multiples.{double}
use Rattle.l6_places.proofs.Nodes.{lower_node, lower_start, node_at, same_node, upper_node, upper_start}
use Rattle.l6_places.proofs.Values.{joined_full, leaf_is, value_block, value_open}

-- what begins where, after a mark is set
marked_other : (marks : List ℕ) (place mark at level : ℕ) → (at ≡ place → ⊥)
    → Begins (slice_set marks place mark) at level → Begins marks at level
marked_other marks place mark at level not begins =
    let ne : at ≢ place = not in
    let same : slice_index (slice_set marks place mark) at ≡ slice_index marks at
    = rw get_or-set_other refl in
    sym same ∙ begins

marked_still : (marks : List ℕ) (place mark at level : ℕ) → (at ≡ place → ⊥)
    → Begins marks at level → Begins (slice_set marks place mark) at level
marked_still marks place mark at level not begins =
    let ne : at ≢ place = not in
    let same : slice_index (slice_set marks place mark) at ≡ slice_index marks at
    = rw get_or-set_other refl in
    same ∙ begins

marked_same : (marks : List ℕ) (place mark : ℕ) → place < length marks
    → slice_index (slice_set marks place mark) place ≡ mark
marked_same marks place mark lt = rw get_or-set_same refl

-- below a node nothing changes but by its own marks
below_taken : (b : Board) (tree : List ℕ) (level place l m : ℕ)
    → below (taken b level place) tree l m ≡ below b tree l m
below_taken b tree level place zero m = refl
below_taken b tree level place (suc l) m = refl

below_released : (b : Board) (tree : List ℕ) (place l m : ℕ)
    → below (released b place) tree l m ≡ below b tree l m
below_released b tree place zero m = refl
below_released b tree place (suc l) m = refl

-- two tests that tell the same give the same value
same_tests : (x y k l v w : ℕ) → (x ≡ k → y ≡ l) → (y ≡ l → x ≡ k) → v ≡ w
    → (if x == k then 0 else v) ≡ (if y == l then 0 else w)
same_tests x y k l v w one other same =
    elim (eqb_tells x k) as (λ _. (if x == k then 0 else v) ≡ (if y == l then 0 else w)) [
      | inl t ↦
          ap (λ (b : Bool). if b then 0 else v) t.0
          ∙ sym (ap (λ (b : Bool). if b then 0 else w) (eq-eqb y l (one t.1)))
      | inr f ↦
          ap (λ (b : Bool). if b then 0 else v) f.0 ∙ same
          ∙ sym (ap (λ (b : Bool). if b then 0 else w) (ne_eqb y l (λ e. f.1 (other e))))
    ]

-- the board with one more block
fits_taken : (b : Board) (level place : ℕ) → length b.marks ≡ 2 ^ b.top → b.end ≤ 2 ^ b.top
    → level ≤ b.top → Fits b → IsOpen b (2 ^ level) place → Fits (taken b level place)
fits_taken b level place marked low small fits o =
    let lt : place < length b.marks = omega (arith, marked, low, o.within, pow_pos level) in
    let is = marked_same b.marks place (suc level) lt in
    record {
      each = λ at l begins.
          elim (eqb_tells at place) as (λ _. IsAligned (taken b level place) l at) [
            | inl t ↦
                let here : suc level ≡ suc l
                = sym is ∙ ap (slice_index (slice_set b.marks place (suc level))) (sym t.1) ∙ begins in
                let k : level ≡ l = omega (arith, here) in
                let size : 2 ^ l ≡ 2 ^ level = ap (λ (n : ℕ). 2 ^ n) (sym k) in
                record {
                  small = omega (arith, k, small);
                  aligned = subst (λ (p : ℕ). p % 2 ^ l ≡ 0) (sym t.1)
                      (subst (λ (n : ℕ). place % 2 ^ n ≡ 0) k o.aligned);
                  above = omega (arith, t.1, o.above);
                  within = omega (arith, t.1, size, o.within);
                }
            | inr f ↦
                let old = fits.each at l (marked_other b.marks place (suc level) at l f.1 begins) in
                record { small = old.small; aligned = old.aligned; above = old.above; within = old.within }
          ];
      apart = λ one other l k first second less.
          elim (eqb_tells one place) as (λ _. one + 2 ^ l ≤ other) [
            | inl t ↦
                let here : suc level ≡ suc l
                = sym is ∙ ap (slice_index (slice_set b.marks place (suc level))) (sym t.1) ∙ first in
                let same : level ≡ l = omega (arith, here) in
                let size : 2 ^ l ≡ 2 ^ level = ap (λ (n : ℕ). 2 ^ n) (sym same) in
                let old = marked_other b.marks place (suc level) other k
                (λ e. omega (arith, e, t.1, less)) second in
                elim (cases_lt other (place + 2 ^ level)) as (λ _. one + 2 ^ l ≤ other) [
                  | inl inside ↦
                      absurd (omega (
                        arith,
                        pow_pos k,
                        o.free other k other old (omega (arith, t.1, less)) inside (omega arith),
                      ))
                  | inr behind ↦ omega (arith, t.1, size, behind)
                ]
            | inr f ↦
                let old = marked_other b.marks place (suc level) one l f.1 first in
                elim (eqb_tells other place) as (λ _. one + 2 ^ l ≤ other) [
                  | inl t ↦
                      omega (
                        arith,
                        t.1,
                        o.free one l place old (omega arith) (omega (arith, pow_pos level))
                            (omega (arith, t.1, less)),
                      )
                  | inr g ↦
                      fits.apart one other l k old
                      (marked_other b.marks place (suc level) other k g.1 second) less
                ]
          ];
    }

-- and with one fewer
fits_released : (b : Board) (place : ℕ) → place < length b.marks → Fits b → Fits (released b place)
fits_released b place lt fits =
    let is = marked_same b.marks place 0 lt in
    let old : (at l : ℕ) → Begins (slice_set b.marks place 0) at l → Begins b.marks at l
    = λ at l begins. elim (eqb_tells at place) as (λ _. Begins b.marks at l) [
      | inl t ↦
          absurd (omega (arith, is, ap (slice_index (slice_set b.marks place 0)) (sym t.1) ∙ begins))
      | inr f ↦ marked_other b.marks place 0 at l f.1 begins
    ] in
    record {
      each = λ at l begins. let was = fits.each at l (old at l begins) in
          record { small = was.small; aligned = was.aligned; above = was.above; within = was.within };
      apart = λ one other l k first second less.
          fits.apart one other l k (old one l first) (old other k second) less;
    }

-- the tree above the board with one more block: all is right but the block's own node
pub takes : (b : Board) (tree : List ℕ) (level place node : ℕ) → IsTold b tree → level ≤ b.top
    → IsOpen b (2 ^ level) place → node ≡ (2 ^ b.top + place) / 2 ^ level
    → Settles (taken b level place) tree level node 0
takes b tree level place node told small o at =
    let lt : place < 2 ^ b.top = omega (arith, told.low, o.within, pow_pos level) in
    let in_marks : place < length b.marks = omega (arith, told.marked, lt) in
    let n = node_at b.top level place node small o.aligned lt at in
    let is = marked_same b.marks place (suc level) in_marks in
    let begins : Begins (slice_set b.marks place (suc level)) (start_of b.top level node) level
    = ap (slice_index (slice_set b.marks place (suc level))) n.1 ∙ is in
    record {
      marked = simp length-set told.marked;
      low = told.low;
      fits = fits_taken b level place told.marked told.low small told.fits o;
      is_node = n.0;
      right = record {
        count = told.count;
        each = λ l m isn not.
            told.each l m isn
            ∙ same_tests (slice_index b.marks (start_of b.top l m))
            (slice_index (slice_set b.marks place (suc level)) (start_of b.top l m)) (suc l) (suc l)
            (below b tree l m) (below (taken b level place) tree l m)
            (λ old. elim (eqb_tells (start_of b.top l m) place)
            as (λ _. Begins (slice_set b.marks place (suc level)) (start_of b.top l m) l) [
              | inl t ↦
                  absurd (omega (
                    arith,
                    t.1,
                    pow_pos l,
                    o.free (start_of b.top l m) l place old (omega arith)
                        (omega (arith, pow_pos level)) (omega (arith, t.1)),
                  ))
              | inr f ↦
                  marked_still b.marks place (suc level) (start_of b.top l m) l f.1 old
            ])
            (λ new. elim (eqb_tells (start_of b.top l m) place)
            as (λ _. Begins b.marks (start_of b.top l m) l) [
              | inl t ↦
                  let here : suc level ≡ suc l
                  = sym is ∙ ap (slice_index (slice_set b.marks place (suc level))) (sym t.1) ∙ new in
                  let k : l ≡ level = omega (arith, here) in
                  let mine : Node b.top level m = subst (λ (n : ℕ). Node b.top n m) k isn in
                  let starts : start_of b.top level m ≡ start_of b.top level node
                  = ap (λ (n : ℕ). start_of b.top n m) (sym k) ∙ t.1 ∙ sym n.1 in
                  absurd (not (same_node b.top level m node mine n.0 starts))
              | inr f ↦ marked_other b.marks place (suc level) (start_of b.top l m) l f.1 new
            ])
            (sym (below_taken b tree level place l m));
      };
      is = sym (value_block (taken b level place) tree level node begins);
      uncovered = λ q upper first larger low high.
          elim (eqb_tells q place) as (λ _. ⊥) [
            | inl t ↦
                let here : suc level ≡ suc upper
                = sym is ∙ ap (slice_index (slice_set b.marks place (suc level))) (sym t.1) ∙ first in
                omega (arith, here, larger)
            | inr f ↦
                omega (
                  arith,
                  n.1,
                  high,
                  o.free q upper place (marked_other b.marks place (suc level) q upper f.1 first)
                      (omega arith) (omega (arith, pow_pos level)) (omega (arith, n.1, low)),
                )
          ];
    }

-- no smaller block begins where one is
none_below : (b : Board) (level place l m : ℕ) → Fits b → Begins b.marks place level → l < level
    → place ≤ start_of b.top l m → start_of b.top l m + 2 ^ l ≤ place + 2 ^ level
    → Begins b.marks (start_of b.top l m) l → ⊥
none_below b level place l m fits begins less from under other =
    elim (cases_lt place (start_of b.top l m)) as (λ _. ⊥) [
      | inl behind ↦
          omega (arith, pow_pos l, under, fits.apart place (start_of b.top l m) level l begins other behind)
      | inr same ↦
          let at : place ≡ start_of b.top l m = omega (arith, from, same) in
          omega (arith, less, sym begins ∙ ap (slice_index b.marks) at ∙ other)
    ]

-- below a block nothing is taken: each node there is open as a whole
full_below : (b : Board) (tree : List ℕ) (level place l m : ℕ) → IsTold b tree → Begins b.marks place level
    → l < level → Node b.top l m → place ≤ start_of b.top l m
    → start_of b.top l m + 2 ^ l ≤ place + 2 ^ level → slice_index tree m ≡ suc l
full_below b tree level place zero m told begins less is from under =
    let its = told.fits.each place level begins in
    told.each 0 m is
    ∙ value_open b tree 0 m (none_below b level place 0 m told.fits begins less from under)
    ∙ leaf_is b (start_of b.top 0 m) (omega (arith, its.above, from))
    (omega (arith, its.within, under))
full_below b tree level place (suc l) m told begins less is from under =
    let low = lower_start b.top l m in
    let high = upper_start b.top l m is in
    let d = double l in
    told.each (suc l) m is
    ∙ value_open b tree (suc l) m (none_below b level place (suc l) m told.fits begins less from under)
    ∙ joined_full (suc l) (slice_index tree (2 * m)) (slice_index tree (2 * m + 1))
    (full_below b tree level place l (2 * m) told begins (omega arith) (lower_node b.top l m is)
    (omega (arith, low, from)) (omega (arith, low, d, under)))
    (full_below b tree level place l (2 * m + 1) told begins (omega arith) (upper_node b.top l m is)
    (omega (arith, high, from)) (omega (arith, high, d, under)))

-- so the node of a block has the value of the whole once the block is out
freed_below : (b : Board) (tree : List ℕ) (level place node : ℕ) → IsTold b tree → Begins b.marks place level
    → Node b.top level node → start_of b.top level node ≡ place → below b tree level node ≡ suc level
freed_below b tree zero place node told begins is at =
    let its = told.fits.each place 0 begins in
    leaf_is b (start_of b.top 0 node) (omega (arith, its.above, at)) (omega (arith, its.within, at))
freed_below b tree (suc level) place node told begins is at =
    let low = lower_start b.top level node in
    let high = upper_start b.top level node is in
    let d = double level in
    joined_full (suc level) (slice_index tree (2 * node)) (slice_index tree (2 * node + 1))
    (full_below b tree (suc level) place level (2 * node) told begins (omega arith)
    (lower_node b.top level node is) (omega (arith, low, at)) (omega (arith, low, at, d)))
    (full_below b tree (suc level) place level (2 * node + 1) told begins (omega arith)
    (upper_node b.top level node is) (omega (arith, high, at)) (omega (arith, high, at, d)))

-- the tree above the board with one block fewer
pub releases : (b : Board) (tree : List ℕ) (level place node : ℕ) → IsTold b tree
    → Begins b.marks place level → node ≡ (2 ^ b.top + place) / 2 ^ level
    → Settles (released b place) tree level node (suc level)
releases b tree level place node told begins at =
    let its = told.fits.each place level begins in
    let lt : place < 2 ^ b.top = omega (arith, told.low, its.within, pow_pos level) in
    let in_marks : place < length b.marks = omega (arith, told.marked, lt) in
    let n = node_at b.top level place node its.small its.aligned lt at in
    let is = marked_same b.marks place 0 in_marks in
    let none : Begins (slice_set b.marks place 0) (start_of b.top level node) level → ⊥
    = λ new. omega (arith, is, ap (slice_index (slice_set b.marks place 0)) (sym n.1) ∙ new) in
    record {
      marked = simp length-set told.marked;
      low = told.low;
      fits = fits_released b place in_marks told.fits;
      is_node = n.0;
      right = record {
        count = told.count;
        each = λ l m isn not.
            told.each l m isn
            ∙ same_tests (slice_index b.marks (start_of b.top l m))
            (slice_index (slice_set b.marks place 0) (start_of b.top l m)) (suc l) (suc l)
            (below b tree l m) (below (released b place) tree l m)
            (λ old. elim (eqb_tells (start_of b.top l m) place)
            as (λ _. Begins (slice_set b.marks place 0) (start_of b.top l m) l) [
              | inl t ↦
                  let here : suc level ≡ suc l
                  = sym begins ∙ ap (slice_index b.marks) (sym t.1) ∙ old in
                  let k : l ≡ level = omega (arith, here) in
                  let mine : Node b.top level m = subst (λ (n : ℕ). Node b.top n m) k isn in
                  let starts : start_of b.top level m ≡ start_of b.top level node
                  = ap (λ (n : ℕ). start_of b.top n m) (sym k) ∙ t.1 ∙ sym n.1 in
                  absurd (not (same_node b.top level m node mine n.0 starts))
              | inr f ↦ marked_still b.marks place 0 (start_of b.top l m) l f.1 old
            ])
            (λ new. elim (eqb_tells (start_of b.top l m) place)
            as (λ _. Begins b.marks (start_of b.top l m) l) [
              | inl t ↦
                  absurd (omega (
                    arith,
                    is,
                    ap (slice_index (slice_set b.marks place 0)) (sym t.1) ∙ new,
                  ))
              | inr f ↦ marked_other b.marks place 0 (start_of b.top l m) l f.1 new
            ])
            (sym (below_released b tree place l m));
      };
      is = sym (freed_below b tree level place node told begins n.0 n.1)
          ∙ sym (below_released b tree place level node)
          ∙ sym (value_open (released b place) tree level node none);
      uncovered = λ q upper first larger low high.
          elim (eqb_tells q place) as (λ _. ⊥) [
            | inl t ↦
                omega (arith, is, ap (slice_index (slice_set b.marks place 0)) (sym t.1) ∙ first)
            | inr f ↦
                let old = marked_other b.marks place 0 q upper f.1 first in
                elim (cases_lt q place) as (λ _. ⊥) [
                  | inl less ↦
                      omega (arith, n.1, high, told.fits.apart q place upper level old begins less)
                  | inr more ↦ f.1 (omega (arith, n.1, low, more))
                ]
          ];
    }
