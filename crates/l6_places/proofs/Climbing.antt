-- The way up from a node, past no block.
use Rattle.std.proofs.Common.{◌≡◌, ℕ, suc, ◌+◌, ◌-◌, ◌/◌, ◌%◌, ◌^◌, ◌<◌, ◌≤◌, List, slice_index, ap, ◌∙◌, subst, refl, arith, inl, inr}
use Rattle.std.proofs.lemmas.Nat.{pow_pos}
use Rattle.std.proofs.lemmas.Bool.{cases_lt}
use Rattle.l6_places.specs.Board.{Board, Begins, IsOpen}
use Rattle.l6_places.specs.inner.Tree.{Node, start_of, IsTold}
use Rattle.l6_places.specs.inner.Climb.{Climbs}
use Rattle.l6_places.proofs.Multiples.{double, same_multiple, multiple_down, multiple_next, apart}
use Rattle.l6_places.proofs.Nodes.{below_top, node_at, node_from, parent_node, parent_start, start_aligned}
use Rattle.l6_places.proofs.Values.{bare, most, told_open, unmarked}
use Rattle.l6_places.proofs.Descent.{bare_open}

pub climbs_first : (b : Board) (tree : List ℕ) (level place node : ℕ) → level ≤ b.top
    → place % 2 ^ level ≡ 0 → place < 2 ^ b.top → node ≡ (2 ^ b.top + place) / 2 ^ level
    → Climbs b tree level place level node
climbs_first b tree level place node small aligned low at =
    let n = node_at b.top level place node small aligned low at in
    record {
      is_node = n.0;
      least = omega arith;
      from = omega (arith, n.1);
      under = omega (arith, n.1, pow_pos level);
      clear = λ q upper begins more less _ _. omega (arith, more, less);
    }

-- the node above
above : (b : Board) (tree : List ℕ) (level place now node : ℕ) → Climbs b tree level place now node
    → (node ≡ 1 → ⊥) → Node b.top (suc now) (node / 2)
above b tree level place now node c not =
    parent_node b.top now node (node / 2) c.is_node (below_top b.top now node c.is_node not) refl

pub climbs_more : (b : Board) (tree : List ℕ) (level place now node : ℕ) → IsTold b tree
    → Climbs b tree level place now node → (node ≡ 1 → ⊥)
    → (slice_index tree (node / 2) ≡ 0 → ⊥) → Climbs b tree level place (now + 1) (node / 2)
climbs_more b tree level place now node told c not some =
    let up : suc now ≡ now + 1 = omega arith in
    let is = above b tree level place now node c not in
    let inside = parent_start b.top now node (node / 2) c.is_node is refl in
    let start : ℕ = start_of b.top (suc now) (node / 2) in
    let multiple = start_aligned b.top (suc now) (node / 2) is in
    let no = unmarked b tree told (suc now) (node / 2) (slice_index tree (node / 2) - 1) is
    (omega (arith, some)) in
    let d = double now in
    let own = start_aligned b.top now node c.is_node in
    let ends : start_of b.top now node + 2 ^ now ≤ start + 2 ^ suc now
    = apart (2 ^ now) (start_of b.top now node) (start + 2 ^ suc now) own
    (multiple_down now (suc now) (start + 2 ^ suc now) (omega arith)
    (multiple_next (suc now) start multiple)) inside.1 in
    subst (λ (l : ℕ). Climbs b tree level place l (node / 2)) up
    (record {
      is_node = is;
      least = omega (arith, c.least);
      from = omega (arith, inside.0, c.from);
      under = omega (arith, ends, c.under);
      clear = λ q upper begins more less low high.
          elim (cases_lt now upper) as (λ _. ⊥) [
            | inr small ↦ c.clear q upper begins more small low high
            | inl top ↦
                let l : upper ≡ suc now = omega (arith, less, top) in
                let here : Begins b.marks q (suc now) = begins ∙ ap (λ (n : ℕ). suc n) l in
                let size : 2 ^ upper ≡ 2 ^ suc now = ap (λ (n : ℕ). 2 ^ n) l in
                let its = (told.fits.each q (suc now) here).aligned in
                elim (cases_lt q start) as (λ _. ⊥) [
                  | inl before ↦
                      omega (
                        arith,
                        size,
                        high,
                        inside.0,
                        c.from,
                        apart (2 ^ suc now) q start its multiple before,
                      )
                  | inr behind ↦
                      no (ap (slice_index b.marks)
                      (same_multiple (2 ^ suc now) start q multiple its behind
                      (omega (arith, low, ends, c.under)))
                      ∙ here)
                ]
          ];
    })

pub climbs_done : (b : Board) (tree : List ℕ) (level place now node first : ℕ) → IsTold b tree
    → level ≤ b.top → place % 2 ^ level ≡ 0 → place < 2 ^ b.top
    → first ≡ (2 ^ b.top + place) / 2 ^ level → slice_index tree first ≡ suc level
    → Climbs b tree level place now node → node ≡ 1 → IsOpen b (2 ^ level) place
climbs_done b tree level place now node first told small aligned low at full c root =
    let n = node_at b.top level place first small aligned low at in
    let top : b.top ≤ now
    = elim (cases_lt now b.top) as (λ _. b.top ≤ now) [
      | inr more ↦ more
      | inl less ↦
          let d = double (b.top - now - 1) in
          let up : b.top - now ≡ suc (b.top - now - 1) = omega arith in
          let size : 2 ^ (b.top - now) ≡ 2 ^ suc (b.top - now - 1) = ap (λ (k : ℕ). 2 ^ k) up in
          absurd (omega (
            arith,
            d,
            size,
            root,
            node_from b.top now node c.is_node,
            pow_pos (b.top - now - 1),
          ))
    ] in
    subst (λ (p : ℕ). IsOpen b (2 ^ level) p) n.1
    (bare_open b tree told level first n.0 (bare b tree told level first n.0 full)
    (λ q upper begins more under over.
    c.clear q upper begins more (omega (arith, top, (told.fits.each q upper begins).small))
    (omega (arith, n.1, under)) (omega (arith, n.1, over))))

-- where a value says otherwise, the place is not open
pub closed_first : (b : Board) (tree : List ℕ) (level place node : ℕ) → IsTold b tree
    → level ≤ b.top → place < 2 ^ b.top → node ≡ (2 ^ b.top + place) / 2 ^ level
    → (slice_index tree node ≡ suc level → ⊥) → IsOpen b (2 ^ level) place → ⊥
closed_first b tree level place node told small low at not o =
    let n = node_at b.top level place node small o.aligned low at in
    not (omega (
      arith,
      told_open b tree told level node level place n.0 (omega arith) o (omega (arith, n.1))
          (omega (arith, n.1, pow_pos level)),
      most b tree told level node n.0,
    ))

pub closed_above : (b : Board) (tree : List ℕ) (level place now node : ℕ) → IsTold b tree
    → Climbs b tree level place now node → (node ≡ 1 → ⊥) → slice_index tree (node / 2) ≡ 0
    → IsOpen b (2 ^ level) place → ⊥
closed_above b tree level place now node told c not none o =
    let is = above b tree level place now node c not in
    let inside = parent_start b.top now node (node / 2) c.is_node is refl in
    let own = start_aligned b.top now node c.is_node in
    let ends : start_of b.top now node + 2 ^ now ≤ start_of b.top (suc now) (node / 2) + 2 ^ suc now
    = apart (2 ^ now) (start_of b.top now node) (start_of b.top (suc now) (node / 2) + 2 ^ suc now) own
    (multiple_down now (suc now) (start_of b.top (suc now) (node / 2) + 2 ^ suc now) (omega arith)
    (multiple_next (suc now) (start_of b.top (suc now) (node / 2))
    (start_aligned b.top (suc now) (node / 2) is))) inside.1 in
    omega (
      arith,
      none,
      told_open b tree told (suc now) (node / 2) level place is (omega (arith, c.least)) o
          (omega (arith, inside.0, c.from)) (omega (arith, ends, c.under)),
    )
