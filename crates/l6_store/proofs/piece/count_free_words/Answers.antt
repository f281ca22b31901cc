use Rattle.std.proofs.Common.{◌≡◌, ℕ, add-one, ◌+◌, ◌*◌, ◌^◌, ◌≤◌, refl, ap, ◌∙◌, lit<, arith, length}
use Rattle.std.proofs.Math.Nat.{mul_comm, mul-le-mul, pow-le-pow_right}
use Rattle.l6_word.specs.Numerals.{largest_level}
use Rattle.l6_store.specs.Numerals.{place_bits}
use Rattle.l6_store.specs.Rule.{Order}
use Rattle.l6_store.specs.Buddy.{free_words, free_words_below, listed}
use Rattle.l6_store.proofs.piece.count_free_words.Goals as goal

-- the words of the pieces of one level
few : (pieces level : ℕ) → pieces ≤ 2 ^ place_bits → level ≤ largest_level → pieces * 2 ^ level ≤ 2 ^ 28
few pieces level many small = mul-le-mul many (pow-le-pow_right {n = 2} (lit< tt) small)

none : (order : Order) → 0 ≡ free_words_below 0 order
unfolding free_words_below
none order = refl

more : (order : Order) (level : ℕ) → free_words_below (level + 1) order
    ≡ 2 ^ level * length (listed order level) + free_words_below level order
unfolding free_words_below
more order level = ap (λ (n : ℕ). free_words_below n order) (add-one level)

all : (order : Order) → free_words_below (largest_level + 1) order ≡ free_words order
unfolding free_words
all order = refl

pub loop-level-init : goal.loop-level-init
loop-level-init c = (none c.args.arena.now.order, omega arith, omega arith)

pub overflow_add-words : goal.overflow_add-words
overflow_add-words c = record {
  fits =
      let small = few c.count_pieces.result c.loop-level.level c.count_pieces.ensures.few
      c.loop-level-test.true in
      omega (arith, small, c.loop-level.invariant.1, c.loop-level.invariant.2);
}

pub loop-level-preserved : goal.loop-level-preserved
loop-level-preserved c =
    let small = few c.count_pieces.result c.loop-level.level c.count_pieces.ensures.few
    c.loop-level-test.true in
    let order = c.args.arena.now.order in
    let level = c.loop-level.level in
    let next = more order level in
    let counted : c.count_pieces.result * 2 ^ level ≡ 2 ^ level * length (listed order level)
    = mul_comm c.count_pieces.result (2 ^ level)
    ∙ ap (λ (n : ℕ). 2 ^ level * n) c.count_pieces.ensures.count in (
      omega (arith, small, next, counted, c.loop-level.invariant.0),
      omega (arith, small, c.loop-level.invariant.1),
      omega (arith, c.loop-level-test.true),
    )

pub returns : goal.returns
returns c =
    let last : c.loop-level.level ≡ largest_level + 1
    = omega (arith, c.loop-level-test.false, c.loop-level.invariant.2) in
    c.loop-level.invariant.0
    ∙ ap (λ (n : ℕ). free_words_below n c.args.arena.now.order) last
    ∙ all c.args.arena.now.order
