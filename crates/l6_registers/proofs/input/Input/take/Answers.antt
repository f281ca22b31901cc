use Rattle.std.proofs.Common.{◌≡◌, ◌+◌, ◌∷◌, ◌∙◌, ◌<◌, ap, arith, drop, get_or, length, refl, subst, sym, take}
use Rattle.std.proofs.lemmas.List.{get_or-drop, length-drop}
use Rattle.l6_steps.specs.Characters.{number_of}
use Rattle.l6_registers.specs.inner.Input.{Fed}
use Rattle.l6_registers.proofs.Inputs.{number_next, small_by, small_next}
use Rattle.l6_registers.proofs.input.Input.take.Goals as goal

pub loop-init : goal.loop-init
loop-init c = record {
  number = refl;
  small = omega arith;
  characters = refl;
  taken = omega arith;
}

pub overflow_mul-number : goal.overflow_mul-number
overflow_mul-number c =
    let small = small_by c.loop.counter c.loop.number
    (omega (arith, c.loop-test.true, c.requires.few)) c.loop.invariant.small in
    omega (arith, small)

-- one more is left
pub next-requires : goal.next-requires
next-requires c =
    let chars = c.args.self.now.characters in
    let left = length-drop c.args.self.now.taken chars in
    let now = length-drop (c.args.self.now.taken + c.loop.counter) chars in
    let some : 0 < length (drop (c.args.self.now.taken + c.loop.counter) chars) =
    omega (arith, left, now, c.loop-test.true, c.requires.left) in
    subst (λ n. 0 < length (drop n c.loop.self.characters)) (sym c.loop.invariant.taken)
    (subst (λ cs. 0 < length (drop (c.args.self.now.taken + c.loop.counter) cs))
    (sym c.loop.invariant.characters) some)

pub overflow_add-number : goal.overflow_add-number
overflow_add-number c =
    let small = small_by c.loop.counter c.loop.number
    (omega (arith, c.loop-test.true, c.requires.few)) c.loop.invariant.small in
    omega (arith, small, c.next.ensures.range, c.from.ensures)

pub loop-preserved : goal.loop-preserved
loop-preserved c =
    let chars = c.args.self.now.characters in
    let old = c.args.self.now.taken in
    let i = c.loop.counter in
    let left = drop old chars in
    let first : drop (old + i) chars ≡ c.next.result ∷ drop c.next.new.self.taken chars =
    ap (λ n. drop n chars) (sym c.loop.invariant.taken)
    ∙ ap (drop c.loop.self.taken) (sym c.loop.invariant.characters)
    ∙ c.next.ensures.value
    ∙ ap (λ cs. c.next.result ∷ drop c.next.new.self.taken cs) c.loop.invariant.characters in
    let is : c.from.result ≡ get_or left i 0 =
    c.from.ensures ∙ ap (λ xs. get_or xs 0 0) (sym first)
    ∙ get_or-drop (old + i) chars 0 0 ∙ ap (λ n. get_or chars n 0) (omega arith)
    ∙ sym (get_or-drop old chars i 0) in
    let within : i < length left = omega (arith, c.loop-test.true, c.requires.left) in
    record {
      number = number_next left i c.loop.number c.from.result within is c.loop.invariant.number;
      small = small_next i c.loop.number c.from.result c.loop.invariant.small
          (omega (arith, c.next.ensures.range, c.from.ensures));
      characters = ap (λ (fed : Fed). fed.characters) c.next.ensures.taken
          ∙ c.loop.invariant.characters;
      taken = ap (λ (fed : Fed). fed.taken) c.next.ensures.taken
          ∙ ap (λ n. n + 1) c.loop.invariant.taken ∙ omega arith;
    }

pub returns-clause-value : goal.returns-clause-value
returns-clause-value c =
    let left = drop c.args.self.now.taken c.args.self.now.characters in
    let all : c.loop.counter ≡ c.args.count =
    omega (arith, c.loop-test.false, c.loop.auto.counter-end) in
    c.loop.invariant.number ∙ ap (λ n. number_of (take n left)) all

pub returns-clause-taken : goal.returns-clause-taken
returns-clause-taken c =
    let all : c.loop.counter ≡ c.args.count =
    omega (arith, c.loop-test.false, c.loop.auto.counter-end) in
    let is_taken = c.loop.invariant.taken ∙ ap (λ n. c.args.self.now.taken + n) all in
    ap (λ cs. record { characters = cs; taken = c.loop.self.taken }) c.loop.invariant.characters
    ∙ ap (λ n. record { characters = c.args.self.now.characters; taken = n }) is_taken
