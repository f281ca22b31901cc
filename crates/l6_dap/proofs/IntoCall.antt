-- The way into a call, an action at a time.
use Rattle.std.proofs.Common.{◌≡◌, ◌<◌, ℕ, suc, ◌+◌, ◌-◌, Bool, true, false, sym, ap, ◌∙◌, arith}
use Rattle.std.specs.Prelude.{if◌then◌else◌}
use Rattle.l6_session.specs.declared.command.Move.TheVariants.{Next}
use Rattle.l6_session.specs.inner.SessionRun.{SessionRun}
use Rattle.l6_dap.specs.Entering.{after_move, into_call, is_on_its_way}

-- the run goes on where it is on its way, and stays where it is not
into_if : (n : ℕ) (next : SessionRun) (is : Bool) → is ≡ true →
    (if is then into_call n next else next) ≡ into_call n next
into_if n next is on = ap (λ b. if b then into_call n next else next) on

stays_if : (n : ℕ) (next : SessionRun) (is : Bool) → is ≡ false →
    (if is then into_call n next else next) ≡ next
stays_if n next is off = ap (λ b. if b then into_call n next else next) off

pub into_on : (n k : ℕ) (old next : SessionRun) → k < n → next ≡ after_move old (Next 1) →
    is_on_its_way old next ≡ true → into_call (n - k) old ≡ into_call (n - (k + 1)) next
into_on n k old next within is on =
    let less : n - k ≡ suc (n - (k + 1)) = omega (arith, within) in
    let moved = after_move old (Next 1) in
    ap (λ m. into_call m old) less
    ∙ into_if (n - (k + 1)) moved (is_on_its_way old moved) (ap (is_on_its_way old) (sym is) ∙ on)
    ∙ ap (into_call (n - (k + 1))) (sym is)

pub into_stays : (n k : ℕ) (old next : SessionRun) → k < n → next ≡ after_move old (Next 1) →
    is_on_its_way old next ≡ false → into_call (n - k) old ≡ next
into_stays n k old next within is off =
    let less : n - k ≡ suc (n - (k + 1)) = omega (arith, within) in
    let moved = after_move old (Next 1) in
    ap (λ m. into_call m old) less
    ∙ stays_if (n - (k + 1)) moved (is_on_its_way old moved) (ap (is_on_its_way old) (sym is) ∙ off)
    ∙ sym is
