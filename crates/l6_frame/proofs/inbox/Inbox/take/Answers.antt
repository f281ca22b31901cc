use Rattle.std.proofs.Common.{ℕ, List, ◌≡◌, ◌-◌, ◌≤◌, ◌++◌, ◌∙◌, arith, ap, sym, subst, drop, length, refl, rules}
use Rattle.l6_frame.specs.Frame.{BeginsWith}
use Rattle.l6_frame.specs.Stream.{BeginsNone}
use Rattle.l6_frame.proofs.Streams.{left_after}
use Rattle.l6_frame.proofs.inbox.Inbox.take.Goals as goal

pub returns-in_ok-extend_from_slice-in-Frame-clause-ok :
    goal.returns-in_ok-extend_from_slice-in-Frame-clause-ok
returns-in_ok-extend_from_slice-in-Frame-clause-ok c =
    let old = c.args.self.now in
    let bytes = c.self.inside.bytes.items in
    let taken = c.self.inside.taken in
    let found = c.in-Frame.found.now in
    let rest = c.in-Frame.rest.now in
    let items : c.extend_from_slice.new.self.items ≡ found = search rules in
    let whole : BeginsWith old found rest
    = subst (λ (it : List ℕ). BeginsWith it found rest) c.waiting.ensures c.in-Frame.ensures in
    let waits : BeginsWith (drop taken bytes) found rest
    = subst (λ (it : List ℕ). BeginsWith it found rest) (sym c.self.view_is) whole in
    let within : taken ≤ length bytes
    = omega (arith, c.self.inside.bytes.ok.0, c.self.inside.within) in
    let left : drop (c.len.result - length rest) bytes ≡ rest
    = ap (λ (n : ℕ). drop (n - length rest) bytes) (c.len.ensures ∙ c.self.inside.bytes.ok.0)
    ∙ left_after bytes found rest taken within waits in
    subst (λ (it : List ℕ). BeginsWith old c.extend_from_slice.new.self.items it) (sym left)
    (subst (λ (it : List ℕ). BeginsWith old it rest) (sym items) whole)

pub returns-in-Part-clause-ok : goal.returns-in-Part-clause-ok
returns-in-Part-clause-ok c = (refl, subst BeginsNone c.waiting.ensures c.in-Part.ensures)

pub returns-in-Wrong-clause-ok : goal.returns-in-Wrong-clause-ok
returns-in-Wrong-clause-ok c = (
  refl,
  λ more. subst (λ (it : List ℕ). BeginsNone (it ++ more)) c.waiting.ensures (c.in-Wrong.ensures more),
)
