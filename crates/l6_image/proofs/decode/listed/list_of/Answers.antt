use Rattle.std.proofs.Common.{◌≡◌, ◌∷◌, ◌++◌, [], ap, ◌∙◌, ◌-◌, ◌+◌, rules}
use Rattle.std.proofs.lemmas.Result.{err_from_is_err_and}
use Rattle.l6_image.specs.inner.decode.Statements.{many, with_front}
use Rattle.l6_image.proofs.Counted.{goes_on, fails}
use Rattle.l6_image.proofs.decode.listed.list_of.Goals as goal

pub returns-in_err-next : goal.returns-in_err-next
returns-in_err-next g c =
    let now = c.loop in
    let p = err_from_is_err_and c.from_residual-in_err-next.result
    c.from_residual-in_err-next.ensures.1 in
    rw (p.1, p.2)
    (fails (g.T.Listed.reads c.args.version) now.list.items c.args.count now.counter now.rest.now
    c.args.words.now
    c.in_err-next.field-0.0 c.loop-test.true c.in_err-next.ensures now.invariant)

pub loop-preserved : goal.loop-preserved
loop-preserved g c =
    let now = c.loop in
    let reads = g.T.Listed.reads c.args.version in
    let pushed : c.push.new.self.items ≡ now.list.items ++ c.in_ok-next.next ∷ [] =
    search rules in
    let more = c.args.count - (now.counter + 1) in
    ap (λ xs. with_front xs (many reads more c.in_ok-next.following.now)) pushed
    ∙ goes_on reads now.list.items c.args.count now.counter now.rest.now
    c.in_ok-next.next c.in_ok-next.following.now
    c.args.words.now c.loop-test.true c.in_ok-next.ensures
    now.invariant
