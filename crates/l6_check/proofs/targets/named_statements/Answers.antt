use Rattle.std.proofs.Common.{◌≡◌, ◌∙◌, ap, length, drop, take_all, arith, replicate, false, rules}
use Rattle.std.specs.List.{flat_map}
use Rattle.l6_prog.specs.Target.{targets_of}
use Rattle.l6_check.specs.inner.Marks.{is_marked, marked}
use Rattle.l6_check.proofs.Marking.{are_marks, written}
use Rattle.l6_check.proofs.targets.named_statements.Goals as goal

pub returns : goal.returns
returns c number =
    let program = c.args.program.now in
    let statements = c.statements-statements.result.now in
    let new = c.mark_all.new.marks in
    let long : length new ≡ c.in_ok-named.named.len = search rules in
    let fresh : c.deref_mut.result.now ≡ replicate (length statements) false = search rules in
    let all : statements ≡ program = c.statements-statements.ensures.value in
    let targets : c.deref.result.now ≡ flat_map targets_of statements =
    c.deref.ensures.value ∙ c.loop-statement.invariant
    ∙ ap (flat_map targets_of) (take_all c.loop-statement.statement-index statements
    (omega (arith, c.loop-statement-test.false))) in
    ap (λ m. is_marked m number)
    (written c.in_ok-named.named.len new (drop (length new) c.in_ok-named.named.items) long
    ∙ c.mark_all.ensures
    ∙ ap (λ m. marked m c.deref.result.now) fresh
    ∙ ap (marked (replicate (length statements) false)) targets
    ∙ ap (λ s. marked (replicate (length s) false) (flat_map targets_of s)) all)
    ∙ are_marks (length program) (flat_map targets_of program) c.statements-statements.ensures.program.targets number
