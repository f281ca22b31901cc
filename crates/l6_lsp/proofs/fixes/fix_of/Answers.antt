use Rattle.std.proofs.Common.{sym, ◌∙◌}
use Rattle.serde_json.specs.View.{view}
use Rattle.l6_lsp.proofs.Mended.{fix_by}
use Rattle.l6_lsp.proofs.fixes.fix_of.Goals as goal

pub returns-then-branch : goal.returns-then-branch
returns-then-branch c =
    fix_by c.args.uri.now c.args.text.now c.as_str-then-branch-2.result.now c.as_str-then-branch-3.result.now
    c.as_str.result.now c.spot-start.result c.spot-end.result (view c.in_ok-value.value) c.in_ok-value.ensures
    (c.as_str.ensures.value ∙ sym c.as_str-then-branch-3.ensures.value) (c.in_ok-mends.ensures c.if-branch.true)
