use Rattle.l6_lsp.proofs.Mended.{fix_found, fixes_next}
use Rattle.l6_lsp.proofs.fixes.fixes.Goals as goal

pub loop-finding-preserved : goal.loop-finding-preserved
loop-finding-preserved c =
    let text = c.args.document.now.text.items in
    fixes_next c.args.uri.now text c.loop-finding.list.items c.push.new.self.items c.in-Some.fix
    c.in_ok-push.ensures.items c.loop-finding.invariant
    (fix_found c.args.uri.now c.as_slice-text.result.now text c.in_ok-fix.field-0 c.in-Some.fix c.in-Some.is
    c.as_slice-text.ensures.value c.in_ok-fix.ensures)
