use Rattle.std.proofs.Common.{is_ok, sym, ap, ◌∙◌}
use Rattle.l6_asm.specs.Labels.{labels_of}
use Rattle.l6_asm.specs.Resolution.{statements_of}
use Rattle.l6_asm.proofs.Programs.{program_of_made}
use Rattle.l6_asm.proofs.assembler.assembly_of.Goals as goal

-- what the cards say makes a program
pub from_known-requires : goal.from_known-requires
from_known-requires c =
    let labels = c.in_ok-labels.labels.entries in
    let labelled = ap labels_of (sym c.statements.ensures) ∙ c.in_ok-labels.ensures in
    let made = ap (statements_of labels) (sym c.into_statements.ensures)
    ∙ c.in_ok-statements.ensures in
    let whole =
    program_of_made c.args.cards labels c.in_ok-statements.statements.items c.requires labelled made
    in
    ap is_ok whole
