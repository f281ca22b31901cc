use Rattle.std.proofs.Common.{arith, sym, ap, ◌∙◌, ◌∷◌, suc, get_or, drop, drop-cons}
use Rattle.l6_group.specs.declared.fault.Shape.TheVariants.{Spelling}
use Rattle.l6_group.specs.Element.{elements_of}
use Rattle.l6_group.specs.Objection.{first_misfit}
use Rattle.l6_group.proofs.Misfits.{misfit_last}
use Rattle.l6_group.proofs.objection.first_misfit.Goals as goal

pub returns-in-None-clause-first : goal.returns-in-None-clause-first
returns-in-None-clause-first c =
    let shapes = c.args.shapes.now in
    let index = c.loop-shape.shape-index in
    let start = c.loop-shape.start in
    let element = c.first_of.result.0.now in
    let left = drop-cons shapes index Spelling (omega arith) in
    let alone = rw c.in-None.is at c.first_of.ensures.first in
    let last = misfit_last start (get_or shapes index Spelling) (drop (suc index) shapes) element
    (sym c.fits.ensures ∙ c.if-not-fits.false) in
    sym last
    ∙ sym (ap (first_misfit start (get_or shapes index Spelling ∷ drop (suc index) shapes)) alone)
    ∙ sym (ap (λ those. first_misfit start those (elements_of c.loop-shape.rest.now)) left)
    ∙ c.loop-shape.invariant.0
