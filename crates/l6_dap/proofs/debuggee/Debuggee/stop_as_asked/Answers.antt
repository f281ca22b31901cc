use Rattle.std.proofs.Common.{ap, sym, ◌∙◌, refl}
use Rattle.l6_dap.specs.inner.Setting.{with_all_plain, with_all_tested}
use Rattle.l6_dap.proofs.Stops.{as_asked, as_asked_of, set_both}
use Rattle.l6_dap.proofs.debuggee.Debuggee.stop_as_asked.Goals as goal

pub returns : goal.returns
returns c =
    let cards = c.self.inside.on_cards.items in
    let labels = c.self.inside.on_labels.items in
    let clear = c.remove_all.new.session.state in
    let first = c.set_tested.new.session.state in
    let tested = c.set_tested-2.new.session.state in
    let second = c.set_plain.new.session.state in
    let state = set_both cards labels c.self.inside.session.state clear first tested second c.set_plain-2.new.session.state
    c.remove_all.ensures.state
    (c.in_ok-set_tested.ensures.1 ∙ ap (λ all. with_all_tested all clear) c.as_slice.ensures.value)
    (c.in_ok-set_tested-2.ensures.1 ∙ ap (λ all. with_all_tested all first) c.as_slice-2.ensures.value)
    (c.set_plain.ensures.state ∙ ap (λ all. with_all_plain all tested) c.as_slice-3.ensures.value)
    (c.set_plain-2.ensures.state ∙ ap (λ all. with_all_plain all second) c.as_slice-4.ensures.value) in
    let context = c.set_plain-2.ensures.context ∙ c.set_plain.ensures.context ∙ c.in_ok-set_tested-2.ensures.0
    ∙ c.in_ok-set_tested.ensures.0 ∙ c.remove_all.ensures.context in
    as_asked_of _ _ _ (sym c.self.view_is) (as_asked _ _ refl context c.remove_all.ensures.tests state)
