use Rattle.std.proofs.Common.{arith, ap, drop, sym, ◌+◌, ◌∙◌}
use Rattle.std.specs.Option.{option_and_then}
use Rattle.std.proofs.lemmas.Bool.{eqb-true}
use Rattle.l6_group.specs.Character.{name_of}
use Rattle.l6_group.specs.Element.{names_of, chain_from}
use Rattle.l6_group.proofs.Readings.{with_read, read_on, too_many_names}
use Rattle.l6_group.proofs.element.any_chain_of.Goals as goal

pub returns-then-is_full : goal.returns-then-is_full
returns-then-is_full c =
    let names = c.loop-byte.names.items in
    let rest = names_of (drop (c.loop-byte.byte-index + 1) c.args.element.now) in
    let full = c.if-is_full.ensures in
    let left = read_on name_of c.args.element.now c.loop-byte.byte-index c.in_ok-name.name
    (omega arith) (cc) (sym c.in_ok-name.ensures) in
    sym (too_many_names names c.in_ok-name.name rest (eqb-true _ _ (sym full.value)))
    ∙ ap (option_and_then chain_from) (ap (with_read names) (sym left) ∙ c.loop-byte.invariant)
