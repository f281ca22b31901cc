use Rattle.std.proofs.Common.{◌+◌, length-take, is_some, List, [], refl, sym, ap, subst, arith}
use Rattle.std.proofs.Math.Logic.{inl, inr}
use Rattle.std.specs.List.{flat_map}
use Rattle.std.specs.Option.{option_map}
use Rattle.l6_word.specs.Lines.{lines_of}
use Rattle.l6_card.specs.Objection.{fault_in}
use Rattle.l6_card.specs.ReadAlone.{LinesReadAs}
use Rattle.l6_card.specs.Statement.{DeckStatementParts}
use Rattle.l6_check.specs.Missing.{missing_in}
use Rattle.l6_check.specs.inner.Parts.{lines_in}
use Rattle.l6_check.proofs.Keeping.{held_ok}
use Rattle.l6_check.proofs.MissingParts.{part_is_fit, part_is_short}
use Rattle.l6_check.proofs.MissingSteps.{say_none}
use Rattle.l6_check.proofs.reading.add_errors.Goals as goal

pub add_missing-requires-clause-fit : goal.add_missing-requires-clause-fit
add_missing-requires-clause-fit c =
    let number = c.args.part.before + 1 in
    let reads = subst (λ (s : List DeckStatementParts). LinesReadAs number (lines_in c.args.part) s)
    (sym c.statements.ensures) c.in-Ok.ensures.reads in
    part_is_fit number (lines_in c.args.part) c.statements.result.now reads

pub add_missing-requires-clause-room : goal.add_missing-requires-clause-room
add_missing-requires-clause-room c =
    let number = c.args.part.before + 1 in
    let reads = subst (λ (s : List DeckStatementParts). LinesReadAs number (lines_in c.args.part) s)
    (sym c.statements.ensures) c.in-Ok.ensures.reads in
    let short = part_is_short number (lines_in c.args.part) c.statements.result.now reads in
    omega (
      arith,
      short,
      length-take c.args.part.count (lines_of c.args.part.text.now),
      c.requires.missing_room,
    )

pub returns-in_ok-add_missing-in-Ok-clause-missing :
    goal.returns-in_ok-add_missing-in-Ok-clause-missing
returns-in_ok-add_missing-in-Ok-clause-missing c =
    let number = c.args.part.before + 1 in
    record {
      here = flat_map (missing_in c.args.given.now.entries) c.statements.result.now;
      are = inl (record {
        statements = c.statements.result.now;
        reads = subst (λ (s : List DeckStatementParts). LinesReadAs number (lines_in c.args.part) s)
            (sym c.statements.ensures) c.in-Ok.ensures.reads;
        named = refl;
      });
      said = c.in_ok-add_missing-in-Ok.ensures.said;
    }

pub returns-in_ok-add_missing-in-Ok-clause-missing_count :
    goal.returns-in_ok-add_missing-in-Ok-clause-missing_count
returns-in_ok-add_missing-in-Ok-clause-missing_count c =
    let number = c.args.part.before + 1 in
    let reads = subst (λ (s : List DeckStatementParts). LinesReadAs number (lines_in c.args.part) s)
    (sym c.statements.ensures) c.in-Ok.ensures.reads in
    let short = part_is_short number (lines_in c.args.part) c.statements.result.now reads in
    omega (
      arith,
      short,
      length-take c.args.part.count (lines_of c.args.part.text.now),
      c.in_ok-add_missing-in-Ok.ensures.count,
    )

pub returns-in-Err-Objection-clause-missing : goal.returns-in-Err-Objection-clause-missing
returns-in-Err-Objection-clause-missing c =
    held_ok c.add_objections.result (record {
      here = [];
      are = inr (record {
        fault = ap is_some (ap (option_map fault_in)
            (rw c.in-Err-Objection.field-0-is at c.in-Err-Objection.ensures.objection));
        none = refl;
      });
      said = say_none [] c.args.missing.now refl;
    })
