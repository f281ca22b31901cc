use Rattle.std.proofs.Common.{rules, ◌≡◌, ◌-◌, ◌++◌, ◌∙◌, ap, length}
use Rattle.std.specs.Str.{byte}
use Rattle.l6_word.specs.Split.{lacks}
use Rattle.l6_check.specs.Statements.{blanks}
use Rattle.l6_check.proofs.Mending.{lacks_blanks, lacks_joined}
use Rattle.l6_check.proofs.mended.with_blanks.Goals as goal

pub returns-clause-plain : goal.returns-clause-plain
returns-clause-plain c =
    let group = c.args.group.now in
    let count = c.args.width - length group in
    let are : c.extend_from_slice-2.new.self.items ≡ group ++ blanks count = search rules in
    ap (lacks (byte "\n")) are ∙ lacks_joined group (blanks count) c.requires (lacks_blanks count)
