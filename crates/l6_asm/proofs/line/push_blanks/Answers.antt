use Rattle.std.proofs.Common.{◌≡◌, take, rules}
use Rattle.l6_asm.specs.Listing.{blanks}
use Rattle.l6_asm.specs.Numerals.{word_margin}
use Rattle.std.proofs.lemmas.List.{take-replicate}
use Rattle.std.specs.Str.{byte}
use Rattle.l6_asm.proofs.line.push_blanks.Goals as goal

pub returns : goal.returns
returns c =
    let cut : take c.args.count (blanks word_margin) ≡ blanks c.args.count =
    take-replicate c.args.count word_margin (byte " ") c.requires in
    search (rules, cut)
