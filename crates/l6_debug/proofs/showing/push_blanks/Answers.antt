use Rattle.std.proofs.Common.{◌≡◌, replicate, take, rules}
use Rattle.std.proofs.lemmas.List.{take-replicate}
use Rattle.std.specs.Str.{byte}
use Rattle.l6_debug.specs.Numerals.{index_places}
use Rattle.l6_debug.proofs.showing.push_blanks.Goals as goal

pub returns : goal.returns
returns c =
    let cut : take c.args.count (replicate index_places (byte " "))
    ≡ replicate c.args.count (byte " ") =
    take-replicate c.args.count index_places (byte " ") c.requires in
    search (rules, cut)
