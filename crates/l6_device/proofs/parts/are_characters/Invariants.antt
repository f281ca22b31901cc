use Rattle.std.proofs.Common.{◌≡◌, map, length}
use Rattle.std.specs.Str.{bytes_eq}
use Rattle.l6_word.specs.Code.{character_of}
use Rattle.l6_device.proofs.parts.are_characters.Given as goal

-- what is left of both decides
abbrev pub invariant-loop-character : goal.invariant-loop-character
invariant-loop-character l =
    bytes_eq (map character_of l.fn.bytes) l.fn.characters
    ≡ bytes_eq (map character_of l.rest) l.others

abbrev pub decreases-loop-character : goal.decreases-loop-character
decreases-loop-character l = length l.others
