use Rattle.std.proofs.Common.{◌≡◌, ◌≤◌, drop}
use Rattle.std.specs.List.{list_all}
use Rattle.std.specs.Char.{is_ascii_digit}
use Rattle.l6_frame.specs.Frame.{number_after}
use Rattle.l6_frame.specs.Numerals.{most_body}
use Rattle.l6_frame.proofs.field.length_of.Given as goal

-- the digits that are left lead to the same number
abbrev pub invariant-loop-digit : goal.invariant-loop-digit
invariant-loop-digit l = record {
  number : number_after l.length (drop l.digit-index l.digits) ≡ number_after 0 l.digits;
  digits : list_all is_ascii_digit (drop l.digit-index l.digits) ≡ list_all is_ascii_digit l.digits;
  within : l.length ≤ most_body;
}
