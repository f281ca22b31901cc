use Rattle.std.proofs.Common.{◌≡◌, ◌<◌, ◌^◌, true, take}
use Rattle.std.specs.List.{list_all}
use Rattle.l6_word.specs.Octal.{octal_digits, is_octal_digit}
use Rattle.l6_word.proofs.octal.read_octal12.Given as goal

-- the bytes so far are the digits of the value, which has no more of them
abbrev pub invariant-loop-given : goal.invariant-loop-given
invariant-loop-given l = record {
  octal : list_all is_octal_digit (take l.given-index l.text) ≡ true;
  digits : take l.given-index l.text ≡ octal_digits l.given-index l.value;
  below : l.value < 8 ^ l.given-index;
}
