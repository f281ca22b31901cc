use Rattle.std.proofs.Common.{◌≡◌, ◌+◌, ◌*◌, ◌++◌, length, true}
use Rattle.std.specs.List.{list_all}
use Rattle.l6_word.specs.Word.{is_word}
use Rattle.l6_image.specs.Text.{text_of_words, whole_lines, first_other}
use Rattle.l6_image.proofs.text.words_in.Given as goal

-- the words so far, and the text that is left; a line of it that is the first that is not one of a
-- word is that of the whole text
abbrev pub invariant-loop-rest : goal.invariant-loop-rest
invariant-loop-rest l = record {
  words : l.text ≡ text_of_words l.words.items ++ l.rest;
  known : list_all is_word l.words.items ≡ true;
  lines : first_other 1 (whole_lines l.text)
      ≡ first_other (length l.words.items + 1) (whole_lines l.rest);
  count : length l.words.items * 13 + length l.rest ≡ length l.text;
}

abbrev pub decreases-loop-rest : goal.decreases-loop-rest
decreases-loop-rest l = length l.rest
