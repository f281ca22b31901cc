use Rattle.l6_card.proofs.Words.{groups_in_parentheses, openings_need_closings, openings_do_not_nest, blanks_vanish, letters_make_words, letters_begin_words}
use Rattle.l6_card.proofs.laws.items_are_groups_and_words.Goals as goal

pub returns : goal.returns
returns c = record {
  groups = groups_in_parentheses;
  unclosed = openings_need_closings;
  nested = openings_do_not_nest;
  blanks = blanks_vanish;
  letters = letters_make_words;
  words = letters_begin_words;
}
