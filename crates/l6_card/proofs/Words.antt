-- The laws of items: groups are in parentheses, words are of letters, and blanks vanish.
use Rattle.std.proofs.Common.{◌≡◌, ℕ, ◌+◌, List, [], ◌∷◌, ◌++◌, true, false, eqb, refl, ap, ◌∙◌, arith}
use Rattle.std.specs.Prelude.{not}
use Rattle.std.specs.List.{list_all}
use Rattle.std.specs.Str.{byte}
use Rattle.std.proofs.lemmas.Bool.{and_parts, and_from, not-true}
use Rattle.l6_word.specs.Split.{lacks}
use Rattle.l6_group.specs.Character.{is_blank}
use Rattle.l6_card.specs.Items.{Item, group, word, unclosed, unopened, after_column, after_letter, after_opening, items_of}
use Rattle.l6_card.specs.Laws.{is_inner, closes_first, end_a_word, GroupsAreInParentheses, BlanksVanish, LettersMakeWords, LettersBeginWords, OpeningsNeedClosings, OpeningsDoNotNest}
use Rattle.l6_card.proofs.Bodies.{closed_front, closes_first_lacks, closes_first_open, blank_column, nothing_blank}

-- columns without a parenthesis lack both
lacks_inner : (columns : List ℕ) → list_all is_inner columns ≡ true →
    (lacks (byte ")") columns ≡ true) × (lacks (byte "(") columns ≡ true)
lacks_inner [] inner = (refl, refl)
lacks_inner (column ∷ columns) inner =
    let parts = and_parts (is_inner column) (list_all is_inner columns) inner in
    let both = and_parts (not (eqb column (byte "("))) (not (eqb column (byte ")"))) parts.0 in
    let others = lacks_inner columns parts.1 in (
      and_from (not (eqb column (byte ")"))) (lacks (byte ")") columns) both.1 others.0,
      and_from (not (eqb column (byte "("))) (lacks (byte "(") columns) both.0 others.1,
    )

pub groups_in_parentheses : GroupsAreInParentheses
groups_in_parentheses offset columns following inner =
    let lacking = lacks_inner columns inner in
    ap (after_opening offset) (closed_front (offset + 1) columns following lacking.0 lacking.1)
    ∙ ap (λ o. group offset columns ∷ items_of o following) (omega arith)

pub blanks_vanish : BlanksVanish
blanks_vanish offset blank columns is_one open' =
    let items = items_of (offset + 1) columns in
    blank_column offset blank items is_one ∙ nothing_blank blank items open'

opened_unclosed : (offset : ℕ) (items : List Item) → closes_first items ≡ false →
    after_opening offset items ≡ unclosed offset ∷ items
opened_unclosed offset [] open' = refl
opened_unclosed offset (group at columns ∷ items) open' = refl
opened_unclosed offset (word first past columns ∷ items) open' = refl
opened_unclosed offset (unclosed at ∷ items) open' = refl
opened_unclosed offset (unopened closing columns ∷ items) open' = absurd (cc)

pub openings_need_closings : OpeningsNeedClosings
openings_need_closings offset columns lacking =
    opened_unclosed offset (items_of (offset + 1) columns)
    (closes_first_lacks (offset + 1) columns lacking)

pub openings_do_not_nest : OpeningsDoNotNest
openings_do_not_nest offset columns following inner =
    opened_unclosed offset (items_of (offset + 1) (columns ++ byte "(" ∷ following))
    (closes_first_open (offset + 1) columns following (lacks_inner columns inner).0)

-- what is no parenthesis and no blank is a letter or the like
letter_column : (offset letter : ℕ) (items : List Item) → is_blank letter ≡ false →
    is_inner letter ≡ true → after_column offset letter items ≡ after_letter offset letter items
letter_column offset letter items not_blank inner =
    let both = and_parts (not (eqb letter (byte "("))) (not (eqb letter (byte ")"))) inner in
    let no_opening = not-true (eqb letter (byte "(")) both.0 in
    let no_closing = not-true (eqb letter (byte ")")) both.1 in
    rw (no_closing, no_opening, not_blank) refl

pub letters_make_words : LettersMakeWords
letters_make_words offset letter first past columns letters items not_blank inner before =
    ap (after_column offset letter) before
    ∙ letter_column offset letter (word first past letters ∷ items) not_blank inner

begun_word : (offset letter : ℕ) (items : List Item) → end_a_word items ≡ true →
    after_letter offset letter items ≡ word offset (offset + 1) (letter ∷ []) ∷ items
begun_word offset letter [] ends = refl
begun_word offset letter (group at columns ∷ items) ends = refl
begun_word offset letter (word first past columns ∷ items) ends = absurd (cc)
begun_word offset letter (unclosed at ∷ items) ends = absurd (cc)
begun_word offset letter (unopened closing columns ∷ items) ends = absurd (cc)

pub letters_begin_words : LettersBeginWords
letters_begin_words offset letter columns not_blank inner ends =
    let items = items_of (offset + 1) columns in
    letter_column offset letter items not_blank inner ∙ begun_word offset letter items ends
