-- The items of a body, from its front.
use Rattle.std.proofs.Common.{◌≡◌, ℕ, ◌+◌, ◌<◌, ◌≤◌, List, [], ◌∷◌, ◌++◌, Bool, true, false, cond, eqb, refl, sym, ap, ◌∙◌, subst, inl, inr, length, length-append, arith}
use Rattle.std.specs.Prelude.{not, ◌||◌, ◌&&◌}
use Rattle.std.specs.List.{list_all}
use Rattle.std.specs.Str.{byte}
use Rattle.std.proofs.lemmas.Bool.{and_parts, or_cases, eqb-true, not-true}
use Rattle.std.proofs.lemmas.List.{append-nil}
use Rattle.l6_word.specs.Split.{lacks}
use Rattle.l6_word.proofs.Cuts.{lacks_cons}
use Rattle.l6_group.specs.Character.{is_blank}
use Rattle.l6_card.specs.Items.{Item, group, word, unclosed, unopened, after_opening, after_blank, after_letter, after_column, items_of}
use Rattle.l6_card.specs.Objection.{count_blanks, count_solid}
use Rattle.l6_card.specs.Laws.{closes_first}
use Rattle.l6_card.specs.declared.item.Token.{Token}
use Rattle.l6_card.specs.declared.item.Token.TheVariants.{End, Group, Word, Unclosed, Unopened}
use Rattle.l6_card.specs.inner.Token.{BeginsWith, GroupFirst, WordFirst, IsUnclosed, ClosesFirst, IsShorter, UnclosedFirst, UnopenedFirst, OpensFirst, ClosesAt, IsCutAtParenthesis, letters_of, begins_with_none, begins_with_closing, begins_a_word}

closes_first_opening : (offset : ℕ) (items : List Item) →
    closes_first (after_opening offset items) ≡ false
closes_first_opening offset [] = refl
closes_first_opening offset (group at columns ∷ items) = refl
closes_first_opening offset (word first past columns ∷ items) = refl
closes_first_opening offset (unclosed at ∷ items) = refl
closes_first_opening offset (unopened closing columns ∷ items) = refl

closes_first_blank : (blank : ℕ) (items : List Item) →
    closes_first items ≡ false → closes_first (after_blank blank items) ≡ false
closes_first_blank blank [] open' = refl
closes_first_blank blank (group at columns ∷ items) open' = refl
closes_first_blank blank (word first past columns ∷ items) open' = refl
closes_first_blank blank (unclosed at ∷ items) open' = refl
closes_first_blank blank (unopened closing columns ∷ items) open' = absurd (cc)

closes_first_letter : (offset letter : ℕ) (items : List Item) →
    closes_first items ≡ false → closes_first (after_letter offset letter items) ≡ false
closes_first_letter offset letter [] open' = refl
closes_first_letter offset letter (group at columns ∷ items) open' = refl
closes_first_letter offset letter (word first past columns ∷ items) open' = refl
closes_first_letter offset letter (unclosed at ∷ items) open' = refl
closes_first_letter offset letter (unopened closing columns ∷ items) open' = absurd (cc)

closes_first_cond : (opens blank : Bool) (offset column : ℕ) (items : List Item) →
    closes_first items ≡ false →
    closes_first
    (cond opens (after_opening offset items)
    (cond blank (after_blank column items) (after_letter offset column items)))
    ≡ false
closes_first_cond true blank offset column items open' = closes_first_opening offset items
closes_first_cond false true offset column items open' = closes_first_blank column items open'
closes_first_cond false false offset column items open' = closes_first_letter offset column items open'

closes_first_column : (offset column : ℕ) (items : List Item) →
    eqb column (byte ")") ≡ false → closes_first items ≡ false →
    closes_first (after_column offset column items) ≡ false
closes_first_column offset column items other open' =
    rw other
    (closes_first_cond (eqb column (byte "(")) (is_blank column) offset column items open')

-- bytes without a `)` have none that no `(` opens
pub closes_first_lacks : (offset : ℕ) (columns : List ℕ) → lacks (byte ")") columns ≡ true →
    closes_first (items_of offset columns) ≡ false
closes_first_lacks offset [] lacking = refl
closes_first_lacks offset (column ∷ columns) lacking =
    let parts = lacks_cons (byte ")") column columns lacking in
    closes_first_column offset column (items_of (offset + 1) columns) parts.0
    (closes_first_lacks (offset + 1) columns parts.1)

-- a `(` before the first `)` leaves none that no `(` opens
pub closes_first_open : (offset : ℕ) (front following : List ℕ) →
    lacks (byte ")") front ≡ true →
    closes_first (items_of offset (front ++ byte "(" ∷ following)) ≡ false
closes_first_open offset [] following lacking =
    closes_first_opening offset (items_of (offset + 1) following)
closes_first_open offset (column ∷ columns) following lacking =
    let parts = lacks_cons (byte ")") column columns lacking in
    closes_first_column offset column (items_of (offset + 1) (columns ++ byte "(" ∷ following))
    parts.0 (closes_first_open (offset + 1) columns following parts.1)

opened_unclosed : (offset : ℕ) (items : List Item) → closes_first items ≡ false →
    OpensFirst offset (after_opening offset items)
opened_unclosed offset [] open' = refl
opened_unclosed offset (group at columns ∷ items) open' = refl
opened_unclosed offset (word first past columns ∷ items) open' = refl
opened_unclosed offset (unclosed at ∷ items) open' = refl
opened_unclosed offset (unopened closing columns ∷ items) open' = absurd (cc)

-- a test that holds where the other fails
or_true_left : (one other : Bool) → (one || other) ≡ true → other ≡ false → one ≡ true
or_true_left true other either fails = refl
or_true_left false other either fails = absurd (cc)

-- a `(` is no group's where the first parenthesis after it is no `)`, or where there is none
pub unclosed_cut : (inside front rest : List ℕ) → IsCutAtParenthesis inside front rest →
    begins_with_closing rest ≡ false → IsUnclosed inside
unclosed_cut inside front [] parts closing offset =
    let lacking : lacks (byte ")") inside ≡ true =
    ap (lacks (byte ")")) (parts.whole ∙ append-nil front) ∙ parts.no_closing in
    opened_unclosed offset (items_of (offset + 1) inside)
    (closes_first_lacks (offset + 1) inside lacking)
unclosed_cut inside front (column ∷ others) parts closing offset =
    let opening =
    eqb-true column (byte "(")
    (or_true_left (eqb column (byte "(")) (eqb column (byte ")")) parts.rest_begins closing) in
    let whole : inside ≡ front ++ byte "(" ∷ others =
    parts.whole ∙ ap (λ c. front ++ c ∷ others) opening in
    opened_unclosed offset (items_of (offset + 1) inside)
    (ap (λ i. closes_first (items_of (offset + 1) i)) whole
    ∙ closes_first_open (offset + 1) front others parts.no_closing)

joined : (blank : Bool) (offset column closing : ℕ) (columns : List ℕ) (items : List Item) →
    cond blank (after_blank column (unopened closing columns ∷ items))
    (after_letter offset column (unopened closing columns ∷ items))
    ≡ unopened closing (column ∷ columns) ∷ items
joined true offset column closing columns items = refl
joined false offset column closing columns items = refl

pub closed_front : (offset : ℕ) (columns following : List ℕ) →
    lacks (byte ")") columns ≡ true → lacks (byte "(") columns ≡ true →
    items_of offset (columns ++ byte ")" ∷ following)
    ≡ unopened (offset + length columns) columns ∷ items_of (offset + length columns + 1) following
closed_front offset [] following no_close no_open =
    ap (λ o. unopened offset [] ∷ items_of o following) (omega arith)
    ∙ ap (λ o. unopened o [] ∷ items_of (offset + length {A = ℕ} [] + 1) following) (omega arith)
closed_front offset (column ∷ columns) following no_close no_open =
    let closes = lacks_cons (byte ")") column columns no_close in
    let opens = lacks_cons (byte "(") column columns no_open in
    let closing = offset + 1 + length columns in
    let items = items_of (closing + 1) following in
    let alone : after_column offset column (unopened closing columns ∷ items)
    ≡ unopened closing (column ∷ columns) ∷ items =
    rw (closes.0, opens.0) (joined (is_blank column) offset column closing columns items) in
    let same : closing ≡ offset + length (column ∷ columns) = omega arith in
    ap (after_column offset column) (closed_front (offset + 1) columns following closes.1 opens.1)
    ∙ alone
    ∙ ap (λ o. unopened o (column ∷ columns) ∷ items_of (o + 1) following) same

-- the columns in front of the first parenthesis are those of a group where it is a `)`
pub closed_cut : (inside columns following : List ℕ) →
    IsCutAtParenthesis inside columns (byte ")" ∷ following) → ClosesFirst inside columns following
closed_cut inside columns following parts = record {
  items = λ offset. ap (items_of offset) parts.whole
      ∙ closed_front offset columns following parts.no_closing parts.no_opening;
  whole = omega (arith, ap length parts.whole, length-append columns (byte ")" ∷ following));
}

-- a `(` in front of columns up to the first `)` makes a group
pub opened_first : {body inside columns following : List ℕ} {column : ℕ} → body ≡ column ∷ inside →
    column ≡ byte "(" →
    ClosesFirst inside columns following → (offset : ℕ) → GroupFirst offset body columns following
opened_first {body} {inside} {columns} {following} {column} whole opens closes offset = record {
  opening = offset;
  after = omega arith;
  items = ap (items_of offset) whole
      ∙ ap (λ m. items_of offset (m ∷ inside)) opens
      ∙ ap (after_opening offset) (closes.items (offset + 1))
      ∙ ap (λ o. group offset columns ∷ items_of o following) (omega arith);
  ends = omega (arith, ap length whole, closes.whole);
}

-- a blank is no parenthesis
pub blank_column : (offset column : ℕ) (items : List Item) →
    is_blank column ≡ true → after_column offset column items ≡ after_blank column items
blank_column offset column items blank =
    let P : ℕ → Type 0 = λ c. after_column offset c items ≡ after_blank c items in
    elim (or_cases (eqb column (byte " ")) (eqb column (byte "\t")) blank) [
      | inl same ↦ subst P (sym (eqb-true column (byte " ") same)) refl
      | inr same ↦ subst P (sym (eqb-true column (byte "\t") same)) refl
    ]

pub nothing_blank : (column : ℕ) (items : List Item) → closes_first items ≡ false →
    after_blank column items ≡ items
nothing_blank column [] open' = refl
nothing_blank column (group at columns ∷ items) open' = refl
nothing_blank column (word first past columns ∷ items) open' = refl
nothing_blank column (unclosed at ∷ items) open' = refl
nothing_blank column (unopened closing columns ∷ items) open' = absurd (cc)

skipped_blanks : (offset : ℕ) (blanks columns : List ℕ) →
    list_all is_blank blanks ≡ true →
    closes_first (items_of (offset + length blanks) columns) ≡ false →
    items_of offset (blanks ++ columns) ≡ items_of (offset + length blanks) columns
skipped_blanks offset [] columns all_blank open' = ap (λ o. items_of o columns) (omega arith)
skipped_blanks offset (blank ∷ blanks) columns all_blank open' =
    let parts = and_parts (is_blank blank) (list_all is_blank blanks) all_blank in
    let next = offset + 1 + length blanks in
    let same : offset + length (blank ∷ blanks) ≡ next = omega arith in
    let still : closes_first (items_of next columns) ≡ false =
    ap (λ o. closes_first (items_of o columns)) (sym same) ∙ open' in
    ap (after_column offset blank) (skipped_blanks (offset + 1) blanks columns parts.1 still)
    ∙ blank_column offset blank (items_of next columns) parts.0
    ∙ nothing_blank blank (items_of next columns) still
    ∙ ap (λ o. items_of o columns) (sym same)

opens_not_closing : (opening : ℕ) (items : List Item) → OpensFirst opening items →
    closes_first items ≡ false
opens_not_closing opening [] opens = absurd opens
opens_not_closing opening (group at columns ∷ items) opens = absurd opens
opens_not_closing opening (word first past columns ∷ items) opens = absurd opens
opens_not_closing opening (unclosed at ∷ items) opens = refl
opens_not_closing opening (unopened closing columns ∷ items) opens = absurd opens

closes_blank : (closing blank : ℕ) (items : List Item) →
    ClosesAt closing items → ClosesAt closing (after_blank blank items)
closes_blank closing blank [] closes = absurd closes
closes_blank closing blank (group at columns ∷ items) closes = absurd closes
closes_blank closing blank (word first past columns ∷ items) closes = absurd closes
closes_blank closing blank (unclosed at ∷ items) closes = absurd closes
closes_blank closing blank (unopened at columns ∷ items) closes = closes

-- blanks in front of a `)` that no `(` opens
closes_blanks : (offset closing : ℕ) (blanks columns : List ℕ) →
    list_all is_blank blanks ≡ true →
    ClosesAt closing (items_of (offset + length blanks) columns) →
    ClosesAt closing (items_of offset (blanks ++ columns))
closes_blanks offset closing [] columns all_blank closes =
    let same : offset + length {A = ℕ} [] ≡ offset = omega arith in
    subst (λ (o : ℕ). ClosesAt closing (items_of o columns)) same closes
closes_blanks offset closing (blank ∷ blanks) columns all_blank closes =
    let parts = and_parts (is_blank blank) (list_all is_blank blanks) all_blank in
    let same : offset + length (blank ∷ blanks) ≡ offset + 1 + length blanks = omega arith in
    let items = items_of (offset + 1) (blanks ++ columns) in
    let following =
    closes_blanks (offset + 1) closing blanks columns parts.1
    (subst (λ (o : ℕ). ClosesAt closing (items_of o columns)) same closes) in
    subst (ClosesAt closing) (sym (blank_column offset blank items parts.0))
    (closes_blank closing blank items following)

-- the body begins as what follows its blanks does
pub begins_following_blanks : (first : Token) (blanks body rest : List ℕ) →
    body ≡ blanks ++ rest → list_all is_blank blanks ≡ true → BeginsWith first rest →
    BeginsWith first body
begins_following_blanks End blanks body rest whole all_blank begins = λ offset.
    let none = begins (offset + length blanks) in
    ap (items_of offset) whole
    ∙ skipped_blanks offset blanks rest all_blank (ap closes_first none) ∙ none
begins_following_blanks (Group columns following) blanks body rest whole all_blank begins = λ offset.
    let one = begins (offset + length blanks) in
    record {
      opening = one.opening;
      after = omega (arith, one.after);
      items = ap (items_of offset) whole
          ∙ skipped_blanks offset blanks rest all_blank (ap closes_first one.items) ∙ one.items;
      ends = omega (arith, one.ends, ap length whole, length-append blanks rest);
    }
begins_following_blanks (Word columns following) blanks body rest whole all_blank begins = λ offset.
    let one = begins (offset + length blanks) in
    record {
      opening = one.opening;
      after = omega (arith, one.after);
      items = ap (items_of offset) whole
          ∙ skipped_blanks offset blanks rest all_blank (ap closes_first one.items) ∙ one.items;
      ends = omega (arith, one.ends, ap length whole, length-append blanks rest);
    }
begins_following_blanks (Unclosed following) blanks body rest whole all_blank begins = λ offset.
    let one = begins (offset + length blanks) in
    let open' = opens_not_closing one.opening (items_of (offset + length blanks) rest) one.items in
    let same = ap (items_of offset) whole ∙ skipped_blanks offset blanks rest all_blank open' in
    record {
      opening = one.opening;
      after = omega (arith, one.after);
      items = subst (OpensFirst one.opening) (sym same) one.items;
      ends = omega (arith, one.ends, ap length whole, length-append blanks rest);
    }
begins_following_blanks (Unopened following) blanks body rest whole all_blank begins = λ offset.
    let one = begins (offset + length blanks) in
    record {
      closing = one.closing;
      after = omega (arith, one.after);
      items = subst (ClosesAt one.closing) (sym (ap (items_of offset) whole))
          (closes_blanks offset one.closing blanks rest all_blank one.items);
      ends = omega (arith, one.ends, ap length whole, length-append blanks rest);
    }

-- what follows the first item is shorter than the body, too
pub shorter_following_blanks : (first : Token) (body rest : List ℕ) →
    length rest ≤ length body → IsShorter first rest → IsShorter first body
shorter_following_blanks End body rest few shorter = tt
shorter_following_blanks (Group columns following) body rest few shorter = omega (arith, shorter)
shorter_following_blanks (Word columns following) body rest few shorter = omega (arith, shorter)
shorter_following_blanks (Unclosed following) body rest few shorter = tt
shorter_following_blanks (Unopened following) body rest few shorter = tt

-- no word and no `)` is first, so a word in front of these items is one of its own
abbrev starts_fresh : List Item → Bool
starts_fresh (word first past columns ∷ items) = false
starts_fresh (unopened closing columns ∷ items) = false
starts_fresh _ = true

fresh_opening : (offset : ℕ) (items : List Item) →
    starts_fresh (after_opening offset items) ≡ true
fresh_opening offset [] = refl
fresh_opening offset (group at columns ∷ items) = refl
fresh_opening offset (word first past columns ∷ items) = refl
fresh_opening offset (unclosed at ∷ items) = refl
fresh_opening offset (unopened closing columns ∷ items) = refl

-- these letters, if there are any, as a word from this offset on in front of items
abbrev word_then : ℕ → ℕ → List ℕ → List Item → List Item
word_then first past [] items = items
word_then first past letters items = word first past letters ∷ items

then_blank : (first past blank : ℕ) (letters : List ℕ) (items : List Item) →
    starts_fresh items ≡ true →
    after_blank blank (word_then first past letters items) ≡ word_then first past letters items
then_blank first past blank (letter ∷ letters) items fresh = refl
then_blank first past blank [] [] fresh = refl
then_blank first past blank [] (group at columns ∷ items) fresh = refl
then_blank first past blank [] (unclosed at ∷ items) fresh = refl
then_blank first past blank [] (word other end columns ∷ items) fresh = absurd (cc)
then_blank first past blank [] (unopened closing columns ∷ items) fresh = absurd (cc)

-- where a word ends that a letter in front of these letters begins
abbrev past_letters : ℕ → ℕ → List ℕ → ℕ
past_letters offset past [] = offset + 1
past_letters offset past letters = past

then_letter : (offset first past letter : ℕ) (letters : List ℕ) (items : List Item) →
    starts_fresh items ≡ true →
    after_letter offset letter (word_then first past letters items)
    ≡ word offset (past_letters offset past letters) (letter ∷ letters) ∷ items
then_letter offset first past letter (other ∷ letters) items fresh = refl
then_letter offset first past letter [] [] fresh = refl
then_letter offset first past letter [] (group at columns ∷ items) fresh = refl
then_letter offset first past letter [] (unclosed at ∷ items) fresh = refl
then_letter offset first past letter [] (word other end columns ∷ items) fresh = absurd (cc)
then_letter offset first past letter [] (unopened closing columns ∷ items) fresh = absurd (cc)

no_letters : (columns : List ℕ) → list_all is_blank columns ≡ true → letters_of columns ≡ []
no_letters [] blank = refl
no_letters (column ∷ columns) blank =
    let parts = and_parts (is_blank column) (list_all is_blank columns) blank in
    rw parts.0 (no_letters columns parts.1)

pub no_solid : (columns : List ℕ) → list_all is_blank columns ≡ true → count_solid columns ≡ 0
no_solid [] blank = refl
no_solid (column ∷ columns) blank = rw blank refl

-- columns that are not blank have letters
record HasLetters (columns : List ℕ) : Type 0 where
  first : ℕ
  others : List ℕ
  are : letters_of columns ≡ first ∷ others

letters_more : (column : ℕ) (columns : List ℕ) (blank : Bool) → is_blank column ≡ blank →
    (blank && list_all is_blank columns) ≡ false →
    (list_all is_blank columns ≡ false → HasLetters columns) → HasLetters (column ∷ columns)
letters_more column columns true is_so some later =
    let found = later some in
    record {
      first = found.first;
      others = found.others;
      are = ap (λ b. cond (not b) (column ∷ letters_of columns) (letters_of columns)) is_so
          ∙ found.are;
    }
letters_more column columns false is_so some later = record {
  first = column;
  others = letters_of columns;
  are = ap (λ b. cond (not b) (column ∷ letters_of columns) (letters_of columns)) is_so;
}

some_letters : (columns : List ℕ) → list_all is_blank columns ≡ false → HasLetters columns
some_letters [] some = absurd (cc)
some_letters (column ∷ columns) some =
    letters_more column columns (is_blank column) refl some (some_letters columns)

-- where the word ends that a letter and columns begin with
past_one : (offset column : ℕ) (columns : List ℕ) (blank : Bool) →
    list_all is_blank columns ≡ blank → is_blank column ≡ false →
    past_letters offset (offset + 1 + count_solid columns) (letters_of columns)
    ≡ offset + count_solid (column ∷ columns)
past_one offset column columns true is_so solid =
    let counted : count_solid (column ∷ columns) ≡ count_solid columns + 1 =
    ap (λ b. cond (b && list_all is_blank columns) 0 (count_solid columns + 1)) solid in
    ap (past_letters offset (offset + 1 + count_solid columns)) (no_letters columns is_so)
    ∙ omega (arith, counted, no_solid columns is_so)
past_one offset column columns false is_so solid =
    let counted : count_solid (column ∷ columns) ≡ count_solid columns + 1 =
    ap (λ b. cond (b && list_all is_blank columns) 0 (count_solid columns + 1)) solid in
    ap (past_letters offset (offset + 1 + count_solid columns)) (some_letters columns is_so).are
    ∙ omega (arith, counted)

-- a column in front of a word, or of blanks
then_column : (blank all : Bool) (offset column : ℕ) (columns : List ℕ) (items : List Item) →
    is_blank column ≡ blank → list_all is_blank columns ≡ all → starts_fresh items ≡ true →
    let later = word_then (offset + 1 + count_blanks columns) (offset + 1 + count_solid columns)
    (letters_of columns) items in
    cond blank (after_blank column later) (after_letter offset column later)
    ≡ word_then (offset + count_blanks (column ∷ columns)) (offset + count_solid (column ∷ columns))
    (letters_of (column ∷ columns)) items
then_column true true offset column columns items is_so all_so fresh =
    let first = offset + 1 + count_blanks columns in
    let past = offset + 1 + count_solid columns in
    let none = no_letters columns all_so in
    let kept : letters_of (column ∷ columns) ≡ letters_of columns =
    ap (λ b. cond (not b) (column ∷ letters_of columns) (letters_of columns)) is_so in
    then_blank first past column (letters_of columns) items fresh
    ∙ ap (λ ls. word_then first past ls items) none
    ∙ sym (ap (λ ls. word_then (offset + count_blanks (column ∷ columns))
    (offset + count_solid (column ∷ columns)) ls items) (kept ∙ none))
then_column true false offset column columns items is_so all_so fresh =
    let first = offset + 1 + count_blanks columns in
    let past = offset + 1 + count_solid columns in
    let kept : letters_of (column ∷ columns) ≡ letters_of columns =
    ap (λ b. cond (not b) (column ∷ letters_of columns) (letters_of columns)) is_so in
    let blanks : count_blanks (column ∷ columns) ≡ count_blanks columns + 1 =
    ap (λ b. cond b (count_blanks columns + 1) 0) is_so in
    let some : list_all is_blank (column ∷ columns) ≡ false =
    ap (λ b. b && list_all is_blank columns) is_so ∙ all_so in
    let solid : count_solid (column ∷ columns) ≡ count_solid columns + 1 =
    ap (λ b. cond b 0 (count_solid columns + 1)) some in
    then_blank first past column (letters_of columns) items fresh
    ∙ ap (λ f. word_then f past (letters_of columns) items) (omega (arith, blanks))
    ∙ ap (λ p. word_then (offset + count_blanks (column ∷ columns)) p (letters_of columns) items)
    (omega (arith, solid))
    ∙ ap (λ ls. word_then (offset + count_blanks (column ∷ columns))
    (offset + count_solid (column ∷ columns)) ls items) (sym kept)
then_column false all offset column columns items is_so all_so fresh =
    let first = offset + 1 + count_blanks columns in
    let past = offset + 1 + count_solid columns in
    let kept : letters_of (column ∷ columns) ≡ column ∷ letters_of columns =
    ap (λ b. cond (not b) (column ∷ letters_of columns) (letters_of columns)) is_so in
    let blanks : count_blanks (column ∷ columns) ≡ 0 =
    ap (λ b. cond b (count_blanks columns + 1) 0) is_so in
    then_letter offset first past column (letters_of columns) items fresh
    ∙ ap (λ p. word offset p (column ∷ letters_of columns) ∷ items)
    (past_one offset column columns all all_so is_so)
    ∙ ap (λ f. word f (offset + count_solid (column ∷ columns)) (column ∷ letters_of columns) ∷ items)
    (omega (arith, blanks))
    ∙ ap (λ ls. word_then (offset + count_blanks (column ∷ columns))
    (offset + count_solid (column ∷ columns)) ls items) (sym kept)

-- columns without a parenthesis are a word, unless they are blank
word_front : (offset : ℕ) (columns rest : List ℕ) → lacks (byte ")") columns ≡ true →
    lacks (byte "(") columns ≡ true →
    starts_fresh (items_of (offset + length columns) rest) ≡ true →
    items_of offset (columns ++ rest)
    ≡ word_then (offset + count_blanks columns) (offset + count_solid columns) (letters_of columns)
    (items_of (offset + length columns) rest)
word_front offset [] rest no_close no_open fresh =
    ap (λ o. items_of o rest) (omega arith)
word_front offset (column ∷ columns) rest no_close no_open fresh =
    let closes = lacks_cons (byte ")") column columns no_close in
    let opens = lacks_cons (byte "(") column columns no_open in
    let same : offset + length (column ∷ columns) ≡ offset + 1 + length columns = omega arith in
    let items = items_of (offset + 1 + length columns) rest in
    let still : starts_fresh items ≡ true =
    ap (λ o. starts_fresh (items_of o rest)) (sym same) ∙ fresh in
    let later = word_then (offset + 1 + count_blanks columns) (offset + 1 + count_solid columns)
    (letters_of columns) items in
    let alone : after_column offset column later
    ≡ cond (is_blank column) (after_blank column later) (after_letter offset column later) =
    rw (closes.0, opens.0) refl in
    ap (after_column offset column)
    (word_front (offset + 1) columns rest closes.1 opens.1 still)
    ∙ alone
    ∙ then_column (is_blank column) (list_all is_blank columns) offset column columns items refl refl
    still
    ∙ ap (λ o. word_then (offset + count_blanks (column ∷ columns))
    (offset + count_solid (column ∷ columns)) (letters_of (column ∷ columns)) (items_of o rest))
    (sym same)

rest_fresh : (offset : ℕ) (rest : List ℕ) → begins_with_none rest ≡ true →
    begins_with_closing rest ≡ false → starts_fresh (items_of offset rest) ≡ true
rest_fresh offset [] none closing = refl
rest_fresh offset (column ∷ columns) none closing =
    let opening =
    eqb-true column (byte "(")
    (or_true_left (eqb column (byte "(")) (eqb column (byte ")")) none closing) in
    let items = items_of (offset + 1) columns in
    let P : ℕ → Type 0 = λ c. starts_fresh (after_column offset c items) ≡ true in
    subst P (sym opening) (fresh_opening offset items)

no_word : (rest : List ℕ) → begins_with_none rest ≡ true → begins_with_closing rest ≡ false →
    begins_a_word rest ≡ true → ⊥
no_word [] none closing begins = cc
no_word (column ∷ columns) none closing begins =
    let opening = or_true_left (eqb column (byte "(")) (eqb column (byte ")")) none closing in
    let solid = and_parts (not (is_blank column)) (not (eqb column (byte "("))) begins in
    let other = not-true (eqb column (byte "(")) solid.1 in
    cc

-- the word that a body begins with, at each offset
pub record IsWordFirst (body columns rest : List ℕ) : Type 0 where
  pub each : (offset : ℕ) → WordFirst offset body columns rest
  pub shorter : length rest < length body

pub word_first : (body columns rest : List ℕ) → IsCutAtParenthesis body columns rest →
    begins_a_word body ≡ true → begins_with_closing rest ≡ false → IsWordFirst body columns rest
word_first body [] rest parts begins closing =
    absurd (no_word rest parts.rest_begins closing (ap begins_a_word (sym parts.whole) ∙ begins))
word_first body (column ∷ columns) rest parts begins closing =
    let solid =
    and_parts (not (is_blank column)) (not (eqb column (byte "(")))
    (ap begins_a_word (sym parts.whole) ∙ begins) in
    let letters : letters_of (column ∷ columns) ≡ column ∷ letters_of columns = rw solid.0 refl in
    let not_blank = not-true (is_blank column) solid.0 in
    let blanks : count_blanks (column ∷ columns) ≡ 0 =
    ap (λ b. cond b (count_blanks columns + 1) 0) not_blank in
    record {
      each = λ offset.
          let next = offset + length (column ∷ columns) in
          let fresh = rest_fresh next rest parts.rest_begins closing in
          let first = offset + count_blanks (column ∷ columns) in
          let past = offset + count_solid (column ∷ columns) in
          let begins_at : first ≡ offset = omega (arith, blanks) in
          record {
            opening = offset;
            after = omega arith;
            items = ap (items_of offset) parts.whole
                ∙ word_front offset (column ∷ columns) rest parts.no_closing parts.no_opening fresh
                ∙ ap (λ l. word_then first past l (items_of next rest)) letters
                ∙ ap (λ l. word first past l ∷ items_of next rest) (sym letters)
                ∙ ap (λ f. word f past (letters_of (column ∷ columns)) ∷ items_of next rest) begins_at;
            ends = omega (arith, ap length parts.whole, length-append (column ∷ columns) rest);
          };
      shorter = omega (arith, ap length parts.whole, length-append (column ∷ columns) rest);
    }

-- columns that a `)` follows are no word
pub closing_first : (body columns rest : List ℕ) → IsCutAtParenthesis body columns rest →
    begins_with_closing rest ≡ true → (offset : ℕ) → UnopenedFirst offset body rest
closing_first body columns [] parts closing offset = absurd (cc)
closing_first body columns (column ∷ rest) parts closing offset =
    let whole : body ≡ columns ++ byte ")" ∷ rest =
    parts.whole ∙ ap (λ c. columns ++ c ∷ rest) (eqb-true column (byte ")") closing) in
    let items = ap (items_of offset) whole
    ∙ closed_front offset columns rest parts.no_closing parts.no_opening in
    record {
      closing = offset + length columns;
      after = omega arith;
      items = subst (ClosesAt (offset + length columns)) (sym items) refl;
      ends = omega (arith, ap length parts.whole, length-append columns (column ∷ rest));
    }

-- a `(` that no `)` closes is first
pub unclosed_first : {body inside : List ℕ} {column : ℕ} → body ≡ column ∷ inside →
    column ≡ byte "(" → IsUnclosed inside → (offset : ℕ) → UnclosedFirst offset body body
unclosed_first {body} {inside} {column} whole opens unclosed' offset =
    let items : items_of offset body ≡ after_opening offset (items_of (offset + 1) inside) =
    ap (items_of offset) whole ∙ ap (λ m. items_of offset (m ∷ inside)) opens in
    record {
      opening = offset;
      after = omega arith;
      items = subst (OpensFirst offset) (sym items) (unclosed' offset);
      ends = refl;
    }
