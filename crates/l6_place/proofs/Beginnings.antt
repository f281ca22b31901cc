-- Where the cards of a deck begin.
use Rattle.std.proofs.Common.{◌≡◌, ℕ, zero, suc, ◌+◌, ◌-◌, ◌≤◌, Bool, true, false, cond, List, [], ◌∷◌, length, drop, Option, Some, None, arith, refl, sym, ap, ◌∙◌, subst}
use Rattle.std.specs.Prelude.{◌==◌, slice_get}
use Rattle.std.specs.Str.{byte}
use Rattle.l6_word.specs.Lines.{lines_of}
use Rattle.std.specs.List.{onto_first}
use Rattle.l6_place.specs.Spot.{is_last_of_end, units_of}
use Rattle.l6_place.specs.declared.spot.Spot.{Spot}
use Rattle.l6_place.specs.declared.starts.CardStart.{CardStart}
use Rattle.l6_place.specs.Cards.{before_line, before_column, card_start, first_of, line_spot, next_spot, spot_after, spot_of}
use Rattle.l6_place.specs.inner.Starts.{starts_after, starts_of, line_after, IsStartOf, StartsAt}

-- a start that is found after so many bytes, on this line, with so many more before it
pub record AtStart (offset line before : ℕ) (rest : List ℕ) (start : CardStart) : Type 0 where
  pub offset_is : start.offset ≡ offset + before
  pub spot : (character : ℕ) → spot_after (record { line = line; character = character }) before rest ≡ line_spot start.line
  pub within : before ≤ length rest
  pub lines : start.line ≤ line + before

-- the same, with one byte more in front
later : (last : Bool) (first : ℕ) (rest : List ℕ) (offset line before : ℕ) (start : CardStart) →
    is_last_of_end first rest ≡ last → AtStart (suc offset) (cond last (suc line) line) before rest start →
    AtStart offset line (suc before) (first ∷ rest) start
later true first rest offset line before start is at = record {
  offset_is = omega (arith, at.offset_is);
  spot = λ character.
      ap (λ b. spot_after (cond b (line_spot (suc line))
      (record { line = line; character = character + units_of first })) before rest) is ∙ at.spot 0;
  within = omega (arith, at.within);
  lines = omega (arith, at.lines);
}
later false first rest offset line before start is at = record {
  offset_is = omega (arith, at.offset_is);
  spot = λ character.
      ap (λ b. spot_after (cond b (line_spot (suc line))
      (record { line = line; character = character + units_of first })) before rest) is
      ∙ at.spot (character + units_of first);
  within = omega (arith, at.within);
  lines = omega (arith, at.lines);
}

-- a line feed is the last byte of an end
feed_ends : (first : ℕ) (rest : List ℕ) → (first == byte "\n") ≡ true → is_last_of_end first rest ≡ true
feed_ends first rest feed = rw feed refl

-- the start after a line feed
at_feed : (first : ℕ) (rest : List ℕ) (offset line : ℕ) (start : CardStart) →
    (first == byte "\n") ≡ true →
    record { offset = suc offset; line = line_after line first rest } ≡ start →
    AtStart offset line 1 (first ∷ rest) start
at_feed first rest offset line start feed is =
    let ends = feed_ends first rest feed in
    let place : line_after line first rest ≡ suc line = ap (λ b. cond b (suc line) line) ends in
    let lines : start.line ≡ suc line = ap (λ (s : CardStart). s.line) (sym is) ∙ place in
    record {
      offset_is = ap (λ (s : CardStart). s.offset) (sym is) ∙ omega arith;
      spot = λ character.
          ap (λ b. cond b (line_spot (suc line))
          (record { line = line; character = character + units_of first })) ends
          ∙ ap line_spot (sym lines);
      within = omega arith;
      lines = omega (arith, lines);
    }

abbrev Finds : List ℕ → ℕ → Type 0
Finds rest offset =
    (line n : ℕ) (start : CardStart) → slice_get (starts_after offset line rest) n ≡ Some start →
    AtStart offset line (before_line (suc n) rest) rest start

found_by : (feed : Bool) (first : ℕ) (rest : List ℕ) (offset line n : ℕ) (start : CardStart) →
    (first == byte "\n") ≡ feed → Finds rest (suc offset) →
    slice_get (cond feed
    (record { offset = suc offset; line = line_after line first rest }
    ∷ starts_after (suc offset) (line_after line first rest) rest)
    (starts_after (suc offset) (line_after line first rest) rest)) n ≡ Some start →
    AtStart offset line (suc (cond feed (before_line n rest) (before_line (suc n) rest))) (first ∷ rest) start
found_by true first rest offset line zero start is others at =
    at_feed first rest offset line start is (cc)
found_by true first rest offset line (suc n) start is others at =
    later (is_last_of_end first rest) first rest offset line (before_line (suc n) rest) start refl
    (others (line_after line first rest) n start at)
found_by false first rest offset line n start is others at =
    later (is_last_of_end first rest) first rest offset line (before_line (suc n) rest) start refl
    (others (line_after line first rest) n start at)

found : (rest : List ℕ) (offset : ℕ) → Finds rest offset
found [] offset line n start at = absurd (cc)
found (first ∷ rest) offset line n start at =
    subst (λ b. AtStart offset line (suc (cond b (before_line n rest) (before_line (suc n) rest)))
    (first ∷ rest) start) refl
    (found_by (first == byte "\n") first rest offset line n start refl (found rest (suc offset)) at)

-- without a start the line is past the last one
lost_by : (feed : Bool) (first : ℕ) (rest : List ℕ) (offset line n : ℕ) →
    ((line n : ℕ) → slice_get (starts_after (suc offset) line rest) n ≡ None →
    before_line (suc n) rest ≡ length rest) →
    slice_get (cond feed
    (record { offset = suc offset; line = line_after line first rest }
    ∷ starts_after (suc offset) (line_after line first rest) rest)
    (starts_after (suc offset) (line_after line first rest) rest)) n ≡ None →
    suc (cond feed (before_line n rest) (before_line (suc n) rest)) ≡ suc (length rest)
lost_by true first rest offset line zero others none = absurd (cc)
lost_by true first rest offset line (suc n) others none =
    ap suc (others (line_after line first rest) n none)
lost_by false first rest offset line n others none =
    ap suc (others (line_after line first rest) n none)

lost : (rest : List ℕ) (offset line n : ℕ) → slice_get (starts_after offset line rest) n ≡ None →
    before_line (suc n) rest ≡ length rest
lost [] offset line n none = refl
lost (first ∷ rest) offset line n none =
    lost_by (first == byte "\n") first rest offset line n (lost rest (suc offset)) none

-- a start of a deck is that of its card, and without one there is no such card
pub start_of : (deck : List ℕ) (n : ℕ) (start : CardStart) →
    slice_get (starts_of deck) n ≡ Some start → IsStartOf deck (suc n) start
start_of deck zero start at =
    let is : start ≡ record { offset = 0; line = 0 } = cc in
    subst (λ (s : CardStart). IsStartOf deck 1 s) (sym is)
    (record { offset = refl; spot = refl; within = omega arith; lines = omega arith })
start_of deck (suc n) start at =
    let it = found deck 0 0 n start at in
    let same : start.offset ≡ before_line (suc n) deck = omega (arith, it.offset_is) in
    record {
      offset = same;
      spot = ap (λ (k : ℕ). spot_after (line_spot 0) k deck) same ∙ it.spot 0;
      within = omega (arith, same, it.within);
      lines = omega (arith, same, it.lines);
    }

pub no_start : (deck : List ℕ) (n : ℕ) → slice_get (starts_of deck) n ≡ None →
    before_line n deck ≡ length deck
no_start deck zero none = absurd (cc)
no_start deck (suc n) none = lost deck 0 0 n none

-- the place after two parts of a text, one after the other
pub spot_split : (count more : ℕ) (spot : Spot) (text : List ℕ) →
    spot_after spot (count + more) text ≡ spot_after (spot_after spot count text) more (drop count text)
spot_split zero more spot text =
    let all : 0 + more ≡ more = omega arith in
    ap (λ (n : ℕ). spot_after spot n text) all
spot_split (suc count) zero spot [] =
    let all : suc count + 0 ≡ suc count = omega arith in
    ap (λ (n : ℕ). spot_after spot n []) all
spot_split (suc count) (suc more) spot [] =
    let all : suc count + suc more ≡ suc (count + suc more) = omega arith in
    ap (λ (n : ℕ). spot_after spot n []) all
spot_split (suc count) more spot (first ∷ rest) =
    let all : suc count + more ≡ suc (count + more) = omega arith in
    ap (λ (n : ℕ). spot_after spot n (first ∷ rest)) all
    ∙ spot_split count more (next_spot spot first rest) rest

-- the place of a column, from where its card begins
pub spot_from : (deck : List ℕ) (card column : ℕ) (start : CardStart) → IsStartOf deck card start →
    start.offset ≤ before_column deck card column →
    spot_after (line_spot start.line) (before_column deck card column - start.offset) (drop start.offset deck)
    ≡ spot_of deck card column
spot_from deck card column start is within =
    let end = before_column deck card column in
    let all : start.offset + (end - start.offset) ≡ end = omega (arith, within) in
    ap (λ (s : Spot). spot_after s (end - start.offset) (drop start.offset deck)) (sym is.spot)
    ∙ sym (spot_split start.offset (end - start.offset) (line_spot 0) deck)
    ∙ ap (λ (n : ℕ). spot_after (line_spot 0) n deck) all

-- what is found at an index
pub starts_at : (deck : List ℕ) (card index : ℕ) (found : Option CardStart) → card ≡ suc index →
    slice_get (starts_of deck) index ≡ found → StartsAt deck card found
starts_at deck card index None is at =
    subst (λ (n : ℕ). StartsAt deck n None) (sym is) (no_start deck index at)
starts_at deck card index (Some start) is at =
    subst (λ (n : ℕ). StartsAt deck n (Some start)) (sym is) (start_of deck index start at)

-- a line is no longer than its text
first_fits : (first : ℕ) (lines : List (List ℕ)) (count : ℕ) → length (first_of lines) ≤ count →
    length (first_of (onto_first first lines)) ≤ suc count
first_fits first [] count few = omega (arith, few)
first_fits first (line ∷ lines) count few = omega (arith, few)

line_fits_by : (feed : Bool) (first : ℕ) (rest : List ℕ) → length (first_of (lines_of rest)) ≤ length rest →
    length (first_of (cond feed ([] ∷ lines_of rest) (onto_first first (lines_of rest)))) ≤ suc (length rest)
line_fits_by true first rest few = omega arith
line_fits_by false first rest few = first_fits first (lines_of rest) (length rest) few

pub line_fits : (text : List ℕ) → length (first_of (lines_of text)) ≤ length text
line_fits [] = omega arith
line_fits (first ∷ rest) = line_fits_by (first == byte "\n") first rest (line_fits rest)

pub found_fits : (text line : List ℕ) (others : List (List ℕ)) → lines_of text ≡ line ∷ others →
    length line ≤ length text
found_fits text line others is =
    subst (λ (lines : List (List ℕ)). length (first_of lines) ≤ length text) is (line_fits text)
