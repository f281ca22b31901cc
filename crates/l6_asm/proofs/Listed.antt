-- Each statement that a deck spells is listed.
use Rattle.std.proofs.Common.{◌≡◌, ℕ, ◌+◌, Bool, true, false, not, if◌then◌else◌, List, [], ◌∷◌, ◌++◌, length, Ok, refl, ap, sym, add-one, arith, length-append}
use Rattle.l6_word.specs.Lines.{lines_of}
use Rattle.l6_prog.specs.Statement.{plain_done}
use Rattle.l6_card.specs.declared.role.Role.{Role}
use Rattle.l6_card.specs.Card.{Body, Card, skipped, plain, labelled, continued, unknown, card_of, cards_from, columns_of}
use Rattle.l6_card.specs.ReadsAs.{CardsDenote, continuations}
use Rattle.l6_card.specs.Role.{role_in, role_of}
use Rattle.l6_card.specs.Statement.{DeckStatementParts}
use Rattle.l6_asm.specs.Assembled.{Assembled}
use Rattle.l6_asm.specs.Labels.{labels_of}
use Rattle.l6_asm.specs.Resolution.{each_made, statement_of, statements_of}
use Rattle.l6_asm.specs.Spells.{assembled}
use Rattle.l6_asm.specs.Listing.{goes_on_with, goes_on, is_last, over_following, EachIsListed}
use Rattle.l6_asm.proofs.Labels.{went_on}
use Rattle.l6_asm.proofs.Makings.{each_made-length}

-- a card's number and its offset do not change its role
same_role : (comment blank plus letter : Bool) (a b c x y z : Body) (l m : List ℕ) (n k : ℕ) →
    role_in (if comment then skipped else if blank then plain a else if plus then continued b
    else if letter then labelled l c else unknown n)
    ≡ role_in (if comment then skipped else if blank then plain x else if plus then continued y
    else if letter then labelled m z else unknown k)
same_role true blank plus letter a b c x y z l m n k = refl
same_role false true plus letter a b c x y z l m n k = refl
same_role false false true letter a b c x y z l m n k = refl
same_role false false false true a b c x y z l m n k = refl
same_role false false false false a b c x y z l m n k = refl

role_anywhere : (number offset : ℕ) (columns : List ℕ) →
    role_in (card_of number offset columns) ≡ role_in (card_of 1 0 columns)
role_anywhere number offset [] = refl
role_anywhere number offset (column ∷ columns) = same_role _ _ _ _ _ _ _ _ _ _ _ _ _ _

-- 1 for a statement that goes on, and else 0
abbrev going : Bool → ℕ
going true = 1
going false = 0

-- a first card begins one statement, which is over with it or goes on
first_counts : (more : Bool) (following : ℕ → ℕ) (count all over : ℕ) → count + 1 ≡ all →
    ((n : ℕ) → following n ≡ n + going more + count) →
    following (if not more then over + 1 else over) ≡ over + 0 + all
first_counts true following count all over one counts = omega (arith, one, counts over)
first_counts false following count all over one counts = omega (arith, one, counts (over + 1))

-- with a further one the statement that goes on is over, or goes on
further_counts : (more : Bool) (following : ℕ → ℕ) (count over : ℕ) →
    ((n : ℕ) → following n ≡ n + going more + count) →
    following (if not more then over + 1 else over) ≡ over + 1 + count
further_counts true following count over counts = omega (arith, counts over)
further_counts false following count over counts = omega (arith, counts (over + 1))

-- what the cards after a card count, for all that they may say
abbrev Counts : List Card → List (List ℕ) → Type 0
Counts cards lines =
    (over : ℕ) (written : List DeckStatementParts) → CardsDenote cards written →
    over_following over lines ≡ over + going (goes_on lines) + length written

card_counts : (card : Card) (cards : List Card) (role : Role) (lines : List (List ℕ)) (over : ℕ)
    (written : List DeckStatementParts) → role_in card ≡ role → Counts cards lines →
    CardsDenote (card ∷ cards) written →
    over_following (if is_last role (goes_on lines) then over + 1 else over) lines
    ≡ over + going (goes_on_with role (goes_on lines)) + length written
card_counts skipped cards role lines over written is counts denote =
    rw (sym is) (counts over written denote)
card_counts (plain body) cards role lines over [] is counts denote = absurd denote
card_counts (plain body) cards role lines over (one ∷ written) is counts denote =
    rw (sym is) (first_counts (goes_on lines) (λ n. over_following n lines) (length written) _ over
    (add-one (length written)) (λ n. counts n written denote.1))
card_counts (labelled columns body) cards role lines over [] is counts denote = absurd denote
card_counts (labelled columns body) cards role lines over (one ∷ written) is counts denote =
    rw (sym is) (first_counts (goes_on lines) (λ n. over_following n lines) (length written) _ over
    (add-one (length written)) (λ n. counts n written denote.1))
card_counts (continued body) cards role lines over written is counts denote =
    rw (sym is) (further_counts (goes_on lines) (λ n. over_following n lines) (length written) over
    (λ n. counts n written denote))
card_counts (unknown number) cards role lines over written is counts denote = absurd denote

cards_count : (number offset : ℕ) (lines : List (List ℕ)) →
    Counts (cards_from number offset lines) lines
cards_count number offset [] over [] denote = omega arith
cards_count number offset [] over (one ∷ written) denote = absurd denote
cards_count number offset (line ∷ lines) over written denote =
    card_counts (card_of number offset (columns_of line))
    (cards_from (number + 1) (offset + length line + 1) lines) (role_of line) lines over written
    (role_anywhere number offset (columns_of line))
    (cards_count (number + 1) (offset + length line + 1) lines) denote

-- where no card continues a statement before the first, none goes on there
card_begins : (card : Card) (cards : List Card) (role : Role) (lines : List (List ℕ)) →
    role_in card ≡ role → (continuations cards ≡ 0 → goes_on lines ≡ false) →
    continuations (card ∷ cards) ≡ 0 → goes_on_with role (goes_on lines) ≡ false
card_begins skipped cards role lines is begins none = rw (sym is) (begins none)
card_begins (plain body) cards role lines is begins none = rw (sym is) refl
card_begins (labelled columns body) cards role lines is begins none = rw (sym is) refl
card_begins (continued body) cards role lines is begins none = absurd (omega (arith, none))
card_begins (unknown number) cards role lines is begins none = rw (sym is) refl

cards_begin : (number offset : ℕ) (lines : List (List ℕ)) →
    continuations (cards_from number offset lines) ≡ 0 → goes_on lines ≡ false
cards_begin number offset [] none = refl
cards_begin number offset (line ∷ lines) none =
    card_begins (card_of number offset (columns_of line))
    (cards_from (number + 1) (offset + length line + 1) lines) (role_of line) lines
    (role_anywhere number offset (columns_of line))
    (cards_begin (number + 1) (offset + length line + 1) lines) none

-- a program has one statement more than its deck wrote
one_is_added : (written : List DeckStatementParts) (assembly : Assembled) →
    assembled written ≡ Ok assembly → length assembly.program ≡ length written + 1
one_is_added written assembly whole =
    let labelled = went_on (labels_of written) _ assembly whole in
    let stated = went_on (statements_of labelled.0 written) _ assembly labelled.2 in
    let made = went_on (each_made (statement_of labelled.0) written) _ stated.0 stated.1 in
    let program : assembly.program ≡ made.0 ++ plain_done ∷ [] = cc (stated.2, made.2) in
    let count = each_made-length (statement_of labelled.0) written made.0 made.1 in
    omega (arith, ap length program, length-append made.0 (plain_done ∷ []), count)

pub each_is_listed : EachIsListed
each_is_listed deck assembly spells =
    let counted = cards_count 1 0 (lines_of deck) 0 spells.written spells.reads.cards in
    let begun = cards_begin 1 0 (lines_of deck) spells.reads.begins in
    let none : going (goes_on (lines_of deck)) ≡ 0 = ap going begun in
    omega (arith, counted, none, one_is_added spells.written assembly spells.whole)
