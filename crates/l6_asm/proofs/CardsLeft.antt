-- The lines of a deck's cards that are not listed yet, and those of the listing.
use Rattle.std.proofs.Common.{◌≡◌, ℕ, zero, suc, ◌+◌, ◌<◌, Bool, true, false, if◌then◌else◌, List, [], ◌∷◌, ◌++◌, length, map, drop, refl, sym, ap, ◌∙◌, Some, arith, append_assoc, length-append}
use Rattle.std.specs.List.{flat_map}
use Rattle.l6_prog.specs.Statement.{Parts}
use Rattle.l6_image.specs.Image.{statement_words}
use Rattle.l6_card.specs.Card.{columns_of}
use Rattle.l6_card.specs.Role.{role_of}
use Rattle.l6_asm.specs.Listing.{card_line, cards_listed, goes_on, is_last, number_on, statement_lines, word_line}
use Rattle.l6_asm.specs.inner.CardsLeft.{cards_left, first_words, other_words, text_left}

either : (one : Bool) (x y z w : List ℕ) → x ≡ y → z ≡ w →
    (if one then x else z) ≡ (if one then y else w)
either true x y z w first second = first
either false x y z w first second = second

drop_none : (count : ℕ) → drop {A = Parts} count [] ≡ []
drop_none zero = refl
drop_none (suc count) = refl

-- the first words that are left are those of the next statement
first_words_left : (program : List Parts) (over : ℕ) →
    flat_map word_line (first_words (map statement_words (drop over program)))
    ≡ statement_lines program over
first_words_left [] zero = refl
first_words_left [] (suc over) = refl
first_words_left (statement ∷ program) zero = refl
first_words_left (statement ∷ program) (suc over) = first_words_left program over

other_words_left : (program : List Parts) (over : ℕ) →
    other_words (map statement_words (drop over program))
    ≡ map statement_words (drop (over + 1) program)
other_words_left [] over =
    ap (λ ps. other_words (map statement_words ps)) (drop_none over)
    ∙ sym (ap (map statement_words) (drop_none (over + 1)))
other_words_left (statement ∷ program) zero = refl
other_words_left (statement ∷ program) (suc over) =
    let next : suc (over + 1) ≡ suc over + 1 = omega arith in
    other_words_left program over
    ∙ ap (λ n. map statement_words (drop n (statement ∷ program))) next

-- the cards that are left are listed with the words of the statements that are left
pub left_listed : (program : List Parts) (card over : ℕ) (lines : List (List ℕ)) →
    cards_left (map statement_words (drop over program)) card over lines
    ≡ cards_listed program (card + 1) over lines
left_listed program card over [] = refl
left_listed program card over (line ∷ lines) =
    ap (λ others. card_line (Some (card + 1)) (number_on (role_of line) over) (columns_of line) ++ others)
    (either (is_last (role_of line) (goes_on lines)) _ _ _ _
    (ap (λ words. words ++ cards_left (other_words (map statement_words (drop over program)))
    (card + 1) (over + 1) lines) (first_words_left program over)
    ∙ ap (λ words. statement_lines program over ++ cards_left words (card + 1) (over + 1) lines)
    (other_words_left program over)
    ∙ ap (λ others. statement_lines program over ++ others)
    (left_listed program (card + 1) (over + 1) lines))
    (left_listed program (card + 1) over lines))

-- the line of the next word is added to a text
pub word_added : (text more : List ℕ) (word : ℕ) (words following others : List ℕ) →
    words ≡ word ∷ following → more ≡ text ++ word_line word →
    text ++ (flat_map word_line words ++ others)
    ≡ more ++ (flat_map word_line following ++ others)
word_added text more word words following others are added =
    let rest : List ℕ = flat_map word_line following in
    ap (λ ws. text ++ (flat_map word_line ws ++ others)) are
    ∙ ap (λ t. text ++ t) (append_assoc (word_line word) rest others)
    ∙ sym (append_assoc text (word_line word) (rest ++ others))
    ∙ ap (λ t. t ++ (rest ++ others)) (sym added)

-- the line of a card is added to a text, by whether it is the last one of its statement
module _ (text more words : List ℕ) (statements : List (List ℕ)) (card over : ℕ) (line : List ℕ)
    (all lines : List (List ℕ)) (none : words ≡ []) (are : all ≡ line ∷ lines)
    (added : more ≡ text ++ card_line (Some (card + 1)) (number_on (role_of line) over)
    (columns_of line)) where
  card-added : (following : List ℕ) →
      (if is_last (role_of line) (goes_on lines)
      then flat_map word_line (first_words statements)
      ++ cards_left (other_words statements) (card + 1) (over + 1) lines
      else cards_left statements (card + 1) over lines) ≡ following →
      text ++ text_left words statements card over all ≡ more ++ following
  card-added following is =
      let shown : List ℕ =
      card_line (Some (card + 1)) (number_on (role_of line) over) (columns_of line) in
      ap (λ ws. text ++ text_left ws statements card over all) none
      ∙ ap (λ cs. text ++ cards_left statements card over cs) are
      ∙ ap (λ t. text ++ (shown ++ t)) is
      ∙ sym (append_assoc text shown following)
      ∙ ap (λ t. t ++ following) (sym added)

  pub last-added : is_last (role_of line) (goes_on lines) ≡ true →
      text ++ text_left words statements card over all
      ≡ more ++ text_left (first_words statements) (other_words statements) (card + 1) (over + 1) lines
  last-added is = card-added _ (rw is refl)

  pub other-added : is_last (role_of line) (goes_on lines) ≡ false →
      text ++ text_left words statements card over all
      ≡ more ++ text_left words statements (card + 1) over lines
  other-added is = card-added _ (rw (is, none) refl)

-- a text that is longer leaves less
pub less_left : (text more left less : List ℕ) → text ++ left ≡ more ++ less →
    length text < length more → length less < length left
less_left text more left less same longer =
    omega (arith, ap length same, length-append text left, length-append more less, longer)
