-- The characters of words.
use Rattle.std.proofs.Common.{◌≡◌, ℕ, ◌<◌, List, [], ◌∷◌, length, Bool, true, false, cond, Some, None, Err, refl, ap, arith, filter, map}
use Rattle.std.specs.Prelude.{not}
use Rattle.std.proofs.lemmas.Bool.{lt-leb}
use Rattle.std.proofs.lemmas.Grind.{common_steps}
use Rattle.l6_word.specs.Code.{character_of}
use Rattle.l6_group.specs.Character.{is_blank, spelled}
use Rattle.l6_group.specs.Numerals.{most_label_characters}
use Rattle.l6_group.specs.Spelling.{find_spelled}
use Rattle.l6_group.specs.Word.{exit_from, label_exit, plain_exits, condition_from}
use Rattle.l6_card.specs.DeckFault.{form}
use Rattle.l6_card.specs.inner.StatementBuilder.{StatementBuilder, Phase, New, Worded, Tested, Open, Closed, with_rest, with_word_in, with_placed, phase_of}
use Rattle.l6_card.specs.inner.Token.{letters_of}

-- what passes a test once passes it again
kept_step : (p : ℕ → Bool) (x : ℕ) (xs : List ℕ) (passes : Bool) → p x ≡ passes →
    filter p (filter p xs) ≡ filter p xs →
    filter p (cond passes (x ∷ filter p xs) (filter p xs)) ≡ cond passes (x ∷ filter p xs)
    (filter p xs)
kept_step p x xs true same kept = rw same (ap (λ ys. x ∷ ys) kept)
kept_step p x xs false same kept = kept

kept_twice : (p : ℕ → Bool) (xs : List ℕ) → filter p (filter p xs) ≡ filter p xs
kept_twice p [] = refl
kept_twice p (x ∷ xs) = kept_step p x xs (p x) refl (kept_twice p xs)

-- a word spells what its columns spell, since blanks are left out anyway
pub spelled_letters : (columns : List ℕ) → spelled (letters_of columns) ≡ spelled columns
spelled_letters columns = ap (map character_of) (kept_twice (λ given. not (is_blank given)) columns)

no_plain_exit : (characters : List ℕ) → most_label_characters < length characters →
    find_spelled plain_exits characters ≡ None
no_plain_exit characters long = grind (arith, common_steps)

no_label : (characters : List ℕ) → most_label_characters < length characters →
    label_exit characters ≡ None
no_label characters long =
    let many = lt-leb (length characters) most_label_characters long in
    rw many refl

-- more characters than a label may have are no exit
long_exit : (characters : List ℕ) → most_label_characters < length characters →
    exit_from characters ≡ None
long_exit characters long = rw (no_plain_exit characters long, no_label characters long) refl

long_then : (is_then : Bool) (card : ℕ) (builder : StatementBuilder) (following : List ℕ) →
    most_label_characters < length following →
    with_rest card builder (cond is_then (Some following) None) ≡ Err (form card)
long_then false card builder following long = refl
long_then true card builder [] long = absurd (omega arith)
long_then true card builder (first ∷ rest) long =
    ap (with_placed card builder Closed) (long_exit (first ∷ rest) long)

-- a word longer than THEN and a label has no reading
pub long_word : (phase : Phase) (card : ℕ) (builder : StatementBuilder) (characters : List ℕ) →
    10 < length characters →
    with_word_in phase card builder characters ≡ Err (form card)
long_word New card builder characters long =
    ap (with_placed card builder (phase_of (condition_from characters)))
    (long_exit characters (omega arith))
long_word Open card builder characters long =
    ap (with_placed card builder Closed) (long_exit characters (omega arith))
long_word Tested card builder [] long = absurd (omega arith)
long_word Tested card builder (t ∷ []) long = absurd (omega arith)
long_word Tested card builder (t ∷ h ∷ []) long = absurd (omega arith)
long_word Tested card builder (t ∷ h ∷ e ∷ []) long = absurd (omega arith)
long_word Tested card builder (t ∷ h ∷ e ∷ n ∷ following) long =
    long_then _ card builder following (omega arith)
long_word (Worded condition) card builder characters long = refl
long_word Closed card builder characters long = refl
