-- How many columns elements have.
use Rattle.std.proofs.Common.{◌≡◌, ℕ, ◌+◌, ◌≤◌, ◌<◌, List, [], ◌∷◌, length, map, filter, Bool, true, false, not, cond, Option, Some, None, unwrap_or, refl, ap, sym, ◌∙◌, subst, arith, codes}
use Rattle.std.specs.List.{onto_first}
use Rattle.std.specs.Option.{option_and_then}
use Rattle.std.specs.Str.{bytes_eq}
use Rattle.std.proofs.lemmas.Slice.Eq.{bytes_eq-Decides}
use Rattle.l6_word.specs.Code.{code_of, character_of}
use Rattle.l6_group.specs.Character.{is_blank, spelled}
use Rattle.l6_group.specs.Element.{is_comma, elements_of}
use Rattle.l6_group.specs.Number.{onto_read, codes_of, print_text_from, print_text_of}
use Rattle.l6_group.specs.Spelling.{Line, find_spelled}

-- how many columns elements have, each with a comma after it
abbrev pub columns_in : List (List ℕ) → ℕ
columns_in [] = 0
columns_in (element ∷ elements) = length element + 1 + columns_in elements

-- a column more is a comma, after which an element begins, or belongs to the first element
element_more : (is_mark : Bool) (column count : ℕ) (parts : List (List ℕ)) →
    columns_in parts ≡ count + 1 →
    columns_in (cond is_mark ([] ∷ parts) (onto_first column parts)) ≡ count + 1 + 1
element_more true column count parts so_far = omega (arith, so_far)
element_more false column count [] so_far = absurd (omega (arith, so_far))
element_more false column count (part ∷ parts) so_far = omega (arith, so_far)

-- no comma comes after the last element of columns
pub columns_elements : (columns : List ℕ) → columns_in (elements_of columns) ≡ length columns + 1
columns_elements [] = refl
columns_elements (column ∷ columns) =
    let more = element_more (is_comma column) column (length columns) (elements_of columns)
    (columns_elements columns) in
    omega (arith, more)

-- a column more is a character more, or a blank
solid_more : (solid : Bool) (column : ℕ) (others : List ℕ) (count : ℕ) →
    length (map character_of others) ≤ count →
    length (map character_of (cond solid (column ∷ others) others)) ≤ count + 1
solid_more true column others count so_far = omega (arith, so_far)
solid_more false column others count so_far = omega (arith, so_far)

-- columns have no more characters than columns, since blanks are left out
pub spelled_few : (columns : List ℕ) → length (spelled columns) ≤ length columns
spelled_few [] = omega arith
spelled_few (column ∷ columns) =
    let more = solid_more (not (is_blank column)) column
    (filter (λ given. not (is_blank given)) columns) (length columns) (spelled_few columns) in
    omega (arith, more)

-- what was read, and what was read after it
pub both_read : {A B : Type 0} (first : Option A) (second : A → Option B) (made : B) →
    option_and_then second first ≡ Some made →
    (x : A) × (first ≡ Some x) × (second x ≡ Some made)
both_read None second made so = absurd (cc)
both_read (Some x) second made so = (x, refl, so)

-- an element has a character where it has a reading that an empty one has not
pub has_character : {A : Type 0} (read : List ℕ → Option A) (element : List ℕ) (x : A) →
    read [] ≡ None → read element ≡ Some x → 0 < length element
has_character read [] x none found = absurd (cc)
has_character read (first ∷ rest) x none found = omega arith

-- a character more is a code more
code_more : (one : Option ℕ) (others : Option (List ℕ)) (codes : List ℕ) (count : ℕ) →
    ((read : List ℕ) → others ≡ Some read → length read ≡ count) →
    onto_read one others ≡ Some codes → length codes ≡ count + 1
code_more None others codes count so_far found = absurd (cc)
code_more (Some one) None codes count so_far found = absurd (cc)
code_more (Some one) (Some read) codes count so_far found =
    let same : one ∷ read ≡ codes = cc in
    omega (arith, ap length same, so_far read refl)

-- an element has as many codes as characters
codes_length : (element codes : List ℕ) → codes_of element ≡ Some codes →
    length codes ≡ length element
codes_length [] codes found =
    let same : [] ≡ codes = cc in
    ap length (sym same)
codes_length (first ∷ rest) codes found =
    let more = code_more (code_of first) (codes_of rest) codes (length rest)
    (λ read so. codes_length rest read so) found in
    omega (arith, more)

-- where codes are taken as a text, the text is these codes
text_taken : (is_text : Bool) (codes text : List ℕ) →
    ◌≡◌ {A = Option (List ℕ)} (cond is_text (Some codes) None) (Some text) → codes ≡ text
text_taken true codes text found = cc
text_taken false codes text found = absurd (cc)

-- so has a printed text
pub print_text_length : (element text : List ℕ) → print_text_of element ≡ Some text →
    length text ≡ length element
print_text_length element text found =
    let read = both_read (codes_of element) print_text_from text found in
    let same = text_taken _ read.0 text read.2 in
    ap length (sym same) ∙ codes_length element read.0 read.1

-- each line of a table has this, by its spelling and what that means
abbrev pub HasEach : {Meaning : Type 0} → (List ℕ → Meaning → Type 0) → List (Line Meaning) → Type 0
HasEach has [] = Unit {0}
HasEach has (line ∷ lines) = has (codes line.spelling) line.meaning × HasEach has lines

-- a line has it, and so do those after it
infixr 5 ◌also◌
abbrev pub ◌also◌ : {A B : Type 0} → A → B → A × B
own also others = (own, others)

-- characters that this line or another one has
line_has : {Meaning : Type 0} (has : List ℕ → Meaning → Type 0) (line : Line Meaning)
    (others : Option Meaning) (characters : List ℕ) (meaning : Meaning) (here : Bool) →
    bytes_eq (codes line.spelling) characters ≡ here → has (codes line.spelling) line.meaning →
    (others ≡ Some meaning → has characters meaning) →
    cond here (Some line.meaning) others ≡ Some meaning → has characters meaning
line_has has line others characters meaning true is_here own later found =
    let same = (bytes_eq-Decides (codes line.spelling) characters).0 is_here in
    let means : line.meaning ≡ meaning = cc in
    subst (has characters) means (subst (λ (cs : List ℕ). has cs line.meaning) same own)
line_has has line others characters meaning false is_here own later found = later found

-- what characters mean by a table has what each of its lines has
pub found_has : {Meaning : Type 0} (has : List ℕ → Meaning → Type 0) (lines : List (Line Meaning))
    (characters : List ℕ) (meaning : Meaning) → HasEach has lines →
    find_spelled lines characters ≡ Some meaning → has characters meaning
found_has has [] characters meaning each found = absurd (cc)
found_has has (line ∷ lines) characters meaning each found =
    line_has has line (find_spelled lines characters) characters meaning
    (bytes_eq (codes line.spelling) characters) refl each.0
    (found_has has lines characters meaning each.1) found

-- what was found, or something else
or_has : {Meaning : Type 0} (has : List ℕ → Meaning → Type 0) (characters : List ℕ)
    (found : Option Meaning) (other : Meaning) →
    ((meaning : Meaning) → found ≡ Some meaning → has characters meaning) → has characters other →
    has characters (unwrap_or found other)
or_has has characters None other each own = own
or_has has characters (Some meaning) other each own = each meaning refl

-- so has what they mean without a line, if that has it
pub found_or_has : {Meaning : Type 0} (has : List ℕ → Meaning → Type 0)
    (lines : List (Line Meaning)) (characters : List ℕ) (other : Meaning) → HasEach has lines →
    has characters other → has characters (unwrap_or (find_spelled lines characters) other)
found_or_has has lines characters other each own =
    or_has has characters (find_spelled lines characters) other
    (λ meaning. found_has has lines characters meaning each) own
