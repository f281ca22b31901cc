-- What elements are read as are values: chains are chains, numbers are words, and names are names.
use Rattle.std.proofs.Common.{◌≡◌, ℕ, ◌+◌, ◌-◌, ◌^◌, List, [], ◌∷◌, length, Bool, true, false, cond, leb, ltb, Option, Some, None, refl, ap, sym, ◌∙◌, arith, codes}
use Rattle.std.specs.Int.{is_in_range}
use Rattle.std.specs.Int.Digits.{number_from_digits}
use Rattle.std.specs.List.{list_all}
use Rattle.std.specs.Option.{option_map, option_or}
use Rattle.std.specs.Str.{byte}
use Rattle.std.proofs.lemmas.Bool.{and_from, and_parts, leb-true, lt-ltb}
use Rattle.l6_word.specs.Code.{character_of}
use Rattle.l6_word.specs.Numerals.{word_bits, code_count, octal_digit_count}
use Rattle.l6_word.specs.Word.{is_word}
use Rattle.l6_prog.specs.Chain.{is_name, is_chain}
use Rattle.l6_prog.specs.Numerals.{digit_count, first_letter, name_count}
use Rattle.l6_prog.specs.PrintText.{is_print_text}
use Rattle.l6_prog.specs.Values.{is_operand, is_chain_if_given}
use Rattle.l6_prog.specs.declared.operand.Operand.{Operand}
use Rattle.l6_prog.specs.declared.operand.Operand.TheVariants.{Chain, Number}
use Rattle.l6_group.specs.Character.{is_blank, name_of}
use Rattle.l6_group.specs.Element.{names_of, chain_from, chain_of, operand_of, field_from, field_of, chain_if_given}
use Rattle.l6_group.specs.Number.{onto_read, each_read, digit_of, number_from, number_of, decimal_of, octal_of, codes_of, text_from, text_of, print_text_from, print_text_of}
use Rattle.l6_group.specs.Spelling.{find_spelled}
use Rattle.l6_group.specs.Value.{suffixes, value_of}
use Rattle.l6_asm.proofs.ElementLengths.{both_read, HasEach, ◌also◌, found_has}

-- whatever is read passes the test
abbrev pub Gives : {G A : Type 0} → (A → Bool) → (G → Option A) → Type 0
Gives {G = G} {A = A} test read = (given : G) (x : A) → read given ≡ Some x → test x ≡ true

-- what is taken under a condition by which it passes the test
kept : {A : Type 0} (test : A → Bool) (x made : A) (is : Bool) → (is ≡ true → test x ≡ true) →
    cond is (Some x) None ≡ Some made → test made ≡ true
kept test x made true passes so =
    let same : x ≡ made = cc in
    ap test (sym same) ∙ passes refl
kept test x made false passes so = absurd (cc)

-- what is made of something that passes a test
mapped : {A B : Type 0} (test : A → Bool) (good : B → Bool) (make : A → B) (found : Option A)
    (made : B) → ((x : A) → found ≡ Some x → test x ≡ true) →
    ((x : A) → test x ≡ true → good (make x) ≡ true) →
    option_map make found ≡ Some made → good made ≡ true
mapped test good make None made passes keeps so = absurd (cc)
mapped test good make (Some x) made passes keeps so =
    let same : make x ≡ made = cc in
    ap good (sym same) ∙ keeps x (passes x refl)

-- the chain that an element spells is a chain
pub chain_gives : Gives is_chain chain_of
chain_gives element chain so =
    let read = both_read (names_of element) chain_from chain so in
    kept is_chain read.0 chain (is_chain read.0) (λ is. is) read.2

-- so is one that need not be there
chain_or_none : (element : List ℕ) (given : Option (List ℕ)) (blank : Bool) →
    cond blank (Some None) (option_map Some (chain_of element)) ≡ Some given →
    is_chain_if_given given ≡ true
chain_or_none element given true so =
    let same : None ≡ given = cc in
    ap is_chain_if_given (sym same)
chain_or_none element given false so =
    mapped is_chain is_chain_if_given Some (chain_of element) given (chain_gives element)
    (λ chain is. is) so

pub given_gives : Gives is_chain_if_given chain_if_given
given_gives element given so = chain_or_none element given (list_all is_blank element) so

-- a number is a word
number_kept : (base : ℕ) → Gives is_word (number_from base)
number_kept base digits number so =
    let some = ltb 0 (length digits) in
    let fits = ltb (number_from_digits base digits) (2 ^ word_bits) in
    kept is_word (number_from_digits base digits) number _ (λ is. (and_parts some fits is).1) so

number_gives : (base : ℕ) → Gives is_word (number_of base)
number_gives base element number so =
    let read = both_read (each_read (digit_of base) element) (number_from base) number so in
    number_kept base read.0 number read.2

-- so is the number that a text stands for
text_kept : (codes : List ℕ) (number : ℕ) (few : Bool) →
    cond few (number_from code_count codes) None ≡ Some number → is_word number ≡ true
text_kept codes number true so = number_kept code_count codes number so
text_kept codes number false so = absurd (cc)

text_gives : Gives is_word text_of
text_gives element number so =
    let read = both_read (codes_of element) text_from number so in
    text_kept read.0 number _ read.2

-- a printed text is one
pub print_text_gives : Gives is_print_text print_text_of
print_text_gives element text so =
    let read = both_read (codes_of element) print_text_from text so in
    kept is_print_text read.0 text (is_print_text read.0) (λ is. is) read.2

-- an operand is a chain or a word
chain_or_number : (element : List ℕ) (operand : Operand) (chain : Option (List ℕ)) →
    ((names : List ℕ) → chain ≡ Some names → is_chain names ≡ true) →
    option_or (option_map Chain chain) (option_map Number (decimal_of element)) ≡ Some operand →
    is_operand operand ≡ true
chain_or_number element operand None is so =
    mapped is_word is_operand Number (decimal_of element) operand (number_gives digit_count element)
    (λ number is. is) so
chain_or_number element operand (Some names) is so =
    let same : Chain names ≡ operand = cc in
    ap is_operand (sym same) ∙ is names refl

pub operand_gives : Gives is_operand operand_of
operand_gives element operand so =
    chain_or_number element operand (chain_of element) (chain_gives element) so

-- and so is a value, whatever its suffix
abbrev GivesOperands : List ℕ → (List ℕ → Option Operand) → Type 0
GivesOperands suffix reading = Gives is_operand reading

each_suffix : HasEach GivesOperands suffixes
each_suffix =
    operand_gives
    also (λ element operand so.
    mapped is_word is_operand Number (octal_of element) operand (number_gives octal_digit_count element)
    (λ number is. is) so)
    also (λ element operand so.
    mapped is_word is_operand Number (text_of element) operand (text_gives element)
    (λ number is. is) so)
    also tt

pub value_gives : (suffix : List ℕ) → Gives is_operand (value_of suffix)
value_gives suffix element operand so =
    let found = both_read (find_spelled suffixes suffix) _ operand so in
    found_has GivesOperands suffixes suffix found.0 each_suffix found.1 element operand found.2

-- the name that a character spells is a name
letter_or_none : (character name : ℕ) (letter : Bool) →
    is_in_range (byte "A") (byte "Z") character ≡ letter →
    cond letter (Some (character - byte "A" + first_letter)) None ≡ Some name → is_name name ≡ true
letter_or_none character name true is so =
    let parts = and_parts (leb (byte "A") character) (leb character (byte "Z")) is in
    let least = leb-true (byte "A") character parts.0 in
    let most = leb-true character (byte "Z") parts.1 in
    let same : character - byte "A" + first_letter ≡ name = cc in
    lt-ltb name name_count (omega (arith, least, most, same))
letter_or_none character name false is so = absurd (cc)

digit_or_letter : (character name : ℕ) (digit : Bool) →
    is_in_range (byte "0") (byte "9") character ≡ digit →
    cond digit (Some (character - byte "0"))
    (cond (is_in_range (byte "A") (byte "Z") character)
    (Some (character - byte "A" + first_letter)) None)
    ≡ Some name →
    is_name name ≡ true
digit_or_letter character name true is so =
    let parts = and_parts (leb (byte "0") character) (leb character (byte "9")) is in
    let most = leb-true character (byte "9") parts.1 in
    let same : character - byte "0" ≡ name = cc in
    lt-ltb name name_count (omega (arith, most, same))
digit_or_letter character name false is so =
    letter_or_none character name (is_in_range (byte "A") (byte "Z") character) refl so

pub name_gives : Gives is_name name_of
name_gives given name so =
    digit_or_letter (character_of given) name
    (is_in_range (byte "0") (byte "9") (character_of given)) refl so

-- so are all names that are read
name_more : (first : Option ℕ) (others : Option (List ℕ)) (names : List ℕ) →
    ((name : ℕ) → first ≡ Some name → is_name name ≡ true) →
    ((read : List ℕ) → others ≡ Some read → list_all is_name read ≡ true) →
    onto_read first others ≡ Some names → list_all is_name names ≡ true
name_more None others names one all so = absurd (cc)
name_more (Some name) None names one all so = absurd (cc)
name_more (Some name) (Some read) names one all so =
    let same : name ∷ read ≡ names = cc in
    ap (list_all is_name) (sym same)
    ∙ and_from (is_name name) (list_all is_name read) (one name refl) (all read refl)

-- a blank before names is left out
names_from : (first : ℕ) (rest names : List ℕ) (blank : Bool) →
    ((read : List ℕ) → names_of rest ≡ Some read → list_all is_name read ≡ true) →
    cond blank (names_of rest) (onto_read (name_of first) (names_of rest)) ≡ Some names →
    list_all is_name names ≡ true
names_from first rest names true all so = all names so
names_from first rest names false all so =
    name_more (name_of first) (names_of rest) names (name_gives first) all so

names_give : Gives (list_all is_name) names_of
names_give [] names so =
    let none : [] ≡ names = cc in
    ap (list_all is_name) (sym none)
names_give (first ∷ rest) names so =
    names_from first rest names (is_blank first) (names_give rest) so

-- and so is the name of a field
only_name : (names : List ℕ) (field : ℕ) → list_all is_name names ≡ true →
    field_from names ≡ Some field → is_name field ≡ true
only_name [] field all so = absurd (cc)
only_name (name ∷ []) field all so =
    let same : name ≡ field = cc in
    ap is_name (sym same) ∙ (and_parts (is_name name) true all).0
only_name (name ∷ other ∷ names) field all so = absurd (cc)

pub field_gives : Gives is_name field_of
field_gives element field so =
    let read = both_read (names_of element) field_from field so in
    only_name read.0 field (names_give element read.0 read.1) read.2
