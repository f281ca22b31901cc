-- Operands are found again in their words.
use Rattle.std.proofs.Common.{◌≡◌, ℕ, ◌+◌, ◌-◌, ◌/◌, ◌%◌, ◌^◌, ◌<◌, ◌≤◌, zero, suc, List, [], ◌∷◌, ◌++◌, length, get_or, take, drop, replicate, Bool, true, false, Some, refl, ap, sym, ◌∙◌, arith, append-nil, length-append}
use Rattle.std.specs.Prelude.{◌&&◌, nat_lt, nat_le, not}
use Rattle.std.specs.List.{flat_map, list_all, take_while}
use Rattle.std.proofs.lemmas.Bool.{and_parts, ltb-true, leb-true, le-ltb}
use Rattle.std.proofs.Math.Seq.{take-append_seam, take-append-add, drop-append_seam}
use Rattle.std.proofs.lemmas.List.Folds.{list_all-append}
use Rattle.std.proofs.lemmas.List.Concat.{flat_map-cons}
use Rattle.l6_word.specs.Numerals.{code_count}
use Rattle.l6_prog.specs.Numerals.{name_count, most_characters, most_names}
use Rattle.l6_prog.specs.PrintText.{is_print_text, may_print, is_barred}
use Rattle.l6_image.specs.Numerals.{no_name}
use Rattle.l6_image.specs.Bits.{item, six}
use Rattle.l6_image.specs.Row.{Slot, absent, chain, number, text, kind, sixes, slot_words}
use Rattle.l6_image.proofs.RowValues.{is_slot}
use Rattle.l6_prog.specs.Chain.{is_name}
use Rattle.l6_image.specs.inner.decode.Fields.{items_in, names_in}
use Rattle.l6_image.specs.inner.decode.Reading.{slot_at, codes_at, codes_in}
use Rattle.l6_image.proofs.Packing.{unpacked, unpacked_packed}
use Rattle.l6_image.proofs.Sixes.{each_name, few_names}
use Rattle.l6_image.proofs.Taken.{take_while_passes, take_while_fails}

-- the items of a word, as a list
abbrev pub filled : ℕ → List ℕ → List ℕ
filled filling items =
    get_or items 0 filling ∷ get_or items 1 filling ∷ get_or items 2 filling
    ∷ get_or items 3 filling ∷ get_or items 4 filling ∷ get_or items 5 filling ∷ []

-- the six items of a word are what its fields hold
items_unpacked : (word : ℕ) → items_in word ≡ unpacked (6 ∷ 6 ∷ 6 ∷ 6 ∷ 6 ∷ 6 ∷ []) word
items_unpacked word =
    let whole : word ≡ word / 1 = omega arith in
    ap (λ n. word / 2 ^ 30 % 64 ∷ word / 2 ^ 24 % 64 ∷ word / 2 ^ 18 % 64 ∷ word / 2 ^ 12 % 64
    ∷ word / 2 ^ 6 % 64 ∷ n % 64 ∷ []) whole

-- items that pass a test, and what follows them, have six bits
pub item_below : (p : ℕ → Bool) → ((n : ℕ) → p n ≡ true → n < 2 ^ 6) → (filling : ℕ) →
    filling < 2 ^ 6 → (items : List ℕ) (place : ℕ) → list_all p items ≡ true →
    get_or items place filling < 2 ^ 6
item_below p small filling below [] place each = below
item_below p small filling below (x ∷ items) zero each =
    small x (and_parts (p x) (list_all p items) each).0
item_below p small filling below (x ∷ items) (suc place) each =
    item_below p small filling below items place (and_parts (p x) (list_all p items) each).1

-- so they are found in their word
items_again : (p : ℕ → Bool) → ((n : ℕ) → p n ≡ true → n < 2 ^ 6) → (filling : ℕ) →
    filling < 2 ^ 6 → (items : List ℕ) → list_all p items ≡ true →
    items_in (six filling items) ≡ filled filling items
items_again p small filling below items each =
    let fits = λ (place : ℕ). item_below p small filling below items place each in
    items_unpacked (six filling items)
    ∙ unpacked_packed (item filling items 0 ∷ item filling items 1 ∷ item filling items 2
    ∷ item filling items 3 ∷ item filling items 4 ∷ item filling items 5 ∷ [])
    (fits 0, (fits 1, (fits 2, (fits 3, (fits 4, (fits 5, tt))))))

-- names have six bits
pub name_small : (n : ℕ) → is_name n ≡ true → n < 2 ^ 6
name_small n is = omega (arith, ltb-true n name_count is)

-- names and what fills the word after them
names_filled : (names : List ℕ) → length names ≤ most_names →
    filled no_name names ≡ names ++ replicate (most_names - length names) no_name
names_filled [] few = refl
names_filled (a ∷ []) few = refl
names_filled (a ∷ b ∷ []) few = refl
names_filled (a ∷ b ∷ c ∷ []) few = refl
names_filled (a ∷ b ∷ c ∷ d ∷ []) few = refl
names_filled (a ∷ b ∷ c ∷ d ∷ e ∷ []) few = refl
names_filled (a ∷ b ∷ c ∷ d ∷ e ∷ f ∷ []) few = refl
names_filled (a ∷ b ∷ c ∷ d ∷ e ∷ f ∷ g ∷ names) few = absurd (omega (arith, few))

-- the filling is no name
filling_fails : (count : ℕ) → take_while is_name (replicate count no_name) ≡ []
filling_fails zero = refl
filling_fails (suc count) = take_while_fails is_name no_name (replicate count no_name) refl

names_taken : (names : List ℕ) (count : ℕ) → list_all is_name names ≡ true →
    take_while is_name (names ++ replicate count no_name) ≡ names
names_taken [] count each = filling_fails count
names_taken (x ∷ names) count each =
    let parts = and_parts (is_name x) (list_all is_name names) each in
    take_while_passes is_name x (names ++ replicate count no_name) parts.0
    ∙ ap (λ ns. x ∷ ns) (names_taken names count parts.1)

names_again : (names : List ℕ) → is_slot (chain names) ≡ true →
    names_in (six no_name names) ≡ names
names_again names known =
    ap (take_while is_name)
    (items_again is_name name_small no_name (omega arith) names (each_name names known)
    ∙ names_filled names (few_names names known))
    ∙ names_taken names (most_names - length names) (each_name names known)

-- codes have six bits
pub code_small : (n : ℕ) → may_print n ≡ true → n < 2 ^ 6
code_small n may =
    omega (
      arith,
      ltb-true n code_count
          (and_parts (nat_lt n code_count) (not (is_barred n)) may).0,
    )

-- six codes are found in their word
codes_again : (codes : List ℕ) → list_all may_print codes ≡ true →
    items_in (six 0 codes) ≡ filled 0 codes
codes_again codes each = items_again may_print code_small 0 (omega arith) codes each

-- how many words codes take
pub length_sixes : (codes : List ℕ) → length (sixes codes) ≡ (length codes + 5) / 6
length_sixes [] = refl
length_sixes (a ∷ []) = refl
length_sixes (a ∷ b ∷ []) = refl
length_sixes (a ∷ b ∷ c ∷ []) = refl
length_sixes (a ∷ b ∷ c ∷ d ∷ []) = refl
length_sixes (a ∷ b ∷ c ∷ d ∷ e ∷ []) = refl
length_sixes (a ∷ b ∷ c ∷ d ∷ e ∷ f ∷ codes) = omega (arith, length_sixes codes)

-- the items of their words are the codes, and zeros after them
record Padded (codes : List ℕ) : Type 0 where
  count : ℕ
  is : flat_map items_in (sixes codes) ≡ codes ++ replicate count 0

-- the items of one word
padded_last : (codes : List ℕ) (count : ℕ) → list_all may_print codes ≡ true →
    filled 0 codes ≡ codes ++ replicate count 0 →
    flat_map items_in (six 0 codes ∷ []) ≡ codes ++ replicate count 0
padded_last codes count each is =
    flat_map-cons items_in (six 0 codes) [] ∙ append-nil (items_in (six 0 codes))
    ∙ codes_again codes each ∙ is

padded : (codes : List ℕ) → list_all may_print codes ≡ true → Padded codes
padded [] each = record { count = 0; is = refl }
padded (a ∷ []) each =
    record { count = 5; is = padded_last (a ∷ []) 5 each refl }
padded (a ∷ b ∷ []) each =
    record { count = 4; is = padded_last (a ∷ b ∷ []) 4 each refl }
padded (a ∷ b ∷ c ∷ []) each =
    record { count = 3; is = padded_last (a ∷ b ∷ c ∷ []) 3 each refl }
padded (a ∷ b ∷ c ∷ d ∷ []) each =
    record { count = 2; is = padded_last (a ∷ b ∷ c ∷ d ∷ []) 2 each refl }
padded (a ∷ b ∷ c ∷ d ∷ e ∷ []) each =
    record { count = 1; is = padded_last (a ∷ b ∷ c ∷ d ∷ e ∷ []) 1 each refl }
padded (a ∷ b ∷ c ∷ d ∷ e ∷ f ∷ codes) each =
    let front : List ℕ = a ∷ b ∷ c ∷ d ∷ e ∷ f ∷ [] in
    let parts = and_parts (list_all may_print front) (list_all may_print codes)
    (sym (list_all-append may_print front codes) ∙ each) in
    let others = padded codes parts.1 in
    record {
      count = others.count;
      is = flat_map-cons items_in (six 0 front) (sixes codes)
          ∙ ap (λ xs. xs ++ flat_map items_in (sixes codes)) (codes_again front parts.0)
          ∙ ap (λ xs. front ++ xs) others.is;
    }

-- so many codes are found
codes_found : (codes : List ℕ) → length codes ≤ most_characters →
    list_all may_print codes ≡ true → codes_in (length codes) (sixes codes) ≡ codes
codes_found codes few each =
    let others = padded codes each in
    let zeros : List ℕ = replicate others.count 0 in
    let more : ℕ = most_characters - length codes in
    let room : most_characters ≡ length codes + more = omega (arith, few) in
    ap (λ xs. take (length codes) (take most_characters xs)) others.is
    ∙ ap (λ n. take (length codes) (take n (codes ++ zeros))) room
    ∙ ap (take (length codes)) (take-append-add codes zeros more)
    ∙ take-append_seam codes (take more zeros)

-- what is known of a text
pub record IsText (codes : List ℕ) : Type 0 where
  pub few : length codes ≤ most_characters
  pub each : list_all may_print codes ≡ true

pub text_known : (codes : List ℕ) → is_print_text codes ≡ true → IsText codes
text_known codes known =
    let some = nat_lt 0 (length codes) in
    let few = nat_le (length codes) most_characters in
    let parts = and_parts (some && few) (list_all may_print codes) known in
    record {
      few = leb-true (length codes) most_characters (and_parts some few parts.0).1;
      each = parts.1;
    }

-- a text is found again
codes_at_again : (codes rest : List ℕ) → is_print_text codes ≡ true →
    codes_at (length codes) (sixes codes ++ rest) ≡ Some (text codes, rest)
codes_at_again codes rest known =
    let is = text_known codes known in
    let needed : ℕ = (length codes + 5) / 6 in
    let count : needed ≡ length (sixes codes) = sym (length_sixes codes) in
    let fits : nat_lt most_characters (length codes) ≡ false =
    le-ltb most_characters (length codes) is.few in
    let there : nat_lt (length (sixes codes ++ rest)) needed ≡ false =
    le-ltb (length (sixes codes ++ rest)) needed
    (omega (arith, count, length-append (sixes codes) rest)) in
    let front : take needed (sixes codes ++ rest) ≡ sixes codes =
    ap (λ n. take n (sixes codes ++ rest)) count ∙ take-append_seam (sixes codes) rest in
    let following : drop needed (sixes codes ++ rest) ≡ rest =
    ap (λ n. drop n (sixes codes ++ rest)) count ∙ drop-append_seam (sixes codes) rest in
    rw (fits, there, front, following, codes_found codes is.few is.each) refl

-- an operand is found again, and what follows it
pub slot_again : (slot : Slot) (rest : List ℕ) → is_slot slot ≡ true →
    slot_at (kind slot) (slot_words slot ++ rest) ≡ Some (slot, rest)
unfolding slot_at
slot_again absent rest known = refl
slot_again (chain names) rest known =
    ap (λ ns. Some (chain ns, rest)) (names_again names known)
slot_again (number n) rest known = refl
slot_again (text codes) rest known = codes_at_again codes rest known
