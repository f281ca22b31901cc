-- A word's fields are found again.
use Rattle.std.proofs.Common.{◌≡◌, ℕ, ◌+◌, ◌*◌, ◌/◌, ◌%◌, ◌^◌, ◌<◌, List, [], ◌∷◌, refl, ap, sym, ◌∙◌, arith}
use Rattle.std.proofs.lemmas.Nat.{mul-add-lt, div-mul-add, pow-add, pow_pos}
use Rattle.std.proofs.Math.Nat.{mul-add-div_right, mul-add-mod_self_right, mod-eq_of_lt}
use Rattle.l6_image.specs.Bits.{BitField, width, packed}

-- how many bits each field has, and what it holds
abbrev pub counts : List BitField → List ℕ
counts [] = []
counts (field ∷ fields) = field.count ∷ counts fields

abbrev pub values : List BitField → List ℕ
values [] = []
values (field ∷ fields) = field.value ∷ values fields

abbrev pub total : List ℕ → ℕ
total [] = 0
total (count ∷ counts) = count + total counts

-- each field has room for what it holds
abbrev pub AllFit : List BitField → Type 0
AllFit [] = Unit {0}
AllFit (field ∷ fields) = (field.value < 2 ^ field.count) × AllFit fields

-- what fields of so many bits hold in a word
abbrev pub unpacked : List ℕ → ℕ → List ℕ
unpacked [] word = []
unpacked (count ∷ counts) word = word / 2 ^ total counts % 2 ^ count ∷ unpacked counts word

width_total : (fields : List BitField) → width fields ≡ total (counts fields)
width_total [] = refl
width_total (field ∷ fields) = ap (λ n. field.count + n) (width_total fields)

-- a word of fields has no more bits than they
pub packed_below : (fields : List BitField) → AllFit fields → packed fields < 2 ^ width fields
packed_below [] fit = omega arith
packed_below (field ∷ fields) fit =
    let below = mul-add-lt field.value (2 ^ width fields) (packed fields) (2 ^ field.count)
    fit.0 (packed_below fields fit.1) in
    omega (arith, below, pow-add 2 field.count (width fields))

-- what is to the left of fields does not change them
unpacked_left : (sizes : List ℕ) (left word : ℕ) →
    unpacked sizes (left * 2 ^ total sizes + word) ≡ unpacked sizes word
unpacked_left [] left word = refl
unpacked_left (size ∷ sizes) left word =
    let low : ℕ = 2 ^ total sizes in
    let regrouped : left * 2 ^ (size + total sizes) + word ≡ (left * 2 ^ size) * low + word =
    ap (λ p. left * p + word) (pow-add 2 size (total sizes)) ∙ omega arith in
    let first : (left * 2 ^ (size + total sizes) + word) / low % 2 ^ size ≡ word / low % 2 ^ size =
    ap (λ n. n / low % 2 ^ size) regrouped
    ∙ ap (λ n. n % 2 ^ size) (mul-add-div_right (pow_pos (total sizes)) (left * 2 ^ size) word)
    ∙ mul-add-mod_self_right left (2 ^ size) (word / low) in
    let others : unpacked sizes (left * 2 ^ (size + total sizes) + word) ≡ unpacked sizes word =
    ap (unpacked sizes) regrouped ∙ unpacked_left sizes (left * 2 ^ size) word in
    ap (λ v. v ∷ unpacked sizes (left * 2 ^ (size + total sizes) + word)) first
    ∙ ap (λ vs. word / low % 2 ^ size ∷ vs) others

-- what was packed is found
pub unpacked_packed : (fields : List BitField) → AllFit fields →
    unpacked (counts fields) (packed fields) ≡ values fields
unpacked_packed [] fit = refl
unpacked_packed (field ∷ fields) fit =
    let w : ℕ = width fields in
    let word : ℕ = field.value * 2 ^ w + packed fields in
    let same : total (counts fields) ≡ w = sym (width_total fields) in
    let first : word / 2 ^ total (counts fields) % 2 ^ field.count ≡ field.value =
    ap (λ n. word / 2 ^ n % 2 ^ field.count) same
    ∙ ap (λ n. n % 2 ^ field.count)
    (div-mul-add field.value (2 ^ w) (packed fields) (packed_below fields fit.1))
    ∙ mod-eq_of_lt fit.0 in
    let others : unpacked (counts fields) word ≡ values fields =
    ap (λ n. unpacked (counts fields) (field.value * 2 ^ n + packed fields)) (width_total fields)
    ∙ unpacked_left (counts fields) field.value (packed fields) ∙ unpacked_packed fields fit.1 in
    ap (λ v. v ∷ unpacked (counts fields) word) first ∙ ap (λ vs. field.value ∷ vs) others
