-- Inputs that are kept line by line.
use Rattle.std.proofs.Common.{◌≡◌, ℕ, zero, suc, ◌+◌, ◌-◌, ◌*◌, ◌^◌, ◌<◌, ◌≤◌, Bool, true, false, if◌then◌else◌, List, [], ◌∷◌, ◌++◌, length, map, take, drop, replicate, min, get_or, None, Some, unwrap_or, refl, sym, ap, ◌∙◌, subst, arith, inl, inr, append_assoc, append-nil, length-append, drop_of_length-le}
use Rattle.std.specs.Int.{is_in_range}
use Rattle.std.specs.Int.Digits.{AllBelowBase}
use Rattle.std.specs.List.{flat_map}
use Rattle.std.specs.Prelude.{nat_le}
use Rattle.std.specs.Str.{byte}
use Rattle.std.proofs.Math.Nat.{pow-suc, pow-le-pow_right, suc-mul}
use Rattle.std.proofs.lemmas.Bool.{and_parts, cases_lt, leb-true, ne_eqb}
use Rattle.std.proofs.lemmas.Grind.{flat_map-append}
use Rattle.std.proofs.lemmas.Int.Digits.{number_more}
use Rattle.std.proofs.lemmas.List.{drop_more, length-drop, length-replicate, length-take}
use Rattle.std.proofs.lemmas.List.Concat.{flat_map-cons}
use Rattle.l6_word.specs.Code.{character_of, input_code}
use Rattle.l6_word.specs.Input.{characters_of, filled}
use Rattle.l6_word.specs.Lines.{lines_of, without_return}
use Rattle.l6_word.specs.Numerals.{code_count, input_width}
use Rattle.l6_steps.specs.Characters.{number_of}
use Rattle.l6_registers.specs.inner.Input.{blank, characters_in, kept_line, line_end, spread, IsFed, KeepsLines}

-- a line has so many characters
pub width_is : input_width ≡ 80
unfolding input_width
width_is = refl

-- a code that is no end is the character
pub spread_code : (width column code : ℕ) (codes : List ℕ) → (code ≡ line_end → ⊥) →
    spread width column (code ∷ codes) ≡ code ∷ spread width (column + 1) codes
spread_code width column code codes other =
    ap (λ b. if b then replicate (width - column) blank ++ spread width 0 codes
    else code ∷ spread width (column + 1) codes)
    (ne_eqb code line_end other)

-- at an end a blank fills the line ..
pub spread_blank : (width column code : ℕ) (codes : List ℕ) → code ≡ line_end → column < width →
    spread width column (code ∷ codes) ≡ blank ∷ spread width (column + 1) (code ∷ codes)
spread_blank width column code codes is below =
    let more : width - column ≡ suc (width - (column + 1)) = omega (arith, below) in
    ap (λ c. spread width column (c ∷ codes)) is
    ∙ ap (λ n. replicate n blank ++ spread width 0 codes) more
    ∙ ap (λ c. blank ∷ spread width (column + 1) (c ∷ codes)) (sym is)

-- .. until it has its width
pub spread_over : (width column code : ℕ) (codes : List ℕ) → code ≡ line_end → width ≤ column →
    spread width column (code ∷ codes) ≡ spread width 0 codes
spread_over width column code codes is over =
    let none : width - column ≡ 0 = omega (arith, over) in
    ap (λ c. spread width column (c ∷ codes)) is
    ∙ ap (λ n. replicate n blank ++ spread width 0 codes) none

-- where a character is left there is a place
pub inside_by : (width column place : ℕ) (codes : List ℕ) →
    0 < length (spread width column (drop place codes)) → place < length codes
inside_by width column place codes some =
    elim (cases_lt place (length codes)) as (λ _. place < length codes) [
      | inl within ↦ within
      | inr past ↦
          let none : drop place codes ≡ [] = drop_of_length-le codes (omega (arith, past)) in
          let empty : length (spread width column (drop place codes)) ≡ 0 =
          ap (λ cs. length (spread width column cs)) none in
          absurd (omega (arith, some, empty))
    ]

-- a blank at a place
pub blank_at : (width column place : ℕ) (codes : List ℕ) → place < length codes →
    get_or codes place 0 ≡ line_end → column < width →
    spread width column (drop place codes)
    ≡ blank ∷ spread width (column + 1) (drop place codes)
blank_at width column place codes within is below =
    let here = drop_more codes place 0 within in
    ap (spread width column) here
    ∙ spread_blank width column (get_or codes place 0) (drop (place + 1) codes) is below
    ∙ ap (λ cs. blank ∷ spread width (column + 1) cs) (sym here)

-- at the end of a line that has its width the next one follows
pub over_at : (width column place : ℕ) (codes : List ℕ) → place < length codes →
    get_or codes place 0 ≡ line_end → width ≤ column →
    spread width column (drop place codes) ≡ spread width 0 (drop (place + 1) codes)
over_at width column place codes within is over =
    ap (spread width column) (drop_more codes place 0 within)
    ∙ spread_over width column (get_or codes place 0) (drop (place + 1) codes) is over

-- so there is a further line
pub inside_next : (width column place : ℕ) (codes : List ℕ) →
    0 < length (spread width column (drop place codes)) → get_or codes place 0 ≡ line_end →
    width ≤ column → place + 1 < length codes
inside_next width column place codes some is over =
    let within = inside_by width column place codes some in
    inside_by width 0 (place + 1) codes
    (subst (λ cs. 0 < length cs) (over_at width column place codes within is over) some)

-- after the first of what is left
pub tail_of : (xs rest : List ℕ) (n x : ℕ) → drop n xs ≡ x ∷ rest → drop (n + 1) xs ≡ rest
tail_of xs rest n x is =
    elim (cases_lt n (length xs)) as (λ _. drop (n + 1) xs ≡ rest) [
      | inl within ↦
          let both : get_or xs n 0 ∷ drop (n + 1) xs ≡ x ∷ rest =
          sym (drop_more xs n 0 within) ∙ is in
          cc
      | inr past ↦
          let none : [] ≡ x ∷ rest = sym (drop_of_length-le xs (omega (arith, past))) ∙ is in
          absurd (cc)
    ]

-- ---- codes of characters
in_range_code : (given : ℕ) (inside : Bool) →
    is_in_range (byte " ") (byte "_") (character_of given) ≡ inside →
    unwrap_or (if inside then Some (character_of given - byte " ") else None)
    (byte "?" - byte " ") < code_count
in_range_code given true is =
    let both = and_parts (nat_le (byte " ") (character_of given))
    (nat_le (character_of given) (byte "_")) is in
    let most = leb-true (character_of given) (byte "_") both.1 in
    omega (arith, most)
in_range_code given false is = omega arith

pub input_code_below : (given : ℕ) → input_code given < code_count
input_code_below given =
    in_range_code given (is_in_range (byte " ") (byte "_") (character_of given)) refl

not_end : (given : ℕ) → input_code given ≡ line_end → ⊥
not_end given is = omega (arith, is, input_code_below given)

-- ---- lines
-- a line spread from a column on
spread_line : (width column : ℕ) (line rest : List ℕ) →
    spread width column (map input_code line ++ line_end ∷ rest)
    ≡ map input_code line ++ replicate (width - (column + length line)) blank
    ++ spread width 0 rest
spread_line width column [] rest =
    ap (λ n. replicate (width - n) blank ++ spread width 0 rest) (omega arith)
spread_line width column (first ∷ line) rest =
    spread_code width column (input_code first) (map input_code line ++ line_end ∷ rest)
    (not_end first)
    ∙ ap (λ cs. input_code first ∷ cs) (spread_line width (column + 1) line rest)
    ∙ ap (λ n. input_code first ∷ (map input_code line ++ replicate (width - n) blank
    ++ spread width 0 rest)) (omega arith)

-- the first of some blanks
take_blanks : (n m : ℕ) → n ≤ m → take n (replicate m blank) ≡ replicate n blank
take_blanks zero m few = refl
take_blanks (suc n) zero few = absurd (omega (arith, few))
take_blanks (suc n) (suc m) few =
    ap (λ cs. blank ∷ cs) (take_blanks n m (omega (arith, few)))

-- a line cut or filled, in parts
filled_by : (n width : ℕ) (line : List ℕ) → n ≤ width →
    take n (map input_code line ++ replicate width blank)
    ≡ map input_code (take n line) ++ replicate (n - length (take n line)) blank
filled_by zero width line few = refl
filled_by (suc n) width [] few =
    let all : suc n ≡ suc n - 0 = omega arith in
    take_blanks (suc n) width few ∙ ap (λ k. replicate k blank) all
filled_by (suc n) width (first ∷ line) few =
    let less : suc n - suc (length (take n line)) ≡ n - length (take n line) = omega arith in
    ap (λ cs. input_code first ∷ cs) (filled_by n width line (omega (arith, few)))
    ∙ ap (λ k. input_code first ∷ (map input_code (take n line) ++ replicate k blank)) (sym less)

-- a kept line is spread to the line itself
spread_kept : (width : ℕ) (line rest : List ℕ) →
    spread width 0 (kept_line width line ++ rest) ≡ filled width line ++ spread width 0 rest
spread_kept width line rest =
    let cut = take width line in
    let none : 0 + length cut ≡ length cut = omega arith in
    ap (spread width 0) (append_assoc (map input_code cut) (line_end ∷ []) rest)
    ∙ spread_line width 0 cut rest
    ∙ ap (λ n. map input_code cut ++ replicate (width - n) blank ++ spread width 0 rest) none
    ∙ ap (λ cs. cs ++ spread width 0 rest) (sym (filled_by width width line (omega arith)))

-- and so are all lines
pub spread_lines : (width : ℕ) (lines : List (List ℕ)) →
    spread width 0 (flat_map (kept_line width) lines) ≡ flat_map (filled width) lines
spread_lines width [] = refl
spread_lines width (line ∷ lines) =
    ap (spread width 0) (flat_map-cons (kept_line width) line lines)
    ∙ spread_kept width line (flat_map (kept_line width) lines)
    ∙ ap (λ cs. filled width line ++ cs) (spread_lines width lines)
    ∙ sym (flat_map-cons (filled width) line lines)

-- a line that is cut or filled has its width
length_filled : (width : ℕ) (line : List ℕ) → length (filled width line) ≡ width
length_filled width line =
    length-take width (map input_code line ++ replicate width blank)
    ∙ ap (λ n. min width n)
    (length-append (map input_code line) (replicate width blank)
    ∙ ap (λ n. length (map input_code line) + n) (length-replicate width blank))
    ∙ omega arith

length_lines : (width : ℕ) (lines : List (List ℕ)) →
    length (flat_map (filled width) lines) ≡ length lines * width
length_lines width [] = omega arith
length_lines width (line ∷ lines) =
    let one = length_filled width line in
    let others = length_lines width lines in
    ap (λ cs. length cs) (flat_map-cons (filled width) line lines)
    ∙ length-append (filled width line) (flat_map (filled width) lines)
    ∙ omega (arith, one, others, suc-mul (length lines) width)

-- ---- all characters have codes
below_append : (xs ys : List ℕ) → AllBelowBase code_count xs → AllBelowBase code_count ys →
    AllBelowBase code_count (xs ++ ys)
below_append [] ys one other = other
below_append (x ∷ xs) ys one other = (one.0, below_append xs ys one.1 other)

below_drop : (n : ℕ) (xs : List ℕ) → AllBelowBase code_count xs →
    AllBelowBase code_count (drop n xs)
below_drop zero xs all = all
below_drop (suc n) [] all = tt
below_drop (suc n) (x ∷ xs) all = below_drop n xs all.1

below_take : (n : ℕ) (xs : List ℕ) → AllBelowBase code_count xs →
    AllBelowBase code_count (take n xs)
below_take zero xs all = tt
below_take (suc n) [] all = tt
below_take (suc n) (x ∷ xs) all = (all.0, below_take n xs all.1)

below_codes : (line : List ℕ) → AllBelowBase code_count (map input_code line)
below_codes [] = tt
below_codes (first ∷ line) = (input_code_below first, below_codes line)

below_blanks : (n : ℕ) → AllBelowBase code_count (replicate n blank)
below_blanks zero = tt
below_blanks (suc n) = (omega arith, below_blanks n)

below_lines : (width : ℕ) (lines : List (List ℕ)) →
    AllBelowBase code_count (flat_map (filled width) lines)
below_lines width [] = tt
below_lines width (line ∷ lines) =
    subst (AllBelowBase code_count) (sym (flat_map-cons (filled width) line lines))
    (below_append (filled width line) (flat_map (filled width) lines)
    (below_take width (map input_code line ++ replicate width blank)
    (below_append (map input_code line) (replicate width blank) (below_codes line)
    (below_blanks width)))
    (below_lines width lines))

-- ---- keeping lines
-- nothing is kept yet
pub none_kept : (text codes : List ℕ) → codes ≡ [] → KeepsLines text codes text 0
none_kept text codes is = record {
  lines = [];
  kept = is;
  are = refl;
  counted = omega arith;
  few = omega arith;
}

-- what is counted with a line more
counted_on : (count n m : ℕ) → count ≡ n * input_width → m ≡ n + 1 → count + 80 ≡ m * input_width
unfolding input_width
counted_on count n m is more = omega (arith, is, more)

-- a line more
pub one_kept : (text codes rest line following new : List ℕ) (count : ℕ) →
    KeepsLines text codes rest count → lines_of rest ≡ line ∷ lines_of following →
    length following < length rest → new ≡ codes ++ kept_line input_width (without_return line) →
    KeepsLines text new following (count + 80)
one_kept text codes rest line following new count keeps cut shorter more =
    let f : List ℕ → List ℕ = λ l. filled input_width (without_return l) in
    let own = without_return line in
    let lines = keeps.lines ++ own ∷ [] in
    let rest_is : characters_of rest ≡ f line ++ characters_of following =
    ap (flat_map f) cut ∙ flat_map-cons f line (lines_of following) in
    let single : (h : List ℕ → List ℕ) → flat_map h (own ∷ []) ≡ h own =
    λ h. flat_map-cons h own [] ∙ append-nil (h own) in
    let longer : length lines ≡ length keeps.lines + 1 = length-append keeps.lines (own ∷ []) in
    record {
      lines = lines;
      kept = more
          ∙ ap (λ cs. cs ++ kept_line input_width own) keeps.kept
          ∙ ap (λ cs. flat_map (kept_line input_width) keeps.lines ++ cs)
          (sym (single (kept_line input_width)))
          ∙ sym (flat_map-append (kept_line input_width) keeps.lines (own ∷ []));
      are = ap (λ cs. cs ++ characters_of following)
          (flat_map-append (filled input_width) keeps.lines (own ∷ [])
          ∙ ap (λ cs. flat_map (filled input_width) keeps.lines ++ cs) (single (filled input_width)))
          ∙ append_assoc (flat_map (filled input_width) keeps.lines) (f line) (characters_of following)
          ∙ ap (λ cs. flat_map (filled input_width) keeps.lines ++ cs) (sym rest_is)
          ∙ keeps.are;
      counted = counted_on count (length keeps.lines) (length lines) keeps.counted longer;
      few = omega (arith, keeps.few, shorter, longer);
    }

-- all is kept
pub all_kept : (text codes rest : List ℕ) (count : ℕ) → KeepsLines text codes rest count →
    lines_of rest ≡ [] → characters_in codes ≡ characters_of text
all_kept text codes rest count keeps none =
    let f : List ℕ → List ℕ = λ l. filled input_width (without_return l) in
    ap characters_in keeps.kept
    ∙ spread_lines input_width keeps.lines
    ∙ sym (append-nil (flat_map (filled input_width) keeps.lines))
    ∙ ap (λ ls. flat_map (filled input_width) keeps.lines ++ flat_map f ls) (sym none)
    ∙ keeps.are

pub fed_first : (text codes rest : List ℕ) (count : ℕ) → KeepsLines text codes rest count →
    IsFed codes count 0 0 0
fed_first text codes rest count keeps =
    let are : characters_in codes ≡ flat_map (filled input_width) keeps.lines =
    ap characters_in keeps.kept ∙ spread_lines input_width keeps.lines in
    record {
      counted = keeps.counted ∙ sym (length_lines input_width keeps.lines)
          ∙ ap (λ cs. length cs) (sym are);
      within = omega arith;
      left = refl;
      below = subst (AllBelowBase code_count) (sym are) (below_lines input_width keeps.lines);
      near = omega arith;
      inside = omega arith;
    }

-- the count fits
pub count_fits : (text codes rest : List ℕ) (count : ℕ) → KeepsLines text codes rest count →
    length text < 2 ^ 32 → count + 80 < 2 ^ 64
unfolding input_width
count_fits text codes rest count keeps small = omega (arith, keeps.counted, keeps.few, small)

-- ---- taking a character
pub fed_next : (codes : List ℕ) (count taken place column code place' column' : ℕ) →
    IsFed codes count taken place column → 0 < length (drop taken (characters_in codes)) →
    spread input_width column (drop place codes)
    ≡ code ∷ spread input_width column' (drop place' codes) →
    column' ≤ input_width + place' → place' ≤ length codes →
    IsFed codes count (taken + 1) place' column'
fed_next codes count taken place column code place' column' fed some is near inside =
    let chars = characters_in codes in
    let left = length-drop taken chars in
    record {
      counted = fed.counted;
      within = omega (arith, fed.counted, some, left);
      left = sym (tail_of chars (spread input_width column' (drop place' codes)) taken code
          (sym fed.left ∙ is));
      below = fed.below;
      near = near;
      inside = inside;
    }

-- ---- the number of what is taken
pub number_next : (left : List ℕ) (i number code : ℕ) → i < length left →
    code ≡ get_or left i 0 → number ≡ number_of (take i left) →
    number * 64 + code ≡ number_of (take (i + 1) left)
number_next left i number code within is known =
    ap (λ n. n * 64 + code) known ∙ ap (λ c. number_of (take i left) * 64 + c) is
    ∙ sym (number_more code_count left i within)

pub small_next : (i number code : ℕ) → number < 64 ^ i → code < 64 → number * 64 + code < 64 ^ (i + 1)
small_next i number code small few =
    let more : 64 ^ suc i ≡ 64 ^ i * 64 = pow-suc 64 i in
    let same : 64 ^ (i + 1) ≡ 64 ^ suc i = ap (λ k. 64 ^ k) (omega arith) in
    omega (arith, small, few, more, same)

pub small_by : (i number : ℕ) → i < 6 → number < 64 ^ i → number < 64 ^ 6
small_by i number few small =
    let below : i ≤ 6 = omega (arith, few) in
    let grows : 64 ^ i ≤ 64 ^ 6 = pow-le-pow_right {n = 64} (omega arith) below in
    omega (arith, small, grows)
