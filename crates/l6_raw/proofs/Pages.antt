-- Words that become others, one page after another.
use Rattle.std.proofs.Common.{◌≡◌, ℕ, ◌+◌, ◌-◌, ◌*◌, ◌/◌, ◌%◌, ◌<◌, ◌≤◌, Bool, true, false, List, length, get_or, set, take, drop, replicate, slice_range, sym, ap, ◌∙◌, arith, inl, inr}
use Rattle.std.proofs.lemmas.Bool.{cases_eq, cases_lt}
use Rattle.std.proofs.lemmas.List.{get_or-replicate, get_or-set_other, get_or-set_same, length-set, get_or_past, get_or-take, get_or-drop, ext_get_or}
use Rattle.l6_raw.specs.Words.{overwritten}
use Rattle.l6_raw.specs.Pages.{AreUnused}
use Rattle.l6_raw.proofs.Overwriting.{get_or_overwritten_before, get_or_overwritten_in, get_or_overwritten_following, length_overwritten, length_range}

-- a word of so many from a place on
in_range : (words : List ℕ) (place count k : ℕ) → k < count →
    get_or (slice_range words place (place + count)) k 0 ≡ get_or words (place + k) 0
in_range words place count k below =
    let size : place + count - place ≡ count = omega arith in
    ap (λ (n : ℕ). get_or (take n (drop place words)) k 0) size
    ∙ get_or-take count (drop place words) k 0 below
    ∙ get_or-drop place words k 0

-- so far the words are the others, and after they are as they were
pub record AreTaken (was words now : List ℕ) (first : ℕ) : Type 0 where
  pub long : length now ≡ length words
  pub taken : (at : ℕ) → at < first → get_or now at 0 ≡ get_or words at 0
  pub rest : (at : ℕ) → first ≤ at → get_or now at 0 ≡ get_or was at 0

pub taken_all : (was words now : List ℕ) (first : ℕ) → AreTaken was words now first →
    length words ≤ first → now ≡ words
taken_all was words now first taken all =
    ext_get_or 0 now words taken.long
    (λ at below. taken.taken at (omega (arith, below, taken.long, all)))

-- of a page so many words are taken, where the rest of it is the same in both
pub taken_more : (was words now : List ℕ) (first count next : ℕ) → AreTaken was words now first →
    first ≤ length words → first + count ≤ length words → first + count ≤ next →
    ((at : ℕ) → first + count ≤ at → at < next → get_or was at 0 ≡ get_or words at 0) →
    AreTaken was words (overwritten now first (slice_range words first (first + count))) next
taken_more was words now first count next taken begun within past same =
    let others : List ℕ = slice_range words first (first + count) in
    let size = length_range words first count within in
    let place : first ≤ length now = omega (arith, begun, taken.long) in
    record {
      long = length_overwritten now first others (omega (arith, size, within, taken.long))
          ∙ taken.long;
      taken = λ at below.
          elim (cases_lt at first)
          as (λ _. get_or (overwritten now first others) at 0 ≡ get_or words at 0) [
            | inl before ↦
                get_or_overwritten_before now first others at place before
                ∙ taken.taken at before
            | inr from ↦ elim (cases_lt at (first + count))
                as (λ _. get_or (overwritten now first others) at 0 ≡ get_or words at 0) [
                  | inl inside ↦
                      let there : first + (at - first) ≡ at = omega (arith, from) in
                      ap (λ (i : ℕ). get_or (overwritten now first others) i 0) (sym there)
                      ∙ get_or_overwritten_in now first others (at - first) place
                      (omega (arith, size, inside, from))
                      ∙ in_range words first count (at - first) (omega (arith, inside, from))
                      ∙ ap (λ (i : ℕ). get_or words i 0) there
                  | inr following ↦
                      get_or_overwritten_following now first others at place
                      (omega (arith, size, following))
                      ∙ taken.rest at from ∙ same at following below
                ]
          ];
      rest = λ at after.
          get_or_overwritten_following now first others at place (omega (arith, size, after, past))
          ∙ taken.rest at (omega (arith, after, past));
    }

-- of a page the first word is taken, where the rest of it is the same in both
pub taken_first : (was words now : List ℕ) (first next : ℕ) → AreTaken was words now first →
    first < length words →
    ((at : ℕ) → first + 1 ≤ at → at < next → get_or was at 0 ≡ get_or words at 0) →
    first + 1 ≤ next → AreTaken was words (set now first (get_or words first 0)) next
taken_first was words now first next taken within same past =
    let word = get_or words first 0 in
    let here : first < length now = omega (arith, within, taken.long) in
    let beside : (at : ℕ) → (at ≡ first → ⊥) → get_or (set now first word) at 0 ≡ get_or now at 0 =
    λ at other. get_or-set_other now first at word 0 other in
    record {
      long = length-set now first word ∙ taken.long;
      taken = λ at below.
          elim (cases_lt at first)
          as (λ _. get_or (set now first word) at 0 ≡ get_or words at 0) [
            | inl before ↦
                beside at (λ is. omega (arith, is, before)) ∙ taken.taken at before
            | inr from ↦ elim (cases_eq at first)
                as (λ _. get_or (set now first word) at 0 ≡ get_or words at 0) [
                  | inl is ↦
                      ap (λ (i : ℕ). get_or (set now first word) i 0) is
                      ∙ get_or-set_same now first word 0 here
                      ∙ ap (λ (i : ℕ). get_or words i 0) (sym is)
                  | inr other ↦
                      beside at (λ is. absurd (other is)) ∙ taken.rest at from
                      ∙ same at (let more : first + 1 ≤ at = elim (cases_lt first at) as (λ _. first + 1 ≤ at) [
                        | inl after ↦ omega (arith, after)
                        | inr up_to ↦
                            let is : at ≡ first = omega (arith, from, up_to) in
                            absurd (other is)
                      ] in more) below
                ]
          ];
      rest = λ at after.
          beside at (λ is. omega (arith, is, after, past)) ∙ taken.rest at (omega (arith, after, past));
    }

-- after the last word both are 0
pub same_past : (was words : List ℕ) (at : ℕ) → length was ≡ length words → length words ≤ at →
    get_or was at 0 ≡ get_or words at 0
same_past was words at long past =
    get_or_past was at 0 (omega (arith, long, past)) ∙ sym (get_or_past words at 0 past)

-- and so they are after the first word of a page that neither has used
pub same_unused : (was words : List ℕ) (used also : List Bool) (number at : ℕ) →
    AreUnused was used → AreUnused words also → get_or used number false ≡ false →
    get_or also number false ≡ false → number * 1024 + 1 ≤ at → at < number * 1024 + 1024 →
    get_or was at 0 ≡ get_or words at 0
same_unused was words used also number at was_unused unused one other from below =
    let here : number ≡ at / 1024 = omega (arith, from, below) in
    let following : at % 1024 ≡ 0 → ⊥ = λ none. omega (arith, from, below, none) in
    was_unused.zeros at following (ap (λ (n : ℕ). get_or used n false) (sym here) ∙ one)
    ∙ sym (unused.zeros at following (ap (λ (n : ℕ). get_or also n false) (sym here) ∙ other))

-- where all pages are used, nothing is said of any word
pub all_used : (words : List ℕ) → length words ≤ 262144 → AreUnused words (replicate 256 true)
all_used words most = record {
  zeros = λ index _ unused.
      elim (cases_lt (index / 1024) 256) as (λ _. get_or words index 0 ≡ 0) [
        | inl page ↦
            let both : true ≡ false
            = sym (get_or-replicate 256 (index / 1024) true false page) ∙ unused in
            absurd (cc)
        | inr past ↦ get_or_past words index 0 (omega (arith, past, most))
      ];
}
