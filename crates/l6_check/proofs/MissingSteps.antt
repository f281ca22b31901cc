-- How findings say more missing labels.
use Rattle.std.proofs.Common.{◌≡◌, ℕ, ◌+◌, ◌*◌, ◌≤◌, ◌<◌, true, false, List, [], ◌∷◌, ◌++◌, length, take, get_or, is_some, Some, All, arith, append_assoc, append-nil, take_all, sym, ap, ◌∙◌, subst}
use Rattle.std.specs.List.{flat_map}
use Rattle.l6_group.specs.declared.label.Label.{Label}
use Rattle.l6_check.specs.declared.finding.Finding.{Finding}
use Rattle.l6_check.specs.declared.findings.Findings.{Findings}
use Rattle.l6_check.specs.Kept.{are_full, IsAdded, IsSkipped, Say}
use Rattle.l6_check.specs.Labels.{first_card}
use Rattle.l6_check.specs.Missing.{SaysNearest, StayNearest, missing_if, missing_said, missing_unless}
use Rattle.l6_check.specs.OnCard.{IsOnItsCard, StayOnTheirCards}
use Rattle.l6_check.specs.inner.Names.{AreAdded, SayMore}
use Rattle.l6_check.proofs.Flat.{flat_next}
use Rattle.l6_check.proofs.Keeping.{added_all, said_next, skipped_next}

-- nothing more is said by the same findings
pub say_none : (more : List (ℕ × Label)) (findings : Findings) → more ≡ [] → SayMore more findings findings
say_none more findings none things says =
    subst (λ (l : List (ℕ × Label)). Say missing_said l findings)
    (sym (append-nil things) ∙ sym (ap (λ m. things ++ m) none)) says

-- what is said first comes before what is said then
pub say_both : (one other : List (ℕ × Label)) (before between after : Findings) →
    SayMore one before between → SayMore other between after → SayMore (one ++ other) before after
say_both one other before between after first second things says =
    subst (λ (l : List (ℕ × Label)). Say missing_said l after) (append_assoc things one other)
    (second (things ++ one) (first things says))

-- a label that a card gives is not missing
pub is_given : (given : List (Label × ℕ)) (card : ℕ) (label : Label) →
    is_some (first_card given label) ≡ true → missing_if given card label ≡ []
is_given given card label found = ap (λ b. missing_unless b card label) found

pub is_not_given : (given : List (Label × ℕ)) (card : ℕ) (label : Label) →
    is_some (first_card given label) ≡ false → missing_if given card label ≡ (card, label) ∷ []
is_not_given given card label found = ap (λ b. missing_unless b card label) found

-- a missing label is said by a finding that is added, or by one that is only counted
pub say_added : (more : List (ℕ × Label)) (card : ℕ) (label : Label) (before after : Findings)
    (finding : Finding) → more ≡ (card, label) ∷ [] → missing_said finding ≡ Some (card, label) →
    IsAdded before finding after → SayMore more before after
say_added more card label before after finding is says added things said =
    subst (λ (l : List (ℕ × Label)). Say missing_said l after) (sym (ap (λ m. things ++ m) is))
    (said_next missing_said things (card, label) before after finding said says added)

pub say_skipped : (more : List (ℕ × Label)) (card : ℕ) (label : Label) (before after : Findings) →
    more ≡ (card, label) ∷ [] → are_full before.kept.items ≡ true → IsSkipped before after →
    SayMore more before after
say_skipped more card label before after is full skipped things said =
    subst (λ (l : List (ℕ × Label)). Say missing_said l after) (sym (ap (λ m. things ++ m) is))
    (skipped_next missing_said things (card, label) before after full skipped said)

-- findings of which none is new stay on their cards
pub skipped_stay : (before after : Findings) → IsSkipped before after → StayOnTheirCards before after
skipped_stay before after skipped each = subst (All IsOnItsCard) (sym skipped.kept) each

skipped_near : (given : List (Label × ℕ)) (before after : Findings) → IsSkipped before after →
    StayNearest given before after
skipped_near given before after skipped each =
    subst (All (λ (f : Finding). SaysNearest given f.reason)) (sym skipped.kept) each

-- no missing label is added where the findings stay
pub none_added : (given : List (Label × ℕ)) (more : List (ℕ × Label)) (most : ℕ) (findings : Findings) →
    more ≡ [] → AreAdded given more most findings findings
none_added given more most findings none = record {
  said = say_none more findings none;
  count = omega arith;
  places = λ each. each;
  near = λ each. each;
}

-- a missing label is added by a finding that is added, or by one that is only counted
pub one_added : (given : List (Label × ℕ)) (more : List (ℕ × Label)) (card : ℕ) (label : Label)
    (before after : Findings) (finding : Finding) → more ≡ (card, label) ∷ [] →
    missing_said finding ≡ Some (card, label) → IsOnItsCard finding → SaysNearest given finding.reason →
    IsAdded before finding after → AreAdded given more 1 before after
one_added given more card label before after finding is says place near added = record {
  said = say_added more card label before after finding is says added;
  count = omega (arith, added.counted);
  places = added_all IsOnItsCard before after finding added place;
  near = added_all (λ (f : Finding). SaysNearest given f.reason) before after finding added near;
}

pub one_skipped : (given : List (Label × ℕ)) (more : List (ℕ × Label)) (card : ℕ) (label : Label)
    (before after : Findings) → more ≡ (card, label) ∷ [] → are_full before.kept.items ≡ true →
    IsSkipped before after → AreAdded given more 1 before after
one_skipped given more card label before after is full skipped = record {
  said = say_skipped more card label before after is full skipped;
  count = omega (arith, skipped.counted);
  places = skipped_stay before after skipped;
  near = skipped_near given before after skipped;
}

-- those that are added first come before those that are added then
pub both_added : (given : List (Label × ℕ)) (one other : List (ℕ × Label)) (few more most : ℕ)
    (before between after : Findings) → few + more ≤ most → AreAdded given one few before between →
    AreAdded given other more between after → AreAdded given (one ++ other) most before after
both_added given one other few more most before between after bound first second = record {
  said = say_both one other before between after first.said second.said;
  count = omega (arith, bound, first.count, second.count);
  places = λ each. second.places (first.places each);
  near = λ each. second.near (first.near each);
}

-- those of one more thing of a list come last
pub next_added : {X : Type 0} (given : List (Label × ℕ)) (named : X → List (ℕ × Label)) (each : ℕ)
    (xs : List X) (i : ℕ) (x : X) (before between after : Findings) → i < length xs → x ≡ get_or xs i x →
    AreAdded given (flat_map named (take i xs)) (each * i) before between →
    AreAdded given (named x) each between after →
    AreAdded given (flat_map named (take (i + 1) xs)) (each * (i + 1)) before after
next_added given named each xs i x before between after within is first second =
    subst (λ (l : List (ℕ × Label)). AreAdded given l (each * (i + 1)) before after)
    (sym (flat_next named xs i x within is))
    (both_added given (flat_map named (take i xs)) (named x) (each * i) each (each * (i + 1)) before between after
    (omega arith) first second)

-- those of all things of a list are added at its end
pub all_added : {X : Type 0} (given : List (Label × ℕ)) (named : X → List (ℕ × Label)) (each : ℕ)
    (xs : List X) (i : ℕ) (before after : Findings) → length xs ≤ i → i ≤ length xs →
    AreAdded given (flat_map named (take i xs)) (each * i) before after →
    AreAdded given (flat_map named xs) (each * length xs) before after
all_added given named each xs i before after end within added =
    let there : i ≡ length xs = omega (arith, end, within) in
    subst (λ (l : List (ℕ × Label)). AreAdded given l (each * length xs) before after)
    (ap (flat_map named) (take_all i xs end))
    (subst (λ n. AreAdded given (flat_map named (take i xs)) (each * n) before after) there added)
