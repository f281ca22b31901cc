-- How findings that are added say one thing more.
use Rattle.std.proofs.Common.{◌≡◌, ℕ, ◌<◌, ◌≤◌, suc, Bool, true, false, cond, ltb, ltb-true, ltb-false, leb-true, List, [], ◌∷◌, ◌++◌, map, length, take, Option, Some, All, arith, refl, sym, ap, ◌∙◌, length-append, length-take, take_all, append-nil, subst, IfOk, OnOk, Result, Ok, Err}
use Rattle.std.proofs.lemmas.List.{take-append-le}
use Rattle.std.proofs.lemmas.List.Elements.{All-push}
use Rattle.l6_check.specs.Warnings.{card_if}
use Rattle.l6_check.specs.declared.finding.Finding.{Finding}
use Rattle.l6_check.specs.declared.findings.Findings.{Findings}
use Rattle.l6_check.specs.Kept.{most_findings, are_full, IsSkipped, HasNone, IsAdded, Say}

said_append : {A : Type 0} (said : Finding → Option A) (front : List Finding) (finding : Finding) →
    map said (front ++ finding ∷ []) ≡ map said front ++ said finding ∷ []
said_append said [] finding = refl
said_append said (first ∷ front) finding = ap (λ l. said first ∷ l) (said_append said front finding)

some_append : {A : Type 0} (things : List A) (thing : A) →
    map Some (things ++ thing ∷ []) ≡ map Some things ++ Some thing ∷ []
some_append [] thing = refl
some_append (first ∷ things) thing = ap (λ l. Some first ∷ l) (some_append things thing)

said_length : {A : Type 0} (said : Finding → Option A) (kept : List Finding) →
    length (map said kept) ≡ length kept
said_length said [] = refl
said_length said (first ∷ kept) = ap (λ n. suc n) (said_length said kept)

some_length : {A : Type 0} (things : List A) → length (map Some things) ≡ length things
some_length [] = refl
some_length (first ∷ things) = ap (λ n. suc n) (some_length things)

kept_next : {A : Type 0} (said : Finding → Option A) (most : ℕ) (things : List A) (thing : A)
    (kept : List Finding) (finding : Finding) (room : Bool) →
    map said kept ≡ map Some (take most things) → said finding ≡ Some thing →
    ltb (length kept) most ≡ room →
    map said (cond room (kept ++ finding ∷ []) kept) ≡ map Some (take most (things ++ thing ∷ []))
kept_next said most things thing kept finding true before says tested =
    let count = sym (said_length said kept) ∙ ap length before ∙ some_length (take most things)
    ∙ length-take most things in
    let few : length things < most = omega (arith, count, ltb-true (length kept) most tested) in
    let more = length-append things (thing ∷ []) in
    let all = take_all most things (omega (arith, few)) in
    let all_more = take_all most (things ++ thing ∷ []) (omega (arith, few, more)) in
    said_append said kept finding
    ∙ ap (λ l. l ++ said finding ∷ []) (before ∙ ap (map Some) all)
    ∙ ap (λ o. map Some things ++ o ∷ []) says
    ∙ sym (some_append things thing)
    ∙ sym (ap (map Some) all_more)
kept_next said most things thing kept finding false before says tested =
    let count = sym (said_length said kept) ∙ ap length before ∙ some_length (take most things)
    ∙ length-take most things in
    let full : most ≤ length things = omega (arith, count, ltb-false (length kept) most tested) in
    before ∙ sym (ap (map Some) (take-append-le most things (thing ∷ []) full))

-- nothing is said by no findings
pub none_said : {A : Type 0} (said : Finding → Option A) (findings : Findings) →
    HasNone findings → Say said [] findings
none_said said findings none = record {
  kept = ap (map said) none.0;
  counted = none.1;
}

-- whatever holds of each of no findings
pub none_all : (P : Finding → Type 0) (findings : Findings) → HasNone findings →
    All P findings.kept.items
none_all P findings none =
    subst (All P) (sym none.0) (λ k d within. absurd (omega (arith, within)))

-- a finding that is added says one thing more
pub said_next : {A : Type 0} (said : Finding → Option A) (things : List A) (thing : A)
    (before after : Findings) (finding : Finding) →
    Say said things before → said finding ≡ Some thing → IsAdded before finding after →
    Say said (things ++ thing ∷ []) after
said_next said things thing before after finding says one added = record {
  kept = ap (map said) added.kept ∙ kept_next said most_findings things thing before.kept.items finding
      (ltb (length before.kept.items) most_findings) says.kept one refl;
  counted = let more = length-append things (thing ∷ []) in omega (arith, added.counted, says.counted, more);
}

-- a card that fails a test is not said
pub none_next : (said : Finding → Option ℕ) (card : ℕ) (passes : Bool) (cards : List ℕ) (findings : Findings) →
    passes ≡ false → Say said cards findings → Say said (cards ++ card_if passes card) findings
none_next said card true cards findings fails says = absurd (cc)
none_next said card false cards findings fails says =
    subst (λ (l : List ℕ). Say said l findings) (sym (append-nil cards)) says

-- a card that passes a test is said
pub one_next : (said : Finding → Option ℕ) (card : ℕ) (passes : Bool) (cards : List ℕ)
    (before after : Findings) (finding : Finding) → passes ≡ true → said finding ≡ Some card →
    IsAdded before finding after → Say said cards before → Say said (cards ++ card_if passes card) after
one_next said card true cards before after finding holds one added says =
    said_next said cards card before after finding says one added
one_next said card false cards before after finding holds one added says = absurd (cc)

-- a finding that is counted and not kept says one thing more, too
pub skipped_next : {A : Type 0} (said : Finding → Option A) (things : List A) (thing : A)
    (before after : Findings) → are_full before.kept.items ≡ true → IsSkipped before after →
    Say said things before → Say said (things ++ thing ∷ []) after
skipped_next said things thing before after full skipped says =
    let kept = before.kept.items in
    let count = sym (said_length said kept) ∙ ap length says.kept
    ∙ some_length (take most_findings things) ∙ length-take most_findings things in
    let most = leb-true most_findings (length kept) full in
    let enough : most_findings ≤ length things = omega (arith, count, most) in
    let more = length-append things (thing ∷ []) in
    record {
      kept = ap (map said) skipped.kept ∙ says.kept
          ∙ sym (ap (map Some) (take-append-le most_findings things (thing ∷ []) enough));
      counted = omega (arith, skipped.counted, says.counted, more);
    }

-- what follows where a call succeeds
pub on_ok : {X E : Type 0} {P Q : Type 0} (result : Result X E) → OnOk result P → (P → Q) → OnOk result Q
on_ok (Ok x) holds leads = leads holds
on_ok (Err e) holds leads = tt

-- what follows from what holds of a value
pub if_ok : {X E : Type 0} {P Q : X → Type 0} (result : Result X E) → IfOk result P →
    ((value : X) → P value → Q value) → IfOk result Q
if_ok (Ok value) holds leads = leads value holds
if_ok (Err error) holds leads = tt

-- what holds at any rate holds where a call succeeds
pub held_ok : {X E : Type 0} {P : Type 0} (result : Result X E) → P → OnOk result P
held_ok (Ok x) holds = holds
held_ok (Err e) holds = tt

-- what holds of each finding that is kept holds of one more
pub kept_all : (P : Finding → Type 0) (kept : List Finding) (finding : Finding) (room : Bool) →
    All P kept → P finding → All P (cond room (kept ++ finding ∷ []) kept)
kept_all P kept finding true each one = All-push P kept finding each one
kept_all P kept finding false each one = each

pub added_all : (P : Finding → Type 0) (before after : Findings) (finding : Finding) →
    IsAdded before finding after → P finding → All P before.kept.items → All P after.kept.items
added_all P before after finding added one each =
    subst (All P) (sym added.kept)
    (kept_all P before.kept.items finding (ltb (length before.kept.items) most_findings) each one)
