-- How findings explain objections, one after another.
use Rattle.std.proofs.Common.{◌≡◌, ℕ, ◌≤◌, ◌<◌, zero, suc, Bool, true, false, cond, ltb, ltb-true, ltb-false, leb-true, List, [], ◌∷◌, ◌++◌, map, length, take, Option, Some, None, arith, refl, sym, ap, ◌∙◌, length-append, length-take, take_all, append-nil, option_to_list, subst}
use Rattle.std.proofs.lemmas.List.{take-append-le}
use Rattle.l6_card.specs.DeckFault.{form, limit}
use Rattle.l6_card.specs.Objection.{is_limit}
use Rattle.l6_card.specs.declared.objection.Objection.{Objection}
use Rattle.l6_card.specs.declared.objection.Reason.{Reason as Kind}
use Rattle.l6_card.specs.declared.objection.Reason.TheVariants as kind
use Rattle.l6_asm.specs.AssemblyFault.{unread}
use Rattle.l6_check.specs.declared.finding.Finding.{Finding}
use Rattle.l6_check.specs.declared.findings.Findings.{Findings}
use Rattle.l6_check.specs.declared.reason.FormReason.{FormReason}
use Rattle.l6_check.specs.declared.reason.FormReason.TheVariants as no_form
use Rattle.l6_check.specs.declared.reason.LimitReason.{LimitReason}
use Rattle.l6_check.specs.declared.reason.LimitReason.TheVariants as too_much
use Rattle.l6_check.specs.declared.reason.Reason.{Reason}
use Rattle.l6_check.specs.declared.reason.Reason.TheVariants.{Form, Limit, TwiceLabelled, NoLabel, Warning}
use Rattle.l6_check.specs.Faults.{fault_on, fault_of_finding, form_kind, limit_kind, kind_of}
use Rattle.l6_check.specs.Explains.{Explains}
use Rattle.l6_check.specs.Kept.{most_findings, are_full, IsSkipped, HasNone, IsAdded, Say, Match, AreOf}
use Rattle.l6_check.specs.Statements.{objected}

match_length : {A : Type 0} (R : Finding → A → Type 0) (kept : List Finding) (things : List A) →
    Match R kept things → length kept ≡ length things
match_length R [] [] are = refl
match_length R [] (thing ∷ things) are = absurd are
match_length R (finding ∷ kept) [] are = absurd are
match_length R (finding ∷ kept) (thing ∷ things) are =
    ap (λ n. suc n) (match_length R kept things are.1)

match_append : {A : Type 0} (R : Finding → A → Type 0) (kept : List Finding) (things : List A)
    (finding : Finding) (thing : A) → Match R kept things → R finding thing →
    Match R (kept ++ finding ∷ []) (things ++ thing ∷ [])
match_append R [] [] finding thing are one = (one, tt)
match_append R [] (first ∷ things) finding thing are one = absurd are
match_append R (first ∷ kept) [] finding thing are one = absurd are
match_append R (first ∷ kept) (other ∷ things) finding thing are one =
    (are.0, match_append R kept things finding thing are.1 one)

matched_next : {A : Type 0} (R : Finding → A → Type 0) (most : ℕ) (things : List A) (thing : A)
    (kept : List Finding) (finding : Finding) (room : Bool) →
    Match R kept (take most things) → R finding thing → ltb (length kept) most ≡ room →
    Match R (cond room (kept ++ finding ∷ []) kept) (take most (things ++ thing ∷ []))
matched_next R most things thing kept finding true before one tested =
    let count = match_length R kept (take most things) before ∙ length-take most things in
    let few : length things < most = omega (arith, count, ltb-true (length kept) most tested) in
    let more = length-append things (thing ∷ []) in
    let all = take_all most things (omega (arith, few)) in
    let all_more = take_all most (things ++ thing ∷ []) (omega (arith, few, more)) in
    subst (Match R (kept ++ finding ∷ [])) (sym all_more)
    (match_append R kept things finding thing (subst (Match R kept) all before) one)
matched_next R most things thing kept finding false before one tested =
    let count = match_length R kept (take most things) before ∙ length-take most things in
    let full : most ≤ length things = omega (arith, count, ltb-false (length kept) most tested) in
    subst (Match R kept) (sym (take-append-le most things (thing ∷ []) full)) before

-- no findings are of nothing
pub none_matched : {A : Type 0} (R : Finding → A → Type 0) (findings : Findings) →
    HasNone findings → AreOf R [] findings
none_matched R findings none = record {
  kept = subst (λ (k : List Finding). Match R k (take most_findings [])) (sym none.0) tt;
  counted = none.1;
}

-- a finding that is added is of one thing more
pub matched_one : {A : Type 0} (R : Finding → A → Type 0) (things : List A) (thing : A)
    (before after : Findings) (finding : Finding) →
    AreOf R things before → R finding thing → IsAdded before finding after →
    AreOf R (things ++ thing ∷ []) after
matched_one R things thing before after finding are one added = record {
  kept = subst (λ (k : List Finding). Match R k (take most_findings (things ++ thing ∷ [])))
      (sym added.kept)
      (matched_next R most_findings things thing before.kept.items finding
      (ltb (length before.kept.items) most_findings) are.kept one refl);
  counted = let more = length-append things (thing ∷ []) in omega (arith, added.counted, are.counted, more);
}

-- so is one that is counted and not kept
pub matched_skipped : {A : Type 0} (R : Finding → A → Type 0) (things : List A) (thing : A)
    (before after : Findings) → are_full before.kept.items ≡ true → IsSkipped before after →
    AreOf R things before → AreOf R (things ++ thing ∷ []) after
matched_skipped R things thing before after full skipped are =
    let kept = before.kept.items in
    let count = match_length R kept (take most_findings things) are.kept
    ∙ length-take most_findings things in
    let most = leb-true most_findings (length kept) full in
    let enough : most_findings ≤ length things = omega (arith, count, most) in
    let more = length-append things (thing ∷ []) in
    record {
      kept = subst (λ (k : List Finding). Match R k (take most_findings (things ++ thing ∷ [])))
          (sym skipped.kept)
          (subst (Match R kept) (sym (take-append-le most_findings things (thing ∷ []) enough)) are.kept);
      counted = omega (arith, skipped.counted, are.counted, more);
    }

-- the things with those of an option that is none, and of one that is some
pub none_further : {A : Type 0} (R : Finding → A → Type 0) (things : List A) (found : Option A)
    (findings : Findings) → found ≡ None → AreOf R things findings →
    AreOf R (things ++ option_to_list found) findings
none_further R things found findings none are =
    subst (λ (l : List _). AreOf R l findings)
    (sym (append-nil things) ∙ sym (ap (λ f. things ++ option_to_list f) none)) are

pub one_further : {A : Type 0} (R : Finding → A → Type 0) (things : List A) (found : Option A)
    (thing : A) (findings : Findings) → found ≡ Some thing → AreOf R (things ++ thing ∷ []) findings →
    AreOf R (things ++ option_to_list found) findings
one_further R things found thing findings some are =
    subst (λ (l : List _). AreOf R l findings)
    (sym (ap (λ f. things ++ option_to_list f) some)) are

form_is_no_limit : (reason : FormReason) (k : Kind) → form_kind reason ≡ Some k → is_limit k ≡ false
form_is_no_limit no_form.Column k same =
    let is_one : kind.Column ≡ k = cc in
    ap is_limit (sym is_one)
form_is_no_limit no_form.ContinuesNothing k same =
    let is_one : kind.ContinuesNothing ≡ k = cc in
    ap is_limit (sym is_one)
form_is_no_limit no_form.LabelTooLong k same =
    let is_one : kind.LabelTooLong ≡ k = cc in
    ap is_limit (sym is_one)
form_is_no_limit no_form.LabelBarred k same =
    let is_one : kind.LabelBarred ≡ k = cc in
    ap is_limit (sym is_one)
form_is_no_limit no_form.Unclosed k same =
    let is_one : kind.Unclosed ≡ k = cc in
    ap is_limit (sym is_one)
form_is_no_limit no_form.Unopened k same =
    let is_one : kind.Unopened ≡ k = cc in
    ap is_limit (sym is_one)
form_is_no_limit (no_form.NoOperation fault) k same =
    let is_one : kind.NoOperation ≡ k = cc in
    ap is_limit (sym is_one)
form_is_no_limit (no_form.NoTest fault) k same =
    let is_one : kind.NoTest ≡ k = cc in
    ap is_limit (sym is_one)
form_is_no_limit no_form.TestForOperation k same =
    let is_one : kind.TestForOperation ≡ k = cc in
    ap is_limit (sym is_one)
form_is_no_limit no_form.ConditionInColumn1 k same =
    let is_one : kind.TestForOperation ≡ k = cc in
    ap is_limit (sym is_one)
form_is_no_limit no_form.OperationForTest k same =
    let is_one : kind.OperationForTest ≡ k = cc in
    ap is_limit (sym is_one)
form_is_no_limit no_form.ThenMissing k same =
    let is_one : kind.ThenMissing ≡ k = cc in
    ap is_limit (sym is_one)
form_is_no_limit no_form.SecondTest k same =
    let is_one : kind.SecondTest ≡ k = cc in
    ap is_limit (sym is_one)
form_is_no_limit no_form.AfterExit k same =
    let is_one : kind.AfterExit ≡ k = cc in
    ap is_limit (sym is_one)
form_is_no_limit no_form.NoCondition k same =
    let is_one : kind.NoCondition ≡ k = cc in
    ap is_limit (sym is_one)
form_is_no_limit no_form.NoExit k same =
    let is_one : kind.NoExit ≡ k = cc in
    ap is_limit (sym is_one)
form_is_no_limit no_form.NoThen k same =
    let is_one : kind.NoThen ≡ k = cc in
    ap is_limit (sym is_one)
form_is_no_limit no_form.Unfinished k same =
    let is_one : kind.Unfinished ≡ k = cc in
    ap is_limit (sym is_one)
form_is_no_limit no_form.UnfinishedBeforeThen k same =
    let is_one : kind.Unfinished ≡ k = cc in
    ap is_limit (sym is_one)
form_is_no_limit no_form.Unread k same = absurd (cc)

limit_is_one : (reason : LimitReason) → is_limit (limit_kind reason) ≡ true
limit_is_one too_much.Statements = refl
limit_is_one too_much.Continuations = refl
limit_is_one too_much.Groups = refl

kind_fault : (reason : Reason) (k : Kind) (card : ℕ) → kind_of reason ≡ Some k →
    fault_on card reason ≡ Some (unread (cond (is_limit k) (limit card) (form card)))
kind_fault (Form reason) k card same =
    ap (λ b. Some (unread (cond b (limit card) (form card)))) (sym (form_is_no_limit reason k same))
kind_fault (Limit reason) k card same =
    let is_one : limit_kind reason ≡ k = cc in
    ap (λ b. Some (unread (cond b (limit card) (form card))))
    (sym (ap is_limit (sym is_one) ∙ limit_is_one reason))
kind_fault (TwiceLabelled first) k card same = absurd (cc)
kind_fault (NoLabel missing) k card same = absurd (cc)
kind_fault (Warning warning) k card same = absurd (cc)

-- a finding that says an objection says its fault
explains_fault : (finding : Finding) (objection : Objection) → Explains finding objection →
    fault_of_finding finding ≡ Some (objected objection)
explains_fault finding objection explains =
    kind_fault finding.reason objection.reason finding.card explains.kind_is
    ∙ ap (λ c. Some (unread (cond (is_limit objection.reason) (limit c) (form c)))) explains.card

matched_faults : (kept : List Finding) (objections : List Objection) →
    Match Explains kept objections →
    map fault_of_finding kept ≡ map Some (map objected objections)
matched_faults [] [] are = refl
matched_faults [] (objection ∷ objections) are = absurd are
matched_faults (finding ∷ kept) [] are = absurd are
matched_faults (finding ∷ kept) (objection ∷ objections) are =
    ap (λ f. f ∷ map fault_of_finding kept) (explains_fault finding objection are.0)
    ∙ ap (λ l. Some (objected objection) ∷ l) (matched_faults kept objections are.1)

take_map : (count : ℕ) (objections : List Objection) →
    map objected (take count objections) ≡ take count (map objected objections)
take_map zero objections = refl
take_map (suc count) [] = refl
take_map (suc count) (objection ∷ objections) =
    ap (λ l. objected objection ∷ l) (take_map count objections)

map_count : (objections : List Objection) → length (map objected objections) ≡ length objections
map_count [] = refl
map_count (objection ∷ objections) = ap (λ n. suc n) (map_count objections)

-- findings that say objections say their faults
pub faults_said : (objections : List Objection) (findings : Findings) →
    AreOf Explains objections findings → Say fault_of_finding (map objected objections) findings
faults_said objections findings are = record {
  kept = matched_faults findings.kept.items (take most_findings objections) are.kept
      ∙ ap (map Some) (take_map most_findings objections);
  counted = are.counted ∙ sym (map_count objections);
}
