-- Dialogues that go on.
use Rattle.std.proofs.Common.{◌≡◌, ℕ, Bool, true, false, if◌then◌else◌, List, [], ◌∷◌, ◌++◌, Option, Some, None, refl, sym, ap, subst, ◌∙◌, append_assoc}
use Rattle.std.proofs.lemmas.List.{append-nil}
use Rattle.l6_session.specs.Dialogue.{Event, Exchange, GoesOn, Lead, Talked, asked, events_of, given, shown}

-- ---- events
pub goes_nowhere : (before : Option (List Event)) → GoesOn before before []
goes_nowhere None = tt
goes_nowhere (Some events) = sym (append-nil events)

pub goes_on_there : (before between passed : Option (List Event)) (one other : List Event) →
    GoesOn before between one → GoesOn between passed other → GoesOn before passed (one ++ other)
goes_on_there None between passed one other first second = tt
goes_on_there (Some before) None passed one other first second = absurd first
goes_on_there (Some before) (Some between) None one other first second = absurd second
goes_on_there (Some before) (Some between) (Some passed) one other first second =
    second ∙ ap (λ events. events ++ other) first ∙ append_assoc before one other

events_more : (prompt : List ℕ) (exchanges : List Exchange) (line text : List ℕ) →
    events_of prompt (exchanges ++ (line, text) ∷ [])
    ≡ events_of prompt exchanges ++ shown prompt ∷ given line ∷ shown text ∷ []
events_more prompt [] line text = refl
events_more prompt ((first, answer) ∷ others) line text =
    ap (λ events. shown prompt ∷ given first ∷ shown answer ∷ events)
    (events_more prompt others line text)

-- ---- conversations
module _ {State : Type 0} (Answers : State → List ℕ → List ℕ → Type 0) (after : State → List ℕ → State)
    (ends : State → List ℕ → Bool) where
  lead-more : (old now new : State) (last newest : List ℕ) (exchanges : List Exchange)
      (line text : List ℕ) → Lead Answers after ends old last exchanges now newest →
      ends now (asked newest line) ≡ false → Answers now (asked newest line) text →
      new ≡ after now (asked newest line) →
      Lead Answers after ends old last (exchanges ++ (line, text) ∷ []) new (asked newest line)
  lead-more old now new last newest [] line text lead goes_on answers leads = (
    subst (λ (s : State). ends s (asked last line) ≡ false) lead.0
        (subst (λ (l : List ℕ). ends now (asked l line) ≡ false) lead.1 goes_on),
    subst (λ (s : State). Answers s (asked last line) text) lead.0
        (subst (λ (l : List ℕ). Answers now (asked l line) text) lead.1 answers),
    (
      leads ∙ ap (λ (l : List ℕ). after now (asked l line)) lead.1
          ∙ ap (λ (s : State). after s (asked last line)) lead.0,
      ap (λ (l : List ℕ). asked l line) lead.1,
    ),
  )
  lead-more old now new last newest ((first, answer) ∷ others) line text lead goes_on answers leads = (
    lead.0,
    lead.1,
    lead-more (after old (asked last first)) now new (asked last first) newest others line text
        lead.2 goes_on answers leads,
  )

  pub talked-not-yet : (prompt : List ℕ) (state : State) (last : List ℕ) (before : Option (List Event)) →
      Talked Answers after ends prompt state state last last before before
  talked-not-yet prompt state last before =
      record { exchanges = []; lead = (refl, refl); events = goes_nowhere before }

  -- a line more that was answered
  pub talked-more : (prompt : List ℕ) (old now new : State) (last newest : List ℕ)
      (before between passed : Option (List Event)) (line text : List ℕ) →
      Talked Answers after ends prompt old now last newest before between →
      ends now (asked newest line) ≡ false → Answers now (asked newest line) text →
      new ≡ after now (asked newest line) →
      GoesOn between passed (shown prompt ∷ given line ∷ shown text ∷ []) →
      Talked Answers after ends prompt old new last (asked newest line) before passed
  talked-more prompt old now new last newest before between passed line text talked goes_on answers
      leads goes =
      record {
        exchanges = talked.exchanges ++ (line, text) ∷ [];
        lead = lead-more old now new last newest talked.exchanges line text talked.lead goes_on answers
            leads;
        events = subst (GoesOn before passed) (sym (events_more prompt talked.exchanges line text))
            (goes_on_there before between passed (events_of prompt talked.exchanges)
            (shown prompt ∷ given line ∷ shown text ∷ []) talked.events goes);
      }

-- ---- what passes at a console
pub read_one : (before between : Option (List Event)) (line : List ℕ) (is_one : Bool) →
    is_one ≡ true → GoesOn before between (if is_one then given line ∷ [] else []) →
    GoesOn before between (given line ∷ [])
read_one before between line is_one one read =
    subst (λ (b : Bool). GoesOn before between (if b then given line ∷ [] else [])) one read

-- a prompt, and then a line
pub asked_for : (before between passed : Option (List Event)) (prompt line : List ℕ) →
    GoesOn before between (shown prompt ∷ []) → GoesOn between passed (given line ∷ []) →
    GoesOn before passed (shown prompt ∷ given line ∷ [])
asked_for before between passed prompt line prompted read =
    goes_on_there before between passed (shown prompt ∷ []) (given line ∷ []) prompted read

-- and then a text
pub answered_to : (before between passed : Option (List Event)) (prompt line text : List ℕ) →
    GoesOn before between (shown prompt ∷ given line ∷ []) → GoesOn between passed (shown text ∷ []) →
    GoesOn before passed (shown prompt ∷ given line ∷ shown text ∷ [])
answered_to before between passed prompt line text read answered =
    goes_on_there before between passed (shown prompt ∷ given line ∷ []) (shown text ∷ []) read answered
