-- What cards denote is what is made by taking their pieces.
use Rattle.std.proofs.Common.{◌≡◌, ℕ, ◌+◌, ◌<◌, ◌≤◌, List, [], ◌∷◌, ◌++◌, length, true, false, Bool, ltb, Option, Some, None, Ok, Err, refl, sym, ap, ◌∙◌, arith, length-append, append_assoc}
use Rattle.std.proofs.lemmas.Bool.{ltb-true}
use Rattle.l6_card.specs.declared.cards.PlacedLabel.{PlacedLabel}
use Rattle.l6_card.specs.Numerals.{most_deck_statements, most_continuations}
use Rattle.l6_card.specs.Items.{items_of}
use Rattle.l6_card.specs.Card.{Body, Card, skipped, plain, labelled, continued, unknown}
use Rattle.l6_card.specs.Statement.{DeckStatementParts, label_on}
use Rattle.l6_card.specs.declared.objection.Objection.{Objection}
use Rattle.l6_card.specs.declared.objection.Reason.TheVariants.{Column, Unfinished, TooManyStatements, TooManyContinuations}
use Rattle.l6_card.specs.Objection.{card_objects}
use Rattle.l6_card.specs.inner.StatementBuilder.{StatementBuilder, new_builder, is_whole, statement_from, builder_of}
use Rattle.l6_card.specs.Pieces.{begins, label, items_on, pieces_of_cards}
use Rattle.l6_card.specs.inner.Pass.{Stage, first_stage, stage_if, after_pieces}
use Rattle.l6_card.specs.ReadsAs.{placed_items, continued_items, continuations, DenotesFrom, CardsDenote}
use Rattle.l6_card.specs.Fault.{and_then, column_objects}
use Rattle.l6_card.proofs.Building.{denotes_of}
use Rattle.l6_card.proofs.Steps.{opened, went_if, went_labelled, Taken, items_taken, builder_of_append}

-- what cards say that were taken within a statement: its items, and the statements after it
pub record OpenSaid (cards : List Card) (known final : Stage) : Type 0 where
  pub builder : StatementBuilder
  pub made : builder_of known.builder (continued_items cards) ≡ Some builder
  pub whole : is_whole builder ≡ true
  pub few : known.continuations ≤ most_continuations →
      known.continuations + continuations cards ≤ most_continuations
  pub statements : List DeckStatementParts
  pub denote : CardsDenote cards statements
  pub all : final.statements ≡ known.statements ++ statement_from known.label builder ∷ statements
  pub fits : length known.statements + 1 ≤ most_deck_statements →
      length known.statements + 1 + length statements ≤ most_deck_statements

-- what a statement's first card and those after it say that were taken after these statements
record Begun (given : Option PlacedLabel) (body : Body) (cards : List Card)
    (over : List DeckStatementParts) (final : Stage) : Type 0 where
  pub statement : DeckStatementParts
  pub denotes : DenotesFrom given body cards statement
  pub statements : List DeckStatementParts
  pub denote : CardsDenote cards statements
  pub all : final.statements ≡ over ++ statement ∷ statements
  pub fits : length over + 1 + length statements ≤ most_deck_statements

begun_denoted : (given : Option PlacedLabel) (body : Body) (cards : List Card)
    (over : List DeckStatementParts) (final : Stage) →
    length over < most_deck_statements →
    (taken : Taken (items_of body.offset body.columns) body.card
    (opened over given new_builder body 0) final
    (pieces_of_cards cards)) →
    OpenSaid cards (opened over given taken.builder body 0) final →
    Begun given body cards over final
begun_denoted given body cards over final room taken denoted =
    record {
      statement = statement_from given denoted.builder;
      denotes =
          denotes_of given (placed_items body ++ continued_items cards) (continuations cards)
          (statement_from given denoted.builder)
          (record {
            builder = denoted.builder;
            items_make =
                builder_of_append (placed_items body) (continued_items cards)
                new_builder taken.builder taken.made
                ∙ denoted.made;
            whole = denoted.whole;
            statement_is = refl;
            few = omega (arith, denoted.few (omega arith));
          });
      statements = denoted.statements;
      denote = denoted.denote;
      all = denoted.all;
      fits = denoted.fits (omega arith);
    }

-- the cards after one that begins a statement, within the statement before
open_begun : (cards : List Card) (statements : List DeckStatementParts)
    (given : Option PlacedLabel)
    (builder : StatementBuilder) (last : Body) (further : ℕ) (final : Stage) →
    is_whole builder ≡ true →
    (next : List DeckStatementParts) →
    CardsDenote cards next →
    final.statements ≡ (statements ++ statement_from given builder ∷ []) ++ next →
    length (statements ++ statement_from given builder ∷ []) + length next ≤ most_deck_statements →
    continued_items cards ≡ [] → continuations cards ≡ 0 →
    OpenSaid cards (opened statements given builder last further) final
open_begun cards statements given builder last further final whole next denote all fits none_more
    none =
    record {
      builder = builder;
      made = ap (builder_of builder) none_more;
      whole = whole;
      few = λ few. omega arith;
      statements = next;
      denote = denote;
      all = all ∙ append_assoc statements (statement_from given builder ∷ []) next;
      fits = λ few. omega (arith, length-append statements (statement_from given builder ∷ []));
    }

-- an unknown card is never taken
unknown_stops : (holds : Bool) (objection other : Objection) (known final : Stage) →
    and_then (stage_if holds objection known) (λ next. Err other) ≡ Ok final → ⊥
unknown_stops true objection other known final taken = cc
unknown_stops false objection other known final taken = cc

pub open_denoted : (cards : List Card) (statements : List DeckStatementParts)
    (given : Option PlacedLabel)
    (builder : StatementBuilder) (last : Body) (further : ℕ) (final : Stage) →
    after_pieces (opened statements given builder last further) (pieces_of_cards cards)
    ≡ Ok final →
    OpenSaid cards (opened statements given builder last further) final
open_denoted [] statements given builder last further final taken =
    let over = statements ++ statement_from given builder ∷ [] in
    let next : Stage =
    record {
      statements = over;
      is_open = false;
      label = None;
      builder = new_builder;
      body = last;
      continuations = further;
    } in
    let went = went_if (is_whole builder) (card_objects last Unfinished) next (λ known. Ok known) final taken in
    let same : next ≡ final = cc (went.rest) in
    record {
      builder = builder;
      made = refl;
      whole = went.sound;
      few = λ few. omega arith;
      statements = [];
      denote = tt;
      all = sym (ap (λ (k : Stage). k.statements) same);
      fits = λ few. omega arith;
    }
open_denoted (skipped ∷ cards) statements given builder last further final taken =
    let denoted = open_denoted cards statements given builder last further final taken in
    record {
      builder = denoted.builder;
      made = denoted.made;
      whole = denoted.whole;
      few = denoted.few;
      statements = denoted.statements;
      denote = denoted.denote;
      all = denoted.all;
      fits = denoted.fits;
    }
open_denoted (continued body ∷ cards) statements given builder last further final taken =
    let rest = pieces_of_cards cards in
    let went = went_if (ltb further most_continuations)
    (column_objects body.card TooManyContinuations)
    (opened statements given builder body (further + 1))
    (λ next. after_pieces next (items_on body ++ rest)) final taken in
    let items =
    items_taken (items_of body.offset body.columns) body.card
    (opened statements given builder body (further + 1))
    final rest went.rest in
    let denoted =
    open_denoted cards statements given items.builder body
    (further + 1) final items.rest_goes in
    let room = ltb-true further most_continuations went.sound in
    record {
      builder = denoted.builder;
      made = builder_of_append (placed_items body) (continued_items cards)
          builder items.builder items.made
          ∙ denoted.made;
      whole = denoted.whole;
      few = λ few. omega (arith, denoted.few (omega arith));
      statements = denoted.statements;
      denote = denoted.denote;
      all = denoted.all;
      fits = denoted.fits;
    }
open_denoted (plain body ∷ cards) statements given builder last further final taken =
    let over = statements ++ statement_from given builder ∷ [] in
    let closed : Stage =
    record {
      statements = over;
      is_open = false;
      label = None;
      builder = new_builder;
      body = last;
      continuations = further;
    } in
    let rest = pieces_of_cards cards in
    let ended = went_if (is_whole builder) (card_objects last Unfinished) closed
    (λ next. after_pieces next (begins body ∷ items_on body ++ rest)) final taken in
    let began =
    went_if (ltb (length over) most_deck_statements)
    (card_objects body TooManyStatements)
    (opened over None new_builder body 0)
    (λ next. after_pieces next (items_on body ++ rest)) final ended.rest in
    let items =
    items_taken (items_of body.offset body.columns) body.card
    (opened over None new_builder body 0)
    final rest began.rest in
    let denoted = open_denoted cards over None items.builder body 0 final items.rest_goes in
    let begun =
    begun_denoted None body cards over final (ltb-true (length over) most_deck_statements began.sound)
    items denoted in
    open_begun (plain body ∷ cards) statements given builder last further final ended.sound
    (begun.statement ∷ begun.statements) (begun.denotes, begun.denote) begun.all
    (omega (arith, begun.fits)) refl refl
open_denoted (labelled columns body ∷ cards) statements given builder last further final taken =
    let over = statements ++ statement_from given builder ∷ [] in
    let closed : Stage =
    record {
      statements = over;
      is_open = false;
      label = None;
      builder = new_builder;
      body = last;
      continuations = further;
    } in
    let rest = pieces_of_cards cards in
    let ended = went_if (is_whole builder) (card_objects last Unfinished) closed
    (λ next. after_pieces next
    (begins body ∷ label body.card columns ∷ items_on body ++ rest)) final taken in
    let began =
    went_if (ltb (length over) most_deck_statements)
    (card_objects body TooManyStatements)
    (opened over None new_builder body 0)
    (λ next. after_pieces next (label body.card columns ∷ items_on body ++ rest))
    final ended.rest in
    let found = went_labelled body.card columns (label_on body.card columns)
    (opened over None new_builder body 0)
    (λ next. after_pieces next (items_on body ++ rest)) final began.rest in
    let items =
    items_taken (items_of body.offset body.columns) body.card
    (opened over (Some found.given) new_builder body 0)
    final rest found.rest in
    let denoted =
    open_denoted cards over
    (Some found.given) items.builder body 0 final items.rest_goes in
    let begun =
    begun_denoted (Some found.given) body cards over final
    (ltb-true (length over) most_deck_statements began.sound) items denoted in
    open_begun (labelled columns body ∷ cards)
    statements given builder last further final ended.sound
    (begun.statement ∷ begun.statements) ((found.given, found.is_found, begun.denotes), begun.denote)
    begun.all (omega (arith, begun.fits)) refl refl
open_denoted (unknown number ∷ cards) statements given builder last further final taken =
    absurd (unknown_stops (is_whole builder) (card_objects last Unfinished) (column_objects number Column) _ final taken)

-- what cards say that were taken from the start
pub record CardsSaid (cards : List Card) (final : Stage) : Type 0 where
  pub statements : List DeckStatementParts
  pub denote : CardsDenote cards statements
  pub begins : continuations cards ≡ 0
  pub all : final.statements ≡ statements
  pub fits : length statements ≤ most_deck_statements

pub cards_denoted : (cards : List Card) (final : Stage) →
    after_pieces first_stage (pieces_of_cards cards) ≡ Ok final → CardsSaid cards final
cards_denoted [] final taken =
    let same : first_stage ≡ final = cc in
    record {
      statements = [];
      denote = tt;
      begins = refl;
      all =
          sym (ap (λ (k : Stage). k.statements) same);
      fits = omega arith;
    }
cards_denoted (skipped ∷ cards) final taken =
    let denoted = cards_denoted cards final taken in
    record {
      statements = denoted.statements;
      denote = denoted.denote;
      begins = denoted.begins;
      all =
          denoted.all;
      fits = denoted.fits;
    }
cards_denoted (continued body ∷ cards) final taken = absurd (cc)
cards_denoted (plain body ∷ cards) final taken =
    let rest = pieces_of_cards cards in
    let items =
    items_taken (items_of body.offset body.columns) body.card
    (opened [] None new_builder body 0) final rest taken in
    let denoted = open_denoted cards [] None items.builder body 0 final items.rest_goes in
    let begun = begun_denoted None body cards [] final (omega arith) items denoted in
    record {
      statements = begun.statement ∷ begun.statements;
      denote = (begun.denotes, begun.denote);
      begins = refl;
      all = begun.all;
      fits = omega (arith, begun.fits);
    }
cards_denoted (labelled columns body ∷ cards) final taken =
    let rest = pieces_of_cards cards in
    let found = went_labelled body.card columns (label_on body.card columns)
    (opened [] None new_builder body 0)
    (λ next. after_pieces next (items_on body ++ rest)) final taken in
    let items =
    items_taken (items_of body.offset body.columns) body.card
    (opened [] (Some found.given) new_builder body 0)
    final rest found.rest in
    let denoted =
    open_denoted cards [] (Some found.given) items.builder body 0 final items.rest_goes in
    let begun = begun_denoted (Some found.given) body cards [] final (omega arith) items denoted in
    record {
      statements = begun.statement ∷ begun.statements;
      denote = ((found.given, found.is_found, begun.denotes), begun.denote);
      begins = refl;
      all = begun.all;
      fits = omega (arith, begun.fits);
    }
cards_denoted (unknown number ∷ cards) final taken = absurd (cc)
