-- The worked examples compute.
use Rattle.std.proofs.Common.{◌≡◌, inl, inr, List, [], ◌∷◌, ◌++◌, Some, None, codes, refl, ap, subst, sym, lit≤}
use Rattle.l6_card.specs.declared.cards.PlacedLabel.{PlacedLabel}
use Rattle.l6_card.specs.Numerals.{card_width}
use Rattle.l6_card.specs.Items.{PlacedItem, group, word, item_on}
use Rattle.l6_card.specs.Card.{Body, Card, plain, labelled, continued, cards_of}
use Rattle.l6_card.specs.ReadsAs.{placed_items, continued_items, continuations, Denotes, DenotesFrom, CardsDenote}
use Rattle.l6_card.specs.Worked.{LoopIsRead, HalfIsRefused, loop_deck, set_statement, count_statement, TestIsRefused, WordIsRefused}

-- the bodies of the cards
abbrev set_body : Body
set_body = record { card = 1; offset = 1; front = codes " "; columns = codes "(A,E,3)" }

abbrev if_body : Body
if_body = record { card = 2; offset = 13; front = codes "NEXT"; columns = codes " IF (A,G,0)" }

abbrev then_body : Body
then_body = record { card = 3; offset = 26; front = codes "+"; columns = codes " THEN (A,PD)(A,S,1) NEXT" }

-- the cards
abbrev loop_cards : List Card
loop_cards = plain set_body ∷ labelled (codes "NEXT") if_body ∷ continued then_body ∷ []

cards_computed : cards_of loop_deck ≡ loop_cards
unfolding card_width
cards_computed = refl

-- the items of the second statement: its condition word, the group of its test, and what is
-- from THEN on
abbrev first_item : PlacedItem
first_item = item_on 2 (word 14 16 (codes "IF"))

abbrev test_items : List PlacedItem
test_items = item_on 2 (group 17 (codes "A,G,0")) ∷ []

abbrev operation_items : List PlacedItem
operation_items = item_on 3 (group 32 (codes "A,PD")) ∷ item_on 3 (group 38 (codes "A,S,1")) ∷ []

abbrev last_items : List PlacedItem
last_items = item_on 3 (word 46 50 (codes "NEXT")) ∷ []

abbrev then_items : List PlacedItem
then_items = item_on 3 (word 27 31 (codes "THEN")) ∷ operation_items ++ last_items

abbrev count_items : List PlacedItem
count_items = first_item ∷ test_items ++ then_items

-- the label of the second
abbrev next_label : PlacedLabel
next_label = record { label = codes "NEXT"; card = 2 }

set_denotes : DenotesFrom None set_body (labelled (codes "NEXT") if_body ∷ continued then_body ∷ [])
    set_statement
set_denotes = record {
  labelled = refl;
  denote = inl (record {
    condition = refl;
    tests = refl;
    denote = record {
      groups = item_on 1 (group 1 (codes "A,E,3")) ∷ [];
      last = [];
      in_order = refl;
      operations = refl;
      exit = refl;
    };
  });
  fit = refl;
  few = lit≤ tt;
}

count_denotes : Denotes (Some next_label) count_items 1 count_statement
count_denotes = record {
  labelled = refl;
  denote = inr (record {
    first = first_item;
    groups = test_items;
    others = then_items;
    following = operation_items ++ last_items;
    in_order = refl;
    condition = refl;
    tests = refl;
    leads = refl;
    denote = record {
      groups = operation_items;
      last = last_items;
      in_order = refl;
      operations = refl;
      exit = refl;
    };
  });
  fit = refl;
  few = lit≤ tt;
}

count_computed : placed_items if_body ++ continued_items (continued then_body ∷ []) ≡ count_items
count_computed = refl

loop_denote : CardsDenote loop_cards (set_statement ∷ count_statement ∷ [])
loop_denote = (
  set_denotes,
  (
    (
      next_label,
      refl,
      subst (λ (items : List PlacedItem). Denotes (Some next_label) items 1 count_statement)
          (sym count_computed) count_denotes,
    ),
    tt,
  ),
)

pub loop_read : LoopIsRead
loop_read = record {
  begins = ap continuations cards_computed;
  cards =
      subst (λ (cards : List Card). CardsDenote cards (set_statement ∷ count_statement ∷ []))
      (sym cards_computed) loop_denote;
  fits = lit≤ tt;
}

pub half_refused : HalfIsRefused
unfolding card_width
half_refused = (refl, refl)

pub test_refused : TestIsRefused
unfolding card_width
test_refused = refl

pub word_refused : WordIsRefused
unfolding card_width
word_refused = refl
