-- A listing is served in two parts: the lines of the cards, and what is after them.
use Rattle.std.proofs.Common.{◌≡◌, ℕ, ◌^◌, ◌<◌, ◌≤◌, List, [], ◌++◌, length, Option, Result, Ok, Err, OnOk, IfErr, refl, sym, ap, ◌∙◌, arith, append-nil, length-append}
use Rattle.std.specs.Prelude.{min}
use Rattle.std.specs.Io.KnownBytes.{Appends}
use Rattle.std.proofs.KnownBytes.{Appends-trans}
use Rattle.l6_word.specs.Lines.{lines_of}
use Rattle.l6_card.specs.Numerals.{most_deck_bytes}
use Rattle.l6_asm.specs.Assembled.{Assembled}
use Rattle.l6_asm.specs.Listing.{cards_listed, end_listed, listing_of}
use Rattle.l6_asm.specs.Spells.{Spells}
use Rattle.l6_asm.proofs.ListingLengths.{cards_counted}
use Rattle.l6_device.specs.Numerals.{most_counted}
use Rattle.l6_device.specs.Transfer.{EndsWriting}
use Rattle.l6_device.specs.declared.fault.RunFault.{RunFault}
use Rattle.l6_run.specs.Serves.{Serves}
use Rattle.l6_run.specs.Texts.{WritesListing}
use Rattle.l6_run.proofs.Servings.{front_served}
use Rattle.l6_run.proofs.WordLines.{written_front, written_none}

module _ (Answers : Unit {0} → List ℕ → Type 0) (Refuses : RunFault → Type 0)
    (cards end : List ℕ) (few : length (cards ++ end) ≤ most_counted)
    (answers : Answers tt (cards ++ end)) where
  -- the cards did not go out whole
  pub cards_served : (old new : Option (List ℕ)) (fault : RunFault) →
      EndsWriting cards 0 old new fault → Serves Answers Refuses old new (Err fault)
  cards_served old new fault ends =
      let text = cards ++ end in
      front_served (Unit {0}) Answers Refuses tt text old new fault few answers
      (written_front text text cards end 0 old old new (written_none text old) refl fault ends)

  -- the cards went out, and then the end, or a front of it
  pub both_served : (before : ℕ) (old mid new : Option (List ℕ)) (result : Result (Unit {0}) RunFault) →
      Appends old mid cards → before ≡ min (length cards) most_counted →
      OnOk result (Appends mid new end) → IfErr result (EndsWriting end before mid new) →
      Serves Answers Refuses old new result
  both_served before old mid new (Ok _) first counted ok err = record {
    text = cards ++ end;
    answers = answers;
    out = Appends-trans old mid new cards end first ok;
  }
  both_served before old mid new (Err fault) first counted ok err =
      front_served (Unit {0}) Answers Refuses tt (cards ++ end) old new fault few answers
      (written_front (cards ++ end) end end [] before old mid new
      (record { front = cards; are = refl; out = first; counted = counted })
      (sym (append-nil end)) fault err)

-- both are the listing of the deck
module _ (deck cards end : List ℕ) (assembly : Assembled) (fits : length deck ≤ most_deck_bytes)
    (spells : Spells deck assembly)
    (are : cards ≡ cards_listed assembly.program 1 0 (lines_of deck))
    (is : end ≡ end_listed assembly) where
  pub both_listed : WritesListing deck (cards ++ end)
  unfolding listing_of
  both_listed = record {
    fits = fits;
    assembly = assembly;
    spelled = spells;
    written = ap (λ text. text ++ end) are
        ∙ ap (λ text. cards_listed assembly.program 1 0 (lines_of deck) ++ text) is;
  }

  -- and can be counted, if the end is no longer than a list in memory can be
  pub both_counted : length end < 2 ^ 63 → length (cards ++ end) ≤ most_counted
  both_counted small =
      omega (
        arith,
        small,
        length-append cards end,
        ap length are,
        cards_counted deck assembly fits spells,
      )
