-- The worked examples compute.
use Rattle.std.proofs.Common.{inl, List, [], ◌∷◌, Some, None, codes, refl, lit≤}
use Rattle.l6_prog.specs.declared.condition.Cond.TheVariants.{Always}
use Rattle.l6_prog.specs.declared.operation.Op.TheVariants.{Call, PrintLine}
use Rattle.l6_prog.specs.declared.exit.Exit.TheVariants.{Next, Label as ToLabel}
use Rattle.l6_card.specs.Numerals.{card_width}
use Rattle.l6_card.specs.Items.{group, word, item_on}
use Rattle.l6_card.specs.Statement.{DeckStatementParts}
use Rattle.l6_asm.specs.Worked.{TwiceIsRefused, MissingIsRefused}

-- what the first deck says
abbrev twice : List DeckStatementParts
twice =
    record {
      label = Some (record { label = codes "NEXT"; card = 1 });
      condition = Always;
      tests = [];
      operations =
          record { reading = PrintLine; card = 1; span = record { offset = 5; length = 4 } } ∷ [];
      exit = Next;
    }
    ∷ record {
      label = None;
      condition = Always;
      tests = [];
      operations = [];
      exit = ToLabel (record { label = codes "NO"; card = 2 });
    }
    ∷ record {
      label = Some (record { label = codes "NEXT"; card = 3 });
      condition = Always;
      tests = [];
      operations = [];
      exit = Next;
    }
    ∷ []

pub twice_refused : TwiceIsRefused
unfolding card_width
twice_refused = record {
  written = twice;
  reads = record {
    begins = refl;
    cards = (
      (
        _,
        refl,
        record {
          labelled = refl;
          denote = inl (record {
            condition = refl;
            tests = refl;
            denote = record {
              groups = item_on 1 (group 5 (codes "PL")) ∷ [];
              last = [];
              in_order = refl;
              operations = refl;
              exit = refl;
            };
          });
          fit = refl;
          few = lit≤ tt;
        },
      ),
      (
        record {
          labelled = refl;
          denote = inl (record {
            condition = refl;
            tests = refl;
            denote = record {
              groups = [];
              last = item_on 2 (word 11 13 (codes "NO")) ∷ [];
              in_order = refl;
              operations = refl;
              exit = refl;
            };
          });
          fit = refl;
          few = lit≤ tt;
        },
        (
          (
            _,
            refl,
            record {
              labelled = refl;
              denote = inl (record {
                condition = refl;
                tests = refl;
                denote = record {
                  groups = [];
                  last = [];
                  in_order = refl;
                  operations = refl;
                  exit = refl;
                };
              });
              fit = refl;
              few = lit≤ tt;
            },
          ),
          tt,
        ),
      ),
    );
    fits = lit≤ tt;
  };
  stops = refl;
}

-- what the second deck says
abbrev missing : List DeckStatementParts
missing =
    record {
      label = Some (record { label = codes "LOOP"; card = 1 });
      condition = Always;
      tests = [];
      operations =
          record { reading = PrintLine; card = 1; span = record { offset = 5; length = 4 } }
          ∷ record {
            reading = Call (codes "NO") None;
            card = 3;
            span = record { offset = 13; length = 7 };
          } ∷ [];
      exit = ToLabel (record { label = codes "LOOP"; card = 3 });
    }
    ∷ []

pub missing_refused : MissingIsRefused
unfolding card_width
missing_refused = record {
  written = missing;
  reads = record {
    begins = refl;
    cards = (
      (
        _,
        refl,
        record {
          labelled = refl;
          denote = inl (record {
            condition = refl;
            tests = refl;
            denote = record {
              groups = item_on 1 (group 5 (codes "PL")) ∷ item_on 3 (group 13 (codes "NO,DO")) ∷ [];
              last = item_on 3 (word 21 25 (codes "LOOP")) ∷ [];
              in_order = refl;
              operations = refl;
              exit = refl;
            };
          });
          fit = refl;
          few = lit≤ tt;
        },
      ),
      tt,
    );
    fits = lit≤ tt;
  };
  stops = refl;
}
