-- Each deck spells a program or has a fault, and never both.
use Rattle.std.proofs.Common.{◌≡◌, ◌⊎◌, inl, inr, ℕ, ◌+◌, List, [], ◌∷◌, ◌++◌, cond, is_some, Bool, true, false, Option, Some, None, IfSome, IfOk, IfErr, Result, Ok, Err, refl, sym, ap, ◌∙◌}
use Rattle.std.specs.Option.{option_map}
use Rattle.l6_prog.specs.declared.exit.Exit.{Exit}
use Rattle.l6_prog.specs.declared.exit.Exit.TheVariants.{Next, Label as ToLabel, Done, Fail}
use Rattle.l6_group.specs.declared.label.Label.{Label}
use Rattle.l6_card.specs.declared.cards.PlacedLabel.{PlacedLabel}
use Rattle.l6_card.specs.DeckFault.{DeckFault}
use Rattle.l6_card.specs.Fault.{fault_of}
use Rattle.l6_card.specs.ReadsAs.{ReadsAs}
use Rattle.l6_card.specs.Statement.{DeckStatementParts}
use Rattle.l6_card.proofs.Settling.{reads_without_fault, reads_in_one_way, reads_only_without_fault}
use Rattle.l6_asm.specs.declared.fault.AsmFault.{AsmFault}
use Rattle.l6_asm.specs.inner.MakesOrFails.{MakesOrFails}
use Rattle.l6_asm.specs.AssemblyFault.{AssemblyFault, unread, twice_labelled, no_label, assembly_fault}
use Rattle.l6_asm.specs.Assembled.{Assembled}
use Rattle.l6_asm.specs.Labels.{number_of, with_label, and_then, labels_after, labels_of}
use Rattle.l6_asm.specs.Resolution.{resolved, found_on, operation_of, exit_of, onto_made, each_made, statement_of, statements_of}
use Rattle.l6_asm.specs.Spells.{assembled, Spells, SpellsNothing, IsFault, IsUnspelled, SpellsJust, SpellsOrFails, NeverBoth, SpellsInOneWay}

-- a fault, if there is one, is of labels
abbrev is_of_labels : {A : Type 0} → Result A AssemblyFault → Bool
is_of_labels (Ok made) = true
is_of_labels (Err (unread objection)) = false
is_of_labels (Err other) = true

then_of_labels : {A B : Type 0} (one : Result A AssemblyFault) (step : A → Result B AssemblyFault) →
    is_of_labels one ≡ true → ((made : A) → is_of_labels (step made) ≡ true) →
    is_of_labels (and_then one step) ≡ true
then_of_labels (Ok made) step own later = later made
then_of_labels (Err (unread objection)) step own later = absurd (cc)
then_of_labels (Err (twice_labelled card)) step own later = refl
then_of_labels (Err (no_label card)) step own later = refl

given_of_labels : (there : Bool) (card : ℕ) (labels : List (Label × ℕ)) →
    is_of_labels {A = List (Label × ℕ)} (cond there (Err (twice_labelled card)) (Ok labels)) ≡ true
given_of_labels true card labels = refl
given_of_labels false card labels = refl

label_of_labels : (labels : List (Label × ℕ)) (number : ℕ) (given : Option PlacedLabel) →
    is_of_labels (with_label labels number given) ≡ true
label_of_labels labels number None = refl
label_of_labels labels number (Some given) =
    given_of_labels (is_some (number_of labels given.label)) given.card
    (labels ++ (given.label, number) ∷ [])

after_of_labels : (written : List DeckStatementParts) (labels : List (Label × ℕ)) (number : ℕ) →
    is_of_labels (labels_after labels number written) ≡ true
after_of_labels [] labels number = refl
after_of_labels (one ∷ written) labels number =
    then_of_labels (with_label labels number one.label)
    (λ more. labels_after more (number + 1) written)
    (label_of_labels labels number one.label) (λ more. after_of_labels written more (number + 1))

onto_of_labels : {A : Type 0} (one : Result A AssemblyFault)
    (others : Result (List A) AssemblyFault) →
    is_of_labels one ≡ true → is_of_labels others ≡ true →
    is_of_labels (onto_made one others) ≡ true
onto_of_labels (Ok made) (Ok others) own later = refl
onto_of_labels (Ok made) (Err (unread objection)) own later = absurd (cc)
onto_of_labels (Ok made) (Err (twice_labelled card)) own later = refl
onto_of_labels (Ok made) (Err (no_label card)) own later = refl
onto_of_labels (Err (unread objection)) others own later = absurd (cc)
onto_of_labels (Err (twice_labelled card)) others own later = refl
onto_of_labels (Err (no_label card)) others own later = refl

each_of_labels : {A B : Type 0} (make : A → Result B AssemblyFault) →
    ((x : A) → is_of_labels (make x) ≡ true) →
    (xs : List A) → is_of_labels (each_made make xs) ≡ true
each_of_labels make each [] = refl
each_of_labels make each (x ∷ xs) =
    onto_of_labels (make x) (each_made make xs) (each x) (each_of_labels make each xs)

found_of_labels : {A : Type 0} (card : ℕ) (found : Option A) →
    is_of_labels (found_on card found) ≡ true
found_of_labels card None = refl
found_of_labels card (Some found) = refl

exit_of_labels : (labels : List (Label × ℕ)) (given : Exit PlacedLabel) →
    is_of_labels (exit_of labels given) ≡ true
exit_of_labels labels Next = refl
exit_of_labels labels (ToLabel named) =
    found_of_labels named.card (option_map ToLabel (number_of labels named.label))
exit_of_labels labels Done = refl
exit_of_labels labels Fail = refl

statement_of_labels : (labels : List (Label × ℕ)) (written : DeckStatementParts) →
    is_of_labels (statement_of labels written) ≡ true
statement_of_labels labels written =
    then_of_labels (each_made (operation_of labels) written.operations) _
    (each_of_labels (operation_of labels)
    (λ group. found_of_labels group.card (resolved labels group.reading)) written.operations)
    (λ operations. then_of_labels (exit_of labels written.exit) _
    (exit_of_labels labels written.exit) (λ leaving. refl))

assembled_of_labels : (written : List DeckStatementParts) → is_of_labels (assembled written) ≡ true
assembled_of_labels written =
    then_of_labels (labels_of written) _ (after_of_labels written [] 0)
    (λ labels. then_of_labels (statements_of labels written) _
    (then_of_labels (each_made (statement_of labels) written) _
    (each_of_labels (statement_of labels) (statement_of_labels labels) written) (λ made. refl))
    (λ statements. refl))

-- the fault of a deck's statements, if they have one, is the deck's
pub fault_comes : (deck : List ℕ) (written : List DeckStatementParts) (fault : AssemblyFault) →
    ReadsAs deck written → assembled written ≡ Err fault → IsFault deck fault
fault_comes deck written (unread objection) reads stops =
    let never = sym (assembled_of_labels written) ∙ ap is_of_labels stops in
    absurd (cc)
fault_comes deck written (twice_labelled card) reads stops =
    record { written = written; reads = reads; stops = stops }
fault_comes deck written (no_label card) reads stops =
    record { written = written; reads = reads; stops = stops }

stopped_spells : (deck : List ℕ) (written : List DeckStatementParts) (fault : AssemblyFault) →
    ReadsAs deck written →
    assembled written ≡ Err fault → SpellsNothing deck
stopped_spells deck written fault reads stops assembly spells =
    let same : spells.written ≡ written =
    reads_in_one_way deck spells.written written spells.reads reads in
    let both : Ok assembly ≡ Err fault = sym spells.whole ∙ ap assembled same ∙ stops in
    absurd (cc)

pub never_both : NeverBoth
never_both deck assembly (unread objection) spells fault =
    let none = reads_only_without_fault deck spells.written spells.reads in
    absurd (cc)
never_both deck assembly (twice_labelled card) spells fault =
    stopped_spells deck fault.written (twice_labelled card) fault.reads fault.stops assembly spells
never_both deck assembly (no_label card) spells fault =
    stopped_spells deck fault.written (no_label card) fault.reads fault.stops assembly spells

read_either : (deck : List ℕ) (written : List DeckStatementParts)
    (made : Result Assembled AssemblyFault)
    →
    ReadsAs deck written → assembled written ≡ made →
    ((assembly : Assembled) × Spells deck assembly) ⊎ ((fault : AssemblyFault) × IsFault deck fault)
read_either deck written (Ok assembly) reads whole =
    inl (assembly, record { written = written; reads = reads; whole = whole })
read_either deck written (Err fault) reads stops =
    inr (fault, fault_comes deck written fault reads stops)

either_by : (deck : List ℕ) (found : Option DeckFault) → fault_of deck ≡ found →
    ((assembly : Assembled) × Spells deck assembly) ⊎ ((fault : AssemblyFault) × IsFault deck fault)
either_by deck (Some objection) found = inr (unread objection, found)
either_by deck None none =
    let read = reads_without_fault deck none in
    read_either deck read.0 (assembled read.0) read.1 refl

pub spells_or_fails : SpellsOrFails
spells_or_fails deck = either_by deck (fault_of deck) refl

-- the fault that the statements of a deck have
pub read_unspelled : (deck : List ℕ) (written : List DeckStatementParts)
    (found : Option AssemblyFault) →
    ReadsAs deck written → IfSome found (λ fault. assembled written ≡ Err fault) →
    IfSome found (IsUnspelled deck)
read_unspelled deck written None reads stops = tt
read_unspelled deck written (Some fault) reads stops =
    record {
      first = fault_comes deck written fault reads stops;
      nothing =
          stopped_spells deck written fault reads stops;
    }

-- the program that a deck spells is the only one
pub spells_just : (deck : List ℕ) (written : List DeckStatementParts) (assembly : Assembled) →
    ReadsAs deck written → assembled written ≡ Ok assembly → SpellsJust deck assembly
spells_just deck written assembly reads whole =
    record {
      spells = record { written = written; reads = reads; whole = whole };
      only = λ other spells.
          let same : spells.written ≡ written =
          reads_in_one_way deck spells.written written spells.reads reads in
          let both : Ok other ≡ Ok assembly = sym spells.whole ∙ ap assembled same ∙ whole in
          cc (both);
    }

pub spells_in_one_way : SpellsInOneWay
spells_in_one_way deck assembly other spells spells' =
    (spells_just deck spells.written assembly spells.reads spells.whole).only other spells'

-- an answer that gives what is made of a deck's statements is the deck's fault, if it is one
pub shows_fault : (deck : List ℕ) (written : List DeckStatementParts)
    (result : Result Assembled AsmFault)
    →
    ReadsAs deck written → MakesOrFails result (λ assembly. assembly) (assembled written) →
    IfErr result (λ fault. IfSome (assembly_fault fault) (IsUnspelled deck))
shows_fault deck written (Ok assembly) reads gives = tt
shows_fault deck written (Err fault) reads gives =
    read_unspelled deck written (assembly_fault fault) reads gives

-- and the program with its labels, if it is one
pub shows_assembly : (deck : List ℕ) (written : List DeckStatementParts)
    (result : Result Assembled AsmFault) →
    ReadsAs deck written → MakesOrFails result (λ assembly. assembly) (assembled written) →
    IfOk result (SpellsJust deck)
shows_assembly deck written (Ok assembly) reads gives =
    spells_just deck written assembly reads gives
shows_assembly deck written (Err fault) reads gives = tt
