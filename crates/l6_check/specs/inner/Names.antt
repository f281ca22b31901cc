-- How findings say more missing labels.
use Rattle.std.specs.Prelude.{ℕ, ◌+◌, ◌≤◌, List, ◌++◌}
use Rattle.l6_group.specs.declared.label.Label.{Label}
use Rattle.l6_check.specs.Kept.{Say}
use Rattle.l6_check.specs.Missing.{MissingInPart, StayNearest, missing_said}
use Rattle.l6_check.specs.OnCard.{StayOnTheirCards}
use Rattle.l6_check.specs.declared.findings.Findings.{Findings}
use Rattle.l6_check.specs.declared.reason.Reason.{Reason}
use Rattle.l6_check.specs.declared.reason.Reason.TheVariants.{NoLabel}

-- how many labels a statement names at most: two in each of its 63 operations, and one in its exit
abbrev pub most_names : ℕ
most_names = 127

-- the findings say these missing labels more than before
abbrev pub SayMore : List (ℕ × Label) → Findings → Findings → Type 0
SayMore more before after =
    (things : List (ℕ × Label)) → Say missing_said things before → Say missing_said (things ++ more) after

-- these labels, which are missing among those given, are added by at most so many findings, each about columns
-- of its card, and each with what is nearly its label
pub record AreAdded (given : List (Label × ℕ)) (more : List (ℕ × Label)) (most : ℕ)
    (before after : Findings) : Type 0 where
  pub said : SayMore more before after
  pub count : after.count ≤ before.count + most
  pub places : StayOnTheirCards before after
  pub near : StayNearest given before after

-- the findings say more than before just the labels that a part names and no card gives
pub record SayMissingIn (given : List (Label × ℕ)) (number : ℕ) (part : List (List ℕ))
    (before after : Findings) : Type 0 where
  pub here : List (ℕ × Label)
  pub are : MissingInPart given number part here
  pub said : SayMore here before after

-- the reason is that no card gives a label
abbrev pub is_no_label : Reason → Type 0
is_no_label (NoLabel missing) = Unit {0}
is_no_label other = ⊥
