-- Which findings are kept.
use Rattle.std.specs.Prelude.{◌≡◌, ℕ, ◌+◌, List, [], ◌∷◌, ◌++◌, map, length, take, nat_lt, nat_le, Bool, Option, Some, if◌then◌else◌}
use Rattle.l6_check.specs.declared.finding.Finding.{Finding}
use Rattle.l6_check.specs.declared.findings.Findings.{Findings}

-- how many findings of a kind are kept
abbrev pub most_findings : ℕ
most_findings = 100

-- no finding is kept, and none is counted
abbrev pub HasNone : Findings → Type 0
HasNone findings = (findings.kept.items ≡ []) × (findings.count ≡ 0)

-- the findings that are kept, with one more where there is room for it
abbrev pub with_finding : List Finding → Finding → List Finding
with_finding kept finding =
    if nat_lt (length kept) most_findings then kept ++ finding ∷ [] else kept

-- the findings with one more
pub record IsAdded (before : Findings) (finding : Finding) (after : Findings) : Type 0 where
  pub kept : after.kept.items ≡ with_finding before.kept.items finding
  pub counted : after.count ≡ before.count + 1

-- so many findings are kept that no more are
abbrev pub are_full : List Finding → Bool
are_full kept = nat_le most_findings (length kept)

-- one more finding was counted, and not kept
pub record IsSkipped (before after : Findings) : Type 0 where
  pub kept : after.kept.items ≡ before.kept.items
  pub counted : after.count ≡ before.count + 1

-- the findings say these things, each what the finding at its place says: the first are kept, and all
-- are counted
pub record Say {A : Type 0} (said : Finding → Option A) (things : List A) (findings : Findings) :
    Type 0 where
  pub kept : map said findings.kept.items ≡ map Some (take most_findings things)
  pub counted : findings.count ≡ length things

-- the findings say this thing more than before
abbrev pub SaysMore : {A : Type 0} → (Finding → Option A) → A → Findings → Findings → Type 0
SaysMore said thing before after =
    (things : List _) → Say said things before → Say said (things ++ thing ∷ []) after

-- each finding is so related to the thing at its place, and there are as many
abbrev pub Match : {A : Type 0} → (Finding → A → Type 0) → List Finding → List A → Type 0
Match R [] [] = Unit {0}
Match R (finding ∷ findings) (thing ∷ things) = R finding thing × Match R findings things
Match R findings things = ⊥

-- the findings are so related to these things, each to the one at its place: the first are kept, and all
-- are counted
pub record AreOf {A : Type 0} (R : Finding → A → Type 0) (things : List A) (findings : Findings) :
    Type 0 where
  pub kept : Match R findings.kept.items (take most_findings things)
  pub counted : findings.count ≡ length things
