-- Lines that are judged, and one line more.
use Rattle.std.proofs.Common.{◌≡◌, ℕ, ◌+◌, ◌<◌, List, [], ◌∷◌, ◌++◌, length, get_or, drop, Option, refl, ap, ◌∙◌, subst, drop-cons, add-one}
use Rattle.l6_trace.specs.Judging.{Judging, IsAnswered, IsJudged, findings_in, findings_of}
use Rattle.l6_trace.specs.declared.finding.Finding.{Finding}
use Rattle.l6_trace.specs.declared.call.Line.{Line}

pub judged_on : (first : Judging) (lines : List Line) (founds : List (Option Finding)) (last : Judging)
    (line : Line) (found : Option Finding) (next : Judging) → IsJudged first lines founds last
    → IsAnswered last line.call line.reply found next
    → IsJudged first (lines ++ line ∷ []) (founds ++ found ∷ []) next
judged_on first [] [] last line found next judged answered = (
  next,
  subst (λ (j : Judging). IsAnswered j line.call line.reply found next) judged answered,
  refl,
)
judged_on first [] (one ∷ founds) last line found next judged answered = absurd judged
judged_on first (one ∷ lines) [] last line found next judged answered = absurd judged
judged_on first (one ∷ lines) (other ∷ founds) last line found next judged answered = (
  judged.0,
  judged.1,
  judged_on judged.0 lines founds last line found next judged.2 answered,
)

-- the findings from an index on
pub findings_on : (founds : List (Option Finding)) (index : ℕ) (none : Option Finding) → index < length founds
    → findings_in (drop index founds)
    ≡ findings_in (drop (index + 1) founds) + findings_of (get_or founds index none)
findings_on founds index none within =
    ap findings_in (drop-cons founds index none within) ∙ rw add-one refl
