-- Where all of a printout was sent, nothing of it is left to be sent.
use Rattle.std.proofs.Common.{◌≡◌, ◌≤◌, ℕ, List, ◌++◌, length, drop, sym, ap, ◌∙◌, subst, append-nil}
use Rattle.std.specs.Str.Lossy.{utf8_lossy}
use Rattle.std.proofs.lemmas.List.{drop_all}
use Rattle.l6_dap.specs.Debugged.{Debugged}
use Rattle.l6_dap.specs.Printed.{output_of, unsent}

none_left : (output before : List ℕ) (printed : ℕ) → length output ≤ printed →
    before ≡ before ++ utf8_lossy (drop printed output)
unfolding utf8_lossy
none_left output before printed within =
    sym (ap (λ (it : List ℕ). before ++ utf8_lossy it) (drop_all printed output within) ∙ append-nil before)

-- so it is with a run of which the output is this
pub all_sent : (inside it : Debugged) (output before : List ℕ) → inside ≡ it → output ≡ output_of inside.run →
    length output ≤ inside.printed → before ≡ before ++ unsent it
all_sent inside it output before same is within =
    subst (λ (one : Debugged). before ≡ before ++ unsent one) same
    (subst (λ (bytes : List ℕ). before ≡ before ++ utf8_lossy (drop inside.printed bytes)) is
    (none_left output before inside.printed within))
