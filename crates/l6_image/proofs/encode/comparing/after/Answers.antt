use Rattle.std.proofs.Common.{◌≡◌, ℕ, ◌+◌, true, false, List, ◌++◌, length, take, drop, Option, None, Some, Bor, sym, ap, ◌∙◌, IfSome, IfNone, take-append-drop}
use Rattle.std.specs.Cmp.Lexicographic.{pointwise, same_text, other_text}
use Rattle.std.specs.Option.{MatchOption}
use Rattle.std.specs.Prelude.{nat_eq}
use Rattle.std.proofs.Math.Seq.{take-append_seam}
use Rattle.l6_image.proofs.encode.comparing.after.Goals as goal

-- words begin with these, and the rest follows; or they don't
abbrev Stripped : List ℕ → List ℕ → Option (Bor (List ℕ)) → Type 0
Stripped words first found =
    MatchOption found (pointwise nat_eq (take (length first) words) first ≡ false)
    (λ rest. (pointwise nat_eq (take (length first) words) first ≡ true)
    × (rest.now ≡ drop (length first) words)
    × (length rest.now + length first ≡ length words))

found_after : (words first : List ℕ) (found : Option (Bor (List ℕ))) → Stripped words first found →
    IfSome found (λ rest. words ≡ first ++ rest.now)
found_after words first None cases = tt
found_after words first (Some rest) cases =
    sym (take-append-drop (length first) words)
    ∙ ap (λ front. front ++ drop (length first) words) (same_text _ _ (sym cases.0))
    ∙ ap (λ back. first ++ back) (sym cases.1)

none_after : (words first : List ℕ) (found : Option (Bor (List ℕ))) → Stripped words first found →
    IfNone found ((rest : List ℕ) → words ≡ first ++ rest → ⊥)
none_after words first None cases = λ rest is.
    other_text _ _ (sym cases) (ap (take (length first)) is ∙ take-append_seam first rest)
none_after words first (Some rest) cases = tt

pub returns-clause-found : goal.returns-clause-found
returns-clause-found c =
    found_after c.args.words.now c.args.first.now c.strip_prefix.result c.strip_prefix.ensures.cases

pub returns-clause-none : goal.returns-clause-none
returns-clause-none c =
    none_after c.args.words.now c.args.first.now c.strip_prefix.result c.strip_prefix.ensures.cases
