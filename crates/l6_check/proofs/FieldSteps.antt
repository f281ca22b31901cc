-- How the fields that are used and not defined are found by marks.
use Rattle.std.proofs.Common.{◌≡◌, ℕ, zero, suc, ◌<◌, Bool, true, false, cond, List, [], ◌∷◌, ◌++◌, replicate, refl, ap, ◌∙◌, arith}
use Rattle.std.specs.Prelude.{not, ◌&&◌}
use Rattle.std.specs.List.{flat_map}
use Rattle.l6_prog.specs.Numerals.{name_count}
use Rattle.l6_prog.specs.Statement.{Parts}
use Rattle.l6_check.specs.Fields.{fields_of, defined_in, is_used, is_defined, is_undefined, undefined_below, undefined_fields}
use Rattle.l6_check.specs.inner.Marks.{marked, is_marked}
use Rattle.l6_check.proofs.Marking.{fresh_marked}

-- a field that is undefined is one more
pub field_more : (undefined : Bool) (number : ℕ) → undefined ≡ true →
    cond undefined (number ∷ []) [] ≡ number ∷ []
field_more true number is = refl
field_more false number is = absurd (cc)

-- answers that agree below a number find the same fields
below_same : (used defined used' defined' : ℕ → Bool) (end : ℕ) →
    ((number : ℕ) → number < end → used number ≡ used' number) →
    ((number : ℕ) → number < end → defined number ≡ defined' number) →
    undefined_below used defined end ≡ undefined_below used' defined' end
below_same used defined used' defined' zero one other = refl
below_same used defined used' defined' (suc last) one other =
    let within : last < suc last = omega arith in
    let rest = λ (b : Bool). cond b (last ∷ []) [] in
    ap (λ l. l ++ rest (is_undefined used defined last))
    (below_same used defined used' defined' last
    (λ number less. one number (omega (arith, less))) (λ number less. other number (omega (arith, less))))
    ∙ ap (λ b. undefined_below used' defined' last ++ rest (b && not (defined last))) (one last within)
    ∙ ap (λ b. undefined_below used' defined' last ++ rest (used' last && not b)) (other last within)

-- what marks say is undefined is what a program uses and does not define
pub undefined_same : (program : List Parts) (used defined : List Bool) →
    used ≡ marked (replicate name_count false) (flat_map fields_of program) →
    defined ≡ marked (replicate name_count false) (flat_map defined_in program) →
    undefined_below (is_marked used) (is_marked defined) name_count ≡ undefined_fields program
undefined_same program used defined is_one is_other =
    below_same (is_marked used) (is_marked defined) (is_used program) (is_defined program) name_count
    (λ number less. ap (λ m. is_marked m number) is_one
    ∙ fresh_marked name_count (flat_map fields_of program) number less)
    (λ number less. ap (λ m. is_marked m number) is_other
    ∙ fresh_marked name_count (flat_map defined_in program) number less)
