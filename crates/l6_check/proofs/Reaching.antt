-- How the search for the statements that some way leads to goes on.
use Rattle.std.proofs.Common.{◌≡◌, ℕ, ◌+◌, ◌<◌, ◌≤◌, suc, zero, Bool, true, false, cond, eqb, ltb, List, [], ◌∷◌, ◌++◌, length, length-append, get_or, set, replicate, Some, refl, sym, ap, ◌∙◌, subst, arith}
use Rattle.std.specs.Prelude.{◌||◌, slice_get}
use Rattle.std.specs.List.{list_any}
use Rattle.std.proofs.Math.Bool.{or-false, or-true}
use Rattle.std.proofs.lemmas.Bool.{eqb-true, eqb-false, ltb-true, ltb-false, or_left, or_right}
use Rattle.std.proofs.lemmas.List.{length-set, get_or-set_same, get_or-set_other, get_or-replicate, get_or_past, length-replicate}
use Rattle.std.proofs.lemmas.List.Folds.{list_any-append}
use Rattle.std.proofs.lemmas.Option.{slice_get_within}
use Rattle.l6_prog.specs.Statement.{Parts}
use Rattle.l6_prog.specs.Target.{targets_of}
use Rattle.l6_check.specs.Ways.{is_number, may_go_on, ways_from, LeadsTo, Way, AreReached}
use Rattle.l6_check.specs.inner.Marks.{is_marked}

-- a way leads to the number
abbrev pub IsOnWay : List Parts → ℕ → Type 0
IsOnWay program number = (steps : ℕ) × Way program steps number

-- the number is one of these
abbrev pub is_in : ℕ → List ℕ → Bool
is_in number numbers = list_any (is_number number) numbers

-- the number is marked, or is still pending
abbrev pub is_met : List Bool → List ℕ → ℕ → Bool
is_met marks pending number = is_marked marks number || is_in number pending

-- ways lead to what is marked and to what is pending; and what may come after a marked statement is met,
-- as is the first statement
pub record IsSearch (program : List Parts) (marks : List Bool) (pending : List ℕ) : Type 0 where
  pub long : length marks ≡ length program
  pub marked : (number : ℕ) → is_marked marks number ≡ true → IsOnWay program number
  pub waiting : (number : ℕ) → is_in number pending ≡ true → IsOnWay program number
  pub after : (number next : ℕ) → is_marked marks number ≡ true → LeadsTo program number next →
      next < length program → is_met marks pending next ≡ true
  pub first : 0 < length program → is_met marks pending 0 ≡ true

either : {G : Type 0} (one other : Bool) → (one || other) ≡ true → (one ≡ true → G) → (other ≡ true → G) → G
either true other holds left right = left refl
either false other holds left right = right holds

-- a number among some with one more is among them, or is that one
in_push : {G : Type 0} (number last : ℕ) (front : List ℕ) → is_in number (front ++ last ∷ []) ≡ true →
    (is_in number front ≡ true → G) → (last ≡ number → G) → G
in_push number last front holds left right =
    either (is_in number front) (is_in number (last ∷ []))
    (sym (list_any-append (is_number number) front (last ∷ [])) ∙ holds) left
    (λ one. right (eqb-true last number (sym (or-false (eqb last number)) ∙ one)))

front_in : (number : ℕ) (front more : List ℕ) → is_in number front ≡ true →
    is_in number (front ++ more) ≡ true
front_in number front more holds =
    list_any-append (is_number number) front more ∙ or_left (is_in number front) (is_in number more) holds

more_in : (number : ℕ) (front more : List ℕ) → is_in number more ≡ true →
    is_in number (front ++ more) ≡ true
more_in number front more holds =
    list_any-append (is_number number) front more ∙ or_right (is_in number front) (is_in number more) holds

self_in : (number : ℕ) (front : List ℕ) → is_in number (front ++ number ∷ []) ≡ true
self_in number front =
    more_in number front (number ∷ [])
    (or_left (eqb number number) false (grind arith))

-- what was met is met, where the last pending number is
met_still : (marks now : List Bool) (front pending : List ℕ) (last number : ℕ) →
    is_met marks (front ++ last ∷ []) number ≡ true →
    (is_marked marks number ≡ true → is_marked now number ≡ true) →
    (is_in number front ≡ true → is_in number pending ≡ true) →
    (last ≡ number → is_marked now number ≡ true) → is_met now pending number ≡ true
met_still marks now front pending last number met kept still taken =
    either (is_marked marks number) (is_in number (front ++ last ∷ [])) met
    (λ one. or_left (is_marked now number) (is_in number pending) (kept one))
    (λ one. in_push number last front one
    (λ it. or_right (is_marked now number) (is_in number pending) (still it))
    (λ it. or_left (is_marked now number) (is_in number pending) (taken it)))

none_marked : (count number : ℕ) (within : Bool) → ltb number count ≡ within →
    is_marked (replicate count false) number ≡ false
none_marked count number true is = get_or-replicate count number false false (ltb-true number count is)
none_marked count number false is =
    let past = ltb-false number count is in
    get_or_past (replicate count false) number false (omega (arith, length-replicate count false, past))

fresh : (count number : ℕ) → is_marked (replicate count false) number ≡ false
fresh count number = none_marked count number (ltb number count) refl

-- the search begins with the first statement, and no marks
pub begins : (program : List Parts) → IsSearch program (replicate (length program) false) (0 ∷ [])
begins program = record {
  long = length-replicate (length program) false;
  marked = λ number is. absurd (let no = fresh (length program) number in cc);
  waiting = λ number is. (0, sym (eqb-true 0 number (sym (or-false (eqb 0 number)) ∙ is)));
  after = λ number next is leads within. absurd (let no = fresh (length program) number in cc);
  first = λ within. or_right (is_marked (replicate (length program) false) 0) true refl;
}

-- a pending number is left out that has no place, or is marked
pub skipped : (program : List Parts) (marks : List Bool) (front : List ℕ) (last : ℕ) →
    IsSearch program marks (front ++ last ∷ []) →
    (last < length marks → is_marked marks last ≡ true) → IsSearch program marks front
skipped program marks front last search old =
    let still = λ (number : ℕ) (within : number < length program)
    (met : is_met marks (front ++ last ∷ []) number ≡ true).
    met_still marks marks front front last number met (λ one. one) (λ one. one)
    (λ same. let place : last < length marks = omega (arith, same, within, search.long) in
    subst (λ (n : ℕ). is_marked marks n ≡ true) same (old place)) in
    record {
      long = search.long;
      marked = search.marked;
      waiting = λ number is. search.waiting number (front_in number front (last ∷ []) is);
      after = λ number next is leads within.
          still next within (search.after number next is leads within);
      first = λ within. still 0 within (search.first within);
    }

marked_at : (marks : List Bool) (place number : ℕ) (same : Bool) → place < length marks →
    eqb place number ≡ same →
    is_marked (set marks place true) number ≡ (is_marked marks number || same)
marked_at marks place number true within is =
    let equal = eqb-true place number is in
    ap (λ n. get_or (set marks place true) n false) (sym equal)
    ∙ get_or-set_same marks place true false within
    ∙ sym (or-true (is_marked marks number))
marked_at marks place number false within is =
    get_or-set_other marks place number true false (λ equal. eqb-false place number is (sym equal))
    ∙ sym (or-false (is_marked marks number))

-- what may come after a statement that a way leads to is on a way
go_on : (program : List Parts) (number next : ℕ) → IsOnWay program number → LeadsTo program number next →
    IsOnWay program next
go_on program number next way leads = (suc way.0, (number, way.1, leads))

-- a pending number is marked, and what may come after its statement is pending
pub expanded : (program : List Parts) (marks : List Bool) (front : List ℕ) (last : ℕ) (statement : Parts) →
    IsSearch program marks (front ++ last ∷ []) → last < length marks →
    slice_get program last ≡ Some statement →
    IsSearch program (set marks last true) (front ++ ways_from last statement)
expanded program marks front last statement search place got =
    let now = set marks last true in
    let ways = ways_from last statement in
    let on : IsOnWay program last = search.waiting last (self_in last front) in
    let at = λ (number : ℕ). marked_at marks last number (eqb last number) place refl in
    let kept = λ (number : ℕ) (one : is_marked marks number ≡ true).
    at number ∙ or_left (is_marked marks number) (eqb last number) one in
    let itself : is_marked now last ≡ true = get_or-set_same marks last true false place in
    let still = λ (number : ℕ) (met : is_met marks (front ++ last ∷ []) number ≡ true).
    met_still marks now front (front ++ ways) last number met (kept number) (front_in number front ways)
    (λ same. subst (λ (n : ℕ). is_marked now n ≡ true) same itself) in
    record {
      long = length-set marks last true ∙ search.long;
      marked = λ number is. either (is_marked marks number) (eqb last number) (sym (at number) ∙ is)
          (search.marked number)
          (λ same. subst (IsOnWay program) (eqb-true last number same) on);
      waiting = λ number is. either (is_in number front) (is_in number ways)
          (sym (list_any-append (is_number number) front ways) ∙ is)
          (λ it. search.waiting number (front_in number front (last ∷ []) it))
          (λ it. go_on program last number on (record { statement = statement; numbered = got; goes = it }));
      after = λ number next is leads within.
          either (is_marked marks number) (eqb last number) (sym (at number) ∙ is)
          (λ it. still next (search.after number next it leads within))
          (λ same. or_right (is_marked now next) (is_in next (front ++ ways)) (more_in next front ways
          (goes_from (eqb-true last number same) leads)));
      first = λ within. still 0 (search.first within);
    }
  where
    goes_from : {number next : ℕ} → last ≡ number → LeadsTo program number next →
        is_in next (ways_from last statement) ≡ true
    goes_from {number} {next} same leads =
        let alike : Some leads.statement ≡ Some statement =
        sym leads.numbered ∙ ap (slice_get program) (sym same) ∙ got in
        let one : leads.statement ≡ statement = cc in
        subst (λ (s : Parts). is_in next (ways_from last s) ≡ true) one
        (subst (λ (n : ℕ). is_in next (ways_from n leads.statement) ≡ true) (sym same) leads.goes)

-- where nothing is pending, all that ways lead to is marked
way_marked : (program : List Parts) (marks : List Bool) → IsSearch program marks [] →
    (steps number : ℕ) → Way program steps number → number < length program →
    is_marked marks number ≡ true
way_marked program marks search zero number way within =
    let some : 0 < length program = omega (arith, within) in
    ap (is_marked marks) way ∙ sym (or-false (is_marked marks 0)) ∙ search.first some
way_marked program marks search (suc steps) number way within =
    let before = way.0 in
    let there = slice_get_within program before way.2.statement way.2.numbered in
    sym (or-false (is_marked marks number))
    ∙ search.after before number (way_marked program marks search steps before way.1 there) way.2 within

within_marks : (marks : List Bool) (number : ℕ) (within : Bool) → ltb number (length marks) ≡ within →
    is_marked marks number ≡ true → number < length marks
within_marks marks number true is marked = ltb-true number (length marks) is
within_marks marks number false is marked =
    let past = get_or_past marks number false (ltb-false number (length marks) is) in absurd (cc)

-- where nothing is pending, the marks are those of the statements that some way leads to
pub done : (program : List Parts) (marks : List Bool) → IsSearch program marks [] →
    AreReached program (is_marked marks)
done program marks search = record {
  only = λ number is.
      let way = search.marked number is in
      let within = within_marks marks number (ltb number (length marks)) refl is in
      record { steps = way.0; way = way.1; there = omega (arith, within, search.long) };
  all = λ number reached. way_marked program marks search reached.steps number reached.way reached.there;
}

-- what is left to do at statements that are not marked
abbrev pub left_at : List Parts → List Bool → ℕ
left_at [] marks = 0
left_at (statement ∷ others) [] = 0
left_at (statement ∷ others) (true ∷ marks) = left_at others marks
left_at (statement ∷ others) (false ∷ marks) = length (targets_of statement) + 2 + left_at others marks

-- less is left where one more statement is marked
pub left_less : (program : List Parts) (marks : List Bool) (number : ℕ) (statement : Parts) →
    slice_get program number ≡ Some statement → number < length marks → is_marked marks number ≡ false →
    left_at program (set marks number true) + (length (targets_of statement) + 2) ≡ left_at program marks
left_less [] marks number statement got within new = absurd (cc)
left_less (first ∷ others) [] number statement got within new = absurd (omega (arith, within))
left_less (first ∷ others) (true ∷ marks) zero statement got within new = absurd (cc)
left_less (first ∷ others) (false ∷ marks) zero statement got within new =
    let same : first ≡ statement = cc in
    let sizes = ap (λ s. length (targets_of s)) same in
    omega (arith, sizes)
left_less (first ∷ others) (true ∷ marks) (suc number) statement got within new =
    left_less others marks number statement got (omega (arith, within)) new
left_less (first ∷ others) (false ∷ marks) (suc number) statement got within new =
    let rest = left_less others marks number statement got (omega (arith, within)) new in
    omega (arith, rest)

ways_count : (goes : Bool) (targets : List ℕ) (next : ℕ) →
    length (targets ++ cond goes (next ∷ []) []) ≤ length targets + 1
ways_count true targets next = let sum = length-append targets (next ∷ []) in omega (arith, sum)
ways_count false targets next = let sum = length-append targets [] in omega (arith, sum)

-- a statement has one way more than targets at most
pub few_ways : (number : ℕ) (statement : Parts) →
    length (ways_from number statement) ≤ length (targets_of statement) + 1
few_ways number statement =
    ways_count (may_go_on statement.condition statement.exit) (targets_of statement) (number + 1)
