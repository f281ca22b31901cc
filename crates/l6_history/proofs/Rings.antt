-- The numbers of the states that a ring keeps.
use Rattle.std.proofs.Common.{◌≡◌, ℕ, ◌+◌, ◌-◌, ◌<◌, ◌≤◌, true, false, List, [], ◌∷◌, ◌++◌, Some, None, length, sym, ap, ◌∙◌, subst, take, drop, arith, inl, inr}
use Rattle.std.specs.Prelude.{max, slice_get, get_or, Option, MatchOption, Result, Ok, Err, OnOk, OnErr, is_ok, if◌then◌else◌}
use Rattle.std.specs.List.{All}
use Rattle.std.proofs.lemmas.Bool.{cases_lt, le-leb, lt-leb}
use Rattle.std.proofs.lemmas.List.{length-append, take_all, take_more}
use Rattle.std.proofs.lemmas.List.Elements.{All-head}
use Rattle.std.proofs.lemmas.Option.{get_or_from_slice_get, slice_get_within}
use Rattle.circular_buffer.specs.Buffer.{Buffer, buffer, keep_last}
use Rattle.l6_steps.specs.State.{RunContext}
use Rattle.l6_history.specs.History.{greatest_up_to, if_up_to}
use Rattle.l6_history.specs.inner.Ring.{Checkpoints, MayAdd}
use Rattle.l6_history.specs.inner.NumberedMachine.{NumberedMachine}

-- a number that is not above n, and one that is
up_to_same : (n k : ℕ) → k ≤ n → if_up_to n k ≡ k
up_to_same n k within = ap (λ b. if b then k else 0) (le-leb k n within)

up_to_none : (n k : ℕ) → n < k → if_up_to n k ≡ 0
up_to_none n k above = ap (λ b. if b then k else 0) (lt-leb k n above)

up_to_within : (n k : ℕ) → if_up_to n k ≤ n
up_to_within n k = elim (cases_lt n k) as (λ _. if_up_to n k ≤ n) [
  | inl above ↦ (let none = up_to_none n k above in omega (arith, none))
  | inr within ↦ (let same = up_to_same n k within in omega (arith, same, within))
]

up_to_least : (n k : ℕ) → if_up_to n k ≤ k
up_to_least n k = elim (cases_lt n k) as (λ _. if_up_to n k ≤ k) [
  | inl above ↦ (let none = up_to_none n k above in omega (arith, none))
  | inr within ↦ (let same = up_to_same n k within in omega (arith, same))
]

-- the greatest is not above n
pub greatest_within : (n : ℕ) (numbers : List ℕ) → greatest_up_to n numbers ≤ n
greatest_within n [] = omega arith
greatest_within n (k ∷ numbers) =
    let first = up_to_within n k in
    let others = greatest_within n numbers in
    omega (arith, first, others)

-- with one more
greatest_append : (n : ℕ) (numbers : List ℕ) (k : ℕ) →
    greatest_up_to n (numbers ++ k ∷ []) ≡ max (greatest_up_to n numbers) (if_up_to n k)
greatest_append n [] k = omega arith
greatest_append n (first ∷ numbers) k =
    let others = greatest_append n numbers k in omega (arith, others)

-- with the next of some numbers
abbrev pub IsAt : List ℕ → ℕ → ℕ → Type 0
IsAt numbers index k = slice_get numbers index ≡ Some k

next_greatest : (n : ℕ) (numbers : List ℕ) (index k : ℕ) → IsAt numbers index k →
    greatest_up_to n (take (index + 1) numbers)
    ≡ max (greatest_up_to n (take index numbers)) (if_up_to n k)
next_greatest n numbers index k is =
    let within = slice_get_within numbers index k is in
    ap (greatest_up_to n) (take_more numbers index k within)
    ∙ greatest_append n (take index numbers) (get_or numbers index k)
    ∙ ap (λ j. max (greatest_up_to n (take index numbers)) (if_up_to n j))
    (get_or_from_slice_get numbers index k k is)

pub greatest_next : (n : ℕ) (numbers : List ℕ) (index k greatest : ℕ) → IsAt numbers index k →
    greatest ≡ greatest_up_to n (take index numbers) → greatest ≤ k → k ≤ n →
    k ≡ greatest_up_to n (take (index + 1) numbers)
greatest_next n numbers index k greatest is most above within =
    let same = up_to_same n k within in
    let next = next_greatest n numbers index k is in
    omega (arith, same, next, most, above)

pub greatest_past : (n : ℕ) (numbers : List ℕ) (index k greatest : ℕ) → IsAt numbers index k →
    greatest ≡ greatest_up_to n (take index numbers) → n < k →
    greatest ≡ greatest_up_to n (take (index + 1) numbers)
greatest_past n numbers index k greatest is most past =
    let none = up_to_none n k past in
    let next = next_greatest n numbers index k is in
    omega (arith, none, next, most)

pub greatest_stays : (n : ℕ) (numbers : List ℕ) (index k greatest : ℕ) → IsAt numbers index k →
    greatest ≡ greatest_up_to n (take index numbers) → k < greatest →
    greatest ≡ greatest_up_to n (take (index + 1) numbers)
greatest_stays n numbers index k greatest is most below =
    let least = up_to_least n k in
    let next = next_greatest n numbers index k is in
    omega (arith, least, next, most, below)

-- where the greatest is, or that there is none
abbrev pub IsFoundAt : List ℕ → Option ℕ → ℕ → Type 0
IsFoundAt numbers nearest greatest =
    MatchOption nearest (greatest ≡ 0) (λ index. IsAt numbers index greatest)

pub found_same : (numbers : List ℕ) (nearest' nearest : Option ℕ) (greatest' greatest : ℕ) →
    nearest' ≡ nearest → greatest' ≡ greatest → IsFoundAt numbers nearest greatest →
    IsFoundAt numbers nearest' greatest'
found_same numbers nearest' nearest greatest' greatest there is found =
    subst (λ o. IsFoundAt numbers o greatest') (sym there)
    (subst (λ k. IsFoundAt numbers nearest k) (sym is) found)

-- ---- a ring that is full
-- one more takes the place of the first: it follows the others
pub next_full : {A : Type 0} (items : List A) (new : A) (capacity : ℕ) →
    length items ≡ capacity → 1 ≤ capacity →
    keep_last capacity (drop 1 items ++ new ∷ []) ≡ keep_last capacity (items ++ new ∷ [])
next_full [] new capacity full some = absurd (omega (arith, full, some))
next_full {A = A} (first ∷ others) new capacity full some =
    let later : List A = others ++ new ∷ [] in
    let size : length later ≡ length others + 1 = length-append others (new ∷ []) in
    let none : length later - capacity ≡ 0 = omega (arith, size, full) in
    let one : length (first ∷ later) - capacity ≡ 1 = omega (arith, size, full) in
    ap (λ n. drop n later) none ∙ sym (ap (λ n. drop n (first ∷ later)) one)

-- and where the first is put back, all is as it was
pub back_full : {A : Type 0} (items : List A) (first : A) (capacity : ℕ) →
    length items ≡ capacity → 1 ≤ capacity → Some first ≡ slice_get items 0 →
    take capacity (first ∷ drop 1 items) ≡ items
back_full [] first capacity full some is = absurd (omega (arith, full, some))
back_full {A = A} (other ∷ others) first capacity full some is =
    let same : first ≡ other = cc is in
    take_all capacity (first ∷ others) (omega (arith, full))
    ∙ ap (λ (x : A). x ∷ others) same

-- the first of those that are kept is of the same run
pub first_same : (context : RunContext) (items : List NumberedMachine) (first : NumberedMachine) →
    All (λ (v : NumberedMachine). v.context ≡ context) items → Some first ≡ slice_get items 0 →
    first.context ≡ context
first_same context [] first same is = absurd (let none : Some first ≡ None = is in cc)
first_same context (other ∷ others) first same is =
    let one : first ≡ other = cc is in
    ap (λ (v : NumberedMachine). v.context) one
    ∙ All-head (λ (v : NumberedMachine). v.context ≡ context) other others same

-- what becomes of a full ring
pub may_add_next : (kept : Checkpoints) (ring popped pushed : Buffer NumberedMachine)
    (numbered_machine item : NumberedMachine) →
    kept ≡ Some ring → length ring.items ≡ ring.capacity → 1 ≤ ring.capacity →
    popped ≡ buffer (drop 1 ring.items) ring.capacity → item ≡ numbered_machine →
    pushed ≡ buffer (keep_last popped.capacity (popped.items ++ item ∷ [])) popped.capacity →
    MayAdd kept numbered_machine (Some pushed)
may_add_next kept ring popped pushed numbered_machine item there full some is same added =
    subst (λ k. MayAdd k numbered_machine (Some pushed)) (sym there)
    (inr (ap (λ (b : Buffer NumberedMachine). Some b)
    (added
    ∙ ap (λ (b : Buffer NumberedMachine). buffer
    (keep_last b.capacity (b.items ++ item ∷ [])) b.capacity) is
    ∙ ap (λ (v : NumberedMachine).
    buffer (keep_last ring.capacity (drop 1 ring.items ++ v ∷ [])) ring.capacity) same
    ∙ ap (λ (vs : List NumberedMachine). buffer vs ring.capacity)
    (next_full ring.items numbered_machine ring.capacity full some))))

pub may_add_none : (kept : Checkpoints) (ring popped pushed : Buffer NumberedMachine)
    (numbered_machine first item : NumberedMachine) →
    kept ≡ Some ring → length ring.items ≡ ring.capacity → 1 ≤ ring.capacity →
    popped ≡ buffer (drop 1 ring.items) ring.capacity → Some first ≡ slice_get ring.items 0 →
    item ≡ first →
    pushed ≡ buffer (take popped.capacity (item ∷ popped.items)) popped.capacity →
    MayAdd kept numbered_machine (Some pushed)
may_add_none kept ring popped pushed numbered_machine first item there full some is front same added =
    subst (λ k. MayAdd k numbered_machine (Some pushed)) (sym there)
    (inl (ap (λ (b : Buffer NumberedMachine). Some b)
    (added
    ∙ ap (λ (b : Buffer NumberedMachine). buffer (take b.capacity (item ∷ b.items)) b.capacity) is
    ∙ ap (λ (v : NumberedMachine). buffer
    (take ring.capacity (v ∷ drop 1 ring.items)) ring.capacity) same
    ∙ ap (λ (vs : List NumberedMachine). buffer vs ring.capacity)
    (back_full ring.items first ring.capacity full some front))))

-- what follows from an answer once it is known which it is
pub on_ok : {T E : Type 0} (P : Type 0) (result : Result T E) → is_ok result ≡ true →
    OnOk result P → P
on_ok P (Ok value) is reported = reported
on_ok P (Err error) is reported = absurd (let both : false ≡ true = is in cc)

pub on_err : {T E : Type 0} (P : Type 0) (result : Result T E) → is_ok result ≡ false →
    OnErr result P → P
on_err P (Ok value) is reported = absurd (let both : true ≡ false = is in cc)
on_err P (Err error) is reported = reported
