-- The life of a block, by the last steps from which it is another one.
use Rattle.std.proofs.Common.{◌≡◌, ℕ, zero, suc, ◌+◌, ◌-◌, ◌<◌, ◌≤◌, Bool, true, false, List, Option, Some, None, if◌then◌else◌, refl, sym, ap, ◌∙◌, arith, inl, inr}
use Rattle.std.specs.Prelude.{◌&&◌, IfSome, is_some, nat_lt, unwrap_or}
use Rattle.std.proofs.lemmas.Bool.{cases_lt, le-ltb, lt-ltb}
use Rattle.l6_store.specs.Rule.{Rule}
use Rattle.l6_steps.specs.State.{RunContext}
use Rattle.l6_history.specs.Life.{block_in, freed_before, got_before, is_freed, is_got, is_so_by, is_written, written_by, written_since}
use Rattle.l6_history.specs.Seeking.{greatest}
use Rattle.l6_history.specs.declared.block_watch.Looked.TheVariants.{Presence, Words}
use Rattle.l6_history.specs.inner.Seeking.{IsLast, IsLastIn, NoneIn, is_met_back}
use Rattle.l6_history.specs.inner.Watches.{block_goal, blocks_differ, seen_by}
use Rattle.l6_history.proofs.Blocks.{freed_there, got_there, not_freed, not_got, there_alike, was_there, written_there}
use Rattle.l6_history.proofs.Sought.{greatest_found, greatest_none}

module _ (rule : Rule) (context : RunContext) (place : ℕ) where
  abbrev block : ℕ → Option (List ℕ)
  block n = block_in rule context place n

  -- it comes or goes by the step from a state
  abbrev comes_or_goes : ℕ → Bool
  comes_or_goes = is_met_back rule context (block_goal place Presence)

  abbrev is_other : ℕ → Bool
  is_other = is_met_back rule context (block_goal place Words)

  presence_is : (n : ℕ) → comes_or_goes n
      ≡ blocks_differ (seen_by Presence (block n)) (seen_by Presence (block (n + 1)))
  unfolding is_met_back
  presence_is n = refl

  words_are : (n : ℕ) → is_other n ≡ blocks_differ (block n) (block (n + 1))
  unfolding is_met_back
  words_are n = refl

  -- where it neither comes nor goes it is there, or it is not
  steady_by : (further from k end : ℕ) → further + k ≡ end → from ≤ k →
      NoneIn comes_or_goes from end → is_some (block k) ≡ is_some (block end)
  steady_by zero from k end is on none = (let here : k ≡ end = omega (arith, is) in ap (λ n. is_some (block n)) here)
  steady_by (suc further) from k end is on none =
      there_alike (block k) (block (k + 1))
      (sym (presence_is k) ∙ none k on (omega (arith, is)))
      ∙ steady_by further from (k + 1) end (omega (arith, is)) (omega (arith, on)) none

  steady : (from k end : ℕ) → from ≤ k → k ≤ end → NoneIn comes_or_goes from end →
      is_some (block k) ≡ is_some (block end)
  steady from k end on within none = steady_by (end - k) from k end (omega (arith, within)) on none

  beside : (from k end : ℕ) → from ≤ k → k < end → NoneIn comes_or_goes from end →
      is_some (block k) ≡ is_some (block (k + 1))
  beside from k end on before none =
      steady from k end on (omega (arith, before)) none
      ∙ sym (steady from (k + 1) end (omega (arith, on)) (omega (arith, before)) none)

  next_there : (k end : ℕ) → IsLast comes_or_goes 0 end k →
      is_some (block (k + 1)) ≡ is_some (block end)
  next_there k end last =
      let before = last.ends in
      steady (k + 1) (k + 1) end (omega arith) (omega (arith, before)) last.none

  -- ---- freed
  pub freed_found : (end k : ℕ) → is_some (block end) ≡ false → IsLast comes_or_goes 0 end k →
      greatest end (is_so_by is_freed rule context place) ≡ Some k
  freed_found end k gone last =
      greatest_found end k (is_so_by is_freed rule context place) last.ends
      (freed_there (block k) (block (k + 1)) (sym (presence_is k) ∙ last.passes)
      (next_there k end last ∙ gone))
      (λ n from below. not_freed (block n) (block (n + 1)) (beside (k + 1) n end from below last.none))

  pub freed_was_there : (end k : ℕ) → is_some (block end) ≡ false → IsLast comes_or_goes 0 end k →
      is_some (block k) ≡ true
  freed_was_there end k gone last =
      was_there (block k) (block (k + 1))
      (freed_there (block k) (block (k + 1)) (sym (presence_is k) ∙ last.passes)
      (next_there k end last ∙ gone))

  -- where none ever came or went, none was got or freed
  pub never_freed : (end : ℕ) → NoneIn comes_or_goes 0 end →
      greatest end (is_so_by is_freed rule context place) ≡ None
  never_freed end none =
      greatest_none end (is_so_by is_freed rule context place)
      (λ n from below. not_freed (block n) (block (n + 1)) (beside 0 n end from below none))

  pub never_got : (end : ℕ) → NoneIn comes_or_goes 0 end →
      greatest end (is_so_by is_got rule context place) ≡ None
  never_got end none =
      greatest_none end (is_so_by is_got rule context place)
      (λ n from below. not_got (block n) (block (n + 1)) (beside 0 n end from below none))

  -- ---- got
  pub got_found : (end : ℕ) (last : Option ℕ) → is_some (block end) ≡ true →
      IsLastIn comes_or_goes 0 end last → greatest end (is_so_by is_got rule context place) ≡ last
  got_found end None there none = never_got end none
  got_found end (Some k) there last =
      greatest_found end k (is_so_by is_got rule context place) last.ends
      (got_there (block k) (block (k + 1)) (sym (presence_is k) ∙ last.passes)
      (next_there k end last ∙ there))
      (λ n from below. not_got (block n) (block (n + 1)) (beside (k + 1) n end from below last.none))

  -- ---- written since
  abbrev is_later : ℕ → ℕ → Bool
  is_later got k = nat_lt got k && is_so_by is_written rule context place k

  -- after it was got, it is another one where it is written
  later_is : (got end k : ℕ) → is_some (block end) ≡ true → IsLast comes_or_goes 0 end got →
      got < k → k < end → is_later got k ≡ is_other k
  later_is got end k there last after before =
      ap (λ b. b && is_so_by is_written rule context place k) (lt-ltb got k after)
      ∙ sym (written_there (block k) (block (k + 1))
      (steady (got + 1) k end (omega (arith, after)) (omega (arith, before)) last.none ∙ there)
      (steady (got + 1) (k + 1) end (omega (arith, after)) (omega (arith, before)) last.none ∙ there))
      ∙ sym (words_are k)

  not_later : (got k : ℕ) → k ≤ got → is_later got k ≡ false
  not_later got k before =
      ap (λ b. b && is_so_by is_written rule context place k) (le-ltb got k before)

  -- where it is no other one from a state on, it is not written either
  none_later : (got end from : ℕ) → is_some (block end) ≡ true → IsLast comes_or_goes 0 end got →
      from ≤ got + 1 → NoneIn is_other from end → NoneIn (is_later got) 0 end
  none_later got end from there last on none k begin below =
      elim (cases_lt got k) as (λ _. is_later got k ≡ false) [
        | inl after ↦ later_is got end k there last after below ∙ none k (omega (arith, on, after)) below
        | inr not_after ↦ not_later got k not_after
      ]

  written_found : (got end k : ℕ) → is_some (block end) ≡ true →
      IsLast comes_or_goes 0 end got → IsLast is_other 0 end k → got < k →
      written_since rule context place end got ≡ Some k
  written_found got end k there last other after =
      let before = other.ends in
      greatest_found end k (is_later got) before
      (later_is got end k there last after before ∙ other.passes)
      (λ n from below. later_is got end n there last (omega (arith, from, after)) below
      ∙ other.none n from below)

  written_before : (got end k : ℕ) → is_some (block end) ≡ true →
      IsLast comes_or_goes 0 end got → IsLast is_other 0 end k → k ≤ got →
      written_since rule context place end got ≡ None
  written_before got end k there last other earlier =
      greatest_none end (is_later got)
      (none_later got end (k + 1) there last (omega (arith, earlier)) other.none)

  -- in one word
  pub written_is : (got end k : ℕ) → is_some (block end) ≡ true →
      IsLast comes_or_goes 0 end got → IsLast is_other 0 end k →
      written_since rule context place end got ≡ (if nat_lt got k then Some k else None)
  written_is got end k there last other =
      elim (cases_lt got k)
      as (λ _. written_since rule context place end got ≡ (if nat_lt got k then Some k else None)) [
        | inl after ↦
            written_found got end k there last other after
            ∙ sym (ap (λ b. if b then Some k else None) (lt-ltb got k after))
        | inr earlier ↦
            written_before got end k there last other earlier
            ∙ sym (ap (λ b. if b then Some k else None) (le-ltb got k earlier))
      ]

  pub never_written : (got end : ℕ) → is_some (block end) ≡ true →
      IsLast comes_or_goes 0 end got → NoneIn is_other 0 end →
      written_since rule context place end got ≡ None
  never_written got end there last none =
      greatest_none end (is_later got) (none_later got end 0 there last (omega arith) none)

-- ---- each is a state of the run
less : (bound : ℕ) (test : ℕ → Bool) → IfSome (greatest bound test) (λ n. n < bound)
unfolding greatest
less zero test = tt
less (suc bound) test = chosen (test bound) (greatest bound test) (less bound test)
  where
    chosen : (b : Bool) (found : Option ℕ) → IfSome found (λ n. n < bound) →
        IfSome (if b then Some bound else found) (λ n. n < suc bound)
    chosen true found below = omega arith
    chosen false None below = tt
    chosen false (Some n) below = omega (arith, below)

within_last : (bound last : ℕ) (found : Option ℕ) → bound ≤ last → IfSome found (λ n. n < bound) →
    IfSome found (λ n. n ≤ last)
within_last bound last None on below = tt
within_last bound last (Some n) on below = omega (arith, on, below)

module _ (rule : Rule) (context : RunContext) (place last : ℕ) where
  freed_by : (b : Bool) (n : ℕ) → n ≤ last →
      IfSome (if b then None else greatest n (is_so_by is_freed rule context place)) (λ k. k ≤ last)
  freed_by true n on = tt
  freed_by false n on =
      within_last n last (greatest n (is_so_by is_freed rule context place)) on
      (less n (is_so_by is_freed rule context place))

  pub freed_within : (n : ℕ) → n ≤ last → IfSome (freed_before rule context place n) (λ k. k ≤ last)
  freed_within n on = freed_by (is_some (block_in rule context place n)) n on

  pub got_within : (n : ℕ) → n ≤ last → IfSome (got_before rule context place n) (λ k. k ≤ last)
  got_within n on =
      within_last n last (got_before rule context place n) on (less n (is_so_by is_got rule context place))

  since_within : (n : ℕ) (got : Option ℕ) → n ≤ last →
      IfSome (written_by rule context place n got) (λ k. k ≤ last)
  since_within n None on = tt
  since_within n (Some got) on =
      within_last n last (written_since rule context place n got) on
      (less n (λ k. nat_lt got k && is_so_by is_written rule context place k))

  pub written_within : (n : ℕ) → n ≤ last →
      IfSome (written_by rule context place n (got_before rule context place n)) (λ k. k ≤ last)
  written_within n on = since_within n (got_before rule context place n) on

  end_within : (n : ℕ) (freed : Option ℕ) → n ≤ last → IfSome freed (λ k. k ≤ last) →
      unwrap_or freed n ≤ last
  end_within n None on freed = on
  end_within n (Some k) on freed = freed

  pub life_end_within : (n : ℕ) → n ≤ last → unwrap_or (freed_before rule context place n) n ≤ last
  life_end_within n on = end_within n (freed_before rule context place n) on (freed_within n on)
