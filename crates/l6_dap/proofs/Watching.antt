-- The chains that are watched, one after another, are the first of those that are asked for.
use Rattle.std.proofs.Common.{◌≡◌, ◌<◌, ◌≤◌, ℕ, ◌+◌, nat_lt, Bool, true, false, List, [], ◌∷◌, ◌++◌, length, take, map, Option, Some, None, refl, sym, ap, ◌∙◌, subst, arith, append_assoc, length-append}
use Rattle.std.specs.Prelude.{filter_map, if◌then◌else◌}
use Rattle.std.specs.List.{cons_option}
use Rattle.std.proofs.lemmas.Grind.{common_steps}
use Rattle.std.proofs.lemmas.List.{take-append-le, take_all}
use Rattle.serde_json.specs.Data.{Data, array}
use Rattle.serde_json.specs.View.{items_of}
use Rattle.l6_history.specs.Numerals.{most_watched}
use Rattle.l6_history.specs.declared.watched.Watched.{Watched}
use Rattle.l6_history.specs.declared.watched.Watched.TheVariants.{Chain}
use Rattle.l6_session.specs.SessionState.{one_more}
use Rattle.l6_session.specs.inner.SessionRun.{SessionRun}
use Rattle.l6_dap.specs.Breakpoints.{body_of}
use Rattle.l6_dap.specs.Debugged.{Debugged}
use Rattle.l6_dap.specs.Watches.{SetsWatches, all_watched, chain_asked, is_watched, said_from, said_of, watching}
use Rattle.l6_dap.specs.inner.Watching.{with_all, with_chain, with_chains}

added_if : {A : Type 0} (room : Bool) (most : ℕ) (all more : List A) (one : A) →
    (room ≡ false → most ≤ length all) →
    take most ((if room then all ++ one ∷ [] else all) ++ more) ≡ take most (all ++ (one ∷ more))
added_if true most all more one full = ap (take most) (append_assoc all (one ∷ []) more)
added_if false most all more one full =
    take-append-le most all more (full refl) ∙ sym (take-append-le most all (one ∷ more) (full refl))

-- while there is room one more is added, and then none
one_added : {A : Type 0} (most : ℕ) (all more : List A) (one : A) →
    take most (one_more most all one ++ more) ≡ take most (all ++ (one ∷ more))
one_added most all more one =
    added_if (nat_lt (length all) most) most all more one (λ none. grind (arith, none))

within_if : {A : Type 0} (room : Bool) (most : ℕ) (all : List A) (one : A) → length all ≤ most →
    (room ≡ true → length all < most) → length (if room then all ++ one ∷ [] else all) ≤ most
within_if true most all one within less =
    let long : length (all ++ one ∷ []) ≡ length all + 1 = length-append all (one ∷ []) in
    let short : length all < most = less refl in
    omega (arith, long, short)
within_if false most all one within less = within

one_within : {A : Type 0} (most : ℕ) (all : List A) (one : A) → length all ≤ most →
    length (one_more most all one) ≤ most
one_within most all one within =
    within_if (nat_lt (length all) most) most all one within (λ yes. grind (arith, yes))

with_first : (chain : Option (List ℕ)) (entries : List Data) (watched : List Watched) →
    ((watched : List Watched) → length watched ≤ most_watched → with_chains entries watched
    ≡ take most_watched (watched ++ map (λ c. Chain c) (filter_map chain_asked entries))) →
    length watched ≤ most_watched →
    with_chains entries (with_chain chain watched)
    ≡ take most_watched (watched ++ map (λ c. Chain c) (cons_option chain (filter_map chain_asked entries)))
with_first None entries watched others within = others watched within
with_first (Some chain) entries watched others within =
    others (one_more most_watched watched (Chain chain)) (one_within most_watched watched (Chain chain) within)
    ∙ one_added most_watched watched (map (λ c. Chain c) (filter_map chain_asked entries)) (Chain chain)

-- the first of those that are asked for are watched, as many as may be
pub chains_are_first : (entries : List Data) (watched : List Watched) → length watched ≤ most_watched →
    with_chains entries watched
    ≡ take most_watched (watched ++ map (λ chain. Chain chain) (filter_map chain_asked entries))
chains_are_first [] watched within = grind (arith, common_steps)
chains_are_first (entry ∷ entries) watched within =
    with_first (chain_asked entry) entries watched (λ w h. chains_are_first entries w h) within

-- ---- all of some are watched
all_are_first : (all watched : List Watched) → length watched ≤ most_watched →
    with_all all watched ≡ take most_watched (watched ++ all)
all_are_first [] watched within = grind (arith, common_steps)
all_are_first (one ∷ others) watched within =
    all_are_first others (one_more most_watched watched one) (one_within most_watched watched one within)
    ∙ one_added most_watched watched others one

-- where there is room for all of them, and nothing is watched, they are what is watched then
pub all_watched_again : (all : List Watched) → length all ≤ most_watched → with_all all [] ≡ all
all_watched_again all within =
    all_are_first all [] (omega (arith)) ∙ take_all most_watched all within

-- ---- one entry more
count_if : {A : Type 0} (room : Bool) (all : List A) (one : A) →
    (if room then length all + 1 else length all) ≡ length (if room then all ++ one ∷ [] else all)
count_if true all one = sym (length-append all (one ∷ []))
count_if false all one = refl

count_next : (chain : Option (List ℕ)) (watched : List Watched) →
    (if is_watched (length watched) chain then length watched + 1 else length watched)
    ≡ length (with_chain chain watched)
count_next None watched = refl
count_next (Some chain) watched = count_if (nat_lt (length watched) most_watched) watched (Chain chain)

pub said_next : (before : List Data) (one entry : Data) (rest whole : List Data) (watched next : List Watched) →
    one ≡ said_of (is_watched (length watched) (chain_asked entry)) → next ≡ with_chain (chain_asked entry) watched →
    before ++ said_from (length watched) (entry ∷ rest) ≡ whole →
    (before ++ one ∷ []) ++ said_from (length next) rest ≡ whole
said_next before one entry rest whole watched next is_said is was =
    append_assoc before (one ∷ []) (said_from (length next) rest)
    ∙ ap (λ (it : Data). before ++ it ∷ said_from (length next) rest) is_said
    ∙ ap (λ (it : List Watched). before ++ said_of (is_watched (length watched) (chain_asked entry)) ∷ said_from (length it) rest) is
    ∙ ap (λ (n : ℕ). before ++ said_of (is_watched (length watched) (chain_asked entry)) ∷ said_from n rest)
    (sym (count_next (chain_asked entry) watched))
    ∙ was

pub watched_next : (old session new : SessionRun) (watched : List Watched) → session ≡ watching session.state.stop.watched old →
    new ≡ watching watched session → new ≡ watching new.state.stop.watched old
watched_next old session new watched was is =
    is ∙ ap (λ (it : SessionRun). watching watched it) was
    ∙ ap (λ (it : SessionRun). watching it.state.stop.watched old) (sym is)

-- ---- of a run
-- the chains that entries ask for are watched, where nothing is watched before
chains_of_run : (old cleared session : SessionRun) (entries all : List Data) → cleared ≡ watching [] old → all ≡ entries →
    session ≡ watching (with_chains all cleared.state.stop.watched) cleared → session ≡ watching (all_watched entries) old
chains_of_run old cleared session entries all is_cleared are is =
    let empty = ap (λ (it : SessionRun). it.state.stop.watched) is_cleared in
    is ∙ ap (λ (it : SessionRun). watching (with_chains all cleared.state.stop.watched) it) is_cleared
    ∙ ap (λ (it : List Watched). watching (with_chains all it) old) empty
    ∙ ap (λ (it : List Data). watching (with_chains it []) old) are
    ∙ ap (λ (it : List Watched). watching it old) (chains_are_first entries [] (omega arith))

said_of_entries : (entries all values : List Data) (said : Data) (watched : List Watched) → all ≡ entries → watched ≡ [] →
    values ≡ said_from (length watched) all → said ≡ body_of (array (items_of values)) →
    said ≡ body_of (array (items_of (said_from 0 entries)))
said_of_entries entries all values said watched are empty values_are is =
    is ∙ ap (λ (it : List Data). body_of (array (items_of it)))
    (values_are ∙ ap (λ (it : List Watched). said_from (length it) all) empty ∙ ap (λ (it : List Data). said_from 0 it) are)

pub sets_watches : (inside old : Debugged) (cleared session : SessionRun) (entries all values : List Data) (said : Data) →
    inside ≡ old → cleared ≡ watching [] inside.run → all ≡ entries →
    values ≡ said_from (length cleared.state.stop.watched) all →
    session ≡ watching (with_chains all cleared.state.stop.watched) cleared →
    said ≡ body_of (array (items_of values)) → SetsWatches entries old (record inside { run = session }) said
sets_watches inside old cleared session entries all values said same is_cleared are values_are is is_said =
    let empty = ap (λ (it : SessionRun). it.state.stop.watched) is_cleared in
    subst (λ (it : Debugged). SetsWatches entries it (record inside { run = session }) said) same (record {
      is_said = said_of_entries entries all values said cleared.state.stop.watched are empty values_are is_said;
      watched = ap (λ (it : SessionRun). record inside { run = it }) (chains_of_run inside.run cleared session entries all is_cleared are is);
    })
