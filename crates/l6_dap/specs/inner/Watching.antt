-- Sessions that watch chains, one after another.
use Rattle.std.specs.Prelude.{ℕ, List, [], ◌∷◌, Option, Some, None}
use Rattle.serde_json.specs.Data.{Data}
use Rattle.l6_history.specs.Numerals.{most_watched}
use Rattle.l6_history.specs.declared.watched.Watched.{Watched}
use Rattle.l6_history.specs.declared.watched.Watched.TheVariants.{Chain}
use Rattle.l6_session.specs.SessionState.{one_more}
use Rattle.l6_dap.specs.Watches.{chain_asked}

-- what is watched after one more chain is, or after all that entries ask for are, in their order
abbrev pub with_chain : Option (List ℕ) → List Watched → List Watched
with_chain None watched = watched
with_chain (Some chain) watched = one_more most_watched watched (Chain chain)

abbrev pub with_chains : List Data → List Watched → List Watched
with_chains [] watched = watched
with_chains (entry ∷ entries) watched = with_chains entries (with_chain (chain_asked entry) watched)

-- what is watched after all of some are, too, in their order
abbrev pub with_all : List Watched → List Watched → List Watched
with_all [] watched = watched
with_all (one ∷ others) watched = with_all others (one_more most_watched watched one)
