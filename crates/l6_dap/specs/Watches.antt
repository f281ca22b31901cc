-- The chains that an editor asks to watch, and those that are watched then.
use Rattle.std.specs.Prelude.{◌≡◌, ℕ, ◌+◌, nat_lt, Bool, false, List, [], ◌∷◌, codes, map, take, filter_map, Option, Some, None, unwrap_or, if◌then◌else◌}
use Rattle.serde_json.specs.Data.{Data, array, boolean, object, member, no_members}
use Rattle.serde_json.specs.View.{items_of}
use Rattle.l6_group.specs.Element.{chain_of}
use Rattle.l6_history.specs.Numerals.{most_watched}
use Rattle.l6_history.specs.declared.watched.Watched.{Watched}
use Rattle.l6_history.specs.declared.watched.Watched.TheVariants.{Chain}
use Rattle.l6_session.specs.inner.SessionRun.{SessionRun}
use Rattle.l6_dap.specs.Breakpoints.{body_of}
use Rattle.l6_dap.specs.Debugged.{Debugged}
use Rattle.l6_dap.specs.Members.{text_in}

-- the chain that an entry of a request asks for
abbrev pub chain_asked : Data → Option (List ℕ)
chain_asked entry = chain_of (unwrap_or (text_in (codes "dataId") entry) [])

-- what is watched, where entries ask for it: the first chains, as many as may be
abbrev pub all_watched : List Data → List Watched
all_watched entries = take most_watched (map (λ chain. Chain chain) (filter_map chain_asked entries))

-- whether one is watched, where so many are already
abbrev pub is_watched : ℕ → Option (List ℕ) → Bool
is_watched count None = false
is_watched count (Some chain) = nat_lt count most_watched

-- what is said of one, and of all entries, where so many chains are watched already
abbrev pub said_of : Bool → Data
said_of is = object (member (codes "verified") (boolean is) no_members)

abbrev pub said_from : ℕ → List Data → List Data
said_from count [] = []
said_from count (entry ∷ entries) =
    let is = is_watched count (chain_asked entry) in
    said_of is ∷ said_from (if is then count + 1 else count) entries

-- a run in which this is watched
abbrev pub watching : List Watched → SessionRun → SessionRun
watching watched run =
    record run { state = record run.state { stop = record run.state.stop { watched = watched } } }

-- the chains that entries ask for are watched, in place of those before, and all else is as it was
pub record SetsWatches (entries : List Data) (old new : Debugged) (said : Data) : Type 0 where
  pub is_said : said ≡ body_of (array (items_of (said_from 0 entries)))
  pub watched : new ≡ record old { run = watching (all_watched entries) old.run }
