-- Talks with an editor, from their beginning to their end.
use Rattle.std.specs.Prelude.{◌≡◌, ℕ, List, Option, None}
use Rattle.l6_rpc.specs.Serving.{Event, Serves}
use Rattle.l6_rpc.specs.declared.server.Phase.{Phase}
use Rattle.l6_rpc.specs.declared.server.Phase.TheVariants.{New}
use Rattle.l6_lsp.specs.Decks.{IsAble, Answers, Notes, document_of}
use Rattle.l6_lsp.specs.declared.decks.Decks.{Decks}

-- no document is open
abbrev pub IsEmpty : Decks → Type 0
IsEmpty decks = (uri : List ℕ) → document_of decks uri ≡ None

-- a talk about decks that begins with no open document, and ends with this status: each message is answered before
-- the next one comes
pub record ServesDecks (passed gone : Option (List Event)) (status : ℕ) : Type 0 where
  pub first : Decks
  pub last : Decks
  pub phase : Phase
  pub empty : IsEmpty first
  pub serves : Serves IsAble Answers Notes first last New phase passed gone status
