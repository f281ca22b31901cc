-- The messages that are sent: answers to requests, and events.
use Rattle.std.specs.Prelude.{◌≡◌, ℕ, List, true, false, codes, Some}
use Rattle.serde_json.specs.Data.{Data, boolean, number, unsigned, string, object, member, no_members}
use Rattle.l6_dap.specs.Members.{text_in}

-- how a request is answered: it is done, without a body or with one, or it is refused for this reason
pub data Outcome : Type 0 where
  done : Outcome
  answered : Data → Outcome
  refused : List ℕ → Outcome

-- what is shown of a refusal
abbrev pub error_body : List ℕ → Data
error_body why = object
    (member (codes "error") (object
    (member (codes "format") (string (codes "{why}"))
    (member (codes "id") (number (unsigned 1))
    (member (codes "showUser") (boolean true)
    (member (codes "variables") (object (member (codes "why") (string why) no_members))
    no_members))))) no_members)

-- the answer of this number to the request of a number and a name
abbrev pub answer : ℕ → ℕ → List ℕ → Outcome → Data
answer seq request command done = object
    (member (codes "command") (string command)
    (member (codes "request_seq") (number (unsigned request))
    (member (codes "seq") (number (unsigned seq))
    (member (codes "success") (boolean true)
    (member (codes "type") (string (codes "response")) no_members)))))
answer seq request command (answered body) = object
    (member (codes "body") body
    (member (codes "command") (string command)
    (member (codes "request_seq") (number (unsigned request))
    (member (codes "seq") (number (unsigned seq))
    (member (codes "success") (boolean true)
    (member (codes "type") (string (codes "response")) no_members))))))
answer seq request command (refused why) = object
    (member (codes "body") (error_body why)
    (member (codes "command") (string command)
    (member (codes "message") (string why)
    (member (codes "request_seq") (number (unsigned request))
    (member (codes "seq") (number (unsigned seq))
    (member (codes "success") (boolean false)
    (member (codes "type") (string (codes "response")) no_members)))))))

-- the event of this number and name, with this body, or with none
abbrev pub event : ℕ → List ℕ → Data → Data
event seq name body = object
    (member (codes "body") body
    (member (codes "event") (string name)
    (member (codes "seq") (number (unsigned seq))
    (member (codes "type") (string (codes "event")) no_members))))

abbrev pub plain_event : ℕ → List ℕ → Data
plain_event seq name = object
    (member (codes "event") (string name)
    (member (codes "seq") (number (unsigned seq))
    (member (codes "type") (string (codes "event")) no_members)))

-- a message is an event
abbrev pub IsEvent : Data → Type 0
IsEvent message = text_in (codes "type") message ≡ Some (codes "event")
