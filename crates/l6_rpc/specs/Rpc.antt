-- The messages of a language server's protocol, as values of JSON.
use Rattle.std.specs.Prelude.{◌≡◌, ℕ, ℤ, negsuc, List, Bool, true, false, ◌||◌, Option, Some, None, is_some, codes, option_and_then, IsUtf8, if◌then◌else◌}
use Rattle.serde_json.specs.Data.{Data, Num, negative, number, string, null, object, member, no_members}
use Rattle.serde_json.specs.Find.{get, as_str}
use Rattle.serde_json.specs.Read.{read}
use Rattle.l6_rpc.specs.declared.refusal.Refusal.{Refusal}
use Rattle.l6_rpc.specs.declared.refusal.Refusal.TheVariants.{NoMessage, NoRequest, NoMethod, NoParameters, NotReady, Failed}

-- ---- what is sent

-- the number by which the protocol knows why a request is refused
abbrev pub code_of : Refusal → ℤ
code_of NoMessage = negsuc 32699
code_of NoRequest = negsuc 32599
code_of NoMethod = negsuc 32600
code_of NoParameters = negsuc 32601
code_of NotReady = negsuc 32001
code_of (Failed sentence) = negsuc 32802

-- why, in words
abbrev pub sentence_of : Refusal → List ℕ
sentence_of NoMessage = codes "the message is not JSON"
sentence_of NoRequest = codes "the message is not a request that can come here"
sentence_of NoMethod = codes "there is no such method"
sentence_of NoParameters = codes "a parameter is missing or wrong"
sentence_of NotReady = codes "the server is not initialized"
sentence_of (Failed sentence) = sentence.now

-- the answer to a request with this id that is refused
abbrev pub refusal : Data → Refusal → Data
refusal id why = object
    (member (codes "error") (object
    (member (codes "code") (number (negative (code_of why)))
    (member (codes "message") (string (sentence_of why)) no_members)))
    (member (codes "id") id
    (member (codes "jsonrpc") (string (codes "2.0")) no_members)))

-- the answer to a request with this id that has this result
abbrev pub answer : Data → Data → Data
answer id outcome = object
    (member (codes "id") id
    (member (codes "jsonrpc") (string (codes "2.0"))
    (member (codes "result") outcome no_members)))

-- a notification of this method with these parameters
abbrev pub notification : List ℕ → Data → Data
notification method parameters = object
    (member (codes "jsonrpc") (string (codes "2.0"))
    (member (codes "method") (string method)
    (member (codes "params") parameters no_members)))

-- ---- what comes

-- what a message is: a request with an id, which is answered; a notification, which is not; the answer to
-- a request, of which the server sends none; or none of these, with an id or without one
pub data Message : Type 0 where
  request : Data → List ℕ → Message
  note : List ℕ → Message
  response : Message
  malformed : Option Data → Message

-- whether a value has a member of this name
abbrev pub has : List ℕ → Data → Bool
has name value = is_some (get name value)

-- a message, by its method and its id
abbrev pub kind_by : Option (List ℕ) → Option Data → Bool → Message
kind_by (Some method) (Some id) is_response = request id method
kind_by (Some method) None is_response = note method
kind_by None (Some id) true = response
kind_by None (Some id) false = malformed (Some id)
kind_by None None is_response = malformed None

-- what a value is as a message
abbrev pub kind_of : Data → Message
kind_of value = kind_by (option_and_then as_str (get (codes "method") value)) (get (codes "id") value)
    (has (codes "result") value || has (codes "error") value)

-- the body of a message is a text of JSON with this value
abbrev pub Reads : List ℕ → Data → Type 0
Reads body value = IsUtf8 body × (read body ≡ Some value)
