-- What the value of a body leads to is what the body does.
use Rattle.std.proofs.Common.{◌≡◌, ℕ, List, Option, Some, sym, ◌∙◌, subst}
use Rattle.serde_json.specs.Data.{Data}
use Rattle.l6_rpc.specs.Rpc.{Reads}
use Rattle.l6_dap.specs.Runs.{AdapterState, Obeys, Takes}

pub takes_value : {old new : AdapterState} {body : List ℕ} {answer : Option Data} {events : List (List ℕ)}
    (value : Data) → Reads body value → Obeys old new value answer events → Takes old new body answer events
takes_value {old} {new} {body} {answer} {events} value reads obeys other again =
    let same : Some value ≡ Some other = sym reads.1 ∙ again.1 in
    let is : value ≡ other = cc in
    subst (λ (it : Data). Obeys old new it answer events) is obeys
