-- The items of an array, as a list.
use Rattle.std.proofs.Common.{◌≡◌, List, [], ◌∷◌, refl, ap}
use Rattle.serde_json.specs.Data.{Data}
use Rattle.serde_json.specs.View.{items_of}
use Rattle.l6_dap.specs.Requests.{listed}

pub listed_items : (values : List Data) → listed (items_of values) ≡ values
listed_items [] = refl
listed_items (value ∷ values) = ap (λ vs. value ∷ vs) (listed_items values)
