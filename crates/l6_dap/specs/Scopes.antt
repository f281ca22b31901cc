-- The groups of variables that a state has.
use Rattle.std.specs.Prelude.{ℕ, zero, suc, ◌+◌, false, List, [], ◌∷◌, ◌++◌, codes, length, map}
use Rattle.serde_json.specs.Data.{Data, array, boolean, number, unsigned, string, object, member, no_members}
use Rattle.serde_json.specs.View.{items_of}
use Rattle.l6_steps.specs.State.{Memory}
use Rattle.l6_dap.specs.declared.nodes.Node.{Node}
use Rattle.l6_dap.specs.declared.nodes.Node.TheVariants.{Bugs, Fields, Blocks, Contents, Definitions}

-- a group with its name, if there are any of what it has
abbrev pub if_any : ℕ → List ℕ → Node → List (List ℕ × Node)
if_any zero name node = []
if_any (suc count) name node = (name, node) ∷ []

-- the groups, where so many contents and definitions are saved
abbrev pub groups : ℕ → ℕ → List (List ℕ × Node)
groups contents definitions =
    (codes "Bugs", Bugs) ∷ (codes "Fields", Fields) ∷ (codes "Blocks", Blocks)
    ∷ if_any contents (codes "Saved contents") Contents
    ++ if_any definitions (codes "Saved definitions") Definitions

abbrev pub groups_of : Memory → List (List ℕ × Node)
groups_of memory = groups (length memory.saved_contents) (length memory.saved_definitions)

-- what is said of a group: its name, and the number of its node
abbrev pub scope : List ℕ → ℕ → Data
scope name reference = object
    (member (codes "expensive") (boolean false)
    (member (codes "name") (string name)
    (member (codes "variablesReference") (number (unsigned reference)) no_members)))

-- of groups one after another, where so many nodes are known before
abbrev pub scopes_from : ℕ → List (List ℕ × Node) → List Data
scopes_from count [] = []
scopes_from count (group ∷ others) = scope group.0 (count + 1) ∷ scopes_from (count + 1) others

abbrev pub scopes_body : List Data → Data
scopes_body scopes = object (member (codes "scopes") (array (items_of scopes)) no_members)

abbrev pub nodes_in : List (List ℕ × Node) → List Node
nodes_in all = map (λ group. group.1) all
