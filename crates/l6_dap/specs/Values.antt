-- How an editor is told what variables hold, and which can be opened.
use Rattle.std.specs.Prelude.{ℕ, zero, suc, nat_le, nat_lt, Bool, ◌&&◌, List, [], ◌∷◌, ◌++◌, length, codes, decimal, Option, Some, None, slice_get, if◌then◌else◌}
use Rattle.std.specs.FinMap as places
use Rattle.std.specs.Option.{option_map}
use Rattle.std.specs.Str.Lossy.{utf8_lossy}
use Rattle.serde_json.specs.Data.{Data, array, number, unsigned, string, object, member, no_members}
use Rattle.serde_json.specs.View.{items_of}
use Rattle.l6_group.specs.Element.{chain_of}
use Rattle.l6_steps.specs.State.{Memory}
use Rattle.l6_store.specs.Blocks.{end_of}
use Rattle.l6_word.specs.Numerals.{unit_size}
use Rattle.l6_word.specs.Octal.{octal12}
use Rattle.l6_dap.specs.Variables.{Shown, Variable}
use Rattle.l6_dap.specs.Variables.Shown.{word, text}
use Rattle.l6_dap.specs.declared.nodes.Node.{Node}
use Rattle.l6_dap.specs.declared.nodes.Node.TheVariants.{Block}

-- what is said of the block at a place: its size; or that there is none, at a place of the store
abbrev pub is_place : ℕ → ℕ → Bool
is_place units content = nat_le unit_size content && nat_lt content (end_of units)

abbrev pub block_text : ℕ → ℕ → Option ℕ → List ℕ
block_text units content None = if is_place units content then codes " no block" else []
block_text units content (Some size) = codes " block of " ++ decimal size

-- a word in decimal and in octal, and the block to which it leads
abbrev pub word_text : ℕ → Memory → ℕ → List ℕ
word_text units memory content =
    decimal content ++ codes " " ++ octal12 content
    ++ block_text units content (option_map length (places.get memory.blocks content))

-- a text, in which bytes that are no UTF-8 are replaced
abbrev pub said : List ℕ → Data
said bytes = string (utf8_lossy bytes)

-- a word at which a block begins can be opened: it has a node, whose number, from 1 on, is its reference. The reference
-- of all else is 0
abbrev pub nodes_with : Memory → ℕ → List ℕ → List Node → List Node
nodes_with memory content chain nodes =
    if places.contains_key memory.blocks content then nodes ++ Block content (chain_of chain) ∷ [] else nodes

abbrev pub reference_of : Memory → ℕ → List Node → ℕ
reference_of memory content nodes =
    if places.contains_key memory.blocks content then length nodes else 0

abbrev pub nodes_after : Memory → Shown → List Node → List Node
nodes_after memory (word content chain) nodes = nodes_with memory content chain nodes
nodes_after memory (text bytes) nodes = nodes

-- a variable, where so many nodes are known with its own
abbrev pub plain_value : List ℕ → List ℕ → ℕ → Data
plain_value name bytes reference = object
    (member (codes "name") (said name)
    (member (codes "value") (said bytes)
    (member (codes "variablesReference") (number (unsigned reference)) no_members)))

abbrev pub chain_value : List ℕ → List ℕ → ℕ → List ℕ → Data
chain_value name bytes reference chain = object
    (member (codes "evaluateName") (said chain)
    (member (codes "name") (said name)
    (member (codes "value") (said bytes)
    (member (codes "variablesReference") (number (unsigned reference)) no_members))))

abbrev pub word_value : List ℕ → List ℕ → ℕ → List ℕ → Data
word_value name bytes reference [] = plain_value name bytes reference
word_value name bytes reference (first ∷ others) = chain_value name bytes reference (first ∷ others)

abbrev pub value_of : ℕ → Memory → List Node → List ℕ → Shown → Data
value_of units memory nodes name (word content chain) =
    word_value name (word_text units memory content) (reference_of memory content nodes) chain
value_of units memory nodes name (text bytes) = plain_value name bytes 0

-- variables, one after another
abbrev pub values_of : ℕ → Memory → List Node → List Variable → List Data
values_of units memory nodes [] = []
values_of units memory nodes (first ∷ others) =
    let next = nodes_after memory first.shown nodes in
    value_of units memory next first.name first.shown ∷ values_of units memory next others

abbrev pub nodes_after_all : Memory → List Variable → List Node → List Node
nodes_after_all memory [] nodes = nodes
nodes_after_all memory (first ∷ others) nodes =
    nodes_after_all memory others (nodes_after memory first.shown nodes)

-- the node of a number
abbrev pub node_of : List Node → ℕ → Option Node
node_of nodes zero = None
node_of nodes (suc before) = slice_get nodes before

-- what is answered where variables are asked for
abbrev pub body_of : Data → Data
body_of values = object (member (codes "variables") values no_members)

abbrev pub array_of : List Data → Data
array_of values = array (items_of values)

abbrev pub answered : ℕ → Memory → List Node → List Variable → Data
answered units memory nodes variables = body_of (array_of (values_of units memory nodes variables))

-- what is answered where a word is evaluated that a text reads as
abbrev pub evaluated_body : List ℕ → ℕ → Data
evaluated_body bytes reference = object
    (member (codes "result") (said bytes)
    (member (codes "variablesReference") (number (unsigned reference)) no_members))

abbrev pub evaluated : ℕ → Memory → List Node → ℕ → Data
evaluated units memory nodes content =
    evaluated_body (word_text units memory content) (reference_of memory content nodes)
