-- What expressions ask for, and what they read as.
use Rattle.std.specs.Prelude.{ℕ, List, drop, take, length, codes, Option, Some, None, if◌then◌else◌}
use Rattle.std.specs.Option.{option_map, option_or}
use Rattle.std.specs.Str.{bytes_eq}
use Rattle.l6_debug.specs.Command.{number_of}
use Rattle.l6_session.specs.declared.command.Move.{Move}
use Rattle.l6_session.specs.declared.command.Move.TheVariants.{Goto, Continue, ReverseContinue}
use Rattle.std.specs.Result.{result_ok}
use Rattle.l6_group.specs.Element.{chain_of}
use Rattle.l6_group.specs.Number.{decimal_of}
use Rattle.l6_prog.specs.declared.operand.Operand.TheVariants.{Chain}
use Rattle.l6_steps.specs.Locus.{read}
use Rattle.l6_steps.specs.State.{Memory}
use Rattle.l6_group.specs.Spelling.{◌>>=◌}
use Rattle.l6_dap.specs.Trimmed.{trimmed}
use Rattle.l6_dap.specs.Values.{nodes_with}
use Rattle.l6_dap.specs.declared.nodes.Node.{Node}

-- the number after a word, with which a text begins
abbrev pub number_after : List ℕ → List ℕ → Option ℕ
number_after word text =
    if bytes_eq (take (length word) text) word then number_of (trimmed (drop (length word) text)) else None

-- the move that a text asks for: to a state by its number, or on or back past so many stops
abbrev pub move_of_trimmed : List ℕ → Option Move
move_of_trimmed text =
    option_or (option_map (λ n. Goto n) (number_after (codes ":goto") text))
    (option_or (option_map (λ n. Continue n) (number_after (codes ":continue") text))
    (option_map (λ n. ReverseContinue n) (number_after (codes ":reverse-continue") text)))

abbrev pub move_of_text : List ℕ → Option Move
move_of_text text = move_of_trimmed (trimmed text)

-- the word that a text reads as, if it is a number or a chain that can be followed
abbrev pub word_of : Memory → List ℕ → Option ℕ
word_of memory text =
    option_or (decimal_of text) (chain_of text >>= (λ chain. result_ok (read memory (Chain chain))))

-- the nodes once that word is evaluated
abbrev pub nodes_from : Memory → List ℕ → Option ℕ → List Node → List Node
nodes_from memory text None nodes = nodes
nodes_from memory text (Some content) nodes = nodes_with memory content text nodes

abbrev pub nodes_evaluated : Memory → List ℕ → List Node → List Node
nodes_evaluated memory text nodes = nodes_from memory text (word_of memory text) nodes
