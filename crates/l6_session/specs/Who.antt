-- What is shown of the life of a block: by which steps it was got, last written and freed.
use Rattle.std.specs.Prelude.{ℕ, List, [], ◌++◌, codes, decimal, length, Option, Some, None, Result, Ok, Err, option_map}
use Rattle.std.specs.FinMap as places
use Rattle.l6_prog.specs.declared.operand.Operand.{Operand}
use Rattle.l6_prog.specs.declared.operand.Operand.TheVariants.{Chain, Number}
use Rattle.l6_store.specs.Rule.{Rule}
use Rattle.l6_steps.specs.Configuration.{state_at}
use Rattle.l6_steps.specs.Locus.{read}
use Rattle.l6_steps.specs.State.{RunContext}
use Rattle.l6_steps.specs.declared.trap.Trap.{Trap}
use Rattle.l6_history.specs.Life.{life_of}
use Rattle.l6_history.specs.declared.life.Life.{Life}
use Rattle.l6_session.specs.Names.{Names}
use Rattle.l6_session.specs.Stops.{place_text}
use Rattle.l6_session.specs.Texts.{chain_line}

-- which block it is: one that is there, with its size; one that was freed; or none
abbrev pub gone_text : ℕ → Option ℕ → List ℕ
gone_text place None = codes "NO BLOCK AT " ++ decimal place ++ codes ", NOW OR BEFORE\n"
gone_text place (Some freed) = codes "BLOCK " ++ decimal place ++ codes " IS FREED\n"

abbrev pub head_text : ℕ → Option ℕ → Option ℕ → List ℕ
head_text place None freed = gone_text place freed
head_text place (Some size) freed =
    codes "BLOCK " ++ decimal place ++ codes " SIZE " ++ decimal size ++ codes "\n"

-- the state before a step, if there is one, after what the step did
abbrev pub step_text : Rule → Names → RunContext → List ℕ → Option ℕ → List ℕ
step_text rule names context did None = []
step_text rule names context did (Some n) = did ++ place_text names context (state_at rule context n)

-- the three steps of a block's life
abbrev pub steps_text : Rule → Names → RunContext → Life → List ℕ
steps_text rule names context life =
    step_text rule names context (codes "got ") life.got
    ++ step_text rule names context (codes "written ") life.written
    ++ step_text rule names context (codes "freed ") life.freed

-- the block, and these steps
abbrev pub life_text : Rule → Names → RunContext → ℕ → Option ℕ → Life → List ℕ
life_text rule names context place size life =
    head_text place size life.freed ++ steps_text rule names context life

abbrev pub block_life_text : Rule → Names → RunContext → ℕ → ℕ → List ℕ
block_life_text rule names context number place =
    life_text rule names context place
    (option_map length (places.get (state_at rule context number).memory.blocks place))
    (life_of rule context place number)

-- the block to which a chain leads, or why it leads nowhere; or the block of a number
abbrev pub led_text : Rule → Names → RunContext → ℕ → List ℕ → Result ℕ Trap → List ℕ
led_text rule names context number chain (Ok place) =
    block_life_text rule names context number place
led_text rule names context number chain (Err trap) =
    chain_line (state_at rule context number).memory chain

abbrev pub who_text : Rule → Names → RunContext → ℕ → Operand → List ℕ
who_text rule names context number (Number place) =
    block_life_text rule names context number place
who_text rule names context number (Chain chain) =
    led_text rule names context number chain
    (read (state_at rule context number).memory (Chain chain))
