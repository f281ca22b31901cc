-- What a handle owns.
use Rattle.std.specs.Prelude.{ℕ, Option, Some, None}
use base.Fml.{Fml, ftrue}
use denote.RawPtr.{Ptr}
use Rattle.std.specs.Global.{Global}
use Rattle.std.specs.contracts.impls.GlobalAllocator.TheImpl.{ghosts}
use Rattle.std.specs.Box.Ownership.{box_owns}
use Rattle.l6_places.specs.Board.{Board as Places}
use Rattle.l6_places.specs.contracts.board.Board.{the_row}

-- the program's heap: there is one
abbrev pub heap : Global
heap = record { memory = record { seal = tt } }

-- the block with a store, and the right to free it; nothing, if no board is held
abbrev pub owns_board : Ptr → Option Places → Fml
owns_board at None = ftrue
owns_board at (Some store) = box_owns (ghosts.dealloc_token heap) the_row at store

-- whether a board is held, as a number
abbrev pub flag_of : Option Places → ℕ
flag_of None = 0
flag_of (Some store) = 1
