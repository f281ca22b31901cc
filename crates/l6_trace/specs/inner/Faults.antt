-- What becomes of a store's fault, and of a board's, in a trace's.
use Rattle.l6_store.specs.declared.fault.StoreFault.{StoreFault}
use Rattle.l6_store.specs.declared.fault.StoreFault.TheVariants as store
use Rattle.l6_places.specs.declared.board.BoardFault.{BoardFault}
use Rattle.l6_places.specs.declared.board.BoardFault.TheVariants as board
use Rattle.l6_trace.specs.declared.fault.TraceFault.{TraceFault}
use Rattle.l6_trace.specs.declared.fault.TraceFault.TheVariants.{NoMemory, BadUnits, BadPlaces}

abbrev pub trace_fault : StoreFault → TraceFault
trace_fault store.NoMemory = NoMemory
trace_fault store.BadUnits = BadUnits

abbrev pub board_fault : BoardFault → TraceFault
board_fault board.NoMemory = NoMemory
board_fault board.BadPlaces = BadPlaces
