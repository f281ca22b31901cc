-- What a `&` to the memory may do: it is made of a borrow of the memory, of which it needs the
-- words and not the room after them; it is copied; and it serves for a shorter time. Assumes
-- `Logic`.
use contract.BorrowLft.{⊑_static}
use denote.Array.{Array-row_laws}
use denote.Param.Shared.{Sharable, copy_shared}
use denote.RawPtr.{lies_at, room_for, ◌+ₚ◌}
use denote.Shares.{Shares-Array, Shares-less}
use denote.Struct.Field.{RawPtr-field, usize-field}
use denote.Struct.Laws.{RawPtr-copy, usize-copy}
use denote.Struct.Lending.{of_Lends, lent_at, lent_at_shr_laws, Lends-first, Lends-lies}
use Rattle.std.proofs.Common.{[], ◌*◌, ◌-◌, length}
use Rattle.std.specs.Borrow.{Array, full_share, u64}
use Rattle.l6_raw.specs.Room.{row_of}
use Rattle.l6_raw.specs.contracts.memory.RawMemory as Its
use Rattle.l6_raw.proofs.memory.RawMemory.TheLaw.Statement.{statement}

-- a field that holds a number can be shared, and so can a word
number : Sharable usize-field
number = copy_shared usize-field usize-copy

pub shares : statement
shares =
    let forever = Its.the_row.lives in
    of_Lends Its.struct Its.the_codes Its.the_heap Its.the_lent
    (λ memory place. let count = length memory.words in
    lent_at_shr_laws (Array u64 count) (Array-row_laws u64 number.shr_laws count) memory.start
    memory.words)
    (copy_shared RawPtr-field RawPtr-copy, (number, (number, tt)))
    (λ M 𝓤 𝓛 memory place.
    let count = length memory.words in
    let lent = lent_at (Array u64 count) memory.start memory.words in
    let word = Shares-less 𝓛 u64 [] forever (⊑_static forever) (number.shares M 𝓤 𝓛) in
    Lends-first 𝓛 (lies_at (Array u64 count) full_share memory.start memory.words)
    (room_for (row_of (memory.room - count)) (memory.start +ₚ (count * 8))) lent forever
    (Lends-lies 𝓛 (Array u64 count) forever memory.start memory.words
    (Shares-Array 𝓛 u64 tt count forever word memory.words)))
