-- Numbers of a trace that count bytes, in pieces.
use Rattle.std.specs.Prelude.{ℕ, ◌+◌, ◌/◌, ◌%◌, ◌==◌, ◌&&◌, not, nat_le, if◌then◌else◌, Option, Some, None}
use Rattle.l6_trace.specs.declared.call.Reply.{Reply}
use Rattle.l6_trace.specs.declared.call.Reply.TheVariants.{At, Between, Nothing, Joined}

-- the bytes asked for, rounded up; a piece of 0 bytes counts as one of 1
abbrev pub pieces_for : ℕ → ℕ → ℕ
pieces_for bytes piece =
    if nat_le piece 1 then bytes
    else bytes / piece + (if bytes % piece == 0 then 0 else 1)

-- a size, which is 0, and so no block's, where it is no multiple of a piece
abbrev pub size_in_pieces : Option ℕ → ℕ → Option ℕ
size_in_pieces None piece = None
size_in_pieces (Some size) piece =
    if not (piece == 0) && size % piece == 0 then Some (size / piece) else Some 0

-- a reply: a place within a piece is none
abbrev pub in_pieces : Reply → ℕ → Reply
in_pieces (At place size) piece =
    if nat_le piece 1 then At place size
    else if place % piece == 0 then At (place / piece) (size_in_pieces size piece) else Between
in_pieces Between piece = Between
in_pieces Nothing piece = Nothing
in_pieces (Joined joined) piece = Joined joined
