use Rattle.l6_frame.proofs.Streams.{one_reading, in_pieces}
use Rattle.l6_frame.proofs.laws.streams_have_one_reading.Goals as goal

pub returns : goal.returns
returns c = record { one = one_reading; pieces = in_pieces }
