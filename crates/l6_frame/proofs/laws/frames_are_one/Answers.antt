use Rattle.l6_frame.proofs.Streams.{one_frame}
use Rattle.l6_frame.proofs.laws.frames_are_one.Goals as goal

pub returns : goal.returns
returns c = one_frame
