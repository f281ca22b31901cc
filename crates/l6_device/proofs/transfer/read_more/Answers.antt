-- What the read put into the front of the chunk is what was appended.
use Rattle.std.proofs.Common.{arith, take, sym, length-take}
use Rattle.l6_device.proofs.Transfers.{appended_front}
use Rattle.l6_device.proofs.transfer.read_more.Goals as goal

pub returns-in_ok-extend_from_slice-in-Ok-clause-ok :
    goal.returns-in_ok-extend_from_slice-in-Ok-clause-ok
returns-in_ok-extend_from_slice-in-Ok-clause-ok g c =
    let read = c.in-Ok.ensures in
    record {
      more = take c.in-Ok.count c.read_patiently.new.buffer;
      given = read.bytes.0;
      appended
          = appended_front _ _ _ _ _ read.bound.0 c.in_ok-extend_from_slice-in-Ok.ensures.items;
      counted = sym read.bound.1;
      ended =
          λ none. read.bytes.1 none
          (omega (
            arith,
            c.read_patiently.auto.buffer,
            length-take c.min-room.result c.args.chunk.now,
            c.requires.room,
          ));
    }
