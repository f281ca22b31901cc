use Rattle.std.proofs.Common.{◌≡◌, ◌*◌, ◌%◌, ◌^◌, ap, ◌∙◌, arith}
use Rattle.std.specs.Int.Bits.{bit_xor}
use Rattle.std.proofs.lemmas.Nat.{one_shl}
use Rattle.l6_store.proofs.Multiples.{buddy_of_bit}
use Rattle.l6_store.proofs.piece.buddy_of.Goals as goal

pub returns : goal.returns
returns c =
    let size : 1 * 2 ^ c.args.level % 2 ^ 32 ≡ 2 ^ c.args.level
    = one_shl c.args.level 32 (omega (arith, c.requires.level)) in
    ap (bit_xor c.args.place) size ∙ buddy_of_bit c.args.level c.args.place c.requires.aligned
