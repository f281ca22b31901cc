use Rattle.l6_frame.proofs.Frames.{no_length, long_head, no_field, second_length, body_next, part_left, too_long, is_blank, is_full, with_size}
use Rattle.l6_frame.proofs.Heads.{other_read, length_read}
use Rattle.l6_frame.proofs.frame.next_frame.Goals as goal

pub returns-then-bytes-following-gt-MAX_HEAD : goal.returns-then-bytes-following-gt-MAX_HEAD
returns-then-bytes-following-gt-MAX_HEAD c =
    let blank = is_blank c.in-Some.line.now c.without_return.result.now c.is_empty.result
    c.without_return.ensures.value c.is_empty.ensures c.if-is_empty.true in
    long_head c.loop-line.invariant c.in-Some.ensures.parts blank c.if-bytes-following-gt-MAX_HEAD.true

pub returns-in-None : goal.returns-in-None
returns-in-None c =
    let blank = is_blank c.in-Some.line.now c.without_return.result.now c.is_empty.result
    c.without_return.ensures.value c.is_empty.ensures c.if-is_empty.true in
    no_length (with_size c.in-None.is c.loop-line.invariant) c.in-Some.ensures.parts blank

pub returns-in-Some-length : goal.returns-in-Some-length
returns-in-Some-length c =
    let blank = is_blank c.in-Some.line.now c.without_return.result.now c.is_empty.result
    c.without_return.ensures.value c.is_empty.ensures c.if-is_empty.true in
    body_next c.in-Some-length.length c.body_of.result
    (with_size c.in-Some-length.is c.loop-line.invariant) c.in-Some.ensures.parts blank
    c.if-bytes-following-gt-MAX_HEAD.false c.body_of.ensures

pub returns-in-Some-length-2 : goal.returns-in-Some-length-2
returns-in-Some-length-2 c =
    let full = is_full c.in-Some.line.now c.without_return.result.now c.is_empty.result
    c.without_return.ensures.value c.is_empty.ensures c.if-is_empty.false in
    second_length c.in-Some-length-2.field-0 c.in-Length.given
    (with_size c.in-Some-length-2.is c.loop-line.invariant) c.in-Some.ensures.parts full
    c.in-Length.ensures

pub returns-in-Malformed : goal.returns-in-Malformed
returns-in-Malformed c =
    let full = is_full c.in-Some.line.now c.without_return.result.now c.is_empty.result
    c.without_return.ensures.value c.is_empty.ensures c.if-is_empty.false in
    no_field c.loop-line.invariant c.in-Some.ensures.parts full c.in-Malformed.ensures

pub loop-line-preserved-in-None-length : goal.loop-line-preserved-in-None-length
loop-line-preserved-in-None-length c =
    let full = is_full c.in-Some.line.now c.without_return.result.now c.is_empty.result
    c.without_return.ensures.value c.is_empty.ensures c.if-is_empty.false in
    length_read c.in-Length.given (with_size c.in-None-length.is c.loop-line.invariant) c.in-Some.ensures.parts full
    c.in-Length.ensures

pub loop-line-preserved : goal.loop-line-preserved
loop-line-preserved c =
    let full = is_full c.in-Some.line.now c.without_return.result.now c.is_empty.result
    c.without_return.ensures.value c.is_empty.ensures c.if-is_empty.false in
    other_read c.loop-line.invariant c.in-Some.ensures.parts full c.in-Other.ensures

pub returns-then-bytes-lt-MAX_HEAD : goal.returns-then-bytes-lt-MAX_HEAD
returns-then-bytes-lt-MAX_HEAD c = part_left c.loop-line.invariant c.in_default.ensures.none

pub returns-else-bytes-lt-MAX_HEAD : goal.returns-else-bytes-lt-MAX_HEAD
returns-else-bytes-lt-MAX_HEAD c =
    too_long c.loop-line.invariant c.in_default.ensures.none c.if-bytes-lt-MAX_HEAD.false
