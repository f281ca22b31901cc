use Rattle.std.proofs.Common.{◌≡◌, ◌∷◌, [], ◌++◌, ◌∙◌, ap, append_assoc, arith, length, map, min, sym, take}
use Rattle.std.proofs.lemmas.List.{take_all, take_min}
use Rattle.l6_word.specs.Code.{input_code}
use Rattle.l6_word.specs.Numerals.{input_width}
use Rattle.l6_registers.specs.inner.Input.{line_end}
use Rattle.l6_registers.proofs.Inputs.{width_is}
use Rattle.l6_registers.proofs.input.push_line.Goals as goal

-- all of the line is kept that counts, and the end after it
pub returns : goal.returns
returns c =
    let line = c.args.line.now in
    let cut = take c.min.result line in
    let all : take c.loop-byte.byte-index cut ≡ cut =
    take_all c.loop-byte.byte-index cut (omega (arith, c.loop-byte-test.false)) in
    let width : cut ≡ take input_width line =
    ap (λ n. take n line)
    (c.min.ensures ∙ omega arith ∙ ap (λ w. min w (length line)) (sym width_is))
    ∙ take_min input_width line in
    c.in_ok-push-2.ensures.items
    ∙ ap (λ cs. cs ++ line_end ∷ []) (c.loop-byte.invariant
    ∙ ap (λ cs. c.args.codes.now.items ++ map input_code cs) (all ∙ width))
    ∙ append_assoc c.args.codes.now.items (map input_code (take input_width line)) (line_end ∷ [])
