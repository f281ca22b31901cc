use Rattle.std.proofs.Common.{◌≡◌, ◌++◌, ◌∷◌, [], ◌==◌, false, ◌∙◌, rules}
use Rattle.std.specs.Str.{byte}
use Rattle.l6_asm.proofs.Blanks.{last_blank, ends_in}
use Rattle.l6_asm.proofs.line.without_last_blanks.Goals as goal

pub returns-then-last-ne32 : goal.returns-then-last-ne32
returns-then-last-ne32 c =
    let rest = c.loop-last.rest.now in
    let last = c.in-Some.last.now in
    let is : rest ≡ c.in-Some.front.now ++ last ∷ [] = search rules in
    let other : (last == byte " ") ≡ false = search rules in
    ends_in rest c.in-Some.front.now last is other ∙ c.loop-last.invariant

pub loop-last-preserved : goal.loop-last-preserved
loop-last-preserved c =
    let rest = c.loop-last.rest.now in
    let last = c.in-Some.last.now in
    let is : rest ≡ c.in-Some.front.now ++ byte " " ∷ [] = search rules in
    last_blank rest c.in-Some.front.now is ∙ c.loop-last.invariant
