use Rattle.std.proofs.Common.{◌≡◌, ◌-◌}
use Rattle.l6_image.specs.inner.decode.Statements.{many, with_front}
use Rattle.l6_image.proofs.decode.listed.list_of.Given as goal

-- those so far, and then as many as are left
abbrev pub invariant-loop : goal.invariant-loop
invariant-loop g l =
    with_front l.list.items (many (g.T.Listed.reads l.version) (l.count - l.counter) l.rest)
    ≡ many (g.T.Listed.reads l.version) l.count l.fn.words
