-- The stage of a reader, and how its steps follow the pieces.
use Rattle.std.specs.Prelude.{◌≡◌, IfSome, Result, Ok, Err, MatchResult}
use Rattle.l6_card.specs.declared.objection.Objection.{Objection}
use Rattle.l6_card.specs.declared.objection.ReadError.{ReadError}
use Rattle.l6_card.specs.declared.reader.Reader.{Reader}
use Rattle.l6_card.specs.Objection.{objection_in}
use Rattle.l6_card.specs.inner.Kinds.{body_seen}
use Rattle.l6_card.specs.inner.Pass.{Stage}
use Rattle.l6_card.specs.inner.KeptBuilder.{kept_builder}

-- a step of a reader that is at this stage afterwards took the pass, or stopped at the objection
-- that the pass met; out of memory may stop it anywhere
abbrev pub Follows : {X : Type 0} → Result X ReadError → Stage → Result Stage Objection → Type 0
Follows result known pass =
    MatchResult result
    (λ _. pass ≡ Ok known)
    (λ error. IfSome (objection_in error) (λ objection. pass ≡ Err objection))

-- the stage of the reader
abbrev pub stage_of : Reader → Stage
stage_of reader =
    record {
      statements = reader.statements.items;
      is_open = reader.is_open;
      label = reader.label;
      builder = kept_builder reader.builder;
      body = body_seen reader.body;
      continuations = reader.continuations;
    }
