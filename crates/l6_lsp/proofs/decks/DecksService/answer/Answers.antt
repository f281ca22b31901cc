use Rattle.std.proofs.Common.{sym}
use Rattle.serde_json.specs.View.{view}
use Rattle.l6_lsp.proofs.Opening.{opened}
use Rattle.l6_lsp.proofs.decks.DecksService.answer.Goals as goal

pub returns-in-Some-get : goal.returns-in-Some-get
returns-in-Some-get c =
    opened c.args.self.now c.args.method.now (view c.args.message.now) c.in-Some-uri_of.uri.now
    c.in-Some-get.document.now c.in-Some.asked c.answer_of.result
    (sym c.in-Some.ensures) (sym c.in-Some-uri_of.ensures) (sym c.in-Some-get.ensures.value) c.answer_of.ensures
