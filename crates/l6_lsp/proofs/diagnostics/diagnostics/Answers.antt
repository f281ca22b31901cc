use Rattle.std.proofs.Common.{◌∷◌, [], List, map, refl, subst, sym, arith}
use Rattle.serde_json.specs.View.{view}
use Rattle.serde_json.proofs.Views.{view-Array}
use Rattle.l6_check.specs.Listed.{AreAllOf}
use Rattle.l6_check.specs.declared.finding.Finding.{Finding}
use Rattle.l6_lsp.proofs.Findings.{said_next, all_said}
use Rattle.l6_lsp.proofs.diagnostics.diagnostics.Goals as goal

pub returns-then-deck-gt-MAX_DECK_BYTES : goal.returns-then-deck-gt-MAX_DECK_BYTES
returns-then-deck-gt-MAX_DECK_BYTES c = (
  view c.in_ok-entry.entry ∷ [],
  record {
    read = λ few. absurd (omega arith);
    unread = λ _. (view c.in_ok-entry.entry, refl);
  },
  c.in_ok-value.ensures,
)

pub loop-finding-preserved : goal.loop-finding-preserved
loop-finding-preserved c =
    said_next c.args.deck.now _ c.deref-finding-items.result.now c.loop-finding.list.items
    c.push.new.self.items c.loop-finding.finding-index _ c.in_ok-diagnostic.field-0
    (omega arith) c.in_ok-starts.ensures c.in_ok-push.ensures.items c.loop-finding.invariant
    c.in_ok-diagnostic.ensures

pub returns : goal.returns
returns c = (
  map view c.loop-finding.list.items,
  record {
    read = λ _. (
      c.deref-finding-items.result.now,
      subst (λ (xs : List Finding). AreAllOf c.args.deck.now xs) (sym c.deref-finding-items.ensures.value)
          c.in_ok-findings.ensures,
      all_said c.args.deck.now c.deref-finding-items.result.now c.loop-finding.list.items
          c.loop-finding.finding-index (omega arith) c.loop-finding.invariant,
    );
    unread = λ many. absurd (omega arith);
  },
  view-Array c.loop-finding.list,
)
