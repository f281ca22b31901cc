-- Lines that lead from one state to another, and one line more.
use Rattle.std.proofs.Common.{◌≡◌, ℕ, ◌<◌, true, List, [], ◌∷◌, ◌++◌, length, get_or, take, Option, Some, refl, subst}
use Rattle.std.proofs.lemmas.Option.{slice_get-get_or}
use Rattle.l6_trace.specs.Tracing.{Tracing, IsCalled}
use Rattle.l6_trace.specs.Following.{Leads, Reaches, Replays, agrees}
use Rattle.l6_trace.specs.declared.call.Answer.{Answer}
use Rattle.l6_trace.specs.declared.call.Line.{Line}

pub leads_on : (first : Tracing) (lines : List Line) (last : Tracing) (line : Line)
    (answer : Answer) (next : Tracing) → Leads first lines last
    → IsCalled last line.call (Some answer) next → agrees answer line.reply ≡ true
    → Leads first (lines ++ line ∷ []) next
leads_on first [] last line answer next leads called agree =
    (answer, next, subst (λ (t : Tracing). IsCalled t line.call (Some answer) next) leads called, agree, refl)
leads_on first (one ∷ lines) last line answer next leads called agree = (
  leads.0,
  leads.1,
  leads.2,
  leads.3,
  leads_on leads.1 lines last line answer next leads.4 called agree,
)

-- the line at an index is reached
pub there_is : (first : Tracing) (lines : List Line) (index : ℕ) (answer : Option Answer)
    (before after : Tracing) (none : Line) → index < length lines
    → Leads first (take index lines) before
    → IsCalled before (get_or lines index none).call answer after
    → (there : Reaches first lines index answer) × (there.line ≡ get_or lines index none)
there_is first lines index answer before after none below leads called = (
  record {
    before = before;
    leads = leads;
    line = get_or lines index none;
    is = slice_get-get_or lines index none below;
    after = after;
    called = called;
  },
  refl,
)

-- the calls of lines, and one more
pub replays_on : (first : Tracing) (lines : List Line) (last : Tracing) (line : Line)
    (answer : Option Answer) (next : Tracing) → Replays first lines last
    → IsCalled last line.call answer next → Replays first (lines ++ line ∷ []) next
replays_on first [] last line answer next replays called =
    (answer, next, subst (λ (t : Tracing). IsCalled t line.call answer next) replays called, refl)
replays_on first (one ∷ lines) last line answer next replays called = (
  replays.0,
  replays.1,
  replays.2,
  replays_on replays.1 lines last line answer next replays.3 called,
)
