-- Changes by which less is found in a deck.
use Rattle.std.proofs.Common.{◌≡◌, ℕ, ◌∷◌, [], ◌++◌, List, Bool, true, Option, Some, IfSome, All, map, ap, sym, subst, ◌∙◌}
use Rattle.std.proofs.lemmas.List.{map_push}
use Rattle.std.proofs.lemmas.List.Elements.{All-push}
use Rattle.serde_json.specs.Data.{Data}
use Rattle.serde_json.specs.View.{view}
use Rattle.serde_json.specs.declared.value.Value.{Value}
use Rattle.l6_place.specs.declared.spot.Spot.{Spot}
use Rattle.l6_check.specs.Listed.{AreAllOf}
use Rattle.l6_check.specs.declared.finding.Finding.{Finding}
use Rattle.l6_lsp.specs.Edits.{edits_value}
use Rattle.l6_lsp.specs.Fixes.{IsMended, IsFix, Mends, action_value, are_less}

-- less is found, as a comparison says
pub mended_by : (deck other : List ℕ) (findings others those : List Finding) (result : Bool) →
    AreAllOf deck findings → AreAllOf other others → those ≡ others → result ≡ are_less those findings →
    result ≡ true → IsMended deck other
mended_by deck other findings others those result found found_then same is less = record {
  findings = findings;
  others = others;
  found = found;
  found_then = found_then;
  less = ap (λ (l : List Finding). are_less l findings) (sym same) ∙ sym is ∙ less;
}

-- the value of a change that mends is a fix, of whatever bytes its texts are
pub fix_by : (uri text title written tried : List ℕ) (start end : Spot) (value : Data) →
    value ≡ action_value title (edits_value uri ((start, end) ∷ []) written) → tried ≡ written →
    Mends text start end tried → IsFix uri text value
fix_by uri text title written tried start end value is same mends = record {
  title = title;
  start = start;
  end = end;
  written = written;
  is = is;
  mended = subst (λ (w : List ℕ). Mends text start end w) same mends;
}

-- one more fix among fixes
pub fixes_next : (uri text : List ℕ) (values longer : List Value) (value : Value) →
    longer ≡ values ++ value ∷ [] → All (IsFix uri text) (map view values) → IsFix uri text (view value) →
    All (IsFix uri text) (map view longer)
fixes_next uri text values longer value pushed are is =
    subst (λ (l : List Data). All (IsFix uri text) l) (sym (ap (map view) pushed ∙ map_push view values value))
    (All-push (IsFix uri text) (map view values) (view value) are is)

-- what was found is a fix, of whatever list the text is
pub fix_found : (uri text other : List ℕ) (found : Option Value) (fix : Value) → found ≡ Some fix → text ≡ other →
    IfSome found (λ value. IsFix uri text (view value)) → IsFix uri other (view fix)
fix_found uri text other found fix is same mends =
    subst (λ (t : List ℕ). IsFix uri t (view fix)) same
    (subst (λ (o : Option Value). IfSome o (λ value. IsFix uri text (view value))) is mends)
