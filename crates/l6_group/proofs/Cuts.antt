-- Elements, cut at their first comma.
use Rattle.std.proofs.Common.{◌≡◌, ℕ, List, [], ◌∷◌, ◌++◌, refl, ap, ◌∙◌, Option, IfNone, IfSome, MatchOption, Bor, Bool, true, false, Some, None, cond}
use Rattle.std.specs.List.{onto_first}
use Rattle.std.specs.Str.{byte}
use Rattle.l6_word.specs.Split.{lacks, IsCutAt}
use Rattle.l6_word.proofs.Cuts.{lacks_cons}
use Rattle.l6_group.specs.Element.{is_comma, elements_of}
use Rattle.l6_group.specs.Test.{test_from}
use Rattle.l6_group.specs.Operation.{operation_from}

elements_front : (front following : List ℕ) →
    lacks (byte ",") front ≡ true →
    elements_of (front ++ byte "," ∷ following) ≡ front ∷ elements_of following
elements_front [] following lacking = refl
elements_front (first ∷ rest) following lacking =
    let parts = lacks_cons (byte ",") first rest lacking in
    rw parts.0 (ap (onto_first first) (elements_front rest following parts.1))

-- the first element ends at the first comma
pub elements_cut : {columns front following : List ℕ} →
    IsCutAt (byte ",") columns front following → elements_of columns ≡ front ∷ elements_of following
elements_cut {columns} {front} {following} cut = ap elements_of cut.whole
    ∙ elements_front front following cut.first

-- columns without a comma are one element
pub elements_lacks : (columns : List ℕ) → lacks (byte ",") columns ≡ true →
    elements_of columns ≡ columns ∷ []
elements_lacks [] lacking = refl
elements_lacks (first ∷ rest) lacking =
    let parts = lacks_cons (byte ",") first rest lacking in
    rw parts.0 (ap (onto_first first) (elements_lacks rest parts.1))

-- columns that may have been cut at their first comma: one element, or the first and those after
-- it
pub elements_first : (columns : List ℕ) (found : Option (Bor (List ℕ) × Bor (List ℕ))) →
    IfNone found (lacks (byte ",") columns ≡ true) →
    IfSome found (λ parts. IsCutAt (byte ",") columns parts.0.now parts.1.now) →
    MatchOption found (elements_of columns ≡ columns ∷ [])
    (λ parts. elements_of columns ≡ parts.0.now ∷ elements_of parts.1.now)
elements_first columns None lacking cut = elements_lacks columns lacking
elements_first columns (Some parts) lacking cut = elements_cut cut

-- there is a first element, and others
pub record HasElement (elements : List (List ℕ)) : Type 0 where
  pub first : List ℕ
  pub others : List (List ℕ)
  pub all : elements ≡ first ∷ others

element_following : (is_mark : Bool) (column : ℕ) (parts : List (List ℕ)) →
    HasElement (cond is_mark ([] ∷ parts) (onto_first column parts))
element_following true column parts = record { first = []; others = parts; all = refl }
element_following false column [] = record { first = column ∷ []; others = []; all = refl }
element_following false column (part ∷ parts) =
    record { first = column ∷ part; others = parts; all = refl }

-- columns have an element
pub has_element : (columns : List ℕ) → HasElement (elements_of columns)
has_element [] = record { first = []; others = []; all = refl }
has_element (column ∷ columns) = element_following (is_comma column) column (elements_of columns)

-- six elements or more are no operation
pub operation_from_many : (a b d e f others : List ℕ) →
    operation_from (a ∷ b ∷ d ∷ e ∷ f ∷ elements_of others) ≡ None
operation_from_many a b d e f others =
    ap (λ elements. operation_from (a ∷ b ∷ d ∷ e ∷ f ∷ elements)) (has_element others).all

-- four elements or more are no test
pub test_from_many : (a b d others : List ℕ) → test_from (a ∷ b ∷ d ∷ elements_of others) ≡ None
test_from_many a b d others =
    ap (λ elements. test_from (a ∷ b ∷ d ∷ elements)) (has_element others).all
