-- The first element that is not what it has to be.
use Rattle.std.proofs.Common.{◌≡◌, ℕ, List, [], ◌∷◌, None, true, refl}
use Rattle.l6_group.specs.declared.fault.Shape.{Shape}
use Rattle.l6_group.specs.Shape.{fits}
use Rattle.l6_group.specs.Objection.{first_misfit}

-- the last element is what it has to be
pub misfit_last : (start : ℕ) (shape : Shape) (shapes : List Shape) (element : List ℕ) →
    fits shape element ≡ true → first_misfit start (shape ∷ shapes) (element ∷ []) ≡ None
misfit_last start shape [] element fit = rw fit refl
misfit_last start shape (other ∷ shapes) element fit = rw fit refl
