-- A field of plain data is read through a `&`: its cell is opened, with the value that it is known
-- to hold, and shut again. Assumes `Logic`.
use Rattle.std.proofs.Common.{◌≡◌, ℕ, ◌<◌, ◌^◌, List, [], ◌∷◌, refl, w64}
use seplogic.Ra.Ura.{Ura}
use base.Fml.{Lft, Share, flft}
use base.Logic.{ent, emp}
use mir.Syntax.{ty_ptr}
use mir.Val.{Val, vint}
use types.Logic.{Logic, sem}
use types.Kit.{Item, Goal, Seq, Step, Soaks, step, ‵, ◌$◌, ◌∵◌, !, qed, move, drop, use0, feq_i, rewrite, done}
use denote.Builtin.{usize}
use denote.Copied.{plain_Copied, uint_Copied}
use denote.Laws.{Is, shows}
use denote.Memory.{cell_at, part_at, hidden_shr}
use denote.Opens.{Shut, Opens}
use denote.Plain.{uint_Makes}
use denote.RattleType.{RattleType}
use denote.RawPtr.{Ptr, RawPtr, coded_ptr, ptr_own, rawptr_pure, ptr_val}
use denote.Steps.{looks, shuts, peeks}
use denote.Struct.Laws.{RawPtr-laws}

-- a type whose values tell how they are stored, and own nothing
pub record Readable {M : Type 1} {𝓤 : Ura M} (𝓛 : Logic 𝓤) (R : RattleType)
    (value : R.Denot) : Type 1 where
  pub stored : List Val
  pub opens : Opens 𝓛 R
  pub known : (vs : List Val) → Is R value vs → vs ≡ stored
  pub made : ent 𝓤 (emp 𝓤) (sem 𝓛 (R.own_val value stored))

abbrev pub a_pointer : {M : Type 1} {𝓤 : Ura M} (𝓛 : Logic 𝓤) (p : Ptr) → Readable 𝓛 RawPtr p
a_pointer 𝓛 p = record {
  stored = ptr_val p ∷ [];
  opens = (plain_Copied 𝓛 Ptr coded_ptr (ty_ptr ∷ []) ptr_own rawptr_pure ptr_val
      RawPtr-laws.tells).opens;
  known = λ vs is. is;
  made = qed 𝓛 [] ∵ feq_i ! (List Val) (ptr_val p ∷ []) (ptr_val p ∷ []) refl $ done !;
}

abbrev pub a_number : {M : Type 1} {𝓤 : Ura M} (𝓛 : Logic 𝓤) (n : ℕ) → n < 2 ^ 64 → Readable 𝓛 usize n
a_number 𝓛 n fits = record {
  stored = vint w64 n ∷ [];
  opens = (uint_Copied 𝓛 w64).opens;
  known = λ vs is. is.0;
  made = uint_Makes 𝓛 w64 n (vint w64 n ∷ []) (refl, fits);
}

module _ {M : Type 1} {𝓤 : Ura M} {𝓛 : Logic 𝓤} {K : Type 0} {Γ : List (Item 𝓤)} {G : Goal 𝓤 𝓛.H}
    (R : RattleType) (value : R.Denot) (can : Readable 𝓛 R value) (block at : ℕ) where
  pub glances : K → Soaks G → {κ : Lft} {q : Share} →
      ((part : Share) → Seq K 𝓛
      (‵ (cell_at part R.mir can.stored block at) ∷ Shut 𝓛 κ q (part_at R part value block at) ∷ Γ) G) →
      Seq K 𝓛 (‵ (hidden_shr R κ value block at) ∷ ‵ (flft κ q) ∷ Γ) G
  glances t z next =
      looks t z R can.opens value block at (λ part vs.
      move t (1 ∷ []) $ peeks t R (Is R) (shows 𝓛 R) value vs (λ is. drop t $
      rewrite t 0 (λ (us : List Val). ‵ (cell_at part R.mir us block at)) (can.known vs is) refl $
      move t (2 ∷ []) $ drop t $ next part))

  pub looks_away : K → Soaks G → (part : Share) → {κ : Lft} {q : Share} →
      Step K 𝓛 (‵ (flft κ q) ∷ Γ) G
      (‵ (cell_at part R.mir can.stored block at) ∷ Shut 𝓛 κ q (part_at R part value block at) ∷ Γ) G
  looks_away t z part = step (λ s.
      use0 𝓛 (‵ (R.own_val value can.stored)) can.made $ move t (1 ∷ 0 ∷ []) $
      shuts t z R part value can.stored block at $ s)
