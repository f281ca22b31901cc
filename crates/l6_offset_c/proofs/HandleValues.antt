-- The machine value of a `Handle`, and what it owns.
use Rattle.std.proofs.Common.{◌≡◌, ◌≢◌, ℕ, List, [], ◌∷◌, ◌++◌, refl, subst, Option, Some, None}
use seplogic.Ra.Ura.{Ura}
use mir.Val.{Val, vstruct, of_list}
use mir.Raw.{raw as bare}
use base.Logic.{never, fst∗}
use types.Logic.{Logic, sem}
use types.Kit.{Item, Goal, Seq, Step, step, ‵, ◌$◌, drop, fsplit, fjoin, fpick, fpack, feq_i, feq_l}
use denote.RattleType.{Valss}
use denote.Builtin.{RawPtr}
use denote.Memory.{lone}
use denote.RawPtr.{Ptr, block_ptr, null_ptr, ptr_val, in_a_block}
use denote.Steps.{nothing}
use denote.Struct.Struct.{within}
use denote.Struct.Owning.{shape}
use Rattle.std.specs.contracts.impls.GlobalAllocator.TheImpl.{ghosts}
use Rattle.std_alloc.specs.Box.Ownership.{box_owns}
use Rattle.l6_places.specs.Board.{Board as Places}
use Rattle.l6_places.specs.contracts.board.Board as board
use Rattle.l6_offset_c.specs.Handle.{heap, owns_board}
use Rattle.l6_offset_c.specs.contracts.handle.Handle as handle

abbrev pub word : Ptr → Val
word p = vstruct (of_list (ptr_val p ∷ []))

module _ {M : Type 1} {𝓤 : Ura M} {𝓛 : Logic 𝓤} {K : Type 0} {Γ : List (Item 𝓤)} {G : Goal 𝓤 𝓛.H} where
  pub handle_out : K → (d : (handle.the_row).Denot) (vs : List Val)
      → (vs ≡ word d.at ∷ [] → Seq K 𝓛 (‵ (owns_board d.at d.held) ∷ Γ) G)
      → Seq K 𝓛 (‵ ((handle.the_row).own_val d vs) ∷ Γ) G
  handle_out t d vs k =
      fsplit t $ fpick t (λ vss. fsplit t $ feq_l t (λ ev. fsplit t $ feq_l t (λ ep. drop t $
      k (subst (λ (ps : List Val). vs ≡ vstruct (of_list (ps ++ [])) ∷ []) ep ev))))

  pub handle_in : K → (p : Ptr) (s : Option Places)
      → Step K 𝓛 (‵ ((handle.the_row).own_val (record { at = p; held = s }) (word p ∷ [])) ∷ Γ) G (‵ (owns_board p s) ∷ Γ) G
  handle_in t p s = step (λ k.
      nothing t $ feq_i t (List Val) (ptr_val p ∷ []) (ptr_val p ∷ []) refl $ fjoin t $
      feq_i t (List Val) (word p ∷ []) (word p ∷ []) refl $ fjoin t $
      fpack t (Valss (RawPtr ∷ [])) (within (shape handle.the_type) (p, tt) (word p ∷ [])) (ptr_val p ∷ [], tt) $ fjoin t $ k)

  -- the store that is held
  pub held_out : K → (p : Ptr) (s : Option Places) → s ≢ None
      → ((b o : ℕ) (x : Places) → s ≡ Some x → p ≡ block_ptr b o → Seq K 𝓛 (‵ (box_owns (ghosts.dealloc_token heap) board.the_row (block_ptr b o) x) ∷ Γ) G)
      → Seq K 𝓛 (‵ (owns_board p s) ∷ Γ) G
  held_out t p None some k = absurd (some refl)
  held_out t p (Some x) some k =
      in_a_block t p (λ q. box_owns (ghosts.dealloc_token heap) board.the_row q x) (fst∗ 𝓤 (never 𝓤) (sem 𝓛 (ghosts.dealloc_token heap (bare (lone (board.the_row).mir)) null_ptr))) (λ b o e. k b o x refl e)
