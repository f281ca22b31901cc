-- `lend` lends the store at the handle's pointer, and the handle ends with the store as it was left. Assumes `Logic`.
use Rattle.std.proofs.Common.{◌≡◌, ◌≢◌, ℕ, List, [], ◌∷◌, refl, sym, ap, ◌∙◌, Some, None}
use Rattle.std.proofs.raw_atomic.Walks.{proved}
use Rattle.std.specs.Borrow.{full_share, follows}
use seplogic.Ra.Ura.{Ura}
use mir.Raw.{raw as bare}
use mir.Syntax.{named}
use mir.Val.{Val, vptr}
use base.Fml.{Fml, GName, ftrue, flft, fsep}
use base.Logic.{SProp, ent, sep}
use contract.Monad.{fact}
use contract.Running.{tables}
use prog.Wp.{Env}
use types.ByLocal.{alloc_all, pass_all, free_all, look_at, get, through, sets, sets_last, env}
use types.Kit.{‵, raw, ◌⊛◌, some, later, at_ret, ◌$◌, ◌∵◌, !, qed, by, move, keep, drop, split, join, fsplit, fsplit3, fjoin, fpack, rewrite, group, use1, await, pick, suffices, frame, done}
use types.Logic.{Logic, sem}
use types.Part.{whole, sub, look_in}
use types.Run.{stop, fld, load, addr, of_opd, first, blocks, exec, returns, enter}
use denote.Exit.{no}
use denote.Follow.{Part, lends_Part}
use denote.Memory.{cell_at, lone, mem, part_at, part_of}
use denote.RattleType.{RattleType, owns}
use denote.RawPtr.{Ptr, block_ptr}
use denote.Ref.{MutRef, mut_vals, mut_Tells}
use denote.Signature.{mut_ref_to, plain}
use denote.Steps.{heard, nothing, opens}
use denote.Triple.Walked.{Goes-spent_ref, Stays, ends_at, says, stay_dropped, walk_of}
use Rattle.std.specs.contracts.impls.GlobalAllocator.TheImpl.{ghosts}
use Rattle.l6_store.specs.BuddyStore.{BuddyStore}
use Rattle.l6_store.specs.contracts.buddy.Buddy as buddy
use Rattle.l6_store_c.specs.Handle.{heap}
use Rattle.l6_store_c.specs.Lending.{with_store}
use Rattle.l6_store_c.specs.declared.handle.Handle.{Handle}
use Rattle.l6_store_c.specs.contracts.handle.Handle as handle
use Rattle.l6_store_c.specs.contracts.handle.Handle.lend as its
use Rattle.l6_store_c.proofs.HandleValues.{word, handle_out, handle_in, held_out}
use Rattle.l6_store_c.proofs.handle.Handle.lend.Statement.{statement}
use Rattle.l6_store_c.proofs.handle.Handle.lend.Code as code

abbrev H : RattleType
H = handle.the_row

abbrev B : RattleType
B = buddy.the_row

-- at the return the reference to the handle is used up
abbrev remains : Stays its.ended.signature.params its.ended.kept
remains = (stay_dropped (mut_ref_to (0 ∷ []) tt (plain (λ _. H))) no, tt)

module _ {M : Type 1} {𝓤 : Ura M} (𝓛 : Logic 𝓤) (held : Handle) (at place block offset : ℕ) where
  -- all of the handle but its store: the right to free it, and the pointer
  abbrev Rest : Fml
  Rest = fsep (ghosts.dealloc_token heap (bare (lone B.mir)) (block_ptr block offset))
      (cell_at full_share H.mir (word (block_ptr block offset) ∷ []) at place)

  -- with any store there it is a handle again
  back : held.at ≡ block_ptr block offset → (store : BuddyStore)
      → ent 𝓤 (sep 𝓤 (sem 𝓛 ((mem B).own_at store block offset)) (sem 𝓛 Rest))
      (sem 𝓛 ((mem H).own_at (with_store held store) at place))
  unfolding part_of
  back there store =
      qed 𝓛 (‵ (part_at B full_share store block offset) ∷ ‵ Rest ∷ []) ∵
      move ! (1 ∷ []) $ fsplit ! $ move ! (2 ∷ 0 ∷ []) $ fjoin ! $
      handle_in ! (block_ptr block offset) (Some store) $
      rewrite ! 0 (λ (p : Ptr). ‵ (H.own_val (record { at = p; held = Some store })
      (word (block_ptr block offset) ∷ []))) (sym there) refl $
      move ! (1 ∷ 0 ∷ []) $ fjoin ! $
      fpack ! (List Val) (λ vs. fsep (cell_at full_share H.mir vs at place)
      (H.own_val (with_store held store) vs)) (word (block_ptr block offset) ∷ []) $ done !

pub lend_spec : {M : Type 1} → statement M
lend_spec 𝓤 𝓛 𝓜 𝓡 wired =
    let clauses = its.clauses 𝓛 𝓜.mem 𝓡.returns in
    let Walk = walk_of 𝓛 its.ended remains clauses in
    let table = tables 𝓤 𝓛.H 𝓜 𝓡 𝓡.env in
    proved 𝓛 its.ended remains clauses 𝓜 𝓡
    (Goes-spent_ref 𝓛 1 (0 ∷ []) tt (plain (λ _. H)), tt)
    its.Key.name code.function (code.unfolded 𝓤 𝓛.H 𝓜 𝓡 wired)
    (λ κs. (mut_vals, tt)) (λ κs. (mut_Tells (named 0) κs.0 H, tt))
    (λ κs qs bounds args _ typed.
    let self = args.0 in let held = self.now in let γ = self.ghost_name in
    let at = self.ref_ptr.0 in let place = self.ref_ptr.1 in
    let ghosts' : Walk.Ghost = ((κs, qs, bounds, args, (mut_vals self, tt)), tt) in
    let Post : Val → SProp 𝓤 = Walk.post ghosts' in
    qed 𝓛 (((‵ (flft κs.0 qs.0) ⊛ ‵ ftrue) ⊛ ‵ (owns (MutRef (named 0) κs.0 H ∷ []) args (mut_vals self, tt)))
    ∷ raw (fact 𝓤 (held.held ≢ None)) ∷ []) ∵
    move ! (1 ∷ []) $ heard ! (held.held ≢ None) (λ there. split ! $
    enter ! table.C table.Λ code.function (vptr at place ∷ []) Post $
    alloc_all ! (λ l. pass_all ! refl ((tt, tt), tt) $
    let Here : Env 𝓤 𝓛.H = env code.function.locals l in
    move ! (1 ∷ []) $ fsplit ! $ fsplit3 ! $ drop ! $ move ! (3 ∷ []) $ split ! $ move ! (2 ∷ 3 ∷ 0 ∷ []) $
    opens ! tt H {h = held} at place (λ vs. move ! (1 ∷ []) $ handle_out ! held vs (λ ws.
    held_out ! held.at held.held there (λ block offset store is e. fsplit ! $
    -- [the store; the right to free it; the pointer; the open borrow; its names]
    rewrite ! 2 (λ (us : List Val). ‵ (cell_at full_share H.mir us at place))
    (ws ∙ ap (λ (p : Ptr). word p ∷ []) e) refl $
    first ! $ blocks ! $
    sets ! (of_opd ! (load ! (through ! refl (fld ! refl (stop !))) (look_in ! 2 (sub ! 0 refl (whole !))))) refl (tt, tt) $
    sets ! (of_opd ! (get ! refl)) refl (tt, tt) $
    sets_last ! (addr ! (through ! refl (stop !))) refl (tt, tt) $
    exec ! table.C table.Λ Here code.Mir.t-2 (at_ret Here Post) $
    sets ! (of_opd ! (get ! refl)) refl (tt, tt) $
    move ! (1 ∷ 2 ∷ []) $ fjoin ! $ move ! (2 ∷ 3 ∷ 4 ∷ 1 ∷ 0 ∷ []) $ group ! 5 $
    let rest : SProp 𝓤 = sem 𝓛 (Rest 𝓛 held at place block offset) in
    let again = back 𝓛 held at place block offset e in
    use1 𝓛 (later (some (λ (γ' : GName). ‵ ((MutRef (named 0) κs.0 B).own_val (record {
      ref_ptr = (block, offset);
      ghost_name = γ';
      now = store;
    }) (vptr block offset ∷ [])) ⊛ ‵ (flft κs.0 qs.0) ⊛ ‵ (follows H B γ γ' (with_store held)))))
    (lends_Part 𝓛 H B (with_store held) (named 0) κs.0 qs.0 at place block offset γ rest again
    (H.coded.code held) (H.coded.code held) store) $ await ! tt $ pick ! (λ γ'.
    returns ! (look_at ! 0 refl) $ free_all ! refl $ keep ! (0 ∷ []) $ split ! $ move ! (1 ∷ []) $ split ! $ move ! (2 ∷ []) $
    suffices ! _ (ends_at 𝓛 its.ended remains clauses ghosts' (vptr block offset)
    (record { ref_ptr = (block, offset); ghost_name = γ'; now = store }) (tt, tt) (tt, tt)) $
    nothing ! $ nothing ! $ fjoin ! $ join ! $ nothing ! $ move ! (2 ∷ 0 ∷ []) $ join ! $ join ! $
    frame ! $ says ! is $ done !)))))))
