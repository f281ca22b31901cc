-- `free` gives the allocator the whole room, of the words and of what is after them, with the right
-- to give it back. Assumes `Logic`.
use Rattle.std.proofs.Common.{◌≡◌, ◌+◌, ◌-◌, ◌*◌, ◌<◌, ◌^◌, ℕ, List, [], ◌∷◌, ◌++◌, length, refl, ap, ◌∙◌, arith, lit<}
use Rattle.std.proofs.alloc.Calls.{Al, seen, Goes-blank, Gives, at_gives, Gives-goes, Gives-Gives}
use Rattle.std.proofs.alloc.Shapes.{after}
use Rattle.std.proofs.raw_atomic.Walks.{proved_at, leaves}
use Rattle.std.specs.Borrow.{Array, u64}
use base.Fml.{Lft, Share, ftrue, flft}
use base.Fraction.{full_share}
use base.Logic.{SProp, never, id⊢}
use contract.BorrowLft.{◌⊑◌, ⊑_trans}
use contract.Monad.{fact}
use contract.Running.{tables}
use mir.MapTy.{inst_fn}
use mir.Syntax.{Fn, Args, a_type, dcons, dnil, place}
use mir.Val.{Val, vptr, vunit}
use prog.Capped.{capped_is}
use prog.Wp.{Wp, Env, WpFn, after_seq, after_block}
use types.ByLocal.{alloc_all, pass_all, free_all, look_at, get, get_in, sets, lands_last, env}
use types.Kit.{Post as Post', any_q, post, ‵, raw, ◌⊛◌, use2, given, later, prop, settles, at_ret, ◌$◌, ◌∵◌, !, qed, by, move, drop, use1, use3, split, join, learn, rewrite, regoal, fsplit, fsplit3, fjoin, feq_i, await}
use types.Part.{whole, sub}
use types.Run.{bin, stop, fld, lit, unit_lit, of_opd, no_more, and_then, first, blocks, exec, returns, enter}
use denote.Builtin.{RefOf}
use denote.Param.{param, bounded}
use denote.RattleType.{RattleType, owns}
use denote.RawPtr.{Ptr, block_ptr, in_a_block, lies_at}
use denote.Signature.{Slot, plain, types_at}
use denote.Steps.{nothing, heard}
use denote.Triple.Call.{calls_at_last}
use denote.Triple.Entry.{alive}
use denote.Triple.Table.{framed}
use denote.Triple.Walked.{Stays, stay_dropped, walk_of, Goes-dropped}
use Rattle.l6_raw.proofs.Fields.{memory_val, token_val, token_known}
use Rattle.l6_raw.proofs.Rooms.{room_at, emptied}
use Rattle.l6_raw.proofs.memory.RawMemory.TheLaws.{lowers}
use Rattle.l6_raw.proofs.memory.RawMemory.free.Code as code
use Rattle.l6_raw.proofs.memory.RawMemory.free.Statement.{statement}
use Rattle.l6_raw.specs.Room.{row_of, room_following}
use Rattle.l6_raw.specs.contracts.memory.RawMemory as RawMemory
use Rattle.l6_raw.specs.contracts.memory.RawMemory.free as its
use Rattle.l6_raw.specs.contracts.memory.RawMemory.free.Key.{name as #free}
use Rattle.l6_raw.specs.contracts.memory.DeallocToken as DeallocToken

pub free_spec : {M : Type 1} → statement M
free_spec 𝓤 𝓛 𝓜 𝓡 wired A laws members methods drops met dropped =
    let End = its.ended A members methods drops in
    let clauses = its.clauses A members methods drops 𝓛 𝓜.mem 𝓡.returns in
    let args : Args = bounded (a_type ∷ []) (A, tt) (dcons methods (dcons drops dnil)) in
    let fn : Fn = inst_fn args code.function in
    let Handle : RattleType = param 0 A in
    -- the memory and its deallocation token are used up; the `&` to the allocator is not there at
    -- the return
    let memory_slot : Slot 2 = plain (λ _. RawMemory.the_row) in
    let token_slot : Slot 2 = plain (λ _. DeallocToken.the_row Handle members) in
    let handle_slot : Slot 2 = RefOf (0 ∷ []) tt (plain (λ _. Handle)) (λ _. tt) in
    let remains : Stays End.signature.params End.kept = (
      stay_dropped memory_slot End.kept.0,
      (stay_dropped token_slot End.kept.1.0, (stay_dropped handle_slot End.kept.1.1.0, tt)),
    ) in
    let Walk = walk_of 𝓛 End remains clauses in
    let table = tables 𝓤 𝓛.H 𝓜 𝓡 𝓡.env in
    proved_at 𝓛 End remains clauses 𝓜 𝓡 (
      Goes-blank 𝓛 2 memory_slot End.kept.0 (λ κs x f. tt),
      (
        Goes-blank 𝓛 2 token_slot End.kept.1.0 (λ κs x f. tt),
        (Goes-dropped 𝓛 2 handle_slot End.kept.1.1.0 (λ κs x f. refl), tt),
      ),
    )
    (#free args) fn (code.unfolded 𝓤 𝓛.H 𝓜 𝓡 wired (A, tt) methods drops) (λ ghosts typed.
    let Post : Val → SProp 𝓤 = Walk.post ghosts in
    let giver : Al = record { row = A; laws = laws; g = members; d = methods; drops = drops } in
    let κ : Lft = ghosts.0.0.0 in
    let q : Share = ghosts.0.1.0 in
    let memory = ghosts.0.3.0 in
    let words = memory.words in
    let count = length words in
    let room = memory.room in
    let token = ghosts.0.3.1.0 in
    let alloc = ghosts.0.3.1.1.0.now in
    let at = ghosts.0.3.1.1.0.ref_ptr in
    let lives : Type 0 = ghosts.0.0.1.0 ⊑ A.lives in
    let Asked : Type 0 = (token.start ≡ memory.start) × (token.room ≡ room) × (token.alloc ≡ alloc) in
    let bytes : room * 8 < 2 ^ 64 = omega (arith, memory.small) in
    let room_fits : room < 2 ^ 64 = omega (arith, memory.small) in
    let written_fits : memory.written < 2 ^ 64 = omega (arith, memory.within, memory.small) in
    let whole_room : count + (room - count) ≡ room = omega (arith, memory.counted, memory.within) in
    qed 𝓛 ((raw (alive 𝓛 End.signature ghosts.0.0 ghosts.0.1)
    ⊛ ‵ (owns (types_at End.signature.params ghosts.0.0) ghosts.0.3 ghosts.0.4))
    ∷ (raw (fact 𝓤 lives) ⊛ raw (fact 𝓤 Asked)) ∷ []) ∵
    move ! (1 ∷ []) $ split ! $ heard ! lives (λ living. heard ! Asked (λ asked.
    split ! $ move ! (1 ∷ []) $ fsplit3 ! $ fsplit ! $ drop ! $ fsplit ! $
    in_a_block ! memory.start (λ p. lies_at (Array u64 count) full_share p words) (id⊢ 𝓤 (never 𝓤))
    (λ block from e.
    -- the words and the room after them are room for all
    rewrite ! 1 (λ (p : Ptr). ‵ (room_following p room count)) e refl $
    use2 𝓛 (‵ (room_at 𝓛 block (count + (room - count)) from))
    (emptied 𝓛 block words (room - count) from) $
    rewrite ! 0 (λ (k : ℕ). ‵ (room_at 𝓛 block k from)) whole_room refl $
    -- the right is that of this allocator to this block
    move ! (1 ∷ []) $ fsplit ! $ drop ! $
    rewrite ! 0 (λ (u : A.Denot × ℕ × Ptr). ‵ (members.dealloc_token u.0 (row_of u.1) u.2))
    (λ i. (asked.2 i, asked.1 i, (asked.0 ∙ e) i)) refl $
    move ! (2 ∷ []) $ fsplit ! $ fsplit ! $ drop ! $ move ! (1 ∷ []) $ drop ! $
    use1 𝓛 (‵ (seen giver κ at alloc)) (id⊢ 𝓤 _) $ move ! (3 ∷ []) $
    use1 𝓛 (‵ (flft κ q) ⊛ ‵ (flft ghosts.0.0.1.0 ghosts.0.1.1.0) ⊛ ‵ ftrue) (id⊢ 𝓤 _) $
    split ! $ move ! (2 ∷ 0 ∷ []) $ join ! $ move ! (3 ∷ 2 ∷ []) $
    let call = at_gives giver 𝓛 𝓜.mem 𝓡.returns κ q at alloc block from (room * 8) 8 (row_of room) in
    let stored = lowers.val_is memory ghosts.0.4.0 typed.0
    ∙ ap (λ (p : Ptr). memory_val p room memory.written ∷ []) e in
    regoal ! (λ (us : List Val). prop (WpFn 𝓤 𝓛.H table.C table.Λ fn us Post))
    (λ i. stored i ++ (token_known ghosts.0.4.1.0 typed.1.0.0 i ++ (typed.1.1.0.0 i ++ []))) refl $
    enter ! table.C table.Λ fn
    (memory_val (block_ptr block from) room memory.written ∷ token_val ∷ vptr at.0 at.1 ∷ []) Post $
    alloc_all ! (λ locals. pass_all ! refl (
      (tt, (tt, (record { fits = room_fits }, (record { fits = written_fits }, tt)))),
      ((tt, (tt, tt)), ((tt, tt), tt)),
    ) $
    let here : Env 𝓤 𝓛.H = env fn.locals locals in
    let ending = at_ret here Post in
    let onward : Post' 𝓤 𝓛.H = any_q (after_seq 𝓤 𝓛.H
    (Wp 𝓤 𝓛.H table.C table.Λ here (after 3 fn.body) (post 𝓤 𝓛.H ending)) (post 𝓤 𝓛.H ending)) in
    let outside : Post' 𝓤 𝓛.H = any_q (after_block 𝓤 𝓛.H (post 𝓤 𝓛.H onward)) in
    sets ! (of_opd ! (get_in ! (fld ! refl (stop !)) (sub ! 0 refl (whole !)))) refl (tt, tt) $
    sets ! (of_opd ! (get_in ! (fld ! refl (stop !)) (sub ! 1 refl (whole !)))) refl
    (tt, record { fits = room_fits }) $
    first ! $ blocks ! $
    sets ! (of_opd ! (get ! refl)) refl (tt, tt) $
    sets ! (bin ! (get ! refl) (lit ! tt) (record { fits = bytes })) refl
    (tt, record { fits = bytes }) $
    -- the call; the allocator answers nothing
    use3 𝓛 (raw ((Gives giver 𝓛 𝓜.mem 𝓡.returns).pre call))
    (Gives-goes giver 𝓛 𝓜.mem 𝓡.returns κ q at alloc
    (⊑_trans κ ghosts.0.0.1.0 A.lives ghosts.0.2.0 living)
    block from (room * 8) 8 (row_of room) (capped_is (room * 8) bytes) refl bytes (lit< tt)) $
    calls_at_last ! (framed 𝓤 𝓛.H 𝓜 table) (Gives giver 𝓛 𝓜.mem 𝓡.returns) (met.deallocate drops) call
    (and_then ! (get ! refl) (and_then ! (get ! refl) (and_then ! (get ! refl) (and_then ! (lit ! tt)
    (no_more !))))) (λ answer.
    use1 𝓛 (later (given (answer ≡ vunit) (‵ (flft κ q))))
    (Gives-Gives giver 𝓛 𝓜.mem 𝓡.returns κ q at alloc block from (room * 8) 8 (row_of room) answer) $
    await ! tt $ learn ! (λ nothing_denoted. join ! $
    regoal ! (λ (u : Val). settles here (place 6 []) u outside) (nothing_denoted) refl $
    lands_last ! refl (tt, tt) $
    exec ! table.C table.Λ here (after 3 fn.body) ending $
    sets ! (of_opd ! (unit_lit !)) refl (tt, tt) $
    returns ! (look_at ! 0 refl) $ free_all ! refl $
    -- of the parameters nothing is left
    feq_i ! (List Val) (vunit ∷ []) (vunit ∷ []) refl $ nothing ! $
    nothing ! $ nothing ! $ fjoin ! $ nothing ! $ fjoin ! $ nothing ! $ fjoin ! $
    move ! (3 ∷ 0 ∷ 2 ∷ 1 ∷ []) $
    by ! (leaves 𝓛 End remains clauses ghosts vunit tt (tt, (tt, (tt, tt))) (tt, (tt, (tt, tt)))))))))))
