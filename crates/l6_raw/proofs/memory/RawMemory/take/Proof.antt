-- `take` asks the allocator for room. What it answers is either the room of so many words, with the
-- right to give it back, of which the memory and its deallocation token are made; or its refusal,
-- which is handed on. Assumes `Logic`.
use Rattle.std.proofs.Common.{◌≡◌, ◌+◌, ◌-◌, ◌*◌, ◌<◌, ◌≤◌, ◌^◌, ℕ, List, [], ◌∷◌, ◌++◌, refl, arith, lit<, w64, Ok, Err}
use Rattle.std.proofs.ResultValues.{ok_of, err_of}
use Rattle.std.proofs.alloc.Calls.{Al, seen, Takes, at_takes, Answered, Takes-goes, Takes-gives, answers}
use Rattle.std.proofs.alloc.Shapes.{after, head, arm_body}
use Rattle.std.proofs.raw_atomic.Walks.{proved_at, leaves}
use Rattle.std.specs.Borrow.{usize}
use Rattle.std.specs.contracts.alloc.AllocError as AllocError
use base.Fml.{Lft, Share, ftrue, flft, froom}
use base.Logic.{SProp, emp, id⊢}
use contract.BorrowLft.{◌⊑◌, ⊑_trans}
use contract.Monad.{fact, fact_i}
use contract.Running.{tables}
use mir.MapTy.{inst_fn}
use mir.Syntax.{Fn, Args, a_type, dcons, dnil}
use mir.Val.{Val, vint, vptr, vcons, vnil, vstruct}
use prog.Capped.{capped_is}
use prog.Wp.{Wp, Env, WpFn, after_seq}
use types.ByLocal.{alloc_all, pass_all, free_all, look_at, get, get_in, get_tag, sets, sets_last, lands_as, env}
use types.Kit.{Post as Post', any_q, post, rewrite, ‵, raw, ◌⊛◌, later, prop, at_ret, ◌$◌, ◌∵◌, !, qed, by, move, drop, use0, use1, use2, split, join, regoal, fsplit, fjoin, await}
use types.Match.{live, vrt, in_variant}
use types.Part.{whole, agg}
use types.Run.{bin, stop, fld, lit, of_opd, no_more, and_then, first, switches_on, exec, returns, enter}
use denote.Builtin.{RefOf}
use denote.Laws.{Is}
use denote.Param.{param, bounded}
use denote.RattleType.{RattleType, owns}
use denote.RawPtr.{Ptr, block_ptr}
use denote.Signature.{Slot, plain, types_at, type_at}
use denote.Steps.{nothing, heard, owned}
use denote.Struct.Declared as Declared
use denote.Struct.Owning.{shape}
use denote.Struct.Struct.{Struct, Struct-Makes}
use denote.Struct.Tuple.{Tuple}
use denote.Triple.Call.{calls_at}
use denote.Triple.Entry.{alive}
use denote.Triple.Table.{framed}
use denote.Triple.Walked.{Stays, stay_dropped, walk_of, Goes-dropped}
use Rattle.l6_raw.proofs.Fields.{memory_val, fields_own, fields_made, token_val, paired}
use Rattle.l6_raw.proofs.Rows.{array_at, none_at}
use Rattle.l6_raw.proofs.memory.RawMemory.take.Code as code
use Rattle.l6_raw.proofs.memory.RawMemory.take.Statement.{statement}
use Rattle.l6_raw.specs.Room.{row_of}
use Rattle.l6_raw.specs.contracts.memory.RawMemory as RawMemory
use Rattle.l6_raw.specs.contracts.memory.RawMemory.take as its
use Rattle.l6_raw.specs.contracts.memory.RawMemory.take.Key.{name as #take}
use Rattle.l6_raw.specs.contracts.memory.DeallocToken as DeallocToken

pub take_spec : {M : Type 1} → statement M
take_spec 𝓤 𝓛 𝓜 𝓡 wired A laws members methods drops met dropped =
    let End = its.ended A members methods drops in
    let clauses = its.clauses A members methods drops 𝓛 𝓜.mem 𝓡.returns in
    let args : Args = bounded (a_type ∷ []) (A, tt) (dcons methods (dcons drops dnil)) in
    let fn : Fn = inst_fn args code.function in
    let Handle : RattleType = param 0 A in
    let Both : RattleType = Tuple (RawMemory.the_row ∷ DeallocToken.the_row Handle members ∷ []) in
    -- neither the `&` to the allocator nor the count is there at the return
    let handle : Slot 2 = RefOf (0 ∷ []) tt (plain (λ _. Handle)) (λ _. tt) in
    let number : Slot 2 = plain (λ _. usize) in
    let remains : Stays End.signature.params End.kept =
    (stay_dropped handle End.kept.0, (stay_dropped number End.kept.1.0, tt)) in
    let Walk = walk_of 𝓛 End remains clauses in
    let table = tables 𝓤 𝓛.H 𝓜 𝓡 𝓡.env in
    proved_at 𝓛 End remains clauses 𝓜 𝓡 (
      Goes-dropped 𝓛 2 handle End.kept.0 (λ κs x f. refl),
      (Goes-dropped 𝓛 2 number End.kept.1.0 (λ κs x f. refl), tt),
    )
    (#take args) fn (code.unfolded 𝓤 𝓛.H 𝓜 𝓡 wired (A, tt) methods drops) (λ ghosts typed.
    let Post : Val → SProp 𝓤 = Walk.post ghosts in
    let giver : Al = record { row = A; laws = laws; g = members; d = methods; drops = drops } in
    let κ : Lft = ghosts.0.0.0 in
    let q : Share = ghosts.0.1.0 in
    let alloc = ghosts.0.3.0.now in
    let at = ghosts.0.3.0.ref_ptr in
    let room = ghosts.0.3.1.0 in
    let room_typed = typed.1.0.1 in
    let call = at_takes giver 𝓛 𝓜.mem 𝓡.returns κ q at alloc (room * 8) 8 (row_of room) in
    let Out : RattleType = type_at End.signature.result ghosts.0.0 in
    let lives : Type 0 = ghosts.0.0.1.0 ⊑ A.lives in
    qed 𝓛 ((raw (alive 𝓛 End.signature ghosts.0.0 ghosts.0.1)
    ⊛ ‵ (owns (types_at End.signature.params ghosts.0.0) ghosts.0.3 ghosts.0.4))
    ∷ (raw (fact 𝓤 lives) ⊛ raw (fact 𝓤 (room < 2 ^ 32))) ∷ []) ∵
    move ! (1 ∷ []) $ split ! $ heard ! lives (λ living. heard ! (room < 2 ^ 32) (λ small.
    let bytes : room * 8 < 2 ^ 64 = omega (arith, small) in
    split ! $ move ! (1 ∷ []) $ fsplit ! $ fsplit ! $ drop ! $ move ! (1 ∷ []) $ drop ! $
    use1 𝓛 (‵ (seen giver κ at alloc)) (id⊢ 𝓤 _) $ move ! (1 ∷ []) $
    use1 𝓛 (‵ (flft κ q) ⊛ ‵ (flft ghosts.0.0.1.0 ghosts.0.1.1.0) ⊛ ‵ ftrue) (id⊢ 𝓤 _) $
    split ! $ move ! (2 ∷ 0 ∷ []) $
    regoal ! (λ (us : List Val). prop (WpFn 𝓤 𝓛.H table.C table.Λ fn us Post))
    (λ i. typed.0.0 i ++ (typed.1.0.0 i ++ [])) refl $
    enter ! table.C table.Λ fn (vptr at.0 at.1 ∷ vint w64 room ∷ []) Post $
    alloc_all ! (λ locals. pass_all ! refl ((tt, tt), ((tt, record { fits = room_typed }), tt)) $
    let here : Env 𝓤 𝓛.H = env fn.locals locals in
    let ending = at_ret here Post in
    let onward : Post' 𝓤 𝓛.H = any_q (after_seq 𝓤 𝓛.H
    (Wp 𝓤 𝓛.H table.C table.Λ here (after 3 fn.body) (post 𝓤 𝓛.H ending)) (post 𝓤 𝓛.H ending)) in
    sets ! (bin ! (get ! refl) (lit ! tt) (record { fits = bytes })) refl
    (tt, record { fits = bytes }) $
    -- the call; the allocator answers
    use2 𝓛 (raw ((Takes giver 𝓛 𝓜.mem 𝓡.returns).pre call))
    (Takes-goes giver 𝓛 𝓜.mem 𝓡.returns κ q at alloc
    (⊑_trans κ ghosts.0.0.1.0 A.lives ghosts.0.2.0 living)
    (room * 8) 8 (row_of room) (capped_is (room * 8) bytes) refl bytes (lit< tt)) $
    calls_at ! (framed 𝓤 𝓛.H 𝓜 table) (Takes giver 𝓛 𝓜.mem 𝓡.returns) (met.allocate drops) call
    (and_then ! (get ! refl) (and_then ! (get ! refl) (and_then ! (lit ! tt) (no_more !)))) (λ answer.
    use1 𝓛 (later (raw (Answered giver 𝓛 𝓜.mem 𝓡.returns alloc (row_of room) answer) ⊛ ‵ (flft κ q)))
    (Takes-gives giver 𝓛 𝓜.mem 𝓡.returns κ q at alloc (room * 8) 8 (row_of room) answer) $
    await ! tt $ split ! $ answers giver ! 𝓜.mem 𝓡.returns alloc (row_of room) answer
    -- room, and the right to give it back
    (λ block from e.
    let start : Ptr = block_ptr block from in
    let within : 0 ≤ room = omega arith in
    let memory : (RawMemory.the_row).Denot = record {
      start = start;
      room = room;
      written = 0;
      words = [];
      counted = refl;
      within = within;
      small = small;
    } in
    let token : (DeallocToken.the_row Handle members).Denot
    = record { giver = record {}; alloc = alloc; start = start; room = room } in
    let pair : Val = vstruct (vcons (memory_val start room 0) (vcons token_val vnil)) in
    let given : Val = live 0 (vcons pair vnil) in
    let denoted : Type 0 =
    (memory.words ≡ []) × (room ≡ room) × (start ≡ start) × (room ≡ room) × (alloc ≡ alloc) in
    let following : (room, from) ≡ (room - 0, from + 0 * 8) = (
    let all : room ≡ room - 0 = omega arith in
    let first_byte : from ≡ from + 0 * 8 = omega arith in
    λ j. (all j, first_byte j)) in
    move ! (2 ∷ 3 ∷ []) $ join ! $ move ! (1 ∷ 2 ∷ []) $
    lands_as ! (e) refl (tt, (record { fits = lit< tt }, (tt, tt))) $
    first ! $ switches_on ! (get_tag ! (vrt ! refl (fld ! refl (stop !))) (whole !)) $
    exec ! table.C table.Λ here (arm_body 0 (head (after 2 fn.body))) onward $
    sets ! (of_opd ! (get_in ! (vrt ! refl (fld ! refl (stop !)))
    (in_variant ! 0 0 refl refl (whole !))))
    refl (tt, tt) $
    sets ! (of_opd ! (get ! refl)) refl (tt, tt) $
    -- the memory's fields, the token's, and both once more as the parts of a pair
    sets ! (agg ! (and_then ! (get ! refl)
    (and_then ! (get ! refl) (and_then ! (lit ! tt) (no_more !)))))
    refl (tt, (tt, (record { fits = room_typed }, (record { fits = lit< tt }, tt)))) $
    sets ! (agg ! (no_more !)) refl (tt, tt) $
    sets ! (agg ! (and_then ! (get ! refl) (no_more !))) refl (tt, (tt, tt)) $
    sets ! (of_opd ! (get ! refl)) refl
    (tt, (tt, (record { fits = room_typed }, (record { fits = lit< tt }, tt)))) $
    sets ! (of_opd ! (get ! refl)) refl (tt, (tt, tt)) $
    sets ! (agg ! (and_then ! (get ! refl) (and_then ! (get ! refl) (no_more !)))) refl
    (tt, ((tt, (record { fits = room_typed }, (record { fits = lit< tt }, tt))), ((tt, tt), tt))) $
    sets_last ! (agg ! (and_then ! (lit ! tt) (and_then ! (get ! refl) (no_more !)))) refl (
      tt,
      (
        record { fits = lit< tt },
        (((tt, (record { fits = room_typed }, (record { fits = lit< tt }, tt))), ((tt, tt), tt)), tt),
      ),
    ) $
    exec ! table.C table.Λ here (after 3 fn.body) ending $
    sets ! (of_opd ! (get ! refl)) refl (
      tt,
      (
        record { fits = lit< tt },
        (((tt, (record { fits = room_typed }, (record { fits = lit< tt }, tt))), ((tt, tt), tt)), tt),
      ),
    ) $
    returns ! (look_at ! 0 refl) $ free_all ! refl $
    -- the memory owns the room and no word yet, the token the right
    rewrite ! 0 (λ (z : ℕ × ℕ). ‵ (froom (row_of z.0) block z.1)) following refl $
    use0 𝓛 (‵ (array_at 𝓛 block [] from)) (none_at 𝓛 block from) $ fjoin ! $
    use0 𝓛 (‵ (fields_own start room 0)) (fields_made 𝓛 start room 0 room_typed (lit< tt)) $ fjoin ! $
    move ! (1 ∷ []) $
    owned ! (Struct (shape (DeallocToken.the_type Handle members)))
    (Is (Struct (shape (DeallocToken.the_type Handle members))))
    (Struct-Makes 𝓛 (shape (DeallocToken.the_type Handle members)) ((λ x vs vss. (tt, tt)), tt))
    (tt, tt)
    (token_val ∷ []) ((vstruct vnil ∷ [], tt), (refl, ((tt, (refl, tt)), tt))) $ fjoin ! $
    move ! (1 ∷ 0 ∷ []) $
    use2 𝓛 (‵ (Both.own_val (memory, token) (pair ∷ [])))
    (paired 𝓛 RawMemory.the_row (DeallocToken.the_row Handle members) memory token
    (memory_val start room 0)
    token_val) $
    use1 𝓛 (‵ (Out.own_val (Ok (memory, token)) (given ∷ [])))
    (ok_of 𝓛 Both AllocError.the_row (memory, token) pair) $
    use0 𝓛 (raw (fact 𝓤 denoted)) (fact_i 𝓤 denoted (emp 𝓤) (refl, refl, refl, refl, refl)) $
    nothing ! $ nothing ! $ fjoin ! $ nothing ! $ fjoin ! $ move ! (3 ∷ 0 ∷ 2 ∷ 1 ∷ []) $
    by ! (leaves 𝓛 End remains clauses ghosts given (Ok (memory, token)) (tt, (tt, tt)) (tt, (tt, tt))))
    -- the refusal is handed on
    (λ e.
    let Refusal : RattleType = Struct (Declared.shape AllocError.the_type) in
    let refused : Val = live 1 (vcons (vstruct vnil) vnil) in
    join ! $ lands_as ! (e) refl (tt, (record { fits = lit< tt }, (tt, tt))) $
    first ! $ switches_on ! (get_tag ! (vrt ! refl (fld ! refl (stop !))) (whole !)) $
    exec ! table.C table.Λ here (arm_body 1 (head (after 2 fn.body))) onward $
    sets ! (of_opd ! (get_in ! (vrt ! refl (fld ! refl (stop !)))
    (in_variant ! 1 0 refl refl (whole !))))
    refl (tt, tt) $
    sets_last ! (agg ! (and_then ! (lit ! tt) (and_then ! (get ! refl) (no_more !)))) refl
    (tt, (record { fits = lit< tt }, (tt, tt))) $
    exec ! table.C table.Λ here (after 3 fn.body) ending $
    sets ! (of_opd ! (get ! refl)) refl (tt, (record { fits = lit< tt }, (tt, tt))) $
    returns ! (look_at ! 0 refl) $ free_all ! refl $
    owned ! Refusal (Is Refusal) (Struct-Makes 𝓛 (Declared.shape AllocError.the_type) tt) tt
    (vstruct vnil ∷ []) (tt, (refl, tt)) $
    use1 𝓛 (‵ (Out.own_val (Err (record {})) (refused ∷ [])))
    (err_of 𝓛 Both AllocError.the_row (record {}) (vstruct vnil)) $
    use0 𝓛 (raw (fact 𝓤 (Unit {0}))) (fact_i 𝓤 (Unit {0}) (emp 𝓤) (tt)) $
    nothing ! $ nothing ! $ fjoin ! $ nothing ! $ fjoin ! $ move ! (3 ∷ 0 ∷ 2 ∷ 1 ∷ []) $
    by ! (leaves 𝓛 End remains clauses ghosts refused (Err (record {})) (tt, (tt, tt))
    (tt, (tt, tt)))))))))
