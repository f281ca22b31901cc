-- `append` through the pointer. The room of the next word is cut off the room after the words, and the
-- word put into it; it then is the last of the row, and the count says one more. Assumes `Logic`.
use Rattle.std.proofs.Common.{◌≡◌, ◌+◌, ◌-◌, ◌*◌, ◌<◌, ◌≤◌, ◌^◌, ℕ, suc, List, [], ◌∷◌, ◌++◌, length, length-append, refl, sym, ap, ◌∙◌, w64, arith}
use Rattle.std.proofs.raw_atomic.Walks.{proved}
use Rattle.std.specs.Borrow.{Array, u64}
use base.Fml.{ftrue, flft, froom}
use base.Fraction.{full_share}
use base.Logic.{id⊢}
use contract.Monad.{fact}
use contract.Running.{tables}
use mir.Syntax.{named, ty_int}
use mir.Val.{Val, vunit}
use types.ByLocal.{alloc_all, pass_all, free_all, look_at, get, through, sets, env}
use types.Kit.{‵, raw, ◌⊛◌, at_ret, ◌$◌, ◌∵◌, !, qed, done, move, keep, drop, use0, use1, use2, split, join, fsplit, fsplit3, fjoin, feq_i, rewrite, suffices, frame, group}
use types.Part.{whole, sub, look_in, store_in}
use types.Run.{enter, of_opd, lit, unit_lit, load, bin, init, stop, fld, assigns, assigns_last, first, blocks, exec, returns}
use denote.Exit.{yes}
use denote.Laws.{shows}
use denote.Memory.{cell_at}
use denote.Plain.{uint_vals, uint_Tells}
use denote.RawPtr.{Ptr, lies_at, room_for, ◌+ₚ◌, in_a_block}
use denote.Ref.{MutRef, mut_vals, mut_Tells}
use denote.Signature.{plain}
use denote.Steps.{nothing, opens, closes, heard, peeks}
use denote.Triple.Walked.{Stays, walk_of, says, stay_ref, stay_dropped, Goes-ref, Goes-dropped, ends_at}
use Rattle.l6_raw.proofs.Fields.{memory_val, fields_own, fields_made}
use Rattle.l6_raw.proofs.Rows as Rows
use Rattle.l6_raw.proofs.memory.RawMemory.TheLaws.{lowers}
use Rattle.l6_raw.proofs.memory.RawMemory.append.Code as code
use Rattle.l6_raw.proofs.memory.RawMemory.append.Statement.{statement}
use Rattle.l6_raw.specs.Room.{row_of, room_following}
use Rattle.l6_raw.specs.contracts.memory.RawMemory.{the_row as Row}
use Rattle.l6_raw.specs.contracts.memory.RawMemory.append as its

-- at the return the reference is still there, the word is used up
abbrev remains : Stays its.ended.signature.params its.ended.kept
remains = (stay_ref (0 ∷ []) tt (plain (λ _. Row)), (stay_dropped (plain (λ _. u64)) yes, tt))

pub append_spec : {M : Type 1} → statement M
append_spec 𝓤 𝓛 𝓜 𝓡 wired =
    let clauses = its.clauses 𝓛 𝓜.mem 𝓡.returns in
    let Walk = walk_of 𝓛 its.ended remains clauses in
    let table = tables 𝓤 𝓛.H 𝓜 𝓡 𝓡.env in
    proved 𝓛 its.ended remains clauses 𝓜 𝓡 (
      Goes-ref 𝓛 1 0 tt (plain (λ _. Row)),
      (Goes-dropped 𝓛 1 (plain (λ _. u64)) yes (λ κs x w. refl), tt),
    )
    its.Key.name code.function (code.unfolded 𝓤 𝓛.H 𝓜 𝓡 wired)
    (λ κs. (mut_vals, (uint_vals w64, tt)))
    (λ κs. (mut_Tells (named 0) κs.0 Row, (uint_Tells w64, tt)))
    (λ κs qs bounds args _ typed.
    let self = args.0 in
    let word = args.1.0 in
    let memory = self.now in
    let words = memory.words in
    let written = memory.written in
    let ghosts : Walk.Ghost = ((κs, qs, bounds, args, (mut_vals self, (uint_vals w64 word, tt))), tt) in
    let word_fits = typed.1.0.1 in
    qed 𝓛 (((‵ (flft κs.0 qs.0) ⊛ ‵ ftrue) ⊛ ‵
    ((MutRef (named 0) κs.0 Row).own_val self (mut_vals self))
    ⊛ ‵ (u64.own_val word (uint_vals w64 word)) ⊛ ‵ ftrue)
    ∷ raw (fact 𝓤 (length words < memory.room)) ∷ []) ∵
    move ! (1 ∷ []) $ heard ! _ (λ below.
    let more = memory.room - suc (length words) in
    let left : memory.room - length words ≡ suc more = omega (arith, below) in
    let fits : written < 2 ^ 64 = omega (arith, memory.counted, below, memory.small) in
    let next_fits : written + 1 < 2 ^ 64 = omega (arith, memory.counted, below, memory.small) in
    let room_fits : memory.room < 2 ^ 64 = omega (arith, memory.small) in
    let bytes : written * 8 < 2 ^ 64 = omega (arith, memory.counted, below, memory.small) in
    split ! $ split ! $ move ! (2 ∷ []) $ split ! $ keep ! (0 ∷ 2 ∷ []) $
    enter ! _ _ _ _ _ $
    alloc_all ! (λ locals. pass_all ! refl ((tt, tt), ((tt, record { fits = word_fits }), tt)) $
    -- the memory is opened: its words, its room, its fields, its own cell, the open borrow
    fsplit3 ! $ move ! (1 ∷ 2 ∷ 3 ∷ []) $ opens ! tt Row self.ref_ptr.0 self.ref_ptr.1 (λ us.
    move ! (1 ∷ []) $ peeks ! Row _ (shows 𝓛 Row) memory us
    (λ is. fsplit ! $ move ! (1 ∷ []) $ fsplit ! $
    in_a_block ! memory.start (λ p. lies_at (Array u64 (length words)) full_share p words) (id⊢ 𝓤 _)
    (λ block from e.
    let here = written * 8 + from in
    let start : from + length words * 8 ≡ here = omega (arith, memory.counted) in
    let last : here ≡ length words * 8 + from = omega (arith, memory.counted) in
    let following : here + 8 ≡ from + suc (length words) * 8 = omega (arith, memory.counted) in
    let known = lowers.val_is memory us is
    ∙ ap (λ (p : Ptr). lowers.lowered (record memory { start = p }) ∷ []) e in
    let own_cell = λ (vs : List Val). ‵ (cell_at full_share Row.mir vs self.ref_ptr.0 self.ref_ptr.1) in
    -- the next word's room is the first of the room
    move ! (1 ∷ []) $
    rewrite ! 0 (λ (p : Ptr). ‵
    (room_for (row_of (memory.room - length words)) (p +ₚ (length words * 8))))
    e refl $
    rewrite ! 0 (λ (k : ℕ). ‵ (froom (row_of k) block (from + length words * 8))) left refl $
    rewrite ! 0 (λ (k : ℕ). ‵ (froom (row_of (suc more)) block k)) start refl $
    use1 𝓛 (‵ (froom (ty_int w64) block here) ⊛ ‵ (froom (row_of more) block (here + 8)))
    (𝓛.laws.room_uncons (ty_int w64) more block here) $ split ! $
    rewrite ! 4 own_cell known refl $
    first ! $ blocks ! $
    sets ! (of_opd ! (load ! (through ! refl (fld ! refl (stop !)))
    (look_in ! 4 (sub ! 0 refl (whole !))))) refl (tt, tt) $
    sets ! (of_opd ! (load ! (through ! refl (fld ! refl (stop !)))
    (look_in ! 4 (sub ! 2 refl (whole !))))) refl (tt, record { fits = fits }) $
    sets ! (bin ! (get ! refl) (lit ! tt) (record { fits = bytes })) refl
    (tt, record { fits = bytes }) $
    sets ! (bin ! (get ! refl) (get ! refl) tt) refl (tt, tt) $
    assigns_last ! (of_opd ! (get ! refl)) (through ! refl (stop !))
    (init ! 0 refl (tt, record { fits = word_fits })) $
    exec ! table.C table.Λ (env code.Mir.locals locals) code.Mir.t-2 (at_ret _ (Walk.post ghosts)) $
    -- one word more is written
    sets ! (of_opd ! (load ! (through ! refl (fld ! refl (stop !)))
    (look_in ! 4 (sub ! 2 refl (whole !))))) refl (tt, record { fits = fits }) $
    sets ! (bin ! (get ! refl) (lit ! tt) (record { fits = next_fits })) refl
    (tt, record { fits = next_fits }) $
    assigns ! (of_opd ! (get ! refl)) (through ! refl (fld ! refl (stop !)))
    (store_in ! 4 (sub ! 2 refl (whole !)) (tt, record { fits = next_fits })) $
    sets ! (of_opd ! (unit_lit !)) refl (tt, tt) $
    -- the word is the last of the row, and the memory is shut
    let all = words ++ word ∷ [] in
    let one_more : suc (length words) ≡ length all = omega (arith, length-append words (word ∷ [])) in
    rewrite ! 0 (λ (k : ℕ). ‵ (Rows.cell_at 𝓛 block word k)) last refl $
    move ! (2 ∷ 0 ∷ []) $
    use2 𝓛 (‵ (Rows.array_at 𝓛 block all from)) (Rows.added 𝓛 block words word from) $
    rewrite ! 0 (λ (p : Ptr). ‵ (lies_at (Array u64 (length all)) full_share p all)) (sym e) refl $
    rewrite ! 1 (λ (k : ℕ). ‵ (froom (row_of more) block k)) following refl $
    rewrite ! 1 (λ (p : Ptr). ‵ (room_for (row_of more) (p +ₚ (suc (length words) * 8)))) (sym e) refl $
    rewrite ! 1 (λ (n : ℕ). ‵ (room_following memory.start memory.room n)) one_more refl $ fjoin ! $
    move ! (1 ∷ []) $ drop ! $
    use0 𝓛 (‵ (fields_own memory.start memory.room (written + 1)))
    (fields_made 𝓛 memory.start memory.room (written + 1) room_fits next_fits) $ fjoin ! $
    rewrite ! 1 own_cell (ap (λ (p : Ptr). memory_val p memory.room (written + 1) ∷ []) (sym e)) refl $
    move ! (1 ∷ []) $
    let counted : written + 1 ≡ length all = omega (arith, one_more, memory.counted) in
    let within : written + 1 ≤ memory.room = omega (arith, memory.counted, below) in
    let after = record memory
    { written = written + 1; words = all; counted = counted; within = within } in
    closes ! tt Row after (memory_val memory.start memory.room (written + 1) ∷ [])
    self.ref_ptr.0 self.ref_ptr.1 $
    returns ! (look_at ! 0 refl) $ free_all ! refl $ move ! (3 ∷ []) $
    suffices ! _ (ends_at 𝓛 its.ended remains clauses ghosts vunit tt (after, (tt, tt))
    (tt, (tt, tt))) $
    says ! (refl, refl, refl) $
    group ! 3 $ nothing ! $ nothing ! $ join ! $ move ! (1 ∷ 0 ∷ []) $ join ! $
    nothing ! $ move ! (2 ∷ 0 ∷ []) $ join ! $ frame ! $ frame ! $
    feq_i ! _ (vunit ∷ []) _ refl $ done !))))))
