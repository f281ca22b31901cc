-- `write` through the pointer. The memory is opened, the word's cell is taken out of the row,
-- overwritten, and the row is whole again, with the other word in it. Assumes `Logic`.
use Rattle.std.proofs.Common.{◌≡◌, ◌*◌, ◌<◌, ◌^◌, ℕ, List, [], ◌∷◌, length, get_or, set, length-set, refl, sym, ap, ◌∙◌, w64, arith}
use Rattle.std.proofs.raw_atomic.Walks.{proved}
use Rattle.std.specs.Borrow.{Array, u64, usize}
use base.Fml.{ftrue, flft}
use base.Fraction.{full_share}
use base.Logic.{id⊢}
use contract.Monad.{fact}
use contract.Running.{tables}
use mir.Syntax.{named}
use mir.Val.{Val, vunit}
use types.ByLocal.{alloc_all, pass_all, free_all, look_at, get, through, sets, env}
use types.Kit.{‵, raw, ◌⊛◌, at_ret, ◌$◌, ◌∵◌, !, qed, done, move, keep, use1, use2, split, join, fsplit, fsplit3, fjoin, feq_i, rewrite, suffices, frame, group}
use types.Part.{whole, sub, look_in}
use types.Run.{enter, of_opd, lit, unit_lit, load, bin, store, stop, fld, assigns_last, first, blocks, exec, returns}
use denote.Exit.{yes}
use denote.Laws.{shows}
use denote.Memory.{cell_at}
use denote.Plain.{uint_vals, uint_Tells}
use denote.RawPtr.{Ptr, lies_at, in_a_block}
use denote.Ref.{MutRef, mut_vals, mut_Tells}
use denote.Signature.{plain}
use denote.Steps.{nothing, opens, closes, heard, peeks}
use denote.Triple.Walked.{Stays, walk_of, says, stay_ref, stay_dropped, Goes-ref, Goes-dropped, ends_at}
use Rattle.l6_raw.proofs.Rows as Rows
use Rattle.l6_raw.proofs.memory.RawMemory.TheLaws.{lowers}
use Rattle.l6_raw.proofs.memory.RawMemory.write.Code as code
use Rattle.l6_raw.proofs.memory.RawMemory.write.Statement.{statement}
use Rattle.l6_raw.specs.Room.{room_following}
use Rattle.l6_raw.specs.contracts.memory.RawMemory.{the_row as Row}
use Rattle.l6_raw.specs.contracts.memory.RawMemory.write as its

-- at the return the reference is still there, the index and the word are used up
abbrev remains : Stays its.ended.signature.params its.ended.kept
remains = (
  stay_ref (0 ∷ []) tt (plain (λ _. Row)),
  (stay_dropped (plain (λ _. usize)) yes, (stay_dropped (plain (λ _. u64)) yes, tt)),
)

pub write_spec : {M : Type 1} → statement M
write_spec 𝓤 𝓛 𝓜 𝓡 wired =
    let clauses = its.clauses 𝓛 𝓜.mem 𝓡.returns in
    let Walk = walk_of 𝓛 its.ended remains clauses in
    let table = tables 𝓤 𝓛.H 𝓜 𝓡 𝓡.env in
    proved 𝓛 its.ended remains clauses 𝓜 𝓡 (
      Goes-ref 𝓛 1 0 tt (plain (λ _. Row)),
      (
        Goes-dropped 𝓛 1 (plain (λ _. usize)) yes (λ κs x w. refl),
        (Goes-dropped 𝓛 1 (plain (λ _. u64)) yes (λ κs x w. refl), tt),
      ),
    )
    its.Key.name code.function (code.unfolded 𝓤 𝓛.H 𝓜 𝓡 wired)
    (λ κs. (mut_vals, (uint_vals w64, (uint_vals w64, tt))))
    (λ κs. (mut_Tells (named 0) κs.0 Row, (uint_Tells w64, (uint_Tells w64, tt))))
    (λ κs qs bounds args _ typed.
    let self = args.0 in
    let index = args.1.0 in
    let word = args.1.1.0 in
    let memory = self.now in
    let words = memory.words in
    let ghosts : Walk.Ghost = (
      (
        κs,
        qs,
        bounds,
        args,
        (mut_vals self, (uint_vals w64 index, (uint_vals w64 word, tt))),
      ),
      tt,
    ) in
    let index_fits = typed.1.0.1 in
    let word_fits = typed.1.1.0.1 in
    qed 𝓛 (((‵ (flft κs.0 qs.0) ⊛ ‵ ftrue) ⊛ ‵
    ((MutRef (named 0) κs.0 Row).own_val self (mut_vals self))
    ⊛ ‵ (usize.own_val index (uint_vals w64 index)) ⊛ ‵ (u64.own_val word (uint_vals w64 word))
    ⊛ ‵ ftrue) ∷ raw (fact 𝓤 (index < length words)) ∷ []) ∵
    move ! (1 ∷ []) $ heard ! _ (λ inside.
    let bytes : index * 8 < 2 ^ 64
    = omega (arith, inside, memory.counted, memory.within, memory.small) in
    split ! $ split ! $ move ! (2 ∷ []) $ split ! $ keep ! (0 ∷ 2 ∷ []) $
    enter ! _ _ _ _ _ $ alloc_all ! (λ locals. pass_all ! refl
    ((tt, tt), ((tt, record { fits = index_fits }), ((tt, record { fits = word_fits }), tt))) $
    -- the memory is opened: its words, its room, its fields, its own cell, the open borrow
    fsplit3 ! $ move ! (1 ∷ 2 ∷ 3 ∷ []) $ opens ! tt Row self.ref_ptr.0 self.ref_ptr.1 (λ us.
    move ! (1 ∷ []) $ peeks ! Row _ (shows 𝓛 Row) memory us
    (λ is. fsplit ! $ move ! (1 ∷ []) $ fsplit ! $
    in_a_block ! memory.start (λ p. lies_at (Array u64 (length words)) full_share p words) (id⊢ 𝓤 _)
    (λ block from e.
    let found = get_or words index 0 in
    let others = Rows.others 𝓛 block words index from inside in
    let cell = λ (w : ℕ). Rows.cell_at 𝓛 block w (Rows.at 𝓛 block words index from inside) in
    use1 𝓛 (‵ (cell found) ⊛ ‵ others) (Rows.reach 𝓛 block words index from inside) $ split ! $
    let known = lowers.val_is memory us is
    ∙ ap (λ (p : Ptr). lowers.lowered (record memory { start = p }) ∷ []) e in
    let own_cell = λ (vs : List Val). ‵ (cell_at full_share Row.mir vs self.ref_ptr.0 self.ref_ptr.1) in
    rewrite ! 4 own_cell known refl $
    -- the address of the word is 8 bytes an index after the start
    first ! $ blocks ! $
    sets ! (of_opd ! (load ! (through ! refl (fld ! refl (stop !)))
    (look_in ! 4 (sub ! 0 refl (whole !))))) refl (tt, tt) $
    sets ! (bin ! (get ! refl) (lit ! tt) (record { fits = bytes })) refl
    (tt, record { fits = bytes }) $
    sets ! (bin ! (get ! refl) (get ! refl) tt) refl (tt, tt) $
    assigns_last ! (of_opd ! (get ! refl)) (through ! refl (stop !))
    (store ! 0 refl (tt, record { fits = word_fits })) $
    exec ! table.C table.Λ (env code.Mir.locals locals) code.Mir.t-2 (at_ret _ (Walk.post ghosts)) $
    sets ! (of_opd ! (unit_lit !)) refl (tt, tt) $
    -- the row is whole, and the memory is shut with its new words
    let written = set words index word in
    let same : length written ≡ length words = length-set words index word in
    use2 𝓛 (‵ (Rows.array_at 𝓛 block written from)) (Rows.put 𝓛 block words index from inside word) $
    rewrite ! 0 (λ (p : Ptr). ‵ (lies_at (Array u64 (length written)) full_share p written))
    (sym e) refl $
    rewrite ! 1 (λ (n : ℕ). ‵ (room_following memory.start memory.room n)) (sym same) refl $ fjoin ! $
    rewrite ! 2 own_cell (sym known) refl $ move ! (1 ∷ []) $ fjoin ! $ move ! (1 ∷ []) $
    let after = record memory { words = written; counted = memory.counted ∙ sym same } in
    closes ! tt Row after us self.ref_ptr.0 self.ref_ptr.1 $
    returns ! (look_at ! 0 refl) $ free_all ! refl $ move ! (3 ∷ []) $
    suffices ! _ (ends_at 𝓛 its.ended remains clauses ghosts vunit tt (after, (tt, (tt, tt)))
    (tt, (tt, (tt, tt)))) $ says ! (refl, refl, refl) $
    group ! 3 $ nothing ! $ nothing ! $ join ! $ nothing ! $ join ! $ move ! (1 ∷ 0 ∷ []) $ join ! $
    nothing ! $ move ! (2 ∷ 0 ∷ []) $ join ! $ frame ! $ frame ! $
    feq_i ! _ (vunit ∷ []) _ refl $ done !))))))
