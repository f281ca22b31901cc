-- `clear` reads the pointer once, and writes zeros from there on, one after another. While it does, the
-- memory is open; it is shut with the words of which so many are 0. Assumes `Logic`.
use Rattle.std.proofs.Common.{◌≡◌, ◌+◌, ◌-◌, ◌*◌, ◌<◌, ◌≤◌, ◌^◌, ℕ, List, [], ◌∷◌, ◌++◌, length, get_or, take, drop as cut, replicate, set, refl, sym, ap, ◌∙◌, w64, lit<, arith}
use Rattle.std.proofs.lemmas.List.{length-replicate, replicate_more, take-append-drop}
use Rattle.std.proofs.raw_atomic.Walks.{proved}
use Rattle.std.specs.Borrow.{Array, u64, usize, MutBor}
use mathlib.Core.WellFounded.InvImage
use lib.Dec.{ltb→lt, nltb→le}
use lib.WfN.{lt-wf_rel}
use seplogic.Ra.Ura.{Ura}
use base.Fml.{Lft, Share, Fml, ftrue, fat, flft, fobor, fobs, fauth}
use base.Fraction.{full_share}
use base.Logic.{SProp, id⊢}
use contract.Monad.{Fun, fact}
use contract.Running.{tables, tables_of}
use mir.Syntax.{Body as Code, named, ty_int, skip, seq, assign, block, loop, cond, switch, exit, return, call, call_v, unreachable, lend_static}
use mir.Val.{Val, vunit, vint, vptr}
use prog.Memory.{Memory}
use prog.Routine.{Routine}
use prog.Wp.{Env, Out, Wp, Tables, at_return, after_seq, after_block, after_turn}
use types.ByLocal.{alloc_all, pass_all, free_all, look_at, get, through, sets, sets_last, env, holding, forget_but}
use types.Kit.{Item, Sq, any_q, runs, ‵, raw, ◌⊛◌, at_ret, ◌$◌, ◌∵◌, !, qed, move, keep, drop, use0, use1, use2, split, join, fsplit, fsplit3, fjoin, feq_i, rewrite, suffices, frame, group, done as ends}
use types.Logic.{Logic}
use types.Part.{whole, sub, look_in}
use types.Run.{enter, of_opd, lit, unit_lit, load, bin, store, stop, fld, assigns_last, first, blocks, skips, jumps, branches, exec, returns, loops, again, Below}
use types.SemTy.{Body}
use denote.Exit.{yes}
use denote.Laws.{shows}
use denote.Memory.{cell_at, mem}
use denote.Plain.{uint_vals, uint_Tells}
use denote.RawPtr.{Ptr, block_ptr, lies_at, in_a_block}
use denote.Ref.{MutRef, mut_at, mut_vals, mut_Tells}
use denote.Signature.{plain}
use denote.Steps.{nothing, opens, closes, heard, peeks}
use denote.Triple.Clauses.{Clauses}
use denote.Triple.Walked.{Stays, walk_of, says, stay_ref, stay_dropped, Goes-ref, Goes-dropped, ends_at}
use Rattle.l6_raw.specs.Room.{room_following}
use Rattle.l6_raw.specs.Words.{overwritten}
use Rattle.l6_raw.specs.contracts.memory.RawMemory.{the_row as Row}
use Rattle.l6_raw.specs.contracts.memory.RawMemory.clear as its
use Rattle.l6_raw.proofs.Fields.{memory_val, fields_own, fields_made}
use Rattle.l6_raw.proofs.Overwriting.{length_overwritten, overwritten_more}
use Rattle.l6_raw.proofs.Rows as Rows
use Rattle.l6_raw.proofs.memory.RawMemory.TheLaws.{lowers}
use Rattle.l6_raw.proofs.memory.RawMemory.clear.Code as code
use Rattle.l6_raw.proofs.memory.RawMemory.clear.Statement.{statement}

-- at the return the reference is still there, the index and the count are used up
abbrev remains : Stays its.ended.signature.params its.ended.kept
remains = (
  stay_ref (0 ∷ []) tt (plain (λ _. Row)),
  (stay_dropped (plain (λ _. usize)) yes, (stay_dropped (plain (λ _. usize)) yes, tt)),
)

-- the statements after the first
abbrev following : Code → Code
following skip = skip
following (seq one others) = others
following (assign x y) = skip
following (block x) = skip
following (loop x) = skip
following (cond x y z) = skip
following (switch x y) = skip
following (exit x) = skip
following return = skip
following (call x y z) = skip
following (call_v x y z w) = skip
following unreachable = skip
following (lend_static x y z) = skip

-- the words, so many from an index on 0
abbrev cleared : List ℕ → ℕ → ℕ → List ℕ
cleared words index count = overwritten words index (replicate count 0)

length_cleared : (words : List ℕ) (index count : ℕ) → index + count ≤ length words
    → length (cleared words index count) ≡ length words
length_cleared words index count within =
    length_overwritten words index (replicate count 0)
    (omega (arith, within, length-replicate {A = ℕ} count 0))

cleared_none : (words : List ℕ) (index : ℕ) → words ≡ cleared words index 0
cleared_none words index =
    let here : index + 0 ≡ index = omega arith in
    sym (ap (λ (k : ℕ). take index words ++ cut k words) here ∙ take-append-drop index words)

-- one more
cleared_more : (words : List ℕ) (index done : ℕ) → index + done < length words
    → set (cleared words index done) (index + done) 0 ≡ cleared words index (done + 1)
cleared_more words index done within =
    let zeros : List ℕ = replicate done 0 in
    let size = length-replicate {A = ℕ} done 0 in
    let place : index + done ≡ index + length zeros = omega (arith, size) in
    ap (λ (i : ℕ). set (overwritten words index zeros) i 0) place
    ∙ overwritten_more words index zeros 0 (omega (arith, size, within))
    ∙ ap (overwritten words index) (replicate_more done 0)

module _ {M : Type 1} {𝓤 : Ura M} (𝓛 : Logic 𝓤) (at_mem : Memory → SProp 𝓤) (run : Routine → Fun 𝓤)
    (𝓣 : Tables 𝓤 𝓛.H) (κ : Lft) (q : Share) (self : MutBor Row.Denot) (index count : ℕ)
    (inside : index + count ≤ length self.now.words) (block from : ℕ)
    (e : self.now.start ≡ block_ptr block from) where
  open 𝓛 use {H}

  abbrev clauses : Clauses 𝓤 its.ended
  clauses = its.clauses 𝓛 at_mem run

  abbrev ghosts : (walk_of 𝓛 its.ended remains clauses).Ghost
  ghosts = (
    (
      (κ, tt),
      (q, tt),
      tt,
      (self, (index, (count, tt))),
      (mut_vals self, (uint_vals w64 index, (uint_vals w64 count, tt))),
    ),
    tt,
  )

  abbrev Post : Val → SProp 𝓤
  Post = (walk_of 𝓛 its.ended remains clauses).post ghosts

  abbrev memory : Row.Denot
  memory = self.now

  abbrev words : List ℕ
  words = memory.words

  -- the cell of one word
  abbrev cell : ℕ → ℕ → Fml
  cell word at = fat full_share (ty_int w64) block at (vint w64 word)

  -- how many are 0
  abbrev Done : Type 0
  Done = (done : ℕ) × (done ≤ count)

  abbrev Nearer : Done → Done → Type 0
  Nearer t u = count - t.0 < count - u.0

  module _ (l : ℕ → ℕ) where
    abbrev En : Env 𝓤 H
    En = env code.function.locals l

    abbrev Now : Done → List (Item 𝓤)
    Now t =
        ‵ (Rows.array_at 𝓛 block (cleared words index t.0) from)
        ∷ ‵ (room_following memory.start memory.room (length words))
        ∷ ‵ (cell_at full_share Row.mir
        (memory_val (block_ptr block from) memory.room memory.written ∷ []) self.ref_ptr.0 self.ref_ptr.1)
        ∷ ‵ (fobor κ q (Body (mem Row) self.ref_ptr.0 self.ref_ptr.1 self.ghost_name))
        ∷ ‵ (fobs self.ghost_name (Row.coded.code memory))
        ∷ ‵ (fauth self.ghost_name (Row.coded.code memory))
        ∷ ‵ (mut_at self (mut_vals self))
        ∷ holding 𝓛 En ((1, vptr self.ref_ptr.0 self.ref_ptr.1) ∷ (2, vint w64 index)
        ∷ (3, vint w64 count) ∷ (4, vptr block (index * 8 + from)) ∷ (5, vint w64 t.0) ∷ [])

    abbrev Turned : Done → Out → SProp 𝓤
    Turned t =
        after_turn 𝓤 H (Below 𝓛 Nearer Now t)
        (after_block 𝓤 H (after_seq 𝓤 H
        (Wp 𝓤 H 𝓣.C 𝓣.Λ En code.Mir.t-5 (at_return 𝓤 H En Post)) (at_return 𝓤 H En Post)))

    turns : (t : Done) → Sq 𝓛 (Now t) (runs 𝓣.C 𝓣.Λ En code.Mir.turn-1 (any_q (Turned t)))
    unfolding after_turn
    turns t =
        let done = t.0 in
        let now : List ℕ = cleared words index done in
        let long : length now ≡ length words = length_cleared words index done (omega (arith, t.1, inside)) in
        sets ! (bin ! (get ! refl) (get ! refl) tt) refl (tt, tt) $ first ! $ branches ! (get ! refl)
        (λ less.
        let more : done < count = ltb→lt done count less in
        let few : length words < 2 ^ 32 = omega (arith, memory.counted, memory.within, memory.small) in
        let here : index + done < length now = omega (arith, more, inside, long) in
        let bytes : done * 8 < 2 ^ 64 = omega (arith, more, inside, few) in
        let next_fits : done + 1 < 2 ^ 64 = omega (arith, more, inside, few) in
        let place : (index + done) * 8 + from ≡ done * 8 + (index * 8 + from) = omega arith in
        let found = get_or now (index + done) 0 in
        let others = Rows.others 𝓛 block now (index + done) from here in
        skips ! $ exec ! 𝓣.C 𝓣.Λ En (following (following code.Mir.turn-1)) (any_q (Turned t)) $
        first ! $ blocks ! $
        sets ! (bin ! (get ! refl) (lit ! tt) (record { fits = bytes })) refl
        (tt, record { fits = bytes }) $
        sets ! (bin ! (get ! refl) (get ! refl) tt) refl (tt, tt) $
        use1 𝓛 (‵ (cell found ((index + done) * 8 + from)) ⊛ ‵ others)
        (Rows.reach 𝓛 block now (index + done) from here) $ split ! $
        rewrite ! 0 (λ (at : ℕ). ‵ (cell found at)) place refl $
        assigns_last ! (of_opd ! (lit ! tt)) (through ! refl (stop !))
        (store ! 0 refl (tt, record { fits = lit< tt })) $
        exec ! 𝓣.C 𝓣.Λ En (following (following (following code.Mir.turn-1))) (any_q (Turned t)) $
        sets_last ! (bin ! (get ! refl) (lit ! tt) (record { fits = next_fits })) refl
        (tt, record { fits = next_fits }) $
        rewrite ! 0 (λ (at : ℕ). ‵ (cell 0 at)) (sym place) refl $
        use2 𝓛 (‵ (Rows.array_at 𝓛 block (set now (index + done) 0) from))
        (Rows.put 𝓛 block now (index + done) from here 0) $
        rewrite ! 0 (λ (ws : List ℕ). ‵ (Rows.array_at 𝓛 block ws from))
        (cleared_more words index done (omega (arith, more, inside))) refl $
        forget_but ! En (1 ∷ 2 ∷ 3 ∷ 4 ∷ 5 ∷ []) refl $
        again ! Nearer Now t (done + 1, omega (arith, more)) (omega (arith, more)))
        (λ over.
        let all : done ≡ count = omega (arith, nltb→le done count over, t.1) in
        jumps ! $ exec ! 𝓣.C 𝓣.Λ En code.Mir.t-5 (at_ret En Post) $
        sets ! (of_opd ! (unit_lit !)) refl (tt, tt) $
        rewrite ! 0 (λ (k : ℕ). ‵ (Rows.array_at 𝓛 block (cleared words index k) from)) all refl $
        -- the memory is shut with its new words
        let written : List ℕ = cleared words index count in
        let same : length written ≡ length words = length_cleared words index count inside in
        let room_fits : memory.room < 2 ^ 64 = omega (arith, memory.small) in
        let count_fits : memory.written < 2 ^ 64 = omega (arith, memory.within, memory.small) in
        let own_cell = λ (vs : List Val). ‵ (cell_at full_share Row.mir vs self.ref_ptr.0 self.ref_ptr.1) in
        rewrite ! 0 (λ (p : Ptr). ‵ (lies_at (Array u64 (length written)) full_share p written))
        (sym e) refl $
        rewrite ! 1 (λ (n : ℕ). ‵ (room_following memory.start memory.room n)) (sym same) refl $
        fjoin ! $
        use0 𝓛 (‵ (fields_own memory.start memory.room memory.written))
        (fields_made 𝓛 memory.start memory.room memory.written room_fits count_fits) $ fjoin ! $
        rewrite ! 1 own_cell (ap (λ (p : Ptr). memory_val p memory.room memory.written ∷ []) (sym e)) refl $
        move ! (1 ∷ []) $
        let after_it : Row.Denot = record memory { words = written; counted = memory.counted ∙ sym same } in
        closes ! tt Row after_it (memory_val memory.start memory.room memory.written ∷ [])
        self.ref_ptr.0 self.ref_ptr.1 $
        returns ! (look_at ! 0 refl) $ free_all ! refl $ move ! (3 ∷ []) $
        suffices ! _ (ends_at 𝓛 its.ended remains clauses ghosts vunit tt (after_it, (tt, (tt, tt)))
        (tt, (tt, (tt, tt)))) $ says ! (refl, refl, refl) $
        group ! 3 $ nothing ! $ nothing ! $ join ! $ nothing ! $ join ! $ move ! (1 ∷ 0 ∷ []) $ join ! $
        nothing ! $ move ! (2 ∷ 0 ∷ []) $ join ! $ frame ! $ frame ! $
        feq_i ! _ (vunit ∷ []) _ refl $ ends !)

pub clear_spec : {M : Type 1} → statement M
unfolding tables_of
clear_spec 𝓤 𝓛 𝓜 𝓡 wired =
    let clauses = its.clauses 𝓛 𝓜.mem 𝓡.returns in
    let table = tables 𝓤 𝓛.H 𝓜 𝓡 𝓡.env in
    let 𝓣 : Tables 𝓤 𝓛.H = tables_of 𝓤 𝓛.H 𝓜 table in
    proved 𝓛 its.ended remains clauses 𝓜 𝓡 (
      Goes-ref 𝓛 1 0 tt (plain (λ _. Row)),
      (
        Goes-dropped 𝓛 1 (plain (λ _. usize)) yes (λ κs x w. refl),
        (Goes-dropped 𝓛 1 (plain (λ _. usize)) yes (λ κs x w. refl), tt),
      ),
    )
    its.Key.name code.function (code.unfolded 𝓤 𝓛.H 𝓜 𝓡 wired)
    (λ κs. (mut_vals, (uint_vals w64, (uint_vals w64, tt))))
    (λ κs. (mut_Tells (named 0) κs.0 Row, (uint_Tells w64, (uint_Tells w64, tt))))
    (λ κs qs bounds args _ typed.
    let self = args.0 in
    let index = args.1.0 in
    let count = args.1.1.0 in
    let memory = self.now in
    let words = memory.words in
    let index_fits = typed.1.0.1 in
    let count_fits = typed.1.1.0.1 in
    qed 𝓛 (((‵ (flft κs.0 qs.0) ⊛ ‵ ftrue) ⊛ ‵
    ((MutRef (named 0) κs.0 Row).own_val self (mut_vals self))
    ⊛ ‵ (usize.own_val index (uint_vals w64 index)) ⊛ ‵ (usize.own_val count (uint_vals w64 count))
    ⊛ ‵ ftrue) ∷ raw (fact 𝓤 (index + count ≤ length words)) ∷ []) ∵
    move ! (1 ∷ []) $ heard ! _ (λ inside.
    let bytes : index * 8 < 2 ^ 64
    = omega (arith, inside, memory.counted, memory.within, memory.small) in
    split ! $ split ! $ move ! (2 ∷ []) $ split ! $ keep ! (0 ∷ 2 ∷ []) $
    enter ! 𝓣.C 𝓣.Λ _ _ _ $ alloc_all ! (λ locals. pass_all ! refl
    ((tt, tt), ((tt, record { fits = index_fits }), ((tt, record { fits = count_fits }), tt))) $
    -- the memory is opened: its words, its room, its fields, its own cell, the open borrow
    fsplit3 ! $ move ! (1 ∷ 2 ∷ 3 ∷ []) $ opens ! tt Row self.ref_ptr.0 self.ref_ptr.1 (λ us.
    move ! (1 ∷ []) $ peeks ! Row _ (shows 𝓛 Row) memory us
    (λ is. fsplit ! $ drop ! $ fsplit ! $
    in_a_block ! memory.start (λ p. lies_at (Array u64 (length words)) full_share p words) (id⊢ 𝓤 _)
    (λ block from e.
    let known = lowers.val_is memory us is
    ∙ ap (λ (p : Ptr). lowers.lowered (record memory { start = p }) ∷ []) e in
    let own_cell = λ (vs : List Val). ‵ (cell_at full_share Row.mir vs self.ref_ptr.0 self.ref_ptr.1) in
    rewrite ! 2 own_cell known refl $
    -- the first of them is 8 bytes an index after the start
    first ! $ blocks ! $
    sets ! (of_opd ! (load ! (through ! refl (fld ! refl (stop !)))
    (look_in ! 2 (sub ! 0 refl (whole !))))) refl (tt, tt) $
    sets ! (bin ! (get ! refl) (lit ! tt) (record { fits = bytes })) refl
    (tt, record { fits = bytes }) $
    sets_last ! (bin ! (get ! refl) (get ! refl) tt) refl (tt, tt) $
    exec ! 𝓣.C 𝓣.Λ (env code.Mir.locals locals) code.Mir.t-2
    (at_ret (env code.Mir.locals locals) (Post 𝓛 𝓜.mem 𝓡.returns 𝓣 κs.0 qs.0 self index count inside block from e)) $
    sets ! (of_opd ! (get ! refl)) refl (tt, tt) $
    sets ! (of_opd ! (lit ! tt)) refl (tt, record { fits = lit< tt }) $
    rewrite ! 0 (λ (ws : List ℕ). ‵ (Rows.array_at 𝓛 block ws from)) (cleared_none words index) refl $
    forget_but ! (env code.Mir.locals locals) (1 ∷ 2 ∷ 3 ∷ 4 ∷ 5 ∷ []) refl $
    first ! $ blocks ! $
    loops ! 𝓣 (Nearer 𝓛 𝓜.mem 𝓡.returns 𝓣 κs.0 qs.0 self index count inside block from e)
    (InvImage.wf (λ (t : (done : ℕ) × (done ≤ count)). count - t.0) lt-wf_rel.wf)
    (Now 𝓛 𝓜.mem 𝓡.returns 𝓣 κs.0 qs.0 self index count inside block from e locals)
    (turns 𝓛 𝓜.mem 𝓡.returns 𝓣 κs.0 qs.0 self index count inside block from e locals)
    (0, omega arith)))))))
