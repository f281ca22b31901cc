-- `words` makes a slice of the pointer and the count, both read through the `&`; what the `&` may
-- read after the pointer is the row of words, which is what a slice of them shows. Assumes `Logic`.
use Rattle.std.proofs.Common.{◌+◌, ◌*◌, ◌<◌, ◌^◌, List, [], ◌∷◌, ◌++◌, length, refl, ap, arith}
use Rattle.std.proofs.raw_atomic.Walks.{proved_at}
use Rattle.std.specs.Borrow.{Array, u64, usize}
use base.Fml.{Lft, Share, ftrue, flft}
use base.Logic.{SProp, never, id⊢, fst∗}
use contract.Running.{tables}
use mir.Val.{Val, vptr}
use prog.Wp.{Env, WpFn}
use types.ByLocal.{alloc_all, pass_all, free_all, look_at, get, through, sets, sets_last, is, env}
use types.Kit.{‵, raw, ◌⊛◌, prop, at_ret, ◌$◌, ◌∵◌, !, qed, move, keep, drop, use1, split, join, regoal, fsplit, fjoin, feq_i, feq_l, flt_i, suffices, frame, done}
use types.Logic.{sem}
use types.Part.{agg}
use types.Run.{look, load, stop, fld, of_opd, no_more, and_then, first, blocks, exec, returns, enter}
use denote.Builtin.{RefOf}
use denote.Memory.{hidden_shr, shared_of}
use denote.Opens.{hide, unhide}
use denote.RattleType.{owns}
use denote.RawPtr.{RawPtr, ptr_val, in_a_block}
use denote.Signature.{Slot, plain, types_at}
use denote.Slice.{slice_val, elements_shared}
use denote.Steps.{nothing}
use denote.Struct.Lending.{lent_at}
use denote.Triple.Entry.{alive}
use denote.Triple.Walked.{Stays, stay_dropped, walk_of, Goes-dropped, says, ends_at}
use Rattle.l6_raw.proofs.Glances.{a_pointer, a_number, glances, looks_away}
use Rattle.l6_raw.proofs.memory.RawMemory.words.Code as code
use Rattle.l6_raw.proofs.memory.RawMemory.words.Statement.{statement}
use Rattle.l6_raw.specs.contracts.memory.RawMemory.{the_row as Row}
use Rattle.l6_raw.specs.contracts.memory.RawMemory.words as its

-- nothing of the reference is left to say at the return
abbrev slot : Slot 1
slot = RefOf (0 ∷ []) tt (plain (λ _. Row)) (λ _. tt)

abbrev remains : Stays its.ended.signature.params its.ended.kept
remains = (stay_dropped slot its.ended.kept.0, tt)

pub words_spec : {M : Type 1} → statement M
words_spec 𝓤 𝓛 𝓜 𝓡 wired =
    let clauses = its.clauses 𝓛 𝓜.mem 𝓡.returns in
    let Walk = walk_of 𝓛 its.ended remains clauses in
    let table = tables 𝓤 𝓛.H 𝓜 𝓡 𝓡.env in
    proved_at 𝓛 its.ended remains clauses 𝓜 𝓡
    (Goes-dropped 𝓛 1 slot its.ended.kept.0 (λ κs x w. refl), tt)
    its.Key.name code.function (code.unfolded 𝓤 𝓛.H 𝓜 𝓡 wired) (λ ghosts typed.
    let κ : Lft = ghosts.0.0.0 in
    let q : Share = ghosts.0.1.0 in
    let self = ghosts.0.3.0 in
    let memory = self.now in
    let words = memory.words in
    let block = self.ref_ptr.0 in
    let from = self.ref_ptr.1 in
    let Post : Val → SProp 𝓤 = Walk.post ghosts in
    qed 𝓛 ((raw (alive 𝓛 its.ended.signature ghosts.0.0 ghosts.0.1)
    ⊛ ‵ (owns (types_at its.ended.signature.params ghosts.0.0) ghosts.0.3 ghosts.0.4)) ∷ ‵ ftrue ∷ []) ∵
    split ! $ move ! (1 ∷ []) $ fsplit ! $ fsplit ! $ drop ! $
    use1 𝓛 (‵ (hidden_shr Row κ memory block from)) (id⊢ 𝓤 _) $ move ! (2 ∷ []) $
    use1 𝓛 (‵ (flft κ q) ⊛ ‵ ftrue) (id⊢ 𝓤 _) $ split ! $ keep ! (2 ∷ 0 ∷ []) $
    regoal ! (λ (us : List Val). prop (WpFn 𝓤 𝓛.H table.C table.Λ code.function us Post))
    (λ i. typed.0.0 i ++ []) refl $
    enter ! table.C table.Λ code.function (vptr block from ∷ []) Post $
    alloc_all ! (λ locals. pass_all ! refl ((tt, tt), tt) $
    -- what is borrowed of the words, and of the fields the pointer and the count
    let fits : memory.written < 2 ^ 64 = omega (arith, memory.within, memory.small) in
    let few : length words < 2 ^ 64 = omega (arith, memory.counted, memory.within, memory.small) in
    let bytes : length words * 8 < 2 ^ 63 =
    omega (arith, memory.counted, memory.within, memory.small) in
    let env_here : Env 𝓤 𝓛.H = env code.function.locals locals in
    unhide ! $ fsplit ! $ fsplit ! $ move ! (1 ∷ []) $ drop ! $
    fsplit ! $ hide ! $ move ! (1 ∷ []) $ fsplit ! $ drop ! $ fsplit ! $ hide ! $
    move ! (1 ∷ []) $ drop ! $ move ! (2 ∷ []) $
    in_a_block ! memory.start (λ p. lent_at (Array u64 (length words)) p words κ)
    (fst∗ 𝓤 (never 𝓤) (sem 𝓛 (shared_of (Array u64 (length words)) words 0 0 κ))) (λ to at e.
    fsplit ! $ drop ! $ fsplit ! $ feq_l ! (λ long.
    use1 𝓛 (‵ (elements_shared u64 words to at κ)) (id⊢ 𝓤 _) $ hide ! $
    -- each field is read once
    let start_is = a_pointer 𝓛 memory.start in
    let count_is = a_number 𝓛 memory.written fits in
    move ! (2 ∷ 3 ∷ []) $ first ! $ blocks ! $
    glances RawPtr memory.start start_is block (from + 0) ! tt (λ part.
    sets ! (is ! (of_opd ! (load ! (through ! refl (fld ! refl (stop !))) (look ! 0 refl)))
    (ap ptr_val e))
    refl (tt, tt) $
    looks_away RawPtr memory.start start_is block (from + 0) ! tt part $ move ! (2 ∷ 0 ∷ []) $
    glances usize memory.written count_is block (from + 16) ! tt (λ part'.
    sets ! (of_opd ! (load ! (through ! refl (fld ! refl (stop !))) (look ! 0 refl)))
    refl (tt, record { fits = fits }) $
    looks_away usize memory.written count_is block (from + 16) ! tt part' $
    sets_last ! (agg ! (and_then ! (get ! refl) (and_then ! (get ! refl) (no_more !)))) refl
    (tt, (tt, (record { fits = fits }, tt))) $
    exec ! table.C table.Λ env_here code.Mir.t-2 (at_ret env_here Post) $
    sets ! (of_opd ! (get ! refl)) refl (tt, (tt, (record { fits = fits }, tt))) $
    returns ! (look_at ! 0 refl) $ free_all ! refl $
    -- the slice shows the words, and their count is its length
    let slice = slice_val (to, at) memory.written in
    keep ! (1 ∷ 0 ∷ []) $
    flt_i ! (length words * 8) (2 ^ 63) bytes $ flt_i ! (length words) (2 ^ 64) few $ fjoin ! $
    feq_i ! (List Val) (slice ∷ []) (slice_val (to, at) (length words) ∷ [])
    (ap (λ k. slice_val (to, at) k ∷ []) memory.counted) $ fjoin ! $ fjoin ! $
    move ! (1 ∷ 0 ∷ []) $
    suffices ! _ (ends_at 𝓛 its.ended remains clauses ghosts slice
    (record { ref_ptr = (to, at); now = words }) (tt, tt) (tt, tt)) $ says ! refl $
    nothing ! $ move ! (1 ∷ 0 ∷ []) $ join ! $ frame ! $ nothing ! $ nothing ! $ fjoin ! $ done !))))))
