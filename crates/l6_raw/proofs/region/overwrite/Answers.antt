use Rattle.std.proofs.Common.{◌≡◌, ℕ, ◌+◌, ◌-◌, ◌*◌, ◌<◌, ◌≤◌, true, false, List, length, get_or, min, ap, sym, subst, ◌∙◌, arith}
use Rattle.l6_raw.proofs.Pages.{AreTaken, same_past, same_unused, taken_all, taken_first, taken_more}
use Rattle.l6_raw.specs.declared.memory.RawMemory.{RawMemory}
use Rattle.l6_raw.proofs.region.overwrite.Goals as goal
use Rattle.l6_raw.proofs.region.overwrite.Goals.{then-used-page, else-used-page, then-other_used-page, else-other_used-page}

pub loop-page-preserved : goal.loop-page-preserved
loop-page-preserved c =
    let was = c.args.memory.now.words in
    let words = c.args.words.now in
    let now = c.loop-page.memory.words in
    let number = c.loop-page.page in
    let first = number * 1024 in
    let next = (number + 1) * 1024 in
    let so_far = c.loop-page.invariant in
    let begun : first + 1 ≤ length words =
    omega (arith, c.loop-page-test.true, c.loop-page.auto.page-end) in
    elim c.if-other_used-page.branch [
      | then-other_used-page w ↦
          let count = min 1024 (length words - first) in
          let past : (at : ℕ) → first + count ≤ at → at < next →
          get_or was at 0 ≡ get_or words at 0 = λ at from below.
          same_past was words at c.requires.long (omega (arith, from, below, begun)) in
          let more = taken_more was words now first count next so_far.taken (omega (arith, begun))
          (omega (arith, begun)) (omega arith) past in
          record {
            taken = subst (λ (ws : List ℕ). AreTaken was words ws next)
                (sym (ap (λ (m : RawMemory). m.words) w.memory-is ∙ w.put_page.ensures.words)) more;
            room = ap (λ (m : RawMemory). m.room) w.memory-is ∙ w.put_page.ensures.room
                ∙ so_far.room;
            start = ap (λ (m : RawMemory). m.start) w.memory-is ∙ w.put_page.ensures.start
                ∙ so_far.start;
          }
      | else-other_used-page w ↦
          let one = elim c.if-used-page.branch as (λ _. get_or c.args.used.now number false ≡ false) [
            | then-used-page v ↦
                let both : true ≡ false =
                sym v.if-used-page.true ∙ (sym v.value-is ∙ w.if-other_used-page.false) in
                absurd (cc)
            | else-used-page v ↦ v.if-used-page.false
          ] in
          let other = elim c.if-used-page.branch
          as (λ _. get_or c.args.other_used.now number false ≡ false) [
            | then-used-page v ↦
                let both : true ≡ false =
                sym v.if-used-page.true ∙ (sym v.value-is ∙ w.if-other_used-page.false) in
                absurd (cc)
            | else-used-page v ↦ sym v.value-is ∙ w.if-other_used-page.false
          ] in
          let same : (at : ℕ) → first + 1 ≤ at → at < next →
          get_or was at 0 ≡ get_or words at 0 = λ at from below.
          same_unused was words c.args.used.now c.args.other_used.now number at c.requires.unused
          c.requires.other_unused one other from (omega (arith, below)) in
          let more = taken_first was words now first next so_far.taken (omega (arith, begun)) same
          (omega arith) in
          record {
            taken = subst (λ (ws : List ℕ). AreTaken was words ws next)
                (sym (ap (λ (m : RawMemory). m.words) w.memory-is ∙ w.write.ensures.0)) more;
            room = ap (λ (m : RawMemory). m.room) w.memory-is ∙ w.write.ensures.1 ∙ so_far.room;
            start = ap (λ (m : RawMemory). m.start) w.memory-is ∙ w.write.ensures.2 ∙ so_far.start;
          }
    ]

pub returns-clause-words : goal.returns-clause-words
returns-clause-words c =
    taken_all c.args.memory.now.words c.args.words.now c.loop-page.memory.words
    (c.loop-page.page * 1024) c.loop-page.invariant.taken
    (omega (arith, c.loop-page-test.false))
