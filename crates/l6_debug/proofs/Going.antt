-- How answers go out, one after another.
use Rattle.std.proofs.Common.{◌≡◌, false, if◌then◌else◌, ℕ, ◌+◌, List, [], ◌∷◌, ◌++◌, length, take, Option, None, Some, Err, refl, sym, ap, ◌∙◌, subst, arith, append_assoc, length-append}
use Rattle.std.specs.Prelude.{min}
use Rattle.std.specs.List.{concat}
use Rattle.std.specs.Io.KnownBytes.{Appends}
use Rattle.std.proofs.KnownBytes.{Appends-trans}
use Rattle.std.proofs.lemmas.List.{append-nil, take-append-le}
use Rattle.std.proofs.Math.Seq.{take-append-add}
use Rattle.l6_word.specs.Lines.{lines_of}
use Rattle.l6_store.specs.Rule.{Rule}
use Rattle.l6_steps.specs.State.{RunContext}
use Rattle.l6_device.specs.Numerals.{most_counted}
use Rattle.l6_device.specs.declared.fault.RunFault.{RunFault}
use Rattle.l6_device.specs.declared.fault.RunFault.TheVariants.{TooLong, Asm, Load, Read, Write, NoMemory}
use Rattle.l6_debug.specs.declared.command.Reading.{Reading}
use Rattle.l6_debug.specs.Command.{reading_of}
use Rattle.l6_debug.specs.DebuggerState.{DebuggerState}
use Rattle.l6_debug.specs.Transcript.{answered, answers_from, is_quit, moved}
use Rattle.l6_debug.specs.Serving.{GoOut, TakesAnswers}
use Rattle.l6_debug.specs.inner.DebuggerRun.{HaveGoneOut}

-- answers of two lists, joined
concat_both : (one other : List (List ℕ)) → concat (one ++ other) ≡ concat one ++ concat other
concat_both [] other = refl
concat_both (first ∷ one) other =
    ap (λ text. first ++ text) (concat_both one other)
    ∙ sym (append_assoc first (concat one) (concat other))

length_both : (one other : List (List ℕ)) → length (one ++ other) ≡ length one + length other
length_both [] other = omega arith
length_both (first ∷ one) other = omega (arith, length_both one other)

-- nothing has gone out yet
pub nothing_out : (taken : Option (List ℕ)) → Appends taken taken []
nothing_out None = tt
nothing_out (Some bytes) = sym (append-nil bytes)

-- and so no answer
pub no_answer : (all : List (List ℕ)) (taken : Option (List ℕ)) → TakesAnswers all taken taken
no_answer all taken = record { count = 0; within = omega arith; out = nothing_out taken }

-- more answers go out
pub gone_more : (all now rest : List (List ℕ)) (old mid new : Option (List ℕ)) (sent sent' : ℕ) →
    HaveGoneOut all (now ++ rest) old mid sent → Appends mid new (concat now) →
    sent' ≡ min (sent + length (concat now)) most_counted →
    HaveGoneOut all rest old new sent'
gone_more all now rest old mid new sent sent' before out counted =
    let joined = concat_both before.gone now in
    record {
      gone = before.gone ++ now;
      are = before.are ∙ sym (append_assoc before.gone now rest);
      out = subst (Appends old new) (sym joined)
          (Appends-trans old mid new (concat before.gone) (concat now) before.out out);
      counted = omega (
        arith,
        counted,
        before.counted,
        ap length joined,
        length-append (concat before.gone) (concat now),
      );
    }

-- all have gone out
all_gone : (one : List (List ℕ)) → one ++ [] ≡ one
all_gone [] = refl
all_gone (first ∷ one) = ap (λ rest. first ∷ rest) (all_gone one)

-- a fault while answers go out is one of all answers
pub gone_fault : (T U : Type 0) (all now rest : List (List ℕ)) (old mid new : Option (List ℕ))
    (sent : ℕ) (fault : RunFault) →
    HaveGoneOut all (now ++ rest) old mid sent →
    GoOut {Outcome = T} now sent mid new (Err fault) →
    GoOut {Outcome = U} all 0 old new (Err fault)
gone_fault T U all now rest old mid new sent (TooLong part) gone out = absurd out
gone_fault T U all now rest old mid new sent (Asm part) gone out = absurd out
gone_fault T U all now rest old mid new sent (Load part) gone out = absurd out
gone_fault T U all now rest old mid new sent (Read part) gone out = absurd out
gone_fault T U all now rest old mid new sent (Write n) gone out =
    let front = concat gone.gone in
    let following = concat now ++ concat rest in
    let whole : concat all ≡ front ++ following =
    ap concat gone.are ∙ concat_both gone.gone (now ++ rest)
    ∙ ap (λ text. front ++ text) (concat_both now rest) in
    let text : take out.count (concat now) ≡ take out.count following =
    sym (take-append-le out.count (concat now) (concat rest) (omega (arith, out.short))) in
    record {
      count = length front + out.count;
      short = omega (
        arith,
        out.short,
        ap length whole,
        length-append front following,
        length-append (concat now) (concat rest),
      );
      front = subst (Appends old new)
          (ap (λ more. front ++ more) text ∙ sym (take-append-add front following out.count)
          ∙ ap (take (length front + out.count)) (sym whole))
          (Appends-trans old mid new front (take out.count (concat now)) gone.out out.front);
      counted = omega (arith, out.counted, gone.counted);
    }
gone_fault T U all now rest old mid new sent NoMemory gone out =
    let whole = gone.are in
    let text : take out.count now ≡ take out.count (now ++ rest) =
    sym (take-append-le out.count now rest out.within) in
    record {
      count = length gone.gone + out.count;
      within = omega (
        arith,
        out.within,
        ap length whole,
        length_both gone.gone (now ++ rest),
        length_both now rest,
      );
      out = subst (Appends old new)
          (sym (concat_both gone.gone (take out.count now))
          ∙ ap concat (ap (λ more. gone.gone ++ more) text
          ∙ sym (take-append-add gone.gone (now ++ rest) out.count)
          ∙ ap (take (length gone.gone + out.count)) (sym whole)))
          (Appends-trans old mid new (concat gone.gone) (concat (take out.count now)) gone.out
          out.out);
    }

-- another one has its answer, in front of those that follow
pub from_line : (rule : Rule) (context : RunContext) (debugger_state : DebuggerState) (line : List ℕ)
    (lines : List (List ℕ)) (reading : Reading) → reading_of line ≡ reading →
    is_quit reading ≡ false →
    answers_from rule context debugger_state (line ∷ lines)
    ≡ answered rule context debugger_state reading
    ++ answers_from rule context (moved rule context debugger_state reading) lines
from_line rule context debugger_state line lines reading is other =
    ap (λ r. answered rule context debugger_state r
    ++ (if is_quit r then [] else answers_from rule context
    (moved rule context debugger_state r) lines)) is
    ∙ ap (λ b. answered rule context debugger_state reading
    ++ (if b then [] else answers_from rule context
    (moved rule context debugger_state reading) lines)) other

-- what is left of the answers begins with that to the next line
line_opened : (rule : Rule) (context same : RunContext) (debugger_state : DebuggerState)
    (rest line following : List ℕ)
    (reading : Reading) (all : List (List ℕ)) (old mid : Option (List ℕ)) (sent : ℕ) →
    same ≡ context → lines_of rest ≡ line ∷ lines_of following → reading ≡ reading_of line →
    is_quit reading ≡ false →
    HaveGoneOut all (answers_from rule context debugger_state (lines_of rest)) old mid sent →
    HaveGoneOut all
    (answered rule same debugger_state reading
    ++ answers_from rule context (moved rule same debugger_state reading) (lines_of following)) old
    mid sent
line_opened rule context same debugger_state rest line following reading all old mid sent is lines
    read other
    gone =
    subst (λ r. HaveGoneOut all r old mid sent)
    (ap (answers_from rule context debugger_state) lines
    ∙ from_line rule context debugger_state line (lines_of following) reading (sym read) other
    ∙ ap (λ w. answered rule w debugger_state reading
    ++ answers_from rule context (moved rule w debugger_state reading) (lines_of following))
    (sym is)) gone

pub line_gone : (rule : Rule) (context same : RunContext) (debugger_state next : DebuggerState)
    (rest line following : List ℕ) (reading : Reading) (all : List (List ℕ))
    (old mid new : Option (List ℕ)) (sent sent' : ℕ) →
    same ≡ context → lines_of rest ≡ line ∷ lines_of following → reading ≡ reading_of line →
    is_quit reading ≡ false → next ≡ moved rule same debugger_state reading →
    HaveGoneOut all (answers_from rule context debugger_state (lines_of rest)) old mid sent →
    Appends mid new (concat (answered rule same debugger_state reading)) →
    sent' ≡ min (sent + length (concat (answered rule same debugger_state reading))) most_counted →
    HaveGoneOut all (answers_from rule context next (lines_of following)) old new sent'
line_gone rule context same debugger_state next rest line following reading all old mid new sent
    sent' is lines
    read other moves gone out counted =
    subst (λ s. HaveGoneOut all (answers_from rule context s (lines_of following)) old new sent')
    (sym moves)
    (gone_more all (answered rule same debugger_state reading)
    (answers_from rule context (moved rule same debugger_state reading) (lines_of following)) old
    mid new sent
    sent'
    (line_opened rule context same debugger_state rest line following reading all old mid sent is
    lines read
    other gone) out counted)

pub line_fault : (T U : Type 0) (rule : Rule) (context same : RunContext)
    (debugger_state : DebuggerState)
    (rest line following : List ℕ) (reading : Reading) (all : List (List ℕ))
    (old mid new : Option (List ℕ)) (sent : ℕ) (fault : RunFault) →
    same ≡ context → lines_of rest ≡ line ∷ lines_of following → reading ≡ reading_of line →
    is_quit reading ≡ false →
    HaveGoneOut all (answers_from rule context debugger_state (lines_of rest)) old mid sent →
    GoOut {Outcome = T} (answered rule same debugger_state reading) sent mid new (Err fault) →
    GoOut {Outcome = U} all 0 old new (Err fault)
line_fault T U rule context same debugger_state rest line following reading all old mid new sent
    fault is lines
    read other gone out =
    gone_fault T U all (answered rule same debugger_state reading)
    (answers_from rule context (moved rule same debugger_state reading) (lines_of following)) old
    mid new sent
    fault
    (line_opened rule context same debugger_state rest line following reading all old mid sent is
    lines read
    other gone) out
