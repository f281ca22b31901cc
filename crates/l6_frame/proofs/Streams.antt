-- Streams of frames have one reading.
use Rattle.std.proofs.Common.{◌≡◌, ℕ, List, [], ◌∷◌, ◌++◌, length, refl, sym, ap, ◌∙◌, subst, arith, append_assoc, append-nil, Option, Some, None, inl, inr}
use Rattle.std.proofs.Common.{◌+◌, ◌-◌, ◌≤◌, drop, length-append, length-drop}
use Rattle.std.proofs.lemmas.List.{drop-drop}
use Rattle.std.proofs.Math.Seq.{drop-append_seam}
use Rattle.std.specs.Str.{byte}
use Rattle.l6_word.specs.Lines.{without_return}
use Rattle.l6_word.specs.Split.{IsCutAt}
use Rattle.l6_frame.specs.Frame.{BeginsWith, GiveNone, GiveOne, ended}
use Rattle.l6_frame.specs.Stream.{AreFrames, BeginsNone}
use Rattle.l6_frame.proofs.Heads.{AreFull, IsRead, one_size, fields_are_full}
use Rattle.l6_frame.proofs.Frames.{empty_line}

none_full : (lines : List (List ℕ)) → GiveNone lines → AreFull lines
none_full [] none = tt
none_full (line ∷ lines) none =
    (fields_are_full line 0 (inl none.0), none_full lines none.1)

one_full : (lines : List (List ℕ)) (size : ℕ) → GiveOne size lines → AreFull lines
one_full [] size one = tt
one_full (line ∷ lines) size (inl one) =
    (fields_are_full line size (inl one.0), one_full lines size one.1)
one_full (line ∷ lines) size (inr one) =
    (fields_are_full line size (inr one.0), none_full lines one.1)

-- parts of the same length are the same
same_parts : (a b x y : List ℕ) → length a ≡ length b → a ++ x ≡ b ++ y → (a ≡ b) × (x ≡ y)
same_parts [] [] x y l e = (refl, e)
same_parts [] (b ∷ bs) x y l e = absurd (omega (arith, l))
same_parts (a ∷ as') [] x y l e = absurd (omega (arith, l))
same_parts (a ∷ as') (b ∷ bs) x y l e =
    let shorter : length as' ≡ length bs = omega (arith, l) in
    let others : as' ++ x ≡ bs ++ y = cc in
    let same = same_parts as' bs x y shorter others in
    (cc (same.0), same.1)

-- bytes begin with one frame at most
pub one_frame : (bytes more body other rest following : List ℕ) → BeginsWith bytes body rest →
    BeginsWith (bytes ++ more) other following → (body ≡ other) × (rest ++ more ≡ following)
one_frame bytes more body other rest following frame more_frame =
    let left = frame.last ++ byte "\n" ∷ (body ++ rest) in
    let read : IsRead bytes left (Some (length body)) = record {
      done = frame.head;
      whole = frame.whole;
      full = one_full frame.head (length body) frame.given;
      lines = frame.lines;
      give = frame.given;
    } in
    let cut : IsCutAt (byte "\n") left frame.last (body ++ rest)
    = record { whole = refl; first = frame.line } in
    let ends = empty_line more other following read cut frame.empty more_frame in
    let size = one_size frame.head (length body) (length other) frame.given
    (subst (GiveOne (length other)) ends.lines more_frame.given) in
    same_parts body other (rest ++ more) following size
    (sym (append_assoc body rest more) ∙ ends.others)

-- a frame is that of the bytes with others after them, too
longer : (bytes more body rest : List ℕ) → BeginsWith bytes body rest →
    BeginsWith (bytes ++ more) body (rest ++ more)
longer bytes more body rest frame = record {
  head = frame.head;
  last = frame.last;
  whole = ap (λ (it : List ℕ). it ++ more) frame.whole
      ∙ append_assoc (ended frame.head) (frame.last ++ byte "\n" ∷ (body ++ rest)) more
      ∙ ap (λ (it : List ℕ). ended frame.head ++ it)
      (append_assoc frame.last (byte "\n" ∷ (body ++ rest)) more
      ∙ ap (λ (it : List ℕ). frame.last ++ byte "\n" ∷ it) (append_assoc body rest more));
  lines = frame.lines;
  line = frame.line;
  empty = frame.empty;
  given = frame.given;
  short = frame.short;
}

same_frame : (bytes body other rest following : List ℕ) → BeginsWith bytes body rest →
    BeginsWith bytes other following → (body ≡ other) × (rest ≡ following)
same_frame bytes body other rest following frame next =
    let same = one_frame bytes [] body other rest following frame
    (subst (λ (it : List ℕ). BeginsWith it other following) (sym (append-nil bytes)) next) in
    (same.0, sym (append-nil rest) ∙ same.1)

pub one_reading : (stream rest last : List ℕ) (bodies others : List (List ℕ)) →
    AreFrames stream bodies rest → AreFrames stream others last →
    (bodies ≡ others) × (rest ≡ last)
one_reading stream rest last [] [] one two = (refl, sym one.0 ∙ two.0)
one_reading stream rest last [] (other ∷ others) one two =
    absurd (subst BeginsNone (sym one.0) one.1 other two.0 two.1)
one_reading stream rest last (body ∷ bodies) [] one two =
    absurd (subst BeginsNone (sym two.0) two.1 body one.0 one.1)
one_reading stream rest last (body ∷ bodies) (other ∷ others) one two =
    let same = same_frame stream body other one.0 two.0 one.1 two.1 in
    let left = one_reading one.0 rest last bodies others one.2
    (subst (λ (it : List ℕ). AreFrames it others last) (sym same.1) two.2) in
    (cc (same.0, left.0), left.1)

pub in_pieces : (stream more rest last : List ℕ) (bodies others : List (List ℕ)) →
    AreFrames stream bodies rest → AreFrames (rest ++ more) others last →
    AreFrames (stream ++ more) (bodies ++ others) last
in_pieces stream more rest last [] others one two =
    subst (λ (it : List ℕ). AreFrames (it ++ more) others last) (sym one.0) two
in_pieces stream more rest last (body ∷ bodies) others one two = (
  one.0 ++ more,
  longer stream more body one.0 one.1,
  in_pieces one.0 more rest last bodies others one.2 two,
)

-- ---- what is left once a frame is taken

-- what follows a frame, after the bytes before it
pub left_after : (whole body rest : List ℕ) (taken : ℕ) → taken ≤ length whole →
    BeginsWith (drop taken whole) body rest → drop (length whole - length rest) whole ≡ rest
left_after whole body rest taken within frame =
    let waiting = drop taken whole in
    let front = (ended frame.head ++ (frame.last ++ byte "\n" ∷ [])) ++ body in
    let parts : waiting ≡ front ++ rest
    = frame.whole ∙ simp append_assoc in
    let count : length whole - length rest ≡ taken + length front
    = omega (arith, length-drop taken whole, ap length parts, length-append front rest) in
    ap (λ (n : ℕ). drop n whole) count ∙ sym (drop-drop (length front) taken whole)
    ∙ ap (drop (length front)) parts ∙ drop-append_seam front rest
