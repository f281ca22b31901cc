-- Heads of frames, read line by line.
use Rattle.std.proofs.Common.{◌≡◌, ℕ, ◌+◌, ◌≤◌, ◌<◌, List, [], ◌∷◌, ◌++◌, length, true, false, eqb, refl, sym, ap, ◌∙◌, subst, arith, append_assoc, length-append, Option, Some, None, inl, inr, ◌⊎◌}
use Rattle.std.specs.Prelude.{⊤}
use Rattle.std.specs.Str.{byte}
use Rattle.std.proofs.lemmas.List.{append_cancel_left}
use Rattle.l6_word.specs.Lines.{without_return}
use Rattle.l6_word.specs.Split.{lacks, IsCutAt}
use Rattle.l6_word.proofs.Cuts.{lacks_cons}
use Rattle.l6_frame.specs.Frame.{BeginsWith, GiveNone, GiveOne, GivesLength, IsOther, AreLines, ended, length_of, value_of}

-- two cuts at the first separator are one
pub cut_same : (separator : ℕ) (a b x y : List ℕ) → lacks separator a ≡ true →
    lacks separator b ≡ true → a ++ separator ∷ x ≡ b ++ separator ∷ y → (a ≡ b) × (x ≡ y)
cut_same separator [] [] x y la lb e = (refl, cc)
cut_same separator [] (b ∷ bs) x y la lb e =
    let parts = lacks_cons separator b bs lb in
    let is : separator ≡ b = cc in
    absurd (grind (arith, parts.0, is))
cut_same separator (a ∷ as') [] x y la lb e =
    let parts = lacks_cons separator a as' la in
    let is : a ≡ separator = cc in
    absurd (grind (arith, parts.0, is))
cut_same separator (a ∷ as') (b ∷ bs) x y la lb e =
    let first : a ≡ b = cc in
    let others : as' ++ separator ∷ x ≡ bs ++ separator ∷ y = cc in
    let same = cut_same separator as' bs x y (lacks_cons separator a as' la).1
    (lacks_cons separator b bs lb).1 others in
    (cc, same.1)

-- lines none of which is empty
abbrev pub AreFull : List (List ℕ) → Type 0
AreFull [] = ⊤
AreFull (line ∷ lines) = (without_return line ≡ [] → ⊥) × AreFull lines

-- what lines say of the length: nothing yet, or one
abbrev pub Give : Option ℕ → List (List ℕ) → Type 0
Give None lines = GiveNone lines
Give (Some size) lines = GiveOne size lines

-- bytes begin with these lines of a head, and the rest follows them
pub record IsRead (bytes rest : List ℕ) (size : Option ℕ) : Type 0 where
  pub done : List (List ℕ)
  pub whole : bytes ≡ ended done ++ rest
  pub full : AreFull done
  pub lines : AreLines done
  pub give : Give size done

-- the rest of a frame's head, after those lines
pub record Remains (done head : List (List ℕ)) (rest last tail : List ℕ) : Type 0 where
  pub back : List (List ℕ)
  pub parts : head ≡ done ++ back
  pub lines : AreLines back
  pub following : rest ≡ ended back ++ (last ++ byte "\n" ∷ tail)

pub remains : (done head : List (List ℕ)) (rest last tail : List ℕ) →
    AreFull done → AreLines done → AreLines head → lacks (byte "\n") last ≡ true →
    without_return last ≡ [] →
    ended done ++ rest ≡ ended head ++ (last ++ byte "\n" ∷ tail) →
    Remains done head rest last tail
remains [] head rest last tail full dones heads line empty e = record {
  back = head;
  parts = refl;
  lines = heads;
  following = e;
}
remains (d ∷ ds) [] rest last tail full dones heads line empty e =
    let joined : d ++ byte "\n" ∷ (ended ds ++ rest) ≡ last ++ byte "\n" ∷ tail
    = sym (append_assoc d (byte "\n" ∷ ended ds) rest) ∙ e in
    let same = cut_same (byte "\n") d last (ended ds ++ rest) tail dones.0 line joined in
    absurd (full.0 (ap without_return same.0 ∙ empty))
remains (d ∷ ds) (h ∷ hs) rest last tail full dones heads line empty e =
    let joined : d ++ byte "\n" ∷ (ended ds ++ rest)
    ≡ h ++ byte "\n" ∷ (ended hs ++ (last ++ byte "\n" ∷ tail))
    = sym (append_assoc d (byte "\n" ∷ ended ds) rest) ∙ e
    ∙ append_assoc h (byte "\n" ∷ ended hs) (last ++ byte "\n" ∷ tail) in
    let same = cut_same (byte "\n") d h (ended ds ++ rest)
    (ended hs ++ (last ++ byte "\n" ∷ tail)) dones.0 heads.0 joined in
    let others = remains ds hs rest last tail full.1 dones.1 heads.1 line empty same.1 in
    record {
      back = others.back;
      parts = cc (ap (λ (it : List (List ℕ)). d ∷ it) others.parts);
      lines = others.lines;
      following = others.following;
    }

-- what a frame's head has after the lines that are read
pub after_read : {bytes rest : List ℕ} {size : Option ℕ} (more body following : List ℕ) →
    (read : IsRead bytes rest size) → (frame : BeginsWith (bytes ++ more) body following) →
    Remains read.done frame.head (rest ++ more) frame.last (body ++ following)
after_read {bytes} {rest} more body following read frame =
    remains read.done frame.head (rest ++ more) frame.last (body ++ following) read.full read.lines
    frame.lines frame.line frame.empty
    (sym (append_assoc (ended read.done) rest more)
    ∙ ap (λ (it : List ℕ). it ++ more) (sym read.whole) ∙ frame.whole)

-- ---- the next line

pub record IsLast (back : List (List ℕ)) (last line following tail : List ℕ) : Type 0 where
  pub none : back ≡ []
  pub same : last ≡ line
  pub others : following ≡ tail

-- the next line is the empty one that ends the head, or the first of those that remain
pub next_line : (back : List (List ℕ)) (rest more last tail line following : List ℕ) →
    rest ++ more ≡ ended back ++ (last ++ byte "\n" ∷ tail) → AreLines back →
    lacks (byte "\n") last ≡ true → IsCutAt (byte "\n") rest line following →
    IsLast back last line (following ++ more) tail
    ⊎ ((others : List (List ℕ)) × (back ≡ line ∷ others))
next_line [] rest more last tail line following e lines ends cut =
    let joined : line ++ byte "\n" ∷ (following ++ more) ≡ last ++ byte "\n" ∷ tail
    = sym (append_assoc line (byte "\n" ∷ following) more)
    ∙ ap (λ (it : List ℕ). it ++ more) (sym cut.whole) ∙ e in
    let same = cut_same (byte "\n") line last (following ++ more) tail cut.first ends joined in
    inl (record { none = refl; same = sym same.0; others = same.1 })
next_line (b ∷ bs) rest more last tail line following e lines ends cut =
    let joined : line ++ byte "\n" ∷ (following ++ more)
    ≡ b ++ byte "\n" ∷ (ended bs ++ (last ++ byte "\n" ∷ tail))
    = sym (append_assoc line (byte "\n" ∷ following) more)
    ∙ ap (λ (it : List ℕ). it ++ more) (sym cut.whole) ∙ e
    ∙ append_assoc b (byte "\n" ∷ ended bs) (last ++ byte "\n" ∷ tail) in
    let same = cut_same (byte "\n") line b (following ++ more)
    (ended bs ++ (last ++ byte "\n" ∷ tail)) cut.first lines.0 joined in
    inr (bs, ap (λ (it : List ℕ). it ∷ bs) (sym same.0))

-- ---- what lines say of the length

pub none_one : (lines : List (List ℕ)) (size : ℕ) → GiveNone lines → GiveOne size lines → ⊥
none_one [] size none one = one
none_one (line ∷ lines) size none (inl one) = none_one lines size none.1 one.1
none_one (line ∷ lines) size none (inr one) = none.0.1 one.0.0

none_has : (front back : List (List ℕ)) (line : List ℕ) →
    GiveNone (front ++ line ∷ back) → IsOther line
none_has [] back line none = none.0
none_has (first ∷ front) back line none = none_has front back line none.1

pub has_field : (front back : List (List ℕ)) (line : List ℕ) (size : ℕ) →
    GiveOne size (front ++ line ∷ back) → IsOther line ⊎ GivesLength line size
has_field [] back line size (inl one) = inl one.0
has_field [] back line size (inr one) = inr one.0
has_field (first ∷ front) back line size (inl one) = has_field front back line size one.1
has_field (first ∷ front) back line size (inr one) = inl (none_has front back line one.1)

pub never_two : (front back : List (List ℕ)) (line : List ℕ) (one two other : ℕ) →
    GiveOne one front → GivesLength line two → GiveOne other (front ++ line ∷ back) → ⊥
never_two [] back line one two other gives given whole = gives
never_two (first ∷ front) back line one two other (inl gives) given (inl whole) =
    never_two front back line one two other gives.1 given whole.1
never_two (first ∷ front) back line one two other (inl gives) given (inr whole) =
    gives.0.1 whole.0.0
never_two (first ∷ front) back line one two other (inr gives) given (inl whole) =
    whole.0.1 gives.0.0
never_two (first ∷ front) back line one two other (inr gives) given (inr whole) =
    (none_has front back line whole.1).1 given.0

pub one_size : (lines : List (List ℕ)) (one other : ℕ) →
    GiveOne one lines → GiveOne other lines → one ≡ other
one_size [] one other gives given = absurd gives
one_size (line ∷ lines) one other (inl gives) (inl given) =
    one_size lines one other gives.1 given.1
one_size (line ∷ lines) one other (inl gives) (inr given) = absurd (gives.0.1 given.0.0)
one_size (line ∷ lines) one other (inr gives) (inl given) = absurd (given.0.1 gives.0.0)
one_size (line ∷ lines) one other (inr gives) (inr given) =
    let same : Some one ≡ Some other = sym gives.0.1 ∙ given.0.1 in
    cc

colon_lacks : (line : List ℕ) → lacks (byte ":") line ≡ false → line ≡ [] → ⊥
colon_lacks line some none =
    let is : lacks (byte ":") line ≡ true = ap (lacks (byte ":")) none in
    absurd (cc)

-- a field is not empty
pub fields_are_full : (line : List ℕ) (size : ℕ) →
    IsOther line ⊎ GivesLength line size → without_return line ≡ [] → ⊥
fields_are_full line size (inl other) empty = colon_lacks (without_return line) other.0 empty
fields_are_full line size (inr given) empty = colon_lacks (without_return line) given.0.0 empty

-- ---- a line more

pub ended_append : (front back : List (List ℕ)) → ended (front ++ back) ≡ ended front ++ ended back
ended_append [] back = refl
ended_append (line ∷ front) back =
    ap (λ (it : List ℕ). line ++ byte "\n" ∷ it) (ended_append front back)
    ∙ sym (append_assoc line (byte "\n" ∷ ended front) (ended back))

full_more : (lines : List (List ℕ)) (line : List ℕ) →
    AreFull lines → (without_return line ≡ [] → ⊥) → AreFull (lines ++ line ∷ [])
full_more [] line full more = (more, tt)
full_more (first ∷ lines) line full more = (full.0, full_more lines line full.1 more)

lines_more : (lines : List (List ℕ)) (line : List ℕ) →
    AreLines lines → lacks (byte "\n") line ≡ true → AreLines (lines ++ line ∷ [])
lines_more [] line are more = (more, tt)
lines_more (first ∷ lines) line are more = (are.0, lines_more lines line are.1 more)

none_more : (lines : List (List ℕ)) (line : List ℕ) →
    GiveNone lines → IsOther line → GiveNone (lines ++ line ∷ [])
none_more [] line none other = (other, tt)
none_more (first ∷ lines) line none other = (none.0, none_more lines line none.1 other)

one_more : (lines : List (List ℕ)) (line : List ℕ) (size : ℕ) →
    GiveOne size lines → IsOther line → GiveOne size (lines ++ line ∷ [])
one_more [] line size one other = absurd one
one_more (first ∷ lines) line size (inl one) other = inl (one.0, one_more lines line size one.1 other)
one_more (first ∷ lines) line size (inr one) other = inr (one.0, none_more lines line one.1 other)

one_now : (lines : List (List ℕ)) (line : List ℕ) (size : ℕ) →
    GiveNone lines → GivesLength line size → GiveOne size (lines ++ line ∷ [])
one_now [] line size none given = inr (given, tt)
one_now (first ∷ lines) line size none given = inl (none.0, one_now lines line size none.1 given)

give_more : (size : Option ℕ) (lines : List (List ℕ)) (line : List ℕ) →
    Give size lines → IsOther line → Give size (lines ++ line ∷ [])
give_more None lines line give other = none_more lines line give other
give_more (Some size) lines line give other = one_more lines line size give other

line_read : {bytes rest line following : List ℕ} {size : Option ℕ} (now : Option ℕ) →
    (read : IsRead bytes rest size) → IsCutAt (byte "\n") rest line following →
    (without_return line ≡ [] → ⊥) → Give now (read.done ++ line ∷ []) →
    IsRead bytes following now
line_read {bytes} {rest} {line} {following} now read cut full give = record {
  done = read.done ++ line ∷ [];
  whole = read.whole ∙ ap (λ (it : List ℕ). ended read.done ++ it)
      (cut.whole ∙ sym (append_assoc line (byte "\n" ∷ []) following))
      ∙ sym (append_assoc (ended read.done) (line ++ byte "\n" ∷ []) following)
      ∙ ap (λ (it : List ℕ). it ++ following) (sym (ended_append read.done (line ∷ [])));
  full = full_more read.done line read.full full;
  lines = lines_more read.done line read.lines cut.first;
  give = give;
}

-- another field is read
pub other_read : {bytes rest line following : List ℕ} {size : Option ℕ} →
    IsRead bytes rest size → IsCutAt (byte "\n") rest line following →
    (without_return line ≡ [] → ⊥) → IsOther line → IsRead bytes following size
other_read {line = line} {size = size} read cut full other =
    line_read size read cut full (give_more size read.done line read.give other)

-- the field with the length is read
pub length_read : {bytes rest line following : List ℕ} (size : ℕ) →
    IsRead bytes rest None → IsCutAt (byte "\n") rest line following →
    (without_return line ≡ [] → ⊥) → GivesLength line size → IsRead bytes following (Some size)
length_read {line = line} size read cut full given =
    line_read (Some size) read cut full (one_now read.done line size read.give given)
