-- Which frame bytes begin with, by the lines of a head that are read.
use Rattle.std.proofs.Common.{◌≡◌, ℕ, ◌+◌, ◌-◌, ◌≤◌, ◌<◌, Bool, List, [], ◌∷◌, ◌++◌, length, true, false, eqb, refl, sym, ap, ◌∙◌, subst, arith, append_assoc, append-nil, length-append, Option, Some, None, inl, inr, ◌⊎◌}
use Rattle.std.specs.Str.{byte}
use Rattle.l6_word.specs.Lines.{without_return}
use Rattle.l6_word.specs.Split.{lacks, IsCutAt}
use Rattle.l6_word.proofs.Cuts.{lacks_cons}
use Rattle.l6_frame.specs.Frame.{BeginsWith, GiveNone, GiveOne, GivesLength, IsOther, AreLines, ended}
use Rattle.l6_frame.specs.Numerals.{most_head}
use Rattle.l6_frame.specs.Read.{IsBody, IsField, IsNext}
use Rattle.l6_frame.specs.declared.field.Field.TheVariants.{Malformed}
use Rattle.l6_frame.specs.declared.frame.Next.{Next}
use Rattle.l6_frame.specs.declared.frame.Next.TheVariants.{Frame, Part, Wrong}
use Rattle.l6_frame.proofs.Heads.{IsRead, IsLast, Remains, after_read, next_line, none_one, has_field, never_two, one_size, fields_are_full, ended_append}

-- the head of a frame has been read to its end
pub record IsHead (done head : List (List ℕ)) (last line following tail : List ℕ) : Type 0 where
  pub lines : head ≡ done
  pub end : last ≡ line
  pub others : following ≡ tail

given_at : (done : List (List ℕ)) {back others head : List (List ℕ)} {line : List ℕ} (size : ℕ) →
    GiveOne size head → head ≡ done ++ back → back ≡ line ∷ others →
    GiveOne size (done ++ line ∷ others)
given_at done {line = line} size given parts is =
    subst (GiveOne size) (parts ∙ ap (λ (it : List (List ℕ)). done ++ it) is) given

-- an empty line ends the head of each frame
pub empty_line : {bytes rest line following : List ℕ} {size : Option ℕ} (more body tail : List ℕ) →
    (read : IsRead bytes rest size) → IsCutAt (byte "\n") rest line following →
    without_return line ≡ [] → (frame : BeginsWith (bytes ++ more) body tail) →
    IsHead read.done frame.head frame.last line (following ++ more) (body ++ tail)
empty_line {bytes} {rest} {line} {following} more body tail read cut empty frame =
    let left = after_read more body tail read frame in
    elim (next_line left.back rest more frame.last (body ++ tail) line following left.following
    left.lines frame.line cut) as (λ _. IsHead read.done frame.head frame.last line (following ++ more) (body ++ tail)) [
      | inl ended ↦ record {
        lines = left.parts ∙ ap (λ (it : List (List ℕ)). read.done ++ it) ended.none
            ∙ append-nil read.done;
        end = ended.same;
        others = ended.others;
      }
      | inr others ↦ absurd (fields_are_full line (length body)
          (has_field read.done others.0 line (length body)
          (given_at read.done (length body) frame.given left.parts others.1)) empty)
    ]

-- a line that is not empty is a field of the head of each frame
full_line : {bytes rest line following : List ℕ} {size : Option ℕ} (more body tail : List ℕ) →
    (read : IsRead bytes rest size) → IsCutAt (byte "\n") rest line following →
    (without_return line ≡ [] → ⊥) → BeginsWith (bytes ++ more) body tail →
    (others : List (List ℕ)) × GiveOne (length body) (read.done ++ line ∷ others)
full_line {bytes} {rest} {line} {following} more body tail read cut full frame =
    let left = after_read more body tail read frame in
    elim (next_line left.back rest more frame.last (body ++ tail) line following left.following
    left.lines frame.line cut) as (λ _. (others : List (List ℕ)) × GiveOne (length body) (read.done ++ line ∷ others)) [
      | inl ended ↦ absurd (full (ap without_return (sym ended.same) ∙ frame.empty))
      | inr others ↦ (others.0, given_at read.done (length body) frame.given left.parts others.1)
    ]

-- a head without a length is that of no frame
pub no_length : {bytes rest line following : List ℕ} →
    IsRead bytes rest None → IsCutAt (byte "\n") rest line following →
    without_return line ≡ [] → IsNext bytes Wrong
no_length {bytes} {rest} {line} {following} read cut empty = λ more body tail frame.
    let ends = empty_line more body tail read cut empty frame in
    none_one read.done (length body) read.give (subst (GiveOne (length body)) ends.lines frame.given)

-- a head that is too long is that of no frame
pub long_head : {bytes rest line following : List ℕ} {size : Option ℕ} →
    IsRead bytes rest size → IsCutAt (byte "\n") rest line following →
    without_return line ≡ [] → most_head < length bytes - length following → IsNext bytes Wrong
long_head {bytes} {rest} {line} {following} read cut empty long = λ more body tail frame.
    let ends = empty_line more body tail read cut empty frame in
    let short : length (ended read.done ++ line) < most_head
    = subst (λ (it : List ℕ). length (ended read.done ++ it) < most_head) ends.end
    (subst (λ (it : List (List ℕ)). length (ended it ++ frame.last) < most_head) ends.lines
    frame.short) in
    omega (
      arith,
      ap length read.whole,
      ap length cut.whole,
      length-append (ended read.done) rest,
      length-append line (byte "\n" ∷ following),
      length-append (ended read.done) line,
    )

-- a line that is no field is in the head of no frame
pub no_field : {bytes rest line following : List ℕ} {size : Option ℕ} →
    IsRead bytes rest size → IsCutAt (byte "\n") rest line following →
    (without_return line ≡ [] → ⊥) → IsField line Malformed → IsNext bytes Wrong
no_field {bytes} {rest} {line} {following} read cut full malformed = λ more body tail frame.
    let within = full_line more body tail read cut full frame in
    elim (has_field read.done within.0 line (length body) within.1) as (λ _. ⊥) [
      | inl other ↦ malformed.0 other
      | inr given ↦ malformed.1 (length body) given
    ]

-- nor is a second length
pub second_length : {bytes rest line following : List ℕ} (one two : ℕ) →
    IsRead bytes rest (Some one) → IsCutAt (byte "\n") rest line following →
    (without_return line ≡ [] → ⊥) → GivesLength line two → IsNext bytes Wrong
second_length {bytes} {rest} {line} {following} one two read cut full given =
    λ more body tail frame.
    let within = full_line more body tail read cut full frame in
    never_two read.done within.0 line one two (length body) read.give given within.1

-- the bytes after a head begin with the body, or are too few
pub body_next : {bytes rest line following : List ℕ} (size : ℕ) (next : Next) →
    IsRead bytes rest (Some size) → IsCutAt (byte "\n") rest line following →
    without_return line ≡ [] → length bytes - length following ≤ most_head →
    IsBody following size next → IsNext bytes next
body_next {bytes} {rest} {line} {following} size (Frame body tail) read cut empty short is = record {
  head = read.done;
  last = line;
  whole = read.whole ∙ ap (λ (it : List ℕ). ended read.done ++ it)
      (cut.whole ∙ ap (λ (it : List ℕ). line ++ byte "\n" ∷ it) is.0);
  lines = read.lines;
  line = cut.first;
  empty = empty;
  given = subst (λ n. GiveOne n read.done) (sym is.1) read.give;
  short = omega (
    arith,
    ap length read.whole,
    ap length cut.whole,
    length-append (ended read.done) rest,
    length-append line (byte "\n" ∷ following),
    length-append (ended read.done) line,
  );
}
body_next {bytes} {rest} {line} {following} size Part read cut empty short few = λ body tail frame.
    let whole : BeginsWith (bytes ++ []) body tail
    = subst (λ (it : List ℕ). BeginsWith it body tail) (sym (append-nil bytes)) frame in
    let ends = empty_line [] body tail read cut empty whole in
    let same = one_size read.done size (length body) read.give
    (subst (GiveOne (length body)) ends.lines whole.given) in
    let parts : following ≡ body ++ tail = sym (append-nil following) ∙ ends.others in
    omega (arith, ap length parts, length-append body tail)
body_next size Wrong read cut empty short is = absurd is

-- ---- no line feed is left

lacks_none : (separator : ℕ) (a b : List ℕ) → lacks separator (a ++ separator ∷ b) ≡ true → ⊥
lacks_none separator [] b lacking =
    let parts = lacks_cons separator separator b lacking in
    grind (arith, parts.0)
lacks_none separator (first ∷ rest) b lacking =
    lacks_none separator rest b (lacks_cons separator first (rest ++ separator ∷ b) lacking).1

-- bytes without the separator end before it
ends_before : (separator : ℕ) (rest more a b : List ℕ) → lacks separator rest ≡ true →
    rest ++ more ≡ a ++ separator ∷ b → length rest ≤ length a
ends_before separator [] more a b lacking e = omega arith
ends_before separator (first ∷ rest) more [] b lacking e =
    let parts = lacks_cons separator first rest lacking in
    let is : first ≡ separator = cc in
    absurd (grind (arith, parts.0, is))
ends_before separator (first ∷ rest) more (a ∷ as') b lacking e =
    let others : rest ++ more ≡ as' ++ separator ∷ b = cc in
    let within = ends_before separator rest more as' b
    (lacks_cons separator first rest lacking).1 others in
    omega arith

rest_within : (back : List (List ℕ)) (rest more last tail : List ℕ) →
    lacks (byte "\n") rest ≡ true →
    rest ++ more ≡ ended back ++ (last ++ byte "\n" ∷ tail) →
    length rest ≤ length (ended back) + length last
rest_within [] rest more last tail lacking e =
    let within = ends_before (byte "\n") rest more last tail lacking e in
    omega arith
rest_within (b ∷ bs) rest more last tail lacking e =
    let within = ends_before (byte "\n") rest more b
    (ended bs ++ (last ++ byte "\n" ∷ tail)) lacking
    (e ∙ append_assoc b (byte "\n" ∷ ended bs) (last ++ byte "\n" ∷ tail)) in
    omega (arith, length-append b (byte "\n" ∷ ended bs))

within_whole : {bytes rest : List ℕ} {size : Option ℕ} (more body tail : List ℕ) →
    IsRead bytes rest size → lacks (byte "\n") rest ≡ true →
    (frame : BeginsWith (bytes ++ more) body tail) →
    length bytes ≤ length (ended frame.head ++ frame.last)
within_whole {bytes} {rest} more body tail read lacking frame =
    let left = after_read more body tail read frame in
    let within = rest_within left.back rest more frame.last (body ++ tail) lacking left.following in
    omega (
      arith,
      ap length read.whole,
      length-append (ended read.done) rest,
      length-append (ended frame.head) frame.last,
      ap length (ap ended left.parts ∙ ended_append read.done left.back),
      length-append (ended read.done) (ended left.back),
    )

-- bytes whose last line has no end are no whole frame
pub part_left : {bytes rest : List ℕ} {size : Option ℕ} →
    IsRead bytes rest size → lacks (byte "\n") rest ≡ true → IsNext bytes Part
part_left {bytes} {rest} read lacking = λ body tail frame.
    let whole : BeginsWith (bytes ++ []) body tail
    = subst (λ (it : List ℕ). BeginsWith it body tail) (sym (append-nil bytes)) frame in
    let within = within_whole [] body tail read lacking whole in
    omega (
      arith,
      ap length (sym (append-nil bytes) ∙ whole.whole),
      length-append (ended whole.head) (whole.last ++ byte "\n" ∷ (body ++ tail)),
      length-append whole.last (byte "\n" ∷ (body ++ tail)),
      length-append (ended whole.head) whole.last,
    )

-- and begin none once they are more than a head may have
pub too_long : {bytes rest : List ℕ} {size : Option ℕ} →
    IsRead bytes rest size → lacks (byte "\n") rest ≡ true → most_head ≤ length bytes →
    IsNext bytes Wrong
too_long {bytes} {rest} read lacking long = λ more body tail frame.
    let within = within_whole more body tail read lacking frame in
    omega (arith, frame.short)

-- nothing is read yet
pub begins_read : (bytes : List ℕ) → IsRead bytes bytes None
begins_read bytes = record { done = []; whole = refl; full = tt; lines = tt; give = tt }

-- ---- tests of a line

none_left : (bytes : List ℕ) → eqb (length bytes) 0 ≡ true → bytes ≡ []
none_left [] is = refl
none_left (first ∷ rest) is = absurd (grind (arith, is))

some_left : (bytes : List ℕ) → eqb (length bytes) 0 ≡ false → bytes ≡ [] → ⊥
some_left bytes is none =
    let count : length bytes ≡ 0 = ap length none in
    grind (arith, is, count)

-- a line without its carriage return is empty, or is not, by a test of its length
pub is_blank : (line cut : List ℕ) (test : Bool) → cut ≡ without_return line →
    test ≡ eqb (length cut) 0 → test ≡ true → without_return line ≡ []
is_blank line cut test value tested is = sym value ∙ none_left cut (sym tested ∙ is)

pub is_full : (line cut : List ℕ) (test : Bool) → cut ≡ without_return line →
    test ≡ eqb (length cut) 0 → test ≡ false → without_return line ≡ [] → ⊥
is_full line cut test value tested is none = some_left cut (sym tested ∙ is) (value ∙ none)

-- ---- what is known of the length that was read

pub with_size : {bytes rest : List ℕ} {size now : Option ℕ} →
    size ≡ now → IsRead bytes rest size → IsRead bytes rest now
with_size {bytes} {rest} is read = subst (λ (it : Option ℕ). IsRead bytes rest it) is read
