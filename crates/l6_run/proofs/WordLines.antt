-- Lemmas on texts that are written in pieces: how many bytes they have, and what has gone out of them.
use Rattle.std.proofs.Common.{◌≡◌, ℕ, ◌+◌, ◌^◌, ◌≤◌, List, [], ◌++◌, length, take, Option, None, Some, arith, refl, sym, ap, ◌∙◌, subst, append_assoc, append-nil, length-append}
use Rattle.std.specs.Prelude.{min}
use Rattle.std.proofs.Math.Seq.{take-append-add}
use Rattle.std.proofs.lemmas.List.{take-append-le}
use Rattle.std.specs.Io.KnownBytes.{Appends}
use Rattle.std.proofs.KnownBytes.{Appends-trans}
use Rattle.std.proofs.lemmas.Bool.{and_parts, ltb-true}
use Rattle.l6_word.specs.Numerals.{word_bits}
use Rattle.l6_word.specs.Word.{is_word}
use Rattle.l6_prog.specs.Statement.{Parts}
use Rattle.l6_image.specs.Image.{body, words_in, HasImage}
use Rattle.l6_image.specs.Text.{text_of}
use Rattle.l6_image.specs.Version.{magic}
use Rattle.l6_image.specs.declared.version.Version.TheVariants.{Two}
use Rattle.l6_image.proofs.Fitness.{words_in-words}
use Rattle.l6_asm.proofs.ImageLengths.{image_length}
use Rattle.l6_device.specs.Numerals.{most_counted}
use Rattle.l6_device.specs.Transfer.{EndsWriting}
use Rattle.l6_device.specs.declared.fault.RunFault.{RunFault}
use Rattle.l6_device.specs.declared.fault.RunFault.TheVariants.{TooLong, Asm, Load, Read, Write, NoMemory}
use Rattle.l6_run.specs.Texts.{RewritesImage, WritesImage}

-- the front of a text has gone out, this is left of it, and the bytes that went out are counted
pub record WrittenTo (text left : List ℕ) (before : ℕ) (old new : Option (List ℕ)) : Type 0 where
  pub front : List ℕ
  pub are : text ≡ front ++ left
  pub out : Appends old new front
  pub counted : before ≡ min (length front) most_counted

-- nothing has gone out
pub written_none : (text : List ℕ) (old : Option (List ℕ)) → WrittenTo text text 0 old old
written_none text old = record {
  front = [];
  are = refl;
  out = appended_none old;
  counted = refl;
} where
  appended_none : (old : Option (List ℕ)) → Appends old old []
  appended_none None = tt
  appended_none (Some bytes) = sym (append-nil bytes)

module _ (text left first later : List ℕ) (before : ℕ) (old mid new : Option (List ℕ))
    (so_far : WrittenTo text left before old mid) (are : left ≡ first ++ later) where
  -- the text is what went out before, the first part of what is left, and what is after that
  parts : text ≡ so_far.front ++ (first ++ later)
  parts = so_far.are ∙ ap (λ more. so_far.front ++ more) are

  -- the first part has gone out
  pub written_on : (after : ℕ) → Appends mid new first →
      after ≡ min (before + length first) most_counted → WrittenTo text later after old new
  written_on after out counted = record {
    front = so_far.front ++ first;
    are = parts ∙ sym (append_assoc so_far.front first later);
    out = Appends-trans old mid new so_far.front first so_far.out out;
    counted = omega (arith, counted, so_far.counted, length-append so_far.front first);
  }

  -- it has not gone out whole
  pub written_front : (fault : RunFault) → EndsWriting first before mid new fault →
      EndsWriting text 0 old new fault
  written_front (TooLong _) ends = absurd ends
  written_front (Asm _) ends = absurd ends
  written_front (Load _) ends = absurd ends
  written_front (Read _) ends = absurd ends
  written_front NoMemory ends = absurd ends
  written_front (Write n) ends =
      let done = so_far.front in
      let taken : take (length done + ends.count) text ≡ done ++ take ends.count first =
      ap (take (length done + ends.count)) parts
      ∙ take-append-add done (first ++ later) ends.count
      ∙ ap (λ more. done ++ more)
      (take-append-le ends.count first later (omega (arith, ends.short))) in
      record {
        count = length done + ends.count;
        short = omega (
          arith,
          ends.short,
          ap length parts,
          length-append done (first ++ later),
          length-append first later,
        );
        front = subst (Appends old new) (sym taken)
            (Appends-trans old mid new done (take ends.count first) so_far.out ends.front);
        counted = omega (arith, ends.counted, so_far.counted);
      }

-- all has gone out
pub written_whole : (text left : List ℕ) (before : ℕ) (old new : Option (List ℕ)) → left ≡ [] →
    WrittenTo text left before old new → Appends old new text
written_whole text left before old new none so_far =
    subst (Appends old new)
    (sym (so_far.are ∙ ap (λ more. so_far.front ++ more) none ∙ append-nil so_far.front)) so_far.out

-- and its bytes are counted
pub written_count : (text left : List ℕ) (before : ℕ) (old new : Option (List ℕ)) → left ≡ [] →
    WrittenTo text left before old new → before ≡ min (length text) most_counted
written_count text left before old new none so_far =
    so_far.counted
    ∙ ap (λ front. min (length front) most_counted)
    (sym (so_far.are ∙ ap (λ more. so_far.front ++ more) none ∙ append-nil so_far.front))

-- an image says how many words follow, and in a word, so the bytes of its text can be counted
text_counted : (program : List Parts) → HasImage Two program →
    length (text_of program) ≤ most_counted
unfolding words_in
text_counted program has =
    let count = length (body Two program) in
    let from_first = words_in-words Two program has in
    let from_second = (and_parts (is_word (magic Two)) _ from_first).1 in
    let from_third = (and_parts (is_word (length program)) _ from_second).1 in
    let few = ltb-true count (2 ^ word_bits) (and_parts (is_word count) _ from_third).0 in
    omega (arith, few, image_length Two program)

pub image_counted : (deck text : List ℕ) → WritesImage deck text → length text ≤ most_counted
image_counted deck text writes =
    omega (arith, ap length writes.written, text_counted writes.assembly.program writes.known)

pub renewed_counted : (image text : List ℕ) → RewritesImage image text → length text ≤ most_counted
renewed_counted image text rewrites =
    omega (arith, ap length rewrites.written, text_counted rewrites.program rewrites.known)
