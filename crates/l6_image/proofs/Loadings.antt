-- What becomes of a text that is loaded.
use Rattle.std.proofs.Common.{◌≡◌, ℕ, List, true, Some, None, Err, ap, sym, ◌∙◌}
use Rattle.std.specs.List.{list_all}
use Rattle.l6_prog.specs.Statement.{Parts}
use Rattle.l6_image.specs.declared.fault.LoadFault.{LoadFault}
use Rattle.l6_image.specs.declared.fault.LoadFault.TheVariants.{NotWords, NotAnImage, NoMemory}
use Rattle.l6_image.specs.declared.fault.ReadFault.{ReadFault}
use Rattle.l6_image.specs.declared.fault.ReadFault.TheVariants as reads
use Rattle.l6_word.specs.Word.{is_word}
use Rattle.l6_image.specs.Image.{words_in}
use Rattle.l6_image.specs.declared.version.Version.{Version}
use Rattle.l6_image.specs.Text.{text_of_words, text_in, whole_lines, first_other, IsImageOf}
use Rattle.l6_image.specs.Load.{Loads, TextHasFault}
use Rattle.l6_image.specs.inner.Faults.{load_fault}
use Rattle.l6_image.specs.inner.decode.Loading.{program_in}
use Rattle.l6_image.specs.inner.decode.Seen.{Fails}
use Rattle.l6_image.specs.inner.TextFault.{TextHasLineFault}
use Rattle.l6_image.proofs.Fitness.{words_in-words}
use Rattle.l6_image.proofs.Lines.{first_other_none}
use Rattle.l6_image.proofs.Texts.{words_are, program_in_words, same_found}

-- each line of an image is one of a word
lines_none : (text : List ℕ) (program : List Parts) → IsImageOf text program →
    first_other 1 (whole_lines text) ≡ None
unfolding text_in
lines_none text program is =
    ap (λ t. first_other 1 (whole_lines t)) is.2
    ∙ first_other_none (words_in is.0 program) 1 (words_in-words is.0 program is.1)

-- a text with another line is no image
pub line_loads : (text : List ℕ) (fault : LoadFault) (program : List Parts) →
    TextHasLineFault text fault → IsImageOf text program → Loads program (Err fault)
line_loads text (NotWords line) program determines is =
    let none = lines_none text program is in absurd (cc)
line_loads text NotAnImage program determines is = absurd determines
line_loads text NoMemory program determines is = tt

module _ (text words : List ℕ) (each : list_all is_word words ≡ true)
    (lines : text ≡ text_of_words words) where
  -- the words tell the program of which the text is
  found_in : (program : List Parts) (is : IsImageOf text program) →
      program_in words ≡ Some (is.0, program)
  found_in program is = program_in_words text words is.0 program each is.1 lines is.2

  -- words that tell no program
  pub words_load : (fault : ReadFault) (program : List Parts) → Fails fault (program_in words) →
      IsImageOf text program → Loads program (Err (load_fault fault))
  words_load reads.NotAnImage program fails is =
      let found = found_in program is in absurd (cc)
  words_load reads.NoMemory program fails is = tt

  -- each line is one of a word
  no_other : first_other 1 (whole_lines text) ≡ None
  no_other = ap (λ t. first_other 1 (whole_lines t)) lines ∙ first_other_none words 1 each

  pub words_show : (fault : ReadFault) → Fails fault (program_in words) →
      TextHasFault text (load_fault fault)
  words_show reads.NotAnImage fails =
      (no_other, λ is. words_load reads.NotAnImage is.0 fails is.1)
  words_show reads.NoMemory fails = tt

  -- the program that was found is the one that the text is of
  both_found : (found : Version × List Parts) (program : List Parts) →
      program_in words ≡ Some found → (is : IsImageOf text program) → found ≡ (is.0, program)
  both_found found program found_there is =
      same_found found (is.0, program) (sym found_there ∙ found_in program is)

  pub found_loads : (found : Version × List Parts) (program : List Parts) →
      program_in words ≡ Some found → IsImageOf text program → found.1 ≡ program
  found_loads found program found_there is =
      ap (λ (p : Version × List Parts). p.1) (both_found found program found_there is)

  -- words that are not those of the program that was found
  pub others_load : (found : Version × List Parts) (program : List Parts) →
      program_in words ≡ Some found → (words_in found.0 found.1 ≡ words → ⊥) →
      IsImageOf text program → ⊥
  others_load found program found_there differ is =
      differ (ap (λ (p : Version × List Parts). words_in p.0 p.1)
      (both_found found program found_there is)
      ∙ sym (words_are text words is.0 program each is.1 lines is.2))

  pub others_show : (found : Version × List Parts) → program_in words ≡ Some found →
      (words_in found.0 found.1 ≡ words → ⊥) → TextHasFault text NotAnImage
  others_show found found_there differ =
      (no_other, λ image. others_load found image.0 found_there differ image.1)
