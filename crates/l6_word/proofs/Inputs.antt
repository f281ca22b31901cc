-- Lemmas on the characters of an input.
use Rattle.std.proofs.Common.{◌≡◌, ℕ, List, ◌++◌, length, map, take, replicate, ap, sym, ◌∙◌}
use Rattle.std.specs.List.{flat_map}
use Rattle.std.specs.Str.{byte}
use Rattle.std.proofs.lemmas.List.{length-map}
use Rattle.std.proofs.lemmas.List.Concat.{flat_map-cons}
use Rattle.std.proofs.Math.Seq.{take-append_seam}
use Rattle.l6_word.specs.Code.{input_code}
use Rattle.l6_word.specs.Input.{characters_of, filled}
use Rattle.l6_word.specs.Laws.{LineByLine, WholeLinesUnchanged}
use Rattle.l6_word.specs.Lines.{lines_of, without_return}
use Rattle.l6_word.specs.Numerals.{input_width}
use Rattle.l6_word.proofs.Cuts.{lines_of_front}

pub line_by_line : LineByLine
line_by_line line following lacking =
    ap (flat_map (λ l. filled input_width (without_return l))) (lines_of_front line following lacking)
    ∙ flat_map-cons (λ l. filled input_width (without_return l)) line (lines_of following)

-- a line of just so many bytes fills a line
filled_whole : (width : ℕ) (line : List ℕ) → length line ≡ width →
    filled width line ≡ map input_code line
filled_whole width line is =
    let size : length (map input_code line) ≡ width = length-map line input_code ∙ is in
    let blanks : List ℕ = replicate width (input_code (byte " ")) in
    ap (λ n. take n (map input_code line ++ blanks)) (sym size)
    ∙ take-append_seam (map input_code line) blanks

pub whole_lines : WholeLinesUnchanged
whole_lines line following lacking kept is =
    line_by_line line following lacking
    ∙ ap (λ l. filled input_width l ++ characters_of following) kept
    ∙ ap (λ l. l ++ characters_of following) (filled_whole input_width line is)
