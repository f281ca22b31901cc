use Rattle.std.proofs.Common.{◌≡◌, ◌∙◌, ◌/◌, ◌%◌, List, ℕ, [], ◌∷◌, ◌++◌, ap, arith}
use Rattle.std.specs.Str.Parse.{digits_value}
use Rattle.l6_word.specs.Octal.{octal_digits}
use Rattle.l6_word.proofs.Octals.{octal12_parts, octal12_value}
use Rattle.l6_word.proofs.octal.octal12.Goals as goal
use borrow.Rule.Slice.PartMut.{put_mid}

pub returns-clause-value : goal.returns-clause-value
returns-clause-value c =
    let word = c.args.word in
    let number = c.get-number.ensures.value in
    let first = octal_digits 8 (word / 4096) in
    let front : c.copy_from_slice.new.self ≡ first
    = c.copy_from_slice.ensures.after ∙ c.octal8.ensures
    ∙ ap (λ (n : ℕ). octal_digits 8 (n / 4096)) number in
    let back : c.copy_from_slice-2.new.self ≡ octal_digits 4 (word % 4096)
    = c.copy_from_slice-2.ensures.after ∙ c.octal4.ensures
    ∙ ap (λ (n : ℕ). octal_digits 4 (n % 4096)) number in
    let room : List ℕ = 0 ∷ 0 ∷ 0 ∷ 0 ∷ [] in
    ap (λ (text : List ℕ). put_mid 8 4 (text ++ room) c.copy_from_slice-2.new.self) front
    ∙ ap (put_mid 8 4 (first ++ room)) back ∙ octal12_parts word

pub returns-clause-number : goal.returns-clause-number
returns-clause-number c =
    ap (digits_value 8) (returns-clause-value c) ∙ octal12_value c.args.word (omega arith)
