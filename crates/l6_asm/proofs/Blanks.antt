-- Blanks at the end of a line.
use Rattle.std.proofs.Common.{◌≡◌, ℕ, List, [], ◌∷◌, ◌++◌, ◌+◌, ◌==◌, length, take, drop, Bool, true, false, if◌then◌else◌, refl, ap, sym, ◌∙◌}
use Rattle.std.specs.List.{list_all}
use Rattle.std.specs.Str.{byte}
use Rattle.std.proofs.Math.Bool.{and-true, and-false}
use Rattle.std.proofs.Math.Seq.{take-append-add}
use Rattle.std.proofs.lemmas.List.{take-append-drop}
use Rattle.std.proofs.lemmas.List.Folds.{list_all-append}
use Rattle.l6_asm.specs.Listing.{is_blank, without_last_blanks}

-- one blank more at the end changes nothing
all_blank : (xs : List ℕ) → list_all is_blank (xs ++ byte " " ∷ []) ≡ list_all is_blank xs
all_blank xs = list_all-append is_blank xs (byte " " ∷ []) ∙ and-true (list_all is_blank xs)

pub last_blank : (line rest : List ℕ) → line ≡ rest ++ byte " " ∷ [] →
    without_last_blanks rest ≡ without_last_blanks line
last_blank line [] is = rw is refl
last_blank line (x ∷ rest) is =
    rw (is, all_blank (x ∷ rest), last_blank (rest ++ byte " " ∷ []) rest refl) refl

-- what ends in another byte has no blanks at its end
not_all : (xs : List ℕ) (last : ℕ) → (last == byte " ") ≡ false →
    list_all is_blank (xs ++ last ∷ []) ≡ false
not_all xs last other =
    list_all-append is_blank xs (last ∷ []) ∙ rw other (and-false (list_all is_blank xs))

last_other : (rest : List ℕ) (last : ℕ) → (last == byte " ") ≡ false →
    without_last_blanks (rest ++ last ∷ []) ≡ rest ++ last ∷ []
last_other [] last other = rw other refl
last_other (x ∷ rest) last other =
    rw (not_all (x ∷ rest) last other, last_other rest last other) refl

pub ends_in : (line rest : List ℕ) (last : ℕ) → line ≡ rest ++ last ∷ [] →
    (last == byte " ") ≡ false → line ≡ without_last_blanks line
ends_in line rest last is other = rw is (sym (last_other rest last other))

-- what is left of a line without the blanks at its end is its front
front_kept : (all : Bool) (x : ℕ) (xs kept : List ℕ) → take (length kept) xs ≡ kept →
    take (length (if all then [] else x ∷ kept)) (x ∷ xs) ≡ (if all then [] else x ∷ kept)
front_kept true x xs kept is = refl
front_kept false x xs kept is = ap (λ front. x ∷ front) is

kept_front : (line : List ℕ) →
    take (length (without_last_blanks line)) line ≡ without_last_blanks line
kept_front [] = refl
kept_front (x ∷ xs) =
    front_kept (list_all is_blank (x ∷ xs)) x xs (without_last_blanks xs) (kept_front xs)

-- a text that is cut after the kept front of its last line
pub cut_following : (text front line kept cut : List ℕ) (start : ℕ) → front ≡ take start text →
    line ≡ drop start text → kept ≡ without_last_blanks line →
    cut ≡ take (length front + length kept) text → cut ≡ front ++ kept
cut_following text front line kept cut start first second is same =
    let whole : text ≡ front ++ line =
    sym (take-append-drop start text) ∙ rw (first, second) refl in
    same ∙ ap (take (length front + length kept)) whole ∙ take-append-add front line (length kept)
    ∙ ap (λ k. front ++ k) (ap (λ k. take (length k) line) is ∙ kept_front line ∙ sym is)
