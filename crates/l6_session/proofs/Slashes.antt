-- What is before the first slash of a word.
use Rattle.std.proofs.Common.{◌≡◌, ℕ, ◌+◌, ◌<◌, ◌≤◌, ◌++◌, true, false, List, [], ◌∷◌, if◌then◌else◌, drop, get_or, length, take, sym, ap, ◌∙◌, append_assoc}
use Rattle.std.specs.Prelude.{◌==◌}
use Rattle.std.specs.Str.{byte}
use Rattle.std.proofs.lemmas.List.{append-nil, drop_all, drop_more, take_all, take_more}
use Rattle.l6_session.specs.Reading.{before_slash}

-- the characters so far are before it, with those that are left up to it
abbrev pub Before : List ℕ → ℕ → Type 0
Before word index = before_slash word ≡ take index word ++ before_slash (drop index word)

begins : (word : List ℕ) (index first : ℕ) → index < length word → first ≡ get_or word index first →
    before_slash (drop index word)
    ≡ (if first == byte "/" then [] else first ∷ before_slash (drop (index + 1) word))
begins word index first within is =
    ap before_slash (drop_more word index first within)
    ∙ ap (λ f. if f == byte "/" then [] else f ∷ before_slash (drop (index + 1) word)) (sym is)

pub slash_here : (word : List ℕ) (index first : ℕ) → index < length word →
    first ≡ get_or word index first → (first == byte "/") ≡ true → Before word index →
    take index word ≡ before_slash word
slash_here word index first within is here before =
    sym (before
    ∙ ap (λ rest. take index word ++ rest) (begins word index first within is
    ∙ ap (λ b. if b then [] else first ∷ before_slash (drop (index + 1) word)) here)
    ∙ append-nil (take index word))

pub slash_later : (word : List ℕ) (index first : ℕ) → index < length word →
    first ≡ get_or word index first → (first == byte "/") ≡ false → Before word index →
    Before word (index + 1)
slash_later word index first within is later before =
    before
    ∙ ap (λ rest. take index word ++ rest) (begins word index first within is
    ∙ ap (λ b. if b then [] else first ∷ before_slash (drop (index + 1) word)) later)
    ∙ sym (append_assoc (take index word) (first ∷ []) (before_slash (drop (index + 1) word)))
    ∙ ap (λ front. front ++ before_slash (drop (index + 1) word))
    (ap (λ f. take index word ++ f ∷ []) is ∙ sym (take_more word index first within))

pub slash_none : (word : List ℕ) (index : ℕ) → length word ≤ index → Before word index →
    word ≡ before_slash word
slash_none word index past before =
    sym (before ∙ ap (λ rest. take index word ++ before_slash rest) (drop_all index word past)
    ∙ append-nil (take index word) ∙ take_all index word past)
