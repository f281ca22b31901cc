-- Words that a sign parts in two.
use Rattle.std.specs.Prelude.{ℕ, ◌+◌, ◌-◌, ◌==◌, List, [], ◌∷◌, length, take, Option, Some, None, if◌then◌else◌}
use Rattle.std.specs.Option.{option_map}

-- what is after the first sign of this kind
abbrev pub after_sign : ℕ → List ℕ → Option (List ℕ)
after_sign sign [] = None
after_sign sign (first ∷ rest) = if first == sign then Some rest else after_sign sign rest

-- what is before it, and what is after it
abbrev pub parted : ℕ → List ℕ → Option (List ℕ × List ℕ)
parted sign word =
    option_map (λ after. (take (length word - (length after + 1)) word, after)) (after_sign sign word)
