-- What may be refused, one part after another.
use Rattle.std.specs.Prelude.{Result, Ok, Err}

-- the first part, and then the second on what the first gave; the first refusal is the answer
infixl 10 ◌>>=◌
abbrev pub ◌>>=◌ : {A B E : Type 0} → Result A E → (A → Result B E) → Result B E
(Ok x) >>= f = f x
(Err refusal) >>= f = Err refusal
