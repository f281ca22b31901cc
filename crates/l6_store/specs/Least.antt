-- The least number that passes a test.
use Rattle.std.specs.Prelude.{ℕ, zero, suc, Bool, Option, Some, None, if◌then◌else◌}

-- the first of two answers that is one
abbrev pub or_else : Option ℕ → Option ℕ → Option ℕ
or_else (Some number) other = Some number
or_else None other = other

-- the least number below a bound that passes a test, if there is one
unfoldable pub least : ℕ → (ℕ → Bool) → Option ℕ
least zero test = None
least (suc bound) test = or_else (least bound test) (if test bound then Some bound else None)
