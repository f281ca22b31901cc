-- Texts that are printed.
use Rattle.std.specs.Prelude.{ℕ, List, length, Bool, false, not, ◌&&◌, ◌||◌, ◌==◌, nat_lt, nat_le, Option, Some, None}
use Rattle.std.specs.List.{list_all}
use Rattle.std.specs.Str.{byte}
use Rattle.l6_word.specs.Code.{code_of}
use Rattle.l6_word.specs.Numerals.{code_count}
use Rattle.l6_prog.specs.Numerals.{most_characters}

-- there is a code, and it is this one
abbrev pub is_code : ℕ → Option ℕ → Bool
is_code _ None = false
is_code code (Some given) = code == given

-- the code is that of a comma or a parenthesis: no card could spell these in a text
abbrev pub is_barred : ℕ → Bool
is_barred code =
    is_code code (code_of (byte ",")) || is_code code (code_of (byte "("))
    || is_code code (code_of (byte ")"))

-- a text may have this code
abbrev pub may_print : ℕ → Bool
may_print code = nat_lt code code_count && not (is_barred code)

-- at least one code and not too many, each of which a text may have
abbrev pub is_print_text : List ℕ → Bool
is_print_text codes =
    nat_lt 0 (length codes) && nat_le (length codes) most_characters && list_all may_print codes
