-- Frames: messages with their length in front. A frame is the lines of its head, an empty line, and its body.
use Rattle.std.specs.Prelude.{◌≡◌, ◌≤◌, ◌<◌, ◌&&◌, ◌||◌, ◌==◌, ℕ, ◌+◌, ◌-◌, ◌*◌, ◌⊎◌, ⊤, Bool, true, false, nat_le, nat_lt, List, [], ◌∷◌, ◌++◌, length, map, codes, decimal, Option, Some, None, if◌then◌else◌}
use Rattle.std.specs.List.{flat_map, list_all}
use Rattle.std.specs.Str.{byte}
use Rattle.std.specs.Char.{to_ascii_lowercase, is_ascii_digit}
use Rattle.l6_word.specs.Split.{lacks}
use Rattle.l6_word.specs.Lines.{without_return}
use Rattle.l6_frame.specs.Numerals.{most_body, most_head}

-- ---- the fields of a head: a name, a colon and a value

-- what stands in front of the first colon of a line
abbrev pub name_of : List ℕ → List ℕ
name_of [] = []
name_of (first ∷ rest) = if first == byte ":" then [] else first ∷ name_of rest

-- bytes without the blanks that they begin with
abbrev pub after_blanks : List ℕ → List ℕ
after_blanks [] = []
after_blanks (first ∷ rest) =
    if first == byte " " || first == byte "\t" then after_blanks rest else first ∷ rest

-- what stands after the first colon of a line, and after the blanks there
abbrev pub value_of : List ℕ → List ℕ
value_of [] = []
value_of (first ∷ rest) = if first == byte ":" then after_blanks rest else value_of rest

-- the number that digits write in decimal after those of another number
abbrev pub number_after : ℕ → List ℕ → ℕ
number_after number [] = number
number_after number (digit ∷ digits) = number_after (number * 10 + (digit - byte "0")) digits

-- the length that digits write, if it is one that a body may have
abbrev pub length_of : List ℕ → Option ℕ
length_of digits =
    if list_all is_ascii_digit digits && nat_lt 0 (length digits)
    && nat_le (number_after 0 digits) most_body
    then Some (number_after 0 digits) else None

-- a line, without its carriage return, is a field of this name, in letters of either case
abbrev pub IsNamed : List ℕ → List ℕ → Type 0
IsNamed line name = (lacks (byte ":") line ≡ false)
    × (map to_ascii_lowercase (name_of line) ≡ map to_ascii_lowercase name)

-- a line is the field that gives the length of the body
abbrev pub GivesLength : List ℕ → ℕ → Type 0
GivesLength line size = IsNamed (without_return line) (codes "Content-Length")
    × (length_of (value_of (without_return line)) ≡ Some size)

-- a line is another field
abbrev pub IsOther : List ℕ → Type 0
IsOther line = (lacks (byte ":") (without_return line) ≡ false)
    × ¬ (IsNamed (without_return line) (codes "Content-Length"))

-- ---- heads and frames

-- lines that are fields, none of which gives the length
abbrev pub GiveNone : List (List ℕ) → Type 0
GiveNone [] = ⊤
GiveNone (line ∷ lines) = IsOther line × GiveNone lines

-- lines that are fields, of which one gives this length, and the others none
abbrev pub GiveOne : ℕ → List (List ℕ) → Type 0
GiveOne size [] = ⊥
GiveOne size (line ∷ lines) =
    (IsOther line × GiveOne size lines) ⊎ (GivesLength line size × GiveNone lines)

-- lines, each with a line feed at its end
abbrev pub ended : List (List ℕ) → List ℕ
ended [] = []
ended (line ∷ lines) = line ++ byte "\n" ∷ ended lines

-- lines without a line feed in them
abbrev pub AreLines : List (List ℕ) → Type 0
AreLines [] = ⊤
AreLines (line ∷ lines) = (lacks (byte "\n") line ≡ true) × AreLines lines

-- bytes begin with a frame that has this body, and these bytes follow it
pub record BeginsWith (bytes body rest : List ℕ) : Type 0 where
  pub head : List (List ℕ)
  pub last : List ℕ
  pub whole : bytes ≡ ended head ++ (last ++ byte "\n" ∷ (body ++ rest))
  pub lines : AreLines head
  pub line : lacks (byte "\n") last ≡ true
  pub empty : without_return last ≡ []
  pub given : GiveOne (length body) head
  pub short : length (ended head ++ last) < most_head

-- what is sent in front of a body
abbrev pub head_of : List ℕ → List ℕ
head_of body = codes "Content-Length: " ++ decimal (length body) ++ codes "\r\n\r\n"

-- the frame in which a body is sent
abbrev pub frame_of : List ℕ → List ℕ
frame_of body = head_of body ++ body
