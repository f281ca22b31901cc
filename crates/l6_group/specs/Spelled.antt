-- Characters, wherever they are kept.
use Rattle.std.specs.Prelude.{ℕ, List}
use Rattle.l6_group.specs.declared.spelling.Characters.{Characters}
use Rattle.l6_group.specs.declared.spelling.Characters.TheVariants.{Borrowed, Copied}

-- the characters that are on a card, or in a copy
abbrev pub characters_of : {room : ℕ} → Characters room → List ℕ
characters_of (Borrowed characters) = characters.now
characters_of (Copied characters) = characters.items
