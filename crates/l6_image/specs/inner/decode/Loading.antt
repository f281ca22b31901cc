-- Programs, read from words.
use Rattle.std.specs.Prelude.{ℕ, nat_lt, List, length, Option, Some, None, Result, Ok, Err, if◌then◌else◌}
use Rattle.l6_prog.specs.Statement.{Parts}
use Rattle.l6_prog.specs.Program.{program_of}
use Rattle.l6_prog.specs.declared.program.ProgFault.{ProgFault}
use Rattle.l6_image.specs.Version.{most_in}
use Rattle.l6_image.specs.declared.version.Version.{Version}
use Rattle.l6_image.specs.inner.decode.Fields.{version_of}
use Rattle.l6_image.specs.inner.decode.Reading.{◌>>=◌, first_of}
use Rattle.l6_image.specs.inner.decode.Statements.{statements_of}

-- what was made, if it was
abbrev pub if_made : {A : Type 0} → Result A ProgFault → Option A
if_made (Ok made) = Some made
if_made (Err fault) = None

-- the version and the program of an image's words
unfoldable pub program_in : List ℕ → Option (Version × List Parts)
program_in words = do
  first ← first_of words
  version ← version_of first.0
  statements ← statements_of version first.1
  program ← if_made (program_of statements)
  if nat_lt (most_in version) (length program) then None else Some (version, program)
