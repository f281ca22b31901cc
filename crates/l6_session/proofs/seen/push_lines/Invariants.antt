use Rattle.std.proofs.Common.{◌≡◌, ◌+◌, ◌++◌, ◌≤◌, length}
use Rattle.l6_prog.specs.Numerals.{name_count}
use Rattle.l6_session.specs.Changes.{bug_lines, field_lines, limited, lines_text}
use Rattle.l6_session.proofs.seen.push_lines.Given as goal

-- the text so far, with the lines of the bugs that are left and of the fields, is that of all
abbrev pub invariant-loop-was : goal.invariant-loop-was
invariant-loop-was l = record {
  text : l.text.items
      ++ limited l.count (bug_lines l.name l.befores l.nows
      ++ field_lines 0 l.definitions l.definitions_now)
      ≡ l.fn.text.items ++ lines_text l.fn.bugs l.fn.bugs_now l.definitions l.definitions_now;
  names : l.name + length l.befores ≡ name_count;
  few : l.count ≤ l.name;
}

abbrev pub decreases-loop-was : goal.decreases-loop-was
decreases-loop-was l = length l.befores

-- and with those of the fields that are left
abbrev pub invariant-loop-had : goal.invariant-loop-had
invariant-loop-had l = record {
  text : l.text.items ++ limited l.count (field_lines l.field l.befores l.nows)
      ≡ l.fn.text.items
      ++ lines_text l.fn.bugs l.fn.bugs_now l.fn.definitions l.fn.definitions_now;
  names : l.field + length l.befores ≡ name_count;
  few : l.count ≤ l.field + name_count;
}

abbrev pub decreases-loop-had : goal.decreases-loop-had
decreases-loop-had l = length l.befores
