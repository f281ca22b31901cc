-- What is counted of a trace beside its answers.
use Rattle.std.specs.Prelude.{◌≡◌, ℕ, ◌+◌, ◌-◌, ◌^◌, min, nat_lt, nat_le, if◌then◌else◌, List, replicate, slice_index, slice_set, Option, Some, None}
use Rattle.l6_trace.specs.Tracing.{IsLevelFor}
use Rattle.l6_trace.specs.declared.call.Answer.{Answer}
use Rattle.l6_trace.specs.declared.call.Answer.TheVariants.{Given, Refused, Freed, Shown}
use Rattle.l6_trace.specs.declared.call.Call.{Call}
use Rattle.l6_trace.specs.declared.call.Call.TheVariants as calls

-- the words that each name asked for last, those of the store, those in blocks and of these those that were asked for, and
-- the gets that were refused, and of these those for which there were enough free words
pub record Tallied : Type 0 where
  pub asked : List ℕ
  pub all : ℕ
  pub given : ℕ
  pub wanted : ℕ
  pub refused : ℕ
  pub fragmented : ℕ

-- nothing is counted yet, of a store of so many words and a trace of so many names
abbrev pub none_counted : ℕ → ℕ → Tallied
none_counted all names = record {
  asked = replicate names 0;
  all = all;
  given = 0;
  wanted = 0;
  refused = 0;
  fragmented = 0;
}

-- counts stop at the greatest number of 32 bits
abbrev pub added : ℕ → ℕ → ℕ
added count more = min (count + more) 4294967295

-- how many words a block of a level has; 0 for levels whose blocks no count has room for
abbrev pub words_of : ℕ → ℕ
words_of level = if nat_lt level 32 then 2 ^ level else 0

abbrev pub words_freed : Option ℕ → ℕ
words_freed None = 0
words_freed (Some level) = words_of level

-- after a get that was given a block, and after a free
abbrev pub given_block : Tallied → ℕ → ℕ → ℕ → Tallied
given_block old block words level = record old {
  given = added old.given (words_of level);
  wanted = added old.wanted words;
  asked = slice_set old.asked block words;
}

abbrev pub freed_block : Tallied → ℕ → Option ℕ → Tallied
freed_block old block level = record old {
  wanted = old.wanted - slice_index old.asked block;
  given = old.given - words_freed level;
}

-- after a get of a level, or of more than any block has, that was refused: it is because of fragmentation if there were
-- enough free words
abbrev pub refused_get : Tallied → Option ℕ → Tallied
refused_get old None = record old { refused = added old.refused 1 }
refused_get old (Some level) = record old {
  refused = added old.refused 1;
  fragmented = if nat_le (words_of level) (old.all - old.given) then added old.fragmented 1 else old.fragmented;
}

-- what a get and a free count, by the answer
abbrev pub IsGetCounted : Tallied → ℕ → ℕ → Answer → Tallied → Type 0
IsGetCounted old block words (Given place level halved) new = new ≡ given_block old block words level
IsGetCounted old block words Refused new =
    (level : Option ℕ) × IsLevelFor words level × (new ≡ refused_get old level)
IsGetCounted old block words (Freed joined) new = new ≡ old
IsGetCounted old block words Shown new = new ≡ old

abbrev pub IsFreeCounted : Tallied → ℕ → Answer → Option ℕ → Tallied → Type 0
IsFreeCounted old block (Freed joined) level new = new ≡ freed_block old block level
IsFreeCounted old block (Given place got halved) level new = new ≡ old
IsFreeCounted old block Refused level new = new ≡ old
IsFreeCounted old block Shown level new = new ≡ old

-- what an answer to a call counts; a block that it freed had this level
abbrev pub IsCounted : Tallied → Call → Answer → Option ℕ → Tallied → Type 0
IsCounted old (calls.Get block words) answer level new = IsGetCounted old block words answer new
IsCounted old (calls.Free block) answer level new = IsFreeCounted old block answer level new
IsCounted old calls.Lists answer level new = new ≡ old
IsCounted old calls.Map answer level new = new ≡ old
IsCounted old calls.Stats answer level new = new ≡ old
