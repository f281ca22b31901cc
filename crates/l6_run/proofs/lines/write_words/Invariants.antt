use Rattle.std.proofs.Common.{◌≡◌, ◌*◌, ◌≤◌, false, true, [], ◌∷◌, length}
use Rattle.std.specs.Vec.{vec_capacity}
use Rattle.std.specs.List.{list_all}
use Rattle.l6_word.specs.Word.{is_word}
use Rattle.l6_image.specs.Text.{text_of_words}
use Rattle.l6_device.specs.Patience.{Retries, device_use}
use Rattle.l6_run.proofs.WordLines.{WrittenTo}
use Rattle.l6_run.proofs.lines.write_words.Given as goal

-- the lines before the rest have gone out, and the writer was interrupted as often as was retried
abbrev pub invariant-loop-rest : goal.invariant-loop-rest
invariant-loop-rest g l = record {
  known : list_all is_word l.rest ≡ true;
  room : 1024 * 13 ≤ vec_capacity l.lines;
  written : WrittenTo (text_of_words l.words) (text_of_words l.rest) l.before
      (g.W.Sink.taken l.initial.writer) (g.W.Sink.taken l.writer);
  retried : Retries
      (device_use (g.W.Sink.health l.initial.writer) (g.W.Sink.health l.writer) false ∷ [])
      l.initial.patience l.patience;
}

abbrev pub decreases-loop-rest : goal.decreases-loop-rest
decreases-loop-rest g l = length l.rest
