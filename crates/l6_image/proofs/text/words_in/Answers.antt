use Rattle.std.proofs.Common.{◌≡◌, ◌+◌, ◌++◌, ◌∷◌, [], length, Some, ap, sym, ◌∙◌, arith, rules, length-append}
use Rattle.l6_image.specs.Text.{first_other, whole_lines}
use Rattle.l6_image.proofs.Lines.{first_other_more, first_other_stops, text_more, words_more}
use Rattle.l6_image.proofs.text.words_in.Goals as goal

pub returns-in_default-clause-fault : goal.returns-in_default-clause-fault
returns-in_default-clause-fault c =
    let now = c.loop-rest in
    let count : length now.words.items ≡ c.len.result = search rules in
    now.invariant.lines
    ∙ first_other_stops (length now.words.items + 1) now.rest.now (search rules)
    c.in_default.ensures.none
    ∙ ap (λ n. Some (n + 1)) count

pub loop-rest-preserved : goal.loop-rest-preserved
loop-rest-preserved c =
    let now = c.loop-rest in
    let word = c.in-Some.word in
    let following = c.in-Some.following.now in
    let found = c.in-Some.ensures in
    let pushed : c.push.new.self.items ≡ now.words.items ++ word ∷ [] = search rules in
    let count : length c.push.new.self.items ≡ length now.words.items + 1 =
    ap length pushed ∙ length-append now.words.items (word ∷ []) in
    record {
      words = text_more c.args.text.now now.rest.now following now.words.items c.push.new.self.items
          word now.invariant.words found.found pushed;
      known = words_more now.words.items c.push.new.self.items word now.invariant.known found.known
          pushed;
      lines = now.invariant.lines
          ∙ ap (λ text. first_other (length now.words.items + 1) (whole_lines text)) found.found
          ∙ first_other_more (length now.words.items + 1) word following found.known
          ∙ ap (λ n. first_other (n + 1) (whole_lines following)) (sym count);
      count = omega (arith, count, found.shorter, now.invariant.count);
    }
