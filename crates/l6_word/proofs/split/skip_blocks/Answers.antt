use Rattle.std.proofs.Common.{◌≡◌, ◌++◌, ◌∙◌, List, ℕ, true, sym, ap, drop, rules}
use Rattle.std.specs.Str.{byte}
use Rattle.std.proofs.lemmas.List.{take-append-drop}
use Rattle.l6_word.specs.Split.{lacks}
use Rattle.l6_word.proofs.Cuts.{skip_block}
use Rattle.l6_word.proofs.split.skip_blocks.Goals as goal

pub loop-rest-preserved : goal.loop-rest-preserved
loop-rest-preserved c =
    let before = c.loop-rest.invariant in
    let rest = c.loop-rest.rest.now in
    let block = c.split_at.result.0.now in
    let following = c.split_at.result.1.now in
    let parts : rest ≡ block ++ following
    = sym (take-append-drop 16 rest)
    ∙ ap (λ (b : List ℕ). b ++ drop 16 rest) (sym c.split_at.ensures.front)
    ∙ ap (λ (f : List ℕ). block ++ f) (sym c.split_at.ensures.back) in
    let lacking : lacks (byte "\n") block ≡ true = search rules in
    skip_block (byte "\n") c.args.text.now before.0 rest block following before.1 before.2 parts
    lacking
