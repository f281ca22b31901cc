use Rattle.std.proofs.Common.{◌≡◌, ℕ, ◌+◌, ◌-◌, ◌<◌, true, List, [], length, Option, Some, None, unwrap_or, slice_get, slice_set, refl, ap, ◌∙◌, arith, inl, inr}
use Rattle.std.specs.FinMap as map
use Rattle.std.specs.Option.{is_some}
use Rattle.std.proofs.lemmas.Bool.{cases_lt}
use Rattle.std.proofs.lemmas.Option.{slice_get_past}
use Rattle.l6_store.specs.Blocks.{LiesIn, block_at, index_in}
use Rattle.l6_store.specs.Store.{Store, with_block}
use Rattle.l6_store_c.proofs.calls.write.Goals as goal

-- a block that has a word has one of that index
within : (words : List ℕ) (index : ℕ) (word : Option ℕ) → word ≡ slice_get words index
    → is_some word ≡ true → index < length words
within words index word is some =
    elim (cases_lt index (length words)) as (λ _. index < length words) [
      | inl below ↦ below
      | inr past ↦
          (let none : word ≡ None = is ∙ slice_get_past words index past in
          let both = ap is_some none in cc)
    ]

-- so the place of the word lies in the block, at that index
written_in : (old new : Store) (place index word : ℕ) (block : Option (List ℕ))
    → map.get old.blocks place ≡ block → index < length (unwrap_or block [])
    → ((found : LiesIn old.blocks (place + index)) → new
    ≡ with_block old found.start (slice_set found.words (index_in (place + index) found) word))
    → new ≡ with_block old place (slice_set (unwrap_or block []) index word)
written_in old new place index word None is below after = absurd (omega (arith, below))
written_in old new place index word (Some words) is below after =
    let back : place + index - place ≡ index = omega arith in
    after (record {
      start = place;
      words = words;
      is = is;
      from = omega arith;
      below = omega (arith, below);
    })
    ∙ ap (λ (i : ℕ). with_block old place (slice_set words i word)) back

written : (old new : Store) (place index word : ℕ)
    → index < length (block_at old.blocks place)
    → ((found : LiesIn old.blocks (place + index)) → new
    ≡ with_block old found.start (slice_set found.words (index_in (place + index) found) word))
    → new ≡ with_block old place (slice_set (block_at old.blocks place) index word)
written old new place index word =
    written_in old new place index word (map.get old.blocks place) refl

pub returns-clause-after : goal.returns-clause-after
returns-clause-after c =
    written c.args.store.now.store c.write.new.self.store c.args.place c.args.index c.args.value
    (within (block_at c.args.store.now.store.blocks c.args.place) c.args.index c.word.result
    (c.word.ensures.value
    ∙ ap (λ (start : ℕ). slice_get (block_at c.args.store.now.store.blocks start) c.args.index)
    c.from-3.ensures)
    c.if-is_none-2.ensures)
    (λ found. c.write.ensures.after found
    ∙ ap (λ (word : ℕ). with_block c.args.store.now.store found.start
    (slice_set found.words (index_in (c.args.place + c.args.index) found) word))
    c.in-Some.ensures.value)
