-- The words of a block, listed from an index on.
use Rattle.std.proofs.Common.{◌≡◌, ℕ, ◌+◌, List, [], ◌∷◌, ◌++◌, codes, decimal, drop, Some, None, sym, ap, ◌∙◌, append_assoc, append-nil}
use Rattle.std.specs.Prelude.{slice_get}
use Rattle.l6_word.specs.Octal.{octal12}
use Rattle.l6_dap.specs.Variables.{Variable, text_named, words_from}
use Rattle.l6_dap.proofs.Dropped.{dropped_next, dropped_none}

pub words_next : (list added : List Variable) (index : ℕ) (block : List ℕ) (content : ℕ) →
    slice_get block index ≡ Some content →
    added ≡ list ++ text_named (codes "word " ++ decimal index) (octal12 content) ∷ [] →
    added ++ words_from (index + 1) (drop (index + 1) block) ≡ list ++ words_from index (drop index block)
words_next list added index block content is more =
    ap (λ (it : List Variable). it ++ words_from (index + 1) (drop (index + 1) block)) more
    ∙ append_assoc list (text_named (codes "word " ++ decimal index) (octal12 content) ∷ [])
    (words_from (index + 1) (drop (index + 1) block))
    ∙ ap (λ (it : List ℕ). list ++ words_from index it) (sym (dropped_next block index content is))

pub words_end : (list whole : List Variable) (index : ℕ) (block : List ℕ) → slice_get block index ≡ None →
    list ++ words_from index (drop index block) ≡ whole → list ≡ whole
words_end list whole index block is all =
    sym (append-nil list) ∙ ap (λ (it : List ℕ). list ++ words_from index it) (sym (dropped_none block index is)) ∙ all
