-- The level that is found of a block.
use Rattle.std.proofs.Common.{◌≡◌, ℕ, ◌^◌, List, length, Option, Some, sym, ap, ◌∙◌}
use Rattle.std.specs.Option.{option_map}
use Rattle.std.specs.FinMap as map
use Rattle.l6_store.specs.Blocks.{Blocks, IsLive, block_at}
use Rattle.l6_store.proofs.Live.{live_size}

-- what is said of a block's level is that of its size
pub known_size : (blocks : Blocks) (place level : ℕ) (determined : Option ℕ) → IsLive blocks place
    → determined ≡ Some level
    → option_map (λ (k : ℕ). 2 ^ k) determined
    ≡ option_map (λ (words : List ℕ). length words) (map.get blocks place)
    → length (block_at blocks place) ≡ 2 ^ level
known_size blocks place level determined live is size =
    live_size blocks place level live
    (ap (option_map (λ (k : ℕ). 2 ^ k)) (sym is) ∙ size)
