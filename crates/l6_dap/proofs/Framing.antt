-- Frames, one after another.
use Rattle.std.proofs.Common.{◌≡◌, ◌<◌, ℕ, suc, ◌+◌, List, [], ◌∷◌, ◌++◌, Option, length, take, subst, sym, ap, ◌∙◌, arith}
use Rattle.std.proofs.Math.ListN.{get_or}
use Rattle.std.proofs.Math.Seq.{take-suc}
use Rattle.std.proofs.lemmas.List.{length-take-le}
use Rattle.serde_json.specs.Data.{Data}
use Rattle.l6_group.specs.declared.label.Label.{Label}
use Rattle.l6_steps.specs.declared.position.Position.{Position}
use Rattle.l6_steps.specs.State.{State}
use Rattle.l6_dap.specs.Frames.{AreFrames, IsFrame, IsPart, IsStack, first_in, most_in, positions_of}

pub frame_more : (labels : List (Label × ℕ)) (first : ℕ) (positions : List Position) (frames : List Data)
    (number : ℕ) (at : Position) (frame : Data) → AreFrames labels first positions frames →
    number ≡ first + length positions → IsFrame labels number at frame →
    AreFrames labels first (positions ++ at ∷ []) (frames ++ frame ∷ [])
frame_more labels first [] [] number at frame are same is =
    let last : number ≡ first = omega (arith, same) in
    (subst (λ n. IsFrame labels n at frame) last is, tt)
frame_more labels first [] (other ∷ others) number at frame are same is = absurd are
frame_more labels first (one ∷ positions) [] number at frame are same is = absurd are
frame_more labels first (one ∷ positions) (other ∷ frames) number at frame are same is =
    (are.0, frame_more labels (suc first) positions frames number at frame are.1 (omega (arith, same)) is)

-- the frames of the positions up to one, and then its own
pub frame_next : (labels : List (Label × ℕ)) (first : ℕ) (positions : List Position) (frames next : List Data)
    (i number : ℕ) (other : Position) (frame : Data) → i < length positions →
    AreFrames labels first (take i positions) frames → number ≡ first + i →
    IsFrame labels number (get_or positions i other) frame → next ≡ frames ++ frame ∷ [] →
    AreFrames labels first (take (i + 1) positions) next
frame_next labels first positions frames next i number other frame within are same is added =
    let at = get_or positions i other in
    let long : length (take i positions) ≡ i = length-take-le i positions (omega (arith, within)) in
    let after : i + 1 ≡ suc i = omega arith in
    let longer : take (i + 1) positions ≡ take i positions ++ at ∷ [] =
    ap (λ n. take n positions) after ∙ take-suc positions i other within in
    let more = frame_more labels first (take i positions) frames number at frame are (omega (arith, same, long)) is in
    subst (λ (it : List Data). AreFrames labels first (take (i + 1) positions) it) (sym added)
    (subst (λ (it : List Position). AreFrames labels first it (frames ++ frame ∷ [])) (sym longer) more)

-- the part of the positions of a state that is asked for is its stack
pub stack_from : (labels : List (Label × ℕ)) (state : State) (arguments : Option Data) (positions : List Position)
    (first : ℕ) (most : Option ℕ) (body : Data) → positions ≡ positions_of state → first ≡ first_in arguments →
    most ≡ most_in arguments → IsPart labels positions first most body → IsStack labels state arguments body
stack_from labels state arguments positions first most body are from as_many is =
    subst (λ (it : Option ℕ). IsPart labels (positions_of state) (first_in arguments) it body) as_many
    (subst (λ (it : ℕ). IsPart labels (positions_of state) it most body) from
    (subst (λ (it : List Position). IsPart labels it first most body) are is))
