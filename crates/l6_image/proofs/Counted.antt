-- So many of something, read one after another.
use Rattle.std.proofs.Common.{◌≡◌, ℕ, ◌+◌, ◌-◌, ◌<◌, ◌≤◌, suc, List, [], ◌∷◌, ◌++◌, Option, Some, None, refl, ap, sym, ◌∙◌, arith, append_assoc, append-nil}
use Rattle.l6_image.specs.declared.fault.ReadFault.{ReadFault}
use Rattle.l6_image.specs.declared.fault.ReadFault.TheVariants.{NotAnImage, NoMemory}
use Rattle.l6_image.specs.inner.decode.Reading.{◌>>=◌}
use Rattle.l6_image.specs.inner.decode.Statements.{many, with_front}
use Rattle.l6_image.specs.inner.decode.Seen.{Fails}

-- one more in front of others
with_front_more : {A : Type 0} (front : List A) (x : A) (others : Option (List A × List ℕ)) →
    with_front front (others >>= (λ found. Some (x ∷ found.0, found.1)))
    ≡ with_front (front ++ x ∷ []) others
with_front_more front x None = refl
with_front_more front x (Some found) =
    ap (λ xs. Some (xs, found.1)) (sym (append_assoc front (x ∷ []) found.0))

module _ {A : Type 0} (at : List ℕ → Option (A × List ℕ)) (front : List A) (count counter : ℕ)
    (rest : List ℕ) where
  -- how many are left, one of which is next
  left : counter < count → count - counter ≡ suc (count - (counter + 1))
  left more = omega arith

  -- one more was read
  pub goes_on : (x : A) (following words : List ℕ) → counter < count → at rest ≡ Some (x, following) →
      with_front front (many at (count - counter) rest) ≡ many at count words →
      with_front (front ++ x ∷ []) (many at (count - (counter + 1)) following) ≡ many at count words
  goes_on x following words more read so_far =
      sym (with_front_more front x (many at (count - (counter + 1)) following))
      ∙ sym (ap (λ n. with_front front (many at n rest)) (left more)
      ∙ ap (λ found. with_front front (found >>= (λ first.
      many at (count - (counter + 1)) first.1 >>= (λ others. Some (first.0 ∷ others.0, others.1)))))
      read)
      ∙ so_far

  -- none could be read
  pub stops : (words : List ℕ) → counter < count → at rest ≡ None →
      with_front front (many at (count - counter) rest) ≡ many at count words →
      many at count words ≡ None
  stops words more none so_far =
      sym so_far ∙ ap (λ n. with_front front (many at n rest)) (left more)
      ∙ ap (λ found. with_front front (found >>= (λ first.
      many at (count - (counter + 1)) first.1 >>= (λ others. Some (first.0 ∷ others.0, others.1)))))
      none

  -- a fault stops it
  pub fails : (words : List ℕ) (fault : ReadFault) → counter < count → Fails fault (at rest) →
      with_front front (many at (count - counter) rest) ≡ many at count words →
      Fails fault (many at count words)
  fails words NotAnImage more none so_far = stops words more none so_far
  fails words NoMemory more _ so_far = tt

  -- none is left to be read
  pub ends : (words : List ℕ) → count ≤ counter →
      with_front front (many at (count - counter) rest) ≡ many at count words →
      many at count words ≡ Some (front, rest)
  ends words past so_far =
      let none : count - counter ≡ 0 = omega arith in
      sym so_far ∙ ap (λ n. with_front front (many at n rest)) none
      ∙ ap (λ xs. Some (xs, rest)) (append-nil front)
