-- Laws of shares: which ones are used, and that one is free while fewer OPENs wait than there are shares. Assumes nothing.
use mathlib.Core.Path.{◌≡◌, refl, ◌∙◌}
use mathlib.Core.Bool.{true, false, cond}
use mathlib.Core.List.{List, [], ◌∷◌}
use Prim.Native.Nat.{ℕ, zero, suc, ◌+◌, ◌-◌, ◌*◌, ◌≤◌, ◌<◌}
use native.Mathlib.Numerals.{add-one}
use native.Mathlib.Omega.{arith}
use borrow.Author.Tests.{ltb-true, ltb-false, eqb-true, eqb-false, eq-eqb, ne_eqb}
use lib.Dec.{eqb, ltb}
use lib.ListN.{length, take, drop, length-take}
use Rattle.le.proofs.Parts.{by-test}
use Rattle.rx_store.proofs.Laws.{share-before}
use Rattle.state.specs.declared.QueuedOpen.{QueuedOpen}
use Rattle.state.specs.State.{state_of, queued_at}
use Rattle.le.proofs.RowLaws.{walk-over, never}
use Rattle.state_whole.proofs.ValidLaws.{open-here}
use Rattle.incoming.specs.Incoming.{named, free_from, free_share}

-- ---- the walk over the entries

module _ (k : ℕ) (b : List ℕ) (n i : ℕ) where
  module _ (h : i < n) (m : n ≤ 64) where
    -- it stands at place i: it stops there, or goes on
    pub named-stop : (queued_at b i).share ≡ k → named k (drop i (take n (state_of b).queue)) ≡ true
    unfolding named
    named-stop e = rw (open-here b n i h m, eq-eqb (queued_at b i).share k e)

    pub named_step : ((queued_at b i).share ≡ k → ⊥) → named k (drop i (take n (state_of b).queue)) ≡ named k (drop (i + 1) (take n (state_of b).queue))
    unfolding named
    named_step e = rw (open-here b n i h m, ne_eqb (queued_at b i).share k e, add-one)

  -- it is at its end: none uses the share
  pub named_end : n ≤ i → named k (drop i (take n (state_of b).queue)) ≡ false
  unfolding named
  named_end h = rw (walk-over (state_of b).queue n i h)

-- ---- the walk over the shares

-- it starts at share 0
pub free-start : (n : ℕ) (qs : List QueuedOpen) → free_share n qs ≡ free_from 0 (n - 0) qs
unfolding free_share
free-start n qs = let e : n - 0 ≡ n = omega arith in rw e

module _ (k n : ℕ) (qs : List QueuedOpen) where
  -- it stands at share k: it goes on, or stops there
  pub free_step : k < n → named k qs ≡ true → free_from k (n - k) qs ≡ free_from (k + 1) (n - (k + 1)) qs
  unfolding free_from
  free_step h t = let e : n - k ≡ suc (n - (k + 1)) = omega arith in rw (e, t, add-one)

  pub free-stop : k < n → named k qs ≡ false → free_from k (n - k) qs ≡ k
  unfolding free_from
  free-stop h t = let e : n - k ≡ suc (n - (k + 1)) = omega arith in rw (e, t)

  -- it is at its end: none is free
  pub free-end : n ≤ k → free_from k (n - k) qs ≡ k
  unfolding free_from
  free-end h = let e : n - k ≡ 0 = omega arith in rw e

-- ---- one is free

-- none is found: all of them are used
all-used : (k n : ℕ) (qs : List QueuedOpen) → k + n ≤ free_from k n qs → (j : ℕ) → k ≤ j → j < k + n → named j qs ≡ true
unfolding free_from
all-used k zero qs h j a b = absurd (omega arith)
all-used k (suc n) qs h j a b =
    by-test (named k qs)
    (λ t.
    let g : k + suc n ≤ free_from (suc k) n qs = rw t at h in
    by-test (eqb k j)
    (λ u. let e : k ≡ j = eqb-true k j u in rw (← e) t)
    (λ u. let d = eqb-false k j u in
    by-test (ltb k j)
    (λ v. all-used (suc k) n qs (omega arith) j (omega (arith, ltb-true)) (omega arith))
    (λ v. absurd (d (omega (arith, ltb-false))))))
    (λ t. let g : k + suc n ≤ k = rw t at h in absurd (omega arith))

-- those that do not use share k
unfoldable others : ℕ → List QueuedOpen → List QueuedOpen
others k [] = []
others k (q ∷ qs) = cond (eqb q.share k) (others k qs) (q ∷ others k qs)

others-le : (k : ℕ) (qs : List QueuedOpen) → length (others k qs) ≤ length qs
unfolding others
others-le k [] = omega arith
others-le k (q ∷ qs) =
    let r = others-le k qs in
    by-test (eqb q.share k) (λ t. rw t (omega arith)) (λ t. rw t (omega arith))

-- fewer, where one uses it
others-fewer : (k : ℕ) (qs : List QueuedOpen) → named k qs ≡ true → length (others k qs) < length qs
unfolding others named
others-fewer k [] e = never e
others-fewer k (q ∷ qs) e =
    by-test (eqb q.share k)
    (λ t. let r = others-le k qs in rw t (omega arith))
    (λ t. let r = others-fewer k qs (rw t at e) in rw t (omega arith))

-- other shares are used as before
others-named : (k j : ℕ) (qs : List QueuedOpen) → j < k → named j (others k qs) ≡ named j qs
unfolding others named
others-named k j [] h = refl
others-named k j (q ∷ qs) h =
    let r = others-named k j qs h in
    by-test (eqb q.share k)
    (λ t. let e = eqb-true q.share k t in rw (t, r, ne_eqb q.share j (λ f. omega arith)))
    (λ t. rw (t, r))

-- n shares in use are used by n entries at least
used_le : (n : ℕ) (qs : List QueuedOpen) → ((j : ℕ) → j < n → named j qs ≡ true) → n ≤ length qs
used_le zero qs h = omega arith
used_le (suc n) qs h =
    let a = others-fewer n qs (h n (omega arith)) in
    let b = used_le n (others n qs) (λ j g. others-named n j qs g ∙ h j (omega arith)) in
    omega arith

-- while fewer than n wait, one of n shares is free
pub free-exists : (n : ℕ) (qs : List QueuedOpen) → length qs < n → free_share n qs < n
unfolding free_share
free-exists n qs h =
    by-test (ltb (free_from 0 n qs) n)
    (λ t. ltb-true (free_from 0 n qs) n t)
    (λ t.
    let g = ltb-false (free_from 0 n qs) n t in
    let z = used_le n qs (λ j l. all-used 0 n qs (omega arith) j (omega arith) (omega arith)) in
    absurd (omega arith))

free-from-unused : (k n : ℕ) (qs : List QueuedOpen) → free_from k n qs < k + n → named (free_from k n qs) qs ≡ false
unfolding free_from
free-from-unused k zero qs h = absurd (omega arith)
free-from-unused k (suc n) qs h =
    by-test (named k qs)
    (λ t. let g : free_from (suc k) n qs < k + suc n = rw t at h in rw t (free-from-unused (suc k) n qs (omega arith)))
    (λ t. rw t t)

-- a share that is found is used by none
pub free-unused : (n : ℕ) (qs : List QueuedOpen) → free_share n qs < n → named (free_share n qs) qs ≡ false
unfolding free_share
free-unused n qs h = free-from-unused 0 n qs (omega arith)

-- while fewer wait than there are channels, the next share is one of the channels'
pub next-below : (channels queued : ℕ) (queue : List QueuedOpen) → queued < channels → free_share channels (take queued queue) < channels
next-below channels queued queue h = let n : length (take queued queue) < channels = simp length-take (omega arith) in free-exists channels (take queued queue) n

-- and lies in the open store
pub share-fits : (channels payload queued share : ℕ) (queue : List QueuedOpen) → queued < channels → share ≡ free_share channels (take queued queue)
    → share * payload + payload ≤ channels * payload
share-fits channels payload queued share queue h e =
    let f = next-below channels queued queue h in
    share-before share channels payload (omega arith)
