-- Laws of the entries that stay, and of the pass that moves them to the front. Assumes nothing.
use mathlib.Core.Path.{◌≡◌, refl, sym, ap, ◌∙◌}
use mathlib.Core.Bool.{true, false, cond}
use mathlib.Core.List.{List, [], ◌∷◌, ◌++◌, append-nil}
use Prim.Native.Nat.{ℕ, ◌+◌, ◌*◌, ◌≤◌, ◌<◌}
use native.Mathlib.Numerals.{add-one}
use native.Mathlib.Omega.{arith}
use lib.ListN.{length, take, drop, length-append, length-take}
use lib.Seq.{take-suc, drop-append-le}
use Rattle.le.proofs.Parts.{by-test, put-put, put-none, part-put-above}
use Rattle.state.specs.declared.QueuedOpen.{QueuedOpen}
use Rattle.state.specs.Change.{put_queue}
use Rattle.le.specs.Rows.{flat}
use Rattle.state.specs.State.{queue_at, queued_len, state_len, state_of, queued_bytes, queued_at, put_queued}
use Rattle.state.proofs.Fields.{length-open}
use Rattle.le.proofs.RowLaws.{flat_append, length-flat, walk-over}
use Rattle.state.proofs.StateLaws.{open_in, state-full}
use Rattle.incoming.specs.Incoming.{stays_by, kept, Retains}
use Rattle.slot.specs.declared.ids.RemoteId.{RemoteId}
use Rattle.std.specs.Prelude.{Option, None}

-- ---- those that stay

-- where all stay, nothing changes
pub kept-all : (qs : List QueuedOpen) → kept None qs ≡ qs
unfolding kept stays_by
kept-all [] = refl
kept-all (q ∷ qs) = rw (kept-all qs)

kept_append : (keep : Option RemoteId) (x y : List QueuedOpen) → kept keep (x ++ y) ≡ kept keep x ++ kept keep y
unfolding kept
kept_append keep [] y = refl
kept_append keep (q ∷ x) y = let r = kept_append keep x y in by-test (stays_by keep q) (λ t. rw (t, r)) (λ t. rw (t, r))

kept-one : (keep : Option RemoteId) (q : QueuedOpen) → kept keep (q ∷ []) ≡ cond (stays_by keep q) (q ∷ []) []
unfolding kept
kept-one keep q = refl

-- ---- the first entries, put into a state's bytes

queue-none : (b : List ℕ) → put_queue b [] ≡ b
unfolding put_queue flat
queue-none b = put-none b queue_at

module _ (b : List ℕ) (ks : List QueuedOpen) (h : length ks ≤ 64) (l : state_len ≤ length b) where
  -- entries behind them stay
  put-opens-behind : (i : ℕ) → length ks ≤ i → queued_at (put_queue b ks) i ≡ queued_at b i
  unfolding put_queue queued_at
  put-opens-behind i k =
      let n = length-flat queued_len queued_bytes length-open ks in
      rw (part-put-above b queue_at (flat queued_bytes ks) (queue_at + i * queued_len) queued_len (omega arith) (omega arith))

  -- one more is put behind them
  pub put-opens-next : (q : QueuedOpen) → length ks < 64 → put_queued (put_queue b ks) (length ks) q ≡ put_queue b (ks ++ (q ∷ []))
  unfolding put_queue put_queued flat
  put-opens-next q k =
      let n = length-flat queued_len queued_bytes length-open ks in
      let e : flat queued_bytes (ks ++ (q ∷ [])) ≡ flat queued_bytes ks ++ queued_bytes q =
      flat_append queued_len queued_bytes length-open ks (q ∷ []) ∙ ap (λ (x : List ℕ). flat queued_bytes ks ++ x) (append-nil (queued_bytes q)) in
      let m = length-open q in
      rw e (put-put b queue_at (flat queued_bytes ks) (queue_at + length ks * queued_len) (queued_bytes q) (omega arith) (omega arith))

-- ---- the pass, at place i: those before it that stay are at the front

module _ (keep : Option RemoteId) (b : List ℕ) (from : ℕ) where
  -- at its start none is moved
  pub retain-none : Retains (kept keep (drop from (take from (state_of b).queue))) b 0 b
  unfolding kept
  retain-none = rw (walk-over (state_of b).queue from from (omega arith)) (record { count-is = refl; state-is = sym (queue-none b) })

  module _ (i : ℕ) (f : from ≤ i) (h : i < 64) where
    kept_next : kept keep (drop from (take (i + 1) (state_of b).queue)) ≡ kept keep (drop from (take i (state_of b).queue)) ++ kept keep (queued_at b i ∷ [])
    kept_next =
        let queue = (state_of b).queue in
        let z = (state-full b).queue in
        let e : take (i + 1) queue ≡ take i queue ++ (queued_at b i ∷ []) =
        rw add-one (take-suc queue i (queued_at b i) (omega arith) ∙ ap (λ (q : QueuedOpen). take i queue ++ (q ∷ [])) (open_in b i (queued_at b i) h)) in
        let m : from ≤ length (take i queue) = simp length-take (omega arith) in
        rw (e, drop-append-le from (take i queue) (queued_at b i ∷ []) m) (kept_append keep (drop from (take i queue)) (queued_at b i ∷ []))

    module _ (w : ℕ) (x : List ℕ) (q : QueuedOpen) (l : state_len ≤ length b) (g : w ≤ i)
        (r : Retains (kept keep (drop from (take i (state_of b).queue))) b w x) (e : q ≡ queued_at x i) where
      -- the entry there is still the state's
      retain-reads : q ≡ queued_at b i
      retain-reads =
          let ks = kept keep (drop from (take i (state_of b).queue)) in
          let n = r.count-is in
          e ∙ rw r.state-is (put-opens-behind b ks (omega arith) l i (omega arith))

      -- it is passed over
      pub retain-skips : stays_by keep q ≡ false → Retains (kept keep (drop from (take (i + 1) (state_of b).queue))) b w x
      retain-skips t =
          let ks = kept keep (drop from (take i (state_of b).queue)) in
          let s : kept keep (drop from (take (i + 1) (state_of b).queue)) ≡ ks = kept_next ∙ rw (← retain-reads, kept-one keep q, t) (append-nil ks) in
          rw s r

      -- it is put behind the others
      pub retain-puts : (y : List ℕ) → stays_by keep q ≡ true → y ≡ put_queued x w q → Retains (kept keep (drop from (take (i + 1) (state_of b).queue))) b (w + 1) y
      retain-puts y t p =
          let ks = kept keep (drop from (take i (state_of b).queue)) in
          let n = r.count-is in
          let s : kept keep (drop from (take (i + 1) (state_of b).queue)) ≡ ks ++ (q ∷ []) = kept_next ∙ rw (← retain-reads, kept-one keep q, t) in
          rw s
          (record {
            count-is = simp length-append (omega arith);
            state-is = p ∙ rw (n, r.state-is) (put-opens-next b ks (omega arith) l q (omega arith));
          })

-- ---- one put first: the others are carried down, each to the next place

-- at place i: once what is carried is put there, the first i stand behind the new one; what is behind is as it was
pub record Carries (b : List ℕ) (first : QueuedOpen) (i : ℕ) (x : List ℕ) (carried : QueuedOpen) : Type 0 where
  pub then_is : put_queued x i carried ≡ put_queue b (first ∷ take i (state_of b).queue)
  pub behind : (j : ℕ) → i ≤ j → queued_at x j ≡ queued_at b j

module _ (b : List ℕ) (first : QueuedOpen) (l : state_len ≤ length b) where
  -- at its start the new one is carried
  pub carries-first : Carries b first 0 b first
  carries-first =
      record {
        then_is = ap (λ (x : List ℕ). put_queued x 0 first) (sym (queue-none b)) ∙ put-opens-next b [] (omega arith) l first (omega arith);
        behind = λ j k. refl;
      }

  module _ (i : ℕ) (h : i + 1 < 64) (x : List ℕ) (carried : QueuedOpen) (g : Carries b first i x carried) where
    -- what was carried is put, and what stood there is carried on
    pub carries-next : (next : QueuedOpen) (y : List ℕ) → next ≡ queued_at x i → y ≡ put_queued x i carried → Carries b first (i + 1) y next
    carries-next next y e p =
        let queue = (state_of b).queue in
        let z = (state-full b).queue in
        let ks = first ∷ take i queue in
        let n : length (take i queue) ≡ i = simp length-take (omega arith) in
        let q : next ≡ queued_at b i = e ∙ g.behind i (omega arith) in
        let m : y ≡ put_queue b ks = p ∙ g.then_is in
        let t : take (i + 1) queue ≡ take i queue ++ (queued_at b i ∷ []) =
        rw add-one (take-suc queue i (queued_at b i) (omega arith) ∙ ap (λ (o : QueuedOpen). take i queue ++ (o ∷ [])) (open_in b i (queued_at b i) (omega arith))) in
        let k : length ks ≡ i + 1 = omega arith in
        record {
          then_is =
              ap (λ (o : List ℕ). put_queued o (i + 1) next) m ∙ ap (λ (o : ℕ). put_queued (put_queue b ks) o next) (sym k)
              ∙ put-opens-next b ks (omega arith) l next (omega arith) ∙ ap (λ (o : QueuedOpen). put_queue b (ks ++ (o ∷ []))) q
              ∙ ap (λ (o : List QueuedOpen). put_queue b (first ∷ o)) (sym t);
          behind = λ j f. ap (λ (o : List ℕ). queued_at o j) m ∙ put-opens-behind b ks (omega arith) l j (omega arith);
        }
