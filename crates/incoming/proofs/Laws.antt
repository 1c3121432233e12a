-- What push_back, withdraw, pop_front and push_front answer is what their definitions say. Assumes nothing.
use mathlib.Core.Path.{◌≡◌, refl, sym, ap, ◌∙◌}
use mathlib.Core.List.{List, [], ◌∷◌, ◌++◌}
use Prim.Native.Nat.{ℕ, ◌+◌, ◌-◌, ◌*◌, ◌≤◌, ◌<◌}
use native.Mathlib.Omega.{arith}
use borrow.Author.Tests.{lt-leb, le-leb, eq-eqb, ne_eqb}
use lib.ListN.{length, take, drop, get_or, length-take, length-drop}
use Rattle.le.specs.Le.{put}
use Rattle.slot.specs.declared.ids.RemoteId.{RemoteId}
use Rattle.state.specs.declared.Header.{Header}
use Rattle.state.specs.declared.QueuedOpen.{QueuedOpen}
use Rattle.state.specs.Change.{put_queue, Steps}
use Rattle.state.specs.State.{state_len, none_queued, state_of, queued_at, put_queued}
use Rattle.state.proofs.StateLaws.{open_in, state-full}
use Rattle.incoming.specs.Incoming.{free_share, kept, with_queued, Retains, withdrawal, offering, popped, returned, Pushes, next_share, pushed}
use Rattle.incoming.proofs.KeptLaws.{kept-all, put-opens-next}
use Rattle.std.specs.Prelude.{Some, None}

module _ (h : Header) (b : List ℕ) (remote : RemoteId) (credit : ℕ) (destination store : List ℕ) where
  -- as many wait as there are channels: nothing changes
  pub push-full : h.negotiated.config.channels ≤ h.queued → Pushes (pushed h (state_of b).queue remote credit destination store) b None b store
  unfolding pushed
  push-full k = rw (le-leb h.negotiated.config.channels h.queued k) (record { result-is = refl; state-is = refl; store_is = refl })

  -- else the entry is put and the destination copied to its share
  pub push-queued : (share : ℕ) (x y : List ℕ) (m : Header) → h.queued < h.negotiated.config.channels
      → share ≡ free_share h.negotiated.config.channels (take h.queued (state_of b).queue)
      → x ≡ put_queued b h.queued (record { remote = remote; credit = credit; share = share; length = length destination })
      → y ≡ put store (share * h.negotiated.config.max_payload) destination → m ≡ with_queued h (h.queued + 1)
      → Pushes (pushed h (state_of b).queue remote credit destination store) b (Some m) x y
  unfolding pushed next_share
  push-queued share x y m k e p q f =
      rw (lt-leb h.negotiated.config.channels h.queued k, ← e) (record { result-is = ap Some f; state-is = p; store_is = q })

module _ (h : Header) (b : List ℕ) where
  -- those that stay are at the front, and the header counts them
  pub withdraw-gives : (gone : RemoteId) (left : ℕ) (x : List ℕ) (m : Header)
      → Retains (kept (Some gone) (drop 0 (take h.queued (state_of b).queue))) b left x → m ≡ with_queued h left
      → Steps (withdrawal h (state_of b).queue gone) b m x
  unfolding withdrawal
  withdraw-gives gone left x m r f = record { result-is = f ∙ ap (with_queued h) r.count-is; state-is = r.state-is }

  -- none is queued: nothing changes
  pub pop-nothing : h.queued ≡ 0 → Steps (popped h (state_of b).queue) b None b
  unfolding popped
  pop-nothing e = rw (eq-eqb h.queued 0 e) (record { result-is = refl; state-is = refl })

  -- else the others are fewer than there were
  pub left_below : (left : ℕ) (x : List ℕ) → (h.queued ≡ 0 → ⊥) → h.queued ≤ 64 → Retains (kept None (drop 1 (take h.queued (state_of b).queue))) b left x → left < 64
  left_below left x d k r =
      let z = (state-full b).queue in
      let qs = drop 1 (take h.queued (state_of b).queue) in
      let n : length qs ≡ h.queued - 1 = simp (length-drop, length-take) (omega arith) in
      let l = r.count-is ∙ ap length (kept-all qs) in
      omega arith

  -- the first is answered, the others have moved up, and it stands behind them
  pub pop-gives : (front : QueuedOpen) (left : ℕ) (x : List ℕ) (m : Header) → (h.queued ≡ 0 → ⊥) → h.queued ≤ 64 → front ≡ queued_at b 0
      → Retains (kept None (drop 1 (take h.queued (state_of b).queue))) b left x → m ≡ offering (with_queued h left) → state_len ≤ length b
      → (y : List ℕ) → y ≡ put_queued x left front → Steps (popped h (state_of b).queue) b (Some (front, m)) y
  unfolding popped
  pop-gives front left x m d k e r f long y p =
      let qs = drop 1 (take h.queued (state_of b).queue) in
      let z = (state-full b).queue in
      let s = kept-all qs in
      let n : length qs ≡ h.queued - 1 = simp (length-drop, length-take) (omega arith) in
      let l : left ≡ h.queued - 1 = r.count-is ∙ ap length s ∙ n in
      let a : front ≡ get_or (state_of b).queue 0 none_queued = e ∙ sym (open_in b 0 none_queued (omega arith)) in
      let g : m ≡ offering (with_queued h (h.queued - 1)) = f ∙ ap (λ (w : ℕ). offering (with_queued h w)) l in
      let v : y ≡ put_queue b (qs ++ front ∷ []) =
      p ∙ ap (λ (o : List ℕ). put_queued o left front) (r.state-is ∙ ap (put_queue b) s) ∙ ap (λ (o : ℕ). put_queued (put_queue b qs) o front) (r.count-is ∙ ap length s)
      ∙ put-opens-next b qs (omega arith) long front (omega arith) in
      rw (ne_eqb h.queued 0 d) (record { result-is = rw (a, g); state-is = v ∙ ap (λ (o : QueuedOpen). put_queue b (qs ++ o ∷ [])) a })

  -- one is put ahead of the others
  pub front-gives : (q : QueuedOpen) (x : List ℕ) (m : Header) → x ≡ put_queue b (q ∷ take h.queued (state_of b).queue) → m ≡ with_queued h (h.queued + 1)
      → Steps (returned h (state_of b).queue q) b m x
  unfolding returned
  front-gives q x m e f = record { result-is = f; state-is = e }
