-- What a push, a withdrawal and a pop are to the list of those that wait, and that they leave a whole state's entries.
-- Assumes nothing.
use mathlib.Core.Path.{◌≡◌, refl, sym, ap, ◌∙◌}
use mathlib.Core.Bool.{true, false}
use mathlib.Core.List.{List, [], ◌∷◌, ◌++◌, append_assoc}
use Prim.Native.Nat.{ℕ, ◌+◌, ◌-◌, ◌*◌, ◌≤◌, ◌<◌}
use native.Mathlib.Numerals.{add-one}
use native.Mathlib.Omega.{arith}
use borrow.Author.Tests.{lt-ltb, le-leb, leb-true, leb-false, eqb-false}
use lib.Dec.{eqb, leb}
use lib.ListN.{length, take, drop, get_or, set, length-take, length-drop}
use lib.Seq.{take-suc-set, take-append_seam, take_at, get_or-append-add}
use Rattle.config.proofs.Laws.{and-true}
use Rattle.le.specs.Le.{part, put}
use Rattle.le.proofs.Parts.{by-test, part-put-same}
use Rattle.rx_store.proofs.Laws.{apart}
use Rattle.slot.specs.declared.ids.RemoteId.{RemoteId}
use Rattle.state.specs.declared.Header.{Header}
use Rattle.state.specs.declared.QueuedOpen.{QueuedOpen}
use Rattle.state.specs.Change.{changed_all}
use Rattle.state.specs.State.{none_queued, Connection}
use Rattle.state_whole.specs.Whole.{queued_fine, queue_fine}
use Rattle.le.proofs.RowLaws.{walk_here, never, Every}
use Rattle.incoming.specs.Incoming.{queued_as, queued_opens, named, free_share, stays_by, kept, withdrawn, with_queued, withdrawal, offering, popped, returned, next_share, pushed}
use Rattle.incoming.proofs.ShareLaws.{free-unused, next-below, share-fits}
use Rattle.std.specs.Prelude.{Option, Some, None}

waits-append : (payload : ℕ) (store : List ℕ) (x y : List QueuedOpen) → queued_opens payload store (x ++ y) ≡ queued_opens payload store x ++ queued_opens payload store y
unfolding queued_opens
waits-append payload store [] y = refl
waits-append payload store (q ∷ x) y = rw (waits-append payload store x y)

-- what a fine list of entries says of the first and of the rest
pub fine-parts : (channels payload : ℕ) (q : QueuedOpen) (qs : List QueuedOpen) → queue_fine channels payload (q ∷ qs) ≡ true
    → (queued_fine channels payload q ≡ true) × (queue_fine channels payload qs ≡ true)
unfolding queue_fine
fine-parts channels payload q qs e = and-true (queued_fine channels payload q) (queue_fine channels payload qs) e

-- what is put behind others stands there
pub get_or-behind : {A : Type 0} (ks : List A) (o : A) (v : List A) (d : A) (i : ℕ) → length ks ≡ i → get_or (ks ++ o ∷ v) i d ≡ o
get_or-behind ks o v d i n = let z : i ≡ length ks + 0 = omega arith in ap (λ (j : ℕ). get_or (ks ++ o ∷ v) j d) z ∙ get_or-append-add ks (o ∷ v) 0 d

-- ---- a push

-- those that wait stay, where a share is written that none of them uses
pub waits-stay : (channels payload : ℕ) (store new : List ℕ) (share : ℕ) (qs : List QueuedOpen) → queue_fine channels payload qs ≡ true → named share qs ≡ false
    → length new ≤ payload → share * payload + payload ≤ length store → queued_opens payload (put store (share * payload) new) qs ≡ queued_opens payload store qs
unfolding queued_opens queued_as queued_fine named
waits-stay channels payload store new share [] f e l h = refl
waits-stay channels payload store new share (q ∷ qs) f e l h =
    let f₁ = fine-parts channels payload q qs f in
    let k = leb-true q.length payload (and-true _ _ f₁.0).0 in
    by-test (eqb q.share share)
    (λ t. never (sym e ∙ rw t))
    (λ t.
    let d = eqb-false q.share share t in
    let r = waits-stay channels payload store new share qs f₁.1 (rw t at e) l h in
    rw (r, apart store share q.share payload new q.length l k h (λ g. d (sym g))))

module _ (channels payload queued : ℕ) (queue : List QueuedOpen) (store destination : List ℕ) (remote : RemoteId) (credit : ℕ)
    (room : queued < channels) (long : channels * payload ≤ length store) (fits : length destination ≤ payload) where
  share-here : free_share channels (take queued queue) * payload + payload ≤ length store
  share-here = let z = share-fits channels payload queued (free_share channels (take queued queue)) queue room refl in omega arith

  -- the other shares of the open store stay
  pub push-apart : (j : ℕ) → (free_share channels (take queued queue) ≡ j → ⊥)
      → part (put store (free_share channels (take queued queue) * payload) destination) (j * payload) payload ≡ part store (j * payload) payload
  push-apart j d = apart store (free_share channels (take queued queue)) j payload destination payload fits (omega arith) share-here d

  module _ (places : queued < length queue) (fine : queue_fine channels payload (take queued queue) ≡ true) where
    -- the new one is queued behind the others, and they stay as before
    pub push-waits : queued_opens payload (put store (free_share channels (take queued queue) * payload) destination)
        (take (queued + 1) (set queue queued (record { remote = remote; credit = credit; share = free_share channels (take queued queue); length = length destination })))
        ≡ queued_opens payload store (take queued queue) ++ (record { remote = remote; credit = credit; destination = destination } ∷ [])
    unfolding queued_opens queued_as
    push-waits =
        let k = free_share channels (take queued queue) in
        let q : QueuedOpen = record { remote = remote; credit = credit; share = k; length = length destination } in
        let after = put store (k * payload) destination in
        let z = share-here in
        let s = waits-stay channels payload store destination k (take queued queue) fine (free-unused channels (take queued queue) (next-below channels queued queue room)) fits z in
        let d : part after (k * payload) (length destination) ≡ destination = part-put-same store (k * payload) destination (omega arith) in
        rw (add-one, take-suc-set queue queued q places, waits-append payload after (take queued queue) (q ∷ []), s, d)

-- ---- a withdrawal

-- those of one remote number no longer wait
pub withdraw-waits : (payload : ℕ) (store : List ℕ) (gone : RemoteId) (qs : List QueuedOpen) → queued_opens payload store (kept (Some gone) qs) ≡ withdrawn gone (queued_opens payload store qs)
unfolding queued_opens queued_as kept stays_by withdrawn
withdraw-waits payload store gone [] = refl
withdraw-waits payload store gone (q ∷ qs) =
    let r = withdraw-waits payload store gone qs in
    by-test (eqb q.remote.0 gone.0) (λ t. rw (t, r)) (λ t. rw (t, r))

-- the first entries are those that were put
pub front-is : {A : Type 0} (ks x : List A) → take (length ks) (ks ++ drop (length ks) x) ≡ ks
front-is ks x = take-append_seam ks (drop (length ks) x)

-- ---- a pop

-- the first one goes, the others wait as before
pub pop-waits : (payload : ℕ) (store : List ℕ) (queued : ℕ) (queue : List QueuedOpen) → 0 < queued → queued ≤ length queue
    → queued_opens payload store (take queued queue) ≡ queued_as payload store (get_or queue 0 none_queued) ∷ queued_opens payload store (drop 1 (take queued queue))
unfolding queued_opens
pop-waits payload store queued queue h k = ap (queued_opens payload store) (walk_here queue queued 0 none_queued (get_or queue 0 none_queued) h k refl)

-- ---- the same of the definitions' outcomes

module _ (c : Connection) (h : Header) (store : List ℕ) where
  -- an OPEN that is pushed stands behind the others
  pub pushed_waits : (remote : RemoteId) (credit : ℕ) (destination : List ℕ) (m : Header) → (pushed h c.queue remote credit destination store).result ≡ Some m
      → h.queued < length c.queue → h.negotiated.config.channels * h.negotiated.config.max_payload ≤ length store
      → length destination ≤ h.negotiated.config.max_payload
      → queue_fine h.negotiated.config.channels h.negotiated.config.max_payload (take h.queued c.queue) ≡ true
      → queued_opens h.negotiated.config.max_payload (pushed h c.queue remote credit destination store).store
      (take m.queued (changed_all c (pushed h c.queue remote credit destination store).changes).queue)
      ≡ queued_opens h.negotiated.config.max_payload store (take h.queued c.queue) ++ (record { remote = remote; credit = credit; destination = destination } ∷ [])
  unfolding pushed next_share
  pushed_waits remote credit destination m e places long fits fine =
      let n = h.negotiated.config.channels in
      let payload = h.negotiated.config.max_payload in
      by-test (leb n h.queued)
      (λ t. let x : None ≡ (Some m) = rw t at e in let z : true ≡ false = cc in never (sym z))
      (λ t.
      let x : (Some (with_queued h (h.queued + 1))) ≡ (Some m) = rw t at e in
      let k : with_queued h (h.queued + 1) ≡ m = cc in
      rw (t, ← k) (push-waits n payload h.queued c.queue store destination remote credit (leb-false n h.queued t) long fits places fine))

  -- those of the remote number no longer wait
  pub withdrawal-waits : (gone : RemoteId)
      → queued_opens h.negotiated.config.max_payload store (take (withdrawal h c.queue gone).result.queued (changed_all c (withdrawal h c.queue gone).changes).queue)
      ≡ withdrawn gone (queued_opens h.negotiated.config.max_payload store (take h.queued c.queue))
  unfolding withdrawal
  withdrawal-waits gone =
      rw (front-is (kept (Some gone) (take h.queued c.queue)) c.queue)
      (withdraw-waits h.negotiated.config.max_payload store gone (take h.queued c.queue))

  -- the entry that is answered was queued first
  pub popped-waits : (q : QueuedOpen) (m : Header) → (popped h c.queue).result ≡ Some (q, m) → h.queued ≤ length c.queue
      → queued_opens h.negotiated.config.max_payload store (take h.queued c.queue)
      ≡ queued_as h.negotiated.config.max_payload store q
      ∷ queued_opens h.negotiated.config.max_payload store (take m.queued (changed_all c (popped h c.queue).changes).queue)
  unfolding popped
  popped-waits q m e places =
      let payload = h.negotiated.config.max_payload in
      let ks = drop 1 (take h.queued c.queue) in
      by-test (eqb h.queued 0)
      (λ t. let x : None ≡ (Some (q, m)) = rw t at e in let z : true ≡ false = cc in never (sym z))
      (λ t.
      let d = eqb-false h.queued 0 t in
      let x : (Some (get_or c.queue 0 none_queued, offering (with_queued h (h.queued - 1)))) ≡ (Some (q, m)) = rw t at e in
      let pair : ◌≡◌ {A = QueuedOpen × Header} (get_or c.queue 0 none_queued, offering (with_queued h (h.queued - 1))) (q, m) = cc in
      let a : get_or c.queue 0 none_queued ≡ q = ap (λ (p : QueuedOpen × Header). p.0) pair in
      let k : offering (with_queued h (h.queued - 1)) ≡ m = ap (λ (p : QueuedOpen × Header). p.1) pair in
      let n : length ks ≡ h.queued - 1 = simp (length-drop, length-take) (omega arith) in
      let front = get_or c.queue 0 none_queued in
      let f : take (h.queued - 1) ((ks ++ front ∷ []) ++ drop (length (ks ++ front ∷ [])) c.queue) ≡ ks =
      ap (take (h.queued - 1)) (append_assoc ks (front ∷ []) (drop (length (ks ++ front ∷ [])) c.queue)) ∙ take_at ks (front ∷ drop (length (ks ++ front ∷ [])) c.queue) (h.queued - 1) n in
      rw (t, ← k, f, ← a) (pop-waits payload store h.queued c.queue (omega arith) places))

  -- it stands behind the others as it stood before them
  pub popped-offers : (q : QueuedOpen) (m : Header) → (popped h c.queue).result ≡ Some (q, m) → h.queued ≤ length c.queue
      → get_or (changed_all c (popped h c.queue).changes).queue m.queued none_queued ≡ q
  unfolding popped
  popped-offers q m e places =
      let ks = drop 1 (take h.queued c.queue) in
      by-test (eqb h.queued 0)
      (λ t. let x : None ≡ (Some (q, m)) = rw t at e in let z : true ≡ false = cc in never (sym z))
      (λ t.
      let d = eqb-false h.queued 0 t in
      let x : (Some (get_or c.queue 0 none_queued, offering (with_queued h (h.queued - 1)))) ≡ (Some (q, m)) = rw t at e in
      let pair : ◌≡◌ {A = QueuedOpen × Header} (get_or c.queue 0 none_queued, offering (with_queued h (h.queued - 1))) (q, m) = cc in
      let a : get_or c.queue 0 none_queued ≡ q = ap (λ (p : QueuedOpen × Header). p.0) pair in
      let k : offering (with_queued h (h.queued - 1)) ≡ m = ap (λ (p : QueuedOpen × Header). p.1) pair in
      let n : length ks ≡ h.queued - 1 = simp (length-drop, length-take) (omega arith) in
      let front = get_or c.queue 0 none_queued in
      let v = drop (length (ks ++ front ∷ [])) c.queue in
      rw (t, ← k, ← a)
      (ap (λ (y : List QueuedOpen). get_or y (h.queued - 1) none_queued) (append_assoc ks (front ∷ []) v) ∙ get_or-behind ks front v none_queued (h.queued - 1) n))

  -- one that is put back stands ahead of the others
  pub returned-waits : (q : QueuedOpen) → h.queued < length c.queue
      → queued_opens h.negotiated.config.max_payload store (take (returned h c.queue q).result.queued (changed_all c (returned h c.queue q).changes).queue)
      ≡ queued_as h.negotiated.config.max_payload store q ∷ queued_opens h.negotiated.config.max_payload store (take h.queued c.queue)
  unfolding returned queued_opens
  returned-waits q places =
      let ks = q ∷ take h.queued c.queue in
      let n : length ks ≡ h.queued + 1 = simp length-take (omega arith) in
      ap (queued_opens h.negotiated.config.max_payload store) (take_at ks (drop (length ks) c.queue) (h.queued + 1) n)

-- ---- entries of a whole state stay so

module _ (channels payload : ℕ) where
  fine-append : (x y : List QueuedOpen) → queue_fine channels payload x ≡ true → queue_fine channels payload y ≡ true → queue_fine channels payload (x ++ y) ≡ true
  unfolding queue_fine
  fine-append [] y e f = f
  fine-append (q ∷ x) y e f = let e₁ = fine-parts channels payload q x e in rw e₁.0 (fine-append x y e₁.1 f)

  -- one more ahead of them, and behind them
  pub fine-cons : (q : QueuedOpen) (qs : List QueuedOpen) → queued_fine channels payload q ≡ true → queue_fine channels payload qs ≡ true → queue_fine channels payload (q ∷ qs) ≡ true
  unfolding queue_fine
  fine-cons q qs e f = rw e f

  pub fine-snoc : (qs : List QueuedOpen) (q : QueuedOpen) → queue_fine channels payload qs ≡ true → queued_fine channels payload q ≡ true → queue_fine channels payload (qs ++ q ∷ []) ≡ true
  unfolding queue_fine
  fine-snoc qs q e f = fine-append qs (q ∷ []) e (fine-cons q [] f refl)

  -- a push: the new entry is fine, the others are as before
  pub push-fine : (queued : ℕ) (queue : List QueuedOpen) (q : QueuedOpen) → queued < length queue → queue_fine channels payload (take queued queue) ≡ true
      → q.share < channels → q.length ≤ payload → queue_fine channels payload (take (queued + 1) (set queue queued q)) ≡ true
  unfolding queue_fine queued_fine
  push-fine queued queue q places fine share fits =
      rw (add-one, take-suc-set queue queued q places)
      (fine-append (take queued queue) (q ∷ []) fine (rw (le-leb q.length payload fits, lt-ltb q.share channels share)))

  -- a withdrawal
  pub kept_fine : (keep : Option RemoteId) (qs : List QueuedOpen) → queue_fine channels payload qs ≡ true → queue_fine channels payload (kept keep qs) ≡ true
  unfolding queue_fine kept
  kept_fine keep [] e = refl
  kept_fine keep (q ∷ qs) e =
      let e₁ = fine-parts channels payload q qs e in
      let r = kept_fine keep qs e₁.1 in
      by-test (stays_by keep q) (λ t. rw (t, e₁.0) r) (λ t. rw t r)

-- what holds of every entry holds of every one that stays
pub kept-every : (P : QueuedOpen → Type 0) (keep : Option RemoteId) (qs : List QueuedOpen) → Every P qs → Every P (kept keep qs)
unfolding kept
kept-every P keep [] e = tt
kept-every P keep (q ∷ qs) e =
    let r = kept-every P keep qs e.1 in
    by-test (stays_by keep q) (λ t. rw t (e.0, r)) (λ t. rw t r)

-- no more stay than there were
pub length-kept : (keep : Option RemoteId) (qs : List QueuedOpen) → length (kept keep qs) ≤ length qs
unfolding kept
length-kept keep [] = omega arith
length-kept keep (q ∷ qs) =
    let r = length-kept keep qs in
    by-test (stays_by keep q) (λ t. rw t (omega arith)) (λ t. rw t (omega arith))
