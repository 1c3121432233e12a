-- What a packet does to the table leaves a whole state. Assumes nothing.
use mathlib.Core.Path.{◌≡◌, refl, sym, ap, ◌∙◌}
use mathlib.Core.Bool.{true, ◌&&◌}
use mathlib.Core.List.{List}
use Prim.Native.Nat.{ℕ, ◌+◌, ◌*◌, ◌^◌, ◌≤◌, ◌<◌}
use native.Mathlib.Omega.{arith}
use lib.Dec.{eqb, ltb}
use lib.ListN.{length, take, get_or, set}
use lib.Seq.{get_or-take, length-take-le, get_or-set_same, get_or-set_other}
use borrow.Author.Tests.{eqb-true, eqb-false, ltb-true, ltb-false}
use Rattle.le.proofs.Parts.{by-test}
use Rattle.config.specs.declared.negotiated.Negotiated.{Negotiated}
use Rattle.config.specs.Negotiated.{policy_of}
use Rattle.config.proofs.Laws.{and-true}
use Rattle.protocol.specs.declared.command.Command.{Command}
use Rattle.protocol.specs.declared.packet.Packet.{Packet}
use Rattle.slot.specs.declared.ids.LocalId.{LocalId}
use Rattle.slot.specs.declared.ids.RemoteId.{RemoteId}
use Rattle.slot.specs.declared.ChannelSlot.{ChannelSlot}
use Rattle.slot.specs.Wrote.{Wrote, left_by}
use Rattle.slot.specs.Slot.{empty_slot, is_opening, is_failed, closed_slot, held_of, acks_now, wrote_of}
use Rattle.slot.proofs.Kept.{pick}
use Rattle.state.specs.declared.Header.{Header}
use Rattle.state.specs.Change.{changed_all, InPlace, Step}
use Rattle.state.specs.State.{Connection}
use Rattle.le.proofs.RowLaws.{Every, never}
use Rattle.table_dispatch.specs.declared.DispatchOutcome.{DispatchOutcome}
use Rattle.table_dispatch.specs.declared.DispatchOutcome.TheVariants.{AckWrite, CreditGranted, SlotClosed, DataBuffered, IncomingOpen, CancelQueuedOpen, StrayReady, ChannelFault, Unmatched}
use Rattle.table.specs.declared.Want.{Want}
use Rattle.table.specs.declared.Want.TheVariants.{Local, Remote, Live as WantLive}
use Rattle.table.proofs.Laws.{live-remote}
use Rattle.table.specs.Table.{first, wanted_by, place_of, slot_in}
use Rattle.table_dispatch.specs.Dispatch.{left, stored, remote_place, closed_at, close_of, readied_of, granted, ready_at, stray_of, grant_of, Dispatched, with, wrote_by, wrote_at, write_of, route_of, dispatch_of}
use Rattle.rx_store.specs.RxStore.{buffered_in}
use Rattle.table_dispatch.proofs.RouteLaws.{by-route}
use Rattle.table_dispatch.proofs.DispatchLaws.{first_found, by-named}
use Rattle.rx_store.proofs.ShareLaws.{share_in, length-buffered}
use Rattle.state_whole.proofs.WholeLaws.{Live, Whole, whole-live}
use Rattle.state_whole.proofs.LiveLaws.{ReadiedLive, ready-live, wrote-live, closed-live}
use Rattle.credit.specs.declared.CreditFault.{CreditFault}
use Rattle.std.specs.Prelude.{Result, Ok, Err}

-- the place that a walk stops at has what was looked for
pub place_found : (w : Want) (m : ℕ) (ss : List ChannelSlot) → m ≤ length ss → place_of w m ss < m → wanted_by w (slot_in ss (place_of w m ss)) ≡ true
unfolding place_of slot_in
place_found w m ss k h =
    let n : length (take m ss) ≡ m = length-take-le m ss k in
    let f = first_found (wanted_by w) (take m ss) empty_slot (rw n h) in
    ap (wanted_by w) (sym (get_or-take m ss (first (wanted_by w) (take m ss)) empty_slot h)) ∙ f

pub local-filled : (l : LocalId) (s : ChannelSlot) → wanted_by (Local l) s ≡ true → s.filled ≡ true
unfolding wanted_by
local-filled l s e = (and-true s.filled _ e).0

pub remote-filled : (r : RemoteId) (s : ChannelSlot) → wanted_by (Remote r) s ≡ true → s.filled ≡ true
unfolding wanted_by
remote-filled r s e = (and-true s.filled _ (and-true (s.filled && s.has_remote) _ e).0).0

-- numbers of a packet that an answer hands on are of 32 bits
abbrev pub AnswerFits : DispatchOutcome → Type 0
AnswerFits (AckWrite i ids len) = Unit {0}
AnswerFits (CreditGranted i) = Unit {0}
AnswerFits (SlotClosed i) = Unit {0}
AnswerFits (DataBuffered i) = Unit {0}
AnswerFits (IncomingOpen remote credit) = (remote.0 < 2 ^ 32) × (credit < 2 ^ 32)
AnswerFits (CancelQueuedOpen remote) = Unit {0}
AnswerFits (StrayReady ids) = Unit {0}
AnswerFits (ChannelFault i ids opening f) = Unit {0}
AnswerFits Unmatched = Unit {0}

-- what the table's part leaves: a whole state, the queued opens as they were, channels in their places, the store's length
pub record TableKeeps (n : Negotiated) (h : Header) (c : Connection) (rx : List ℕ) (d : Dispatched) : Type 0 where
  pub within : Every InPlace d.step.changes
  pub queue : (changed_all c d.step.changes).queue ≡ c.queue
  pub facts : Whole n h (changed_all c d.step.changes).slots c.queue
  pub filled : (i : ℕ) → (slot_in c.slots i).filled ≡ true → (slot_in (changed_all c d.step.changes).slots i).filled ≡ true
  pub rx-length : length d.rx ≡ length rx
  pub answer : AnswerFits d.step.result

module _ (n : Negotiated) (h : Header) (c : Connection) (rx : List ℕ) (g : Whole n h c.slots c.queue)
    (long : n.config.channels * (2 * (policy_of n).rx_cap) ≤ length rx) where
  left-keeps : (o : DispatchOutcome) → AnswerFits o → TableKeeps n h c rx (with (left o) rx)
  left-keeps o f = record { within = tt; queue = refl; facts = g; filled = λ i e. e; rx-length = refl; answer = f }

  stored-keeps : (o : DispatchOutcome) (i : ℕ) (t : ChannelSlot) (after : List ℕ) → AnswerFits o → Live n i (slot_in c.slots i) → Live n i t → length after ≡ length rx
      → TableKeeps n h c rx (with (stored o i t) after)
  unfolding slot_in
  stored-keeps o i t after f v u e =
      let k = g.limits.within.most-channels in
      let p = v.place in
      let full = g.slots.full in
      record {
        within = (omega arith, tt);
        queue = refl;
        facts = whole-live n h c.slots c.queue g i t v u;
        filled = λ j z. by-test (eqb j i)
            (λ q. let y = eqb-true j i q in
            ap (λ (x : ℕ). (get_or (set c.slots i t) x empty_slot).filled) y
            ∙ ap (λ (x : ChannelSlot). x.filled) (get_or-set_same c.slots i t empty_slot (omega arith)) ∙ u.filled)
            (λ q. ap (λ (x : ChannelSlot). x.filled) (get_or-set_other c.slots i j t empty_slot (eqb-false j i q)) ∙ z);
        rx-length = e;
        answer = f;
      }

  -- a place that was found holds a channel
  pub live-found : (w : Want) → ((s : ChannelSlot) → wanted_by w s ≡ true → s.filled ≡ true) → place_of w n.config.channels c.slots < n.config.channels
      → Live n (place_of w n.config.channels c.slots) (slot_in c.slots (place_of w n.config.channels c.slots))
  unfolding slot_in
  live-found w f k =
      let full = g.slots.full in
      let most = g.limits.within.most-channels in
      let i = place_of w n.config.channels c.slots in
      (g.slots.each i).live (f (get_or c.slots i empty_slot) (place_found w n.config.channels c.slots (omega arith) k))

  -- ---- CLSE

  abbrev Found : ℕ → Type 0
  Found i = i < n.config.channels → Live n i (slot_in c.slots i)

  remote-found : (remote : RemoteId) → Found (remote_place n.config.channels c.slots remote)
  unfolding remote_place
  remote-found remote =
      pick Found (eqb remote.0 0) (λ z k. absurd (omega arith))
      (λ z. by-named n.config.channels c.slots remote Found
      (λ _. live-found (WantLive remote) (λ s e. remote-filled remote s (live-remote remote s e))) (live-found (Remote remote) (remote-filled remote)))

  closed-keeps : (i : ℕ) (other : DispatchOutcome) → AnswerFits other → Found i → TableKeeps n h c rx (with (closed_at i n.config.channels c.slots other) rx)
  unfolding closed_at
  closed-keeps i other f v =
      pick (λ (s : Step DispatchOutcome). TableKeeps n h c rx (with s rx)) (ltb i n.config.channels)
      (λ t. let u = v (ltb-true i n.config.channels t) in
      stored-keeps (SlotClosed i) i (closed_slot (slot_in c.slots i)) rx tt u (closed-live n i (slot_in c.slots i) u) refl)
      (λ t. left-keeps other f)

  close-keeps : (remote : RemoteId) (local : LocalId) → TableKeeps n h c rx (with (close_of n.config.channels c.slots remote local) rx)
  unfolding close_of
  close-keeps remote local =
      pick (λ (s : Step DispatchOutcome). TableKeeps n h c rx (with s rx)) (eqb local.0 0)
      (λ t. closed-keeps (remote_place n.config.channels c.slots remote) (CancelQueuedOpen remote) tt (remote-found remote))
      (λ t. closed-keeps (place_of (Local local) n.config.channels c.slots) Unmatched tt (live-found (Local local) (local-filled local)))

  -- ---- OKAY

  stray-fits : (remote : RemoteId) (local : LocalId) → AnswerFits (stray_of remote local)
  unfolding stray_of
  stray-fits remote local =
      pick AnswerFits (eqb remote.0 0) (λ t. tt) (λ t. pick AnswerFits (eqb local.0 0) (λ u. tt) (λ u. tt))

  granted-keeps : (i : ℕ) (remote : RemoteId) (r : Result ChannelSlot CreditFault) → Live n i (slot_in c.slots i) → ReadiedLive n i r
      → TableKeeps n h c rx (with (granted i (slot_in c.slots i) remote r) rx)
  unfolding granted
  granted-keeps i remote (Ok t) v u = stored-keeps (CreditGranted i) i t rx tt v u refl
  granted-keeps i remote (Err f) v u = left-keeps _ tt

  readied-live : (i : ℕ) (s : ChannelSlot) (remote : RemoteId) (payload : List ℕ) → Live n i s → ReadiedLive n i (readied_of s remote payload (policy_of n))
  unfolding readied_of
  readied-live i s remote payload v =
      pick (ReadiedLive n i) (is_opening s.state) (λ t. never (sym v.opening ∙ t)) (λ t. ready-live n i s payload v)

  ready-keeps : (i : ℕ) (remote : RemoteId) (payload : List ℕ) → Live n i (slot_in c.slots i)
      → TableKeeps n h c rx (with (ready_at (policy_of n) i (slot_in c.slots i) remote payload) rx)
  unfolding ready_at
  ready-keeps i remote payload v =
      pick (λ (s : Step DispatchOutcome). TableKeeps n h c rx (with s rx)) (is_failed (slot_in c.slots i).failed)
      (λ t. left-keeps Unmatched tt)
      (λ t. granted-keeps i remote (readied_of (slot_in c.slots i) remote payload (policy_of n)) v (readied-live i (slot_in c.slots i) remote payload v))

  grant-keeps : (remote : RemoteId) (local : LocalId) (payload : List ℕ)
      → TableKeeps n h c rx (with (grant_of (policy_of n) n.config.channels c.slots remote local payload) rx)
  unfolding grant_of
  grant-keeps remote local payload =
      let i = place_of (Local local) n.config.channels c.slots in
      pick (λ (s : Step DispatchOutcome). TableKeeps n h c rx (with s rx)) (ltb i n.config.channels)
      (λ t. ready-keeps i remote payload (live-found (Local local) (local-filled local) (ltb-true i n.config.channels t)))
      (λ t. left-keeps (stray_of remote local) (stray-fits remote local))

  -- ---- WRTE

  module _ (i : ℕ) (remote : RemoteId) (payload : List ℕ) (v : Live n i (slot_in c.slots i)) where
    room-here : held_of (slot_in c.slots i) + length payload ≤ (policy_of n).rx_cap
        → length (buffered_in rx (policy_of n).rx_cap i (slot_in c.slots i).head (slot_in c.slots i).buffered payload) ≡ length rx
    unfolding held_of
    room-here e =
        let s = slot_in c.slots i in
        let ok = v.ok in
        let a = ok.run_fits in
        let b = ok.settled-cap in
        let z = share_in i n.config.channels (2 * (policy_of n).rx_cap) (length rx) v.place long in
        length-buffered rx (policy_of n).rx_cap i s.head s.buffered payload z (record { run_fits = a; more-fits = omega arith })

    abbrev WroteKeeps : Wrote → Type 0
    WroteKeeps w = Live n i (left_by (slot_in c.slots i) w) → TableKeeps n h c rx (wrote_by (policy_of n) i (slot_in c.slots i) remote payload rx w)

    wrote-keeps : WroteKeeps (wrote_of (slot_in c.slots i) (policy_of n) (length payload))
    unfolding wrote_of wrote_by
    wrote-keeps =
        let s = slot_in c.slots i in
        let cap = (policy_of n).rx_cap in
        pick WroteKeeps (is_opening s.state) (λ o u. left-keeps _ tt)
        (λ o. pick WroteKeeps (ltb cap (held_of s + length payload)) (λ f u. left-keeps _ tt)
        (λ f. let e = ltb-false cap (held_of s + length payload) f in
        pick WroteKeeps (acks_now s (policy_of n) (held_of s + length payload))
        (λ a u. stored-keeps _ i _ _ tt v u (room-here e))
        (λ a u. stored-keeps _ i _ _ tt v u (room-here e))))

    wrote-at-keeps : TableKeeps n h c rx (wrote_at (policy_of n) i (slot_in c.slots i) remote payload rx)
    unfolding wrote_at
    wrote-at-keeps =
        pick (TableKeeps n h c rx) (is_failed (slot_in c.slots i).failed) (λ t. left-keeps Unmatched tt)
        (λ t. wrote-keeps (wrote-live n i (slot_in c.slots i) v (length payload)))

  write_keeps : (remote : RemoteId) (local : LocalId) (payload : List ℕ) → TableKeeps n h c rx (write_of (policy_of n) n.config.channels c.slots remote local payload rx)
  unfolding write_of
  write_keeps remote local payload =
      let i = place_of (Local local) n.config.channels c.slots in
      pick (TableKeeps n h c rx) (ltb i n.config.channels)
      (λ t. wrote-at-keeps i remote payload (live-found (Local local) (local-filled local) (ltb-true i n.config.channels t)))
      (λ t. left-keeps Unmatched tt)

  -- ---- any packet

  route-keeps : (k : Command) (a b : ℕ) (payload : List ℕ) → a < 2 ^ 32 → b < 2 ^ 32 → TableKeeps n h c rx (route_of (policy_of n) n.config.channels c.slots k a b payload rx)
  route-keeps k a b payload p q =
      by-route (policy_of n) n.config.channels c.slots a b payload rx (λ k d. TableKeeps n h c rx d) (λ k e. left-keeps Unmatched tt)
      (left-keeps (IncomingOpen (record { 0 = a }) b) (p, q)) (close-keeps (record { 0 = a }) (record { 0 = b }))
      (write_keeps (record { 0 = a }) (record { 0 = b }) payload) (grant-keeps (record { 0 = a }) (record { 0 = b }) payload) k

  pub dispatch-keeps : (k : Packet) (payload : List ℕ) → k.arg0 < 2 ^ 32 → k.arg1 < 2 ^ 32 → TableKeeps n h c rx (dispatch_of (policy_of n) n.config.channels c.slots k payload rx)
  unfolding dispatch_of
  dispatch-keeps k payload p q = route-keeps k.command k.arg0 k.arg1 payload p q
