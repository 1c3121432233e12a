-- A packet that is neither a channel's own OKAY nor a CLSE that names it leaves its slot open or closed as it was, and with it
-- what may be sent. Assumes nothing.
--     rest-act   of `act_on`
--     put_back   a slot that is stored where it was read changes no byte
use mathlib.Core.Path.{◌≡◌, refl, sym, ap, subst, ◌∙◌}
use mathlib.Core.Bool.{Bool, true, false, cond, ◌&&◌, true≢false}
use mathlib.Core.List.{List, ◌++◌}
use Prim.Native.Nat.{ℕ, ◌+◌, ◌≤◌, ◌<◌}
use native.Mathlib.Omega.{arith}
use lib.Dec.{eqb, ltb, leb}
use lib.IntN.{ℤ}
use lib.ListN.{length, drop, set}
use lib.Seq.{set-get_or}
use borrow.Author.Tests.{eqb-true, eqb-false, ltb-true}
use Rattle.le.specs.Le.{Bytes, num_of}
use Rattle.le.proofs.Parts.{by-test}
use Rattle.config.specs.declared.negotiated.RxPolicy.{RxPolicy}
use Rattle.config.specs.Negotiated.{policy_of}
use Rattle.config.proofs.Laws.{and-true}
use Rattle.incoming.specs.Incoming.{PushOutcome, pushed, withdrawal}
use Rattle.protocol.specs.declared.command.Command.{Command}
use Rattle.protocol.specs.declared.packet.Packet.{Packet}
use Rattle.protocol.specs.Command.{is_ready, is_close, is_the, word_of, letters_of}
use Rattle.saturate.specs.Saturate.{positive_part}
use Rattle.slot.specs.declared.ChannelFault.TheVariants.{RxOverflow, BadCredit, UnexpectedCommand}
use Rattle.slot.specs.declared.ChannelSlot.{ChannelSlot}
use Rattle.slot.specs.Wrote.{Wrote}
use Rattle.slot.specs.declared.ids.ChannelIds.{ChannelIds}
use Rattle.slot.specs.declared.ids.LocalId.{LocalId}
use Rattle.slot.specs.declared.ids.RemoteId.{RemoteId}
use Rattle.slot.specs.Ids.{named_by, closed_by}
use Rattle.slot.specs.Slot.{empty_slot, is_opening, is_failed, held_of, acks_now, buffered_with, wrote_of, closed_slot, some_len, budget_of}
use Rattle.slot.proofs.Kept.{pick}
use Rattle.slot.proofs.Laws.{cond-true, cond-false}
use Rattle.state.specs.declared.Header.{Header}
use Rattle.state.specs.declared.QueuedOpen.{QueuedOpen}
use Rattle.state.specs.Change.{Change, slot_to, Step, changed_all, put_all, InPlace}
use Rattle.state.specs.State.{state_len, Connection, layout, state_of, is_state, put_slot}
use Rattle.state.proofs.ChangeLaws.{full-all, change-layout, changes-bytes}
use Rattle.le.proofs.RowLaws.{Every}
use Rattle.state.proofs.StateLaws.{Full, state-full}
use Rattle.table_dispatch.specs.declared.DispatchOutcome.{DispatchOutcome}
use Rattle.table_dispatch.specs.declared.DispatchOutcome.TheVariants.{AckWrite, CreditGranted, SlotClosed, DataBuffered, IncomingOpen, CancelQueuedOpen, StrayReady, ChannelFault, Unmatched}
use Rattle.table.specs.declared.Want.TheVariants.{Local, Remote, Live}
use Rattle.table.proofs.Laws.{live-remote}
use Rattle.table_dispatch.proofs.DispatchLaws.{by-named}
use Rattle.table.specs.Table.{wanted_by, place_of, slot_in}
use Rattle.table_dispatch.specs.Dispatch.{left, stored, faulted, remote_place, closed_at, close_of, readied_of, granted, ready_at, stray_of, grant_of, Dispatched, wrote_by, wrote_at, write_of, route_of, dispatch_of}
use Rattle.table_dispatch.proofs.KeepLaws.{place_found}
use Rattle.table_dispatch.proofs.RouteLaws.{by-route}
use Rattle.connection.specs.Act.{Acted, pushed_by, acted_by, table_of, act_on}
use Rattle.connection.specs.Calls.{ids_in}
use Rattle.connection.proofs.Slots.{slots_by, slots-append, slot-set-same, slot-set-other}
use Rattle.credit.specs.declared.CreditFault.{CreditFault}
use Rattle.std.specs.Prelude.{Some, None, Result, Ok, Err}

-- ---- slots that may send alike

-- open or closed, and what may be sent
pub record Rests (s t : ChannelSlot) : Type 0 where
  pub state : t.state ≡ s.state
  pub acked : t.wrte_acked ≡ s.wrte_acked
  pub budget : t.send_budget ≡ s.send_budget

rests-same : (s : ChannelSlot) → Rests s s
rests-same s = record { state = refl; acked = refl; budget = refl }

pub rests-budget : (s t : ChannelSlot) (p : RxPolicy) → Rests s t → budget_of t p ≡ budget_of s p
unfolding budget_of
rests-budget s t p r =
    ap (λ (z : ℤ). cond p.delayed (some_len (positive_part z)) (cond t.wrte_acked (Some 0xffff_ffff_ffff_ffff) None)) r.budget
    ∙ ap (λ (b : Bool). cond p.delayed (some_len (positive_part s.send_budget)) (cond b (Some 0xffff_ffff_ffff_ffff) None)) r.acked

-- ---- what a CLSE does not name

named-not : (ids : ChannelIds) (a b : ℕ) → named_by ids a b ≡ false → (eqb b ids.local.0 ≡ false) × (eqb b 0 ≡ true → eqb a ids.remote.0 ≡ false)
unfolding named_by
named-not ids a b e =
    by-test (eqb b ids.local.0) (λ t. absurd (true≢false (sym (cond-true (eqb b ids.local.0) true _ t) ∙ e)))
    (λ t. (t, λ z. sym (cond-true (eqb b 0) _ false z) ∙ sym (cond-false (eqb b ids.local.0) true _ t) ∙ e))

-- ---- dispatching

module _ (p : RxPolicy) (n : ℕ) (ss : List ChannelSlot) (i : ℕ) (full : n ≤ length ss) (inside : i < length ss) where
  abbrev own : ChannelSlot
  own = slot_in ss i

  abbrev Goes : Step DispatchOutcome → Type 0
  Goes x = Rests own (slot_in (slots_by ss x.changes) i)

  goes_left : (o : DispatchOutcome) → Goes (left o)
  goes_left o = rests-same own

  goes-stored : (o : DispatchOutcome) (f : ℕ) (t : ChannelSlot) → (i ≡ f → Rests own t) → Goes (stored o f t)
  goes-stored o f t g =
      by-test (eqb i f)
      (λ u. let e = eqb-true i f u in
      subst (Rests own) (sym (ap (λ (x : ℕ). slot_in (set ss x t) i) (sym e) ∙ slot-set-same ss i t inside)) (g e))
      (λ u. subst (Rests own) (sym (slot-set-other ss f i t (eqb-false i f u))) (rests-same own))

  -- the place that a number of ours is found at is another
  not_local : (local : LocalId) → eqb local.0 own.local.0 ≡ false → place_of (Local local) n ss < n → i ≡ place_of (Local local) n ss → ⊥
  unfolding wanted_by
  not_local local f k e =
      let w : wanted_by (Local local) own ≡ true = subst (λ (x : ℕ). wanted_by (Local local) (slot_in ss x) ≡ true) (sym e) (place_found (Local local) n ss full k) in
      let q = eqb-true own.local.0 local.0 (and-true own.filled _ w).1 in
      eqb-false local.0 own.local.0 f (sym q)

  not-remote : (remote : RemoteId) → eqb remote.0 own.remote.0 ≡ false → remote_place n ss remote < n → i ≡ remote_place n ss remote → ⊥
  unfolding remote_place wanted_by
  not-remote remote f =
      pick Elsewhere (eqb remote.0 0) (λ z k e. omega arith)
      (λ z. by-named n ss remote Elsewhere
      (λ _ k e. elsewhere (live-remote remote own (subst (λ (x : ℕ). wanted_by (Live remote) (slot_in ss x) ≡ true) (sym e) (place_found (Live remote) n ss full k))))
      (λ k e. elsewhere (subst (λ (x : ℕ). wanted_by (Remote remote) (slot_in ss x) ≡ true) (sym e) (place_found (Remote remote) n ss full k))))
    where
      Elsewhere : ℕ → Type 0
      Elsewhere x = x < n → i ≡ x → ⊥

      elsewhere : wanted_by (Remote remote) own ≡ true → ⊥
      elsewhere w =
          let q = eqb-true own.remote.0 remote.0 (and-true (own.filled && own.has_remote) _ w).1 in
          eqb-false remote.0 own.remote.0 f (sym q)

  -- a WRTE
  goes-buffered : (o : DispatchOutcome) (f k u : ℕ) → Goes (stored o f (buffered_with (slot_in ss f) p k u))
  unfolding buffered_with
  goes-buffered o f k u =
      goes-stored o f _ (λ e. subst (λ (x : ℕ). Rests own (buffered_with (slot_in ss x) p k u)) e (record { state = refl; acked = refl; budget = refl }))

  goes-wrote : (f : ℕ) (remote : RemoteId) (payload rx : List ℕ)
      → Goes (wrote_by p f (slot_in ss f) remote payload rx (wrote_of (slot_in ss f) p (length payload))).step
  unfolding wrote_of wrote_by
  goes-wrote f remote payload rx =
      let s = slot_in ss f in
      let k = length payload in
      let G : Wrote → Type 0 = λ w. Goes (wrote_by p f s remote payload rx w).step in
      pick G (is_opening s.state) (λ o. goes_left (faulted f s remote UnexpectedCommand))
      (λ o. pick G (ltb p.rx_cap (held_of s + k)) (λ h. goes_left (faulted f s remote RxOverflow))
      (λ h. pick G (acks_now s p (held_of s + k)) (λ a. goes-buffered (AckWrite f (ids_in s) k) f k 0) (λ a. goes-buffered (DataBuffered f) f k _)))

  goes-write : (remote : RemoteId) (local : LocalId) (payload rx : List ℕ) → Goes (write_of p n ss remote local payload rx).step
  unfolding write_of wrote_at
  goes-write remote local payload rx =
      let f = place_of (Local local) n ss in
      let G : Dispatched → Type 0 = λ d. Goes d.step in
      pick G (ltb f n)
      (λ t. pick G (is_failed (slot_in ss f).failed) (λ u. goes_left Unmatched) (λ u. goes-wrote f remote payload rx))
      (λ t. goes_left Unmatched)

  -- an OKAY of another channel
  goes-granted : (f : ℕ) (remote : RemoteId) (r : Result ChannelSlot CreditFault) → (i ≡ f → ⊥) → Goes (granted f (slot_in ss f) remote r)
  unfolding granted
  goes-granted f remote (Ok t) h = goes-stored (CreditGranted f) f t (λ e. absurd (h e))
  goes-granted f remote (Err b) h = goes_left (faulted f (slot_in ss f) remote (BadCredit b))

  goes-ready : (remote : RemoteId) (local : LocalId) (payload : List ℕ) → eqb local.0 own.local.0 ≡ false → Goes (grant_of p n ss remote local payload)
  unfolding grant_of ready_at
  goes-ready remote local payload g =
      let f = place_of (Local local) n ss in
      let s = slot_in ss f in
      pick Goes (ltb f n)
      (λ t. pick Goes (is_failed s.failed) (λ u. goes_left Unmatched)
      (λ u. goes-granted f remote (readied_of s remote payload p) (not_local local g (ltb-true f n t))))
      (λ t. goes_left (stray_of remote local))

  -- a CLSE that names another
  goes-closed : (f : ℕ) (other : DispatchOutcome) → (f < n → i ≡ f → ⊥) → Goes (closed_at f n ss other)
  unfolding closed_at
  goes-closed f other h =
      pick Goes (ltb f n) (λ t. goes-stored (SlotClosed f) f (closed_slot (slot_in ss f)) (λ e. absurd (h (ltb-true f n t) e))) (λ t. goes_left other)

  goes_close : (remote : RemoteId) (local : LocalId) → named_by (ids_in own) remote.0 local.0 ≡ false → Goes (close_of n ss remote local)
  unfolding close_of
  goes_close remote local g =
      let k = named-not (ids_in own) remote.0 local.0 g in
      pick Goes (eqb local.0 0) (λ t. goes-closed (remote_place n ss remote) (CancelQueuedOpen remote) (not-remote remote (k.1 t)))
      (λ t. goes-closed (place_of (Local local) n ss) Unmatched (not_local local k.0))

  -- any packet
  goes-route : (c : Command) (a b : ℕ) (payload rx : List ℕ) → (is_ready c && eqb b own.local.0) ≡ false → cond (is_close c) (named_by (ids_in own) a b) false ≡ false
      → Goes (route_of p n ss c a b payload rx).step
  unfolding is_ready is_close is_the word_of letters_of num_of
  goes-route c a b payload rx h g =
      by-route p n ss a b payload rx
      (λ c d. (is_ready c && eqb b own.local.0) ≡ false → cond (is_close c) (named_by (ids_in own) a b) false ≡ false → Goes d.step)
      (λ c e h g. goes_left Unmatched) (λ h g. goes_left (IncomingOpen (record { 0 = a }) b)) (λ h g. goes_close (record { 0 = a }) (record { 0 = b }) g)
      (λ h g. goes-write (record { 0 = a }) (record { 0 = b }) payload rx) (λ h g. goes-ready (record { 0 = a }) (record { 0 = b }) payload h) c h g

-- ---- acting

module _ (h : Header) (ss : List ChannelSlot) (i : ℕ) (queue : List QueuedOpen) (payload store : List ℕ) (d : Dispatched)
    (g : Rests (slot_in ss i) (slot_in (slots_by ss d.step.changes) i)) where
  abbrev After : Acted → Type 0
  After a = Rests (slot_in ss i) (slot_in (slots_by ss a.changes) i)

  -- what changes no slot more
  more : (ys : List Change) → slots_by (slots_by ss d.step.changes) ys ≡ slots_by ss d.step.changes → Rests (slot_in ss i) (slot_in (slots_by ss (d.step.changes ++ ys)) i)
  more ys e = subst (λ (x : List ChannelSlot). Rests (slot_in ss i) (slot_in x i)) (sym (slots-append ss d.step.changes ys ∙ e)) g

  pushed-rests : (remote : RemoteId) (credit : ℕ)
      → After (pushed_by h store d remote (pushed h queue remote credit payload store) (pushed h queue remote credit payload store).result)
  unfolding pushed pushed_by
  pushed-rests remote credit =
      pick (λ (x : PushOutcome). After (pushed_by h store d remote x x.result)) (leb h.negotiated.config.channels h.queued) (λ t. g) (λ t. more _ refl)

  acted-rests : (o : DispatchOutcome) → After (acted_by h queue payload store d o)
  unfolding acted_by withdrawal
  acted-rests (AckWrite j ids len) = g
  acted-rests (CreditGranted j) = g
  acted-rests (SlotClosed j) = g
  acted-rests (DataBuffered j) = g
  acted-rests (IncomingOpen remote credit) = pushed-rests remote credit
  acted-rests (CancelQueuedOpen remote) = more _ refl
  acted-rests (StrayReady ids) = g
  acted-rests (ChannelFault j ids opening f) = g
  acted-rests Unmatched = g

pub rest-act : (h : Header) (ss : List ChannelSlot) (queue : List QueuedOpen) (rx store : List ℕ) (k : Packet) (payload : List ℕ) (i : ℕ) → h.negotiated.config.channels ≤ length ss
    → i < length ss → (is_ready k.command && eqb k.arg1 (slot_in ss i).local.0) ≡ false → closed_by (ids_in (slot_in ss i)) k ≡ false
    → Rests (slot_in ss i) (slot_in (slots_by ss (act_on h ss queue rx store k payload).changes) i)
unfolding act_on table_of dispatch_of closed_by
rest-act h ss queue rx store k payload i full inside f g =
    acted-rests h ss i queue payload store (table_of h ss rx k payload)
    (goes-route (policy_of h.negotiated) h.negotiated.config.channels ss i full inside k.command k.arg0 k.arg1 payload rx f g)
    (table_of h ss rx k payload).step.result

-- ---- a slot stored where it was read

back-layout : (c : Connection) (r : List ℕ) (i : ℕ) → Full c → i < 64 → put_slot (layout c ++ r) i (slot_in c.slots i) ≡ layout c ++ r
unfolding slot_in
back-layout c r i f h =
    change-layout c r (slot_to i (slot_in c.slots i)) f h
    ∙ ap (λ (ss : List ChannelSlot). layout (record { header = c.header; slots = ss; queue = c.queue }) ++ r) (set-get_or c.slots i empty_slot)

-- behind changes to a state's bytes
pub put_back : (b : List ℕ) (xs : List Change) (i : ℕ) → Bytes b → is_state b ≡ true → Every InPlace xs → i < 64
    → put_slot (put_all b xs) i (slot_in (changed_all (state_of b) xs).slots i) ≡ put_all b xs
put_back b xs i y t w h =
    let e = changes-bytes b xs y t w in
    let c = changed_all (state_of b) xs in
    ap (λ (x : List ℕ). put_slot x i (slot_in c.slots i)) e ∙ back-layout c (drop state_len b) i (full-all (state_of b) xs (state-full b) w) h ∙ sym e
