-- The books as the owner keeps them, before the host's CNXN came and over every list. Assumes nothing.
use Rattle.std.proofs.Common.{◌≡◌, refl, sym, ap, subst, ◌∙◌, true, false, cond, ◌||◌, List, [], ◌∷◌, ◌++◌, append-nil, map, ℕ, ◌+◌, ◌≤◌, ltb, eqb, length, Option, Some, None, Result, Ok, Err, arith}
use mathlib.Core.Bool.{true≢false}
use borrow.Author.Tests.{ne_eqb, eq-eqb}
use Rattle.le.specs.Rows.{flat}
use Rattle.config.specs.declared.negotiated.RxPolicy.{RxPolicy}
use Rattle.config.specs.declared.negotiated.Negotiated.{Negotiated}
use Rattle.protocol.specs.declared.packet.DecodeError.{DecodeError}
use Rattle.protocol.specs.declared.packet.Packet.{Packet}
use Rattle.protocol.specs.Message.{message_size}
use Rattle.protocol.specs.Packet.{payload_of, decode_of}
use Rattle.slot.proofs.Kept.{pick}
use Rattle.slot.proofs.Laws.{cond-true, cond-false}
use Rattle.state.specs.declared.Header.{Header}
use Rattle.state.specs.State.{state_of}
use Rattle.connection.specs.declared.Answer.{Answer}
use Rattle.connection.specs.declared.Answer.TheVariants.{Refused}
use Rattle.connection.specs.declared.Refusal.{Refusal}
use Rattle.connection.specs.declared.Refusal.TheVariants.{OutShort}
use Rattle.connection.specs.Answer.{answer_number}
use Rattle.connection.specs.Frames.{frames_bytes, Sent}
use Rattle.connection.proofs.Sending.{sent_of}
use Rattle.call.specs.Promise.{lent_of}
use Rattle.history.specs.Run.{Call, World, bytes_in, outcome}
use Rattle.history.specs.Seen.{Seen, held_of, seen_of, sent_by, sent_in, events_of}
use Rattle.history.specs.Book.{header_at, last_open, Ledger, clean, book_at, entry, ledger_of}
use Rattle.history.specs.Demand3.{place_slot, run_of, Apart, Place}
use Rattle.history.proofs.Never13.{Holds}
use Rattle.history.proofs.Written.{seen-is}
use Rattle.device_meets.specs.declared.Met.{Met}
use Rattle.device_meets.specs.declared.Verdict.{Verdict}
use Rattle.device_meets.specs.declared.Verdict.TheVariants.{Ignore}
use Rattle.device.specs.Device.{is_connected, head_fine, head_of, text_in, is_waiting, judged, Gives, given, and_judged, shown, met_in, behind, called, unchanged}
use Rattle.device_dispatch.specs.Promise.{is_cnxn}
use Rattle.device.specs.Answer.{device_number}
use Rattle.device_history.specs.Run.{DeviceCall, device_dispatches, device_reads, device_writes, device_settles, device_takes, device_closes, DeviceWorld, connection, gives, leaves_by, leaves, leaves_all, device_begins}
use Rattle.device_history.specs.Trace.{Beginning, begins_at, policy_at, Part, goes, stays, anew, connects, connects_by, first_part, met_by_call, part_of, verdict_calls, behind_calls, calls_of, Story, joined, told_on, first_made, story}
use Rattle.device_history.specs.Owner.{arrived, host_call, passes, Entry, as_it_is, with_none, stands_for, entries, device_seen, device_events, device_entry, device_ledger, OwnersBooks, OwnersExact}
use Rattle.device_history.proofs.Starts.{started}
use Rattle.device_history.proofs.Heads.{halves, flagged-flag}
use Rattle.device_history.proofs.Parts.{Goes, Begun, Does, does}
use Rattle.device_history.proofs.Follows.{agreed_at, Keeps, keeps-holds, part-keeps, keeps-first}
use Rattle.device_history.proofs.Exact.{device-exact}
use Rattle.device_history.proofs.BookLaws.{none-entry}
use Rattle.device_history.proofs.SeenLaws.{number-most, seen-given}
use Rattle.device_history.proofs.OwnerLaws.{booked, booked-on, grows, goes-flag, onward}

-- ---- what a call is, before the host's CNXN came

-- what is met then is ignored
abbrev pub Plainly : Option Met → Type 0
Plainly (Some m) = m.verdict ≡ Ignore
Plainly None = Unit {0}

pub record Early (x : DeviceCall) (c : Call) (m : Option Met) : Type 0 where
  pub handed : List ℕ
  pub is : c ≡ host_call x handed
  pub plain : Plainly m

abbrev pub EarlyOf : DeviceCall → Part → Type 0
EarlyOf x (goes c m) = Early x c m
EarlyOf x stays = Unit {0}
EarlyOf x (anew j) = Unit {0}

connects-early : (w : DeviceWorld) (out names received : List ℕ) (k : Packet) (payload : List ℕ) (r : Result Header Refusal) → EarlyOf (device_dispatches out names received) (connects_by w out received k payload r)
unfolding connects_by connects host_call
connects-early w out names received k payload (Err e) = record { handed = received; is = refl; plain = tt }
connects-early w out names received k payload (Ok h) =
    pick (EarlyOf (device_dispatches out names received)) (ltb (length out) (message_size + length (text_in w.state))) (λ t. tt) (λ t. tt)

pub first-early : (w : DeviceWorld) (out names received : List ℕ) (d : Result (Option Packet) DecodeError) → EarlyOf (device_dispatches out names received) (first_part w out received d)
unfolding first_part host_call
first-early w out names received (Ok (Some k)) =
    pick (EarlyOf (device_dispatches out names received)) (is_cnxn k.command)
    (λ t. connects-early w out names received k (payload_of (bytes_in received) k.data_length) _)
    (λ t. record { handed = []; is = refl; plain = refl })
first-early w out names received (Ok None) = record { handed = received; is = refl; plain = tt }
first-early w out names received (Err e) = record { handed = received; is = refl; plain = tt }

met-plain : (w : DeviceWorld) (names received : List ℕ) → is_connected w.state ≡ false → Plainly (met_by_call w names received)
unfolding met_in
met-plain w names received t = pick Plainly (is_connected w.state) (λ u. absurd (true≢false (sym u ∙ t))) (λ u. refl)

early : (w : DeviceWorld) → is_connected w.state ≡ false → (x : DeviceCall) → EarlyOf x (part_of w x)
unfolding part_of host_call
early w t (device_dispatches out names received) =
    pick (EarlyOf (device_dispatches out names received)) (is_connected w.state) (λ u. absurd (true≢false (sym u ∙ t))) (λ u. first-early w out names received _)
early w t (device_reads out names ch buf received) = record { handed = shown received (met_by_call w names received); is = refl; plain = met-plain w names received t }
early w t (device_writes out names ch bytes received) = record { handed = shown received (met_by_call w names received); is = refl; plain = met-plain w names received t }
early w t (device_settles out ch want) = record { handed = []; is = refl; plain = tt }
early w t (device_takes ch buf) = record { handed = []; is = refl; plain = tt }
early w t (device_closes out ch) = record { handed = []; is = refl; plain = tt }

-- ---- what is seen of one

record EarlySeen (fs : List Sent) (u : Seen) : Type 0 where
  number : u.number ≤ 102
  sent : u.sent ≡ fs

module _ (n : Negotiated) (r : List ℕ) (rx store : ℕ) (v : World) (h : Holds n r rx store v) (head : List ℕ) (handled : Answer) (c : Call) where
  abbrev agreed : Negotiated
  agreed = (state_of v.state).header.negotiated

  abbrev wrote : List Sent
  wrote = map (sent_of agreed) (outcome v c).frames

  given-early : EarlySeen wrote (device_seen (given head v.state (outcome v c)))
  unfolding device_seen given device_number
  given-early = record { number = number-most (outcome v c).answer; sent = ap (λ (u : Seen). u.sent) (seen-given n r rx store v h head c) }

  ignored-early : (used : ℕ) → let g = given head v.state (outcome v c) in
      EarlySeen wrote (device_seen (and_judged g used (judged (lent_of g.inner g.rx g.store) handled Ignore)))
  unfolding device_seen given and_judged judged device_number frames_bytes flat
  ignored-early used =
      record {
        number = number-most handled;
        sent = ap (sent_in 2) (append-nil (frames_bytes agreed (outcome v c).frames)) ∙ ap (λ (u : Seen). u.sent) (seen-given n r rx store v h head c);
      }

  called-early : (m : Option Met) → Plainly m → EarlySeen wrote (device_seen (called head v.state handled (outcome v c) m))
  unfolding called behind
  called-early None q = given-early
  called-early (Some m) q =
      let g = given head v.state (outcome v c) in
      pick (λ (z : Gives). EarlySeen wrote (device_seen z)) (is_waiting (outcome v c).answer)
      (λ t. subst (λ (d : Verdict). EarlySeen wrote (device_seen (and_judged g m.used (judged (lent_of g.inner g.rx g.store) handled d)))) (sym q) (ignored-early m.used))
      (λ t. given-early)

plain-behind : (a : Answer) (m : Option Met) → Plainly m → behind_calls a m ≡ []
unfolding behind_calls verdict_calls
plain-behind a None q = refl
plain-behind a (Some m) q =
    ap (λ (d : Verdict). cond (is_waiting a) (verdict_calls d) []) q ∙ pick (λ (cs : List Call). cs ≡ []) (is_waiting a) (λ t. refl) (λ t. refl)

-- ---- its entry

module _ (p : RxPolicy) (x : DeviceCall) (y : Ledger) (blank : y.books ≡ clean.books) where
  -- only the last OPEN may change, where no channel is there
  abbrev opened : List Sent → Ledger
  opened fs = record { asked = last_open fs y.asked; books = y.books }

  early-entry : (u : Seen) (fs : List Sent) → EarlySeen fs u → device_entry p x u y ≡ opened fs
  unfolding device_entry stands_for entries
  early-entry u fs s =
      let m = s.number in
      let a : List Entry = as_it_is x u ∷ [] in
      let b : List Entry = with_none x u u.sent ∷ [] in
      let t = eqb u.used 0 || eqb u.number 4 || passes y.books (header_at (bytes_in (arrived x))) in
      cond-false (eqb u.number 104) clean _ (ne_eqb u.number 104 (λ i. omega arith))
      ∙ ap (λ (es : List Entry). entries p es y) (cond-false (eqb u.number 103) _ (cond t a b) (ne_eqb u.number 103 (λ i. omega arith)))
      ∙ pick (λ (es : List Entry). entries p es y ≡ opened u.sent) t (λ q. none-entry p x (arrived x) u y blank) (λ q. none-entry p x [] _ y blank)
      ∙ ap opened s.sent

-- ---- a list of calls before it came

module _ (p : RxPolicy) (rx store : ℕ) where
  abbrev Before : Ledger → Story → DeviceWorld → List DeviceCall → Type 0
  Before y s w xs = device_ledger p y (device_events w xs) ≡ booked p (told_on s w xs)

  abbrev LastApart : Story → Type 0
  LastApart s = Apart (begins_at s.from) s.calls

  goes-early : (s : Story) (w : DeviceWorld) (k : Keeps rx store s w) (y : Ledger) (blank : y.books ≡ clean.books) → y ≡ booked p s → (x : DeviceCall) (g : Gives) (c : Call) (m : Option Met)
      → Goes w k.fine g c m → Early x c m
      → (device_entry p x (device_seen g) y ≡ ledger_of p clean (events_of (begins_at s.from) (s.calls ++ calls_of (connection w) c m))) × ((device_entry p x (device_seen g) y).books ≡ clean.books)
  unfolding events_of ledger_of
  goes-early s w k y blank e x g c m d i =
      let v = connection w in
      let nn = agreed_at s.from in
      let h = keeps-holds rx store s w k in
      let fs = map (sent_of (state_of v.state).header.negotiated) (outcome v c).frames in
      let u : EarlySeen fs (device_seen g) =
      subst (λ (z : Gives). EarlySeen fs (device_seen z)) (sym d.is) (called-early nn _ _ _ v h (head_of w.state) d.handled c m i.plain) in
      let a : device_entry p x (device_seen g) y ≡ record { asked = last_open fs y.asked; books = y.books } = early-entry p x y blank (device_seen g) fs u in
      let o : Seen = seen_of (record { call = c; held = held_of v c }) in
      let sent : o.sent ≡ fs = ap (λ (z : Seen). z.sent) (seen-is nn _ _ _ v h c) in
      let b : entry p c o y ≡ record { asked = last_open fs y.asked; books = y.books } =
      ap (λ (z : Call). entry p z o y) i.is ∙ none-entry p x i.handed o y blank ∙ ap (λ (l : List Sent). record { asked = last_open l y.asked; books = y.books }) sent in
      let one : ledger_of p y (events_of v (calls_of v c m)) ≡ entry p c o y = ap (λ (cs : List Call). ledger_of p y (events_of v (c ∷ cs))) (plain-behind (outcome v c).answer m i.plain) in
      (a ∙ sym b ∙ sym one ∙ booked-on p rx store s w k y e (calls_of v c m), ap (λ (z : Ledger). z.books) a ∙ blank)

  -- our CNXN did not fit
  stays-early : (w : DeviceWorld) (y : Ledger) (blank : y.books ≡ clean.books) (x : DeviceCall) → device_entry p x (device_seen (unchanged w.state w.rx w.store (Refused OutShort))) y ≡ y
  unfolding device_seen unchanged device_number answer_number sent_in sent_by decode_of last_open
  stays-early w y blank x =
      early-entry p x y blank (device_seen (unchanged w.state w.rx w.store (Refused OutShort))) [] (record { number = omega arith; sent = refl })

  stays-flagless : (w : DeviceWorld) (fine : head_fine w.state ≡ true) → is_connected (leaves_by (unchanged w.state w.rx w.store (Refused OutShort))).state ≡ is_connected w.state
  unfolding leaves_by unchanged
  stays-flagless w fine = ap is_connected (halves w.state fine)

  -- it came
  anew-flag : (w : DeviceWorld) (fine : head_fine w.state ≡ true) (g : Gives) (j : Beginning) → Begun w fine g j → is_connected (leaves_by g).state ≡ true
  unfolding leaves_by
  anew-flag w fine g j d = ap (λ (z : List ℕ). is_connected (z ++ g.inner)) d.head-is ∙ flagged-flag w.state fine g.inner

  anew-entry : (x : DeviceCall) (g : Gives) (y : Ledger) → device_number g.answer ≡ 104 → device_entry p x (device_seen g) y ≡ clean
  unfolding device_entry device_seen
  anew-entry x g y e = cond-true (eqb (device_number g.answer) 104) clean _ (eq-eqb (device_number g.answer) 104 e)

  before-by : (s : Story) (w : DeviceWorld) (k : Keeps rx store s w) → is_connected w.state ≡ false → (y : Ledger) → y.books ≡ clean.books → y ≡ booked p s
      → (x : DeviceCall) (g : Gives) (q : Part) → Does w k.fine g q → EarlyOf x q → (xs : List DeviceCall)
      → ((z : Ledger) → is_connected (leaves_by g).state ≡ false → z.books ≡ clean.books → z ≡ booked p (joined s (connection w) q) → Before z (joined s (connection w) q) (leaves_by g) xs)
      → Keeps rx store (joined s (connection w) q) (leaves_by g)
      → p ≡ policy_at (told_on (joined s (connection w) q) (leaves_by g) xs).from → LastApart (told_on (joined s (connection w) q) (leaves_by g) xs)
      → Before (device_entry p x (device_seen g) y) (joined s (connection w) q) (leaves_by g) xs
  unfolding joined events_of ledger_of
  before-by s w k t y blank e x g (goes c m) d i xs f kk pe a =
      let z = goes-early s w k y blank e x g c m d i in
      f (device_entry p x (device_seen g) y) (goes-flag w k.fine g c m d ∙ t) z.1 z.0
  before-by s w k t y blank e x g stays d i xs f kk pe a =
      let z : device_entry p x (device_seen g) y ≡ y = ap (λ (q : Gives). device_entry p x (device_seen q) y) d ∙ stays-early w y blank x in
      f (device_entry p x (device_seen g) y) (ap (λ (q : Gives). is_connected (leaves_by q).state) d ∙ stays-flagless w k.fine ∙ t) (ap (λ (q : Ledger). q.books) z ∙ blank) (z ∙ e)
  before-by s w k t y blank e x g (anew j) d i xs f kk pe a =
      let s' : Story = record { from = j; calls = [] } in
      let w' = leaves_by g in
      let c = anew-flag w k.fine g j d in
      let gr = grows rx store s' w' kk c xs in
      let last = told_on s' w' xs in
      let b : Apart (begins_at j) last.calls = subst (λ (z : Beginning). Apart (begins_at z) last.calls) gr.from a in
      ap (λ (z : Ledger). device_ledger p z (device_events w' xs)) (anew-entry x g y d.number)
      ∙ onward p rx store s' w' kk c clean d.fit (pe ∙ ap policy_at gr.from) refl xs b
      ∙ ap (λ (z : Beginning). ledger_of p clean (events_of (begins_at z) last.calls)) (sym gr.from)

  before : (s : Story) (w : DeviceWorld) → Keeps rx store s w → is_connected w.state ≡ false → (y : Ledger) → y.books ≡ clean.books → y ≡ booked p s
      → (xs : List DeviceCall) → p ≡ policy_at (told_on s w xs).from → LastApart (told_on s w xs) → Before y s w xs
  unfolding told_on device_events device_ledger
  before s w k t y blank e [] pe a = e
  before s w k t y blank e (x ∷ xs) pe a =
      let d = does w k.fine x in
      let kk = part-keeps rx store s w k (gives w x) (part_of w x) d in
      before-by s w k t y blank e x (gives w x) (part_of w x) d (early w t x) xs
      (λ z c l i. before (joined s (connection w) (part_of w x)) (leaves w x) kk c z l i xs pe a) kk pe a

-- ---- over every list

pub owners-books : OwnersBooks
unfolding events_of ledger_of
owners-books d xs apart =
    before (policy_at (story d xs).from) (length d.rx) (length d.store) (record { from = first_made d; calls = [] }) (device_begins d) (keeps-first d) (started d).alone clean refl refl xs refl apart

pub owners-exact : OwnersExact
owners-exact d xs apart i =
    let s = story d xs in
    let p = policy_at s.from in
    let v = connection (leaves_all (device_begins d) xs) in
    subst (λ (y : Ledger). Place p (place_slot v i) (run_of v.rx p.rx_cap i (place_slot v i)) (book_at y i)) (sym (owners-books d xs apart)) ((device-exact d xs apart).places i)
