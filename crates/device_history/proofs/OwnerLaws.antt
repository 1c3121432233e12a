-- The books as the owner of a device's end keeps them are those of the connection's list. Assumes nothing.
use Rattle.std.proofs.Common.{◌≡◌, refl, sym, ap, ap₂, subst, ◌∙◌, true, false, List, [], ◌∷◌, ◌++◌, append-nil, append_assoc, ℕ, ◌*◌, ◌≤◌, eqb, length, drop, Option, Some, None, Result, Ok, Err, arith}
use mathlib.Core.Bool.{true≢false}
use borrow.Author.Tests.{ne_eqb}
use Rattle.config.specs.declared.negotiated.Negotiated.{Negotiated}
use Rattle.config.specs.declared.negotiated.RxPolicy.{RxPolicy}
use Rattle.config.specs.Config.{stores_fit, cap_of}
use Rattle.config.specs.Negotiated.{policy_of}
use Rattle.protocol.specs.declared.packet.DecodeError.{DecodeError}
use Rattle.protocol.specs.declared.packet.Packet.{Packet}
use Rattle.protocol.specs.Packet.{payload_of, decode_of}
use Rattle.slot.specs.declared.ChannelSlot.{ChannelSlot}
use Rattle.slot.proofs.Kept.{pick}
use Rattle.slot.proofs.Laws.{cond-true, cond-false}
use Rattle.state.specs.State.{state_len, state_of}
use Rattle.connection.specs.declared.Answer.{Answer}
use Rattle.connection.specs.declared.Answer.TheVariants.{Done, Waiting, Nothing, Opened, Settled, Read, Written, Front, Numbers, Refused}
use Rattle.connection.specs.Calls.{Lent, Outcome, verdict_step}
use Rattle.history.specs.Run.{Call, World, bytes_in, outcome, after, after_all}
use Rattle.history.specs.Seen.{events_of}
use Rattle.history.specs.Book.{header_at, Ledger, clean, ledger_of}
use Rattle.history.specs.Demand3.{Distinct, Apart}
use Rattle.history.proofs.Never13.{Holds}
use Rattle.history.proofs.Theorem.{fits-long, Kept, marked, table, ran, fresh-far, fresh_start}
use Rattle.device_meets.specs.declared.Met.{Met}
use Rattle.device_meets.specs.declared.Verdict.{Verdict}
use Rattle.device_meets.specs.declared.Verdict.TheVariants.{Ignore, Refuse, Take}
use Rattle.device_meets.specs.Meets.{is_stream, by_command, met_by, meets}
use Rattle.device.specs.declared.DeviceAnswer.TheVariants.{Plain}
use Rattle.device.specs.Device.{is_connected, head_fine, head_of, inner_of, is_waiting, taken_as, judged, Gives, given, and_judged, shown, met_in, behind, called}
use Rattle.device.specs.Answer.{device_number}
use Rattle.device_history.specs.Run.{DeviceCall, device_dispatches, device_reads, device_writes, device_settles, device_takes, device_closes, DeviceWorld, connection, gives, leaves_by, leaves}
use Rattle.device_history.specs.Trace.{Beginning, begins_at, policy_at, Part, goes, stays, anew, header_in, part_of, behind_calls, calls_of, Story, joined, told_on}
use Rattle.device_history.specs.Owner.{arrived, host_call, names_stream, passes, stands_for, entries, device_seen, device_events, device_entry, device_ledger}
use Rattle.device_history.proofs.Heads.{stays-flag}
use Rattle.device_history.proofs.Parts.{Goes, Does, does}
use Rattle.device_history.proofs.Follows.{called-head, start_of, agreed_at, Keeps, keeps-holds, part-keeps}
use Rattle.device_history.proofs.StreamLaws.{stream-agrees, by_kind, passes-is, met-none, met-some}
use Rattle.device_history.proofs.BookLaws.{ledger-append, events-append}
use Rattle.device_history.proofs.SeenLaws.{number-most}
use Rattle.device_history.proofs.CoreLaws.{core-none, core-met}

-- ---- numbers

abbrev Below : Gives → Type 0
Below g = device_number g.answer ≤ 103

handled-below : (a : Answer) → device_number (Plain a) ≤ 103
unfolding device_number
handled-below a = let m = number-most a in omega arith

taken-below : (handled : Answer) → (remote : _) (place : ℕ) (a : Answer) → device_number (taken_as handled remote place a) ≤ 103
unfolding taken_as device_number
taken-below handled remote place Done = handled-below handled
taken-below handled remote place Waiting = handled-below handled
taken-below handled remote place Nothing = handled-below handled
taken-below handled remote place (Opened ch) = omega arith
taken-below handled remote place (Settled a) = handled-below handled
taken-below handled remote place (Read n) = handled-below handled
taken-below handled remote place (Written n) = handled-below handled
taken-below handled remote place (Front r c p n) = handled-below handled
taken-below handled remote place (Numbers t total buffered unacked budget) = handled-below handled
taken-below handled remote place (Refused r) = handled-below handled

judged-below : (l : Lent) (handled : Answer) (d : Verdict) → device_number (judged l handled d).answer ≤ 103
unfolding judged
judged-below l handled Ignore = handled-below handled
judged-below l handled (Refuse remote) = handled-below handled
judged-below l handled (Take remote credit place) = taken-below handled remote place (verdict_step l true remote credit).answer

called-below : (head b : List ℕ) (handled : Answer) (o : Outcome) (m : Option Met) → Below (called head b handled o m)
unfolding called behind given and_judged
called-below head b handled o None = handled-below o.answer
called-below head b handled o (Some m) = pick Below (is_waiting o.answer) (λ t. judged-below _ handled m.verdict) (λ t. handled-below o.answer)

-- ---- what a call is, once the host's CNXN came

abbrev names_of : DeviceCall → List ℕ
names_of (device_dispatches out names received) = bytes_in names
names_of (device_reads out names ch buf received) = bytes_in names
names_of (device_writes out names ch bytes received) = bytes_in names
names_of (device_settles out ch want) = []
names_of (device_takes ch buf) = []
names_of (device_closes out ch) = []

abbrev Shape : DeviceWorld → DeviceCall → Part → Type 0
Shape w x (goes c m) = (c ≡ host_call x (shown (arrived x) m)) × (m ≡ meets (header_in w) (state_of (inner_of w.state)).slots (names_of x) (bytes_in (arrived x)))
Shape w x stays = ⊥
Shape w x (anew j) = ⊥

shape : (w : DeviceWorld) → is_connected w.state ≡ true → (x : DeviceCall) → Shape w x (part_of w x)
unfolding part_of host_call arrived met_in meets met_by decode_of bytes_in shown
shape w t (device_dispatches out names received) =
    pick (Shape w (device_dispatches out names received)) (is_connected w.state) (λ u. (refl, cond-true (is_connected w.state) _ _ t)) (λ u. absurd (true≢false (sym t ∙ u)))
shape w t (device_reads out names ch buf received) = (refl, cond-true (is_connected w.state) _ _ t)
shape w t (device_writes out names ch bytes received) = (refl, cond-true (is_connected w.state) _ _ t)
shape w t (device_settles out ch want) = (refl, refl)
shape w t (device_takes ch buf) = (refl, refl)
shape w t (device_closes out ch) = (refl, refl)

none-some : {A : Type 0} (x : A) → ◌≡◌ {A = Option A} (Some x) None → ⊥
none-some x e = let z : ◌≡◌ {A = ℕ} 0 1 = cc in omega arith

-- ---- one call at a connected end

module _ (p : RxPolicy) (w : DeviceWorld) (fine : head_fine w.state ≡ true) (n : Negotiated) (r : List ℕ) (rx store : ℕ) (h : Holds n r rx store (connection w)) (y : Ledger)
    (agree : (l : ℕ) → names_stream y.books l ≡ is_stream (header_in w).negotiated.config.channels (state_of (inner_of w.state)).slots (record { 0 = l })) (x : DeviceCall) where
  abbrev v : World
  v = connection w

  abbrev ss : List ChannelSlot
  ss = (state_of (inner_of w.state)).slots

  abbrev rec : List ℕ
  rec = bytes_in (arrived x)

  abbrev limit : ℕ
  limit = (header_in w).negotiated.config.max_payload

  abbrev nm : List ℕ
  nm = names_of x

  abbrev counts : Gives → Ledger
  counts g = entries p (stands_for y.books x (device_seen g)) y

  -- what passes
  met-passes : (m : Option Met) → m ≡ None → m ≡ meets (header_in w) ss nm rec → (k : Packet) → decode_of rec limit ≡ Ok (Some k) → passes y.books (header_at rec) ≡ true
  unfolding meets met_by by_command
  met-passes m i q k e =
      passes-is y.books rec limit k e ∙ ap (by_kind k.command) (agree k.arg1)
      ∙ met-none (header_in w) ss nm k (payload_of rec k.data_length) k.command (sym (ap (met_by (header_in w) ss nm rec) e) ∙ sym q ∙ i)

  -- what is met
  met-stops : (m : Met) (d : Result (Option Packet) DecodeError) → decode_of rec limit ≡ d → ◌≡◌ {A = Option Met} (Some m) (met_by (header_in w) ss nm rec d)
      → (passes y.books (header_at rec) ≡ false) × (eqb m.used 0 ≡ false)
  unfolding met_by by_command
  met-stops m (Ok (Some k)) e q =
      let z = met-some (header_in w) ss nm k (payload_of rec k.data_length) k.command m (sym q) in
      let u = z.used in
      (passes-is y.books rec limit k e ∙ ap (by_kind k.command) (agree k.arg1) ∙ z.kept, ne_eqb m.used 0 (λ i. omega arith))
  met-stops m (Ok None) e q = absurd (none-some m q)
  met-stops m (Err z) e q = absurd (none-some m q)

  by-met : (g : Gives) (m : Option Met) → Goes w fine g (host_call x (shown (arrived x) m)) m → m ≡ meets (header_in w) ss nm rec
      → counts g ≡ ledger_of p y (events_of v (calls_of v (host_call x (shown (arrived x) m)) m))
  unfolding shown called behind behind_calls events_of ledger_of meets
  by-met g None d q =
      ap counts d.is ∙ core-none p n r rx store v h y x (head_of w.state) (met-passes None refl q)
  by-met g (Some m) d q =
      let z = met-stops m (decode_of rec limit) refl q in
      ap counts d.is ∙ core-met p n r rx store v h y x (head_of w.state) d.handled d.kind m d.fits d.waits z.1 z.0

  pub connected-counts : (g : Gives) (c : Call) (m : Option Met) → Goes w fine g c m → Shape w x (goes c m) → counts g ≡ ledger_of p y (events_of v (calls_of v c m))
  connected-counts g c m d s =
      by-met g m (subst (λ (k : Call). Goes w fine g k m) s.0 d) s.1
      ∙ ap (λ (k : Call). ledger_of p y (events_of v (calls_of v k m))) (sym s.0)

-- ---- between calls, once the host's CNXN came

apart-last : (w : World) (cs : List Call) → Distinct w → Apart w cs → Distinct (after_all w cs)
unfolding Apart after_all
apart-last w [] d a = d
apart-last w (x ∷ cs) d a = apart-last (after w x) cs a.0 a.1

apart-front : (w : World) (xs ys : List Call) → Apart w (xs ++ ys) → Apart w xs
unfolding Apart
apart-front w [] ys a = tt
apart-front w (x ∷ xs) ys a = (a.0, apart-front (after w x) xs ys a.1)

abbrev pub Fit : Beginning → Type 0
Fit g = stores_fit g.config (length g.rx) (length g.store) ≡ true

-- the ledger of a story
abbrev pub booked : RxPolicy → Story → Ledger
booked p s = ledger_of p clean (events_of (begins_at s.from) s.calls)

module _ (rx store : ℕ) (s : Story) (w : DeviceWorld) (k : Keeps rx store s w) (fit : Fit s.from) (apart : Apart (begins_at s.from) s.calls) where
  now : Kept (λ (i : ℕ). false) (agreed_at s.from) (connection w) (booked (policy_at s.from) s)
  now =
      let z = ran (λ (i : ℕ). false) (start_of s.from k.within k.long) fit s.calls apart (λ i q. absurd (true≢false (sym q))) in
      subst (λ (q : World). Kept (λ (i : ℕ). false) (agreed_at s.from) q (booked (policy_at s.from) s)) (sym k.same) z.kept

  far : Distinct (connection w)
  far =
      subst Distinct (sym k.same)
      (apart-last (begins_at s.from) s.calls (fresh-far (agreed_at s.from) (begins_at s.from) (fresh_start (start_of s.from k.within k.long))) apart)

  -- the books tell which streams are open
  tells : (y : Ledger) → y ≡ booked (policy_at s.from) s → (l : ℕ)
      → names_stream y.books l ≡ is_stream (header_in w).negotiated.config.channels (state_of (inner_of w.state)).slots (record { 0 = l })
  tells y e l =
      let v = connection w in
      let m = (header_in w).negotiated in
      let r = drop state_len s.from.state in
      let a = length s.from.rx in
      let b = length s.from.store in
      let h : Holds (agreed_at s.from) r a b v = keeps-holds rx store s w k in
      let q : agreed_at s.from ≡ m = sym h.facts.header.negotiated in
      let hm : Holds m r a b v = subst (λ (z : Negotiated). Holds z r a b v) q h in
      let km : Kept (λ (i : ℕ). false) m v y =
      subst (λ (z : Negotiated). Kept (λ (i : ℕ). false) z v y) q (subst (Kept (λ (i : ℕ). false) (agreed_at s.from) v) (sym e) now) in
      let big : m.config.channels * (2 * cap_of m.config) ≤ a =
      subst (λ (z : Negotiated). z.config.channels * (2 * cap_of z.config) ≤ a) q (fits-long s.from.config s.from.version s.from.most s.from.host s.from.device a b fit) in
      let long : m.config.channels * (2 * cap_of m.config) ≤ length v.rx = subst (λ (z : ℕ). m.config.channels * (2 * cap_of m.config) ≤ z) (sym h.rx-length) big in
      stream-agrees (policy_of m) m.config.channels (state_of (inner_of w.state)).slots w.rx (table (λ (i : ℕ). false) v r a b hm long far) y.books
      (marked (λ (i : ℕ). false) m v y hm.facts.slots.full km) (λ j f. ((km.each j).full f).loc) l

-- the flag stays
pub goes-flag : (w : DeviceWorld) (fine : head_fine w.state ≡ true) (g : Gives) (c : Call) (m : Option Met) → Goes w fine g c m → is_connected (leaves_by g).state ≡ is_connected w.state
unfolding leaves_by
goes-flag w fine g c m d =
    let z = called (head_of w.state) (inner_of w.state) d.handled (outcome (connection w) c) m in
    ap (λ (q : Gives). is_connected (q.head ++ q.inner)) d.is
    ∙ ap (λ (q : List ℕ). is_connected (q ++ z.inner)) (called-head (head_of w.state) (inner_of w.state) d.handled (outcome (connection w) c) m)
    ∙ stays-flag w.state fine z.inner

part-flag : (w : DeviceWorld) (fine : head_fine w.state ≡ true) (x : DeviceCall) (g : Gives) (q : Part) → Does w fine g q → Shape w x q → is_connected w.state ≡ true → is_connected (leaves_by g).state ≡ true
part-flag w fine x g (goes c m) d s t = goes-flag w fine g c m d ∙ t
part-flag w fine x g stays d s t = absurd s
part-flag w fine x g (anew j) d s t = absurd s

-- a story goes on from where it began
pub record Grows (s t : Story) : Type 0 where
  pub from : t.from ≡ s.from
  pub more : List Call
  pub calls : t.calls ≡ s.calls ++ more

grows-by : (s t : Story) (w : DeviceWorld) (x : DeviceCall) (q : Part) → Shape w x q → Grows (joined s (connection w) q) t → Grows s t
unfolding joined
grows-by s t w x (goes c m) h g =
    record {
      from = g.from;
      more = calls_of (connection w) c m ++ g.more;
      calls = g.calls ∙ append_assoc s.calls (calls_of (connection w) c m) g.more;
    }
grows-by s t w x stays h g = absurd h
grows-by s t w x (anew j) h g = absurd h

pub grows : (rx store : ℕ) (s : Story) (w : DeviceWorld) → Keeps rx store s w → is_connected w.state ≡ true → (xs : List DeviceCall) → Grows s (told_on s w xs)
unfolding told_on
grows rx store s w k t [] = record { from = refl; more = []; calls = sym (append-nil s.calls) }
grows rx store s w k t (x ∷ xs) =
    let d = does w k.fine x in
    let h = shape w t x in
    grows-by s _ w x (part_of w x) h
    (grows rx store (joined s (connection w) (part_of w x)) (leaves w x) (part-keeps rx store s w k (gives w x) (part_of w x) d) (part-flag w k.fine x (gives w x) (part_of w x) d h t) xs)

-- ---- a list of calls, once it came

module _ (p : RxPolicy) (rx store : ℕ) where
  -- what is booked of a story with some calls more
  pub booked-on : (s : Story) (w : DeviceWorld) → Keeps rx store s w → (y : Ledger) → y ≡ booked p s → (cs : List Call)
      → ledger_of p y (events_of (connection w) cs) ≡ ledger_of p clean (events_of (begins_at s.from) (s.calls ++ cs))
  booked-on s w k y e cs =
      ap₂ (λ (z : Ledger) (q : World). ledger_of p z (events_of q cs)) e k.same
      ∙ sym (ap (ledger_of p clean) (events-append (begins_at s.from) s.calls cs)
      ∙ ledger-append p clean (events_of (begins_at s.from) s.calls) (events_of (after_all (begins_at s.from) s.calls) cs))

  -- one call's entry
  entry-on : (s : Story) (w : DeviceWorld) (k : Keeps rx store s w) → Fit s.from → Apart (begins_at s.from) s.calls → (y : Ledger) → p ≡ policy_at s.from → y ≡ booked p s
      → (x : DeviceCall) (g : Gives) (c : Call) (m : Option Met) → Goes w k.fine g c m → Shape w x (goes c m)
      → device_entry p x (device_seen g) y ≡ ledger_of p clean (events_of (begins_at s.from) (s.calls ++ calls_of (connection w) c m))
  unfolding device_entry device_seen
  entry-on s w k fit apart y pe e x g c m d sh =
      let u = device_seen g in
      let low : device_number g.answer ≤ 103 = subst Below (sym d.is) (called-below (head_of w.state) (inner_of w.state) d.handled (outcome (connection w) c) m) in
      let q : eqb (device_number g.answer) 104 ≡ false = ne_eqb (device_number g.answer) 104 (λ i. omega arith) in
      cond-false (eqb (device_number g.answer) 104) clean (entries p (stands_for y.books x u) y) q
      ∙ connected-counts p w k.fine (agreed_at s.from) (drop state_len s.from.state) (length s.from.rx) (length s.from.store) (keeps-holds rx store s w k) y
      (tells rx store s w k fit apart y (e ∙ ap (λ (z : RxPolicy). booked z s) pe)) x g c m d sh
      ∙ booked-on s w k y e (calls_of (connection w) c m)

  -- what is claimed of a list more
  abbrev pub Onward : Ledger → Story → DeviceWorld → List DeviceCall → Type 0
  Onward y s w xs = device_ledger p y (device_events w xs) ≡ ledger_of p clean (events_of (begins_at s.from) (told_on s w xs).calls)

  onward-by : (s : Story) (w : DeviceWorld) (k : Keeps rx store s w) → Fit s.from → Apart (begins_at s.from) s.calls → (y : Ledger) → p ≡ policy_at s.from → y ≡ booked p s
      → (x : DeviceCall) (g : Gives) (q : Part) → Does w k.fine g q → Shape w x q → (xs : List DeviceCall)
      → ((z : Ledger) → Fit (joined s (connection w) q).from → p ≡ policy_at (joined s (connection w) q).from → z ≡ booked p (joined s (connection w) q)
      → Apart (begins_at (joined s (connection w) q).from) (told_on (joined s (connection w) q) (leaves_by g) xs).calls → Onward z (joined s (connection w) q) (leaves_by g) xs)
      → Apart (begins_at s.from) (told_on (joined s (connection w) q) (leaves_by g) xs).calls
      → device_ledger p (device_entry p x (device_seen g) y) (device_events (leaves_by g) xs) ≡ ledger_of p clean (events_of (begins_at s.from) (told_on (joined s (connection w) q) (leaves_by g) xs).calls)
  unfolding joined
  onward-by s w k fit apart y pe e x g (goes c m) d sh xs f a = f (device_entry p x (device_seen g) y) fit pe (entry-on s w k fit apart y pe e x g c m d sh) a
  onward-by s w k fit apart y pe e x g stays d sh xs f a = absurd sh
  onward-by s w k fit apart y pe e x g (anew j) d sh xs f a = absurd sh

  pub onward : (s : Story) (w : DeviceWorld) → Keeps rx store s w → is_connected w.state ≡ true → (y : Ledger) → Fit s.from → p ≡ policy_at s.from → y ≡ booked p s
      → (xs : List DeviceCall) → Apart (begins_at s.from) (told_on s w xs).calls → Onward y s w xs
  unfolding told_on device_events device_ledger
  onward s w k t y fit pe e [] a = e
  onward s w k t y fit pe e (x ∷ xs) a =
      let d = does w k.fine x in
      let h = shape w t x in
      let g = grows rx store s w k t (x ∷ xs) in
      let apart : Apart (begins_at s.from) s.calls = apart-front (begins_at s.from) s.calls g.more (subst (Apart (begins_at s.from)) g.calls a) in
      onward-by s w k fit apart y pe e x (gives w x) (part_of w x) d h xs
      (λ z f q i b.
      onward (joined s (connection w) (part_of w x)) (leaves w x) (part-keeps rx store s w k (gives w x) (part_of w x) d) (part-flag w k.fine x (gives w x) (part_of w x) d h t) z f q i xs b)
      a
