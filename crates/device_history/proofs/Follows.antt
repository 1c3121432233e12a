-- A list of device calls is, on the connection's bytes, the list of calls that its story has; and refusal 13 is never given. Assumes
-- nothing.
use Rattle.std.proofs.Common.{◌≡◌, refl, sym, ap, ap₂, subst, ◌∙◌, Bool, true, false, List, [], ◌∷◌, ◌++◌, ℕ, ◌≤◌, ◌<◌, ◌^◌, ◌%◌, ltb, length, drop, replicate, Option, Some, None, Result, Ok, Err, arith}
use native.Mathlib.Nat.{mod-eq_of_lt}
use borrow.Author.Tests.{le-ltb}
use Rattle.le.proofs.Parts.{by-test}
use Rattle.config.specs.declared.negotiated.Negotiated.{Negotiated}
use Rattle.config.specs.Config.{Within, within_limits, stores_fit}
use Rattle.config.specs.Negotiated.{negotiated_of}
use Rattle.config.proofs.Laws.{within-holds}
use Rattle.config.specs.declared.ConnectionConfig.{ConnectionConfig}
use Rattle.slot.specs.declared.ids.RemoteId.{RemoteId}
use Rattle.slot.proofs.Kept.{pick}
use Rattle.slot.proofs.Laws.{cond-true, cond-false}
use Rattle.state.specs.declared.Header.{Header}
use Rattle.state.specs.Change.{put_all}
use Rattle.state.specs.State.{state_len}
use Rattle.state_whole.specs.Whole.{is_whole}
use Rattle.table.specs.declared.ChannelId.{ChannelId}
use Rattle.table.specs.declared.NoFreeChannels.{NoFreeChannels as NoFree}
use Rattle.table.specs.Table.{allocated}
use Rattle.connection.specs.declared.Answer.{Answer}
use Rattle.connection.specs.declared.Answer.TheVariants.{Done, Waiting, Nothing, Opened, Settled, Read, Written, Front, Numbers, Refused}
use Rattle.connection.specs.declared.Refusal.TheVariants.{OutShort}
use Rattle.connection.specs.Answer.{answer_number}
use Rattle.connection.specs.Calls.{Lent, Outcome, Made, dropped, ends, checked, checked_out, reject_on, accept_on, verdict_step, verdict_outcome, make_of}
use Rattle.call.specs.Promise.{lent_of, agreed_in}
use Rattle.call.proofs.AdmitLaws.{whole_long}
use Rattle.call_make.specs.Make.{make_in}
use Rattle.history.specs.Run.{Call, verdict_call, World, lent, word_in, outcome, after, after_all, made, Start}
use Rattle.history.proofs.Never13.{Holds, holds-whole, holds_kept, holds_after, holds-all, starts}
use Rattle.device_meets.specs.declared.Met.{Met}
use Rattle.device_meets.specs.declared.Verdict.{Verdict}
use Rattle.device_meets.specs.declared.Verdict.TheVariants.{Ignore, Refuse, Take}
use Rattle.device.specs.Device.{inner_at, head_fine, head_of, inner_of, is_waiting, taken_as, judged, Gives, given, and_judged, behind, called, unchanged}
use Rattle.device.specs.Answer.{device_number}
use Rattle.device_history.specs.Run.{DeviceCall, DeviceWorld, connection, gives, leaves_by, leaves, leaves_all, DeviceStart, device_begins}
use Rattle.device_history.specs.Trace.{Beginning, begins_at, Part, goes, stays, anew, header_in, part_of, verdict_calls, behind_calls, calls_of, Story, joined, told_on, first_made, story, FollowsAll}
use Rattle.device_history.specs.Never13.{DeviceNever13}
use Rattle.device_history.proofs.Starts.{started}
use Rattle.device_history.proofs.Heads.{inner-back, head-size, halves, stays-fine, flagged-size, flagged-fine}
use Rattle.device_history.proofs.Fits.{MetFits, VerdictFits}
use Rattle.device_history.proofs.Parts.{Handled, done, waits, WaitsFit, Begun, Does, does}

-- ---- a verdict

-- it leaves both stores
accept-rx : (l : Lent) (h : Header) (remote : RemoteId) (credit : ℕ) (r : Result ChannelId NoFree)
    → ((accept_on l h remote credit r).rx ≡ l.rx) × ((accept_on l h remote credit r).store ≡ l.store)
unfolding accept_on reject_on ends
accept-rx l h remote credit (Err e) = (refl, refl)
accept-rx l h remote credit (Ok ch) = (refl, refl)

pub verdict_rx : (l : Lent) (take : Bool) (remote : RemoteId) (credit : ℕ) → ((verdict_step l take remote credit).rx ≡ l.rx) × ((verdict_step l take remote credit).store ≡ l.store)
unfolding verdict_step reject_on ends
verdict_rx l true remote credit = accept-rx l (dropped l.state.header) remote credit (allocated l.state.header l.state.slots)
verdict_rx l false remote credit = (refl, refl)

module _ (n : Negotiated) (r : List ℕ) (rx store : ℕ) (v : World) (h : Holds n r rx store v) where
  abbrev fit : Bool
  fit = stores_fit (agreed_in v.state).config (length v.rx) (length v.store)

  -- where the stores fit it is the step
  pub verdict-outcome : fit ≡ true → (take : Bool) (remote : RemoteId) (credit : ℕ) → remote.0 < 2 ^ 32 → credit < 2 ^ 32
      → outcome v (verdict_call (replicate 56 0) take remote credit) ≡ verdict_step (lent v) take remote credit
  unfolding outcome verdict_outcome checked_out checked word_in
  verdict-outcome f take remote credit a c =
      let x : remote.0 % 2 ^ 32 ≡ remote.0 = mod-eq_of_lt a in
      let y : credit % 2 ^ 32 ≡ credit = mod-eq_of_lt c in
      cond-true (is_whole v.state) _ _ (holds-whole n r rx store v h) ∙ cond-true fit _ _ f
      ∙ ap₂ (λ (p q : ℕ). verdict_step (lent v) take (record { 0 = p }) q) x y

  abbrev judging : Answer → Verdict → World
  judging handled d = record { state = put_all v.state (judged (lent v) handled d).changes; rx = v.rx; store = v.store }

  -- what it leaves
  pub judge-after : fit ≡ true → (handled : Answer) (d : Verdict) → VerdictFits d → judging handled d ≡ after_all v (verdict_calls d)
  unfolding judged verdict_calls after_all after
  judge-after f handled Ignore g = refl
  judge-after f handled (Refuse remote) g =
      let e = verdict-outcome f false remote 0 g (omega arith) in
      let e' = sym e in
      let k = verdict_rx (lent v) false remote 0 in
      (λ i. record { state = put_all v.state (e' i).changes; rx = (sym k.0 ∙ ap (λ (o : Outcome). o.rx) e') i; store = (sym k.1 ∙ ap (λ (o : Outcome). o.store) e') i })
  judge-after f handled (Take remote credit place) g =
      let e = verdict-outcome f true remote credit g.0 g.1 in
      let e' = sym e in
      let k = verdict_rx (lent v) true remote credit in
      (λ i. record { state = put_all v.state (e' i).changes; rx = (sym k.0 ∙ ap (λ (o : Outcome). o.rx) e') i; store = (sym k.1 ∙ ap (λ (o : Outcome). o.store) e') i })

-- ---- a call, and a verdict behind it

-- what a call leaves of the connection
abbrev pub inside : Gives → World
inside g = record { state = g.inner; rx = g.rx; store = g.store }

pub inside-is : (g : Gives) → length g.head ≡ inner_at → connection (leaves_by g) ≡ inside g
unfolding leaves_by
inside-is g e = ap (λ (x : List ℕ). record { state = x; rx = g.rx; store = g.store }) (inner-back g.head g.inner e)

module _ (n : Negotiated) (r : List ℕ) (rx store : ℕ) (v : World) (h : Holds n r rx store v) where
  -- the stores fit after a call as before it
  pub fit-after : (c : Call) → stores_fit (agreed_in v.state).config (length v.rx) (length v.store) ≡ true
      → stores_fit (agreed_in (after v c).state).config (length (after v c).rx) (length (after v c).store) ≡ true
  fit-after c f =
      let k = holds_after n r rx store v h c in
      ap (λ (m : Negotiated). stores_fit m.config (length (after v c).rx) (length (after v c).store)) (k.facts.header.negotiated ∙ sym h.facts.header.negotiated)
      ∙ ap₂ (λ (x y : ℕ). stores_fit (agreed_in v.state).config x y) (k.rx-length ∙ sym h.rx-length) (k.store_length ∙ sym h.store_length)
      ∙ f

  pub inside-called : (head : List ℕ) (handled : Answer) (c : Call) (m : Option Met) → MetFits m → WaitsFit v m (outcome v c).answer
      → inside (called head v.state handled (outcome v c) m) ≡ after_all v (calls_of v c m)
  unfolding called behind given and_judged behind_calls after_all after
  inside-called head handled c None g k = refl
  inside-called head handled c (Some m) g k =
      let o = outcome v c in
      let t = is_waiting o.answer in
      let first = given head v.state o in
      let then = and_judged first m.used (judged (lent_of first.inner first.rx first.store) handled m.verdict) in
      by-test t
      (λ q. ap inside (cond-true t then first q) ∙ judge-after n r rx store (after v c) (holds_after n r rx store v h c) (fit-after c (k q)) handled m.verdict g
      ∙ ap (λ (cs : List Call). after_all v (c ∷ cs)) (sym (cond-true t (verdict_calls m.verdict) [] q)))
      (λ q. ap inside (cond-false t then first q) ∙ ap (λ (cs : List Call). after_all v (c ∷ cs)) (sym (cond-false t (verdict_calls m.verdict) [] q)))

pub called-head : (head b : List ℕ) (handled : Answer) (o : Outcome) (m : Option Met) → (called head b handled o m).head ≡ head
unfolding called behind given and_judged
called-head head b handled o None = refl
called-head head b handled o (Some m) = pick (λ (g : Gives). g.head ≡ head) (is_waiting o.answer) (λ t. refl) (λ t. refl)

-- ---- a list of calls

pub after-append : (w : World) (xs ys : List Call) → after_all w (xs ++ ys) ≡ after_all (after_all w xs) ys
unfolding after_all
after-append w [] ys = refl
after-append w (x ∷ xs) ys = after-append (after w x) xs ys

-- a make that is not refused, as history has it
abbrev pub start_of : (g : Beginning) → within_limits g.config ≡ true → state_len ≤ length g.state → Start
start_of g within long =
    record {
      config = g.config;
      version = g.version;
      most = g.most;
      host = g.host;
      device = g.device;
      state = g.state;
      rx = g.rx;
      store = g.store;
      within = within;
      long = long;
    }

abbrev pub agreed_at : Beginning → Negotiated
agreed_at g = negotiated_of g.host g.device g.version g.most g.config

-- what is kept between calls; rx, store: the stores' lengths
pub record Keeps (rx store : ℕ) (s : Story) (w : DeviceWorld) : Type 0 where
  pub fine : head_fine w.state ≡ true
  pub within : within_limits s.from.config ≡ true
  pub long : state_len ≤ length s.from.state
  pub rx-length : length s.from.rx ≡ rx
  pub store_length : length s.from.store ≡ store
  pub same : connection w ≡ after_all (begins_at s.from) s.calls

-- what make leaves
make-state : (g : Beginning) → state_len ≤ length g.state → (make_in g.config g.version g.most g.host g.device g.state).state ≡ (make_of g.config g.version g.most g.host g.device g.state).state
unfolding make_in
make-state g long = ap (λ (m : Made). m.state) (cond-false (ltb (length g.state) state_len) _ _ (le-ltb (length g.state) state_len long))

module _ (rx store : ℕ) (s : Story) (w : DeviceWorld) (k : Keeps rx store s w) where
  -- the connection is whole
  pub keeps-holds : Holds (agreed_at s.from) (drop state_len s.from.state) (length s.from.rx) (length s.from.store) (connection w)
  keeps-holds =
      let n = agreed_at s.from in
      let r = drop state_len s.from.state in
      subst (Holds n r (length s.from.rx) (length s.from.store)) (sym k.same)
      (holds-all n r (length s.from.rx) (length s.from.store) (begins_at s.from) (starts (start_of s.from k.within k.long)) s.calls)

  pub connection-whole : is_whole (inner_of w.state) ≡ true
  connection-whole = holds-whole (agreed_at s.from) (drop state_len s.from.state) (length s.from.rx) (length s.from.store) (connection w) keeps-holds

  head-stays : (y : Gives) → y.head ≡ head_of w.state → head_fine (leaves_by y).state ≡ true
  unfolding leaves_by
  head-stays y e = ap (λ (x : List ℕ). head_fine (x ++ y.inner)) e ∙ stays-fine w.state k.fine y.inner

  whole-back : leaves_by (unchanged w.state w.rx w.store (Refused OutShort)) ≡ w
  unfolding leaves_by unchanged
  whole-back = ap (λ (x : List ℕ). record { state = x; rx = w.rx; store = w.store }) (halves w.state k.fine)

  limits-in : Within (header_in w).negotiated.config
  limits-in = subst (λ (x : Negotiated). Within x.config) (sym keeps-holds.facts.header.negotiated) keeps-holds.facts.limits.within

  module _ (g : Gives) (j : Beginning) (d : Begun w k.fine g j) where
    flag-fine : head_fine (leaves_by g).state ≡ true
    unfolding leaves_by
    flag-fine = ap (λ (x : List ℕ). head_fine (x ++ g.inner)) d.head-is ∙ flagged-fine w.state k.fine g.inner

    anew-made : state_len ≤ length j.state → inside g ≡ after_all (begins_at j) []
    unfolding after_all made
    anew-made long =
        let e = d.inner-is ∙ make-state j long in
        (λ i. record { state = e i; rx = d.rx-is i; store = d.store_is i })

  pub part-keeps : (g : Gives) (p : Part) → Does w k.fine g p → Keeps rx store (joined s (connection w) p) (leaves_by g)
  unfolding joined
  part-keeps g (goes c m) d =
      let o = outcome (connection w) c in
      let y = called (head_of w.state) (inner_of w.state) d.handled o m in
      let hd : y.head ≡ head_of w.state = called-head (head_of w.state) (inner_of w.state) d.handled o m in
      let size : length y.head ≡ inner_at = ap (λ (x : List ℕ). length x) hd ∙ head-size w.state k.fine in
      subst (λ (z : Gives). Keeps rx store (record { from = s.from; calls = s.calls ++ calls_of (connection w) c m }) (leaves_by z)) (sym d.is)
      (record {
        fine = head-stays y hd;
        within = k.within;
        long = k.long;
        rx-length = k.rx-length;
        store_length = k.store_length;
        same =
            inside-is y size
            ∙ inside-called (agreed_at s.from) (drop state_len s.from.state) (length s.from.rx) (length s.from.store) (connection w) keeps-holds (head_of w.state) d.handled c m d.fits d.waits
            ∙ ap (λ (x : World). after_all x (calls_of (connection w) c m)) k.same
            ∙ sym (after-append (begins_at s.from) s.calls (calls_of (connection w) c m));
      })
  part-keeps g stays d = subst (λ (z : Gives). Keeps rx store s (leaves_by z)) (sym d) (subst (Keeps rx store s) (sym whole-back) k)
  part-keeps g (anew j) d =
      let e : length g.head ≡ inner_at = ap (λ (x : List ℕ). length x) d.head-is ∙ flagged-size w.state k.fine in
      let long : state_len ≤ length j.state = subst (λ (x : List ℕ). state_len ≤ length x) (sym d.state-is) (whole_long (inner_of w.state) connection-whole) in
      record {
        fine = flag-fine g j d;
        within = subst (λ (x : ConnectionConfig). within_limits x ≡ true) (sym d.config-is) (within-holds (header_in w).negotiated.config limits-in);
        long = long;
        rx-length = ap (λ (x : List ℕ). length x) d.rx-same ∙ keeps-holds.rx-length ∙ k.rx-length;
        store_length = ap (λ (x : List ℕ). length x) d.store_same ∙ keeps-holds.store_length ∙ k.store_length;
        same = inside-is g e ∙ anew-made g j d long;
      }

  -- one call more
  pub keeps-after : (x : DeviceCall) → Keeps rx store (joined s (connection w) (part_of w x)) (leaves w x)
  keeps-after x = part-keeps (gives w x) (part_of w x) (does w k.fine x)

-- a list of calls more
pub keeps-all : (rx store : ℕ) (s : Story) (w : DeviceWorld) → Keeps rx store s w → (xs : List DeviceCall) → Keeps rx store (told_on s w xs) (leaves_all w xs)
unfolding told_on leaves_all
keeps-all rx store s w k [] = k
keeps-all rx store s w k (x ∷ xs) = keeps-all rx store (joined s (connection w) (part_of w x)) (leaves w x) (keeps-after rx store s w k x) xs

-- at a start
pub keeps-first : (d : DeviceStart) → Keeps (length d.rx) (length d.store) (record { from = first_made d; calls = [] }) (device_begins d)
unfolding after_all made
keeps-first d =
    let z = started d in
    record {
      fine = z.fine;
      within = z.within;
      long = z.long;
      rx-length = refl;
      store_length = refl;
      same = ap (λ (x : List ℕ). record { state = x; rx = d.rx; store = d.store }) (z.made_in ∙ make-state (first_made d) z.long);
    }

pub keeps : (d : DeviceStart) (xs : List DeviceCall) → Keeps (length d.rx) (length d.store) (story d xs) (leaves_all (device_begins d) xs)
keeps d xs = keeps-all (length d.rx) (length d.store) (record { from = first_made d; calls = [] }) (device_begins d) (keeps-first d) xs

pub follows : FollowsAll
follows d xs = let k = keeps d xs in record { within = k.within; long = k.long; same = k.same }

-- ---- refusal 13

handled-number : (a : Answer) → Handled a → answer_number a ≡ 13 → ⊥
unfolding answer_number
handled-number a done e = omega arith
handled-number a waits e = omega arith

-- an answer that is not 13
abbrev Fine : Gives → Type 0
Fine g = device_number g.answer ≡ 13 → ⊥

taken-number : (handled : Answer) → Handled handled → (remote : RemoteId) (place : ℕ) (a : Answer) → device_number (taken_as handled remote place a) ≡ 13 → ⊥
unfolding taken_as device_number
taken-number handled k remote place Done = handled-number handled k
taken-number handled k remote place Waiting = handled-number handled k
taken-number handled k remote place Nothing = handled-number handled k
taken-number handled k remote place (Opened ch) = λ e. omega arith
taken-number handled k remote place (Settled a) = handled-number handled k
taken-number handled k remote place (Read n) = handled-number handled k
taken-number handled k remote place (Written n) = handled-number handled k
taken-number handled k remote place (Front r c p n) = handled-number handled k
taken-number handled k remote place (Numbers t total buffered unacked budget) = handled-number handled k
taken-number handled k remote place (Refused r) = handled-number handled k

judged-number : (l : Lent) (handled : Answer) → Handled handled → (d : Verdict) → device_number (judged l handled d).answer ≡ 13 → ⊥
unfolding judged device_number
judged-number l handled k Ignore = handled-number handled k
judged-number l handled k (Refuse remote) = handled-number handled k
judged-number l handled k (Take remote credit place) = taken-number handled k remote place (verdict_step l true remote credit).answer

called-number : (head b : List ℕ) (handled : Answer) → Handled handled → (o : Outcome) (m : Option Met) → (answer_number o.answer ≡ 13 → ⊥) → Fine (called head b handled o m)
unfolding called behind given and_judged device_number
called-number head b handled k o None f = f
called-number head b handled k o (Some m) f = pick Fine (is_waiting o.answer) (λ t. judged-number _ handled k m.verdict) (λ t. f)

module _ (rx store : ℕ) (s : Story) (w : DeviceWorld) (k : Keeps rx store s w) where
  never-by : (g : Gives) (p : Part) → Does w k.fine g p → Fine g
  unfolding device_number unchanged answer_number
  never-by g (goes c m) d =
      subst Fine (sym d.is)
      (called-number (head_of w.state) (inner_of w.state) d.handled d.kind (outcome (connection w) c) m
      (holds_kept (agreed_at s.from) (drop state_len s.from.state) (length s.from.rx) (length s.from.store) (connection w) (keeps-holds rx store s w k) c).answer)
  never-by g stays d = subst Fine (sym d) (λ e. omega arith)
  never-by g (anew j) d = λ e. let n = d.number in omega arith

pub device-never-13 : DeviceNever13
device-never-13 d xs =
    let rx = length d.rx in
    let store = length d.store in
    let s = story d xs in
    let w = leaves_all (device_begins d) xs in
    let k = keeps d xs in
    let h = keeps-holds rx store s w k in
    record {
      fine = k.fine;
      is-whole = connection-whole rx store s w k;
      never = λ x. never-by rx store s w k (gives w x) (part_of w x) (does w k.fine x);
      rx-length = h.rx-length ∙ k.rx-length;
      store_length = h.store_length ∙ k.store_length;
    }
