-- What is kept of both ends, over every list of calls. Assumes nothing.
use mathlib.Core.Path.{◌≡◌, refl, sym, ap, ap₂, subst, ◌∙◌}
use mathlib.Core.Bool.{Bool, true, false, true≢false}
use mathlib.Core.List.{List, [], ◌∷◌, ◌++◌, append_assoc, append-nil, map}
use Prim.Native.Nat.{ℕ, ◌+◌, ◌*◌, ◌^◌, ◌≤◌, ◌<◌}
use native.Mathlib.Omega.{arith}
use lib.ListN.{length, drop}
use Rattle.config.specs.declared.negotiated.Negotiated.{Negotiated}
use Rattle.config.specs.Config.{stores_fit, cap_of, opening_credit}
use Rattle.slot.proofs.Kept.{pick}
use Rattle.config.specs.Negotiated.{policy_of, offered_credit, negotiated_of}
use Rattle.state.specs.State.{state_len, is_ours, is_offer, Connection}
use Rattle.connection.specs.Calls.{fresh}
use Rattle.connection.specs.Frames.{Sent, frames_bytes}
use Rattle.device.specs.Device.{is_connected}
use Rattle.history.specs.Run.{Call, World, outcome, after, Start, begins, agreed_in, policy_in}
use Rattle.history.specs.Seen.{events_of, sent_in}
use Rattle.history.specs.Book.{Book, no_book, Ledger, clean, book_at, ledger_of}
use Rattle.history.specs.Credits.{no_credit}
use Rattle.history.specs.Numbers.{given_by, given_in}
use Rattle.history.proofs.Credited.{none-read}
use Rattle.history.proofs.Given.{fresh-given}
use Rattle.history.proofs.Never13.{Holds, starts, holds_after, in-replicate}
use Rattle.history.proofs.Queue.{start-empty}
use Rattle.history.proofs.Theorem.{fits-long, fresh_start, fresh_kept, Kept}
use Rattle.device_history.specs.Owner.{device_events, device_seen, taken_in}
use Rattle.device_history.specs.Run.{DeviceCall, DeviceWorld, connection, gives, leaves, leaves_all, device_begins}
use Rattle.device_history.specs.Trace.{Story, story, joined, part_of}
use Rattle.device_history.proofs.FreeLaws.{given_so, one-given}
use Rattle.device_history.proofs.Follows.{start_of, Keeps, keeps, keeps-after, keeps-holds}
use Rattle.ends_device.proofs.Turns.{DeviceTurn, goes-alone, ignores, judges, verdict_on, turns, still-connected, Answered, answered-104}
use Rattle.ends_lines.specs.Lines.{frames_on}
use Rattle.ends_lines.proofs.Carried.{Carried, none, carried-append, carried-reads}
use Rattle.ends_lines.proofs.Called.{carried-call}
use Rattle.ends.specs.Ends.{Ends, EndsStart, both, Turn, ours, theirs, our_call, their_call, gives_there, turned, turned_all, our_calls, their_calls, all_up, HostCalls}
use Rattle.ends.specs.Credit.{BothDelayed, Few}
use Rattle.ends.proofs.Joint.{Joint, joint-first}
use Rattle.connection.proofs.Sending.{sent_of}
use Rattle.ends.proofs.Its.{ExactAll}
use Rattle.ends.proofs.Live.{agreed-of, Live, seen-by, next-books, agreed-stays}
use Rattle.ends.proofs.Host.{own-in}
use Rattle.ends.proofs.Quiet.{Silent}
use Rattle.ends.proofs.State.{State, turn-ours}
use Rattle.ends.proofs.Theirs.{turn-theirs}

-- ---- what the device writes is frames

pub record Framed (l : List ℕ) : Type 0 where
  pub frames : List Sent
  pub are : Carried l frames

framed-append : (a b : List ℕ) → Framed a → Framed b → Framed (a ++ b)
framed-append a b x y = record { frames = x.frames ++ y.frames; are = carried-append a b x.frames y.frames x.are y.are }

module _ (drx dstore : ℕ) (st : Story) (w : DeviceWorld) (k : Keeps drx dstore st w) (c : is_connected w.state ≡ true) (y : DeviceCall) where
  abbrev v : World
  v = connection w

  abbrev made : Negotiated
  made = negotiated_of st.from.host st.from.device st.from.version st.from.most st.from.config

  abbrev behind : List ℕ
  behind = drop state_len st.from.state

  abbrev rx-length : ℕ
  rx-length = length st.from.rx

  abbrev store-length : ℕ
  store-length = length st.from.store

  one-framed : (x : Call) → Framed (frames_bytes (agreed-of v) (outcome v x).frames)
  one-framed x = record { frames = map (sent_of (agreed-of v)) (outcome v x).frames; are = carried-call made behind rx-length store-length v (keeps-holds drx dstore st w k) x }

  two-framed : (x z : Call) → Framed (frames_bytes (agreed-of v) (outcome (after v x) z).frames)
  two-framed x z =
      let h = keeps-holds drx dstore st w k in
      let h1 = holds_after made behind rx-length store-length v h x in
      let e : agreed-of (after v x) ≡ agreed-of v = h1.facts.header.negotiated ∙ sym h.facts.header.negotiated in
      subst (λ (m : Negotiated). Framed (frames_bytes m (outcome (after v x) z).frames)) e
      (record { frames = map (sent_of (agreed-of (after v x))) (outcome (after v x) z).frames; are = carried-call made behind rx-length store-length (after v x) h1 z })

  call-framed : Framed (gives w y).written
  call-framed = by-turn (turns drx dstore st w k c y)
    where
      by-turn : DeviceTurn st w y → Framed (gives w y).written
      by-turn (goes-alone x t) = subst Framed (sym t.written) (one-framed x)
      by-turn (ignores x p t) = subst Framed (sym t.written) (one-framed x)
      by-turn (judges x p take credit t) = subst Framed (sym t.written) (framed-append _ _ (one-framed x) (two-framed x (verdict_on p take credit)))

all-framed : (drx dstore : ℕ) (ts : List Turn) (e : Ends) (st : Story) → Keeps drx dstore st e.device → is_connected e.device.state ≡ true → Framed (all_up e ts)
unfolding all_up turned
all-framed drx dstore [] e st k c = record { frames = []; are = none }
all-framed drx dstore (ours x n ∷ ts) e st k c = all-framed drx dstore ts (turned e (ours x n)) st k c
all-framed drx dstore (theirs x n ∷ ts) e st k c =
    let y = their_call e x n in
    framed-append (gives_there e x n).written (all_up (turned e (theirs x n)) ts) (call-framed drx dstore st e.device k c y)
    (all-framed drx dstore ts (turned e (theirs x n)) (joined st (connection e.device) (part_of e.device y)) (keeps-after drx dstore st e.device k y) (still-connected drx dstore st e.device k c y))

-- so they are read one call behind the other
framed-reads : (a b : List ℕ) → Framed a → Framed b → frames_on (a ++ b) ≡ frames_on a ++ frames_on b
framed-reads a b x y =
    carried-reads (a ++ b) (x.frames ++ y.frames) (carried-append a b x.frames y.frames x.are y.are)
    ∙ ap₂ (λ (i j : List Sent). i ++ j) (sym (carried-reads a x.frames x.are)) (sym (carried-reads b y.frames y.are))

-- ---- over a list of calls

-- what is kept after it
pub record Ran (o : ℕ) (e : Ends) (ts : List Turn) (books : Ledger) (before : ℕ) (w : List Sent) (drx dstore : ℕ) : Type 0 where
  pub given : ℕ
  pub counted : given ≡ before + given_in (events_of e.host (our_calls e ts))
  pub calls : Story
  pub state : State o (turned_all e ts) (ledger_of (policy_of (agreed-of e.host)) books (events_of e.host (our_calls e ts))) given (w ++ frames_on (all_up e ts)) drx dstore calls

-- what is kept between the ends is kept by every list of calls in which fewer than 2^32 numbers are given out
pub run : (o drx dstore : ℕ) (ts : List Turn) → HostCalls ts → (e : Ends) (books : Ledger) (given : ℕ) (w : List Sent) (st : Story) → State o e books given w drx dstore st
    → given + given_in (events_of e.host (our_calls e ts)) < 2 ^ 32 → given_so st + taken_in (device_events e.device (their_calls e ts)) < 2 ^ 32 → Ran o e ts books given w drx dstore
unfolding turned turned_all our_calls their_calls all_up events_of device_events ledger_of given_in taken_in device_seen frames_on sent_in
run o drx dstore [] h e books given w st s a b =
    record { given = given; counted = omega arith; calls = st; state = subst (λ (z : List Sent). State o e books given z drx dstore st) (sym (append-nil w)) s }
run o drx dstore (ours x n ∷ ts) h e books given w st s a b =
    let y = our_call e x n in
    let s1 = turn-ours o e books given w drx dstore st s x n h.0 (omega arith) in
    let t = run o drx dstore ts h.1 (turned e (ours x n)) (next-books e.host books y) (given + given_by y (seen-by e.host y)) w st s1 (omega arith) b in
    let p = agreed-stays s.hr s.hrx s.hstore s.hb given e.host books s.host y in
    record {
      given = t.given;
      counted = let z = t.counted in omega arith;
      calls = t.calls;
      state =
          subst (λ (z : Negotiated). State o (turned_all (turned e (ours x n)) ts)
          (ledger_of (policy_of z) (next-books e.host books y) (events_of (after e.host y) (our_calls (turned e (ours x n)) ts))) t.given
          (w ++ frames_on (all_up (turned e (ours x n)) ts)) drx dstore t.calls)
          p t.state;
    }
run o drx dstore (theirs x n ∷ ts) h e books given w st s a b =
    let y = their_call e x n in
    let q = one-given drx dstore st e.device s.keeps y in
    let rest = all-framed drx dstore ts (turned e (theirs x n)) (joined st (connection e.device) (part_of e.device y))
    (keeps-after drx dstore st e.device s.keeps y) (still-connected drx dstore st e.device s.keeps s.connected y) in
    let now = frames_on (gives_there e x n).written in
    let later = frames_on (all_up (turned e (theirs x n)) ts) in
    let fr : frames_on (all_up e (theirs x n ∷ ts)) ≡ now ++ later =
    framed-reads (gives_there e x n).written (all_up (turned e (theirs x n)) ts) (call-framed drx dstore st e.device s.keeps s.connected y) rest in
    let s1 = turn-theirs o e books given w drx dstore st s x n (omega arith) in
    let t = run o drx dstore ts h (turned e (theirs x n)) books given (w ++ now) (joined st (connection e.device) (part_of e.device y)) s1 a (omega arith) in
    record {
      given = t.given;
      counted = let z = t.counted in omega arith;
      calls = t.calls;
      state =
          subst (λ (z : List Sent). State o (turned_all (turned e (theirs x n)) ts)
          (ledger_of (policy_of (agreed-of e.host)) books (events_of e.host (our_calls (turned e (theirs x n)) ts))) t.given z drx dstore t.calls)
          (append_assoc w now later ∙ ap (λ (z : List Sent). w ++ z) (sym fr)) t.state;
    }

-- ---- where it begins

-- an end as made, with stores that fit
live-first : (s : Start) → stores_fit s.config (length s.rx) (length s.store) ≡ true → (policy_in s).delayed ≡ true
    → Live (drop state_len s.state) (length s.rx) (length s.store) 0 0 (begins s) clean
unfolding fresh negotiated_of
live-first s fit d =
    let n = agreed_in s in
    let f = fresh_start s in
    let e : agreed-of (begins s) ≡ n = ap (λ (c : Connection). c.header.negotiated) f in
    record {
      holds = subst (λ (z : Negotiated). Holds z (drop state_len s.state) (length s.rx) (length s.store) (begins s)) (sym e) (starts s);
      long = subst (λ (z : Negotiated). z.config.channels * (2 * cap_of z.config) ≤ length s.rx) (sym e) (fits-long s.config s.version s.most s.host s.device (length s.rx) (length s.store) fit);
      fit = subst (λ (z : Negotiated). stores_fit z.config (length s.rx) (length s.store) ≡ true) (sym e) fit;
      kept = subst (λ (z : Negotiated). Kept none-read z (begins s) clean) (sym e) (fresh_kept n (begins s) f none-read);
      given = fresh-given n (begins s) f;
      delayed = subst (λ (z : Negotiated). (policy_of z).delayed ≡ true) (sym e) d;
    }

-- the opening credit is one of 31 bits
offered-small : (n : Negotiated) (r : List ℕ) (rx store : ℕ) (w : World) → Holds n r rx store w → offered_credit n < 2 ^ 31
unfolding offered_credit opening_credit
offered-small n r rx store w h = let z = h.facts.limits.within.most-credit in pick (λ (x : ℕ). x < 2 ^ 31) n.delayed_ack (λ d. omega arith) (λ d. omega arith)

first-silent : (s : Start) → Silent (begins s)
unfolding fresh
first-silent s = record { none = start-empty s; unoffered = ap (λ (c : Connection). is_offer c.header.pending.what) (fresh_start s) }

no-books : (i : ℕ) → (book_at clean i).there ≡ false
no-books i = ap (λ (b : Book). b.there) (in-replicate 64 i no_book)

device-append : (w : DeviceWorld) (xs ys : List DeviceCall) → taken_in (device_events w (xs ++ ys)) ≡ taken_in (device_events w xs) + taken_in (device_events (leaves_all w xs) ys)
unfolding device_events leaves_all taken_in
device-append w [] ys = omega arith
device-append w (x ∷ xs) ys = let e = device-append (leaves w x) xs ys in omega arith

module _ (s : EndsStart) (fit : stores_fit s.ours.config (length s.ours.rx) (length s.ours.store) ≡ true) (d : BothDelayed s) where
  abbrev w0 : DeviceWorld
  w0 = leaves_all (device_begins s.device) s.early

  abbrev drx : ℕ
  drx = length s.device.rx

  abbrev dstore : ℕ
  dstore = length s.device.store

  abbrev st0 : Story
  st0 = story s.device s.early

  pub k0 : Keeps drx dstore st0 w0
  k0 = keeps s.device s.early

  pub answered : Answered st0 w0 s.first
  answered = answered-104 drx dstore st0 w0 k0 s.first s.answers

  abbrev st1 : Story
  st1 = record { from = answered.beginning; calls = [] }

  pub k1 : Keeps drx dstore st1 (both s).device
  k1 = subst (λ (z : Story). Keeps drx dstore z (leaves w0 s.first)) answered.story (keeps-after drx dstore st0 w0 k0 s.first)

  abbrev begun : Start
  begun = start_of answered.beginning k1.within k1.long

  -- nothing was given out there
  none-given : given_so st1 ≡ 0
  unfolding events_of given_in
  none-given = refl

  device-live : Live (drop state_len begun.state) (length begun.rx) (length begun.store) 0 (given_so st1) (connection (both s).device) clean
  unfolding events_of given_in negotiated_of fresh
  device-live =
      let e : connection (both s).device ≡ begins begun = answered.begins in
      subst (λ (z : World). Live (drop state_len begun.state) (length begun.rx) (length begun.store) 0 0 z clean) (sym e)
      (live-first begun answered.fit (subst (λ (n : Negotiated). (policy_of n).delayed ≡ true) (ap (λ (z : World). agreed-of z) e ∙ agreed-first begun) d.device))
    where
      agreed-first : (z : Start) → agreed-of (begins z) ≡ agreed_in z
      agreed-first z = ap (λ (c : Connection). c.header.negotiated) (fresh_start z)

  first-exact : ExactAll (connection (both s).device) clean (λ j. no_credit)
  first-exact j t = absurd (true≢false (sym t ∙ no-books j))

  pub first-state : State (offered_credit (agreed_in s.ours)) (both s) clean 0 [] drx dstore st1
  unfolding fresh
  first-state =
      let f = fresh_start s.ours in
      record {
        hr = drop state_len s.ours.state;
        hrx = length s.ours.rx;
        hstore = length s.ours.store;
        hb = 0;
        host = live-first s.ours fit d.ours;
        offered = ap (λ (c : Connection). offered_credit c.header.negotiated) f;
        silent = first-silent s.ours;
        low = offered-small (agreed_in s.ours) (drop state_len s.ours.state) (length s.ours.rx) (length s.ours.store) (begins s.ours) (starts s.ours);
        near = λ i t. absurd (true≢false (sym t ∙ no-books i));
        even = λ i t. absurd (true≢false (sym t ∙ no-books i));
        keeps = k1;
        connected = answered.connected;
        xr = drop state_len begun.state;
        xrx = length begun.rx;
        xstore = length begun.store;
        xb = 0;
        its = clean;
        device = device-live;
        credits = λ j. no_credit;
        sound = first-exact;
        mates = record { ours = λ x. 0; its = λ x. 0; read = 0; given = 0 };
        few = omega arith;
        sent-down = [];
        on-up = [];
        on-down = [];
        up = none;
        down = none;
        joint =
            subst (λ (t : Bool). Joint (offered_credit (agreed_in s.ours)) (book_at clean) t (own-in (begins s.ours)) (live-first s.ours fit d.ours).given.k (book_at clean) (λ j. no_credit)
            (record { ours = λ x. 0; its = λ x. 0; read = 0; given = 0 }) [] [] [] [])
            (sym (ap (λ (c : Connection). is_ours c.header.pending.what) f))
            (joint-first (offered_credit (agreed_in s.ours)) (book_at clean) (own-in (begins s.ours)) (live-first s.ours fit d.ours).given.k (book_at clean) (λ j. no_credit) 0 no-books no-books);
      }

  -- and after every list of calls
  pub ends-run : (ts : List Turn) → HostCalls ts → Few s ts → Ran (offered_credit (agreed_in s.ours)) (both s) ts clean 0 [] drx dstore
  unfolding device_events taken_in leaves_all
  ends-run ts h few =
      let a = few.ours in
      let b = few.device in
      let q = device-append (device_begins s.device) s.early (s.first ∷ their_calls (both s) ts) in
      let z = none-given in
      run (offered_credit (agreed_in s.ours)) drx dstore ts h (both s) clean 0 [] st1 first-state (omega arith) (omega arith)
