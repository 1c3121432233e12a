-- Both ends between two calls, with all that is kept of them, and a call of ours. Assumes nothing.
use mathlib.Core.Path.{◌≡◌, sym, ap, subst, ◌∙◌}
use mathlib.Core.Bool.{true, false}
use mathlib.Core.List.{List, [], ◌∷◌, ◌++◌, map}
use Prim.Native.Nat.{ℕ, ◌+◌, ◌^◌, ◌≤◌, ◌<◌}
use native.Mathlib.Omega.{arith}
use lib.Dec.{eqb}
use lib.ListN.{length, take, drop}
use borrow.Author.Tests.{eqb-true}
use Rattle.le.specs.Rows.{flat}
use Rattle.le.proofs.Parts.{by-test}
use Rattle.le.proofs.RowLaws.{Every}
use Rattle.slot.proofs.Laws.{cond-true, cond-false}
use Rattle.config.specs.Negotiated.{offered_credit}
use Rattle.protocol.specs.Command.{is_ready, is_write, is_open}
use Rattle.connection.specs.Calls.{Outcome, untouched, written_by}
use Rattle.connection.specs.declared.Refusal.TheVariants.{StoreShort}
use Rattle.connection.specs.Frames.{Sent, frames_bytes}
use Rattle.connection.proofs.Sending.{sent_of}
use Rattle.device.specs.Device.{is_connected}
use Rattle.history.specs.Run.{Call, open_call, dispatch_call, settle_call, take_call, read_call, write_call, close_call, front_taken, look_call, accept_call, reject_call, let_go_call, verdict_call, received_in, out_of, World, lent, outcome, after}
use Rattle.history.specs.Seen.{Held, held_of, said_by, Seen, seen_in}
use Rattle.history.specs.Book.{Ledger, book_at}
use Rattle.history.specs.Credits.{Credit}
use Rattle.history.specs.Numbers.{given_by}
use Rattle.history.proofs.Heard.{taken_back}
use Rattle.history.proofs.Never13.{holds_kept}
use Rattle.history.proofs.Packets.{ready-no-write, body-length}
use Rattle.history.specs.Demand3.{place_slot}
use Rattle.protocol.specs.declared.packet.Packet.{Packet}
use Rattle.protocol.specs.Packet.{payload_limit, packet_of}
use Rattle.protocol.specs.Message.{message_of}
use Rattle.ends.proofs.Unacked.{unacked-moves, unacked-new}
use Rattle.history.proofs.Written.{writes}
use Rattle.history_frames.proofs.Receipt.{receipts}
use Rattle.device_history.specs.Run.{connection}
use Rattle.device_history.specs.Trace.{Story}
use Rattle.device_history.proofs.FreeLaws.{given_so}
use Rattle.device_history.proofs.Follows.{Keeps}
use Rattle.ends_lines.proofs.Carried.{Carried, carried-append}
use Rattle.ends_lines.proofs.Called.{carried-call}
use Rattle.ends.specs.Ends.{Ends, ours, our_call, holds, turned, handed, HostCall}
use Rattle.ends.proofs.Joint.{Mates, UpFrame, Joint, ahead, bytes-in, OurBook, stood, opened, HostStep, near-next, host-keeps}
use Rattle.ends.proofs.Lined.{Packeted, idle, took, Lined, lined, handed-lends}
use Rattle.ends.proofs.Live.{agreed-of, Live, seen-by, next-books, live-table, agreed-stays, live-next, live-from, seen-heard}
use Rattle.ends.proofs.Host.{waits-in, own-in, Accepts-none, host-step}
use Rattle.ends.proofs.Quiet.{Silent, accept-declines, silent-next}
use Rattle.ends.proofs.Its.{ExactAll}
use Rattle.std.specs.Prelude.{Option, Some, None}

-- an OKAY is no WRTE
pub ready-write : (f : Sent) → is_ready f.command ≡ true → is_write f.command ≡ false
ready-write f e = (ready-no-write f.command e).0

-- o: the opening credit. books, given: our books, and how many numbers we gave out; w: all frames that the
-- device wrote; st: the calls of the device's connection. hr, hrx, hstore, hb and xr, xrx, xstore, xb: what
-- `Live` is told of our end and of the device's; sent-down: all frames that we wrote; on-up, on-down: those on the lines
pub record State (o : ℕ) (e : Ends) (books : Ledger) (given : ℕ) (w : List Sent) (drx dstore : ℕ) (st : Story) : Type 0 where
  pub hr : List ℕ
  pub hrx : ℕ
  pub hstore : ℕ
  pub hb : ℕ
  pub host : Live hr hrx hstore hb given e.host books
  pub offered : offered_credit (agreed-of e.host) ≡ o
  pub silent : Silent e.host
  pub low : o < 2 ^ 31
  -- at most one payload over what we allowed was accepted; what was accepted and not acknowledged is the slot's number
  pub near : (i : ℕ) → (book_at books i).there ≡ true → length (book_at books i).accepted ≤ o + (book_at books i).acked + payload_limit
  pub even : (i : ℕ) → (book_at books i).there ≡ true → (book_at books i).closed ≡ false → length (book_at books i).accepted ≡ (book_at books i).acked + (place_slot e.host i).unacked
  pub keeps : Keeps drx dstore st e.device
  pub connected : is_connected e.device.state ≡ true
  pub xr : List ℕ
  pub xrx : ℕ
  pub xstore : ℕ
  pub xb : ℕ
  pub its : Ledger
  pub device : Live xr xrx xstore xb (given_so st) (connection e.device) its
  pub credits : ℕ → Credit
  pub sound : ExactAll (connection e.device) its credits
  pub mates : Mates
  pub few : mates.given ≤ device.given.k
  pub sent-down : List Sent
  pub on-up : List Sent
  pub on-down : List Sent
  pub up : Carried e.up on-up
  pub down : Carried e.down on-down
  pub joint : Joint o (book_at books) (waits-in e.host) (own-in e.host) host.given.k (book_at its) credits mates w sent-down on-up on-down

-- ---- what is written, as it is seen

-- a call of ours
module _ (r : List ℕ) (rx store b g : ℕ) (w : World) (y : Ledger) (live : Live r rx store b g w y) (x : Call) where
  abbrev h : Held
  h = said_by (held_of w x)

  pub used-bytes : h.used ≡ (outcome w x).used
  unfolding seen_in
  used-bytes = ap (λ (z : Seen). z.used) (seen-heard r rx store b g w y live x)

  pub written-bytes : take h.written h.out ≡ frames_bytes (agreed-of w) (outcome w x).frames
  unfolding said_by held_of written_by frames_bytes flat
  written-bytes =
      let o = outcome w x in
      let n = agreed-of w in
      let all = held_of w x in
      let wr = writes n r rx store w live.holds x in
      by-test (eqb all.number 8)
      (λ t. let e : o ≡ untouched (lent w) StoreShort = (holds_kept n r rx store w live.holds x).eight (eqb-true all.number 8 t) in
      let z = cond-true (eqb all.number 8) (record { number = 8; used = 0; written = 0; values = 0 ∷ 0 ∷ 0 ∷ 0 ∷ []; out = all.out; buf = all.buf }) all t in
      ap (λ (q : Held). take q.written q.out) z ∙ sym (ap (λ (q : Outcome). frames_bytes n q.frames) e))
      (λ t. let z = cond-false (eqb all.number 8) (record { number = 8; used = 0; written = 0; values = 0 ∷ 0 ∷ 0 ∷ 0 ∷ []; out = all.out; buf = all.buf }) all t in
      ap (λ (q : Held). take q.written q.out) z ∙ taken_back (out_of x) (frames_bytes n o.frames) wr.written)

-- ---- a call of ours

-- it accepts nothing, as nothing is offered
accepts-none : (w : World) → Silent w → (r : List ℕ) (c : Call) → HostCall c → Accepts-none w (handed r c)
unfolding handed
accepts-none w s r (open_call out destination received) h = tt
accepts-none w s r (dispatch_call out received) h = tt
accepts-none w s r (settle_call out ch want) h = tt
accepts-none w s r (take_call ch buf) h = tt
accepts-none w s r (read_call out ch buf received) h = tt
accepts-none w s r (write_call spending out ch bytes received) h = tt
accepts-none w s r (close_call out ch) h = tt
accepts-none w s r front_taken h = tt
accepts-none w s r (look_call x) h = tt
accepts-none w s r (accept_call out) h = accept-declines w out s
accepts-none w s r (reject_call out) h = tt
accepts-none w s r let_go_call h = tt
accepts-none w s r (verdict_call out take remote credit) h = absurd h

module _ (o : ℕ) (e : Ends) (books : Ledger) (given : ℕ) (w : List Sent) (drx dstore : ℕ) (st : Story) (s : State o e books given w drx dstore st) (c : Call) (n : ℕ) (host : HostCall c) where
  abbrev x : Call
  x = our_call e c n

  -- the packet that it used, taken off the line up
  abbrev line : Lined e.up s.on-up (received_in x) (lent e.host).state.header.negotiated.config.max_payload (outcome e.host x)
  line =
      lined e.up s.on-up s.up (received_in x) (lent e.host).state.header.negotiated.config.max_payload (outcome e.host x) (handed-lends e.up s.on-up s.up n c)
      (receipts e.host (live-table s.hr s.hrx s.hstore s.hb given e.host books s.host) s.host.given.away x).uses

  -- it came from the device, so it is no OPEN
  came : Every (UpFrame s.mates) (ahead line.got line.rest)
  came = subst (Every (UpFrame s.mates)) line.frames-are s.joint.on-up

  no-open : (f : Sent) → line.got ≡ Some f → is_open f.command ≡ false
  no-open f q = ((subst (λ (z : Option Sent). Every (UpFrame s.mates) (ahead z line.rest)) q came).0).closed

  abbrev fs : List Sent
  fs = (seen-by e.host x).sent

  abbrev next : given + given_by x (seen-by e.host x) < 2 ^ 32 → Live s.hr s.hrx s.hstore s.host.given.k (given + given_by x (seen-by e.host x)) (after e.host x) (next-books e.host books x)
  next small = live-next s.hr s.hrx s.hstore s.host.given.k given e.host books (live-from s.hr s.hrx s.hstore s.hb given e.host books s.host) x small

  -- a payload is within the longest
  got-small : length (bytes-in line.got) ≤ payload_limit
  unfolding packet_of
  got-small = by-packet line.got line.taken
    where
      by-packet : (z : Option Sent) → Packeted (received_in x) (lent e.host).state.header.negotiated.config.max_payload (outcome e.host x) z → length (bytes-in z) ≤ payload_limit
      by-packet None (idle u) = omega arith
      by-packet (Some f) (took k h sy c a0 a1 pay us four) =
          let m = (lent e.host).state.header.negotiated.config.max_payload in
          let a = body-length (received_in x) m k sy in
          let b : k.data_length ≡ (message_of (received_in x)).data_length = ap (λ (z : Packet). z.data_length) sy.known.packet-is in
          let d = sy.known.within in
          let q = ap length pay in
          omega arith

  module _ (small : given + given_by x (seen-by e.host x) < 2 ^ 32) where
    -- what it does between the ends, at what we offer
    abbrev step-offered : HostStep (offered_credit (agreed-of e.host)) (book_at books) (book_at (next-books e.host books x)) (waits-in e.host) (waits-in (after e.host x)) (own-in e.host)
        (own-in (after e.host x)) s.host.given.k (next small).given.k line.got fs
    step-offered = host-step s.hr s.hrx s.hstore s.hb given e.host books s.host x (accepts-none e.host s.silent (take n e.up) c host) line.got line.taken small

    -- which is o
    step-now : HostStep o (book_at books) (book_at (next-books e.host books x)) (waits-in e.host) (waits-in (after e.host x)) (own-in e.host) (own-in (after e.host x)) s.host.given.k
        (next small).given.k line.got fs
    step-now =
        subst (λ (z : ℕ). HostStep z (book_at books) (book_at (next-books e.host books x)) (waits-in e.host) (waits-in (after e.host x)) (own-in e.host) (own-in (after e.host x)) s.host.given.k
        (next small).given.k line.got fs) s.offered step-offered

    joint-now : Joint o (book_at books) (waits-in e.host) (own-in e.host) s.host.given.k (book_at s.its) s.credits s.mates w s.sent-down (ahead line.got line.rest) s.on-down
    joint-now =
        subst (λ (z : List Sent). Joint o (book_at books) (waits-in e.host) (own-in e.host) s.host.given.k (book_at s.its) s.credits s.mates w s.sent-down z s.on-down) line.frames-are s.joint

    near-now : (i : ℕ) → (book_at (next-books e.host books x) i).there ≡ true
        → length (book_at (next-books e.host books x) i).accepted ≤ o + (book_at (next-books e.host books x) i).acked + payload_limit
    near-now =
        near-next o (book_at books) (book_at (next-books e.host books x)) (waits-in e.host) (waits-in (after e.host x)) (own-in e.host) (own-in (after e.host x)) s.host.given.k (next small).given.k
        (book_at s.its) s.credits s.mates w s.sent-down line.rest s.on-down line.got fs joint-now step-now ready-write payload_limit got-small s.near

    even-now : (i : ℕ) → (book_at (next-books e.host books x) i).there ≡ true → (book_at (next-books e.host books x) i).closed ≡ false
        → length (book_at (next-books e.host books x) i).accepted ≡ (book_at (next-books e.host books x) i).acked + (place_slot (after e.host x) i).unacked
    even-now i t cl = by-book (step-offered.books i t)
      where
        by-book : OurBook (offered_credit (agreed-of e.host)) (waits-in e.host) (own-in e.host) line.got fs (book_at books i) (book_at (next-books e.host books x) i)
            → length (book_at (next-books e.host books x) i).accepted ≡ (book_at (next-books e.host books x) i).acked + (place_slot (after e.host x) i).unacked
        by-book (stood th lc rm op ac tk live) =
            let ev = s.even i th (live cl) in
            let nr = s.near i th in
            let gs = got-small in
            let lo = s.low in
            let mv = unacked-moves s.hr s.hrx s.hstore s.hb given e.host books s.host x (accepts-none e.host s.silent (take n e.up) c host) line.got line.taken small i th t cl (omega arith) in
            omega arith
        by-book (opened f e1 e2 e3 e4 a b d q z k v) =
            let u = unacked-new s.hr s.hrx s.hstore s.host.given.k (given + given_by x (seen-by e.host x)) (after e.host x) (next-books e.host books x) (next small) i t cl d in
            let n = ap length d in
            omega arith

  -- what is kept between the ends is kept by it
  pub turn-ours : given + given_by x (seen-by e.host x) < 2 ^ 32
      → State o (turned e (ours c n)) (next-books e.host books x) (given + given_by x (seen-by e.host x)) w drx dstore st
  unfolding turned
  turn-ours small =
      let none = accepts-none e.host s.silent (take n e.up) c host in
      let stays = agreed-stays s.hr s.hrx s.hstore s.hb given e.host books s.host x in
      let heard : fs ≡ map (sent_of (agreed-of e.host)) (outcome e.host x).frames = ap (λ (z : Seen). z.sent) (seen-heard s.hr s.hrx s.hstore s.hb given e.host books s.host x) in
      let out : take (holds e c n).written (holds e c n).out ≡ frames_bytes (agreed-of e.host) (outcome e.host x).frames = written-bytes s.hr s.hrx s.hstore s.hb given e.host books s.host x in
      let wrote : Carried (take (holds e c n).written (holds e c n).out) fs =
      subst (λ (z : List ℕ). Carried z fs) (sym out)
      (subst (Carried (frames_bytes (agreed-of e.host) (outcome e.host x).frames)) (sym heard) (carried-call (agreed-of e.host) s.hr s.hrx s.hstore e.host s.host.holds x)) in
      record {
        hr = s.hr;
        hrx = s.hrx;
        hstore = s.hstore;
        hb = s.host.given.k;
        host = next small;
        offered = ap offered_credit stays ∙ s.offered;
        low = s.low;
        near = near-now small;
        even = even-now small;
        silent = silent-next s.hr s.hrx s.hstore s.hb given e.host books s.host s.silent x line.got line.taken no-open;
        keeps = s.keeps;
        connected = s.connected;
        xr = s.xr;
        xrx = s.xrx;
        xstore = s.xstore;
        xb = s.xb;
        its = s.its;
        device = s.device;
        credits = s.credits;
        sound = s.sound;
        mates = s.mates;
        few = s.few;
        sent-down = s.sent-down ++ fs;
        on-up = line.rest;
        on-down = s.on-down ++ fs;
        up = subst (λ (z : ℕ). Carried (drop z e.up) line.rest) (sym (used-bytes s.hr s.hrx s.hstore s.hb given e.host books s.host x)) line.behind;
        down = carried-append e.down (take (holds e c n).written (holds e c n).out) s.on-down fs s.down wrote;
        joint =
            host-keeps o (book_at books) (book_at (next-books e.host books x)) (waits-in e.host) (waits-in (after e.host x)) (own-in e.host)
            (own-in (after e.host x)) s.host.given.k (next small).given.k
            (book_at s.its) s.credits s.mates w s.sent-down line.rest s.on-down line.got fs
            (joint-now small) (step-now small) ready-write;
      }
