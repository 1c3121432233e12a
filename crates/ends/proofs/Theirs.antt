-- A device's call as steps of both ends. Assumes nothing.
use mathlib.Core.Path.{◌≡◌, refl, sym, ap, subst, ◌∙◌}
use mathlib.Core.Bool.{Bool, true, false, true≢false}
use mathlib.Core.List.{List, [], ◌∷◌, ◌++◌, append_assoc}
use Prim.Native.Nat.{ℕ, ◌+◌, ◌^◌, ◌<◌}
use native.Mathlib.Omega.{arith}
use lib.ListN.{take, drop}
use Rattle.le.specs.Le.{num_of}
use Rattle.config.specs.declared.negotiated.Negotiated.{Negotiated}
use Rattle.protocol.specs.declared.command.Command.TheVariants.{Open}
use Rattle.protocol.specs.declared.packet.Packet.{Packet}
use Rattle.protocol.specs.Command.{is_open, is_the, word_of, letters_of}
use Rattle.protocol.specs.Packet.{decode_of}
use Rattle.connection.specs.Frames.{Sent, frames_bytes}
use Rattle.device.specs.Device.{Gives}
use Rattle.history.specs.Run.{Call, bytes_in, received_in, World, lent, outcome, after, after_all}
use Rattle.history.specs.Seen.{Seen, events_of}
use Rattle.history.specs.Book.{Ledger, book_at}
use Rattle.history.specs.Numbers.{given_by, given_in}
use Rattle.history_frames.proofs.Receipt.{receipts, decodes}
use Rattle.device_history.specs.Owner.{arrived}
use Rattle.device_history.specs.Run.{DeviceCall, device_dispatches, device_reads, device_writes, device_settles, device_takes, device_closes, connection, leaves}
use Rattle.device_history.specs.Trace.{begins_at, Story, joined, part_of}
use Rattle.device_history.proofs.BookLaws.{events-append}
use Rattle.device_history.proofs.FreeLaws.{given_so, given-append}
use Rattle.device_history.proofs.Follows.{keeps-after, after-append}
use Rattle.ends_device.proofs.Turns.{Handed, handed-all, handed-none, AloneTurn, IgnoringTurn, JudgingTurn, DeviceTurn, goes-alone, ignores, judges, verdict_on, turns, still-connected}
use Rattle.ends_lines.specs.Lines.{frames_on}
use Rattle.ends_lines.proofs.Carried.{Carried, more, carried-first, carried-same, carried-append, carried-reads}
use Rattle.ends_lines.proofs.Called.{carried-call}
use Rattle.ends.specs.Ends.{Ends, theirs, handed_there, their_call, gives_there, turned}
use Rattle.ends.proofs.Joint.{ahead}
use Rattle.ends.proofs.Lined.{Packeted, idle, took, Lends, lined}
use Rattle.ends.proofs.Live.{agreed-of, seen-by, next-books, live-table, live-next, agreed-stays, seen-heard}
use Rattle.ends.proofs.Host.{waits-in, own-in}
use Rattle.ends.proofs.State.{State}
use Rattle.ends.proofs.Half.{Half, plain-half, drop-half, no-stream, verdict-half}
use Rattle.std.specs.Prelude.{Option, Some, None}

-- ---- what a device's call is handed

-- bytes of the line, from its front
pub handed-there-lends : (line : List ℕ) (fs : List Sent) → Carried line fs → (n : ℕ) (x : DeviceCall) → Lends (bytes_in (arrived (handed_there (take n line) x))) line
unfolding handed_there arrived bytes_in
handed-there-lends line fs c n (device_dispatches out names received) = record { count = n; first = carried-same line fs c n }
handed-there-lends line fs c n (device_reads out names ch buf received) = record { count = n; first = carried-same line fs c n }
handed-there-lends line fs c n (device_writes out names ch bytes received) = record { count = n; first = carried-same line fs c n }
handed-there-lends line fs c n (device_settles out ch want) = record { count = 0; first = refl }
handed-there-lends line fs c n (device_takes ch buf) = record { count = 0; first = refl }
handed-there-lends line fs c n (device_closes out ch) = record { count = 0; first = refl }

-- a call of the connection is handed the same bytes, or none
handed-lent : (a r line : List ℕ) → Handed a r → Lends r line → Lends a line
handed-lent a r line (handed-all e) k = record { count = k.count; first = e ∙ k.first }
handed-lent a r line (handed-none e) k = record { count = 0; first = e }

abbrev is-some : Option Sent → Bool
is-some None = false
is-some (Some f) = true

some-none : (f : Sent) → None ≡ Some f → ⊥
some-none f e = true≢false (sym (ap is-some e))

abbrev the-one : Sent → Option Sent → Sent
the-one f None = f
the-one f (Some h) = h

some-same : (h f : Sent) → Some h ≡ Some f → h ≡ f
some-same h f e = ap (the-one f) e

-- ---- numbers given out

pub one-event : (w : World) (c : Call) → given_in (events_of w (c ∷ [])) ≡ given_by c (seen-by w c)
unfolding events_of given_in
one-event w c = omega arith

-- by a story with one call more
given-more : (st : Story) (v : World) (c : Call) → v ≡ after_all (begins_at st.from) st.calls
    → given_so (record { from = st.from; calls = st.calls ++ c ∷ [] }) ≡ given_so st + given_by c (seen-by v c)
given-more st v c e =
    ap given_in (events-append (begins_at st.from) st.calls (c ∷ [])) ∙ given-append (events_of (begins_at st.from) st.calls) (events_of (after_all (begins_at st.from) st.calls) (c ∷ []))
    ∙ ap (λ (z : World). given_so st + given_in (events_of z (c ∷ []))) (sym e) ∙ ap (λ (z : ℕ). given_so st + z) (one-event v c)

-- and with two
given-two : (st : Story) (v : World) (c d : Call) → v ≡ after_all (begins_at st.from) st.calls
    → given_so (record { from = st.from; calls = st.calls ++ c ∷ d ∷ [] }) ≡ given_so st + given_by c (seen-by v c) + given_by d (seen-by (after v c) d)
unfolding after_all
given-two st v c d e =
    let one : Story = record { from = st.from; calls = st.calls ++ c ∷ [] } in
    let e1 : after v c ≡ after_all (begins_at st.from) (st.calls ++ c ∷ []) = ap (λ (z : World). after z c) e ∙ sym (after-append (begins_at st.from) st.calls (c ∷ [])) in
    ap (λ (z : List Call). given_so (record { from = st.from; calls = z })) (sym (append_assoc st.calls (c ∷ []) (d ∷ []))) ∙ given-more one (after v c) d e1
    ∙ ap (λ (z : ℕ). z + given_by d (seen-by (after v c) d)) (given-more st v c e)

-- ---- a frame on the line

carried-arg1 : (line : List ℕ) (f : Sent) (fs : List Sent) → Carried line (f ∷ fs) → f.arg1 < 2 ^ 32
carried-arg1 line f fs (more l s rest gs leads c) = leads.arg1-fits

open-is : is_open Open ≡ true
unfolding is_open is_the word_of letters_of num_of
open-is = refl

-- ---- a call

module _ (o : ℕ) (e : Ends) (books : Ledger) (given : ℕ) (w : List Sent) (drx dstore : ℕ) (st : Story) (s : State o e books given w drx dstore st) (x : DeviceCall) (n : ℕ) where
  abbrev y : DeviceCall
  y = their_call e x n

  abbrev g : Gives
  g = gives_there e x n

  abbrev v : World
  v = connection e.device

  abbrev st' : Story
  st' = joined st (connection e.device) (part_of e.device (their_call e x n))

  abbrev half-at : World → ℕ → List Sent → List Sent → List Sent → Type 0
  half-at v gd w u d = Half o (book_at books) (waits-in e.host) (own-in e.host) s.host.given.k s.xr s.xrx s.xstore v gd w s.sent-down u d

  -- what is kept of the device's end before the call
  half : half-at v (given_so st) w s.on-up s.on-down
  half = record { from = s.xb; its = s.its; device = s.device; credits = s.credits; sound = s.sound; mates = s.mates; few = s.few; joint = s.joint }

  -- its call is handed bytes of the line down, from its front
  lends : Lends (bytes_in (arrived (their_call e x n))) e.down
  lends = handed-there-lends e.down s.on-down s.down n x

  -- the numbers given out with this call
  abbrev Counts : Type 0
  Counts = given_so st' < 2 ^ 32

  abbrev After : Type 0
  After = State o (turned e (theirs x n)) books given (w ++ frames_on g.written) drx dstore st'

  -- what is left, from the last of its steps: it wrote the bytes bs, which are the frames fs, and used as many as given
  built : (v' : World) (gd : ℕ) (bs : List ℕ) (fs d : List Sent) (used : ℕ) → half-at v' gd (w ++ fs) (s.on-up ++ fs) d → connection (leaves e.device y) ≡ v'
      → given_so st' ≡ gd → g.written ≡ bs → Carried bs fs → g.used ≡ used → Carried (drop used e.down) d → After
  unfolding turned
  built v' gd bs fs d used h ve ge written c takes behind =
      let seen : frames_on g.written ≡ fs = ap frames_on written ∙ carried-reads bs fs c in
      let placed : half-at (connection (leaves e.device y)) (given_so st') (w ++ fs) (s.on-up ++ fs) d =
      subst (λ (z : World). half-at z (given_so st') (w ++ fs) (s.on-up ++ fs) d) (sym ve) (subst (λ (z : ℕ). half-at v' z (w ++ fs) (s.on-up ++ fs) d) (sym ge) h) in
      let left = subst (λ (z : List Sent). half-at (connection (leaves e.device y)) (given_so st') (w ++ z) (s.on-up ++ fs) d) (sym seen) placed in
      record {
        hr = s.hr;
        hrx = s.hrx;
        hstore = s.hstore;
        hb = s.hb;
        host = s.host;
        offered = s.offered;
        silent = s.silent;
        low = s.low;
        near = s.near;
        even = s.even;
        keeps = keeps-after drx dstore st e.device s.keeps y;
        connected = still-connected drx dstore st e.device s.keeps s.connected y;
        xr = s.xr;
        xrx = s.xrx;
        xstore = s.xstore;
        xb = left.from;
        its = left.its;
        device = left.device;
        credits = left.credits;
        sound = left.sound;
        mates = left.mates;
        few = left.few;
        sent-down = s.sent-down;
        on-up = s.on-up ++ fs;
        on-down = d;
        up = subst (λ (z : List ℕ). Carried (e.up ++ z) (s.on-up ++ fs)) (sym written) (carried-append e.up bs s.on-up fs s.up c);
        down = subst (λ (z : ℕ). Carried (drop z e.down) d) (sym takes) behind;
        joint = left.joint;
      }

  -- what one of the connection's calls writes
  wrote : (c : Call) → Carried (frames_bytes (agreed-of v) (outcome v c).frames) (seen-by v c).sent
  wrote c =
      subst (Carried (frames_bytes (agreed-of v) (outcome v c).frames)) (sym (ap (λ (z : Seen). z.sent) (seen-heard s.xr s.xrx s.xstore s.xb (given_so st) v s.its s.device c)))
      (carried-call (agreed-of v) s.xr s.xrx s.xstore v s.device.holds c)

  -- one of the connection's calls alone
  alone-turn : Counts → (c : Call) → AloneTurn st e.device y c → After
  alone-turn counts c t =
      let lim = (lent v).state.header.negotiated.config.max_payload in
      let ln = lined e.down s.on-down s.down (received_in c) lim (outcome v c) (handed-lent (received_in c) (bytes_in (arrived y)) e.down t.handed lends)
      (receipts v (live-table s.xr s.xrx s.xstore s.xb (given_so st) v s.its s.device) s.device.given.away c).uses in
      let h0 : half-at v (given_so st) w s.on-up (ahead ln.got ln.rest) = subst (half-at v (given_so st) w s.on-up) ln.frames-are half in
      let gs : given_so st' ≡ given_so st + given_by c (seen-by v c) = ap given_so t.story ∙ given-more st v c s.keeps.same in
      let small : given_so st + given_by c (seen-by v c) < 2 ^ 32 = let z = counts in omega arith in
      let h = plain-half o (book_at books) (waits-in e.host) (own-in e.host) s.host.given.k s.low s.xr s.xrx s.xstore v
      (given_so st) w s.sent-down s.on-up ln.rest ln.got h0 c t.plain ln.taken (pass-open c t ln.got ln.taken) small in
      built (after v c) (given_so st + given_by c (seen-by v c)) (frames_bytes (agreed-of v) (outcome v c).frames) (seen-by v c).sent ln.rest _ h t.next gs t.written
      (wrote c) t.used ln.behind
    where
      pass-open : (c : Call) (t : AloneTurn st e.device y c) (got : Option Sent) → Packeted (received_in c) (lent v).state.header.negotiated.config.max_payload (outcome v c) got
          → (f : Sent) → got ≡ Some f → is_open f.command ≡ false
      pass-open c t None (idle u) f q = absurd (some-none f q)
      pass-open c t (Some h) (took k z sy ec a0 a1 pay us four) f q =
          let ps = t.passes k (decodes (received_in c) (lent v).state.header.negotiated.config.max_payload k sy) in
          subst (λ (m : Sent). is_open m.command ≡ false) (some-same h f q) (ap is_open ec ∙ ps.no-open)

  -- a packet that is dropped beside it
  ignoring-turn : Counts → (c : Call) (k : Packet) → IgnoringTurn st e.device y c k → After
  ignoring-turn counts c k t =
      let lim = (lent v).state.header.negotiated.config.max_payload in
      let fr = carried-first e.down s.on-down s.down lends.count lim k (ap (λ (z : List ℕ). decode_of z lim) (sym lends.first) ∙ t.decoded) in
      let h0 : half-at v (given_so st) w s.on-up (fr.frame ∷ fr.rest) = subst (half-at v (given_so st) w s.on-up) fr.frames-are half in
      let h1 : half-at v (given_so st) w s.on-up fr.rest =
      drop-half o (book_at books) (waits-in e.host) (own-in e.host) s.host.given.k s.low s.xr s.xrx s.xstore v
      (given_so st) w s.sent-down s.on-up fr.rest fr.frame h0 k fr.command fr.arg0 fr.arg1 t.packet_is.opened
      (λ j th op. no-stream o (book_at books) (waits-in e.host) (own-in e.host) s.host.given.k s.low s.xr s.xrx s.xstore v
      (given_so st) w s.sent-down s.on-up h0.its h0.from h0.device fr.frame k fr.command fr.arg1
      t.packet_is.stream j th op (λ z. let q = (h0.joint.its j th).some in omega arith)) in
      let gs : given_so st' ≡ given_so st + given_by c (seen-by v c) = ap given_so t.story ∙ given-more st v c s.keeps.same in
      let small : given_so st + given_by c (seen-by v c) < 2 ^ 32 = let z = counts in omega arith in
      let h = plain-half o (book_at books) (waits-in e.host) (own-in e.host) s.host.given.k s.low s.xr s.xrx s.xstore v
      (given_so st) w s.sent-down s.on-up fr.rest None h1 c t.plain (idle t.unused) (λ f q. absurd (some-none f q)) small in
      built (after v c) (given_so st + given_by c (seen-by v c)) (frames_bytes (agreed-of v) (outcome v c).frames) (seen-by v c).sent fr.rest _ h t.next gs t.written
      (wrote c) t.used fr.behind

  -- an OPEN that is refused or taken behind it
  judging-turn : Counts → (c : Call) (k : Packet) (take : Bool) (credit : ℕ) → JudgingTurn st e.device y c k take credit → After
  judging-turn counts c k take credit t =
      let lim = (lent v).state.header.negotiated.config.max_payload in
      let fr = carried-first e.down s.on-down s.down lends.count lim k (ap (λ (z : List ℕ). decode_of z lim) (sym lends.first) ∙ t.decoded) in
      let h0 : half-at v (given_so st) w s.on-up (fr.frame ∷ fr.rest) = subst (half-at v (given_so st) w s.on-up) fr.frames-are half in
      let v1 = after v c in
      let vc = verdict_on k take credit in
      let g1 = given_so st + given_by c (seen-by v c) in
      let fs1 = (seen-by v c).sent in
      let fs2 = (seen-by v1 vc).sent in
      let gs : given_so st' ≡ g1 + given_by vc (seen-by v1 vc) = ap given_so t.story ∙ given-two st v c vc s.keeps.same in
      let one = wrote c in
      let small2 : g1 + given_by vc (seen-by v1 vc) < 2 ^ 32 = let z = counts in omega arith in
      let small1 : g1 < 2 ^ 32 = omega arith in
      let two : Carried (frames_bytes (agreed-of v) (outcome v1 vc).frames) fs2 =
      wrote-behind c vc small1 in
      let cw : Carried (frames_bytes (agreed-of v) (outcome v c).frames ++ frames_bytes (agreed-of v) (outcome v1 vc).frames) (fs1 ++ fs2) = carried-append _ _ fs1 fs2 one two in
      let h1 = plain-half o (book_at books) (waits-in e.host) (own-in e.host) s.host.given.k s.low s.xr s.xrx s.xstore v (given_so st) w s.sent-down s.on-up
      (fr.frame ∷ fr.rest) None h0 c t.plain (idle t.unused)
      (λ f q. absurd (some-none f q)) small1 in
      let h2 = verdict-half o (book_at books) (waits-in e.host) (own-in e.host) s.host.given.k s.low s.xr s.xrx s.xstore v1 g1 (w ++ fs1) s.sent-down (s.on-up ++ fs1) fr.rest fr.frame h1 k take credit
      (ap is_open (fr.command ∙ t.command) ∙ open-is) fr.arg0 fr.arg1 t.asked
      (subst (λ (z : ℕ). z < 2 ^ 32) fr.arg1 (carried-arg1 e.down fr.frame fr.rest (subst (Carried e.down) fr.frames-are s.down))) small2 t.step in
      let h3 : half-at (after v1 vc) (g1 + given_by vc (seen-by v1 vc)) (w ++ (fs1 ++ fs2)) (s.on-up ++ (fs1 ++ fs2)) fr.rest =
      subst (λ (z : List Sent). half-at (after v1 vc) (g1 + given_by vc (seen-by v1 vc)) z (s.on-up ++ (fs1 ++ fs2)) fr.rest) (append_assoc w fs1 fs2)
      (subst (λ (z : List Sent). half-at (after v1 vc) (g1 + given_by vc (seen-by v1 vc)) ((w ++ fs1) ++ fs2) z fr.rest) (append_assoc s.on-up fs1 fs2) h2) in
      built (after v1 vc) (g1 + given_by vc (seen-by v1 vc)) _ (fs1 ++ fs2) fr.rest _ h3 t.next gs t.written cw t.used fr.behind
    where
      wrote-behind : (c vc : Call) → given_so st + given_by c (seen-by v c) < 2 ^ 32 → Carried (frames_bytes (agreed-of v) (outcome (after v c) vc).frames) (seen-by (after v c) vc).sent
      wrote-behind c vc small =
          let nx = live-next s.xr s.xrx s.xstore s.xb (given_so st) v s.its s.device c small in
          let st1 = agreed-stays s.xr s.xrx s.xstore s.xb (given_so st) v s.its s.device c in
          let all : Carried (frames_bytes (agreed-of (after v c)) (outcome (after v c) vc).frames) (seen-by (after v c) vc).sent =
          subst (Carried (frames_bytes (agreed-of (after v c)) (outcome (after v c) vc).frames))
          (sym (ap (λ (z : Seen). z.sent) (seen-heard s.xr s.xrx s.xstore s.xb (given_so st + given_by c (seen-by v c)) (after v c) (next-books v s.its c) nx vc)))
          (carried-call (agreed-of (after v c)) s.xr s.xrx s.xstore (after v c) nx.holds vc) in
          subst (λ (z : Negotiated). Carried (frames_bytes z (outcome (after v c) vc).frames) (seen-by (after v c) vc).sent) st1 all

  -- any of them
  pub turn-theirs : Counts → After
  turn-theirs counts = by-turn (turns drx dstore st e.device s.keeps s.connected y)
    where
      by-turn : DeviceTurn st e.device y → After
      by-turn (goes-alone c t) = alone-turn counts c t
      by-turn (ignores c k t) = ignoring-turn counts c k t
      by-turn (judges c k take credit t) = judging-turn counts c k take credit t
