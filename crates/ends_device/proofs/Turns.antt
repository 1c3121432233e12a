-- What a call of a device's end that is connected is to the connection, and what it uses and writes. Assumes nothing.
use Rattle.std.proofs.Common.{◌≡◌, refl, sym, ap, ap₂, subst, ◌∙◌, Bool, true, false, ◌||◌, List, [], ◌∷◌, ◌++◌, append-nil, ℕ, ◌+◌, ◌≤◌, ◌<◌, ◌^◌, eqb, length, drop, replicate, Option, Some, None, Result, Ok, Err, arith}
use mathlib.Core.Bool.{true≢false}
use borrow.Author.Tests.{eqb-true}
use Rattle.le.specs.Rows.{flat}
use Rattle.le.proofs.Parts.{by-test}
use Rattle.le.proofs.RowLaws.{never}
use Rattle.config.specs.declared.negotiated.Negotiated.{Negotiated}
use Rattle.config.specs.Config.{stores_fit}
use Rattle.protocol.specs.declared.command.Command.{Command}
use Rattle.protocol.specs.declared.command.Command.TheVariants.{Sync, Connect, Open, Ready, Close, Write, Auth, StartTls}
use Rattle.protocol.specs.declared.packet.DecodeError.{DecodeError}
use Rattle.protocol.specs.declared.packet.Packet.{Packet}
use Rattle.protocol.specs.Command.{letters_of, word_of, is_the, is_open, is_ready, is_close, is_write}
use Rattle.protocol.specs.Message.{message_size}
use Rattle.protocol.specs.Packet.{payload_of, decode_of}
use Rattle.le.specs.Le.{num_of}
use Rattle.slot.specs.declared.ChannelSlot.{ChannelSlot}
use Rattle.slot.specs.declared.ids.RemoteId.{RemoteId}
use Rattle.slot.proofs.Kept.{pick}
use Rattle.slot.proofs.Laws.{cond-true, cond-false}
use Rattle.state.specs.declared.Header.{Header}
use Rattle.state.specs.State.{state_len, state_of}
use Rattle.connection.specs.declared.Answer.{Answer}
use Rattle.connection.specs.declared.Answer.TheVariants.{Waiting, Refused}
use Rattle.connection.specs.declared.Refusal.TheVariants.{OutShort}
use Rattle.connection.specs.Answer.{answer_number}
use Rattle.connection.specs.Calls.{Lent, Outcome, verdict_step}
use Rattle.connection.specs.Frames.{Frame, frames_bytes}
use Rattle.call.specs.Promise.{lent_of}
use Rattle.history.specs.Run.{Call, open_call, dispatch_call, settle_call, take_call, read_call, write_call, close_call, front_taken, look_call, accept_call, reject_call, let_go_call, verdict_call, received_in, World, lent, bytes_in, outcome, after, after_all}
use Rattle.history.proofs.Never13.{Holds, holds_after}
use Rattle.device_meets.specs.declared.Met.{Met}
use Rattle.device_meets.specs.declared.Verdict.{Verdict}
use Rattle.device_meets.specs.declared.Verdict.TheVariants.{Ignore, Refuse, Take}
use Rattle.device_meets.specs.Meets.{fits_mode, by_name, open_verdict, is_stream, ignored, unless_stream, met_as, by_command, met_by, meets}
use Rattle.names.specs.Names.{find_name, asked_name}
use Rattle.device.specs.declared.DeviceAnswer.TheVariants.{Plain}
use Rattle.device.specs.Device.{inner_at, is_connected, head_of, inner_of, is_waiting, taken_as, judged, Gives, given, and_judged, shown, met_in, behind, called, unchanged}
use Rattle.device.specs.Answer.{device_number}
use Rattle.device_dispatch.specs.Promise.{is_cnxn}
use Rattle.device_history.specs.Run.{DeviceCall, device_dispatches, device_reads, device_writes, device_settles, device_takes, device_closes, DeviceWorld, connection, gives, leaves_by, leaves}
use Rattle.device_history.specs.Trace.{Beginning, begins_at, Part, goes, stays, anew, header_in, met_by_call, part_of, verdict_calls, behind_calls, calls_of, Story, joined}
use Rattle.device_history.specs.Owner.{arrived, host_call}
use Rattle.device_history.proofs.Heads.{head-size, flagged-flag}
use Rattle.device_history.proofs.Fits.{VerdictFits}
use Rattle.device_history.proofs.Parts.{Goes, Begun, Does, does}
use Rattle.device_history.proofs.Follows.{verdict-outcome, inside-is, fit-after, inside-called, called-head, agreed_at, Keeps, keeps-holds, keeps-after}
use Rattle.device_history.proofs.StreamLaws.{by_kind, met-none, met-some}
use Rattle.device_history.proofs.UsedLaws.{used-none}
use Rattle.device_history.proofs.SeenLaws.{number-most, waiting-is, Taking, full, took, takes-or, agreed-after}
use Rattle.device_history.proofs.OwnerLaws.{goes-flag}

-- ---- what is said of a call

-- one of the six calls that a call of a device's end is to the connection
abbrev pub PlainCall : Call → Type 0
PlainCall (open_call out destination received) = ⊥
PlainCall (dispatch_call out received) = Unit {0}
PlainCall (settle_call out ch want) = Unit {0}
PlainCall (take_call ch buf) = Unit {0}
PlainCall (read_call out ch buf received) = Unit {0}
PlainCall (write_call spending out ch bytes received) = Unit {0}
PlainCall (close_call out ch) = Unit {0}
PlainCall front_taken = ⊥
PlainCall (look_call l) = ⊥
PlainCall (accept_call out) = ⊥
PlainCall (reject_call out) = ⊥
PlainCall let_go_call = ⊥
PlainCall (verdict_call out take remote credit) = ⊥

-- handed these bytes, or none
pub data Handed (a r : List ℕ) : Type 0 where
  handed-all : a ≡ r → Handed a r
  handed-none : a ≡ [] → Handed a r

-- a packet whose second number names a stream: OKAY, WRTE and CLSE
abbrev pub names_one : Packet → Bool
names_one k = is_ready k.command || is_write k.command || is_close k.command

-- whether that stream is open
abbrev pub is_open_stream : World → Packet → Bool
is_open_stream v k = is_stream (lent v).state.header.negotiated.config.channels (lent v).state.slots (record { 0 = k.arg1 })

-- a packet that passes to the connection
pub record Passes (v : World) (k : Packet) : Type 0 where
  pub no-open : is_open k.command ≡ false
  pub no-cnxn : is_cnxn k.command ≡ false
  pub stream : names_one k ≡ true → is_open_stream v k ≡ true

-- a packet that is used, and nothing else
pub record Ignored (v : World) (k : Packet) : Type 0 where
  pub opened : is_open k.command ≡ true → k.arg0 ≡ 0
  pub stream : names_one k ≡ true → is_open_stream v k ≡ false

-- an OPEN is taken or refused, by its own number
abbrev pub verdict_on : Packet → Bool → ℕ → Call
verdict_on k take credit = verdict_call (replicate 56 0) take (record { 0 = k.arg0 }) credit

-- ---- what a call is

-- the connection's call c, handed what arrived or nothing, and no call behind it
pub record AloneTurn (s : Story) (w : DeviceWorld) (x : DeviceCall) (c : Call) : Type 0 where
  pub plain : PlainCall c
  pub hand : List ℕ
  pub is : c ≡ host_call x hand
  pub handed : Handed (received_in c) (bytes_in (arrived x))
  pub answer : (gives w x).answer ≡ Plain (outcome (connection w) c).answer
  pub used : (gives w x).used ≡ (outcome (connection w) c).used
  pub written : (gives w x).written ≡ frames_bytes (header_in w).negotiated (outcome (connection w) c).frames
  pub got : (gives w x).handed ≡ (outcome (connection w) c).handed
  pub next : connection (leaves w x) ≡ after (connection w) c
  pub story : joined s (connection w) (part_of w x) ≡ record { from = s.from; calls = s.calls ++ c ∷ [] }
  -- a packet that it is handed passes
  pub passes : (k : Packet) → decode_of (received_in c) (header_in w).negotiated.config.max_payload ≡ Ok (Some k) → Passes (connection w) k

-- c, handed nothing, which waits; the packet k is used, and nothing else
pub record IgnoringTurn (s : Story) (w : DeviceWorld) (x : DeviceCall) (c : Call) (k : Packet) : Type 0 where
  pub plain : PlainCall c
  pub is : c ≡ host_call x []
  pub none : received_in c ≡ []
  pub decoded : decode_of (bytes_in (arrived x)) (header_in w).negotiated.config.max_payload ≡ Ok (Some k)
  pub used : (gives w x).used ≡ message_size + k.data_length
  pub unused : (outcome (connection w) c).used ≡ 0
  pub waits : (outcome (connection w) c).answer ≡ Waiting
  pub written : (gives w x).written ≡ frames_bytes (header_in w).negotiated (outcome (connection w) c).frames
  pub got : (gives w x).handed ≡ (outcome (connection w) c).handed
  pub next : connection (leaves w x) ≡ after (connection w) c
  pub story : joined s (connection w) (part_of w x) ≡ record { from = s.from; calls = s.calls ++ c ∷ [] }
  pub packet_is : Ignored (connection w) k

-- c, handed nothing, which waits; behind it the OPEN k is taken or refused
pub record JudgingTurn (s : Story) (w : DeviceWorld) (x : DeviceCall) (c : Call) (k : Packet) (take : Bool) (credit : ℕ) : Type 0 where
  pub plain : PlainCall c
  pub is : c ≡ host_call x []
  pub none : received_in c ≡ []
  pub decoded : decode_of (bytes_in (arrived x)) (header_in w).negotiated.config.max_payload ≡ Ok (Some k)
  pub command : k.command ≡ Open
  pub numbered : eqb k.arg0 0 ≡ false
  -- it is taken with the OPEN's own credit, which fits the mode
  pub asked : take ≡ true → credit ≡ k.arg1
  pub fits : take ≡ true → fits_mode (header_in w).negotiated.delayed_ack k.arg1 ≡ true
  pub used : (gives w x).used ≡ message_size + k.data_length
  pub unused : (outcome (connection w) c).used ≡ 0
  pub waits : (outcome (connection w) c).answer ≡ Waiting
  pub written : (gives w x).written
      ≡ frames_bytes (header_in w).negotiated (outcome (connection w) c).frames
      ++ frames_bytes (header_in w).negotiated (outcome (after (connection w) c) (verdict_on k take credit)).frames
  pub got : (gives w x).handed ≡ (outcome (connection w) c).handed
  pub next : connection (leaves w x) ≡ after (after (connection w) c) (verdict_on k take credit)
  pub story : joined s (connection w) (part_of w x) ≡ record { from = s.from; calls = s.calls ++ c ∷ verdict_on k take credit ∷ [] }
  -- the verdict is not refused ahead of its step
  pub step : outcome (after (connection w) c) (verdict_on k take credit) ≡ verdict_step (lent (after (connection w) c)) take (record { 0 = k.arg0 }) credit

-- of a device's end that is connected; s: the story that left w
pub data DeviceTurn (s : Story) (w : DeviceWorld) (x : DeviceCall) : Type 0 where
  goes-alone : (c : Call) → AloneTurn s w x c → DeviceTurn s w x
  ignores : (c : Call) (k : Packet) → IgnoringTurn s w x c k → DeviceTurn s w x
  judges : (c : Call) (k : Packet) (take : Bool) (credit : ℕ) → JudgingTurn s w x c k take credit → DeviceTurn s w x

-- ---- the call of the connection's

host-plain : (x : DeviceCall) (r : List ℕ) → PlainCall (host_call x r)
unfolding host_call
host-plain (device_dispatches out names received) r = tt
host-plain (device_reads out names ch buf received) r = tt
host-plain (device_writes out names ch bytes received) r = tt
host-plain (device_settles out ch want) r = tt
host-plain (device_takes ch buf) r = tt
host-plain (device_closes out ch) r = tt

host-all : (x : DeviceCall) → received_in (host_call x (arrived x)) ≡ bytes_in (arrived x)
unfolding host_call arrived received_in bytes_in
host-all (device_dispatches out names received) = refl
host-all (device_reads out names ch buf received) = refl
host-all (device_writes out names ch bytes received) = refl
host-all (device_settles out ch want) = refl
host-all (device_takes ch buf) = refl
host-all (device_closes out ch) = refl

host-none : (x : DeviceCall) → received_in (host_call x []) ≡ []
unfolding host_call received_in bytes_in
host-none (device_dispatches out names received) = refl
host-none (device_reads out names ch buf received) = refl
host-none (device_writes out names ch bytes received) = refl
host-none (device_settles out ch want) = refl
host-none (device_takes ch buf) = refl
host-none (device_closes out ch) = refl

-- of a device's end that is connected: the packet that was met, in the names that it was handed
record Said (w : DeviceWorld) (x : DeviceCall) : Type 0 where
  names : List ℕ
  met : Option Met
  part : part_of w x ≡ goes (host_call x (shown (arrived x) met)) met
  is : met ≡ meets (header_in w) (state_of (inner_of w.state)).slots names (bytes_in (arrived x))

said : (w : DeviceWorld) → is_connected w.state ≡ true → (x : DeviceCall) → Said w x
unfolding part_of host_call arrived met_in meets met_by decode_of bytes_in shown
said w t (device_dispatches out names received) =
    record { names = bytes_in names; met = met_by_call w names received; part = cond-true (is_connected w.state) _ _ t; is = cond-true (is_connected w.state) _ _ t }
said w t (device_reads out names ch buf received) = record { names = bytes_in names; met = met_by_call w names received; part = refl; is = cond-true (is_connected w.state) _ _ t }
said w t (device_writes out names ch bytes received) = record { names = bytes_in names; met = met_by_call w names received; part = refl; is = cond-true (is_connected w.state) _ _ t }
said w t (device_settles out ch want) = record { names = []; met = None; part = refl; is = refl }
said w t (device_takes ch buf) = record { names = []; met = None; part = refl; is = refl }
said w t (device_closes out ch) = record { names = []; met = None; part = refl; is = refl }

-- ---- what passes, and what is met

-- by the command; t: whether an open stream is named
record Through (c : Command) (t : Bool) : Type 0 where
  no-open : is_open c ≡ false
  no-cnxn : is_cnxn c ≡ false
  stream : (is_ready c || is_write c || is_close c) ≡ true → t ≡ true

through : (c : Command) (t : Bool) → by_kind c t ≡ true → Through c t
unfolding is_open is_ready is_write is_close is_the word_of letters_of num_of is_cnxn
through Sync t e = record { no-open = refl; no-cnxn = refl; stream = λ i. never i }
through Connect t e = never e
through Open t e = never e
through Ready t e = record { no-open = refl; no-cnxn = refl; stream = λ i. e }
through Close t e = record { no-open = refl; no-cnxn = refl; stream = λ i. e }
through Write t e = record { no-open = refl; no-cnxn = refl; stream = λ i. e }
through Auth t e = record { no-open = refl; no-cnxn = refl; stream = λ i. never i }
through StartTls t e = record { no-open = refl; no-cnxn = refl; stream = λ i. never i }

stopped : (c : Command) (t : Bool) → by_kind c t ≡ false → (is_ready c || is_write c || is_close c) ≡ true → t ≡ false
unfolding is_ready is_write is_close is_the word_of letters_of num_of
stopped Sync t e i = absurd (true≢false e)
stopped Connect t e i = never i
stopped Open t e i = never i
stopped Ready t e i = e
stopped Close t e i = e
stopped Write t e i = e
stopped Auth t e i = absurd (true≢false e)
stopped StartTls t e i = absurd (true≢false e)

none-some : {A : Type 0} (x : A) → ◌≡◌ {A = Option A} (Some x) None → ⊥
none-some x e = let z : ◌≡◌ {A = ℕ} 0 1 = cc in omega arith

met-or : Met → Option Met → Met
met-or a (Some z) = z
met-or a None = a

met-same : (a m : Met) → ◌≡◌ {A = Option Met} (Some a) (Some m) → m ≡ a
unfolding met-or
met-same a m e = ap (met-or a) (sym e)

module _ (h : Header) (ss : List ChannelSlot) (names : List ℕ) (k : Packet) (payload : List ℕ) where
  -- what becomes of a packet that was met, by its command
  data MetAs (c : Command) (m : Met) : Type 0 where
    ignoring : m.verdict ≡ Ignore → (is_open c ≡ true → k.arg0 ≡ 0) → MetAs c m
    refusing : m.verdict ≡ Refuse (record { 0 = k.arg0 }) → c ≡ Open → eqb k.arg0 0 ≡ false → MetAs c m
    taking : (place : ℕ) → m.verdict ≡ Take (record { 0 = k.arg0 }) k.arg1 place → c ≡ Open → eqb k.arg0 0 ≡ false → fits_mode h.negotiated.delayed_ack k.arg1 ≡ true → MetAs c m

  unless-ignored : (m : Met) → unless_stream h.negotiated.config.channels ss k ≡ Some m → m.verdict ≡ Ignore
  unfolding unless_stream
  unless-ignored m e =
      let alive = is_stream h.negotiated.config.channels ss (record { 0 = k.arg1 }) in
      by-test alive
      (λ t. absurd (none-some m (sym e ∙ cond-true alive None (ignored (message_size + k.data_length)) t)))
      (λ t. ap (λ (z : Met). z.verdict) (met-same _ m (sym (cond-false alive None (ignored (message_size + k.data_length)) t) ∙ e)))

  by-name-as : (m : Met) (r : Option ℕ) → m.verdict ≡ by_name (record { 0 = k.arg0 }) k.arg1 r → eqb k.arg0 0 ≡ false → fits_mode h.negotiated.delayed_ack k.arg1 ≡ true → MetAs Open m
  unfolding by_name
  by-name-as m (Some place) e t u = taking place e refl t u
  by-name-as m None e t u = refusing e refl t

  open-as : (m : Met) → m.verdict ≡ open_verdict names h.negotiated.delayed_ack (record { 0 = k.arg0 }) k.arg1 payload → MetAs Open m
  unfolding open_verdict
  open-as m e =
      by-test (eqb k.arg0 0)
      (λ t. ignoring (e ∙ cond-true (eqb k.arg0 0) _ _ t) (λ i. eqb-true k.arg0 0 t))
      (λ t. let f = e ∙ cond-false (eqb k.arg0 0) _ _ t in
      by-test (fits_mode h.negotiated.delayed_ack k.arg1)
      (λ u. by-name-as m (find_name names (asked_name payload)) (f ∙ cond-true (fits_mode h.negotiated.delayed_ack k.arg1) _ _ u) t u)
      (λ u. refusing (f ∙ cond-false (fits_mode h.negotiated.delayed_ack k.arg1) _ _ u) refl t))

  met-is : (c : Command) (m : Met) → met_as h ss names k payload c ≡ Some m → MetAs c m
  unfolding met_as is_open is_the word_of letters_of num_of
  met-is Sync m e = absurd (none-some m (sym e))
  met-is Connect m e = ignoring (ap (λ (z : Met). z.verdict) (met-same _ m e)) (λ i. never i)
  met-is Open m e = open-as m (ap (λ (z : Met). z.verdict) (met-same _ m e))
  met-is Ready m e = ignoring (unless-ignored m e) (λ i. never i)
  met-is Close m e = ignoring (unless-ignored m e) (λ i. never i)
  met-is Write m e = ignoring (unless-ignored m e) (λ i. never i)
  met-is Auth m e = absurd (none-some m (sym e))
  met-is StartTls m e = absurd (none-some m (sym e))

-- ---- one call of a device's end that is connected

module _ (rx store : ℕ) (s : Story) (w : DeviceWorld) (kp : Keeps rx store s w) (x : DeviceCall) where
  abbrev v : World
  v = connection w

  abbrev ss : List ChannelSlot
  ss = (state_of (inner_of w.state)).slots

  abbrev agreed : Negotiated
  agreed = (header_in w).negotiated

  abbrev rec : List ℕ
  rec = bytes_in (arrived x)

  abbrev n : Negotiated
  n = agreed_at s.from

  abbrev r : List ℕ
  r = drop state_len s.from.state

  abbrev a : ℕ
  a = length s.from.rx

  abbrev b : ℕ
  b = length s.from.store

  h : Holds (agreed_at s.from) (drop state_len s.from.state) (length s.from.rx) (length s.from.store) (connection w)
  h = keeps-holds rx store s w kp

  -- what it leaves of the connection
  next-is : (c : Call) (m : Option Met) → Goes w kp.fine (gives w x) c m → connection (leaves w x) ≡ after_all v (calls_of v c m)
  next-is c m d =
      let y = called (head_of w.state) (inner_of w.state) d.handled (outcome (connection w) c) m in
      let hd : y.head ≡ head_of w.state = called-head (head_of w.state) (inner_of w.state) d.handled (outcome (connection w) c) m in
      let size : length y.head ≡ inner_at = ap (λ (l : List ℕ). length l) hd ∙ head-size w.state kp.fine in
      ap (λ (z : Gives). connection (leaves_by z)) d.is
      ∙ inside-is y size
      ∙ inside-called n r a b v h (head_of w.state) d.handled c m d.fits d.waits

  story-is : (c : Call) (m : Option Met) → part_of w x ≡ goes c m → joined s v (part_of w x) ≡ record { from = s.from; calls = s.calls ++ calls_of v c m }
  unfolding joined
  story-is c m e = ap (joined s v) e

  -- with nothing behind it
  alone-by : (hand : List ℕ) (m : Option Met) → let c = host_call x hand in Goes w kp.fine (gives w x) c m → part_of w x ≡ goes c m → Handed (received_in c) rec
      → gives w x ≡ given (head_of w.state) (inner_of w.state) (outcome v c) → calls_of v c m ≡ c ∷ []
      → ((k : Packet) → decode_of (received_in c) agreed.config.max_payload ≡ Ok (Some k) → Passes v k) → AloneTurn s w x c
  unfolding given after_all
  alone-by hand m d e hd g cs f =
      let c = host_call x hand in
      record {
        plain = host-plain x hand;
        hand = hand;
        is = refl;
        handed = hd;
        answer = ap (λ (z : Gives). z.answer) g;
        used = ap (λ (z : Gives). z.used) g;
        written = ap (λ (z : Gives). z.written) g;
        got = ap (λ (z : Gives). z.handed) g;
        next = next-is c m d ∙ ap (after_all v) cs;
        story = story-is c m e ∙ ap (λ (l : List Call). record { from = s.from; calls = s.calls ++ l }) cs;
        passes = f;
      }

  passes-none : (names : List ℕ) → ◌≡◌ {A = Option Met} None (meets (header_in w) ss names rec) → (k : Packet) → decode_of rec agreed.config.max_payload ≡ Ok (Some k) → Passes v k
  unfolding meets met_by by_command
  passes-none names q k e =
      let z = met-none (header_in w) ss names k (payload_of rec k.data_length) k.command (sym (ap (met_by (header_in w) ss names rec) e) ∙ sym q) in
      let y = through k.command (is_open_stream v k) z in
      record { no-open = y.no-open; no-cnxn = y.no-cnxn; stream = y.stream }

  none-turn : (names : List ℕ) → Goes w kp.fine (gives w x) (host_call x (arrived x)) None → part_of w x ≡ goes (host_call x (arrived x)) None
      → ◌≡◌ {A = Option Met} None (meets (header_in w) ss names rec) → DeviceTurn s w x
  unfolding called behind behind_calls
  none-turn names d e q =
      goes-alone (host_call x (arrived x))
      (alone-by (arrived x) None d e (handed-all (host-all x)) d.is refl
      (λ k i. passes-none names q k (sym (ap (λ (l : List ℕ). decode_of l agreed.config.max_payload) (host-all x)) ∙ i)))

  module _ (m : Met) (d : Goes w kp.fine (gives w x) (host_call x []) (Some m)) (e : part_of w x ≡ goes (host_call x []) (Some m)) where
    abbrev c : Call
    c = host_call x []

    abbrev o : Outcome
    o = outcome (connection w) (host_call x [])

    -- of no bytes no packet is decoded
    none-decoded : (k : Packet) → decode_of (received_in (host_call x [])) agreed.config.max_payload ≡ Ok (Some k) → ⊥
    unfolding decode_of
    none-decoded k i =
        let z : ◌≡◌ {A = Result (Option Packet) DecodeError} (Ok None) (Ok (Some k)) = sym (ap (λ (l : List ℕ). decode_of l agreed.config.max_payload) (host-none x)) ∙ i in
        absurd (cc)

    -- it does not wait for the packet
    quiet-turn : is_waiting o.answer ≡ false → DeviceTurn s w x
    unfolding called behind behind_calls
    quiet-turn u =
        goes-alone c
        (alone-by [] (Some m) d e (handed-none (host-none x)) (d.is ∙ cond-false (is_waiting o.answer) _ _ u)
        (ap (λ (l : List Call). c ∷ l) (cond-false (is_waiting o.answer) (verdict_calls m.verdict) [] u))
        (λ k i. absurd (none-decoded k i)))

    module _ (u : is_waiting o.answer ≡ true) (k : Packet) (i : decode_of rec agreed.config.max_payload ≡ Ok (Some k)) (f : m.used ≡ message_size + k.data_length) where
      abbrev first : Gives
      first = given (head_of w.state) (inner_of w.state) o

      abbrev judging : Verdict → Gives
      judging q = and_judged first m.used (judged (lent_of first.inner first.rx first.store) d.handled q)

      judged-is : (q : Verdict) → m.verdict ≡ q → gives w x ≡ and_judged first m.used (judged (lent_of first.inner first.rx first.store) d.handled q)
      unfolding called behind
      judged-is q j = d.is ∙ cond-true (is_waiting o.answer) _ _ u ∙ ap judging j

      calls-are : (q : Verdict) → m.verdict ≡ q → calls_of v c (Some m) ≡ c ∷ verdict_calls q
      unfolding behind_calls
      calls-are q j = ap (λ (l : List Call). c ∷ l) (cond-true (is_waiting o.answer) (verdict_calls m.verdict) [] u ∙ ap verdict_calls j)

      ignored-turn : m.verdict ≡ Ignore → Ignored v k → IgnoringTurn s w x c k
      unfolding given and_judged judged frames_bytes flat verdict_calls after_all
      ignored-turn j g =
          let q = judged-is Ignore j in
          let cs = calls-are Ignore j in
          record {
            plain = host-plain x [];
            is = refl;
            none = host-none x;
            decoded = i;
            used = ap (λ (z : Gives). z.used) q ∙ f;
            unused = used-none v x;
            waits = waiting-is o.answer u;
            written = ap (λ (z : Gives). z.written) q ∙ append-nil (frames_bytes agreed o.frames);
            got = ap (λ (z : Gives). z.handed) q;
            next = next-is c (Some m) d ∙ ap (after_all v) cs;
            story = story-is c (Some m) e ∙ ap (λ (l : List Call). record { from = s.from; calls = s.calls ++ l }) cs;
            packet_is = g;
          }

      -- an OPEN; q: what is done with it
      judged-turn : (take : Bool) (credit : ℕ) (q : Verdict) → m.verdict ≡ q → verdict_calls q ≡ verdict_on k take credit ∷ []
          → ((l : Lent) (handled : Answer) → (judged l handled q).frames ≡ (verdict_step l take (record { 0 = k.arg0 }) credit).frames) → k.arg0 < 2 ^ 32 → credit < 2 ^ 32
          → k.command ≡ Open → eqb k.arg0 0 ≡ false → (take ≡ true → credit ≡ k.arg1) → (take ≡ true → fits_mode agreed.delayed_ack k.arg1 ≡ true) → JudgingTurn s w x c k take credit
      unfolding given and_judged after_all after
      judged-turn take credit q j vc fr small few open_is numbered asked fits =
          let p = judged-is q j in
          let cs : calls_of v c (Some m) ≡ c ∷ verdict_on k take credit ∷ [] = calls-are q j ∙ ap (λ (l : List Call). c ∷ l) vc in
          let step = verdict-outcome n r a b (after v c) (holds_after n r a b v h c) (fit-after n r a b v h c (d.waits u)) take (record { 0 = k.arg0 }) credit small few in
          let frames : (judged (lent (after v c)) d.handled q).frames ≡ (outcome (after v c) (verdict_on k take credit)).frames =
          fr (lent (after v c)) d.handled ∙ ap (λ (z : Outcome). z.frames) (sym step) in
          record {
            plain = host-plain x [];
            is = refl;
            none = host-none x;
            decoded = i;
            command = open_is;
            numbered = numbered;
            asked = asked;
            fits = fits;
            used = ap (λ (z : Gives). z.used) p ∙ f;
            unused = used-none v x;
            waits = waiting-is o.answer u;
            written =
                ap (λ (z : Gives). z.written) p
                ∙ ap₂ (λ (z : Negotiated) (l : List Frame). frames_bytes agreed o.frames ++ frames_bytes z l) (agreed-after n r a b v h c) frames;
            got = ap (λ (z : Gives). z.handed) p;
            next = next-is c (Some m) d ∙ ap (after_all v) cs;
            story = story-is c (Some m) e ∙ ap (λ (l : List Call). record { from = s.from; calls = s.calls ++ l }) cs;
            step = step;
          }

      waits-turn : (names : List ℕ) → MetAs (header_in w) ss names k (payload_of rec k.data_length) k.command m → by_kind k.command (is_open_stream v k) ≡ false → DeviceTurn s w x
      unfolding judged verdict_calls
      waits-turn names (ignoring j g) y = ignores c k (ignored-turn j (record { opened = g; stream = stopped k.command (is_open_stream v k) y }))
      waits-turn names (refusing j g z) y =
          let fit : VerdictFits (Refuse (record { 0 = k.arg0 })) = subst VerdictFits j d.fits in
          judges c k false 0 (judged-turn false 0 (Refuse (record { 0 = k.arg0 })) j refl (λ l handled. refl) fit (omega arith) g z (λ q. never q) (λ q. never q))
      waits-turn names (taking place j g z y') y =
          let fit : VerdictFits (Take (record { 0 = k.arg0 }) k.arg1 place) = subst VerdictFits j d.fits in
          judges c k true k.arg1 (judged-turn true k.arg1 (Take (record { 0 = k.arg0 }) k.arg1 place) j refl (λ l handled. refl) fit.0 fit.1 g z (λ q. refl) (λ q. y'))

    -- by what was decoded
    decoded-turn : is_waiting o.answer ≡ true → (names : List ℕ) (t : Result (Option Packet) DecodeError) → decode_of rec agreed.config.max_payload ≡ t
        → ◌≡◌ {A = Option Met} (Some m) (met_by (header_in w) ss names rec t) → DeviceTurn s w x
    unfolding met_by by_command
    decoded-turn u names (Ok (Some k)) i q =
        let y = met-some (header_in w) ss names k (payload_of rec k.data_length) k.command m (sym q) in
        waits-turn u k i y.used names (met-is (header_in w) ss names k (payload_of rec k.data_length) k.command m (sym q)) y.kept
    decoded-turn u names (Ok None) i q = absurd (none-some m q)
    decoded-turn u names (Err z) i q = absurd (none-some m q)

    some-turn : (names : List ℕ) → ◌≡◌ {A = Option Met} (Some m) (meets (header_in w) ss names rec) → DeviceTurn s w x
    unfolding meets
    some-turn names q = by-test (is_waiting o.answer) (λ u. decoded-turn u names (decode_of rec agreed.config.max_payload) refl q) (λ u. quiet-turn u)

  met-turn : (names : List ℕ) (m : Option Met) → Goes w kp.fine (gives w x) (host_call x (shown (arrived x) m)) m → part_of w x ≡ goes (host_call x (shown (arrived x) m)) m
      → m ≡ meets (header_in w) ss names rec → DeviceTurn s w x
  unfolding shown
  met-turn names None d e q = none-turn names d e q
  met-turn names (Some m) d e q = some-turn m d e names q

  went : (d : Said w x) → Goes w kp.fine (gives w x) (host_call x (shown (arrived x) d.met)) d.met
  went d = subst (Does w kp.fine (gives w x)) d.part (does w kp.fine x)

  said-turn : Said w x → DeviceTurn s w x
  said-turn d = met-turn d.names d.met (went d) d.part d.is

  said-flag : Said w x → is_connected (leaves w x).state ≡ is_connected w.state
  said-flag d = goes-flag w kp.fine (gives w x) (host_call x (shown (arrived x) d.met)) d.met (went d)

-- what each call is
pub turns : (rx store : ℕ) (s : Story) (w : DeviceWorld) → Keeps rx store s w → is_connected w.state ≡ true → (x : DeviceCall) → DeviceTurn s w x
turns rx store s w k t x = said-turn rx store s w k x (said w t x)

-- once connected, it stays so
pub still-connected : (rx store : ℕ) (s : Story) (w : DeviceWorld) → Keeps rx store s w → is_connected w.state ≡ true → (x : DeviceCall) → is_connected (leaves w x).state ≡ true
still-connected rx store s w k t x = said-flag rx store s w k x (said w t x) ∙ t

-- ---- the host's CNXN

abbrev Below : Gives → Type 0
Below g = device_number g.answer ≤ 103

plain-below : (a : Answer) → device_number (Plain a) ≤ 103
unfolding device_number
plain-below a = let m = number-most a in omega arith

taken-below : (handled : Answer) (remote : RemoteId) (place : ℕ) (o : Outcome) → Taking o → device_number (taken_as handled remote place o.answer) ≤ 103
unfolding taken_as device_number
taken-below handled remote place o (full k) = subst (λ (a : Answer). device_number (taken_as handled remote place a) ≤ 103) (sym k.answer) (plain-below handled)
taken-below handled remote place o (took ch k) = subst (λ (a : Answer). device_number (taken_as handled remote place a) ≤ 103) (sym k.answer) (omega arith)

judged-below : (l : Lent) (handled : Answer) (q : Verdict) → device_number (judged l handled q).answer ≤ 103
unfolding judged
judged-below l handled Ignore = plain-below handled
judged-below l handled (Refuse remote) = plain-below handled
judged-below l handled (Take remote credit place) = taken-below handled remote place _ (takes-or l remote credit)

called-below : (head b : List ℕ) (handled : Answer) (o : Outcome) (m : Option Met) → Below (called head b handled o m)
unfolding called behind given and_judged
called-below head b handled o None = plain-below o.answer
called-below head b handled o (Some m) = pick Below (is_waiting o.answer) (λ t. judged-below _ handled m.verdict) (λ t. plain-below o.answer)

-- once connected no CNXN is answered
pub connected-below : (rx store : ℕ) (s : Story) (w : DeviceWorld) → Keeps rx store s w → is_connected w.state ≡ true → (x : DeviceCall) → device_number (gives w x).answer ≤ 103
connected-below rx store s w k t x =
    let z = said w t x in
    let d = went rx store s w k x z in
    subst Below (sym d.is) (called-below (head_of w.state) (inner_of w.state) d.handled (outcome (connection w) (host_call x (shown (arrived x) z.met))) z.met)

-- a call that answered the host's CNXN: a story of no calls begins
pub record Answered (s : Story) (w : DeviceWorld) (x : DeviceCall) : Type 0 where
  pub beginning : Beginning
  pub part : part_of w x ≡ anew beginning
  pub connected : is_connected (leaves w x).state ≡ true
  pub begins : connection (leaves w x) ≡ begins_at beginning
  pub story : joined s (connection w) (part_of w x) ≡ record { from = beginning; calls = [] }
  pub config : beginning.config ≡ (header_in w).negotiated.config
  pub fit : stores_fit beginning.config (length beginning.rx) (length beginning.store) ≡ true

module _ (rx store : ℕ) (s : Story) (w : DeviceWorld) (kp : Keeps rx store s w) (x : DeviceCall) where
  begun-flag : (j : Beginning) → Begun w kp.fine (gives w x) j → is_connected (leaves w x).state ≡ true
  unfolding leaves_by
  begun-flag j d = ap (λ (z : List ℕ). is_connected (z ++ (gives w x).inner)) d.head-is ∙ flagged-flag w.state kp.fine (gives w x).inner

  answered-by : (q : Part) → part_of w x ≡ q → Does w kp.fine (gives w x) q → device_number (gives w x).answer ≡ 104 → Answered s w x
  unfolding joined after_all device_number unchanged answer_number
  answered-by (goes c m) e d i =
      let low : device_number (gives w x).answer ≤ 103 = subst Below (sym d.is) (called-below (head_of w.state) (inner_of w.state) d.handled (outcome (connection w) c) m) in
      absurd (omega arith)
  answered-by stays e d i =
      let z : device_number (unchanged w.state w.rx w.store (Refused OutShort)).answer ≡ 104 = ap (λ (g : Gives). device_number g.answer) (sym d) ∙ i in
      absurd (omega arith)
  answered-by (anew j) e d i =
      let st : joined s (connection w) (part_of w x) ≡ record { from = j; calls = [] } = ap (joined s (connection w)) e in
      let k = subst (λ (z : Story). Keeps rx store z (leaves w x)) st (keeps-after rx store s w kp x) in
      record { beginning = j; part = e; connected = begun-flag j d; begins = k.same; story = st; config = d.config-is; fit = d.fit }

-- where the answer is 104 the host's CNXN was answered
pub answered-104 : (rx store : ℕ) (s : Story) (w : DeviceWorld) → Keeps rx store s w → (x : DeviceCall) → device_number (gives w x).answer ≡ 104 → Answered s w x
answered-104 rx store s w k x e = answered-by rx store s w k x (part_of w x) refl (does w k.fine x) e
