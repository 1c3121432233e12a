-- What is seen of a call at a device's end, beside what is seen of the host's calls that it is. Assumes nothing.
use Rattle.std.proofs.Common.{◌≡◌, refl, sym, ap, ◌∙◌, Bool, true, false, ◌&&◌, List, [], ◌∷◌, ◌++◌, map, ℕ, ◌+◌, ◌≤◌, eqb, ltb, length, length-append, Option, Some, None, Result, Ok, Err, arith}
use Rattle.std.proofs.lemmas.List.{map-append}
use borrow.Author.Tests.{ne_eqb}
use Rattle.le.specs.Rows.{flat}
use Rattle.le.proofs.RowLaws.{Every, every_append, never}
use Rattle.config.specs.declared.negotiated.Negotiated.{Negotiated}
use Rattle.config.specs.Config.{stores_fit}
use Rattle.protocol.specs.declared.command.Command.TheVariants.{Open, Ready, Close, Write}
use Rattle.protocol.proofs.PacketLaws.{frame-length}
use Rattle.credit.proofs.CreditLaws.{by_number}
use Rattle.slot.specs.declared.ChannelError.{ChannelError}
use Rattle.slot.specs.declared.ChannelSlot.{ChannelSlot}
use Rattle.slot.specs.declared.Spending.TheVariants.{Beyond}
use Rattle.slot.specs.declared.ids.ChannelIds.{ChannelIds}
use Rattle.slot.specs.declared.ids.RemoteId.{RemoteId}
use Rattle.slot.proofs.Kept.{pick}
use Rattle.state.specs.declared.Header.{Header}
use Rattle.state.specs.State.{state_of}
use Rattle.state_whole.specs.Whole.{is_whole}
use Rattle.table.specs.declared.ChannelId.{ChannelId}
use Rattle.table.specs.declared.NoFreeChannels.{NoFreeChannels as NoFree}
use Rattle.table.specs.Table.{allocated}
use Rattle.wire.specs.Wire.{okay_bytes, close_bytes}
use Rattle.connection.specs.declared.Answer.{Answer}
use Rattle.connection.specs.declared.Answer.TheVariants.{Done, Waiting, Nothing, Opened, Settled, Read, Written, Front, Numbers, Refused}
use Rattle.connection.specs.declared.Refusal.{Refusal}
use Rattle.connection.specs.declared.Refusal.TheVariants.{InvalidCommand, InvalidMagic, PayloadTooLarge, InvalidChecksum, BadCredit, UnexpectedCommand, BadConfig, StoreShort, OutShort, ChannelClosed, ChannelRxOverflow, NoFreeChannels, BrokenState}
use Rattle.connection.specs.Answer.{refusal_number, answer_number, answer_values}
use Rattle.connection.specs.Calls.{Lent, Outcome, Work, ends, dropped, is_there, slot_for, checked, checked_out, dispatch_outcome, read_outcome, write_outcome, settled_as, settle_step, settle_outcome, taken_by, take_step, take_outcome, close_step, close_outcome, reject_on, accept_on, verdict_step}
use Rattle.connection.specs.Frames.{Frame, okay_frame, close_frame, open_frame, write_frame, frame_bytes, frames_bytes}
use Rattle.connection.proofs.Sending.{sent_of, FrameFits}
use Rattle.call.proofs.FrameLaws.{frames-append}
use Rattle.history.specs.Run.{Call, World, lent, bytes_in, outcome, after}
use Rattle.history.specs.Seen.{sent_in}
use Rattle.history.proofs.Heard.{heard, heard_of}
use Rattle.history.proofs.Never13.{Holds, holds_after}
use Rattle.history.proofs.Written.{writes}
use Rattle.device.specs.Device.{is_waiting, Judged, given, and_judged}
use Rattle.device.proofs.CalledLaws.{ShortWait}
use Rattle.device_dispatch.proofs.DispatchLaws.{dispatch_short}
use Rattle.device_read.proofs.ReadLaws.{read-short}
use Rattle.device_write.proofs.WriteLaws.{write_short}
use Rattle.device.specs.Answer.{device_number, device_values}
use Rattle.device_history.specs.Run.{DeviceCall, device_dispatches, device_reads, device_writes, device_settles, device_takes, device_closes}
use Rattle.device_history.specs.Owner.{device_seen, host_call}
use Rattle.device_history.proofs.BookLaws.{unused}

-- ---- numbers

refusal-most : (r : Refusal) → refusal_number r ≤ 102
refusal-most (InvalidCommand word) = omega arith
refusal-most InvalidMagic = omega arith
refusal-most PayloadTooLarge = omega arith
refusal-most InvalidChecksum = omega arith
refusal-most (BadCredit f) = by_number (λ n. n ≤ 102) (omega arith) (omega arith) (omega arith) f
refusal-most UnexpectedCommand = omega arith
refusal-most BadConfig = omega arith
refusal-most StoreShort = omega arith
refusal-most OutShort = omega arith
refusal-most ChannelClosed = omega arith
refusal-most ChannelRxOverflow = omega arith
refusal-most NoFreeChannels = omega arith
refusal-most BrokenState = omega arith

-- no answer of the host's end has a number past 102
pub number-most : (a : Answer) → answer_number a ≤ 102
unfolding answer_number
number-most Done = omega arith
number-most Waiting = omega arith
number-most Nothing = omega arith
number-most (Opened ch) = omega arith
number-most (Settled ack) = omega arith
number-most (Read n) = omega arith
number-most (Written n) = omega arith
number-most (Front remote credit place len) = omega arith
number-most (Numbers closed total buffered unacked budget) = pick (λ (n : ℕ). n ≤ 102) closed (λ t. omega arith) (λ t. omega arith)
number-most (Refused refusal) = refusal-most refusal

pub number-not : (a : Answer) (n : ℕ) → 103 ≤ n → eqb (answer_number a) n ≡ false
number-not a n h = let m = number-most a in ne_eqb (answer_number a) n (λ e. omega arith)

pub waiting-is : (a : Answer) → is_waiting a ≡ true → a ≡ Waiting
unfolding is_waiting
waiting-is Done e = never e
waiting-is Waiting e = refl
waiting-is Nothing e = never e
waiting-is (Opened ch) e = never e
waiting-is (Settled ack) e = never e
waiting-is (Read n) e = never e
waiting-is (Written n) e = never e
waiting-is (Front remote credit place len) e = never e
waiting-is (Numbers closed total buffered unacked budget) e = never e
waiting-is (Refused refusal) e = never e

-- ---- how many frames are written before a verdict

frame-size : (n : Negotiated) (f : Frame) → length (frame_bytes n f) ≡ 24 + length (sent_of n f).payload
unfolding frame_bytes okay_bytes close_bytes
frame-size n (okay_frame ids len) = frame-length Ready _ _ _ _
frame-size n (close_frame ids) = frame-length Close _ _ _ _
frame-size n (open_frame local credit destination) = frame-length Open _ _ _ _
frame-size n (write_frame ids bytes) = frame-length Write _ _ _ _

one-frame : (n : Negotiated) (fs : List Frame) → length (frames_bytes n fs) ≤ 28 → length fs ≤ 1
unfolding frames_bytes flat
one-frame n [] h = omega arith
one-frame n (f ∷ []) h = omega arith
one-frame n (f ∷ g ∷ fs) h =
    let a = frame-size n f in
    let b = frame-size n g in
    let c = length-append (frame_bytes n f) (frame_bytes n g ++ frames_bytes n fs) in
    let d = length-append (frame_bytes n g) (frames_bytes n fs) in
    absurd (omega arith)

module _ (n : Negotiated) (l : Lent) where
  quiet-checked : (whole : Bool) (o : Outcome) → ShortWait n o → ShortWait n (checked whole l o)
  unfolding checked is_waiting
  quiet-checked whole o h = pick (ShortWait n) whole (λ t. pick (ShortWait n) (stores_fit l.state.header.negotiated.config (length l.rx) (length l.store)) (λ u. h) (λ u e. never e)) (λ t e. never e)

  quiet-out : (whole : Bool) (out : ℕ) (o : Outcome) → ShortWait n o → ShortWait n (checked_out whole l out o)
  unfolding checked_out is_waiting
  quiet-out whole out o h = quiet-checked whole _ (pick (ShortWait n) (ltb out 56) (λ t e. never e) (λ t. h))

  settle_short : (ch : ChannelId) (want : ℕ) → ShortWait n (settle_step l ch want)
  unfolding settle_step settled_as ends is_waiting
  settle_short ch want = pick (ShortWait n) (is_there l ch) (λ t e. never e) (λ t e. never e)

  by-short : (ch : ChannelId) (s : ChannelSlot) (w : Work) (r : Result (Option (ChannelSlot × ℕ)) ChannelError) → ShortWait n (taken_by l ch s w r)
  unfolding taken_by ends is_waiting
  by-short ch s w (Ok (Some (t, k))) = λ e. never e
  by-short ch s w (Ok None) = λ e. never e
  by-short ch s w (Err x) = λ e. never e

  take_short : (ch : ChannelId) (room : ℕ) → ShortWait n (take_step l ch room)
  unfolding take_step ends is_waiting
  take_short ch room = pick (ShortWait n) (is_there l ch) (λ t. by-short ch (slot_for l ch) _ _) (λ t e. never e)

  close_short : (ch : ChannelId) → ShortWait n (close_step l ch)
  unfolding close_step ends is_waiting
  close_short ch = pick (ShortWait n) (is_there l ch && (slot_for l ch).has_remote) (λ t e. never e) (λ t e. never e)

-- a call that is handed no bytes, and waits, wrote one at most
call-short : (n : Negotiated) (v : World) (x : DeviceCall) → ShortWait n (outcome v (host_call x []))
unfolding host_call outcome bytes_in dispatch_outcome read_outcome write_outcome settle_outcome take_outcome close_outcome
call-short n v (device_dispatches out names received) = quiet-out n (lent v) (is_whole v.state) (length out) _ (dispatch_short n (lent v))
call-short n v (device_reads out names ch buf received) = quiet-out n (lent v) (is_whole v.state) (length out) _ (read-short n (lent v) ch (length buf))
call-short n v (device_writes out names ch bytes received) = quiet-out n (lent v) (is_whole v.state) (length out) _ (write_short n Beyond (lent v) ch (length out) (bytes_in bytes))
call-short n v (device_settles out ch want) = quiet-out n (lent v) (is_whole v.state) (length out) _ (settle_short n (lent v) ch want)
call-short n v (device_takes ch buf) = quiet-checked n (lent v) (is_whole v.state) _ (take_short n (lent v) ch (length buf))
call-short n v (device_closes out ch) = quiet-out n (lent v) (is_whole v.state) (length out) _ (close_short n (lent v) ch)

-- ---- what a verdict's step gives

-- an OPEN is refused, or no slot is empty: a CLSE; or it is taken, with an OKAY
pub record Closed (a : Answer) (o : Outcome) : Type 0 where
  pub answer : o.answer ≡ a
  pub used : o.used ≡ 0
  pub handed : o.handed ≡ []
  pub ids : ChannelIds
  pub frames : o.frames ≡ close_frame ids ∷ []

pub record Took (ch : ChannelId) (o : Outcome) : Type 0 where
  pub answer : o.answer ≡ Opened ch
  pub used : o.used ≡ 0
  pub handed : o.handed ≡ []
  pub ids : ChannelIds
  pub len : ℕ
  pub frames : o.frames ≡ okay_frame ids len ∷ []

pub data Taking (o : Outcome) : Type 0 where
  full : Closed (Refused NoFreeChannels) o → Taking o
  took : (ch : ChannelId) → Took ch o → Taking o

pub refuses : (l : Lent) (remote : RemoteId) (credit : ℕ) → Closed Done (verdict_step l false remote credit)
unfolding verdict_step reject_on ends
refuses l remote credit = record { answer = refl; used = refl; handed = refl; ids = _; frames = refl }

accepting : (l : Lent) (h : Header) (remote : RemoteId) (credit : ℕ) (r : Result ChannelId NoFree) → Taking (accept_on l h remote credit r)
unfolding accept_on reject_on ends
accepting l h remote credit (Err e) = full (record { answer = refl; used = refl; handed = refl; ids = _; frames = refl })
accepting l h remote credit (Ok ch) = took ch (record { answer = refl; used = refl; handed = refl; ids = _; len = _; frames = refl })

pub takes-or : (l : Lent) (remote : RemoteId) (credit : ℕ) → Taking (verdict_step l true remote credit)
unfolding verdict_step
takes-or l remote credit = accepting l (dropped l.state.header) remote credit (allocated l.state.header l.state.slots)

-- what is heard of an outcome that uses nothing and hands nothing over
pub heard-unused : (n : Negotiated) (o : Outcome) → o.used ≡ 0 → o.handed ≡ [] → heard_of n o ≡ unused (answer_number o.answer) (answer_values o.answer) (map (sent_of n) o.frames) []
heard-unused n o e f = λ i. record { number = answer_number o.answer; values = answer_values o.answer; used = e i; sent = map (sent_of n) o.frames; got = f i }

-- ---- what is seen

module _ (n : Negotiated) (r : List ℕ) (rx store : ℕ) (v : World) (h : Holds n r rx store v) where
  abbrev agreed : Negotiated
  agreed = (state_of v.state).header.negotiated

  -- of one of the host's calls
  pub seen-given : (head : List ℕ) (c : Call) → device_seen (given head v.state (outcome v c)) ≡ heard_of agreed (outcome v c)
  unfolding device_seen given device_number device_values
  seen-given head c =
      let o = outcome v c in
      let w = writes n r rx store v h c in
      let e = heard agreed o.frames w.few w.each in
      (λ i. record { number = answer_number o.answer; values = answer_values o.answer; used = o.used; sent = e i; got = o.handed })

  -- what was negotiated stays
  pub agreed-after : (c : Call) → (state_of (after v c).state).header.negotiated ≡ agreed
  agreed-after c = (holds_after n r rx store v h c).facts.header.negotiated ∙ sym h.facts.header.negotiated

  -- and of a verdict behind it, where it waits
  module _ (x : DeviceCall) (head : List ℕ) (used : ℕ) (j : Judged) (w : is_waiting (outcome v (host_call x [])).answer ≡ true) (one : length j.frames ≤ 1) (fits : Every (FrameFits agreed) j.frames) where
    abbrev o : Outcome
    o = outcome v (host_call x [])

    both-read : sent_in 2 (frames_bytes agreed o.frames ++ frames_bytes agreed j.frames) ≡ map (sent_of agreed) o.frames ++ map (sent_of agreed) j.frames
    both-read =
        let k = one-frame agreed o.frames (call-short agreed v x w) in
        let z = length-append o.frames j.frames in
        let f = writes n r rx store v h (host_call x []) in
        ap (sent_in 2) (sym (frames-append agreed o.frames j.frames))
        ∙ heard agreed (o.frames ++ j.frames) (omega arith) (every_append (FrameFits agreed) o.frames j.frames f.each fits)
        ∙ map-append (sent_of agreed) o.frames j.frames

    pub seen-judged : device_seen (and_judged (given head v.state o) used j)
        ≡ record {
          number = device_number j.answer;
          values = device_values j.answer;
          used = used;
          sent = map (sent_of agreed) o.frames ++ map (sent_of agreed) j.frames;
          got = o.handed;
        }
    unfolding device_seen given and_judged after
    seen-judged =
        let e = ap (λ (m : Negotiated). sent_in 2 (frames_bytes agreed o.frames ++ frames_bytes m j.frames)) (agreed-after (host_call x [])) ∙ both-read in
        (λ i. record { number = device_number j.answer; values = device_values j.answer; used = used; sent = e i; got = o.handed })
