-- What a caller hears of frames: their bytes read back. Assumes nothing.
--     heard        the frames read from frames_bytes are those that were written
--     taken_back   what a buffer's first bytes are after a put
--     heard-acks   the credit that is read is the frames' own; heard-open: and so is the last OPEN's
--     heard-call   what is seen of an outcome whose frames and bytes fit; seen-eight: of a call that answers 8
use mathlib.Core.Path.{◌≡◌, refl, sym, ap, ◌∙◌}
use mathlib.Core.Bool.{Bool, true, false, cond}
use mathlib.Core.List.{List, [], ◌∷◌, ◌++◌, map}
use Prim.Native.Nat.{ℕ, zero, suc, ◌+◌, ◌≤◌, ◌<◌, ◌^◌}
use native.Mathlib.Omega.{arith}
use lib.Dec.{eqb}
use lib.ListN.{length, take}
use lib.Seq.{drop_at}
use borrow.Author.Tests.{eqb-true, eq-eqb}
use Rattle.le.specs.Le.{bytes_of, part, put, num_of}
use Rattle.le.proofs.Laws.{write_read}
use Rattle.le.proofs.Parts.{by-test, part-put-same}
use Rattle.slot.proofs.Laws.{cond-true, cond-false}
use Rattle.config.specs.declared.negotiated.Negotiated.{Negotiated}
use Rattle.config.specs.declared.negotiated.RxPolicy.{RxPolicy}
use Rattle.checksum.specs.Checksum.{policy_for}
use Rattle.protocol.specs.Packet.{payload_limit, decode_of, used_of, frame_for}
use Rattle.protocol.proofs.RoundTrip.{FrameComesBack}
use Rattle.protocol.specs.Command.{is_open, is_ready, is_the, word_of, letters_of}
use Rattle.le.specs.Rows.{flat}
use Rattle.le.proofs.RowLaws.{Every}
use Rattle.wire.specs.Wire.{credit_bytes, okay_bytes, close_bytes}
use Rattle.wire.proofs.Laws.{back}
use Rattle.connection.specs.declared.Answer.{Answer}
use Rattle.connection.specs.declared.Refusal.TheVariants.{StoreShort}
use Rattle.connection.specs.Answer.{answer_number, refusal_word, answer_values}
use Rattle.connection.specs.Calls.{Lent, Outcome, written_by, untouched}
use Rattle.connection.specs.Frames.{Frame, okay_frame, close_frame, open_frame, write_frame, frame_bytes, frames_bytes, Sent}
use Rattle.connection.proofs.Sending.{sent_of, SentFits, FrameFits}
use Rattle.history.specs.Book.{credit_in, acks_of, last_open}
use Rattle.history.specs.Run.{Call, open_call, dispatch_call, settle_call, take_call, read_call, write_call, close_call, front_taken, look_call, accept_call, reject_call, let_go_call, verdict_call, out_of, buf_of}
use Rattle.history.specs.Seen.{held_by, said_by, count_of, Seen, Event, seen_of, sent_by, sent_in, seen_in}
use Rattle.history.proofs.Acts.{acks_in}
use Rattle.history.proofs.Steps.{saw_of}

-- ---- what a frame is as bytes

-- the bytes of what is sent
abbrev bytes_for : Negotiated → Sent → List ℕ
bytes_for n s = frame_for s.command s.arg0 s.arg1 s.payload (policy_for n.protocol_version)

frame_is : (n : Negotiated) (f : Frame) → frame_bytes n f ≡ bytes_for n (sent_of n f)
unfolding frame_bytes okay_bytes close_bytes
frame_is n (okay_frame ids len) = refl
frame_is n (close_frame ids) = refl
frame_is n (open_frame local credit destination) = refl
frame_is n (write_frame ids bytes) = refl

-- ---- frames read back

-- one frame, whatever follows it
module _ (n : Negotiated) (s : Sent) (h : SentFits s) (rest : List ℕ) where
  abbrev l : List ℕ
  l = bytes_for n s ++ rest

  comes : FrameComesBack s.command s.arg0 s.arg1 s.payload payload_limit (length (bytes_for n s)) l
  comes = back s.command s.arg0 s.arg1 s.payload (policy_for n.protocol_version) payload_limit h.arg0-fits h.arg1-fits (omega (arith, h.small)) rest

  sent-one : (k : ℕ) → sent_in (suc k) l ≡ s ∷ sent_in k rest
  unfolding sent_in sent_by used_of
  sent-one k =
      let d = drop_at (bytes_for n s) rest (24 + length s.payload) comes.length-is in
      rw (comes.frame_is, d, comes.payload-is)

-- no bytes, no frames
sent-none : (k : ℕ) → sent_in k [] ≡ []
unfolding sent_in sent_by decode_of
sent-none zero = refl
sent-none (suc k) = refl

-- frames one behind the other
pub heard-in : (n : Negotiated) (k : ℕ) (fs : List Frame) → length fs ≤ k → Every (FrameFits n) fs → sent_in k (frames_bytes n fs) ≡ map (sent_of n) fs
unfolding frames_bytes flat
heard-in n k [] h e = sent-none k
heard-in n zero (f ∷ fs) h e = absurd (omega arith)
heard-in n (suc k) (f ∷ fs) h e =
    ap (λ (b : List ℕ). sent_in (suc k) (b ++ frames_bytes n fs)) (frame_is n f)
    ∙ sent-one n (sent_of n f) e.0.sent (frames_bytes n fs) k
    ∙ ap (λ (x : List Sent). sent_of n f ∷ x) (heard-in n k fs (omega arith) e.1)

-- at most two, as a call writes them
pub heard : (n : Negotiated) (fs : List Frame) → length fs ≤ 2 → Every (FrameFits n) fs → sent_in 2 (frames_bytes n fs) ≡ map (sent_of n) fs
heard n fs h e = heard-in n 2 fs h e

-- what was put at the start of a buffer: frames in out, bytes handed over in the reader's
pub taken_back : (buf h : List ℕ) → length h ≤ length buf → take (length h) (put buf 0 h) ≡ h
unfolding part
taken_back buf h e = part-put-same buf 0 h (omega arith)

-- ---- the credit that is read

-- an OKAY's payload as credit
pub credit-back : (delayed : Bool) (len : ℕ) → (delayed ≡ true → len < 2 ^ 31) → credit_in (credit_bytes delayed len) ≡ cond delayed len 0
unfolding credit_in credit_bytes bytes_of part
credit-back true len h = let k = h refl in write_read 4 len (omega arith)
credit-back false len h = refl

-- is the one that the frames carry
pub heard-acks : (p : RxPolicy) (n : Negotiated) (l : ℕ) (fs : List Frame) → p.delayed ≡ n.delayed_ack → Every (FrameFits n) fs
    → acks_of l (map (sent_of n) fs) ≡ acks_in p l fs
unfolding acks_of is_ready is_the word_of letters_of num_of
heard-acks p n l [] d e = refl
heard-acks p n l (okay_frame ids len ∷ fs) d e =
    let c : credit_in (credit_bytes n.delayed_ack len) ≡ cond p.delayed len 0 = credit-back n.delayed_ack len e.0.len-fits ∙ ap (λ (t : Bool). cond t len 0) (sym d) in
    let i = heard-acks p n l fs d e.1 in
    ap (λ (x : ℕ). cond (eqb ids.local.0 l) x 0 + acks_of l (map (sent_of n) fs)) c ∙ ap (λ (x : ℕ). cond (eqb ids.local.0 l) (cond p.delayed len 0) 0 + x) i
heard-acks p n l (close_frame ids ∷ fs) d e = let i = heard-acks p n l fs d e.1 in omega arith
heard-acks p n l (open_frame local credit destination ∷ fs) d e = let i = heard-acks p n l fs d e.1 in omega arith
heard-acks p n l (write_frame ids bytes ∷ fs) d e = let i = heard-acks p n l fs d e.1 in omega arith

-- the credit in the last OPEN of some frames
abbrev pub open_in : List Frame → ℕ → ℕ
open_in [] a = a
open_in (okay_frame ids len ∷ fs) a = open_in fs a
open_in (close_frame ids ∷ fs) a = open_in fs a
open_in (open_frame local credit destination ∷ fs) a = open_in fs credit
open_in (write_frame ids bytes ∷ fs) a = open_in fs a

-- is the one that is read
pub heard-open : (n : Negotiated) (fs : List Frame) (a : ℕ) → last_open (map (sent_of n) fs) a ≡ open_in fs a
unfolding last_open is_open is_the word_of letters_of num_of
heard-open n [] a = refl
heard-open n (okay_frame ids len ∷ fs) a = heard-open n fs a
heard-open n (close_frame ids ∷ fs) a = heard-open n fs a
heard-open n (open_frame local credit destination ∷ fs) a = heard-open n fs credit
heard-open n (write_frame ids bytes ∷ fs) a = heard-open n fs a

-- ---- what is seen of a call

-- what a call writes: at most two frames that are read back, within out bytes; bytes handed over, within room
pub record Writes (n : Negotiated) (out room : ℕ) (o : Outcome) : Type 0 where
  pub few : length o.frames ≤ 2
  pub each : Every (FrameFits n) o.frames
  pub written : length (frames_bytes n o.frames) ≤ out
  pub handed : length o.handed ≤ room

-- what an outcome says is seen
abbrev pub heard_of : Negotiated → Outcome → Seen
heard_of n o = saw_of o (map (sent_of n) o.frames)

-- the bytes that an answer counts
abbrev pub counted : Call → Answer → ℕ
counted c a = count_of c (answer_number a) (answer_values a)

module _ (n : Negotiated) (c : Call) (o : Outcome) (h : Writes n (length (out_of c)) (length (buf_of c)) o) (k : counted c o.answer ≡ length o.handed) where
  -- what the answer says is what was done, where the buffers have room for it
  heard-said : seen_in c (held_by n c o) ≡ heard_of n o
  unfolding seen_in written_by
  heard-said =
      λ i. record {
        number = answer_number o.answer;
        values = answer_values o.answer;
        used = o.used;
        sent = (ap (sent_in 2) (taken_back (out_of c) (frames_bytes n o.frames) h.written) ∙ heard n o.frames h.few h.each) i;
        got = (ap (λ (x : ℕ). take x (put (buf_of c) 0 o.handed)) k ∙ taken_back (buf_of c) o.handed h.handed) i;
      }

-- a call that answers 8 counts nothing
pub count-eight : (c : Call) → count_of c 8 (0 ∷ 0 ∷ 0 ∷ 0 ∷ []) ≡ 0
unfolding count_of
count-eight (open_call out destination received) = refl
count-eight (dispatch_call out received) = refl
count-eight (settle_call out ch want) = refl
count-eight (take_call ch buf) = refl
count-eight (read_call out ch buf received) = refl
count-eight (write_call spending out ch bytes received) = refl
count-eight (close_call out ch) = refl
count-eight front_taken = refl
count-eight (look_call x) = refl
count-eight (accept_call out) = refl
count-eight (reject_call out) = refl
count-eight let_go_call = refl
count-eight (verdict_call out take remote credit) = refl

-- what is seen of one: nothing
abbrev pub nothing8 : Seen
nothing8 = record { number = 8; values = 0 ∷ 0 ∷ 0 ∷ 0 ∷ []; used = 0; sent = []; got = [] }

pub seen-eight : (e : Event) → e.held.number ≡ 8 → seen_of e ≡ nothing8
unfolding said_by seen_in
seen-eight e z =
    ap (seen_in e.call) (cond-true (eqb e.held.number 8) _ _ (eq-eqb e.held.number 8 z))
    ∙ (λ i. record { number = 8; values = 0 ∷ 0 ∷ 0 ∷ 0 ∷ []; used = 0; sent = sent-none 2 i; got = take (count-eight e.call i) e.held.buf })

-- what is seen of a call is what its outcome says; one that answers 8 does nothing
pub heard-call : (n : Negotiated) (c : Call) (l : Lent) (o : Outcome) → Writes n (length (out_of c)) (length (buf_of c)) o → counted c o.answer ≡ length o.handed
    → (answer_number o.answer ≡ 8 → o ≡ untouched l StoreShort) → seen_of (record { call = c; held = held_by n c o }) ≡ heard_of n o
unfolding said_by answer_number answer_values refusal_word
heard-call n c l o h k e =
    by-test (eqb (answer_number o.answer) 8)
    (λ t. let z = eqb-true (answer_number o.answer) 8 t in
    seen-eight (record { call = c; held = held_by n c o }) z ∙ sym (ap (heard_of n) (e z)))
    (λ t. ap (seen_in c) (cond-false (eqb (answer_number o.answer) 8) _ _ t) ∙ heard-said n c o h k)
