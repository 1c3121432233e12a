-- A call's start at a device's end. Assumes nothing.
use Rattle.std.proofs.Common.{◌≡◌, refl, sym, ap, subst, ◌∙◌, true, List, ℕ, ◌≤◌, ◌-◌, [], length, take, drop, Option, Some, None, Result, Ok, Err, take-append-drop, append-nil, arith}
use Rattle.std.proofs.lemmas.Slice.{between_to_end}
use Rattle.le.specs.Le.{Bytes}
use Rattle.le.specs.Rows.{flat}
use Rattle.le.proofs.Parts.{by-test, put-none}
use Rattle.config.specs.declared.negotiated.Negotiated.{Negotiated}
use Rattle.protocol.specs.Packet.{decode_of}
use Rattle.slot.specs.declared.ChannelSlot.{ChannelSlot}
use Rattle.slot.proofs.Laws.{cond-true, cond-false}
use Rattle.state.specs.declared.Header.{Header}
use Rattle.state.proofs.StateLaws.{header-in}
use Rattle.state_whole.specs.Whole.{HeaderOk}
use Rattle.connection.specs.declared.Refusal.{Refusal}
use Rattle.connection.specs.declared.Answer.TheVariants.{Waiting, Refused}
use Rattle.connection.specs.Calls.{Lent, dropped, ids_in, ack_frames, received_by, received_of}
use Rattle.connection.specs.Frames.{okay_frame, frame_bytes, frames_bytes}
use Rattle.call.specs.declared.Reply.{Reply}
use Rattle.call.proofs.FrameLaws.{okay-short}
use Rattle.call.specs.Promise.{Begins}
use Rattle.call.proofs.AdmitLaws.{whole_long, whole-header}
use Rattle.call.proofs.LeaveLaws.{admitted-goes, goes-admits}
use Rattle.device_meets.specs.declared.Met.{Met}
use Rattle.device.specs.declared.DeviceAnswer.TheVariants.{Plain}
use Rattle.device.specs.declared.DeviceReply.{DeviceReply}
use Rattle.device.specs.Device.{inner_at, head_fine, head_of, inner_of, device_admitted, plain, shown, Gives, unchanged, admitted_call}
use Rattle.device.specs.Promise.{DeviceBegins, MetRoom, DeviceLeaves, Handed, InnerBegins}
use Rattle.device.proofs.HeadLaws.{head-long}

-- an admitted call begins
pub device_begins : (b rx store : List ℕ) (out : ℕ) (h : Header) (r : Result Header Refusal) → r ≡ device_admitted b (length rx) (length store) out → r ≡ Ok h → DeviceBegins b rx store out h
unfolding device_admitted
device_begins b rx store out h r e f =
    by-test (head_fine b)
    (λ t. record { fine = t; admits = sym f ∙ e ∙ cond-true (head_fine b) _ _ t })
    (λ t. let z = sym f ∙ e ∙ cond-false (head_fine b) _ _ t in absurd (cc))

module _ (b rx store : List ℕ) (out : ℕ) (h : Header) (g : DeviceBegins b rx store out h) where
  -- what a step is asked, with nothing pending
  pub step-begins : (k : Header) → Bytes (inner_of b) → k ≡ dropped h → Begins (inner_of b) rx store out k
  step-begins k y i =
      let s = admitted-goes (inner_of b) rx store out h _ g.admits refl in
      (goes-admits (inner_of b) rx store out h s y, i ∙ ap dropped s.header)

  -- what looking at the packet asks
  pub met-room : MetRoom b h
  met-room =
      let s = admitted-goes (inner_of b) rx store out h _ g.admits refl in
      let w = whole-header (inner_of b) s.is-whole in
      let q : HeaderOk h = subst HeaderOk (sym (s.header ∙ header-in (inner_of b))) w in
      record { fine = g.fine; inner = record { channels = q.within.most-channels; state-fits = whole_long (inner_of b) s.is-whole } }

-- the connection's bytes, as they are lent
pub inner-lent : (b : List ℕ) → head_fine b ≡ true → take (length b - inner_at) (drop inner_at b) ≡ inner_of b
unfolding inner_of
inner-lent b e = let h = head-long b e in between_to_end b inner_at (length b) (omega arith)

-- ---- the whole call

module _ (b rx store out buf : List ℕ) (f : Header → Gives) (a : Result Header Refusal) (e : a ≡ device_admitted b (length rx) (length store) (length out)) where
  -- refused ahead of its steps: nothing changes
  pub call-refused : (x : Refusal) (r : Reply) (res : DeviceReply) → a ≡ Err x → r ≡ record { answer = Refused x; used = 0; written = 0 } → res ≡ plain r
      → DeviceLeaves (admitted_call b rx store (device_admitted b (length rx) (length store) (length out)) f) out buf res b rx store out buf
  unfolding admitted_call unchanged head_of inner_of
  call-refused x r res g q s =
      rw (sym e ∙ g)
      (record {
        answer-is = ap (λ (y : DeviceReply). y.answer) s ∙ ap (λ (y : Reply). Plain y.answer) q;
        used-is = ap (λ (y : DeviceReply). y.used) s ∙ ap (λ (y : Reply). y.used) q;
        written_is = ap (λ (y : DeviceReply). y.written) s ∙ ap (λ (y : Reply). y.written) q;
        state-is = sym (take-append-drop inner_at b);
        rx-is = refl;
        store_is = refl;
        out-is = sym (put-none out 0);
        out-fits = omega arith;
        buf-is = sym (put-none buf 0);
        buf-fits = omega arith;
      })

  -- admitted: what it then does is the call's
  pub call-goes : (h : Header) (res : DeviceReply) (b' rx' store' out' buf' : List ℕ) → a ≡ Ok h → DeviceLeaves (f h) out buf res b' rx' store' out' buf'
      → DeviceLeaves (admitted_call b rx store (device_admitted b (length rx) (length store) (length out)) f) out buf res b' rx' store' out' buf'
  unfolding admitted_call
  call-goes h res b' rx' store' out' buf' g k = rw (sym e ∙ g) k

-- ---- a step that is handed nothing

-- the frames of an acknowledgement
pub ack-short : (n : Negotiated) (s : ChannelSlot) (a : Option ℕ) → length (frames_bytes n (ack_frames s a)) ≤ 28
unfolding ack_frames frames_bytes flat
ack-short n s None = omega arith
ack-short n s (Some k) = let e = ap (λ (x : List ℕ). length x) (append-nil (frame_bytes n (okay_frame (ids_in s) k))) in let h = okay-short n (ids_in s) k in omega arith

-- no bytes are no packet
pub nothing-received : (l : Lent) → received_of l [] ≡ Err (Waiting, 0)
unfolding received_of received_by decode_of
nothing-received l = refl

-- ---- the step on the connection's own bytes

module _ (b rx store : List ℕ) (out : ℕ) (h : Header) (g : DeviceBegins b rx store out h) where
  -- what is handed to it
  shown-handed : (received shown' : List ℕ) (m : Option Met) → shown' ≡ shown received m → Handed shown' m
  unfolding shown
  shown-handed received shown' None e = tt
  shown-handed received shown' (Some m) e = e

  pub inner-begins : (inner received shown' : List ℕ) (m : Option Met) → inner ≡ inner_of b → shown' ≡ shown received m → InnerBegins inner rx store shown' out h m
  inner-begins inner received shown' m i e = record { admits = rw i g.admits; handed = shown-handed received shown' m e }
