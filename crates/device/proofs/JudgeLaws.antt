-- What a verdict on a packet leaves. Assumes nothing.
use Rattle.std.proofs.Common.{◌≡◌, refl, sym, ap, subst, ◌∙◌, List, [], ℕ, Result, arith}
use Rattle.le.proofs.Parts.{put-none}
use Rattle.le.specs.Rows.{flat}
use Rattle.connection.specs.Frames.{frames_bytes}
use Rattle.slot.specs.declared.ids.RemoteId.{RemoteId}
use Rattle.state.specs.declared.Header.{Header}
use Rattle.state.specs.State.{state_of}
use Rattle.table.specs.declared.ChannelId.{ChannelId}
use Rattle.table.specs.declared.NoFreeChannels.{NoFreeChannels as NoFree}
use Rattle.table.specs.Table.{allocated}
use Rattle.connection.specs.declared.Answer.{Answer}
use Rattle.connection.specs.declared.Answer.TheVariants.{Done}
use Rattle.connection.specs.Calls.{dropped, reject_on, accept_on, verdict_step, written_by}
use Rattle.call.specs.declared.Reply.{Reply}
use Rattle.call.specs.Promise.{lent_of, agreed_in, Leaves}
use Rattle.call.proofs.CallLaws.{allocated-dropped}
use Rattle.call_accept.specs.Promise.{AcceptRoom}
use Rattle.device_meets.specs.declared.Met.{Met}
use Rattle.device_meets.specs.declared.Verdict.TheVariants.{Ignore, Refuse, Take}
use Rattle.device.specs.declared.DeviceAnswer.{DeviceAnswer}
use Rattle.device.specs.declared.DeviceAnswer.TheVariants.{Plain}
use Rattle.device.specs.Device.{judged, taken_as}
use Rattle.device.specs.Promise.{VerdictRoom, VerdictDoes}

module _ (inner out : List ℕ) (at : ℕ) (room : VerdictRoom inner out at) (m : Met) (handled : Answer) (h : Header) (i : h ≡ dropped (state_of inner).header) where
  -- what accepting asks
  pub accept-room : AcceptRoom inner out at h
  accept-room =
      let n : h.negotiated ≡ agreed_in inner = ap (λ (x : Header). x.negotiated) i in
      record { agreed = n; within = rw n room.within; state-long = room.state-fits; room = room.room }

  -- a packet that is ignored
  pub does-ignore : m.verdict ≡ Ignore → VerdictDoes inner out at m handled (record { answer = Plain handled; used = m.used; written = at }) inner out
  unfolding judged frames_bytes flat
  does-ignore v rx store =
      let k = room.room in
      rw v (record { answer-is = refl; used-is = refl; written_is = omega arith; state-is = refl; out-is = sym (put-none out at); out-fits = omega arith })

  -- an OPEN that is refused
  pub does-refuse : (remote : RemoteId) (r : Reply) (inner' out' : List ℕ) → m.verdict ≡ Refuse remote
      → ((rx store : List ℕ) → Leaves h.negotiated (reject_on (lent_of inner rx store) h remote Done) at inner out [] r inner' rx store out' [])
      → VerdictDoes inner out at m handled (record { answer = Plain handled; used = m.used; written = r.written }) inner' out'
  unfolding judged verdict_step written_by
  does-refuse remote r inner' out' v k rx store =
      let g = subst (λ (x : Header). Leaves x.negotiated (reject_on (lent_of inner rx store) x remote Done) at inner out [] r inner' rx store out' []) i (k rx store) in
      rw v (record { answer-is = refl; used-is = refl; written_is = g.written_is; state-is = g.state-is; out-is = g.out-is; out-fits = g.out-fits })

  -- an OPEN that is taken, if a slot is empty
  pub does-take : (remote : RemoteId) (credit place : ℕ) (r : Reply) (a : DeviceAnswer) (inner' out' : List ℕ) → m.verdict ≡ Take remote credit place
      → ((rx store : List ℕ) → Leaves h.negotiated (accept_on (lent_of inner rx store) h remote credit (allocated h (state_of inner).slots)) at inner out [] r inner' rx store out' [])
      → a ≡ taken_as handled remote place r.answer
      → VerdictDoes inner out at m handled (record { answer = a; used = m.used; written = r.written }) inner' out'
  unfolding judged verdict_step written_by
  does-take remote credit place r a inner' out' v k e rx store =
      let l = lent_of inner rx store in
      let hd = dropped (state_of inner).header in
      let g₀ = subst (λ (x : Header). Leaves x.negotiated (accept_on l x remote credit (allocated x (state_of inner).slots)) at inner out [] r inner' rx store out' []) i (k rx store) in
      let g = subst (λ (x : Result ChannelId NoFree). Leaves (agreed_in inner) (accept_on l hd remote credit x) at inner out [] r inner' rx store out' [])
      (allocated-dropped (state_of inner).header (state_of inner).slots) g₀ in
      rw v (record {
        answer-is = e ∙ ap (taken_as handled remote place) g.answer-is;
        used-is = refl;
        written_is = g.written_is;
        state-is = g.state-is;
        out-is = g.out-is;
        out-fits = g.out-fits;
      })
