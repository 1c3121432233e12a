-- What reading's functions cite. Assumes nothing.
use Rattle.std.specs.declared.ops.ControlFlow.{ControlFlow}
use Rattle.std.specs.declared.ops.ControlFlow.TheVariants.{Break, Continue}
use mathlib.Core.Path.{◌≡◌, refl, sym, ap, subst, ◌∙◌}
use mathlib.Core.Bool.{true, false, ◌&&◌}
use mathlib.Core.List.{List, [], ◌∷◌}
use Prim.Native.Nat.{ℕ, ◌+◌, ◌*◌, ◌≤◌}
use native.Mathlib.Omega.{arith}
use lib.Dec.{eqb, leb}
use lib.ListN.{length}
use borrow.Author.Tests.{leb-true}
use Rattle.le.specs.Le.{put}
use Rattle.config.specs.declared.negotiated.Negotiated.{Negotiated}
use Rattle.config.specs.declared.negotiated.RxPolicy.{RxPolicy}
use Rattle.config.specs.Negotiated.{policy_of}
use Rattle.config.proofs.Laws.{and-true}
use Rattle.protocol.specs.declared.packet.Packet.{Packet}
use Rattle.protocol.specs.Packet.{Puts}
use Rattle.protocol.specs.Command.{is_write}
use Rattle.slot.specs.declared.ChannelError.{ChannelError}
use Rattle.slot.specs.declared.ChannelSlot.{ChannelSlot}
use Rattle.slot.specs.declared.Settled.{Settled as SettledSlot}
use Rattle.slot.specs.Slot.{is_ack, delivered_of, settled_of, taken_of, SlotOk}
use Rattle.slot.proofs.Kept.{settled-sound, TakenSound, taken-sound}
use Rattle.state.specs.declared.Header.{Header}
use Rattle.state.specs.Change.{slot_to}
use Rattle.state.specs.State.{slot_at, put_slot, put_header}
use Rattle.table.specs.declared.ChannelId.{ChannelId}
use Rattle.connection.specs.declared.Answer.{Answer}
use Rattle.connection.specs.declared.Answer.TheVariants.{Waiting, Read, Refused}
use Rattle.connection.specs.declared.Refusal.{Refusal}
use Rattle.call.specs.declared.Reply.{Reply}
use Rattle.connection.specs.Calls.{Lent, Outcome, begun, then, ends, ack_frames, error_refusal, unless_fault, body_of, reread, is_direct, read_direct}
use Rattle.rx_store.specs.RxStore.{ShareFits, front_of}
use Rattle.connection.specs.Frames.{frames_bytes}
use Rattle.call.specs.Promise.{lent_of, Leaves}
use Rattle.call_read.specs.Promise.{again_of, TakeRoom, is_nothing, Empty, Tries}
use Rattle.connection.proofs.Decoding.{PacketRoom}
use Rattle.call.proofs.FrameLaws.{ack-room}
use Rattle.rx_store.proofs.ShareLaws.{front-short}
use Rattle.call.proofs.LeaveLaws.{Did, did-begun, did_then, did-frames, did-slot, did-ends, did-stops}
use Rattle.slot.specs.declared.ChannelFault.{ChannelFault}
use Rattle.std.specs.Prelude.{Option, Some, None, Result, Ok, Err}

-- ---- settling and taking

module _ (h : Header) (ch : ChannelId) (used : ℕ) (fault : Option ChannelFault) (at : ℕ) (state rx store out buf : List ℕ) (s₀ : ChannelSlot) (p : RxPolicy) (set : SettledSlot)
    (se : s₀ ≡ slot_at state ch.slot) (pe : p ≡ policy_of h.negotiated) (te : set ≡ settled_of s₀ p (length buf))
    (g : TakeRoom h.negotiated state rx out ch.slot at (length buf)) where
  abbrev n : Negotiated
  n = h.negotiated

  abbrev room : ℕ
  room = length buf

  abbrev lent : Lent
  lent = lent_of state rx store

  abbrev S : SettledSlot
  S = settled_of (slot_at state ch.slot) (policy_of n) room

  set_is : set ≡ S
  set_is = te ∙ ap (λ (x : ChannelSlot). settled_of x p room) se ∙ ap (λ (x : RxPolicy). settled_of (slot_at state ch.slot) x room) pe

  -- what its callees ask
  pub ack-due : is_ack set.ack ≡ true → at + 28 ≤ length out
  ack-due e = g.ack-fits (ap (λ (x : SettledSlot). is_ack x.ack) (sym set_is) ∙ e)

  pub set-sound : SlotOk set.slot p.rx_cap
  set-sound =
      subst (λ (x : SettledSlot). SlotOk x.slot p.rx_cap) (sym set_is)
      (subst (λ (x : RxPolicy). SlotOk S.slot x.rx_cap) (sym pe) (settled-sound (slot_at state ch.slot) (policy_of n) room (policy_of n).rx_cap g.sound))

  pub take-room-is : (x : Result (Option (ChannelSlot × ℕ)) ChannelError) (t : ChannelSlot) (len : ℕ) → x ≡ taken_of set.slot room → x ≡ Ok (Some (t, len))
      → ShareFits ch.slot p.rx_cap (length rx) × (set.slot.head + len ≤ 2 * p.rx_cap) × (len ≤ room)
  take-room-is x t len e f =
      let k = subst (TakenSound set.slot room p.rx_cap) (sym e ∙ f) (taken-sound set.slot room p.rx_cap set-sound) in
      let held = k.2 in
      let run = set-sound.run_fits in
      (subst (λ (x : RxPolicy). ShareFits ch.slot x.rx_cap (length rx)) (sym pe) g.share-fits, omega arith, k.1)

  -- what it promises
  module _ (end : ℕ) (out' : List ℕ) (puts : Puts out at (frames_bytes n (ack_frames set.slot set.ack)) end out') where
    most : at + length (frames_bytes n (ack_frames set.slot set.ack)) ≤ length out
    most = ack-room n set.slot set.ack at (length out) g.at-fits ack-due

    written : Did n (then (begun h lent) [] (ack_frames S.slot S.ack)) at state out state rx store out' end
    written =
        subst (λ (x : SettledSlot). Did n (then (begun h lent) [] (ack_frames x.slot x.ack)) at state out state rx store out' end) set_is
        (did-frames n at state out (begun h lent) state rx store out at (did-begun n at state out h lent g.at-fits) (ack_frames set.slot set.ack) out' end puts most)

    pub tries-nothing : (x : Result (Option (ChannelSlot × ℕ)) ChannelError) → x ≡ taken_of set.slot room → x ≡ Ok None → Tries lent h ch room used fault S at state out buf (Continue (set.slot, end)) state out' buf
    tries-nothing x e f =
        let z = puts.end_is in
        let m = most in
        record {
          nothing = ap (λ (y : SettledSlot). taken_of y.slot room) (sym set_is) ∙ sym e ∙ f;
          slot_is = ap (λ (y : SettledSlot). y.slot) set_is;
          puts = subst (λ (y : SettledSlot). Puts out at (frames_bytes n (ack_frames y.slot y.ack)) end out') set_is puts;
          fits = omega arith;
          state-is = refl;
          buf-is = refl;
        }

    again-is : (x : Result (Option (ChannelSlot × ℕ)) ChannelError) → x ≡ taken_of set.slot room
        → again_of lent h ch room used fault S ≡ reread ch (policy_of n).rx_cap used fault (then (begun h lent) [] (ack_frames S.slot S.ack)) S.slot x
    unfolding again_of
    again-is x e =
        ap (reread ch (policy_of n).rx_cap used fault (then (begun h lent) [] (ack_frames S.slot S.ack)) S.slot) (ap (λ (y : SettledSlot). taken_of y.slot room) (sym set_is) ∙ sym e)

    pub tries-closed : (x : Result (Option (ChannelSlot × ℕ)) ChannelError) (why : ChannelError) (a : Answer) (refusal : Refusal) (state' : List ℕ) (r : Reply) → x ≡ taken_of set.slot room → x ≡ Err why
        → refusal ≡ error_refusal why → a ≡ unless_fault fault (Refused refusal) → state' ≡ put_header (put_slot state ch.slot set.slot) h
        → r ≡ record { answer = a; used = used; written = end } → Tries lent h ch room used fault S at state out buf (Break r) state' out' buf
    unfolding reread
    tries-closed x why a refusal state' r e f g q s z =
        let w = did-slot n at state out _ _ _ _ _ _ written ch.slot S.slot (put_slot state ch.slot S.slot) refl in (
          ap (λ (y : SettledSlot). is_nothing (taken_of y.slot room)) (sym set_is) ∙ ap is_nothing (sym e ∙ f),
          subst (λ (y : Outcome). Leaves n y at state out buf r state' rx store out' buf)
              (sym (again-is x e ∙ ap (reread ch (policy_of n).rx_cap used fault (then (begun h lent) [] (ack_frames S.slot S.ack)) S.slot) f))
              (did-stops n at state out _ _ _ _ _ _ w buf state' h _ used r refl (s ∙ ap (λ (y : SettledSlot). put_header (put_slot state ch.slot y.slot) h) set_is)
              (z ∙ ap (λ (y : Answer). record { answer = y; used = used; written = end }) (q ∙ ap (λ (y : Refusal). unless_fault fault (Refused y)) g))),
        )

    pub tries-data : (x : Result (Option (ChannelSlot × ℕ)) ChannelError) (t : ChannelSlot) (len : ℕ) (state' buf' : List ℕ) (r : Reply) → x ≡ taken_of set.slot room → x ≡ Ok (Some (t, len))
        → buf' ≡ put buf 0 (front_of rx p.rx_cap ch.slot set.slot.head len) → state' ≡ put_header (put_slot state ch.slot t) h
        → r ≡ record { answer = Read len; used = used; written = end } → Tries lent h ch room used fault S at state out buf (Break r) state' out' buf'
    unfolding reread
    tries-data x t len state' buf' r e f b s z =
        let w = did-slot n at state out _ _ _ _ _ _ written ch.slot t (put_slot state ch.slot t) refl in
        let fits = (take-room-is x t len e f).2 in
        let short = front-short rx (policy_of n).rx_cap ch.slot S.slot.head len in (
          ap (λ (y : SettledSlot). is_nothing (taken_of y.slot room)) (sym set_is) ∙ ap is_nothing (sym e ∙ f),
          subst (λ (y : Outcome). Leaves n y at state out buf r state' rx store out' buf')
              (sym (again-is x e ∙ ap (reread ch (policy_of n).rx_cap used fault (then (begun h lent) [] (ack_frames S.slot S.ack)) S.slot) f))
              (did-ends n at state out _ _ _ _ _ _ w buf buf' state' h _ used (front_of rx (policy_of n).rx_cap ch.slot S.slot.head len) r refl s z
              (b ∙ ap (λ (y : RxPolicy). put buf 0 (front_of rx y.rx_cap ch.slot set.slot.head len)) pe ∙ ap (λ (y : SettledSlot). put buf 0 (front_of rx (policy_of n).rx_cap ch.slot y.slot.head len)) set_is)
              (omega arith)),
        )

-- ---- the same behind a packet

module _ (l : Lent) (h : Header) (ch : ChannelId) (room used : ℕ) (fault : Option ChannelFault) (s : SettledSlot) (at : ℕ) (state out buf : List ℕ) (x : ControlFlow Reply (ChannelSlot × ℕ)) (state' out' buf' : List ℕ)
    (g : Tries l h ch room used fault s at state out buf x state' out' buf') where
  pub replied : (r : Reply) → x ≡ (Break r)
      → (is_nothing (taken_of s.slot room) ≡ false) × Leaves h.negotiated (again_of l h ch room used fault s) at state out buf r state' l.rx l.store out' buf'
  replied r e = subst (λ (y : ControlFlow Reply (ChannelSlot × ℕ)). Tries l h ch room used fault s at state out buf y state' out' buf') e g

  pub empty : (t : ChannelSlot) (end : ℕ) → x ≡ (Continue (t, end)) → Empty h.negotiated s room at state out buf t end state' out' buf'
  empty t end e = subst (λ (y : ControlFlow Reply (ChannelSlot × ℕ)). Tries l h ch room used fault s at state out buf y state' out' buf') e g

module _ (h : Header) (ch : ChannelId) (used : ℕ) (fault : Option ChannelFault) (at : ℕ) (state rx store out buf : List ℕ) (s : SettledSlot) where
  pub again-waits : (t : ChannelSlot) (end : ℕ) (a : Answer) (r : Reply) (state₁ state' out' buf' : List ℕ) → Empty h.negotiated s (length buf) at state out buf t end state₁ out' buf'
      → state' ≡ put_header (put_slot state₁ ch.slot t) h → a ≡ unless_fault fault Waiting → r ≡ record { answer = a; used = used; written = end }
      → Leaves h.negotiated (again_of (lent_of state rx store) h ch (length buf) used fault s) at state out buf r state' rx store out' buf'
  unfolding again_of reread
  again-waits t end a r state₁ state' out' buf' e g q v =
      let n = h.negotiated in
      let l = lent_of state rx store in
      let fs = ack_frames s.slot s.ack in
      let p = e.puts in
      let z = p.end_is in
      let k = e.fits in
      let w = did-frames n at state out (begun h l) state rx store out at (did-begun n at state out h l (omega arith)) fs out' end p (omega arith) in
      let w₁ = did-slot n at state out _ _ _ _ _ _ w ch.slot s.slot (put_slot state ch.slot s.slot) refl in
      subst (λ (y : List ℕ). Leaves n (again_of l h ch (length buf) used fault s) at state out buf r state' rx store out' y) (sym e.buf-is)
      (subst (λ (y : Result (Option (ChannelSlot × ℕ)) ChannelError). Leaves n (reread ch (policy_of n).rx_cap used fault (then (begun h l) [] fs) s.slot y) at state out buf r state' rx store out' buf) (sym e.nothing)
      (did-stops n at state out _ _ _ _ _ _ w₁ buf state' h _ used r refl
      (g ∙ ap (λ (y : List ℕ). put_header (put_slot y ch.slot t) h) e.state-is ∙ ap (λ (y : ChannelSlot). put_header (put_slot state ch.slot y) h) e.slot_is)
      (v ∙ ap (λ (y : Answer). record { answer = y; used = used; written = end }) q)))

-- ---- a WRTE that goes straight to the reader

-- it fits
pub direct-fits : (s : ChannelSlot) (room : ℕ) (p : Packet) (received payload : List ℕ) (limit : ℕ) → PacketRoom received limit p → payload ≡ body_of received p → is_direct s room p ≡ true → length payload ≤ room
unfolding is_direct
direct-fits s room p received payload limit k e t =
    let a = leb-true p.data_length room (and-true (is_write p.command && eqb p.arg1 s.local.0) (leb p.data_length room) t).1 in
    let b = k.body in
    let f = ap (λ (x : List ℕ). length x) e in
    omega arith

pub direct-leaves : (h : Header) (ch : ChannelId) (s : ChannelSlot) (used at : ℕ) (state rx store out buf payload : List ℕ) (p : RxPolicy) (d : SettledSlot) (end : ℕ) (r : Reply) (state' out' buf' : List ℕ)
    → p ≡ policy_of h.negotiated → d ≡ delivered_of s p (length payload) → at + 28 ≤ length out → length payload ≤ length buf
    → buf' ≡ put buf 0 payload → Puts out at (frames_bytes h.negotiated (ack_frames d.slot d.ack)) end out' → state' ≡ put_header (put_slot state ch.slot d.slot) h
    → r ≡ record { answer = Read (length payload); used = used; written = end } → Leaves h.negotiated (read_direct ch used (begun h (lent_of state rx store)) payload (delivered_of s (policy_of h.negotiated) (length payload))) at state out buf
    r state' rx store out' buf'
unfolding read_direct
direct-leaves h ch s used at state rx store out buf payload p d end r state' out' buf' pe de k m b puts g z =
    let n = h.negotiated in
    let l = lent_of state rx store in
    let D = delivered_of s (policy_of n) (length payload) in
    let e : d ≡ D = de ∙ ap (λ (x : RxPolicy). delivered_of s x (length payload)) pe in
    let f = ack-room n d.slot d.ack at (length out) (omega arith) (λ q. k) in
    let w = did_then n at state out (begun h l) state rx store out at (did-begun n at state out h l (omega arith)) (slot_to ch.slot d.slot ∷ []) (ack_frames d.slot d.ack)
    (put_slot state ch.slot d.slot) out' end refl puts f in
    subst (λ (x : SettledSlot). Leaves n (ends (then (begun h l) (slot_to ch.slot x.slot ∷ []) (ack_frames x.slot x.ack)) (Read (length payload)) used payload) at state out buf r state' rx store out' buf')
    e (did-ends n at state out _ _ _ _ _ _ w buf buf' state' h _ used payload r refl g z b m)
