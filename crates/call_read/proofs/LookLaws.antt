-- A read that looks at a packet which is not for it: dispatched, then settling and taking again. Assumes nothing.
use mathlib.Core.Path.{◌≡◌, refl, sym, ap, subst, ◌∙◌}
use mathlib.Core.Bool.{true, false, true≢false}
use mathlib.Core.List.{List, [], ◌∷◌, ◌++◌, append_assoc, append-nil}
use Prim.Native.Nat.{ℕ, ◌+◌, ◌*◌, ◌≤◌, ◌<◌}
use native.Mathlib.Omega.{arith}
use lib.ListN.{length, set, length-set}
use Rattle.le.specs.Le.{Bytes}
use Rattle.le.proofs.Parts.{length-put}
use Rattle.config.specs.declared.negotiated.Negotiated.{Negotiated}
use Rattle.config.specs.Config.{Within as Limits}
use Rattle.config.specs.Negotiated.{policy_of}
use Rattle.config.proofs.Laws.{and-true}
use Rattle.protocol.specs.declared.packet.Packet.{Packet}
use Rattle.slot.specs.declared.ChannelSlot.{ChannelSlot}
use Rattle.slot.specs.Slot.{empty_slot, is_ack, has_data, closed_slot, delivered_of, settled_of, taken_of, SlotOk}
use Rattle.slot.specs.Ids.{closed_by}
use Rattle.slot.proofs.Laws.{cond-true, cond-false}
use Rattle.state.specs.declared.Header.{Header}
use Rattle.state.specs.Change.{Change, slot_to, header_to, changed_all, put_all}
use Rattle.le.specs.Rows.{flat}
use Rattle.state.specs.State.{is_offer, state_len, Connection, state_of, slot_at, put_slot, put_header, is_state, with_slot, with_header}
use Rattle.state_whole.specs.Whole.{is_whole}
use Rattle.state.proofs.ChangeLaws.{rows-after}
use Rattle.state_whole.proofs.LiveLaws.{settled-live}
use Rattle.state.proofs.StateLaws.{Fits, slot-in, put-slot-length}
use Rattle.state_whole.proofs.WholeLaws.{Live, Whole, whole-fits}
use Rattle.table.specs.declared.ChannelId.{ChannelId}
use Rattle.table.specs.Table.{slot_in}
use Rattle.rx_store.proofs.ShareLaws.{share_in}
use Rattle.connection.specs.declared.Answer.{Answer}
use Rattle.connection.specs.declared.Answer.TheVariants.{Refused}
use Rattle.connection.specs.declared.Refusal.TheVariants.{ChannelClosed}
use Rattle.call.specs.declared.Reply.{Reply}
use Rattle.call.specs.declared.act.ActedOn.{ActedOn}
use Rattle.connection.specs.Act.{Acted, act_on, PacketFits}
use Rattle.connection.specs.Calls.{Lent, Outcome, Work, begun, then, then_acted, ends, ids_in, slot_for, ack_frames, received_of, body_of, frame_len, reread, read_settled, read_acted, is_direct, read_direct, read_by}
use Rattle.connection.specs.Frames.{Frame, frames_bytes}
use Rattle.call.specs.Promise.{lent_of, agreed_in, Leaves, Admits, ActRoom, ActsOn}
use Rattle.call_read.specs.Promise.{again_of, TakeRoom, is_nothing, Looks}
use Rattle.call.proofs.AdmitLaws.{act-room, admits-state, admits-facts, admits-stores}
use Rattle.connection.proofs.Decoding.{PacketRoom, packet-room, ReceivedFits, received-fits}
use Rattle.call.proofs.LeaveLaws.{Did, did-begun, did-slot, did-acted, did-stops, Behind, leaves-on}
use Rattle.connection.proofs.Sending.{Rests, quiet, same, clear, some, Acts, acts, silent-again, silent-clear, taking, Taking, took, nothing, shut, no-data}
use Rattle.connection.proofs.Slots.{slots-by, slot-set-same}
use Rattle.connection.proofs.WholeAct.{ActedKeeps, acted-keeps}
use Rattle.connection.proofs.WholeWork.{WorkWhole, At, at_slot, at-act, there-live, there-at, Long}
use Rattle.slot.specs.declared.ChannelFault.{ChannelFault}
use Rattle.std.specs.Prelude.{Option, Some, None, Result, Ok, Err}
use Rattle.slot.specs.declared.ChannelError.{ChannelError}

-- ---- slots and queued opens after some work, read from the bytes

module _ (state rx store : List ℕ) (y : Bytes state) (e : is_whole state ≡ true) (w : Work) (k : WorkWhole (lent_of state rx store) w) where
  abbrev after : Connection
  after = changed_all (state_of state) w.changes

  after-fits : Fits (with_header after w.header)
  after-fits = whole-fits (agreed_in state) (with_header after w.header) k.facts

  pub rows-read : ((state_of (put_all state w.changes)).slots ≡ after.slots) × ((state_of (put_all state w.changes)).queue ≡ after.queue)
  unfolding is_whole
  rows-read = rows-after state w.changes y (and-true (is_state state) _ e).0 k.within after-fits.slots after-fits.queue

-- ---- small facts

empty-data : {s : ChannelSlot} {room : ℕ} (x : Result (Option (ChannelSlot × ℕ)) ChannelError) → Taking s room x → x ≡ Ok None → has_data s ≡ false
empty-data x (took u k h) e = absurd (true≢false (sym (ap is_nothing e)))
empty-data x (nothing h) e = h
empty-data x (shut r) e = absurd (true≢false (sym (ap is_nothing e)))

no_frames : (n : Negotiated) (fs : List Frame) → some fs ≡ false → length (frames_bytes n fs) ≡ 0
unfolding frames_bytes flat
no_frames n [] e = refl
no_frames n (f ∷ fs) e = absurd (true≢false e)

-- ---- what is behind some work

module _ (ch : ChannelId) (cap used : ℕ) (fault : Option ChannelFault) (w : Work) (c : Connection) where
  abbrev next : Lent
  next = record { state = c; rx = w.rx; store = w.store }

  ends-behind : (xs : List Change) (fs : List Frame) (a : Answer) (handed : List ℕ)
      → Behind w (ends (then (then w [] fs) xs []) a used handed) (ends (then (then (begun w.header next) [] fs) xs []) a used handed)
  unfolding ends
  ends-behind xs fs a handed =
      record {
        answer = refl;
        used = refl;
        frames = append_assoc w.frames fs [];
        handed = refl;
        changes = ap (λ (x : List Change). x ++ xs ++ header_to w.header ∷ []) (append-nil w.changes) ∙ append_assoc w.changes xs (header_to w.header ∷ []);
        rx = refl;
        store = refl;
      }

  reread-behind : (s : ChannelSlot) (fs : List Frame) (x : Result (Option (ChannelSlot × ℕ)) ChannelError)
      → Behind w (reread ch cap used fault (then w [] fs) s x) (reread ch cap used fault (then (begun w.header next) [] fs) s x)
  unfolding reread
  reread-behind s fs (Ok (Some (t, k))) = ends-behind (slot_to ch.slot t ∷ []) fs _ _
  reread-behind s fs (Ok None) = ends-behind (slot_to ch.slot s ∷ []) fs _ _
  reread-behind s fs (Err e) = ends-behind (slot_to ch.slot s ∷ []) fs _ _

-- ---- the state that a packet meets

module _ (state rx store out : List ℕ) (h : Header) (ch : ChannelId) (s : ChannelSlot) (room at : ℕ) (a : Admits state rx store (length out)) (k : Looks (lent_of state rx store) h ch s room at) where
  abbrev l : Lent
  l = lent_of state rx store

  abbrev n : Negotiated
  n = agreed_in state

  abbrev i : ℕ
  i = ch.slot

  same-agreed : h.negotiated ≡ n
  same-agreed = ap (λ (x : Header). x.negotiated) k.header_is

  live₀ : Live n i (slot_for l ch)
  live₀ = there-live l (admits-facts state (length out) (admits-state a)) ch k.there

  pub look-live : Live n i s
  look-live = subst (Live n i) (sym k.slot_is) (settled-live n i (slot_for l ch) live₀ room)

  at₀ : At l i (begun h l)
  at₀ = subst (λ (x : Header). At l i (begun x l)) (sym k.header_is) (there-at l (admits-facts state (length out) (admits-state a)) ch k.there)

  abbrev w₁ : Work
  w₁ = then (begun h l) (slot_to i s ∷ []) []

  at₁ : At l i w₁
  at₁ = at_slot l i (begun h l) at₀ s [] look-live

  pub look-place : i < 64
  look-place = let v = look-live in let p = v.place in let m = at₁.work.facts.limits.within.most-channels in omega arith

  abbrev b₁ : List ℕ
  b₁ = put_slot state i s

  pub look-slots : (state_of b₁).slots ≡ set (state_of state).slots i s
  look-slots = (rows-read state rx store a.bytes a.is-whole w₁ at₁.work).0

  pub look-opens : (state_of b₁).queue ≡ (state_of state).queue
  look-opens = (rows-read state rx store a.bytes a.is-whole w₁ at₁.work).1

  -- what is so of the slots, this one stored
  facts₁ : Whole h.negotiated h (set (state_of state).slots i s) (state_of state).queue
  facts₁ = subst (λ (x : Negotiated). Whole x h (set (state_of state).slots i s) (state_of state).queue) (sym same-agreed) at₁.work.facts

  stores₁ : Long h.negotiated (length rx) (length store)
  stores₁ = subst (λ (x : Negotiated). Long x (length rx) (length store)) (sym same-agreed) (admits-stores a)

  pub look-within : Limits h.negotiated.config
  look-within = facts₁.limits.within

  -- what `act_on` asks
  pub look-room : (payload : List ℕ) → length payload ≤ h.negotiated.config.max_payload → ActRoom h b₁ rx store out at payload
  look-room payload p =
      let small = k.at_small in
      let big = a.room in
      let z = put-slot-length state i s look-place a.state-fits in
      let f = a.state-fits in
      act-room h b₁ rx store out payload at
      (subst (λ x. Whole h.negotiated h x (state_of b₁).queue) (sym look-slots) (subst (λ x. Whole h.negotiated h (set (state_of state).slots i s) x) (sym look-opens) facts₁))
      (omega arith) stores₁ p (omega arith)

  module _ (p : Packet) (payload : List ℕ) (fits : PacketFits h.negotiated p payload) where
    abbrev A : Acted
    A = act_on h (set (state_of state).slots i s) (state_of state).queue rx store p payload

    keeps : ActedKeeps h.negotiated (with_slot (state_of state) i s) (length rx) (length store) A
    keeps =
        acted-keeps h (with_slot (state_of state) i s) rx store facts₁ (ap (λ (x : Header). is_offer x.pending.what) k.header_is) stores₁.rx-long stores₁.store_long p payload fits

    abbrev w₂ : Work
    w₂ = then_acted w₁ A

    at₂ : At l i w₂
    at₂ = at-act l i w₁ at₁ A (subst (λ (x : Negotiated). ActedKeeps x (with_slot (state_of state) i s) (length rx) (length store) A) same-agreed keeps)

    -- the slot then
    abbrev t : ChannelSlot
    t = slot_in (changed_all (state_of state) (slot_to i s ∷ A.changes)).slots i

    live₂ : Live n i t
    live₂ = at₂.live

    slot₂ : (b₂ : List ℕ) → b₂ ≡ put_all b₁ A.changes → slot_at b₂ i ≡ t
    unfolding slot_in
    slot₂ b₂ e =
        let r = rows-read state rx store a.bytes a.is-whole w₂ at₂.work in
        ap (λ (x : List ℕ). slot_at x i) e ∙ sym (slot-in (put_all b₁ A.changes) i empty_slot look-place) ∙ ap (λ x. slot_in x i) r.0

    agreed₂ : A.header.negotiated ≡ n
    agreed₂ = at₂.work.facts.header.negotiated

    -- what dispatching wrote, and what it left of the slot
    acts₂ : Acts (Unit {0}) h (set (state_of state).slots i s) i A
    unfolding slot_in
    acts₂ =
        let f = facts₁.slots in
        let z = f.full in
        let q = look-place in
        let c = look-live in
        acts (Unit {0}) h (set (state_of state).slots i s) (state_of state).queue rx store p payload i
        (λ j. let g = (f.each j).fits in record { local = g.local; remote = g.remote }) (omega arith)
        (λ u. subst (λ (x : ChannelSlot). SlotOk x (policy_of h.negotiated).rx_cap) (sym (here z)) (subst (λ (x : Negotiated). SlotOk s (policy_of x).rx_cap) (sym same-agreed) c.ok))
        fits.arg0 fits.arg1
      where
        here : length (set (state_of state).slots i s) ≡ 64 → slot_in (set (state_of state).slots i s) i ≡ s
        here z =
            let q = look-place in
            let y = length-set (state_of state).slots i s in
            slot-set-same (state_of state).slots i s (omega arith)

    -- what `act_on` promises, of the slot stored
    pub look-acts : (b : List ℕ) (r : ActedOn) (b₂ rx₂ store₂ out₂ : List ℕ) → b ≡ b₁ → ActsOn h.negotiated (act_on h (state_of b).slots (state_of b).queue rx store p payload) at b out r b₂ rx₂ store₂ out₂
        → ActsOn h.negotiated A at b₁ out r b₂ rx₂ store₂ out₂
    look-acts b r b₂ rx₂ store₂ out₂ e g =
        subst (λ x. ActsOn h.negotiated (act_on h x (state_of state).queue rx store p payload) at b₁ out r b₂ rx₂ store₂ out₂) look-slots
        (subst (λ x. ActsOn h.negotiated (act_on h (state_of b₁).slots x rx store p payload) at b₁ out r b₂ rx₂ store₂ out₂) look-opens
        (subst (λ (x : List ℕ). ActsOn h.negotiated (act_on h (state_of x).slots (state_of x).queue rx store p payload) at x out r b₂ rx₂ store₂ out₂) e g))

    -- nothing of the channel's is buffered, so settling it again acknowledges nothing
    silent-slot : (settled_of s (policy_of h.negotiated) room).ack ≡ None
    silent-slot =
        let c = look-live in
        let z = no-data s c.remote (empty-data (taken_of s room) (taking s room) k.nothing) in
        let e = ap (λ (x : ChannelSlot). x.buffered) (sym k.slot_is) ∙ z in
        ap (λ (x : Negotiated). (settled_of s (policy_of x) room).ack) same-agreed ∙ ap (λ (x : ChannelSlot). (settled_of x (policy_of n) room).ack) k.slot_is
        ∙ silent-again (slot_for l ch) (policy_of n) room e

    -- the slot that dispatching leaves, by what it wrote
    rests₂ : Rests (some A.frames) s t
    rests₂ =
        let f = facts₁.slots.full in
        let q = look-place in
        let y = length-set (state_of state).slots i s in
        subst (λ (x : ChannelSlot). Rests (some A.frames) x t) (slot-set-same (state_of state).slots i s (omega arith))
        (subst (λ x. Rests (some A.frames) (slot_in (set (state_of state).slots i s) i) (slot_in x i)) (sym (slots-by (state_of state) (slot_to i s ∷ A.changes))) acts₂.own.rests)

    module _ (r : ActedOn) (b₂ rx₂ store₂ out₂ : List ℕ) (g : ActsOn h.negotiated A at b₁ out r b₂ rx₂ store₂ out₂) where
      -- an OKAY of the second settling has room
      due : (u : ChannelSlot) → u ≡ t → Rests (some A.frames) s t → is_ack (settled_of u (policy_of h.negotiated) room).ack ≡ true → r.end + 28 ≤ length out
      unfolding is_ack
      due u e (quiet q) d =
          let z = g.end_is in
          let y = no_frames h.negotiated A.frames q in
          let small = k.at_small in
          let big = a.room in
          omega arith
      due u e (same q) d = absurd (true≢false (sym d ∙ ap (λ (x : ChannelSlot). is_ack (settled_of x (policy_of h.negotiated) room).ack) (e ∙ q) ∙ ap is_ack silent-slot))
      due u e (clear q) d =
          absurd (true≢false (sym d ∙ ap (λ (x : ChannelSlot). is_ack (settled_of x (policy_of h.negotiated) room).ack) e ∙ ap is_ack (silent-clear t (policy_of h.negotiated) room q)))

      same-header : r.header.negotiated ≡ h.negotiated
      same-header = ap (λ (x : Header). x.negotiated) g.header_is ∙ agreed₂ ∙ sym same-agreed

      out-length : length out₂ ≡ length out
      out-length = ap (λ (x : List ℕ). length x) g.out-is ∙ length-put out at (frames_bytes h.negotiated A.frames) g.out-fits

      -- what settling and taking again ask
      pub again-room : state_len ≤ length b₂ → TakeRoom r.header.negotiated b₂ rx₂ out₂ i r.end room
      again-room long =
          let e = slot₂ b₂ g.state-is in
          let z = out-length in
          let f = g.out-fits in
          let d = g.end_is in
          let v = live₂ in
          let rl = ap (λ (x : List ℕ). length x) g.rx-is ∙ keeps.rx-length in
          let sh = share_in i h.negotiated.config.channels (2 * (policy_of h.negotiated).rx_cap) (length rx) (subst (λ (x : Negotiated). i < x.config.channels) (sym same-agreed) v.place) stores₁.rx-long in
          subst (λ (x : Negotiated). TakeRoom x b₂ rx₂ out₂ i r.end room) (sym same-header)
          (record {
            within = facts₁.limits.within;
            state-fits = long;
            place-fits = look-place;
            sound = subst (λ (x : ChannelSlot). SlotOk x (policy_of h.negotiated).rx_cap) (sym e) (subst (λ (x : Negotiated). SlotOk t (policy_of x).rx_cap) (sym same-agreed) v.ok);
            share-fits = omega arith;
            at-fits = omega arith;
            ack-fits = λ q. let j = due (slot_at b₂ i) e rests₂ q in omega arith;
          })

      did₂ : Did n w₂ at state out b₂ rx₂ store₂ out₂ r.end
      did₂ =
          let small = k.at_small in
          let big = a.room in
          did-acted n at state out w₁ b₁ rx store out at (did-slot n at state out (begun h l) state rx store out at (did-begun n at state out h l (omega arith)) i s b₁ refl) A r b₂ rx₂ store₂ out₂
          (subst (λ (x : Negotiated). ActsOn x A at b₁ out r b₂ rx₂ store₂ out₂) same-agreed g)

      -- and what they leave is the read's
      pub look-leaves : (used : ℕ) (buf : List ℕ) (rep : Reply) (state' out' buf' : List ℕ)
          → Leaves r.header.negotiated (again_of (lent_of b₂ rx₂ store₂) r.header ch room used r.fault (settled_of (slot_at b₂ i) (policy_of r.header.negotiated) room)) r.end b₂ out₂ buf rep
          state' rx₂ store₂ out' buf'
          → Leaves n (read_acted l ch room used w₁ A) at state out buf rep state' rx₂ store₂ out' buf'
      unfolding again_of read_acted read_settled
      look-leaves used buf rep state' out' buf' q =
          let S = settled_of t (policy_of n) room in
          let fs = ack_frames S.slot S.ack in
          let cap = (policy_of n).rx_cap in
          let q₁ = subst (λ (x : Header). Leaves x.negotiated (again_of (lent_of b₂ rx₂ store₂) x ch room used r.fault (settled_of (slot_at b₂ i) (policy_of x.negotiated) room)) r.end b₂ out₂ buf rep state' rx₂ store₂ out' buf') g.header_is q in
          let q₂ = subst (λ (x : Option ChannelFault). Leaves A.header.negotiated (again_of (lent_of b₂ rx₂ store₂) A.header ch room used x (settled_of (slot_at b₂ i) (policy_of A.header.negotiated) room)) r.end b₂ out₂ buf rep state' rx₂ store₂ out' buf') g.fault-is q₁ in
          let q₃ = subst (λ (x : ChannelSlot). Leaves A.header.negotiated (again_of (lent_of b₂ rx₂ store₂) A.header ch room used A.fault (settled_of x (policy_of A.header.negotiated) room)) r.end b₂ out₂ buf rep state' rx₂ store₂ out' buf') (slot₂ b₂ g.state-is) q₂ in
          let q₄ = subst (λ (x : Negotiated). Leaves x (reread ch (policy_of x).rx_cap used A.fault (then (begun A.header (lent_of b₂ rx₂ store₂)) [] (ack_frames (settled_of t (policy_of x) room).slot (settled_of t (policy_of x) room).ack)) (settled_of t (policy_of x) room).slot (taken_of (settled_of t (policy_of x) room).slot room)) r.end b₂ out₂ buf rep state' rx₂ store₂ out' buf') agreed₂ q₃ in
          let b = reread-behind ch cap used A.fault w₂ (state_of b₂) S.slot fs (taken_of S.slot room) in
          let e : lent_of b₂ rx₂ store₂ ≡ next ch cap used A.fault w₂ (state_of b₂) =
          ap (λ (x : List ℕ). lent_of b₂ x store₂) g.rx-is ∙ ap (λ (x : List ℕ). lent_of b₂ A.rx x) g.store_is in
          leaves-on n w₂ _ _ at state out b₂ rx₂ store₂ out₂ r.end buf rep state' rx₂ store₂ out' buf' did₂ b
          (subst (λ (x : Lent). Leaves n (reread ch cap used A.fault (then (begun A.header x) [] fs) S.slot (taken_of S.slot room)) r.end b₂ out₂ buf rep state' rx₂ store₂ out' buf') e q₄)

  -- ---- the packet that a read looks at

  module _ (received : List ℕ) (p : Packet) (e : received_of l received ≡ (Ok p)) where
    pub look-packet : PacketRoom received n.config.max_payload p
    unfolding received_of
    look-packet = packet-room received n.config.max_payload (received_of l received) p refl e

    pub look-fits : (payload : List ℕ) → Bytes received → payload ≡ body_of received p → PacketFits h.negotiated p payload
    look-fits payload y f =
        subst (λ (x : List ℕ). PacketFits h.negotiated p x) (sym f)
        (subst (λ (x : Negotiated). PacketFits x p (body_of received p)) (sym same-agreed) (subst (ReceivedFits n received) e (received-fits l received y)))

    module _ (payload : List ℕ) (f : payload ≡ body_of received p) (buf : List ℕ) (b : length buf ≡ room) (rep : Reply) (state' rx' store' out' buf' : List ℕ) where
      abbrev o : Outcome
      o = read_by l ch room (begun h l) s received (Ok p)

      -- the reader's own
      pub look-direct : is_direct s room p ≡ true
          → Leaves h.negotiated (read_direct ch (24 + p.data_length) (begun h l) payload (delivered_of s (policy_of h.negotiated) (length payload))) at state out buf rep state' rx store out' buf'
          → Leaves n o at state out buf rep state' rx store out' buf'
      unfolding read_by
      look-direct t q =
          let len = ap (λ (x : List ℕ). length x) f ∙ look-packet.body in
          let q₁ = subst (λ (x : ℕ). Leaves h.negotiated (read_direct ch (frame_len p) (begun h l) payload (delivered_of s (policy_of h.negotiated) x)) at state out buf rep state' rx store out' buf') len q in
          let q₂ = subst (λ (x : List ℕ). Leaves h.negotiated (read_direct ch (frame_len p) (begun h l) x (delivered_of s (policy_of h.negotiated) p.data_length)) at state out buf rep state' rx store out' buf') f q₁ in
          let q₃ = subst (λ (x : Negotiated). Leaves x (read_direct ch (frame_len p) (begun h l) (body_of received p) (delivered_of s (policy_of x) p.data_length)) at state out buf rep state' rx store out' buf') same-agreed q₂ in
          subst (λ (x : Outcome). Leaves n x at state out buf rep state' rx store out' buf') (sym (cond-true (is_direct s room p) _ _ t)) q₃

      -- its CLSE
      pub look-closed : is_direct s room p ≡ false → closed_by (ids_in s) p ≡ true → (c : ChannelSlot) → c ≡ closed_slot s → state' ≡ put_header (put_slot state i c) h
          → rep ≡ record { answer = Refused ChannelClosed; used = 24 + p.data_length; written = at } → Leaves n o at state out buf rep state' rx store out buf
      unfolding read_by
      look-closed t u c d g r =
          let small = k.at_small in
          let big = a.room in
          let w = did-slot n at state out (begun h l) state rx store out at (did-begun n at state out h l (omega arith)) i c (put_slot state i c) refl in
          subst (λ (x : Outcome). Leaves n x at state out buf rep state' rx store out buf)
          (ap (λ (x : ChannelSlot). ends (then (begun h l) (slot_to i x ∷ []) []) (Refused ChannelClosed) (frame_len p) []) d ∙ sym (cond-false (is_direct s room p) _ _ t ∙ cond-true (closed_by (ids_in s) p) _ _ u))
          (did-stops n at state out _ _ _ _ _ _ w buf state' h _ (frame_len p) rep refl g r)

      -- another's
      pub look-other : is_direct s room p ≡ false → closed_by (ids_in s) p ≡ false
          → Leaves n (read_acted l ch room (24 + p.data_length) w₁ (act_on h (set (state_of state).slots i s) (state_of state).queue rx store p payload)) at state out buf rep state' rx' store' out' buf'
          → Leaves n o at state out buf rep state' rx' store' out' buf'
      unfolding read_by
      look-other t u q =
          subst (λ (x : Outcome). Leaves n x at state out buf rep state' rx' store' out' buf') (sym (cond-false (is_direct s room p) _ _ t ∙ cond-false (closed_by (ids_in s) p) _ _ u))
          (subst (λ (x : List ℕ). Leaves n (read_acted l ch room (frame_len p) w₁ (act_on h (set (state_of state).slots i s) (state_of state).queue rx store p x)) at state out buf rep state' rx' store' out' buf') f q)
