-- What the functions of write cite: the definition's case, and what the lent bytes are then. Assumes nothing.
use mathlib.Core.Path.{◌≡◌, refl, sym, ap, subst, ◌∙◌}
use mathlib.Core.Bool.{Bool, true, false, cond, ◌&&◌}
use mathlib.Core.List.{List, [], ◌∷◌}
use Prim.Native.Nat.{ℕ, ◌+◌, ◌-◌, ◌≤◌, ◌<◌, min, max}
use native.Mathlib.Omega.{arith}
use lib.Dec.{eqb}
use lib.ListN.{length, take, length-take}
use borrow.Author.Tests.{eq-eqb, ne_eqb, lt-ltb, le-ltb}
use Rattle.le.specs.Le.{Bytes}
use Rattle.config.specs.declared.negotiated.Negotiated.{Negotiated}
use Rattle.config.specs.declared.negotiated.RxPolicy.{RxPolicy}
use Rattle.config.specs.Config.{Within as Limits}
use Rattle.config.specs.Negotiated.{policy_of}
use Rattle.config.proofs.Laws.{and-true}
use Rattle.protocol.specs.declared.command.Command.TheVariants.{Write}
use Rattle.protocol.specs.declared.packet.Packet.{Packet}
use Rattle.checksum.specs.Checksum.{policy_for, check_for}
use Rattle.protocol.specs.Packet.{decode_of, Puts}
use Rattle.protocol.proofs.PacketLaws.{frame-length}
use Rattle.protocol.specs.Command.{is_ready}
use Rattle.slot.specs.declared.ChannelSlot.{ChannelSlot}
use Rattle.slot.specs.declared.Spending.{Spending}
use Rattle.credit.specs.declared.CreditFault.{CreditFault}
use Rattle.slot.specs.declared.ids.ChannelIds.{ChannelIds}
use Rattle.slot.specs.Ids.{closed_by}
use Rattle.slot.specs.Slot.{is_closed, ready_of, leave_of, spent_of, closed_slot}
use Rattle.slot.proofs.Laws.{cond-true, cond-false, leave-none}
use Rattle.state.specs.declared.Header.{Header}
use Rattle.state.specs.Change.{slot_to, changed_all}
use Rattle.le.specs.Rows.{flat}
use Rattle.state.specs.State.{state_of, is_state, put_slot, put_header}
use Rattle.state_whole.specs.Whole.{is_whole}
use Rattle.table.specs.declared.ChannelId.{ChannelId}
use Rattle.table.specs.Table.{slot_in}
use Rattle.connection.specs.declared.Answer.{Answer}
use Rattle.connection.specs.declared.Answer.TheVariants.{Waiting, Written, Refused}
use Rattle.connection.specs.declared.Refusal.TheVariants.{BadCredit, OutShort, ChannelClosed}
use Rattle.call.specs.declared.Reply.{Reply}
use Rattle.call.specs.declared.act.ActedOn.{ActedOn}
use Rattle.connection.specs.Act.{Acted, act_on, PacketFits}
use Rattle.connection.specs.Calls.{Lent, Outcome, then, then_acted, ends, dropped, policy, ids_in, is_there, slot_for, unless_fault, received_by, received_of, body_of, frame_len, send_len, send_some, send_by, send_again, write_readied, write_acted, write_act, write_by, write_first, write_on, write_step}
use Rattle.connection.specs.Frames.{write_frame, frame_bytes, frames_bytes}
use Rattle.call.specs.Promise.{lent_of, agreed_in, found_in, Leaves, Admits, ActsOn}
use Rattle.call_write.specs.Promise.{starts, Sends, Finds, Waits}
use Rattle.call.proofs.AdmitLaws.{admits-state, admits-facts, admits-dropped, admits-stores}
use Rattle.call.proofs.CallLaws.{received_is}
use Rattle.connection.proofs.Decoding.{PacketRoom, packet-room, ReceivedFits, received-fits}
use Rattle.call.proofs.FrameLaws.{puts_one, one-frame}
use Rattle.call.proofs.LeaveLaws.{Did, did-begun, did_then, did-slot, did-acted, did-stops, stops-leaves, untouched-leaves}
use Rattle.call.proofs.ThereLaws.{found_none, found-there, found-slot}
use Rattle.call_write.proofs.RestLaws.{Rests, rests-budget, rest-act, put_back}
use Rattle.connection.proofs.Slots.{slots-by}
use Rattle.connection.proofs.WholeAct.{ActedKeeps, acted-keeps}
use Rattle.connection.proofs.WholeWork.{there-live}
use Rattle.slot.specs.declared.ChannelFault.{ChannelFault}
use Rattle.std.specs.Prelude.{Option, Some, None, Result, Ok, Err}

-- a part of a slice from its start on
pub part-first : (len : ℕ) (b : List ℕ) → take (len - 0) b ≡ take len b
part-first len b = let e : len - 0 ≡ len = omega arith in ap (λ (k : ℕ). take k b) e

-- ---- a call that stores a slot and its header

stores : (state rx store out : List ℕ) (h : Header) → h ≡ dropped (state_of state).header → (place : ℕ) (s : ChannelSlot) (a : Answer) (used : ℕ) (r : Reply) (state' : List ℕ)
    → state' ≡ put_header (put_slot state place s) h → r ≡ record { answer = a; used = used; written = 0 }
    → Leaves (agreed_in state) (ends (then (starts state rx store) (slot_to place s ∷ []) []) a used []) 0 state out [] r state' rx store out []
stores state rx store out h i place s a used r state' f q =
    let n = agreed_in state in
    let w = did-begun n 0 state out (dropped (state_of state).header) (lent_of state rx store) (omega arith) in
    did-stops n 0 state out _ _ _ _ _ _ (did-slot n 0 state out _ _ _ _ _ _ w place s (put_slot state place s) refl) [] state' h a used r i f q

-- ---- sending

module _ (state out bytes : List ℕ) (ch : ChannelId) (h : Header) (g : Sends state ch.slot h) (used : ℕ) (s : ChannelSlot) where
  abbrev agreed : Negotiated
  agreed = agreed_in state

  module _ (most len : ℕ) (e : len ≡ min (min (length bytes) (max h.negotiated.max_payload 1)) most) (rx store : List ℕ) where
    abbrev lent : Lent
    lent = lent_of state rx store

    len_is : send_len lent bytes most ≡ len
    unfolding send_len
    len_is = ap (λ (x : Header). min (min (length bytes) (max x.negotiated.max_payload 1)) most) (sym g.header) ∙ sym e

    -- as many bytes as are said
    by-len : (r : Reply) (state' out' : List ℕ) → Leaves agreed (send_some lent ch (length out) bytes used (starts state rx store) s len) 0 state out [] r state' rx store out' []
        → Leaves agreed (send_some lent ch (length out) bytes used (starts state rx store) s (send_len lent bytes most)) 0 state out [] r state' rx store out' []
    by-len r state' out' =
        subst (λ (x : ℕ). Leaves agreed (send_some lent ch (length out) bytes used (starts state rx store) s x) 0 state out [] r state' rx store out' []) (sym len_is)

    -- the frame does not fit
    pub send-short : (r : Reply) → length out < 24 + len → r ≡ record { answer = Refused OutShort; used = 0; written = 0 }
        → Leaves agreed (send_some lent ch (length out) bytes used (starts state rx store) s (send_len lent bytes most)) 0 state out [] r state rx store out []
    unfolding send_some frames_bytes flat
    send-short r k q =
        by-len r state out
        (subst (λ (o : Outcome). Leaves agreed o 0 state out [] r state rx store out []) (sym (cond-true _ _ _ (lt-ltb (length out) (0 + 24 + len) (omega arith))))
        (untouched-leaves agreed lent OutShort state out [] r q))

    -- it does
    pub send-sent : (part : List ℕ) (ids : ChannelIds) (p : RxPolicy) (t : ChannelSlot) (end : ℕ) (r : Reply) (out' state₂ : List ℕ) → 24 + len ≤ length out → part ≡ take len bytes
        → ids ≡ ids_in s → Puts out 0 (frame_bytes h.negotiated (write_frame ids part)) end out' → p ≡ policy_of h.negotiated → t ≡ spent_of s p len
        → state₂ ≡ put_header (put_slot state ch.slot t) h → r ≡ record { answer = Written len; used = used; written = end }
        → Leaves agreed (send_some lent ch (length out) bytes used (starts state rx store) s (send_len lent bytes most)) 0 state out [] r state₂ rx store out' []
    unfolding send_some frames_bytes flat frame_bytes
    send-sent part ids p t end r out' state₂ k c d u x y f q =
        let hd = dropped (state_of state).header in
        let w = did-begun agreed 0 state out hd lent (omega arith) in
        let frame = write_frame (ids_in s) (take len bytes) in
        let u₁ : Puts out 0 (frame_bytes agreed frame) end out' =
        subst (λ (a : ChannelIds). Puts out 0 (frame_bytes agreed (write_frame a (take len bytes))) end out') d
        (subst (λ (b : List ℕ). Puts out 0 (frame_bytes agreed (write_frame ids b)) end out') c
        (subst (λ (a : Header). Puts out 0 (frame_bytes a.negotiated (write_frame ids part)) end out') g.header u)) in
        let m = frame-length Write s.local.0 s.remote.0 (take len bytes) (check_for (policy_for agreed.protocol_version) (take len bytes)) in
        let j = length-take len bytes in
        let o = ap (λ (b : List ℕ). length b) (one-frame agreed frame) in
        let spent : t ≡ spent_of s (policy_of agreed) len = y ∙ ap (λ (a : RxPolicy). spent_of s a len) (x ∙ ap (λ (a : Header). policy_of a.negotiated) g.header) in
        let w₁ = did_then agreed 0 state out _ _ _ _ _ _ w (slot_to ch.slot (spent_of s (policy_of agreed) len) ∷ []) (frame ∷ []) (put_slot state ch.slot t) out' end (ap (put_slot state ch.slot) spent)
        (puts_one agreed frame out out' 0 end u₁) (omega arith) in
        by-len r state₂ out'
        (subst (λ (a : Outcome). Leaves agreed a 0 state out [] r state₂ rx store out' []) (sym (cond-false _ _ _ (le-ltb (length out) (0 + 24 + len) (omega arith))))
        (did-stops agreed 0 state out _ _ _ _ _ _ w₁ [] state₂ h (Written len) used r g.header f q))

  -- what may be sent
  leave-is : (spending : Spending) (b : Option ℕ) (p : RxPolicy) → p ≡ policy_of h.negotiated → b ≡ leave_of spending s p → leave_of spending s (policy_of agreed) ≡ b
  leave-is spending b p y u = ap (λ (x : Header). leave_of spending s (policy_of x.negotiated)) (sym g.header) ∙ ap (leave_of spending s) (sym y) ∙ sym u

  -- ---- the turn after an OKAY

  module _ (spending : Spending) (closed : Bool) (c : closed ≡ is_closed s.state) (rx store : List ℕ) where
    pub again-closed : (r : Reply) (state₂ : List ℕ) → closed ≡ true → state₂ ≡ put_header (put_slot state ch.slot s) h
        → r ≡ record { answer = Refused ChannelClosed; used = used; written = 0 }
        → Leaves agreed (send_again spending (lent_of state rx store) ch (length out) bytes used (starts state rx store) s) 0 state out [] r state₂ rx store out []
    unfolding send_again
    again-closed r state₂ t f q =
        subst (λ (o : Outcome). Leaves agreed o 0 state out [] r state₂ rx store out []) (sym (cond-true _ _ _ (sym c ∙ t)))
        (stores state rx store out h g.header ch.slot s (Refused ChannelClosed) used r state₂ f q)

    module _ (t : closed ≡ false) (b : Option ℕ) (p : RxPolicy) (y : p ≡ policy_of h.negotiated) (u : b ≡ leave_of spending s p) where
      again_by : (x : Option ℕ) → b ≡ x → send_again spending (lent_of state rx store) ch (length out) bytes used (starts state rx store) s ≡ send_by (lent_of state rx store) ch (length out) bytes used (starts state rx store) s x
      unfolding send_again
      again_by x m = cond-false _ _ _ (sym c ∙ t) ∙ ap (send_by (lent_of state rx store) ch (length out) bytes used (starts state rx store) s) (leave-is spending b p y u ∙ m)

      pub again-sends : (most : ℕ) (r : Reply) (state' out' : List ℕ) → b ≡ Some most
          → Leaves agreed (send_some (lent_of state rx store) ch (length out) bytes used (starts state rx store) s (send_len (lent_of state rx store) bytes most)) 0 state out [] r state' rx store out' []
          → Leaves agreed (send_again spending (lent_of state rx store) ch (length out) bytes used (starts state rx store) s) 0 state out [] r state' rx store out' []
      unfolding send_by
      again-sends most r state' out' m = subst (λ (o : Outcome). Leaves agreed o 0 state out [] r state' rx store out' []) (sym (again_by (Some most) m))

      pub again-waits : (r : Reply) (state₂ : List ℕ) → b ≡ None → state₂ ≡ put_header (put_slot state ch.slot s) h
          → r ≡ record { answer = Waiting; used = used; written = 0 }
          → Leaves agreed (send_again spending (lent_of state rx store) ch (length out) bytes used (starts state rx store) s) 0 state out [] r state₂ rx store out []
      unfolding send_by
      again-waits r state₂ m f q =
          subst (λ (o : Outcome). Leaves agreed o 0 state out [] r state₂ rx store out []) (sym (again_by None m))
          (stores state rx store out h g.header ch.slot s Waiting used r state₂ f q)

  -- ---- the channel's own OKAY

  module _ (spending : Spending) (payload : List ℕ) (p : RxPolicy) (x : Result ChannelSlot CreditFault) (y : p ≡ policy_of h.negotiated) (e : x ≡ ready_of s payload p) (rx store : List ℕ) where
    readied-is : (z : Result ChannelSlot CreditFault) → x ≡ z → z ≡ ready_of s payload (policy_of agreed)
    readied-is z f = sym f ∙ e ∙ ap (λ (a : RxPolicy). ready_of s payload a) (y ∙ ap (λ (a : Header). policy_of a.negotiated) g.header)

    pub ready-again : (t : ChannelSlot) (r : Reply) (state' out' : List ℕ) → x ≡ Ok t
        → Leaves agreed (send_again spending (lent_of state rx store) ch (length out) bytes used (starts state rx store) t) 0 state out [] r state' rx store out' []
        → Leaves agreed (write_readied spending (lent_of state rx store) ch (length out) bytes used (starts state rx store) s (ready_of s payload (policy (lent_of state rx store)))) 0 state out [] r state' rx store out' []
    unfolding write_readied
    ready-again t r state' out' f =
        subst (λ (z : Result ChannelSlot CreditFault). Leaves agreed (write_readied spending (lent_of state rx store) ch (length out) bytes used (starts state rx store) s z) 0 state out [] r state' rx store out' []) (readied-is (Ok t) f)

    pub ready-bad : (b : CreditFault) (r : Reply) (state' : List ℕ) → x ≡ Err b → state' ≡ put_header state h → r ≡ record { answer = Refused (BadCredit b); used = used; written = 0 }
        → Leaves agreed (write_readied spending (lent_of state rx store) ch (length out) bytes used (starts state rx store) s (ready_of s payload (policy (lent_of state rx store)))) 0 state out [] r state' rx store out []
    unfolding write_readied
    ready-bad b r state' f d q =
        subst (λ (z : Result ChannelSlot CreditFault). Leaves agreed (write_readied spending (lent_of state rx store) ch (length out) bytes used (starts state rx store) s z) 0 state out [] r state' rx store out []) (readied-is (Err b) f)
        (stops-leaves state rx store h g.header out [] _ (Refused (BadCredit b)) used r state' refl d q)

-- ---- a channel that was found

module _ (state rx store : List ℕ) (out : ℕ) (ch : ChannelId) (h : Header) (s : ChannelSlot) (k : Finds state rx store out ch h s) where
  pub finds-place : ch.slot < 64
  finds-place =
      let w = admits-facts state out (admits-state k.admits) in
      let v = there-live (lent_of state rx store) w ch k.there in
      let most = w.limits.within.most-channels in
      let p = v.place in
      omega arith

  pub finds-sends : Sends state ch.slot h
  finds-sends =
      let w = admits-facts state out (admits-state k.admits) in
      record {
        state-fits = k.admits.state-fits;
        place-fits = finds-place;
        header = k.header;
        within = subst (λ (x : Header). Limits x.negotiated.config) (sym k.header) w.limits.within;
        payload = subst (λ (x : Header). x.negotiated.max_payload ≤ 1_048_576) (sym k.header) w.limits.payload;
      }

-- ---- a packet that comes while nothing may be sent

module _ (state rx store out received bytes : List ℕ) (ch : ChannelId) (h : Header) (s : ChannelSlot) (p : Packet) (k : Waits state rx store (length out) ch h s)
    (q : received_of (lent_of state rx store) received ≡ (Ok p)) where
  abbrev found : Lent
  found = lent_of state rx store

  abbrev values : Negotiated
  values = agreed_in state

  abbrev ended : (r : Reply) (state' rx' store' out' : List ℕ) (o : Outcome) → Type 0
  ended r state' rx' store' out' o = Leaves values o 0 state out [] r state' rx' store' out' []

  pub packet-place : PacketRoom received h.negotiated.config.max_payload p
  unfolding received_of
  packet-place =
      subst (λ (x : Header). PacketRoom received x.negotiated.config.max_payload p) (sym k.finds.header)
      (packet-room received values.config.max_payload (received_of found received) p refl q)

  module _ (spending : Spending) (own : Bool) (o : own ≡ (is_ready p.command && eqb p.arg1 s.local.0)) where
    abbrev whole : Outcome
    whole = write_by spending found ch (length out) bytes (starts state rx store) s received (Ok p)

    -- the channel's own OKAY
    pub packet-ready : (payload : List ℕ) (r : Reply) (state' out' : List ℕ) → own ≡ true → payload ≡ body_of received p
        → ended r state' rx store out' (write_readied spending found ch (length out) bytes (frame_len p) (starts state rx store) s (ready_of s payload (policy found))) → ended r state' rx store out' whole
    unfolding write_by
    packet-ready payload r state' out' t b g =
        subst (ended r state' rx store out') (sym (cond-true _ _ _ (sym o ∙ t)))
        (subst (λ (x : List ℕ). ended r state' rx store out' (write_readied spending found ch (length out) bytes (frame_len p) (starts state rx store) s (ready_of s x (policy found)))) b g)

    module _ (f : own ≡ false) (ids : ChannelIds) (closed : Bool) (d : ids ≡ ids_in s) (c : closed ≡ closed_by ids p) where
      closed_is : closed ≡ closed_by (ids_in s) p
      closed_is = c ∙ ap (λ (x : ChannelIds). closed_by x p) d

      -- a CLSE that names it
      pub packet-closes : (t : ChannelSlot) (r : Reply) (state₂ : List ℕ) → closed ≡ true → t ≡ closed_slot s → state₂ ≡ put_header (put_slot state ch.slot t) h
          → r ≡ record { answer = Refused ChannelClosed; used = frame_len p; written = 0 } → ended r state₂ rx store out whole
      unfolding write_by
      packet-closes t r state₂ u z e b =
          subst (ended r state₂ rx store out) (sym (cond-false _ _ _ (sym o ∙ f) ∙ cond-true _ _ _ (sym closed_is ∙ u)))
          (stores state rx store out h k.finds.header ch.slot (closed_slot s) (Refused ChannelClosed) (frame_len p) r state₂ (e ∙ ap (λ (x : ChannelSlot). put_header (put_slot state ch.slot x) h) z) b)

      -- any other
      module _ (v : closed ≡ false) (y : Bytes received) where
        abbrev act : Acted
        act = act_on (dropped (state_of state).header) (state_of state).slots (state_of state).queue rx store p (body_of received p)

        fits : PacketFits values p (body_of received p)
        fits = subst (ReceivedFits values received) q (received-fits found received y)

        keeps : ActedKeeps values (state_of state) (length rx) (length store) act
        keeps =
            let a = admits-stores k.finds.admits in
            acted-keeps (dropped (state_of state).header) (state_of state) rx store (admits-dropped state (length out) (admits-state k.finds.admits)) refl a.rx-long a.store_long p (body_of received p) fits

        -- the slot that the loop's next turn looks at
        abbrev after : ChannelSlot
        after = slot_in (changed_all (state_of state) act.changes).slots ch.slot

        rests : Rests s after
        unfolding slot_for
        rests =
            let w = admits-facts state (length out) (admits-state k.finds.admits) in
            let full = w.slots.full in
            let most = w.limits.within.most-channels in
            let place = finds-place state rx store (length out) ch h s k.finds in
            let ss = (state_of state).slots in
            let R : ChannelSlot → Type 0 = λ x. (is_ready p.command && eqb p.arg1 x.local.0) ≡ false → closed_by (ids_in x) p ≡ false → Rests x after in
            subst R (sym k.finds.slot)
            (λ a b. subst (λ (x : List ChannelSlot). Rests (slot_in ss ch.slot) (slot_in x ch.slot)) (sym (slots-by (state_of state) act.changes))
            (rest-act (dropped (state_of state).header) ss (state_of state).queue rx store p (body_of received p) ch.slot (omega arith) (omega arith) a b))
            (sym o ∙ f) (sym closed_is ∙ v)

        -- so nothing may be sent, it waits again, and stores no other slot
        turn_is : send_again spending found ch (length out) bytes (frame_len p) (then_acted (starts state rx store) act) after
            ≡ ends (then (then_acted (starts state rx store) act) (slot_to ch.slot after ∷ []) []) Waiting (frame_len p) []
        unfolding send_again send_by
        turn_is =
            cond-false _ _ _ (ap is_closed rests.state ∙ k.unclosed)
            ∙ ap (send_by found ch (length out) bytes (frame_len p) (then_acted (starts state rx store) act) after) ((leave-none spending after (policy_of values)).0 (rests-budget s after (policy_of values) rests ∙ k.nothing))

        is-state : is_state state ≡ true
        unfolding is_whole
        is-state = (and-true (is_state state) _ k.finds.admits.is-whole).0

        module _ (acted : ActedOn) (a : Answer) (r : Reply) (state₁ rx₁ store₁ out₁ state₂ : List ℕ) (g : ActsOn values act 0 state out acted state₁ rx₁ store₁ out₁)
            (u : a ≡ unless_fault acted.fault Waiting) (e : state₂ ≡ put_header state₁ acted.header) (b : r ≡ record { answer = a; used = frame_len p; written = acted.end }) where
          did : Did values (then_acted (starts state rx store) act) 0 state out state₁ rx₁ store₁ out₁ acted.end
          did = did-acted values 0 state out _ _ _ _ _ _ (did-begun values 0 state out (dropped (state_of state).header) found (omega arith)) act acted state₁ rx₁ store₁ out₁ g

          answers : (x : Option ChannelFault) → act.fault ≡ x → r ≡ record { answer = unless_fault x Waiting; used = frame_len p; written = acted.end }
          answers x z = b ∙ ap (λ (y : Answer). record { answer = y; used = frame_len p; written = acted.end }) (u ∙ ap (λ (t : Option ChannelFault). unless_fault t Waiting) (g.fault-is ∙ z))

          same-slot : state₁ ≡ put_slot state₁ ch.slot after
          same-slot =
              let z = g.state-is in
              z ∙ sym (put_back state act.changes ch.slot k.finds.admits.bytes is-state keeps.within (finds-place state rx store (length out) ch h s k.finds))
              ∙ ap (λ (x : List ℕ). put_slot x ch.slot after) (sym z)

          acted-by : (x : Option ChannelFault) → act.fault ≡ x → ended r state₂ rx₁ store₁ out₁ (write_acted spending found ch (length out) bytes (frame_len p) (starts state rx store) act x)
          unfolding write_acted unless_fault
          acted-by (Some why) z = did-stops values 0 state out _ _ _ _ _ _ did [] state₂ acted.header _ (frame_len p) r g.header_is e (answers (Some why) z)
          acted-by None z =
              subst (ended r state₂ rx₁ store₁ out₁) (sym turn_is)
              (did-stops values 0 state out _ _ _ _ _ _ (did-slot values 0 state out _ _ _ _ _ _ did ch.slot after state₁ same-slot) [] state₂ acted.header Waiting (frame_len p) r g.header_is e (answers None z))

          acted-whole : ended r state₂ rx₁ store₁ out₁ whole
          unfolding write_by write_act
          acted-whole = subst (ended r state₂ rx₁ store₁ out₁) (sym (cond-false _ _ _ (sym o ∙ f) ∙ cond-false _ _ _ (sym closed_is ∙ v))) (acted-by act.fault refl)

        pub packet-acts : (payload : List ℕ) (acted : ActedOn) (a : Answer) (r : Reply) (state₁ rx₁ store₁ out₁ state₂ : List ℕ) → payload ≡ body_of received p
            → ActsOn h.negotiated (act_on h (state_of state).slots (state_of state).queue rx store p payload) 0 state out acted state₁ rx₁ store₁ out₁
            → a ≡ unless_fault acted.fault Waiting → state₂ ≡ put_header state₁ acted.header → r ≡ record { answer = a; used = frame_len p; written = acted.end }
            → ended r state₂ rx₁ store₁ out₁ whole
        packet-acts payload acted a r state₁ rx₁ store₁ out₁ state₂ b g u e z =
            acted-whole acted a r state₁ rx₁ store₁ out₁ state₂
            (subst (λ (x : List ℕ). ActsOn values (act_on (dropped (state_of state).header) (state_of state).slots (state_of state).queue rx store p x) 0 state out acted state₁ rx₁ store₁ out₁) b
            (subst (λ (x : Header). ActsOn x.negotiated (act_on x (state_of state).slots (state_of state).queue rx store p payload) 0 state out acted state₁ rx₁ store₁ out₁) k.finds.header g))
            u e z

-- ---- waiting for it

module _ (spending : Spending) (state rx store out received bytes : List ℕ) (ch : ChannelId) (h : Header) (s : ChannelSlot) (i : h ≡ dropped (state_of state).header) where
  abbrev first : Outcome
  first = write_first spending (lent_of state rx store) ch (length out) bytes received (starts state rx store) s None

  pub wait-gone : (r : Reply) (state' : List ℕ) → s.has_remote ≡ false → state' ≡ put_header state h → r ≡ record { answer = Refused ChannelClosed; used = 0; written = 0 }
      → Leaves (agreed_in state) first 0 state out [] r state' rx store out []
  unfolding write_first
  wait-gone r state' t e q =
      subst (λ (o : Outcome). Leaves (agreed_in state) o 0 state out [] r state' rx store out []) (sym (cond-false s.has_remote _ _ t))
      (stops-leaves state rx store h i out [] _ (Refused ChannelClosed) 0 r state' refl e q)

  module _ (got : Result Packet (Answer × ℕ)) (d : got ≡ received_by (decode_of received h.negotiated.config.max_payload)) where
    pub wait-received : (p : Packet) → got ≡ Ok p → received_of (lent_of state rx store) received ≡ Ok p
    wait-received p f = sym (received_is state rx store h (ap (λ (x : Header). x.negotiated) i) received got d) ∙ f

    first_by : (x : Result Packet (Answer × ℕ)) → s.has_remote ≡ true → got ≡ x → first ≡ write_by spending (lent_of state rx store) ch (length out) bytes (starts state rx store) s received x
    unfolding write_first
    first_by x t f =
        cond-true s.has_remote _ _ t
        ∙ ap (write_by spending (lent_of state rx store) ch (length out) bytes (starts state rx store) s received) (sym (received_is state rx store h (ap (λ (x : Header). x.negotiated) i) received got d) ∙ f)

    pub wait-stops : (a : Answer) (used : ℕ) (r : Reply) (state' : List ℕ) → s.has_remote ≡ true → got ≡ Err (a, used) → state' ≡ put_header state h
        → r ≡ record { answer = a; used = used; written = 0 } → Leaves (agreed_in state) first 0 state out [] r state' rx store out []
    unfolding write_by
    wait-stops a used r state' t f e q =
        subst (λ (o : Outcome). Leaves (agreed_in state) o 0 state out [] r state' rx store out []) (sym (first_by (Err (a, used)) t f))
        (stops-leaves state rx store h i out [] _ a used r state' refl e q)

    pub wait-packet : (p : Packet) (r : Reply) (state' rx' store' out' : List ℕ) → s.has_remote ≡ true → got ≡ Ok p
        → Leaves (agreed_in state) (write_by spending (lent_of state rx store) ch (length out) bytes (starts state rx store) s received (Ok p)) 0 state out [] r state' rx' store' out' []
        → Leaves (agreed_in state) first 0 state out [] r state' rx' store' out' []
    wait-packet p r state' rx' store' out' t f =
        subst (λ (o : Outcome). Leaves (agreed_in state) o 0 state out [] r state' rx' store' out' []) (sym (first_by (Ok p) t f))

-- ---- the first turn

module _ (spending : Spending) (state rx store out received bytes : List ℕ) (ch : ChannelId) (h : Header) (s : ChannelSlot) (k : Finds state rx store (length out) ch h s) (closed : Bool)
    (c : closed ≡ is_closed s.state) where
  abbrev turn : Outcome
  turn = write_on spending (lent_of state rx store) ch (length out) bytes received (starts state rx store) s

  pub on-closed : (r : Reply) (state' : List ℕ) → closed ≡ true → state' ≡ put_header state h → r ≡ record { answer = Refused ChannelClosed; used = 0; written = 0 }
      → Leaves (agreed_in state) turn 0 state out [] r state' rx store out []
  unfolding write_on
  on-closed r state' t e q =
      subst (λ (o : Outcome). Leaves (agreed_in state) o 0 state out [] r state' rx store out []) (sym (cond-true _ _ _ (sym c ∙ t)))
      (stops-leaves state rx store h k.header out [] _ (Refused ChannelClosed) 0 r state' refl e q)

  module _ (t : closed ≡ false) (b : Option ℕ) (p : RxPolicy) (y : p ≡ policy_of h.negotiated) (u : b ≡ leave_of spending s p) where
    may-send : (x : Option ℕ) → b ≡ x → leave_of spending s (policy_of (agreed_in state)) ≡ x
    may-send x m = leave-is state out bytes ch h (finds-sends state rx store (length out) ch h s k) 0 s spending b p y u ∙ m

    turn_by : (x : Option ℕ) → b ≡ x → turn ≡ write_first spending (lent_of state rx store) ch (length out) bytes received (starts state rx store) s x
    unfolding write_on
    turn_by x m = cond-false _ _ _ (sym c ∙ t) ∙ ap (write_first spending (lent_of state rx store) ch (length out) bytes received (starts state rx store) s) (may-send x m)

    pub on-sends : (most : ℕ) (r : Reply) (state' out' : List ℕ) → b ≡ Some most
        → Leaves (agreed_in state) (send_some (lent_of state rx store) ch (length out) bytes 0 (starts state rx store) s (send_len (lent_of state rx store) bytes most)) 0 state out [] r state' rx store out' []
        → Leaves (agreed_in state) turn 0 state out [] r state' rx store out' []
    unfolding write_first
    on-sends most r state' out' m = subst (λ (o : Outcome). Leaves (agreed_in state) o 0 state out [] r state' rx store out' []) (sym (turn_by (Some most) m))

    pub on-waits : b ≡ None → Waits state rx store (length out) ch h s
    on-waits m = record { finds = k; unclosed = sym c ∙ t; nothing = (leave-none spending s (policy_of (agreed_in state))).1 (may-send None m) }

    pub on-packet : (r : Reply) (state' rx' store' out' : List ℕ) → b ≡ None
        → Leaves (agreed_in state) (write_first spending (lent_of state rx store) ch (length out) bytes received (starts state rx store) s None) 0 state out [] r state' rx' store' out' []
        → Leaves (agreed_in state) turn 0 state out [] r state' rx' store' out' []
    on-packet r state' rx' store' out' m = subst (λ (o : Outcome). Leaves (agreed_in state) o 0 state out [] r state' rx' store' out' []) (sym (turn_by None m))

-- ---- the call

module _ (spending : Spending) (state rx store out received bytes : List ℕ) (ch : ChannelId) (h : Header) (g : Admits state rx store (length out)) (i : h ≡ dropped (state_of state).header) where
  abbrev step : Outcome
  step = write_step spending (lent_of state rx store) ch (length out) bytes received

  pub step-none : (r : Reply) (state' : List ℕ) → length bytes ≡ 0 → state' ≡ put_header state h → r ≡ record { answer = Written 0; used = 0; written = 0 }
      → Leaves (agreed_in state) step 0 state out [] r state' rx store out []
  unfolding write_step
  step-none r state' z e q =
      subst (λ (o : Outcome). Leaves (agreed_in state) o 0 state out [] r state' rx store out []) (sym (cond-true _ _ _ (eq-eqb (length bytes) 0 z)))
      (stops-leaves state rx store h i out [] _ (Written 0) 0 r state' refl e q)

  module _ (found : Option ChannelSlot) (t : found ≡ found_in h.negotiated.config.channels (state_of state).slots ch) where
    pub step-finds : (s : ChannelSlot) → found ≡ Some s → Finds state rx store (length out) ch h s
    step-finds s f = record { admits = g; header = i; there = found-there state rx store h i ch found t s f; slot = found-slot state rx store h i ch found t s f }

    module _ (z : length bytes ≡ 0 → ⊥) where
      step-some : (there : Bool) → is_there (lent_of state rx store) ch ≡ there → step
          ≡ cond there (write_on spending (lent_of state rx store) ch (length out) bytes received (starts state rx store) (slot_for (lent_of state rx store) ch))
          (ends (starts state rx store) (Refused ChannelClosed) 0 [])
      unfolding write_step
      step-some there e =
          cond-false _ _ _ (ne_eqb (length bytes) 0 z)
          ∙ ap (λ (b : Bool). cond b (write_on spending (lent_of state rx store) ch (length out) bytes received (starts state rx store) (slot_for (lent_of state rx store) ch))
          (ends (starts state rx store) (Refused ChannelClosed) 0 [])) e

      pub step-there : (s : ChannelSlot) (r : Reply) (state' rx' store' out' : List ℕ) → found ≡ Some s
          → Leaves (agreed_in state) (write_on spending (lent_of state rx store) ch (length out) bytes received (starts state rx store) s) 0 state out [] r state' rx' store' out' []
          → Leaves (agreed_in state) step 0 state out [] r state' rx' store' out' []
      step-there s r state' rx' store' out' f k =
          subst (λ (o : Outcome). Leaves (agreed_in state) o 0 state out [] r state' rx' store' out' []) (sym (step-some true (step-finds s f).there))
          (subst (λ (x : ChannelSlot). Leaves (agreed_in state) (write_on spending (lent_of state rx store) ch (length out) bytes received (starts state rx store) x) 0 state out [] r state' rx' store' out' [])
          (step-finds s f).slot k)

      pub step_gone : (r : Reply) (state' : List ℕ) → found ≡ None → state' ≡ put_header state h → r ≡ record { answer = Refused ChannelClosed; used = 0; written = 0 }
          → Leaves (agreed_in state) step 0 state out [] r state' rx store out []
      step_gone r state' f e q =
          stops-leaves state rx store h i out [] _ (Refused ChannelClosed) 0 r state' (step-some false (found_none state rx store h i ch found t f)) e q
