-- What opening a channel leaves. Assumes nothing.
use mathlib.Core.Path.{◌≡◌, refl, sym, ap, subst, ◌∙◌}
use mathlib.Core.Bool.{Bool, true, false, ◌&&◌}
use mathlib.Core.List.{List, [], ◌∷◌}
use Prim.Native.Nat.{ℕ, ◌+◌, ◌≤◌, ◌<◌}
use native.Mathlib.Omega.{arith}
use lib.Dec.{eqb, ltb}
use lib.ListN.{length}
use borrow.Author.Tests.{lt-ltb, le-ltb}
use Rattle.config.specs.declared.negotiated.Negotiated.{Negotiated}
use Rattle.config.specs.declared.negotiated.RxPolicy.{RxPolicy}
use Rattle.config.specs.Config.{Within}
use Rattle.config.specs.Negotiated.{policy_of, offered_credit}
use Rattle.protocol.specs.declared.command.Command.TheVariants.{Open}
use Rattle.protocol.specs.declared.packet.Packet.{Packet}
use Rattle.checksum.specs.Checksum.{check_for, policy_for}
use Rattle.protocol.specs.Packet.{payload_limit, decode_of, Puts}
use Rattle.protocol.proofs.PacketLaws.{frame-length}
use Rattle.protocol.specs.Command.{is_ready, is_close, is_write}
use Rattle.slot.specs.declared.ChannelSlot.{ChannelSlot}
use Rattle.credit.specs.declared.CreditFault.{CreditFault}
use Rattle.slot.specs.declared.ids.LocalId.{LocalId}
use Rattle.slot.specs.Slot.{opening_slot, opened_of}
use Rattle.slot.proofs.Laws.{cond-true, cond-false}
use Rattle.state.specs.declared.Header.{Header}
use Rattle.state.specs.State.{state_len, is_ours, state_of, put_slot, put_header}
use Rattle.state_whole.proofs.WholeLaws.{Whole}
use Rattle.table.specs.declared.ChannelId.{ChannelId}
use Rattle.table.specs.Table.{numbered, allocated}
use Rattle.connection.specs.declared.Answer.{Answer}
use Rattle.connection.specs.declared.Answer.TheVariants.{Waiting, Opened, Refused}
use Rattle.connection.specs.declared.Refusal.TheVariants.{PayloadTooLarge, BadCredit, UnexpectedCommand, OutShort, ChannelClosed, NoFreeChannels}
use Rattle.call.specs.declared.Reply.{Reply}
use Rattle.call.specs.declared.act.ActedOn.{ActedOn}
use Rattle.connection.specs.Act.{act_on}
use Rattle.connection.specs.Calls.{Lent, Outcome, begun, then, then_acted, storing, ends, dropped, pending_for, policy, unless_fault, received_by, received_of, body_of, frame_len, still_pending, open_on, open_readied, open_acted, open_by, open_step}
use Rattle.connection.specs.Frames.{Frame, close_frame, open_frame, frame_bytes}
use Rattle.call.specs.Promise.{lent_of, agreed_in, pending_channel, Leaves, AdmitsState, ActRoom, ActsOn}
use Rattle.call.proofs.AdmitLaws.{act-room, admits-facts}
use Rattle.connection.proofs.Decoding.{PacketRoom, packet-room}
use Rattle.call.proofs.CallLaws.{received_is, allocated-dropped, own_is as test-is}
use Rattle.call.proofs.FrameLaws.{close-short, one-frame, puts_one}
use Rattle.call.proofs.LeaveLaws.{Did, did-begun, did-slot, did-frames, did-acted, did-stops, stops-leaves, untouched-leaves}
use Rattle.connection.proofs.WholeWork.{Long}
use Rattle.std.specs.Prelude.{Result, Ok, Err}
use Rattle.table.specs.declared.NoFreeChannels.{NoFreeChannels as NoFree}

-- an OPEN has its destination behind the 24 bytes
open-long : (n : Negotiated) (local : LocalId) (credit : ℕ) (destination : List ℕ) → length (frame_bytes n (open_frame local credit destination)) ≡ 24 + length destination
unfolding frame_bytes
open-long n local credit destination = frame-length Open local.0 credit destination (check_for (policy_for n.protocol_version) destination)

-- a frame is written, and a header stored
module _ (state rx store out : List ℕ) (h : Header) (i : h.negotiated ≡ agreed_in state) where
  writes : (o : Outcome) (x y : Header) (f : Frame) (a : Answer) (used : ℕ) (r : Reply) (end : ℕ) (out' state' : List ℕ) → o ≡ ends (then (begun x (lent_of state rx store)) [] (f ∷ [])) a used []
      → Puts out 0 (frame_bytes h.negotiated f) end out' → length (frame_bytes (agreed_in state) f) ≤ length out → y ≡ x → state' ≡ put_header state y
      → r ≡ record { answer = a; used = used; written = end } → Leaves (agreed_in state) o 0 state out [] r state' rx store out' []
  writes o x y f a used r end out' state' e p k j s q =
      let n = agreed_in state in
      let p₁ : Puts out 0 (frame_bytes n f) end out' = subst (λ (z : Negotiated). Puts out 0 (frame_bytes z f) end out') i p in
      let l = ap (λ (z : List ℕ). length z) (one-frame n f) in
      let w = did-begun n 0 state out x (lent_of state rx store) (omega arith) in
      let w₁ = did-frames n 0 state out _ _ _ _ _ _ w (f ∷ []) out' end (puts_one n f out out' 0 end p₁) (omega arith) in
      subst (λ (v : Outcome). Leaves n v 0 state out [] r state' rx store out' []) (sym e) (did-stops n 0 state out _ _ _ _ _ _ w₁ [] state' y a used r j s q)

-- the stores have no part in the packet that comes
pub received-any : (state rx store received : List ℕ) (x : Result Packet (Answer × ℕ)) → received_of (lent_of state rx store) received ≡ x → (rx' store' : List ℕ)
    → received_of (lent_of state rx' store') received ≡ x
unfolding received_of
received-any state rx store received x e rx' store' = e

-- ---- an open begins

module _ (state rx store out : List ℕ) (h : Header) (i : h ≡ dropped (state_of state).header) where
  abbrev lent₀ : Lent
  lent₀ = lent_of state rx store

  abbrev head₀ : Header
  head₀ = dropped (state_of state).header

  pub begin-limits : AdmitsState state (length out) → Within h.negotiated.config
  begin-limits g = subst (λ (x : Header). Within x.negotiated.config) (sym i) (admits-facts state (length out) g).limits.within

  -- what looking for a slot asks
  pub begin-looks : AdmitsState state (length out) → (h.negotiated.config.channels ≤ 64) × (state_len ≤ length state)
  begin-looks g = ((begin-limits g).most-channels, g.state-fits)

  module _ (destination : List ℕ) (found : Result ChannelId NoFree) (e : found ≡ allocated h (state_of state).slots) where
    abbrev began : Outcome
    began = open_on lent₀ (length out) destination (allocated (state_of state).header (state_of state).slots)

    found-is : (x : Result ChannelId NoFree) → found ≡ x → began ≡ open_on lent₀ (length out) destination x
    found-is x f =
        ap (open_on lent₀ (length out) destination)
        (sym (allocated-dropped (state_of state).header (state_of state).slots) ∙ sym (ap (λ (y : Header). allocated y (state_of state).slots) i) ∙ sym e ∙ f)

    pub open_none : (r : Reply) (state' : List ℕ) → found ≡ Err (record {}) → state' ≡ put_header state h → r ≡ record { answer = Refused NoFreeChannels; used = 0; written = 0 }
        → Leaves (agreed_in state) began 0 state out [] r state' rx store out []
    unfolding open_on
    open_none r state' f s q = stops-leaves state rx store h i out [] _ (Refused NoFreeChannels) 0 r state' (found-is (Err (record {})) f) s q

    module _ (ch : ChannelId) (f : found ≡ (Ok ch)) where
      pub open-large : (moved : Header) (r : Reply) (state' : List ℕ) → payload_limit < length destination → moved ≡ numbered h → state' ≡ put_header state moved
          → r ≡ record { answer = Refused PayloadTooLarge; used = 0; written = 0 } → Leaves (agreed_in state) began 0 state out [] r state' rx store out []
      unfolding open_on
      open-large moved r state' t m s q =
          stops-leaves state rx store moved (m ∙ ap numbered i) out [] _ (Refused PayloadTooLarge) 0 r state'
          (found-is (Ok ch) f ∙ cond-true (ltb payload_limit (length destination)) _ _ (lt-ltb payload_limit (length destination) t)) s q

      module _ (t : length destination ≤ payload_limit) where
        small : ltb payload_limit (length destination) ≡ false
        small = le-ltb payload_limit (length destination) t

        pub open-short : (r : Reply) → length out < 24 + length destination → r ≡ record { answer = Refused OutShort; used = 0; written = 0 }
            → Leaves (agreed_in state) began 0 state out [] r state rx store out []
        unfolding open_on
        open-short r u q =
            subst (λ (v : Outcome). Leaves (agreed_in state) v 0 state out [] r state rx store out [])
            (sym (found-is (Ok ch) f ∙ cond-false (ltb payload_limit (length destination)) _ _ small ∙ cond-true (ltb (length out) (24 + length destination)) _ _ (lt-ltb (length out) (24 + length destination) u)))
            (untouched-leaves (agreed_in state) lent₀ OutShort state out [] r q)

        pub open-sends : (moved later : Header) (r : Reply) (end : ℕ) (out' state' : List ℕ) → 24 + length destination ≤ length out
            → Puts out 0 (frame_bytes h.negotiated (open_frame ch.local (offered_credit h.negotiated) destination)) end out' → moved ≡ numbered h → later ≡ pending_for moved ch
            → state' ≡ put_header state later → r ≡ record { answer = Waiting; used = 0; written = end } → Leaves (agreed_in state) began 0 state out [] r state' rx store out' []
        unfolding open_on
        open-sends moved later r end out' state' u p m n s q =
            let z = open-long (agreed_in state) ch.local (offered_credit (agreed_in state)) destination in
            writes state rx store out h (ap (λ (x : Header). x.negotiated) i) _ (pending_for (numbered head₀) ch) later (open_frame ch.local (offered_credit (agreed_in state)) destination) Waiting 0 r end out' state'
            (found-is (Ok ch) f ∙ cond-false (ltb payload_limit (length destination)) _ _ small ∙ cond-false (ltb (length out) (24 + length destination)) _ _ (le-ltb (length out) (24 + length destination) u))
            (subst (λ (y : Header). Puts out 0 (frame_bytes h.negotiated (open_frame ch.local (offered_credit y.negotiated) destination)) end out') i p) (omega arith)
            (n ∙ ap (λ (y : Header). pending_for y ch) (m ∙ ap numbered i)) s q

module _ (state rx store out : List ℕ) (h : Header) (i : h ≡ (state_of state).header) where
  abbrev lent : Lent
  lent = lent_of state rx store

  abbrev head : Header
  head = (state_of state).header

  -- ---- what its steps are asked

  -- the packet that it looks at
  looked-at : (received : List ℕ) (r : Result Packet (Answer × ℕ)) → r ≡ received_by (decode_of received h.negotiated.config.max_payload) → r ≡ received_of lent received
  looked-at received r e = received_is state rx store h (ap (λ (x : Header). x.negotiated) i) received r e

  pub packet-fits : (received : List ℕ) (p : Packet) → received_of lent received ≡ Ok p → PacketRoom received h.negotiated.config.max_payload p
  packet-fits received p e = packet-room received h.negotiated.config.max_payload (received_by (decode_of received h.negotiated.config.max_payload)) p refl (looked-at received _ refl ∙ e)

  module _ (g : AdmitsState state (length out)) where
    facts : Whole h.negotiated h (state_of state).slots (state_of state).queue
    facts = subst (λ (x : Header). Whole x.negotiated x (state_of state).slots (state_of state).queue) (sym i) (admits-facts state (length out) g)

    pub open-limits : Within h.negotiated.config
    open-limits = facts.limits.within

    -- and filling the pending one
    pub open-place : is_ours h.pending.what ≡ true → (h.pending.slot < 64) × (state_len ≤ length state)
    open-place e =
        let m = open-limits.most-channels in
        let p = (facts.pending-open e).place in
        (omega arith, g.state-fits)

    -- what `act_on` asks
    pub open-room : (received payload : List ℕ) (p : Packet) → Long (agreed_in state) (length rx) (length store) → received_of lent received ≡ Ok p → payload ≡ body_of received p → ActRoom h state rx store out 0 payload
    open-room received payload p y e b =
        let l : Long h.negotiated (length rx) (length store) = subst (λ (x : Header). Long x.negotiated (length rx) (length store)) (sym i) y in
        let k = packet-fits received p e in
        let k₁ = k.body in
        let k₂ = k.small in
        let m = ap (λ (x : List ℕ). length x) b in
        let o = g.room in
        act-room h state rx store out payload 0 facts g.state-fits l (omega arith) (omega arith)

  -- ---- its OKAY

  module _ (received : List ℕ) (p : Packet) (ch : ChannelId) (c : ch ≡ pending_channel h) (payload : List ℕ) (b : payload ≡ body_of received p) (pol : RxPolicy)
      (l : pol ≡ policy_of h.negotiated) (opening : ChannelSlot) (m : opening ≡ opening_slot ch.local) (readied : Result ChannelSlot CreditFault)
      (d : readied ≡ opened_of opening (record { 0 = p.arg0 }) payload pol) where
    abbrev answered : Outcome
    answered = open_readied lent (pending_channel h) p.arg0 (frame_len p) (opened_of (opening_slot h.pending.local) (record { 0 = p.arg0 }) (body_of received p) (policy lent))

    readied-is : (x : Result ChannelSlot CreditFault) → readied ≡ x → answered ≡ open_readied lent (pending_channel h) p.arg0 (frame_len p) x
    readied-is x f =
        let k : pol ≡ policy lent = l ∙ ap (λ (y : Header). policy_of y.negotiated) i in
        let m₁ : opening ≡ opening_slot h.pending.local = m ∙ ap (λ (y : ChannelId). opening_slot y.local) c in
        let d₁ : readied ≡ opened_of (opening_slot h.pending.local) (record { 0 = p.arg0 }) (body_of received p) (policy lent) =
        d ∙ ap (λ (y : ChannelSlot). opened_of y (record { 0 = p.arg0 }) payload pol) m₁
        ∙ ap (λ (y : List ℕ). opened_of (opening_slot h.pending.local) (record { 0 = p.arg0 }) y pol) b
        ∙ ap (opened_of (opening_slot h.pending.local) (record { 0 = p.arg0 }) (body_of received p)) k in
        ap (open_readied lent (pending_channel h) p.arg0 (frame_len p)) (sym d₁ ∙ f)

    pub ready-fills : (t : ChannelSlot) (less : Header) (r : Reply) (state' : List ℕ) → readied ≡ Ok t → less ≡ dropped h → state' ≡ put_header (put_slot state ch.slot t) less
        → r ≡ record { answer = Opened ch; used = frame_len p; written = 0 } → Leaves (agreed_in state) answered 0 state out [] r state' rx store out []
    unfolding open_readied
    ready-fills t less r state' f j s q =
        let n = agreed_in state in
        let w = did-begun n 0 state out (dropped head) lent (omega arith) in
        let w₁ = did-slot n 0 state out _ _ _ _ _ _ w h.pending.slot t (put_slot state h.pending.slot t) refl in
        subst (λ (v : Outcome). Leaves n v 0 state out [] r state' rx store out []) (sym (readied-is (Ok t) f))
        (did-stops n 0 state out _ _ _ _ _ _ w₁ [] state' less (Opened (pending_channel h)) (frame_len p) r (j ∙ ap dropped i)
        (s ∙ ap (λ (y : ChannelId). put_header (put_slot state y.slot t) less) c)
        (q ∙ ap (λ (y : ChannelId). record { answer = Opened y; used = frame_len p; written = 0 }) c))

    pub ready-bad : (b : CreditFault) (r : Reply) (end : ℕ) (out' state' : List ℕ) → 56 ≤ length out → readied ≡ Err b
        → Puts out 0 (frame_bytes h.negotiated (close_frame (record { local = h.pending.local; remote = record { 0 = p.arg0 } }))) end out' → state' ≡ put_header state (dropped h)
        → r ≡ record { answer = Refused (BadCredit b); used = frame_len p; written = end } → Leaves (agreed_in state) answered 0 state out [] r state' rx store out' []
    unfolding open_readied
    ready-bad b r end out' state' u f w s q =
        let z = close-short (agreed_in state) (record { local = h.pending.local; remote = record { 0 = p.arg0 } }) in
        writes state rx store out h (ap (λ (x : Header). x.negotiated) i) _ (dropped head) (dropped h) (close_frame (record { local = h.pending.local; remote = record { 0 = p.arg0 } })) (Refused (BadCredit b)) (frame_len p) r end out' state'
        (readied-is (Err b) f) w (omega arith) (ap dropped i) s q

  -- ---- any other packet

  pub open-acts : (received : List ℕ) (p : Packet) (payload : List ℕ) (acted : ActedOn) (a : Answer) (later : Header) (r : Reply) (state₁ rx₁ store₁ out₁ state₂ : List ℕ)
      → payload ≡ body_of received p → ActsOn h.negotiated (act_on h (state_of state).slots (state_of state).queue rx store p payload) 0 state out acted state₁ rx₁ store₁ out₁
      → a ≡ unless_fault acted.fault Waiting → later ≡ still_pending a acted.header → state₂ ≡ put_header state₁ later → r ≡ record { answer = a; used = frame_len p; written = acted.end }
      → Leaves (agreed_in state) (open_acted lent (frame_len p) (act_on head (state_of state).slots (state_of state).queue rx store p (body_of received p))) 0 state out [] r state₂ rx₁ store₁ out₁ []
  unfolding open_acted
  open-acts received p payload acted a later r state₁ rx₁ store₁ out₁ state₂ b g u j s q =
      let n = agreed_in state in
      let act = act_on head (state_of state).slots (state_of state).queue rx store p (body_of received p) in
      let g₁ : ActsOn n act 0 state out acted state₁ rx₁ store₁ out₁ =
      subst (λ (x : List ℕ). ActsOn n (act_on head (state_of state).slots (state_of state).queue rx store p x) 0 state out acted state₁ rx₁ store₁ out₁) b
      (subst (λ (x : Header). ActsOn x.negotiated (act_on x (state_of state).slots (state_of state).queue rx store p payload) 0 state out acted state₁ rx₁ store₁ out₁) i g) in
      let a₁ : a ≡ unless_fault act.fault Waiting = u ∙ ap (λ x. unless_fault x Waiting) g₁.fault-is in
      let w = did-begun n 0 state out head lent (omega arith) in
      let w₁ = did-acted n 0 state out _ _ _ _ _ _ w act acted state₁ rx₁ store₁ out₁ g₁ in
      let w₂ : Did n (storing (then_acted (begun head lent) act) (still_pending (unless_fault act.fault Waiting) act.header)) 0 state out state₁ rx₁ store₁ out₁ acted.end =
      record { state-is = w₁.state-is; rx-is = w₁.rx-is; store_is = w₁.store_is; out-is = w₁.out-is; end_is = w₁.end_is; fits = w₁.fits } in
      did-stops n 0 state out _ _ _ _ _ _ w₂ [] state₂ later _ (frame_len p) r
      (j ∙ ap (λ (x : Answer). still_pending x acted.header) a₁ ∙ ap (still_pending (unless_fault act.fault Waiting)) g₁.header_is) s
      (q ∙ ap (λ (x : Answer). record { answer = x; used = frame_len p; written = acted.end }) a₁)

  -- ---- a packet, while an open is pending

  module _ (received : List ℕ) (p : Packet) where
    abbrev mine : Bool → Bool
    mine x = x && eqb p.arg1 h.pending.local.0

    -- the test of a packet's own command
    pub own_is : (t x y : Bool) (ch : ChannelId) → ch ≡ pending_channel h → x ≡ y → t ≡ (x && eqb p.arg1 ch.local.0) → t ≡ mine y
    own_is t x y ch c d e = test-is x t y p.arg1 ch.local.0 d e ∙ ap (λ (z : ChannelId). y && eqb p.arg1 z.local.0) c

    abbrev taken : Outcome
    taken = open_by lent (pending_channel h) received (Ok p)

    module _ (r : Reply) (state' rx' store' out' : List ℕ) where
      pub packet-ready : mine (is_ready p.command) ≡ true
          → Leaves (agreed_in state) (open_readied lent (pending_channel h) p.arg0 (frame_len p) (opened_of (opening_slot h.pending.local) (record { 0 = p.arg0 }) (body_of received p) (policy lent))) 0
          state out [] r state' rx' store' out' []
          → Leaves (agreed_in state) taken 0 state out [] r state' rx' store' out' []
      unfolding open_by
      packet-ready t g = subst (λ (v : Outcome). Leaves (agreed_in state) v 0 state out [] r state' rx' store' out' []) (sym (cond-true (mine (is_ready p.command)) _ _ t)) g

      pub packet-acts : mine (is_ready p.command) ≡ false → mine (is_write p.command) ≡ false → mine (is_close p.command) ≡ false
          → Leaves (agreed_in state) (open_acted lent (frame_len p) (act_on head (state_of state).slots (state_of state).queue rx store p (body_of received p))) 0 state out [] r state' rx' store' out' []
          → Leaves (agreed_in state) taken 0 state out [] r state' rx' store' out' []
      unfolding open_by
      packet-acts t u v g =
          subst (λ (x : Outcome). Leaves (agreed_in state) x 0 state out [] r state' rx' store' out' [])
          (sym (cond-false (mine (is_ready p.command)) _ _ t ∙ cond-false (mine (is_write p.command)) _ _ u ∙ cond-false (mine (is_close p.command)) _ _ v)) g

    -- a WRTE too early
    pub packet-early : (r : Reply) (end : ℕ) (out' state' : List ℕ) → 56 ≤ length out → mine (is_ready p.command) ≡ false → mine (is_write p.command) ≡ true
        → Puts out 0 (frame_bytes h.negotiated (close_frame (record { local = h.pending.local; remote = record { 0 = p.arg0 } }))) end out' → state' ≡ put_header state (dropped h)
        → r ≡ record { answer = Refused UnexpectedCommand; used = frame_len p; written = end } → Leaves (agreed_in state) taken 0 state out [] r state' rx store out' []
    unfolding open_by
    packet-early r end out' state' k t u w s q =
        let z = close-short (agreed_in state) (record { local = h.pending.local; remote = record { 0 = p.arg0 } }) in
        writes state rx store out h (ap (λ (x : Header). x.negotiated) i) _ (dropped head) (dropped h) (close_frame (record { local = h.pending.local; remote = record { 0 = p.arg0 } })) (Refused UnexpectedCommand) (frame_len p) r end out' state'
        (cond-false (mine (is_ready p.command)) _ _ t ∙ cond-true (mine (is_write p.command)) _ _ u) w (omega arith) (ap dropped i) s q

    -- a CLSE
    pub packet-closes : (less : Header) (r : Reply) (state' : List ℕ) → mine (is_ready p.command) ≡ false → mine (is_write p.command) ≡ false → mine (is_close p.command) ≡ true
        → less ≡ dropped h → state' ≡ put_header state less → r ≡ record { answer = Refused ChannelClosed; used = frame_len p; written = 0 }
        → Leaves (agreed_in state) taken 0 state out [] r state' rx store out []
    unfolding open_by
    packet-closes less r state' t u v j s q =
        stops-leaves state rx store less (j ∙ ap dropped i) out [] _ (Refused ChannelClosed) (frame_len p) r state'
        (cond-false (mine (is_ready p.command)) _ _ t ∙ cond-false (mine (is_write p.command)) _ _ u ∙ cond-true (mine (is_close p.command)) _ _ v) s q

  -- ---- an open goes on

  module _ (received : List ℕ) (found : Result Packet (Answer × ℕ)) (e : found ≡ received_by (decode_of received h.negotiated.config.max_payload)) where
    pub await-packet : (p : Packet) → found ≡ Ok p → received_of lent received ≡ Ok p
    await-packet p f = sym (looked-at received found e) ∙ f

    pub await-stops : (a : Answer) (used : ℕ) (later : Header) (r : Reply) (state' : List ℕ) → found ≡ Err (a, used) → later ≡ still_pending a h → state' ≡ put_header state later
        → r ≡ record { answer = a; used = used; written = 0 } → Leaves (agreed_in state) (open_by lent (pending_channel h) received (received_of lent received)) 0 state out [] r state' rx store out []
    unfolding open_by
    await-stops a used later r state' f j s q =
        stops-leaves state rx store later (j ∙ ap (still_pending a) i) out [] _ a used r state' (ap (open_by lent (pending_channel h) received) (sym (looked-at received found e) ∙ f)) s q

    pub await-goes : (p : Packet) (r : Reply) (state' rx' store' out' : List ℕ) → found ≡ Ok p
        → Leaves (agreed_in state) (open_by lent (pending_channel h) received (Ok p)) 0 state out [] r state' rx' store' out' []
        → Leaves (agreed_in state) (open_by lent (pending_channel h) received (received_of lent received)) 0 state out [] r state' rx' store' out' []
    await-goes p r state' rx' store' out' f g =
        subst (λ (x : Result Packet (Answer × ℕ)). Leaves (agreed_in state) (open_by lent (pending_channel h) received x) 0 state out [] r state' rx' store' out' []) (sym (await-packet p f)) g

  -- ---- the step

  module _ (destination received : List ℕ) (r : Reply) (state' rx' store' out' : List ℕ) where
    pub step_waits : is_ours h.pending.what ≡ true → Leaves (agreed_in state) (open_by lent (pending_channel h) received (received_of lent received)) 0 state out [] r state' rx' store' out' []
        → Leaves (agreed_in state) (open_step lent (length out) destination received) 0 state out [] r state' rx' store' out' []
    unfolding open_step
    step_waits t g =
        subst (λ (x : Outcome). Leaves (agreed_in state) x 0 state out [] r state' rx' store' out' [])
        (sym (cond-true (is_ours head.pending.what) _ _ (sym (ap (λ (x : Header). is_ours x.pending.what) i) ∙ t) ∙ sym (ap (λ (x : Header). open_by lent (pending_channel x) received (received_of lent received)) i))) g

    pub step-begins : is_ours h.pending.what ≡ false → Leaves (agreed_in state) (open_on lent (length out) destination (allocated head (state_of state).slots)) 0 state out [] r state' rx' store' out' []
        → Leaves (agreed_in state) (open_step lent (length out) destination received) 0 state out [] r state' rx' store' out' []
    unfolding open_step
    step-begins t g =
        subst (λ (x : Outcome). Leaves (agreed_in state) x 0 state out [] r state' rx' store' out' [])
        (sym (cond-false (is_ours head.pending.what) _ _ (sym (ap (λ (x : Header). is_ours x.pending.what) i) ∙ t))) g
