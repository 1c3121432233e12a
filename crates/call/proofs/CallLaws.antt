-- What the calls' functions cite: the definition's case, and what the lent bytes are then. Assumes nothing.
use mathlib.Core.Path.{◌≡◌, refl, sym, ap, subst, ◌∙◌}
use mathlib.Core.Bool.{Bool, ◌&&◌}
use mathlib.Core.List.{List, []}
use Prim.Native.Nat.{ℕ, ◌+◌, ◌≤◌}
use native.Mathlib.Omega.{arith}
use lib.Dec.{eqb}
use lib.ListN.{length}
use Rattle.config.specs.declared.negotiated.Negotiated.{Negotiated}
use Rattle.protocol.specs.declared.packet.Packet.{Packet}
use Rattle.protocol.specs.Packet.{decode_of}
use Rattle.slot.specs.declared.ChannelSlot.{ChannelSlot}
use Rattle.state.specs.declared.Header.{Header}
use Rattle.state.specs.State.{state_of, put_header}
use Rattle.table.specs.Table.{allocated}
use Rattle.connection.specs.declared.Answer.{Answer}
use Rattle.connection.specs.declared.Answer.TheVariants.{Done}
use Rattle.call.specs.declared.Reply.{Reply}
use Rattle.call.specs.declared.act.ActedOn.{ActedOn}
use Rattle.connection.specs.Act.{act_on}
use Rattle.connection.specs.Calls.{Lent, dropped, unless_fault, received_by, received_of, body_of, frame_len, dispatch_by, dispatch_step}
use Rattle.call.specs.Promise.{lent_of, agreed_in, Leaves, Admits, ActRoom, ActsOn}
use Rattle.call.proofs.AdmitLaws.{act-room, admits-state, admits-dropped, admits-stores}
use Rattle.connection.proofs.Decoding.{PacketRoom}
use Rattle.call.proofs.LeaveLaws.{did-begun, did-acted, did-stops, stops-leaves}
use Rattle.connection.proofs.WholeWork.{Long}
use Rattle.state_whole.proofs.WholeLaws.{Whole}
use Rattle.std.specs.Prelude.{Result, Ok, Err}

-- the packet that a call looks at
pub received_is : (state rx store : List ℕ) (h : Header) → h.negotiated ≡ agreed_in state → (received : List ℕ) (r : Result Packet (Answer × ℕ))
    → r ≡ received_by (decode_of received h.negotiated.config.max_payload) → r ≡ received_of (lent_of state rx store) received
unfolding received_of
received_is state rx store h i received r e = e ∙ ap (λ (x : Negotiated). received_by (decode_of received x.config.max_payload)) i

-- whether it is the call's own, as the code tests it
pub own_is : (t r c : Bool) (a b : ℕ) → t ≡ c → r ≡ (t && eqb a b) → r ≡ (c && eqb a b)
own_is t r c a b e f = f ∙ ap (λ (x : Bool). x && eqb a b) e

-- what is pending has no part in finding an empty slot
pub allocated-dropped : (h : Header) (ss : List ChannelSlot) → allocated (dropped h) ss ≡ allocated h ss
unfolding allocated
allocated-dropped h ss = refl

-- ---- a call that drops what is pending

module _ (state rx store out : List ℕ) (h : Header) (i : h ≡ dropped (state_of state).header) where
  abbrev lent : Lent
  lent = lent_of state rx store

  -- what `act_on` asks
  pub call-room : (received payload : List ℕ) (p : Packet) (at : ℕ) → Admits state rx store (length out) → PacketRoom received h.negotiated.config.max_payload p
      → payload ≡ body_of received p → at + 28 ≤ length out → ActRoom h state rx store out at payload
  call-room received payload p at g k e o =
      let f : Whole h.negotiated h (state_of state).slots (state_of state).queue =
      subst (λ (x : Header). Whole x.negotiated x (state_of state).slots (state_of state).queue) (sym i) (admits-dropped state (length out) (admits-state g)) in
      let l : Long h.negotiated (length rx) (length store) = subst (λ (x : Header). Long x.negotiated (length rx) (length store)) (sym i) (admits-stores g) in
      let b = k.body in
      let s = k.small in
      let m = ap (λ (x : List ℕ). length x) e in
      act-room h state rx store out payload at f g.state-fits l (omega arith) o

  -- ---- dispatch

  module _ (received : List ℕ) (found : Result Packet (Answer × ℕ)) (e : found ≡ received_by (decode_of received h.negotiated.config.max_payload)) where
    packet-is : found ≡ received_of lent received
    packet-is = received_is state rx store h (ap (λ (x : Header). x.negotiated) i) received found e

    pub dispatch-stops : (a : Answer) (used : ℕ) (r : Reply) (state' : List ℕ) → found ≡ Err (a, used) → state' ≡ put_header state h → r ≡ record { answer = a; used = used; written = 0 }
        → Leaves (agreed_in state) (dispatch_step lent received) 0 state out [] r state' rx store out []
    unfolding dispatch_step dispatch_by
    dispatch-stops a used r state' f s q =
        stops-leaves state rx store h i out [] _ a used r state' (ap (dispatch_by lent (dropped (state_of state).header) received) (sym packet-is ∙ f)) s q

    pub dispatch-acts : (p : Packet) (payload : List ℕ) (acted : ActedOn) (a : Answer) (r : Reply) (state₁ rx₁ store₁ out₁ state₂ : List ℕ) → found ≡ Ok p → payload ≡ body_of received p
        → ActsOn h.negotiated (act_on h (state_of state).slots (state_of state).queue rx store p payload) 0 state out acted state₁ rx₁ store₁ out₁
        → a ≡ unless_fault acted.fault Done → state₂ ≡ put_header state₁ acted.header → r ≡ record { answer = a; used = frame_len p; written = acted.end }
        → Leaves (agreed_in state) (dispatch_step lent received) 0 state out [] r state₂ rx₁ store₁ out₁ []
    unfolding dispatch_step dispatch_by
    dispatch-acts p payload acted a r state₁ rx₁ store₁ out₁ state₂ f b g u s q =
        let hd = dropped (state_of state).header in
        let n = agreed_in state in
        let act = act_on hd (state_of state).slots (state_of state).queue rx store p (body_of received p) in
        let g₁ : ActsOn n act 0 state out acted state₁ rx₁ store₁ out₁ =
        subst (λ (x : List ℕ). ActsOn n (act_on hd (state_of state).slots (state_of state).queue rx store p x) 0 state out acted state₁ rx₁ store₁ out₁) b
        (subst (λ (x : Header). ActsOn x.negotiated (act_on x (state_of state).slots (state_of state).queue rx store p payload) 0 state out acted state₁ rx₁ store₁ out₁) i g) in
        let w = did-begun n 0 state out hd lent (omega arith) in
        let w₁ = did-acted n 0 state out _ _ _ _ _ _ w act acted state₁ rx₁ store₁ out₁ g₁ in
        subst (λ (x : Result Packet (Answer × ℕ)). Leaves n (dispatch_by lent hd received x) 0 state out [] r state₂ rx₁ store₁ out₁ []) (sym f ∙ packet-is)
        (did-stops n 0 state out _ _ _ _ _ _ w₁ [] state₂ acted.header _ (frame_len p) r g₁.header_is s
        (q ∙ ap (λ (x : Answer). record { answer = x; used = frame_len p; written = acted.end }) (u ∙ ap (λ x. unless_fault x Done) g₁.fault-is)))
