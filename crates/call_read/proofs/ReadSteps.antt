-- The steps of a read, from its first settling to the packet that it looks at. Assumes nothing.
use mathlib.Core.Path.{◌≡◌, refl, sym, ap, subst, ◌∙◌}
use mathlib.Core.Bool.{Bool, true, false, true≢false, cond}
use mathlib.Core.List.{List, [], ◌∷◌, ◌++◌, append_assoc, append-nil}
use Prim.Native.Nat.{ℕ, ◌*◌}
use native.Mathlib.Omega.{arith}
use lib.ListN.{length, set}
use Rattle.le.proofs.Parts.{length-put}
use Rattle.config.specs.declared.negotiated.Negotiated.{Negotiated}
use Rattle.config.specs.Negotiated.{policy_of}
use Rattle.protocol.specs.declared.packet.Packet.{Packet}
use Rattle.protocol.specs.Packet.{decode_of, Puts}
use Rattle.slot.specs.declared.ChannelSlot.{ChannelSlot}
use Rattle.slot.specs.declared.Settled.{Settled as SettledSlot}
use Rattle.slot.specs.Ids.{closed_by}
use Rattle.slot.specs.Slot.{settled_of, taken_of, SlotOk}
use Rattle.slot.proofs.Laws.{cond-true, cond-false}
use Rattle.state.specs.declared.Header.{Header}
use Rattle.state.specs.Change.{slot_to, changed_all}
use Rattle.state.specs.State.{state_of, slot_at, put_slot, put_header}
use Rattle.table.specs.declared.ChannelId.{ChannelId}
use Rattle.table.specs.Table.{slot_in}
use Rattle.rx_store.proofs.ShareLaws.{share_in}
use Rattle.connection.specs.declared.Answer.{Answer}
use Rattle.connection.specs.declared.Answer.TheVariants.{Refused}
use Rattle.connection.specs.declared.Refusal.TheVariants.{ChannelClosed}
use Rattle.call.specs.declared.Reply.{Reply}
use Rattle.connection.specs.Act.{Acted, act_on}
use Rattle.connection.specs.Calls.{Lent, Outcome, Work, begun, then, then_acted, ends, dropped, policy, ids_in, is_there, slot_for, ack_frames, unless_fault, received_by, received_of, body_of, frame_len, reread, read_settled, read_acted, is_direct, read_direct, read_by, read_taken, read_first, read_step}
use Rattle.connection.specs.Frames.{Frame, frames_bytes}
use Rattle.call.specs.Promise.{lent_of, agreed_in, Leaves, Admits}
use Rattle.call_read.specs.Promise.{again_of, is_nothing, TakeRoom, Empty, Looks}
use Rattle.call.proofs.AdmitLaws.{admits-state, admits-facts, admits-stores}
use Rattle.call.proofs.CallLaws.{received_is}
use Rattle.call.proofs.FrameLaws.{ack-room}
use Rattle.call.proofs.LeaveLaws.{did-begun, did-frames, did-slot, did-stops, Behind, leaves-on}
use Rattle.call_read.proofs.LookLaws.{look-live}
use Rattle.call.proofs.ThereLaws.{place-fits, slot_is, lives}
use Rattle.slot.specs.declared.ChannelFault.{ChannelFault}
use Rattle.std.specs.Prelude.{Option, Some, None, Result, Ok, Err}
use Rattle.slot.specs.declared.ChannelError.{ChannelError}

-- ---- what the first settling wrote stands before all else

module _ (l : Lent) (ch : ChannelId) (room : ℕ) (h : Header) (fs : List Frame) (s : ChannelSlot) (received : List ℕ) where
  abbrev w : Work
  w = then (begun h l) [] fs

  frames-after : (gs ks : List Frame) → fs ++ [] ++ gs ++ ks ++ [] ≡ fs ++ (gs ++ ks ++ [])
  frames-after gs ks = simp (append_assoc, append-nil)

  reread-after : (used : ℕ) (fault : Option ChannelFault) (a : Acted) (t : SettledSlot) (x : Result (Option (ChannelSlot × ℕ)) ChannelError)
      → Behind w (reread ch (policy l).rx_cap used fault (then (then_acted (then w (slot_to ch.slot s ∷ []) []) a) [] (ack_frames t.slot t.ack)) t.slot x)
      (reread ch (policy l).rx_cap used fault (then (then_acted (then (begun h l) (slot_to ch.slot s ∷ []) []) a) [] (ack_frames t.slot t.ack)) t.slot x)
  unfolding reread ends
  reread-after used fault a t (Ok (Some (u, k))) = record { answer = refl; used = refl; frames = frames-after a.frames (ack_frames t.slot t.ack); handed = refl; changes = refl; rx = refl; store = refl }
  reread-after used fault a t (Ok None) =
      record { answer = refl; used = refl; frames = frames-after a.frames (ack_frames t.slot t.ack); handed = refl; changes = refl; rx = refl; store = refl }
  reread-after used fault a t (Err e) =
      record { answer = refl; used = refl; frames = frames-after a.frames (ack_frames t.slot t.ack); handed = refl; changes = refl; rx = refl; store = refl }

  pub read_behind : (x : Result Packet (Answer × ℕ)) → Behind w (read_by l ch room w s received x) (read_by l ch room (begun h l) s received x)
  unfolding read_by read_direct read_acted read_settled ends
  read_behind (Err (a, used)) = record { answer = refl; used = refl; frames = refl; handed = refl; changes = refl; rx = refl; store = refl }
  read_behind (Ok p) =
      let a = act_on h (set l.state.slots ch.slot s) l.state.queue l.rx l.store p (body_of received p) in
      let again = settled_of (slot_in (changed_all l.state (slot_to ch.slot s ∷ a.changes)).slots ch.slot) (policy l) room in
      both (is_direct s room p) (λ t. record { answer = refl; used = refl; frames = refl; handed = refl; changes = refl; rx = refl; store = refl })
      (λ t. both (closed_by (ids_in s) p) (λ u. record { answer = refl; used = refl; frames = refl; handed = refl; changes = refl; rx = refl; store = refl })
      (λ u. reread-after (frame_len p) a.fault a again (taken_of again.slot room)))
    where
      both : (t : Bool) {x y x' y' : Outcome} → (t ≡ true → Behind w x x') → (t ≡ false → Behind w y y') → Behind w (cond t x y) (cond t x' y')
      both true f g = f refl
      both false f g = g refl

  -- where something was there, no packet is looked at
  pub taken_is : (x : Result (Option (ChannelSlot × ℕ)) ChannelError) → is_nothing x ≡ false → reread ch (policy l).rx_cap 0 None w s x ≡ read_taken l ch room w s received x
  unfolding reread read_taken unless_fault
  taken_is (Ok (Some (t, k))) e = refl
  taken_is (Ok None) e = absurd (true≢false e)
  taken_is (Err e₁) e = refl

-- ---- the packet

module _ (state rx store out : List ℕ) (h : Header) (ch : ChannelId) (s : ChannelSlot) (room at : ℕ) (a : Admits state rx store (length out)) (k : Looks (lent_of state rx store) h ch s room at)
    (received : List ℕ) (found : Result Packet (Answer × ℕ)) (e : found ≡ received_by (decode_of received h.negotiated.config.max_payload)) where
  pub found-is : (x : Result Packet (Answer × ℕ)) → found ≡ x → received_of (lent_of state rx store) received ≡ x
  found-is x f = sym (received_is state rx store h (ap (λ (y : Header). y.negotiated) k.header_is) received found e) ∙ f

  pub look-stops : (ans : Answer) (used : ℕ) (buf : List ℕ) (rep : Reply) (state' : List ℕ) → found ≡ Err (ans, used) → state' ≡ put_header (put_slot state ch.slot s) h
      → rep ≡ record { answer = ans; used = used; written = at }
      → Leaves (agreed_in state) (read_by (lent_of state rx store) ch room (begun h (lent_of state rx store)) s received (received_of (lent_of state rx store) received)) at state out buf rep state' rx store out buf
  unfolding read_by
  look-stops ans used buf rep state' f g r =
      let n = agreed_in state in
      let l = lent_of state rx store in
      let small = k.at_small in
      let big = a.room in
      let w = did-slot n at state out (begun h l) state rx store out at (did-begun n at state out h l (omega arith)) ch.slot s (put_slot state ch.slot s) refl in
      subst (λ (x : Result Packet (Answer × ℕ)). Leaves n (read_by l ch room (begun h l) s received x) at state out buf rep state' rx store out buf) (sym (found-is (Err (ans, used)) f))
      (did-stops n at state out _ _ _ _ _ _ w buf state' h ans used rep refl g r)

  pub look-found : (p : Packet) (buf : List ℕ) (rep : Reply) (state' rx' store' out' buf' : List ℕ) → found ≡ Ok p
      → Leaves (agreed_in state) (read_by (lent_of state rx store) ch room (begun h (lent_of state rx store)) s received (Ok p)) at state out buf rep state' rx' store' out' buf'
      → Leaves (agreed_in state) (read_by (lent_of state rx store) ch room (begun h (lent_of state rx store)) s received (received_of (lent_of state rx store) received)) at state out buf rep state' rx' store' out' buf'
  look-found p buf rep state' rx' store' out' buf' f q =
      let l = lent_of state rx store in
      subst (λ (x : Result Packet (Answer × ℕ)). Leaves (agreed_in state) (read_by l ch room (begun h l) s received x) at state out buf rep state' rx' store' out' buf') (sym (found-is (Ok p) f)) q

-- ---- the first settling and taking

module _ (state rx store out : List ℕ) (h : Header) (ch : ChannelId) (buf received : List ℕ) (a : Admits state rx store (length out)) (hi : h ≡ dropped (state_of state).header)
    (there : is_there (lent_of state rx store) ch ≡ true) where
  abbrev l : Lent
  l = lent_of state rx store

  abbrev n : Negotiated
  n = agreed_in state

  abbrev room : ℕ
  room = length buf

  same-agreed : h.negotiated ≡ n
  same-agreed = ap (λ (x : Header). x.negotiated) hi

  -- what is settled, as the code has it and as the definition has it
  abbrev S₀ : SettledSlot
  S₀ = settled_of (slot_at state ch.slot) (policy_of h.negotiated) room

  abbrev S : SettledSlot
  S = settled_of (slot_for l ch) (policy_of n) room

  settled_is : S₀ ≡ S
  settled_is = ap (λ (x : Negotiated). settled_of (slot_at state ch.slot) (policy_of x) room) same-agreed ∙ ap (λ (x : ChannelSlot). settled_of x (policy_of n) room) (slot_is state rx store h hi (length out) (admits-state a) ch there)

  pub first-room : TakeRoom h.negotiated state rx out ch.slot 0 room
  first-room =
      let v = lives state rx store h hi (length out) (admits-state a) ch there in
      let big = a.room in
      let st = admits-stores a in
      let sh = share_in ch.slot n.config.channels (2 * (policy_of n).rx_cap) (length rx) v.place st.rx-long in
      subst (λ (x : Negotiated). TakeRoom x state rx out ch.slot 0 room) (sym same-agreed)
      (record {
        within = (admits-facts state (length out) (admits-state a)).limits.within;
        state-fits = a.state-fits;
        place-fits = place-fits state rx store h hi (length out) (admits-state a) ch there;
        sound = subst (λ (x : ChannelSlot). SlotOk x (policy_of n).rx_cap) (sym (slot_is state rx store h hi (length out) (admits-state a) ch there)) v.ok;
        share-fits = sh;
        at-fits = omega arith;
        ack-fits = λ e. omega arith;
      })

  -- something was there
  pub first-replied : (rep : Reply) (state' out' buf' : List ℕ)
      → (is_nothing (taken_of S₀.slot room) ≡ false) × Leaves h.negotiated (again_of l h ch room 0 None S₀) 0 state out buf rep state' rx store out' buf'
      → Leaves n (read_first l ch room received S) 0 state out buf rep state' rx store out' buf'
  unfolding read_first again_of
  first-replied rep state' out' buf' q =
      let fs = ack_frames S.slot S.ack in
      let e₁ = ap (λ (x : SettledSlot). is_nothing (taken_of x.slot room)) (sym settled_is) ∙ q.0 in
      let q₁ = subst (λ (x : SettledSlot). Leaves h.negotiated (again_of l h ch room 0 None x) 0 state out buf rep state' rx store out' buf') settled_is q.1 in
      let q₂ : Leaves n (again_of l (dropped (state_of state).header) ch room 0 None S) 0 state out buf rep state' rx store out' buf' =
      subst (λ (x : Header). Leaves x.negotiated (again_of l x ch room 0 None S) 0 state out buf rep state' rx store out' buf') hi q₁ in
      subst (λ (x : Outcome). Leaves n x 0 state out buf rep state' rx store out' buf') (taken_is l ch room (dropped (state_of state).header) fs S.slot received (taken_of S.slot room) e₁) q₂

  module _ (t : ChannelSlot) (end : ℕ) (state₁ out₁ buf₁ : List ℕ) (g : Empty h.negotiated S₀ room 0 state out buf t end state₁ out₁ buf₁) where
    out-length : length out₁ ≡ length out
    out-length = let z = g.puts.end_is in let f = g.fits in ap (λ (x : List ℕ). length x) g.puts.out-is ∙ length-put out 0 (frames_bytes h.negotiated (ack_frames S₀.slot S₀.ack)) (omega arith)

    -- nothing was there: what looking at a packet asks
    pub first-looks : Admits state₁ rx store (length out₁) × Looks (lent_of state₁ rx store) h ch t (length buf₁) end
    first-looks =
        let z = g.puts.end_is in
        let m = ack-room h.negotiated S₀.slot S₀.ack 0 28 (omega arith) (λ e. omega arith) in (
          subst (λ (x : List ℕ). Admits x rx store (length out₁)) (sym g.state-is) (subst (λ (x : ℕ). Admits state rx store x) (sym out-length) a),
          subst (λ (x : List ℕ). Looks (lent_of x rx store) h ch t (length buf₁) end) (sym g.state-is)
              (subst (λ (x : List ℕ). Looks l h ch t (length x) end) (sym g.buf-is)
              (record {
                header_is = hi;
                there = there;
                slot_is = g.slot_is ∙ ap (λ (x : SettledSlot). x.slot) settled_is;
                nothing = ap (λ (x : ChannelSlot). taken_of x room) g.slot_is ∙ g.nothing;
                at_small = omega arith;
              })),
        )

    pub first_more : (rep : Reply) (state' rx' store' out' buf' : List ℕ)
        → Leaves (agreed_in state₁) (read_by (lent_of state₁ rx store) ch (length buf₁) (begun h (lent_of state₁ rx store)) t received (received_of (lent_of state₁ rx store) received)) end state₁ out₁ buf₁ rep
        state' rx' store' out' buf'
        → Leaves n (read_first l ch room received S) 0 state out buf rep state' rx' store' out' buf'
    unfolding read_first read_taken
    first_more rep state' rx' store' out' buf' q =
        let hd = dropped (state_of state).header in
        let fs = ack_frames S.slot S.ack in
        let k = first-looks.1 in
        let q₁ = subst (λ (x : List ℕ). Leaves (agreed_in x) (read_by (lent_of x rx store) ch (length buf₁) (begun h (lent_of x rx store)) t received (received_of (lent_of x rx store) received)) end x out₁ buf₁ rep state' rx' store' out' buf') g.state-is q in
        let q₂ = subst (λ (x : List ℕ). Leaves n (read_by l ch (length x) (begun h l) t received (received_of l received)) end state out₁ x rep state' rx' store' out' buf') g.buf-is q₁ in
        let te = g.slot_is ∙ ap (λ (x : SettledSlot). x.slot) settled_is in
        let q₃ = subst (λ (x : ChannelSlot). Leaves n (read_by l ch room (begun h l) x received (received_of l received)) end state out₁ buf rep state' rx' store' out' buf') te q₂ in
        let q₄ : Leaves n (read_by l ch room (begun hd l) S.slot received (received_of l received)) end state out₁ buf rep state' rx' store' out' buf' =
        subst (λ (x : Header). Leaves n (read_by l ch room (begun x l) S.slot received (received_of l received)) end state out₁ buf rep state' rx' store' out' buf') hi q₃ in
        let p : Puts out 0 (frames_bytes n fs) end out₁ =
        subst (λ (x : SettledSlot). Puts out 0 (frames_bytes n (ack_frames x.slot x.ack)) end out₁) settled_is
        (subst (λ (x : Negotiated). Puts out 0 (frames_bytes x (ack_frames S₀.slot S₀.ack)) end out₁) same-agreed g.puts) in
        let z = p.end_is in
        let f = g.fits in
        let d = did-frames n 0 state out (begun hd l) state rx store out 0 (did-begun n 0 state out hd l (omega arith)) fs out₁ end p (omega arith) in
        let none = ap (λ (x : SettledSlot). taken_of x.slot room) (sym settled_is) ∙ g.nothing in
        let remote : S.slot.has_remote ≡ true = subst (λ (x : ChannelSlot). x.has_remote ≡ true) te (look-remote state₁ out₁ first-looks.0 k) in
        subst (λ (x : Result (Option (ChannelSlot × ℕ)) ChannelError). Leaves n (read_taken l ch room (then (begun hd l) [] fs) S.slot received x) 0 state out buf rep state' rx' store' out' buf') (sym none)
        (subst (λ (x : Outcome). Leaves n x 0 state out buf rep state' rx' store' out' buf') (sym (cond-true S.slot.has_remote _ _ remote))
        (leaves-on n (then (begun hd l) [] fs) _ _ 0 state out state rx store out₁ end buf rep state' rx' store' out' buf' d (read_behind l ch room hd fs S.slot received (received_of l received)) q₄))
      where
        look-remote : (x y : List ℕ) → Admits x rx store (length y) → Looks (lent_of x rx store) h ch t (length buf₁) end → t.has_remote ≡ true
        look-remote x y b k = (look-live x rx store y h ch t (length buf₁) end b k).remote

-- ---- a channel that is there, or not

pub step-reads : (state rx store out : List ℕ) (h : Header) (ch : ChannelId) (buf received : List ℕ) (rep : Reply) (state' rx' store' out' buf' : List ℕ) → is_there (lent_of state rx store) ch ≡ true
    → Leaves (agreed_in state) (read_first (lent_of state rx store) ch (length buf) received (settled_of (slot_for (lent_of state rx store) ch) (policy_of (agreed_in state)) (length buf))) 0 state out buf rep
    state' rx' store' out' buf'
    → Leaves (agreed_in state) (read_step (lent_of state rx store) ch (length buf) received) 0 state out buf rep state' rx' store' out' buf'
unfolding read_step
step-reads state rx store out h ch buf received rep state' rx' store' out' buf' t q =
    subst (λ (x : Outcome). Leaves (agreed_in state) x 0 state out buf rep state' rx' store' out' buf') (sym (cond-true (is_there (lent_of state rx store) ch) _ _ t)) q

pub step-closed : (state rx store : List ℕ) (ch : ChannelId) (room : ℕ) (received : List ℕ) → is_there (lent_of state rx store) ch ≡ false
    → read_step (lent_of state rx store) ch room received ≡ ends (begun (dropped (state_of state).header) (lent_of state rx store)) (Refused ChannelClosed) 0 []
unfolding read_step
step-closed state rx store ch room received t = cond-false (is_there (lent_of state rx store) ch) _ _ t
