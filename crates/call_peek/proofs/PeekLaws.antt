-- What looking answers is what a dispatch would. Assumes nothing.
use mathlib.Core.Path.{◌≡◌, refl, sym, ap, subst, ◌∙◌}
use mathlib.Core.Bool.{Bool, true, false, cond}
use mathlib.Core.List.{List, [], ◌∷◌}
use Prim.Native.Nat.{ℕ, ◌≤◌, ◌<◌}
use native.Mathlib.Omega.{arith}
use lib.Dec.{ltb}
use lib.ListN.{length, replicate, length-replicate}
use borrow.Author.Tests.{eq-eqb, lt-ltb, le-ltb}
use Rattle.le.specs.Le.{Bytes}
use Rattle.config.specs.declared.negotiated.RxPolicy.{RxPolicy}
use Rattle.config.specs.Config.{Within}
use Rattle.config.specs.Negotiated.{policy_of}
use Rattle.protocol.specs.declared.packet.Packet.{Packet}
use Rattle.protocol.specs.Packet.{decode_of}
use Rattle.slot.specs.declared.ChannelFault.{ChannelFault}
use Rattle.slot.specs.declared.ChannelSlot.{ChannelSlot}
use Rattle.slot.specs.Slot.{SlotOk}
use Rattle.slot.proofs.Kept.{pick}
use Rattle.slot.proofs.Laws.{cond-false}
use Rattle.le.proofs.RowLaws.{every_append}
use Rattle.state.specs.declared.Header.{Header}
use Rattle.state.specs.declared.PendingOpen.{PendingOpen}
use Rattle.state.specs.Change.{header_to}
use Rattle.connection.specs.Act.{act_on}
use Rattle.state.specs.State.{Connection, state_of, slot_at}
use Rattle.state_whole.specs.Whole.{is_whole}
use Rattle.state_whole.proofs.WholeLaws.{Live, Whole}
use Rattle.table.specs.Table.{wanted_by, slot_in}
use Rattle.table_dispatch.specs.Dispatch.{Walks}
use Rattle.table_dispatch.proofs.DispatchLaws.{slot-here}
use Rattle.connection.specs.declared.Answer.{Answer}
use Rattle.connection.specs.declared.Answer.TheVariants.{Done, Refused}
use Rattle.connection.specs.declared.Refusal.{Refusal}
use Rattle.connection.specs.declared.Refusal.TheVariants.{StoreShort, OutShort, BrokenState}
use Rattle.connection.specs.Calls.{Lent, Outcome, untouched, checked, checked_out, ends, dropped, unless_fault, received_by, received_of, body_of, dispatch_by, dispatch_step, dispatch_outcome}
use Rattle.call.specs.Promise.{lent_of, agreed_in, admitted, AdmitsState}
use Rattle.call.proofs.AdmitLaws.{admits-facts, admits-state}
use Rattle.call.proofs.LeaveLaws.{goes-admits}
use Rattle.call.proofs.WideLaws.{wide-goes}
use Rattle.call_peek.specs.declared.PacketFor.{PacketFor}
use Rattle.call_peek.specs.declared.Preview.{Preview}
use Rattle.call_peek.specs.Promise.{no_packet, place_for, is_for_open, channel_or_open, received_for, admitted_for, peek_for, dispatched, peeked, Tells, AsDispatch, InTable}
use Rattle.call_peek.specs.Parts.{peeked_as, peeked_by, Channels, Peeking}
use Rattle.call_peek.proofs.OtherLaws.{Only, act-only, others-stay}
use Rattle.call_peek.proofs.PartLaws.{Found, place-live, act-fault}
use Rattle.std.specs.Prelude.{IfSome, Option, Some, None, Result, Ok, Err}

if-some : (P Q : ℕ → Type 0) → ((i : ℕ) → P i → Q i) → (r : Option ℕ) → IfSome r P → IfSome r Q
if-some P Q f (Some i) k = f i k
if-some P Q f None k = tt

-- ---- what the functions ask

module _ (state : List ℕ) (h : Header) (g : Peeking state h) where
  whole-here : Whole h.negotiated h (state_of state).slots (state_of state).queue
  whole-here = subst (λ (x : Header). Whole x.negotiated x (state_of state).slots (state_of state).queue) (sym g.1) (admits-facts state 56 g.0)

  pub limits : Within h.negotiated.config
  limits = whole-here.limits.within

  pub walks : Walks state h.negotiated.config.channels
  walks = record { state-fits = g.0.state-fits; channels-fit = limits.most-channels }

  module _ (q : Packet) (place : Option ℕ) (e : place ≡ place_for h.negotiated.config.channels (state_of state).slots q) where
    here : IfSome place (Found h.negotiated (state_of state).slots)
    here =
        subst (λ (r : Option ℕ). IfSome r (Found h.negotiated (state_of state).slots)) (sym e)
        (place-live h (state_of state).slots (state_of state).queue whole-here q)

    near : (i : ℕ) → Live h.negotiated i (slot_in (state_of state).slots i) → i < 64
    near i v = let k = limits.most-channels in let l = v.place in omega arith

    pub place-near : IfSome place (λ i. i < 64)
    place-near = if-some _ (λ i. i < 64) near place here

    pub place-sound : (p : RxPolicy) → p ≡ policy_of h.negotiated → Channels state place p.rx_cap
    place-sound p f =
        record {
          state-fits = g.0.state-fits;
          place-fits = place-near;
          sound = if-some _ (λ i. SlotOk (slot_at state i) p.rx_cap)
              (λ i v. subst (λ (s : ChannelSlot). SlotOk s p.rx_cap) (slot-here state i (near i v))
              (subst (λ (x : RxPolicy). SlotOk (slot_in (state_of state).slots i) x.rx_cap) (sym f) v.ok)) place here;
        }

-- ---- an admitted call

module _ (l : Lent) (g : Whole l.state.header.negotiated l.state.header l.state.slots l.state.queue) (received : List ℕ) where
  tells-as : (r : Result Packet (Answer × ℕ)) → Tells l.state (dispatch_by l (dropped l.state.header) received r) (peeked_as l.state received r)
  unfolding dispatch_by ends peeked_as
  tells-as (Err (a, used)) = record { answer-is = refl; used-is = refl; others_stay = λ i e. refl }
  tells-as (Ok p) =
      let h = l.state.header in
      let a = act_on (dropped h) l.state.slots l.state.queue l.rx l.store p (body_of received p) in
      let only = every_append (Only _) a.changes (header_to a.header ∷ [])
      (act-only (dropped h) l.state.slots l.state.queue l.rx l.store (body_of received p) p) (tt, tt) in
      record {
        answer-is = ap (λ (f : Option ChannelFault). unless_fault f Done)
            (sym (act-fault h l.state.slots l.state.queue g (dropped h) refl l.state.queue l.rx l.store _ p));
        used-is = refl;
        others_stay = others-stay l.state h.pending p _ _ only;
      }

  step-tells : Tells l.state (dispatch_step l received) (peeked_by l.state received)
  unfolding dispatch_step received_of peeked_by
  step-tells = tells-as (received_by (decode_of received l.state.header.negotiated.config.max_payload))

for-as : (d : Connection) (received : List ℕ) (r : Result Packet (Answer × ℕ)) → (peeked_as d received r).is_for ≡ received_for d r
unfolding peeked_as received_for
for-as d received (Err (a, used)) = refl
for-as d received (Ok p) = refl

-- ---- a channel that is told is in the table

module _ (state received : List ℕ) (g : AdmitsState state 56) where
  abbrev own : Connection
  own = state_of state

  told : (w : PendingOpen) (q : Packet) (place : Option ℕ) → IfSome place (Found (agreed_in state) own.slots) → InTable state (channel_or_open own.slots w q place)
  unfolding channel_or_open wanted_by
  told w q (Some i) v =
      let s = slot_in own.slots i in
      rw (lt-ltb i (agreed_in state).config.channels v.place, v.filled, eq-eqb s.local.0 s.local.0 refl) refl
  told w q None v = pick (InTable state) (is_for_open w q) (λ t. tt) (λ t. tt)

  told-as : (r : Result Packet (Answer × ℕ)) → InTable state (peeked_as own received r).is_for
  unfolding peeked_as
  told-as (Err (a, used)) = tt
  told-as (Ok p) = told own.header.pending p _ (place-live own.header own.slots own.queue (admits-facts state 56 g) p)

  pub in-table : (r : Preview) → r ≡ peeked_by own received → InTable state r.is_for
  unfolding peeked_by
  in-table r z = subst (λ (v : Preview). InTable state v.is_for) (sym z) (told-as _)

-- ---- the call

preview-is : (r : Preview) (a : Answer) (used : ℕ) (is_for : PacketFor)
    → r.answer ≡ a → r.used ≡ used → r.is_for ≡ is_for → r ≡ record { answer = a; used = used; is_for = is_for }
preview-is r a used is_for e f g =
    ap (λ (x : Answer). record { answer = x; used = r.used; is_for = r.is_for }) e ∙ ap (λ (x : ℕ). record { answer = a; used = x; is_for = r.is_for }) f
    ∙ ap (λ (x : PacketFor). record { answer = a; used = used; is_for = x }) g

-- the refusals ahead of every step, as `admit` tells them
abbrev checked_by : Lent → Outcome → Result Header Refusal → Outcome
checked_by l o (Ok h) = o
checked_by l o (Err x) = untouched l x

checked-as : (whole fit : Bool) (l : Lent) (o : Outcome) (h : Header) → cond whole (cond fit o (untouched l StoreShort)) (untouched l BrokenState)
    ≡ checked_by l o (cond whole (cond fit (Ok h) (Err StoreShort)) (Err BrokenState))
checked-as true true l o h = refl
checked-as true false l o h = refl
checked-as false fit l o h = refl

module _ (state received : List ℕ) (rx store : ℕ) (a : Result Header Refusal) (e : a ≡ admitted state rx store) where
  -- stores of these lengths
  module _ (rx₀ store₀ : List ℕ) (m : length rx₀ ≡ rx) (k : length store₀ ≡ store) where
    abbrev lent : Lent
    lent = lent_of state rx₀ store₀

    admits : a ≡ admitted state (length rx₀) (length store₀)
    admits = e ∙ ap (λ (x : ℕ). admitted state x store) (sym m) ∙ ap (λ (x : ℕ). admitted state (length rx₀) x) (sym k)

    tells : (x : Result Header Refusal) → a ≡ x → (out : ℕ) → 56 ≤ out → (r : Preview)
        → Tells (state_of state) (checked_by lent (dispatch_step lent received) x) r
        → Tells (state_of state) (dispatched state rx₀ store₀ out received) r
    unfolding dispatch_outcome checked_out checked admitted
    tells x f out o r s =
        let step = dispatch_step lent received in
        let long = cond-false (ltb out 56) (untouched lent OutShort) step (le-ltb out 56 o) in
        subst (λ (y : Outcome). Tells (state_of state) y r)
        (sym (ap (checked (is_whole state) lent) long ∙ checked-as (is_whole state) _ lent step _ ∙ ap (checked_by lent step) (sym admits ∙ f))) s

  -- all that it promises
  whole-is : (r : Preview) → AsDispatch state rx store received r → r.is_for ≡ peek_for state rx store received → r ≡ peeked state rx store received
  unfolding peeked
  whole-is r f g =
      let s = f (replicate rx 0) (replicate store 0) 56 (length-replicate rx 0) (length-replicate store 0) (omega arith) in
      preview-is r _ _ _ s.answer-is s.used-is g

  module _ (x : Refusal) (f : a ≡ Err x) (r : Preview) (z : r ≡ no_packet (Refused x) 0) where
    pub refused-as : AsDispatch state rx store received r
    refused-as rx₀ store₀ out m k o =
        tells rx₀ store₀ m k (Err x) f out o r
        (record { answer-is = ap (λ (y : Preview). y.answer) z; used-is = ap (λ (y : Preview). y.used) z; others_stay = λ i t. refl })

    pub refused-peeks : r ≡ peeked state rx store received
    unfolding peek_for admitted_for
    refused-peeks = whole-is r refused-as (ap (λ (y : Preview). y.is_for) z ∙ rw (sym e, f) refl)

  module _ (h : Header) (f : a ≡ Ok h) (y : Bytes state) where
    pub peeking : Peeking state h
    peeking =
        let rx₀ = replicate rx 0 in
        let store₀ = replicate store 0 in
        let go = wide-goes state rx₀ store₀ h a (admits rx₀ store₀ (length-replicate rx 0) (length-replicate store 0)) f in
        (admits-state (goes-admits state rx₀ store₀ 56 h go y), go.header)

    module _ (r : Preview) (z : r ≡ peeked_by (state_of state) received) where
      pub admitted-as : AsDispatch state rx store received r
      admitted-as rx₀ store₀ out m k o =
          let l = lent_of state rx₀ store₀ in
          tells rx₀ store₀ m k (Ok h) f out o r
          (subst (λ (v : Preview). Tells (state_of state) (dispatch_step l received) v) (sym z) (step-tells l (admits-facts state 56 peeking.0) received))

      pub admitted-peeks : r ≡ peeked state rx store received
      unfolding peek_for admitted_for peeked_by
      admitted-peeks =
          whole-is r admitted-as (ap (λ (v : Preview). v.is_for) z ∙ for-as (state_of state) received _ ∙ rw (sym e, f) refl)
