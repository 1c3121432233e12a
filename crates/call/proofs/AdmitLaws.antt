-- What is so of a state once a call is admitted, and what the refusals ahead of its steps leave. Assumes nothing.
use mathlib.Core.Path.{◌≡◌, refl, sym, ap, subst, ◌∙◌}
use mathlib.Core.Bool.{Bool, true, false, cond}
use mathlib.Core.List.{List}
use Prim.Native.Nat.{ℕ, ◌+◌, ◌≤◌, ◌<◌}
use native.Mathlib.Omega.{arith}
use lib.Dec.{ltb}
use lib.ListN.{length}
use borrow.Author.Tests.{lt-ltb, le-ltb}
use Rattle.config.specs.Config.{stores_fit}
use Rattle.config.specs.Negotiated.{policy_of}
use Rattle.config.proofs.Laws.{and-true}
use Rattle.slot.specs.declared.ChannelSlot.{ChannelSlot}
use Rattle.slot.specs.Slot.{empty_slot, SlotOk}
use Rattle.slot.proofs.Laws.{cond-true, cond-false}
use Rattle.state.specs.declared.Header.{Header}
use Rattle.state.specs.State.{state_len, state_of, header_of, is_state}
use Rattle.state_whole.specs.Whole.{whole, is_whole, HeaderOk}
use Rattle.state.proofs.StateLaws.{state-tests, state-fits, header-in, slot-in}
use Rattle.state_whole.proofs.ValidLaws.{header_ok}
use Rattle.state_whole.proofs.WholeLaws.{Whole, whole-facts}
use Rattle.connection.specs.declared.Refusal.{Refusal}
use Rattle.connection.specs.declared.Refusal.TheVariants.{StoreShort, OutShort, BrokenState}
use Rattle.connection.specs.Calls.{dropped}
use Rattle.call.specs.Promise.{agreed_in, admitted, admitted_out, AdmitsState, Admits, ActRoom}
use Rattle.connection.proofs.WholeWork.{drop-whole, Long, long}
use Rattle.std.specs.Prelude.{Result, Ok, Err}

-- ---- a whole state's bytes

module _ (b : List ℕ) (e : is_whole b ≡ true) where
  pub whole_long : state_len ≤ length b
  unfolding is_whole
  whole_long = (state-tests b (and-true (is_state b) _ e).0).long

  pub whole-header : HeaderOk (header_of b)
  unfolding is_whole whole
  whole-header =
      let w = (and-true (is_state b) _ e).1 in
      let f = (and-true _ _ (and-true _ _ (and-true _ _ w).0).0).0 in
      subst HeaderOk (header-in b) (header_ok (state_of b).header f)

-- ---- the refusals ahead of every step

module _ (b : List ℕ) (rx store : ℕ) where
  pub admits-not : is_whole b ≡ false → (Err BrokenState) ≡ admitted b rx store
  unfolding admitted
  admits-not e = sym (cond-false (is_whole b) _ _ e)

  module _ (h : Header) (i : h ≡ header_of b) (e : is_whole b ≡ true) where
    config-is : (t : Bool) → stores_fit h.negotiated.config rx store ≡ t → stores_fit (agreed_in b).config rx store ≡ t
    config-is t f = ap (λ (x : Header). stores_fit x.negotiated.config rx store) (header-in b ∙ sym i) ∙ f

    pub admits-short : stores_fit h.negotiated.config rx store ≡ false → (Err StoreShort) ≡ admitted b rx store
    unfolding admitted
    admits-short f = sym (cond-true (is_whole b) _ _ e ∙ cond-false (stores_fit (agreed_in b).config rx store) _ _ (config-is false f))

    pub admits-yes : stores_fit h.negotiated.config rx store ≡ true → (Ok h) ≡ admitted b rx store
    unfolding admitted
    admits-yes f =
        ap Ok (i ∙ sym (header-in b))
        ∙ sym (cond-true (is_whole b) _ _ e ∙ cond-true (stores_fit (agreed_in b).config rx store) _ _ (config-is true f))

-- an outgoing buffer's length, after the others
abbrev widened : ℕ → Result Header Refusal → Result Header Refusal
widened out (Ok h) = cond (ltb out 56) (Err OutShort) (Ok h)
widened out (Err r) = Err r

widened-in : (whole fit : Bool) (out : ℕ) (h : Header) → widened out (cond whole (cond fit (Ok h) (Err StoreShort)) (Err BrokenState))
    ≡ cond whole (cond fit (cond (ltb out 56) (Err OutShort) (Ok h)) (Err StoreShort)) (Err BrokenState)
widened-in true true out h = refl
widened-in true false out h = refl
widened-in false fit out h = refl

module _ (b : List ℕ) (rx store out : ℕ) (a : Result Header Refusal) (e : a ≡ admitted b rx store) where
  widened-is : (x : Result Header Refusal) → a ≡ x → widened out x ≡ admitted_out b rx store out
  unfolding admitted admitted_out
  widened-is x f = ap (widened out) (sym f ∙ e) ∙ widened-in (is_whole b) (stores_fit (agreed_in b).config rx store) out (state_of b).header

  pub out-refuses : (r : Refusal) → a ≡ Err r → (Err r) ≡ admitted_out b rx store out
  out-refuses r f = widened-is (Err r) f

  pub out-short : (h : Header) → a ≡ Ok h → out < 56 → (Err OutShort) ≡ admitted_out b rx store out
  out-short h f o = sym (cond-true (ltb out 56) _ _ (lt-ltb out 56 o)) ∙ widened-is (Ok h) f

  pub out-yes : (h : Header) → a ≡ Ok h → 56 ≤ out → (Ok h) ≡ admitted_out b rx store out
  out-yes h f o = sym (cond-false (ltb out 56) _ _ (le-ltb out 56 o)) ∙ widened-is (Ok h) f

-- ---- what an admitted call may ask

-- what `act_on` asks, of a whole state and stores of their lengths
pub act-room : (h : Header) (b rx store out payload : List ℕ) (at : ℕ) → Whole h.negotiated h (state_of b).slots (state_of b).queue → state_len ≤ length b
    → Long h.negotiated (length rx) (length store) → length payload ≤ h.negotiated.config.max_payload → at + 28 ≤ length out → ActRoom h b rx store out at payload
act-room h b rx store out payload at g k l p o =
    let most = g.limits.within.most-channels in
    record {
      within = g.limits.within;
      table =
          record {
            state-fits = k;
            channels-fit = most;
            rx-fits = l.rx-long;
            slots-sound = λ i c f. let e = slot-in b i empty_slot (omega arith) in
                subst (λ (s : ChannelSlot). SlotOk s (policy_of h.negotiated).rx_cap) e ((g.slots.each i).live (ap (λ (s : ChannelSlot). s.filled) e ∙ f)).ok;
          };
      queue = record { queue = record { state-long = k; most-channels = most; queue-fits = g.header.queue-fits }; store_long = l.store_long; destination-fits = p };
      room = o;
    }

module _ (state : List ℕ) (out : ℕ) (g : AdmitsState state out) where
  pub admits-facts : Whole (agreed_in state) (state_of state).header (state_of state).slots (state_of state).queue
  unfolding is_whole
  admits-facts = whole-facts (state_of state) (state-fits state g.bytes) (and-true (is_state state) _ g.is-whole).1

  -- with nothing pending
  pub admits-dropped : Whole (agreed_in state) (dropped (state_of state).header) (state_of state).slots (state_of state).queue
  admits-dropped = drop-whole (agreed_in state) (state_of state).header (state_of state) admits-facts

module _ {state rx store : List ℕ} {out : ℕ} (g : Admits state rx store out) where
  pub admits-state : AdmitsState state out
  admits-state = record { state-fits = g.state-fits; bytes = g.bytes; is-whole = g.is-whole; room = g.room }

  pub admits-stores : Long (agreed_in state) (length rx) (length store)
  admits-stores = long (agreed_in state) (length rx) (length store) g.stores
