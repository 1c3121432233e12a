-- A channel that a call names: whether it is in the table, and its slot then. Assumes nothing.
use mathlib.Core.Path.{◌≡◌, sym, ap, subst, ◌∙◌}
use mathlib.Core.Bool.{Bool, true, false}
use mathlib.Core.List.{List}
use Prim.Native.Nat.{ℕ, ◌≤◌, ◌<◌}
use native.Mathlib.Omega.{arith}
use lib.Dec.{ltb}
use lib.ListN.{length}
use borrow.Author.Tests.{ltb-true, lt-ltb, le-ltb}
use Rattle.config.proofs.Laws.{and-true}
use Rattle.config.specs.Config.{Within}
use Rattle.slot.specs.declared.ChannelSlot.{ChannelSlot}
use Rattle.slot.specs.Slot.{empty_slot}
use Rattle.slot.proofs.Kept.{pick}
use Rattle.slot.proofs.Laws.{cond-true, cond-false}
use Rattle.state.specs.declared.Header.{Header}
use Rattle.state.specs.State.{state_len, state_of, slot_at}
use Rattle.state.proofs.StateLaws.{slot-in}
use Rattle.state_whole.proofs.ValidLaws.{and-goes, and-stops}
use Rattle.state_whole.proofs.WholeLaws.{Live}
use Rattle.table.specs.declared.ChannelId.{ChannelId}
use Rattle.table.specs.declared.Want.TheVariants.{Local}
use Rattle.table.specs.Table.{there_in, wanted_by, slot_in}
use Rattle.connection.specs.Calls.{Lent, dropped, is_there, slot_for}
use Rattle.call.specs.Promise.{lent_of, agreed_in, found_in, AdmitsState}
use Rattle.call.proofs.AdmitLaws.{admits-facts}
use Rattle.connection.proofs.WholeWork.{there-live}
use Rattle.std.specs.Option.{unwrap_or}
use Rattle.std.specs.Prelude.{is_some, Option, Some, None}

-- a place that is there is one of n
pub there-below : (n : ℕ) (ss : List ChannelSlot) (ch : ChannelId) → there_in n ss ch ≡ true → ch.slot < n
there-below n ss ch e = ltb-true ch.slot n (and-true (ltb ch.slot n) _ e).0

-- ---- what was found

there-found : (n : ℕ) (ss : List ChannelSlot) (ch : ChannelId) → is_some (found_in n ss ch) ≡ there_in n ss ch
unfolding found_in
there-found n ss ch = pick (λ (x : Option ChannelSlot). is_some x ≡ there_in n ss ch) (there_in n ss ch) (λ t. sym t) (λ t. sym t)

-- what `get` answers, from the slot at the place
module _ (b : List ℕ) (n : ℕ) (ch : ChannelId) (few : n ≤ 64) where
  module _ (k : ch.slot < n) (s : ChannelSlot) (e : s ≡ slot_at b ch.slot) (t : Bool) (f : t ≡ wanted_by (Local ch.local) s) where
    slot-here : s ≡ slot_in (state_of b).slots ch.slot
    unfolding slot_in
    slot-here = e ∙ sym (slot-in b ch.slot empty_slot (omega arith))

    tested : there_in n (state_of b).slots ch ≡ t
    tested = sym (and-goes (ltb ch.slot n) _ t (lt-ltb ch.slot n k) (f ∙ ap (wanted_by (Local ch.local)) slot-here))

    pub get-slot : t ≡ true → (Some s) ≡ found_in n (state_of b).slots ch
    unfolding found_in
    get-slot g = ap (λ (x : ChannelSlot). (Some x)) slot-here ∙ sym (cond-true _ _ _ (tested ∙ g))

    pub get_other : t ≡ false → None ≡ found_in n (state_of b).slots ch
    unfolding found_in
    get_other g = sym (cond-false _ _ _ (tested ∙ g))

  pub get-far : n ≤ ch.slot → None ≡ found_in n (state_of b).slots ch
  unfolding found_in
  get-far k = sym (cond-false _ _ _ (sym (and-stops (ltb ch.slot n) _ (le-ltb ch.slot n k))))

module _ (state rx store : List ℕ) (h : Header) (i : h ≡ dropped (state_of state).header) where
  abbrev lent : Lent
  lent = lent_of state rx store

  -- the table's test is the call's
  pub there-is : (ch : ChannelId) → there_in h.negotiated.config.channels (state_of state).slots ch ≡ is_there lent ch
  unfolding is_there
  there-is ch = ap (λ (x : Header). there_in x.negotiated.config.channels (state_of state).slots ch) i

  module _ (ch : ChannelId) (found : Option ChannelSlot) (e : found ≡ found_in h.negotiated.config.channels (state_of state).slots ch) where
    found-is : is_there lent ch ≡ is_some found
    found-is = sym (there-is ch) ∙ sym (there-found _ _ ch) ∙ ap is_some (sym e)

    pub found_none : found ≡ None → is_there lent ch ≡ false
    found_none f = found-is ∙ ap is_some f

    module _ (s : ChannelSlot) (f : found ≡ (Some s)) where
      pub found-there : is_there lent ch ≡ true
      found-there = found-is ∙ ap is_some f

      pub found-slot : s ≡ slot_for lent ch
      unfolding slot_for found_in
      found-slot = ap (λ x. unwrap_or x empty_slot) (sym f ∙ e ∙ cond-true (there_in h.negotiated.config.channels (state_of state).slots ch) _ _ (there-is ch ∙ found-there))

  module _ (out : ℕ) (g : AdmitsState state out) where
    pub limits : Within h.negotiated.config
    limits = subst (λ (x : Header). Within x.negotiated.config) (sym i) (admits-facts state out g).limits.within

    pub few : h.negotiated.config.channels ≤ 64
    few = limits.most-channels

    -- what the test asks
    pub looks : (h.negotiated.config.channels ≤ 64) × (state_len ≤ length state)
    looks = (few, g.state-fits)

    module _ (ch : ChannelId) (e : is_there lent ch ≡ true) where
      pub place-fits : ch.slot < 64
      place-fits =
          let k = few in
          let p = there-below _ _ ch (there-is ch ∙ e) in
          omega arith

      -- what reading or storing its slot asks
      pub slot-fits : (ch.slot < 64) × (state_len ≤ length state)
      slot-fits = (place-fits, g.state-fits)

      pub slot_is : slot_at state ch.slot ≡ slot_for lent ch
      unfolding slot_for slot_in
      slot_is = sym (slot-in state ch.slot empty_slot place-fits)

      pub lives : Live (agreed_in state) ch.slot (slot_for lent ch)
      lives = there-live lent (admits-facts state out g) ch e
