-- The slot that an accept fills, beside its new book. Assumes nothing.
use mathlib.Core.Path.{◌≡◌, refl, sym, ap, subst, ◌∙◌}
use mathlib.Core.Bool.{Bool, true, false, cond, not, true≢false}
use mathlib.Core.List.{List, [], ◌∷◌, map}
use Prim.Native.Nat.{ℕ, ◌^◌, ◌<◌}
use native.Mathlib.Omega.{arith}
use lib.Dec.{eqb, ltb}
use lib.ListN.{length, set}
use borrow.Author.Tests.{ltb-true}
use Rattle.le.proofs.Parts.{by-test}
use Rattle.config.specs.declared.negotiated.Negotiated.{Negotiated}
use Rattle.config.specs.declared.negotiated.RxPolicy.{RxPolicy}
use Rattle.config.specs.Config.{stores_fit}
use Rattle.config.specs.Negotiated.{policy_of, offered_credit}
use Rattle.slot.specs.declared.ChannelSlot.{ChannelSlot}
use Rattle.slot.specs.declared.ids.ChannelIds.{ChannelIds}
use Rattle.slot.specs.declared.ids.RemoteId.{RemoteId}
use Rattle.slot.specs.Slot.{accepted_slot, opening_slot, is_closed}
use Rattle.slot.proofs.Kept.{pick}
use Rattle.slot.proofs.Laws.{cond-true, cond-false}
use Rattle.table_dispatch.proofs.KeepLaws.{place_found}
use Rattle.state.specs.declared.Header.{Header}
use Rattle.state.specs.Change.{changed_all}
use Rattle.table.specs.declared.ChannelId.{ChannelId}
use Rattle.table.specs.declared.Want.TheVariants.{Empty}
use Rattle.table.specs.Table.{place_of, slot_in, wanted_by, allocated, numbered}
use Rattle.connection.specs.declared.Answer.TheVariants.{Opened}
use Rattle.connection.specs.declared.Refusal.TheVariants.{StoreShort, OutShort, BrokenState}
use Rattle.connection.specs.Answer.{answer_number}
use Rattle.connection.specs.Calls.{Lent, Outcome, ends, untouched, checked, checked_out, dropped, policy, offer_in, is_offered, reject_on, accept_on, accept_step}
use Rattle.connection.specs.Frames.{okay_frame, Sent}
use Rattle.connection.proofs.Sending.{sent_of}
use Rattle.connection.proofs.Slots.{slots_by}
use Rattle.history.specs.Book.{new_book, okay_remote, okay_credit}
use Rattle.history.proofs.Good.{Terms, Good, new-numbers}
use Rattle.history.proofs.Heard.{credit-back}
use Rattle.history.proofs.Marks.{Tame}
use Rattle.history.proofs.Opens.{refused-some}
use Rattle.history.proofs.Places.{TableOk}
use Rattle.table.specs.declared.NoFreeChannels.{NoFreeChannels}
use Rattle.std.specs.Prelude.{Result, Ok, Err}

-- a place that was allocated is one of the channels', and its number is the next
abbrev Allotted : Header → Result ChannelId NoFreeChannels → Type 0
Allotted h (Ok ch) = (ch.slot < h.negotiated.config.channels) × (ch.local.0 ≡ h.next_local)
Allotted h (Err _) = Unit {0}

allotted-by : (h : Header) (ss : List ChannelSlot) → Allotted h (allocated h ss)
unfolding allocated
allotted-by h ss =
    let n = h.negotiated.config.channels in
    pick (Allotted h) (ltb (place_of Empty n ss) n) (λ t. (ltb-true (place_of Empty n ss) n t, refl)) (λ t. tt)

pub allocated-below : (h : Header) (ss : List ChannelSlot) (ch : ChannelId) → allocated h ss ≡ Ok ch → ch.slot < h.negotiated.config.channels
allocated-below h ss ch e = (subst (Allotted h) e (allotted-by h ss)).0

pub allocated-local : (h : Header) (ss : List ChannelSlot) (ch : ChannelId) → allocated h ss ≡ Ok ch → ch.local.0 ≡ h.next_local
allocated-local h ss ch e = (subst (Allotted h) e (allotted-by h ss)).1

-- so the place is one of the table's
pub allocated-inside : (p : RxPolicy) (h : Header) (ss : List ChannelSlot) (rx : List ℕ) → TableOk p h.negotiated.config.channels ss rx → (ch : ChannelId)
    → allocated h ss ≡ Ok ch → ch.slot < length ss
allocated-inside p h ss rx ok ch e = let a = allocated-below h ss ch e in let m = ok.most in let z = ok.size in omega arith

abbrev slot-named : Result ChannelId NoFreeChannels → ℕ
slot-named (Ok ch) = ch.slot
slot-named (Err e) = 0

abbrev is-named : Result ChannelId NoFreeChannels → Bool
is-named (Ok ch) = true
is-named (Err e) = false

-- and it is empty
pub allocated-vacant : (p : RxPolicy) (h : Header) (ss : List ChannelSlot) (rx : List ℕ) → TableOk p h.negotiated.config.channels ss rx → (ch : ChannelId)
    → allocated h ss ≡ Ok ch → (slot_in ss ch.slot).filled ≡ false
unfolding allocated wanted_by
allocated-vacant p h ss rx ok ch e =
    let n = h.negotiated.config.channels in
    let f = place_of Empty n ss in
    let z = ok.size in
    let m = ok.most in
    by-test (ltb f n)
    (λ t. let q : f ≡ ch.slot = ap slot-named (sym (cond-true (ltb f n) _ _ t) ∙ e) in
    let w = place_found Empty n ss (omega arith) (ltb-true f n t) in
    let u : not (slot_in ss ch.slot).filled ≡ true = ap (λ (x : ℕ). not (slot_in ss x).filled) (sym q) ∙ w in
    by-test (slot_in ss ch.slot).filled (λ d. absurd (true≢false (sym u ∙ ap not d))) (λ d. d))
    (λ t. absurd (true≢false (sym (ap is-named (sym (cond-false (ltb f n) _ _ t) ∙ e)))))

-- the two numbers of a channel that is accepted
abbrev pub taken_ids : ChannelId → RemoteId → ChannelIds
taken_ids ch remote = record { local = ch.local; remote = remote }

-- a slot is filled, or none is
pub data Accepts (l : Lent) : Outcome → Type 0 where
  takes : (x : Outcome) (ch : ChannelId) (remote : RemoteId) (credit : ℕ) → allocated l.state.header l.state.slots ≡ Ok ch → x.answer ≡ Opened ch
      → slots_by l.state.slots x.changes ≡ set l.state.slots ch.slot (accepted_slot (taken_ids ch remote) credit (policy l)) → x.rx ≡ l.rx
      → x.frames ≡ okay_frame (taken_ids ch remote) (offered_credit l.state.header.negotiated) ∷ []
      → (changed_all l.state x.changes).header ≡ numbered (dropped l.state.header) → Accepts l x
  declines : (x : Outcome) → eqb (answer_number x.answer) 0 ≡ false → Tame l.state.slots x.changes → slots_by l.state.slots x.changes ≡ l.state.slots → x.rx ≡ l.rx → Accepts l x

module _ (l : Lent) (ok : TableOk (policy l) l.state.header.negotiated.config.channels l.state.slots l.rx) where
  pub accepts-on : (remote : RemoteId) (credit : ℕ) (r : Result ChannelId NoFreeChannels) → allocated l.state.header l.state.slots ≡ r → Accepts l (accept_on l (dropped l.state.header) remote credit r)
  unfolding accept_on reject_on ends answer_number
  accepts-on remote credit (Err _) e = declines _ refl tt refl refl
  accepts-on remote credit (Ok ch) e = takes _ ch remote credit e refl refl refl refl refl

  pub accepts : Accepts l (accept_step l)
  unfolding accept_step ends answer_number
  accepts =
      pick (Accepts l) (is_offered l) (λ t. accepts-on (offer_in l).remote (offer_in l).credit (allocated l.state.header l.state.slots) refl)
      (λ t. declines _ refl tt refl refl)

  pub accepts-out : (t : Bool) (out : ℕ) (o : Outcome) → Accepts l o → Accepts l (checked_out t l out o)
  unfolding checked_out checked answer_number
  accepts-out t out o s =
      let A = Accepts l in
      pick A t
      (λ a. pick A (stores_fit l.state.header.negotiated.config (length l.rx) (length l.store))
      (λ b. pick A (ltb out 56) (λ d. declines (untouched l OutShort) (refused-some OutShort) tt refl refl) (λ d. s)) (λ b. declines (untouched l StoreShort) (refused-some StoreShort) tt refl refl))
      (λ a. declines (untouched l BrokenState) (refused-some BrokenState) tt refl refl)

-- the new slot beside its book: the opening credit is what the OKAY carries
pub accepted-good : (p : RxPolicy) (credit : Terms) (asked : ℕ) (ids : ChannelIds) (given : ℕ) → (p.delayed ≡ true → asked ≡ credit.credit)
    → Good p credit (accepted_slot ids given p) [] (new_book ids.local.0 ids.remote.0 asked)
unfolding accepted_slot opening_slot is_closed
accepted-good p credit asked ids given h = new-numbers p credit asked _ ids.local.0 ids.remote.0 h refl refl refl refl refl refl refl refl refl

-- what is read of the OKAY
module _ (n : Negotiated) (ids : ChannelIds) (fs : List Sent) (e : fs ≡ map (sent_of n) (okay_frame ids (offered_credit n) ∷ [])) where
  pub heard-remote : okay_remote fs ≡ ids.remote.0
  unfolding okay_remote
  heard-remote = ap okay_remote e

  pub heard-credit : offered_credit n < 2 ^ 31 → (policy_of n).delayed ≡ true → okay_credit fs ≡ offered_credit n
  unfolding okay_credit policy_of
  heard-credit small d =
      ap okay_credit e ∙ credit-back n.delayed_ack (offered_credit n) (λ t. small) ∙ ap (λ (t : Bool). cond t (offered_credit n) 0) d
