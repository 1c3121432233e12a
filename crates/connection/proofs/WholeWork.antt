-- What a call has done so far, and its end, leave a whole state. Assumes nothing.
use mathlib.Core.Path.{◌≡◌, refl, sym, subst}
use mathlib.Core.Bool.{true}
use mathlib.Core.List.{List, [], ◌∷◌}
use Prim.Native.Nat.{ℕ, ◌*◌, ◌≤◌, ◌<◌}
use native.Mathlib.Omega.{arith}
use lib.Dec.{ltb}
use lib.ListN.{length, get_or}
use lib.Seq.{get_or-set_same}
use borrow.Author.Tests.{leb-true}
use Rattle.config.specs.declared.negotiated.Negotiated.{Negotiated}
use Rattle.config.specs.Config.{rx_store_len, open_store_len, stores_fit}
use Rattle.config.specs.Negotiated.{policy_of}
use Rattle.config.proofs.Laws.{and-true}
use Rattle.slot.specs.declared.ChannelSlot.{ChannelSlot}
use Rattle.slot.specs.Slot.{empty_slot}
use Rattle.slot.proofs.Kept.{pick}
use Rattle.state.specs.declared.Header.{Header}
use Rattle.state.specs.Change.{slot_to, header_to, changed_all, InPlace}
use Rattle.state.specs.State.{Connection, is_ours}
use Rattle.le.proofs.RowLaws.{Every, every_append, never}
use Rattle.state.proofs.ChangeLaws.{changes-append}
use Rattle.table.specs.declared.ChannelId.{ChannelId}
use Rattle.table.specs.Table.{slot_in}
use Rattle.connection.specs.declared.Answer.{Answer}
use Rattle.connection.specs.declared.Answer.TheVariants.{Refused}
use Rattle.connection.specs.declared.Refusal.{Refusal}
use Rattle.connection.specs.declared.Refusal.TheVariants.{StoreShort, OutShort}
use Rattle.connection.specs.Answer.{answer_number}
use Rattle.connection.specs.Act.{Acted}
use Rattle.connection.specs.Calls.{Lent, Outcome, looked, untouched, Work, begun, then, then_acted, ends, checked, checked_out, dropped, is_there, slot_for}
use Rattle.connection.specs.Frames.{Frame}
use Rattle.state_whole.proofs.WholeLaws.{Live, SlotWhole, Whole, whole-live, whole-put}
use Rattle.connection.proofs.WholeAct.{ActedKeeps}
use Rattle.connection.proofs.Decoding.{Admitted}
use Rattle.table_dispatch.proofs.KeepLaws.{local-filled}

abbrev pub negotiated : Lent → Negotiated
negotiated l = l.state.header.negotiated

-- a call's outcome: its changes lie within the state and leave it whole with its negotiated values, both stores keep their
-- lengths, the answer is not refusal 13, and is 8 only where a store is under its length and nothing was done
pub record Kept (l : Lent) (o : Outcome) : Type 0 where
  pub within : Every InPlace o.changes
  pub facts : Whole (negotiated l) (changed_all l.state o.changes).header (changed_all l.state o.changes).slots (changed_all l.state o.changes).queue
  pub rx-length : length o.rx ≡ length l.rx
  pub store_length : length o.store ≡ length l.store
  pub answer : answer_number o.answer ≡ 13 → ⊥
  pub eight : answer_number o.answer ≡ 8 → o ≡ untouched l StoreShort

-- the same of what a call has done so far, once its header is stored
pub record WorkWhole (l : Lent) (w : Work) : Type 0 where
  pub within : Every InPlace w.changes
  pub facts : Whole (negotiated l) w.header (changed_all l.state w.changes).slots (changed_all l.state w.changes).queue
  pub rx-length : length w.rx ≡ length l.rx
  pub store_length : length w.store ≡ length l.store

-- and there is a channel at place i
pub record At (l : Lent) (i : ℕ) (w : Work) : Type 0 where
  pub work : WorkWhole l w
  pub live : Live (negotiated l) i (slot_in (changed_all l.state w.changes).slots i)

pub drop-whole : (n : Negotiated) (h : Header) (c : Connection) → Whole n h c.slots c.queue → Whole n (dropped h) c.slots c.queue
drop-whole n h c g =
    record {
      limits = g.limits;
      header =
          record {
            negotiated = g.header.negotiated;
            next-some = g.header.next-some;
            next_fits = g.header.next_fits;
            place-fits = g.header.place-fits;
            local_fits = g.header.local_fits;
            queue-fits = g.header.queue-fits;
          };
      slots = g.slots;
      pending-open = λ e. never e;
      queue = g.queue;
      offer = λ e. never e;
    }

pub begun-whole : (l : Lent) (h : Header) → Whole (negotiated l) h l.state.slots l.state.queue → WorkWhole l (begun h l)
begun-whole l h g = record { within = tt; facts = g; rx-length = refl; store_length = refl }

-- ---- steps

module _ (l : Lent) (w : Work) (k : WorkWhole l w) where
  abbrev before : Connection
  before = changed_all l.state w.changes

  pub frames-whole : (fs : List Frame) → WorkWhole l (then w [] fs)
  frames-whole fs =
      record {
        within = every_append InPlace w.changes [] k.within tt;
        facts = subst (λ (x : Connection). Whole (negotiated l) w.header x.slots x.queue) (sym (changes-append l.state w.changes [])) k.facts;
        rx-length = k.rx-length;
        store_length = k.store_length;
      }

  -- a slot is stored
  pub slot_whole : (i : ℕ) (t : ChannelSlot) (fs : List Frame) → i < 64 → (is_ours w.header.pending.what ≡ true → w.header.pending.slot ≡ i → ⊥) → SlotWhole (negotiated l) i t
      → WorkWhole l (then w (slot_to i t ∷ []) fs)
  slot_whole i t fs h f s =
      record {
        within = every_append InPlace w.changes (slot_to i t ∷ []) k.within (h, tt);
        facts = subst (λ (x : Connection). Whole (negotiated l) w.header x.slots x.queue) (sym (changes-append l.state w.changes (slot_to i t ∷ [])))
            (whole-put (negotiated l) w.header before.slots before.queue k.facts i t f h s);
        rx-length = k.rx-length;
        store_length = k.store_length;
      }

  -- a packet was acted on
  pub act-whole : (a : Acted) → ActedKeeps (negotiated l) (changed_all l.state w.changes) (length l.rx) (length l.store) a → WorkWhole l (then_acted w a)
  act-whole a g =
      record {
        within = every_append InPlace w.changes a.changes k.within g.within;
        facts = subst (λ (x : Connection). Whole (negotiated l) a.header x.slots x.queue) (sym (changes-append l.state w.changes a.changes)) g.facts;
        rx-length = g.rx-length;
        store_length = g.store_length;
      }

  -- the call ends
  pub ends-kept : (a : Answer) (used : ℕ) (handed : List ℕ) → Admitted a → Kept l (ends w a used handed)
  unfolding ends
  ends-kept a used handed f =
      record {
        within = every_append InPlace w.changes (header_to w.header ∷ []) k.within (tt, tt);
        facts = subst (λ (x : Connection). Whole (negotiated l) x.header x.slots x.queue) (sym (changes-append l.state w.changes (header_to w.header ∷ []))) k.facts;
        rx-length = k.rx-length;
        store_length = k.store_length;
        answer = f.0;
        eight = λ e. absurd (f.1 e);
      }

module _ (l : Lent) (i : ℕ) (w : Work) (k : At l i w) where
  abbrev here : Connection
  here = changed_all l.state w.changes

  pub at-frames : (fs : List Frame) → At l i (then w [] fs)
  at-frames fs =
      record {
        work = frames-whole l w k.work fs;
        live = subst (λ (x : Connection). Live (negotiated l) i (slot_in x.slots i)) (sym (changes-append l.state w.changes [])) k.live;
      }

  pub at_slot : (t : ChannelSlot) (fs : List Frame) → Live (negotiated l) i t → At l i (then w (slot_to i t ∷ []) fs)
  unfolding slot_in
  at_slot t fs v =
      let g = k.work.facts in
      let z = changes-append l.state w.changes (slot_to i t ∷ []) in
      let most = g.limits.within.most-channels in
      let p = v.place in
      let full = g.slots.full in
      record {
        work =
            record {
              within = every_append InPlace w.changes (slot_to i t ∷ []) k.work.within (omega arith, tt);
              facts = subst (λ (x : Connection). Whole (negotiated l) w.header x.slots x.queue) (sym z)
                  (whole-live (negotiated l) w.header here.slots here.queue g i t k.live v);
              rx-length = k.work.rx-length;
              store_length = k.work.store_length;
            };
        live = subst (λ (x : Connection). Live (negotiated l) i (get_or x.slots i empty_slot)) (sym z)
            (subst (Live (negotiated l) i) (sym (get_or-set_same here.slots i t empty_slot (omega arith))) v);
      }

  pub at-act : (a : Acted) → ActedKeeps (negotiated l) (changed_all l.state w.changes) (length l.rx) (length l.store) a → At l i (then_acted w a)
  unfolding slot_in
  at-act a g =
      let z = changes-append l.state w.changes a.changes in
      record {
        work = act-whole l w k.work a g;
        live = subst (λ (x : Connection). Live (negotiated l) i (get_or x.slots i empty_slot)) (sym z) ((g.facts.slots.each i).live (g.filled i k.live.filled));
      }

  pub at-ends : (a : Answer) (used : ℕ) (handed : List ℕ) → Admitted a → Kept l (ends w a used handed)
  at-ends a used handed f = ends-kept l w k.work a used handed f

-- ---- a call's start

module _ (l : Lent) (g : Whole (negotiated l) l.state.header l.state.slots l.state.queue) where
  -- an answer, and nothing changes
  pub looked-kept : (a : Answer) → Admitted a → Kept l (looked l a)
  looked-kept a f = record { within = tt; facts = g; rx-length = refl; store_length = refl; answer = f.0; eight = λ e. absurd (f.1 e) }

  pub untouched-kept : (r : Refusal) → Admitted (Refused r) → Kept l (untouched l r)
  untouched-kept r f = looked-kept (Refused r) f

  short-kept : Kept l (untouched l StoreShort)
  unfolding answer_number
  short-kept = record { within = tt; facts = g; rx-length = refl; store_length = refl; answer = λ e. omega arith; eight = λ e. refl }

  pub dropped-whole : WorkWhole l (begun (dropped l.state.header) l)
  dropped-whole = begun-whole l (dropped l.state.header) (drop-whole (negotiated l) l.state.header l.state g)

  -- a channel that is in the table
  pub there-live : (ch : ChannelId) → is_there l ch ≡ true → Live (negotiated l) ch.slot (slot_for l ch)
  unfolding is_there slot_for slot_in
  there-live ch e =
      let k = and-true (ltb ch.slot (negotiated l).config.channels) _ e in
      (g.slots.each ch.slot).live (local-filled ch.local (get_or l.state.slots ch.slot empty_slot) k.1)

  pub there-at : (ch : ChannelId) → is_there l ch ≡ true → At l ch.slot (begun (dropped l.state.header) l)
  unfolding slot_for
  there-at ch e = record { work = dropped-whole; live = there-live ch e }

  -- the refusals ahead of every step
  pub checked-kept : (o : Outcome) → (stores_fit (negotiated l).config (length l.rx) (length l.store) ≡ true → Kept l o) → Kept l (checked true l o)
  unfolding checked answer_number
  checked-kept o f =
      pick (Kept l) (stores_fit (negotiated l).config (length l.rx) (length l.store)) f (λ t. short-kept)

  pub checked-out-kept : (out : ℕ) (o : Outcome) → (stores_fit (negotiated l).config (length l.rx) (length l.store) ≡ true → Kept l o) → Kept l (checked_out true l out o)
  unfolding checked_out answer_number
  checked-out-kept out o f =
      checked-kept _ (λ t. pick (Kept l) (ltb out 56) (λ u. untouched-kept OutShort (λ e. omega arith, λ e. omega arith)) (λ u. f t))

-- ---- the stores' lengths

pub record Long (n : Negotiated) (rx store : ℕ) : Type 0 where
  pub rx-long : n.config.channels * (2 * (policy_of n).rx_cap) ≤ rx
  pub store_long : n.config.channels * n.config.max_payload ≤ store

pub long : (n : Negotiated) (rx store : ℕ) → stores_fit n.config rx store ≡ true → Long n rx store
unfolding stores_fit rx_store_len open_store_len policy_of
long n rx store e =
    let k = and-true _ _ e in
    record { rx-long = leb-true _ _ k.0; store_long = leb-true _ _ k.1 }
