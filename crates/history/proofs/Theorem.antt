-- Demand 3, over every list of calls. Assumes nothing.
use mathlib.Core.Path.{◌≡◌, refl, sym, ap, subst, ◌∙◌}
use mathlib.Core.Bool.{Bool, true, false, true≢false}
use mathlib.Core.List.{List, [], ◌∷◌}
use Prim.Native.Nat.{ℕ, zero, suc, ◌+◌, ◌*◌, ◌≤◌, ◌<◌, ◌^◌}
use native.Mathlib.Nat.{zero-add}
use native.Mathlib.Omega.{arith}
use lib.Dec.{eqb, ltb, leb}
use lib.ListN.{length, drop, get_or, length-replicate, get_or-eq_default}
use borrow.Author.Tests.{eqb-true, eq-eqb, ne_eqb, ltb-true, ltb-false, leb-true}
use Rattle.le.proofs.Parts.{by-test}
use Rattle.config.specs.declared.ConnectionConfig.{ConnectionConfig}
use Rattle.config.specs.declared.negotiated.Negotiated.{Negotiated}
use Rattle.config.specs.declared.negotiated.RxPolicy.{RxPolicy}
use Rattle.config.specs.Config.{stores_fit, rx_store_len, open_store_len, cap_of, opening_credit}
use Rattle.config.specs.Negotiated.{negotiated_of, policy_of, offered_credit}
use Rattle.config.proofs.Laws.{and-true, sound}
use Rattle.slot.specs.declared.ChannelSlot.{ChannelSlot}
use Rattle.slot.specs.Slot.{empty_slot}
use Rattle.slot.proofs.Kept.{pick}
use Rattle.slot.proofs.Laws.{cond-true, cond-false}
use Rattle.state.specs.State.{is_ours, state_len, Connection, state_of}
use Rattle.state_whole.specs.Whole.{is_whole}
use Rattle.table.specs.Table.{slot_in}
use Rattle.connection.specs.declared.Refusal.TheVariants.{StoreShort, OutShort, BrokenState}
use Rattle.connection.specs.Answer.{answer_number}
use Rattle.connection.specs.Calls.{numbers_for, numbers_outcome, Lent, Outcome, checked, checked_out, fresh, open_outcome, dispatch_outcome, settle_outcome, take_outcome, read_outcome, write_outcome, close_outcome, take_front_outcome, accept_outcome, reject_outcome, let_go_outcome, verdict_outcome}
use Rattle.connection.proofs.Slots.{slots-by}
use Rattle.history.specs.Run.{look_outcome, Call, open_call, dispatch_call, settle_call, take_call, read_call, write_call, close_call, front_taken, look_call, numbers_look, accept_call, reject_call, let_go_call, verdict_call, received_in, bytes_in, World, lent, outcome, after, after_all, Start, begins, agreed_in, policy_in}
use Rattle.history.specs.Seen.{held_of, Seen, Event, seen_of, events_of}
use Rattle.history.specs.Book.{Book, no_book, header_at, is_wrte, book_after, each_place, Ledger, clean, book_at, entry, ledger_of}
use Rattle.history.specs.NoLeak.{NoTake, ReadOnly, NoLeak}
use Rattle.history.specs.Demand3.{place_slot, run_of, Distinct, Apart, Claim, Place, Noted, Told, AllTold, Demand3}
use Rattle.history.proofs.Good.{Terms, Good, Limits}
use Rattle.history.proofs.Heads.{call-asked}
use Rattle.history.proofs.Heard.{seen-eight}
use Rattle.history.proofs.Joins.{Vacant, vacant-fresh, KeptAt, Follows, early-follows, dispatch-follows, settle-follows, take-follows, read-follows, write-follows, close_follows, front-follows, look-follows, open-follows, accept-follows, reject-follows, let-go-follows, verdict-follows}
use Rattle.history.proofs.Never13.{Holds, state-after, holds_after, made-state, starts, in-replicate, always-8}
use Rattle.history.proofs.Overs.{Notes, dispatch-notes, settle-never, take-never, read-notes, write-notes, close_never, front-never, numbers-never, open-notes, accept-never, reject-never, verdict-never, let-go-never}
use Rattle.history.proofs.Packets.{Marked, reads-write, reads-arg1}
use Rattle.history.proofs.Places.{TableOk}
use Rattle.history.proofs.Steps.{saw_of}
use Rattle.history.proofs.Told.{entry-eight, told-eight, told-by, eleven, book-over}
use Rattle.history.proofs.Written.{writes, counts, seen-is, seen-acks, seen-open}

-- what store lengths that fit give
pub fits-long : (c : ConnectionConfig) (a b : ℕ) (host device : Bool) (rx store : ℕ) → stores_fit c rx store ≡ true
    → (negotiated_of host device a b c).config.channels * (2 * cap_of (negotiated_of host device a b c).config) ≤ rx
unfolding stores_fit rx_store_len negotiated_of
fits-long c a b host device rx store e = leb-true (c.channels * (2 * cap_of c)) rx (and-true (leb (c.channels * (2 * cap_of c)) rx) (leb (open_store_len c) store) e).0

-- ---- a book for each place

each-length : (f : ℕ → Book → Book) (i : ℕ) (bs : List Book) → length (each_place f i bs) ≡ length bs
unfolding each_place
each-length f i [] = refl
each-length f i (b ∷ bs) = ap suc (each-length f (suc i) bs)

each_at : (f : ℕ → Book → Book) (i : ℕ) (bs : List Book) (j : ℕ) → j < length bs → get_or (each_place f i bs) j no_book ≡ f (i + j) (get_or bs j no_book)
unfolding each_place
each_at f i [] j h = absurd (omega arith)
each_at f i (b ∷ bs) zero h = let e : i ≡ i + 0 = omega arith in ap (λ (x : ℕ). f x b) e
each_at f i (b ∷ bs) (suc j) h = let e : suc i + j ≡ i + suc j = omega arith in each_at f (suc i) bs j (omega arith) ∙ ap (λ (x : ℕ). f x (get_or bs j no_book)) e

-- the book at a place after a call
pub book-at : (p : RxPolicy) (c : Call) (o : Seen) (y : Ledger) (i : ℕ) → i < length y.books → book_at (entry p c o y) i ≡ book_after p y.books y.asked c o i (book_at y i)
unfolding entry
book-at p c o y i h =
    each_at (book_after p y.books y.asked c o) 0 y.books i h ∙ ap (λ (x : ℕ). book_after p y.books y.asked c o x (book_at y i)) (zero-add i)

book-size : (p : RxPolicy) (c : Call) (o : Seen) (y : Ledger) → length (entry p c o y).books ≡ length y.books
unfolding entry
book-size p c o y = each-length (book_after p y.books y.asked c o) 0 y.books

-- ---- what is kept between calls

-- whether a book's sum of credit is its slot's; whether the channel is read by reads alone
abbrev pub counted : Bool → Bool → Negotiated → Terms
counted counts reads n = record { credit = offered_credit n; reads = reads; counts = counts }

-- reads: the places that are read by reads alone
abbrev pub terms : Bool → Negotiated → Terms
terms reads n = counted true reads n

pub record Kept (reads : ℕ → Bool) (n : Negotiated) (w : World) (y : Ledger) : Type 0 where
  pub size : length y.books ≡ 64
  pub asks : is_ours (state_of w.state).header.pending.what ≡ true → y.asked ≡ offered_credit n
  pub each : (i : ℕ) → KeptAt (policy_of n) (terms (reads i) n) i (state_of w.state).slots w.rx (book_at y i)

-- the books tell what the slots are
pub marked : (reads : ℕ → Bool) (n : Negotiated) (w : World) (y : Ledger) → length (state_of w.state).slots ≡ 64 → Kept reads n w y → Marked y.books (state_of w.state).slots
marked reads n w y z k =
    record {
      size = k.size ∙ sym z;
      there = λ j. by-test (slot_in (state_of w.state).slots j).filled (λ t. ((k.each j).full t).there ∙ sym t) (λ t. ((k.each j).none t).gone ∙ sym t);
      remote = λ j f. ((k.each j).full f).rem;
      closed = λ j f. ((k.each j).full f).ends;
    }

-- ---- one call

module _ (reads : ℕ → Bool) (w : World) (r : List ℕ) (rx store : ℕ) where
  abbrev m : Negotiated
  m = (state_of w.state).header.negotiated

  abbrev c : Connection
  c = state_of w.state

  abbrev l : Lent
  l = lent w

  module _ (h : Holds m r rx store w) (long : m.config.channels * (2 * cap_of m.config) ≤ length w.rx) (far : Distinct w) where
    pub table : TableOk (policy_of m) m.config.channels c.slots w.rx
    unfolding slot_in policy_of
    table =
        let g = h.facts in
        let s = sound m.config g.limits.within in
        record {
          size = g.slots.full;
          most = g.limits.within.most-channels;
          small = s.cap-small;
          shares = long;
          below = λ j f. ((g.slots.each j).live f).place;
          sound = λ j f. ((g.slots.each j).live f).ok;
          unfailed = λ j f. ((g.slots.each j).live f).failed;
          opened = λ j f. ((g.slots.each j).live f).opening;
          known = λ j f. ((g.slots.each j).live f).remote;
          apart = far;
        }

    limits : (a t : Bool) → Limits (policy_of m) (counted a t m) m.config.max_payload
    unfolding policy_of offered_credit
    limits a t =
        let s = sound m.config h.facts.limits.within in
        record {
          fits = by-test m.delayed_ack
              (λ d. let e = cond-true m.delayed_ack (opening_credit m.config) 0 d in let f = s.credit-fits in omega arith)
              (λ d. let e = cond-false m.delayed_ack (opening_credit m.config) 0 d in let f = s.payload-fits in omega arith);
          payload = s.payload-fits;
          small = s.cap-small;
        }

    -- the credit that an accepting OKAY carries is one of 31 bits
    small-credit : offered_credit m < 2 ^ 31
    unfolding offered_credit opening_credit
    small-credit = let w = h.facts.limits.within.most-credit in pick (λ (x : ℕ). x < 2 ^ 31) m.delayed_ack (λ d. omega arith) (λ d. omega arith)

    pub empty : is_ours c.header.pending.what ≡ true → (slot_in c.slots c.header.pending.slot).filled ≡ false
    unfolding slot_in
    empty t = (h.facts.pending-open t).empty

    pub placed : is_ours c.header.pending.what ≡ true → c.header.pending.slot < 64
    placed t = let a = (h.facts.pending-open t).place in let b = h.facts.limits.within.most-channels in omega arith

    module _ (y : Ledger) (k : Kept reads m w y) where
      mark : Marked y.books c.slots
      mark = marked reads m w y h.facts.slots.full k

      -- at one place, and any book that goes with its slot
      module _ (i : ℕ) (a : Bool) (b : Book) (kb : KeptAt (policy_of m) (counted a (reads i) m) i c.slots w.rx b) where
        abbrev follows : Call → Outcome → Type 0
        follows x o = Follows (counted a (reads i) m) l table (limits a (reads i)) empty placed y.books mark y.asked (λ t d. k.asks t) i b kb x o

        -- the refusals ahead of a call
        follows-checked : (x : Call) (t : Bool) (o : Outcome) → follows x o → follows x (checked t l o)
        unfolding checked answer_number
        follows-checked x t o f =
            pick (follows x) t
            (λ u. pick (follows x) (stores_fit m.config (length w.rx) (length w.store)) (λ v. f)
            (λ v. early-follows (counted a (reads i) m) l table (limits a (reads i)) empty placed y.books mark y.asked (λ t d. k.asks t) i b kb x StoreShort refl))
            (λ u. early-follows (counted a (reads i) m) l table (limits a (reads i)) empty placed y.books mark y.asked (λ t d. k.asks t) i b kb x BrokenState refl)

        follows-out : (x : Call) (t : Bool) (out : ℕ) (o : Outcome) → follows x o → follows x (checked_out t l out o)
        unfolding checked_out answer_number
        follows-out x t out o f =
            follows-checked x t _ (pick (follows x) (ltb out 56)
            (λ u. early-follows (counted a (reads i) m) l table (limits a (reads i)) empty placed y.books mark y.asked (λ t d. k.asks t) i b kb x OutShort refl) (λ u. f))

        call-follows : (x : Call) → (reads i ≡ true → NoTake i x) → follows x (outcome w x)
        unfolding outcome open_outcome dispatch_outcome settle_outcome take_outcome read_outcome write_outcome close_outcome take_front_outcome look_outcome numbers_outcome accept_outcome reject_outcome let_go_outcome verdict_outcome
        call-follows (open_call out destination received) only =
            follows-out (open_call out destination received) (is_whole w.state) (length out) _
            (open-follows (counted a (reads i) m) l table (limits a (reads i)) empty placed y.books mark y.asked (λ t d. k.asks t) i b kb out destination received)
        call-follows (dispatch_call out received) only =
            follows-out (dispatch_call out received) (is_whole w.state) (length out) _
            (dispatch-follows (counted a (reads i) m) l table (limits a (reads i)) empty placed y.books mark y.asked (λ t d. k.asks t) i b kb out received)
        call-follows (settle_call out ch want) only =
            follows-out (settle_call out ch want) (is_whole w.state) (length out) _
            (settle-follows (counted a (reads i) m) l table (limits a (reads i)) empty placed y.books mark y.asked (λ t d. k.asks t) i b kb out ch want)
        call-follows (take_call ch buf) only =
            follows-checked (take_call ch buf) (is_whole w.state) _
            (take-follows (counted a (reads i) m) l table (limits a (reads i)) empty placed y.books mark y.asked (λ t d. k.asks t) i b kb ch buf only)
        call-follows (read_call out ch buf received) only =
            follows-out (read_call out ch buf received) (is_whole w.state) (length out) _
            (read-follows (counted a (reads i) m) l table (limits a (reads i)) empty placed y.books mark y.asked (λ t d. k.asks t) i b kb out ch buf received)
        call-follows (write_call spending out ch bytes received) only =
            follows-out (write_call spending out ch bytes received) (is_whole w.state) (length out) _
            (write-follows (counted a (reads i) m) l table (limits a (reads i)) empty placed y.books mark y.asked (λ t d. k.asks t) i b kb spending out ch bytes received)
        call-follows (close_call out ch) only =
            follows-out (close_call out ch) (is_whole w.state) (length out) _
            (close_follows (counted a (reads i) m) l table (limits a (reads i)) empty placed y.books mark y.asked (λ t d. k.asks t) i b kb out ch)
        call-follows front_taken only =
            follows-checked front_taken (is_whole w.state) _
            (front-follows (counted a (reads i) m) l table (limits a (reads i)) empty placed y.books mark y.asked (λ t d. k.asks t) i b kb)
        call-follows (look_call (numbers_look ch)) only =
            follows-checked (look_call (numbers_look ch)) (is_whole w.state) _
            (look-follows (counted a (reads i) m) l table (limits a (reads i)) empty placed y.books mark y.asked (λ t d. k.asks t) i b kb (numbers_look ch) (numbers_for l ch))
        call-follows (accept_call out) only =
            follows-out (accept_call out) (is_whole w.state) (length out) _
            (accept-follows (counted a (reads i) m) l table (limits a (reads i)) empty placed y.books mark y.asked (λ t d. k.asks t) i b kb refl small-credit out)
        call-follows (reject_call out) only =
            follows-out (reject_call out) (is_whole w.state) (length out) _
            (reject-follows (counted a (reads i) m) l table (limits a (reads i)) empty placed y.books mark y.asked (λ t d. k.asks t) i b kb out)
        call-follows let_go_call only =
            follows-checked let_go_call (is_whole w.state) _
            (let-go-follows (counted a (reads i) m) l table (limits a (reads i)) empty placed y.books mark y.asked (λ t d. k.asks t) i b kb)
        call-follows (verdict_call out take remote credit) only =
            follows-out (verdict_call out take remote credit) (is_whole w.state) (length out) _
            (verdict-follows (counted a (reads i) m) l table (limits a (reads i)) empty placed y.books mark y.asked (λ t d. k.asks t) i b kb refl small-credit out take remote credit _ _)

      -- what is seen of a call
      abbrev event : Call → Event
      event x = record { call = x; held = held_of w x }

      abbrev now : Call → Seen
      now x = seen_of (event x)

      sees : (x : Call) → now x ≡ saw_of (outcome w x) (now x).sent
      sees x =
          let e = seen-is m r rx store w h x in
          e ∙ ap (λ (s : Seen). saw_of (outcome w x) s.sent) (sym e)

      -- any book that goes with the slot of a place, after a call
      pub book-keeps : (i : ℕ) (a : Bool) (b : Book) → KeptAt (policy_of m) (counted a (reads i) m) i c.slots w.rx b → (x : Call) → (reads i ≡ true → NoTake i x)
          → KeptAt (policy_of m) (counted a (reads i) m) i (state_of (after w x).state).slots (after w x).rx (book_after (policy_of m) y.books y.asked x (now x) i b)
      unfolding after
      book-keeps i a b kb x only =
          let st = state-after m r rx store w h x in
          let o = outcome w x in
          let K : List ChannelSlot → Book → Type 0 = λ ss d. KeptAt (policy_of m) (counted a (reads i) m) i ss o.rx d in
          let f = call-follows i a b kb x only (now x).sent (record { acks = λ n. seen-acks m r rx store w h x n; sent = ap (λ (s : Seen). s.sent) (seen-is m r rx store w h x) }) in
          let e : book_after (policy_of m) y.books y.asked x (now x) i b ≡ book_after (policy_of m) y.books y.asked x (saw_of o (now x).sent) i b =
          ap (λ (s : Seen). book_after (policy_of m) y.books y.asked x s i b) (sees x) in
          subst (λ (d : Book). K (state_of (after w x).state).slots d) (sym e)
          (subst (λ (d : Connection). K d.slots (book_after (policy_of m) y.books y.asked x (saw_of o (now x).sent) i b)) (sym st)
          (subst (λ (ss : List ChannelSlot). K ss (book_after (policy_of m) y.books y.asked x (saw_of o (now x).sent) i b)) (sym (slots-by c o.changes)) f))

      -- a place that is one of the table's
      inside : (i : ℕ) → i < 64 → (x : Call) → (reads i ≡ true → NoTake i x)
          → KeptAt (policy_of m) (terms (reads i) m) i (state_of (after w x).state).slots (after w x).rx (book_at (entry (policy_of m) x (now x) y) i)
      inside i lt x only =
          let z = k.size in
          subst (λ (b : Book). KeptAt (policy_of m) (terms (reads i) m) i (state_of (after w x).state).slots (after w x).rx b) (sym (book-at (policy_of m) x (now x) y i (omega arith)))
          (book-keeps i true (book_at y i) (k.each i) x only)

      -- one that is not
      outside : (i : ℕ) → 64 ≤ i → (x : Call)
          → KeptAt (policy_of m) (terms (reads i) m) i (state_of (after w x).state).slots (after w x).rx (book_at (entry (policy_of m) x (now x) y) i)
      unfolding slot_in empty_slot
      outside i ge x =
          let a = (holds_after m r rx store w h x).facts.slots.full in
          let z = book-size (policy_of m) x (now x) y in
          let y0 = k.size in
          let es : slot_in (state_of (after w x).state).slots i ≡ empty_slot = get_or-eq_default (state_of (after w x).state).slots empty_slot {n = i} (omega arith) in
          let eb : book_at (entry (policy_of m) x (now x) y) i ≡ no_book = get_or-eq_default (entry (policy_of m) x (now x) y).books no_book {n = i} (omega arith) in
          record {
            full = λ f. absurd (true≢false (sym f ∙ ap (λ (s : ChannelSlot). s.filled) es));
            none = λ f. vacant-fresh (policy_of m) _ _ _ es eb;
          }

      -- so what is kept is kept by a call
      call-keeps : (x : Call) → ((i : ℕ) → reads i ≡ true → NoTake i x) → Kept reads m (after w x) (entry (policy_of m) x (now x) y)
      unfolding entry
      call-keeps x only =
          let st = state-after m r rx store w h x in
          record {
            size = book-size (policy_of m) x (now x) y ∙ k.size;
            asks = λ t. seen-open m r rx store w h x y.asked ∙ call-asked w y.asked (offered_credit m) refl k.asks x (sym (ap (λ (d : Connection). is_ours d.header.pending.what) st) ∙ t);
            each = λ i. by-test (ltb i 64) (λ t. inside i (ltb-true i 64 t) x (only i)) (λ t. outside i (ltb-false i 64 t) x);
          }

      -- ---- what is claimed of it

      notes-checked : (received : List ℕ) (t : Bool) (o : Outcome) → (answer_number o.answer ≡ 11 → Notes l table received o) → answer_number (checked t l o).answer ≡ 11 → Notes l table received (checked t l o)
      unfolding checked answer_number
      notes-checked received t o f =
          let E : Outcome → Type 0 = λ x. answer_number x.answer ≡ 11 → Notes l table received x in
          pick E t (λ a. pick E (stores_fit m.config (length w.rx) (length w.store)) (λ b. f) (λ b e. absurd (omega arith))) (λ a e. absurd (omega arith))

      notes-out : (received : List ℕ) (t : Bool) (out : ℕ) (o : Outcome) → (answer_number o.answer ≡ 11 → Notes l table received o) → answer_number (checked_out t l out o).answer ≡ 11 → Notes l table received (checked_out t l out o)
      unfolding checked_out answer_number
      notes-out received t out o f =
          notes-checked received t _ (pick (λ (x : Outcome). answer_number x.answer ≡ 11 → Notes l table received x) (ltb out 56) (λ b e. absurd (omega arith)) (λ b. f))

      call-notes : (x : Call) → answer_number (outcome w x).answer ≡ 11 → Notes l table (received_in x) (outcome w x)
      unfolding outcome received_in open_outcome dispatch_outcome settle_outcome take_outcome read_outcome write_outcome close_outcome take_front_outcome look_outcome numbers_outcome accept_outcome reject_outcome let_go_outcome verdict_outcome
      call-notes (open_call out destination received) = notes-out (bytes_in received) (is_whole w.state) (length out) _ (open-notes l table (bytes_in received) (length out) (bytes_in destination))
      call-notes (dispatch_call out received) = notes-out (bytes_in received) (is_whole w.state) (length out) _ (dispatch-notes l table (bytes_in received))
      call-notes (settle_call out ch want) = notes-out [] (is_whole w.state) (length out) _ (λ e. absurd (settle-never l table ch want e))
      call-notes (take_call ch buf) = notes-checked [] (is_whole w.state) _ (λ e. absurd (take-never l table ch (length buf) e))
      call-notes (read_call out ch buf received) = notes-out (bytes_in received) (is_whole w.state) (length out) _ (read-notes l table (bytes_in received) ch (length buf))
      call-notes (write_call spending out ch bytes received) = notes-out (bytes_in received) (is_whole w.state) (length out) _ (write-notes l table (bytes_in received) spending ch (length out) (bytes_in bytes))
      call-notes (close_call out ch) = notes-out [] (is_whole w.state) (length out) _ (λ e. absurd (close_never l table ch e))
      call-notes front_taken = notes-checked [] (is_whole w.state) _ (λ e. absurd (front-never l table e))
      call-notes (look_call (numbers_look ch)) = notes-checked [] (is_whole w.state) _ (λ e. absurd (numbers-never l table ch e))
      call-notes (accept_call out) = notes-out [] (is_whole w.state) (length out) _ (λ e. absurd (accept-never l table e))
      call-notes (reject_call out) = notes-out [] (is_whole w.state) (length out) _ (λ e. absurd (reject-never l table e))
      call-notes let_go_call = notes-checked [] (is_whole w.state) _ (λ e. absurd (let-go-never l table e))
      call-notes (verdict_call out take remote credit) = notes-out [] (is_whole w.state) (length out) _ (λ e. absurd (verdict-never l table take _ _ e))

      -- an 11 is in the book of a channel that is there
      noted : (x : Call) → ((i : ℕ) → reads i ≡ true → NoTake i x) → answer_number (outcome w x).answer ≡ 11 → Noted (policy_of m) y (entry (policy_of m) x (now x) y) (event x)
      unfolding held_of
      noted x only e =
          let n = call-notes x e in
          let q = n.packet-of in
          let v = n.over in
          let j = v.place in
          let g = (k.each j).full v.filled in
          let wr : is_wrte (header_at (received_in x)) ≡ true = reads-write (received_in x) m.config.max_payload q n.says ∙ v.write in
          let nm : (header_at (received_in x)).arg1 ≡ (book_at y j).local = reads-arg1 (received_in x) m.config.max_payload q n.says ∙ v.named ∙ sym g.loc in
          let us : (outcome w x).used ≡ 0 → ⊥ = λ z. let a = n.used in absurd (omega arith) in
          let o = outcome w x in
          let s : now x ≡ eleven (saw_of o (now x).sent).values o.used (now x).sent o.handed =
          sees x ∙ ap (λ (t : ℕ). record { number = t; values = (saw_of o (now x).sent).values; used = o.used; sent = (now x).sent; got = o.handed }) e in
          let b = ok-below j v.filled in
          let z = k.size in
          let at : book_at (entry (policy_of m) x (now x) y) j ≡ book_after (policy_of m) y.books y.asked x (eleven (saw_of o (now x).sent).values o.used (now x).sent o.handed) j (book_at y j) =
          book-at (policy_of m) x (now x) y j (omega arith) ∙ ap (λ (t : Seen). book_after (policy_of m) y.books y.asked x t j (book_at y j)) s in
          let hs = book-over (policy_of m) y.books j y.asked (saw_of o (now x).sent).values o.used (now x).sent o.handed (ne_eqb o.used 0 us) (book_at y j) g.there x wr nm in
          let there' : (book_at (entry (policy_of m) x (now x) y) j).there ≡ true = ap (λ (t : Book). t.there) at ∙ hs.0 in
          let over' : (book_at (entry (policy_of m) x (now x) y) j).over ≡ true = ap (λ (t : Book). t.over) at ∙ hs.1 in
          let ka = (call-keeps x only).each j in
          record {
            place = j;
            there = g.there;
            used = us;
            write = wr;
            named = nm;
            stays = there';
            over = over';
            broke = λ d.
                by-test (slot_in (state_of (after w x).state).slots j).filled
                (λ t. by-test (book_at (entry (policy_of m) x (now x) y) j).kept (λ u. absurd (true≢false (sym over' ∙ (ka.full t).kept d u))) (λ u. u))
                (λ t. absurd (true≢false (sym there' ∙ (ka.none t).gone)));
          }
        where
          ok-below : (j : ℕ) → (slot_in c.slots j).filled ≡ true → j < 64
          ok-below j f = let a = table.below j f in let b = table.most in omega arith

      call-told : (x : Call) → ((i : ℕ) → reads i ≡ true → NoTake i x) → Told (policy_of m) y (event x)
      unfolding held_of policy_of
      call-told x only =
          told-by (policy_of m) y m x (outcome w x) refl (writes m r rx store w h x) (counts m r rx store w h x) (seen-is m r rx store w h x) (noted x only)

-- the same where what was negotiated is known by another name
pub record Stepped (reads : ℕ → Bool) (n : Negotiated) (w : World) (y : Ledger) (x : Call) : Type 0 where
  pub kept : Kept reads n (after w x) (entry (policy_of n) x (seen_of (record { call = x; held = held_of w x })) y)
  pub told : Told (policy_of n) y (record { call = x; held = held_of w x })

pub step : (reads : ℕ → Bool) (n : Negotiated) (w : World) (r : List ℕ) (rx store : ℕ) → Holds n r rx store w → n.config.channels * (2 * cap_of n.config) ≤ rx → Distinct w → (y : Ledger) → Kept reads n w y
    → (x : Call) → ((i : ℕ) → reads i ≡ true → NoTake i x) → Stepped reads n w y x
step reads n w r rx store h long far y k x only =
    let m = (state_of w.state).header.negotiated in
    let e : m ≡ n = h.facts.header.negotiated in
    let G : Negotiated → Type 0 = λ z. Holds z r rx store w → z.config.channels * (2 * cap_of z.config) ≤ rx → Kept reads z w y → Stepped reads z w y x in
    subst G e
    (λ hm lm km. let a = hm.rx-length in
    let lw = subst (λ (z : ℕ). m.config.channels * (2 * cap_of m.config) ≤ z) (sym a) lm in
    record { kept = call-keeps reads w r rx store hm lw far y km x only; told = call-told reads w r rx store hm lw far y km x only }) h long k

-- ---- a list of calls

pub record Ran (reads : ℕ → Bool) (n : Negotiated) (w : World) (y : Ledger) (es : List Event) : Type 0 where
  pub kept : Kept reads n w (ledger_of (policy_of n) y es)
  pub told : AllTold (policy_of n) y es

module _ (reads : ℕ → Bool) (n : Negotiated) (r : List ℕ) (rx store : ℕ) (long : n.config.channels * (2 * cap_of n.config) ≤ rx) where
  runs : (w : World) (y : Ledger) → Holds n r rx store w → Distinct w → Kept reads n w y → (cs : List Call) → Apart w cs → ((i : ℕ) → reads i ≡ true → ReadOnly i cs) → Ran reads n (after_all w cs) y (events_of w cs)
  unfolding after_all events_of ledger_of Apart
  runs w y h far k [] a only = record { kept = k; told = tt }
  runs w y h far k (x ∷ cs) a only =
      let s = step reads n w r rx store h long far y k x (λ i t. (only i t).0) in
      let o = seen_of (record { call = x; held = held_of w x }) in
      let t = runs (after w x) (entry (policy_of n) x o y) (holds_after n r rx store w h x) a.0 s.kept cs a.1 (λ i t. (only i t).1) in
      record { kept = t.kept; told = (s.told, t.told) }

-- ---- where it begins

module _ (n : Negotiated) (w : World) (e : state_of w.state ≡ fresh n) where
  fresh-slot : (i : ℕ) → place_slot w i ≡ empty_slot
  unfolding slot_in fresh
  fresh-slot i = ap (λ (d : Connection). slot_in d.slots i) e ∙ in-replicate 64 i empty_slot

  pub fresh-vacant : (p : RxPolicy) (i : ℕ) → Vacant p true (place_slot w i) (book_at clean i)
  fresh-vacant p i = vacant-fresh p true _ _ (fresh-slot i) (in-replicate 64 i no_book)

  pub no_slot : (i : ℕ) → (place_slot w i).filled ≡ false
  unfolding empty_slot
  no_slot i = ap (λ (s : ChannelSlot). s.filled) (fresh-slot i)

  pub fresh-far : Distinct w
  fresh-far i j f g q = absurd (true≢false (sym f ∙ no_slot i))

  pub fresh_kept : (reads : ℕ → Bool) → Kept reads n w clean
  unfolding fresh
  fresh_kept reads =
      record {
        size = length-replicate 64 no_book;
        asks = λ t. absurd (true≢false (sym t ∙ ap (λ (d : Connection). is_ours d.header.pending.what) e));
        each = λ i. record { full = λ f. absurd (true≢false (sym f ∙ no_slot i)); none = λ f. fresh-vacant (policy_of n) i };
      }

pub fresh_start : (s : Start) → state_of (begins s).state ≡ fresh (agreed_in s)
fresh_start s = made-state s.config s.version s.most s.host s.device s.state s.rx s.store s.within

-- a list of calls from a start, with stores that fit
pub ran : (reads : ℕ → Bool) (s : Start) → stores_fit s.config (length s.rx) (length s.store) ≡ true → (cs : List Call) → Apart (begins s) cs → ((i : ℕ) → reads i ≡ true → ReadOnly i cs)
    → Ran reads (agreed_in s) (after_all (begins s) cs) clean (events_of (begins s) cs)
ran reads s t cs apart only =
    let n = agreed_in s in
    let e = fresh_start s in
    runs reads n (drop state_len s.state) (length s.rx) (length s.store) (fits-long s.config s.version s.most s.host s.device (length s.rx) (length s.store) t)
    (begins s) clean (starts s) (fresh-far n (begins s) e) (fresh_kept n (begins s) e reads) cs apart only

-- ---- stores under their lengths: every call answers 8

module _ (p : RxPolicy) (w : World) (f : (x : Call) → answer_number (outcome w x).answer ≡ 8) (g : (x : Call) → after w x ≡ w) where
  ledger-8 : (y : Ledger) (cs : List Call) → ledger_of p y (events_of w cs) ≡ y
  unfolding events_of ledger_of held_of
  ledger-8 y [] = refl
  ledger-8 y (x ∷ cs) =
      let e : Event = record { call = x; held = held_of w x } in
      ap (λ (v : World). ledger_of p (entry p x (seen_of e) y) (events_of v cs)) (g x)
      ∙ ap (λ (z : Ledger). ledger_of p z (events_of w cs)) (ap (λ (o : Seen). entry p x o y) (seen-eight e (f x)) ∙ entry-eight p x y) ∙ ledger-8 y cs

  told-8 : (y : Ledger) (cs : List Call) → AllTold p y (events_of w cs)
  unfolding events_of held_of
  told-8 y [] = tt
  told-8 y (x ∷ cs) =
      let e : Event = record { call = x; held = held_of w x } in
      (told-eight p y e (f x), subst (λ (v : World). AllTold p (entry p x (seen_of e) y) (events_of v cs)) (sym (g x)) (told-8 (entry p x (seen_of e) y) cs))

-- ---- demand 3

claim : (p : RxPolicy) (credit : Terms) (s : ChannelSlot) (q : List ℕ) (b : Book) → Good p credit s q b → Claim p s q b
claim p credit s q b g =
    let m = g.nums in
    record {
      exact = g.stream;
      sum = λ d c small. let o = g.owed d c in omega arith;
      aside = λ d c. (g.owed d c).same;
      most = λ d c. let o = g.owed d c in omega arith;
      never11 = g.kept;
    }

-- at each place
place : (p : RxPolicy) (credit : Terms) (i : ℕ) (ss : List ChannelSlot) (rx : List ℕ) (b : Book) → credit.counts ≡ true → KeptAt p credit i ss rx b → Place p (slot_in ss i) (run_of rx p.rx_cap i (slot_in ss i)) b
place p credit i ss rx b c k =
    by-test (slot_in ss i).filled
    (λ t. let g = k.full t in record { there = g.there ∙ sym t; claim = λ u. claim p credit _ _ b g; total = g.tally.delayed c; plain = g.tally.plain })
    (λ t. let n = k.none t in record { there = n.gone ∙ sym t; claim = λ u. absurd (true≢false (sym u ∙ n.gone)); total = n.tally.delayed c; plain = n.tally.plain })

-- what a list of none, and of one, says
pub first-8 : (s : Start) → ((x : Call) → answer_number (outcome (after_all (begins s) []) x).answer ≡ 8) → (x : Call) → answer_number (outcome (begins s) x).answer ≡ 8
unfolding after_all
first-8 s h x = h x

pub after-8 : (s : Start) (x : Call) → after_all (begins s) (x ∷ []) ≡ begins s → after (begins s) x ≡ begins s
unfolding after_all
after-8 s x h = h

pub demand-3 : Demand3
demand-3 s cs apart =
    let n = agreed_in s in
    let p = policy_in s in
    by-test (stores_fit s.config (length s.rx) (length s.store))
    (λ t. let z = ran (λ i. false) s t cs apart (λ i e. absurd (true≢false (sym e))) in
    record { places = λ i. place p (terms false n) i _ _ _ refl (z.kept.each i); calls = z.told })
    (λ t. let a = always-8 s t in
    let w = begins s in
    let f : (x : Call) → answer_number (outcome w x).answer ≡ 8 = λ x. first-8 s (a []).1 x in
    let g : (x : Call) → after w x ≡ w = λ x. after-8 s x (a (x ∷ [])).0 in
    let e = ledger-8 p w f g clean cs in
    record {
      places = λ i.
          let v : Vacant p true (place_slot (after_all w cs) i) (book_at (ledger_of p clean (events_of w cs)) i) =
          subst (λ (y : Ledger). Vacant p true (place_slot (after_all w cs) i) (book_at y i)) (sym e)
          (subst (λ (x : World). Vacant p true (place_slot x i) (book_at clean i)) (sym (a cs).0) (fresh-vacant n w (fresh_start s) p i)) in
          let sn : (place_slot (after_all w cs) i).filled ≡ false = ap (λ (v : World). (place_slot v i).filled) (a cs).0 ∙ no_slot n w (fresh_start s) i in
          record { there = v.gone ∙ sym sn; claim = λ u. absurd (true≢false (sym u ∙ v.gone)); total = v.tally.delayed refl; plain = v.tally.plain };
      calls = told-8 p w f g clean cs;
    })

all-acked : (p : RxPolicy) (credit : Terms) (s : ChannelSlot) (q : List ℕ) (b : Book) → Good p credit s q b → credit.reads ≡ true → p.delayed ≡ true → b.closed ≡ false → b.handed ≡ b.accepted
    → b.acked ≡ length b.accepted
all-acked p credit s q b g t d c e =
    let m = g.nums in
    let v = g.even t d c in
    let l = ap length e in
    omega arith

pub no-leak : NoLeak
no-leak s cs apart d i only there closed e =
    by-test (stores_fit s.config (length s.rx) (length s.store))
    (λ t. let z = (ran (λ j. eqb j i) s t cs apart (λ j q. subst (λ (x : ℕ). ReadOnly x cs) (sym (eqb-true j i q)) only)).kept.each i in
    by-test (slot_in (state_of (after_all (begins s) cs).state).slots i).filled
    (λ f. all-acked _ (terms (eqb i i) (agreed_in s)) _ _ _ (z.full f) (eq-eqb i i refl) d closed e)
    (λ f. absurd (true≢false (sym there ∙ (z.none f).gone))))
    (λ t. let c = (demand-3 s cs apart).places i in
    let a = (always-8 s t cs).0 in
    absurd (true≢false (sym there ∙ c.there ∙ ap (λ (v : World). (place_slot v i).filled) a ∙ no_slot (agreed_in s) (begins s) (fresh_start s) i)))
