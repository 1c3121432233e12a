-- What a channel of ours has not acknowledged, after a call: exact, whatever the totals. Assumes nothing.
use mathlib.Core.Path.{◌≡◌, refl, sym, ap, ap₂, ◌∙◌}
use mathlib.Core.Bool.{Bool, true, false, not, cond, ◌&&◌, true≢false}
use mathlib.Core.List.{List, [], ◌++◌}
use Prim.Native.Nat.{ℕ, ◌+◌, ◌-◌, ◌^◌, ◌≤◌, ◌<◌}
use native.Mathlib.Omega.{arith}
use lib.Dec.{eqb}
use lib.ListN.{length, get_or, replicate, length-append, length-replicate}
use borrow.Author.Tests.{eqb-true}
use Rattle.le.proofs.Parts.{by-test}
use Rattle.slot.proofs.Laws.{cond-true, cond-false}
use Rattle.config.proofs.Laws.{sound}
use Rattle.config.specs.declared.negotiated.Negotiated.{Negotiated}
use Rattle.config.specs.Config.{cap_of}
use Rattle.config.specs.Negotiated.{policy_of}
use Rattle.slot.specs.declared.ChannelSlot.{ChannelSlot}
use Rattle.state.specs.State.{state_of}
use Rattle.connection.specs.Answer.{answer_number, answer_values}
use Rattle.connection.specs.Calls.{Outcome}
use Rattle.connection.specs.Frames.{Sent}
use Rattle.history.specs.Run.{Call, open_call, dispatch_call, settle_call, take_call, read_call, write_call, close_call, front_taken, look_call, accept_call, reject_call, let_go_call, verdict_call, bytes_in, received_in, World, lent, outcome, after}
use Rattle.history.specs.Seen.{Seen}
use Rattle.history.specs.Book.{Book, Ledger, book_at, book_after, entry_on, opened_b, acks_b, acking, acked_b, acks_of, is_refused}
use Rattle.history.specs.Demand3.{place_slot, run_of}
use Rattle.history.specs.Numbers.{given_by}
use Rattle.history.proofs.Credited.{none-read}
use Rattle.history.proofs.Good.{Good}
use Rattle.history.proofs.Joins.{KeptAt}
use Rattle.history.proofs.Opens.{Opens, fills, leaves}
use Rattle.history.proofs.Packets.{body-small}
use Rattle.history.proofs.Theorem.{counted, terms, book-keeps}
use Rattle.ends.proofs.Books.{Moves, entry-moves}
use Rattle.ends.proofs.Host.{Accepts-none, number-is, values-are, uses, next, now-is, ask-opens}
use Rattle.ends.proofs.Joint.{is-to, bytes-in}
use Rattle.ends.proofs.Lined.{Packeted, idle, took}
use Rattle.ends.proofs.Live.{agreed-of, Live, seen-by, next-books, rows-long, live-pending, book-good, there-slot}
use Rattle.std.specs.Prelude.{Option, Some, None}

-- ---- a book with small sums

-- b, counted anew beside its slot: accepted is what is unacknowledged or what is buffered, whichever is more
abbrev anew : Book → ChannelSlot → List ℕ → Book
anew b s q =
    record {
      there = b.there;
      local = b.local;
      remote = b.remote;
      opening = b.opening;
      sent = length (replicate (s.unacked - s.buffered) 0 ++ q);
      accepted = replicate (s.unacked - s.buffered) 0 ++ q;
      handed = replicate (s.unacked - s.buffered) 0;
      acked = s.buffered - s.unacked;
      aside = b.aside;
      closed = b.closed;
      kept = false;
      over = b.over;
    }

module _ (n : Negotiated) (s : ChannelSlot) (q : List ℕ) (b : Book) (g : Good (policy_of n) (terms false n) s q b) (delayed : (policy_of n).delayed ≡ true) (closed : b.closed ≡ false) where
  anew-handed : length (anew b s q).handed ≡ s.unacked - s.buffered
  anew-handed = length-replicate {A = ℕ} (s.unacked - s.buffered) 0

  anew-length : length (anew b s q).accepted ≡ (s.unacked - s.buffered) + s.buffered
  anew-length =
      let a = length-append (replicate (s.unacked - s.buffered) 0) q in
      let c = anew-handed in
      let d = g.run in
      omega arith

  anew-good : Good (policy_of n) (counted false false n) s q (anew b s q)
  anew-good =
      let m = g.nums in
      let o = g.owed delayed closed in
      let l = anew-length in
      let h = anew-handed in
      record {
        filled = g.filled;
        known = g.known;
        there = g.there;
        loc = g.loc;
        rem = g.rem;
        opened = g.opened;
        run = g.run;
        stream = refl;
        nums = record { all = omega arith; inside = m.inside; room = m.room; within = m.within; counted = omega arith; acks = omega arith };
        ends = g.ends;
        owed = λ d c. record { same = o.same; held = o.held; low = omega arith; high = omega arith };
        kept = λ d k. absurd (true≢false (sym k));
        tally = record { delayed = λ u d. absurd (true≢false (sym u)); plain = g.tally.plain };
        even = λ t d c. absurd (true≢false (sym t));
      }

-- ---- what a call adds to a book

-- the bytes that a channel of number l takes of the packet that was used
abbrev taken-by : ℕ → Option Sent → ℕ → ℕ
taken-by l got number = cond (is-to l got && not (is_refused number)) (length (bytes-in got)) 0

moves-takes : (got : Option Sent) (number : ℕ) (b c : Book) → Moves got number b c → length c.accepted ≡ length b.accepted + taken-by b.local got number
moves-takes got number b c m =
    let n = length (bytes-in got) in
    let t = is-to b.local got && not (is_refused number) in
    by-test (is-to b.local got)
    (λ u. by-test (is_refused number)
    (λ v. let z = cond-false t n 0 (ap₂ (λ (x y : Bool). x && not y) u v) in let e = ap length (m.refuses u v) in omega arith)
    (λ v. let z = cond-true t n 0 (ap₂ (λ (x y : Bool). x && not y) u v) in
    let e = ap length (m.takes u v) in
    let a = length-append b.accepted (bytes-in got) in
    omega arith))
    (λ u. let z = cond-false t n 0 (ap (λ (x : Bool). x && not (is_refused number)) u) in let e = ap length (m.other u).0 in omega arith)

-- a channel that stands is not at a place that a call fills
module _ (r : List ℕ) (rx store b g : ℕ) (w : World) (y : Ledger) (live : Live r rx store b g w y) (i : ℕ) (filled : (place_slot w i).filled ≡ true) where
  -- where no slot is filled, or another
  other-filled : (x : Call) (c d : Book) (n : ℕ) (vs : List ℕ) → (seen-by w x).number ≡ n → (seen-by w x).values ≡ vs → (eqb n 0 && eqb (get_or vs 0 0) i) ≡ false
      → cond (eqb (seen-by w x).number 0 && eqb (get_or (seen-by w x).values 0 0) i) d c ≡ c
  other-filled x c d n vs e f z =
      cond-false (eqb (seen-by w x).number 0 && eqb (get_or (seen-by w x).values 0 0) i) d c (ap₂ (λ (k : ℕ) (v : List ℕ). eqb k 0 && eqb (get_or v 0 0) i) e f ∙ z)

  unopened : (x : Call) → Accepts-none w x → (c : Book) → opened_b i y.asked x (seen-by w x) c ≡ c
  unfolding opened_b answer_number answer_values
  unopened (open_call out destination received) none c = by-opens _ refl (ask-opens r rx store b g w y live out destination received)
    where
      by-opens : (o : Outcome) → outcome w (open_call out destination received) ≡ o → Opens (lent w) (bytes_in received) o
          → opened_b i y.asked (open_call out destination received) (seen-by w (open_call out destination received)) c ≡ c
      by-opens o q (leaves x1 e t) =
          let x = open_call out destination received in
          other-filled x c _ _ _ (number-is r rx store b g w y live x tt) refl
          (ap (λ (z : Bool). z && eqb (get_or (seen-by w x).values 0 0) i) (ap (λ (z : Outcome). eqb (answer_number z.answer) 0) q ∙ e))
      by-opens o q (fills x1 t k sy e1 e2 e3 e5 on off e4 rd mine us) =
          let x = open_call out destination received in
          let pend = (state_of w.state).header.pending in
          let an = ap (λ (z : Outcome). z.answer) q ∙ e1 in
          by-test (eqb pend.slot i)
          (λ u. absurd (true≢false (sym filled ∙ ap (λ (z : ℕ). (place_slot w z).filled) (sym (eqb-true pend.slot i u)) ∙ (live-pending r rx store b g w y live on).1)))
          (λ u. other-filled x c _ 0 _ (number-is r rx store b g w y live x tt ∙ ap answer_number an) (values-are r rx store b g w y live x tt ∙ ap answer_values an) u)
  unopened (dispatch_call out received) none c = refl
  unopened (settle_call out ch want) none c = refl
  unopened (take_call ch buf) none c = refl
  unopened (read_call out ch buf received) none c = refl
  unopened (write_call spending out ch bytes received) none c = refl
  unopened (close_call out ch) none c = refl
  unopened front_taken none c = refl
  unopened (look_call q) none c = refl
  unopened (accept_call out) none c =
      let x = accept_call out in
      other-filled x c _ _ _ (number-is r rx store b g w y live x none) refl (ap (λ (z : Bool). z && eqb (get_or (seen-by w x).values 0 0) i) none.0)
  unopened (reject_call out) none c = refl
  unopened let_go_call none c = refl
  unopened (verdict_call out take remote credit) none c = absurd none

-- what a call adds to the book of a channel: what it acknowledges and what it takes
record Grows (more taken : ℕ) (b c : Book) : Type 0 where
  pub acked : c.acked ≡ b.acked + more
  pub accepted : length c.accepted ≡ length b.accepted + taken
  pub closed : c.closed ≡ false → b.closed ≡ false

module _ (r : List ℕ) (rx store b g : ℕ) (w : World) (y : Ledger) (live : Live r rx store b g w y) (x : Call) (none : Accepts-none w x) (got : Option Sent)
    (tk : Packeted (received_in x) (lent w).state.header.negotiated.config.max_payload (outcome w x) got) (small : g + given_by x (seen-by w x) < 2 ^ 32) (i : ℕ) where
  abbrev n : Negotiated
  n = agreed-of w

  abbrev s : Seen
  s = seen-by w x

  -- any book that goes with a slot that is filled
  module _ (filled : (place_slot w i).filled ≡ true) (k : Book) (there : k.there ≡ true) where
    abbrev inner : Book
    inner = entry_on (policy_of n) y.books i x s k

    abbrev then : Book
    then = book_after (policy_of n) y.books y.asked x s i k

    abbrev fs : List Sent
    fs = acking x s.sent

    then-is : then ≡ acks_b fs inner
    unfolding book_after
    then-is = ap (acks_b fs) (unopened r rx store b g w y live i filled x none (cond k.there inner k) ∙ cond-true k.there inner k there)

    grows : then.there ≡ true → Grows (acks_of k.local fs) (taken-by k.local got s.number) k then
    unfolding acks_b
    grows t =
        by-test inner.there
        (λ it. let q : then ≡ acked_b (acks_of inner.local fs) inner = then-is ∙ cond-true inner.there (acked_b (acks_of inner.local fs) inner) inner it in
        let m = entry-moves (policy_of n) y.books i s got k x (uses r rx store b g w y live x none got tk small) it in
        record {
          acked = ap (λ (z : Book). z.acked) q ∙ ap₂ (λ (u v : ℕ). u + v) m.acked (ap (λ (z : ℕ). acks_of z fs) m.local);
          accepted = ap (λ (z : Book). length z.accepted) q ∙ moves-takes got s.number k inner m;
          closed = λ c. m.closed (sym (ap (λ (z : Book). z.closed) q) ∙ c);
        })
        (λ it. let q : then ≡ inner = then-is ∙ cond-false inner.there (acked_b (acks_of inner.local fs) inner) inner it in
        absurd (true≢false (sym t ∙ ap (λ (z : Book). z.there) q ∙ it)))

  -- no packet is longer than a payload may be
  got-small : length (bytes-in got) ≤ (cap_of n.config)
  got-small =
      let z = (sound n.config live.holds.facts.limits.within).payload-fits in
      let a = by-packet got tk in
      omega arith
    where
      by-packet : (f : Option Sent) → Packeted (received_in x) (lent w).state.header.negotiated.config.max_payload (outcome w x) f → length (bytes-in f) ≤ n.config.max_payload
      by-packet None (idle u) = omega arith
      by-packet (Some f) (took k q sy c a0 a1 pay us four) =
          let a = body-small (received_in x) n.config.max_payload k sy in
          let e = ap length pay in
          omega arith

  abbrev was : Book
  was = book_at y i

  abbrev now : Book
  now = book_at (next-books w y x) i

  -- of a channel that stands and is open: what is accepted joins what is unacknowledged, and what is acknowledged leaves it
  pub unacked-moves : was.there ≡ true → now.there ≡ true → now.closed ≡ false → (place_slot w i).unacked + length (bytes-in got) < 2 ^ 64
      → (place_slot (after w x) i).unacked + now.acked + length was.accepted ≡ (place_slot w i).unacked + was.acked + length now.accepted
  unfolding policy_of
  unacked-moves t0 t1 c1 most =
      let slot = place_slot w i in
      let q = run_of w.rx (policy_of n).rx_cap i slot in
      let f0 = there-slot r rx store b g w y live i t0 in
      let live1 = next r rx store b g w y live x none got tk small in
      let f1 = there-slot r rx store live.given.k (g + given_by x (seen-by w x)) (after w x) (next-books w y x) live1 i t1 in
      let g0 = book-good r rx store b g w y live i f0 in
      let g1 = book-good r rx store live.given.k (g + given_by x (seen-by w x)) (after w x) (next-books w y x) live1 i f1 in
      let same = now-is r rx store b g w y live x none got tk small i t1 in
      let real = grows f0 was t0 (ap (λ (z : Book). z.there) (sym same) ∙ t1) in
      let c0 = real.closed (ap (λ (z : Book). z.closed) (sym same) ∙ c1) in
      let fresh = anew was slot q in
      let kb : KeptAt (policy_of n) (counted false false n) i (state_of w.state).slots w.rx fresh =
      record { full = λ f. anew-good n slot q was g0 live.delayed c0; none = λ f. absurd (true≢false (sym f0 ∙ f)) } in
      let g2 = (book-keeps none-read w r rx store live.holds (rows-long r rx store b g w y live) live.given.apart y live.kept i false fresh kb x (λ t. absurd (true≢false (sym t)))).full f1 in
      let less = grows f0 fresh t0 g2.there in
      let o = g2.owed live.delayed (g2.ends ∙ sym g1.ends ∙ c1) in
      let m = g0.nums in
      let room = m.room in
      let within = m.within in
      let cs = (sound n.config live.holds.facts.limits.within).cap-small in
      let gs = got-small in
      let al = anew-length n slot q was g0 live.delayed c0 in
      let low = o.low in
      let high = o.high in
      let la = less.accepted in
      let lk = less.acked in
      let ra = real.accepted in
      let rk = real.acked in
      let na = ap (λ (z : Book). z.acked) same in
      let nl = ap (λ (z : Book). length z.accepted) same in
      let tb : taken-by was.local got s.number ≤ length (bytes-in got) = taken-most was.local in
      omega arith
    where
      taken-most : (l : ℕ) → taken-by l got s.number ≤ length (bytes-in got)
      taken-most l =
          let t = is-to l got && not (is_refused s.number) in
          by-test t (λ u. let z = cond-true t (length (bytes-in got)) 0 u in omega arith) (λ u. let z = cond-false t (length (bytes-in got)) 0 u in omega arith)

-- of an open channel that has accepted nothing, as one that a call filled: none
module _ (r : List ℕ) (rx store b g : ℕ) (w : World) (y : Ledger) (live : Live r rx store b g w y) where
  pub unacked-new : (i : ℕ) → (book_at y i).there ≡ true → (book_at y i).closed ≡ false → (book_at y i).accepted ≡ [] → (place_slot w i).unacked ≡ 0
  unacked-new i t c e =
      let o = (book-good r rx store b g w y live i (there-slot r rx store b g w y live i t)).owed live.delayed c in
      let low = o.low in
      let z = ap length e in
      omega arith
