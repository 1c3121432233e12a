-- What a channel's book and its slot have in common, and the moves that keep it: a step of a slot beside its entry in the
-- book. Assumes nothing.
use mathlib.Core.Path.{◌≡◌, refl, sym, ap, subst, ◌∙◌}
use mathlib.Core.Bool.{Bool, true, false, cond, ◌||◌, true≢false}
use mathlib.Core.List.{List, [], ◌++◌, append_assoc, append-nil}
use Prim.Native.Nat.{ℕ, suc, ◌+◌, ◌-◌, ◌^◌, ◌≤◌, ◌<◌, min}
use native.Mathlib.Omega.{arith}
use lib.Dec.{eqb, ltb, leb}
use lib.IntN.{ℤ}
use lib.ListN.{length, take, drop, length-append, length-take, length-drop, take-append-drop}
use borrow.Author.Tests.{eqb-true, eqb-false, eq-eqb, ltb-true, le-ltb}
use Rattle.le.proofs.Parts.{by-test}
use Rattle.config.specs.declared.negotiated.RxPolicy.{RxPolicy}
use Rattle.config.proofs.Laws.{and-true}
use Rattle.saturate.specs.Saturate.{sat_sum}
use Rattle.slot.specs.declared.ids.LocalId.{LocalId}
use Rattle.slot.specs.declared.ids.RemoteId.{RemoteId}
use Rattle.slot.specs.declared.ChannelSlot.{ChannelSlot}
use Rattle.slot.specs.declared.Settled.{Settled}
use Rattle.slot.specs.Slot.{with_total, total_with, take_len, opening_slot, opened_by, opened_of, ready_by, ready_of, spent_of, is_opening, acks_now, wrote_of, with_numbers, with_sending, acked, is_closed, held_of, buffered_with, some_len, delivered_of, ack_len_of, settled_by, settled_some, settled_of, took_of, closed_slot}
use Rattle.credit.specs.Credit.{credit_of}
use Rattle.slot.specs.Wrote.{Wrote, left_by}
use Rattle.slot.proofs.Kept.{pick}
use Rattle.slot.proofs.Laws.{cond-true, cond-false}
use Rattle.connection.specs.Answer.{ack_length}
use Rattle.history.specs.Book.{Book, within_rule, new_book, sent_b, accepted_b, handed_b, acked_b, closed_b, over_b, book_slot, new_aside, settle_b}
use Rattle.credit.specs.declared.CreditFault.{CreditFault}
use Rattle.std.specs.Prelude.{Option, Some, None, Result, Ok, Err}

-- the numbers of a channel, whatever its mode
pub record Nums (cap buffered settled accepted handed acked sent : ℕ) : Type 0 where
  pub all : handed + buffered ≡ accepted
  pub inside : settled ≤ buffered
  pub room : buffered ≤ settled + cap
  pub within : settled ≤ cap
  pub counted : accepted ≤ sent
  pub acks : acked ≤ handed + settled

-- what is owed, in delayed mode and closed by neither end
pub record Owed (buffered settled unacked accepted acked aside : ℕ) : Type 0 where
  pub same : aside ≡ settled
  pub held : buffered ≤ settled + unacked
  pub low : acked + unacked ≤ accepted
  pub high : min accepted (2 ^ 64 - 1) ≤ acked + unacked

-- what our OPENs carry in delayed mode; whether the channel is read by reads alone; whether the book's sum of credit is the slot's
pub record Terms : Type 0 where
  pub credit : ℕ
  pub reads : Bool
  pub counts : Bool

-- the slot's total beside the book's sum of credit
pub record Tally (p : RxPolicy) (counts : Bool) (total acked : ℕ) : Type 0 where
  pub delayed : counts ≡ true → p.delayed ≡ true → total ≡ min acked (2 ^ 64 - 1)
  pub plain : p.delayed ≡ false → total ≡ 0

-- q: the bytes that the slot has buffered
pub record Good (p : RxPolicy) (credit : Terms) (s : ChannelSlot) (q : List ℕ) (b : Book) : Type 0 where
  pub filled : s.filled ≡ true
  pub known : s.has_remote ≡ true
  pub there : b.there ≡ true
  pub loc : b.local ≡ s.local.0
  pub rem : b.remote ≡ s.remote.0
  pub opened : p.delayed ≡ true → b.opening ≡ credit.credit
  pub run : length q ≡ s.buffered
  pub stream : b.handed ++ q ≡ b.accepted
  pub nums : Nums p.rx_cap s.buffered s.settled (length b.accepted) (length b.handed) b.acked b.sent
  pub ends : b.closed ≡ is_closed s.state
  pub owed : p.delayed ≡ true → b.closed ≡ false → Owed s.buffered s.settled s.unacked (length b.accepted) b.acked b.aside
  pub kept : p.delayed ≡ true → b.kept ≡ true → b.over ≡ false
  pub tally : Tally p credit.counts s.acked_total b.acked
  -- what reads hand over was acknowledged
  pub even : credit.reads ≡ true → p.delayed ≡ true → b.closed ≡ false → length b.handed + s.settled ≤ b.acked

-- what limits that are kept give
pub record Limits (p : RxPolicy) (credit : Terms) (most : ℕ) : Type 0 where
  pub fits : credit.credit + most ≤ suc p.rx_cap
  pub payload : most ≤ p.rx_cap
  pub small : p.rx_cap ≤ 16777216

-- the credit that an acknowledgement's OKAY carries: none where acknowledgements are not delayed
unfoldable pub carried : RxPolicy → Option ℕ → ℕ
carried p a = cond p.delayed (ack_length a) 0

pub carried_none : (p : RxPolicy) → carried p None ≡ 0
unfolding carried ack_length
carried_none p = by-test p.delayed (λ d. cond-true p.delayed 0 0 d) (λ d. cond-false p.delayed 0 0 d)

pub carried-delayed : (p : RxPolicy) (a : Option ℕ) → p.delayed ≡ true → carried p a ≡ ack_length a
unfolding carried
carried-delayed p a d = cond-true p.delayed _ 0 d

pub carried-plain : (p : RxPolicy) (a : Option ℕ) → p.delayed ≡ false → carried p a ≡ 0
unfolding carried
carried-plain p a d = cond-false p.delayed _ 0 d

-- credit of 0 adds none
tally-none : (p : RxPolicy) (c : Bool) (t a k : ℕ) → k ≡ 0 → Tally p c t a → Tally p c t (a + k)
tally-none p c t a k z y = record { delayed = λ u d. let e = y.delayed u d in omega arith; plain = y.plain }

tally-drop : (p : RxPolicy) (c : Bool) (t a k : ℕ) → k ≡ 0 → Tally p c t (a + k) → Tally p c t a
tally-drop p c t a k z y = record { delayed = λ u d. let e = y.delayed u d in omega arith; plain = y.plain }

-- an OKAY that carries k in delayed mode
tally-more : (p : RxPolicy) (q : Bool) (t a k c : ℕ) → (p.delayed ≡ true → c ≡ k) → Tally p q t a → Tally p q (total_with p t k) (a + c)
unfolding total_with sat_sum
tally-more p q t a k c f y =
    record {
      delayed = λ u d. cond-true p.delayed _ t d ∙ (let e = y.delayed u d in let g = f d in let r : min (t + k) (2 ^ 64 - 1) ≡ min (a + c) (2 ^ 64 - 1) = omega arith in r);
      plain = λ d. cond-false p.delayed _ t d ∙ y.plain d;
    }

-- what the device's rule says
rule-says : (before : ℕ) (b : Book) → within_rule before b ≡ true → b.sent < b.opening + before
rule-says before b e = ltb-true b.sent (b.opening + before) e

-- ---- settling

-- in delayed mode a settling of n bytes acknowledges the least of them and of what is unacknowledged
ack-delayed : (s : ChannelSlot) (p : RxPolicy) (n rest : ℕ) → p.delayed ≡ true → ack_length (ack_len_of s p n rest) ≡ min n s.unacked
unfolding ack_len_of some_len ack_length
ack-delayed s p n rest d =
    by-test (eqb s.unacked 0)
    (λ z. let u = eqb-true s.unacked 0 z in ap ack_length (cond-true (eqb s.unacked 0) _ _ z) ∙ (let e : 0 ≡ min n s.unacked = omega arith in e))
    (λ z. ap ack_length (cond-false (eqb s.unacked 0) _ _ z ∙ cond-true p.delayed _ _ d)
    ∙ by-test (eqb (min n s.unacked) 0)
    (λ y. ap ack_length (cond-true (eqb (min n s.unacked) 0) _ _ y) ∙ sym (eqb-true (min n s.unacked) 0 y))
    (λ y. ap ack_length (cond-false (eqb (min n s.unacked) 0) None _ y)))

-- some bytes are set aside already; or n may be, and a is acknowledged
pub data Settles (s : ChannelSlot) (p : RxPolicy) (n : ℕ) (r : Settled) : Type 0 where
  already : eqb s.settled 0 ≡ false → r ≡ acked s None → Settles s p n r
  not-due : s.settled ≡ 0 → (p.delayed ≡ true → 0 ≡ min n s.unacked) → r ≡ acked s None → Settles s p n r
  due : (k : ℕ) → s.settled ≡ 0 → (p.delayed ≡ true → k ≡ min n s.unacked) → r ≡ acked (with_total (with_numbers s (s.unacked - k) n s.head s.buffered) (total_with p s.acked_total k)) (Some k) → Settles s p n r

settles-by : (s : ChannelSlot) (p : RxPolicy) (n : ℕ) (a : Option ℕ) → s.settled ≡ 0 → (p.delayed ≡ true → ack_length a ≡ min n s.unacked) → Settles s p n (settled_by s p n a)
unfolding settled_by ack_length
settles-by s p n (Some k) z h = due k z h refl
settles-by s p n None z h = not-due z h refl

pub settles : (s : ChannelSlot) (p : RxPolicy) (want : ℕ) → s.has_remote ≡ true → Settles s p (min want s.buffered) (settled_of s p want)
unfolding settled_of settled_some
settles s p want k =
    let n = min want s.buffered in
    by-test (eqb s.settled 0)
    (λ z. subst (Settles s p n) (sym (cond-true s.has_remote _ _ k ∙ cond-true (eqb s.settled 0) _ _ z))
    (settles-by s p n (ack_len_of s p n (s.buffered - n)) (eqb-true s.settled 0 z) (λ d. ack-delayed s p n (s.buffered - n) d)))
    (λ z. subst (Settles s p n) (sym (cond-true s.has_remote _ _ k ∙ cond-false (eqb s.settled 0) _ _ z)) (already z refl))

-- in delayed mode with all that is held unacknowledged, all that may be is set aside
aside-by : (s : ChannelSlot) (p : RxPolicy) (n : ℕ) (r : Settled) → p.delayed ≡ true → n ≤ s.settled + s.unacked → Settles s p n r
    → r.slot.settled ≡ cond (eqb s.settled 0) n s.settled
aside-by s p n r d h (already z e) = ap (λ (x : Settled). x.slot.settled) e ∙ sym (cond-false (eqb s.settled 0) n s.settled z)
aside-by s p n r d h (not-due z f e) =
    let g = f d in
    let m : s.settled ≡ n = omega arith in
    ap (λ (x : Settled). x.slot.settled) e ∙ m ∙ sym (cond-true (eqb s.settled 0) n s.settled (eq-eqb s.settled 0 z))
aside-by s p n r d h (due k z f e) = ap (λ (x : Settled). x.slot.settled) e ∙ sym (cond-true (eqb s.settled 0) n s.settled (eq-eqb s.settled 0 z))

module _ (p : RxPolicy) (credit : Terms) (s : ChannelSlot) (q : List ℕ) (b : Book) (want : ℕ) (g : Good p credit s q b) where
  -- what the book sets aside is what the slot does
  book-aside : p.delayed ≡ true → b.closed ≡ false → new_aside p want b ≡ cond (eqb s.settled 0) (min want s.buffered) s.settled - s.settled
  unfolding new_aside book_slot
  book-aside d c =
      let o = g.owed d c in
      let m = g.nums in
      let t = book_slot b in
      let now = cond (eqb s.settled 0) (min want s.buffered) s.settled in
      let r : length b.accepted - length b.handed ≡ s.buffered = omega arith in
      let e : (settled_of t p want).slot.settled ≡ now =
      aside-by t p (min want t.buffered) (settled_of t p want) d (omega arith) (settles t p want refl)
      ∙ ap (λ (x : ℕ). cond (eqb x 0) (min want (length b.accepted - length b.handed)) x) o.same
      ∙ ap (λ (x : ℕ). cond (eqb s.settled 0) (min want x) s.settled) r in
      let k : now ≤ p.rx_cap =
      by-test (eqb s.settled 0)
      (λ z. let z0 = eqb-true s.settled 0 z in let w = cond-true (eqb s.settled 0) (min want s.buffered) s.settled z in omega arith)
      (λ z. let w = cond-false (eqb s.settled 0) (min want s.buffered) s.settled z in omega arith) in
      let x = o.same in
      omega arith

  abbrev after-settling : Settled → Type 0
  after-settling r = Good p credit r.slot q (acked_b (carried p r.ack) (settle_b p want b))

  aside_same : s.settled ≡ cond (eqb s.settled 0) (min want s.buffered) s.settled → p.delayed ≡ true → b.closed ≡ false → new_aside p want b ≡ 0
  aside_same e d c = let z = book-aside d c in omega arith

  -- the slot stays, and the book sets nothing aside
  settle-none : (p.delayed ≡ true → b.closed ≡ false → new_aside p want b ≡ 0) → Good p credit s q (acked_b (carried p None) (settle_b p want b))
  settle-none h =
      let k = carried_none p in
      record {
        filled = g.filled;
        known = g.known;
        there = g.there;
        loc = g.loc;
        rem = g.rem;
        opened = g.opened;
        run = g.run;
        stream = g.stream;
        ends = g.ends;
        kept = g.kept;
        nums = let m = g.nums in record { all = m.all; inside = m.inside; room = m.room; within = m.within; counted = m.counted; acks = omega arith };
        owed = λ d c. let o = g.owed d c in let z = h d c in record { same = omega arith; held = o.held; low = omega arith; high = omega arith };
        tally = tally-none p _ _ _ _ k g.tally;
        even = λ t d c. let v = g.even t d c in omega arith;
      }

  settle-some : (k : ℕ) → s.settled ≡ 0 → (p.delayed ≡ true → k ≡ min (min want s.buffered) s.unacked)
      → Good p credit (with_total (with_numbers s (s.unacked - k) (min want s.buffered) s.head s.buffered) (total_with p s.acked_total k)) q (acked_b (carried p (Some k)) (settle_b p want b))
  unfolding ack_length
  settle-some k z f =
      let m = g.nums in
      record {
        filled = g.filled;
        known = g.known;
        there = g.there;
        loc = g.loc;
        rem = g.rem;
        opened = g.opened;
        run = g.run;
        stream = g.stream;
        ends = g.ends;
        kept = g.kept;
        nums =
            record {
              all = m.all;
              inside = omega arith;
              room = omega arith;
              within = omega arith;
              counted = m.counted;
              acks = by-test p.delayed
                  (λ d. let e = f d in let y = carried-delayed p (Some k) d in omega arith)
                  (λ d. let y = carried-plain p (Some k) d in omega arith);
            };
        owed = λ d c.
            let o = g.owed d c in
            let e = f d in
            let y = carried-delayed p (Some k) d in
            let x = book-aside d c in
            let w : cond (eqb s.settled 0) (min want s.buffered) s.settled ≡ min want s.buffered = cond-true (eqb s.settled 0) _ _ (eq-eqb s.settled 0 z) in
            record { same = omega arith; held = omega arith; low = omega arith; high = omega arith };
        tally = tally-more p _ _ _ k _ (λ d. carried-delayed p (Some k) d) g.tally;
        even = λ t d c. let o = g.owed d c in let e = f d in let y : carried p (Some k) ≡ k = carried-delayed p (Some k) d in let v = g.even t d c in omega arith;
      }

  settle-by : (r : Settled) → Settles s p (min want s.buffered) r → after-settling r
  settle-by r (already z e) = subst after-settling (sym e) (settle-none (aside_same (sym (cond-false (eqb s.settled 0) _ _ z))))
  settle-by r (not-due z f e) =
      subst after-settling (sym e)
      (settle-none (λ d c.
      let o = g.owed d c in
      let y = f d in
      let w = cond-true (eqb s.settled 0) (min want s.buffered) s.settled (eq-eqb s.settled 0 z) in
      aside_same (omega arith) d c))
  settle-by r (due k z f e) = subst after-settling (sym e) (settle-some k z f)

  -- a settling, with the credit of its OKAY
  pub settle-good : Good p credit (settled_of s p want).slot q (acked_b (carried p (settled_of s p want).ack) (settle_b p want b))
  settle-good = settle-by (settled_of s p want) (settles s p want g.known)

len-zero : (k : ℕ) → k ≡ 0 → ack_length (Some k) ≡ 0
unfolding ack_length
len-zero k h = h

buffered-by : (s : ChannelSlot) (p : RxPolicy) (n : ℕ) (r : Settled) → Settles s p n r → r.slot.buffered ≡ s.buffered
buffered-by s p n r (already z e) = ap (λ (x : Settled). x.slot.buffered) e
buffered-by s p n r (not-due z f e) = ap (λ (x : Settled). x.slot.buffered) e
buffered-by s p n r (due k z f e) = ap (λ (x : Settled). x.slot.buffered) e

-- so a read takes no more than was set aside
pub settled-takes : (p : RxPolicy) (credit : Terms) (s : ChannelSlot) (q : List ℕ) (b : Book) (room : ℕ) → Good p credit s q b → p.delayed ≡ true → b.closed ≡ false
    → take_len (settled_of s p room).slot room ≤ (settled_of s p room).slot.settled
unfolding take_len
settled-takes p credit s q b room g d c =
    let o = g.owed d c in
    let t = (settled_of s p room).slot in
    let v = settles s p room g.known in
    let e = aside-by s p (min room s.buffered) (settled_of s p room) d (omega arith) v in
    let f = buffered-by s p (min room s.buffered) (settled_of s p room) v in
    by-test (eqb t.settled 0)
    (λ z. let z0 = eqb-true t.settled 0 z in
    let w = cond-true (eqb t.settled 0) t.buffered t.settled z in
    by-test (eqb s.settled 0)
    (λ y. let u = cond-true (eqb s.settled 0) (min room s.buffered) s.settled y in omega arith)
    (λ y. let u = cond-false (eqb s.settled 0) (min room s.buffered) s.settled y in absurd (eqb-false s.settled 0 y (sym u ∙ sym e ∙ z0))))
    (λ z. let w = cond-false (eqb t.settled 0) t.buffered t.settled z in omega arith)

-- with nothing buffered a settling acknowledges nothing in delayed mode
carried-by : (s : ChannelSlot) (p : RxPolicy) (n : ℕ) (r : Settled) → n ≡ 0 → Settles s p n r → carried p r.ack ≡ 0
carried-by s p n r z (already y e) = ap (λ (x : Settled). carried p x.ack) e ∙ carried_none p
carried-by s p n r z (not-due y f e) = ap (λ (x : Settled). carried p x.ack) e ∙ carried_none p
carried-by s p n r z (due k y f e) =
    ap (λ (x : Settled). carried p x.ack) e
    ∙ by-test p.delayed (λ d. let h = f d in carried-delayed p (Some k) d ∙ len-zero k (omega arith)) (λ d. carried-plain p (Some k) d)

pub settle-empty : (s : ChannelSlot) (p : RxPolicy) (want : ℕ) → s.has_remote ≡ true → s.buffered ≡ 0 → carried p (settled_of s p want).ack ≡ 0
settle-empty s p want k z = carried-by s p (min want s.buffered) (settled_of s p want) (omega arith) (settles s p want k)

-- credit of 0 is none
pub acked-drop : (p : RxPolicy) (credit : Terms) (s : ChannelSlot) (q : List ℕ) (b : Book) (k : ℕ) → k ≡ 0 → Good p credit s q (acked_b k b) → Good p credit s q b
acked-drop p credit s q b k z g =
    let m = g.nums in
    record {
      filled = g.filled;
      known = g.known;
      there = g.there;
      loc = g.loc;
      rem = g.rem;
      opened = g.opened;
      run = g.run;
      stream = g.stream;
      ends = g.ends;
      kept = g.kept;
      nums = record { all = m.all; inside = m.inside; room = m.room; within = m.within; counted = m.counted; acks = omega arith };
      owed = λ d c. let o = g.owed d c in record { same = o.same; held = o.held; low = omega arith; high = omega arith };
      tally = tally-drop p _ _ _ k z g.tally;
      even = λ t d c. let v = g.even t d c in omega arith;
    }

-- ---- the other moves

module _ (p : RxPolicy) (credit : Terms) (s : ChannelSlot) (q : List ℕ) (b : Book) (g : Good p credit s q b) where
  -- n bytes taken from the front of the run
  pub took-good : (n : ℕ) → (credit.reads ≡ true → p.delayed ≡ true → b.closed ≡ false → n ≤ s.settled) → Good p credit (took_of s n) (drop n q) (handed_b (take n q) b)
  unfolding took_of
  took-good n fits =
      let m = g.nums in
      let r = g.run in
      let lt = length-take n q in
      let ld = length-drop n q in
      let la = length-append b.handed (take n q) in
      record {
        filled = g.filled;
        known = g.known;
        there = g.there;
        loc = g.loc;
        rem = g.rem;
        opened = g.opened;
        ends = g.ends;
        kept = g.kept;
        run = omega arith;
        stream = append_assoc b.handed (take n q) (drop n q) ∙ ap (λ (x : List ℕ). b.handed ++ x) (take-append-drop n q) ∙ g.stream;
        nums = record { all = omega arith; inside = omega arith; room = omega arith; within = omega arith; counted = m.counted; acks = omega arith };
        owed = λ d c. let o = g.owed d c in record { same = omega arith; held = omega arith; low = o.low; high = o.high };
        tally = g.tally;
        even = λ t d c. let v = g.even t d c in let u = fits t d c in omega arith;
      }

  -- nothing handed over
  pub handed-none : Good p credit s q (handed_b [] b)
  handed-none =
      let e = append-nil b.handed in
      let l = ap length e in
      let m = g.nums in
      record {
        filled = g.filled;
        known = g.known;
        there = g.there;
        loc = g.loc;
        rem = g.rem;
        opened = g.opened;
        run = g.run;
        ends = g.ends;
        kept = g.kept;
        stream = ap (λ (x : List ℕ). x ++ q) e ∙ g.stream;
        nums = record { all = omega arith; inside = m.inside; room = m.room; within = m.within; counted = m.counted; acks = omega arith };
        owed = λ d c. let o = g.owed d c in record { same = omega arith; held = o.held; low = o.low; high = o.high };
        tally = g.tally;
        even = λ t d c. let v = g.even t d c in omega arith;
      }

  -- no credit
  pub acked-none : (k : ℕ) → k ≡ 0 → Good p credit s q (acked_b k b)
  acked-none k z =
      let m = g.nums in
      record {
        filled = g.filled;
        known = g.known;
        there = g.there;
        loc = g.loc;
        rem = g.rem;
        opened = g.opened;
        run = g.run;
        stream = g.stream;
        ends = g.ends;
        kept = g.kept;
        nums = record { all = m.all; inside = m.inside; room = m.room; within = m.within; counted = m.counted; acks = omega arith };
        owed = λ d c. let o = g.owed d c in record { same = o.same; held = o.held; low = omega arith; high = omega arith };
        tally = tally-none p _ _ _ k z g.tally;
        even = λ t d c. let v = g.even t d c in omega arith;
      }

  -- a WRTE of n bytes was used
  pub sent-good : (before n : ℕ) → Good p credit s q (sent_b before n b)
  sent-good before n =
      let m = g.nums in
      record {
        filled = g.filled;
        known = g.known;
        there = g.there;
        loc = g.loc;
        rem = g.rem;
        opened = g.opened;
        run = g.run;
        stream = g.stream;
        ends = g.ends;
        owed = g.owed;
        nums = record { all = m.all; inside = m.inside; room = m.room; within = m.within; counted = omega arith; acks = m.acks };
        kept = λ d k. g.kept d (and-true b.kept (within_rule before b) k).0;
        tally = g.tally;
        even = g.even;
      }

  -- refused, but not by 11
  pub quiet-good : Good p credit s q (over_b false b)
  quiet-good =
      record {
        filled = g.filled;
        known = g.known;
        there = g.there;
        loc = g.loc;
        rem = g.rem;
        opened = g.opened;
        run = g.run;
        stream = g.stream;
        ends = g.ends;
        owed = g.owed;
        nums = g.nums;
        kept = λ d k. ap (λ (x : Bool). x || false) (g.kept d k);
        tally = g.tally;
        even = g.even;
      }

  -- refused by 11: the device broke its rule
  pub refuse-good : (before n most : ℕ) → Limits p credit most → before ≤ b.acked → n ≤ most → p.rx_cap < held_of s + n → Good p credit s q (over_b true (sent_b before n b))
  unfolding held_of
  refuse-good before n most lim hb hn h =
      let m = g.nums in
      record {
        filled = g.filled;
        known = g.known;
        there = g.there;
        loc = g.loc;
        rem = g.rem;
        opened = g.opened;
        run = g.run;
        stream = g.stream;
        ends = g.ends;
        owed = g.owed;
        nums = record { all = m.all; inside = m.inside; room = m.room; within = m.within; counted = omega arith; acks = m.acks };
        kept = λ d k.
            let r = rule-says before b (and-true b.kept (within_rule before b) k).1 in
            let o = g.opened d in
            let f = lim.fits in
            absurd (omega arith);
        tally = g.tally;
        even = g.even;
      }

  -- closed by the device
  pub shut-good : Good p credit (closed_slot s) q (closed_b b)
  unfolding closed_slot is_closed
  shut-good =
      record {
        filled = g.filled;
        known = g.known;
        there = g.there;
        loc = g.loc;
        rem = g.rem;
        opened = g.opened;
        run = g.run;
        stream = g.stream;
        nums = g.nums;
        kept = g.kept;
        ends = refl;
        owed = λ d c. let z : true ≡ false = c in absurd (true≢false z);
        tally = g.tally;
        even = λ t d c. let z : true ≡ false = c in absurd (true≢false z);
      }

  -- the budget does not count
  pub sending-good : (a : Bool) (z : ℤ) → Good p credit (with_sending s a z) q b
  sending-good a z =
      record { filled = g.filled; known = g.known; there = g.there; loc = g.loc; rem = g.rem; opened = g.opened; run = g.run; stream = g.stream; nums = g.nums; ends = g.ends; owed = g.owed; kept = g.kept; tally = g.tally; even = g.even }

  -- a WRTE put behind the run
  module _ (before : ℕ) (body : List ℕ) (small : p.rx_cap ≤ 16777216) (h : held_of s + length body ≤ p.rx_cap) where
    buffered-good : (u : ℕ) → (p.delayed ≡ true → u ≡ sat_sum s.unacked (length body)) → Good p credit (buffered_with s p (length body) u) (q ++ body) (accepted_b body (sent_b before (length body) b))
    unfolding buffered_with held_of sat_sum
    buffered-good u f =
        let m = g.nums in
        let r = g.run in
        let l1 = length-append q body in
        let l2 = length-append b.accepted body in
        record {
          filled = g.filled;
          known = g.known;
          there = g.there;
          loc = g.loc;
          rem = g.rem;
          opened = g.opened;
          ends = g.ends;
          run = omega arith;
          stream = sym (append_assoc b.handed q body) ∙ ap (λ (x : List ℕ). x ++ body) g.stream;
          nums = record { all = omega arith; inside = omega arith; room = omega arith; within = m.within; counted = omega arith; acks = m.acks };
          kept = λ d k. g.kept d (and-true b.kept (within_rule before b) k).0;
          owed = λ d c.
              let o = g.owed d c in
              let e : u ≡ min (s.unacked + length body) (2 ^ 64 - 1) = f d in
              record { same = o.same; held = omega arith; low = omega arith; high = omega arith };
          tally = g.tally;
          even = g.even;
        }

    -- as `apply_write` decides: acknowledged at once, or held
    pub accept-good : is_opening s.state ≡ false → Good p credit (left_by s (wrote_of s p (length body))) (q ++ body) (accepted_b body (sent_b before (length body) b))
    unfolding wrote_of acks_now
    accept-good o =
        let n = length body in
        let G : Wrote → Type 0 = λ w. Good p credit (left_by s w) (q ++ body) (accepted_b body (sent_b before n b)) in
        subst G (sym (cond-false (is_opening s.state) _ _ o ∙ cond-false (ltb p.rx_cap (held_of s + n)) _ _ (le-ltb p.rx_cap (held_of s + n) h)))
        (pick G (acks_now s p (held_of s + n))
        (λ t. buffered-good 0 (λ d. absurd (true≢false (sym t ∙ cond-true p.delayed _ _ d))))
        (λ t. buffered-good (sat_sum s.unacked n) (λ d. refl)))

  -- a WRTE that goes straight to the reader
  module _ (before : ℕ) (body : List ℕ) (nil : q ≡ []) where
    direct_good : (u k t : ℕ) → (p.delayed ≡ true → (u ≡ s.unacked) × (k ≡ length body)) → k ≤ length body → Tally p credit.counts t (b.acked + k)
        → Good p credit (with_total (with_numbers s u s.settled s.head s.buffered) t) q (acked_b k (handed_b body (accepted_b body (sent_b before (length body) b))))
    direct_good u k t f le y0 =
        let m = g.nums in
        let r = g.run in
        let l0 : length q ≡ 0 = ap length nil in
        let l1 = length-append b.handed body in
        let l2 = length-append b.accepted body in
        let e : b.handed ≡ b.accepted = sym (append-nil b.handed) ∙ ap (λ (x : List ℕ). b.handed ++ x) (sym nil) ∙ g.stream in
        record {
          filled = g.filled;
          known = g.known;
          there = g.there;
          loc = g.loc;
          rem = g.rem;
          opened = g.opened;
          ends = g.ends;
          run = g.run;
          stream = ap (λ (x : List ℕ). b.handed ++ body ++ x) nil ∙ append-nil (b.handed ++ body) ∙ ap (λ (x : List ℕ). x ++ body) e;
          nums = record { all = omega arith; inside = m.inside; room = m.room; within = m.within; counted = omega arith; acks = omega arith };
          kept = λ d x. g.kept d (and-true b.kept (within_rule before b) x).0;
          owed = λ d c. let o = g.owed d c in let y = f d in let y2 = y.0 in let y1 = y.1 in record { same = omega arith; held = omega arith; low = omega arith; high = omega arith };
          tally = y0;
          even = λ t d c. let v = g.even t d c in let w = f d in let w1 = w.1 in omega arith;
        }

    abbrev after-direct : Settled → Type 0
    after-direct r = Good p credit r.slot q (acked_b (carried p r.ack) (handed_b body (accepted_b body (sent_b before (length body) b))))

    some-length : (n : ℕ) → ack_length (some_len n) ≡ n
    unfolding some_len ack_length
    some-length n =
        by-test (eqb n 0) (λ z. ap ack_length (cond-true (eqb n 0) None _ z) ∙ sym (eqb-true n 0 z)) (λ z. ap ack_length (cond-false (eqb n 0) None _ z))

    -- what its OKAY carries is its length, in delayed mode
    direct-delayed : (a : Option ℕ) → p.delayed ≡ true → ack_length a ≡ length body → after-direct (acked (with_total s (total_with p s.acked_total (length body))) a)
    direct-delayed a d e =
        let c = carried-delayed p a d in
        direct_good s.unacked (carried p a) (total_with p s.acked_total (length body)) (λ x. (refl, c ∙ e)) (omega arith)
        (tally-more p credit.counts s.acked_total b.acked (length body) (carried p a) (λ x. c ∙ e) g.tally)

    direct-plain : (u : ℕ) (a : Option ℕ) → p.delayed ≡ false → after-direct (acked (with_numbers s u s.settled s.head s.buffered) a)
    direct-plain u a d =
        let c = carried-plain p a d in
        direct_good u (carried p a) s.acked_total (λ x. absurd (true≢false (sym x ∙ d))) (omega arith) (tally-none p _ _ _ _ c g.tally)

    pub deliver-good : after-direct (delivered_of s p (length body))
    unfolding delivered_of
    deliver-good =
        pick after-direct p.delayed
        (λ d. subst after-direct (sym (cond-true s.has_remote _ _ g.known)) (direct-delayed (some_len (length body)) d (some-length (length body))))
        (λ d. pick after-direct (leb p.watermark s.buffered) (λ t. direct-plain s.unacked None d)
        (λ t. pick after-direct s.has_remote (λ k. direct-plain 0 (Some s.unacked) d) (λ k. direct-plain s.unacked None d)))

-- ---- a new channel

pub new-numbers : (p : RxPolicy) (credit : Terms) (asked : ℕ) (s : ChannelSlot) (l r : ℕ) → (p.delayed ≡ true → asked ≡ credit.credit) → s.filled ≡ true → s.has_remote ≡ true
    → l ≡ s.local.0 → r ≡ s.remote.0 → 0 ≡ s.buffered → 0 ≡ s.settled → 0 ≡ s.unacked → false ≡ is_closed s.state → 0 ≡ s.acked_total → Good p credit s [] (new_book l r asked)
new-numbers p credit asked s l r h f k e1 e2 e3 e4 e5 e6 e7 =
    record {
      filled = f;
      known = k;
      there = refl;
      loc = e1;
      rem = e2;
      opened = h;
      run = e3;
      stream = refl;
      ends = e6;
      nums = record { all = omega arith; inside = omega arith; room = omega arith; within = omega arith; counted = omega arith; acks = omega arith };
      owed = λ d c. record { same = e4; held = omega arith; low = omega arith; high = omega arith };
      kept = λ d x. refl;
      tally = record { delayed = λ u d. omega arith; plain = λ d. sym e7 };
      even = λ t d c. omega arith;
    }

-- what an OKAY leaves of a slot, if it leaves one
abbrev pub Leaves : (ChannelSlot → Type 0) → Result ChannelSlot CreditFault → Type 0
Leaves P (Ok t) = P t
Leaves P (Err b) = Unit {0}

module _ (p : RxPolicy) (credit : Terms) (asked : ℕ) (l : LocalId) (r : RemoteId) (h : p.delayed ≡ true → asked ≡ credit.credit) where
  abbrev fresh-good : ChannelSlot → Type 0
  fresh-good t = Good p credit t [] (new_book l.0 r.0 asked)

  new_by : (c : Result ℤ CreditFault) → Leaves fresh-good (opened_by (opening_slot l) r c)
  unfolding opened_by opening_slot is_closed
  new_by (Ok z) = new-numbers p credit asked _ l.0 r.0 h refl refl refl refl refl refl refl refl refl
  new_by (Err b) = tt

  -- the OKAY that answers our OPEN
  pub new-good : (payload : List ℕ) → Leaves fresh-good (opened_of (opening_slot l) r payload p)
  unfolding opened_of opening_slot is_closed
  new-good payload =
      pick (Leaves fresh-good) p.delayed (λ d. new_by (credit_of payload))
      (λ d. new-numbers p credit asked _ l.0 r.0 h refl refl refl refl refl refl refl refl refl)

-- a later OKAY
module _ (p : RxPolicy) (credit : Terms) (s : ChannelSlot) (q : List ℕ) (b : Book) (g : Good p credit s q b) where
  ready-by : (c : Result ℤ CreditFault) → Leaves (λ (t : ChannelSlot). Good p credit t q b) (ready_by s c)
  unfolding ready_by
  ready-by (Ok z) = sending-good p credit s q b g s.wrte_acked _
  ready-by (Err b) = tt

  pub ready-good : (payload : List ℕ) → Leaves (λ (t : ChannelSlot). Good p credit t q b) (ready_of s payload p)
  unfolding ready_of
  ready-good payload =
      pick (Leaves (λ (t : ChannelSlot). Good p credit t q b)) p.delayed (λ d. ready-by (credit_of payload)) (λ d. sending-good p credit s q b g true s.send_budget)

  -- bytes sent
  pub spent-good : (n : ℕ) → Good p credit (spent_of s p n) q b
  unfolding spent_of
  spent-good n =
      pick (λ (t : ChannelSlot). Good p credit t q b) p.delayed (λ d. sending-good p credit s q b g s.wrte_acked _)
      (λ d. sending-good p credit s q b g false s.send_budget)
