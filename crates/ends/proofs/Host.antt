-- A call of ours as a step of both ends: its books, the packet that it used and the frames that it wrote. Assumes nothing.
use mathlib.Core.Path.{◌≡◌, refl, sym, ap, ap₂, subst, ◌∙◌}
use mathlib.Core.Bool.{Bool, true, false, cond, ◌&&◌, ◌||◌, true≢false}
use mathlib.Core.List.{List, [], ◌∷◌, map}
use Prim.Native.Nat.{ℕ, suc, ◌+◌, ◌^◌, ◌<◌}
use native.Mathlib.Omega.{arith}
use lib.Dec.{eqb, ltb}
use lib.ListN.{length, get_or}
use borrow.Author.Tests.{eqb-true, eq-eqb}
use Rattle.le.specs.Le.{num_of}
use Rattle.le.proofs.Parts.{by-test}
use Rattle.le.proofs.RowLaws.{Every}
use Rattle.slot.proofs.Laws.{cond-true, cond-false}
use Rattle.config.proofs.Laws.{and-true}
use Rattle.config.specs.declared.negotiated.Negotiated.{Negotiated}
use Rattle.config.specs.declared.negotiated.RxPolicy.{RxPolicy}
use Rattle.config.specs.Negotiated.{policy_of, offered_credit}
use Rattle.protocol.specs.declared.packet.Packet.{Packet}
use Rattle.protocol.specs.Command.{is_ready, is_write, is_close, is_open, is_the, word_of, letters_of}
use Rattle.protocol.proofs.RoundTrip.{Says}
use Rattle.slot.specs.declared.ChannelSlot.{ChannelSlot}
use Rattle.slot.specs.declared.ids.LocalId.{LocalId}
use Rattle.state.specs.declared.Header.{Header}
use Rattle.state.specs.declared.PendingOpen.{PendingOpen}
use Rattle.state.specs.State.{is_ours, Connection, state_of}
use Rattle.state.specs.Change.{changed_all}
use Rattle.state_whole.specs.Whole.{is_whole}
use Rattle.connection.specs.declared.Answer.TheVariants.{Opened}
use Rattle.connection.specs.Answer.{answer_number, answer_values}
use Rattle.connection.specs.Calls.{Outcome, open_outcome, frame_len}
use Rattle.connection.specs.Frames.{Frame, okay_frame, close_frame, open_frame, write_frame, Sent}
use Rattle.connection.proofs.Slots.{slots_by}
use Rattle.connection.proofs.Sending.{sent_of}
use Rattle.history.specs.Run.{Call, open_call, dispatch_call, settle_call, take_call, read_call, write_call, close_call, front_taken, look_call, accept_call, reject_call, let_go_call, verdict_call, bytes_in, received_in, World, lent, outcome, after}
use Rattle.history.specs.Seen.{Seen}
use Rattle.history.specs.Book.{Book, new_book, Ledger, book_at, book_after, entry_on, opened_b, acks_b, acking, acked_b, acks_of, header_at, is_refused}
use Rattle.history.specs.Demand3.{place_slot, run_of, AllRead}
use Rattle.history.specs.Numbers.{given_by, opens_in}
use Rattle.history.proofs.Given.{opens-out}
use Rattle.history.proofs.Good.{Good}
use Rattle.history.proofs.Heads.{Heads, moves}
use Rattle.history.proofs.Never13.{state-after}
use Rattle.history.proofs.Opens.{Opens, fills, leaves, opens}
use Rattle.history.proofs.Packets.{reads-arg0}
use Rattle.history.proofs.Heard.{open_in}
use Rattle.history.proofs.Theorem.{book-at, terms}
use Rattle.protocol.specs.Packet.{payload_limit}
use Rattle.history.proofs.Told.{or-true}
use Rattle.history_frames.proofs.Frames.{Own, Unmet, Writes, opens as asks-one, keeps as keeps-all, writes}
use Rattle.history_frames.proofs.Receipt.{Receipt, FitsBy, taken as fits-in, too-much, receipts, decodes, said-same}
use Rattle.ends.proofs.Joint.{is-to, OurBook, stood, opened, OurFrame, OurFrames, asks, speaks-for, HostStep}
use Rattle.ends.proofs.Books.{Uses, entry-moves}
use Rattle.ends.proofs.Lined.{Packeted, idle, took, uses-of}
use Rattle.ends.proofs.Live.{agreed-of, Live, seen-by, next-books, rows-long, live-table, agreed-stays, live-step, live-next, live-from, slots-after, seen-heard, book-good, there-slot, there-below}
use Rattle.std.specs.Prelude.{Option, Some, None}

-- of tests
or-middle : (a b c : Bool) → b ≡ true → (a || b || c) ≡ true
or-middle true b c e = refl
or-middle false true c e = refl
or-middle false false c e = absurd (true≢false (sym e))

and-then : (a b c : Bool) → a ≡ true → (a && c) ≡ false → (b && c) ≡ false
and-then true true c e f = f
and-then true false c e f = refl
and-then false b c e f = absurd (true≢false (sym e))

-- whether an open of ours is pending, and its number
abbrev pub waits-in : World → Bool
waits-in w = is_ours (state_of w.state).header.pending.what

abbrev pub own-in : World → ℕ
own-in w = (state_of w.state).header.pending.local.0

-- a call that accepts nothing: it is no verdict, and an accept finds no offer
abbrev pub Accepts-none : World → Call → Type 0
Accepts-none w (open_call out destination received) = Unit {0}
Accepts-none w (dispatch_call out received) = Unit {0}
Accepts-none w (settle_call out ch want) = Unit {0}
Accepts-none w (take_call ch buf) = Unit {0}
Accepts-none w (read_call out ch buf received) = Unit {0}
Accepts-none w (write_call spending out ch bytes received) = Unit {0}
Accepts-none w (close_call out ch) = Unit {0}
Accepts-none w front_taken = Unit {0}
Accepts-none w (look_call x) = Unit {0}
Accepts-none w (accept_call out) = (eqb (answer_number (outcome w (accept_call out)).answer) 0 ≡ false) × ((outcome w (accept_call out)).frames ≡ [])
Accepts-none w (reject_call out) = Unit {0}
Accepts-none w let_go_call = Unit {0}
Accepts-none w (verdict_call out take remote credit) = ⊥

module _ (r : List ℕ) (rx store b g : ℕ) (w : World) (y : Ledger) (live : Live r rx store b g w y) (x : Call) (none : Accepts-none w x) where
  abbrev n : Negotiated
  n = agreed-of w

  abbrev p : RxPolicy
  p = policy_of n

  abbrev o : Outcome
  o = outcome w x

  abbrev s : Seen
  s = seen-by w x

  abbrev limit : ℕ
  limit = (lent w).state.header.negotiated.config.max_payload

  abbrev received : List ℕ
  received = received_in x

  pub number-is : s.number ≡ answer_number o.answer
  number-is = ap (λ (z : Seen). z.number) (seen-heard r rx store b g w y live x)

  used-is : s.used ≡ o.used
  used-is = ap (λ (z : Seen). z.used) (seen-heard r rx store b g w y live x)

  pub values-are : s.values ≡ answer_values o.answer
  values-are = ap (λ (z : Seen). z.values) (seen-heard r rx store b g w y live x)

  sent-is : s.sent ≡ map (sent_of n) o.frames
  sent-is = ap (λ (z : Seen). z.sent) (seen-heard r rx store b g w y live x)

  -- ---- what becomes of the packet

  receipt : Receipt (lent w) received o
  receipt = receipts w (live-table r rx store b g w y live) live.given.away x

  module _ (got : Option Sent) (tk : Packeted received limit o got) (small : g + given_by x (seen-by w x) < 2 ^ 32) where
    pub uses : Uses received s got
    uses = uses-of received limit o got s used-is number-is receipt.early tk

    abbrev pub next : Live r rx store live.given.k (g + given_by x (seen-by w x)) (after w x) (next-books w y x)
    next = live-next r rx store live.given.k g w y (live-from r rx store b g w y live) x small

    -- ---- the book of a channel that was there

    module _ (i : ℕ) where
      abbrev was : Book
      was = book_at y i

      abbrev now : Book
      now = book_at (next-books w y x) i

      abbrev inner : Book
      inner = entry_on p y.books i x s was

      abbrev same-acks : Type 0
      same-acks = acks_of was.local (acking x s.sent) ≡ acks_of was.local s.sent

      -- a WRTE of its own that was refused was answered by 11
      refused-eleven : was.there ≡ true → is-to was.local got ≡ true → is_refused s.number ≡ true → eqb s.number 11 ≡ true
      refused-eleven t e rf = by-packet got tk e
        where
          by-fit : FitsBy (answer_number o.answer) → eqb s.number 11 ≡ true
          by-fit (fits-in z) = absurd (true≢false (sym rf ∙ ap is_refused number-is ∙ z))
          by-fit (too-much z) = eq-eqb s.number 11 (number-is ∙ z)

          by-packet : (z : Option Sent) → Packeted received limit o z → is-to was.local z ≡ true → eqb s.number 11 ≡ true
          by-packet None (idle u) e = absurd (true≢false (sym e))
          by-packet (Some f) (took k q sy c a0 a1 pay us four) e =
              let fill = there-slot r rx store b g w y live i t in
              let gd = book-good r rx store b g w y live i fill in
              let e2 = and-true (is_write f.command) (eqb f.arg1 was.local) e in
              let wr : is_write k.command ≡ true = ap is_write (sym c) ∙ e2.0 in
              let at : k.arg1 ≡ (place_slot w i).local.0 = sym a1 ∙ eqb-true f.arg1 was.local e2.1 ∙ gd.loc in
              by-fit (receipt.wrote k sy us i fill wr at)

      stood-at : (c : Book) → now ≡ c → c.there ≡ true → c ≡ acked_b (acks_of inner.local (acking x s.sent)) inner → was.there ≡ true → same-acks
          → OurBook (offered_credit n) (waits-in w) (own-in w) got s.sent was now
      stood-at c e t q there acks =
          let m = entry-moves p y.books i s got was x uses (sym (ap (λ (z : Book). z.there) q) ∙ t) in
          let all : now ≡ acked_b (acks_of inner.local (acking x s.sent)) inner = e ∙ q in
          let fill' = there-slot r rx store live.given.k (g + given_by x (seen-by w x)) (after w x) (next-books w y x) next i (ap (λ (z : Book). z.there) e ∙ t) in
          let gd' = book-good r rx store live.given.k (g + given_by x (seen-by w x)) (after w x) (next-books w y x) next i fill' in
          let gd = book-good r rx store b g w y live i (there-slot r rx store b g w y live i there) in
          stood there (ap (λ (z : Book). z.local) all ∙ m.local) (ap (λ (z : Book). z.remote) all ∙ m.remote) (gd.opened live.delayed)
          (ap (λ (z : Book). z.acked) all ∙ ap₂ (λ (u v : ℕ). u + v) m.acked (ap (λ (z : ℕ). acks_of z (acking x s.sent)) m.local ∙ acks))
          (record {
            other = λ f. let k = m.other f in (ap (λ (z : Book). z.accepted) all ∙ k.0, (ap (λ (z : Book). z.sent) all ∙ k.1.0, ap (λ (z : Book). z.kept) all ∙ k.1.1));
            sends = λ f. let k = m.sends f in (ap (λ (z : Book). z.sent) all ∙ k.0, ap (λ (z : Book). z.kept) all ∙ k.1);
            takes = λ f k.
                by-test (is_refused s.number)
                (λ rf. let v : inner.over ≡ true = m.overs f rf ∙ ap (λ (z : Bool). was.over || z) (refused-eleven there f rf) ∙ or-true was.over in
                absurd (true≢false (sym (ap (λ (z : Book). z.over) all ∙ v) ∙ gd'.kept next.delayed k)))
                (λ rf. ap (λ (z : Book). z.accepted) all ∙ m.takes f rf);
          }) (λ v. m.closed (sym (ap (λ (z : Book). z.closed) all) ∙ v))

      -- by what the call's other steps left
      stood-by : now ≡ acks_b (acking x s.sent) (cond was.there inner was) → now.there ≡ true → (was.there ≡ true → same-acks)
          → OurBook (offered_credit n) (waits-in w) (own-in w) got s.sent was now
      unfolding acks_b
      stood-by e t acks =
          let rest : Book = cond was.there inner was in
          by-test was.there
          (λ th. let z : rest ≡ inner = cond-true was.there inner was th in
          by-test inner.there
          (λ it. let q : now ≡ acked_b (acks_of inner.local (acking x s.sent)) inner = e ∙ ap (acks_b (acking x s.sent)) z ∙ cond-true inner.there _ inner it in
          stood-at now refl t q th (acks th))
          (λ it. let q : now ≡ inner = e ∙ ap (acks_b (acking x s.sent)) z ∙ cond-false inner.there (acked_b (acks_of inner.local (acking x s.sent)) inner) inner it in
          absurd (true≢false (sym t ∙ ap (λ (v : Book). v.there) q ∙ it))))
          (λ th. let z : rest ≡ was = cond-false was.there inner was th in
          let q : now ≡ was = e ∙ ap (acks_b (acking x s.sent)) z ∙ cond-false was.there (acked_b (acks_of was.local (acking x s.sent)) was) was th in
          absurd (true≢false (sym t ∙ ap (λ (v : Book). v.there) q ∙ th)))

      -- a place beyond the table's has no book
      pub now-is : now.there ≡ true → now ≡ book_after p y.books y.asked x s i was
      now-is t =
          let lt = there-below r rx store live.given.k (g + given_by x (seen-by w x)) (after w x) (next-books w y x) next i t in
          let z = live.kept.size in
          book-at p x s y i (omega arith)

-- the pending open's slot, filled by its OKAY
module _ (r : List ℕ) (rx store b g : ℕ) (w : World) (y : Ledger) (live : Live r rx store b g w y) (out destination received : List ℕ) where
  abbrev ask : Call
  ask = open_call out destination received

  abbrev ask-outcome : Outcome
  ask-outcome = outcome w ask

  abbrev ask-seen : Seen
  ask-seen = seen-by w ask

  abbrev ask-limit : ℕ
  ask-limit = (lent w).state.header.negotiated.config.max_payload

  abbrev pending-slot : ℕ
  pending-slot = (state_of w.state).header.pending.slot

  pub ask-opens : Opens (lent w) (bytes_in received) ask-outcome
  unfolding outcome open_outcome
  ask-opens =
      opens-out w r rx store live.holds (rows-long r rx store b g w y live) b g live.given (bytes_in received) (is_whole w.state) (length out) _
      (opens (lent w) (live-table r rx store b g w y live) (bytes_in received) (length out) (bytes_in destination))

  module _ (got : Option Sent) (tk : Packeted (bytes_in received) ask-limit ask-outcome got) (small : g + given_by ask (seen-by w ask) < 2 ^ 32) (i : ℕ) where
    abbrev here : Book
    here = book_at y i

    abbrev here' : Book
    here' = book_at (next-books w y ask) i

    abbrev steps : Book
    steps = cond here.there (entry_on (policy_of (agreed-of w)) y.books i ask ask-seen here) here

    stays-book : opened_b i y.asked ask ask-seen steps ≡ steps → here'.there ≡ true → OurBook (offered_credit (agreed-of w)) (waits-in w) (own-in w) got ask-seen.sent here here'
    unfolding received_in book_after acks_b
    stays-book e t = stood-by r rx store b g w y live ask tt got tk small i (now-is r rx store b g w y live ask tt got tk small i t ∙ ap (acks_b ask-seen.sent) e) t (λ u. refl)

    -- the packet was its OKAY
    by-okay : (k : Packet) → Says (bytes_in received) ask-limit k → is_ready k.command ≡ true → k.arg1 ≡ own-in w → ask-outcome.used ≡ frame_len k → waits-in w ≡ true → ask-outcome.frames ≡ []
        → here' ≡ acks_b ask-seen.sent (new_book (own-in w) (header_at (bytes_in received)).arg0 y.asked)
        → OurBook (offered_credit (agreed-of w)) (waits-in w) (own-in w) got ask-seen.sent here here'
    unfolding acks_b acks_of book_after
    by-okay k sy rd mine us on none e = by-packet got tk
      where
        quiet : ask-seen.sent ≡ []
        quiet = ap (λ (z : Seen). z.sent) (seen-heard r rx store b g w y live ask) ∙ ap (map (sent_of (agreed-of w))) none

        zero : acks_of (own-in w) ask-seen.sent ≡ 0
        zero = ap (acks_of (own-in w)) quiet

        none-acked : 0 + acks_of (own-in w) ask-seen.sent ≡ 0
        none-acked = let q = zero in omega arith

        by-packet : (z : Option Sent) → Packeted (bytes_in received) ask-limit ask-outcome z → OurBook (offered_credit (agreed-of w)) (waits-in w) (own-in w) z ask-seen.sent here here'
        by-packet None (idle u) = absurd (let q = us in omega arith)
        by-packet (Some f) (took j q sj c a0 a1 pay uj four) =
            let same : j ≡ k = said-same (bytes_in received) ask-limit j k (decodes (bytes_in received) ask-limit j sj) sy in
            opened f on refl (ap is_ready (c ∙ ap (λ (z : Packet). z.command) same) ∙ rd) (a1 ∙ ap (λ (z : Packet). z.arg1) same ∙ mine) (ap (λ (z : Book). z.local) e)
            (ap (λ (z : Book). z.remote) e ∙ reads-arg0 (bytes_in received) ask-limit j sj ∙ sym a0) (ap (λ (z : Book). z.accepted) e) (ap (λ (z : Book). z.sent) e)
            (ap (λ (z : Book). z.acked) e ∙ none-acked) (ap (λ (z : Book). z.kept) e) zero

    ask-book : here'.there ≡ true → OurBook (offered_credit (agreed-of w)) (waits-in w) (own-in w) got ask-seen.sent here here'
    unfolding opened_b answer_number answer_values book_after received_in bytes_in
    ask-book t = by-opens ask-outcome refl ask-opens
      where
        by-opens : (x : Outcome) → ask-outcome ≡ x → Opens (lent w) (bytes_in received) x → OurBook (offered_credit (agreed-of w)) (waits-in w) (own-in w) got ask-seen.sent here here'
        by-opens x q (leaves x1 e tm) =
            let nz : eqb ask-seen.number 0 ≡ false = ap (λ (z : ℕ). eqb z 0) (number-is r rx store b g w y live ask tt ∙ ap (λ (z : Outcome). answer_number z.answer) q) ∙ e in
            stays-book (cond-false (eqb ask-seen.number 0 && eqb (get_or ask-seen.values 0 0) i) _ steps (ap (λ (z : Bool). z && eqb (get_or ask-seen.values 0 0) i) nz)) t
        by-opens x q (fills x1 s1 k sy e1 e2 e3 e5 on off e4 rd mine us) =
            let an : ask-outcome.answer ≡ Opened (record { slot = pending-slot; local = (state_of w.state).header.pending.local }) = ap (λ (z : Outcome). z.answer) q ∙ e1 in
            let nb = new_book (own-in w) (header_at (bytes_in received)).arg0 y.asked in
            let num : ask-seen.number ≡ 0 = number-is r rx store b g w y live ask tt ∙ ap answer_number an in
            let vals : ask-seen.values ≡ answer_values (Opened (record { slot = pending-slot; local = (state_of w.state).header.pending.local })) =
            values-are r rx store b g w y live ask tt ∙ ap answer_values an in
            let fill : opened_b i y.asked ask ask-seen steps ≡ cond (eqb pending-slot i) nb steps =
            ap₂ (λ (z : ℕ) (v : List ℕ). cond (eqb z 0 && eqb (get_or v 0 0) i) (new_book (get_or v 1 0) (header_at (bytes_in received)).arg0 y.asked) steps) num vals in
            by-test (eqb pending-slot i)
            (λ u. by-okay k sy rd mine (ap (λ (z : Outcome). z.used) q ∙ us) on (ap (λ (z : Outcome). z.frames) q ∙ e5)
            (now-is r rx store b g w y live ask tt got tk small i t ∙ ap (acks_b ask-seen.sent) (fill ∙ cond-true (eqb pending-slot i) nb steps u)))
            (λ u. stays-book (fill ∙ cond-false (eqb pending-slot i) nb steps u) t)

-- the books after each call
module _ (r : List ℕ) (rx store b g : ℕ) (w : World) (y : Ledger) (live : Live r rx store b g w y) where
  our-book : (x : Call) (none : Accepts-none w x) (got : Option Sent) (tk : Packeted (received_in x) (lent w).state.header.negotiated.config.max_payload (outcome w x) got)
      (small : g + given_by x (seen-by w x) < 2 ^ 32) (i : ℕ) → (book_at (next-books w y x) i).there ≡ true
      → OurBook (offered_credit (agreed-of w)) (waits-in w) (own-in w) got (seen-by w x).sent (book_at y i) (book_at (next-books w y x) i)
  unfolding opened_b received_in book_after
  our-book (open_call out destination received) none got tk small i t = ask-book r rx store b g w y live out destination received got tk small i t
  our-book (dispatch_call out received) none got tk small i t =
      stood-by r rx store b g w y live (dispatch_call out received) none got tk small i (now-is r rx store b g w y live (dispatch_call out received) none got tk small i t) t (λ u. refl)
  our-book (settle_call out ch want) none got tk small i t =
      stood-by r rx store b g w y live (settle_call out ch want) none got tk small i (now-is r rx store b g w y live (settle_call out ch want) none got tk small i t) t (λ u. refl)
  our-book (take_call ch buf) none got tk small i t =
      stood-by r rx store b g w y live (take_call ch buf) none got tk small i (now-is r rx store b g w y live (take_call ch buf) none got tk small i t) t (λ u. refl)
  our-book (read_call out ch buf received) none got tk small i t =
      stood-by r rx store b g w y live (read_call out ch buf received) none got tk small i (now-is r rx store b g w y live (read_call out ch buf received) none got tk small i t) t (λ u. refl)
  our-book (write_call spending out ch bytes received) none got tk small i t =
      stood-by r rx store b g w y live (write_call spending out ch bytes received) none got tk small i
      (now-is r rx store b g w y live (write_call spending out ch bytes received) none got tk small i t) t (λ u. refl)
  our-book (close_call out ch) none got tk small i t =
      stood-by r rx store b g w y live (close_call out ch) none got tk small i (now-is r rx store b g w y live (close_call out ch) none got tk small i t) t (λ u. refl)
  our-book front_taken none got tk small i t =
      stood-by r rx store b g w y live front_taken none got tk small i (now-is r rx store b g w y live front_taken none got tk small i t) t (λ u. refl)
  our-book (look_call q) none got tk small i t =
      stood-by r rx store b g w y live (look_call q) none got tk small i (now-is r rx store b g w y live (look_call q) none got tk small i t) t (λ u. refl)
  our-book (accept_call out) none got tk small i t =
      let x = accept_call out in
      let s = seen-by w x in
      let e : Book = cond (book_at y i).there (entry_on (policy_of (agreed-of w)) y.books i x s (book_at y i)) (book_at y i) in
      let nz : eqb s.number 0 ≡ false = ap (λ (z : ℕ). eqb z 0) (number-is r rx store b g w y live x none) ∙ none.0 in
      let quiet : s.sent ≡ [] = ap (λ (z : Seen). z.sent) (seen-heard r rx store b g w y live x) ∙ ap (map (sent_of (agreed-of w))) none.1 in
      stood-by r rx store b g w y live x none got tk small i
      (now-is r rx store b g w y live x none got tk small i t
      ∙ ap (acks_b []) (cond-false (eqb s.number 0 && eqb (get_or s.values 0 0) i) _ e (ap (λ (z : Bool). z && eqb (get_or s.values 0 0) i) nz))) t
      (λ u. ap (acks_of (book_at y i).local) (sym quiet))
  our-book (reject_call out) none got tk small i t =
      stood-by r rx store b g w y live (reject_call out) none got tk small i (now-is r rx store b g w y live (reject_call out) none got tk small i t) t (λ u. refl)
  our-book let_go_call none got tk small i t =
      stood-by r rx store b g w y live let_go_call none got tk small i (now-is r rx store b g w y live let_go_call none got tk small i t) t (λ u. refl)
  our-book (verdict_call out take remote credit) none got tk small i t = absurd none

-- ---- its frames

-- a call that asks gives a number out
module _ (r : List ℕ) (rx store b g : ℕ) (w : World) (y : Ledger) (live : Live r rx store b g w y) where
  not-itself : (a : ℕ) → a ≡ suc a → ⊥
  not-itself a e = omega arith

  -- the header after a call
  header-after : (x : Call) → (state_of (after w x).state).header ≡ (changed_all (state_of w.state) (outcome w x).changes).header
  header-after x = ap (λ (d : Connection). d.header) (state-after (agreed-of w) r rx store w live.holds x)

  ours-after : (x : Call) → waits-in (after w x) ≡ true → is_ours (changed_all (state_of w.state) (outcome w x).changes).header.pending.what ≡ true
  ours-after x t = sym (ap (λ (h : Header). is_ours h.pending.what) (header-after x)) ∙ t

  by-heads : (x : Call) → Heads (lent w) (outcome w x) → waits-in (after w x) ≡ true → (local : LocalId) (credit : ℕ) (destination : List ℕ)
      → (outcome w x).frames ≡ open_frame local credit destination ∷ [] → ⊥
  by-heads x h t local credit destination e =
      not-itself credit (sym (ap (λ (fs : List Frame). open_in fs (suc credit)) e) ∙ h.quiet-opens (ours-after x t) (suc credit))

  frames-none : (f : Frame) → [] ≡ f ∷ [] → ⊥
  frames-none f e = absurd (let z = ap length e in omega arith)

  asks-given : (x : Call) → Accepts-none w x → waits-in (after w x) ≡ true → (local : LocalId) (credit : ℕ) (destination : List ℕ)
      → (outcome w x).frames ≡ open_frame local credit destination ∷ [] → given_by x (seen-by w x) ≡ 1
  unfolding given_by opens_in is_open is_the word_of letters_of num_of
  asks-given (open_call out destination received) none t local credit text e =
      let x = open_call out destination received in
      let z : (seen-by w x).sent ≡ sent_of (agreed-of w) (open_frame local credit text) ∷ [] =
      ap (λ (q : Seen). q.sent) (seen-heard r rx store b g w y live x) ∙ ap (map (sent_of (agreed-of w))) e in
      ap (λ (fs : List Sent). cond (opens_in fs || (eqb (seen-by w x).number 3 && ltb payload_limit (length destination))) 1 0) z
  asks-given (dispatch_call out received) none t local credit text e =
      absurd (by-heads (dispatch_call out received) (moves w (dispatch_call out received)).heads t local credit text e)
  asks-given (settle_call out ch want) none t local credit text e = absurd (by-heads (settle_call out ch want) (moves w (settle_call out ch want)).heads t local credit text e)
  asks-given (take_call ch buf) none t local credit text e = absurd (by-heads (take_call ch buf) (moves w (take_call ch buf)).heads t local credit text e)
  asks-given (read_call out ch buf received) none t local credit text e =
      absurd (by-heads (read_call out ch buf received) (moves w (read_call out ch buf received)).heads t local credit text e)
  asks-given (write_call spending out ch bytes received) none t local credit text e =
      absurd (by-heads (write_call spending out ch bytes received) (moves w (write_call spending out ch bytes received)).heads t local credit text e)
  asks-given (close_call out ch) none t local credit text e = absurd (by-heads (close_call out ch) (moves w (close_call out ch)).heads t local credit text e)
  asks-given front_taken none t local credit text e = absurd (by-heads front_taken (moves w front_taken) t local credit text e)
  asks-given (look_call q) none t local credit text e = absurd (by-heads (look_call q) (moves w (look_call q)).heads t local credit text e)
  asks-given (accept_call out) none t local credit text e = absurd (frames-none _ (sym none.1 ∙ e))
  asks-given (reject_call out) none t local credit text e = absurd (by-heads (reject_call out) (moves w (reject_call out)).heads t local credit text e)
  asks-given let_go_call none t local credit text e = absurd (by-heads let_go_call (moves w let_go_call).heads t local credit text e)
  asks-given (verdict_call out take remote credit) none t local cr text e = absurd none

-- frames of channels that are there after the call
module _ (r : List ℕ) (rx store b g : ℕ) (w : World) (y : Ledger) (live : Live r rx store b g w y) (n : Negotiated) where
  -- a frame that is no OPEN and no OKAY
  neither : (f : Sent) → is_open f.command ≡ false → is_ready f.command ≡ false → OurFrame (book_at y) f
  neither f no-open no-ready =
      record {
        closed = no-open;
        place = λ t. absurd (true≢false (sym t ∙ no-ready));
        there = λ t. absurd (true≢false (sym t ∙ no-ready));
        local = λ t. absurd (true≢false (sym t ∙ no-ready));
        remote = λ t. absurd (true≢false (sym t ∙ no-ready));
        reads = λ t. absurd (true≢false (sym t ∙ no-ready));
      }

  our-frames : (fs : List Frame) → Every (Own (state_of w.state).slots) fs → AllRead (policy_of (agreed-of w)) (map (sent_of n) fs) → Every (OurFrame (book_at y)) (map (sent_of n) fs)
  unfolding is_open is_ready is_the word_of letters_of num_of
  our-frames [] e a = tt
  our-frames (okay_frame ids len ∷ fs) e a =
      let q = e.0 in
      let gd = book-good r rx store b g w y live q.place q.filled in (
        record {
          closed = refl;
          place = λ t. q.place;
          there = λ t. gd.there;
          local = λ t. gd.loc ∙ q.local;
          remote = λ t. gd.rem ∙ q.remote;
          reads = λ t. a.0.signed t live.delayed;
        },
        our-frames fs e.1 a.1,
      )
  our-frames (close_frame ids ∷ fs) e a = (neither (sent_of n (close_frame ids)) refl refl, our-frames fs e.1 a.1)
  our-frames (open_frame local credit destination ∷ fs) e a = absurd e.0
  our-frames (write_frame ids bytes ∷ fs) e a = (neither (sent_of n (write_frame ids bytes)) refl refl, our-frames fs e.1 a.1)

-- ---- the step

module _ (r : List ℕ) (rx store b g : ℕ) (w : World) (y : Ledger) (live : Live r rx store b g w y) (x : Call) (none : Accepts-none w x) (got : Option Sent)
    (tk : Packeted (received_in x) (lent w).state.header.negotiated.config.max_payload (outcome w x) got) (small : g + given_by x (seen-by w x) < 2 ^ 32) where
  abbrev agreed : Negotiated
  agreed = agreed-of w

  abbrev live' : Live r rx store live.given.k (g + given_by x (seen-by w x)) (after w x) (next-books w y x)
  live' = live-next r rx store live.given.k g w y (live-from r rx store b g w y live) x small

  abbrev sent' : List Sent
  sent' = (seen-by w x).sent

  sent-are : sent' ≡ map (sent_of agreed) (outcome w x).frames
  sent-are = ap (λ (z : Seen). z.sent) (seen-heard r rx store b g w y live x)

  slots-are : (state_of (after w x).state).slots ≡ slots_by (state_of w.state).slots (outcome w x).changes
  slots-are = slots-after r rx store b g w y live x

  abbrev frames-type : List Sent → Type 0
  frames-type fs = OurFrames (offered_credit agreed) (book_at (next-books w y x)) (waits-in w) (waits-in (after w x)) (own-in w) (own-in (after w x)) live.given.k live'.given.k got fs

  read-all : AllRead (policy_of (agreed-of (after w x))) sent'
  read-all = subst (λ (z : Negotiated). AllRead (policy_of z) sent') (sym (agreed-stays r rx store b g w y live x)) (live-step r rx store b g w y live x).told.okays

  asks-frames : (local : LocalId) (destination : List ℕ) → (outcome w x).frames ≡ open_frame local (offered_credit agreed) destination ∷ [] → local.0 ≡ (state_of w.state).header.next_local
      → is_ours (changed_all (state_of w.state) (outcome w x).changes).header.pending.what ≡ true
      → (changed_all (state_of w.state) (outcome w x).changes).header.pending.local ≡ local → frames-type sent'
  unfolding is_open is_ready is_the word_of letters_of num_of
  asks-frames local destination e at on pl =
      let h = header-after r rx store b g w y live x in
      let wt : waits-in (after w x) ≡ true = ap (λ (z : Header). is_ours z.pending.what) h ∙ on in
      let one = asks-given r rx store b g w y live x none wt local (offered_credit agreed) destination e in
      let v = live.given in
      let le = v.le in
      let next : local.0 ≡ suc v.k = at ∙ v.next (omega arith) in
      let own : own-in (after w x) ≡ suc v.k = ap (λ (z : Header). z.pending.local.0) h ∙ ap (λ (z : LocalId). z.0) pl ∙ next in
      let top = live'.given.pending-open wt in
      asks (sent_of agreed (open_frame local (offered_credit agreed) destination)) (sent-are ∙ ap (map (sent_of agreed)) e) refl refl next refl own (omega arith)

  -- the packet is not the pending open's
  not-own : Unmet (lent w) (received_in x) (outcome w x) → is-to (own-in w) got ≡ false
  not-own u = by-packet got tk
    where
      by-packet : (z : Option Sent) → Packeted (received_in x) (lent w).state.header.negotiated.config.max_payload (outcome w x) z → is-to (own-in w) z ≡ false
      by-packet None (idle e) = refl
      by-packet (Some f) (took k q sy c a0 a1 pay us four) =
          let z = u k sy us in
          by-test (is_write k.command)
          (λ t. ap (λ (m : Bool). m && eqb f.arg1 (own-in w)) (ap is_write c) ∙ ap (λ (m : ℕ). is_write k.command && eqb m (own-in w)) a1
          ∙ and-then (is_ready k.command || is_write k.command || is_close k.command) (is_write k.command) (eqb k.arg1 (own-in w))
          (or-middle (is_ready k.command) (is_write k.command) (is_close k.command) t) z)
          (λ t. ap (λ (m : Bool). m && eqb f.arg1 (own-in w)) (ap is_write c ∙ t))

  keeps-frames : Every (Own (slots_by (state_of w.state).slots (outcome w x).changes)) (outcome w x).frames
      → (is_ours (changed_all (state_of w.state) (outcome w x).changes).header.pending.what ≡ true
      → ((changed_all (state_of w.state) (outcome w x).changes).header.pending ≡ (state_of w.state).header.pending) × Unmet (lent w) (received_in x) (outcome w x))
      → frames-type sent'
  keeps-frames own pend =
      let h = header-after r rx store b g w y live x in
      let fs : Every (OurFrame (book_at (next-books w y x))) (map (sent_of agreed) (outcome w x).frames) =
      our-frames r rx store live.given.k (g + given_by x (seen-by w x)) (after w x) (next-books w y x) live' agreed (outcome w x).frames
      (subst (λ (z : List ChannelSlot). Every (Own z) (outcome w x).frames) (sym slots-are) own) (subst (AllRead (policy_of (agreed-of (after w x)))) sent-are read-all) in
      speaks-for (subst (Every (OurFrame (book_at (next-books w y x)))) (sym sent-are) fs) live'.given.least
      (λ t. let on = ours-after r rx store b g w y live x t in
      let q = pend on in
      (sym (ap (λ (z : PendingOpen). is_ours z.what) q.0) ∙ on, (ap (λ (z : Header). z.pending.local.0) h ∙ ap (λ (z : PendingOpen). z.local.0) q.0, not-own q.1)))

  our-frames-are : frames-type sent'
  our-frames-are = by-writes (writes w (live-table r rx store b g w y live) x)
    where
      by-writes : Writes (lent w) (received_in x) (outcome w x) → frames-type sent'
      by-writes (asks-one local destination e us at sl on pl nx) = asks-frames local destination e at on pl
      by-writes (keeps-all own pend) = keeps-frames own pend

  good-after : (i : ℕ) → (book_at (next-books w y x) i).there ≡ true → Good (policy_of (agreed-of (after w x))) (terms false (agreed-of (after w x))) (place_slot (after w x) i)
      (run_of (after w x).rx (policy_of (agreed-of (after w x))).rx_cap i (place_slot (after w x) i)) (book_at (next-books w y x) i)
  good-after i t =
      book-good r rx store live.given.k (g + given_by x (seen-by w x)) (after w x) (next-books w y x) live' i
      (there-slot r rx store live.given.k (g + given_by x (seen-by w x)) (after w x) (next-books w y x) live' i t)

  -- what a call of ours does between the ends
  pub host-step : HostStep (offered_credit agreed) (book_at y) (book_at (next-books w y x)) (waits-in w) (waits-in (after w x)) (own-in w) (own-in (after w x)) live.given.k live'.given.k got sent'
  host-step =
      record {
        books = λ i t. our-book r rx store b g w y live x none got tk small i t;
        frames = our-frames-are;
        apart = λ t i th e.
            live'.given.away t i (there-slot r rx store live.given.k (g + given_by x (seen-by w x)) (after w x) (next-books w y x) live' i th) (sym (good-after i th).loc ∙ e);
        less = λ i th. let m = (good-after i th).nums in let a = m.acks in let c = m.all in let d = m.inside in omega arith;
      }
