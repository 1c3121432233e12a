-- What a device's end may send, what it writes and what it takes, beside its books. Assumes nothing.
use mathlib.Core.Path.{◌≡◌, refl, sym, ap, ap₂, subst, ◌∙◌}
use mathlib.Core.Bool.{Bool, true, false, cond, ◌&&◌, true≢false}
use mathlib.Core.List.{List, [], ◌∷◌, ◌++◌, map, map-append}
use Prim.Native.Nat.{ℕ, zero, suc, ◌+◌, ◌-◌, ◌^◌, ◌≤◌, ◌<◌}
use native.Mathlib.Omega.{arith}
use lib.Dec.{eqb, ltb, ltb→lt}
use lib.IntN.{ℤ, pos, negsuc, neg_ℤ, ◌-ℤ◌}
use lib.ListN.{length, get_or, set}
use lib.Signed.{◌<ℤ◌}
use borrow.Author.Tests.{eqb-true, eq-eqb, ltb-true, ltb-false}
use Rattle.le.specs.Le.{num_of}
use Rattle.le.proofs.Parts.{by-test}
use Rattle.le.proofs.RowLaws.{Every}
use Rattle.slot.proofs.Kept.{pick}
use Rattle.slot.proofs.Laws.{cond-true, cond-false}
use Rattle.config.proofs.Laws.{and-true}
use Rattle.config.specs.declared.negotiated.Negotiated.{Negotiated}
use Rattle.config.specs.Negotiated.{policy_of, offered_credit}
use Rattle.credit.specs.Credit.{credit_of}
use Rattle.protocol.specs.declared.command.Command.{Command}
use Rattle.protocol.specs.declared.packet.Packet.{Packet}
use Rattle.protocol.specs.Command.{is_ready, is_write, is_open, is_the, word_of, letters_of}
use Rattle.protocol.specs.Packet.{payload_limit}
use Rattle.slot.specs.declared.ChannelSlot.{ChannelSlot}
use Rattle.slot.specs.declared.ids.ChannelIds.{ChannelIds}
use Rattle.slot.specs.declared.ids.RemoteId.{RemoteId}
use Rattle.slot.specs.Slot.{opening_slot, accepted_slot}
use Rattle.table.specs.declared.ChannelId.{ChannelId}
use Rattle.table.specs.declared.NoFreeChannels.{NoFreeChannels as NoFree}
use Rattle.table.specs.Table.{slot_in, allocated}
use Rattle.state.specs.State.{state_of}
use Rattle.connection.specs.declared.Answer.TheVariants.{Opened}
use Rattle.connection.specs.Answer.{answer_number, answer_values}
use Rattle.connection.specs.Calls.{Lent, Outcome, ends, dropped, policy, ids_in, body_of, reject_on, accept_on, verdict_step}
use Rattle.connection.specs.Frames.{Frame, okay_frame, close_frame, open_frame, write_frame, Sent}
use Rattle.connection.proofs.Slots.{slots_by, slot-set-same}
use Rattle.connection.proofs.Sending.{sent_of, FrameFits}
use Rattle.history.specs.Run.{Call, open_call, dispatch_call, settle_call, take_call, read_call, write_call, close_call, front_taken, look_call, accept_call, reject_call, let_go_call, verdict_call, word_in, received_in, World, lent, outcome, after}
use Rattle.history.specs.Seen.{Seen}
use Rattle.history.specs.Book.{Book, new_book, okay_remote, okay_credit, granted_b, Ledger, book_at, book_after, entry_on, opened_b, acks_b, acked_b, acks_of, acking, credit_in}
use Rattle.history.specs.Credits.{Credit, added_in, is_lost, writes_of, fills_at, begun_by, moved, credit_after}
use Rattle.history.specs.Demand3.{place_slot, run_of}
use Rattle.history.specs.Numbers.{given_by}
use Rattle.history.proofs.Accepts.{allocated-inside, allocated-vacant, allocated-local, heard-remote}
use Rattle.history.proofs.Credited.{Sound, sound-step}
use Rattle.history.proofs.Budgets.{diff-pos, diff-neg}
use Rattle.history.proofs.Credits.{credit-whole, writes_in, heard-writes, writes-append, adds-packet, adds-unused}
use Rattle.history.proofs.Heads.{Heads, moves}
use Rattle.history.proofs.Heard.{open_in}
use Rattle.history.proofs.Good.{Good}
use Rattle.history.proofs.Theorem.{book-at, terms}
use Rattle.history.proofs.Written.{writes as written}
use Rattle.history_frames.proofs.Frames.{Own, Writes, opens, keeps, writes}
use Rattle.history_frames.proofs.Receipt.{Receipt, receipts}
use Rattle.history_frames.proofs.Sends.{NoWrite, Sends, silent as writes-none, sends as writes-one, sends-call}
use Rattle.ends_device.proofs.Turns.{PlainCall, verdict_on}
use Rattle.ends.proofs.Amounts.{readies-to, due}
use Rattle.ends.proofs.Joint.{ahead, no-writes, ItsBook, ItsFrame, ItsWrites, silent, sends, DeviceStep, plain-frames, TakenBook, stood, filled, StoodBook}
use Rattle.ends.proofs.Books.{entry-moves}
use Rattle.ends.proofs.Lined.{Packeted, idle, took, uses-of}
use Rattle.ends.proofs.Live.{agreed-of, Live, seen-by, next-books, live-table, live-next, slots-after, seen-heard, book-good, there-slot, there-below}
use Rattle.std.specs.Prelude.{Option, Some, None, Result, Ok, Err}

-- ---- what is kept of what may be sent

abbrev pub next-credit : World → Ledger → Call → (ℕ → Credit) → ℕ → Credit
next-credit v y c dc j = credit_after j c (seen-by v c) (book_at y j) (dc j)

-- the budget of each open channel is its opening credit and what was added, less what was sent, however large these are; what was
-- sent is at most a payload's length more than what may be sent
abbrev pub ExactAll : World → Ledger → (ℕ → Credit) → Type 0
ExactAll v y dc =
    (j : ℕ) → (book_at y j).there ≡ true → (book_at y j).closed ≡ false → (dc j).told ≡ true
    → ((place_slot v j).send_budget ≡ pos ((dc j).opening + (dc j).added) -ℤ pos (dc j).sent) × ((dc j).sent ≤ (dc j).opening + (dc j).added + payload_limit)

-- what was added to an open channel is no more than what was sent on it
abbrev pub Topped : Ledger → (ℕ → Credit) → Type 0
Topped y dc = (j : ℕ) → (book_at y j).there ≡ true → (book_at y j).closed ≡ false → ((dc j).added ≤ (dc j).sent) × ((dc j).opening < 2 ^ 31)

-- ---- an OKAY that was used

-- no bytes add no credit
adds-none : (received : List ℕ) (number used l : ℕ) → used ≡ 0 → added_in received number used l ≡ 0
adds-none received number used l e = ap (λ (x : ℕ). added_in received number x l) e ∙ adds-unused received number l

-- ---- the calls of a device's end

-- what is kept of a channel that was there, after a call
pub record KeptCredit (l : ℕ) (got : Option Sent) (fs : List Sent) (x x' : Credit) : Type 0 where
  pub told : x'.told ≡ x.told
  pub opening : x'.opening ≡ x.opening
  pub sent : x'.sent ≡ x.sent + writes_of l fs
  pub added : x'.added ≡ x.added + due l (ahead got [])

module _ (r : List ℕ) (rx store b g : ℕ) (v : World) (y : Ledger) (live : Live r rx store b g v y) (c : Call) where
  receipt : Receipt (lent v) (received_in c) (outcome v c)
  receipt = receipts v (live-table r rx store b g v y live) live.given.away c

  number-is : (seen-by v c).number ≡ answer_number (outcome v c).answer
  number-is = ap (λ (z : Seen). z.number) (seen-heard r rx store b g v y live c)

  used-is : (seen-by v c).used ≡ (outcome v c).used
  used-is = ap (λ (z : Seen). z.used) (seen-heard r rx store b g v y live c)

  sent-is : (seen-by v c).sent ≡ map (sent_of (agreed-of v)) (outcome v c).frames
  sent-is = ap (λ (z : Seen). z.sent) (seen-heard r rx store b g v y live c)

  -- the credit of an OKAY that was used is added whole
  added-due : (got : Option Sent) → Packeted (received_in c) (lent v).state.header.negotiated.config.max_payload (outcome v c) got
      → ((f : Sent) → got ≡ Some f → is_ready f.command ≡ true → credit_of f.payload ≡ Ok (pos (credit_in f.payload))) → (l : ℕ)
      → added_in (received_in c) (seen-by v c).number (seen-by v c).used l ≡ due l (ahead got [])
  added-due None (idle u) reads l = adds-none (received_in c) (seen-by v c).number (seen-by v c).used l (used-is ∙ u)
  added-due (Some f) (took k q sy c0 a0 a1 pay us four) reads l =
      let number = (seen-by v c).number in
      let own = is_ready k.command && eqb k.arg1 l in
      let n = credit_in (body_of (received_in c) k) in
      let e : readies-to l f ≡ own = ap₂ (λ (x : Command) (z : ℕ). is_ready x && eqb z l) c0 a1 in
      let whole : cond own n 0 ≡ due l (f ∷ []) =
      ap₂ (λ (t : Bool) (z : List ℕ). cond t (credit_in z) 0) (sym e) (sym pay) ∙ (let z : cond (readies-to l f) (credit_in f.payload) 0 ≡ due l (f ∷ []) = omega arith in z) in
      ap (λ (x : ℕ). added_in (received_in c) number x l) (used-is ∙ us) ∙ adds-packet (received_in c) (lent v).state.header.negotiated.config.max_payload k sy number l
      ∙ by-test own
      (λ t. let rd : is_ready k.command ≡ true = (and-true (is_ready k.command) (eqb k.arg1 l) t).0 in
      let z : credit_of (body_of (received_in c) k) ≡ Ok (pos (credit_in f.payload)) = ap credit_of (sym pay) ∙ reads f refl (ap is_ready c0 ∙ rd) in
      cond-false (is_lost number) 0 (cond own n 0) (ap is_lost number-is ∙ receipt.readied k sy us rd (pos (credit_in f.payload)) z) ∙ whole)
      (λ t. by-test (is_lost number)
      (λ u. cond-true (is_lost number) 0 (cond own n 0) u ∙ sym (cond-false own n 0 t) ∙ whole)
      (λ u. cond-false (is_lost number) 0 (cond own n 0) u ∙ whole))

  pub its-credit : (dc : ℕ → Credit) (got : Option Sent) → Packeted (received_in c) (lent v).state.header.negotiated.config.max_payload (outcome v c) got
      → ((f : Sent) → got ≡ Some f → is_ready f.command ≡ true → credit_of f.payload ≡ Ok (pos (credit_in f.payload)))
      → (j : ℕ) → (book_at y j).there ≡ true → KeptCredit (book_at y j).local got (seen-by v c).sent (dc j) (next-credit v y c dc j)
  unfolding credit_after
  its-credit dc got tk reads j t =
      let l = (book_at y j).local in
      let e : next-credit v y c dc j ≡ moved c (seen-by v c) l (dc j) = cond-true (book_at y j).there _ _ t in
      record {
        told = ap (λ (z : Credit). z.told) e;
        opening = ap (λ (z : Credit). z.opening) e;
        sent = ap (λ (z : Credit). z.sent) e;
        added = ap (λ (z : Credit). z.added) e ∙ ap (λ (n : ℕ). (dc j).added + n) (added-due got tk reads l);
      }

-- ---- the frames

-- frames with the numbers of channels in the table have those of its books
module _ (r : List ℕ) (rx store b g : ℕ) (w : World) (y : Ledger) (live : Live r rx store b g w y) (n : Negotiated) where
  pub named-books : (fs : List Frame) → Every (Own (state_of w.state).slots) fs → Every (ItsFrame (book_at y)) (map (sent_of n) fs)
  unfolding is_open is_ready is_write is_the word_of letters_of num_of
  named-books [] e = tt
  named-books (okay_frame ids len ∷ fs) e =
      let q = e.0 in
      let gd = book-good r rx store b g w y live q.place q.filled in
      (record { closed = refl; place = λ t. q.place; there = λ t. gd.there; local = λ t. gd.loc ∙ q.local; remote = λ t. gd.rem ∙ q.remote }, named-books fs e.1)
  named-books (close_frame ids ∷ fs) e =
      (record { closed = refl; place = λ t. 0; there = λ t. absurd (true≢false (sym t)); local = λ t. absurd (true≢false (sym t)); remote = λ t. absurd (true≢false (sym t)) }, named-books fs e.1)
  named-books (open_frame local credit destination ∷ fs) e = absurd e.0
  named-books (write_frame ids bytes ∷ fs) e =
      let q = e.0 in
      let gd = book-good r rx store b g w y live q.place q.filled in
      (record { closed = refl; place = λ t. q.place; there = λ t. gd.there; local = λ t. gd.loc ∙ q.local; remote = λ t. gd.rem ∙ q.remote }, named-books fs e.1)

plain-heads : (v : World) (c : Call) → PlainCall c → Heads (lent v) (outcome v c)
plain-heads v (open_call out destination received) p = absurd p
plain-heads v (dispatch_call out received) p = (moves v (dispatch_call out received)).heads
plain-heads v (settle_call out ch want) p = (moves v (settle_call out ch want)).heads
plain-heads v (take_call ch buf) p = (moves v (take_call ch buf)).heads
plain-heads v (read_call out ch buf received) p = (moves v (read_call out ch buf received)).heads
plain-heads v (write_call spending out ch bytes received) p = (moves v (write_call spending out ch bytes received)).heads
plain-heads v (close_call out ch) p = (moves v (close_call out ch)).heads
plain-heads v front_taken p = absurd p
plain-heads v (look_call x) p = absurd p
plain-heads v (accept_call out) p = absurd p
plain-heads v (reject_call out) p = absurd p
plain-heads v let_go_call p = absurd p
plain-heads v (verdict_call out take remote credit) p = absurd p

-- a call of a device's end writes frames of its channels, and no OPEN
own-frames : (v : World) (c : Call) → PlainCall c → Writes (lent v) (received_in c) (outcome v c)
    → Every (Own (slots_by (lent v).state.slots (outcome v c).changes)) (outcome v c).frames
own-frames v c p (keeps e h) = e
own-frames v c p (opens local destination ef eu el es on ep en) =
    let n = offered_credit (lent v).state.header.negotiated in
    let z : n ≡ suc n = ap (λ (fs : List Frame). open_in fs (suc n)) (sym ef) ∙ (plain-heads v c p).quiet-opens on (suc n) in
    absurd (omega arith)

module _ (r : List ℕ) (rx store b g : ℕ) (v : World) (y : Ledger) (live : Live r rx store b g v y) where
  pub its-frames : (c : Call) → PlainCall c → g + given_by c (seen-by v c) < 2 ^ 32 → Every (ItsFrame (book_at (next-books v y c))) (seen-by v c).sent
  its-frames c p small =
      subst (Every (ItsFrame (book_at (next-books v y c)))) (sym (sent-is r rx store b g v y live c))
      (named-books r rx store b (g + given_by c (seen-by v c)) (after v c) (next-books v y c) (live-next r rx store b g v y live c small) (agreed-of v) (outcome v c).frames
      (subst (λ (ts : List ChannelSlot). Every (Own ts) (outcome v c).frames) (sym (slots-after r rx store b g v y live c))
      (own-frames v c p (writes v (live-table r rx store b g v y live) c))))

-- ---- the books

plain-opened : (c : Call) → PlainCall c → (i asked : ℕ) (o : Seen) (b : Book) → opened_b i asked c o b ≡ b
unfolding opened_b
plain-opened (open_call out destination received) p i asked o b = absurd p
plain-opened (dispatch_call out received) p i asked o b = refl
plain-opened (settle_call out ch want) p i asked o b = refl
plain-opened (take_call ch buf) p i asked o b = refl
plain-opened (read_call out ch buf received) p i asked o b = refl
plain-opened (write_call spending out ch bytes received) p i asked o b = refl
plain-opened (close_call out ch) p i asked o b = refl
plain-opened front_taken p i asked o b = absurd p
plain-opened (look_call x) p i asked o b = absurd p
plain-opened (accept_call out) p i asked o b = absurd p
plain-opened (reject_call out) p i asked o b = absurd p
plain-opened let_go_call p i asked o b = absurd p
plain-opened (verdict_call out take remote credit) p i asked o b = absurd p

acks-there : (fs : List Sent) (b : Book) → b.there ≡ true → acks_b fs b ≡ acked_b (acks_of b.local fs) b
unfolding acks_b
acks-there fs b t = cond-true b.there _ b t

acks-gone : (fs : List Sent) (b : Book) → b.there ≡ false → acks_b fs b ≡ b
unfolding acks_b
acks-gone fs b t = cond-false b.there _ b t

module _ (r : List ℕ) (rx store b g : ℕ) (v : World) (y : Ledger) (live : Live r rx store b g v y) (c : Call) (small : g + given_by c (seen-by v c) < 2 ^ 32) where
  abbrev next : Live r rx store b (g + given_by c (seen-by v c)) (after v c) (next-books v y c)
  next = live-next r rx store b g v y live c small

  -- a place beyond the table's has no book
  now-is : (j : ℕ) → (book_at (next-books v y c) j).there ≡ true
      → book_at (next-books v y c) j ≡ book_after (policy_of (agreed-of v)) y.books y.asked c (seen-by v c) j (book_at y j)
  now-is j t =
      let lt = there-below r rx store b (g + given_by c (seen-by v c)) (after v c) (next-books v y c) next j t in
      let z = live.kept.size in
      book-at (policy_of (agreed-of v)) c (seen-by v c) y j (omega arith)

  module _ (p : PlainCall c) (j : ℕ) (t : (book_at (next-books v y c) j).there ≡ true) where
    abbrev was : Book
    was = book_at y j

    abbrev now : Book
    now = book_at (next-books v y c) j

    abbrev inner : Book
    inner = entry_on (policy_of (agreed-of v)) y.books j c (seen-by v c) was

    abbrev acks : List Sent
    acks = acking c (seen-by v c).sent

    now-by : now ≡ acks_b acks (cond was.there inner was)
    unfolding book_after
    now-by = now-is j t ∙ ap (acks_b acks) (plain-opened c p j y.asked (seen-by v c) (cond was.there inner was))

    -- a channel that is there was there before
    pub plain-there : was.there ≡ true
    plain-there =
        by-test was.there (λ u. u)
        (λ u. absurd (true≢false (sym t ∙ ap (λ (x : Book). x.there) (now-by ∙ ap (acks_b acks) (cond-false was.there inner was u) ∙ acks-gone acks was u) ∙ u)))

    now-inner : now ≡ acks_b acks inner
    now-inner = now-by ∙ ap (acks_b acks) (cond-true was.there inner was plain-there)

    inner-there : inner.there ≡ true
    inner-there = by-test inner.there (λ u. u) (λ u. absurd (true≢false (sym t ∙ ap (λ (x : Book). x.there) (now-inner ∙ acks-gone acks inner u) ∙ u)))

    now-acked : now ≡ acked_b (acks_of inner.local acks) inner
    now-acked = now-inner ∙ acks-there acks inner inner-there

    -- and what is kept of it moves on
    pub its-book : (dc : ℕ → Credit) (got : Option Sent) → Packeted (received_in c) (lent v).state.header.negotiated.config.max_payload (outcome v c) got
        → ((f : Sent) → got ≡ Some f → is_ready f.command ≡ true → credit_of f.payload ≡ Ok (pos (credit_in f.payload)))
        → ItsBook got (seen-by v c).sent (book_at y j) (book_at (next-books v y c) j) (dc j) (next-credit v y c dc j)
    its-book dc got tk reads =
        let k = its-credit r rx store b g v y live c dc got tk reads j plain-there in
        let uses = uses-of (received_in c) (lent v).state.header.negotiated.config.max_payload (outcome v c) got (seen-by v c)
        (used-is r rx store b g v y live c) (number-is r rx store b g v y live c) (receipt r rx store b g v y live c).early tk in
        let m = entry-moves (policy_of (agreed-of v)) y.books j (seen-by v c) got was c uses inner-there in
        record {
          there = plain-there;
          local = ap (λ (x : Book). x.local) now-acked ∙ m.local;
          remote = ap (λ (x : Book). x.remote) now-acked ∙ m.remote;
          live = λ e. m.closed (sym (ap (λ (x : Book). x.closed) now-acked) ∙ e);
          told = k.told;
          opening = k.opening;
          sent = k.sent;
          added = λ e. k.added;
        }

-- ---- a WRTE

neg-below : (n k : ℕ) → neg_ℤ (pos n) <ℤ negsuc k → suc k < n
neg-below zero k h = absurd h.lt
neg-below (suc m) k h = let q = ltb→lt k m h.lt in omega arith

neg-above : (n k : ℕ) → neg_ℤ (pos n) <ℤ pos k → 0 < n + k
neg-above zero k h = let q = ltb→lt 0 k h.lt in omega arith
neg-above (suc m) k h = omega arith

-- a budget above 0 less what was sent last: what was sent before it is less than what may be sent
room-left : (n a t : ℕ) → neg_ℤ (pos n) <ℤ (pos a -ℤ pos t) → t < a + n
room-left n a t h =
    by-test (ltb a t)
    (λ u. let q = ltb-true a t u in let z = neg-below n (t - suc a) (subst (λ (x : ℤ). neg_ℤ (pos n) <ℤ x) (diff-neg a t q) h) in omega arith)
    (λ u. let q = ltb-false a t u in let z = neg-above n (a - t) (subst (λ (x : ℤ). neg_ℤ (pos n) <ℤ x) (diff-pos a t (omega arith)) h) in omega arith)

-- frames with no WRTE
no-writes-sent : (n : Negotiated) (fs : List Frame) → NoWrite fs → no-writes (map (sent_of n) fs)
unfolding is_write is_the word_of letters_of num_of
no-writes-sent n [] e = tt
no-writes-sent n (okay_frame ids len ∷ fs) e = (refl, no-writes-sent n fs e.1)
no-writes-sent n (close_frame ids ∷ fs) e = (refl, no-writes-sent n fs e.1)
no-writes-sent n (open_frame local credit destination ∷ fs) e = (refl, no-writes-sent n fs e.1)
no-writes-sent n (write_frame ids bytes ∷ fs) e = absurd e.0

-- they carry no bytes
none-written : (l : ℕ) (fs : List Frame) → NoWrite fs → writes_in l fs ≡ 0
none-written l [] e = refl
none-written l (okay_frame i len ∷ fs) e = none-written l fs e.1
none-written l (close_frame i ∷ fs) e = none-written l fs e.1
none-written l (open_frame local credit destination ∷ fs) e = none-written l fs e.1
none-written l (write_frame i bs ∷ fs) e = absurd e.0

-- nor do they with one WRTE behind them, but for its own number
last-write : (l : ℕ) (pre : List Frame) → NoWrite pre → (ids : ChannelIds) (bytes : List ℕ)
    → writes_in l (pre ++ write_frame ids bytes ∷ []) ≡ cond (eqb ids.local.0 l) (length bytes) 0
last-write l pre e ids bytes =
    let z = none-written l pre e in let s = writes-append l pre (write_frame ids bytes ∷ []) in omega arith

own-write : (l : ℕ) (pre : List Frame) → NoWrite pre → (ids : ChannelIds) (bytes : List ℕ) → ids.local.0 ≡ l
    → writes_in l (pre ++ write_frame ids bytes ∷ []) ≡ length bytes
own-write l pre e ids bytes q = last-write l pre e ids bytes ∙ cond-true (eqb ids.local.0 l) (length bytes) 0 (eq-eqb ids.local.0 l q)

other-write : (l : ℕ) (pre : List Frame) → NoWrite pre → (ids : ChannelIds) (bytes : List ℕ) → eqb ids.local.0 l ≡ false
    → writes_in l (pre ++ write_frame ids bytes ∷ []) ≡ 0
other-write l pre e ids bytes q = last-write l pre e ids bytes ∙ cond-false (eqb ids.local.0 l) (length bytes) 0 q

-- a frame behind others has what each of them has
every-last : {A : Type 0} (P : A → Type 0) (xs : List A) (z : A) → Every P (xs ++ z ∷ []) → P z
every-last P [] z e = e.0
every-last P (x ∷ xs) z e = every-last P xs z e.1

-- ---- budgets, however large the totals

-- equal differences
diff-same : (a s b t : ℕ) → a + t ≡ b + s → pos a -ℤ pos s ≡ pos b -ℤ pos t
diff-same a s b t e =
    by-test (ltb a s)
    (λ u. let q = ltb-true a s u in
    let z : s - suc a ≡ t - suc b = omega arith in
    diff-neg a s q ∙ ap negsuc z ∙ sym (diff-neg b t (omega arith)))
    (λ u. let q = ltb-false a s u in
    let z : a - s ≡ b - t = omega arith in
    diff-pos a s (omega arith) ∙ ap pos z ∙ sym (diff-pos b t (omega arith)))

-- what one packet adds
due-small : (l : ℕ) (got : Option Sent) → ((f : Sent) → got ≡ Some f → is_ready f.command ≡ true → credit_of f.payload ≡ Ok (pos (credit_in f.payload)))
    → due l (ahead got []) < 2 ^ 31
due-small l None reads = omega arith
due-small l (Some f) reads =
    by-test (readies-to l f)
    (λ t. let c = (credit-whole f.payload (credit_in f.payload) (reads f refl (and-true (is_ready f.command) (eqb f.arg1 l) t).0)).1 in
    let z = cond-true (readies-to l f) (credit_in f.payload) 0 t in
    omega arith)
    (λ t. let z = cond-false (readies-to l f) (credit_in f.payload) 0 t in omega arith)

-- a budget z that is what is kept, k, which was x before n bytes were sent
record NextBudget (x k : Credit) (n : ℕ) (z : ℤ) : Type 0 where
  budget : z ≡ pos (k.opening + k.added) -ℤ pos k.sent
  more : x.opening + x.added ≤ k.opening + k.added
  sent : k.sent ≡ x.sent + n

module _ (r : List ℕ) (rx store b g : ℕ) (v : World) (y : Ledger) (live : Live r rx store b g v y) (dc : ℕ → Credit) (c : Call)
    (small : g + given_by c (seen-by v c) < 2 ^ 32) where
  -- what the call adds to the channel at place j, and the bytes that it sends on it
  abbrev adds-at : ℕ → ℕ
  adds-at j = added_in (received_in c) (seen-by v c).number (seen-by v c).used (book_at y j).local

  abbrev sends-at : ℕ → ℕ
  sends-at j = writes_of (book_at y j).local (seen-by v c).sent

  moved-at : (k : Credit) (j : ℕ) → (book_at y j).there ≡ true → credit_after j c (seen-by v c) (book_at y j) k ≡ moved c (seen-by v c) (book_at y j).local k
  unfolding credit_after
  moved-at k j t = cond-true (book_at y j).there _ _ t

  filled-next : (j : ℕ) → (book_at (next-books v y c) j).there ≡ true → (place_slot (after v c) j).filled ≡ true
  filled-next j t = there-slot r rx store b (g + given_by c (seen-by v c)) (after v c) (next-books v y c) (live-next r rx store b g v y live c small) j t

  sound-at : (j : ℕ) (k : Credit) → Sound (state_of v.state).slots j k → Sound (state_of (after v c).state).slots j (credit_after j c (seen-by v c) (book_at y j) k)
  sound-at j k s =
      sound-step (agreed-of v) r rx store live.long live.delayed j v live.holds live.given.apart y live.kept k s c (live-next r rx store b g v y live c small).given.apart

  -- a budget of 62 bits moves by what is added and sent, whatever totals x and s it is the difference of
  budget-moves : (j : ℕ) → (book_at y j).there ≡ true → (book_at (next-books v y c) j).there ≡ true → (x s : ℕ)
      → (place_slot v j).send_budget ≡ pos x -ℤ pos s → x < s + 2 ^ 62 → s < x + 2 ^ 62 → adds-at j < 2 ^ 62 → sends-at j < 2 ^ 62
      → (place_slot (after v c) j).send_budget ≡ pos (x + adds-at j) -ℤ pos (s + sends-at j)
  budget-moves j t t' x s e more less a n =
      let k : Credit = record { told = true; opening = x - s; added = 0; sent = s - x } in
      let before : Sound (state_of v.state).slots j k =
      λ fill told h1 h2. e ∙ diff-same x s (x - s + 0) (s - x) (omega arith) in
      let later : Sound (state_of (after v c).state).slots j (moved c (seen-by v c) (book_at y j).local k) =
      subst (Sound (state_of (after v c).state).slots j) (moved-at k j t) (sound-at j k before) in
      later (filled-next j t') refl (omega arith) (omega arith) ∙ diff-same (x - s + (0 + adds-at j)) (s - x + sends-at j) (x + adds-at j) (s + sends-at j) (omega arith)

  -- the budget of a channel that was there, and is
  budget-next : (exact : ExactAll v y dc) (top : Topped y dc) (j : ℕ) → (book_at y j).there ≡ true → (book_at y j).closed ≡ false
      → (book_at (next-books v y c) j).there ≡ true → (next-credit v y c dc j).told ≡ true → adds-at j < 2 ^ 62 → sends-at j < 2 ^ 62
      → NextBudget (dc j) (next-credit v y c dc j) (sends-at j) (place_slot (after v c) j).send_budget
  budget-next exact top j t o t' told a n =
      let e = moved-at (dc j) j t in
      let e0 : (next-credit v y c dc j).opening ≡ (dc j).opening = ap (λ (z : Credit). z.opening) e in
      let e1 : (next-credit v y c dc j).added ≡ (dc j).added + adds-at j = ap (λ (z : Credit). z.added) e in
      let e2 : (next-credit v y c dc j).sent ≡ (dc j).sent + sends-at j = ap (λ (z : Credit). z.sent) e in
      let was = exact j t o (sym (ap (λ (z : Credit). z.told) e) ∙ told) in
      let low = was.1 in
      let up = top j t o in
      let up0 = up.0 in
      let up1 = up.1 in
      let p : (dc j).opening + (dc j).added + adds-at j ≡ (next-credit v y c dc j).opening + (next-credit v y c dc j).added = omega arith in
      record {
        budget = budget-moves j t t' ((dc j).opening + (dc j).added) (dc j).sent was.0 (omega arith) (omega arith) a n ∙ ap₂ (λ (m i : ℕ). pos m -ℤ pos i) p (sym e2);
        more = omega arith;
        sent = e2;
      }

  sent-heard : (seen-by v c).sent ≡ map (sent_of (agreed-of v)) (outcome v c).frames
  sent-heard = sent-is r rx store b g v y live c

  the-sends : Sends (state_of (after v c).state).slots (outcome v c).frames
  the-sends =
      subst (λ (ts : List ChannelSlot). Sends ts (outcome v c).frames) (sym (slots-after r rx store b g v y live c))
      (sends-call v (live-table r rx store b g v y live) live.delayed c)

  bytes-heard : (l : ℕ) → writes_of l (seen-by v c).sent ≡ writes_in l (outcome v c).frames
  bytes-heard l = ap (writes_of l) sent-heard ∙ heard-writes (agreed-of v) l (outcome v c).frames

  -- the one WRTE is within the maximum
  write-small : (pre : List Frame) (ids : ChannelIds) (bytes : List ℕ) → (outcome v c).frames ≡ pre ++ write_frame ids bytes ∷ [] → length bytes ≤ payload_limit
  write-small pre ids bytes e =
      (every-last (FrameFits (agreed-of v)) pre (write_frame ids bytes)
      (subst (Every (FrameFits (agreed-of v))) e (written (agreed-of v) r rx store v live.holds c).each)).sent.small

  -- what is sent on a channel
  data SentOn (j : ℕ) : Type 0 where
    nothing : sends-at j ≡ 0 → SentOn j
    bytes-on : (n : ℕ) → sends-at j ≡ n → n ≤ payload_limit → neg_ℤ (pos n) <ℤ (place_slot (after v c) j).send_budget → SentOn j

  sent-on : (j : ℕ) → (place_slot (after v c) j).filled ≡ true → (place_slot (after v c) j).local.0 ≡ (book_at y j).local → SentOn j
  sent-on j here own = by-sends the-sends
    where
      by-sends : Sends (state_of (after v c).state).slots (outcome v c).frames → SentOn j
      by-sends (writes-none n) = nothing (bytes-heard (book_at y j).local ∙ none-written (book_at y j).local (outcome v c).frames n)
      by-sends (writes-one pre i bytes e np fill unclosed lt) =
          let l = (book_at y j).local in
          let ids = ids_in (place_slot (after v c) i) in
          by-test (eqb ids.local.0 l)
          (λ u. let q = eqb-true ids.local.0 l u in
          let same : i ≡ j = (live-next r rx store b g v y live c small).given.apart i j fill here (q ∙ sym own) in
          bytes-on (length bytes) (bytes-heard l ∙ ap (writes_in l) e ∙ own-write l pre np ids bytes q) (write-small pre ids bytes e)
          (subst (λ (x : ℕ). neg_ℤ (pos (length bytes)) <ℤ (place_slot (after v c) x).send_budget) same lt))
          (λ u. nothing (bytes-heard l ∙ ap (writes_in l) e ∙ other-write l pre np ids bytes u))

module _ (r : List ℕ) (rx store b g : ℕ) (v : World) (y : Ledger) (live : Live r rx store b g v y) (dc : ℕ → Credit) (exact : ExactAll v y dc) (top : Topped y dc)
    (told : (j : ℕ) → (book_at y j).there ≡ true → (dc j).told ≡ true) (c : Call) (p : PlainCall c) (small : g + given_by c (seen-by v c) < 2 ^ 32)
    (got : Option Sent) (tk : Packeted (received_in c) (lent v).state.header.negotiated.config.max_payload (outcome v c) got)
    (reads : (f : Sent) → got ≡ Some f → is_ready f.command ≡ true → credit_of f.payload ≡ Ok (pos (credit_in f.payload))) where
  -- the budgets are exact after the call
  pub exact-next : ExactAll (after v c) (next-books v y c) (next-credit v y c dc)
  exact-next j t unclosed says = by-sent (sent-on r rx store b g v y live dc c small j here (sym gd.loc ∙ bk.local))
    where
      here : (place_slot (after v c) j).filled ≡ true
      here = filled-next r rx store b g v y live dc c small j t

      gd : Good (policy_of (agreed-of (after v c))) (terms false (agreed-of (after v c))) (place_slot (after v c) j)
          (run_of (after v c).rx (policy_of (agreed-of (after v c))).rx_cap j (place_slot (after v c) j)) (book_at (next-books v y c) j)
      gd = book-good r rx store b (g + given_by c (seen-by v c)) (after v c) (next-books v y c) (next r rx store b g v y live c small) j here

      bk : ItsBook got (seen-by v c).sent (book_at y j) (book_at (next-books v y c) j) (dc j) (next-credit v y c dc j)
      bk = its-book r rx store b g v y live c small p j t dc got tk reads

      few : adds-at r rx store b g v y live dc c small j < 2 ^ 31
      few = let d = due-small (book_at y j).local got reads in let e = added-due r rx store b g v y live c got tk reads (book_at y j).local in omega arith

      moves : sends-at r rx store b g v y live dc c small j ≤ payload_limit
          → NextBudget (dc j) (next-credit v y c dc j) (sends-at r rx store b g v y live dc c small j) (place_slot (after v c) j).send_budget
      moves h = let a = few in budget-next r rx store b g v y live dc c small exact top j bk.there (bk.live unclosed) t says (omega arith) (omega arith)

      before : (dc j).sent ≤ (dc j).opening + (dc j).added + payload_limit
      before = (exact j bk.there (bk.live unclosed) (sym bk.told ∙ says)).1

      by-sent : SentOn r rx store b g v y live dc c small j
          → ((place_slot (after v c) j).send_budget ≡ pos ((next-credit v y c dc j).opening + (next-credit v y c dc j).added) -ℤ pos (next-credit v y c dc j).sent)
          × ((next-credit v y c dc j).sent ≤ (next-credit v y c dc j).opening + (next-credit v y c dc j).added + payload_limit)
      by-sent (nothing z) =
          let m = moves (omega arith) in
          let x = m.more in
          let w = m.sent in
          let q = before in
          (m.budget, omega arith)
      by-sent (bytes-on n z most lt) =
          let m = moves (omega arith) in
          let q = room-left n ((next-credit v y c dc j).opening + (next-credit v y c dc j).added) (next-credit v y c dc j).sent
          (subst (λ (x : ℤ). neg_ℤ (pos n) <ℤ x) m.budget lt) in
          (m.budget, omega arith)

  pub its-writes : ItsWrites (book_at y) (book_at (next-books v y c)) dc (next-credit v y c dc) (seen-by v c).sent
  its-writes = by-sends (the-sends r rx store b g v y live dc c small)
    where
      heard : (seen-by v c).sent ≡ map (sent_of (agreed-of v)) (outcome v c).frames
      heard = sent-is r rx store b g v y live c

      by-sends : Sends (state_of (after v c).state).slots (outcome v c).frames
          → ItsWrites (book_at y) (book_at (next-books v y c)) dc (next-credit v y c dc) (seen-by v c).sent
      by-sends (writes-none n) = silent (subst no-writes (sym heard) (no-writes-sent (agreed-of v) (outcome v c).frames n))
      by-sends (writes-one pre i bytes e np fill unclosed lt) =
          let n = agreed-of v in
          let ids = ids_in (place_slot (after v c) i) in
          let gd = book-good r rx store b (g + given_by c (seen-by v c)) (after v c) (next-books v y c) (next r rx store b g v y live c small) i fill in
          let bk = its-book r rx store b g v y live c small p i gd.there dc got tk reads in
          let l = (book_at y i).local in
          let w : writes_of l (seen-by v c).sent ≡ length bytes =
          ap (writes_of l) heard ∙ heard-writes n l (outcome v c).frames ∙ ap (writes_in l) e ∙ own-write l pre np ids bytes (sym gd.loc ∙ bk.local) in
          let k = next-credit v y c dc i in
          sends (map (sent_of n) pre) (sent_of n (write_frame ids bytes)) i
          (heard ∙ ap (map (sent_of n)) e ∙ map-append (sent_of n) pre (write_frame ids bytes ∷ [])) (no-writes-sent n pre np) gd.there (gd.ends ∙ unclosed) gd.rem
          (let z = (exact-next i gd.there (gd.ends ∙ unclosed) (bk.told ∙ told i bk.there)).0 in
          let q = room-left (length bytes) (k.opening + k.added) k.sent (subst (λ (x : ℤ). neg_ℤ (pos (length bytes)) <ℤ x) z lt) in
          let a = bk.sent in
          omega arith)

  -- the call as a step of both ends
  pub device-step : DeviceStep (book_at y) (book_at (next-books v y c)) dc (next-credit v y c dc) got (seen-by v c).sent
  device-step =
      record {
        books = λ j t. its-book r rx store b g v y live c small p j t dc got tk reads;
        frames = its-frames r rx store b g v y live c p small;
        writes = its-writes;
      }

-- ---- a verdict

-- the outcome of one that takes an OPEN: the slot ch is filled, and an OKAY written
record Granted (l : Lent) (ids : ChannelIds) (ch : ChannelId) (credit : ℕ) (x : Outcome) : Type 0 where
  answer : x.answer ≡ Opened ch
  used : x.used ≡ 0
  frames : x.frames ≡ okay_frame ids (offered_credit l.state.header.negotiated) ∷ []
  slots : slots_by l.state.slots x.changes ≡ set l.state.slots ch.slot (accepted_slot ids credit (policy l))

data Decided (l : Lent) (take : Bool) (remote : RemoteId) (credit : ℕ) (x : Outcome) : Type 0 where
  closes : (ids : ChannelIds) → x.frames ≡ close_frame ids ∷ [] → x.used ≡ 0 → (take && eqb (answer_number x.answer) 0) ≡ false
      → Decided l take remote credit x
  gives : take ≡ true → (ch : ChannelId) → allocated l.state.header l.state.slots ≡ Ok ch
      → Granted l (record { local = ch.local; remote = remote }) ch credit x → Decided l take remote credit x

decided-on : (l : Lent) (remote : RemoteId) (credit : ℕ) (r : Result ChannelId NoFree) → allocated l.state.header l.state.slots ≡ r
    → Decided l true remote credit (accept_on l (dropped l.state.header) remote credit r)
unfolding accept_on reject_on ends answer_number
decided-on l remote credit (Err _) e = closes _ refl refl refl
decided-on l remote credit (Ok ch) e = gives refl ch e (record { answer = refl; used = refl; frames = refl; slots = refl })

decided : (l : Lent) (take : Bool) (remote : RemoteId) (credit : ℕ) → Decided l take remote credit (verdict_step l take remote credit)
unfolding verdict_step reject_on ends
decided l true remote credit = decided-on l remote credit (allocated l.state.header l.state.slots) refl
decided l false remote credit = closes _ refl refl refl

-- what a verdict does to a channel: one that was there stays; or it is the new one, at an empty place
data Turned (f : Sent) (r : ℕ) (b c : Book) (x y : Credit) : Type 0 where
  keeps-it : StoodBook b c x y → Turned f r b c x y
  fills-it : b.there ≡ false → TakenBook f r b c x y → Turned f r b c x y

turned-taken : (f : Sent) (r : ℕ) (b c : Book) (x y : Credit) → Turned f r b c x y → TakenBook f r b c x y
turned-taken f r b c x y (keeps-it s) = stood s.there s.local s.remote s.live s.same
turned-taken f r b c x y (fills-it n t) = t

-- k, k': how many numbers were given out before and after a verdict on the OPEN f. It is refused; or it is taken, with the next number
pub data Judged (k k' : ℕ) (f : Sent) (db db' : ℕ → Book) (dc dc' : ℕ → Credit) (fs : List Sent) : Type 0 where
  refuses : plain-frames fs → Every (λ (x : Sent). is_ready x.command ≡ false) fs → ((j : ℕ) → (db' j).there ≡ true → StoodBook (db j) (db' j) (dc j) (dc' j))
      → Judged k k' f db db' dc dc' fs
  takes : (r : ℕ) → r ≡ suc k → r ≤ k' → plain-frames fs → Every (λ (x : Sent). (x.arg0 ≡ r) × (x.arg1 ≡ f.arg0)) fs
      → ((j : ℕ) → (db' j).there ≡ true → TakenBook f r (db j) (db' j) (dc j) (dc' j)) → Judged k k' f db db' dc dc' fs

close-plain : (n : Negotiated) (ids : ChannelIds)
    → plain-frames (sent_of n (close_frame ids) ∷ []) × Every (λ (x : Sent). is_ready x.command ≡ false) (sent_of n (close_frame ids) ∷ [])
unfolding is_open is_ready is_write is_the word_of letters_of num_of
close-plain n ids = (((refl, refl), tt), (refl, tt))

okay-plain : (n : Negotiated) (ids : ChannelIds) (len : ℕ) → plain-frames (sent_of n (okay_frame ids len) ∷ [])
unfolding is_open is_write is_the word_of letters_of num_of
okay-plain n ids len = ((refl, refl), tt)

accepted-filled : (l : Lent) (ids : ChannelIds) (credit : ℕ)
    → ((accepted_slot ids credit (policy l)).filled ≡ true) × ((accepted_slot ids credit (policy l)).local.0 ≡ ids.local.0)
unfolding accepted_slot opening_slot
accepted-filled l ids credit = (refl, refl)

word-same : (n : ℕ) → n < 2 ^ 32 → word_in n ≡ n
unfolding word_in
word-same n h = omega arith

-- a credit to which nothing is added, and of which nothing is sent
moved-same : (c : Call) (o : Seen) (l : ℕ) (k : Credit) → added_in (received_in c) o.number o.used l ≡ 0 → writes_of l o.sent ≡ 0 → moved c o l k ≡ k
moved-same c o l k a w =
    let p : k.added + added_in (received_in c) o.number o.used l ≡ k.added = omega arith in
    let q : k.sent + writes_of l o.sent ≡ k.sent = omega arith in
    λ i. record { told = k.told; opening = k.opening; added = p i; sent = q i }

module _ (r : List ℕ) (rx store b g : ℕ) (v : World) (y : Ledger) (live : Live r rx store b g v y) (dc : ℕ → Credit) (k : Packet) (take : Bool) (credit : ℕ)
    (small : g + given_by (verdict_on k take credit) (seen-by v (verdict_on k take credit)) < 2 ^ 32) where
  abbrev vc : Call
  vc = verdict_on k take credit

  abbrev vs : Seen
  vs = seen-by v vc

  abbrev vo : Outcome
  vo = outcome v vc

  abbrev vn : Live r rx store b (g + given_by vc vs) (after v vc) (next-books v y vc)
  vn = live-next r rx store b g v y live vc small

  abbrev vp : List ChannelSlot
  vp = (lent v).state.slots

  values-are : vs.values ≡ answer_values vo.answer
  values-are = ap (λ (z : Seen). z.values) (seen-heard r rx store b g v y live vc)

  -- the place of a channel that is allotted is empty
  allotted-none : (ch : ChannelId) → allocated (lent v).state.header vp ≡ Ok ch → (slot_in vp ch.slot).filled ≡ false
  allotted-none = allocated-vacant (policy (lent v)) (lent v).state.header vp (lent v).rx (live-table r rx store b g v y live)

  module _ (j : ℕ) (t : (book_at (next-books v y vc) j).there ≡ true) where
    abbrev prior : Book
    prior = book_at y j

    abbrev later : Book
    later = book_at (next-books v y vc) j

    abbrev facks : List Sent
    facks = acking vc vs.sent

    later-by : later ≡ acks_b facks (opened_b j y.asked vc vs prior)
    unfolding book_after entry_on
    later-by =
        now-is r rx store b g v y live vc small j t
        ∙ ap (λ (x : Book). acks_b facks (opened_b j y.asked vc vs x)) (pick (λ (x : Book). x ≡ prior) prior.there (λ u. refl) (λ u. refl))

    -- one that was not filled
    stays-by : vo.used ≡ 0 → ((l : ℕ) → writes_of l vs.sent ≡ 0) → opened_b j y.asked vc vs prior ≡ prior
        → StoodBook prior later (dc j) (next-credit v y vc dc j)
    unfolding credit_after
    stays-by us ws e =
        let q : later ≡ acks_b facks prior = later-by ∙ ap (acks_b facks) e in
        let th : prior.there ≡ true =
        by-test prior.there (λ u. u) (λ u. absurd (true≢false (sym t ∙ ap (λ (x : Book). x.there) (q ∙ acks-gone facks prior u) ∙ u))) in
        let z : later ≡ acked_b (acks_of prior.local facks) prior = q ∙ acks-there facks prior th in
        record {
          there = th;
          local = ap (λ (x : Book). x.local) z;
          remote = ap (λ (x : Book). x.remote) z;
          live = λ d. sym (ap (λ (x : Book). x.closed) z) ∙ d;
          same =
              cond-true prior.there _ _ th
              ∙ moved-same vc vs prior.local (dc j) (adds-none (received_in vc) vs.number vs.used prior.local (used-is r rx store b g v y live vc ∙ us)) (ws prior.local);
        }

    -- and one that was
    fills-by : (f : Sent) (local : ℕ) → prior.there ≡ false → opened_b j y.asked vc vs prior ≡ new_book local f.arg0 (okay_credit vs.sent)
        → (take && fills_at j vs) ≡ true → word_in credit ≡ f.arg1 → TakenBook f local prior later (dc j) (next-credit v y vc dc j)
    unfolding credit_after begun_by
    fills-by f local none e on wc =
        let nb = new_book local f.arg0 (okay_credit vs.sent) in
        let z : later ≡ acked_b (acks_of local facks) nb = later-by ∙ ap (acks_b facks) e ∙ acks-there facks nb refl in
        let d : Credit = record { told = true; opening = word_in credit; added = 0; sent = 0 } in
        let q : next-credit v y vc dc j ≡ d = cond-false prior.there _ _ none ∙ cond-true (take && fills_at j vs) d (dc j) on in
        filled (ap (λ (x : Book). x.local) z) (ap (λ (x : Book). x.remote) z) (ap (λ (x : Credit). x.told) q) (ap (λ (x : Credit). x.opening) q ∙ wc)
        (ap (λ (x : Credit). x.added) q) (ap (λ (x : Credit). x.sent) q)

  module _ (f : Sent) (f0 : f.arg0 ≡ k.arg0) (f1 : f.arg1 ≡ k.arg1) (asked : take ≡ true → credit ≡ k.arg1) (fits : k.arg1 < 2 ^ 32) where
    abbrev Says-so : Type 0
    Says-so = Judged live.given.k vn.given.k f (book_at y) (book_at (next-books v y vc)) dc (next-credit v y vc dc) vs.sent

    heard-as : (x : Frame) → vo.frames ≡ x ∷ [] → vs.sent ≡ sent_of (agreed-of v) x ∷ []
    heard-as x e = sent-is r rx store b g v y live vc ∙ ap (map (sent_of (agreed-of v))) e

    writes-zero : (x : Frame) → vo.frames ≡ x ∷ [] → ((l : ℕ) → writes_in l (x ∷ []) ≡ 0) → (l : ℕ) → writes_of l vs.sent ≡ 0
    writes-zero x e z l =
        ap (writes_of l) (sent-is r rx store b g v y live vc) ∙ heard-writes (agreed-of v) l vo.frames ∙ ap (writes_in l) e ∙ z l

    closed-turn : (ids : ChannelIds) → vo.frames ≡ close_frame ids ∷ [] → vo.used ≡ 0 → (take && eqb (answer_number vo.answer) 0) ≡ false
        → (j : ℕ) → (book_at (next-books v y vc) j).there ≡ true → StoodBook (book_at y j) (book_at (next-books v y vc) j) (dc j) (next-credit v y vc dc j)
    unfolding opened_b
    closed-turn ids e us off j t =
        let num : (take && eqb vs.number 0) ≡ false = ap (λ (x : ℕ). take && eqb x 0) (number-is r rx store b g v y live vc) ∙ off in
        stays-by j t us (writes-zero (close_frame ids) e (λ l. refl))
        (by-test take
        (λ on. cond-true take (granted_b j vs (book_at y j)) (book_at y j) on
        ∙ cond-false (eqb vs.number 0 && eqb (get_or vs.values 0 0) j) _ (book_at y j)
        (ap (λ (x : Bool). x && eqb (get_or vs.values 0 0) j) (sym (ap (λ (x : Bool). x && eqb vs.number 0) on) ∙ num)))
        (λ no. cond-false take (granted_b j vs (book_at y j)) (book_at y j) no))

    by-closed : (ids : ChannelIds) → vo.frames ≡ close_frame ids ∷ [] → vo.used ≡ 0 → (take && eqb (answer_number vo.answer) 0) ≡ false → Says-so
    by-closed ids e us off =
        let n = agreed-of v in
        let h = heard-as (close_frame ids) e in
        let c = close-plain n ids in
        refuses (subst plain-frames (sym h) c.0) (subst (Every (λ (x : Sent). is_ready x.command ≡ false)) (sym h) c.1)
        (λ j t. closed-turn ids e us off j t)

    granted-turn : take ≡ true → (ch : ChannelId) → allocated (lent v).state.header vp ≡ Ok ch
        → Granted (lent v) (record { local = ch.local; remote = record { 0 = k.arg0 } }) ch credit vo
        → (j : ℕ) → (book_at (next-books v y vc) j).there ≡ true
        → Turned f ch.local.0 (book_at y j) (book_at (next-books v y vc) j) (dc j) (next-credit v y vc dc j)
    unfolding opened_b answer_number answer_values
    granted-turn on ch e gr j t =
        let n = agreed-of v in
        let ids : ChannelIds = record { local = ch.local; remote = record { 0 = k.arg0 } } in
        let len = offered_credit (lent v).state.header.negotiated in
        let h = heard-as (okay_frame ids len) gr.frames in
        let num : vs.number ≡ 0 = number-is r rx store b g v y live vc ∙ ap answer_number gr.answer in
        let vals : vs.values ≡ answer_values (Opened ch) = values-are ∙ ap answer_values gr.answer in
        let slot : get_or vs.values 0 0 ≡ ch.slot = ap (λ (x : List ℕ). get_or x 0 0) vals in
        let local : get_or vs.values 1 0 ≡ ch.local.0 = ap (λ (x : List ℕ). get_or x 1 0) vals in
        let no = allotted-none ch e in
        let wc : word_in credit ≡ f.arg1 = ap word_in (asked on) ∙ word-same k.arg1 fits ∙ sym f1 in
        let nb = new_book (get_or vs.values 1 0) (okay_remote vs.sent) (okay_credit vs.sent) in
        let op : opened_b j y.asked vc vs (book_at y j) ≡ cond (eqb ch.slot j) nb (book_at y j) =
        cond-true take (granted_b j vs (book_at y j)) (book_at y j) on ∙ ap₂ (λ (x z : ℕ). cond (eqb x 0 && eqb z j) nb (book_at y j)) num slot in
        by-test (eqb ch.slot j)
        (λ u. let q = eqb-true ch.slot j u in
        let none = ((live.kept.each j).none (ap (λ (x : ℕ). (slot_in vp x).filled) (sym q) ∙ no)).gone in
        fills-it none
        (fills-by j t f ch.local.0 none
        (op ∙ cond-true (eqb ch.slot j) nb (book_at y j) u
        ∙ ap₂ (λ (x z : ℕ). new_book x z (okay_credit vs.sent)) local (heard-remote n ids vs.sent h ∙ sym f0))
        (ap (λ (x : Bool). x && fills_at j vs) on ∙ ap₂ (λ (x z : ℕ). eqb x 0 && eqb z j) num slot ∙ u) wc))
        (λ u. keeps-it (stays-by j t gr.used (writes-zero (okay_frame ids len) gr.frames (λ l. refl)) (op ∙ cond-false (eqb ch.slot j) nb (book_at y j) u)))

    by-granted : take ≡ true → (ch : ChannelId) → allocated (lent v).state.header vp ≡ Ok ch
        → Granted (lent v) (record { local = ch.local; remote = record { 0 = k.arg0 } }) ch credit vo → Says-so
    unfolding answer_number answer_values given_by
    by-granted on ch e gr =
        let n = agreed-of v in
        let ids : ChannelIds = record { local = ch.local; remote = record { 0 = k.arg0 } } in
        let len = offered_credit (lent v).state.header.negotiated in
        let h = heard-as (okay_frame ids len) gr.frames in
        let num : vs.number ≡ 0 = number-is r rx store b g v y live vc ∙ ap answer_number gr.answer in
        let one : given_by vc vs ≡ 1 = ap₂ (λ (x : Bool) (z : ℕ). cond (x && eqb z 0) 1 0) on num in
        let le = live.given.le in
        let nx : ch.local.0 ≡ suc live.given.k = allocated-local (lent v).state.header vp ch e ∙ live.given.next (omega arith) in
        let ok = live-table r rx store b g v y live in
        let inside : ch.slot < length vp = allocated-inside (policy (lent v)) (lent v).state.header vp (lent v).rx ok ch e in
        let af = accepted-filled (lent v) ids credit in
        let at : slot_in (state_of (after v vc).state).slots ch.slot ≡ accepted_slot ids credit (policy (lent v)) =
        ap (λ (x : List ChannelSlot). slot_in x ch.slot) (slots-after r rx store b g v y live vc ∙ gr.slots) ∙ slot-set-same vp ch.slot (accepted_slot ids credit (policy (lent v))) inside in
        let low : ch.local.0 ≤ vn.given.k =
        subst (λ (x : ℕ). x ≤ vn.given.k) (ap (λ (x : ChannelSlot). x.local.0) at ∙ af.1) (vn.given.below ch.slot (ap (λ (x : ChannelSlot). x.filled) at ∙ af.0)) in
        takes ch.local.0 nx low (subst plain-frames (sym h) (okay-plain n ids len))
        (subst (Every (λ (x : Sent). (x.arg0 ≡ ch.local.0) × (x.arg1 ≡ f.arg0))) (sym h) ((refl, sym f0), tt))
        (λ j t. turned-taken f ch.local.0 (book_at y j) (book_at (next-books v y vc) j) (dc j) (next-credit v y vc dc j) (granted-turn on ch e gr j t))

    by-decided : Decided (lent v) take (record { 0 = k.arg0 }) credit vo → Says-so
    by-decided (closes ids e us off) = by-closed ids e us off
    by-decided (gives on ch e gr) = by-granted on ch e gr

    pub verdicts : outcome v (verdict_on k take credit) ≡ verdict_step (lent v) take (record { 0 = k.arg0 }) credit
        → Judged live.given.k (live-next r rx store b g v y live (verdict_on k take credit) small).given.k f (book_at y)
        (book_at (next-books v y (verdict_on k take credit))) dc (next-credit v y (verdict_on k take credit) dc) (seen-by v (verdict_on k take credit)).sent
    verdicts step = by-decided (subst (Decided (lent v) take (record { 0 = k.arg0 }) credit) (sym step) (decided (lent v) take (record { 0 = k.arg0 }) credit))

    -- the budgets are exact after the verdict
    module _ (exact : ExactAll v y dc) (top : Topped y dc) where
      abbrev Exact-at : ℕ → Type 0
      Exact-at j =
          ((place_slot (after v vc) j).send_budget ≡ pos ((next-credit v y vc dc j).opening + (next-credit v y vc dc j).added) -ℤ pos (next-credit v y vc dc j).sent)
          × ((next-credit v y vc dc j).sent ≤ (next-credit v y vc dc j).opening + (next-credit v y vc dc j).added + payload_limit)

      exact-stood : (j : ℕ) → (book_at (next-books v y vc) j).there ≡ true → (book_at (next-books v y vc) j).closed ≡ false
          → (next-credit v y vc dc j).told ≡ true → StoodBook (book_at y j) (book_at (next-books v y vc) j) (dc j) (next-credit v y vc dc j) → Exact-at j
      exact-stood j t unclosed says s =
          let e = moved-at r rx store b g v y live dc vc small (dc j) j s.there in
          let o = s.live unclosed in
          let was = exact j s.there o (sym (ap (λ (z : Credit). z.told) s.same) ∙ says) in
          let low = was.1 in
          let s1 = ap (λ (z : Credit). z.added) s.same in
          let s2 = ap (λ (z : Credit). z.sent) s.same in
          let e1 : (next-credit v y vc dc j).added ≡ (dc j).added + adds-at r rx store b g v y live dc vc small j = ap (λ (z : Credit). z.added) e in
          let e2 : (next-credit v y vc dc j).sent ≡ (dc j).sent + sends-at r rx store b g v y live dc vc small j = ap (λ (z : Credit). z.sent) e in
          let m = budget-next r rx store b g v y live dc vc small exact top j s.there o t says (omega arith) (omega arith) in
          let x = m.more in
          (m.budget, omega arith)

      exact-filled : (j : ℕ) → (book_at (next-books v y vc) j).there ≡ true → (book_at y j).there ≡ false → (q : ℕ)
          → TakenBook f q (book_at y j) (book_at (next-books v y vc) j) (dc j) (next-credit v y vc dc j) → Exact-at j
      exact-filled j t none q (stood th a c d e) = absurd (true≢false (sym th ∙ none))
      exact-filled j t none q (filled a c told opening added sent) =
          let before : Sound (state_of v.state).slots j (dc j) = λ fill. absurd (true≢false (sym ((live.kept.each j).full fill).there ∙ none)) in
          (sound-at r rx store b g v y live dc vc small j (dc j) before (filled-next r rx store b g v y live dc vc small j t) told (omega arith) (omega arith), omega arith)

      exact-turned : (j : ℕ) → (book_at (next-books v y vc) j).there ≡ true → (book_at (next-books v y vc) j).closed ≡ false
          → (next-credit v y vc dc j).told ≡ true → (q : ℕ) → Turned f q (book_at y j) (book_at (next-books v y vc) j) (dc j) (next-credit v y vc dc j) → Exact-at j
      exact-turned j t unclosed says q (keeps-it s) = exact-stood j t unclosed says s
      exact-turned j t unclosed says q (fills-it none tb) = exact-filled j t none q tb

      exact-decided : Decided (lent v) take (record { 0 = k.arg0 }) credit vo → ExactAll (after v vc) (next-books v y vc) (next-credit v y vc dc)
      exact-decided (closes ids e us off) = λ j t unclosed says. exact-stood j t unclosed says (closed-turn ids e us off j t)
      exact-decided (gives on ch e gr) = λ j t unclosed says. exact-turned j t unclosed says ch.local.0 (granted-turn on ch e gr j t)

      pub exact-verdict : outcome v (verdict_on k take credit) ≡ verdict_step (lent v) take (record { 0 = k.arg0 }) credit
          → ExactAll (after v (verdict_on k take credit)) (next-books v y (verdict_on k take credit)) (next-credit v y (verdict_on k take credit) dc)
      exact-verdict step =
          exact-decided (subst (Decided (lent v) take (record { 0 = k.arg0 }) credit) (sym step) (decided (lent v) take (record { 0 = k.arg0 }) credit))
