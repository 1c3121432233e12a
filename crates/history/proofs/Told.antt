-- What is claimed of each call: its answer's counts, the frames that it wrote, its OKAYs; what an answer of 8 and one of 11 leave
-- of the books. Assumes nothing.
--     entry-eight, told-eight   a call that answers 8 leaves the books, and all that is claimed of it is claimed of nothing
--     told-by                   the claims of an outcome that fits its buffers
--     book-over                 the book of a channel whose WRTE was answered by 11
use mathlib.Core.Path.{◌≡◌, refl, sym, ap, ap₂, subst, ◌∙◌}
use mathlib.Core.Bool.{Bool, true, false, cond, ◌&&◌, ◌||◌, true≢false}
use mathlib.Core.List.{List, [], ◌∷◌, map, append-nil}
use Prim.Native.Nat.{ℕ, suc, ◌+◌, ◌-◌, ◌^◌, ◌<◌}
use native.Mathlib.Omega.{arith}
use lib.Dec.{eqb, ltb, leb}
use lib.IntN.{pos}
use lib.ListN.{length, length-append}
use borrow.Author.Tests.{eqb-true, eq-eqb, lt-ltb}
use Rattle.le.specs.Le.{num_of, bytes_of, signed, part}
use Rattle.le.proofs.Laws.{write_read}
use Rattle.le.proofs.Parts.{by-test, length-put}
use Rattle.config.specs.declared.negotiated.Negotiated.{Negotiated}
use Rattle.config.specs.declared.negotiated.RxPolicy.{RxPolicy}
use Rattle.protocol.specs.declared.command.Command.TheVariants.{Open, Ready, Close, Write}
use Rattle.protocol.specs.declared.message.Message.{Message}
use Rattle.protocol.specs.Command.{letters_of, word_of, is_ready, is_the}
use Rattle.protocol.specs.Message.{message_of}
use Rattle.protocol.proofs.PacketLaws.{frame-length}
use Rattle.slot.specs.Ids.{named_by}
use Rattle.credit.specs.Credit.{credit_of, at_least_zero}
use Rattle.slot.proofs.Kept.{pick}
use Rattle.slot.proofs.Laws.{cond-true, cond-false}
use Rattle.le.specs.Rows.{flat}
use Rattle.le.proofs.RowLaws.{Every}
use Rattle.wire.specs.Wire.{credit_bytes, okay_bytes, close_bytes}
use Rattle.connection.specs.Answer.{answer_number}
use Rattle.connection.specs.Calls.{Outcome, written_by}
use Rattle.connection.specs.Frames.{Frame, okay_frame, close_frame, open_frame, write_frame, frame_bytes, frames_bytes, Sent}
use Rattle.connection.proofs.Sending.{sent_of, FrameFits}
use Rattle.history.specs.Run.{Call, open_call, dispatch_call, settle_call, take_call, read_call, write_call, close_call, front_taken, look_call, accept_call, reject_call, let_go_call, verdict_call, bytes_in, out_of, buf_of, received_in}
use Rattle.history.specs.Seen.{Held, held_by, said_by, count_of, Seen, Event, seen_of}
use Rattle.history.specs.Book.{Book, gone_book, credit_in, handed_b, acked_b, acks_of, last_open, header_at, payload_at, is_wrte, is_clse, own_end, frame_b, packet_b, settle_b, read_used_b, read_b, write_b, is_on, ends_open, ends_other, entry_on, opened_b, acking, acks_b, book_after, each_place, Ledger, entry}
use Rattle.history.specs.Demand3.{size_of, Reads, AllRead, Noted, Told}
use Rattle.history.proofs.Heard.{Writes, counted, heard_of, nothing8, seen-eight, count-eight}
use Rattle.history.proofs.Opens.{and-false}
use Rattle.std.specs.Prelude.{Ok}

-- ---- a call that answers 8

-- nothing handed over, no credit
handed-same : (b : Book) → handed_b [] b ≡ b
handed-same b =
    let e : b.aside - 0 ≡ b.aside = omega arith in
    ap₂ (λ (x : List ℕ) (y : ℕ). record { there = b.there; local = b.local; remote = b.remote; opening = b.opening; sent = b.sent; accepted = b.accepted; handed = x; acked = b.acked; aside = y; closed = b.closed; kept = b.kept; over = b.over }) (append-nil b.handed) e

acked-same : (b : Book) → acked_b 0 b ≡ b
acked-same b =
    let e : b.acked + 0 ≡ b.acked = omega arith in
    ap (λ (x : ℕ). record { there = b.there; local = b.local; remote = b.remote; opening = b.opening; sent = b.sent; accepted = b.accepted; handed = b.handed; acked = x; aside = b.aside; closed = b.closed; kept = b.kept; over = b.over }) e

both-same : {A : Type 0} (t : Bool) (x a : A) → x ≡ a → cond t x a ≡ a
both-same true x a e = e
both-same false x a e = refl

on-eight : (p : RxPolicy) (d : List Book) (i : ℕ) (c : Call) (b : Book) → entry_on p d i c nothing8 b ≡ b
unfolding entry_on packet_b read_b write_b
on-eight p d i (open_call out destination received) b = refl
on-eight p d i (dispatch_call out received) b = refl
on-eight p d i (settle_call out ch want) b = ap (λ (t : Bool). cond t (settle_b p want b) b) (and-false (is_on i b ch))
on-eight p d i (take_call ch buf) b = both-same (is_on i b ch) (handed_b [] b) b (handed-same b)
on-eight p d i (read_call out ch buf received) b = both-same (is_on i b ch) b b refl
on-eight p d i (write_call spending out ch bytes received) b = both-same (is_on i b ch) b b refl
on-eight p d i (close_call out ch) b = ap (λ (t : Bool). cond t (gone_book b) b) (and-false (is_on i b ch))
on-eight p d i front_taken b = refl
on-eight p d i (look_call x) b = refl
on-eight p d i (accept_call out) b = refl
on-eight p d i (reject_call out) b = refl
on-eight p d i let_go_call b = refl
on-eight p d i (verdict_call out take remote credit) b = refl

opened-eight : (i asked : ℕ) (c : Call) (b : Book) → opened_b i asked c nothing8 b ≡ b
unfolding opened_b
opened-eight i asked (open_call out destination received) b = refl
opened-eight i asked (dispatch_call out received) b = refl
opened-eight i asked (settle_call out ch want) b = refl
opened-eight i asked (take_call ch buf) b = refl
opened-eight i asked (read_call out ch buf received) b = refl
opened-eight i asked (write_call spending out ch bytes received) b = refl
opened-eight i asked (close_call out ch) b = refl
opened-eight i asked front_taken b = refl
opened-eight i asked (look_call x) b = refl
opened-eight i asked (accept_call out) b = refl
opened-eight i asked (reject_call out) b = refl
opened-eight i asked let_go_call b = refl
opened-eight i asked (verdict_call out take remote credit) b = both-same take b b refl

acking-eight : (c : Call) → acking c [] ≡ []
acking-eight (open_call out destination received) = refl
acking-eight (dispatch_call out received) = refl
acking-eight (settle_call out ch want) = refl
acking-eight (take_call ch buf) = refl
acking-eight (read_call out ch buf received) = refl
acking-eight (write_call spending out ch bytes received) = refl
acking-eight (close_call out ch) = refl
acking-eight front_taken = refl
acking-eight (look_call x) = refl
acking-eight (accept_call out) = refl
acking-eight (reject_call out) = refl
acking-eight let_go_call = refl
acking-eight (verdict_call out take remote credit) = both-same take [] [] refl

after-eight : (p : RxPolicy) (d : List Book) (asked : ℕ) (c : Call) (i : ℕ) (b : Book) → book_after p d asked c nothing8 i b ≡ b
unfolding book_after acks_b acks_of
after-eight p d asked c i b =
    ap (acks_b (acking c [])) (opened-eight i asked c _ ∙ both-same b.there (entry_on p d i c nothing8 b) b (on-eight p d i c b)) ∙ ap (λ (fs : List Sent). acks_b fs b) (acking-eight c) ∙ both-same b.there (acked_b 0 b) b (acked-same b)

each_same : (f : ℕ → Book → Book) (i : ℕ) (bs : List Book) → ((j : ℕ) (b : Book) → f j b ≡ b) → each_place f i bs ≡ bs
unfolding each_place
each_same f i [] e = refl
each_same f i (b ∷ bs) e = ap₂ (λ (x : Book) (y : List Book). x ∷ y) (e i b) (each_same f (suc i) bs e)

pub entry-eight : (p : RxPolicy) (c : Call) (y : Ledger) → entry p c nothing8 y ≡ y
unfolding entry last_open
entry-eight p c y =
    ap (λ (bs : List Book). record { asked = y.asked; books = bs }) (each_same (book_after p y.books y.asked c nothing8) 0 y.books (λ j b. after-eight p y.books y.asked c j b))

pub told-eight : (p : RxPolicy) (y : Ledger) (e : Event) → e.held.number ≡ 8 → Told p y e
unfolding said_by size_of
told-eight p y e z =
    let s : said_by e.held ≡ record { number = 8; used = 0; written = 0; values = 0 ∷ 0 ∷ 0 ∷ 0 ∷ []; out = e.held.out; buf = e.held.buf } =
    cond-true (eqb e.held.number 8) _ _ (eq-eqb e.held.number 8 z) in
    let n = seen-eight e z in
    record {
      counted = let k : count_of e.call (said_by e.held).number (said_by e.held).values ≡ 0 = ap (λ (h : Held). count_of e.call h.number h.values) s ∙ count-eight e.call in omega arith;
      within = let k : (said_by e.held).written ≡ 0 = ap (λ (h : Held). h.written) s in omega arith;
      frames = ap (λ (o : Seen). size_of o.sent) n ∙ sym (ap (λ (h : Held). h.written) s);
      okays = subst (λ (o : Seen). AllRead p o.sent) (sym n) tt;
      noted = λ k. absurd (omega arith);
    }

-- ---- the frames that a call wrote

-- their lengths together are the bytes written
frame-size : (n : Negotiated) (f : Frame) → length (frame_bytes n f) ≡ 24 + length (sent_of n f).payload
unfolding frame_bytes okay_bytes close_bytes
frame-size n (okay_frame ids len) = frame-length Ready _ _ _ _
frame-size n (close_frame ids) = frame-length Close _ _ _ _
frame-size n (open_frame local credit destination) = frame-length Open _ _ _ _
frame-size n (write_frame ids bytes) = frame-length Write _ _ _ _

size_is : (n : Negotiated) (fs : List Frame) → size_of (map (sent_of n) fs) ≡ length (frames_bytes n fs)
unfolding size_of frames_bytes flat
size_is n [] = refl
size_is n (f ∷ fs) =
    let a = frame-size n f in
    let i = size_is n fs in
    let e = length-append (frame_bytes n f) (frames_bytes n fs) in
    omega arith

-- an OKAY's credit, read as the signed number that it is
okay-signed : (len : ℕ) → len < 2 ^ 31 → credit_of (credit_bytes true len) ≡ Ok (pos (credit_in (credit_bytes true len)))
unfolding credit_of at_least_zero credit_in credit_bytes bytes_of part signed
okay-signed len h =
    let w : num_of (bytes_of 4 len) ≡ len = write_read 4 len (omega arith) in
    ap (λ (x : ℕ). at_least_zero (signed 31 x)) w ∙ ap at_least_zero (cond-true (ltb len (2 ^ 31)) (pos len) _ (lt-ltb len (2 ^ 31) h)) ∙ sym (ap (λ (x : ℕ). (Ok (pos x))) w)

okay-reads : (p : RxPolicy) (n : Negotiated) (f : Frame) → p.delayed ≡ n.delayed_ack → FrameFits n f → Reads p (sent_of n f)
unfolding is_ready credit_bytes is_the word_of letters_of num_of
okay-reads p n (okay_frame ids len) d h =
    record {
      signed = λ r t. let m = sym d ∙ t in subst (λ (x : Bool). credit_of (credit_bytes x len) ≡ (Ok (pos (credit_in (credit_bytes x len))))) (sym m) (okay-signed len (h.len-fits m));
      bare = λ r t. cond-false n.delayed_ack (bytes_of 4 len) [] (sym d ∙ t);
    }
okay-reads p n (close_frame ids) d h = record { signed = λ r. absurd (true≢false (sym r)); bare = λ r. absurd (true≢false (sym r)) }
okay-reads p n (open_frame local credit destination) d h = record { signed = λ r. absurd (true≢false (sym r)); bare = λ r. absurd (true≢false (sym r)) }
okay-reads p n (write_frame ids bytes) d h = record { signed = λ r. absurd (true≢false (sym r)); bare = λ r. absurd (true≢false (sym r)) }

all_read : (p : RxPolicy) (n : Negotiated) (fs : List Frame) → p.delayed ≡ n.delayed_ack → Every (FrameFits n) fs → AllRead p (map (sent_of n) fs)
all_read p n [] d e = tt
all_read p n (f ∷ fs) d e = (okay-reads p n f d e.0, all_read p n fs d e.1)

-- what is claimed of an outcome whose frames and bytes fit; noted: what an 11 leaves
pub told-by : (p : RxPolicy) (y : Ledger) (n : Negotiated) (c : Call) (o : Outcome) → p.delayed ≡ n.delayed_ack → Writes n (length (out_of c)) (length (buf_of c)) o
    → counted c o.answer ≡ length o.handed → seen_of (record { call = c; held = held_by n c o }) ≡ heard_of n o
    → (answer_number o.answer ≡ 11 → Noted p y (entry p c (seen_of (record { call = c; held = held_by n c o })) y) (record { call = c; held = held_by n c o }))
    → Told p y (record { call = c; held = held_by n c o })
unfolding said_by written_by
told-by p y n c o d w k s m =
    let e : Event = record { call = c; held = held_by n c o } in
    by-test (eqb (answer_number o.answer) 8)
    (λ t. told-eight p y e (eqb-true (answer_number o.answer) 8 t))
    (λ t. let z : said_by (held_by n c o) ≡ held_by n c o = cond-false (eqb (answer_number o.answer) 8) _ _ t in
    let a = w.handed in
    let b = w.written in
    let lb = length-put (buf_of c) 0 o.handed (omega arith) in
    let lo = length-put (out_of c) 0 (frames_bytes n o.frames) (omega arith) in
    record {
      counted = let q = ap (λ (h : Held). count_of c h.number h.values) z in omega arith;
      within = let q = ap (λ (h : Held). h.written) z in omega arith;
      frames = ap (λ (x : Seen). size_of x.sent) s ∙ size_is n o.frames ∙ sym (ap (λ (h : Held). h.written) z);
      okays = subst (λ (x : Seen). AllRead p x.sent) (sym s) (all_read p n o.frames d w.each);
      noted = m;
    })

-- ---- the book of a channel whose WRTE was answered by 11

-- what is seen of such a call
abbrev pub eleven : List ℕ → ℕ → List Sent → List ℕ → Seen
eleven values used sent got = record { number = 11; values = values; used = used; sent = sent; got = got }

-- it is there, and has the 11
abbrev Has : Book → Type 0
Has b = (b.there ≡ true) × (b.over ≡ true)

pub or-true : (x : Bool) → (x || true) ≡ true
or-true true = refl
or-true false = refl

-- a WRTE is no CLSE
write-clse : (m : Message) → is_wrte m ≡ true → is_clse m ≡ false
unfolding word_of letters_of num_of
write-clse m e = ap (λ (x : ℕ). eqb x (word_of Close)) (eqb-true m.command (word_of Write) e)

-- no bytes are no WRTE
none-write : is_wrte (header_at []) ≡ true → ⊥
unfolding message_of word_of letters_of num_of part
none-write e = true≢false (sym e)

module _ (p : RxPolicy) (d : List Book) (i asked : ℕ) (values : List ℕ) (used : ℕ) (sent : List Sent) (got : List ℕ) (some : eqb used 0 ≡ false) (b : Book) (there : b.there ≡ true) where
  abbrev o : Seen
  o = eleven values used sent got

  module _ (received : List ℕ) (wr : is_wrte (header_at received) ≡ true) (own : (header_at received).arg1 ≡ b.local) where
    abbrev m : Message
    m = header_at received

    own-wrte : (is_wrte m && eqb m.arg1 b.local) ≡ true
    own-wrte = ap (λ (x : Bool). x && eqb m.arg1 b.local) wr ∙ eq-eqb m.arg1 b.local own

    frame-over : (before : ℕ) (bs : List ℕ) (c : Book) → c.there ≡ true → c.local ≡ b.local → Has (frame_b d i before m bs 11 c)
    unfolding frame_b
    frame-over before bs c t e =
        subst Has (sym (cond-true (is_wrte m && eqb m.arg1 c.local) _ _ (ap (λ (x : ℕ). is_wrte m && eqb m.arg1 x) e ∙ own-wrte))) (t, or-true c.over)

    not_own : (l r : ℕ) → own_end l r m ≡ false
    not_own l r = ap (λ (x : Bool). x && named_by (record { local = record { 0 = l }; remote = record { 0 = r } }) m.arg0 m.arg1) (write-clse m wr)

    packet-over : (mine : Message → Bool) → mine m ≡ false → Has (packet_b d i received mine o b)
    unfolding packet_b
    packet-over mine e =
        subst Has (sym (cond-false (eqb used 0) _ _ some ∙ cond-false (mine m) _ _ e)) (frame-over b.acked (payload_at received used) b there refl)

    used_over : (before room : ℕ) (c : Book) → c.there ≡ true → c.local ≡ b.local → Has (read_used_b p d i before room received o c)
    unfolding read_used_b
    used_over before room c t e =
        pick Has (is_wrte m && eqb m.arg1 c.local && leb (used - 24) room) (λ u. (t, or-true c.over))
        (λ u. subst Has (sym (cond-false (own_end c.local c.remote m) _ _ (not_own c.local c.remote))) (frame-over before (payload_at received used) c t e))

    read-over : (room : ℕ) → Has (read_b p d i room received o b)
    unfolding read_b
    read-over room = subst Has (sym (cond-false (eqb used 0) _ _ some)) (used_over b.acked room (settle_b p room b) there refl)

    write-over : Has (write_b d i received o b)
    unfolding write_b
    write-over =
        subst Has (sym (cond-false (eqb used 0) _ _ some ∙ cond-false (own_end b.local b.remote m) _ _ (not_own b.local b.remote))) (frame-over b.acked (payload_at received used) b there refl)

  entry-over : (c : Call) → is_wrte (header_at (received_in c)) ≡ true → (header_at (received_in c)).arg1 ≡ b.local → Has (entry_on p d i c o b)
  unfolding entry_on received_in
  entry-over (open_call out destination received) w e = packet-over (bytes_in received) w e (ends_open 11) (ap (λ (x : Bool). x && true) (write-clse (header_at (bytes_in received)) w))
  entry-over (dispatch_call out received) w e = packet-over (bytes_in received) w e (λ x. false) refl
  entry-over (settle_call out ch want) w e = absurd (none-write w)
  entry-over (take_call ch buf) w e = absurd (none-write w)
  entry-over (read_call out ch buf received) w e =
      pick Has (is_on i b ch) (λ t. read-over (bytes_in received) w e (length buf)) (λ t. packet-over (bytes_in received) w e (ends_other d ch) (not_own (bytes_in received) w e _ _))
  entry-over (write_call spending out ch bytes received) w e =
      pick Has (is_on i b ch) (λ t. write-over (bytes_in received) w e) (λ t. packet-over (bytes_in received) w e (ends_other d ch) (not_own (bytes_in received) w e _ _))
  entry-over (close_call out ch) w e = absurd (none-write w)
  entry-over front_taken w e = absurd (none-write w)
  entry-over (look_call y) w e = absurd (none-write w)
  entry-over (accept_call out) w e = absurd (none-write w)
  entry-over (reject_call out) w e = absurd (none-write w)
  entry-over let_go_call w e = absurd (none-write w)
  entry-over (verdict_call out take remote credit) w e = absurd (none-write w)

  -- 11 fills no slot
  opened-over : (c : Call) (x : Book) → opened_b i asked c o x ≡ x
  unfolding opened_b
  opened-over (open_call out destination received) x = refl
  opened-over (dispatch_call out received) x = refl
  opened-over (settle_call out ch want) x = refl
  opened-over (take_call ch buf) x = refl
  opened-over (read_call out ch buf received) x = refl
  opened-over (write_call spending out ch bytes received) x = refl
  opened-over (close_call out ch) x = refl
  opened-over front_taken x = refl
  opened-over (look_call y) x = refl
  opened-over (accept_call out) x = refl
  opened-over (reject_call out) x = refl
  opened-over let_go_call x = refl
  opened-over (verdict_call out take remote credit) x = both-same take x x refl

  pub book-over : (c : Call) → is_wrte (header_at (received_in c)) ≡ true → (header_at (received_in c)).arg1 ≡ b.local
      → ((book_after p d asked c o i b).there ≡ true) × ((book_after p d asked c o i b).over ≡ true)
  unfolding book_after acks_b
  book-over c w e =
      let h = entry-over c w e in
      let z : opened_b i asked c o (cond b.there (entry_on p d i c o b) b) ≡ entry_on p d i c o b = opened-over c _ ∙ cond-true b.there _ _ there in
      subst (λ (x : Book). Has (acks_b (acking c sent) x)) (sym z) (subst Has (sym (cond-true (entry_on p d i c o b).there _ _ h.0)) h)
