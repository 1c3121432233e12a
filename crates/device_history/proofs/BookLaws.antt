-- What leaves a ledger alone, and what counts in it the same. Assumes nothing.
use Rattle.std.proofs.Common.{◌≡◌, refl, sym, ap, ap₂, ◌∙◌, Bool, true, false, cond, ◌&&◌, List, [], ◌∷◌, ◌++◌, ℕ, zero, suc, ◌+◌, eqb, get_or, replicate, arith}
use native.Mathlib.Nat.{zero-add}
use Rattle.le.specs.Le.{num_of}
use Rattle.config.specs.declared.negotiated.RxPolicy.{RxPolicy}
use Rattle.protocol.specs.declared.command.Command.TheVariants.{Close}
use Rattle.protocol.specs.Command.{letters_of, word_of, is_open, is_ready, is_the}
use Rattle.slot.specs.declared.ids.RemoteId.{RemoteId}
use Rattle.connection.specs.Frames.{Sent}
use Rattle.history.specs.Run.{Call, verdict_call, World, after, after_all}
use Rattle.history.specs.Seen.{Seen, Event, held_of, seen_of, events_of}
use Rattle.history.specs.Book.{Book, no_book, new_book, okay_remote, okay_credit, acked_b, acks_of, last_open, packet_b, read_b, write_b, entry_on, opened_b, acks_b, book_after, each_place, Ledger, clean, entry, ledger_of}
use Rattle.device_history.specs.Run.{DeviceCall, device_dispatches, device_reads, device_writes, device_settles, device_takes, device_closes}
use Rattle.device_history.specs.Owner.{host_call}

-- ---- small parts

both-same : {A : Type 0} (t : Bool) (x a : A) → x ≡ a → cond t x a ≡ a
both-same true x a e = e
both-same false x a e = refl

acked-same : (b : Book) → acked_b 0 b ≡ b
acked-same b =
    let e : b.acked + 0 ≡ b.acked = omega arith in
    ap (λ (x : ℕ). record { there = b.there; local = b.local; remote = b.remote; opening = b.opening; sent = b.sent; accepted = b.accepted; handed = b.handed; acked = x; aside = b.aside; closed = b.closed; kept = b.kept; over = b.over }) e

-- frames that carry no credit acknowledge nothing
no-acks : (fs : List Sent) → ((l : ℕ) → acks_of l fs ≡ 0) → (b : Book) → acks_b fs b ≡ b
unfolding acks_b
no-acks fs z b = both-same b.there _ b (ap (λ (x : ℕ). acked_b x b) (z b.local) ∙ acked-same b)

acks-append : (l : ℕ) (fs gs : List Sent) → acks_of l (fs ++ gs) ≡ acks_of l fs + acks_of l gs
unfolding acks_of
acks-append l [] gs = sym (zero-add (acks_of l gs))
acks-append l (f ∷ fs) gs = let i = acks-append l fs gs in omega arith

open-append : (fs gs : List Sent) (a : ℕ) → last_open (fs ++ gs) a ≡ last_open gs (last_open fs a)
unfolding last_open
open-append [] gs a = refl
open-append (f ∷ fs) gs a = open-append fs gs (cond (is_open f.command) f.arg1 a)

each-cong : (f g : ℕ → Book → Book) (i : ℕ) (bs : List Book) → ((j : ℕ) (b : Book) → f j b ≡ g j b) → each_place f i bs ≡ each_place g i bs
unfolding each_place
each-cong f g i [] e = refl
each-cong f g i (b ∷ bs) e = ap₂ (λ (x : Book) (y : List Book). x ∷ y) (e i b) (each-cong f g (suc i) bs e)

each_same : (f : ℕ → Book → Book) (i : ℕ) (bs : List Book) → ((j : ℕ) (b : Book) → f j b ≡ b) → each_place f i bs ≡ bs
unfolding each_place
each_same f i [] e = refl
each_same f i (b ∷ bs) e = ap₂ (λ (x : Book) (y : List Book). x ∷ y) (e i b) (each_same f (suc i) bs e)

each-none : (f : ℕ → Book → Book) (i k : ℕ) → ((j : ℕ) → f j no_book ≡ no_book) → each_place f i (replicate k no_book) ≡ replicate k no_book
unfolding each_place
each-none f i zero e = refl
each-none f i (suc k) e = ap₂ (λ (x : Book) (y : List Book). x ∷ y) (e i) (each-none f (suc i) k e)

-- two entries that are the same in each book, and in the last OPEN
same-entry : (p : RxPolicy) (c k : Call) (o u : Seen) (y : Ledger) → last_open o.sent y.asked ≡ last_open u.sent y.asked
    → ((j : ℕ) (b : Book) → book_after p y.books y.asked c o j b ≡ book_after p y.books y.asked k u j b) → entry p c o y ≡ entry p k u y
unfolding entry
same-entry p c k o u y e f =
    let g = each-cong (book_after p y.books y.asked c o) (book_after p y.books y.asked k u) 0 y.books f in
    (λ i. record { asked = e i; books = g i })

-- ---- a call that uses nothing does not look at what arrived

-- with these frames, and nothing used
abbrev pub unused : ℕ → List ℕ → List Sent → List ℕ → Seen
unused number values sent got = record { number = number; values = values; used = 0; sent = sent; got = got }

unused-book : (p : RxPolicy) (d : List Book) (asked : ℕ) (x : DeviceCall) (r s : List ℕ) (number : ℕ) (values : List ℕ) (sent : List Sent) (got : List ℕ) (j : ℕ) (b : Book)
    → book_after p d asked (host_call x r) (unused number values sent got) j b ≡ book_after p d asked (host_call x s) (unused number values sent got) j b
unfolding host_call book_after opened_b entry_on packet_b read_b write_b
unused-book p d asked (device_dispatches out names received) r s number values sent got j b = refl
unused-book p d asked (device_reads out names ch buf received) r s number values sent got j b = refl
unused-book p d asked (device_writes out names ch bytes received) r s number values sent got j b = refl
unused-book p d asked (device_settles out ch want) r s number values sent got j b = refl
unused-book p d asked (device_takes ch buf) r s number values sent got j b = refl
unused-book p d asked (device_closes out ch) r s number values sent got j b = refl

pub unused-same : (p : RxPolicy) (x : DeviceCall) (r s : List ℕ) (o : Seen) (y : Ledger) → o.used ≡ 0 → entry p (host_call x r) o y ≡ entry p (host_call x s) o y
unused-same p x r s o y e =
    let u : o ≡ unused o.number o.values o.sent o.got = λ i. record { number = o.number; values = o.values; used = e i; sent = o.sent; got = o.got } in
    ap (λ (z : Seen). entry p (host_call x r) z y) u
    ∙ same-entry p (host_call x r) (host_call x s) _ _ y refl (unused-book p y.books y.asked x r s o.number o.values o.sent o.got)
    ∙ ap (λ (z : Seen). entry p (host_call x s) z y) (sym u)

-- ---- frames that do not count

-- neither an OPEN nor an OKAY
pub record Silent (fs : List Sent) : Type 0 where
  pub acks : (l : ℕ) → acks_of l fs ≡ 0
  pub opens : (a : ℕ) → last_open fs a ≡ a

pub close-silent : (arg0 arg1 : ℕ) (payload : List ℕ) → Silent (record { command = Close; arg0 = arg0; arg1 = arg1; payload = payload } ∷ [])
unfolding acks_of last_open is_ready is_open is_the word_of letters_of num_of
close-silent arg0 arg1 payload = record { acks = λ l. refl; opens = λ a. refl }

pub none-silent : Silent []
unfolding acks_of last_open
none-silent = record { acks = λ l. refl; opens = λ a. refl }

silent-acks : (fs gs : List Sent) (z : Silent gs) (b : Book) → acks_b (fs ++ gs) b ≡ acks_b fs b
unfolding acks_b
silent-acks fs gs z b = ap (λ (n : ℕ). cond b.there (acked_b n b) b) (acks-append b.local fs gs ∙ (let e = z.acks b.local in omega arith))

silent-book : (p : RxPolicy) (d : List Book) (asked : ℕ) (x : DeviceCall) (r : List ℕ) (number : ℕ) (values : List ℕ) (fs gs : List Sent) (got : List ℕ) → Silent gs → (j : ℕ) (b : Book)
    → book_after p d asked (host_call x r) (unused number values (fs ++ gs) got) j b ≡ book_after p d asked (host_call x r) (unused number values fs got) j b
unfolding host_call book_after opened_b entry_on packet_b read_b write_b
silent-book p d asked (device_dispatches out names received) r number values fs gs got z j b = silent-acks fs gs z _
silent-book p d asked (device_reads out names ch buf received) r number values fs gs got z j b = silent-acks fs gs z _
silent-book p d asked (device_writes out names ch bytes received) r number values fs gs got z j b = silent-acks fs gs z _
silent-book p d asked (device_settles out ch want) r number values fs gs got z j b = silent-acks fs gs z _
silent-book p d asked (device_takes ch buf) r number values fs gs got z j b = silent-acks fs gs z _
silent-book p d asked (device_closes out ch) r number values fs gs got z j b = silent-acks fs gs z _

pub silent-same : (p : RxPolicy) (x : DeviceCall) (r : List ℕ) (number : ℕ) (values : List ℕ) (fs gs : List Sent) (got : List ℕ) (y : Ledger) → Silent gs
    → entry p (host_call x r) (unused number values (fs ++ gs) got) y ≡ entry p (host_call x r) (unused number values fs got) y
silent-same p x r number values fs gs got y z =
    same-entry p (host_call x r) (host_call x r) _ _ y (open-append fs gs y.asked ∙ z.opens (last_open fs y.asked))
    (silent-book p y.books y.asked x r number values fs gs got z)

-- ---- verdicts

-- one that takes nothing leaves the ledger
refused-book : (p : RxPolicy) (d : List Book) (asked : ℕ) (out : List ℕ) (take : Bool) (remote : RemoteId) (credit number : ℕ) (values : List ℕ) (fs : List Sent) (got : List ℕ)
    → (take && eqb number 0) ≡ false → Silent fs → (j : ℕ) (b : Book) → book_after p d asked (verdict_call out take remote credit) (unused number values fs got) j b ≡ b
unfolding book_after opened_b entry_on
refused-book p d asked out false remote credit number values fs got n z j b = no-acks fs z.acks _ ∙ both-same b.there b b refl
refused-book p d asked out true remote credit number values fs got n z j b =
    let k : Book = new_book (get_or values 1 0) (okay_remote fs) (okay_credit fs) in
    ap (λ (t : Bool). acks_b [] (cond (t && eqb (get_or values 0 0) j) k (cond b.there b b))) n ∙ ap (acks_b []) (both-same b.there b b refl) ∙ no-acks [] none-silent.acks b

pub refused-same : (p : RxPolicy) (out : List ℕ) (take : Bool) (remote : RemoteId) (credit number : ℕ) (values : List ℕ) (fs : List Sent) (got : List ℕ) (y : Ledger)
    → (take && eqb number 0) ≡ false → Silent fs → entry p (verdict_call out take remote credit) (unused number values fs got) y ≡ y
unfolding entry
refused-same p out take remote credit number values fs got y n z =
    let e = z.opens y.asked in
    let g = each_same (book_after p y.books y.asked (verdict_call out take remote credit) (unused number values fs got)) 0 y.books
    (refused-book p y.books y.asked out take remote credit number values fs got n z) in
    (λ i. record { asked = e i; books = g i })

taken-at : (p : RxPolicy) (ds : List Book) (asked : ℕ) (out k : List ℕ) (a b : RemoteId) (c d slot local m n m' n' : ℕ) (fs : List Sent) (j : ℕ) (x : Book)
    → book_after p ds asked (verdict_call out true a c) (unused 0 (slot ∷ local ∷ m ∷ n ∷ []) fs []) j x ≡ book_after p ds asked (verdict_call k true b d) (unused 0 (slot ∷ local ∷ m' ∷ n' ∷ []) fs []) j x
unfolding book_after opened_b entry_on
taken-at p ds asked out k a b c d slot local m n m' n' fs j x = refl

-- one that takes counts by its slot, its number and its OKAY
pub taken-same : (p : RxPolicy) (out k : List ℕ) (a b : RemoteId) (c d slot local m n m' n' : ℕ) (fs : List Sent) (y : Ledger)
    → entry p (verdict_call out true a c) (unused 0 (slot ∷ local ∷ m ∷ n ∷ []) fs []) y ≡ entry p (verdict_call k true b d) (unused 0 (slot ∷ local ∷ m' ∷ n' ∷ []) fs []) y
taken-same p out k a b c d slot local m n m' n' fs y = same-entry p (verdict_call out true a c) (verdict_call k true b d) _ _ y refl (taken-at p y.books y.asked out k a b c d slot local m n m' n' fs)

-- ---- where no channel is there

none-book : (p : RxPolicy) (d : List Book) (asked : ℕ) (x : DeviceCall) (r : List ℕ) (o : Seen) (j : ℕ) → book_after p d asked (host_call x r) o j no_book ≡ no_book
unfolding host_call book_after opened_b acks_b
none-book p d asked (device_dispatches out names received) r o j = refl
none-book p d asked (device_reads out names ch buf received) r o j = refl
none-book p d asked (device_writes out names ch bytes received) r o j = refl
none-book p d asked (device_settles out ch want) r o j = refl
none-book p d asked (device_takes ch buf) r o j = refl
none-book p d asked (device_closes out ch) r o j = refl

-- a call leaves the books
pub none-entry : (p : RxPolicy) (x : DeviceCall) (r : List ℕ) (o : Seen) (y : Ledger) → y.books ≡ clean.books → entry p (host_call x r) o y ≡ record { asked = last_open o.sent y.asked; books = y.books }
unfolding entry
none-entry p x r o y e =
    let f = book_after p y.books y.asked (host_call x r) o in
    let g : each_place f 0 y.books ≡ y.books = ap (each_place f 0) e ∙ each-none f 0 64 (none-book p y.books y.asked x r o) ∙ sym e in
    (λ i. record { asked = last_open o.sent y.asked; books = g i })

-- ---- lists

pub ledger-append : (p : RxPolicy) (y : Ledger) (es fs : List Event) → ledger_of p y (es ++ fs) ≡ ledger_of p (ledger_of p y es) fs
unfolding ledger_of
ledger-append p y [] fs = refl
ledger-append p y (e ∷ es) fs = ledger-append p (entry p e.call (seen_of e) y) es fs

pub events-append : (w : World) (xs ys : List Call) → events_of w (xs ++ ys) ≡ events_of w xs ++ events_of (after_all w xs) ys
unfolding events_of after_all
events-append w [] ys = refl
events-append w (x ∷ xs) ys = ap (λ (es : List Event). record { call = x; held = held_of w x } ∷ es) (events-append (after w x) xs ys)
