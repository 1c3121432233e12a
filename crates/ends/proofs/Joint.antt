-- What both ends and both lines have in common, and that a call of either end keeps it. Assumes nothing.
--     Joint        the invariant
--     HostStep     what a call of ours does to the books, with the packet that it used and the frames that it wrote
--     DeviceStep, Drops, Verdicts   what a device's call does
use mathlib.Core.Path.{◌≡◌, refl, sym, ap, ap₂, subst, ◌∙◌}
use mathlib.Core.Bool.{Bool, true, false, cond, ◌&&◌, ◌||◌, true≢false}
use mathlib.Core.List.{List, [], ◌∷◌, ◌++◌, append_assoc, append-nil}
use Prim.Native.Nat.{ℕ, suc, ◌+◌, ◌≤◌, ◌<◌}
use native.Mathlib.Omega.{arith}
use lib.Dec.{eqb, ltb}
use lib.IntN.{pos}
use lib.ListN.{length, length-append}
use borrow.Author.Tests.{eqb-true, eqb-false, eq-eqb, ne_eqb, lt-ltb}
use Rattle.le.proofs.Parts.{by-test}
use Rattle.le.proofs.RowLaws.{Every, every_append}
use Rattle.slot.proofs.Laws.{cond-true, cond-false}
use Rattle.config.proofs.Laws.{and-true}
use Rattle.credit.specs.Credit.{credit_of}
use Rattle.protocol.specs.Command.{is_ready, is_write, is_open}
use Rattle.connection.specs.Frames.{Sent}
use Rattle.history.specs.Book.{Book, credit_in, acks_of}
use Rattle.history.specs.Credits.{Credit, writes_of}
use Rattle.ends.proofs.Amounts.{writes-to, readies-to, paid, due, paid-append, due-append, acks_append, paid-none, due-none, acks-none, paid-writes, due-acks, Ruled, ruled-more, ruled-append, ruled-none, Rising, rising-below, rising-more, rising-quiet, rising-next}
use Rattle.std.specs.Prelude.{Option, Some, None, Ok}

-- ---- numbers that belong together

-- which number of ours the device gave each of its own to, and the reverse; 0 for none. read: the number of the OPEN that it read last;
-- given: how many it gave out
pub record Mates : Type 0 where
  pub ours : ℕ → ℕ
  pub its : ℕ → ℕ
  pub read : ℕ
  pub given : ℕ

-- our number l and the device's r
pub record Pair (m : Mates) (l r : ℕ) : Type 0 where
  pub back : m.its l ≡ r
  pub forth : m.ours r ≡ l
  pub some : 1 ≤ r
  pub below : r ≤ m.given
  pub was-read : l ≤ m.read

pair-ours : (m : Mates) (l x r : ℕ) → Pair m l r → Pair m x r → l ≡ x
pair-ours m l x r a b = sym a.forth ∙ b.forth

pair-its : (m : Mates) (l r x : ℕ) → Pair m l r → Pair m l x → r ≡ x
pair-its m l r x a b = sym a.back ∙ b.back

-- ---- frames on the lines

abbrev pub speaks : Sent → Bool
speaks f = is_ready f.command || is_write f.command

-- from the device: no OPEN; an OKAY and a WRTE have its number and ours of a channel
pub record UpFrame (m : Mates) (f : Sent) : Type 0 where
  pub closed : is_open f.command ≡ false
  pub mates : speaks f ≡ true → Pair m f.arg1 f.arg0

-- from us: an OKAY has ours and its, and a credit that reads; an OPEN has the opening credit o
pub record DownFrame (m : Mates) (o : ℕ) (f : Sent) : Type 0 where
  pub mates : is_ready f.command ≡ true → Pair m f.arg0 f.arg1
  pub reads : is_ready f.command ≡ true → credit_of f.payload ≡ Ok (pos (credit_in f.payload))
  pub opening : is_open f.command ≡ true → f.arg1 ≡ o

-- ---- what is kept

-- hb: our books; waits, own: whether an open of ours is pending, and its number; k: how many numbers we gave out. db, dc: the device's
-- books, and those of what it may send. w, v: all frames that the device wrote, and that we wrote; u, d: those on the lines
pub record Joint (o : ℕ) (hb : ℕ → Book) (waits : Bool) (own k : ℕ) (db : ℕ → Book) (dc : ℕ → Credit) (m : Mates) (w v u d : List Sent) : Type 0 where
  pub rises : Rising m.read k d
  pub fresh : (x : ℕ) → m.read < x → m.its x ≡ 0
  pub wrote-up : Every (UpFrame m) w
  pub on-up : Every (UpFrame m) u
  pub wrote-down : Every (DownFrame m o) v
  pub on-down : Every (DownFrame m o) d
  pub ours : (i : ℕ) → (hb i).there ≡ true → Pair m (hb i).local (hb i).remote
  pub its : (j : ℕ) → (db j).there ≡ true → Pair m (db j).remote (db j).local
  pub told : (j : ℕ) → (db j).there ≡ true → ((dc j).told ≡ true) × ((dc j).opening ≡ o)
  -- the pending open
  pub bound : waits ≡ true → own ≤ k
  pub unready : waits ≡ true → Every (λ (f : Sent). (is_ready f.command && eqb f.arg0 own) ≡ false) v
  -- credit
  pub less : (i : ℕ) → (hb i).there ≡ true → (hb i).acked ≤ length (hb i).accepted
  pub acked : (i : ℕ) → (hb i).there ≡ true → (hb i).acked ≡ acks_of (hb i).local v
  pub added : (j : ℕ) → (db j).there ≡ true → (db j).closed ≡ false → due (db j).local v ≡ (dc j).added + due (db j).local d
  pub sent : (j : ℕ) → (db j).there ≡ true → (dc j).sent ≡ length (paid (db j).remote w)
  -- each byte was accepted or is on the line, and the rule is kept
  pub bytes : (i : ℕ) → (hb i).there ≡ true → paid (hb i).local w ≡ (hb i).accepted ++ paid (hb i).local u
  pub kept : (i : ℕ) → (hb i).there ≡ true → ((hb i).kept ≡ true) × ((hb i).sent ≡ length (hb i).accepted)
  pub rule : (i : ℕ) → (hb i).there ≡ true → Ruled (hb i).local (length (hb i).accepted) (o + (hb i).acked) u
  pub waiting : waits ≡ true → (paid own w ≡ paid own u) × Ruled own 0 o u
  -- our OKAYs allow the device no more than it sent
  pub owes : (j : ℕ) → (db j).there ≡ true → due (db j).local v ≤ length (paid (db j).remote w)

-- ---- steps

-- a packet ahead of others
abbrev pub ahead : Option Sent → List Sent → List Sent
ahead None fs = fs
ahead (Some f) fs = f ∷ fs

abbrev pub is-to : ℕ → Option Sent → Bool
is-to l None = false
is-to l (Some f) = writes-to l f

abbrev pub bytes-in : Option Sent → List ℕ
bytes-in None = []
bytes-in (Some f) = f.payload

-- the book of a channel, after a call that used got
pub record Takes (got : Option Sent) (b c : Book) : Type 0 where
  pub other : is-to b.local got ≡ false → (c.accepted ≡ b.accepted) × ((c.sent ≡ b.sent) × (c.kept ≡ b.kept))
  pub sends : is-to b.local got ≡ true → (c.sent ≡ b.sent + length (bytes-in got)) × (c.kept ≡ (b.kept && ltb b.sent (b.opening + b.acked)))
  -- where the rule was kept it was taken
  pub takes : is-to b.local got ≡ true → c.kept ≡ true → c.accepted ≡ b.accepted ++ bytes-in got

-- a channel that was there; or one of the pending open, by its OKAY
pub data OurBook (o : ℕ) (waits : Bool) (own : ℕ) (got : Option Sent) (fs : List Sent) (b c : Book) : Type 0 where
  stood : b.there ≡ true → c.local ≡ b.local → c.remote ≡ b.remote → b.opening ≡ o → c.acked ≡ b.acked + acks_of b.local fs → Takes got b c
      → (c.closed ≡ false → b.closed ≡ false) → OurBook o waits own got fs b c
  opened : (f : Sent) → waits ≡ true → got ≡ Some f → is_ready f.command ≡ true → f.arg1 ≡ own → c.local ≡ own → c.remote ≡ f.arg0 → c.accepted ≡ [] → c.sent ≡ 0 → c.acked ≡ 0
      → c.kept ≡ true → acks_of own fs ≡ 0 → OurBook o waits own got fs b c

-- a frame of ours that is no OPEN; an OKAY has the numbers of a channel that is there after the call
pub record OurFrame (hb : ℕ → Book) (f : Sent) : Type 0 where
  pub closed : is_open f.command ≡ false
  pub place : is_ready f.command ≡ true → ℕ
  pub there : (e : is_ready f.command ≡ true) → (hb (place e)).there ≡ true
  pub local : (e : is_ready f.command ≡ true) → (hb (place e)).local ≡ f.arg0
  pub remote : (e : is_ready f.command ≡ true) → (hb (place e)).remote ≡ f.arg1
  pub reads : is_ready f.command ≡ true → credit_of f.payload ≡ Ok (pos (credit_in f.payload))

-- what a call of ours writes: an OPEN alone, whose number is the next and now pending; or no OPEN, and what is pending was so before
pub data OurFrames (o : ℕ) (hb : ℕ → Book) (waits waits' : Bool) (own own' k k' : ℕ) (got : Option Sent) (fs : List Sent) : Type 0 where
  asks : (f : Sent) → fs ≡ f ∷ [] → is_open f.command ≡ true → is_ready f.command ≡ false → f.arg0 ≡ suc k → f.arg1 ≡ o → own' ≡ suc k → suc k ≤ k' → OurFrames o hb waits waits' own own' k k' got fs
  speaks-for : Every (OurFrame hb) fs → k ≤ k' → (waits' ≡ true → (waits ≡ true) × ((own' ≡ own) × (is-to own got ≡ false))) → OurFrames o hb waits waits' own own' k k' got fs

pub record HostStep (o : ℕ) (hb hb' : ℕ → Book) (waits waits' : Bool) (own own' k k' : ℕ) (got : Option Sent) (fs : List Sent) : Type 0 where
  pub books : (i : ℕ) → (hb' i).there ≡ true → OurBook o waits own got fs (hb i) (hb' i)
  pub frames : OurFrames o hb' waits waits' own own' k k' got fs
  -- the pending open's number is no channel's
  pub apart : waits' ≡ true → (i : ℕ) → (hb' i).there ≡ true → (hb' i).local ≡ own' → ⊥
  pub less : (i : ℕ) → (hb' i).there ≡ true → (hb' i).acked ≤ length (hb' i).accepted

-- ---- frames and pairs

and-right : (x y z : Bool) → (x ≡ true → y ≡ z) → (x && y) ≡ (x && z)
and-right true y z e = e refl
and-right false y z e = refl

or-left : (x y : Bool) → x ≡ true → (x || y) ≡ true
or-left true y e = refl
or-left false y e = absurd (true≢false (sym e))

or-right : (x y : Bool) → y ≡ true → (x || y) ≡ true
or-right true y e = refl
or-right false y e = e

same-test : (a b c d : ℕ) → (a ≡ b → c ≡ d) → (c ≡ d → a ≡ b) → eqb a b ≡ eqb c d
same-test a b c d f g =
    by-test (eqb a b)
    (λ t. t ∙ sym (eq-eqb c d (f (eqb-true a b t))))
    (λ t. t ∙ sym (ne_eqb c d (λ e. eqb-false a b t (g e))))

module _ (m : Mates) (l r : ℕ) (p : Pair m l r) where
  -- a WRTE to our number has the device's
  pub up-writes : (fs : List Sent) → Every (UpFrame m) fs → Every (λ (f : Sent). writes-to l f ≡ (is_write f.command && eqb f.arg0 r)) fs
  up-writes [] e = tt
  up-writes (f ∷ fs) e =
      let q : (t : is_write f.command ≡ true) → Pair m f.arg1 f.arg0 = λ t. e.0.mates (or-right (is_ready f.command) (is_write f.command) t) in (
        and-right (is_write f.command) (eqb f.arg1 l) (eqb f.arg0 r)
            (λ t. same-test f.arg1 l f.arg0 r
            (λ x. pair-its m l f.arg0 r (subst (λ (y : ℕ). Pair m y f.arg0) x (q t)) p)
            (λ x. pair-ours m f.arg1 l r (subst (λ (y : ℕ). Pair m f.arg1 y) x (q t)) p)),
        up-writes fs e.1,
      )

  -- an OKAY to the device's number has ours
  pub down-readies : (o : ℕ) (fs : List Sent) → Every (DownFrame m o) fs → Every (λ (f : Sent). (is_ready f.command && eqb f.arg0 l) ≡ readies-to r f) fs
  down-readies o [] e = tt
  down-readies o (f ∷ fs) e = (
    and-right (is_ready f.command) (eqb f.arg0 l) (eqb f.arg1 r)
        (λ t. same-test f.arg0 l f.arg1 r
        (λ x. pair-its m l f.arg1 r (subst (λ (y : ℕ). Pair m y f.arg1) x (e.0.mates t)) p)
        (λ x. pair-ours m f.arg0 l r (subst (λ (y : ℕ). Pair m f.arg0 y) x (e.0.mates t)) p)),
    down-readies o fs e.1,
  )

-- the same by both numbers
and-both : (a x y : Bool) → (a && x) ≡ (a && y) → (a && x) ≡ (a && (y && x))
and-both true true y e = subst (λ (z : Bool). true ≡ (z && true)) e refl
and-both true false y e = subst (λ (z : Bool). false ≡ (z && false)) e refl
and-both false x y e = refl

module _ (m : Mates) (l r : ℕ) (p : Pair m l r) where
  pub up-both : (fs : List Sent) → Every (UpFrame m) fs → Every (λ (f : Sent). writes-to l f ≡ (is_write f.command && (eqb f.arg0 r && eqb f.arg1 l))) fs
  up-both fs e = each fs (up-writes m l r p fs e)
    where
      each : (xs : List Sent) → Every (λ (f : Sent). writes-to l f ≡ (is_write f.command && eqb f.arg0 r)) xs
          → Every (λ (f : Sent). writes-to l f ≡ (is_write f.command && (eqb f.arg0 r && eqb f.arg1 l))) xs
      each [] e = tt
      each (f ∷ xs) e = (and-both (is_write f.command) (eqb f.arg1 l) (eqb f.arg0 r) e.0, each xs e.1)

  pub down-both : (o : ℕ) (fs : List Sent) → Every (DownFrame m o) fs → Every (λ (f : Sent). readies-to r f ≡ (is_ready f.command && (eqb f.arg0 l && eqb f.arg1 r))) fs
  down-both o fs e = each fs (down-readies m l r p o fs e)
    where
      each : (xs : List Sent) → Every (λ (f : Sent). (is_ready f.command && eqb f.arg0 l) ≡ readies-to r f) xs
          → Every (λ (f : Sent). readies-to r f ≡ (is_ready f.command && (eqb f.arg0 l && eqb f.arg1 r))) xs
      each [] e = tt
      each (f ∷ xs) e = (and-both (is_ready f.command) (eqb f.arg1 r) (eqb f.arg0 l) (sym e.0), each xs e.1)

-- no WRTE is to a number whose OPEN was not read, and no OKAY from it
unread-writes : (m : Mates) (l : ℕ) (fs : List Sent) → m.read < l → Every (UpFrame m) fs → Every (λ (f : Sent). writes-to l f ≡ false) fs
unread-writes m l [] h e = tt
unread-writes m l (f ∷ fs) h e = (
  by-test (is_write f.command)
      (λ t. by-test (eqb f.arg1 l)
      (λ u. let q = (e.0.mates (or-right (is_ready f.command) (is_write f.command) t)).was-read in let z = eqb-true f.arg1 l u in absurd (omega arith))
      (λ u. ap (λ (x : Bool). x && eqb f.arg1 l) t ∙ u))
      (λ t. ap (λ (x : Bool). x && eqb f.arg1 l) t),
  unread-writes m l fs h e.1,
)

unread-readies : (m : Mates) (o l : ℕ) (fs : List Sent) → m.read < l → Every (DownFrame m o) fs → Every (λ (f : Sent). (is_ready f.command && eqb f.arg0 l) ≡ false) fs
unread-readies m o l [] h e = tt
unread-readies m o l (f ∷ fs) h e = (
  by-test (is_ready f.command)
      (λ t. by-test (eqb f.arg0 l)
      (λ u. let q = (e.0.mates t).was-read in let z = eqb-true f.arg0 l u in absurd (omega arith))
      (λ u. ap (λ (x : Bool). x && eqb f.arg0 l) t ∙ u))
      (λ t. ap (λ (x : Bool). x && eqb f.arg0 l) t),
  unread-readies m o l fs h e.1,
)

-- nor is an OKAY to a number that the device did not give out
ungiven-readies : (m : Mates) (o r : ℕ) (fs : List Sent) → m.given < r → Every (DownFrame m o) fs → Every (λ (f : Sent). readies-to r f ≡ false) fs
ungiven-readies m o r [] h e = tt
ungiven-readies m o r (f ∷ fs) h e = (
  by-test (is_ready f.command)
      (λ t. by-test (eqb f.arg1 r)
      (λ u. let q = (e.0.mates t).below in let z = eqb-true f.arg1 r u in absurd (omega arith))
      (λ u. ap (λ (x : Bool). x && eqb f.arg1 r) t ∙ u))
      (λ t. ap (λ (x : Bool). x && eqb f.arg1 r) t),
  ungiven-readies m o r fs h e.1,
)

-- ---- a call of ours

module _ (o : ℕ) (hb hb' : ℕ → Book) (waits waits' : Bool) (own own' k k' : ℕ) (db : ℕ → Book) (dc : ℕ → Credit) (m : Mates) (w v u d : List Sent) (got : Option Sent) (fs : List Sent)
    (g : Joint o hb waits own k db dc m w v (ahead got u) d) (h : HostStep o hb hb' waits waits' own own' k k' got fs) where
  -- the packet that was used came from the device
  up-got : (f : Sent) → got ≡ Some f → UpFrame m f
  up-got f e = (subst (λ (x : Option Sent). Every (UpFrame m) (ahead x u)) e g.on-up).0

  up-rest : (x : Option Sent) → Every (UpFrame m) (ahead x u) → Every (UpFrame m) u
  up-rest None e = e
  up-rest (Some f) e = e.1

  -- our channels' numbers belong together
  ours-next : (i : ℕ) → (hb' i).there ≡ true → Pair m (hb' i).local (hb' i).remote
  ours-next i t = by-book (h.books i t)
    where
      by-book : OurBook o waits own got fs (hb i) (hb' i) → Pair m (hb' i).local (hb' i).remote
      by-book (stood e a b c q z cl) = subst (λ (x : ℕ). Pair m x (hb' i).remote) (sym a) (subst (λ (x : ℕ). Pair m (hb i).local x) (sym b) (g.ours i e))
      by-book (opened f e1 e2 e3 e4 a b c q z y x) =
          subst (λ (n : ℕ). Pair m n (hb' i).remote) (e4 ∙ sym a)
          (subst (λ (n : ℕ). Pair m f.arg1 n) (sym b) ((up-got f e2).mates (or-left (is_ready f.command) (is_write f.command) e3)))

  our-down : (xs : List Sent) → Every (OurFrame hb') xs → Every (DownFrame m o) xs
  our-down [] e = tt
  our-down (f ∷ xs) e =
      let a = e.0 in (
        record {
          mates = λ t. subst (λ (x : ℕ). Pair m x f.arg1) (a.local t) (subst (λ (x : ℕ). Pair m (hb' (a.place t)).local x) (a.remote t) (ours-next (a.place t) (a.there t)));
          reads = a.reads;
          opening = λ t. absurd (true≢false (sym t ∙ a.closed));
        },
        our-down xs e.1,
      )

  our-quiet : (xs : List Sent) → Every (OurFrame hb') xs → Every (λ (f : Sent). is_open f.command ≡ false) xs
  our-quiet [] e = tt
  our-quiet (f ∷ xs) e = (e.0.closed, our-quiet xs e.1)

  our-apart : waits' ≡ true → (xs : List Sent) → Every (OurFrame hb') xs → Every (λ (f : Sent). (is_ready f.command && eqb f.arg0 own') ≡ false) xs
  our-apart t [] e = tt
  our-apart t (f ∷ xs) e =
      let a = e.0 in (
        by-test (is_ready f.command)
            (λ r. ap (λ (x : Bool). x && eqb f.arg0 own') r ∙ ne_eqb f.arg0 own' (λ z. h.apart t (a.place r) (a.there r) (a.local r ∙ z)))
            (λ r. ap (λ (x : Bool). x && eqb f.arg0 own') r),
        our-apart t xs e.1,
      )

  frames-down : Every (DownFrame m o) fs
  frames-down = by-frames h.frames
    where
      by-frames : OurFrames o hb' waits waits' own own' k k' got fs → Every (DownFrame m o) fs
      by-frames (asks f e a b c q x y) =
          subst (Every (DownFrame m o)) (sym e) (record { mates = λ t. absurd (true≢false (sym t ∙ b)); reads = λ t. absurd (true≢false (sym t ∙ b)); opening = λ t. q }, tt)
      by-frames (speaks-for e a b) = our-down fs e

  rises-next : Rising m.read k' (d ++ fs)
  rises-next = by-frames h.frames
    where
      by-frames : OurFrames o hb' waits waits' own own' k k' got fs → Rising m.read k' (d ++ fs)
      by-frames (asks f e a b c q x y) =
          rising-more m.read (suc k) k' (d ++ fs) y (subst (λ (z : List Sent). Rising m.read (suc k) (d ++ z)) (sym e) (rising-next m.read k d f c g.rises))
      by-frames (speaks-for e a b) = rising-more m.read k k' (d ++ fs) a (rising-quiet m.read k d fs (our-quiet fs e) g.rises)

  bound-next : waits' ≡ true → own' ≤ k'
  bound-next t = by-frames h.frames
    where
      by-frames : OurFrames o hb' waits waits' own own' k k' got fs → own' ≤ k'
      by-frames (asks f e a b c q x y) = omega arith
      by-frames (speaks-for e a b) = let z = b t in let n = g.bound z.0 in let p = z.1.0 in omega arith

  -- a number just given out was never read
  new-unread : (n : ℕ) → n ≡ suc k → m.read < n
  new-unread n e = let a = rising-below m.read k d g.rises in omega arith

  unready-next : waits' ≡ true → Every (λ (f : Sent). (is_ready f.command && eqb f.arg0 own') ≡ false) (v ++ fs)
  unready-next t = by-frames h.frames
    where
      by-frames : OurFrames o hb' waits waits' own own' k k' got fs → Every (λ (f : Sent). (is_ready f.command && eqb f.arg0 own') ≡ false) (v ++ fs)
      by-frames (asks f e a b c q x y) =
          every_append (λ (z : Sent). (is_ready z.command && eqb z.arg0 own') ≡ false) v fs (unread-readies m o own' v (new-unread own' x) g.wrote-down)
          (subst (Every (λ (z : Sent). (is_ready z.command && eqb z.arg0 own') ≡ false)) (sym e) (ap (λ (z : Bool). z && eqb f.arg0 own') b, tt))
      by-frames (speaks-for e a b) =
          let z = b t in
          every_append (λ (x : Sent). (is_ready x.command && eqb x.arg0 own') ≡ false) v fs
          (subst (λ (n : ℕ). Every (λ (x : Sent). (is_ready x.command && eqb x.arg0 n) ≡ false) v) (sym z.1.0) (g.unready z.0)) (our-apart t fs e)

  acked-next : (i : ℕ) → (hb' i).there ≡ true → (hb' i).acked ≡ acks_of (hb' i).local (v ++ fs)
  acked-next i t = by-book (h.books i t)
    where
      by-book : OurBook o waits own got fs (hb i) (hb' i) → (hb' i).acked ≡ acks_of (hb' i).local (v ++ fs)
      by-book (stood e a b c q z cl) =
          let x = g.acked i e in
          let y = acks_append (hb i).local v fs in
          let n : (hb i).acked + acks_of (hb i).local fs ≡ acks_of (hb i).local (v ++ fs) = omega arith in
          q ∙ n ∙ ap (λ (z : ℕ). acks_of z (v ++ fs)) (sym a)
      by-book (opened f e1 e2 e3 e4 a b c q z y x) =
          let n = acks-none own v (g.unready e1) in
          let p = acks_append own v fs in
          let r : 0 ≡ acks_of own (v ++ fs) = omega arith in
          z ∙ r ∙ ap (λ (z : ℕ). acks_of z (v ++ fs)) (sym a)

  added-next : (j : ℕ) → (db j).there ≡ true → (db j).closed ≡ false → due (db j).local (v ++ fs) ≡ (dc j).added + due (db j).local (d ++ fs)
  added-next j t c =
      let a = g.added j t c in
      let x = due-append (db j).local v fs in
      let y = due-append (db j).local d fs in
      omega arith

  -- the bytes and the rule of number l
  module _ (l : ℕ) where
    paid-ahead : (x : Option Sent) → paid l (ahead x u) ≡ cond (is-to l x) (bytes-in x) [] ++ paid l u
    paid-ahead None = refl
    paid-ahead (Some f) = refl

    ruled-ahead : (n b : ℕ) (x : Option Sent) → Ruled l n b (ahead x u) → (is-to l x ≡ true → n < b) × Ruled l (n + length (cond (is-to l x) (bytes-in x) [])) b u
    ruled-ahead n b None e = ((λ t. absurd (true≢false (sym t))), let z : n ≡ n + 0 = omega arith in subst (λ (y : ℕ). Ruled l y b u) z e)
    ruled-ahead n b (Some f) e = e

    paid-other : is-to l got ≡ false → paid l (ahead got u) ≡ paid l u
    paid-other e = paid-ahead got ∙ ap (λ (x : List ℕ). x ++ paid l u) (cond-false (is-to l got) (bytes-in got) [] e)

    ruled-other : (n b : ℕ) → is-to l got ≡ false → Ruled l n b (ahead got u) → Ruled l n b u
    ruled-other n b e r =
        let z : n + length (cond (is-to l got) (bytes-in got) []) ≡ n = let y = ap length (cond-false (is-to l got) (bytes-in got) [] e) in omega arith in
        subst (λ (y : ℕ). Ruled l y b u) z (ruled-ahead n b got r).1

    -- what is kept of a channel c of ours
    abbrev Holds-of : Book → Type 0
    Holds-of c = (paid l w ≡ c.accepted ++ paid l u) × (((c.kept ≡ true) × (c.sent ≡ length c.accepted)) × Ruled l (length c.accepted) (o + c.acked) u)

    -- one that was there
    module _ (b c : Book) (at : b.local ≡ l) (op : b.opening ≡ o) (ac : c.acked ≡ b.acked + acks_of b.local fs) (tk : Takes got b c) (by : paid l w ≡ b.accepted ++ paid l (ahead got u))
        (kp : (b.kept ≡ true) × (b.sent ≡ length b.accepted)) (rl : Ruled l (length b.accepted) (o + b.acked) (ahead got u)) where
      after-other : is-to l got ≡ false → Holds-of c
      after-other e =
          let z = tk.other (ap (λ (x : ℕ). is-to x got) at ∙ e) in (
            by ∙ ap₂ (λ (x y : List ℕ). x ++ y) (sym z.0) (paid-other e),
            (
              (z.1.1 ∙ kp.0, z.1.0 ∙ kp.1 ∙ sym (ap length z.0)),
              subst (λ (x : List ℕ). Ruled l (length x) (o + c.acked) u) (sym z.0)
                  (ruled-more l (length b.accepted) (o + b.acked) (o + c.acked) u (omega arith) (ruled-other (length b.accepted) (o + b.acked) e rl)),
            ),
          )

      after-own : is-to l got ≡ true → Holds-of c
      after-own e =
          let f = ap (λ (x : ℕ). is-to x got) at ∙ e in
          let s = tk.sends f in
          let r = ruled-ahead (length b.accepted) (o + b.acked) got rl in
          let under = r.0 e in
          let below : b.sent < b.opening + b.acked = let x = kp.1 in omega arith in
          let k2 : c.kept ≡ true = s.1 ∙ ap₂ (λ (x y : Bool). x && y) kp.0 (lt-ltb b.sent (b.opening + b.acked) below) in
          let a = tk.takes f k2 in
          let n = length-append b.accepted (bytes-in got) in
          let p : cond (is-to l got) (bytes-in got) [] ≡ bytes-in got = cond-true (is-to l got) (bytes-in got) [] e in
          let size : length b.accepted + length (cond (is-to l got) (bytes-in got) []) ≡ length c.accepted = let q = ap length p in let z = ap length a in omega arith in (
            by ∙ ap (λ (x : List ℕ). b.accepted ++ x) (paid-ahead got ∙ ap (λ (x : List ℕ). x ++ paid l u) p)
                ∙ sym (append_assoc b.accepted (bytes-in got) (paid l u)) ∙ ap (λ (x : List ℕ). x ++ paid l u) (sym a),
            (
              (k2, let z = ap length a in let x = kp.1 in let y = s.0 in omega arith),
              ruled-more l (length c.accepted) (o + b.acked) (o + c.acked) u (omega arith) (subst (λ (x : ℕ). Ruled l x (o + b.acked) u) size r.1),
            ),
          )

      after-stood : Holds-of c
      after-stood = by-test (is-to l got) after-own after-other

    -- a WRTE is no OKAY
    ready-not-to : (f : Sent) → got ≡ Some f → is_write f.command ≡ false → is-to l got ≡ false
    ready-not-to f e w = ap (is-to l) e ∙ ap (λ (x : Bool). x && eqb f.arg1 l) w

  -- frames that hold an OKAY to r: one of a channel of ours with the number l
  data Readied (l r : ℕ) (xs : List Sent) : Type 0 where
    by-none : due r xs ≡ 0 → Readied l r xs
    by-place : (i : ℕ) → (hb' i).there ≡ true → (hb' i).local ≡ l → Readied l r xs

  readied : (l r : ℕ) → Pair m l r → (xs : List Sent) → Every (OurFrame hb') xs → Readied l r xs
  readied l r p [] e = by-none refl
  readied l r p (f ∷ xs) e =
      let a = e.0 in
      by-test (readies-to r f)
      (λ t. let z = and-true (is_ready f.command) (eqb f.arg1 r) t in
      let i = a.place z.0 in
      let q : Pair m (hb' i).local r = subst (λ (x : ℕ). Pair m (hb' i).local x) (a.remote z.0 ∙ eqb-true f.arg1 r z.1) (ours-next i (a.there z.0)) in
      by-place i (a.there z.0) (pair-ours m (hb' i).local l r q p))
      (λ t. more (readied l r p xs e.1) (cond-false (readies-to r f) (credit_in f.payload) 0 t))
    where
      more : Readied l r xs → cond (readies-to r f) (credit_in f.payload) 0 ≡ 0 → Readied l r (f ∷ xs)
      more (by-none q) z = by-none (omega arith)
      more (by-place i t at) z = by-place i t at

  module _ (ready-write : (f : Sent) → is_ready f.command ≡ true → is_write f.command ≡ false) where
    kept-next : (i : ℕ) → (hb' i).there ≡ true → Holds-of (hb' i).local (hb' i)
    kept-next i t = by-book (h.books i t)
      where
        by-book : OurBook o waits own got fs (hb i) (hb' i) → Holds-of (hb' i).local (hb' i)
        by-book (stood e a b c q z cl) =
            subst (λ (x : ℕ). Holds-of x (hb' i)) (sym a) (after-stood (hb i).local (hb i) (hb' i) refl c q z (g.bytes i e) (g.kept i e) (g.rule i e))
        by-book (opened f e1 e2 e3 e4 a b c q z y x) =
            let wt = g.waiting e1 in
            let no = ready-not-to own f e2 (ready-write f e3) in
            let none : o ≡ o + (hb' i).acked = omega arith in
            subst (λ (x : ℕ). Holds-of x (hb' i)) (sym a) (
              wt.0 ∙ paid-other own no ∙ ap (λ (n : List ℕ). n ++ paid own u) (sym c),
              (
                (y, q ∙ ap length (sym c)),
                subst (λ (n : List ℕ). Ruled own (length n) (o + (hb' i).acked) u) (sym c) (subst (λ (n : ℕ). Ruled own 0 n u) none (ruled-other own 0 o no wt.1)),
              ),
            )

    waiting-next : waits' ≡ true → (paid own' w ≡ paid own' u) × Ruled own' 0 o u
    waiting-next t = by-frames h.frames
      where
        by-frames : OurFrames o hb' waits waits' own own' k k' got fs → (paid own' w ≡ paid own' u) × Ruled own' 0 o u
        by-frames (asks f e a b c q x y) =
            let far = new-unread own' x in
            let nu = unread-writes m own' u far (up-rest got g.on-up) in
            (paid-none own' w (unread-writes m own' w far g.wrote-up) ∙ sym (paid-none own' u nu), ruled-none own' 0 o u nu)
        by-frames (speaks-for e a b) =
            let z = b t in
            let wt = g.waiting z.0 in
            subst (λ (n : ℕ). (paid n w ≡ paid n u) × Ruled n 0 o u) (sym z.1.0) (wt.0 ∙ paid-other own z.1.1, ruled-other own 0 o z.1.1 wt.1)

    owes-next : (j : ℕ) → (db j).there ≡ true → due (db j).local (v ++ fs) ≤ length (paid (db j).remote w)
    owes-next j t = by-frames h.frames
      where
        by-readied : Readied (db j).remote (db j).local fs → due (db j).local (v ++ fs) ≤ length (paid (db j).remote w)
        by-readied (by-none e) = let a = g.owes j t in let b = due-append (db j).local v fs in omega arith
        by-readied (by-place i ti at) =
            let l = (db j).remote in
            let r = (db j).local in
            let all = every_append (DownFrame m o) v fs g.wrote-down frames-down in
            let e : acks_of l (v ++ fs) ≡ due r (v ++ fs) = due-acks l r (v ++ fs) (down-readies m l r (g.its j t) o (v ++ fs) all) in
            let a : (hb' i).acked ≡ acks_of l (v ++ fs) = acked-next i ti ∙ ap (λ (z : ℕ). acks_of z (v ++ fs)) at in
            let le = h.less i ti in
            let by : paid l w ≡ (hb' i).accepted ++ paid l u = subst (λ (z : ℕ). paid z w ≡ (hb' i).accepted ++ paid z u) at (kept-next i ti).0 in
            let n = length-append (hb' i).accepted (paid l u) in
            let q = ap length by in
            omega arith

        by-frames : OurFrames o hb' waits waits' own own' k k' got fs → due (db j).local (v ++ fs) ≤ length (paid (db j).remote w)
        by-frames (asks f e a b c q x y) =
            by-readied (by-none (ap (due (db j).local) e ∙ due-none (db j).local (f ∷ []) (ap (λ (z : Bool). z && eqb f.arg1 (db j).local) b, tt)))
        by-frames (speaks-for e a b) = by-readied (readied (db j).remote (db j).local (g.its j t) fs e)

    -- what is accepted is at most one payload over what we allowed
    pub near-next : (most : ℕ) → length (bytes-in got) ≤ most → ((i : ℕ) → (hb i).there ≡ true → length (hb i).accepted ≤ o + (hb i).acked + most) → (i : ℕ) → (hb' i).there ≡ true
        → length (hb' i).accepted ≤ o + (hb' i).acked + most
    near-next most fits near i t = by-book (h.books i t)
      where
        by-book : OurBook o waits own got fs (hb i) (hb' i) → length (hb' i).accepted ≤ o + (hb' i).acked + most
        by-book (stood e a b c q z cl) =
            let old = near i e in
            by-test (is-to (hb i).local got)
            (λ u. let x = ap length (z.takes u (kept-next i t).1.0.0) in
            let n = length-append (hb i).accepted (bytes-in got) in
            let under = (ruled-ahead (hb i).local (length (hb i).accepted) (o + (hb i).acked) got (g.rule i e)).0 u in
            omega arith)
            (λ u. let x = ap length (z.other u).0 in omega arith)
        by-book (opened f e1 e2 e3 e4 a b c q z y x) = let n = ap length c in omega arith

    pub host-keeps : Joint o hb' waits' own' k' db dc m w (v ++ fs) u (d ++ fs)
    host-keeps =
        record {
          rises = rises-next;
          fresh = g.fresh;
          wrote-up = g.wrote-up;
          on-up = up-rest got g.on-up;
          wrote-down = every_append (DownFrame m o) v fs g.wrote-down frames-down;
          on-down = every_append (DownFrame m o) d fs g.on-down frames-down;
          ours = ours-next;
          its = g.its;
          told = g.told;
          bound = bound-next;
          unready = unready-next;
          less = h.less;
          acked = acked-next;
          added = added-next;
          sent = g.sent;
          bytes = λ i t. (kept-next i t).0;
          kept = λ i t. (kept-next i t).1.0;
          rule = λ i t. (kept-next i t).1.1;
          waiting = waiting-next;
          owes = owes-next;
        }

-- ---- a device's call

-- a channel of the device's that was there
pub record ItsBook (got : Option Sent) (fs : List Sent) (b c : Book) (x y : Credit) : Type 0 where
  pub there : b.there ≡ true
  pub local : c.local ≡ b.local
  pub remote : c.remote ≡ b.remote
  pub live : c.closed ≡ false → b.closed ≡ false
  pub told : y.told ≡ x.told
  pub opening : y.opening ≡ x.opening
  pub sent : y.sent ≡ x.sent + writes_of b.local fs
  -- where the channel is open, an OKAY of its own adds its credit
  pub added : c.closed ≡ false → y.added ≡ x.added + due b.local (ahead got [])

-- a frame of the device's: no OPEN; an OKAY and a WRTE have the numbers of a channel that is there after the call
pub record ItsFrame (db : ℕ → Book) (f : Sent) : Type 0 where
  pub closed : is_open f.command ≡ false
  pub place : speaks f ≡ true → ℕ
  pub there : (e : speaks f ≡ true) → (db (place e)).there ≡ true
  pub local : (e : speaks f ≡ true) → (db (place e)).local ≡ f.arg0
  pub remote : (e : speaks f ≡ true) → (db (place e)).remote ≡ f.arg1

abbrev pub no-writes : List Sent → Type 0
no-writes fs = Every (λ (f : Sent). is_write f.command ≡ false) fs

-- no WRTE, or one, the last frame, of an open channel: what was sent before is below what the device may send
pub data ItsWrites (db db' : ℕ → Book) (dc dc' : ℕ → Credit) (fs : List Sent) : Type 0 where
  silent : no-writes fs → ItsWrites db db' dc dc' fs
  sends : (pre : List Sent) (f : Sent) (j : ℕ) → fs ≡ pre ++ f ∷ [] → no-writes pre → (db' j).there ≡ true → (db' j).closed ≡ false → (db' j).remote ≡ f.arg1
      → (dc j).sent < (dc' j).opening + (dc' j).added → ItsWrites db db' dc dc' fs

pub record DeviceStep (db db' : ℕ → Book) (dc dc' : ℕ → Credit) (got : Option Sent) (fs : List Sent) : Type 0 where
  pub books : (j : ℕ) → (db' j).there ≡ true → ItsBook got fs (db j) (db' j) (dc j) (dc' j)
  pub frames : Every (ItsFrame db') fs
  pub writes : ItsWrites db db' dc dc' fs

module _ (o : ℕ) (hb : ℕ → Book) (waits : Bool) (own k : ℕ) (db db' : ℕ → Book) (dc dc' : ℕ → Credit) (m : Mates) (w v u d : List Sent) (got : Option Sent) (fs : List Sent)
    (g : Joint o hb waits own k db dc m w v u (ahead got d)) (h : DeviceStep db db' dc dc' got fs) (closed-got : (f : Sent) → got ≡ Some f → is_open f.command ≡ false) where
  its-next : (j : ℕ) → (db' j).there ≡ true → Pair m (db' j).remote (db' j).local
  its-next j t =
      let b = h.books j t in
      subst (λ (x : ℕ). Pair m x (db' j).local) (sym b.remote) (subst (λ (x : ℕ). Pair m (db j).remote x) (sym b.local) (g.its j b.there))

  its-up : (xs : List Sent) → Every (ItsFrame db') xs → Every (UpFrame m) xs
  its-up [] e = tt
  its-up (f ∷ xs) e =
      let a = e.0 in (
        record {
          closed = a.closed;
          mates = λ t. subst (λ (x : ℕ). Pair m x f.arg0) (a.remote t) (subst (λ (x : ℕ). Pair m (db' (a.place t)).remote x) (a.local t) (its-next (a.place t) (a.there t)));
        },
        its-up xs e.1,
      )

  frames-up : Every (UpFrame m) fs
  frames-up = its-up fs h.frames

  down-rest : (x : Option Sent) → Every (DownFrame m o) (ahead x d) → Every (DownFrame m o) d
  down-rest None e = e
  down-rest (Some f) e = e.1

  rises-rest : (x : Option Sent) → ((f : Sent) → x ≡ Some f → is_open f.command ≡ false) → Rising m.read k (ahead x d) → Rising m.read k d
  rises-rest None q e = e
  rises-rest (Some f) q e = e.1 (q f refl)

  due-ahead : (r : ℕ) (x : Option Sent) → due r (ahead x d) ≡ due r (ahead x []) + due r d
  due-ahead r None = omega arith
  due-ahead r (Some f) = omega arith

  added-after : (j : ℕ) → (db' j).there ≡ true → (db' j).closed ≡ false → due (db' j).local v ≡ (dc' j).added + due (db' j).local d
  added-after j t c =
      let b = h.books j t in
      let a = g.added j b.there (b.live c) in
      let x = due-ahead (db j).local got in
      let y = b.added c in
      subst (λ (n : ℕ). due n v ≡ (dc' j).added + due n d) (sym b.local) (omega arith)

  sent-after : (j : ℕ) → (db' j).there ≡ true → (dc' j).sent ≡ length (paid (db' j).remote (w ++ fs))
  sent-after j t =
      let b = h.books j t in
      let r = (db j).remote in
      let a = g.sent j b.there in
      let x = paid-append r w fs in
      let y = paid-writes r (db j).local fs (up-writes m r (db j).local (g.its j b.there) fs frames-up) in
      let z = length-append (paid r w) (paid r fs) in
      let n : (dc' j).sent ≡ length (paid r (w ++ fs)) = let q = b.sent in let p = ap length x in omega arith in
      n ∙ ap (λ (i : ℕ). length (paid i (w ++ fs))) (sym b.remote)

  module _ (l : ℕ) where
    paid-next : paid l (w ++ fs) ≡ paid l w ++ paid l fs
    paid-next = paid-append l w fs

    silent-paid : (xs : List Sent) → no-writes xs → Every (λ (f : Sent). writes-to l f ≡ false) xs
    silent-paid [] e = tt
    silent-paid (f ∷ xs) e = (ap (λ (x : Bool). x && eqb f.arg1 l) e.0, silent-paid xs e.1)

    -- what the device sent on number l, and what it may send: n bytes are accepted, a acknowledged; a is all that our OKAYs allow it
    rule-after : (n a : ℕ) → length (paid l w) ≡ n + length (paid l u) → ((r : ℕ) → Pair m l r → due r v ≡ a) → Ruled l n (o + a) u → Ruled l n (o + a) (u ++ fs)
    rule-after n a t all rl = by-writes h.writes
      where
        by-writes : ItsWrites db db' dc dc' fs → Ruled l n (o + a) (u ++ fs)
        by-writes (silent e) = ruled-append l n (o + a) u fs rl (ruled-none l (n + length (paid l u)) (o + a) fs (silent-paid fs e))
        by-writes (sends pre f j e q there live rem under) =
            let b = h.books j there in
            let far = silent-paid pre q in
            let none : n + length (paid l u) + length (paid l pre) ≡ n + length (paid l u) = let y = ap length (paid-none l pre far) in omega arith in
            let last : writes-to l f ≡ true → n + length (paid l u) + length (paid l pre) < o + a =
            λ x. let at : f.arg1 ≡ l = eqb-true f.arg1 l (and-true (is_write f.command) (eqb f.arg1 l) x).1 in
            let on : (db j).remote ≡ l = sym b.remote ∙ rem ∙ at in
            let pr : Pair m l (db j).local = subst (λ (y : ℕ). Pair m y (db j).local) on (g.its j b.there) in
            let s0 : (dc j).sent ≡ length (paid l w) = g.sent j b.there ∙ ap (λ (y : ℕ). length (paid y w)) on in
            let op : (dc' j).opening ≡ o = b.opening ∙ (g.told j b.there).1 in
            let ad = added-after j there live in
            let av : due (db' j).local v ≡ a = ap (λ (y : ℕ). due y v) b.local ∙ all (db j).local pr in
            omega arith in
            subst (λ (y : List Sent). Ruled l n (o + a) (u ++ y)) (sym e)
            (ruled-append l n (o + a) u (pre ++ f ∷ []) rl
            (ruled-append l (n + length (paid l u)) (o + a) pre (f ∷ []) (ruled-none l (n + length (paid l u)) (o + a) pre far) (last, tt)))

    -- what our OKAYs allow it on a channel of ours
    all-acks : (r : ℕ) (p : Pair m l r) → acks_of l v ≡ due r v
    all-acks r p = due-acks l r v (down-readies m l r p o v g.wrote-down)

  bytes-after : (i : ℕ) → (hb i).there ≡ true → paid (hb i).local (w ++ fs) ≡ (hb i).accepted ++ paid (hb i).local (u ++ fs)
  bytes-after i t =
      let l = (hb i).local in
      paid-next l ∙ ap (λ (x : List ℕ). x ++ paid l fs) (g.bytes i t) ∙ append_assoc (hb i).accepted (paid l u) (paid l fs) ∙ ap (λ (x : List ℕ). (hb i).accepted ++ x) (sym (paid-append l u fs))

  rule-there : (i : ℕ) → (hb i).there ≡ true → Ruled (hb i).local (length (hb i).accepted) (o + (hb i).acked) (u ++ fs)
  rule-there i t =
      let l = (hb i).local in
      let z = length-append (hb i).accepted (paid l u) in
      let y = ap length (g.bytes i t) in
      rule-after l (length (hb i).accepted) (hb i).acked (omega arith) (λ r p. sym (g.acked i t ∙ all-acks l r p)) (g.rule i t)

  waiting-after : waits ≡ true → (paid own (w ++ fs) ≡ paid own (u ++ fs)) × Ruled own 0 o (u ++ fs)
  waiting-after t =
      let wt = g.waiting t in
      let none : acks_of own v ≡ 0 = acks-none own v (g.unready t) in
      let zero : o + 0 ≡ o = omega arith in
      let same = ap length wt.0 in (
        paid-next own ∙ ap (λ (x : List ℕ). x ++ paid own fs) wt.0 ∙ sym (paid-append own u fs),
        subst (λ (x : ℕ). Ruled own 0 x (u ++ fs)) zero
            (rule-after own 0 0 (omega arith) (λ r p. sym (all-acks own r p) ∙ none) (subst (λ (x : ℕ). Ruled own 0 x u) (sym zero) wt.1)),
      )

  owes-after : (j : ℕ) → (db' j).there ≡ true → due (db' j).local v ≤ length (paid (db' j).remote (w ++ fs))
  owes-after j t =
      let b = h.books j t in
      let a = g.owes j b.there in
      let x = ap (λ (y : ℕ). due y v) b.local in
      let y = ap (λ (z : ℕ). length (paid z (w ++ fs))) b.remote in
      let p = ap length (paid-next (db j).remote) in
      let q = length-append (paid (db j).remote w) (paid (db j).remote fs) in
      omega arith

  pub device-keeps : Joint o hb waits own k db' dc' m (w ++ fs) v (u ++ fs) d
  device-keeps =
      record {
        rises = rises-rest got closed-got g.rises;
        fresh = g.fresh;
        wrote-up = every_append (UpFrame m) w fs g.wrote-up frames-up;
        on-up = every_append (UpFrame m) u fs g.on-up frames-up;
        wrote-down = g.wrote-down;
        on-down = down-rest got g.on-down;
        ours = g.ours;
        its = its-next;
        told = λ j t. let b = h.books j t in let z = g.told j b.there in (b.told ∙ z.0, b.opening ∙ z.1);
        bound = g.bound;
        unready = g.unready;
        less = g.less;
        acked = g.acked;
        added = added-after;
        sent = sent-after;
        bytes = bytes-after;
        kept = g.kept;
        rule = rule-there;
        waiting = waiting-after;
        owes = owes-after;
      }

-- ---- a packet that the device drops: no OPEN, and no OKAY of an open channel

module _ (o : ℕ) (hb : ℕ → Book) (waits : Bool) (own k : ℕ) (db : ℕ → Book) (dc : ℕ → Credit) (m : Mates) (w v u d : List Sent) (f : Sent)
    (g : Joint o hb waits own k db dc m w v u (f ∷ d)) (closed : is_open f.command ≡ false)
    (idle : (j : ℕ) → (db j).there ≡ true → (db j).closed ≡ false → readies-to (db j).local f ≡ false) where
  pub drop-keeps : Joint o hb waits own k db dc m w v u d
  drop-keeps =
      record {
        rises = g.rises.1 closed;
        fresh = g.fresh;
        wrote-up = g.wrote-up;
        on-up = g.on-up;
        wrote-down = g.wrote-down;
        on-down = g.on-down.1;
        ours = g.ours;
        its = g.its;
        told = g.told;
        bound = g.bound;
        unready = g.unready;
        less = g.less;
        acked = g.acked;
        added = λ j t c. let a = g.added j t c in let z = cond-false (readies-to (db j).local f) (credit_in f.payload) 0 (idle j t c) in omega arith;
        sent = g.sent;
        bytes = g.bytes;
        kept = g.kept;
        rule = g.rule;
        waiting = g.waiting;
        owes = g.owes;
      }

-- ---- an OPEN that the device reads

-- f with y at x
abbrev pub with_at : (ℕ → ℕ) → ℕ → ℕ → ℕ → ℕ
with_at f x y n = cond (eqb n x) y (f n)

with-same : (f : ℕ → ℕ) (x y : ℕ) → with_at f x y x ≡ y
with-same f x y = cond-true (eqb x x) y (f x) (eq-eqb x x refl)

with-other : (f : ℕ → ℕ) (x y n : ℕ) → (n ≡ x → ⊥) → with_at f x y n ≡ f n
with-other f x y n e = cond-false (eqb n x) y (f n) (ne_eqb n x e)

-- the OPEN of number n was read
abbrev pub read_to : Mates → ℕ → Mates
read_to m n = record { ours = m.ours; its = m.its; read = n; given = m.given }

-- and number r given to it
abbrev pub mated : Mates → ℕ → ℕ → Mates
mated m n r = record { ours = with_at m.ours r n; its = with_at m.its n r; read = n; given = r }

pair-read : (m : Mates) (n x r : ℕ) → m.read < n → Pair m x r → Pair (read_to m n) x r
pair-read m n x r h p = record { back = p.back; forth = p.forth; some = p.some; below = p.below; was-read = let a = p.was-read in omega arith }

pair-mated : (m : Mates) (n r x y : ℕ) → m.read < n → m.given < r → Pair m x y → Pair (mated m n r) x y
pair-mated m n r x y h k p =
    record {
      back = with-other m.its n r x (λ e. let a = p.was-read in omega arith) ∙ p.back;
      forth = with-other m.ours r n y (λ e. let a = p.below in omega arith) ∙ p.forth;
      some = p.some;
      below = let a = p.below in omega arith;
      was-read = let a = p.was-read in omega arith;
    }

module _ (m q : Mates) (grow : (x y : ℕ) → Pair m x y → Pair q x y) where
  up-grow : (fs : List Sent) → Every (UpFrame m) fs → Every (UpFrame q) fs
  up-grow [] e = tt
  up-grow (f ∷ fs) e = (record { closed = e.0.closed; mates = λ t. grow f.arg1 f.arg0 (e.0.mates t) }, up-grow fs e.1)

  down-grow : (o : ℕ) (fs : List Sent) → Every (DownFrame m o) fs → Every (DownFrame q o) fs
  down-grow o [] e = tt
  down-grow o (f ∷ fs) e = (record { mates = λ t. grow f.arg0 f.arg1 (e.0.mates t); reads = e.0.reads; opening = e.0.opening }, down-grow o fs e.1)

-- frames that are neither OPENs nor WRTEs
abbrev pub plain-frames : List Sent → Type 0
plain-frames fs = Every (λ (f : Sent). (is_open f.command ≡ false) × (is_write f.command ≡ false)) fs

-- a channel that was there, of which nothing changed but that it may be closed
pub record StoodBook (b c : Book) (x y : Credit) : Type 0 where
  pub there : b.there ≡ true
  pub local : c.local ≡ b.local
  pub remote : c.remote ≡ b.remote
  pub live : c.closed ≡ false → b.closed ≡ false
  pub same : y ≡ x

-- what the device holds after it took an OPEN f, with number r: a channel that was there, or the new one
pub data TakenBook (f : Sent) (r : ℕ) (b c : Book) (x y : Credit) : Type 0 where
  stood : b.there ≡ true → c.local ≡ b.local → c.remote ≡ b.remote → (c.closed ≡ false → b.closed ≡ false) → y ≡ x → TakenBook f r b c x y
  filled : c.local ≡ r → c.remote ≡ f.arg0 → y.told ≡ true → y.opening ≡ f.arg1 → y.added ≡ 0 → y.sent ≡ 0 → TakenBook f r b c x y

module _ (o : ℕ) (hb : ℕ → Book) (waits : Bool) (own k : ℕ) (db db' : ℕ → Book) (dc dc' : ℕ → Credit) (m q : Mates) (w v u d : List Sent) (f : Sent) (fs : List Sent)
    (g : Joint o hb waits own k db dc m w v u (f ∷ d)) (ask : is_open f.command ≡ true) (ready-open : is_ready f.command ≡ false) (plain : plain-frames fs)
    (grow : (x y : ℕ) → Pair m x y → Pair q x y) (reads : q.read ≡ f.arg0) (news : (x : ℕ) → f.arg0 < x → q.its x ≡ m.its x)
    (mates : Every (UpFrame q) fs)
    (books : (j : ℕ) → (db' j).there ≡ true
    → (Pair q (db' j).remote (db' j).local) × ((((dc' j).told ≡ true) × ((dc' j).opening ≡ o)) × (((db' j).closed ≡ false → due (db' j).local v ≡ (dc' j).added + due (db' j).local d)
    × (((dc' j).sent ≡ length (paid (db' j).remote w)) × (due (db' j).local v ≤ length (paid (db' j).remote w)))))) where
  quiet-paid : (x : ℕ) (xs : List Sent) → plain-frames xs → Every (λ (z : Sent). writes-to x z ≡ false) xs
  quiet-paid x [] e = tt
  quiet-paid x (z ∷ xs) e = (ap (λ (b : Bool). b && eqb z.arg1 x) e.0.1, quiet-paid x xs e.1)

  paid-same : (x : ℕ) (xs : List Sent) → paid x (xs ++ fs) ≡ paid x xs
  paid-same x xs = paid-append x xs fs ∙ ap (λ (z : List ℕ). paid x xs ++ z) (paid-none x fs (quiet-paid x fs plain)) ∙ append-nil (paid x xs)

  ruled-same : (l n b : ℕ) → Ruled l n b u → Ruled l n b (u ++ fs)
  ruled-same l n b r = ruled-append l n b u fs r (ruled-none l (n + length (paid l u)) b fs (quiet-paid l fs plain))

  read-keeps : Joint o hb waits own k db' dc' q (w ++ fs) v (u ++ fs) d
  read-keeps =
      let rise = g.rises.0 ask in
      record {
        rises = subst (λ (n : ℕ). Rising n k d) (sym reads) rise.1;
        fresh = λ x h. let lt : f.arg0 < x = let z = reads in omega arith in let a = rise.0 in news x lt ∙ g.fresh x (omega arith);
        wrote-up = every_append (UpFrame q) w fs (up-grow m q grow w g.wrote-up) mates;
        on-up = every_append (UpFrame q) u fs (up-grow m q grow u g.on-up) mates;
        wrote-down = down-grow m q grow o v g.wrote-down;
        on-down = down-grow m q grow o d g.on-down.1;
        ours = λ i t. grow (hb i).local (hb i).remote (g.ours i t);
        its = λ j t. (books j t).0;
        told = λ j t. (books j t).1.0;
        bound = g.bound;
        unready = g.unready;
        less = g.less;
        acked = g.acked;
        added = λ j t c. (books j t).1.1.0 c;
        sent = λ j t. (books j t).1.1.1.0 ∙ ap length (sym (paid-same (db' j).remote w));
        bytes = λ i t. paid-same (hb i).local w ∙ g.bytes i t ∙ ap (λ (x : List ℕ). (hb i).accepted ++ x) (sym (paid-same (hb i).local u));
        kept = g.kept;
        rule = λ i t. ruled-same (hb i).local (length (hb i).accepted) (o + (hb i).acked) (g.rule i t);
        waiting = λ t. let wt = g.waiting t in (paid-same own w ∙ wt.0 ∙ sym (paid-same own u), ruled-same own 0 o wt.1);
        owes = λ j t. let a = (books j t).1.1.1.1 in let b = ap length (paid-same (db' j).remote w) in omega arith;
      }

-- a channel that was there keeps what is kept of it
module _ (o : ℕ) (hb : ℕ → Book) (waits : Bool) (own k : ℕ) (db : ℕ → Book) (dc : ℕ → Credit) (m : Mates) (w v u d : List Sent) (f : Sent) (fs : List Sent)
    (g : Joint o hb waits own k db dc m w v u (f ∷ d)) (ask : is_open f.command ≡ true) (ready-open : is_ready f.command ≡ false) (plain : plain-frames fs) where
  due-open : (r : ℕ) → due r (f ∷ d) ≡ due r d
  due-open r = let z = cond-false (readies-to r f) (credit_in f.payload) 0 (ap (λ (x : Bool). x && eqb f.arg1 r) ready-open) in omega arith

  rise-open : m.read < f.arg0
  rise-open = (g.rises.0 ask).0

  -- refused: fs holds at most a CLSE
  pub refused-keeps : (db' : ℕ → Book) (dc' : ℕ → Credit) → ((j : ℕ) → (db' j).there ≡ true → StoodBook (db j) (db' j) (dc j) (dc' j)) → Every (UpFrame m) fs
      → Joint o hb waits own k db' dc' (read_to m f.arg0) (w ++ fs) v (u ++ fs) d
  refused-keeps db' dc' sb mates =
      let q = read_to m f.arg0 in
      let grow : (x y : ℕ) → Pair m x y → Pair q x y = λ x y p. pair-read m f.arg0 x y rise-open p in
      read-keeps o hb waits own k db db' dc dc' m q w v u d f fs g ask ready-open plain grow refl (λ x h. refl) (up-grow m q grow fs mates)
      (λ j n. let b = sb j n in
      let t = g.told j b.there in (
        subst (λ (x : ℕ). Pair q x (db' j).local) (sym b.remote) (subst (λ (x : ℕ). Pair q (db j).remote x) (sym b.local) (grow (db j).remote (db j).local (g.its j b.there))),
        (
          (ap (λ (z : Credit). z.told) b.same ∙ t.0, ap (λ (z : Credit). z.opening) b.same ∙ t.1),
          (
            (λ c. ap (λ (x : ℕ). due x v) b.local ∙ g.added j b.there (b.live c)
                ∙ ap₂ (λ (x z : ℕ). x + z) (sym (ap (λ (z : Credit). z.added) b.same)) (due-open (db j).local ∙ sym (ap (λ (x : ℕ). due x d) b.local))),
            (
              ap (λ (z : Credit). z.sent) b.same ∙ g.sent j b.there ∙ sym (ap (λ (x : ℕ). length (paid x w)) b.remote),
              subst (λ (x : ℕ). due x v ≤ length (paid (db' j).remote w)) (sym b.local) (subst (λ (x : ℕ). due (db j).local v ≤ length (paid x w)) (sym b.remote) (g.owes j b.there)),
            ),
          ),
        ),
      ))

  -- taken: with number r, which was not given out before; the last frame is the OKAY that says so
  pub taken-keeps : (r : ℕ) (db' : ℕ → Book) (dc' : ℕ → Credit) → m.given < r → ((j : ℕ) → (db' j).there ≡ true → TakenBook f r (db j) (db' j) (dc j) (dc' j))
      → Every (λ (x : Sent). (x.arg0 ≡ r) × (x.arg1 ≡ f.arg0)) fs → Joint o hb waits own k db' dc' (mated m f.arg0 r) (w ++ fs) v (u ++ fs) d
  taken-keeps r db' dc' new tb es =
      let q = mated m f.arg0 r in
      let grow : (x y : ℕ) → Pair m x y → Pair q x y = λ x y p. pair-mated m f.arg0 r x y rise-open new p in
      read-keeps o hb waits own k db db' dc dc' m q w v u d f fs g ask ready-open plain grow refl (λ x h. with-other m.its f.arg0 r x (λ e. omega arith))
      (mates-of fs plain es) (λ j t. by-book j (tb j t))
    where
      the-pair : Pair (mated m f.arg0 r) f.arg0 r
      the-pair = record { back = with-same m.its f.arg0 r; forth = with-same m.ours r f.arg0; some = omega arith; below = omega arith; was-read = omega arith }

      mates-of : (xs : List Sent) → plain-frames xs → Every (λ (x : Sent). (x.arg0 ≡ r) × (x.arg1 ≡ f.arg0)) xs → Every (UpFrame (mated m f.arg0 r)) xs
      mates-of [] e z = tt
      mates-of (x ∷ xs) e z =
          let p : Pair (mated m f.arg0 r) x.arg1 x.arg0 =
          subst (λ (a : ℕ). Pair (mated m f.arg0 r) a x.arg0) (sym z.0.1) (subst (λ (b : ℕ). Pair (mated m f.arg0 r) f.arg0 b) (sym z.0.0) the-pair) in
          (record { closed = e.0.0; mates = λ t. p }, mates-of xs e.1 z.1)

      by-book : (j : ℕ) → TakenBook f r (db j) (db' j) (dc j) (dc' j)
          → (Pair (mated m f.arg0 r) (db' j).remote (db' j).local)
          × ((((dc' j).told ≡ true) × ((dc' j).opening ≡ o)) × (((db' j).closed ≡ false → due (db' j).local v ≡ (dc' j).added + due (db' j).local d)
          × (((dc' j).sent ≡ length (paid (db' j).remote w)) × (due (db' j).local v ≤ length (paid (db' j).remote w)))))
      by-book j (stood e a b c y) =
          let p = pair-mated m f.arg0 r (db j).remote (db j).local rise-open new (g.its j e) in
          let t = g.told j e in (
            subst (λ (x : ℕ). Pair (mated m f.arg0 r) x (db' j).local) (sym b) (subst (λ (x : ℕ). Pair (mated m f.arg0 r) (db j).remote x) (sym a) p),
            (
              (ap (λ (z : Credit). z.told) y ∙ t.0, ap (λ (z : Credit). z.opening) y ∙ t.1),
              (
                (λ n. ap (λ (x : ℕ). due x v) a ∙ g.added j e (c n) ∙ ap₂ (λ (x z : ℕ). x + z) (sym (ap (λ (z : Credit). z.added) y)) (due-open (db j).local ∙ sym (ap (λ (x : ℕ). due x d) a))),
                (
                  ap (λ (z : Credit). z.sent) y ∙ g.sent j e ∙ sym (ap (λ (x : ℕ). length (paid x w)) b),
                  subst (λ (x : ℕ). due x v ≤ length (paid (db' j).remote w)) (sym a) (subst (λ (x : ℕ). due (db j).local v ≤ length (paid x w)) (sym b) (g.owes j e)),
                ),
              ),
            ),
          )
      by-book j (filled a b t y z s) =
          let nv = ungiven-readies m o r v new g.wrote-down in
          let nd = ungiven-readies m o r d new g.on-down.1 in
          let nw = unread-writes m f.arg0 w rise-open g.wrote-up in (
            subst (λ (x : ℕ). Pair (mated m f.arg0 r) x (db' j).local) (sym b) (subst (λ (x : ℕ). Pair (mated m f.arg0 r) f.arg0 x) (sym a) the-pair),
            (
              (t, y ∙ g.on-down.0.opening ask),
              (
                (λ n. ap (λ (x : ℕ). due x v) a ∙ due-none r v nv ∙ sym (ap₂ (λ (x i : ℕ). x + i) z (ap (λ (x : ℕ). due x d) a ∙ due-none r d nd))),
                (s ∙ sym (ap length (ap (λ (x : ℕ). paid x w) b ∙ paid-none f.arg0 w nw)), let z = ap (λ (x : ℕ). due x v) a ∙ due-none r v nv in omega arith),
              ),
            ),
          )

-- ---- what follows from it

module _ (o : ℕ) (hb : ℕ → Book) (waits : Bool) (own k : ℕ) (db : ℕ → Book) (dc : ℕ → Credit) (m : Mates) (w v u d : List Sent) (g : Joint o hb waits own k db dc m w v u d) (j : ℕ)
    (there : (db j).there ≡ true) where
  abbrev l : ℕ
  l = (db j).remote

  abbrev r : ℕ
  r = (db j).local

  all-allowed : acks_of l v ≡ due r v
  all-allowed = due-acks l r v (down-readies m l r (g.its j there) o v g.wrote-down)

  -- what was added is no more than what was sent
  pub its-top : (db j).closed ≡ false → (dc j).added ≤ (dc j).sent
  its-top live = let a = g.owes j there in let b = g.added j there live in let c = g.sent j there in omega arith

  -- beside a channel of ours
  pub stands-sum : (db j).closed ≡ false → (i : ℕ) → (hb i).there ≡ true → (hb i).local ≡ (db j).remote
      → ((dc j).sent ≡ length (hb i).accepted + length (paid (db j).remote u)) × ((hb i).acked ≡ (dc j).added + due (db j).local d)
  stands-sum live i t at = (
    g.sent j there ∙ ap length (subst (λ (x : ℕ). paid x w ≡ (hb i).accepted ++ paid x u) at (g.bytes i t)) ∙ length-append (hb i).accepted (paid l u),
    g.acked i t ∙ ap (λ (x : ℕ). acks_of x v) at ∙ all-allowed ∙ g.added j there live,
  )

  -- beside a pending open of ours
  pub waits-sum : (db j).closed ≡ false → waits ≡ true → own ≡ (db j).remote → ((dc j).sent ≡ length (paid (db j).remote u)) × ((dc j).added + due (db j).local d ≡ 0)
  waits-sum live t at = (
    g.sent j there ∙ ap length (subst (λ (x : ℕ). paid x w ≡ paid x u) at (g.waiting t).0),
    sym (all-allowed ∙ g.added j there live) ∙ ap (λ (x : ℕ). acks_of x v) (sym at) ∙ acks-none own v (g.unready t),
  )

-- at first
pub joint-first : (o : ℕ) (hb : ℕ → Book) (own k : ℕ) (db : ℕ → Book) (dc : ℕ → Credit) (given : ℕ) → ((i : ℕ) → (hb i).there ≡ false) → ((j : ℕ) → (db j).there ≡ false)
    → Joint o hb false own k db dc (record { ours = λ x. 0; its = λ x. 0; read = 0; given = given }) [] [] [] []
joint-first o hb own k db dc given hn dn =
    record {
      rises = omega arith;
      fresh = λ x h. refl;
      wrote-up = tt;
      on-up = tt;
      wrote-down = tt;
      on-down = tt;
      ours = λ i t. absurd (true≢false (sym t ∙ hn i));
      its = λ j t. absurd (true≢false (sym t ∙ dn j));
      told = λ j t. absurd (true≢false (sym t ∙ dn j));
      bound = λ t. absurd (true≢false (sym t));
      unready = λ t. absurd (true≢false (sym t));
      less = λ i t. absurd (true≢false (sym t ∙ hn i));
      acked = λ i t. absurd (true≢false (sym t ∙ hn i));
      added = λ j t. absurd (true≢false (sym t ∙ dn j));
      sent = λ j t. absurd (true≢false (sym t ∙ dn j));
      bytes = λ i t. absurd (true≢false (sym t ∙ hn i));
      kept = λ i t. absurd (true≢false (sym t ∙ hn i));
      rule = λ i t. absurd (true≢false (sym t ∙ hn i));
      waiting = λ t. absurd (true≢false (sym t));
      owes = λ j t. absurd (true≢false (sym t ∙ dn j));
    }
