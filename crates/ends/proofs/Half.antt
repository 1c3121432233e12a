-- The device's end and both lines, between the steps of one of its calls. Assumes nothing.
use mathlib.Core.Path.{◌≡◌, refl, sym, ap, ap₂, subst, ◌∙◌}
use mathlib.Core.Bool.{Bool, true, false, not, ◌||◌, true≢false}
use mathlib.Core.List.{List, [], ◌∷◌, ◌++◌}
use Prim.Native.Nat.{ℕ, ◌+◌, ◌^◌, ◌≤◌, ◌<◌}
use native.Mathlib.Omega.{arith}
use lib.Dec.{eqb, ltb}
use lib.IntN.{pos}
use borrow.Author.Tests.{eqb-true, ne_eqb, lt-ltb}
use Rattle.le.proofs.Parts.{by-test}
use Rattle.le.proofs.RowLaws.{Every}
use Rattle.slot.proofs.Laws.{cond-true, cond-false}
use Rattle.config.proofs.Laws.{and-true}
use Rattle.credit.specs.Credit.{credit_of}
use Rattle.protocol.specs.declared.packet.Packet.{Packet}
use Rattle.protocol.specs.declared.command.Command.{Command}
use Rattle.protocol.specs.declared.command.Command.TheVariants.{Sync, Connect, Open, Ready, Close, Write, Auth, StartTls}
use Rattle.protocol.specs.Command.{is_ready, is_write, is_close, is_open, is_the, word_of, letters_of}
use Rattle.le.specs.Le.{num_of}
use Rattle.slot.specs.Slot.{is_closed}
use Rattle.table.specs.Table.{below}
use Rattle.device_meets.specs.Meets.{is_live_at, is_stream}
use Rattle.connection.specs.Calls.{policy, verdict_step}
use Rattle.connection.specs.Frames.{Sent}
use Rattle.history.specs.Run.{Call, received_in, World, lent, outcome, after}
use Rattle.history.specs.Book.{Book, Ledger, book_at, credit_in}
use Rattle.history.specs.Credits.{Credit}
use Rattle.history.specs.Demand3.{place_slot}
use Rattle.history.specs.Numbers.{given_by}
use Rattle.history.proofs.Places.{TableOk, own-place}
use Rattle.ends_device.proofs.Turns.{PlainCall, names_one, is_open_stream, verdict_on}
use Rattle.ends.proofs.Amounts.{readies-to}
use Rattle.ends.proofs.Joint.{Mates, UpFrame, DownFrame, Joint, ahead, device-keeps, drop-keeps, its-top, plain-frames, read_to, mated, refused-keeps, taken-keeps}
use Rattle.ends.proofs.Lined.{Packeted}
use Rattle.ends.proofs.Live.{Live, seen-by, next-books, live-table, live-next, live-from, from-same, book-good, there-slot}
use Rattle.ends.proofs.Its.{ExactAll, next-credit, exact-next, exact-verdict, device-step, Judged, refuses, takes, verdicts}
use Rattle.std.specs.Prelude.{Option, Some, None, Ok}

-- hb, waits, own, k: our end; v: the device's connection, of which at most given numbers were given out; the frames as Joint has them
pub record Half (o : ℕ) (hb : ℕ → Book) (waits : Bool) (own k : ℕ) (r : List ℕ) (rx store : ℕ) (v : World) (given : ℕ) (w sd u d : List Sent) : Type 0 where
  pub from : ℕ
  pub its : Ledger
  pub device : Live r rx store from given v its
  pub credits : ℕ → Credit
  pub sound : ExactAll v its credits
  pub mates : Mates
  pub few : mates.given ≤ device.given.k
  pub joint : Joint o hb waits own k (book_at its) credits mates w sd u d

-- an OPEN is no OKAY
open-no-ready : (c : Command) → is_open c ≡ true → is_ready c ≡ false
unfolding is_open is_ready is_the word_of letters_of num_of
open-no-ready Sync e = refl
open-no-ready Connect e = refl
open-no-ready Open e = refl
open-no-ready Ready e = absurd (true≢false (sym e))
open-no-ready Close e = refl
open-no-ready Write e = refl
open-no-ready Auth e = refl
open-no-ready StartTls e = refl

-- what the device may send is bounded by what it sent
topped : (o : ℕ) (hb : ℕ → Book) (waits : Bool) (own k : ℕ) → o < 2 ^ 31 → (db : ℕ → Book) (dc : ℕ → Credit) (m : Mates) (w v u d : List Sent) → Joint o hb waits own k db dc m w v u d
    → (j : ℕ) → (db j).there ≡ true → (db j).closed ≡ false → ((dc j).added ≤ (dc j).sent) × ((dc j).opening < 2 ^ 31)
topped o hb waits own k low db dc m w v u d g j t c =
    (its-top o hb waits own k db dc m w v u d g j t c, let a = (g.told j t).1 in omega arith)

module _ (o : ℕ) (hb : ℕ → Book) (waits : Bool) (own k : ℕ) (low : o < 2 ^ 31) (r : List ℕ) (rx store : ℕ) (v : World) (given : ℕ) (w sd u : List Sent) where
  abbrev H : World → ℕ → List Sent → List Sent → List Sent → Type 0
  H v given w u d = Half o hb waits own k r rx store v given w sd u d

  down-reads : (m : Mates) (d : List Sent) (x : Option Sent) → Every (DownFrame m o) (ahead x d) → (f : Sent) → x ≡ Some f → is_ready f.command ≡ true
      → credit_of f.payload ≡ Ok (pos (credit_in f.payload))
  down-reads m d x e f q = (subst (λ (z : Option Sent). Every (DownFrame m o) (ahead z d)) q e).0.reads

  -- one of the connection's calls
  module _ (d : List Sent) (got : Option Sent) (s : Half o hb waits own k r rx store v given w sd u (ahead got d)) (c : Call) (plain : PlainCall c)
      (tk : Packeted (received_in c) (lent v).state.header.negotiated.config.max_payload (outcome v c) got) (closed : (f : Sent) → got ≡ Some f → is_open f.command ≡ false)
      (small : given + given_by c (seen-by v c) < 2 ^ 32) where
    pub plain-half : H (after v c) (given + given_by c (seen-by v c)) (w ++ (seen-by v c).sent) (u ++ (seen-by v c).sent) d
    plain-half =
        let dk = s.device.given.k in
        let lf = live-from r rx store s.from given v s.its s.device in
        let ln = live-next r rx store dk given v s.its lf c small in
        let reads = down-reads s.mates d got s.joint.on-down in
        let told : (j : ℕ) → (book_at s.its j).there ≡ true → (s.credits j).told ≡ true = λ j t. (s.joint.told j t).0 in
        let top = topped o hb waits own k low (book_at s.its) s.credits s.mates w sd u (ahead got d) s.joint in
        record {
          from = dk;
          its = next-books v s.its c;
          device = ln;
          credits = next-credit v s.its c s.credits;
          sound = exact-next r rx store s.from given v s.its s.device s.credits s.sound top told c plain small got tk reads;
          mates = s.mates;
          few = let a = s.few in let b = ln.given.least in omega arith;
          joint =
              device-keeps o hb waits own k (book_at s.its) (book_at (next-books v s.its c)) s.credits (next-credit v s.its c s.credits) s.mates w sd u d got (seen-by v c).sent s.joint
              (device-step r rx store s.from given v s.its s.device s.credits s.sound top told c plain small got tk reads) closed;
        }

  -- ---- a packet that is dropped

  -- an open channel's number names a stream
  stream-there : (s : World) (ok : TableOk (policy (lent s)) (lent s).state.header.negotiated.config.channels (lent s).state.slots (lent s).rx) (i a : ℕ) → (place_slot s i).filled ≡ true
      → is_closed (place_slot s i).state ≡ false → (place_slot s i).local.0 ≡ a → (a ≡ 0 → ⊥)
      → is_stream (lent s).state.header.negotiated.config.channels (lent s).state.slots (record { 0 = a }) ≡ true
  unfolding is_stream is_live_at below
  stream-there s ok i a fill live at some =
      let n = (lent s).state.header.negotiated.config.channels in
      let ss = (lent s).state.slots in
      let e = own-place (policy (lent s)) n ss (lent s).rx ok i (record { 0 = a }) fill at in
      let lt = ok.below i fill in
      cond-false (eqb a 0) false _ (ne_eqb a 0 some)
      ∙ ap (λ (z : ℕ). is_live_at ss (below n z)) e ∙ ap (is_live_at ss) (cond-true (ltb i n) (Some i) None (lt-ltb i n lt)) ∙ ap not live

  -- nothing to any open channel
  pub drop-half : (d : List Sent) (f : Sent) (s : Half o hb waits own k r rx store v given w sd u (f ∷ d)) (p : Packet) → f.command ≡ p.command → f.arg0 ≡ p.arg0 → f.arg1 ≡ p.arg1
      → (is_open p.command ≡ true → p.arg0 ≡ 0) → ((j : ℕ) → (book_at s.its j).there ≡ true → (book_at s.its j).closed ≡ false → readies-to (book_at s.its j).local f ≡ false)
      → H v given w u d
  drop-half d f s p ec e0 e1 op idle =
      record {
        from = s.from;
        its = s.its;
        device = s.device;
        credits = s.credits;
        sound = s.sound;
        mates = s.mates;
        few = s.few;
        joint =
            drop-keeps o hb waits own k (book_at s.its) s.credits s.mates w sd u d f s.joint
            (by-test (is_open f.command)
            (λ t. let a = (s.joint.rises.0 t).0 in let z = op (sym (ap is_open ec) ∙ t) in absurd (omega arith)) (λ t. t))
            idle;
      }

  -- a packet that names no open stream is to none
  pub no-stream : (its : Ledger) (from : ℕ) (live : Live r rx store from given v its) (f : Sent) (p : Packet) → f.command ≡ p.command → f.arg1 ≡ p.arg1
      → (names_one p ≡ true → is_open_stream v p ≡ false) → (j : ℕ) → (book_at its j).there ≡ true → (book_at its j).closed ≡ false → ((book_at its j).local ≡ 0 → ⊥)
      → readies-to (book_at its j).local f ≡ false
  no-stream its from live f p ec e1 none j t op some =
      by-test (readies-to (book_at its j).local f)
      (λ q. let z = and-true (is_ready f.command) (eqb f.arg1 (book_at its j).local) q in
      let fill = there-slot r rx store from given v its live j t in
      let gd = book-good r rx store from given v its live j fill in
      let at : f.arg1 ≡ (book_at its j).local = eqb-true f.arg1 (book_at its j).local z.1 in
      let one : names_one p ≡ true = or-first (is_ready p.command) (is_write p.command) (is_close p.command) (sym (ap is_ready ec) ∙ z.0) in
      let yes = stream-there v (live-table r rx store from given v its live) j p.arg1 fill (sym gd.ends ∙ op) (sym gd.loc ∙ sym at ∙ e1) (λ x. some (sym at ∙ e1 ∙ x)) in
      absurd (true≢false (sym yes ∙ none one)))
      (λ q. q)
    where
      or-first : (a b c : Bool) → a ≡ true → (a || b || c) ≡ true
      or-first true b c e = refl
      or-first false b c e = absurd (true≢false (sym e))

-- ---- an OPEN that is refused or taken

module _ (o : ℕ) (hb : ℕ → Book) (waits : Bool) (own k : ℕ) (low : o < 2 ^ 31) (r : List ℕ) (rx store : ℕ) (v : World) (given : ℕ) (w sd u d : List Sent) (f : Sent)
    (s : Half o hb waits own k r rx store v given w sd u (f ∷ d)) (p : Packet) (take : Bool) (credit : ℕ) (ask : is_open f.command ≡ true) (e0 : f.arg0 ≡ p.arg0) (e1 : f.arg1 ≡ p.arg1)
    (asked : take ≡ true → credit ≡ p.arg1) (fits : p.arg1 < 2 ^ 32) (small : given + given_by (verdict_on p take credit) (seen-by v (verdict_on p take credit)) < 2 ^ 32)
    (step : outcome v (verdict_on p take credit) ≡ verdict_step (lent v) take (record { 0 = p.arg0 }) credit) where
  abbrev vc : Call
  vc = verdict_on p take credit

  abbrev fs : List Sent
  fs = (seen-by v vc).sent

  abbrev dk : ℕ
  dk = s.device.given.k

  abbrev ln : Live r rx store dk (given + given_by vc (seen-by v vc)) (after v vc) (next-books v s.its vc)
  ln = live-next r rx store dk given v s.its (live-from r rx store s.from given v s.its s.device) vc small

  silent-speaks : (m : Mates) (xs : List Sent) → plain-frames xs → Every (λ (x : Sent). is_ready x.command ≡ false) xs → Every (UpFrame m) xs
  silent-speaks m [] a b = tt
  silent-speaks m (x ∷ xs) a b =
      (record { closed = a.0.0; mates = λ t. absurd (true≢false (sym t ∙ ap₂ (λ (i j : Bool). i || j) b.0 a.0.1)) }, silent-speaks m xs a.1 b.1)

  open-ready : is_ready f.command ≡ false
  open-ready = open-no-ready f.command ask

  -- the channel's credits after it
  sound : ExactAll (after v vc) (next-books v s.its vc) (next-credit v s.its vc s.credits)
  sound =
      exact-verdict r rx store s.from given v s.its s.device s.credits p take credit small f e0 e1 asked fits s.sound
      (topped o hb waits own k low (book_at s.its) s.credits s.mates w sd u (f ∷ d) s.joint) step

  with-mates : (m : Mates) → m.given ≤ ln.given.k → Joint o hb waits own k (book_at (next-books v s.its vc)) (next-credit v s.its vc s.credits) m (w ++ fs) sd (u ++ fs) d
      → Half o hb waits own k r rx store (after v vc) (given + given_by vc (seen-by v vc)) (w ++ fs) sd (u ++ fs) d
  with-mates m few j =
      record {
        from = dk;
        its = next-books v s.its vc;
        device = ln;
        credits = next-credit v s.its vc s.credits;
        sound = sound;
        mates = m;
        few = few;
        joint = j;
      }

  by-judged : Judged dk ln.given.k f (book_at s.its) (book_at (next-books v s.its vc)) s.credits (next-credit v s.its vc s.credits) fs
      → Half o hb waits own k r rx store (after v vc) (given + given_by vc (seen-by v vc)) (w ++ fs) sd (u ++ fs) d
  by-judged (refuses pl nr sb) =
      with-mates (read_to s.mates f.arg0) (let a = s.few in let b = ln.given.least in omega arith)
      (refused-keeps o hb waits own k (book_at s.its) s.credits s.mates w sd u d f fs s.joint ask open-ready pl (book_at (next-books v s.its vc)) (next-credit v s.its vc s.credits) sb
      (silent-speaks s.mates fs pl nr))
  by-judged (takes n e le pl es tb) =
      with-mates (mated s.mates f.arg0 n) le
      (taken-keeps o hb waits own k (book_at s.its) s.credits s.mates w sd u d f fs s.joint ask open-ready pl n (book_at (next-books v s.its vc)) (next-credit v s.its vc s.credits)
      (let a = s.few in omega arith) tb es)

  pub verdict-half : Half o hb waits own k r rx store (after v vc) (given + given_by vc (seen-by v vc)) (w ++ fs) sd (u ++ fs) d
  verdict-half =
      by-judged (subst (λ (z : ℕ). Judged z ln.given.k f (book_at s.its) (book_at (next-books v s.its vc)) s.credits (next-credit v s.its vc s.credits) fs)
      (from-same r rx store s.from given v s.its s.device)
      (verdicts r rx store dk given v s.its (live-from r rx store s.from given v s.its s.device) s.credits p take credit small f e0 e1 asked fits step))
