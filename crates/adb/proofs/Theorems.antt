-- The theorems over lists of calls, for what the exported functions leave. Assumes nothing.
use mathlib.Core.Path.{◌≡◌, refl, sym, ap, subst, ◌∙◌}
use mathlib.Core.Bool.{true, false}
use mathlib.Core.List.{List, [], ◌∷◌}
use Prim.Native.Nat.{ℕ, ◌+◌, ◌<◌, ◌^◌}
use native.Mathlib.Omega.{arith}
use lib.Dec.{ltb}
use lib.IntN.{pos, neg_ℤ}
use lib.ListN.{length, drop, get_or}
use lib.Signed.{◌<ℤ◌}
use borrow.Author.Tests.{ltb-false}
use Rattle.call_answer.specs.Export.{Does, Exported}
use Rattle.le.proofs.Parts.{by-test}
use Rattle.config.specs.declared.negotiated.Negotiated.{Negotiated}
use Rattle.config.specs.declared.negotiated.RxPolicy.{RxPolicy}
use Rattle.config.specs.Config.{within_limits}
use Rattle.slot.proofs.Laws.{cond-true, cond-false}
use Rattle.connection.specs.Answer.{answer_number}
use Rattle.connection.specs.Calls.{Made, make_of}
use Rattle.call_make.specs.Make.{make_in}
use Rattle.history.specs.Book.{Ledger, clean, book_at, entry, ledger_of}
use Rattle.history.specs.Demand3.{place_slot, run_of, Distinct, Apart, Place, Told, AllTold, Claims}
use Rattle.history.specs.NoLeak.{ReadOnly, EvenAt}
use Rattle.history.specs.Never13.{Unbroken}
use Rattle.history.specs.Numbers.{opens_in, given_by, given_in}
use Rattle.history.specs.Queue.{Queues}
use Rattle.history.specs.Run.{Call, open_call, dispatch_call, settle_call, take_call, read_call, write_call, close_call, front_taken, look_call, accept_call, reject_call, let_go_call, verdict_call, out_of, buf_of, World, after, after_all, made, Start, begins}
use Rattle.history.specs.Seen.{Held, held_of, Seen, Event, seen_of, events_of}
use Rattle.history.specs.Spending.{longest}
use Rattle.history.proofs.Floor.{floor}
use Rattle.history.proofs.Given.{numbers_apart}
use Rattle.history.proofs.Heard.{nothing8, seen-eight}
use Rattle.history.proofs.Never13.{Holds, holds_after, holds_kept, starts, never-13}
use Rattle.history.proofs.Queue.{queue-is-rusts}
use Rattle.history.proofs.Theorem.{demand-3, no-leak}
use Rattle.history.proofs.Told.{entry-eight, told-eight}
use Rattle.call_answer.specs.Answer.{said_in}
use Rattle.adb.specs.Export.{world_of, is_short, called, exported, is_yes}
use Rattle.adb.specs.Linked.{Step, left_in, held_in, event_in, Ran, Runs, leaves, events, ApartIn, None13, ReadsAt, Making, lends_by, agreed_by, policy_by, LinkedDemand3, LinkedFree, LinkedNever13, LinkedQueue, LinkedNoLeak, LinkedFloor}
use Rattle.state.specs.State.{state_len}

-- ---- one call: refused by 8 for a short answer, or the definition's

pub data Went (w : World) (x : Step) : Type 0 where
  short : left_in x ≡ w → x.number ≡ 8 → Went w x
  went : left_in x ≡ after w x.call → event_in x ≡ record { call = x.call; held = held_of w x.call } → Went w x

-- what a step is left, in one record
abbrev left_of : Step → List ℕ → Exported
left_of x said = record { number = x.number; state = x.state; rx = x.rx; store = x.store; out = x.out; buf = x.buf; answer = x.answer; said = said }

left_is : (x : Step) (e : Exported) → Does e x.number x.state x.rx x.store x.out x.buf x.answer → left_of x (said_in x.answer) ≡ e
left_is x e d =
    λ i. record {
      number = d.number_is i;
      state = d.state-is i;
      rx = d.rx-is i;
      store = d.store_is i;
      out = d.out-is i;
      buf = d.buf-is i;
      answer = d.answer-is i;
      said = d.said-is i;
    }

-- what its caller holds, and what lasts, told from that record
abbrev held_by : Exported → Held
held_by e = record { number = e.number; used = get_or e.said 0 0; written = get_or e.said 1 0; values = drop 2 e.said; out = e.out; buf = e.buf }

abbrev lasts_by : Exported → World
lasts_by e = world_of e.state e.rx e.store

pub ran-went : (w : World) (x : Step) → Ran w x → Went w x
unfolding exported called after held_in held_of
ran-went w x r =
    let c = x.call in
    let t = is_short (length w.state) (length r.before) in
    let e = left_is x (exported w c (out_of c) (buf_of c) r.before) r.does in
    by-test t
    (λ u. let z = e ∙ cond-true t _ (called w c (out_of c) (buf_of c) r.before) u in short (ap lasts_by z) (ap (λ (y : Exported). y.number) z))
    (λ u. let z = e ∙ cond-false t _ (called w c (out_of c) (buf_of c) r.before) u in
    went (ap lasts_by z) (ap (λ (h : Held). record { call = c; held = h }) (ap held_by z)))

-- ---- a list of calls is one of the definitions' calls: those that were not refused for a short answer

-- an answer of 8 gives no number out
given-eight : (c : Call) → given_by c nothing8 ≡ 0
unfolding given_by opens_in
given-eight (open_call out destination received) = refl
given-eight (dispatch_call out received) = refl
given-eight (settle_call out ch want) = refl
given-eight (take_call ch buf) = refl
given-eight (read_call out ch buf received) = refl
given-eight (write_call spending out ch bytes received) = refl
given-eight (close_call out ch) = refl
given-eight front_taken = refl
given-eight (look_call x) = refl
given-eight (accept_call out) = refl
given-eight (reject_call out) = refl
given-eight let_go_call = refl
given-eight (verdict_call out true remote credit) = refl
given-eight (verdict_call out false remote credit) = refl

pub record Same (p : RxPolicy) (w : World) (xs : List Step) : Type 0 where
  pub calls : List Call
  pub world : leaves w xs ≡ after_all w calls
  pub ledger : (y : Ledger) → ledger_of p y (events xs) ≡ ledger_of p y (events_of w calls)
  pub told : (y : Ledger) → AllTold p y (events_of w calls) → AllTold p y (events xs)
  pub apart : ApartIn xs → Apart w calls
  pub given : given_in (events xs) ≡ given_in (events_of w calls)
  pub only : (i : ℕ) → ReadsAt i xs → ReadOnly i calls

module _ (p : RxPolicy) (w : World) (x : Step) (xs : List Step) where
  same-short : x.number ≡ 8 → left_in x ≡ w → Same p (left_in x) xs → Same p w (x ∷ xs)
  unfolding ledger_of given_in held_in
  same-short z e rest =
      let s = subst (λ (v : World). Same p v xs) e rest in
      let n : seen_of (event_in x) ≡ nothing8 = seen-eight (event_in x) z in
      let kept : (y : Ledger) → entry p x.call (seen_of (event_in x)) y ≡ y = λ y. ap (λ (o : Seen). entry p x.call o y) n ∙ entry-eight p x.call y in
      record {
        calls = s.calls;
        world = ap (λ (v : World). leaves v xs) e ∙ s.world;
        ledger = λ y. ap (λ (q : Ledger). ledger_of p q (events xs)) (kept y) ∙ s.ledger y;
        told = λ y t. (told-eight p y (event_in x) z, subst (λ (q : Ledger). AllTold p q (events xs)) (sym (kept y)) (s.told y t));
        apart = λ a. s.apart a.1;
        given = let g : given_by x.call (seen_of (event_in x)) ≡ 0 = ap (given_by x.call) n ∙ given-eight x.call in let h = s.given in omega arith;
        only = λ i o. s.only i o.1;
      }

  same-went : left_in x ≡ after w x.call → event_in x ≡ record { call = x.call; held = held_of w x.call } → Same p (left_in x) xs → Same p w (x ∷ xs)
  unfolding after_all events_of ledger_of given_in Apart
  same-went e f rest =
      let s = subst (λ (v : World). Same p v xs) e rest in
      let ev : Event = record { call = x.call; held = held_of w x.call } in
      record {
        calls = x.call ∷ s.calls;
        world = ap (λ (v : World). leaves v xs) e ∙ s.world;
        ledger = λ y. ap (λ (q : Event). ledger_of p (entry p q.call (seen_of q) y) (events xs)) f ∙ s.ledger (entry p x.call (seen_of ev) y);
        told = λ y t.
            subst (λ (q : Event). Told p y q × AllTold p (entry p q.call (seen_of q) y) (events xs)) (sym f) (t.0, s.told (entry p x.call (seen_of ev) y) t.1);
        apart = λ a. (subst Distinct e a.0, s.apart a.1);
        given = let h = s.given in ap (λ (q : Event). given_by q.call (seen_of q) + given_in (events xs)) f ∙ ap (λ (k : ℕ). given_by x.call (seen_of ev) + k) h;
        only = λ i o. (o.0, s.only i o.1);
      }

  same_by : Went w x → Same p (left_in x) xs → Same p w (x ∷ xs)
  same_by (short e z) rest = same-short z e rest
  same_by (went e f) rest = same-went e f rest

pub same : (p : RxPolicy) (w : World) (xs : List Step) → Runs w xs → Same p w xs
unfolding after_all events_of ledger_of given_in Apart
same p w [] r = record { calls = []; world = refl; ledger = λ y. refl; told = λ y t. tt; apart = λ a. tt; given = refl; only = λ i o. tt }
same p w (x ∷ xs) r = same_by p w x xs (ran-went w x r.0) (same p (left_in x) xs r.1)

-- ---- what adb_make leaves

not-8 : (k : ℕ) → k ≡ 0 → k ≡ 8 → ⊥
not-8 k e f = omega arith

not-7 : (k : ℕ) → k ≡ 0 → k ≡ 7 → ⊥
not-7 k e f = omega arith

module _ (m : Making) where
  makes-long : ltb (length m.state) state_len ≡ false
  unfolding make_in answer_number
  makes-long =
      by-test (ltb (length m.state) state_len)
      (λ t. absurd (not-8 m.number m.done (m.makes.number_is ∙ ap (λ (x : Made). answer_number x.answer) (cond-true (ltb (length m.state) state_len) _ _ t))))
      (λ t. t)

  makes-within : within_limits m.config ≡ true
  unfolding make_in make_of answer_number
  makes-within =
      by-test (within_limits m.config) (λ t. t)
      (λ t. absurd (not-7 m.number m.done
      (m.makes.number_is ∙ ap (λ (x : Made). answer_number x.answer) (cond-false (ltb (length m.state) state_len) _ _ makes-long ∙ cond-false (within_limits m.config) _ _ t))))

  -- a start of the definitions' lists
  abbrev start : Start
  start =
      record {
        config = m.config;
        version = m.version;
        most = m.most;
        host = is_yes m.host;
        device = m.device;
        state = m.state;
        rx = m.rx;
        store = m.store;
        within = makes-within;
        long = ltb-false (length m.state) state_len makes-long;
      }

  lends : lends_by m ≡ begins start
  unfolding make_in made
  lends = ap (λ (x : List ℕ). world_of x m.rx m.store) (m.makes.state-is ∙ ap (λ (x : Made). x.state) (cond-false (ltb (length m.state) state_len) _ _ makes-long))

  linked : (xs : List Step) → Runs (lends_by m) xs → Same (policy_by m) (begins start) xs
  linked xs r = subst (λ (v : World). Same (policy_by m) v xs) lends (same (policy_by m) (lends_by m) xs r)

  left_at : (xs : List Step) (r : Runs (lends_by m) xs) → leaves (lends_by m) xs ≡ after_all (begins start) (linked xs r).calls
  left_at xs r = ap (λ (v : World). leaves v xs) lends ∙ (linked xs r).world

-- ---- the theorems

-- what is claimed of the definitions' list is claimed of the linked one
claims : (m : Making) (xs : List Step) (r : Runs (lends_by m) xs) → Apart (begins (start m)) (linked m xs r).calls → Claims (policy_by m) (leaves (lends_by m) xs) (events xs)
claims m xs r apart =
    let s = linked m xs r in
    let p = policy_by m in
    let g = demand-3 (start m) s.calls apart in
    let e = left_at m xs r in
    let at : Claims p (leaves (lends_by m) xs) (events_of (begins (start m)) s.calls) = subst (λ (v : World). Claims p v (events_of (begins (start m)) s.calls)) (sym e) g in
    record {
      places = λ i. subst (λ (y : Ledger). Place p (place_slot (leaves (lends_by m) xs) i) (run_of (leaves (lends_by m) xs).rx p.rx_cap i (place_slot (leaves (lends_by m) xs) i)) (book_at y i)) (sym (s.ledger clean)) (at.places i);
      calls = s.told clean g.calls;
    }

pub linked-demand-3 : LinkedDemand3
linked-demand-3 m xs r apart = claims m xs r ((linked m xs r).apart apart)

pub linked-free : LinkedFree
linked-free m xs r few = let s = linked m xs r in claims m xs r (numbers_apart (start m) s.calls (subst (λ (k : ℕ). k < 2 ^ 32) s.given few))

-- no call answers 13: a step leaves a state that holds
module _ (n : Negotiated) (q : List ℕ) (rx store : ℕ) where
  holds-left : (w : World) (x : Step) → Holds n q rx store w → Went w x → Holds n q rx store (left_in x)
  holds-left w x h (short e z) = subst (Holds n q rx store) (sym e) h
  holds-left w x h (went e f) = subst (Holds n q rx store) (sym e) (holds_after n q rx store w h x.call)

  not-13 : (w : World) (x : Step) → Holds n q rx store w → Went w x → x.number ≡ 13 → ⊥
  unfolding held_in held_of
  not-13 w x h (short e z) k = omega arith
  not-13 w x h (went e f) k = (holds_kept n q rx store w h x.call).answer (sym (ap (λ (y : Event). y.held.number) f) ∙ k)

  none-13 : (w : World) → Holds n q rx store w → (xs : List Step) → Runs w xs → None13 xs
  none-13 w h [] r = tt
  none-13 w h (x ∷ xs) r = let g = ran-went w x r.0 in (not-13 w x h g, none-13 (left_in x) (holds-left w x h g) xs r.1)

pub linked-never-13 : LinkedNever13
linked-never-13 m xs r =
    let s = start m in (
      subst (Unbroken _ m.state m.rx m.store) (sym (left_at m xs r)) (never-13 s (linked m xs r).calls),
      none-13 _ (drop state_len m.state) (length m.rx) (length m.store) (lends_by m) (subst (Holds _ (drop state_len m.state) (length m.rx) (length m.store)) (sym (lends m)) (starts s)) xs r,
    )

pub linked-queue : LinkedQueue
linked-queue m fit xs r = subst (Queues m.config.channels) (sym (left_at m xs r)) ((queue-is-rusts (start m) fit).1 (linked m xs r).calls)

pub linked-no-leak : LinkedNoLeak
linked-no-leak m xs r apart d i only =
    let s = linked m xs r in
    subst (λ (y : Ledger). EvenAt (book_at y i)) (sym (s.ledger clean)) (no-leak (start m) s.calls (s.apart apart) d i (s.only i only))

pub linked-floor : LinkedFloor
linked-floor m xs r i =
    subst (λ (v : World). neg_ℤ (pos (longest (agreed_by m))) <ℤ (place_slot v i).send_budget) (sym (left_at m xs r)) (floor (start m) (linked m xs r).calls i)
