-- A call at a device's end that answers 11 is in the owner's books. Assumes nothing.
use Rattle.std.proofs.Common.{◌≡◌, refl, sym, ap, subst, ◌∙◌, true, List, [], ◌∷◌, ◌++◌, ℕ, length, Option, Some, None, arith}
use Rattle.le.proofs.Parts.{by-test}
use Rattle.config.specs.declared.negotiated.RxPolicy.{RxPolicy}
use Rattle.slot.proofs.Laws.{cond-true, cond-false}
use Rattle.connection.specs.declared.Answer.{Answer}
use Rattle.connection.specs.declared.Answer.TheVariants.{Done, Waiting, Nothing, Opened, Settled, Read, Written, Front, Numbers, Refused}
use Rattle.connection.specs.Answer.{answer_number}
use Rattle.connection.specs.Calls.{Lent, Outcome, verdict_step}
use Rattle.call.specs.Promise.{lent_of}
use Rattle.history.specs.Run.{Call, World, outcome, after_all}
use Rattle.history.specs.Seen.{Event, held_of, seen_of, events_of}
use Rattle.history.specs.Book.{Ledger, clean, entry, ledger_of}
use Rattle.history.specs.Demand3.{AllTold}
use Rattle.slot.specs.declared.ids.RemoteId.{RemoteId}
use Rattle.device_meets.specs.declared.Met.{Met}
use Rattle.device_meets.specs.declared.Verdict.{Verdict}
use Rattle.device_meets.specs.declared.Verdict.TheVariants.{Ignore, Refuse, Take}
use Rattle.device.specs.Device.{head_of, inner_of, is_waiting, taken_as, judged, Gives, given, and_judged, behind, called, unchanged}
use Rattle.device_history.specs.Run.{DeviceCall, DeviceWorld, connection, gives, leaves, leaves_all, device_begins}
use Rattle.device.specs.Answer.{device_number}
use Rattle.device_history.specs.Trace.{begins_at, policy_at, Part, goes, stays, anew, part_of, verdict_calls, behind_calls, calls_of, Story, joined, told_on, first_made, story}
use Rattle.device_history.specs.Owner.{Broke, OwnersNever11}
use Rattle.device_history.proofs.Parts.{Handled, done, waits, Does, does}
use Rattle.device_history.proofs.Follows.{Keeps, keeps}
use Rattle.device_history.proofs.BookLaws.{ledger-append, events-append}
use Rattle.device_history.proofs.Exact.{device-exact}
use Rattle.device_history.proofs.Owner.{owners-books}

-- ---- which calls answer 11

handled-not : (a : Answer) → Handled a → answer_number a ≡ 11 → ⊥
unfolding answer_number
handled-not a done e = omega arith
handled-not a waits e = omega arith

taken-not : (handled : Answer) → Handled handled → (remote : RemoteId) (place : ℕ) (a : Answer) → device_number (taken_as handled remote place a) ≡ 11 → ⊥
unfolding taken_as device_number
taken-not handled k remote place Done = handled-not handled k
taken-not handled k remote place Waiting = handled-not handled k
taken-not handled k remote place Nothing = handled-not handled k
taken-not handled k remote place (Opened ch) = λ e. omega arith
taken-not handled k remote place (Settled a) = handled-not handled k
taken-not handled k remote place (Read n) = handled-not handled k
taken-not handled k remote place (Written n) = handled-not handled k
taken-not handled k remote place (Front r c p n) = handled-not handled k
taken-not handled k remote place (Numbers t total buffered unacked budget) = handled-not handled k
taken-not handled k remote place (Refused r) = handled-not handled k

judged-not : (l : Lent) (handled : Answer) → Handled handled → (d : Verdict) → device_number (judged l handled d).answer ≡ 11 → ⊥
unfolding judged device_number
judged-not l handled k Ignore = handled-not handled k
judged-not l handled k (Refuse remote) = handled-not handled k
judged-not l handled k (Take remote credit place) = taken-not handled k remote place (verdict_step l true remote credit).answer

-- one of the host's does, and no verdict is behind it
record Eleven (o : Outcome) (m : Option Met) : Type 0 where
  number : answer_number o.answer ≡ 11
  alone : behind_calls o.answer m ≡ []

called-eleven : (head b : List ℕ) (handled : Answer) → Handled handled → (o : Outcome) (m : Option Met) → device_number (called head b handled o m).answer ≡ 11 → Eleven o m
unfolding called behind given and_judged device_number behind_calls
called-eleven head b handled k o None e = record { number = e; alone = refl }
called-eleven head b handled k o (Some m) e =
    let t = is_waiting o.answer in
    let f = given head b o in
    let j = and_judged f m.used (judged (lent_of f.inner f.rx f.store) handled m.verdict) in
    by-test t
    (λ u. absurd (judged-not (lent_of f.inner f.rx f.store) handled k m.verdict (sym (ap (λ (z : Gives). device_number z.answer) (cond-true t j f u)) ∙ e)))
    (λ u. record { number = sym (ap (λ (z : Gives). device_number z.answer) (cond-false t j f u)) ∙ e; alone = cond-false t (verdict_calls m.verdict) [] u })

-- ---- lists

told-append : (s : Story) (w : DeviceWorld) (xs : List DeviceCall) (x : DeviceCall)
    → told_on s w (xs ++ x ∷ []) ≡ joined (told_on s w xs) (connection (leaves_all w xs)) (part_of (leaves_all w xs) x)
unfolding told_on leaves_all
told-append s w [] x = refl
told-append s w (y ∷ xs) x = told-append (joined s (connection w) (part_of w y)) (leaves w y) xs x

-- what is claimed of the last call
last-told : (p : RxPolicy) (l : Ledger) (es fs : List Event) → AllTold p l (es ++ fs) → AllTold p (ledger_of p l es) fs
unfolding ledger_of
last-told p l [] fs a = a
last-told p l (e ∷ es) fs a = last-told p (entry p e.call (seen_of e) l) es fs a.1

-- the books of a story
abbrev booked : Story → Ledger
booked s = ledger_of (policy_at s.from) clean (events_of (begins_at s.from) s.calls)

module _ (rx store : ℕ) (s : Story) (w : DeviceWorld) (k : Keeps rx store s w) (x : DeviceCall) where
  part-broke : (g : Gives) (q : Part) → Does w k.fine g q → device_number g.answer ≡ 11
      → AllTold (policy_at (joined s (connection w) q).from) clean (events_of (begins_at (joined s (connection w) q).from) (joined s (connection w) q).calls)
      → Broke (policy_at (joined s (connection w) q).from) (booked (joined s (connection w) q))
  unfolding joined events_of ledger_of held_of device_number unchanged answer_number
  part-broke g (goes c m) d e a =
      let p = policy_at s.from in
      let v = connection w in
      let z = called-eleven (head_of w.state) (inner_of w.state) d.handled d.kind (outcome v c) m (sym (ap (λ (y : Gives). device_number y.answer) d.is) ∙ e) in
      let u = after_all (begins_at s.from) s.calls in
      let es = events_of (begins_at s.from) s.calls in
      let one : Event = record { call = c; held = held_of v c } in
      let split : events_of (begins_at s.from) (s.calls ++ calls_of v c m) ≡ es ++ one ∷ [] =
      ap (λ (cs : List Call). events_of (begins_at s.from) (s.calls ++ c ∷ cs)) z.alone
      ∙ events-append (begins_at s.from) s.calls (c ∷ [])
      ∙ ap (λ (y : World). es ++ events_of y (c ∷ [])) (sym k.same) in
      let t = last-told p clean es (one ∷ []) (subst (AllTold p clean) split a) in
      let n = t.0.noted z.number in
      subst (Broke p) (sym (ap (ledger_of p clean) split ∙ ledger-append p clean es (one ∷ []))) (record { place = n.place; over = n.over; rule = n.broke })
  part-broke g stays d e a = let z : ◌≡◌ {A = ℕ} 9 11 = sym (ap (λ (y : Gives). device_number y.answer) d) ∙ e in absurd (omega arith)
  part-broke g (anew j) d e a = let n = d.number in absurd (omega arith)

pub owners-never-11 : OwnersNever11
owners-never-11 d xs x apart e =
    let s = story d xs in
    let w = leaves_all (device_begins d) xs in
    let k = keeps d xs in
    let all = xs ++ x ∷ [] in
    let t : story d all ≡ joined s (connection w) (part_of w x) = told-append (record { from = first_made d; calls = [] }) (device_begins d) xs x in
    let a = (device-exact d all apart).calls in
    let z = part-broke (length d.rx) (length d.store) s w k x (gives w x) (part_of w x) (does w k.fine x) e
    (subst (λ (y : Story). AllTold (policy_at y.from) clean (events_of (begins_at y.from) y.calls)) t a) in
    subst (Broke (policy_at (story d all).from)) (sym (owners-books d all apart))
    (subst (λ (y : Story). Broke (policy_at y.from) (booked y)) (sym t) z)
