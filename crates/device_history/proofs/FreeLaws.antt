-- How many local numbers a device's end gives out: one for each OPEN that it takes. Assumes nothing.
use Rattle.std.proofs.Common.{◌≡◌, refl, sym, ap, subst, ◌∙◌, true, false, cond, List, [], ◌∷◌, ◌++◌, ℕ, ◌+◌, ◌≤◌, ◌<◌, ◌^◌, eqb, replicate, length, drop, Option, Some, None, arith}
use native.Mathlib.Nat.{zero-add}
use Rattle.le.proofs.Parts.{by-test}
use Rattle.config.specs.declared.negotiated.Negotiated.{Negotiated}
use Rattle.config.specs.Config.{stores_fit}
use Rattle.slot.specs.declared.ids.RemoteId.{RemoteId}
use Rattle.slot.proofs.Kept.{pick}
use Rattle.slot.proofs.Laws.{cond-true, cond-false}
use Rattle.state.specs.State.{state_len}
use Rattle.connection.specs.declared.Answer.{Answer}
use Rattle.connection.specs.Answer.{answer_number}
use Rattle.connection.specs.Calls.{Outcome, verdict_step}
use Rattle.call.specs.Promise.{lent_of, agreed_in}
use Rattle.history.specs.Run.{Call, verdict_call, World, lent, bytes_in, outcome, after, after_all}
use Rattle.history.specs.Seen.{Seen, Event, held_of, seen_of, events_of}
use Rattle.history.specs.Numbers.{given_by, given_in}
use Rattle.history.proofs.Given.{numbers_apart}
use Rattle.history.proofs.Never13.{Holds, holds_after}
use Rattle.history.proofs.Written.{seen-is}
use Rattle.device_meets.specs.declared.Met.{Met}
use Rattle.device_meets.specs.declared.Verdict.{Verdict}
use Rattle.device_meets.specs.declared.Verdict.TheVariants.{Ignore, Refuse, Take}
use Rattle.device.specs.declared.DeviceAnswer.{DeviceAnswer}
use Rattle.device.specs.Device.{is_connected, head_of, inner_of, is_waiting, taken_as, judged, Gives, given, and_judged, shown, behind, called}
use Rattle.protocol.specs.Packet.{decode_of}
use Rattle.device.specs.Answer.{device_number}
use Rattle.device_history.specs.Run.{DeviceCall, device_dispatches, device_reads, device_writes, device_settles, device_takes, device_closes, DeviceWorld, connection, gives, leaves, device_begins}
use Rattle.device_history.specs.Trace.{begins_at, Part, goes, stays, anew, header_in, met_by_call, part_of, verdict_calls, behind_calls, calls_of, Story, joined, told_on, first_made, story}
use Rattle.device_history.specs.Owner.{host_call, device_seen, device_events, taken_in, OwnersExactFree}
use Rattle.device_history.proofs.Fits.{VerdictFits, MetFits}
use Rattle.device_history.proofs.Parts.{WaitsFit, Does, does}
use Rattle.device_history.proofs.Follows.{verdict-outcome, fit-after, start_of, agreed_at, Keeps, keeps-holds, part-keeps, keeps-first, keeps}
use Rattle.device_history.proofs.BookLaws.{events-append}
use Rattle.device_history.proofs.SeenLaws.{Taking, full, took, takes-or}
use Rattle.device_history.proofs.Owner.{EarlyOf, first-early, owners-exact}

-- ---- each call is one of the host's

record Hosts (x : DeviceCall) (c : Call) : Type 0 where
  handed : List ℕ
  is : c ≡ host_call x handed

abbrev HostsOf : DeviceCall → Part → Type 0
HostsOf x (goes c m) = Hosts x c
HostsOf x stays = Unit {0}
HostsOf x (anew j) = Unit {0}

early-hosts : (x : DeviceCall) (q : Part) → EarlyOf x q → HostsOf x q
early-hosts x (goes c m) e = record { handed = e.handed; is = e.is }
early-hosts x stays e = tt
early-hosts x (anew j) e = tt

hosts : (w : DeviceWorld) (x : DeviceCall) → HostsOf x (part_of w x)
unfolding part_of host_call
hosts w (device_dispatches out names received) =
    pick (HostsOf (device_dispatches out names received)) (is_connected w.state) (λ u. record { handed = shown received (met_by_call w names received); is = refl })
    (λ u. early-hosts (device_dispatches out names received) _ (first-early w out names received (decode_of (bytes_in received) (header_in w).negotiated.config.max_payload)))
hosts w (device_reads out names ch buf received) = record { handed = shown received (met_by_call w names received); is = refl }
hosts w (device_writes out names ch bytes received) = record { handed = shown received (met_by_call w names received); is = refl }
hosts w (device_settles out ch want) = record { handed = []; is = refl }
hosts w (device_takes ch buf) = record { handed = []; is = refl }
hosts w (device_closes out ch) = record { handed = []; is = refl }

-- ---- numbers given out

hosts-none : (x : DeviceCall) (r : List ℕ) (o : Seen) → given_by (host_call x r) o ≡ 0
unfolding given_by host_call
hosts-none (device_dispatches out names received) r o = refl
hosts-none (device_reads out names ch buf received) r o = refl
hosts-none (device_writes out names ch bytes received) r o = refl
hosts-none (device_settles out ch want) r o = refl
hosts-none (device_takes ch buf) r o = refl
hosts-none (device_closes out ch) r o = refl

-- a verdict that takes gives one out where it is done
taken-given : (out : List ℕ) (remote : RemoteId) (credit : ℕ) (u : Seen) (k : ℕ) → u.number ≡ k → given_by (verdict_call out true remote credit) u ≡ cond (eqb k 0) 1 0
unfolding given_by
taken-given out remote credit u k e = ap (λ (m : ℕ). cond (eqb m 0) 1 0) e

-- a number is 103
abbrev pub is_taken : DeviceAnswer → ℕ
is_taken a = cond (eqb (device_number a) 103) 1 0

module _ (n : Negotiated) (r : List ℕ) (rx store : ℕ) (v : World) (h : Holds n r rx store v) (x : DeviceCall) (hand : List ℕ) where
  abbrev c : Call
  c = host_call x hand

  abbrev v' : World
  v' = after v (host_call x hand)

  abbrev event : World → Call → Event
  event u k = record { call = k; held = held_of u k }

  first-given : (es : List Event) → given_in (event v c ∷ es) ≡ given_in es
  unfolding given_in
  first-given es = ap (λ (k : ℕ). k + given_in es) (hosts-none x hand (seen_of (event v c))) ∙ zero-add (given_in es)

  module _ (fit : stores_fit (agreed_in v.state).config (length v.rx) (length v.store) ≡ true) (remote : RemoteId) (credit place : ℕ) (small : remote.0 < 2 ^ 32) (few : credit < 2 ^ 32) where
    abbrev vc : Call
    vc = verdict_call (replicate 56 0) true remote credit

    number-is : (seen_of (event v' vc)).number ≡ answer_number (verdict_step (lent v') true remote credit).answer
    number-is =
        let k = holds_after n r rx store v h (host_call x hand) in
        ap (λ (u : Seen). u.number) (seen-is n r rx store v' k vc)
        ∙ ap (λ (o : Outcome). answer_number o.answer) (verdict-outcome n r rx store v' k (fit-after n r rx store v h (host_call x hand) fit) true remote credit small few)

    take-given : (handled : Answer) → Taking (verdict_step (lent v') true remote credit)
        → given_in (event v' vc ∷ []) ≤ is_taken (taken_as handled remote place (verdict_step (lent v') true remote credit).answer)
    unfolding given_in answer_number taken_as device_number
    take-given handled (full k) =
        let e : (seen_of (event v' vc)).number ≡ 12 = number-is ∙ ap answer_number k.answer in
        let z : given_by vc (seen_of (event v' vc)) ≡ 0 = taken-given (replicate 56 0) remote credit (seen_of (event v' vc)) 12 e in
        omega arith
    take-given handled (took ch k) =
        let e : (seen_of (event v' vc)).number ≡ 0 = number-is ∙ ap answer_number k.answer in
        let z : given_by vc (seen_of (event v' vc)) ≡ 1 = taken-given (replicate 56 0) remote credit (seen_of (event v' vc)) 0 e in
        let a : is_taken (taken_as handled remote place (verdict_step (lent v') true remote credit).answer) ≡ 1 = ap (λ (y : Answer). is_taken (taken_as handled remote place y)) k.answer in
        omega arith

  judged-given : stores_fit (agreed_in v.state).config (length v.rx) (length v.store) ≡ true → (handled : Answer) (d : Verdict) → VerdictFits d
      → given_in (events_of v (c ∷ verdict_calls d)) ≤ is_taken (judged (lent v') handled d).answer
  unfolding events_of verdict_calls judged given_in given_by
  judged-given fit handled Ignore g = let e = first-given [] in omega arith
  judged-given fit handled (Refuse remote) g = let e = first-given (event v' (verdict_call (replicate 56 0) false remote 0) ∷ []) in omega arith
  judged-given fit handled (Take remote credit place) g =
      let e = first-given (event v' (verdict_call (replicate 56 0) true remote credit) ∷ []) in
      let t = take-given fit remote credit place g.0 g.1 handled (takes-or (lent v') remote credit) in
      omega arith

  called-given : (head : List ℕ) (handled : Answer) (m : Option Met) → MetFits m → WaitsFit v m (outcome v c).answer
      → given_in (events_of v (calls_of v c m)) ≤ is_taken (called head v.state handled (outcome v c) m).answer
  unfolding called behind given and_judged behind_calls events_of after given_in
  called-given head handled None g q = let e = first-given [] in omega arith
  called-given head handled (Some m) g q =
      let o = outcome v c in
      let t = is_waiting o.answer in
      let f = given head v.state o in
      let j = and_judged f m.used (judged (lent_of f.inner f.rx f.store) handled m.verdict) in
      by-test t
      (λ u. let a = ap (λ (z : Gives). is_taken z.answer) (cond-true t j f u) in
      let b = ap (λ (cs : List Call). given_in (events_of v (c ∷ cs))) (cond-true t (verdict_calls m.verdict) [] u) in
      let k = judged-given (q u) handled m.verdict g in
      omega arith)
      (λ u. let b = ap (λ (cs : List Call). given_in (events_of v (c ∷ cs))) (cond-false t (verdict_calls m.verdict) [] u) in
      let e = first-given [] in
      omega arith)

-- ---- a list of calls

pub given-append : (es fs : List Event) → given_in (es ++ fs) ≡ given_in es + given_in fs
unfolding given_in
given-append [] fs = omega arith
given-append (e ∷ es) fs = let i = given-append es fs in omega arith

abbrev pub given_so : Story → ℕ
given_so s = given_in (events_of (begins_at s.from) s.calls)

module _ (rx store : ℕ) where
  part-given : (s : Story) (w : DeviceWorld) (k : Keeps rx store s w) (x : DeviceCall) (g : Gives) (q : Part) → Does w k.fine g q → HostsOf x q
      → given_so (joined s (connection w) q) ≤ given_so s + is_taken g.answer
  unfolding joined events_of given_in
  part-given s w k x g (goes c m) d i =
      let v = connection w in
      let n = agreed_at s.from in
      let h = keeps-holds rx store s w k in
      let cs = calls_of v c m in
      let a : given_so (record { from = s.from; calls = s.calls ++ cs }) ≡ given_so s + given_in (events_of (after_all (begins_at s.from) s.calls) cs) =
      ap given_in (events-append (begins_at s.from) s.calls cs) ∙ given-append (events_of (begins_at s.from) s.calls) (events_of (after_all (begins_at s.from) s.calls) cs) in
      let b : given_in (events_of (after_all (begins_at s.from) s.calls) cs) ≡ given_in (events_of v cs) = ap (λ (u : World). given_in (events_of u cs)) (sym k.same) in
      let P : Call → Type 0 = λ z. WaitsFit v m (outcome v z).answer → given_in (events_of v (calls_of v z m)) ≤ is_taken (called (head_of w.state) (inner_of w.state) d.handled (outcome v z) m).answer in
      let e = subst P (sym i.is) (called-given n (drop state_len s.from.state) (length s.from.rx) (length s.from.store) v h x i.handed (head_of w.state) d.handled m d.fits) d.waits in
      let f : is_taken (called (head_of w.state) (inner_of w.state) d.handled (outcome v c) m).answer ≡ is_taken g.answer = ap (λ (z : Gives). is_taken z.answer) (sym d.is) in
      omega arith
  part-given s w k x g stays d i = omega arith
  part-given s w k x g (anew j) d i = omega arith

  -- a call more
  pub one-given : (s : Story) (w : DeviceWorld) → Keeps rx store s w → (x : DeviceCall) → given_so (joined s (connection w) (part_of w x)) ≤ given_so s + is_taken (gives w x).answer
  one-given s w k x = part-given s w k x (gives w x) (part_of w x) (does w k.fine x) (hosts w x)

  pub list-given : (s : Story) (w : DeviceWorld) → Keeps rx store s w → (xs : List DeviceCall) → given_so (told_on s w xs) ≤ given_so s + taken_in (device_events w xs)
  unfolding told_on device_events taken_in device_seen
  list-given s w k [] = omega arith
  list-given s w k (x ∷ xs) =
      let d = does w k.fine x in
      let a = part-given s w k x (gives w x) (part_of w x) d (hosts w x) in
      let b = list-given (joined s (connection w) (part_of w x)) (leaves w x) (part-keeps rx store s w k (gives w x) (part_of w x) d) xs in
      omega arith

pub owners-exact-free : OwnersExactFree
unfolding events_of given_in
owners-exact-free d xs few i =
    let s = story d xs in
    let k = keeps d xs in
    let g = list-given (length d.rx) (length d.store) (record { from = first_made d; calls = [] }) (device_begins d) (keeps-first d) xs in
    owners-exact d xs (numbers_apart (start_of s.from k.within k.long) s.calls (omega arith)) i
