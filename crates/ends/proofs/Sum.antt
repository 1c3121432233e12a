-- Credit between two ends adds up; every byte is handed over, buffered or on the line; our end never answers 11. Assumes nothing.
use mathlib.Core.Path.{◌≡◌, refl, sym, ap, ap₂, subst, ◌∙◌}
use mathlib.Core.Bool.{true, false, true≢false}
use mathlib.Core.List.{List, [], ◌∷◌, ◌++◌, append_assoc}
use Prim.Native.Nat.{ℕ, suc, ◌+◌, ◌-◌, ◌^◌, ◌<◌}
use native.Mathlib.Omega.{arith}
use lib.Dec.{ltb}
use lib.IntN.{ℤ, pos, negsuc, ◌+ℤ◌, ◌-ℤ◌}
use lib.ListN.{length}
use borrow.Author.Tests.{ltb-true, ltb-false}
use Rattle.le.proofs.Parts.{by-test}
use Rattle.slot.proofs.Kept.{pick}
use Rattle.config.specs.Config.{stores_fit}
use Rattle.config.specs.Negotiated.{policy_of, offered_credit}
use Rattle.slot.specs.declared.ChannelSlot.{ChannelSlot}
use Rattle.slot.specs.Slot.{is_closed}
use Rattle.state.specs.State.{is_ours, state_of, Connection}
use Rattle.connection.specs.Answer.{answer_number}
use Rattle.connection.specs.Calls.{fresh}
use Rattle.connection.specs.Frames.{Sent}
use Rattle.history.specs.Run.{Call, World, lent, outcome, after_all, Start, begins, agreed_in}
use Rattle.history.specs.Seen.{events_of, held_of}
use Rattle.history.specs.Book.{Book, Ledger, clean, book_at, ledger_of}
use Rattle.history.specs.Credits.{Credit}
use Rattle.history.specs.Demand3.{place_slot, run_of}
use Rattle.history.specs.Numbers.{given_by, given_in}
use Rattle.config.specs.declared.negotiated.Negotiated.{Negotiated}
use Rattle.device_history.specs.Trace.{Story}
use Rattle.device_history.specs.Owner.{device_events, taken_in}
use Rattle.device_history.proofs.BookLaws.{events-append}
use Rattle.device_history.proofs.FreeLaws.{given-append}
use Rattle.history.proofs.Budgets.{diff-pos, diff-neg}
use Rattle.history.proofs.Good.{Good}
use Rattle.history.proofs.Never13.{never-13, always-8}
use Rattle.history.proofs.Theorem.{fresh_start, no_slot, terms}
use Rattle.device_history.specs.Run.{DeviceCall, connection, device_begins}
use Rattle.ends_lines.specs.Lines.{frames_on}
use Rattle.ends_lines.proofs.Carried.{carried-reads}
use Rattle.ends.specs.Ends.{Ends, EndsStart, both, Turn, ours, theirs, our_call, their_call, turned, turned_all, our_calls, their_calls, all_up, HostCall, HostCalls}
use Rattle.ends.specs.Credit.{data_of, amounts_of, AtUs, pends, stands, AtDevice, BothDelayed, Few, opening, Adds, AddsUp, EndsNever11, EachByte, EachByteWaits}
use Rattle.ends.proofs.Amounts.{paid, due, paid-data, due-amounts}
use Rattle.ends.proofs.Joint.{Pair, up-both, down-both, stands-sum, waits-sum}
use Rattle.ends.proofs.Live.{agreed-of, seen-by, next-books, live-step, book-good}
use Rattle.ends.proofs.Host.{waits-in, own-in}
use Rattle.ends.proofs.State.{State, turn-ours}
use Rattle.ends.proofs.Theirs.{one-event}
use Rattle.ends.proofs.Run.{Ran, ends-run}

-- ---- whole numbers

-- a less s and c more is d
sum-is : (a s c d : ℕ) → a + c ≡ s + d → (pos a -ℤ pos s) +ℤ pos c ≡ pos d
sum-is a s c d e =
    by-test (ltb a s)
    (λ t. let h = ltb-true a s t in
    ap (λ (z : ℤ). z +ℤ pos c) (diff-neg a s h) ∙ neg-more (s - suc a) c d (omega arith))
    (λ t. let h = ltb-false a s t in ap (λ (z : ℤ). z +ℤ pos c) (diff-pos a s (omega arith)) ∙ ap pos (omega arith))
  where
    neg-more : (k c d : ℕ) → c ≡ suc k + d → negsuc k +ℤ pos c ≡ pos d
    neg-more k c d e = pick (λ (y : ℤ). y ≡ pos d) (ltb c (suc k)) (λ t. let z = ltb-true c (suc k) t in absurd (omega arith)) (λ t. ap pos (omega arith))

-- ---- a state

module _ (o : ℕ) (e : Ends) (books : Ledger) (given : ℕ) (w : List Sent) (drx dstore : ℕ) (st : Story) (s : State o e books given w drx dstore st) (l : ℕ) where
  -- the channel's frames by one number are those by both
  module _ (r : ℕ) (p : Pair s.mates l r) where
    up-is : data_of l r (frames_on e.up) ≡ paid l s.on-up
    up-is = ap (data_of l r) (carried-reads e.up s.on-up s.up) ∙ sym (paid-data l r s.on-up (up-both s.mates l r p s.on-up s.joint.on-up))

    wrote-is : data_of l r w ≡ paid l w
    wrote-is = sym (paid-data l r w (up-both s.mates l r p w s.joint.wrote-up))

    down-is : amounts_of l r (frames_on e.down) ≡ due r s.on-down
    down-is = ap (amounts_of l r) (carried-reads e.down s.on-down s.down) ∙ sym (due-amounts l r s.on-down (down-both s.mates l r p o s.on-down s.joint.on-down))

  -- the device's channel
  module _ (r : ℕ) (d : AtDevice (connection e.device) l r) where
    abbrev j : ℕ
    j = d.place

    abbrev slot : ChannelSlot
    slot = place_slot (connection e.device) d.place

    abbrev k : Credit
    k = s.credits d.place

    abbrev b : Book
    b = book_at s.its d.place

    gd : Good (policy_of (agreed-of (connection e.device))) (terms false (agreed-of (connection e.device))) slot
        (run_of (connection e.device).rx (policy_of (agreed-of (connection e.device))).rx_cap d.place slot) b
    gd = book-good s.xr s.xrx s.xstore s.xb _ (connection e.device) s.its s.device j d.filled

    live-there : b.closed ≡ false
    live-there = gd.ends ∙ d.live

    on : b.remote ≡ l
    on = gd.rem ∙ d.ours

    its-own : b.local ≡ r
    its-own = gd.loc ∙ d.own

    pair : Pair s.mates l r
    pair = subst (λ (x : ℕ). Pair s.mates x r) on (subst (λ (x : ℕ). Pair s.mates b.remote x) its-own (s.joint.its j gd.there))

    its-opening : k.opening ≡ o
    its-opening = (s.joint.told j gd.there).1

    -- with n unacknowledged bytes
    adds-by : (n : ℕ) → k.opening + k.added + (length (paid l s.on-up) + n + due r s.on-down) ≡ k.sent + o
        → slot.send_budget +ℤ pos (length (data_of l r (frames_on e.up)) + n + amounts_of l r (frames_on e.down)) ≡ pos o
    adds-by n q =
        ap₂ (λ (x : ℤ) (y : ℕ). x +ℤ pos y) (s.sound j gd.there live-there (s.joint.told j gd.there).0).0 (ap₂ (λ (x y : ℕ). x + n + y) (ap length (up-is r pair)) (down-is r pair))
        ∙ sum-is (k.opening + k.added) k.sent (length (paid l s.on-up) + n + due r s.on-down) o q

    -- our open of it is pending
    adds-pending : waits-in e.host ≡ true → own-in e.host ≡ l
        → slot.send_budget +ℤ pos (length (data_of l r (frames_on e.up)) + 0 + amounts_of l r (frames_on e.down)) ≡ pos o
    adds-pending t at =
        let z = waits-sum o (book_at books) (waits-in e.host) (own-in e.host) s.host.given.k
        (book_at s.its) s.credits s.mates w s.sent-down s.on-up s.on-down s.joint j gd.there live-there t (at ∙ sym on) in
        let a : k.sent ≡ length (paid l s.on-up) = z.0 ∙ ap (λ (x : ℕ). length (paid x s.on-up)) on in
        let c : k.added + due r s.on-down ≡ 0 = ap (λ (x : ℕ). k.added + due x s.on-down) (sym its-own) ∙ z.1 in
        let q = its-opening in
        adds-by 0 (omega arith)

    -- it is in our table and open
    adds-open : (i : ℕ) → (place_slot e.host i).filled ≡ true → is_closed (place_slot e.host i).state ≡ false → (place_slot e.host i).local.0 ≡ l
        → slot.send_budget +ℤ pos (length (data_of l r (frames_on e.up)) + (place_slot e.host i).unacked + amounts_of l r (frames_on e.down)) ≡ pos o
    adds-open i f c at =
        let gh = book-good s.hr s.hrx s.hstore s.hb given e.host books s.host i f in
        let on-l : (book_at books i).local ≡ b.remote = gh.loc ∙ at ∙ sym on in
        let z = stands-sum o (book_at books) (waits-in e.host) (own-in e.host) s.host.given.k
        (book_at s.its) s.credits s.mates w s.sent-down s.on-up s.on-down s.joint j gd.there live-there i gh.there on-l in
        let a : k.sent ≡ length (book_at books i).accepted + length (paid l s.on-up) = z.0 ∙ ap (λ (x : ℕ). length (book_at books i).accepted + length (paid x s.on-up)) on in
        let q : (book_at books i).acked ≡ k.added + due r s.on-down = z.1 ∙ ap (λ (x : ℕ). k.added + due x s.on-down) its-own in
        let ev = s.even i gh.there (gh.ends ∙ c) in
        let op = its-opening in
        adds-by (place_slot e.host i).unacked (omega arith)

-- ---- stores under their lengths: our end does nothing

turned-host : (ts : List Turn) (e : Ends) → (turned_all e ts).host ≡ after_all e.host (our_calls e ts)
unfolding turned turned_all our_calls after_all
turned-host [] e = refl
turned-host (ours c n ∷ ts) e = turned-host ts (turned e (ours c n))
turned-host (theirs x n ∷ ts) e = turned-host ts (turned e (theirs x n))

module _ (s : EndsStart) (fit : stores_fit s.ours.config (length s.ours.rx) (length s.ours.store) ≡ false) (ts : List Turn) where
  stuck : (turned_all (both s) ts).host ≡ begins s.ours
  stuck = turned-host ts (both s) ∙ (always-8 s.ours fit (our_calls (both s) ts)).0

  stuck-slot : (i : ℕ) → (place_slot (turned_all (both s) ts).host i).filled ≡ true → ⊥
  stuck-slot i f = true≢false (sym f ∙ ap (λ (w : World). (place_slot w i).filled) stuck ∙ no_slot (agreed_in s.ours) (begins s.ours) (fresh_start s.ours) i)

  stuck-pending : is_ours (lent (turned_all (both s) ts).host).state.header.pending.what ≡ true → ⊥
  unfolding fresh
  stuck-pending t =
      true≢false (sym t ∙ ap (λ (w : World). is_ours (state_of w.state).header.pending.what) stuck ∙ ap (λ (c : Connection). is_ours c.header.pending.what) (fresh_start s.ours))

-- ---- the theorems

same-agreed : (s : Start) → agreed-of (begins s) ≡ agreed_in s
unfolding fresh
same-agreed s = ap (λ (c : Connection). c.header.negotiated) (fresh_start s)

-- what was negotiated stays at our end
agreed-end : (s : EndsStart) (ts : List Turn) → agreed-of (turned_all (both s) ts).host ≡ agreed_in s.ours
agreed-end s ts = ap agreed-of (turned-host ts (both s)) ∙ (never-13 s.ours (our_calls (both s) ts)).negotiated

-- our ledger
abbrev books-end : EndsStart → List Turn → Ledger
books-end s ts = ledger_of (policy_of (agreed-of (begins s.ours))) clean (events_of (begins s.ours) (our_calls (both s) ts))

-- the opening credit is one of 31 bits
opening-is : (s : EndsStart) → offered_credit (agreed_in s.ours) < 2 ^ 31 → opening s ≡ offered_credit (agreed_in s.ours)
opening-is s h = omega arith

pub adds-up : AddsUp
adds-up s ts h d few l r u at dv =
    by-test (stores_fit s.ours.config (length s.ours.rx) (length s.ours.store)) (λ fit. by-fit fit u at) (λ fit. absurd (never-at fit u at))
  where
    by-fit : stores_fit s.ours.config (length s.ours.rx) (length s.ours.store) ≡ true → (n : ℕ) → AtUs (turned_all (both s) ts).host l n
        → Adds s (turned_all (both s) ts) l r n (place_slot (connection (turned_all (both s) ts).device) dv.place)
    by-fit fit n (pends t q) =
        let rn = ends-run s fit d ts h few in
        adds-pending (offered_credit (agreed_in s.ours)) (turned_all (both s) ts) (books-end s ts) rn.given (frames_on (all_up (both s) ts))
        (length s.device.rx) (length s.device.store) rn.calls rn.state l r dv t q ∙ ap pos (sym (opening-is s rn.state.low))
    by-fit fit n (stands i f c q) =
        let rn = ends-run s fit d ts h few in
        adds-open (offered_credit (agreed_in s.ours)) (turned_all (both s) ts) (books-end s ts) rn.given (frames_on (all_up (both s) ts)) (length s.device.rx)
        (length s.device.store) rn.calls rn.state l r dv i f c q ∙ ap pos (sym (opening-is s rn.state.low))

    never-at : stores_fit s.ours.config (length s.ours.rx) (length s.ours.store) ≡ false → (n : ℕ) → AtUs (turned_all (both s) ts).host l n → ⊥
    never-at fit n (pends t q) = stuck-pending s fit ts t
    never-at fit n (stands i f c q) = stuck-slot s fit ts i f

-- ---- each byte

module _ (o : ℕ) (e : Ends) (books : Ledger) (given : ℕ) (w : List Sent) (drx dstore : ℕ) (st : Story) (s : State o e books given w drx dstore st) where
  -- the two numbers of a channel of ours belong together
  our-pair : (i : ℕ) → (place_slot e.host i).filled ≡ true → Pair s.mates (place_slot e.host i).local.0 (place_slot e.host i).remote.0
  our-pair i f =
      let gh = book-good s.hr s.hrx s.hstore s.hb given e.host books s.host i f in
      subst (λ (x : ℕ). Pair s.mates x (place_slot e.host i).remote.0) gh.loc (subst (λ (x : ℕ). Pair s.mates (book_at books i).local x) gh.rem (s.joint.ours i gh.there))

  bytes-by : (i : ℕ) → (place_slot e.host i).filled ≡ true
      → data_of (place_slot e.host i).local.0 (place_slot e.host i).remote.0 w
      ≡ (book_at books i).handed
      ++ (run_of e.host.rx (policy_of (agreed-of e.host)).rx_cap i (place_slot e.host i) ++ data_of (place_slot e.host i).local.0 (place_slot e.host i).remote.0 (frames_on e.up))
  bytes-by i f =
      let gh = book-good s.hr s.hrx s.hstore s.hb given e.host books s.host i f in
      let l = (place_slot e.host i).local.0 in
      let r = (place_slot e.host i).remote.0 in
      let p = our-pair i f in
      let q = run_of e.host.rx (policy_of (agreed-of e.host)).rx_cap i (place_slot e.host i) in
      let by : paid l w ≡ (book_at books i).accepted ++ paid l s.on-up = subst (λ (x : ℕ). paid x w ≡ (book_at books i).accepted ++ paid x s.on-up) gh.loc (s.joint.bytes i gh.there) in
      wrote-is o e books given w drx dstore st s l r p ∙ by ∙ ap (λ (z : List ℕ). z ++ paid l s.on-up) (sym gh.stream) ∙ append_assoc (book_at books i).handed q (paid l s.on-up)
      ∙ ap (λ (z : List ℕ). (book_at books i).handed ++ (q ++ z)) (sym (up-is o e books given w drx dstore st s l r p))

  waits-by : (l r : ℕ) → waits-in e.host ≡ true → own-in e.host ≡ l → AtDevice (connection e.device) l r → data_of l r w ≡ data_of l r (frames_on e.up)
  waits-by l r t at d =
      let p = pair o e books given w drx dstore st s l r d in
      wrote-is o e books given w drx dstore st s l r p ∙ subst (λ (x : ℕ). paid x w ≡ paid x s.on-up) at (s.joint.waiting t).0 ∙ sym (up-is o e books given w drx dstore st s l r p)

pub each-byte : EachByte
each-byte s ts h d few i f =
    by-test (stores_fit s.ours.config (length s.ours.rx) (length s.ours.store))
    (λ fit. let rn = ends-run s fit d ts h few in
    let a = bytes-by (offered_credit (agreed_in s.ours)) (turned_all (both s) ts) (books-end s ts) rn.given (frames_on (all_up (both s) ts))
    (length s.device.rx) (length s.device.store) rn.calls rn.state i f in
    subst (λ (m : Negotiated). Says m (agreed_in s.ours)) (same-agreed s.ours) (subst (λ (m : Negotiated). Says (agreed-of (begins s.ours)) m) (agreed-end s ts) a))
    (λ fit. absurd (stuck-slot s fit ts i f))
  where
    Says : Negotiated → Negotiated → Type 0
    Says m n =
        let e = turned_all (both s) ts in
        let t = place_slot e.host i in
        data_of t.local.0 t.remote.0 (frames_on (all_up (both s) ts))
        ≡ (book_at (ledger_of (policy_of m) clean (events_of (begins s.ours) (our_calls (both s) ts))) i).handed
        ++ (run_of e.host.rx (policy_of n).rx_cap i t ++ data_of t.local.0 t.remote.0 (frames_on e.up))

pub each-byte-waits : EachByteWaits
each-byte-waits s ts h d few r t dv =
    by-test (stores_fit s.ours.config (length s.ours.rx) (length s.ours.store))
    (λ fit. let rn = ends-run s fit d ts h few in
    waits-by (offered_credit (agreed_in s.ours)) (turned_all (both s) ts) (books-end s ts) rn.given (frames_on (all_up (both s) ts)) (length s.device.rx)
    (length s.device.store) rn.calls rn.state _ r t refl dv)
    (λ fit. absurd (stuck-pending s fit ts t))

-- ---- refusal 11

ours-last : (ts : List Turn) (e : Ends) (c : Call) (n : ℕ) → our_calls e (ts ++ ours c n ∷ []) ≡ our_calls e ts ++ our_call (turned_all e ts) c n ∷ []
unfolding our_calls turned_all
ours-last [] e c n = refl
ours-last (ours x k ∷ ts) e c n = ap (λ (z : List Call). our_call e x k ∷ z) (ours-last ts (turned e (ours x k)) c n)
ours-last (theirs x k ∷ ts) e c n = ours-last ts (turned e (theirs x k)) c n

theirs-last : (ts : List Turn) (e : Ends) (c : Call) (n : ℕ) → their_calls e (ts ++ ours c n ∷ []) ≡ their_calls e ts
unfolding their_calls
theirs-last [] e c n = refl
theirs-last (ours x k ∷ ts) e c n = theirs-last ts (turned e (ours x k)) c n
theirs-last (theirs x k ∷ ts) e c n = ap (λ (z : List DeviceCall). their_call e x k ∷ z) (theirs-last ts (turned e (theirs x k)) c n)

module _ (s : EndsStart) (ts : List Turn) (c : Call) (n : ℕ) (few : Few s (ts ++ ours c n ∷ [])) where
  abbrev last : Call
  last = our_call (turned_all (both s) ts) c n

  last-count : given_in (events_of (begins s.ours) (our_calls (both s) (ts ++ ours c n ∷ [])))
      ≡ given_in (events_of (begins s.ours) (our_calls (both s) ts)) + given_by last (seen-by (turned_all (both s) ts).host last)
  last-count =
      let cs = our_calls (both s) ts in
      ap (λ (z : List Call). given_in (events_of (begins s.ours) z)) (ours-last ts (both s) c n)
      ∙ ap given_in (events-append (begins s.ours) cs (last ∷ [])) ∙ given-append (events_of (begins s.ours) cs) (events_of (after_all (begins s.ours) cs) (last ∷ []))
      ∙ ap (λ (z : World). given_in (events_of (begins s.ours) cs) + given_in (events_of z (last ∷ []))) (sym (turned-host ts (both s)))
      ∙ ap (λ (z : ℕ). given_in (events_of (begins s.ours) cs) + z) (one-event (turned_all (both s) ts).host last)

  few-before : Few s ts
  few-before =
      let a = few.ours in
      let z = last-count in
      record {
        ours = omega arith;
        device = subst (λ (xs : List DeviceCall). taken_in (device_events (device_begins s.device) (s.early ++ s.first ∷ xs)) < 2 ^ 32) (theirs-last ts (both s) c n) few.device;
      }

  module _ (fit : stores_fit s.ours.config (length s.ours.rx) (length s.ours.store) ≡ true) (h : HostCalls ts) (hc : HostCall c) (d : BothDelayed s) where
    abbrev e : Ends
    e = turned_all (both s) ts

    abbrev books : Ledger
    books = books-end s ts

    abbrev later : Ledger
    later = next-books e.host books last

    abbrev rn : Ran (offered_credit (agreed_in s.ours)) (both s) ts clean 0 [] (length s.device.rx) (length s.device.store)
    rn = ends-run s fit d ts h few-before

    small : rn.given + given_by last (seen-by e.host last) < 2 ^ 32
    small = let a = few.ours in let z = last-count in let q = rn.counted in omega arith

    -- the rule was kept of each channel that is there after the call
    kept-after : (j : ℕ) → (book_at later j).there ≡ true → (book_at later j).kept ≡ true
    kept-after j t =
        let st = turn-ours (offered_credit (agreed_in s.ours)) e books rn.given (frames_on (all_up (both s) ts)) (length s.device.rx) (length s.device.store) rn.calls rn.state c n hc small in
        (st.joint.kept j t).0

    not-eleven : answer_number (outcome e.host last).answer ≡ 11 → ⊥
    unfolding held_of
    not-eleven q =
        let live = rn.state.host in
        let nt = (live-step rn.state.hr rn.state.hrx rn.state.hstore rn.state.hb rn.given e.host books live last).told.noted q in
        true≢false (sym (kept-after nt.place nt.stays) ∙ nt.broke live.delayed)

pub ends-never-11 : EndsNever11
ends-never-11 s ts c n h hc d few q =
    by-test (stores_fit s.ours.config (length s.ours.rx) (length s.ours.store)) (λ fit. not-eleven s ts c n few fit h hc d q)
    (λ fit. let x = our_call (turned_all (both s) ts) c n in
    let a = (always-8 s.ours fit (our_calls (both s) ts)).1 x in
    let b : answer_number (outcome (turned_all (both s) ts).host x).answer ≡ 8 = ap (λ (w : World). answer_number (outcome w x).answer) (turned-host ts (both s)) ∙ a in
    absurd (omega arith))
