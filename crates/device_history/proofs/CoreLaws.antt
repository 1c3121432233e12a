-- One call: what it stands for to its owner counts as the host's calls that it is. Assumes nothing.
use Rattle.std.proofs.Common.{◌≡◌, refl, sym, ap, ap₂, subst, ◌∙◌, Bool, true, false, cond, ◌&&◌, ◌||◌, List, [], ◌∷◌, ◌++◌, map, ℕ, ◌-◌, ◌≤◌, ◌<◌, ◌^◌, eqb, length, take, drop, length-append, replicate, Some, Ok, arith}
use mathlib.Core.Bool.{true≢false}
use lib.Seq.{take_at, drop_at}
use borrow.Author.Tests.{eq-eqb}
use Rattle.le.proofs.Parts.{by-test}
use Rattle.le.proofs.RowLaws.{Every}
use Rattle.config.specs.declared.negotiated.Negotiated.{Negotiated}
use Rattle.config.specs.declared.negotiated.RxPolicy.{RxPolicy}
use Rattle.config.specs.Config.{stores_fit}
use Rattle.protocol.specs.declared.packet.Packet.{Packet}
use Rattle.protocol.specs.declared.message.Message.{Message}
use Rattle.protocol.specs.Packet.{decode_of}
use Rattle.slot.specs.declared.ids.RemoteId.{RemoteId}
use Rattle.slot.proofs.Laws.{cond-true, cond-false}
use Rattle.state.specs.State.{state_of}
use Rattle.table.specs.declared.ChannelId.{ChannelId}
use Rattle.connection.specs.declared.Answer.{Answer}
use Rattle.connection.specs.declared.Answer.TheVariants.{Done, Refused}
use Rattle.connection.specs.declared.Refusal.TheVariants.{NoFreeChannels}
use Rattle.connection.specs.Answer.{answer_number, answer_values}
use Rattle.connection.specs.Calls.{Outcome, verdict_step}
use Rattle.connection.specs.Frames.{Frame, okay_frame, close_frame, Sent}
use Rattle.connection.proofs.Sending.{sent_of, FrameFits}
use Rattle.call.specs.Promise.{lent_of, agreed_in}
use Rattle.history.specs.Run.{Call, verdict_call, World, lent, bytes_in, outcome, after}
use Rattle.history.specs.Seen.{Seen, Event, held_of, seen_of, events_of}
use Rattle.history.specs.Book.{header_at, Ledger, entry, ledger_of}
use Rattle.history.proofs.Heard.{heard_of}
use Rattle.history.proofs.Never13.{Holds, holds_after}
use Rattle.history.proofs.Written.{writes, seen-is}
use Rattle.device_meets.specs.declared.Met.{Met}
use Rattle.device_meets.specs.declared.Verdict.{Verdict}
use Rattle.device_meets.specs.declared.Verdict.TheVariants.{Ignore, Refuse, Take}
use Rattle.device.specs.declared.DeviceAnswer.TheVariants.{Plain, Taken}
use Rattle.device.specs.Device.{is_waiting, taken_as, Judged, judged, Gives, given, and_judged, behind, called}
use Rattle.device.specs.Answer.{device_number, device_values}
use Rattle.device_history.specs.Run.{DeviceCall}
use Rattle.device_history.specs.Trace.{verdict_calls, behind_calls, calls_of}
use Rattle.device_history.specs.Owner.{arrived, host_call, passes, Entry, as_it_is, with_none, taking, stands_for, entries, device_seen}
use Rattle.device_history.proofs.Fits.{VerdictFits}
use Rattle.device_history.proofs.Parts.{Handled, done, waits, WaitsFit}
use Rattle.device_history.proofs.Follows.{verdict-outcome, fit-after}
use Rattle.device_history.proofs.UsedLaws.{Heard, heard, used-heard, used-none}
use Rattle.device_history.proofs.BookLaws.{unused, unused-same, Silent, close-silent, none-silent, silent-same, refused-same, taken-same}
use Rattle.device_history.proofs.SeenLaws.{number-not, waiting-is, Closed, Took, Taking, full, took, refuses, takes-or, heard-unused, seen-given, agreed-after, seen-judged}

or-some : (a b c : Bool) → (a ≡ false → b ≡ false → c ≡ true) → (a || b || c) ≡ true
or-some true b c f = refl
or-some false true c f = refl
or-some false false c f = f refl refl

or-none : (a b c : Bool) → a ≡ false → b ≡ false → c ≡ false → (a || b || c) ≡ false
or-none true b c e f g = e
or-none false true c e f g = f
or-none false false c e f g = g

handled-not : (a : Answer) → Handled a → eqb (answer_number a) 4 ≡ false
unfolding answer_number
handled-not a done = refl
handled-not a waits = refl

abbrev zeros : List ℕ
zeros = 0 ∷ 0 ∷ 0 ∷ 0 ∷ []

module _ (p : RxPolicy) (n : Negotiated) (r : List ℕ) (rx store : ℕ) (v : World) (h : Holds n r rx store v) (y : Ledger) (x : DeviceCall) where
  abbrev agreed : Negotiated
  agreed = (state_of v.state).header.negotiated

  abbrev first : Message
  first = header_at (bytes_in (arrived x))

  -- what a call stands for
  abbrev counts : Seen → Ledger
  counts o = entries p (stands_for y.books x o) y

  stands-as : (o : Seen) → eqb o.number 103 ≡ false → (eqb o.used 0 ≡ false → eqb o.number 4 ≡ false → passes y.books first ≡ true) → counts o ≡ entry p (host_call x (arrived x)) o y
  unfolding stands_for entries
  stands-as o e f =
      let a : List Entry = as_it_is x o ∷ [] in
      let b : List Entry = with_none x o o.sent ∷ [] in
      let c : List Entry = with_none x o (take (length o.sent - 1) o.sent) ∷ taking x o (drop (length o.sent - 1) o.sent) ∷ [] in
      let t = eqb o.used 0 || eqb o.number 4 || passes y.books first in
      ap (λ (es : List Entry). entries p es y)
      (cond-false (eqb o.number 103) c (cond t a b) e ∙ cond-true t a b (or-some (eqb o.used 0) (eqb o.number 4) (passes y.books first) f))

  stands-none : (o : Seen) → eqb o.number 103 ≡ false → eqb o.used 0 ≡ false → eqb o.number 4 ≡ false → passes y.books first ≡ false
      → counts o ≡ entry p (host_call x []) (unused 100 zeros o.sent o.got) y
  unfolding stands_for entries
  stands-none o e f g q =
      let a : List Entry = as_it_is x o ∷ [] in
      let b : List Entry = with_none x o o.sent ∷ [] in
      let c : List Entry = with_none x o (take (length o.sent - 1) o.sent) ∷ taking x o (drop (length o.sent - 1) o.sent) ∷ [] in
      let t = eqb o.used 0 || eqb o.number 4 || passes y.books first in
      ap (λ (es : List Entry). entries p es y)
      (cond-false (eqb o.number 103) c (cond t a b) e ∙ cond-false t a b (or-none (eqb o.used 0) (eqb o.number 4) (passes y.books first) f g q))

  stands-took : (o : Seen) (fs : List Sent) (g : Sent) → eqb o.number 103 ≡ true → o.sent ≡ fs ++ g ∷ []
      → counts o ≡ entry p (verdict_call [] true (record { 0 = first.arg0 }) first.arg1) (unused 0 o.values (g ∷ []) []) (entry p (host_call x []) (unused 100 zeros fs o.got) y)
  unfolding stands_for entries
  stands-took o fs g e f =
      let a : List Entry = as_it_is x o ∷ [] in
      let b : List Entry = with_none x o o.sent ∷ [] in
      let m = length o.sent - 1 in
      let c : List Entry = with_none x o (take m o.sent) ∷ taking x o (drop m o.sent) ∷ [] in
      let t = eqb o.used 0 || eqb o.number 4 || passes y.books first in
      let z : length fs ≡ m = let q = ap (λ (l : List Sent). length l) f in let k = length-append fs (g ∷ []) in omega arith in
      let front : take m o.sent ≡ fs = ap (take m) f ∙ take_at fs (g ∷ []) m z in
      let back : drop m o.sent ≡ g ∷ [] = ap (drop m) f ∙ drop_at fs (g ∷ []) m z in
      ap (λ (es : List Entry). entries p es y) (cond-true (eqb o.number 103) c (cond t a b) e)
      ∙ ap₂ (λ (l k : List Sent). entry p (verdict_call [] true (record { 0 = first.arg0 }) first.arg1) (unused 0 o.values k []) (entry p (host_call x []) (unused 100 zeros l o.got) y)) front back

  -- ---- a call that is one of the host's, and no more

  abbrev event : Call → Event
  event c = record { call = c; held = held_of v c }

  abbrev one : Call → Ledger
  one c = entry p c (seen_of (event c)) y

  -- handed all that arrived
  pub core-none : (head : List ℕ) → ((k : Packet) → decode_of (bytes_in (arrived x)) agreed.config.max_payload ≡ Ok (Some k) → passes y.books first ≡ true)
      → counts (device_seen (given head v.state (outcome v (host_call x (arrived x))))) ≡ one (host_call x (arrived x))
  core-none head f =
      let c = host_call x (arrived x) in
      let o = outcome v c in
      let by : Heard v (arrived x) → passes y.books first ≡ true = through f in
      ap counts (seen-given n r rx store v h head c)
      ∙ stands-as (heard_of agreed o) (number-not o.answer 103 (omega arith)) (λ a b. by (used-heard v x (arrived x) a b))
      ∙ ap (λ (z : Seen). entry p c z y) (sym (seen-is n r rx store v h c))
    where
      through : ((k : Packet) → decode_of (bytes_in (arrived x)) agreed.config.max_payload ≡ Ok (Some k) → passes y.books first ≡ true) → Heard v (arrived x) → passes y.books first ≡ true
      through g (heard k e) = g k e

  -- handed nothing, where it looks at no packet
  core-still : (head : List ℕ) → counts (device_seen (given head v.state (outcome v (host_call x [])))) ≡ one (host_call x [])
  core-still head =
      let c = host_call x [] in
      let o = outcome v c in
      let u = used-none v x in
      ap counts (seen-given n r rx store v h head c)
      ∙ stands-as (heard_of agreed o) (number-not o.answer 103 (omega arith)) (λ a b. absurd (true≢false (sym (eq-eqb o.used 0 u) ∙ a)))
      ∙ unused-same p x (arrived x) [] (heard_of agreed o) y u
      ∙ ap (λ (z : Seen). entry p c z y) (sym (seen-is n r rx store v h c))

  -- ---- a call that waits, and a verdict behind it

  module _ (w : is_waiting (outcome v (host_call x [])).answer ≡ true) where
    abbrev o : Outcome
    o = outcome v (host_call x [])

    abbrev wrote : List Sent
    wrote = map (sent_of agreed) o.frames

    -- what is seen of the call
    waited : seen_of (event (host_call x [])) ≡ unused 100 zeros wrote o.handed
    unfolding answer_number answer_values
    waited =
        let a = waiting-is o.answer w in
        let u = used-none v x in
        seen-is n r rx store v h (host_call x []) ∙ (λ i. record { number = answer_number (a i); values = answer_values (a i); used = u i; sent = wrote; got = o.handed })

    module _ (head : List ℕ) (used : ℕ) (some : eqb used 0 ≡ false) (met : passes y.books first ≡ false) where
      -- no channel is taken
      core-plain : (j : Judged) (a : Answer) → Handled a → j.answer ≡ Plain a → length j.frames ≤ 1 → Every (FrameFits agreed) j.frames → Silent (map (sent_of agreed) j.frames)
          → counts (device_seen (and_judged (given head v.state o) used j)) ≡ one (host_call x [])
      unfolding device_number
      core-plain j a k e few fits z =
          let more = map (sent_of agreed) j.frames in
          let s : Seen = record { number = device_number j.answer; values = device_values j.answer; used = used; sent = wrote ++ more; got = o.handed } in
          let number : device_number j.answer ≡ answer_number a = ap device_number e in
          ap counts (seen-judged n r rx store v h x head used j w few fits)
          ∙ stands-none s (ap (λ (m : ℕ). eqb m 103) number ∙ number-not a 103 (omega arith)) some (ap (λ (m : ℕ). eqb m 4) number ∙ handled-not a k) met
          ∙ silent-same p x [] 100 zeros wrote more o.handed y z
          ∙ ap (λ (q : Seen). entry p (host_call x []) q y) (sym waited)

      -- one is taken
      core-took : (j : Judged) (ch : ChannelId) (remote : RemoteId) (place : ℕ) (f : Frame) → j.answer ≡ Taken ch remote place → j.frames ≡ f ∷ [] → Every (FrameFits agreed) j.frames
          → counts (device_seen (and_judged (given head v.state o) used j))
          ≡ entry p (verdict_call [] true (record { 0 = first.arg0 }) first.arg1) (unused 0 (ch.slot ∷ ch.local.0 ∷ remote.0 ∷ place ∷ []) (sent_of agreed f ∷ []) []) (one (host_call x []))
      unfolding device_number device_values
      core-took j ch remote place f e g fits =
          let s : Seen = record { number = device_number j.answer; values = device_values j.answer; used = used; sent = wrote ++ map (sent_of agreed) j.frames; got = o.handed } in
          let few : length j.frames ≤ 1 = let q = ap (λ (l : List Frame). length l) g in omega arith in
          let number : device_number j.answer ≡ 103 = ap device_number e in
          let values : device_values j.answer ≡ ch.slot ∷ ch.local.0 ∷ remote.0 ∷ place ∷ [] = ap device_values e in
          let k = verdict_call [] true (record { 0 = first.arg0 }) first.arg1 in
          ap counts (seen-judged n r rx store v h x head used j w few fits)
          ∙ stands-took s wrote (sent_of agreed f) (eq-eqb _ 103 number) (ap (λ (l : List Frame). wrote ++ map (sent_of agreed) l) g)
          ∙ ap₂ (λ (l : List ℕ) (q : Seen). entry p k (unused 0 l (sent_of agreed f ∷ []) []) (entry p (host_call x []) q y)) values (sym waited)

      -- ---- by the verdict

      abbrev v' : World
      v' = after v (host_call x [])

      module _ (fit : stores_fit (agreed_in v.state).config (length v.rx) (length v.store) ≡ true) (taken : Bool) (remote : RemoteId) (credit : ℕ) (small : remote.0 < 2 ^ 32) (few : credit < 2 ^ 32) where
        abbrev vc : Call
        vc = verdict_call (replicate 56 0) taken remote credit

        abbrev step : Outcome
        step = verdict_step (lent v') taken remote credit

        stepped : outcome v' vc ≡ step
        stepped = verdict-outcome n r rx store v' (holds_after n r rx store v h (host_call x [])) (fit-after n r rx store v h (host_call x []) fit) taken remote credit small few

        seen-step : seen_of (record { call = vc; held = held_of v' vc }) ≡ heard_of agreed step
        seen-step =
            seen-is n r rx store v' (holds_after n r rx store v h (host_call x [])) vc
            ∙ ap₂ heard_of (agreed-after n r rx store v h (host_call x [])) stepped

        fits-step : Every (FrameFits agreed) step.frames
        fits-step =
            let z = (writes n r rx store v' (holds_after n r rx store v h (host_call x [])) vc).each in
            subst (λ (m : Negotiated). Every (FrameFits m) step.frames) (agreed-after n r rx store v h (host_call x []))
            (subst (λ (q : Outcome). Every (FrameFits (state_of v'.state).header.negotiated) q.frames) stepped z)

        -- the verdict's own entry
        abbrev two : Ledger
        two = entry p vc (seen_of (record { call = vc; held = held_of v' vc })) (one (host_call x []))

        module _ (a : Answer) (k : Closed a step) where
          closing : map (sent_of agreed) step.frames ≡ sent_of agreed (close_frame k.ids) ∷ []
          closing = ap (map (sent_of agreed)) k.frames

          silent : Silent (map (sent_of agreed) step.frames)
          silent = subst Silent (sym closing) (close-silent k.ids.local.0 k.ids.remote.0 [])

          few-frames : length step.frames ≤ 1
          few-frames = let q = ap (λ (l : List Frame). length l) k.frames in omega arith

          -- of one that takes nothing
          stays : (taken && eqb (answer_number a) 0) ≡ false → two ≡ one (host_call x [])
          stays e =
              ap (λ (q : Seen). entry p vc q (one (host_call x []))) (seen-step ∙ heard-unused agreed step k.used k.handed)
              ∙ refused-same p (replicate 56 0) taken remote credit (answer_number step.answer) (answer_values step.answer) (map (sent_of agreed) step.frames) [] (one (host_call x []))
              (ap (λ (z : Answer). taken && eqb (answer_number z) 0) k.answer ∙ e) silent

        -- of one that takes
        grants : (ch : ChannelId) (k : Took ch step)
            → two ≡ entry p vc (unused 0 (ch.slot ∷ ch.local.0 ∷ 0 ∷ 0 ∷ []) (sent_of agreed (okay_frame k.ids k.len) ∷ []) []) (one (host_call x []))
        unfolding answer_number answer_values
        grants ch k =
            ap (λ (q : Seen). entry p vc q (one (host_call x [])))
            (seen-step ∙ heard-unused agreed step k.used k.handed
            ∙ (λ i. unused (answer_number (k.answer i)) (answer_values (k.answer i)) (map (sent_of agreed) (k.frames i)) []))

      taken-case : stores_fit (agreed_in v.state).config (length v.rx) (length v.store) ≡ true → (handled : Answer) → Handled handled → (remote : RemoteId) (credit place : ℕ) → remote.0 < 2 ^ 32 → credit < 2 ^ 32
          → Taking (verdict_step (lent v') true remote credit)
          → counts (device_seen (and_judged (given head v.state o) used (judged (lent v') handled (Take remote credit place)))) ≡ ledger_of p y (events_of v (host_call x [] ∷ verdict_call (replicate 56 0) true remote credit ∷ []))
      unfolding judged events_of ledger_of taken_as answer_number
      taken-case fit handled k remote credit place a b (full c) =
          let s = verdict_step (lent v') true remote credit in
          core-plain (record { answer = taken_as handled remote place s.answer; frames = s.frames; changes = s.changes }) handled k (ap (taken_as handled remote place) c.answer)
          (few-frames fit true remote credit a b (Refused NoFreeChannels) c) (fits-step fit true remote credit a b) (silent fit true remote credit a b (Refused NoFreeChannels) c)
          ∙ sym (stays fit true remote credit a b (Refused NoFreeChannels) c refl)
      taken-case fit handled k remote credit place a b (took ch c) =
          let s = verdict_step (lent v') true remote credit in
          let f = okay_frame c.ids c.len in
          core-took (record { answer = taken_as handled remote place s.answer; frames = s.frames; changes = s.changes }) ch remote place f (ap (taken_as handled remote place) c.answer) c.frames (fits-step fit true remote credit a b)
          ∙ taken-same p [] (replicate 56 0) (record { 0 = first.arg0 }) remote first.arg1 credit ch.slot ch.local.0 remote.0 place 0 0 (sent_of agreed f ∷ []) (one (host_call x []))
          ∙ sym (grants fit true remote credit a b ch c)

      pub core-judged : stores_fit (agreed_in v.state).config (length v.rx) (length v.store) ≡ true → (handled : Answer) → Handled handled → (d : Verdict) → VerdictFits d
          → counts (device_seen (and_judged (given head v.state o) used (judged (lent v') handled d))) ≡ ledger_of p y (events_of v (host_call x [] ∷ verdict_calls d))
      unfolding judged verdict_calls events_of ledger_of
      core-judged fit handled k Ignore g = core-plain (record { answer = Plain handled; frames = []; changes = [] }) handled k refl (omega arith) tt none-silent
      core-judged fit handled k (Refuse remote) g =
          let s = verdict_step (lent v') false remote 0 in
          let c = refuses (lent v') remote 0 in
          core-plain (record { answer = Plain handled; frames = s.frames; changes = s.changes }) handled k refl (few-frames fit false remote 0 g (omega arith) Done c)
          (fits-step fit false remote 0 g (omega arith)) (silent fit false remote 0 g (omega arith) Done c)
          ∙ sym (stays fit false remote 0 g (omega arith) Done c refl)
      core-judged fit handled k (Take remote credit place) g = taken-case fit handled k remote credit place g.0 g.1 (takes-or (lent v') remote credit)

  -- ---- a call whose packet was met

  pub core-met : (head : List ℕ) (handled : Answer) → Handled handled → (m : Met) → VerdictFits m.verdict → WaitsFit v (Some m) (outcome v (host_call x [])).answer → eqb m.used 0 ≡ false → passes y.books first ≡ false
      → counts (device_seen (called head v.state handled (outcome v (host_call x [])) (Some m))) ≡ ledger_of p y (events_of v (calls_of v (host_call x []) (Some m)))
  unfolding called behind given after behind_calls events_of ledger_of
  core-met head handled k m g q some met =
      let o = outcome v (host_call x []) in
      let t = is_waiting o.answer in
      let f = given head v.state o in
      let j = and_judged f m.used (judged (lent_of f.inner f.rx f.store) handled m.verdict) in
      by-test t
      (λ u. ap (λ (z : Gives). counts (device_seen z)) (cond-true t j f u)
      ∙ core-judged u head m.used some met (q u) handled k m.verdict g
      ∙ ap (λ (cs : List Call). ledger_of p y (events_of v (host_call x [] ∷ cs))) (sym (cond-true t (verdict_calls m.verdict) [] u)))
      (λ u. ap (λ (z : Gives). counts (device_seen z)) (cond-false t j f u)
      ∙ core-still head
      ∙ ap (λ (cs : List Call). ledger_of p y (events_of v (host_call x [] ∷ cs))) (sym (cond-false t (verdict_calls m.verdict) [] u)))
