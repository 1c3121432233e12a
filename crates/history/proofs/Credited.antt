-- The book of what may be sent, beside each call and over every list of them. Assumes nothing.
use mathlib.Core.Path.{◌≡◌, refl, sym, ap, ap₂, subst, ◌∙◌}
use mathlib.Core.Bool.{Bool, true, false, ◌&&◌, true≢false}
use mathlib.Core.List.{List, [], ◌∷◌, map}
use Prim.Native.Nat.{ℕ, ◌+◌, ◌*◌, ◌≤◌, ◌<◌, ◌^◌}
use native.Mathlib.Omega.{arith}
use lib.Dec.{eqb, ltb}
use lib.IntN.{ℤ, pos, negsuc, ◌-ℤ◌}
use lib.ListN.{length, get_or, set, drop}
use borrow.Author.Tests.{eqb-true, eqb-false, eq-eqb}
use Rattle.le.proofs.Parts.{by-test}
use Rattle.config.proofs.Laws.{and-true}
use Rattle.config.specs.declared.negotiated.Negotiated.{Negotiated}
use Rattle.config.specs.Config.{stores_fit, cap_of}
use Rattle.config.specs.Negotiated.{policy_of, offered_credit}
use Rattle.credit.specs.Credit.{credit_of}
use Rattle.credit.specs.declared.CreditFault.{CreditFault}
use Rattle.protocol.specs.declared.packet.Packet.{Packet}
use Rattle.protocol.specs.Command.{is_ready, is_write, is_close}
use Rattle.protocol.specs.Packet.{payload_limit}
use Rattle.protocol.proofs.RoundTrip.{Says}
use Rattle.slot.proofs.Kept.{pick}
use Rattle.slot.proofs.Laws.{cond-true, cond-false}
use Rattle.slot.specs.declared.ChannelFault.TheVariants.{BadCredit}
use Rattle.slot.specs.declared.ChannelSlot.{ChannelSlot}
use Rattle.slot.specs.declared.ids.ChannelIds.{ChannelIds}
use Rattle.slot.specs.declared.ids.LocalId.{LocalId}
use Rattle.slot.specs.declared.ids.RemoteId.{RemoteId}
use Rattle.slot.specs.Slot.{emptied_slot, opening_slot, accepted_slot, opened_by, opened_of}
use Rattle.state.specs.declared.Header.{Header}
use Rattle.state.specs.Change.{slot_to}
use Rattle.state.specs.State.{is_ours, state_len, Connection, state_of}
use Rattle.table.specs.declared.ChannelId.{ChannelId}
use Rattle.table.specs.declared.NoFreeChannels.{NoFreeChannels as NoFree}
use Rattle.table.specs.Table.{slot_in, numbered, allocated}
use Rattle.connection.specs.declared.Answer.{Answer}
use Rattle.connection.specs.declared.Answer.TheVariants.{Done, Waiting, Opened, Refused}
use Rattle.connection.specs.declared.Refusal.TheVariants.{OutShort, ChannelClosed, NoFreeChannels}
use Rattle.connection.specs.Act.{act_on}
use Rattle.connection.specs.Answer.{answer_number, answer_values}
use Rattle.connection.specs.Calls.{Lent, Outcome, Work, begun, then, then_acted, storing, ends, looked, checked, checked_out, dropped, pending_for, policy, ids_in, is_there, slot_for, fault_refusal, unless_fault, received_of, body_of, frame_len, close_step, open_on, still_pending, open_readied, open_acted, open_by, open_step, offer_in, numbers_for, dispatch_step, settle_step, take_step, read_step, write_step, take_front_step, reject_step, let_go_step, is_offered, reject_on, accept_on, accept_step, verdict_step, open_outcome, dispatch_outcome, settle_outcome, take_outcome, read_outcome, write_outcome, close_outcome, take_front_outcome, numbers_outcome, accept_outcome, reject_outcome, let_go_outcome, verdict_outcome}
use Rattle.connection.specs.Frames.{Sent, okay_frame, close_frame, open_frame}
use Rattle.connection.proofs.Sending.{sent_of}
use Rattle.connection.proofs.Slots.{slots_by, slots-by, slot-set-same, slot-set-other}
use Rattle.history.specs.Run.{look_outcome, Call, open_call, dispatch_call, settle_call, take_call, read_call, write_call, close_call, front_taken, look_call, numbers_look, accept_call, reject_call, let_go_call, verdict_call, word_in, bytes_in, received_in, World, lent, outcome, after, after_all, begins, agreed_in}
use Rattle.history.specs.Seen.{held_of, Seen, seen_of, events_of}
use Rattle.history.specs.Book.{Ledger, clean, credit_in, payload_at, book_at, entry}
use Rattle.history.specs.Demand3.{Distinct, Apart}
use Rattle.history.specs.Credits.{Credit, no_credit, added_in, fills_at, begun_by, moved, credit_after, credits_of, Budgets}
use Rattle.history.proofs.Accepts.{allocated-inside}
use Rattle.history.proofs.Budgets.{AtLeast0, credit-least}
use Rattle.history.proofs.Credits.{writes_in, heard-writes, credit-reads, goes, idle, dispatch-goes, settle-goes, take-goes, close-goes, front-goes, accept-goes, reject-goes, verdict-goes, let-go-goes, open-goes, read-goes, write-goes}
use Rattle.history.proofs.Heard.{heard_of}
use Rattle.history.proofs.Marks.{Mark, Tame, there-filled, tame-act, tame-at, tame-ends, dispatch-tame, settle-tame, take-tame, read-tame, write-tame, front-tame, reject-tame-on, reject-tame, let-go-tame}
use Rattle.history.proofs.Never13.{Holds, state-after, holds_after, starts, always-8}
use Rattle.history.proofs.Packets.{Got, stopped, packet, got, reads-payload}
use Rattle.history.proofs.Places.{TableOk}
use Rattle.history.proofs.Steps.{saw_of}
use Rattle.history.proofs.Theorem.{Kept, fits-long, table, empty, placed, step, no_slot, fresh-far, fresh_kept, fresh_start}
use Rattle.history.proofs.Written.{seen-is}
use Rattle.std.specs.Prelude.{Result, Ok, Err}

-- ---- the calls, beside a place with no channel

-- the book of a channel that stands at the place now
abbrev New : List ChannelSlot → ℕ → Credit → Type 0
New ts i k = (slot_in ts i).filled ≡ true → k.told ≡ true → (slot_in ts i).send_budget ≡ pos (k.opening + k.added) -ℤ pos k.sent

new-none : (ts : List ChannelSlot) (i : ℕ) (k : Credit) → (slot_in ts i).filled ≡ false → New ts i k
new-none ts i k e f = absurd (true≢false (sym f ∙ e))

new-as : (ts : List ChannelSlot) (i : ℕ) (k m : Credit) → k ≡ m → New ts i m → New ts i k
new-as ts i k m e f = subst (New ts i) (sym e) f

module _ (l : Lent) (ok : TableOk (policy l) l.state.header.negotiated.config.channels l.state.slots l.rx) (delayed : (policy l).delayed ≡ true) (i : ℕ) (vacant : (slot_in l.state.slots i).filled ≡ false) (k : Credit) where
  abbrev ss : List ChannelSlot
  ss = l.state.slots

  abbrev h0 : Header
  h0 = dropped l.state.header

  abbrev begins-as : Call → Outcome → Type 0
  begins-as x o = (fs : List Sent) → New (slots_by ss o.changes) i (begun_by i x (saw_of o fs) k)

  as-none : (x : Call) (o : Outcome) → (slot_in (slots_by ss o.changes) i).filled ≡ false → begins-as x o
  as-none x o e fs = new-none (slots_by ss o.changes) i (begun_by i x (saw_of o fs) k) e

  as-tame : (x : Call) (o : Outcome) → Tame ss o.changes → begins-as x o
  as-tame x o t = as-none x o (ap (λ (m : Mark). m.filled) (tame-at ss o.changes t i) ∙ vacant)

  as-ends : (x : Call) (w : Work) (a : Answer) (used : ℕ) (handed : List ℕ) → Tame ss w.changes → begins-as x (ends w a used handed)
  as-ends x w a used handed t = as-tame x (ends w a used handed) (tame-ends ss w a used handed t)

  as-looked : (x : Call) (a : Answer) → begins-as x (looked l a)
  as-looked x a = as-tame x (looked l a) tt

  as-checked : (x : Call) (t : Bool) (o : Outcome) → begins-as x o → begins-as x (checked t l o)
  unfolding checked
  as-checked x t o f =
      pick (begins-as x) t (λ a. pick (begins-as x) (stores_fit l.state.header.negotiated.config (length l.rx) (length l.store)) (λ b. f) (λ b. as-looked x _)) (λ a. as-looked x _)

  as-out : (x : Call) (t : Bool) (out : ℕ) (o : Outcome) → begins-as x o → begins-as x (checked_out t l out o)
  unfolding checked_out
  as-out x t out o f = as-checked x t _ (pick (begins-as x) (ltb out 56) (λ a. as-looked x _) (λ a. f))

  as-close : (x : Call) (ch : ChannelId) → begins-as x (close_step l ch)
  unfolding close_step slot_for ends
  as-close x ch =
      pick (begins-as x) (is_there l ch && (slot_in ss ch.slot).has_remote)
      (λ t. as-none x (closing-at ch) (ap (λ (s : ChannelSlot). s.filled) (slot-set-other ss ch.slot i (emptied_slot (slot_in ss ch.slot)) (λ e. true≢false (sym (there-filled l ok ch (and-true (is_there l ch) _ t).0) ∙ ap (λ (y : ℕ). (slot_in ss y).filled) (sym e) ∙ vacant))) ∙ vacant))
      (λ t. as-ends x (begun h0 l) (Refused ChannelClosed) 0 [] tt)
    where
      closing-at : ChannelId → Outcome
      closing-at ch = ends (then (begun h0 l) (slot_to ch.slot (emptied_slot (slot_in ss ch.slot)) ∷ []) (close_frame (ids_in (slot_in ss ch.slot)) ∷ [])) Done 0 []

  -- a place that another channel's slot was stored at, or this one's
  stored-at : (j : ℕ) (t : ChannelSlot) (m : Credit) → j < length ss → (j ≡ i → m.told ≡ true → t.send_budget ≡ pos (m.opening + m.added) -ℤ pos m.sent) → New (set ss j t) i m
  stored-at j t m inside f fill told =
      by-test (eqb j i)
      (λ u. let e = eqb-true j i u in
      ap (λ (x : ℕ). (slot_in (set ss j t) x).send_budget) (sym e) ∙ ap (λ (s : ChannelSlot). s.send_budget) (slot-set-same ss j t inside) ∙ f e told)
      (λ u. absurd (true≢false (sym fill ∙ ap (λ (s : ChannelSlot). s.filled) (slot-set-other ss j i t (λ e. eqb-false j i u (sym e))) ∙ vacant)))

  filled-at : (j : ℕ) (o : Seen) → o.number ≡ 0 → get_or o.values 0 0 ≡ j → j ≡ i → fills_at i o ≡ true
  filled-at j o n v e = ap₂ (λ (x y : ℕ). eqb x 0 && eqb y i) n (v ∙ e) ∙ eq-eqb i i refl

  -- ---- verdicts

  abbrev granting : ChannelId → RemoteId → ℕ → Outcome
  granting ch remote credit =
      ends (then (begun (numbered h0) l) (slot_to ch.slot (accepted_slot (record { local = ch.local; remote = remote }) credit (policy l)) ∷ []) (okay_frame (record { local = ch.local; remote = remote }) (offered_credit l.state.header.negotiated) ∷ [])) (Opened ch) 0 []

  accepted-budget : (ids : ChannelIds) (credit : ℕ) → (accepted_slot ids credit (policy l)).send_budget ≡ pos credit
  unfolding accepted_slot
  accepted-budget ids credit = cond-true (policy l).delayed _ _ delayed

  granted-accept : (out : List ℕ) (remote : RemoteId) (credit : ℕ) (ch : ChannelId) → allocated l.state.header ss ≡ Ok ch → begins-as (accept_call out) (granting ch remote credit)
  unfolding begun_by ends answer_number answer_values
  granted-accept out remote credit ch e fs =
      let o = saw_of (granting ch remote credit) fs in
      stored-at ch.slot (accepted_slot (record { local = ch.local; remote = remote }) credit (policy l)) (begun_by i (accept_call out) o k) (allocated-inside (policy l) l.state.header ss l.rx ok ch e)
      (λ q t. absurd (true≢false (sym t ∙ ap (λ (m : Credit). m.told) (cond-true (fills_at i o) no_credit k (filled-at ch.slot o refl refl q)))))

  granted-verdict : (out : List ℕ) (given remote : RemoteId) (credit : ℕ) (ch : ChannelId) → allocated l.state.header ss ≡ Ok ch → begins-as (verdict_call out true given credit) (granting ch remote (word_in credit))
  unfolding begun_by ends answer_number answer_values
  granted-verdict out given remote credit ch e fs =
      let o = saw_of (granting ch remote (word_in credit)) fs in
      let m : Credit = record { told = true; opening = word_in credit; added = 0; sent = 0 } in
      let a : word_in credit ≡ word_in credit + 0 + 0 = omega arith in
      stored-at ch.slot (accepted_slot (record { local = ch.local; remote = remote }) (word_in credit) (policy l)) (begun_by i (verdict_call out true given credit) o k) (allocated-inside (policy l) l.state.header ss l.rx ok ch e)
      (λ q t. subst (λ (y : Credit). (accepted_slot (record { local = ch.local; remote = remote }) (word_in credit) (policy l)).send_budget ≡ pos (y.opening + y.added) -ℤ pos y.sent)
      (sym (cond-true (fills_at i o) m k (filled-at ch.slot o refl refl q)))
      (accepted-budget (record { local = ch.local; remote = remote }) (word_in credit) ∙ ap pos a))

  accept-as-on : (x : Call) (remote : RemoteId) (credit : ℕ) → ((ch : ChannelId) → allocated l.state.header ss ≡ Ok ch → begins-as x (granting ch remote credit)) → (r : Result ChannelId NoFree)
      → allocated l.state.header ss ≡ r → begins-as x (accept_on l h0 remote credit r)
  unfolding accept_on
  accept-as-on x remote credit f (Err _) e = as-tame x (reject_on l h0 remote (Refused NoFreeChannels)) (reject-tame-on l ok h0 remote (Refused NoFreeChannels))
  accept-as-on x remote credit f (Ok ch) e = f ch e

  accept-as : (out : List ℕ) → begins-as (accept_call out) (accept_step l)
  unfolding accept_step
  accept-as out =
      let q = offer_in l in
      pick (begins-as (accept_call out)) (is_offered l)
      (λ t. accept-as-on (accept_call out) q.remote q.credit (λ ch e. granted-accept out q.remote q.credit ch e) (allocated l.state.header ss) refl)
      (λ t. as-ends (accept_call out) (begun h0 l) _ 0 [] tt)

  verdict-as : (out : List ℕ) (take : Bool) (given remote : RemoteId) (credit : ℕ) → begins-as (verdict_call out take given credit) (verdict_step l take remote (word_in credit))
  unfolding verdict_step
  verdict-as out true given remote credit =
      accept-as-on (verdict_call out true given credit) remote (word_in credit) (λ ch e. granted-verdict out given remote credit ch e) (allocated l.state.header ss) refl
  verdict-as out false given remote credit = as-tame (verdict_call out false given credit) (reject_on l h0 remote Done) (reject-tame-on l ok h0 remote Done)

  -- ---- open

  module _ (out destination received : List ℕ) where
    abbrev x0 : Call
    x0 = open_call out destination received

    abbrev pslot : ℕ
    pslot = l.state.header.pending.slot

    abbrev plocal : LocalId
    plocal = l.state.header.pending.local

    abbrev pch : ChannelId
    pch = record { slot = pslot; local = plocal }

    open-as-on : (room : ℕ) (text : List ℕ) (r : Result ChannelId NoFree) → begins-as x0 (open_on l room text r)
    unfolding open_on
    open-as-on room text (Err _) = as-ends x0 (begun h0 l) _ 0 [] tt
    open-as-on room text (Ok ch) =
        pick (begins-as x0) (ltb payload_limit (length text)) (λ t. as-ends x0 (begun (numbered h0) l) _ 0 [] tt)
        (λ t. pick (begins-as x0) (ltb room (24 + length text)) (λ u. as-looked x0 (Refused OutShort))
        (λ u. as-ends x0 (then (begun (pending_for (numbered h0) ch) l) [] (open_frame ch.local (offered_credit h0.negotiated) text ∷ [])) Waiting 0 [] tt))

    abbrev Opens-at : List ℕ → Result ChannelSlot CreditFault → Type 0
    Opens-at payload (Ok t) = t.send_budget ≡ pos (credit_in payload)
    Opens-at payload (Err f) = Unit {0}

    opens-by : (payload : List ℕ) (remote : RemoteId) (r : Result ℤ CreditFault) → credit_of payload ≡ r → AtLeast0 r → Opens-at payload (opened_by (opening_slot plocal) remote r)
    unfolding opened_by
    opens-by payload remote (Ok (pos c)) e a = ap pos (sym (credit-reads payload c e))
    opens-by payload remote (Ok (negsuc c)) e a = absurd a
    opens-by payload remote (Err f) e a = tt

    opens-with : (payload : List ℕ) (remote : RemoteId) → Opens-at payload (opened_of (opening_slot plocal) remote payload (policy l))
    unfolding opened_of
    opens-with payload remote =
        subst (Opens-at payload) (sym (cond-true (policy l).delayed _ _ delayed)) (opens-by payload remote (credit_of payload) refl (credit-least payload))

    module _ (place : pslot < length ss) (q : Packet) (sy : Says (bytes_in received) l.state.header.negotiated.config.max_payload q) where
      abbrev body-in : List ℕ
      body-in = body_of (bytes_in received) q

      readied-as : (r : Result ChannelSlot CreditFault) → Opens-at body-in r → begins-as x0 (open_readied l pch q.arg0 (frame_len q) r)
      unfolding open_readied begun_by ends answer_number answer_values
      readied-as (Ok t) a fs =
          let o = saw_of (ends (then (begun h0 l) (slot_to pslot t ∷ []) []) (Opened pch) (frame_len q) []) fs in
          let m : Credit = record { told = true; opening = 0; added = credit_in (payload_at (bytes_in received) (frame_len q)); sent = 0 } in
          let b : credit_in body-in ≡ 0 + credit_in body-in + 0 = omega arith in
          stored-at pslot t (begun_by i x0 o k) place
          (λ e told. subst (λ (y : Credit). t.send_budget ≡ pos (y.opening + y.added) -ℤ pos y.sent) (sym (cond-true (fills_at i o) m k (filled-at pslot o refl refl e)))
          (a ∙ ap pos b ∙ ap (λ (p : List ℕ). pos (0 + credit_in p + 0)) (sym (reads-payload (bytes_in received) _ q sy))))
      readied-as (Err f) a fs = as-ends x0 (then (begun h0 l) [] (close_frame (record { local = plocal; remote = record { 0 = q.arg0 } }) ∷ [])) (Refused (fault_refusal (BadCredit f))) (frame_len q) [] tt fs

      packet-as : begins-as x0 (open_by l pch (bytes_in received) (Ok q))
      unfolding open_by open_acted
      packet-as =
          let own = eqb q.arg1 plocal.0 in
          let b = act_on l.state.header ss l.state.queue l.rx l.store q body-in in
          let a = unless_fault b.fault Waiting in
          pick (begins-as x0) (is_ready q.command && own) (λ t. readied-as _ (opens-with body-in (record { 0 = q.arg0 })))
          (λ t. pick (begins-as x0) (is_write q.command && own)
          (λ u. as-ends x0 (then (begun h0 l) [] (close_frame (record { local = plocal; remote = record { 0 = q.arg0 } }) ∷ [])) _ (frame_len q) [] tt)
          (λ u. pick (begins-as x0) (is_close q.command && own) (λ v. as-ends x0 (begun h0 l) _ (frame_len q) [] tt)
          (λ v. as-ends x0 (storing (then_acted (begun l.state.header l) b) (still_pending a b.header)) a (frame_len q) [] (tame-act l.state.header ss l.state.queue l.rx l.store q body-in ok))))

    received-as : pslot < length ss → (r : Result Packet (Answer × ℕ)) → Got (bytes_in received) l.state.header.negotiated.config.max_payload r → begins-as x0 (open_by l pch (bytes_in received) r)
    unfolding open_by
    received-as place r (stopped a used st) = as-ends x0 (begun (still_pending a l.state.header) l) a used [] tt
    received-as place r (packet q sy) = packet-as place q sy

    open-as : (room : ℕ) (text : List ℕ) → (is_ours l.state.header.pending.what ≡ true → pslot < length ss) → begins-as x0 (open_step l room text (bytes_in received))
    unfolding open_step
    open-as room text pend =
        pick (begins-as x0) (is_ours l.state.header.pending.what)
        (λ t. received-as (pend t) (received_of l (bytes_in received)) (got l (bytes_in received))) (λ t. open-as-on room text (allocated l.state.header ss))

-- ---- one call

module _ (w : World) (ok : TableOk (policy (lent w)) (lent w).state.header.negotiated.config.channels (lent w).state.slots (lent w).rx) (delayed : (policy (lent w)).delayed ≡ true) (i : ℕ)
    (pending : is_ours (lent w).state.header.pending.what ≡ true → ((lent w).state.header.pending.slot < 64) × ((slot_in (lent w).state.slots (lent w).state.header.pending.slot).filled ≡ false)) where
  abbrev l : Lent
  l = lent w

  abbrev rows : List ChannelSlot
  rows = l.state.slots

  pending-inside : is_ours l.state.header.pending.what ≡ true → l.state.header.pending.slot < length rows
  pending-inside t = let a = (pending t).0 in let z = ok.size in omega arith

  begins-call : (vacant : (slot_in rows i).filled ≡ false) (k : Credit) (x : Call) → begins-as l ok delayed i vacant k x (outcome w x)
  unfolding outcome open_outcome dispatch_outcome settle_outcome take_outcome read_outcome write_outcome close_outcome take_front_outcome look_outcome numbers_outcome accept_outcome reject_outcome let_go_outcome verdict_outcome
  begins-call v k (open_call out destination received) = as-out l ok delayed i v k _ _ _ _ (open-as l ok delayed i v k out destination received (length out) (bytes_in destination) pending-inside)
  begins-call v k (dispatch_call out received) = as-out l ok delayed i v k _ _ _ _ (as-tame l ok delayed i v k (dispatch_call out received) (dispatch_step l (bytes_in received)) (dispatch-tame l ok (bytes_in received)))
  begins-call v k (settle_call out ch want) = as-out l ok delayed i v k _ _ _ _ (as-tame l ok delayed i v k (settle_call out ch want) (settle_step l ch want) (settle-tame l ok ch want))
  begins-call v k (take_call ch buf) = as-checked l ok delayed i v k _ _ _ (as-tame l ok delayed i v k (take_call ch buf) (take_step l ch (length buf)) (take-tame l ok ch (length buf)))
  begins-call v k (read_call out ch buf received) = as-out l ok delayed i v k _ _ _ _ (as-tame l ok delayed i v k (read_call out ch buf received) (read_step l ch (length buf) (bytes_in received)) (read-tame l ok ch (length buf) (bytes_in received)))
  begins-call v k (write_call spending out ch bytes received) = as-out l ok delayed i v k _ _ _ _ (as-tame l ok delayed i v k (write_call spending out ch bytes received) (write_step spending l ch (length out) (bytes_in bytes) (bytes_in received)) (write-tame l ok spending ch (length out) (bytes_in bytes) (bytes_in received)))
  begins-call v k (close_call out ch) = as-out l ok delayed i v k _ _ _ _ (as-close l ok delayed i v k (close_call out ch) ch)
  begins-call v k front_taken = as-checked l ok delayed i v k _ _ _ (as-tame l ok delayed i v k front_taken (take_front_step l) (front-tame l ok))
  begins-call v k (look_call (numbers_look ch)) = as-checked l ok delayed i v k _ _ _ (as-looked l ok delayed i v k (look_call (numbers_look ch)) (numbers_for l ch))
  begins-call v k (accept_call out) = as-out l ok delayed i v k _ _ _ _ (accept-as l ok delayed i v k out)
  begins-call v k (reject_call out) = as-out l ok delayed i v k _ _ _ _ (as-tame l ok delayed i v k (reject_call out) (reject_step l) (reject-tame l ok))
  begins-call v k let_go_call = as-checked l ok delayed i v k _ _ _ (as-tame l ok delayed i v k let_go_call (let_go_step l) (let-go-tame l ok))
  begins-call v k (verdict_call out take remote credit) = as-out l ok delayed i v k _ _ _ _ (verdict-as l ok delayed i v k out take remote (record { 0 = word_in remote.0 }) credit)

  module _ (there : (slot_in rows i).filled ≡ true) where
    abbrev moves : List ℕ → Outcome → Type 0
    moves received o =
        (slot_in (slots_by rows o.changes) i).filled ≡ true → ((j : ℕ) → (slot_in (slots_by rows o.changes) j).filled ≡ true → (slot_in (slots_by rows o.changes) j).local.0 ≡ (slot_in (slots_by rows o.changes) i).local.0 → j ≡ i)
        → goes l ok delayed i there received o

    moves-checked : (received : List ℕ) (t : Bool) (o : Outcome) → moves received o → moves received (checked t l o)
    unfolding checked
    moves-checked received t o f =
        pick (moves received) t
        (λ a. pick (moves received) (stores_fit l.state.header.negotiated.config (length l.rx) (length l.store)) (λ b. f) (λ b c d. idle l ok delayed i there received _)) (λ a c d. idle l ok delayed i there received _)

    moves-out : (received : List ℕ) (t : Bool) (out : ℕ) (o : Outcome) → moves received o → moves received (checked_out t l out o)
    unfolding checked_out
    moves-out received t out o f = moves-checked received t _ (pick (moves received) (ltb out 56) (λ a c d. idle l ok delayed i there received _) (λ a. f))

    not-pending : is_ours l.state.header.pending.what ≡ true → (l.state.header.pending.slot < length rows) × (i ≡ l.state.header.pending.slot → ⊥)
    not-pending t = (pending-inside t, λ e. true≢false (sym there ∙ ap (λ (y : ℕ). (slot_in rows y).filled) e ∙ (pending t).1))

    moves-call : (x : Call) → moves (received_in x) (outcome w x)
    unfolding received_in outcome open_outcome dispatch_outcome settle_outcome take_outcome read_outcome write_outcome close_outcome take_front_outcome look_outcome numbers_outcome accept_outcome reject_outcome let_go_outcome verdict_outcome
    moves-call (open_call out destination received) = moves-out _ _ _ _ (λ f a. open-goes l ok delayed i there (length out) (bytes_in destination) (bytes_in received) not-pending a)
    moves-call (dispatch_call out received) = moves-out _ _ _ _ (λ f a. dispatch-goes l ok delayed i there (bytes_in received))
    moves-call (settle_call out ch want) = moves-out _ _ _ _ (λ f a. settle-goes l ok delayed i there ch want)
    moves-call (take_call ch buf) = moves-checked _ _ _ (λ f a. take-goes l ok delayed i there ch (length buf))
    moves-call (read_call out ch buf received) = moves-out _ _ _ _ (λ f a. read-goes l ok delayed i there ch (length buf) (bytes_in received))
    moves-call (write_call spending out ch bytes received) = moves-out _ _ _ _ (λ f a. write-goes l ok delayed i there spending ch (length out) (bytes_in bytes) (bytes_in received))
    moves-call (close_call out ch) = moves-out _ _ _ _ (λ f a. close-goes l ok delayed i there ch f)
    moves-call front_taken = moves-checked _ _ _ (λ f a. front-goes l ok delayed i there)
    moves-call (look_call (numbers_look ch)) = moves-checked _ _ _ (λ f a. idle l ok delayed i there [] (numbers_for l ch))
    moves-call (accept_call out) = moves-out _ _ _ _ (λ f a. accept-goes l ok delayed i there)
    moves-call (reject_call out) = moves-out _ _ _ _ (λ f a. reject-goes l ok delayed i there)
    moves-call let_go_call = moves-checked _ _ _ (λ f a. let-go-goes l ok delayed i there)
    moves-call (verdict_call out take remote credit) = moves-out _ _ _ _ (λ f a. verdict-goes l ok delayed i there take (record { 0 = word_in remote.0 }) (word_in credit))

-- ---- what is kept between calls

-- the budget is the book's, while its sums are of 63 bits
abbrev pub Sound : List ChannelSlot → ℕ → Credit → Type 0
Sound ts i k =
    (slot_in ts i).filled ≡ true → k.told ≡ true → k.opening + k.added < 2 ^ 63 → k.sent < 2 ^ 63 → (slot_in ts i).send_budget ≡ pos (k.opening + k.added) -ℤ pos k.sent

abbrev pub none-read : ℕ → Bool
none-read i = false

module _ (w : World) (r : List ℕ) (rx store : ℕ) where
  abbrev now-agreed : Negotiated
  now-agreed = (state_of w.state).header.negotiated

  abbrev here : List ChannelSlot
  here = (state_of w.state).slots

  module _ (h : Holds now-agreed r rx store w) (long : now-agreed.config.channels * (2 * cap_of now-agreed.config) ≤ length w.rx) (far : Distinct w) (delayed : (policy_of now-agreed).delayed ≡ true)
      (y : Ledger) (kept : Kept none-read now-agreed w y) (i : ℕ) (k : Credit) (sound : Sound here i k) (x : Call) (next-far : Distinct (after w x)) where
    abbrev o : Outcome
    o = outcome w x

    abbrev there-after : List ChannelSlot
    there-after = slots_by here o.changes

    slots-are : (state_of (after w x).state).slots ≡ there-after
    slots-are = ap (λ (d : Connection). d.slots) (state-after now-agreed r rx store w h x) ∙ slots-by (state_of w.state) o.changes

    tab : TableOk (policy (lent w)) now-agreed.config.channels here w.rx
    tab = table none-read w r rx store h long far

    pend : is_ours (state_of w.state).header.pending.what ≡ true → ((state_of w.state).header.pending.slot < 64) × ((slot_in here (state_of w.state).header.pending.slot).filled ≡ false)
    pend t = (placed none-read w r rx store h long far t, empty none-read w r rx store h long far t)

    far-by : (ts : List ChannelSlot) → (state_of (after w x).state).slots ≡ ts → (j : ℕ) → (slot_in ts i).filled ≡ true → (slot_in ts j).filled ≡ true → (slot_in ts j).local.0 ≡ (slot_in ts i).local.0 → j ≡ i
    far-by ts e j =
        subst (λ (z : List ChannelSlot). (slot_in z i).filled ≡ true → (slot_in z j).filled ≡ true → (slot_in z j).local.0 ≡ (slot_in z i).local.0 → j ≡ i) e (λ f g q. next-far j i g f q)

    abbrev credit-now : Credit
    credit-now = credit_after i x (heard_of now-agreed o) (book_at y i) k

    -- a channel that was there
    stays-sound : (slot_in here i).filled ≡ true → Sound there-after i credit-now
    unfolding credit_after
    stays-sound f =
        let b = book_at y i in
        let g = (kept.each i).full f in
        let own = (slot_in here i).local.0 in
        let a = added_in (received_in x) (answer_number o.answer) o.used own in
        let n = writes_in own o.frames in
        let q : Credit = record { told = k.told; opening = k.opening; added = k.added + a; sent = k.sent + n } in
        let e : credit_after i x (heard_of now-agreed o) b k ≡ q =
        cond-true b.there _ _ g.there ∙ ap (λ (v : ℕ). moved x (heard_of now-agreed o) v k) g.loc
        ∙ ap (λ (v : ℕ). record { told = k.told; opening = k.opening; added = k.added + a; sent = k.sent + v }) (heard-writes now-agreed own o.frames) in
        subst (Sound there-after i) (sym e)
        (λ fill told u v. let t = moves-call w tab delayed i pend f x fill (λ j. far-by there-after slots-are j fill) in
        let z : k.opening + k.added + a ≡ k.opening + (k.added + a) = omega arith in
        t (k.opening + k.added) k.sent (omega arith) v (sound f told (omega arith) (omega arith)) ∙ ap (λ (d : ℕ). pos d -ℤ pos (k.sent + n)) z)

    -- one that the call fills the place with
    begins-sound : (slot_in here i).filled ≡ false → Sound there-after i credit-now
    unfolding credit_after
    begins-sound f =
        let b = book_at y i in
        let e : credit_after i x (heard_of now-agreed o) b k ≡ begun_by i x (heard_of now-agreed o) k = cond-false b.there _ _ ((kept.each i).none f).gone in
        subst (Sound there-after i) (sym e) (λ fill told u v. begins-call w tab delayed i pend f k x (map (sent_of now-agreed) o.frames) fill told)

    sound-next : Sound (state_of (after w x).state).slots i (credit_after i x (seen_of (record { call = x; held = held_of w x })) (book_at y i) k)
    sound-next =
        subst (Sound (state_of (after w x).state).slots i) (sym (ap (λ (s : Seen). credit_after i x s (book_at y i) k) (seen-is now-agreed r rx store w h x)))
        (subst (λ (ts : List ChannelSlot). Sound ts i credit-now) (sym slots-are) (by-test (slot_in here i).filled stays-sound begins-sound))

-- ---- lists of calls

module _ (n : Negotiated) (r : List ℕ) (rx store : ℕ) (long : n.config.channels * (2 * cap_of n.config) ≤ rx) (delayed : (policy_of n).delayed ≡ true) (i : ℕ) where
  pub sound-step : (w : World) → Holds n r rx store w → Distinct w → (y : Ledger) → Kept none-read n w y → (k : Credit) → Sound (state_of w.state).slots i k → (x : Call) → Distinct (after w x)
      → Sound (state_of (after w x).state).slots i (credit_after i x (seen_of (record { call = x; held = held_of w x })) (book_at y i) k)
  sound-step w h far y kept k sound x next =
      let m = (state_of w.state).header.negotiated in
      let e : m ≡ n = h.facts.header.negotiated in
      let G : Negotiated → Type 0 =
      λ z. Holds z r rx store w → z.config.channels * (2 * cap_of z.config) ≤ rx → (policy_of z).delayed ≡ true → Kept none-read z w y
      → Sound (state_of (after w x).state).slots i (credit_after i x (seen_of (record { call = x; held = held_of w x })) (book_at y i) k) in
      subst G e
      (λ hm lm dm km. let a = hm.rx-length in
      sound-next w r rx store hm (subst (λ (z : ℕ). m.config.channels * (2 * cap_of m.config) ≤ z) (sym a) lm) far dm y km i k sound x next) h long delayed kept

  sound-all : (w : World) → Holds n r rx store w → Distinct w → (y : Ledger) → Kept none-read n w y → (k : Credit) → Sound (state_of w.state).slots i k → (cs : List Call) → Apart w cs
      → Sound (state_of (after_all w cs).state).slots i (credits_of (policy_of n) i y k (events_of w cs))
  unfolding after_all events_of credits_of Apart
  sound-all w h far y kept k sound [] a = sound
  sound-all w h far y kept k sound (x ∷ cs) a =
      let o = seen_of (record { call = x; held = held_of w x }) in
      let s = step none-read n w r rx store h long far y kept x (λ j t. absurd (true≢false (sym t))) in
      sound-all (after w x) (holds_after n r rx store w h x) a.0 (entry (policy_of n) x o y) s.kept (credit_after i x o (book_at y i) k) (sound-step w h far y kept k sound x a.0) cs a.1

pub budgets : Budgets
budgets s cs apart delayed i fill =
    let n = agreed_in s in
    let e = fresh_start s in
    let none = no_slot n (begins s) e i in
    by-test (stores_fit s.config (length s.rx) (length s.store))
    (λ t. sound-all n (drop state_len s.state) (length s.rx) (length s.store) (fits-long s.config s.version s.most s.host s.device (length s.rx) (length s.store) t) delayed i
    (begins s) (starts s) (fresh-far n (begins s) e) clean (fresh_kept n (begins s) e none-read) no_credit (λ f. absurd (true≢false (sym f ∙ none))) cs apart fill)
    (λ t. absurd (true≢false (sym fill ∙ ap (λ (v : World). (slot_in (state_of v.state).slots i).filled) (always-8 s t cs).0 ∙ none)))
