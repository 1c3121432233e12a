-- No OPEN comes from a device's end, so none is queued at ours, and none offered. Assumes nothing.
use mathlib.Core.Path.{◌≡◌, refl, sym, ap, subst, ◌∙◌}
use mathlib.Core.Bool.{Bool, false, true≢false}
use mathlib.Core.List.{List, [], ◌∷◌}
use Prim.Native.Nat.{ℕ}
use native.Mathlib.Omega.{arith}
use lib.Dec.{eqb, ltb}
use lib.ListN.{length, take}
use borrow.Author.Tests.{ne_eqb}
use Rattle.le.specs.Le.{num_of}
use Rattle.le.proofs.Parts.{by-test}
use Rattle.slot.proofs.Kept.{pick}
use Rattle.slot.proofs.Laws.{cond-true, cond-false}
use Rattle.config.specs.Config.{stores_fit}
use Rattle.incoming.specs.Incoming.{Incoming, withdrawn}
use Rattle.protocol.specs.declared.command.Command.{Command}
use Rattle.protocol.specs.declared.command.Command.TheVariants.{Sync, Connect, Open, Ready, Close, Write, Auth, StartTls}
use Rattle.protocol.specs.declared.packet.Packet.{Packet}
use Rattle.protocol.specs.Command.{is_open, is_the, word_of, letters_of}
use Rattle.slot.specs.declared.ChannelSlot.{ChannelSlot}
use Rattle.slot.specs.declared.ids.RemoteId.{RemoteId}
use Rattle.state.specs.State.{is_offer, Connection, state_of}
use Rattle.state.specs.Change.{Change, changed_all}
use Rattle.state_whole.specs.Whole.{is_whole}
use Rattle.table_dispatch.specs.Dispatch.{remote_place}
use Rattle.connection.specs.declared.Answer.{Answer}
use Rattle.connection.specs.Answer.{answer_number}
use Rattle.connection.specs.Calls.{Lent, Outcome, checked, checked_out, is_offered, not_offered, accept_step, accept_outcome, received_by, received_of, body_of, ends}
use Rattle.connection.specs.Frames.{Sent}
use Rattle.history.specs.Book.{Ledger}
use Rattle.history.specs.Run.{Call, open_call, dispatch_call, settle_call, take_call, read_call, write_call, close_call, front_taken, look_call, accept_call, reject_call, let_go_call, verdict_call, bytes_in, received_in, World, lent, outcome, after}
use Rattle.history.specs.Queue.{queue_in, offered_in, offer_of, QueueMove, stays, withdraws, moved, command_move, packet_move, used_move, received_move, back_move, move_of, NotFront, Queues}
use Rattle.history.proofs.Never13.{state-after}
use Rattle.history.proofs.Queue.{queues}
use Rattle.history_frames.proofs.Receipt.{decodes}
use Rattle.ends.proofs.Lined.{Packeted, idle, took}
use Rattle.ends.proofs.Live.{agreed-of, Live}
use Rattle.std.specs.Prelude.{Option, Some, None, Result, Ok}

-- nothing is queued, and nothing offered
pub record Silent (w : World) : Type 0 where
  pub none : queue_in w ≡ []
  pub unoffered : is_offered (lent w) ≡ false

-- ---- an accept

abbrev Declined : Outcome → Type 0
Declined o = (eqb (answer_number o.answer) 0 ≡ false) × (o.frames ≡ [])

pub accept-declines : (w : World) (out : List ℕ) → Silent w → Declined (outcome w (accept_call out))
unfolding outcome accept_outcome checked_out checked accept_step ends answer_number
accept-declines w out s =
    let l = lent w in
    let step : Declined (accept_step l) = subst Declined (sym (cond-false (is_offered l) _ (not_offered l) s.unoffered)) (refl, refl) in
    pick Declined (is_whole w.state)
    (λ a. pick Declined (stores_fit l.state.header.negotiated.config (length l.rx) (length l.store)) (λ b. pick Declined (ltb (length out) 56) (λ d. (refl, refl)) (λ d. step)) (λ b. (refl, refl)))
    (λ a. (refl, refl))

-- ---- what a packet does to an empty queue

withdrawn-none : (channels : ℕ) (remote : RemoteId) → moved channels (withdraws remote) [] ≡ []
unfolding moved withdrawn
withdrawn-none channels remote = refl

command-quiet : (channels n : ℕ) (ss : List ChannelSlot) (c : Command) (a b : ℕ) (payload : List ℕ) → is_open c ≡ false → moved channels (command_move n ss c a b payload) [] ≡ []
unfolding command_move moved is_open is_the word_of letters_of num_of
command-quiet channels n ss Sync a b payload e = refl
command-quiet channels n ss Connect a b payload e = refl
command-quiet channels n ss Open a b payload e = absurd (true≢false e)
command-quiet channels n ss Ready a b payload e = refl
command-quiet channels n ss Close a b payload e =
    let G : QueueMove → Type 0 = λ m. moved channels m [] ≡ [] in
    pick G (eqb b 0)
    (λ t. pick G (ltb (remote_place n ss (record { 0 = a })) n) (λ u. refl) (λ u. withdrawn-none channels (record { 0 = a }))) (λ t. refl)
command-quiet channels n ss Write a b payload e = refl
command-quiet channels n ss Auth a b payload e = refl
command-quiet channels n ss StartTls a b payload e = refl

module _ (channels : ℕ) (l : Lent) (received : List ℕ) (o : Outcome) where
  abbrev limit : ℕ
  limit = l.state.header.negotiated.config.max_payload

  received-quiet : (takes : Packet → Bool) (got : Option Sent) → Packeted received limit o got → ((f : Sent) → got ≡ Some f → is_open f.command ≡ false)
      → moved channels (received_move l takes received o.used) [] ≡ []
  unfolding used_move packet_move moved received_of received_by
  received-quiet takes None (idle u) q =
      ap (λ (m : QueueMove). moved channels m []) (cond-true (eqb o.used 0) stays (packet_move l takes received (received_of l received)) (ap (λ (x : ℕ). eqb x 0) u))
  received-quiet takes (Some f) (took k g sy c a0 a1 pay us four) q =
      let e : received_of l received ≡ Ok k = ap received_by (decodes received limit k sy) in
      let some : eqb o.used 0 ≡ false = ne_eqb o.used 0 (λ z. omega arith) in
      let G : QueueMove → Type 0 = λ m. moved channels m [] ≡ [] in
      subst G (sym (cond-false (eqb o.used 0) stays (packet_move l takes received (received_of l received)) some))
      (subst (λ (r : Result Packet (Answer × ℕ)). G (packet_move l takes received r)) (sym e)
      (pick G (takes k) (λ t. refl)
      (λ t. command-quiet channels l.state.header.negotiated.config.channels l.state.slots k.command k.arg0 k.arg1 (body_of received k) (sym (ap is_open c) ∙ q f refl))))

-- ---- each call

module _ (channels : ℕ) (w : World) (s : Silent w) where
  back-none : back_move (offered_in w) ≡ stays
  unfolding offer_of back_move
  back-none = ap back_move (cond-false (is_offered (lent w)) _ [] s.unoffered)

  call-quiet : (x : Call) (got : Option Sent) → Packeted (received_in x) (lent w).state.header.negotiated.config.max_payload (outcome w x) got
      → ((f : Sent) → got ≡ Some f → is_open f.command ≡ false) → moved channels (move_of w x) [] ≡ []
  unfolding move_of moved received_in
  call-quiet (open_call out destination received) got tk q = received-quiet channels (lent w) (bytes_in received) (outcome w (open_call out destination received)) _ got tk q
  call-quiet (dispatch_call out received) got tk q = received-quiet channels (lent w) (bytes_in received) (outcome w (dispatch_call out received)) _ got tk q
  call-quiet (settle_call out ch want) got tk q = refl
  call-quiet (take_call ch buf) got tk q = refl
  call-quiet (read_call out ch buf received) got tk q = received-quiet channels (lent w) (bytes_in received) (outcome w (read_call out ch buf received)) _ got tk q
  call-quiet (write_call spending out ch bytes received) got tk q =
      received-quiet channels (lent w) (bytes_in received) (outcome w (write_call spending out ch bytes received)) _ got tk q
  call-quiet (close_call out ch) got tk q = refl
  call-quiet front_taken got tk q = refl
  call-quiet (look_call x) got tk q = refl
  call-quiet (accept_call out) got tk q = refl
  call-quiet (reject_call out) got tk q = refl
  call-quiet let_go_call got tk q = ap (λ (m : QueueMove). moved channels m []) back-none
  call-quiet (verdict_call out take remote credit) got tk q = refl

-- ---- after a call

one-none : {A : Type 0} (a : A) → a ∷ [] ≡ [] → ⊥
one-none a e = absurd (let z = ap length e in omega arith)

offer-none : (l : Lent) → offer_of l ≡ [] → is_offered l ≡ false
unfolding offer_of
offer-none l e = by-test (is_offered l) (λ t. absurd (one-none _ (sym (cond-true (is_offered l) _ [] t) ∙ e))) (λ t. t)

module _ (r : List ℕ) (rx store b g : ℕ) (w : World) (y : Ledger) (live : Live r rx store b g w y) (s : Silent w) where
  abbrev q : Queues (agreed-of w).config.channels w
  q = queues (agreed-of w) r rx store live.fit w live.holds

  -- any call but taking the front
  unoffered-after : (x : Call) → NotFront x → is_offered (lent (after w x)) ≡ false
  unoffered-after x nf =
      by-test (is_offered (lent (after w x)))
      (λ t. let e : state_of (after w x).state ≡ state_of w.state =
      state-after (agreed-of w) r rx store w live.holds x ∙ ap (λ (cs : List Change). changed_all (state_of w.state) cs) (q.ended x nf t) in
      absurd (true≢false (sym t ∙ ap (λ (c : Connection). is_offer c.header.pending.what) e ∙ s.unoffered)))
      (λ t. t)

  unoffered-front : is_offered (lent (after w front_taken)) ≡ false
  unoffered-front = offer-none (lent (after w front_taken)) (q.offered ∙ ap (λ (z : List Incoming). take 1 z) s.none)

  unoffered : (x : Call) → is_offered (lent (after w x)) ≡ false
  unoffered (open_call out destination received) = unoffered-after (open_call out destination received) tt
  unoffered (dispatch_call out received) = unoffered-after (dispatch_call out received) tt
  unoffered (settle_call out ch want) = unoffered-after (settle_call out ch want) tt
  unoffered (take_call ch buf) = unoffered-after (take_call ch buf) tt
  unoffered (read_call out ch buf received) = unoffered-after (read_call out ch buf received) tt
  unoffered (write_call spending out ch bytes received) = unoffered-after (write_call spending out ch bytes received) tt
  unoffered (close_call out ch) = unoffered-after (close_call out ch) tt
  unoffered front_taken = unoffered-front
  unoffered (look_call x) = unoffered-after (look_call x) tt
  unoffered (accept_call out) = unoffered-after (accept_call out) tt
  unoffered (reject_call out) = unoffered-after (reject_call out) tt
  unoffered let_go_call = unoffered-after let_go_call tt
  unoffered (verdict_call out take remote credit) = unoffered-after (verdict_call out take remote credit) tt

  pub silent-next : (x : Call) (got : Option Sent) → Packeted (received_in x) (lent w).state.header.negotiated.config.max_payload (outcome w x) got
      → ((f : Sent) → got ≡ Some f → is_open f.command ≡ false) → Silent (after w x)
  silent-next x got tk f =
      record {
        none = q.moves x ∙ ap (moved (agreed-of w).config.channels (move_of w x)) s.none ∙ call-quiet (agreed-of w).config.channels w s x got tk f;
        unoffered = unoffered x;
      }
