-- What every call writes: at most two frames that are read back, within its buffers; so a caller sees just what the call's
-- outcome says. Assumes nothing.
use mathlib.Core.Path.{◌≡◌, refl, sym, ap, subst, ◌∙◌}
use mathlib.Core.Bool.{Bool, true, false, not, cond, ◌&&◌, true≢false}
use mathlib.Core.List.{List, [], ◌∷◌, ◌++◌}
use Prim.Native.Nat.{ℕ, zero, suc, ◌+◌, ◌*◌, ◌^◌, ◌≤◌, ◌<◌}
use native.Mathlib.Omega.{arith}
use lib.Dec.{eqb, ltb, leb}
use lib.ListN.{length, take, get_or, set, length-append, length-take, length-set}
use borrow.Author.Tests.{eqb-true, eqb-false, ltb-true, ltb-false, leb-true}
use Rattle.le.specs.Le.{num_of, part, Bytes}
use Rattle.le.proofs.Laws.{num_of-part}
use Rattle.le.proofs.Parts.{by-test, length_part}
use Rattle.config.specs.declared.negotiated.Negotiated.{Negotiated}
use Rattle.config.specs.declared.negotiated.RxPolicy.{RxPolicy}
use Rattle.config.specs.Config.{within_limits, cap_of, opening_credit, stores_fit}
use Rattle.config.specs.Negotiated.{policy_of, offered_credit}
use Rattle.config.proofs.Laws.{and-true, within, sound as limits}
use Rattle.incoming.specs.Incoming.{popped, returned}
use Rattle.protocol.specs.declared.command.Command.TheVariants.{Write, Open}
use Rattle.protocol.specs.declared.packet.Packet.{Packet}
use Rattle.checksum.specs.Checksum.{policy_for, check_for}
use Rattle.protocol.specs.Message.{message_of}
use Rattle.protocol.specs.Packet.{payload_limit, packet_of}
use Rattle.protocol.proofs.PacketLaws.{frame-length}
use Rattle.protocol.proofs.RoundTrip.{Says}
use Rattle.protocol.specs.Command.{is_ready, is_close, is_write}
use Rattle.slot.specs.declared.ChannelSlot.{ChannelSlot}
use Rattle.slot.specs.declared.Spending.{Spending}
use Rattle.slot.specs.declared.ChannelError.{ChannelError}
use Rattle.slot.specs.Ids.{closed_by}
use Rattle.slot.specs.Slot.{empty_slot, is_opening, is_failed, slot_ok, is_closed, ready_of, delivered_of, settled_of, taken_of, leave_of, has_data, take_len, took_of, error_of, SlotOk}
use Rattle.slot.proofs.Kept.{pick, sound, settled-sound}
use Rattle.slot.proofs.Laws.{cond-true, cond-false, take-held}
use Rattle.state.specs.declared.Header.{Header}
use Rattle.state.specs.Change.{Change, slot_to, changed_all}
use Rattle.state.specs.State.{is_ours, is_state, state_of, none_queued}
use Rattle.state_whole.specs.Whole.{filled_ok, slot_fine, slots_fine, pending_fine, header_fine, filled_at, whole, is_whole}
use Rattle.le.proofs.RowLaws.{Every, every_append}
use Rattle.state.proofs.StateLaws.{Fits, SlotFits, OpenFits}
use Rattle.state_whole.proofs.WholeLaws.{whole-fits}
use Rattle.connection.proofs.WholeWork.{long}
use Rattle.table.specs.declared.ChannelId.{ChannelId}
use Rattle.table.specs.declared.Want.TheVariants.{Empty}
use Rattle.table.specs.Table.{wanted_by, place_of, numbered, allocated, slot_in}
use Rattle.rx_store.specs.RxStore.{share_of, front_of}
use Rattle.rx_store.proofs.ShareLaws.{share_in}
use Rattle.connection.specs.declared.Answer.{Answer}
use Rattle.connection.specs.declared.Answer.TheVariants.{Waiting, Nothing, Read, Refused, Done, Opened}
use Rattle.connection.specs.declared.Refusal.TheVariants.{ChannelClosed}
use Rattle.connection.specs.Answer.{answer_number, answer_values}
use Rattle.connection.specs.Act.{Acted, act_on}
use Rattle.connection.specs.Calls.{looked, numbers_for, numbers_outcome, Lent, Outcome, Work, begun, then, then_acted, storing, ends, checked, checked_out, dropped, pending_for, policy, ids_in, is_there, slot_for, ack_frames, received_of, error_refusal, fault_refusal, unless_fault, body_of, frame_len, dispatch_by, dispatch_step, settled_as, settle_step, taken_by, take_step, reread, read_settled, read_acted, is_direct, read_direct, read_by, read_taken, read_first, read_step, send_len, send_some, send_by, send_again, write_readied, write_acted, write_act, write_by, write_first, write_on, write_step, close_step, take_front_by, take_front_step, open_on, still_pending, open_readied, open_acted, open_by, open_step, open_outcome, dispatch_outcome, settle_outcome, take_outcome, read_outcome, write_outcome, close_outcome, take_front_outcome, accept_outcome, reject_outcome, let_go_outcome, verdict_outcome, offer_in, is_offered, reject_on, accept_on, accept_step, reject_step, let_go_step, verdict_step}
use Rattle.connection.specs.Frames.{Frame, close_frame, open_frame, write_frame, frame_bytes, frames_bytes, okay_frame}
use Rattle.history.specs.Run.{look_outcome, bytes_in, Call, open_call, dispatch_call, settle_call, take_call, read_call, write_call, close_call, front_taken, look_call, numbers_look, accept_call, reject_call, let_go_call, verdict_call, out_of, buf_of, World, lent, outcome}
use Rattle.history.specs.Seen.{count_of, held_of, Seen, seen_of}
use Rattle.history.specs.Book.{acks_of, last_open}
use Rattle.history.proofs.Acts.{acks_in}
use Rattle.history.proofs.Heard.{Writes, counted, heard-acks, open_in, heard-open, heard_of, heard-call}
use Rattle.history.proofs.Never13.{Holds, holds_kept}
use Rattle.history.proofs.Opens.{refused-some}
use Rattle.history.proofs.Packets.{Got, stopped, packet, got, reads-arg0, reads-arg1, body-length}
use Rattle.connection.proofs.Slots.{slots-by, slot-set-same, slot-set-other}
use Rattle.history.proofs.Bytes.{bytes-in, word-in}
use Rattle.connection.proofs.Sending.{IdsFit, Few, bytes-append, bytes_one, few-none, few-join, few-close, few-ack, Rests, quiet, same, clear, Own, ReadiedIds, ready-ids, some, Acts, acts, settled-ids, settled-small, silent-clear, silent-again, Taking, took, nothing, shut, taking, no-data, delivered-ids, delivered-small, FrameFits, few-okay}
use Rattle.slot.specs.declared.ids.RemoteId.{RemoteId}
use Rattle.state.specs.declared.QueuedOpen.{QueuedOpen}
use Rattle.slot.specs.declared.ChannelFault.{ChannelFault}
use Rattle.std.specs.Prelude.{Option, Some, None, Result, Ok, Err}
use Rattle.credit.specs.declared.CreditFault.{CreditFault}
use Rattle.table.specs.declared.NoFreeChannels.{NoFreeChannels}

-- ---- what is asked of a state

-- its channels' numbers are of 32 bits, a filled slot's numbers are within its share, the limits are kept
pub record Able (l : Lent) : Type 0 where
  pub next : l.state.header.next_local < 2 ^ 32
  pub pending-open : l.state.header.pending.local.0 < 2 ^ 32
  pub credit : offered_credit l.state.header.negotiated < 2 ^ 31
  pub offered : (offer_in l).remote.0 < 2 ^ 32
  pub most : l.state.header.negotiated.max_payload ≤ payload_limit
  pub size : length l.state.slots ≡ 64
  pub channels : l.state.header.negotiated.config.channels ≤ 64
  pub ids : (j : ℕ) → IdsFit (ids_in (slot_in l.state.slots j))
  pub sound : (j : ℕ) → (slot_in l.state.slots j).filled ≡ true → SlotOk (slot_in l.state.slots j) (policy l).rx_cap

every-ids : (ss : List ChannelSlot) (j : ℕ) → Every SlotFits ss → IdsFit (ids_in (slot_in ss j))
unfolding slot_in empty_slot
every-ids [] j e = record { local = omega arith; remote = omega arith }
every-ids (s ∷ ss) zero e = record { local = e.0.local; remote = e.0.remote }
every-ids (s ∷ ss) (suc j) e = every-ids ss j e.1

-- a filled slot of a whole state is sound
fine-at : (channels cap i : ℕ) (ss : List ChannelSlot) (j : ℕ) → slots_fine channels cap i ss ≡ true → (slot_in ss j).filled ≡ true → slot_ok (slot_in ss j) cap ≡ true
unfolding slots_fine slot_fine filled_ok slot_in empty_slot
fine-at channels cap i [] j e f = absurd (true≢false (sym f))
fine-at channels cap i (s ∷ ss) zero e f =
    let a = (and-true (slot_fine channels cap i s) (slots_fine channels cap (suc i) ss) e).0 in
    let b : (ltb i channels && filled_ok s cap) ≡ true = sym (cond-true s.filled _ _ f) ∙ a in
    (and-true (not (is_opening s.state) && not (is_failed s.failed) && s.has_remote) (slot_ok s cap) (and-true (ltb i channels) (filled_ok s cap) b).1).1
fine-at channels cap i (s ∷ ss) (suc j) e f = fine-at channels cap (suc i) ss j (and-true (slot_fine channels cap i s) (slots_fine channels cap (suc i) ss) e).1 f

-- so are the remote numbers of the queue's entries
every-remote : (os : List QueuedOpen) (j : ℕ) → Every OpenFits os → (get_or os j none_queued).remote.0 < 2 ^ 32
every-remote [] j e = omega arith
every-remote (q ∷ os) zero e = e.0.remote
every-remote (q ∷ os) (suc j) e = every-remote os j e.1

-- a whole state whose numbers fit their fields
pub able-whole : (l : Lent) → Fits l.state → whole l.state ≡ true → Able l
unfolding whole header_fine offered_credit opening_credit policy_of
able-whole l f e =
    let h = l.state.header in
    let c = h.negotiated.config in
    let fine = slots_fine c.channels (cap_of c) 0 l.state.slots in
    let pending-ok = pending_fine h (filled_at l.state.slots h.pending.slot) in
    let a = and-true (header_fine h) fine (and-true (header_fine h && fine) pending-ok (and-true (header_fine h && fine && pending-ok) _ e).0).0 in
    let b₄ = (and-true _ (leb h.queued c.channels) a.0).0 in
    let b₃ = (and-true _ (not (eqb h.next_local 0)) b₄).0 in
    let b₂ = (and-true _ (leb h.negotiated.protocol_version 0x0100_0001) b₃).0 in
    let b = and-true (within_limits c) (leb h.negotiated.max_payload 1_048_576) b₂ in
    let w = within c b.0 in
    let i = w.most-credit in
    record {
      next = f.header.next;
      pending-open = f.header.local;
      credit = pick (λ (x : ℕ). x < 2 ^ 31) h.negotiated.delayed_ack (λ d. omega arith) (λ d. omega arith);
      offered = every-remote l.state.queue h.queued f.queue;
      most = leb-true h.negotiated.max_payload 1_048_576 b.1;
      size = f.full.slots;
      channels = w.most-channels;
      ids = λ j. every-ids l.state.slots j f.slots;
      sound = λ j t. sound (slot_in l.state.slots j) (cap_of c) (limits c w).cap-small (fine-at c.channels (cap_of c) 0 l.state.slots j a.1 t);
    }

-- the numbers of a packet
record Args (k : Packet) : Type 0 where
  arg0 : k.arg0 < 2 ^ 32
  arg1 : k.arg1 < 2 ^ 32

args : (received : List ℕ) (limit : ℕ) (k : Packet) → Bytes received → Says received limit k → Args k
unfolding message_of
args received limit k b r =
    let e0 = reads-arg0 received limit k r in
    let e1 = reads-arg1 received limit k r in
    let h0 : num_of (part received 4 4) < 2 ^ 32 = num_of-part 4 received 4 b in
    let h1 : num_of (part received 8 4) < 2 ^ 32 = num_of-part 4 received 8 b in
    record { arg0 = omega arith; arg1 = omega arith }

-- ---- a call's end

few-up : (n : Negotiated) (j k : ℕ) (fs : List Frame) → j ≤ k → Few n j fs → Few n k fs
few-up n j k fs h a = let x = a.few in let y = a.short in record { few = omega arith; each = a.each; short = omega arith }

-- no frames, and no acknowledgement
no_frames : (n : Negotiated) (fs : List Frame) → some fs ≡ false → Few n 0 fs
no_frames n [] e = few-none n 0
no_frames n (f ∷ fs) e = absurd (true≢false e)

no-ack : (n : Negotiated) (s : ChannelSlot) (a : Option ℕ) → a ≡ None → Few n 0 (ack_frames s a)
unfolding ack_frames
no-ack n s a e = subst (λ (x : Option ℕ). Few n 0 (ack_frames s x)) (sym e) (few-none n 0)

-- channels' numbers, with one slot anew
ids_set : (ss : List ChannelSlot) (i : ℕ) (t : ChannelSlot) → ((j : ℕ) → IdsFit (ids_in (slot_in ss j))) → IdsFit (ids_in t) → i < length ss → (j : ℕ) → IdsFit (ids_in (slot_in (set ss i t) j))
ids_set ss i t f g h j =
    by-test (eqb j i)
    (λ u. let e = eqb-true j i u in subst (λ (s : ChannelSlot). IdsFit (ids_in s)) (sym (ap (λ (x : ℕ). slot_in (set ss i t) x) e ∙ slot-set-same ss i t h)) g)
    (λ u. subst (λ (s : ChannelSlot). IdsFit (ids_in s)) (sym (slot-set-other ss i j t (eqb-false j i u))) (f j))

part-short : (l : List ℕ) (at n room : ℕ) → n ≤ room → length (part l at n) ≤ room
unfolding part
part-short l at n room h = simp length-take (omega arith)

module _ (n : Negotiated) (out room : ℕ) where
  -- with no frame
  writes-none : (o : Outcome) → o.frames ≡ [] → length o.handed ≤ room → Writes n out room o
  writes-none o e h =
      let f = few-none n 0 in
      let g : Few n 0 o.frames = subst (Few n 0) (sym e) f in
      let a = g.few in
      let b = g.short in
      record { few = omega arith; each = g.each; written = omega arith; handed = h }

  -- with frames of at most 28 bytes
  writes-few : 56 ≤ out → (w : Work) (a : Answer) (used : ℕ) (bytes : List ℕ) → Few n 2 w.frames → length bytes ≤ room → Writes n out room (ends w a used bytes)
  unfolding ends
  writes-few big w a used bytes f h =
      let x = f.few in
      let y = f.short in
      record { few = omega arith; each = f.each; written = omega arith; handed = h }

-- the refusals ahead of every step
module _ (l : Lent) (out room : ℕ) where
  abbrev n₀ : Negotiated
  n₀ = l.state.header.negotiated

  writes-checked : (whole : Bool) (o : Outcome) → (whole ≡ true → Writes n₀ out room o) → Writes n₀ out room (checked whole l o)
  unfolding checked
  writes-checked whole o f =
      pick (Writes n₀ out room) whole
      (λ t. pick (Writes n₀ out room) (stores_fit n₀.config (length l.rx) (length l.store)) (λ u. f t) (λ u. writes-none n₀ out room _ refl (omega arith)))
      (λ t. writes-none n₀ out room _ refl (omega arith))

  writes-checked-out : (whole : Bool) (o : Outcome) → (whole ≡ true → 56 ≤ out → Writes n₀ out room o) → Writes n₀ out room (checked_out whole l out o)
  unfolding checked_out
  writes-checked-out whole o f =
      writes-checked whole _ (λ t. pick (Writes n₀ out room) (ltb out 56) (λ u. writes-none n₀ out room _ refl (omega arith)) (λ u. f t (ltb-false out 56 u)))

-- ---- what an answer counts

-- what a read's or a take's answer counts is handed over, where the receive store keeps its length
abbrev pub Counts : Lent → Outcome → Type 0
Counts l x = length x.rx ≡ length l.rx → cond (eqb (answer_number x.answer) 0) (get_or (answer_values x.answer) 0 0) 0 ≡ length x.handed

-- the refusals ahead of every step count nothing
counts-checked : (l : Lent) (whole : Bool) (o : Outcome) → (whole ≡ true → stores_fit l.state.header.negotiated.config (length l.rx) (length l.store) ≡ true → Counts l o)
    → Counts l (checked whole l o)
unfolding checked answer_number
counts-checked l whole o f =
    pick (Counts l) whole
    (λ t. pick (Counts l) (stores_fit l.state.header.negotiated.config (length l.rx) (length l.store)) (λ u. f t u) (λ u z. refl))
    (λ t z. refl)

counts-checked-out : (l : Lent) (whole : Bool) (out : ℕ) (o : Outcome) → (whole ≡ true → stores_fit l.state.header.negotiated.config (length l.rx) (length l.store) ≡ true → 56 ≤ out → Counts l o)
    → Counts l (checked_out whole l out o)
unfolding checked_out answer_number
counts-checked-out l whole out o f =
    counts-checked l whole _ (λ t u. pick (Counts l) (ltb out 56) (λ v z. refl) (λ v. f t u (ltb-false out 56 v)))

-- ---- each step

-- what an open is allotted
data Allots : Result ChannelId NoFreeChannels → Type 0 where
  full : Allots (Err (record {}))
  allots : (ch : ChannelId) → ch.local.0 < 2 ^ 32 → Allots (Ok ch)

allotted : (h : Header) (ss : List ChannelSlot) → h.next_local < 2 ^ 32 → Allots (allocated h ss)
unfolding allocated
allotted h ss f =
    let c = h.negotiated.config.channels in
    let j = place_of Empty c ss in
    pick Allots (ltb j c) (λ t. allots (record { slot = j; local = record { 0 = h.next_local } }) f) (λ t. full)

module _ (l : Lent) (able : Able l) (out room : ℕ) where
  abbrev n : Negotiated
  n = l.state.header.negotiated

  abbrev h₀ : Header
  h₀ = dropped l.state.header

  abbrev W : Outcome → Type 0
  W = Writes n out room

  abbrev C : Outcome → Type 0
  C = Counts l

  record There (ch : ChannelId) : Type 0 where
    inside : ch.slot < n.config.channels
    below : ch.slot < 64
    sound : SlotOk (slot_for l ch) (policy l).rx_cap
    ids : IdsFit (ids_in (slot_for l ch))

  there : (ch : ChannelId) → is_there l ch ≡ true → There ch
  unfolding is_there wanted_by slot_for
  there ch e =
      let s = slot_in l.state.slots ch.slot in
      let f = and-true (ltb ch.slot n.config.channels) (s.filled && eqb s.local.0 ch.local.0) e in
      let g = and-true s.filled (eqb s.local.0 ch.local.0) f.1 in
      let b = ltb-true ch.slot n.config.channels f.0 in
      let c = able.channels in
      record { inside = b; below = omega arith; sound = able.sound ch.slot g.0; ids = able.ids ch.slot }

  -- an answer that is not done
  counts-none : (w : Work) (a : Answer) (used : ℕ) → eqb (answer_number a) 0 ≡ false → C (ends w a used [])
  unfolding ends
  counts-none w a used e z = cond-false (eqb (answer_number a) 0) _ 0 e

  counts_some : (w : Work) (k used : ℕ) (bytes : List ℕ) → (length w.rx ≡ length l.rx → length bytes ≡ k) → C (ends w (Read k) used bytes)
  unfolding ends answer_number answer_values
  counts_some w k used bytes f z = sym (f z)

  -- the store has each channel's share
  abbrev Shares : Type 0
  Shares = n.config.channels * (2 * (policy l).rx_cap) ≤ length l.rx

  front_length : Shares → (rx : List ℕ) → length rx ≡ length l.rx → (i : ℕ) → i < n.config.channels → (s : ChannelSlot) → SlotOk s (policy l).rx_cap → (k : ℕ) → k ≤ s.buffered
      → length (front_of rx (policy l).rx_cap i s.head k) ≡ k
  unfolding front_of share_of
  front_length big rx e i h s ok k f =
      let cap = (policy l).rx_cap in
      let a = length_part rx (i * (2 * cap)) (2 * cap) (share_in i n.config.channels (2 * cap) (length rx) h (omega arith)) in
      let r = ok.run_fits in
      length_part (part rx (i * (2 * cap)) (2 * cap)) s.head k (omega arith)

  error-some : (e : ChannelError) → eqb (answer_number (Refused (error_refusal e))) 0 ≡ false
  unfolding answer_number
  error-some e = refused-some (error_refusal e)

  unless-some : (f : Option ChannelFault) (a : Answer) → eqb (answer_number a) 0 ≡ false → eqb (answer_number (unless_fault f a)) 0 ≡ false
  unfolding unless_fault answer_number
  unless-some None a e = e
  unless-some (Some f) a e = refused-some (fault_refusal f)

  -- n bytes taken from a slot
  take-counts-by : Shares → (ch : ChannelId) → There ch → (s : ChannelSlot) (w : Work) (used : ℕ) → SlotOk s (policy l).rx_cap
      → C (ends w (Read (take_len s room)) used (front_of w.rx (policy l).rx_cap ch.slot s.head (take_len s room)))
  take-counts-by big ch c s w used ok =
      counts_some w (take_len s room) used _ (λ z. front_length big w.rx z ch.slot c.inside s ok (take_len s room) (take-held s room ok.settled-buffered))

  pub take-counts : Shares → (ch : ChannelId) → C (take_step l ch room)
  unfolding take_step taken_of taken_by answer_number
  take-counts big ch =
      let s = slot_for l ch in
      pick C (is_there l ch)
      (λ t. let c = there ch t in
      let P : Result (Option (ChannelSlot × ℕ)) ChannelError → Type 0 = λ y. C (taken_by l ch s (begun h₀ l) y) in
      pick P (has_data s) (λ d. take-counts-by big ch c s (then (begun h₀ l) (slot_to ch.slot (took_of s (take_len s room)) ∷ []) []) 0 c.sound)
      (λ d. pick P (is_closed s.state) (λ e. counts-none (begun h₀ l) (Refused (error_refusal (error_of s.failed))) 0 (error-some (error_of s.failed))) (λ e. counts-none (begun h₀ l) Nothing 0 refl)))
      (λ t. counts-none (begun h₀ l) (Refused ChannelClosed) 0 refl)

  -- taking
  take_by : (ch : ChannelId) (s : ChannelSlot) (x : Result (Option (ChannelSlot × ℕ)) ChannelError) → Taking s room x → W (taken_by l ch s (begun h₀ l) x)
  unfolding taken_by front_of ends
  take_by ch s x (took t k h) = writes-none n out room _ refl (part-short _ _ k room h)
  take_by ch s x (nothing e) = writes-none n out room _ refl (omega arith)
  take_by ch s x (shut e) = writes-none n out room _ refl (omega arith)

  pub take-writes : (ch : ChannelId) → W (take_step l ch room)
  unfolding take_step ends
  take-writes ch =
      pick W (is_there l ch) (λ t. take_by ch (slot_for l ch) _ (taking (slot_for l ch) room)) (λ t. writes-none n out room _ refl (omega arith))

  -- the front
  front_by : (h : Header) (xs : List Change) (f : Option (QueuedOpen × Header)) → W (take_front_by l h xs f)
  unfolding take_front_by ends
  front_by h xs (Some (q, less)) = writes-none n out room _ refl (omega arith)
  front_by h xs None = writes-none n out room _ refl (omega arith)

  pub front-writes : W (take_front_step l)
  unfolding take_front_step
  front-writes = front_by h₀ (popped h₀ l.state.queue).changes (popped h₀ l.state.queue).result

  pub let-go-writes : W (let_go_step l)
  unfolding let_go_step returned ends
  let-go-writes = pick W (is_offered l) (λ t. writes-none n out room _ refl (omega arith)) (λ t. writes-none n out room _ refl (omega arith))

  module _ (big : 56 ≤ out) where
    -- a call's end, with short frames
    done : (w : Work) (a : Answer) (used : ℕ) (bytes : List ℕ) → Few n 2 w.frames → length bytes ≤ room → W (ends w a used bytes)
    done = writes-few n out room big

    quit : (w : Work) (a : Answer) (used : ℕ) → Few n 2 w.frames → W (ends w a used [])
    quit w a used f = done w a used [] f (omega arith)

    -- nothing was written yet
    idle : (h : Header) (a : Answer) (used : ℕ) → W (ends (begun h l) a used [])
    idle h a used = quit (begun h l) a used (few-none n 2)

    -- one frame behind what was written
    two : (fs gs : List Frame) → Few n 1 fs → Few n 1 gs → Few n 2 (fs ++ gs)
    two fs gs = few-join n 1 1 2 fs gs (omega arith)

    no_more : (k : ℕ) (fs : List Frame) → Few n k fs → Few n k (fs ++ [])
    no_more k fs f = few-join n k 0 k fs [] (omega arith) f (few-none n 0)

    -- settling and closing
    pub settle-writes : (ch : ChannelId) (want : ℕ) → W (settle_step l ch want)
    unfolding settle_step settled_as policy_of
    settle-writes ch want =
        pick W (is_there l ch)
        (λ t. let c = there ch t in
        let s = slot_for l ch in
        quit (then (begun h₀ l) _ (ack_frames (settled_of s (policy l) want).slot (settled_of s (policy l) want).ack)) _ 0
        (few-up n 1 2 _ (omega arith) (few-ack n _ _ (settled-ids s (policy l) want c.ids) (λ d. settled-small s (policy l) want (policy l).rx_cap c.sound d))))
        (λ t. idle h₀ _ 0)

    pub close-writes : (ch : ChannelId) → W (close_step l ch)
    unfolding close_step
    close-writes ch =
        pick W (is_there l ch && (slot_for l ch).has_remote)
        (λ t. let c = there ch (and-true (is_there l ch) (slot_for l ch).has_remote t).0 in
        quit (then (begun h₀ l) _ (close_frame (ids_in (slot_for l ch)) ∷ [])) _ 0 (few-up n 1 2 _ (omega arith) (few-close n _ c.ids)))
        (λ t. idle h₀ _ 0)

    -- rejecting and accepting
    reject-on : (h : Header) (remote : RemoteId) (a : Answer) → remote.0 < 2 ^ 32 → W (reject_on l h remote a)
    unfolding reject_on
    reject-on h remote a f =
        quit (then (begun h l) [] (close_frame (record { local = record { 0 = 0 }; remote = remote }) ∷ [])) a 0 (few-up n 1 2 _ (omega arith) (few-close n _ (record { local = omega arith; remote = f })))

    pub reject-writes : W (reject_step l)
    unfolding reject_step
    reject-writes = pick W (is_offered l) (λ t. reject-on h₀ (offer_in l).remote Done able.offered) (λ t. idle h₀ _ 0)

    accept-on : (remote : RemoteId) (credit : ℕ) → remote.0 < 2 ^ 32 → (r : Result ChannelId NoFreeChannels) → Allots r → W (accept_on l h₀ remote credit r)
    unfolding accept_on
    accept-on remote credit f r full = reject-on h₀ remote _ f
    accept-on remote credit f r (allots ch g) =
        quit (then (begun (numbered h₀) l) _ (okay_frame (record { local = ch.local; remote = remote }) (offered_credit n) ∷ [])) (Opened ch) 0
        (few-up n 1 2 _ (omega arith) (few-okay n _ (offered_credit n) (record { local = g; remote = f }) (λ d. able.credit)))

    pub accept-writes : W (accept_step l)
    unfolding accept_step
    accept-writes =
        pick W (is_offered l)
        (λ t. accept-on (offer_in l).remote (offer_in l).credit able.offered (allocated l.state.header l.state.slots) (allotted l.state.header l.state.slots able.next))
        (λ t. idle h₀ _ 0)

    pub verdict-writes : (take : Bool) (remote : RemoteId) (credit : ℕ) → remote.0 < 2 ^ 32 → W (verdict_step l take remote credit)
    unfolding verdict_step
    verdict-writes take remote credit f =
        pick W take (λ t. accept-on remote credit f (allocated l.state.header l.state.slots) (allotted l.state.header l.state.slots able.next)) (λ t. reject-on h₀ remote Done f)

    -- a packet that is dispatched, whatever it leaves
    acted-few : (h : Header) → h.negotiated ≡ n → (k : Packet) (payload : List ℕ) → Args k
        → Acts ⊥ h l.state.slots 0 (act_on h l.state.slots l.state.queue l.rx l.store k payload)
    acted-few h e k payload a =
        let z = able.size in
        acts ⊥ h l.state.slots l.state.queue l.rx l.store k payload 0 able.ids (omega arith) (λ q. absurd q) a.arg0 a.arg1

    -- an OPEN
    open-sent : (destination : List ℕ) (ch : ChannelId) → ch.local.0 < 2 ^ 32 → length destination ≤ payload_limit → 24 + length destination ≤ out
        → W (ends (then (begun (pending_for (numbered l.state.header) ch) l) [] (open_frame ch.local (offered_credit n) destination ∷ [])) Waiting 0 [])
    unfolding ends frame_bytes
    open-sent destination ch f s r =
        let b = bytes_one n (open_frame ch.local (offered_credit n) destination) in
        let k = policy_for n.protocol_version in
        let e = frame-length Open ch.local.0 (offered_credit n) destination (check_for k destination) in
        record {
          few = omega arith;
          each = (record { sent = record { arg0-fits = f; arg1-fits = let q = able.credit in omega arith; small = s }; len-fits = λ d. omega arith }, tt);
          written = omega arith;
          handed = omega arith;
        }

    open-on : (destination : List ℕ) (r : Result ChannelId NoFreeChannels) → Allots r → W (open_on l out destination r)
    unfolding open_on
    open-on destination r full = idle h₀ _ 0
    open-on destination r (allots ch f) =
        pick W (ltb payload_limit (length destination)) (λ t. idle (numbered h₀) _ 0)
        (λ t. pick W (ltb out (24 + length destination)) (λ u. writes-none n out room _ refl (omega arith))
        (λ u. open-sent destination ch f (ltb-false payload_limit (length destination) t) (ltb-false out (24 + length destination) u)))

    module _ (received : List ℕ) (bytes : Bytes received) where
      abbrev limit : ℕ
      limit = n.config.max_payload

      -- dispatching
      dispatch-by : (r : Result Packet (Answer × ℕ)) → Got received limit r → W (dispatch_by l h₀ received r)
      unfolding dispatch_by
      dispatch-by r (stopped a used s) = idle h₀ a used
      dispatch-by r (packet k s) =
          let x = acted-few h₀ refl k (body_of received k) (args received limit k bytes s) in
          quit (then_acted (begun h₀ l) (act_on h₀ l.state.slots l.state.queue l.rx l.store k (body_of received k))) _ (frame_len k)
          (few-up n 1 2 _ (omega arith) x.writes)

      pub dispatch-writes : W (dispatch_step l received)
      unfolding dispatch_step
      dispatch-writes = dispatch-by (received_of l received) (got l received)

      -- a pending open goes on
      open-readied : (ch : ChannelId) (remote used : ℕ) (r : Result ChannelSlot CreditFault) → ch.local.0 < 2 ^ 32 → remote < 2 ^ 32 → W (open_readied l ch remote used r)
      unfolding open_readied
      open-readied ch remote used (Ok t) f g = quit (then (begun h₀ l) _ []) _ used (few-none n 2)
      open-readied ch remote used (Err b) f g =
          quit (then (begun h₀ l) _ (close_frame (record { local = ch.local; remote = record { 0 = remote } }) ∷ [])) _ used
          (few-up n 1 2 _ (omega arith) (few-close n _ (record { local = f; remote = g })))

      open-by : (ch : ChannelId) → ch.local.0 < 2 ^ 32 → (r : Result Packet (Answer × ℕ)) → Got received limit r → W (open_by l ch received r)
      unfolding open_by open_acted
      open-by ch f r (stopped a used s) = idle (still_pending a l.state.header) a used
      open-by ch f r (packet k s) =
          let g = args received limit k bytes s in
          let h = l.state.header in
          let x = acted-few h refl k (body_of received k) g in
          let mine = eqb k.arg1 ch.local.0 in
          pick W (is_ready k.command && mine) (λ t. open-readied ch k.arg0 (frame_len k) _ f g.arg0)
          (λ t. pick W (is_write k.command && mine)
          (λ u. quit (then (begun h₀ l) _ (close_frame (record { local = ch.local; remote = record { 0 = k.arg0 } }) ∷ [])) _ (frame_len k)
          (few-up n 1 2 _ (omega arith) (few-close n _ (record { local = f; remote = g.arg0 }))))
          (λ u. pick W (is_close k.command && mine) (λ v. idle h₀ _ (frame_len k))
          (λ v. quit (storing (then_acted (begun h l) (act_on h l.state.slots l.state.queue l.rx l.store k (body_of received k))) _) _ (frame_len k)
          (few-up n 1 2 _ (omega arith) x.writes))))

      pub open-writes : (destination : List ℕ) → W (open_step l out destination received)
      unfolding open_step
      open-writes destination =
          let h = l.state.header in
          pick W (is_ours h.pending.what)
          (λ t. open-by (record { slot = h.pending.slot; local = h.pending.local }) able.pending-open (received_of l received) (got l received))
          (λ t. open-on destination (allocated h l.state.slots) (allotted h l.state.slots able.next))

      -- ---- writing

      -- a WRTE, where its frame fits
      send-some : (ch : ChannelId) (given : List ℕ) (used : ℕ) (w : Work) (s : ChannelSlot) (most : ℕ) → Few n 1 w.frames → w.header.negotiated ≡ n → IdsFit (ids_in s)
          → W (send_some l ch out given used w s (send_len l given most))
      unfolding send_some send_len ends frame_bytes
      send-some ch given used w s most f e i =
          let k = send_len l given most in
          let b = take k given in
          let g = write_frame (ids_in s) b in
          let m = able.most in
          let x = f.few in
          let c : length b ≤ k = simp length-take (omega arith) in
          let z : k ≤ payload_limit = omega arith in
          pick W (ltb out (length (frames_bytes w.header.negotiated w.frames) + 24 + k)) (λ t. writes-none n out room _ refl (omega arith))
          (λ t. let v = ltb-false out (length (frames_bytes w.header.negotiated w.frames) + 24 + k) t in
          let q = ap (λ (y : Negotiated). length (frames_bytes y w.frames)) e in
          let y = length-append w.frames (g ∷ []) in
          let a = bytes-append n w.frames (g ∷ []) in
          let o = bytes_one n g in
          let p = policy_for n.protocol_version in
          let j = frame-length Write s.local.0 s.remote.0 b (check_for p b) in
          record {
            few = omega arith;
            each = every_append (FrameFits n) w.frames (g ∷ []) f.each
                (record { sent = record { arg0-fits = i.local; arg1-fits = i.remote; small = omega arith }; len-fits = λ d. omega arith }, tt);
            written = omega arith;
            handed = omega arith;
          })

      send-by : (ch : ChannelId) (given : List ℕ) (used : ℕ) (w : Work) (s : ChannelSlot) (r : Option ℕ) → Few n 1 w.frames → w.header.negotiated ≡ n → IdsFit (ids_in s)
          → W (send_by l ch out given used w s r)
      unfolding send_by
      send-by ch given used w s (Some most) f e i = send-some ch given used w s most f e i
      send-by ch given used w s None f e i = quit (then w _ []) _ used (few-join n 1 0 2 _ [] (omega arith) f (few-none n 0))

      send-again : (spending : Spending) (ch : ChannelId) (given : List ℕ) (used : ℕ) (w : Work) (s : ChannelSlot) → Few n 1 w.frames → w.header.negotiated ≡ n → IdsFit (ids_in s)
          → W (send_again spending l ch out given used w s)
      unfolding send_again
      send-again spending ch given used w s f e i =
          pick W (is_closed s.state) (λ t. quit (then w _ []) _ used (few-join n 1 0 2 _ [] (omega arith) f (few-none n 0)))
          (λ t. send-by ch given used w s (leave_of spending s (policy l)) f e i)

      write-readied : (spending : Spending) (ch : ChannelId) (given : List ℕ) (used : ℕ) (s : ChannelSlot) (r : Result ChannelSlot CreditFault) → ReadiedIds r → W (write_readied spending l ch out given used (begun h₀ l) s r)
      unfolding write_readied
      write-readied spending ch given used s (Ok t) i = send-again spending ch given used (begun h₀ l) t (few-none n 1) refl i
      write-readied spending ch given used s (Err b) i = idle h₀ _ used

      write-acted : (spending : Spending) (ch : ChannelId) (given : List ℕ) (used : ℕ) (a : Acted) (f : Option ChannelFault) → ch.slot < 64 → Acts ⊥ h₀ l.state.slots ch.slot a
          → W (write_acted spending l ch out given used (begun h₀ l) a f)
      unfolding write_acted
      write-acted spending ch given used a (Some f) b x = quit (then_acted (begun h₀ l) a) _ used (few-up n 1 2 _ (omega arith) x.writes)
      write-acted spending ch given used a None b x =
          send-again spending ch given used (then_acted (begun h₀ l) a) _ x.writes x.agreed
          (subst (λ (ss : List ChannelSlot). IdsFit (ids_in (slot_in ss ch.slot))) (sym (slots-by l.state a.changes)) x.own.ids)

      write-by : (spending : Spending) (ch : ChannelId) → There ch → (given : List ℕ) (r : Result Packet (Answer × ℕ)) → Got received limit r → W (write_by spending l ch out given (begun h₀ l) (slot_for l ch) received r)
      unfolding write_by write_act
      write-by spending ch c given r (stopped a used s) = idle h₀ a used
      write-by spending ch c given r (packet k s) =
          let g = args received limit k bytes s in
          let z = able.size in
          let b = c.below in
          let t = slot_for l ch in
          let a = act_on h₀ l.state.slots l.state.queue l.rx l.store k (body_of received k) in
          let x = acts ⊥ h₀ l.state.slots l.state.queue l.rx l.store k (body_of received k) ch.slot able.ids (omega arith) (λ q. absurd q) g.arg0 g.arg1 in
          pick W (is_ready k.command && eqb k.arg1 t.local.0)
          (λ u. write-readied spending ch given (frame_len k) t (ready_of t (body_of received k) (policy l)) (ready-ids t (body_of received k) (policy l) c.ids))
          (λ u. pick W (closed_by (ids_in t) k) (λ v. quit (then (begun h₀ l) _ []) _ (frame_len k) (few-none n 2))
          (λ v. write-acted spending ch given (frame_len k) a a.fault b x))

      write-first : (spending : Spending) (ch : ChannelId) → There ch → (given : List ℕ) (r : Option ℕ) → W (write_first spending l ch out given received (begun h₀ l) (slot_for l ch) r)
      unfolding write_first
      write-first spending ch c given (Some most) = send-some ch given 0 (begun h₀ l) (slot_for l ch) most (few-none n 1) refl c.ids
      write-first spending ch c given None =
          pick W (slot_for l ch).has_remote (λ t. write-by spending ch c given (received_of l received) (got l received)) (λ t. idle h₀ _ 0)

      pub write-writes : (spending : Spending) (ch : ChannelId) (given : List ℕ) → W (write_step spending l ch out given received)
      unfolding write_step write_on
      write-writes spending ch given =
          pick W (eqb (length given) 0) (λ t. idle h₀ _ 0)
          (λ t. pick W (is_there l ch)
          (λ u. pick W (is_closed (slot_for l ch).state) (λ v. idle h₀ _ 0) (λ v. write-first spending ch (there ch u) given (leave_of spending (slot_for l ch) (policy l))))
          (λ u. idle h₀ _ 0))

      -- ---- reading

      module _ (ch : ChannelId) (c : There ch) where
        abbrev p : RxPolicy
        p = policy l

        -- the first settling: its slot, and what is written by then
        abbrev s₁ : ChannelSlot
        s₁ = (settled_of (slot_for l ch) p room).slot

        abbrev fs₁ : List Frame
        fs₁ = ack_frames s₁ (settled_of (slot_for l ch) p room).ack

        abbrev w₁ : Work
        w₁ = then (begun h₀ l) [] fs₁

        ids₁ : IdsFit (ids_in s₁)
        ids₁ = settled-ids (slot_for l ch) p room c.ids

        few₁ : Few n 1 fs₁
        unfolding policy_of
        few₁ = few-ack n s₁ _ ids₁ (λ d. settled-small (slot_for l ch) p room p.rx_cap c.sound d)

        stop₁ : (xs : List Change) (a : Answer) (used : ℕ) → W (ends (then w₁ xs []) a used [])
        stop₁ xs a used = quit (then w₁ xs []) a used (few-join n 1 0 2 fs₁ [] (omega arith) few₁ (few-none n 0))

        -- straight to the reader
        read-direct : (k : Packet) → Says received limit k → is_direct s₁ room k ≡ true
            → W (read_direct ch (frame_len k) w₁ (body_of received k) (delivered_of s₁ p k.data_length))
        unfolding read_direct is_direct policy_of packet_of
        read-direct k s t =
            let e = body-length received limit k s in
            let m = s.known.within in
            let q = ap (λ (x : Packet). x.data_length) s.known.packet-is in
            let r = leb-true k.data_length room (and-true (is_write k.command && eqb k.arg1 s₁.local.0) (leb k.data_length room) t).1 in
            let d = delivered_of s₁ p k.data_length in
            done (then w₁ _ (ack_frames d.slot d.ack)) _ (frame_len k) (body_of received k)
            (two fs₁ _ few₁ (few-ack n d.slot d.ack (delivered-ids s₁ p k.data_length ids₁) (λ v. delivered-small s₁ p k.data_length (omega arith) v)))
            (omega arith)

        -- what is written where the slot t is settled again, after a packet that was dispatched
        abbrev fs₂ : Acted → ChannelSlot → List Frame
        fs₂ a t = fs₁ ++ [] ++ a.frames ++ ack_frames (settled_of t p room).slot (settled_of t p room).ack

        silent-few : (a : Acted) (t : ChannelSlot) → Few n 1 a.frames → (settled_of t p room).ack ≡ None → Few n 2 (fs₂ a t)
        silent-few a t f e =
            few-join n 2 0 2 (fs₁ ++ [] ++ a.frames) _ (omega arith) (two (fs₁ ++ []) a.frames (no_more 1 fs₁ few₁) f) (no-ack n _ _ e)

        again-few : (a : Acted) (t : ChannelSlot) → Few n 1 a.frames → IdsFit (ids_in t) → SlotOk t p.rx_cap → s₁.buffered ≡ 0 → Rests (some a.frames) s₁ t → Few n 2 (fs₂ a t)
        unfolding policy_of
        again-few a t f i o z (quiet e) =
            two (fs₁ ++ [] ++ a.frames) _ (few-join n 1 0 1 (fs₁ ++ []) a.frames (omega arith) (no_more 1 fs₁ few₁) (no_frames n a.frames e))
            (few-ack n _ _ (settled-ids t p room i) (λ d. settled-small t p room p.rx_cap o d))
        again-few a t f i o z (same e) =
            silent-few a t f (ap (λ (x : ChannelSlot). (settled_of x p room).ack) e ∙ silent-again (slot_for l ch) p room z)
        again-few a t f i o z (clear e) = silent-few a t f (silent-clear t p room e)

        -- and what is then taken
        reread-by : (used : ℕ) (fault : Option ChannelFault) (w : Work) (s : ChannelSlot) (x : Result (Option (ChannelSlot × ℕ)) ChannelError) → Few n 2 w.frames → Taking s room x → W (reread ch p.rx_cap used fault w s x)
        unfolding reread front_of
        reread-by used fault w s x f (took t k h) = done (then w _ []) _ used _ (no_more 2 _ f) (part-short _ _ k room h)
        reread-by used fault w s x f (nothing e) = quit (then w _ []) _ used (no_more 2 _ f)
        reread-by used fault w s x f (shut e) = quit (then w _ []) _ used (no_more 2 _ f)

        -- the slot after a packet that was dispatched
        abbrev t₂ : Acted → ChannelSlot
        t₂ a = slot_in (changed_all l.state (slot_to ch.slot s₁ ∷ a.changes)).slots ch.slot

        own₂ : (a : Acted) → Acts (Unit {0}) h₀ (set l.state.slots ch.slot s₁) ch.slot a → Own (Unit {0}) p s₁ (some a.frames) (t₂ a)
        own₂ a x =
            let ss = set l.state.slots ch.slot s₁ in
            let y = able.size in
            let b = c.below in
            let here : slot_in ss ch.slot ≡ s₁ = slot-set-same l.state.slots ch.slot s₁ (omega arith) in
            subst (λ (q : ChannelSlot). Own (Unit {0}) p q (some a.frames) (t₂ a)) here
            (subst (λ (q : List ChannelSlot). Own (Unit {0}) p (slot_in ss ch.slot) (some a.frames) (slot_in q ch.slot)) (sym (slots-by l.state (slot_to ch.slot s₁ ∷ a.changes))) x.own)

        read-acted : (a : Acted) (used : ℕ) → s₁.buffered ≡ 0 → Acts (Unit {0}) h₀ (set l.state.slots ch.slot s₁) ch.slot a
            → W (read_acted l ch room used (then w₁ (slot_to ch.slot s₁ ∷ []) []) a)
        unfolding read_acted read_settled
        read-acted a used z x =
            let t = t₂ a in
            let o = own₂ a x in
            let r = settled_of t p room in
            reread-by used a.fault _ r.slot (taken_of r.slot room) (again-few a t x.writes o.ids (o.sound tt) z o.rests) (taking r.slot room)

        sound₁ : SlotOk s₁ p.rx_cap
        sound₁ = settled-sound (slot_for l ch) p room p.rx_cap c.sound

        -- a packet that is dispatched
        abbrev act₂ : Packet → Acted
        act₂ k = act_on h₀ (set l.state.slots ch.slot s₁) l.state.queue l.rx l.store k (body_of received k)

        acts₂ : (k : Packet) → Says received limit k → Acts (Unit {0}) h₀ (set l.state.slots ch.slot s₁) ch.slot (act₂ k)
        acts₂ k s =
            let g = args received limit k bytes s in
            let ss = set l.state.slots ch.slot s₁ in
            let y = able.size in
            let b = c.below in
            let e = length-set l.state.slots ch.slot s₁ in
            let here : slot_in ss ch.slot ≡ s₁ = slot-set-same l.state.slots ch.slot s₁ (omega arith) in
            acts (Unit {0}) h₀ ss l.state.queue l.rx l.store k (body_of received k) ch.slot (ids_set l.state.slots ch.slot s₁ able.ids ids₁ (omega arith)) (omega arith)
            (λ q. subst (λ (v : ChannelSlot). SlotOk v p.rx_cap) (sym here) sound₁) g.arg0 g.arg1

        read-by : s₁.buffered ≡ 0 → (r : Result Packet (Answer × ℕ)) → Got received limit r → W (read_by l ch room w₁ s₁ received r)
        unfolding read_by
        read-by z r (stopped a used s) = stop₁ _ a used
        read-by z r (packet k s) =
            pick W (is_direct s₁ room k) (λ t. read-direct k s t)
            (λ t. pick W (closed_by (ids_in s₁) k) (λ u. stop₁ _ _ (frame_len k))
            (λ u. read-acted (act₂ k) (frame_len k) z (acts₂ k s)))

        read-taken : (x : Result (Option (ChannelSlot × ℕ)) ChannelError) → Taking s₁ room x → W (read_taken l ch room w₁ s₁ received x)
        unfolding read_taken front_of
        read-taken x (took t k h) = done (then w₁ _ []) _ 0 _ (few-join n 1 0 2 fs₁ [] (omega arith) few₁ (few-none n 0)) (part-short _ _ k room h)
        read-taken x (nothing e) =
            pick W s₁.has_remote (λ t. read-by (no-data s₁ t e) (received_of l received) (got l received)) (λ t. stop₁ _ _ 0)
        read-taken x (shut e) = stop₁ _ _ 0

        -- its answer counts what it hands over
        module _ (shares : Shares) where
          reread-counts : (used : ℕ) (fault : Option ChannelFault) (w : Work) (s : ChannelSlot) → SlotOk s p.rx_cap → C (reread ch p.rx_cap used fault w s (taken_of s room))
          unfolding reread taken_of answer_number
          reread-counts used fault w s ok =
              let P : Result (Option (ChannelSlot × ℕ)) ChannelError → Type 0 = λ y. C (reread ch p.rx_cap used fault w s y) in
              pick P (has_data s) (λ d. take-counts-by shares ch c s (then w (slot_to ch.slot (took_of s (take_len s room)) ∷ []) []) used ok)
              (λ d. pick P (is_closed s.state)
              (λ e. counts-none (then w (slot_to ch.slot s ∷ []) []) _ used (unless-some fault (Refused (error_refusal (error_of s.failed))) (error-some (error_of s.failed))))
              (λ e. counts-none (then w (slot_to ch.slot s ∷ []) []) _ used (unless-some fault Waiting refl)))

          acted-counts : (a : Acted) (used : ℕ) → SlotOk (t₂ a) p.rx_cap → C (read_acted l ch room used (then w₁ (slot_to ch.slot s₁ ∷ []) []) a)
          unfolding read_acted read_settled
          acted-counts a used ok = reread-counts used a.fault _ (settled_of (t₂ a) p room).slot (settled-sound (t₂ a) p room p.rx_cap ok)

          received-counts : (r : Result Packet (Answer × ℕ)) → Got received limit r → C (read_by l ch room w₁ s₁ received r)
          unfolding read_by read_direct answer_number
          received-counts r (stopped a used s) = counts-none (then w₁ (slot_to ch.slot s₁ ∷ []) []) a used s.undone
          received-counts r (packet k s) =
              pick C (is_direct s₁ room k) (λ t. counts_some _ (length (body_of received k)) (frame_len k) (body_of received k) (λ z. refl))
              (λ t. pick C (closed_by (ids_in s₁) k) (λ u. counts-none _ (Refused ChannelClosed) (frame_len k) refl)
              (λ u. acted-counts (act₂ k) (frame_len k) ((own₂ (act₂ k) (acts₂ k s)).sound tt)))

          taken-counts : C (read_taken l ch room w₁ s₁ received (taken_of s₁ room))
          unfolding read_taken taken_of answer_number
          taken-counts =
              let P : Result (Option (ChannelSlot × ℕ)) ChannelError → Type 0 = λ y. C (read_taken l ch room w₁ s₁ received y) in
              pick P (has_data s₁) (λ d. take-counts-by shares ch c s₁ (then w₁ (slot_to ch.slot (took_of s₁ (take_len s₁ room)) ∷ []) []) 0 sound₁)
              (λ d. pick P (is_closed s₁.state) (λ e. counts-none (then w₁ (slot_to ch.slot s₁ ∷ []) []) _ 0 (error-some (error_of s₁.failed)))
              (λ e. pick C s₁.has_remote (λ t. received-counts (received_of l received) (got l received)) (λ t. counts-none (then w₁ (slot_to ch.slot s₁ ∷ []) []) (Refused ChannelClosed) 0 refl)))

      pub read-counts : Shares → (ch : ChannelId) → C (read_step l ch room received)
      unfolding read_step read_first answer_number
      read-counts shares ch =
          pick C (is_there l ch) (λ t. taken-counts ch (there ch t) shares) (λ t. counts-none (begun h₀ l) (Refused ChannelClosed) 0 refl)

      pub read-writes : (ch : ChannelId) → W (read_step l ch room received)
      unfolding read_step read_first
      read-writes ch =
          pick W (is_there l ch)
          (λ t. let c = there ch t in read-taken ch c _ (taking (s₁ ch c) room))
          (λ t. idle h₀ _ 0)

-- ---- each call

-- every call on a state that is able, where it is whole
pub call-writes : (w : World) → (is_whole w.state ≡ true → Able (lent w)) → (c : Call)
    → Writes (lent w).state.header.negotiated (length (out_of c)) (length (buf_of c)) (outcome w c)
unfolding outcome out_of buf_of open_outcome dispatch_outcome settle_outcome take_outcome read_outcome write_outcome close_outcome take_front_outcome look_outcome numbers_outcome accept_outcome reject_outcome let_go_outcome verdict_outcome
call-writes w f (open_call out destination received) =
    writes-checked-out (lent w) (length out) 0 (is_whole w.state) _
    (λ t big. open-writes (lent w) (f t) (length out) 0 big (bytes_in received) (bytes-in received) (bytes_in destination))
call-writes w f (dispatch_call out received) =
    writes-checked-out (lent w) (length out) 0 (is_whole w.state) _
    (λ t big. dispatch-writes (lent w) (f t) (length out) 0 big (bytes_in received) (bytes-in received))
call-writes w f (settle_call out ch want) =
    writes-checked-out (lent w) (length out) 0 (is_whole w.state) _ (λ t big. settle-writes (lent w) (f t) (length out) 0 big ch want)
call-writes w f (take_call ch buf) =
    writes-checked (lent w) 0 (length buf) (is_whole w.state) _ (λ t. take-writes (lent w) (f t) 0 (length buf) ch)
call-writes w f (read_call out ch buf received) =
    writes-checked-out (lent w) (length out) (length buf) (is_whole w.state) _
    (λ t big. read-writes (lent w) (f t) (length out) (length buf) big (bytes_in received) (bytes-in received) ch)
call-writes w f (write_call spending out ch bytes received) =
    writes-checked-out (lent w) (length out) 0 (is_whole w.state) _
    (λ t big. write-writes (lent w) (f t) (length out) 0 big (bytes_in received) (bytes-in received) spending ch (bytes_in bytes))
call-writes w f (close_call out ch) =
    writes-checked-out (lent w) (length out) 0 (is_whole w.state) _ (λ t big. close-writes (lent w) (f t) (length out) 0 big ch)
call-writes w f front_taken =
    writes-checked (lent w) 0 0 (is_whole w.state) _ (λ t. front-writes (lent w) (f t) 0 0)
call-writes w f (look_call (numbers_look ch)) =
    writes-checked (lent w) 0 0 (is_whole w.state) _ (λ t. writes-none _ 0 0 (looked (lent w) (numbers_for (lent w) ch)) refl (omega arith))
call-writes w f (accept_call out) =
    writes-checked-out (lent w) (length out) 0 (is_whole w.state) _ (λ t big. accept-writes (lent w) (f t) (length out) 0 big)
call-writes w f (reject_call out) =
    writes-checked-out (lent w) (length out) 0 (is_whole w.state) _ (λ t big. reject-writes (lent w) (f t) (length out) 0 big)
call-writes w f let_go_call =
    writes-checked (lent w) 0 0 (is_whole w.state) _ (λ t. let-go-writes (lent w) (f t) 0 0)
call-writes w f (verdict_call out take remote credit) =
    writes-checked-out (lent w) (length out) 0 (is_whole w.state) _ (λ t big. verdict-writes (lent w) (f t) (length out) 0 big take _ _ (word-in remote.0))

take_counted : (w : World) → (is_whole w.state ≡ true → Able (lent w)) → (ch : ChannelId) (buf : List ℕ) → Counts (lent w) (outcome w (take_call ch buf))
unfolding outcome take_outcome policy_of
take_counted w f ch buf =
    counts-checked (lent w) (is_whole w.state) _ (λ t u. take-counts (lent w) (f t) 0 (length buf) (long (lent w).state.header.negotiated (length w.rx) (length w.store) u).rx-long ch)

read-counted : (w : World) → (is_whole w.state ≡ true → Able (lent w)) → (out : List ℕ) (ch : ChannelId) (buf received : List ℕ) → Counts (lent w) (outcome w (read_call out ch buf received))
unfolding outcome read_outcome policy_of
read-counted w f out ch buf received =
    counts-checked-out (lent w) (is_whole w.state) (length out) _
    (λ t u big. read-counts (lent w) (f t) (length out) (length buf) big (bytes_in received) (bytes-in received) (long (lent w).state.header.negotiated (length w.rx) (length w.store) u).rx-long ch)

-- what a call's answer counts is what it hands over; a call that is lent no reader's buffer hands nothing over
none-handed : (n : Negotiated) (out : ℕ) (o : Outcome) → Writes n out 0 o → 0 ≡ length o.handed
none-handed n out o h = let k = h.handed in omega arith

call-counts : (w : World) → (is_whole w.state ≡ true → Able (lent w)) → (c : Call) → length (outcome w c).rx ≡ length w.rx → counted c (outcome w c).answer ≡ length (outcome w c).handed
unfolding count_of out_of buf_of
call-counts w f (open_call out destination received) e = none-handed _ _ _ (call-writes w f (open_call out destination received))
call-counts w f (dispatch_call out received) e = none-handed _ _ _ (call-writes w f (dispatch_call out received))
call-counts w f (settle_call out ch want) e = none-handed _ _ _ (call-writes w f (settle_call out ch want))
call-counts w f (take_call ch buf) e = take_counted w f ch buf e
call-counts w f (read_call out ch buf received) e = read-counted w f out ch buf received e
call-counts w f (write_call spending out ch bytes received) e = none-handed _ _ _ (call-writes w f (write_call spending out ch bytes received))
call-counts w f (close_call out ch) e = none-handed _ _ _ (call-writes w f (close_call out ch))
call-counts w f front_taken e = none-handed _ _ _ (call-writes w f front_taken)
call-counts w f (look_call x) e = none-handed _ _ _ (call-writes w f (look_call x))
call-counts w f (accept_call out) e = none-handed _ _ _ (call-writes w f (accept_call out))
call-counts w f (reject_call out) e = none-handed _ _ _ (call-writes w f (reject_call out))
call-counts w f let_go_call e = none-handed _ _ _ (call-writes w f let_go_call)
call-counts w f (verdict_call out take remote credit) e = none-handed _ _ _ (call-writes w f (verdict_call out take remote credit))

-- what is seen of a call is what its outcome says, on a state that holds
module _ (n : Negotiated) (r : List ℕ) (rx store : ℕ) (w : World) (k : Holds n r rx store w) (c : Call) where
  abbrev agreed : Negotiated
  agreed = (state_of w.state).header.negotiated

  able : is_whole w.state ≡ true → Able (lent w)
  unfolding is_whole
  able t = able-whole (lent w) (whole-fits n (state_of w.state) k.facts) (and-true (is_state w.state) (whole (state_of w.state)) t).1

  pub writes : Writes agreed (length (out_of c)) (length (buf_of c)) (outcome w c)
  writes = call-writes w able c

  pub counts : counted c (outcome w c).answer ≡ length (outcome w c).handed
  counts = call-counts w able c (holds_kept n r rx store w k c).rx-length

  pub seen-is : seen_of (record { call = c; held = held_of w c }) ≡ heard_of agreed (outcome w c)
  unfolding held_of
  seen-is = heard-call agreed c (lent w) (outcome w c) writes counts (holds_kept n r rx store w k c).eight

  -- the credit that the books read, and the last OPEN's
  pub seen-acks : (l : ℕ) → acks_of l (seen_of (record { call = c; held = held_of w c })).sent ≡ acks_in (policy_of agreed) l (outcome w c).frames
  unfolding policy_of
  seen-acks l = ap (λ (x : Seen). acks_of l x.sent) seen-is ∙ heard-acks (policy_of agreed) agreed l (outcome w c).frames refl writes.each

  pub seen-open : (a : ℕ) → last_open (seen_of (record { call = c; held = held_of w c })).sent a ≡ open_in (outcome w c).frames a
  seen-open a = ap (λ (x : Seen). last_open x.sent a) seen-is ∙ heard-open agreed (outcome w c).frames a
