-- What received bytes give a call, and what the book reads of them. Assumes nothing.
use mathlib.Core.Path.{◌≡◌, refl, sym, ap, ◌∙◌}
use mathlib.Core.Bool.{Bool, true, false, not, cond, ◌&&◌, true≢false}
use mathlib.Core.List.{List}
use Prim.Native.Nat.{ℕ, ◌+◌, ◌-◌, ◌≤◌}
use native.Mathlib.Omega.{arith}
use lib.Dec.{eqb, ltb}
use lib.ListN.{length, get_or, set, length-set, get_or-map}
use lib.Seq.{map-set_same}
use borrow.Author.Tests.{eqb-true, eqb-false, eq-eqb, ne_eqb, ltb-true, ltb-false, lt-ltb}
use Rattle.le.specs.Le.{part, num_of}
use Rattle.le.proofs.Parts.{by-test, length_part}
use Rattle.config.specs.declared.negotiated.RxPolicy.{RxPolicy}
use Rattle.config.proofs.Laws.{and-true}
use Rattle.protocol.specs.declared.command.Command.{Command}
use Rattle.protocol.specs.declared.command.Command.TheVariants.{Sync, Connect, Open, Ready, Close, Write, Auth, StartTls}
use Rattle.protocol.specs.declared.packet.Packet.{Packet}
use Rattle.protocol.specs.Command.{letters_of, word_of, is_ready, is_close, is_write, is_the}
use Rattle.protocol.specs.Message.{message_of}
use Rattle.protocol.specs.Packet.{payload_of, packet_of, decode_of}
use Rattle.protocol.proofs.RoundTrip.{Says, says}
use Rattle.slot.specs.declared.ChannelSlot.{ChannelSlot}
use Rattle.slot.specs.declared.ids.ChannelIds.{ChannelIds}
use Rattle.slot.specs.declared.ids.RemoteId.{RemoteId}
use Rattle.slot.specs.Ids.{named_by, closed_by}
use Rattle.slot.specs.Slot.{empty_slot, is_closed}
use Rattle.table.specs.declared.Want.{Want}
use Rattle.table.specs.declared.Want.TheVariants.{Remote, Live}
use Rattle.table.proofs.Laws.{live-remote}
use Rattle.table_dispatch.specs.Dispatch.{named_place}
use Rattle.table_dispatch.proofs.KeepLaws.{remote-filled}
use Rattle.table.specs.Table.{first, wanted_by, place_of, slot_in}
use Rattle.table_dispatch.proofs.DispatchLaws.{first_found}
use Rattle.connection.specs.declared.Answer.{Answer}
use Rattle.connection.specs.declared.Answer.TheVariants.{Waiting, Refused}
use Rattle.connection.specs.declared.Refusal.TheVariants.{InvalidCommand, InvalidMagic, PayloadTooLarge, InvalidChecksum}
use Rattle.connection.specs.Answer.{answer_number}
use Rattle.connection.specs.Calls.{Lent, received_by, received_of, body_of, frame_len}
use Rattle.history.specs.Book.{Book, no_book, has_remote_id, is_live, named_in, is_wrte, is_clse, is_early, header_at, payload_at, closes_b, own_end}
use Rattle.history.proofs.Places.{TableOk, first-le, found-there, place-le}
use Rattle.history.proofs.Acts.{ends_of}
use Rattle.protocol.specs.declared.packet.DecodeError.TheVariants.{InvalidCommand as WordInvalid, InvalidMagic as MagicInvalid, PayloadTooLarge as LengthTooLarge, InvalidChecksum as SumInvalid}
use Rattle.protocol.specs.declared.packet.DecodeError.{DecodeError}
use Rattle.std.specs.Prelude.{Option, Some, None, Result, Ok, Err}

and-cond : (x y : Bool) → (x && y) ≡ cond x y false
and-cond true y = refl
and-cond false y = refl

-- ---- a packet, or none

-- none: nothing is used, or a damaged frame is
pub record Stops (a : Answer) (used : ℕ) : Type 0 where
  pub quiet : eqb (answer_number a) 4 ≡ false → used ≡ 0
  pub late : is_early (answer_number a) ≡ false
  pub undone : eqb (answer_number a) 0 ≡ false
  pub under : answer_number a ≡ 11 → ⊥

pub data Got (received : List ℕ) (limit : ℕ) : Result Packet (Answer × ℕ) → Type 0 where
  stopped : (a : Answer) (used : ℕ) → Stops a used → Got received limit (Err (a, used))
  packet : (k : Packet) → Says received limit k → Got received limit (Ok k)

got-by : (received : List ℕ) (limit : ℕ) (d : Result (Option Packet) DecodeError) → decode_of received limit ≡ d → Got received limit (received_by d)
unfolding received_by answer_number
got-by received limit (Ok None) e = stopped Waiting 0 (record { quiet = λ n. refl; late = refl; undone = refl; under = λ e. omega arith })
got-by received limit (Err (WordInvalid word)) e = stopped (Refused (InvalidCommand word)) 0 (record { quiet = λ n. refl; late = refl; undone = refl; under = λ e. omega arith })
got-by received limit (Err MagicInvalid) e = stopped (Refused InvalidMagic) 0 (record { quiet = λ n. refl; late = refl; undone = refl; under = λ e. omega arith })
got-by received limit (Err LengthTooLarge) e = stopped (Refused PayloadTooLarge) 0 (record { quiet = λ n. refl; late = refl; undone = refl; under = λ e. omega arith })
got-by received limit (Err (SumInvalid used)) e = stopped (Refused InvalidChecksum) used (record { quiet = λ n. absurd (true≢false n); late = refl; undone = refl; under = λ e. omega arith })
got-by received limit (Ok (Some k)) e = packet k (says received limit k e)

pub got : (l : Lent) (received : List ℕ) → Got received l.state.header.negotiated.config.max_payload (received_of l received)
unfolding received_of
got l received = got-by received l.state.header.negotiated.config.max_payload (decode_of received l.state.header.negotiated.config.max_payload) refl

-- ---- what the book reads of a packet

word_write : (c : Command) → eqb (word_of c) (word_of Write) ≡ is_write c
unfolding word_of letters_of num_of is_write is_the
word_write Sync = refl
word_write Connect = refl
word_write Open = refl
word_write Ready = refl
word_write Close = refl
word_write Write = refl
word_write Auth = refl
word_write StartTls = refl

-- a WRTE is no CLSE
pub write-no-close : (c : Command) → is_write c ≡ true → is_close c ≡ false
unfolding is_write is_close is_the word_of letters_of num_of
write-no-close Sync e = refl
write-no-close Connect e = refl
write-no-close Open e = refl
write-no-close Ready e = refl
write-no-close Close e = sym e
write-no-close Write e = refl
write-no-close Auth e = refl
write-no-close StartTls e = refl

-- an OKAY is neither
pub ready-no-write : (c : Command) → is_ready c ≡ true → (is_write c ≡ false) × (is_close c ≡ false)
unfolding is_ready is_write is_close is_the word_of letters_of num_of
ready-no-write Sync e = (refl, refl)
ready-no-write Connect e = (refl, refl)
ready-no-write Open e = (refl, refl)
ready-no-write Ready e = (refl, refl)
ready-no-write Close e = (refl, sym e)
ready-no-write Write e = (sym e, refl)
ready-no-write Auth e = (refl, refl)
ready-no-write StartTls e = (refl, refl)

word-close : (c : Command) → eqb (word_of c) (word_of Close) ≡ is_close c
unfolding word_of letters_of num_of is_close is_the
word-close Sync = refl
word-close Connect = refl
word-close Open = refl
word-close Ready = refl
word-close Close = refl
word-close Write = refl
word-close Auth = refl
word-close StartTls = refl

module _ (received : List ℕ) (limit : ℕ) (k : Packet) (r : Says received limit k) where
  pub reads-write : is_wrte (header_at received) ≡ is_write k.command
  reads-write = ap (λ (x : ℕ). eqb x (word_of Write)) r.word-is ∙ word_write k.command

  pub reads-close : is_clse (header_at received) ≡ is_close k.command
  reads-close = ap (λ (x : ℕ). eqb x (word_of Close)) r.word-is ∙ word-close k.command

  pub reads-arg0 : (header_at received).arg0 ≡ k.arg0
  unfolding packet_of
  reads-arg0 = sym (ap (λ (x : Packet). x.arg0) r.known.packet-is)

  pub reads-arg1 : (header_at received).arg1 ≡ k.arg1
  unfolding packet_of
  reads-arg1 = sym (ap (λ (x : Packet). x.arg1) r.known.packet-is)

  pub reads-payload : payload_at received (frame_len k) ≡ body_of received k
  unfolding payload_of
  reads-payload = let e : 24 + k.data_length - 24 ≡ k.data_length = omega arith in ap (part received 24) e

  length-is : k.data_length ≡ (message_of received).data_length
  unfolding packet_of
  length-is = ap (λ (x : Packet). x.data_length) r.known.packet-is

  pub body-length : length (body_of received k) ≡ k.data_length
  unfolding payload_of
  body-length = let w = r.known.whole in let e = length-is in length_part received 24 k.data_length (omega arith)

  pub body-small : length (body_of received k) ≤ limit
  body-small = let b = body-length in let w = r.known.within in let e = length-is in omega arith

  -- a channel's own end, by `closed_by`
  pub reads_end : (x y : ℕ) (ids : ChannelIds) → x ≡ ids.local.0 → y ≡ ids.remote.0 → own_end x y (header_at received) ≡ closed_by ids k
  unfolding closed_by
  reads_end x y ids e f =
      let m = header_at received in
      ap (λ (z : Bool). z && named_by (record { local = record { 0 = x }; remote = record { 0 = y } }) m.arg0 m.arg1) reads-close
      ∙ ap (λ (z : ℕ). is_close k.command && named_by (record { local = record { 0 = x }; remote = record { 0 = y } }) z m.arg1) reads-arg0
      ∙ ap (λ (z : ℕ). is_close k.command && named_by (record { local = record { 0 = x }; remote = record { 0 = y } }) k.arg0 z) reads-arg1
      ∙ ap (λ (z : ℕ). is_close k.command && named_by (record { local = record { 0 = z }; remote = record { 0 = y } }) k.arg0 k.arg1) e
      ∙ ap (λ (z : ℕ). is_close k.command && named_by (record { local = ids.local; remote = record { 0 = z } }) k.arg0 k.arg1) f
      ∙ and-cond (is_close k.command) (named_by ids k.arg0 k.arg1)

-- ---- books beside slots

-- the books tell which slots are filled, with what remote number, and which are closed
pub record Marked (d : List Book) (ss : List ChannelSlot) : Type 0 where
  pub size : length d ≡ length ss
  pub there : (j : ℕ) → (get_or d j no_book).there ≡ (slot_in ss j).filled
  pub remote : (j : ℕ) → (slot_in ss j).filled ≡ true → (get_or d j no_book).remote ≡ (slot_in ss j).remote.0
  pub closed : (j : ℕ) → (slot_in ss j).filled ≡ true → (get_or d j no_book).closed ≡ is_closed (slot_in ss j).state

-- what a slot stored at a place leaves as it was, it leaves so at each place
pub set_same : {A : Type 0} (f : ChannelSlot → A) (ss : List ChannelSlot) (j k : ℕ) (t : ChannelSlot) → f t ≡ f (slot_in ss j) → f (slot_in (set ss j t) k) ≡ f (slot_in ss k)
unfolding slot_in
set_same f ss j k t e =
    sym (get_or-map f (set ss j t) k empty_slot) ∙ ap (λ z. get_or z k (f empty_slot)) (map-set_same f ss j t empty_slot e) ∙ get_or-map f ss k empty_slot

-- so the books tell the same of a table with a slot of the same channel stored anew
pub marked-set : (d : List Book) (ss : List ChannelSlot) (j : ℕ) (t : ChannelSlot) → Marked d ss → t.filled ≡ (slot_in ss j).filled → t.remote ≡ (slot_in ss j).remote
    → is_closed t.state ≡ is_closed (slot_in ss j).state → Marked d (set ss j t)
marked-set d ss j t mk e f g =
    let fill : (k : ℕ) → (slot_in (set ss j t) k).filled ≡ (slot_in ss k).filled = λ k. set_same (λ (s : ChannelSlot). s.filled) ss j k t e in
    record {
      size = mk.size ∙ sym (length-set ss j t);
      there = λ k. mk.there k ∙ sym (fill k);
      remote = λ k h. mk.remote k (sym (fill k) ∙ h) ∙ sym (set_same (λ (s : ChannelSlot). s.remote.0) ss j k t (ap (λ (x : RemoteId). x.0) f));
      closed = λ k h. mk.closed k (sym (fill k) ∙ h) ∙ sym (set_same (λ (s : ChannelSlot). is_closed s.state) ss j k t g);
    }

module _ (p : RxPolicy) (n : ℕ) (ss : List ChannelSlot) (rx : List ℕ) (ok : TableOk p n ss rx) (d : List Book) (mk : Marked d ss) where
  -- a test of books that passes just where a search over the slots stops
  module _ (w : Want) (q : Book → Bool) (agrees : (i : ℕ) → (slot_in ss i).filled ≡ true → q (get_or d i no_book) ≡ wanted_by w (slot_in ss i))
      (booked : (j : ℕ) → q (get_or d j no_book) ≡ true → (slot_in ss j).filled ≡ true) (wanted : (j : ℕ) → wanted_by w (slot_in ss j) ≡ true → (slot_in ss j).filled ≡ true) where
    abbrev F : ℕ
    F = first q d

    abbrev f : ℕ
    f = place_of w n ss

    -- the first such book is at a channel's place just where the walk over the slots ends there
    module _ (i : ℕ) (there : (slot_in ss i).filled ≡ true) where
      forth : f ≡ i → F ≡ i
      forth e =
          let z = ok.size in
          let y = ok.most in
          let b = ok.below i there in
          let l = mk.size in
          let v : wanted_by w (slot_in ss i) ≡ true = ap (λ (x : ℕ). wanted_by w (slot_in ss x)) (sym e) ∙ found-there p n ss rx ok w (omega arith) in
          let le : F ≤ i = first-le q d i no_book (omega arith) (agrees i there ∙ v) in
          let m = first_found q d no_book (omega arith) in
          let t = booked F m in
          let ge = place-le p n ss rx ok w F (ok.below F t) (sym (agrees F t) ∙ m) in
          omega arith

      back : F ≡ i → f ≡ i
      back e =
          let z = ok.size in
          let y = ok.most in
          let b = ok.below i there in
          let l = mk.size in
          let m = first_found q d no_book (omega arith) in
          let v : wanted_by w (slot_in ss i) ≡ true = sym (agrees i there) ∙ ap (λ (x : ℕ). q (get_or d x no_book)) (sym e) ∙ m in
          let le = place-le p n ss rx ok w i b v in
          let u = found-there p n ss rx ok w (omega arith) in
          let t = wanted f u in
          let ge : F ≤ f = first-le q d f no_book (let h = ok.below f t in omega arith) (agrees f t ∙ u) in
          omega arith

      tells-place : eqb F i ≡ eqb f i
      tells-place =
          by-test (eqb f i) (λ t. eq-eqb F i (forth (eqb-true f i t)) ∙ sym t)
          (λ t. ne_eqb F i (λ e. eqb-false f i t (back e)) ∙ sym t)

    -- and there is one just where the walk finds one
    tells-found : ltb F (length d) ≡ ltb f n
    tells-found =
        by-test (ltb f n)
        (λ t. let z = ok.size in
        let y = ok.most in
        let l = mk.size in
        let k = ltb-true f n t in
        let u = found-there p n ss rx ok w k in
        let there = wanted f u in
        let le : F ≤ f = first-le q d f no_book (omega arith) (agrees f there ∙ u) in
        lt-ltb F (length d) (omega arith) ∙ sym t)
        (λ t. by-test (ltb F (length d))
        (λ v. let m = first_found q d no_book (ltb-true F (length d) v) in
        let there = booked F m in
        let b = ok.below F there in
        let le = place-le p n ss rx ok w F b (sym (agrees F there) ∙ m) in
        let k = ltb-false f n t in
        absurd (omega arith))
        (λ v. v ∙ sym t))

  module _ (r : ℕ) where
    abbrev who : RemoteId
    who = record { 0 = r }

    -- a slot with that remote number has such a book, and the other way
    remote-agrees : (i : ℕ) → (slot_in ss i).filled ≡ true → has_remote_id r (get_or d i no_book) ≡ wanted_by (Remote who) (slot_in ss i)
    unfolding wanted_by
    remote-agrees i there =
        ap (λ (x : Bool). x && eqb (get_or d i no_book).remote r) (mk.there i)
        ∙ ap (λ (x : ℕ). (slot_in ss i).filled && eqb x r) (mk.remote i there)
        ∙ ap (λ (x : Bool). x && eqb (slot_in ss i).remote.0 r) (there ∙ sym (ap (λ (x : Bool). x && (slot_in ss i).has_remote) there ∙ ok.known i there))

    remote-booked : (j : ℕ) → has_remote_id r (get_or d j no_book) ≡ true → (slot_in ss j).filled ≡ true
    remote-booked j e = sym (mk.there j) ∙ (and-true (get_or d j no_book).there (eqb (get_or d j no_book).remote r) e).0

    live-agrees : (i : ℕ) → (slot_in ss i).filled ≡ true → is_live r (get_or d i no_book) ≡ wanted_by (Live who) (slot_in ss i)
    unfolding wanted_by
    live-agrees i there =
        ap (λ (x : Bool). x && not (get_or d i no_book).closed) (remote-agrees i there)
        ∙ ap (λ (x : Bool). wanted_by (Remote who) (slot_in ss i) && not x) (mk.closed i there)

    -- the book that is named is at a channel's place just where the slot that is named is
    pub marks-agree : (i : ℕ) → (slot_in ss i).filled ≡ true → eqb (named_in r d) i ≡ eqb (named_place who n ss) i
    unfolding named_place
    marks-agree i there =
        ap (λ (x : Bool). eqb (cond x (first (is_live r) d) (first (has_remote_id r) d)) i) (tells-found (Live who) (is_live r) live-agrees live-booked live-wanted)
        ∙ by-test (ltb (place_of (Live who) n ss) n)
        (λ t. rw t (tells-place (Live who) (is_live r) live-agrees live-booked live-wanted i there))
        (λ t. rw t (tells-place (Remote who) (has_remote_id r) remote-agrees remote-booked (λ j. remote-filled who (slot_in ss j)) i there))
      where
        live-booked : (j : ℕ) → is_live r (get_or d j no_book) ≡ true → (slot_in ss j).filled ≡ true
        live-booked j e = remote-booked j (and-true (has_remote_id r (get_or d j no_book)) (not (get_or d j no_book).closed) e).0

        live-wanted : (j : ℕ) → wanted_by (Live who) (slot_in ss j) ≡ true → (slot_in ss j).filled ≡ true
        live-wanted j v = remote-filled who (slot_in ss j) (live-remote who (slot_in ss j) v)

-- so the book takes for the channel's end what dispatching does
pub closes-agree : (p : RxPolicy) (n : ℕ) (ss : List ChannelSlot) (rx : List ℕ) (ok : TableOk p n ss rx) (d : List Book) (mk : Marked d ss) (i : ℕ) (there : (slot_in ss i).filled ≡ true) (b : Book) (received : List ℕ) (limit : ℕ) (k : Packet)
    (r : Says received limit k) → b.local ≡ (slot_in ss i).local.0 → closes_b d i b (header_at received) ≡ ends_of n ss i k
closes-agree p n ss rx ok d mk i there b received limit k r e =
    let m = header_at received in
    let a0 = reads-arg0 received limit k r in
    let a1 = reads-arg1 received limit k r in
    ap (λ (x : Bool). x && cond (eqb m.arg1 0) (not (eqb m.arg0 0) && (eqb (named_in m.arg0 d) i)) (eqb m.arg1 b.local)) (reads-close received limit k r)
    ∙ ap (λ (x : ℕ). is_close k.command && cond (eqb x 0) (not (eqb m.arg0 0) && (eqb (named_in m.arg0 d) i)) (eqb x b.local)) a1
    ∙ ap (λ (x : ℕ). is_close k.command && cond (eqb k.arg1 0) (not (eqb x 0) && (eqb (named_in x d) i)) (eqb k.arg1 b.local)) a0
    ∙ ap (λ (x : ℕ). is_close k.command && cond (eqb k.arg1 0) (not (eqb k.arg0 0) && (eqb (named_in k.arg0 d) i)) (eqb k.arg1 x)) e
    ∙ ap (λ (x : Bool). is_close k.command && cond (eqb k.arg1 0) (not (eqb k.arg0 0) && x) (eqb k.arg1 (slot_in ss i).local.0)) (marks-agree p n ss rx ok d mk k.arg0 i there)
