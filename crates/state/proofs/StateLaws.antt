-- Laws of a state's bytes: what is put is read back, the rest stays, and bytes that are a state's are the layout of their
-- reading. Assumes nothing.
use mathlib.Core.Path.{◌≡◌, refl, sym, ap, ◌∙◌}
use mathlib.Core.Bool.{Bool, true, false}
use mathlib.Core.List.{List, [], ◌∷◌, ◌++◌, append_assoc}
use Prim.Native.Nat.{ℕ, zero, suc, ◌+◌, ◌*◌, ◌/◌, ◌%◌, ◌^◌, ◌≤◌, ◌<◌}
use native.Mathlib.Omega.{arith}
use lib.Dec.{ltb}
use lib.Signed.{mag}
use lib.ListN.{length, take, drop, get_or, set, length-append, length-take, length-drop, take-append-drop}
use lib.Seq.{take_all, drop_at, drop-cons, drop-drop, take-add}
use borrow.Author.Tests.{ltb-true, ltb-false, leb-true, le-leb}
use Rattle.le.specs.Le.{num_of, bytes_of, unsigned, part, put, Bytes}
use Rattle.le.proofs.Laws.{bytes_drop, bytes_take, read-write-part, write_read, signed-unsigned, unsigned_signed, signed-small, unsigned_small, num_of-part}
use Rattle.le.proofs.Parts.{by-test, part_join, length-put, part-put-same, part-put-below, part-put-above}
use Rattle.config.proofs.Laws.{and-true}
use Rattle.credit.specs.declared.CreditFault.TheVariants.{Short, Long, Negative}
use Rattle.slot.specs.declared.ChannelFault.TheVariants.{RxOverflow, BadCredit, UnexpectedCommand}
use Rattle.slot.specs.declared.ChannelSlot.{ChannelSlot}
use Rattle.slot.specs.declared.ChannelState.{ChannelState}
use Rattle.slot.specs.declared.ChannelState.TheVariants.{Opening, Open, Closed}
use Rattle.state.specs.declared.Header.{Header}
use Rattle.state.specs.declared.Pending.{Pending}
use Rattle.state.specs.declared.Pending.TheVariants.{Nothing as NothingPending, Opening as OursPending, Offer}
use Rattle.state.specs.declared.QueuedOpen.{QueuedOpen}
use Rattle.le.specs.Rows.{flat, rows, all_is}
use Rattle.state.specs.State.{header_len, queue_at, queued_len, tag_at, slot_len, state_len, Connection, flag_of, flag_byte, state_of_tag, state_tag, failed_of_tag, failed_tag, pending_of_tag, pending_tag, slot_numbers, slot_counts, tag_of, slot_bytes, slot_of, is_tag, is_slot, queued_bytes, queued_of, header_sizes, header_words, header_tags, state_header, header_of, layout, state_of, is_state, slot_at, queued_at, put_slot, put_queued, put_header, with_slot, with_header, with_queued_at}
use Rattle.state.proofs.Fields.{length-slot, length-open, length-header}
use Rattle.le.proofs.RowLaws.{put-at, put-row, length-flat, length-rows, row_at, flat_rows, Every, rows-flat, rows_fit, all-flat}
use Rattle.slot.specs.declared.ChannelFault.{ChannelFault}
use Rattle.std.specs.Prelude.{Option, Some, None, Result, Ok, Err}

-- ---- flags and tags, both ways

-- one byte
one : (l : List ℕ) (a : ℕ) → a + 1 ≤ length l → part l a 1 ≡ get_or l a 0 ∷ []
unfolding part
one l a h = rw (drop-cons l a 0 (omega arith))

flag-num : (v : ℕ) → v ≤ 1 → flag_byte (flag_of v) ≡ v
flag-num zero h = refl
flag-num (suc zero) h = refl
flag-num (suc (suc v)) h = absurd (omega arith)

flag_same : (v : ℕ) → v ≤ 1 → bytes_of 1 (flag_byte (flag_of v)) ≡ v ∷ []
unfolding bytes_of
flag_same v h = let e : v % 256 ≡ v = omega arith in rw (flag-num v h, e)

state-num : (v : ℕ) → v ≤ 2 → state_tag (state_of_tag v) ≡ v
state-num zero h = refl
state-num (suc zero) h = refl
state-num (suc (suc zero)) h = refl
state-num (suc (suc (suc v))) h = absurd (omega arith)

failed-num : (v : ℕ) → v ≤ 5 → failed_tag (failed_of_tag v) ≡ v
failed-num zero h = refl
failed-num (suc zero) h = refl
failed-num (suc (suc zero)) h = refl
failed-num (suc (suc (suc zero))) h = refl
failed-num (suc (suc (suc (suc zero)))) h = refl
failed-num (suc (suc (suc (suc (suc zero))))) h = refl
failed-num (suc (suc (suc (suc (suc (suc v)))))) h = absurd (omega arith)

flag-back : (l : List ℕ) (a : ℕ) → a + 1 ≤ length l → get_or l a 0 ≤ 1 → bytes_of 1 (flag_byte (flag_of (get_or l a 0))) ≡ part l a 1
flag-back l a h k = flag_same (get_or l a 0) k ∙ sym (one l a h)

pending-num : (v : ℕ) → v ≤ 2 → pending_tag (pending_of_tag v) ≡ v
pending-num zero h = refl
pending-num (suc zero) h = refl
pending-num (suc (suc zero)) h = refl
pending-num (suc (suc (suc v))) h = absurd (omega arith)

pending-same : (v : ℕ) → v ≤ 2 → bytes_of 1 (pending_tag (pending_of_tag v)) ≡ v ∷ []
unfolding bytes_of
pending-same v h = let e : v % 256 ≡ v = omega arith in rw (pending-num v h, e)

pending-back : (l : List ℕ) (a : ℕ) → a + 1 ≤ length l → get_or l a 0 ≤ 2 → bytes_of 1 (pending_tag (pending_of_tag (get_or l a 0))) ≡ part l a 1
pending-back l a h k = pending-same (get_or l a 0) k ∙ sym (one l a h)

pending-forth : (w : Pending) → pending_of_tag (pending_tag w % 256) ≡ w
pending-forth NothingPending = refl
pending-forth OursPending = refl
pending-forth Offer = refl

pending-byte-le : (w : Pending) → pending_tag w % 256 ≤ 2
pending-byte-le NothingPending = omega arith
pending-byte-le OursPending = omega arith
pending-byte-le Offer = omega arith

flag-forth : (f : Bool) → flag_of (flag_byte f % 256) ≡ f
flag-forth true = refl
flag-forth false = refl

flag_is : (f : Bool) → flag_of (flag_byte f) ≡ f
flag_is true = refl
flag_is false = refl

state-is : (s : ChannelState) → state_of_tag (state_tag s) ≡ s
state-is Opening = refl
state-is Open = refl
state-is Closed = refl

failed-is : (f : Option ChannelFault) → failed_of_tag (failed_tag f) ≡ f
failed-is None = refl
failed-is (Some RxOverflow) = refl
failed-is (Some (BadCredit Short)) = refl
failed-is (Some (BadCredit Long)) = refl
failed-is (Some (BadCredit Negative)) = refl
failed-is (Some UnexpectedCommand) = refl

flag-le : (f : Bool) → flag_byte f ≤ 1
flag-le true = omega arith
flag-le false = omega arith

flag-byte-le : (f : Bool) → flag_byte f % 256 ≤ 1
flag-byte-le true = omega arith
flag-byte-le false = omega arith

state-le : (s : ChannelState) → state_tag s ≤ 2
state-le Opening = omega arith
state-le Open = omega arith
state-le Closed = omega arith

failed-le : (f : Option ChannelFault) → failed_tag f ≤ 5
failed-le None = omega arith
failed-le (Some RxOverflow) = omega arith
failed-le (Some (BadCredit Short)) = omega arith
failed-le (Some (BadCredit Long)) = omega arith
failed-le (Some (BadCredit Negative)) = omega arith
failed-le (Some UnexpectedCommand) = omega arith

-- five numbers in one byte, and out of it again
record Tag (f r a s x t : ℕ) : Type 0 where
  small : t ≤ 191
  one_byte : t % 256 ≡ t
  filled : t % 2 ≡ f
  remote : t / 2 % 2 ≡ r
  acked : t / 2 / 2 % 2 ≡ a
  state : t / 2 / 2 / 2 % 4 ≡ s
  failed : t / 2 / 2 / 2 / 4 ≡ x

tag-parts : (f r a s x : ℕ) → f ≤ 1 → r ≤ 1 → a ≤ 1 → s ≤ 2 → x ≤ 5 → Tag f r a s x (f + 2 * r + 4 * a + 8 * s + 32 * x)
tag-parts f r a s x hf hr ha hs hx =
    let t = f + 2 * r + 4 * a + 8 * s + 32 * x in
    let d1 : t / 2 ≡ r + 2 * a + 4 * s + 16 * x = omega arith in
    let d2 : (r + 2 * a + 4 * s + 16 * x) / 2 ≡ a + 2 * s + 8 * x = omega arith in
    let d3 : (a + 2 * s + 8 * x) / 2 ≡ s + 4 * x = omega arith in
    record {
      small = omega arith;
      one_byte = omega arith;
      filled = omega arith;
      remote = rw d1 (omega arith);
      acked = rw (d1, d2) (omega arith);
      state = rw (d1, d2, d3) (omega arith);
      failed = rw (d1, d2, d3) (omega arith);
    }

tag-whole : (t : ℕ) → t ≤ 191 → t % 2 + 2 * (t / 2 % 2) + 4 * (t / 2 / 2 % 2) + 8 * (t / 2 / 2 / 2 % 4) + 32 * (t / 2 / 2 / 2 / 4) ≡ t
tag-whole t h = omega arith

slot-tag : (s : ChannelSlot) → Tag (flag_byte s.filled) (flag_byte s.has_remote) (flag_byte s.wrte_acked) (state_tag s.state) (failed_tag s.failed) (tag_of s)
unfolding tag_of
slot-tag s =
    tag-parts (flag_byte s.filled) (flag_byte s.has_remote) (flag_byte s.wrte_acked) (state_tag s.state) (failed_tag s.failed)
    (flag-le s.filled) (flag-le s.has_remote) (flag-le s.wrte_acked) (state-le s.state) (failed-le s.failed)

part-start : (l : List ℕ) (n : ℕ) → part l 0 n ≡ take n l
unfolding part
part-start l n = refl

-- ---- a slot's bytes, read and written again

pub record SlotTests (t : ℕ) : Type 0 where
  pub small : t ≤ 191
  pub state : t / 2 / 2 / 2 % 4 ≤ 2

pub slot-tests : (l : List ℕ) → is_slot l ≡ true → SlotTests (get_or l tag_at 0)
unfolding is_slot is_tag
slot-tests l e = let e₁ = and-true _ _ e in record { small = leb-true _ _ e₁.0; state = leb-true _ _ e₁.1 }

tag_back : (l : List ℕ) → is_slot l ≡ true → tag_of (slot_of l) ≡ get_or l tag_at 0
unfolding tag_of slot_of
tag_back l e =
    let t = get_or l tag_at 0 in
    let k = slot-tests l e in
    let h = k.small in
    rw (
      flag-num (t % 2) (omega arith),
      flag-num (t / 2 % 2) (omega arith),
      flag-num (t / 2 / 2 % 2) (omega arith),
      state-num (t / 2 / 2 / 2 % 4) k.state,
      failed-num (t / 2 / 2 / 2 / 4) (omega arith),
    )
    (tag-whole t h)

byte-back : (l : List ℕ) (a v : ℕ) → Bytes l → a + 1 ≤ length l → v ≡ get_or l a 0 → bytes_of 1 v ≡ part l a 1
unfolding bytes_of
byte-back l a v y h e = let lt = y a in let m : v % 256 ≡ get_or l a 0 = omega arith in rw m (sym (one l a h))

numbers-back : (l : List ℕ) → Bytes l → tag_at ≤ length l → slot_numbers (slot_of l) ≡ part l 0 32
unfolding slot_numbers slot_of
numbers-back l b h =
    rw (
      read-write-part l 0 4 b (omega arith),
      read-write-part l 4 4 b (omega arith),
      unsigned_signed 63 (num_of (part l 8 8)) (num_of-part 8 l 8 b),
      read-write-part l 8 8 b (omega arith),
      read-write-part l 16 8 b (omega arith),
      read-write-part l 24 8 b (omega arith),
      part_join l 0 4 4,
      part_join l 0 8 8,
      part_join l 0 16 8,
      part_join l 0 24 8,
    )

counts-back : (l : List ℕ) → Bytes l → tag_at ≤ length l → slot_counts (slot_of l) ≡ part l 32 12
unfolding slot_counts slot_of
counts-back l b h =
    rw (
      read-write-part l 32 4 b (omega arith),
      read-write-part l 36 4 b (omega arith),
      read-write-part l 40 4 b (omega arith),
      part_join l 32 4 4,
      part_join l 32 8 4,
    )

slot-back : (l : List ℕ) → Bytes l → slot_len ≤ length l → is_slot l ≡ true → slot_bytes (slot_of l) ≡ take slot_len l
unfolding slot_bytes
slot-back l b h t =
    rw (
      numbers-back l b (omega arith),
      counts-back l b (omega arith),
      byte-back l tag_at (tag_of (slot_of l)) b (omega arith) (tag_back l t),
      part_join l 0 32 12,
      part_join l 0 tag_at 1,
    )
    (part-start l slot_len)

-- what fits its bytes is read back
pub record SlotFits (s : ChannelSlot) : Type 0 where
  pub local : s.local.0 < 2 ^ 32
  pub remote : s.remote.0 < 2 ^ 32
  pub budget : mag s.send_budget < 2 ^ 63
  pub unacked : s.unacked < 2 ^ 64
  pub total : s.acked_total < 2 ^ 64
  pub settled : s.settled < 2 ^ 32
  pub head : s.head < 2 ^ 32
  pub buffered : s.buffered < 2 ^ 32

pub slot-forth : (s : ChannelSlot) → SlotFits s → slot_of (slot_bytes s) ≡ s
unfolding slot_of slot_bytes slot_numbers slot_counts bytes_of part
slot-forth s f =
    let k = slot-tag s in
    rw (
      k.one_byte,
      k.filled,
      k.remote,
      k.acked,
      k.state,
      k.failed,
      flag_is s.filled,
      flag_is s.has_remote,
      flag_is s.wrte_acked,
      state-is s.state,
      failed-is s.failed,
      write_read 4 s.local.0 f.local,
      write_read 4 s.remote.0 f.remote,
      write_read 8 (unsigned 63 s.send_budget) (unsigned_small 63 s.send_budget f.budget),
      signed-unsigned 63 s.send_budget f.budget,
      write_read 8 s.unacked f.unacked,
      write_read 8 s.acked_total f.total,
      write_read 4 s.settled f.settled,
      write_read 4 s.head f.head,
      write_read 4 s.buffered f.buffered,
    )

pub slot_is : (s : ChannelSlot) → is_slot (slot_bytes s) ≡ true
unfolding is_slot is_tag slot_bytes slot_numbers slot_counts bytes_of
slot_is s =
    let k = slot-tag s in
    rw (k.one_byte, k.state, le-leb (tag_of s) 191 k.small, le-leb (state_tag s.state) 2 (state-le s.state))

-- ---- a queued open's bytes

pub record OpenFits (q : QueuedOpen) : Type 0 where
  pub remote : q.remote.0 < 2 ^ 32
  pub credit : q.credit < 2 ^ 32
  pub share : q.share < 2 ^ 64
  pub length : q.length < 2 ^ 64

pub open-forth : (q : QueuedOpen) → OpenFits q → queued_of (queued_bytes q) ≡ q
unfolding queued_of queued_bytes bytes_of part
open-forth q f =
    rw (
      write_read 4 q.remote.0 f.remote,
      write_read 4 q.credit f.credit,
      write_read 8 q.share f.share,
      write_read 8 q.length f.length,
    )

open-back : (l : List ℕ) → Bytes l → queued_len ≤ length l → queued_bytes (queued_of l) ≡ take queued_len l
unfolding queued_bytes queued_of
open-back l b h =
    rw (
      read-write-part l 0 4 b (omega arith),
      read-write-part l 4 4 b (omega arith),
      read-write-part l 8 8 b (omega arith),
      read-write-part l 16 8 b (omega arith),
      part_join l 0 4 4,
      part_join l 0 8 8,
      part_join l 0 16 8,
    )
    (part-start l queued_len)

-- ---- the header's bytes

pub record HeaderFits (h : Header) : Type 0 where
  pub channels : h.negotiated.config.channels < 2 ^ 64
  pub rx : h.negotiated.config.max_rx_per_channel < 2 ^ 64
  pub place : h.pending.slot < 2 ^ 64
  pub queued : h.queued < 2 ^ 64
  pub payload : h.negotiated.config.max_payload < 2 ^ 32
  pub initial : h.negotiated.config.initial_ack_bytes < 2 ^ 32
  pub most : h.negotiated.max_payload < 2 ^ 32
  pub version : h.negotiated.protocol_version < 2 ^ 32
  pub next : h.next_local < 2 ^ 32
  pub local : h.pending.local.0 < 2 ^ 32

pub header-forth : (h : Header) (r : List ℕ) → HeaderFits h → header_of (state_header h ++ r) ≡ h
unfolding header_of state_header header_sizes header_words header_tags bytes_of part
header-forth h r f =
    rw (
      flag-forth h.negotiated.delayed_ack,
      pending-forth h.pending.what,
      write_read 8 h.negotiated.config.channels f.channels,
      write_read 8 h.negotiated.config.max_rx_per_channel f.rx,
      write_read 8 h.pending.slot f.place,
      write_read 8 h.queued f.queued,
      write_read 4 h.negotiated.config.max_payload f.payload,
      write_read 4 h.negotiated.config.initial_ack_bytes f.initial,
      write_read 4 h.negotiated.max_payload f.most,
      write_read 4 h.negotiated.protocol_version f.version,
      write_read 4 h.next_local f.next,
      write_read 4 h.pending.local.0 f.local,
    )

header-back : (l : List ℕ) → Bytes l → header_len ≤ length l → get_or l 56 0 ≤ 1 → get_or l 57 0 ≤ 2 → state_header (header_of l) ≡ take header_len l
unfolding state_header header_sizes header_words header_tags header_of
header-back l b h s t =
    rw (
      read-write-part l 0 8 b (omega arith),
      read-write-part l 8 8 b (omega arith),
      read-write-part l 16 8 b (omega arith),
      read-write-part l 24 8 b (omega arith),
      read-write-part l 32 4 b (omega arith),
      read-write-part l 36 4 b (omega arith),
      read-write-part l 40 4 b (omega arith),
      read-write-part l 44 4 b (omega arith),
      read-write-part l 48 4 b (omega arith),
      read-write-part l 52 4 b (omega arith),
      flag-back l 56 (omega arith) s,
      pending-back l 57 (omega arith) t,
      part_join l 0 8 8,
      part_join l 0 16 8,
      part_join l 0 24 8,
      part_join l 32 4 4,
      part_join l 32 8 4,
      part_join l 32 12 4,
      part_join l 32 16 4,
      part_join l 32 20 4,
      part_join l 56 1 1,
      part_join l 0 32 24,
      part_join l 0 56 2,
    )
    (part-start l header_len)

header-flags : (h : Header) (r : List ℕ) → (get_or (state_header h ++ r) 56 0 ≤ 1) × (get_or (state_header h ++ r) 57 0 ≤ 2)
unfolding state_header header_sizes header_words header_tags bytes_of
header-flags h r = (flag-byte-le h.negotiated.delayed_ack, pending-byte-le h.pending.what)

-- ---- the whole

-- what the test of the bytes says
pub record StateTests (b : List ℕ) : Type 0 where
  pub long : state_len ≤ length b
  pub delayed : get_or b 56 0 ≤ 1
  pub pending-open : get_or b 57 0 ≤ 2
  pub slots : all_is slot_len is_slot 64 (drop header_len b) ≡ true

pub state-tests : (b : List ℕ) → is_state b ≡ true → StateTests b
unfolding is_state
state-tests b e =
    let e₃ = and-true _ _ e in
    let e₂ = and-true _ _ e₃.0 in
    let e₁ = and-true _ _ e₂.0 in
    record { long = leb-true _ _ e₁.0; delayed = leb-true _ _ e₁.1; pending-open = leb-true _ _ e₂.1; slots = e₃.1 }

row-whole : (size : ℕ) (l : List ℕ) → size ≤ length l → length (take size l) ≡ size
row-whole size l h = simp length-take (omega arith)

slot-row-back : (l : List ℕ) → Bytes l → slot_len ≤ length l → is_slot (take slot_len l) ≡ true → slot_bytes (slot_of (take slot_len l)) ≡ take slot_len l
slot-row-back l b h t =
    let n = row-whole slot_len l h in
    slot-back (take slot_len l) (bytes_take slot_len l b) (omega arith) t ∙ take_all slot_len (take slot_len l) (omega arith)

abbrev any_bytes : List ℕ → Bool
any_bytes l = true

all_any : (size n : ℕ) (l : List ℕ) → all_is size any_bytes n l ≡ true
unfolding all_is
all_any size zero l = refl
all_any size (suc n) l = all_any size n (drop size l)

open-row-back : (l : List ℕ) → Bytes l → queued_len ≤ length l → any_bytes (take queued_len l) ≡ true → queued_bytes (queued_of (take queued_len l)) ≡ take queued_len l
open-row-back l b h t =
    let n = row-whole queued_len l h in
    open-back (take queued_len l) (bytes_take queued_len l b) (omega arith) ∙ take_all queued_len (take queued_len l) (omega arith)

-- bytes that are a state's are the layout of their reading
pub state-back : (b : List ℕ) → Bytes b → is_state b ≡ true → layout (state_of b) ≡ take state_len b
unfolding layout state_of
state-back b y e =
    let k = state-tests b e in
    let long = k.long in
    let s : flat slot_bytes (rows slot_len slot_of 64 (drop header_len b)) ≡ take (64 * slot_len) (drop header_len b) =
    flat_rows slot_len slot_bytes slot_of is_slot slot-row-back 64 (drop header_len b) (bytes_drop header_len b y) (simp length-drop (omega arith)) k.slots in
    let q : flat queued_bytes (rows queued_len queued_of 64 (drop queue_at b)) ≡ take (64 * queued_len) (drop queue_at b) =
    flat_rows queued_len queued_bytes queued_of any_bytes open-row-back 64 (drop queue_at b) (bytes_drop queue_at b y) (simp length-drop (omega arith)) (all_any queued_len 64 (drop queue_at b)) in
    rw (header-back b y (omega arith) k.delayed k.pending-open, s, q)
    (ap (λ (l : List ℕ). l ++ take (64 * queued_len) (drop queue_at b)) (sym (take-add header_len (64 * slot_len) b)) ∙ sym (take-add queue_at (64 * queued_len) b))

pub state-split : (b : List ℕ) → Bytes b → is_state b ≡ true → layout (state_of b) ++ drop state_len b ≡ b
state-split b y e = rw (state-back b y e) (take-append-drop state_len b)

-- all 64 of each
pub record Full (c : Connection) : Type 0 where
  pub slots : length c.slots ≡ 64
  pub queue : length c.queue ≡ 64

pub state-full : (b : List ℕ) → Full (state_of b)
unfolding state_of
state-full b = record { slots = length-rows slot_len slot_of 64 (drop header_len b); queue = length-rows queued_len queued_of 64 (drop queue_at b) }

-- every number fits its bytes
pub record Fits (c : Connection) : Type 0 where
  pub header : HeaderFits c.header
  pub full : Full c
  pub slots : Every SlotFits c.slots
  pub queue : Every OpenFits c.queue

-- slots and queued opens that fit are read back from a state's bytes
pub rows-forth : (c : Connection) (r : List ℕ) → Full c → Every SlotFits c.slots → Every OpenFits c.queue
    → ((state_of (layout c ++ r)).slots ≡ c.slots) × ((state_of (layout c ++ r)).queue ≡ c.queue)
unfolding state_of layout
rows-forth c r f s o =
    let h = state_header c.header in
    let x = flat slot_bytes c.slots in
    let q = flat queued_bytes c.queue in
    let n = length-header c.header in
    let m = length-flat slot_len slot_bytes length-slot c.slots in
    let a = f.slots in
    let b = f.queue in
    let hx : length (h ++ x) ≡ queue_at = simp length-append (omega arith) in
    let g1 : h ++ x ++ q ++ r ≡ h ++ (x ++ (q ++ r)) = simp append_assoc in
    let g2 : h ++ x ++ q ++ r ≡ h ++ x ++ (q ++ r) = simp append_assoc in
    let d2 : drop header_len (h ++ x ++ q ++ r) ≡ x ++ (q ++ r) = rw g1 (drop_at h (x ++ (q ++ r)) header_len n) in
    let d3 : drop queue_at (h ++ x ++ q ++ r) ≡ q ++ r = rw g2 (drop_at (h ++ x) (q ++ r) queue_at hx) in
    let e2 : rows slot_len slot_of 64 (x ++ (q ++ r)) ≡ c.slots = rw a at (rows-flat slot_len slot_bytes slot_of SlotFits length-slot slot-forth c.slots (q ++ r) s) in
    let e3 : rows queued_len queued_of 64 (q ++ r) ≡ c.queue = rw b at (rows-flat queued_len queued_bytes queued_of OpenFits length-open open-forth c.queue r o) in
    (ap (rows slot_len slot_of 64) d2 ∙ e2, ap (rows queued_len queued_of 64) d3 ∙ e3)

-- a state that fits is read back from its bytes
pub state-forth : (c : Connection) (r : List ℕ) → Fits c → state_of (layout c ++ r) ≡ c
unfolding state_of layout
state-forth c r f =
    let h = state_header c.header in
    let x = flat slot_bytes c.slots in
    let q = flat queued_bytes c.queue in
    let g : h ++ x ++ q ++ r ≡ h ++ (x ++ (q ++ r)) = simp append_assoc in
    let e : header_of (h ++ x ++ q ++ r) ≡ c.header = rw g (header-forth c.header (x ++ (q ++ r)) f.header) in
    let k = rows-forth c r f.full f.slots f.queue in
    rw (e, k.0, k.1)

-- what bytes stand for fits
slot-fits : (l : List ℕ) → Bytes l → SlotFits (slot_of l)
unfolding slot_of
slot-fits l y =
    record {
      local = num_of-part 4 l 0 y;
      remote = num_of-part 4 l 4 y;
      budget = signed-small 63 (num_of (part l 8 8)) (num_of-part 8 l 8 y);
      unacked = num_of-part 8 l 16 y;
      total = num_of-part 8 l 24 y;
      settled = num_of-part 4 l 32 y;
      head = num_of-part 4 l 36 y;
      buffered = num_of-part 4 l 40 y;
    }

open-fits : (l : List ℕ) → Bytes l → OpenFits (queued_of l)
unfolding queued_of
open-fits l y = record { remote = num_of-part 4 l 0 y; credit = num_of-part 4 l 4 y; share = num_of-part 8 l 8 y; length = num_of-part 8 l 16 y }

header-fits : (l : List ℕ) → Bytes l → HeaderFits (header_of l)
unfolding header_of
header-fits l y =
    record {
      channels = num_of-part 8 l 0 y;
      rx = num_of-part 8 l 8 y;
      place = num_of-part 8 l 16 y;
      queued = num_of-part 8 l 24 y;
      payload = num_of-part 4 l 32 y;
      initial = num_of-part 4 l 36 y;
      most = num_of-part 4 l 40 y;
      version = num_of-part 4 l 44 y;
      next = num_of-part 4 l 48 y;
      local = num_of-part 4 l 52 y;
    }

pub state-fits : (b : List ℕ) → Bytes b → Fits (state_of b)
unfolding state_of
state-fits b y =
    record {
      header = header-fits b y;
      full = state-full b;
      slots = rows_fit slot_len slot_of SlotFits slot-fits 64 (drop header_len b) (bytes_drop header_len b y);
      queue = rows_fit queued_len queued_of OpenFits open-fits 64 (drop queue_at b) (bytes_drop queue_at b y);
    }

-- ---- one record put into a state's bytes

pub put-slot-layout : (c : Connection) (r : List ℕ) (i : ℕ) (s : ChannelSlot) → i < length c.slots → put_slot (layout c ++ r) i s ≡ layout (with_slot c i s) ++ r
unfolding put_slot layout
put-slot-layout c r i s h =
    let f = state_header c.header in
    let q = flat queued_bytes c.queue in
    let g : (x : List ChannelSlot) → f ++ flat slot_bytes x ++ q ++ r ≡ f ++ flat slot_bytes x ++ (q ++ r) = λ x. append_assoc (f ++ flat slot_bytes x) q r in
    let n = length-header c.header in
    rw (g c.slots, g (set c.slots i s)) (put-row slot_len slot_bytes length-slot f c.slots (q ++ r) i (header_len + i * slot_len) s h (omega arith))

pub put-header-layout : (c : Connection) (r : List ℕ) (h : Header) → put_header (layout c ++ r) h ≡ layout (with_header c h) ++ r
unfolding put_header layout
put-header-layout c r h =
    let x = flat slot_bytes c.slots in
    let q = flat queued_bytes c.queue in
    let g : (f : List ℕ) → f ++ x ++ q ++ r ≡ f ++ (x ++ q ++ r) = λ f. simp append_assoc in
    rw (g (state_header c.header), g (state_header h)) (put-at [] (state_header c.header) (x ++ q ++ r) (state_header h) 0 refl (length-header c.header ∙ sym (length-header h)))

pub put-queued-layout : (c : Connection) (r : List ℕ) (i : ℕ) (q : QueuedOpen) → length c.slots ≡ 64 → i < length c.queue → put_queued (layout c ++ r) i q ≡ layout (with_queued_at c i q) ++ r
unfolding put_queued layout
put-queued-layout c r i q n h =
    let f = state_header c.header ++ flat slot_bytes c.slots in
    let a = length-header c.header in
    let b = length-flat slot_len slot_bytes length-slot c.slots in
    let m : length f ≡ queue_at = simp length-append (omega arith) in
    put-row queued_len queued_bytes length-open f c.queue r i (queue_at + i * queued_len) q h (omega arith)

-- ---- what the code reads is the state's

slot-part : (b : List ℕ) (i : ℕ) → part (drop header_len b) (i * slot_len) slot_len ≡ part b (header_len + i * slot_len) slot_len
unfolding part
slot-part b i = rw drop-drop

open-part : (b : List ℕ) (i : ℕ) → part (drop queue_at b) (i * queued_len) queued_len ≡ part b (queue_at + i * queued_len) queued_len
unfolding part
open-part b i = rw drop-drop

pub slot-in : (b : List ℕ) (i : ℕ) (d : ChannelSlot) → i < 64 → get_or (state_of b).slots i d ≡ slot_at b i
unfolding state_of slot_at
slot-in b i d h = row_at slot_len slot_of d 64 i (drop header_len b) h ∙ ap slot_of (slot-part b i)

pub open_in : (b : List ℕ) (i : ℕ) (d : QueuedOpen) → i < 64 → get_or (state_of b).queue i d ≡ queued_at b i
unfolding state_of queued_at
open_in b i d h = row_at queued_len queued_of d 64 i (drop queue_at b) h ∙ ap queued_of (open-part b i)

pub header-in : (b : List ℕ) → (state_of b).header ≡ header_of b
unfolding state_of
header-in b = refl

-- a state's bytes pass the test
pub layout-is-state : (c : Connection) (r : List ℕ) → Full c → is_state (layout c ++ r) ≡ true
unfolding is_state layout
layout-is-state c r f =
    let h = state_header c.header in
    let x = flat slot_bytes c.slots in
    let q = flat queued_bytes c.queue in
    let n = length-header c.header in
    let m = length-flat slot_len slot_bytes length-slot c.slots in
    let k = length-flat queued_len queued_bytes length-open c.queue in
    let a = f.slots in
    let b = f.queue in
    let long : state_len ≤ length (h ++ x ++ q ++ r) = simp length-append (omega arith) in
    let g : h ++ x ++ q ++ r ≡ h ++ (x ++ (q ++ r)) = simp append_assoc in
    let d : drop header_len (h ++ x ++ q ++ r) ≡ x ++ (q ++ r) = rw g (drop_at h (x ++ (q ++ r)) header_len n) in
    let s : all_is slot_len is_slot 64 (x ++ (q ++ r)) ≡ true = rw a at (all-flat slot_len slot_bytes is_slot length-slot slot_is c.slots (q ++ r)) in
    let z = rw (← g) at (header-flags c.header (x ++ (q ++ r))) in
    rw (le-leb state_len (length (h ++ x ++ q ++ r)) long, le-leb (get_or (h ++ x ++ q ++ r) 56 0) 1 z.0, le-leb (get_or (h ++ x ++ q ++ r) 57 0) 2 z.1, d) s

-- ---- what is put is read back, and the others stay

module _ (b : List ℕ) (i : ℕ) (s : ChannelSlot) (h : i < 64) (k : state_len ≤ length b) where
  pub put-slot-length : length (put_slot b i s) ≡ length b
  unfolding put_slot
  put-slot-length = let n = length-slot s in length-put b (header_len + i * slot_len) (slot_bytes s) (omega arith)

  pub put-slot-same : SlotFits s → slot_at (put_slot b i s) i ≡ s
  unfolding slot_at put_slot
  put-slot-same f =
      let n = length-slot s in
      let e : part (put b (header_len + i * slot_len) (slot_bytes s)) (header_len + i * slot_len) slot_len ≡ slot_bytes s = rw n at (part-put-same b (header_len + i * slot_len) (slot_bytes s) (omega arith)) in
      rw e (slot-forth s f)

  pub put-slot-other : (j : ℕ) → j < 64 → (j ≡ i → ⊥) → slot_at (put_slot b i s) j ≡ slot_at b j
  unfolding slot_at put_slot
  put-slot-other j g ne =
      let n = length-slot s in
      by-test (ltb j i)
      (λ t. rw (part-put-below b (header_len + i * slot_len) (slot_bytes s) (header_len + j * slot_len) slot_len (omega arith) (omega (arith, ltb-true))))
      (λ t. by-test (ltb i j)
      (λ u. rw (part-put-above b (header_len + i * slot_len) (slot_bytes s) (header_len + j * slot_len) slot_len (omega arith) (omega (arith, ltb-true))))
      (λ u. absurd (ne (omega (arith, ltb-false)))))

  pub put-slot-opens : (j : ℕ) → j < 64 → queued_at (put_slot b i s) j ≡ queued_at b j
  unfolding queued_at put_slot
  put-slot-opens j g =
      let n = length-slot s in
      rw (part-put-above b (header_len + i * slot_len) (slot_bytes s) (queue_at + j * queued_len) queued_len (omega arith) (omega arith))
