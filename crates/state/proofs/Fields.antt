-- The fields of a record's bytes, put one behind the other. Assumes nothing.
use mathlib.Core.Path.{◌≡◌, refl, sym, ap, ◌∙◌}
use mathlib.Core.List.{List, [], ◌∷◌, append-nil}
use Prim.Native.Nat.{ℕ, ◌+◌, ◌-◌, ◌≤◌}
use native.Mathlib.Omega.{arith}
use lib.ListN.{length, take, drop, drop_of_length-le}
use borrow.Rule.Slice.PartMut.{put_mid}
use Rattle.le.specs.Le.{bytes_of, unsigned, part, put}
use Rattle.le.proofs.Parts.{put-seq, length_part, lent-part, lent_back}
use Rattle.slot.specs.declared.ChannelSlot.{ChannelSlot}
use Rattle.state.specs.declared.Header.{Header}
use Rattle.state.specs.declared.QueuedOpen.{QueuedOpen}
use Rattle.state.specs.State.{header_len, queued_len, tag_at, slot_len, flag_byte, pending_tag, slot_numbers, slot_counts, tag_of, slot_bytes, queued_bytes, header_sizes, header_words, header_tags, state_header, put_header}

pub numbers-put : (d : List ℕ) (s : ChannelSlot) → slot_len ≤ length d
    → put (put (put (put (put d 0 (bytes_of 4 s.local.0)) 4 (bytes_of 4 s.remote.0)) 8 (bytes_of 8 (unsigned 63 s.send_budget))) 16 (bytes_of 8 s.unacked)) 24 (bytes_of 8 s.acked_total) ≡ put d 0 (slot_numbers s)
unfolding slot_numbers bytes_of
numbers-put d s h =
    put-seq d 0 (bytes_of 4 s.local.0)
    (bytes_of 4 s.remote.0 ∷ bytes_of 8 (unsigned 63 s.send_budget) ∷ bytes_of 8 s.unacked ∷ bytes_of 8 s.acked_total ∷ [])
    (omega arith)

pub length-slot : (s : ChannelSlot) → length (slot_bytes s) ≡ slot_len
unfolding slot_bytes slot_numbers slot_counts bytes_of
length-slot s = refl

pub slot-put : (d : List ℕ) (s : ChannelSlot) → slot_len ≤ length d
    → put (put (put d 0 (slot_numbers s)) 32 (slot_counts s)) tag_at (bytes_of 1 (tag_of s)) ≡ put d 0 (slot_bytes s)
unfolding slot_bytes slot_numbers slot_counts bytes_of
slot-put d s h = put-seq d 0 (slot_numbers s) (slot_counts s ∷ bytes_of 1 (tag_of s) ∷ []) (omega arith)

pub length-open : (q : QueuedOpen) → length (queued_bytes q) ≡ queued_len
unfolding queued_bytes bytes_of
length-open q = refl

pub open-put : (d : List ℕ) (q : QueuedOpen) → queued_len ≤ length d
    → put (put (put (put d 0 (bytes_of 4 q.remote.0)) 4 (bytes_of 4 q.credit)) 8 (bytes_of 8 q.share)) 16 (bytes_of 8 q.length) ≡ put d 0 (queued_bytes q)
unfolding queued_bytes bytes_of
open-put d q h = put-seq d 0 (bytes_of 4 q.remote.0) (bytes_of 4 q.credit ∷ bytes_of 8 q.share ∷ bytes_of 8 q.length ∷ []) (omega arith)

pub length-header : (h : Header) → length (state_header h) ≡ header_len
unfolding state_header header_sizes header_words header_tags bytes_of
length-header h = refl

pub header-put : (d : List ℕ) (h : Header) → header_len ≤ length d
    → put (put (put d 0 (header_sizes h)) 32 (header_words h)) 56 (header_tags h) ≡ put_header d h
unfolding put_header state_header header_sizes header_words header_tags bytes_of
header-put d h k = put-seq d 0 (header_sizes h) (header_words h ∷ header_tags h ∷ []) (omega arith)

-- a record's bytes, put over the whole of a part that is lent
put_whole : (d n : List ℕ) → length d ≡ length n → put d 0 n ≡ n
unfolding put
put_whole d n h = let e : length d ≤ 0 + length n = omega arith in rw (drop_of_length-le d e) (append-nil n)

pub put-lent : (b : List ℕ) (at size : ℕ) (n l : List ℕ) → length n ≡ size → at + size ≤ length b
    → l ≡ put (take (at + size - at) (drop at b)) 0 n → put_mid at (at + size - at) b l ≡ put b at n
put-lent b at size n l m k e =
    let f : put (part b at size) 0 n ≡ n = put_whole (part b at size) n (length_part b at size k ∙ sym m) in
    let g : l ≡ n = (rw (lent-part b at size) at e) ∙ f in
    lent_back b at size l (ap length g ∙ m) ∙ ap (put b at) g
