-- Laws of outgoing frames. Assumes nothing.
--     comes_back   what is put at a place is decoded to the frame that was meant; okay-back, close-back: an OKAY, a CLSE
--     okay-credit  the credit of a delayed OKAY is the length
--     behind       a frame right behind another leaves it; first_back: which is decoded as before
use mathlib.Core.Path.{◌≡◌, refl, ap, subst, ◌∙◌}
use mathlib.Core.Bool.{Bool, true, false, cond}
use mathlib.Core.List.{List, [], ◌∷◌, ◌++◌, append_assoc}
use Prim.Native.Nat.{ℕ, ◌+◌, ◌≤◌, ◌<◌, ◌^◌, min}
use native.Mathlib.Omega.{arith}
use lib.ListN.{length, take, drop, length-take}
use lib.Seq.{drop_at}
use Rattle.le.specs.Le.{num_of, bytes_of, part, put}
use Rattle.le.proofs.Laws.{length-bytes_of, write_read}
use Rattle.le.proofs.Parts.{length-put, put-put, part-put-same, part-put-below}
use Rattle.checksum.specs.declared.Checksum.{Checksum}
use Rattle.protocol.specs.declared.command.Command.{Command}
use Rattle.protocol.specs.declared.command.Command.TheVariants.{Ready, Close}
use Rattle.protocol.specs.declared.packet.Packet.{Packet}
use Rattle.checksum.specs.Checksum.{check_for}
use Rattle.protocol.specs.Packet.{payload_limit, empty_packet, payload_of, frame_for, Puts}
use Rattle.protocol.proofs.PacketLaws.{frame-length}
use Rattle.checksum.proofs.ChecksumLaws.{check-small}
use Rattle.protocol.proofs.RoundTrip.{frame-payload, not-refused, own-check, FrameComesBack}
use Rattle.slot.specs.declared.ids.ChannelIds.{ChannelIds}
use Rattle.wire.specs.Wire.{credit_bytes, okay_bytes, okay_with, close_bytes}
use Rattle.std.specs.Prelude.{Option, Some, None}

-- ---- lengths

-- an OKAY's payload: 4 bytes, or none
pub credit-length : (delayed : Bool) (n : ℕ) → length (credit_bytes delayed n) ≡ cond delayed 4 0
unfolding credit_bytes
credit-length true n = length-bytes_of 4 n
credit-length false n = refl

short : (delayed : Bool) (n : ℕ) → length (credit_bytes delayed n) ≤ 4
short true n = omega (arith, credit-length true n)
short false n = omega (arith, credit-length false n)

-- an OKAY: 28 bytes where acknowledgements are delayed, 24 otherwise
pub okay-length : (ids : ChannelIds) (delayed : Bool) (n : ℕ) (k : Checksum) → length (okay_bytes ids delayed n k) ≡ cond delayed 28 24
unfolding okay_bytes
okay-length ids true n k = frame-length Ready ids.local.0 ids.remote.0 (credit_bytes true n) (check_for k (credit_bytes true n)) ∙ ap (λ (j : ℕ). 24 + j) (credit-length true n)
okay-length ids false n k = frame-length Ready ids.local.0 ids.remote.0 (credit_bytes false n) (check_for k (credit_bytes false n)) ∙ ap (λ (j : ℕ). 24 + j) (credit-length false n)

-- a CLSE is of 24 bytes
pub close-length : (ids : ChannelIds) (k : Checksum) → length (close_bytes ids k) ≡ 24
unfolding close_bytes
close-length ids k = frame-length Close ids.local.0 ids.remote.0 [] (check_for k [])

-- ---- what the functions cite

-- an OKAY with the length, where acknowledgements are delayed
pub delayed-okay : (d out credit : List ℕ) (at r n : ℕ) (ids : ChannelIds) (len : Option ℕ) (k : Checksum) → len ≡ Some n
    → credit ≡ put (0 ∷ 0 ∷ 0 ∷ 0 ∷ []) 0 (bytes_of 4 n) → Puts d at (frame_for Ready ids.local.0 ids.remote.0 credit k) r out
    → Puts d at (okay_with ids len k) r out
unfolding okay_bytes credit_bytes put bytes_of
delayed-okay d out credit at r n ids len k t e p =
    let f : credit ≡ bytes_of 4 n = e in
    rw t (rw f at p)

-- an OKAY with no payload, where they are not
pub classic-okay : (d out : List ℕ) (at r : ℕ) (ids : ChannelIds) (len : Option ℕ) (k : Checksum) → len ≡ None
    → Puts d at (frame_for Ready ids.local.0 ids.remote.0 [] k) r out → Puts d at (okay_with ids len k) r out
unfolding okay_bytes credit_bytes
classic-okay d out at r ids len k t p = rw t p

-- ---- what is written is decoded to the frame that was meant

-- from the place on: what was put, and what lies behind it
drop-put : (d : List ℕ) (at : ℕ) (s : List ℕ) → at ≤ length d → drop at (put d at s) ≡ s ++ drop (at + length s) d
unfolding put
drop-put d at s h =
    let e : take at d ++ s ++ drop (at + length s) d ≡ take at d ++ (s ++ drop (at + length s) d) = simp append_assoc in
    rw e (drop_at (take at d) (s ++ drop (at + length s) d) at (simp length-take (omega arith)))

module _ (c : Command) (a b : ℕ) (payload : List ℕ) (k : Checksum) (limit : ℕ) (ha : a < 2 ^ 32) (hb : b < 2 ^ 32) (hl : length payload ≤ min limit payload_limit) where
  -- whatever follows it
  pub back : (rest : List ℕ) → FrameComesBack c a b payload limit (length (frame_for c a b payload k)) (frame_for c a b payload k ++ rest)
  back rest =
      record {
        length-is = frame-length c a b payload (check_for k payload);
        frame_is = not-refused c a b payload rest (check_for k payload) limit ha hb (check-small k payload) hl (own-check k payload);
        payload-is = frame-payload c a b payload rest (check_for k payload);
      }

  -- a frame put at a place
  pub comes_back : (out : List ℕ) (at : ℕ) → at + 24 + length payload ≤ length out
      → FrameComesBack c a b payload limit (length (frame_for c a b payload k)) (drop at (put out at (frame_for c a b payload k)))
  comes_back out at h = let f = frame_for c a b payload k in rw (drop-put out at f (omega arith)) (back (drop (at + length f) out))

  -- a frame with another right behind it
  pub first_back : (out g : List ℕ) (at : ℕ) → at + length (frame_for c a b payload k) + length g ≤ length out
      → FrameComesBack c a b payload limit (length (frame_for c a b payload k)) (drop at (put (put out at (frame_for c a b payload k)) (at + length (frame_for c a b payload k)) g))
  first_back out g at h =
      let f = frame_for c a b payload k in
      let r = drop (at + length (f ++ g)) out in
      rw (put-put out at f (at + length f) g refl h, drop-put out at (f ++ g) (omega arith), append_assoc f g r) (back (g ++ r))

module _ (ids : ChannelIds) (k : Checksum) (limit : ℕ) (out : List ℕ) (at : ℕ) (hl : ids.local.0 < 2 ^ 32) (hr : ids.remote.0 < 2 ^ 32) where
  -- an OKAY put at a place, with its credit or without
  pub okay-back : (delayed : Bool) (n : ℕ) → length (credit_bytes delayed n) ≤ limit → at + 24 + length (credit_bytes delayed n) ≤ length out
      → FrameComesBack Ready ids.local.0 ids.remote.0 (credit_bytes delayed n) limit (length (okay_bytes ids delayed n k)) (drop at (put out at (okay_bytes ids delayed n k)))
  unfolding okay_bytes
  okay-back delayed n h room =
      let s : length (credit_bytes delayed n) ≤ 4 = short delayed n in
      comes_back Ready ids.local.0 ids.remote.0 (credit_bytes delayed n) k limit hl hr (omega arith) out at room

  -- a CLSE put at a place
  pub close-back : at + 24 ≤ length out
      → FrameComesBack Close ids.local.0 ids.remote.0 [] limit (length (close_bytes ids k)) (drop at (put out at (close_bytes ids k)))
  unfolding close_bytes
  close-back room = comes_back Close ids.local.0 ids.remote.0 [] k limit hl hr (omega arith) out at (omega arith)

-- the credit of a delayed OKAY is the length
pub okay-credit : (ids : ChannelIds) (k : Checksum) (out : List ℕ) (at n : ℕ) → n < 2 ^ 32 → at + 28 ≤ length out
    → num_of (part (payload_of (drop at (put out at (okay_bytes ids true n k))) 4) 0 4) ≡ n
unfolding okay_bytes credit_bytes bytes_of part
okay-credit ids k out at n h room =
    let f = okay_bytes ids true n k in
    let credit = bytes_of 4 n in
    let p : payload_of (f ++ drop (at + length f) out) 4 ≡ credit = frame-payload Ready ids.local.0 ids.remote.0 credit (drop (at + length f) out) (check_for k credit) in
    rw (drop-put out at f (omega arith), p) (write_read 4 n h)

-- ---- a frame right behind another

-- they are one put, and each is read back where it was put
pub record Behind (d : List ℕ) (at : ℕ) (f g : List ℕ) : Type 0 where
  pub joined : put (put d at f) (at + length f) g ≡ put d at (f ++ g)
  pub first : part (put (put d at f) (at + length f) g) at (length f) ≡ f
  pub second : part (put (put d at f) (at + length f) g) (at + length f) (length g) ≡ g

-- where there is room for both
pub behind : (d : List ℕ) (at : ℕ) (f g : List ℕ) → at + length f + length g ≤ length d → Behind d at f g
behind d at f g h =
    let n = length-put d at f (omega arith) in
    record {
      joined = put-put d at f (at + length f) g refl h;
      first = part-put-below (put d at f) (at + length f) g at (length f) (omega arith) (omega arith) ∙ part-put-same d at f (omega arith);
      second = part-put-same (put d at f) (at + length f) g (omega arith);
    }

-- a frame with no payload, made by `Packet::empty`
pub empty-puts : (d : List ℕ) (at : ℕ) (f : Packet) (c : Command) (a b : ℕ) (k : Checksum) (r : ℕ) (x : List ℕ) → f ≡ empty_packet c a b
    → Puts d at (frame_for f.command f.arg0 f.arg1 [] k) r x → Puts d at (frame_for c a b [] k) r x
unfolding empty_packet
empty-puts d at f c a b k r x e p = subst (λ (g : Packet). Puts d at (frame_for g.command g.arg0 g.arg1 [] k) r x) e p
