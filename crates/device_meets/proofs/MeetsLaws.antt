-- Laws of what a packet is to a device's end. Assumes nothing.
use Rattle.std.proofs.Common.{◌≡◌, sym, ap, ◌∙◌, ◌<◌, false, not, List, Option, Some, None, Result, Ok, ℕ, ◌+◌, ◌≤◌, length, arith}
use borrow.Author.Tests.{ne_eqb}
use Rattle.protocol.specs.declared.packet.Packet.{Packet}
use Rattle.protocol.specs.declared.packet.DecodeError.{DecodeError}
use Rattle.protocol.specs.Packet.{decode_of, packet_of}
use Rattle.protocol.proofs.RoundTrip.{says}
use Rattle.slot.specs.declared.ids.LocalId.{LocalId}
use Rattle.slot.specs.Slot.{empty_slot, is_closed}
use Rattle.state.specs.State.{state_of, slot_at}
use Rattle.state.proofs.StateLaws.{slot-in}
use Rattle.table.specs.declared.Want.TheVariants.{Local}
use Rattle.table.specs.Table.{place_of, below, slot_in}
use Rattle.table.proofs.Laws.{below-some}
use Rattle.device_meets.specs.Meets.{is_stream, is_live_at}

-- ---- a number of ours that was looked for

module _ (b : List ℕ) (n : ℕ) (local : LocalId) (r : Option ℕ) (few : n ≤ 64) (e : r ≡ below n (place_of (Local local) n (state_of b).slots)) where
  -- it was found: its place is one of the 64
  pub found-place : (i : ℕ) → r ≡ Some i → i < 64
  found-place i f = let z = below-some n _ r e i f in omega (arith, z.1)

  pub stream-found : (i : ℕ) → r ≡ Some i → (local.0 ≡ 0 → ⊥) → not (is_closed (slot_at b i).state) ≡ is_stream n (state_of b).slots local
  unfolding is_stream is_live_at slot_in
  stream-found i f z = rw (ne_eqb local.0 0 z, ← e, f, slot-in b i empty_slot (found-place i f))

  pub stream-none : r ≡ None → (local.0 ≡ 0 → ⊥) → false ≡ is_stream n (state_of b).slots local
  unfolding is_stream is_live_at
  stream-none f z = rw (ne_eqb local.0 0 z, ← e, f)

-- ---- where a packet lies

pub packet_fits : (s : List ℕ) (limit : ℕ) (p : Packet) (r : Result (Option Packet) DecodeError) (x : Option Packet) → r ≡ decode_of s limit → r ≡ Ok x → x ≡ Some p
    → (24 + p.data_length ≤ length s) × (p.data_length ≤ 1_048_576)
unfolding packet_of
packet_fits s limit p r x d₁ e₁ f₁ =
    let e : decode_of s limit ≡ Ok (Some p) = sym d₁ ∙ e₁ ∙ ap (λ (y : Option Packet). Ok y) f₁ in
    let k = (says s limit p e).known in
    let d = ap (λ (x : Packet). x.data_length) k.packet-is in
    (omega (arith, k.whole), omega (arith, k.within))
