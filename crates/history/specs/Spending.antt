-- How far a budget may fall, and what a write call takes off it (docs/SCOPE.md, 4 and 5). Assumes nothing.
use Rattle.std.specs.Prelude.{ℕ, ◌<◌, min, max, true, List, ◌≡◌, ℤ, pos, neg_ℤ, ◌+ℤ◌, ◌-ℤ◌, ◌<ℤ◌, length, Ok}
use Rattle.le.specs.Le.{Bytes}
use Rattle.config.specs.declared.negotiated.Negotiated.{Negotiated}
use Rattle.protocol.specs.declared.packet.Packet.{Packet}
use Rattle.protocol.specs.Command.{is_ready}
use Rattle.saturate.specs.Saturate.{clamp}
use Rattle.credit.specs.Credit.{credit_of}
use Rattle.slot.specs.declared.Spending.{Spending}
use Rattle.slot.specs.declared.Spending.TheVariants.{Within, Beyond}
use Rattle.state_whole.specs.Whole.{is_whole}
use Rattle.table.specs.declared.ChannelId.{ChannelId}
use Rattle.connection.specs.declared.Answer.TheVariants.{Written}
use Rattle.connection.specs.Calls.{policy, received_of, body_of}
use Rattle.history.specs.Run.{bytes_in, Call, write_call, World, lent, outcome, after, after_all, Start, begins, agreed_in}
use Rattle.history.specs.Demand3.{place_slot}

-- the longest payload of a WRTE: what was negotiated, at least 1
abbrev pub longest : Negotiated → ℕ
longest n = max n.max_payload 1

-- for every make that is not refused and all lists of calls, however their writes spend: each budget is above 0 less that
abbrev pub Floor : Type 0
Floor = (s : Start) (cs : List Call) (i : ℕ) → neg_ℤ (pos (longest (agreed_in s))) <ℤ (place_slot (after_all (begins s) cs) i).send_budget

-- ---- one write call

-- as long as n, and no longer than the budget where that is not to be passed
abbrev pub cut : Spending → ℕ → ℕ → ℕ
cut Within budget n = min n budget
cut Beyond budget n = n

-- the received bytes begin with an OKAY of the channel, whose credit makes this budget of the slot's
pub record Credited (w : World) (ch : ChannelId) (received : List ℕ) (budget : ℕ) : Type 0 where
  pub packet : Packet
  pub credit : ℤ
  pub got : received_of (lent w) (bytes_in received) ≡ Ok packet
  pub okay : is_ready packet.command ≡ true
  pub own : packet.arg1 ≡ (place_slot w ch.slot).local.0
  pub reads : credit_of (body_of (bytes_in received) packet) ≡ Ok credit
  pub sum : pos budget ≡ clamp ((place_slot w ch.slot).send_budget +ℤ credit)

-- a write call x on this channel that sends n bytes
pub record Spends (spending : Spending) (w : World) (ch : ChannelId) (bytes received : List ℕ) (x : Call) (n : ℕ) : Type 0 where
  -- the budget that they are sent from, above 0: the slot's as it was, or, where a packet was used, with its credit
  pub budget : ℕ
  pub above : 0 < budget
  pub standing : (outcome w x).used ≡ 0 → (place_slot w ch.slot).send_budget ≡ pos budget
  pub credited : ((outcome w x).used ≡ 0 → ⊥) → Credited w ch received budget
  -- how many they are, and what is left
  pub cuts : n ≡ cut spending budget (min (length bytes) (longest (lent w).state.header.negotiated))
  pub leaves : (place_slot (after w x) ch.slot).send_budget ≡ pos budget -ℤ pos n

-- on every whole state in delayed mode
abbrev pub WritesSpend : Type 0
WritesSpend =
    (w : World) (spending : Spending) (out : List ℕ) (ch : ChannelId) (bytes received : List ℕ) (n : ℕ) → Bytes w.state → is_whole w.state ≡ true
    → (policy (lent w)).delayed ≡ true → (outcome w (write_call spending out ch bytes received)).answer ≡ Written n → 0 < n
    → Spends spending w ch bytes received (write_call spending out ch bytes received) n
