-- A connection's limits (docs/SCOPE.md, 3; config.rs). Assumes nothing.
use Rattle.std.specs.Prelude.{ℕ, ◌+◌, ◌-◌, ◌*◌, ◌≤◌, min, max, Bool, ◌&&◌, leb}
use Rattle.config.specs.declared.ConnectionConfig.{ConnectionConfig}

-- channels 1 to 64; max_payload 1 to 1,048,576; max_rx_per_channel to 16,777,216; initial_ack_bytes to 2,147,483,647
unfoldable pub within_limits : ConnectionConfig → Bool
within_limits c =
    leb 1 c.channels && leb c.channels 64
    && leb 1 c.max_payload && leb c.max_payload 1_048_576
    && leb c.max_rx_per_channel 16_777_216
    && leb c.initial_ack_bytes 2_147_483_647

-- the same as facts
pub record Within (c : ConnectionConfig) : Type 0 where
  pub one-channel : 1 ≤ c.channels
  pub most-channels : c.channels ≤ 64
  pub one_byte : 1 ≤ c.max_payload
  pub most-payload : c.max_payload ≤ 1_048_576
  pub most-rx : c.max_rx_per_channel ≤ 16_777_216
  pub most-credit : c.initial_ack_bytes ≤ 2_147_483_647

-- the larger of max_rx_per_channel and max_payload
unfoldable pub cap_of : ConnectionConfig → ℕ
cap_of c = max c.max_rx_per_channel c.max_payload

-- cap − max_payload + 1
unfoldable pub ceiling_of : ConnectionConfig → ℕ
ceiling_of c = cap_of c - c.max_payload + 1

-- the smaller of the ceiling and the larger of initial_ack_bytes and max_payload
unfoldable pub watermark_of : ConnectionConfig → ℕ
watermark_of c = min (ceiling_of c) (max c.initial_ack_bytes c.max_payload)

-- the smaller of initial_ack_bytes and ceiling
unfoldable pub opening_credit : ConnectionConfig → ℕ
opening_credit c = min (ceiling_of c) c.initial_ack_bytes

-- channels × 2 × cap
unfoldable pub rx_store_len : ConnectionConfig → ℕ
rx_store_len c = c.channels * (2 * cap_of c)

-- channels × max_payload
unfoldable pub open_store_len : ConnectionConfig → ℕ
open_store_len c = c.channels * c.max_payload

-- neither store is under its length: else refusal 8
unfoldable pub stores_fit : ConnectionConfig → ℕ → ℕ → Bool
stores_fit c rx opens = leb (rx_store_len c) rx && leb (open_store_len c) opens
