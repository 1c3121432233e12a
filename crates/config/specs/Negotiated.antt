-- What the two ends agreed on (docs/SCOPE.md, 3; negotiated.rs). Assumes nothing.
use Rattle.std.specs.Prelude.{ℕ, min, Bool, ◌&&◌, cond}
use Rattle.config.specs.declared.ConnectionConfig.{ConnectionConfig}
use Rattle.config.specs.declared.negotiated.Negotiated.{Negotiated}
use Rattle.config.specs.declared.negotiated.RxPolicy.{RxPolicy}
use Rattle.config.specs.Config.{cap_of, watermark_of, opening_credit}

-- delayed mode is on when both sides list it
unfoldable pub both : Bool → Bool → Bool
both a b = a && b

-- max_payload: the smaller of CNXN's arg1 and 1,048,576; version: the smaller of its arg0 and 0x01000001
unfoldable pub negotiated_of : Bool → Bool → ℕ → ℕ → ConnectionConfig → Negotiated
negotiated_of host device a b c =
    record {
      max_payload = min b 1_048_576;
      protocol_version = min a 0x0100_0001;
      config = c;
      delayed_ack = both host device;
    }

-- the policy of every channel
unfoldable pub policy_of : Negotiated → RxPolicy
policy_of n = record { delayed = n.delayed_ack; rx_cap = cap_of n.config; watermark = watermark_of n.config }

-- an OPEN not in delayed mode carries 0
unfoldable pub offered_credit : Negotiated → ℕ
offered_credit n = cond n.delayed_ack (opening_credit n.config) 0
