-- The host's first CNXN at a device's end (docs/SCOPE.md, 15; protocol.txt, "CONNECT"). Assumes nothing.
use Rattle.std.specs.Prelude.{ℕ, ◌+◌, ◌≤◌, ◌≡◌, Bool, true, cond, List, [], ◌++◌, ltb, length, set}
use Rattle.checksum.specs.declared.Checksum.TheVariants.{Compute}
use Rattle.config.specs.declared.ConnectionConfig.{ConnectionConfig}
use Rattle.config.specs.Negotiated.{negotiated_of}
use Rattle.features.specs.Features.{has_feature}
use Rattle.protocol.specs.declared.command.Command.TheVariants.{Connect}
use Rattle.protocol.specs.declared.packet.Packet.{Packet}
use Rattle.protocol.specs.Message.{message_size}
use Rattle.protocol.specs.Packet.{frame_for}
use Rattle.call_make.specs.Make.{make_in, delayed_ack_name}
use Rattle.connection.specs.declared.Answer.TheVariants.{Refused}
use Rattle.connection.specs.declared.Refusal.TheVariants.{OutShort}
use Rattle.device.specs.declared.DeviceAnswer.TheVariants.{Plain, Connected}
use Rattle.device.specs.declared.DeviceReply.{DeviceReply}
use Rattle.device.specs.Device.{head_fine, head_of, inner_of, text_in, Gives}
use Rattle.device.specs.Promise.{DeviceLeaves}

-- our CNXN: version 0x01000001, our maximum payload, the identity text, and its check summed whatever the version
unfoldable pub cnxn_bytes : ℕ → List ℕ → List ℕ
cnxn_bytes max_payload text = frame_for Connect 0x0100_0001 max_payload text Compute

-- an identity text lists delayed acknowledgement
unfoldable pub lists_delayed : List ℕ → Bool
lists_delayed text = has_feature text delayed_ack_name

-- the bytes ahead of the connection, with the flag set
unfoldable pub flagged : List ℕ → List ℕ
flagged head = set head 0 1

-- the connection, made anew from the limits, the host's CNXN, and whether both texts list delayed acknowledgement
unfoldable pub made_anew : ConnectionConfig → Packet → Bool → Bool → List ℕ → List ℕ
made_anew c p ours theirs inner = (make_in c p.arg0 p.arg1 ours theirs inner).state

-- 9, and nothing changes, where our CNXN does not fit; else it is written, the flag set, and the connection made anew. c: the limits;
-- identity: the host's text, the payload of its CNXN; out: the outgoing buffer's length
unfoldable pub connected_as : List ℕ → ℕ → ConnectionConfig → Packet → List ℕ → List ℕ → List ℕ → Gives
connected_as b out c p identity rx store =
    let ours = lists_delayed (text_in b) in
    let theirs = lists_delayed identity in
    cond (ltb out (message_size + length (text_in b)))
    (record { answer = Plain (Refused OutShort); used = 0; written = []; handed = []; head = head_of b; inner = inner_of b; rx = rx; store = store })
    (record {
      answer = Connected (negotiated_of ours theirs p.arg0 p.arg1 c);
      used = message_size + p.data_length;
      written = cnxn_bytes c.max_payload (text_in b);
      handed = [];
      head = flagged (head_of b);
      inner = made_anew c p ours theirs (inner_of b);
      rx = rx;
      store = store;
    })

-- what answering it asks
pub record ConnectRoom (b : List ℕ) (p : Packet) : Type 0 where
  pub fine : head_fine b ≡ true
  pub most : p.data_length ≤ 1_048_576

-- what making it anew promises: every byte of the state
abbrev pub BeginsAnew : ConnectionConfig → Packet → Bool → Bool → List ℕ → List ℕ → Type 0
BeginsAnew c p ours theirs b b' = b' ≡ flagged (head_of b) ++ made_anew c p ours theirs (inner_of b)

-- what `connect` promises, whatever the stores
abbrev pub ConnectDoes : List ℕ → List ℕ → ConnectionConfig → Packet → List ℕ → DeviceReply → List ℕ → List ℕ → Type 0
ConnectDoes b out c p identity r b' out' =
    ((rx store : List ℕ) → DeviceLeaves (connected_as b (length out) c p identity rx store) out [] r b' rx store out' [])
