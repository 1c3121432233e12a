-- What making a device's end does to its bytes (docs/SCOPE.md, 15; docs/LAYOUT.md, "A device's end"). Assumes nothing.
use Rattle.std.specs.Prelude.{ℕ, ◌≤◌, ◌≡◌, Bool, true, false, cond, ◌&&◌, List, ◌++◌, ltb, leb, length}
use Rattle.le.specs.Le.{bytes_of, put}
use Rattle.config.specs.declared.ConnectionConfig.{ConnectionConfig}
use Rattle.config.specs.Config.{within_limits}
use Rattle.config.specs.Negotiated.{negotiated_of}
use Rattle.state.specs.State.{state_of}
use Rattle.state_whole.specs.Whole.{is_whole}
use Rattle.connection.specs.declared.Answer.TheVariants.{Done, Refused}
use Rattle.connection.specs.declared.Refusal.TheVariants.{BadConfig, StoreShort}
use Rattle.connection.specs.Calls.{Made, fresh}
use Rattle.call_make.specs.Make.{make_in}
use Rattle.device.specs.Device.{most_text, inner_at, device_len, is_connected, text_in, head_fine, head_of, inner_of}

-- every limit is kept, the identity text's too
unfoldable pub fits : ConnectionConfig → ℕ → Bool
fits c text = within_limits c && leb text most_text

-- the bytes ahead of the connection: no CNXN came; the text's length, and it. What lies behind it stays
unfoldable pub head_made : List ℕ → List ℕ → List ℕ
head_made text head = put head 0 (bytes_of 1 0 ++ bytes_of 4 (length text) ++ text)

-- the connection until the host's CNXN comes: a fresh one in the plain mode, with the version and the maximum payload of our own CNXN
unfoldable pub inner_made : ConnectionConfig → List ℕ → List ℕ
inner_made c inner = (make_in c 0x0100_0001 c.max_payload false false inner).state

-- 8 for too few bytes, then 7 for a broken limit, and nothing changes; else both parts are made
unfoldable pub device_made : ConnectionConfig → List ℕ → List ℕ → Made
device_made c text b =
    cond (ltb (length b) device_len) (record { answer = Refused StoreShort; state = b })
    (cond (fits c (length text)) (record { answer = Done; state = head_made text (head_of b) ++ inner_made c (inner_of b) })
    (record { answer = Refused BadConfig; state = b }))

-- what laying out the bytes ahead of the connection asks
pub record HeadRoom (head text : List ℕ) : Type 0 where
  pub whole : length head ≡ inner_at
  pub short : length text ≤ most_text

-- ---- what it leaves

-- bytes that may be a device's end, no CNXN having come, with this text, and the connection whole and fresh
pub record BeginsAlone (c : ConnectionConfig) (text b : List ℕ) : Type 0 where
  pub fine : head_fine b ≡ true
  pub alone : is_connected b ≡ false
  pub text-is : text_in b ≡ text
  pub whole : is_whole (inner_of b) ≡ true
  pub is-fresh : state_of (inner_of b) ≡ fresh (negotiated_of false false 0x0100_0001 c.max_payload c)

-- wherever it is done
abbrev pub MadeBegins : Type 0
MadeBegins = (c : ConnectionConfig) (text b : List ℕ) → (device_made c text b).answer ≡ Done → BeginsAlone c text (device_made c text b).state
