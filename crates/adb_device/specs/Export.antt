-- What the exported functions of a device's end leave (docs/ARCHITECTURE.md, "A device's end"; docs/LAYOUT.md, "The answer"). Assumes
-- nothing.
use Rattle.call_answer.specs.Export.{Exported}
use Rattle.std.specs.Prelude.{ℕ, ◌≡◌, Bool, cond, ◌||◌, List, ◌∷◌, ◌++◌, ltb, length}
use Rattle.le.specs.Le.{bytes_of, put}
use Rattle.le.specs.Rows.{flat}
use Rattle.call_answer.specs.Answer.{said_in}
use Rattle.device.specs.declared.DeviceAnswer.{DeviceAnswer}
use Rattle.device.specs.Answer.{device_number, device_values}
use Rattle.device.specs.Device.{device_len, Gives}

-- an answer's six numbers: used, written, then the answer's four values
abbrev pub device_numbers : ℕ → ℕ → DeviceAnswer → List ℕ
device_numbers used written a = used ∷ written ∷ device_values a

-- its 48 bytes
unfoldable pub device_bytes : ℕ → ℕ → DeviceAnswer → List ℕ
device_bytes used written a = flat (bytes_of 8) (device_numbers used written a)

-- too few bytes for a state or for an answer
unfoldable pub is_short : ℕ → ℕ → Bool
is_short state answer = ltb state device_len || ltb answer 48

-- what a call leaves that is not refused for that
unfoldable pub left_by_call : Gives → List ℕ → List ℕ → List ℕ → Exported
left_by_call g out buf answer =
    record {
      number = device_number g.answer;
      state = g.head ++ g.inner;
      rx = g.rx;
      store = g.store;
      out = put out 0 g.written;
      buf = put buf 0 g.handed;
      answer = put answer 0 (device_bytes g.used (length g.written) g.answer);
      said = device_numbers g.used (length g.written) g.answer;
    }

-- 8, ahead of every other refusal, and nothing is touched; else the call
unfoldable pub exported : List ℕ → List ℕ → List ℕ → Gives → List ℕ → List ℕ → List ℕ → Exported
exported b rx store g out buf answer =
    cond (is_short (length b) (length answer))
    (record { number = 8; state = b; rx = rx; store = store; out = out; buf = buf; answer = answer; said = said_in answer })
    (left_by_call g out buf answer)
