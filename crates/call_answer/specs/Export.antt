-- What the exported functions of both ends are handed and leave, whatever the call (docs/ARCHITECTURE.md, "The C interface"). Assumes
-- nothing.
use Rattle.std.specs.Prelude.{ℕ, ◌≡◌, List}
use Rattle.config.specs.declared.ConnectionConfig.{ConnectionConfig}
use Rattle.table.specs.declared.ChannelId.{ChannelId}
use Rattle.connection.specs.Answer.{answer_number}
use Rattle.connection.specs.Calls.{Made}
use Rattle.call_answer.specs.Answer.{said_in}

-- a channel, by its slot and its local number
abbrev pub channel_of : ℕ → ℕ → ChannelId
channel_of slot local = record { slot = slot; local = record { 0 = local } }

-- the limits, as a make gets them
abbrev pub limits_of : ℕ → ℕ → ℕ → ℕ → ConnectionConfig
limits_of channels payload rx acked =
    record { channels = channels; max_payload = payload; max_rx_per_channel = rx; initial_ack_bytes = acked }

-- a call's number, all that it was lent, and what the answer then says
pub record Exported : Type 0 where
  pub number : ℕ
  pub state : List ℕ
  pub rx : List ℕ
  pub store : List ℕ
  pub out : List ℕ
  pub buf : List ℕ
  pub answer : List ℕ
  pub said : List ℕ

-- what an exported function promises: the number, every byte of what it was lent, and that the answer's bytes say the
-- definition's numbers (each is below 2^64)
pub record Does (e : Exported) (r : ℕ) (state rx store out buf answer : List ℕ) : Type 0 where
  pub number_is : r ≡ e.number
  pub state-is : state ≡ e.state
  pub rx-is : rx ≡ e.rx
  pub store_is : store ≡ e.store
  pub out-is : out ≡ e.out
  pub buf-is : buf ≡ e.buf
  pub answer-is : answer ≡ e.answer
  pub said-is : said_in answer ≡ e.said

-- what a make promises: its number, and the state's bytes
pub record MakesState (m : Made) (r : ℕ) (state : List ℕ) : Type 0 where
  pub number_is : r ≡ answer_number m.answer
  pub state-is : state ≡ m.state
