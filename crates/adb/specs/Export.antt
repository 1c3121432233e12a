-- What the exported functions leave (docs/ARCHITECTURE.md, "The C interface"), in the terms of the calls' definitions and of
-- the theorems over lists of calls. Assumes nothing.
use Rattle.call_answer.specs.Export.{Exported}
use Rattle.std.specs.Prelude.{ℕ, ◌≡◌, Bool, cond, ◌||◌, List, ◌∷◌, ltb, length}
use Rattle.le.specs.Le.{put}
use Rattle.call_answer.specs.Answer.{numbers_of, answer_bytes, said_in}
use Rattle.connection.specs.Answer.{answer_number}
use Rattle.connection.specs.Calls.{written_by}
use Rattle.connection.specs.Frames.{frames_bytes}
use Rattle.history.specs.Run.{Call, World, lent, outcome, after}
use Rattle.state.specs.State.{state_len}

-- lent bytes that last from call to call
abbrev pub world_of : List ℕ → List ℕ → List ℕ → World
world_of state rx store = record { state = state; rx = rx; store = store }

-- too few bytes for a state or for an answer
unfoldable pub is_short : ℕ → ℕ → Bool
is_short state answer = ltb state state_len || ltb answer 48

-- what a call leaves that is not refused for that: the frames stand at the start of the outgoing buffer, the bytes handed over
-- at the start of the reader's
unfoldable pub called : World → Call → List ℕ → List ℕ → List ℕ → Exported
called w c out buf answer =
    record {
      number = answer_number (outcome w c).answer;
      state = (after w c).state;
      rx = (after w c).rx;
      store = (after w c).store;
      out = put out 0 (frames_bytes (lent w).state.header.negotiated (outcome w c).frames);
      buf = put buf 0 (outcome w c).handed;
      answer = put answer 0 (answer_bytes (outcome w c).used (written_by (lent w).state.header.negotiated (outcome w c)) (outcome w c).answer);
      said = numbers_of (outcome w c).used (written_by (lent w).state.header.negotiated (outcome w c)) (outcome w c).answer;
    }

-- 8, ahead of every other refusal, and nothing is touched; else the call
unfoldable pub exported : World → Call → List ℕ → List ℕ → List ℕ → Exported
exported w c out buf answer =
    cond (is_short (length w.state) (length answer)) (record { number = 8; state = w.state; rx = w.rx; store = w.store; out = out; buf = buf; answer = answer; said = said_in answer }) (called w c out buf answer)

-- make's: a flag is no where it is 0
abbrev pub is_yes : ℕ → Bool
is_yes flag = ltb 0 flag
