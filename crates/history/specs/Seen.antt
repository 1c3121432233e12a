-- What a caller sees of a call (docs/SCOPE.md, 8: a book is told from the arguments, the answers and the frames written): a
-- function of the number, the answer and the two buffers that it holds after the call. Assumes nothing.
use Rattle.std.specs.Prelude.{ℕ, zero, suc, cond, List, [], ◌∷◌, eqb, take, drop, get_or}
use Rattle.le.specs.Le.{put}
use Rattle.config.specs.declared.negotiated.Negotiated.{Negotiated}
use Rattle.protocol.specs.Packet.{payload_limit, payload_of, decode_of, used_of}
use Rattle.connection.specs.Answer.{answer_number, answer_values}
use Rattle.connection.specs.Calls.{Outcome, written_by}
use Rattle.connection.specs.Frames.{Sent, frames_bytes}
use Rattle.history.specs.Run.{Call, open_call, dispatch_call, settle_call, take_call, read_call, write_call, close_call, front_taken, look_call, accept_call, reject_call, let_go_call, verdict_call, out_of, buf_of, World, lent, outcome, after}
use Rattle.protocol.specs.declared.packet.DecodeError.TheVariants.{InvalidCommand, InvalidMagic, PayloadTooLarge, InvalidChecksum}
use Rattle.protocol.specs.declared.packet.Packet.{Packet}
use Rattle.protocol.specs.declared.packet.DecodeError.{DecodeError}
use Rattle.std.specs.Prelude.{Option, Some, None, Result, Ok, Err}

-- what a caller holds after a call: the number, what the answer says (bytes used, bytes written, values), and both buffers as
-- they are then
pub record Held : Type 0 where
  pub number : ℕ
  pub used : ℕ
  pub written : ℕ
  pub values : List ℕ
  pub out : List ℕ
  pub buf : List ℕ

-- after an outcome: its frames stand at the start of the outgoing buffer, the bytes handed over at the start of the reader's
abbrev pub held_by : Negotiated → Call → Outcome → Held
held_by n c o =
    record {
      number = answer_number o.answer;
      used = o.used;
      written = written_by n o;
      values = answer_values o.answer;
      out = put (out_of c) 0 (frames_bytes n o.frames);
      buf = put (buf_of c) 0 o.handed;
    }

-- after a call's own definition
unfoldable pub held_of : World → Call → Held
held_of w c = held_by (lent w).state.header.negotiated c (outcome w c)

-- where the number is 8 the answer may be as it was lent: what it says counts as 0
unfoldable pub said_by : Held → Held
said_by h =
    cond (eqb h.number 8) (record { number = 8; used = 0; written = 0; values = 0 ∷ 0 ∷ 0 ∷ 0 ∷ []; out = h.out; buf = h.buf }) h

-- the answer of a read or a take counts bytes, where it is not refused
unfoldable pub count_of : Call → ℕ → List ℕ → ℕ
count_of (open_call out destination received) number values = 0
count_of (dispatch_call out received) number values = 0
count_of (settle_call out ch want) number values = 0
count_of (take_call ch buf) number values = cond (eqb number 0) (get_or values 0 0) 0
count_of (read_call out ch buf received) number values = cond (eqb number 0) (get_or values 0 0) 0
count_of (write_call spending out ch bytes received) number values = 0
count_of (close_call out ch) number values = 0
count_of front_taken number values = 0
count_of (look_call x) number values = 0
count_of (accept_call out) number values = 0
count_of (reject_call out) number values = 0
count_of let_go_call number values = 0
count_of (verdict_call out take remote credit) number values = 0

-- what bytes begin with, before the frames behind it
unfoldable pub sent_by : List ℕ → List Sent → Result (Option Packet) DecodeError → List Sent
sent_by l rest (Ok (Some p)) = record { command = p.command; arg0 = p.arg0; arg1 = p.arg1; payload = payload_of l p.data_length } ∷ rest
sent_by l rest (Ok None) = []
sent_by l rest (Err (InvalidCommand word)) = []
sent_by l rest (Err InvalidMagic) = []
sent_by l rest (Err PayloadTooLarge) = []
sent_by l rest (Err (InvalidChecksum used)) = []

-- at most n frames, one behind the other
unfoldable pub sent_in : ℕ → List ℕ → List Sent
sent_in zero l = []
sent_in (suc n) l = sent_by l (sent_in n (drop (used_of (decode_of l payload_limit)) l)) (decode_of l payload_limit)

-- what the books are fed with: number, values and bytes used; the frames in the first bytes of the outgoing buffer, as many as
-- the answer says were written; the bytes that it counts, the first of the reader's buffer
pub record Seen : Type 0 where
  pub number : ℕ
  pub values : List ℕ
  pub used : ℕ
  pub sent : List Sent
  pub got : List ℕ

-- a call, and what its caller holds after it
pub record Event : Type 0 where
  pub call : Call
  pub held : Held

-- what is seen of what the answer says
unfoldable pub seen_in : Call → Held → Seen
seen_in c h =
    record {
      number = h.number;
      values = h.values;
      used = h.used;
      sent = sent_in 2 (take h.written h.out);
      got = take (count_of c h.number h.values) h.buf;
    }

-- what is seen of a call
abbrev pub seen_of : Event → Seen
seen_of e = seen_in e.call (said_by e.held)

-- what each call of a list leaves its caller
unfoldable pub events_of : World → List Call → List Event
events_of w [] = []
events_of w (c ∷ cs) = record { call = c; held = held_of w c } ∷ events_of (after w c) cs
