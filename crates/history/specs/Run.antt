-- Lists of calls, each on the state and stores that the last one left (docs/SCOPE.md, 8: a list begins with the state that
-- make left, and stores of any bytes; received bytes, data and buffers are each call's own). Assumes nothing.
use Rattle.std.specs.Prelude.{ℕ, ◌%◌, ◌^◌, ◌≤◌, Bool, true, List, [], ◌∷◌, map, ◌≡◌, length}
use Rattle.config.specs.declared.ConnectionConfig.{ConnectionConfig}
use Rattle.config.specs.declared.negotiated.Negotiated.{Negotiated}
use Rattle.config.specs.declared.negotiated.RxPolicy.{RxPolicy}
use Rattle.config.specs.Config.{within_limits}
use Rattle.config.specs.Negotiated.{negotiated_of, policy_of}
use Rattle.slot.specs.declared.Spending.{Spending}
use Rattle.slot.specs.declared.ids.RemoteId.{RemoteId}
use Rattle.state.specs.Change.{put_all}
use Rattle.state.specs.State.{state_len, state_of}
use Rattle.state_whole.specs.Whole.{is_whole}
use Rattle.table.specs.declared.ChannelId.{ChannelId}
use Rattle.connection.specs.Calls.{Lent, Outcome, open_outcome, dispatch_outcome, settle_outcome, take_outcome, read_outcome, write_outcome, close_outcome, take_front_outcome, numbers_outcome, accept_outcome, reject_outcome, let_go_outcome, verdict_outcome, make_of}

-- numbers as bytes: a caller's list of any numbers stands for bytes
unfoldable pub bytes_in : List ℕ → List ℕ
bytes_in l = map (λ (n : ℕ). n % 256) l

-- a number of 32 bits: a caller's any number stands for one
unfoldable pub word_in : ℕ → ℕ
word_in n = n % 2 ^ 32

-- a call that only looks, and its arguments
pub data Look : Type 0 where
  numbers_look : ChannelId → Look

-- a call and its arguments: the outgoing buffer, then what the call takes; the reader's buffer; received bytes last. A write first says
-- whether it may pass the budget
pub data Call : Type 0 where
  open_call : List ℕ → List ℕ → List ℕ → Call
  dispatch_call : List ℕ → List ℕ → Call
  settle_call : List ℕ → ChannelId → ℕ → Call
  take_call : ChannelId → List ℕ → Call
  read_call : List ℕ → ChannelId → List ℕ → List ℕ → Call
  write_call : Spending → List ℕ → ChannelId → List ℕ → List ℕ → Call
  close_call : List ℕ → ChannelId → Call
  front_taken : Call
  look_call : Look → Call
  accept_call : List ℕ → Call
  reject_call : List ℕ → Call
  let_go_call : Call
  -- an OPEN of the peer's that is taken or refused at once, by its number and credit: a device's end makes this call, the host's
  -- functions do not
  verdict_call : List ℕ → Bool → RemoteId → ℕ → Call

-- the outgoing buffer that a call is lent; none where it takes none
unfoldable pub out_of : Call → List ℕ
out_of (open_call out destination received) = out
out_of (dispatch_call out received) = out
out_of (settle_call out ch want) = out
out_of (take_call ch buf) = []
out_of (read_call out ch buf received) = out
out_of (write_call spending out ch bytes received) = out
out_of (close_call out ch) = out
out_of front_taken = []
out_of (look_call x) = []
out_of (accept_call out) = out
out_of (reject_call out) = out
out_of let_go_call = []
out_of (verdict_call out take remote credit) = out

-- the reader's buffer that it is lent
unfoldable pub buf_of : Call → List ℕ
buf_of (open_call out destination received) = []
buf_of (dispatch_call out received) = []
buf_of (settle_call out ch want) = []
buf_of (take_call ch buf) = buf
buf_of (read_call out ch buf received) = buf
buf_of (write_call spending out ch bytes received) = []
buf_of (close_call out ch) = []
buf_of front_taken = []
buf_of (look_call x) = []
buf_of (accept_call out) = []
buf_of (reject_call out) = []
buf_of let_go_call = []
buf_of (verdict_call out take remote credit) = []

-- the received bytes that it is handed
unfoldable pub received_in : Call → List ℕ
received_in (open_call out destination received) = bytes_in received
received_in (dispatch_call out received) = bytes_in received
received_in (settle_call out ch want) = []
received_in (take_call ch buf) = []
received_in (read_call out ch buf received) = bytes_in received
received_in (write_call spending out ch bytes received) = bytes_in received
received_in (close_call out ch) = []
received_in front_taken = []
received_in (look_call x) = []
received_in (accept_call out) = []
received_in (reject_call out) = []
received_in let_go_call = []
received_in (verdict_call out take remote credit) = []

-- the lent bytes that last from call to call
pub record World : Type 0 where
  pub state : List ℕ
  pub rx : List ℕ
  pub store : List ℕ

-- the same, as a call sees them
abbrev pub lent : World → Lent
lent w = record { state = state_of w.state; rx = w.rx; store = w.store }

-- what a call that only looks answers: it leaves everything as it is
unfoldable pub look_outcome : Bool → Lent → Look → Outcome
look_outcome whole l (numbers_look ch) = numbers_outcome whole l ch

-- a call's own definition on the lent bytes
unfoldable pub outcome : World → Call → Outcome
outcome w (open_call out destination received) = open_outcome (is_whole w.state) (lent w) (length out) (bytes_in destination) (bytes_in received)
outcome w (dispatch_call out received) = dispatch_outcome (is_whole w.state) (lent w) (length out) (bytes_in received)
outcome w (settle_call out ch want) = settle_outcome (is_whole w.state) (lent w) (length out) ch want
outcome w (take_call ch buf) = take_outcome (is_whole w.state) (lent w) ch (length buf)
outcome w (read_call out ch buf received) = read_outcome (is_whole w.state) (lent w) (length out) ch (length buf) (bytes_in received)
outcome w (write_call spending out ch bytes received) = write_outcome spending (is_whole w.state) (lent w) (length out) ch (bytes_in bytes) (bytes_in received)
outcome w (close_call out ch) = close_outcome (is_whole w.state) (lent w) (length out) ch
outcome w front_taken = take_front_outcome (is_whole w.state) (lent w)
outcome w (look_call x) = look_outcome (is_whole w.state) (lent w) x
outcome w (accept_call out) = accept_outcome (is_whole w.state) (lent w) (length out)
outcome w (reject_call out) = reject_outcome (is_whole w.state) (lent w) (length out)
outcome w let_go_call = let_go_outcome (is_whole w.state) (lent w)
outcome w (verdict_call out take remote credit) = verdict_outcome (is_whole w.state) (lent w) (length out) take (record { 0 = word_in remote.0 }) (word_in credit)

-- what a call leaves
unfoldable pub after : World → Call → World
after w c = record { state = put_all w.state (outcome w c).changes; rx = (outcome w c).rx; store = (outcome w c).store }

-- what a list of calls leaves
unfoldable pub after_all : World → List Call → World
after_all w [] = w
after_all w (c ∷ cs) = after_all (after w c) cs

-- ---- where a list begins

-- what make leaves: c the limits, a and b the device's CNXN, host and device whether each lists delayed acknowledgement
unfoldable pub made : ConnectionConfig → ℕ → ℕ → Bool → Bool → List ℕ → List ℕ → List ℕ → World
made c a b host device state rx store = record { state = (make_of c a b host device state).state; rx = rx; store = store }

-- a make that is not refused: limits, arg0 and arg1 of the device's CNXN, whether host and device list delayed
-- acknowledgement; any bytes as state, of its length or more, and as stores, of any length
pub record Start : Type 0 where
  pub config : ConnectionConfig
  pub version : ℕ
  pub most : ℕ
  pub host : Bool
  pub device : Bool
  pub state : List ℕ
  pub rx : List ℕ
  pub store : List ℕ
  pub within : within_limits config ≡ true
  pub long : state_len ≤ length state

-- the bytes that it leaves
abbrev pub begins : Start → World
begins s = made s.config s.version s.most s.host s.device s.state s.rx s.store

-- what was negotiated
abbrev pub agreed_in : Start → Negotiated
agreed_in s = negotiated_of s.host s.device s.version s.most s.config

-- and the receive policy that follows from it
abbrev pub policy_in : Start → RxPolicy
policy_in s = policy_of (agreed_in s)
