-- What the calls' functions ask and promise. Assumes nothing.
use Rattle.std.specs.Prelude.{ℕ, ◌+◌, ◌≤◌, ◌≡◌, true, cond, List, ltb, length, Option, Some, None, Result, Ok, Err}
use Rattle.le.specs.Le.{put, Bytes}
use Rattle.config.specs.declared.negotiated.Negotiated.{Negotiated}
use Rattle.config.specs.Config.{Within, stores_fit}
use Rattle.config.specs.Negotiated.{policy_of}
use Rattle.incoming.specs.Incoming.{PushRoom}
use Rattle.protocol.specs.declared.packet.Packet.{Packet}
use Rattle.slot.specs.declared.ChannelSlot.{ChannelSlot}
use Rattle.state.specs.declared.Header.{Header}
use Rattle.state.specs.Change.{put_all}
use Rattle.state.specs.State.{state_len, state_of, put_header}
use Rattle.state_whole.specs.Whole.{is_whole}
use Rattle.table.specs.declared.ChannelId.{ChannelId}
use Rattle.table.specs.Table.{there_in, slot_in}
use Rattle.table_dispatch.specs.Dispatch.{Sound}
use Rattle.call.specs.declared.Reply.{Reply}
use Rattle.call.specs.declared.act.ActedOn.{ActedOn}
use Rattle.connection.specs.declared.Answer.{Answer}
use Rattle.connection.specs.declared.Refusal.TheVariants.{StoreShort, OutShort, BrokenState}
use Rattle.connection.specs.Act.{Acted, act_on}
use Rattle.connection.specs.Calls.{dropped, is_there, slot_for, Lent, Outcome, written_by}
use Rattle.connection.specs.Frames.{frames_bytes}
use Rattle.connection.specs.declared.Refusal.{Refusal}

-- lent bytes, as a call sees them
abbrev pub lent_of : List ℕ → List ℕ → List ℕ → Lent
lent_of state rx store = record { state = state_of state; rx = rx; store = store }

-- what was negotiated, as the state's bytes have it
abbrev pub agreed_in : List ℕ → Negotiated
agreed_in state = (state_of state).header.negotiated

-- what a call's function promises: the outcome's answer and counts, and every byte of what it was lent. The frames stand in
-- the outgoing buffer from place `at` on, the bytes handed over at the start of the reader's, both within their buffers; all
-- else is as it was
pub record Leaves (n : Negotiated) (o : Outcome) (at : ℕ) (state out buf : List ℕ) (r : Reply) (state' rx store out' buf' : List ℕ) : Type 0 where
  pub answer-is : r.answer ≡ o.answer
  pub used-is : r.used ≡ o.used
  pub written_is : r.written ≡ at + written_by n o
  pub state-is : state' ≡ put_all state o.changes
  pub rx-is : rx ≡ o.rx
  pub store_is : store ≡ o.store
  pub out-is : out' ≡ put out at (frames_bytes n o.frames)
  pub out-fits : at + written_by n o ≤ length out
  pub buf-is : buf' ≡ put buf 0 o.handed
  pub buf-fits : length o.handed ≤ length buf

-- the refusals ahead of every step: 13, 8; else the header. The stores' lengths
unfoldable pub admitted : List ℕ → ℕ → ℕ → Result Header Refusal
admitted state rx store =
    cond (is_whole state) (cond (stores_fit (agreed_in state).config rx store) (Ok (state_of state).header) (Err StoreShort)) (Err BrokenState)

-- and 9 for 56 bytes, where a call is lent an outgoing buffer, of this length
unfoldable pub admitted_out : List ℕ → ℕ → ℕ → ℕ → Result Header Refusal
admitted_out state rx store out =
    cond (is_whole state)
    (cond (stores_fit (agreed_in state).config rx store) (cond (ltb out 56) (Err OutShort) (Ok (state_of state).header)) (Err StoreShort))
    (Err BrokenState)

-- what is so of the state once a call is admitted, whatever the stores
pub record AdmitsState (state : List ℕ) (out : ℕ) : Type 0 where
  pub state-fits : state_len ≤ length state
  pub bytes : Bytes state
  pub is-whole : is_whole state ≡ true
  pub room : 56 ≤ out

-- and of the stores
pub record Admits (state rx store : List ℕ) (out : ℕ) : Type 0 where
  pub state-fits : state_len ≤ length state
  pub bytes : Bytes state
  pub is-whole : is_whole state ≡ true
  pub stores : stores_fit (agreed_in state).config (length rx) (length store) ≡ true
  pub room : 56 ≤ out

-- a step's start: the call is admitted, and nothing is pending in the header that it stores
abbrev pub Begins : List ℕ → List ℕ → List ℕ → ℕ → Header → Type 0
Begins state rx store out h = Admits state rx store out × (h ≡ dropped (state_of state).header)

-- the start of a step that looks at no store
abbrev pub BeginsState : List ℕ → ℕ → Header → Type 0
BeginsState state out h = AdmitsState state out × (h ≡ dropped (state_of state).header)

-- and the channel is in the table, with this slot
abbrev pub BeginsOn : List ℕ → List ℕ → List ℕ → ℕ → Header → ChannelId → ChannelSlot → Type 0
BeginsOn state rx store out h ch s =
    Admits state rx store out × (h ≡ dropped (state_of state).header) × (is_there (lent_of state rx store) ch ≡ true) × (s ≡ slot_for (lent_of state rx store) ch)

-- the slot of a channel, if it is in the table of the first n
unfoldable pub found_in : ℕ → List ChannelSlot → ChannelId → Option ChannelSlot
found_in n ss ch = cond (there_in n ss ch) (Some (slot_in ss ch.slot)) None

-- the channel of the pending open
abbrev pub pending_channel : Header → ChannelId
pending_channel h = record { slot = h.pending.slot; local = h.pending.local }

-- what `act_on` asks: a table and a queue that can be worked on, room for a frame
pub record ActRoom (h : Header) (state rx store out : List ℕ) (at : ℕ) (payload : List ℕ) : Type 0 where
  pub within : Within h.negotiated.config
  pub table : Sound state rx h.negotiated.config.channels (policy_of h.negotiated).rx_cap
  pub queue : PushRoom h (length state) (length store) (length payload)
  pub room : at + 28 ≤ length out

-- what a call's end leaves: the header is stored, and the answer given
abbrev pub Ended : Header → Answer → ℕ → ℕ → List ℕ → Reply → List ℕ → Type 0
Ended h answer used written state r state' = (state' ≡ put_header state h) × (r ≡ record { answer = answer; used = used; written = written })

-- what a packet acted on leaves
pub record ActsOn (n : Negotiated) (a : Acted) (at : ℕ) (state out : List ℕ) (r : ActedOn) (state' rx store out' : List ℕ) : Type 0 where
  pub fault-is : r.fault ≡ a.fault
  pub header_is : r.header ≡ a.header
  pub end_is : r.end ≡ at + length (frames_bytes n a.frames)
  pub state-is : state' ≡ put_all state a.changes
  pub rx-is : rx ≡ a.rx
  pub store_is : store ≡ a.store
  pub out-is : out' ≡ put out at (frames_bytes n a.frames)
  pub out-fits : at + length (frames_bytes n a.frames) ≤ length out

-- what `act_on` promises
abbrev pub ActOnDoes : List ℕ → List ℕ → List ℕ → List ℕ → ℕ → Header → Packet → List ℕ → ActedOn → List ℕ → List ℕ → List ℕ → List ℕ → Type 0
ActOnDoes state rx store out at h packet payload r state' rx' store' out' =
    ActsOn h.negotiated (act_on h (state_of state).slots (state_of state).queue rx store packet payload) at state out r state' rx' store' out'
