-- A device's end: its lent state, and what its calls give (docs/SCOPE.md, 15; docs/LAYOUT.md, "A device's end"). Assumes nothing.
use Rattle.std.specs.Prelude.{ℕ, ◌+◌, Bool, true, false, cond, ◌&&◌, List, [], ◌++◌, leb, eqb, length, take, drop, get_or, Option, Some, None, Result, Ok, Err}
use Rattle.le.specs.Le.{num_of, part}
use Rattle.state.specs.declared.Header.{Header}
use Rattle.state.specs.Change.{Change, put_all}
use Rattle.state.specs.State.{state_len, state_of}
use Rattle.slot.specs.declared.ids.RemoteId.{RemoteId}
use Rattle.connection.specs.declared.Answer.{Answer}
use Rattle.connection.specs.declared.Answer.TheVariants.{Done, Waiting, Nothing, Opened, Settled, Read, Written, Front, Numbers, Refused}
use Rattle.connection.specs.declared.Refusal.{Refusal}
use Rattle.connection.specs.declared.Refusal.TheVariants.{BrokenState}
use Rattle.connection.specs.Calls.{Lent, Outcome, verdict_step}
use Rattle.connection.specs.Frames.{Frame, frames_bytes}
use Rattle.call.specs.declared.Reply.{Reply}
use Rattle.call.specs.Promise.{lent_of, agreed_in, admitted_out}
use Rattle.device_meets.specs.Meets.{meets, ignored}
use Rattle.device_meets.specs.declared.Met.{Met}
use Rattle.device_meets.specs.declared.Verdict.{Verdict}
use Rattle.device_meets.specs.declared.Verdict.TheVariants.{Ignore, Refuse, Take}
use Rattle.device.specs.declared.DeviceAnswer.{DeviceAnswer}
use Rattle.device.specs.declared.DeviceAnswer.TheVariants.{Plain, Taken}
use Rattle.device.specs.declared.DeviceReply.{DeviceReply}

-- ---- where things lie: a flag, the text's length and its place, then a connection's state

-- the longest identity text
abbrev pub most_text : ℕ
most_text = 4096

-- where the text lies
abbrev pub text_at : ℕ
text_at = 5

-- where the connection's state begins
abbrev pub inner_at : ℕ
inner_at = text_at + most_text

-- the length of a device's state
abbrev pub device_len : ℕ
device_len = inner_at + state_len

-- whether the host's CNXN came
unfoldable pub is_connected : List ℕ → Bool
is_connected b = eqb (get_or b 0 0) 1

-- the length of our identity text
unfoldable pub text_len : List ℕ → ℕ
text_len b = num_of (part b 1 4)

-- our identity text
unfoldable pub text_in : List ℕ → List ℕ
text_in b = part b text_at (text_len b)

-- bytes that may be a device's state: a flag, and a text within its place
unfoldable pub head_fine : List ℕ → Bool
head_fine b = leb inner_at (length b) && leb (get_or b 0 0) 1 && leb (text_len b) most_text

-- the connection's state
unfoldable pub inner_of : List ℕ → List ℕ
inner_of b = drop inner_at b

-- the bytes ahead of it
unfoldable pub head_of : List ℕ → List ℕ
head_of b = take inner_at b

-- the refusals ahead of every call that is lent an outgoing buffer: 13 for either part, then as at the host's end; else the connection's
-- header
unfoldable pub device_admitted : List ℕ → ℕ → ℕ → ℕ → Result Header Refusal
device_admitted b rx store out = cond (head_fine b) (admitted_out (inner_of b) rx store out) (Err BrokenState)

-- ---- answers

-- a reply of the host's calls
abbrev pub plain : Reply → DeviceReply
plain r = record { answer = Plain r.answer; used = r.used; written = r.written }

-- whether a call waits for a packet
unfoldable pub is_waiting : Answer → Bool
is_waiting Done = false
is_waiting Waiting = true
is_waiting Nothing = false
is_waiting (Opened ch) = false
is_waiting (Settled a) = false
is_waiting (Read n) = false
is_waiting (Written n) = false
is_waiting (Front r c p n) = false
is_waiting (Numbers t total buffered unacked budget) = false
is_waiting (Refused r) = false

-- what a call answers for an OPEN, from what accepting it answered: taken; or, where no slot was empty, handled
unfoldable pub taken_as : Answer → RemoteId → ℕ → Answer → DeviceAnswer
taken_as handled remote place Done = Plain handled
taken_as handled remote place Waiting = Plain handled
taken_as handled remote place Nothing = Plain handled
taken_as handled remote place (Opened ch) = Taken ch remote place
taken_as handled remote place (Settled a) = Plain handled
taken_as handled remote place (Read n) = Plain handled
taken_as handled remote place (Written n) = Plain handled
taken_as handled remote place (Front r c p n) = Plain handled
taken_as handled remote place (Numbers t total buffered unacked budget) = Plain handled
taken_as handled remote place (Refused r) = Plain handled

-- ---- what is done with a packet that a device's end meets itself

-- the answer, what was written, and what changed in the connection
pub record Judged : Type 0 where
  pub answer : DeviceAnswer
  pub frames : List Frame
  pub changes : List Change

-- nothing; or refused or taken at once. handled: what the call answers for a packet that was handled
unfoldable pub judged : Lent → Answer → Verdict → Judged
judged l handled Ignore = record { answer = Plain handled; frames = []; changes = [] }
judged l handled (Refuse remote) =
    let o = verdict_step l false remote 0 in
    record { answer = Plain handled; frames = o.frames; changes = o.changes }
judged l handled (Take remote credit place) =
    let o = verdict_step l true remote credit in
    record { answer = taken_as handled remote place o.answer; frames = o.frames; changes = o.changes }

-- ---- what a call gives

-- the answer; bytes used; bytes written from the outgoing buffer's start; bytes handed over at the start of the reader's; the bytes
-- ahead of the connection's state, and it; both stores
pub record Gives : Type 0 where
  pub answer : DeviceAnswer
  pub used : ℕ
  pub written : List ℕ
  pub handed : List ℕ
  pub head : List ℕ
  pub inner : List ℕ
  pub rx : List ℕ
  pub store : List ℕ

-- what a step of the host's calls gave, on the connection's bytes b
unfoldable pub given : List ℕ → List ℕ → Outcome → Gives
given head b o =
    record {
      answer = Plain o.answer;
      used = o.used;
      written = frames_bytes (agreed_in b) o.frames;
      handed = o.handed;
      head = head;
      inner = put_all b o.changes;
      rx = o.rx;
      store = o.store;
    }

-- and behind it a verdict, with the connection as the step left it
unfoldable pub and_judged : Gives → ℕ → Judged → Gives
and_judged g used v =
    record {
      answer = v.answer;
      used = used;
      written = g.written ++ frames_bytes (agreed_in g.inner) v.frames;
      handed = g.handed;
      head = g.head;
      inner = put_all g.inner v.changes;
      rx = g.rx;
      store = g.store;
    }

-- what a step is handed of the received bytes: nothing where its packet is met here
unfoldable pub shown : List ℕ → Option Met → List ℕ
shown received (Some m) = []
shown received None = received

-- what a read or a write meets; before the host's CNXN it looks at no packet
unfoldable pub met_in : List ℕ → List ℕ → List ℕ → Header → Option Met
met_in b names received h = cond (is_connected b) (meets h (state_of (inner_of b)).slots names received) (ignored 0)

-- the verdict follows where the step waits for a packet
unfoldable pub behind : Answer → Gives → Answer → Option Met → Gives
behind handled g answer (Some m) = cond (is_waiting answer) (and_judged g m.used (judged (lent_of g.inner g.rx g.store) handled m.verdict)) g
behind handled g answer None = g

-- a call: its step, and what the packet met
unfoldable pub called : List ℕ → List ℕ → Answer → Outcome → Option Met → Gives
called head b handled o m = behind handled (given head b o) o.answer m

-- an answer, and nothing changes
unfoldable pub unchanged : List ℕ → List ℕ → List ℕ → Answer → Gives
unchanged b rx store a =
    record { answer = Plain a; used = 0; written = []; handed = []; head = head_of b; inner = inner_of b; rx = rx; store = store }

-- a call: refused ahead of its steps, or what it does with the connection's header
unfoldable pub admitted_call : List ℕ → List ℕ → List ℕ → Result Header Refusal → (Header → Gives) → Gives
admitted_call b rx store (Err r) f = unchanged b rx store (Refused r)
admitted_call b rx store (Ok h) f = f h

-- one of the host's calls as it is, o; 13 where the bytes ahead of the connection are not fine
unfoldable pub host_gives : List ℕ → List ℕ → List ℕ → Outcome → Gives
host_gives b rx store o = cond (head_fine b) (given (head_of b) (inner_of b) o) (unchanged b rx store (Refused BrokenState))
