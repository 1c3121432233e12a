-- What the calls of a device's end ask and promise. Assumes nothing.
use Rattle.std.specs.Prelude.{ℕ, ◌+◌, ◌≤◌, ◌≡◌, true, false, List, [], ◌++◌, length, Option, Some, None, Ok}
use Rattle.le.specs.Le.{put}
use Rattle.config.specs.Config.{Within}
use Rattle.state.specs.Change.{put_all}
use Rattle.state.specs.State.{state_len}
use Rattle.state.specs.declared.Header.{Header}
use Rattle.connection.specs.declared.Answer.{Answer}
use Rattle.connection.specs.Calls.{Outcome}
use Rattle.connection.specs.Frames.{frames_bytes}
use Rattle.call.specs.declared.Reply.{Reply}
use Rattle.call.specs.Promise.{lent_of, agreed_in, admitted_out}
use Rattle.device_meets.specs.declared.Met.{Met}
use Rattle.device_meets.specs.Meets.{MeetRoom}
use Rattle.device.specs.declared.DeviceReply.{DeviceReply}
use Rattle.device.specs.Device.{head_fine, inner_of, plain, is_waiting, Judged, judged, Gives, called}

-- a call's start: both parts of the state were admitted. out: the outgoing buffer's length
pub record DeviceBegins (b rx store : List ℕ) (out : ℕ) (h : Header) : Type 0 where
  pub fine : head_fine b ≡ true
  pub admits : Ok h ≡ admitted_out (inner_of b) (length rx) (length store) out

-- what looking for the packet that is met asks
pub record MetRoom (b : List ℕ) (h : Header) : Type 0 where
  pub fine : head_fine b ≡ true
  pub inner : MeetRoom (inner_of b) h

-- what a verdict asks: a state within its limits, room for a frame
pub record VerdictRoom (inner out : List ℕ) (at : ℕ) : Type 0 where
  pub within : Within (agreed_in inner).config
  pub state-fits : state_len ≤ length inner
  pub room : at + 28 ≤ length out

-- what it promises: the answer, and every byte of the connection's state and the outgoing buffer, its frames from a place on
pub record Verdicts (v : Judged) (used at : ℕ) (inner out : List ℕ) (r : DeviceReply) (inner' out' : List ℕ) : Type 0 where
  pub answer-is : r.answer ≡ v.answer
  pub used-is : r.used ≡ used
  pub written_is : r.written ≡ at + length (frames_bytes (agreed_in inner) v.frames)
  pub state-is : inner' ≡ put_all inner v.changes
  pub out-is : out' ≡ put out at (frames_bytes (agreed_in inner) v.frames)
  pub out-fits : at + length (frames_bytes (agreed_in inner) v.frames) ≤ length out

-- of a packet that was met, whatever the stores
abbrev pub VerdictDoes : List ℕ → List ℕ → ℕ → Met → Answer → DeviceReply → List ℕ → List ℕ → Type 0
VerdictDoes inner out at m handled r inner' out' =
    ((rx store : List ℕ) → Verdicts (judged (lent_of inner rx store) handled m.verdict) m.used at inner out r inner' out')

-- what a call's end asks: where a packet was met and the step waits for it, what the verdict asks
abbrev pub JudgeRoom : List ℕ → List ℕ → Reply → Option Met → Type 0
JudgeRoom inner out reply (Some m) = is_waiting reply.answer ≡ true → VerdictRoom inner out reply.written
JudgeRoom inner out reply None = Unit {0}

-- nothing more is done
pub record Stays (reply : Reply) (inner out : List ℕ) (r : DeviceReply) (inner' out' : List ℕ) : Type 0 where
  pub reply-is : r ≡ plain reply
  pub state-is : inner' ≡ inner
  pub out-is : out' ≡ out

-- what it promises: the verdict where the step waits for the packet that was met; else the step's own end
pub record Judging (m : Met) (inner out : List ℕ) (reply : Reply) (handled : Answer) (r : DeviceReply) (inner' out' : List ℕ) : Type 0 where
  pub waits : is_waiting reply.answer ≡ true → VerdictDoes inner out reply.written m handled r inner' out'
  pub ends : is_waiting reply.answer ≡ false → Stays reply inner out r inner' out'

-- the same, met or not
abbrev pub Judges : List ℕ → List ℕ → Reply → Option Met → Answer → DeviceReply → List ℕ → List ℕ → Type 0
Judges inner out reply (Some m) handled r inner' out' = Judging m inner out reply handled r inner' out'
Judges inner out reply None handled r inner' out' = Stays reply inner out r inner' out'

-- what a call promises of all that it was lent: the answer and the counts, and every byte
pub record DeviceLeaves (g : Gives) (out buf : List ℕ) (r : DeviceReply) (state' rx store out' buf' : List ℕ) : Type 0 where
  pub answer-is : r.answer ≡ g.answer
  pub used-is : r.used ≡ g.used
  pub written_is : r.written ≡ length g.written
  pub state-is : state' ≡ g.head ++ g.inner
  pub rx-is : rx ≡ g.rx
  pub store_is : store ≡ g.store
  pub out-is : out' ≡ put out 0 g.written
  pub out-fits : length g.written ≤ length out
  pub buf-is : buf' ≡ put buf 0 g.handed
  pub buf-fits : length g.handed ≤ length buf

-- what is handed to a step: nothing, where a packet was met
abbrev pub Handed : List ℕ → Option Met → Type 0
Handed received (Some m) = received ≡ []
Handed received None = Unit {0}

-- what the step and the verdict ask, of the connection's own bytes
pub record InnerBegins (inner rx store received : List ℕ) (out : ℕ) (h : Header) (m : Option Met) : Type 0 where
  pub admits : Ok h ≡ admitted_out inner (length rx) (length store) out
  pub handed : Handed received m

-- what they promise together, whatever lies ahead of the connection's bytes: o is what the step gives
abbrev pub InnerLeaves : List ℕ → Answer → Outcome → Option Met → List ℕ → List ℕ → DeviceReply → List ℕ → List ℕ → List ℕ → List ℕ → List ℕ → Type 0
InnerLeaves inner handled o m out buf r inner' rx store out' buf' =
    ((head b' : List ℕ) → b' ≡ head ++ inner' → DeviceLeaves (called head inner handled o m) out buf r b' rx store out' buf')
