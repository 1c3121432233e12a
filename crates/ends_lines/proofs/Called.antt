-- The bytes that a call writes are frames, one behind the other. Assumes nothing.
--     call-bytes     what its OPENs and WRTEs carry is bytes
--     carried-call   its frames are carried, on a state that holds
use mathlib.Core.List.{List, map}
use Prim.Native.Nat.{ℕ}
use lib.ListN.{take}
use Rattle.le.proofs.Laws.{bytes_take}
use Rattle.le.proofs.RowLaws.{Every}
use Rattle.config.specs.declared.negotiated.Negotiated.{Negotiated}
use Rattle.state.specs.State.{state_of}
use Rattle.connection.specs.Frames.{frames_bytes}
use Rattle.connection.proofs.Sending.{sent_of}
use Rattle.history.specs.Run.{bytes_in, Call, open_call, dispatch_call, settle_call, take_call, read_call, write_call, close_call, front_taken, look_call, accept_call, reject_call, let_go_call, verdict_call, World, outcome}
use Rattle.history.proofs.Bytes.{bytes-in}
use Rattle.history.proofs.Never13.{Holds}
use Rattle.history.proofs.Written.{writes}
use Rattle.history_frames.proofs.Each.{Given, each-frame}
use Rattle.ends_lines.proofs.Carried.{Carried, FrameBytes, carried-frames}

-- what a call's OPENs and WRTEs carry is bytes
pub call-bytes : (w : World) (x : Call) → Every FrameBytes (outcome w x).frames
call-bytes w x = each-frame FrameBytes (λ ids n. tt) (λ ids. tt) w x (given x)
  where
    given : (x : Call) → Given FrameBytes x
    given (open_call out destination received) = λ local credit. bytes-in destination
    given (dispatch_call out received) = tt
    given (settle_call out ch want) = tt
    given (take_call ch buf) = tt
    given (read_call out ch buf received) = tt
    given (write_call spending out ch bytes received) = λ ids n. bytes_take n (bytes_in bytes) (bytes-in bytes)
    given (close_call out ch) = tt
    given front_taken = tt
    given (look_call y) = tt
    given (accept_call out) = tt
    given (reject_call out) = tt
    given let_go_call = tt
    given (verdict_call out take remote credit) = tt

-- on a state that holds, the bytes that a call writes are its frames
module _ (n : Negotiated) (r : List ℕ) (rx store : ℕ) (w : World) (k : Holds n r rx store w) (x : Call) where
  abbrev agreed : Negotiated
  agreed = (state_of w.state).header.negotiated

  pub carried-call : Carried (frames_bytes agreed (outcome w x).frames) (map (sent_of agreed) (outcome w x).frames)
  carried-call = carried-frames agreed (outcome w x).frames (writes n r rx store w k x).each (call-bytes w x)
