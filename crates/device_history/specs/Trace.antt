-- What a device's calls are on the connection's own bytes: a list of the host's calls, and of OPENs that are taken or refused at once,
-- which begins anew at the host's first CNXN. Assumes nothing.
use Rattle.std.specs.Prelude.{ℕ, ◌+◌, ◌≤◌, ◌≡◌, Bool, true, false, cond, List, [], ◌∷◌, ◌++◌, ltb, length, replicate, Option, Some, None, Result, Ok, Err}
use Rattle.config.specs.declared.ConnectionConfig.{ConnectionConfig}
use Rattle.config.specs.declared.negotiated.RxPolicy.{RxPolicy}
use Rattle.config.specs.Config.{within_limits}
use Rattle.config.specs.Negotiated.{negotiated_of, policy_of}
use Rattle.protocol.specs.declared.packet.DecodeError.{DecodeError}
use Rattle.protocol.specs.declared.packet.Packet.{Packet}
use Rattle.protocol.specs.Message.{message_size}
use Rattle.protocol.specs.Packet.{payload_of, decode_of}
use Rattle.slot.specs.declared.Spending.TheVariants.{Beyond}
use Rattle.state.specs.declared.Header.{Header}
use Rattle.state.specs.State.{state_len, state_of}
use Rattle.connection.specs.declared.Answer.{Answer}
use Rattle.connection.specs.declared.Refusal.{Refusal}
use Rattle.history.specs.Run.{Call, dispatch_call, read_call, write_call, settle_call, take_call, close_call, verdict_call, World, bytes_in, outcome, after_all, made}
use Rattle.device_meets.specs.declared.Met.{Met}
use Rattle.device_meets.specs.declared.Verdict.{Verdict}
use Rattle.device_meets.specs.declared.Verdict.TheVariants.{Ignore, Refuse, Take}
use Rattle.device_meets.specs.Meets.{ignored}
use Rattle.device.specs.Device.{is_connected, text_in, inner_of, device_admitted, is_waiting, shown, met_in}
use Rattle.device_connect.specs.Connect.{lists_delayed}
use Rattle.device_dispatch.specs.Promise.{is_cnxn}
use Rattle.device_history.specs.Run.{DeviceCall, device_dispatches, device_reads, device_writes, device_settles, device_takes, device_closes, DeviceWorld, connection, leaves, leaves_all, DeviceStart, device_begins}

-- ---- where the connection's list begins

-- a make of the connection: limits, arg0 and arg1 of the host's CNXN, whether both ends list delayed acknowledgement; the bytes that it
-- is made in, and both stores
pub record Beginning : Type 0 where
  pub config : ConnectionConfig
  pub version : ℕ
  pub most : ℕ
  pub host : Bool
  pub device : Bool
  pub state : List ℕ
  pub rx : List ℕ
  pub store : List ℕ

-- the bytes that it leaves
abbrev pub begins_at : Beginning → World
begins_at g = made g.config g.version g.most g.host g.device g.state g.rx g.store

-- the receive policy of what was negotiated
abbrev pub policy_at : Beginning → RxPolicy
policy_at g = policy_of (negotiated_of g.host g.device g.version g.most g.config)

-- ---- one call

-- what a device's call is to the connection
pub data Part : Type 0 where
  -- one of the host's calls, and the packet that was met
  goes : Call → Option Met → Part
  -- nothing
  stays : Part
  -- a make
  anew : Beginning → Part

-- the host's first CNXN: it begins anew from the limits, the CNXN and both texts; nothing, where ours does not fit
unfoldable pub connects : DeviceWorld → ℕ → Packet → List ℕ → Header → Part
connects w out p identity h =
    cond (ltb out (message_size + length (text_in w.state))) stays
    (anew (record {
      config = h.negotiated.config;
      version = p.arg0;
      most = p.arg1;
      host = lists_delayed (text_in w.state);
      device = lists_delayed identity;
      state = inner_of w.state;
      rx = w.rx;
      store = w.store;
    }))

-- unless it is refused ahead of its steps, as the host's dispatch is
unfoldable pub connects_by : DeviceWorld → List ℕ → List ℕ → Packet → List ℕ → Result Header Refusal → Part
connects_by w out received p identity (Err r) = goes (dispatch_call out received) None
connects_by w out received p identity (Ok h) = connects w (length out) p identity h

-- what is dispatched before the host's CNXN came: any other packet is ignored
unfoldable pub first_part : DeviceWorld → List ℕ → List ℕ → Result (Option Packet) DecodeError → Part
first_part w out received (Ok (Some p)) =
    cond (is_cnxn p.command)
    (connects_by w out received p (payload_of (bytes_in received) p.data_length) (device_admitted w.state (length w.rx) (length w.store) (length out)))
    (goes (dispatch_call out []) (ignored (message_size + p.data_length)))
first_part w out received (Ok None) = goes (dispatch_call out received) None
first_part w out received (Err e) = goes (dispatch_call out received) None

-- the connection's header
abbrev pub header_in : DeviceWorld → Header
header_in w = (state_of (inner_of w.state)).header

-- what the packet is that a call is handed
abbrev pub met_by_call : DeviceWorld → List ℕ → List ℕ → Option Met
met_by_call w names received = met_in w.state (bytes_in names) (bytes_in received) (header_in w)

-- each call, with no received bytes where their packet is met
unfoldable pub part_of : DeviceWorld → DeviceCall → Part
part_of w (device_dispatches out names received) =
    let m = met_by_call w names received in
    cond (is_connected w.state) (goes (dispatch_call out (shown received m)) m)
    (first_part w out received (decode_of (bytes_in received) (header_in w).negotiated.config.max_payload))
part_of w (device_reads out names ch buf received) = let m = met_by_call w names received in goes (read_call out ch buf (shown received m)) m
part_of w (device_writes out names ch bytes received) = let m = met_by_call w names received in goes (write_call Beyond out ch bytes (shown received m)) m
part_of w (device_settles out ch want) = goes (settle_call out ch want) None
part_of w (device_takes ch buf) = goes (take_call ch buf) None
part_of w (device_closes out ch) = goes (close_call out ch) None

-- an OPEN that was met is taken or refused at once
unfoldable pub verdict_calls : Verdict → List Call
verdict_calls Ignore = []
verdict_calls (Refuse remote) = verdict_call (replicate 56 0) false remote 0 ∷ []
verdict_calls (Take remote credit place) = verdict_call (replicate 56 0) true remote credit ∷ []

-- behind a call that waits for its packet
unfoldable pub behind_calls : Answer → Option Met → List Call
behind_calls a (Some m) = cond (is_waiting a) (verdict_calls m.verdict) []
behind_calls a None = []

-- the calls of one of the host's calls and of what was met
abbrev pub calls_of : World → Call → Option Met → List Call
calls_of w c m = c ∷ behind_calls (outcome w c).answer m

-- ---- a list of calls

-- the connection's list so far, from where it began last
pub record Story : Type 0 where
  pub from : Beginning
  pub calls : List Call

-- with one part more; w: the connection before it
unfoldable pub joined : Story → World → Part → Story
joined s w (goes c m) = record { from = s.from; calls = s.calls ++ calls_of w c m }
joined s w stays = s
joined s w (anew g) = record { from = g; calls = [] }

-- with a list of device calls more
unfoldable pub told_on : Story → DeviceWorld → List DeviceCall → Story
told_on s w [] = s
told_on s w (x ∷ xs) = told_on (joined s (connection w) (part_of w x)) (leaves w x) xs

-- the make that a device's make begins with
abbrev pub first_made : DeviceStart → Beginning
first_made d =
    record {
      config = d.config;
      version = 0x0100_0001;
      most = d.config.max_payload;
      host = false;
      device = false;
      state = inner_of d.lent;
      rx = d.rx;
      store = d.store;
    }

-- what a list of device calls is to the connection
abbrev pub story : DeviceStart → List DeviceCall → Story
story d xs = told_on (record { from = first_made d; calls = [] }) (device_begins d) xs

-- ---- the connection's bytes are what that list leaves

-- of a story that left w: a make that is not refused, and the calls from there
pub record Follows (s : Story) (w : DeviceWorld) : Type 0 where
  pub within : within_limits s.from.config ≡ true
  pub long : state_len ≤ length s.from.state
  pub same : connection w ≡ after_all (begins_at s.from) s.calls

-- for every make at a device's end that is not refused, and all lists of calls
abbrev pub FollowsAll : Type 0
FollowsAll = (d : DeviceStart) (xs : List DeviceCall) → Follows (story d xs) (leaves_all (device_begins d) xs)
