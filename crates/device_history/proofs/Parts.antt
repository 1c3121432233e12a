-- One call of a device's end, as the host's calls that it is to the connection. Assumes nothing.
use Rattle.std.proofs.Common.{◌≡◌, refl, sym, ap, subst, ◌∙◌, Bool, true, false, cond, List, ℕ, ◌+◌, ltb, length, Option, Some, None, Result, Ok, Err}
use Rattle.le.specs.Rows.{flat}
use Rattle.le.proofs.Parts.{by-test}
use Rattle.le.proofs.RowLaws.{never}
use Rattle.config.specs.Config.{stores_fit}
use Rattle.protocol.specs.declared.packet.DecodeError.{DecodeError}
use Rattle.protocol.specs.declared.packet.Packet.{Packet}
use Rattle.protocol.specs.Message.{message_size}
use Rattle.protocol.specs.Packet.{payload_of, decode_of}
use Rattle.slot.specs.declared.Spending.TheVariants.{Beyond}
use Rattle.slot.proofs.Kept.{pick}
use Rattle.slot.proofs.Laws.{cond-true, cond-false}
use Rattle.state.specs.declared.Header.{Header}
use Rattle.state_whole.specs.Whole.{is_whole}
use Rattle.table.specs.declared.ChannelId.{ChannelId}
use Rattle.connection.specs.declared.Answer.{Answer}
use Rattle.connection.specs.declared.Answer.TheVariants.{Done, Waiting, Refused}
use Rattle.connection.specs.declared.Refusal.{Refusal}
use Rattle.connection.specs.declared.Refusal.TheVariants.{StoreShort, OutShort, BrokenState}
use Rattle.connection.specs.Calls.{Lent, Outcome, untouched, checked, checked_out, dispatch_step, dispatch_outcome, read_step, read_outcome, write_step, write_outcome}
use Rattle.connection.specs.Frames.{frames_bytes}
use Rattle.call.specs.Promise.{lent_of, agreed_in, admitted_out}
use Rattle.call_make.specs.Make.{make_in}
use Rattle.history.specs.Run.{Call, dispatch_call, read_call, write_call, settle_call, take_call, close_call, World, lent, bytes_in, outcome}
use Rattle.history.proofs.Bytes.{bytes-in}
use Rattle.call.proofs.LeaveLaws.{admitted-goes}
use Rattle.device_meets.specs.declared.Met.{Met}
use Rattle.device_meets.specs.Meets.{ignored}
use Rattle.device.specs.Device.{is_connected, head_fine, head_of, inner_of, text_in, device_admitted, is_waiting, Gives, given, shown, behind, called, unchanged, admitted_call, host_gives}
use Rattle.device_connect.specs.Connect.{flagged, made_anew, connected_as}
use Rattle.device_dispatch.specs.Promise.{is_cnxn, dispatch_with, first_by, dispatch_met, device_dispatch}
use Rattle.device_read.specs.Promise.{read_met, device_read}
use Rattle.device_write.specs.Promise.{write_met, device_write}
use Rattle.device.specs.Answer.{device_number}
use Rattle.device_settle.specs.Promise.{device_settle}
use Rattle.device_take.specs.Promise.{device_take}
use Rattle.device_close.specs.Promise.{device_close}
use Rattle.device_history.specs.Run.{DeviceCall, device_dispatches, device_reads, device_writes, device_settles, device_takes, device_closes, DeviceWorld, connection, gives}
use Rattle.device_history.specs.Trace.{Beginning, Part, goes, stays, anew, connects, connects_by, first_part, header_in, met_by_call, part_of}
use Rattle.device_history.proofs.Fits.{MetFits, met-fits}

-- what a call answers for a packet that was handled
pub data Handled : Answer → Type 0 where
  done : Handled Done
  waits : Handled Waiting

-- where a call waits for a packet that was met, it was admitted
abbrev pub WaitsFit : World → Option Met → Answer → Type 0
WaitsFit v (Some m) a = is_waiting a ≡ true → stores_fit (agreed_in v.state).config (length v.rx) (length v.store) ≡ true
WaitsFit v None a = Unit {0}

-- ---- a call, as a step of the host's and what was met

-- a refusal is no waiting
quiet : (head b : List ℕ) (l : Lent) (handled : Answer) (m : Option Met) (r : Refusal) → called head b handled (untouched l r) m ≡ given head b (untouched l r)
unfolding called behind is_waiting
quiet head b l handled None r = refl
quiet head b l handled (Some m) r = refl

-- and changes nothing
refused_given : (b rx store : List ℕ) (handled : Answer) (m : Option Met) (r : Refusal) → unchanged b rx store (Refused r) ≡ called (head_of b) (inner_of b) handled (untouched (lent_of (inner_of b) rx store) r) m
unfolding given unchanged frames_bytes flat
refused_given b rx store handled m r = sym (quiet (head_of b) (inner_of b) (lent_of (inner_of b) rx store) handled m r)

-- the refusals ahead of a call are those ahead of the host's
tests-called : (b rx store : List ℕ) (a s o : Bool) (h : Header) (f : Header → Gives) (step : Outcome) (handled : Answer) (m : Option Met) → f h ≡ called (head_of b) (inner_of b) handled step m
    → admitted_call b rx store (cond a (cond s (cond o (Err OutShort) (Ok h)) (Err StoreShort)) (Err BrokenState)) f
    ≡ called (head_of b) (inner_of b) handled
    (cond a (cond s (cond o (untouched (lent_of (inner_of b) rx store) OutShort) step) (untouched (lent_of (inner_of b) rx store) StoreShort)) (untouched (lent_of (inner_of b) rx store) BrokenState)) m
unfolding admitted_call
tests-called b rx store false s o h f step handled m e = refused_given b rx store handled m BrokenState
tests-called b rx store true false o h f step handled m e = refused_given b rx store handled m StoreShort
tests-called b rx store true true true h f step handled m e = refused_given b rx store handled m OutShort
tests-called b rx store true true false h f step handled m e = e

module _ (w : DeviceWorld) (fine : head_fine w.state ≡ true) where
  abbrev b : List ℕ
  b = w.state

  abbrev v : World
  v = connection w

  abbrev as_called : Answer → Call → Option Met → Gives
  as_called handled c m = called (head_of w.state) (inner_of w.state) handled (outcome (connection w) c) m

  admits-called : (out : ℕ) (f : Header → Gives) (step : Outcome) (handled : Answer) (m : Option Met) → f (header_in w) ≡ called (head_of b) (inner_of b) handled step m
      → admitted_call b w.rx w.store (device_admitted b (length w.rx) (length w.store) out) f
      ≡ called (head_of b) (inner_of b) handled (checked_out (is_whole (inner_of b)) (lent (connection w)) out step) m
  unfolding device_admitted admitted_out checked_out checked
  admits-called out f step handled m e =
      ap (λ (r : Result Header Refusal). admitted_call b w.rx w.store r f) (cond-true (head_fine b) (admitted_out (inner_of b) (length w.rx) (length w.store) out) (Err BrokenState) fine)
      ∙ tests-called b w.rx w.store (is_whole (inner_of b)) (stores_fit (agreed_in (inner_of b)).config (length w.rx) (length w.store)) (ltb out 56) (header_in w) f step handled m e

  -- what is handed to a step
  shown-bytes : (received : List ℕ) (m : Option Met) → bytes_in (shown received m) ≡ shown (bytes_in received) m
  unfolding shown bytes_in
  shown-bytes received None = refl
  shown-bytes received (Some m) = refl

  dispatch-called : (out received : List ℕ) (f : Header → Gives) (m : Option Met) → f (header_in w) ≡ dispatch_with b w.rx w.store (bytes_in received) m
      → admitted_call b w.rx w.store (device_admitted b (length w.rx) (length w.store) (length out)) f ≡ as_called Done (dispatch_call out (shown received m)) m
  unfolding dispatch_with outcome dispatch_outcome
  dispatch-called out received f m e =
      admits-called (length out) f (dispatch_step (lent (connection w)) (shown (bytes_in received) m)) Done m e
      ∙ ap (λ (s : List ℕ). called (head_of b) (inner_of b) Done (checked_out (is_whole (inner_of b)) (lent (connection w)) (length out) (dispatch_step (lent (connection w)) s)) m) (sym (shown-bytes received m))

  read-called : (out names : List ℕ) (ch : ChannelId) (buf received : List ℕ) (m : Option Met) → m ≡ met_by_call w names received
      → device_read b w.rx w.store (length out) (bytes_in names) ch (length buf) (bytes_in received) ≡ as_called Waiting (read_call out ch buf (shown received m)) m
  unfolding device_read read_met outcome read_outcome
  read-called out names ch buf received m e =
      admits-called (length out) (read_met b w.rx w.store (bytes_in names) ch (length buf) (bytes_in received)) (read_step (lent (connection w)) ch (length buf) (shown (bytes_in received) m)) Waiting m
      (ap (λ (x : Option Met). called (head_of b) (inner_of b) Waiting (read_step (lent (connection w)) ch (length buf) (shown (bytes_in received) x)) x) (sym e))
      ∙ ap (λ (s : List ℕ). called (head_of b) (inner_of b) Waiting (checked_out (is_whole (inner_of b)) (lent (connection w)) (length out) (read_step (lent (connection w)) ch (length buf) s)) m) (sym (shown-bytes received m))

  write-called : (out names : List ℕ) (ch : ChannelId) (bytes received : List ℕ) (m : Option Met) → m ≡ met_by_call w names received
      → device_write b w.rx w.store (length out) (bytes_in names) ch (bytes_in bytes) (bytes_in received) ≡ as_called Waiting (write_call Beyond out ch bytes (shown received m)) m
  unfolding device_write write_met outcome write_outcome
  write-called out names ch bytes received m e =
      admits-called (length out) (write_met b w.rx w.store (length out) (bytes_in names) ch (bytes_in bytes) (bytes_in received)) (write_step Beyond (lent (connection w)) ch (length out) (bytes_in bytes) (shown (bytes_in received) m)) Waiting m
      (ap (λ (x : Option Met). called (head_of b) (inner_of b) Waiting (write_step Beyond (lent (connection w)) ch (length out) (bytes_in bytes) (shown (bytes_in received) x)) x) (sym e))
      ∙ ap (λ (s : List ℕ). called (head_of b) (inner_of b) Waiting (checked_out (is_whole (inner_of b)) (lent (connection w)) (length out) (write_step Beyond (lent (connection w)) ch (length out) (bytes_in bytes) s)) m) (sym (shown-bytes received m))

  -- one of the host's, as it is
  host-called : (c : Call) → host_gives w.state w.rx w.store (outcome (connection w) c) ≡ as_called Done c None
  unfolding host_gives called behind
  host-called c = cond-true (head_fine b) _ _ fine

  -- ---- what each call is

  -- one of the host's calls, and what was met behind it
  pub record Goes (g : Gives) (c : Call) (m : Option Met) : Type 0 where
    pub handled : Answer
    pub kind : Handled handled
    pub is : g ≡ called (head_of w.state) (inner_of w.state) handled (outcome (connection w) c) m
    pub fits : MetFits m
    -- where it waits for a packet that was met, it was admitted
    pub waits : WaitsFit (connection w) m (outcome (connection w) c).answer

  -- the host's first CNXN
  pub record Begun (g : Gives) (k : Beginning) : Type 0 where
    pub number : device_number g.answer ≡ 104
    pub head-is : g.head ≡ flagged (head_of w.state)
    pub inner-is : g.inner ≡ (make_in k.config k.version k.most k.host k.device k.state).state
    pub rx-is : g.rx ≡ k.rx
    pub store_is : g.store ≡ k.store
    pub config-is : k.config ≡ (header_in w).negotiated.config
    pub state-is : k.state ≡ inner_of w.state
    pub rx-same : k.rx ≡ w.rx
    pub store_same : k.store ≡ w.store
    pub fit : stores_fit k.config (length k.rx) (length k.store) ≡ true

  -- what a call does, by its part
  abbrev pub Does : Gives → Part → Type 0
  Does g (goes c m) = Goes g c m
  Does g stays = g ≡ unchanged w.state w.rx w.store (Refused OutShort)
  Does g (anew k) = Begun g k

  waits-fit : (whole : Bool) (out : ℕ) (o : Outcome) (m : Option Met) → WaitsFit (connection w) m (checked_out whole (lent (connection w)) out o).answer
  unfolding checked_out checked is_waiting
  waits-fit whole out o None = tt
  waits-fit whole out o (Some m) =
      let P : Outcome → Type 0 = λ x. is_waiting x.answer ≡ true → stores_fit (agreed_in (inner_of b)).config (length w.rx) (length w.store) ≡ true in
      pick P whole (λ t. pick P (stores_fit (agreed_in (inner_of b)).config (length w.rx) (length w.store)) (λ u e. u) (λ u e. never e)) (λ t e. never e)

  ignored-fits : (used : ℕ) → MetFits (ignored used)
  ignored-fits used = tt

  -- the host's first CNXN, once the call is admitted
  connects-does : (out : ℕ) (p : Packet) (identity : List ℕ) (h : Header) → h ≡ header_in w → stores_fit h.negotiated.config (length w.rx) (length w.store) ≡ true
      → Does (connected_as b out h.negotiated.config p identity w.rx w.store) (connects w out p identity h)
  unfolding connected_as connects made_anew unchanged device_number
  connects-does out p identity h e f =
      by-test (ltb out (message_size + length (text_in b)))
      (λ t. rw t refl)
      (λ t. rw t
      (record {
        number = refl;
        head-is = refl;
        inner-is = refl;
        rx-is = refl;
        store_is = refl;
        config-is = ap (λ (x : Header). x.negotiated.config) e;
        state-is = refl;
        rx-same = refl;
        store_same = refl;
        fit = f;
      }))

  dispatch-goes : (out received : List ℕ) (f : Header → Gives) (m : Option Met) → f (header_in w) ≡ dispatch_with b w.rx w.store (bytes_in received) m → MetFits m
      → Goes (admitted_call b w.rx w.store (device_admitted b (length w.rx) (length w.store) (length out)) f) (dispatch_call out (shown received m)) m
  unfolding outcome dispatch_outcome
  dispatch-goes out received f m e g = record { handled = Done; kind = done; is = dispatch-called out received f m e; fits = g; waits = waits-fit _ _ _ m }

  -- the header of an admitted call
  admitted-header : (out : ℕ) (r : Result Header Refusal) (h : Header) → r ≡ device_admitted b (length w.rx) (length w.store) out → r ≡ Ok h
      → (h ≡ header_in w) × (stores_fit h.negotiated.config (length w.rx) (length w.store) ≡ true)
  unfolding device_admitted
  admitted-header out r h e f =
      let g = admitted-goes (inner_of b) w.rx w.store out h r (e ∙ cond-true (head_fine b) (admitted_out (inner_of b) (length w.rx) (length w.store) out) (Err BrokenState) fine) f in
      (g.header, ap (λ (k : Header). stores_fit k.negotiated.config (length w.rx) (length w.store)) g.header ∙ g.stores)

  module _ (out received : List ℕ) (f : Header → Gives) where
    abbrev admits : Result Header Refusal
    admits = device_admitted b (length w.rx) (length w.store) (length out)

    -- a CNXN, admitted or not
    cnxn-does : (p : Packet) (identity : List ℕ) → ((h : Header) → h ≡ header_in w → f h ≡ connected_as b (length out) h.negotiated.config p identity w.rx w.store)
        → (r : Result Header Refusal) → r ≡ device_admitted b (length w.rx) (length w.store) (length out)
        → Does (admitted_call b w.rx w.store r f) (connects_by w out received p identity r)
    unfolding connects_by admitted_call shown
    cnxn-does p identity e (Err x) q =
        let k : Header → Gives = λ h. dispatch_with b w.rx w.store (bytes_in received) None in
        let g = dispatch-goes out received k None refl tt in
        subst (λ (z : Result Header Refusal). Goes (admitted_call b w.rx w.store z k) (dispatch_call out received) None) (sym q) g
    cnxn-does p identity e (Ok h) q =
        let i = admitted-header (length out) (Ok h) h q refl in
        subst (λ (g : Gives). Does g (connects w (length out) p identity h)) (sym (e h i.0)) (connects-does (length out) p identity h i.0 i.1)

    -- what is dispatched before it came
    first-does : (d : Result (Option Packet) DecodeError) → ((h : Header) → h ≡ header_in w → f h ≡ first_by b w.rx w.store (length out) (bytes_in received) h d)
        → Does (admitted_call b w.rx w.store (device_admitted b (length w.rx) (length w.store) (length out)) f) (first_part w out received d)
    unfolding first_part first_by shown
    first-does (Ok (Some p)) e =
        pick (Does (admitted_call b w.rx w.store admits f)) (is_cnxn p.command)
        (λ t. cnxn-does p (payload_of (bytes_in received) p.data_length) (λ h i. e h i ∙ cond-true (is_cnxn p.command) _ _ t) admits refl)
        (λ t. dispatch-goes out received f (ignored (message_size + p.data_length)) (e (header_in w) refl ∙ cond-false (is_cnxn p.command) _ _ t) tt)
    first-does (Ok None) e = dispatch-goes out received f None (e (header_in w) refl) tt
    first-does (Err x) e = dispatch-goes out received f None (e (header_in w) refl) tt

  -- each call does what its part says
  pub does : (x : DeviceCall) → Does (gives w x) (part_of w x)
  unfolding gives part_of device_dispatch dispatch_met outcome read_outcome write_outcome device_settle device_take device_close
  does (device_dispatches out names received) =
      let f = dispatch_met b w.rx w.store (length out) (bytes_in names) (bytes_in received) in
      let m = met_by_call w names received in
      pick (Does (admitted_call b w.rx w.store (device_admitted b (length w.rx) (length w.store) (length out)) f)) (is_connected b)
      (λ t. dispatch-goes out received f m (cond-true (is_connected b) _ _ t) (met-fits b (bytes_in names) (bytes_in received) w.rx w.store (bytes-in received)))
      (λ t. first-does out received f (decode_of (bytes_in received) (header_in w).negotiated.config.max_payload)
      (λ h i. cond-false (is_connected b) _ _ t ∙ ap (λ (k : Header). first_by b w.rx w.store (length out) (bytes_in received) h (decode_of (bytes_in received) k.negotiated.config.max_payload)) i))
  does (device_reads out names ch buf received) =
      let m = met_by_call w names received in
      record {
        handled = Waiting;
        kind = waits;
        is = read-called out names ch buf received m refl;
        fits = met-fits b (bytes_in names) (bytes_in received) w.rx w.store (bytes-in received);
        waits = waits-fit _ _ _ m;
      }
  does (device_writes out names ch bytes received) =
      let m = met_by_call w names received in
      record {
        handled = Waiting;
        kind = waits;
        is = write-called out names ch bytes received m refl;
        fits = met-fits b (bytes_in names) (bytes_in received) w.rx w.store (bytes-in received);
        waits = waits-fit _ _ _ m;
      }
  does (device_settles out ch want) = record { handled = Done; kind = done; is = host-called (settle_call out ch want); fits = tt; waits = tt }
  does (device_takes ch buf) = record { handled = Done; kind = done; is = host-called (take_call ch buf); fits = tt; waits = tt }
  does (device_closes out ch) = record { handled = Done; kind = done; is = host-called (close_call out ch); fits = tt; waits = tt }
