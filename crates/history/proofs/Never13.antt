-- Refusal 13 is never given on a state that make began. Assumes nothing.
use mathlib.Core.Path.{◌≡◌, refl, sym, ap, subst, ◌∙◌}
use mathlib.Core.Bool.{Bool, true, false}
use mathlib.Core.List.{List, [], ◌∷◌, ◌++◌}
use Prim.Native.Nat.{ℕ, zero, suc, ◌+◌}
use native.Mathlib.Omega.{arith}
use lib.ListN.{length, drop, get_or, replicate, length-replicate}
use Rattle.le.specs.Le.{put, Bytes}
use Rattle.config.specs.declared.ConnectionConfig.{ConnectionConfig}
use Rattle.config.specs.declared.negotiated.Negotiated.{Negotiated}
use Rattle.config.specs.Config.{within_limits, stores_fit}
use Rattle.config.specs.Negotiated.{negotiated_of}
use Rattle.config.proofs.Laws.{and-true, within}
use Rattle.state.specs.State.{none_queued, state_len, Connection, layout, state_of, is_state}
use Rattle.slot.specs.declared.ids.RemoteId.{RemoteId}
use Rattle.slot.specs.Slot.{empty_slot}
use Rattle.slot.proofs.Laws.{cond-true, cond-false}
use Rattle.state.specs.Change.{changed_all, put_all}
use Rattle.state_whole.specs.Whole.{queue_fine, is_whole}
use Rattle.le.proofs.RowLaws.{Every, never}
use Rattle.state.proofs.StateLaws.{OpenFits, state-split, state-forth, state-fits, layout-is-state}
use Rattle.state.proofs.ChangeLaws.{changes-layout}
use Rattle.connection.specs.declared.Refusal.TheVariants.{StoreShort}
use Rattle.connection.specs.Answer.{answer_number}
use Rattle.connection.specs.Calls.{looked, numbers_for, numbers_outcome, Outcome, untouched, checked, checked_out, open_outcome, dispatch_outcome, settle_outcome, take_outcome, read_outcome, write_outcome, close_outcome, take_front_outcome, accept_outcome, reject_outcome, let_go_outcome, verdict_outcome, open_step, dispatch_step, settle_step, take_step, read_step, write_step, close_step, take_front_step, accept_step, reject_step, let_go_step, verdict_step, fresh, Made, make_of}
use Rattle.history.specs.Run.{look_outcome, bytes_in, Call, open_call, dispatch_call, settle_call, take_call, read_call, write_call, close_call, front_taken, look_call, numbers_look, word_in, accept_call, reject_call, let_go_call, verdict_call, World, lent, outcome, after, after_all, made, Start, begins, agreed_in}
use Rattle.history.specs.Never13.{Unbroken, Never13, StaysWhole, Always8}
use Rattle.state_whole.proofs.WholeLaws.{length-layout, Bounds, SlotWhole, Whole, whole-own, whole-true, whole-full, whole-fits, empty-whole, whole-facts}
use Rattle.history.proofs.Bytes.{bytes-in, word-in}
use Rattle.connection.proofs.WholeWork.{negotiated, Kept, checked-kept, checked-out-kept, long}
use Rattle.connection.proofs.WholeCalls.{settle-kept, take-kept, close-kept, front_kept, numbers-kept, accept-kept, reject-kept, let-go-kept, verdict-kept, dispatch-kept, read_kept, write_kept, open_kept}

-- ---- one call

module _ (w : World) (is : is_whole w.state ≡ true)
    (g : Whole (negotiated (lent w)) (lent w).state.header (lent w).state.slots (lent w).state.queue) where
  pub call_kept : (x : Call) → Kept (lent w) (outcome w x)
  unfolding outcome open_outcome dispatch_outcome settle_outcome take_outcome read_outcome write_outcome close_outcome take_front_outcome look_outcome numbers_outcome accept_outcome reject_outcome let_go_outcome verdict_outcome
  call_kept (open_call out destination received) =
      subst (λ (t : Bool). Kept (lent w) (checked_out t (lent w) (length out) (open_step (lent w) (length out) (bytes_in destination) (bytes_in received)))) (sym is)
      (checked-out-kept (lent w) g (length out) _
      (λ t. open_kept (lent w) g (long _ _ _ t) (bytes_in received) (length out) (bytes_in destination) (bytes-in received)))
  call_kept (dispatch_call out received) =
      subst (λ (t : Bool). Kept (lent w) (checked_out t (lent w) (length out) (dispatch_step (lent w) (bytes_in received)))) (sym is)
      (checked-out-kept (lent w) g (length out) _ (λ t. dispatch-kept (lent w) g (long _ _ _ t) (bytes_in received) (bytes-in received)))
  call_kept (settle_call out ch want) =
      subst (λ (t : Bool). Kept (lent w) (checked_out t (lent w) (length out) (settle_step (lent w) ch want))) (sym is)
      (checked-out-kept (lent w) g (length out) _ (λ t. settle-kept (lent w) g ch want))
  call_kept (take_call ch buf) =
      subst (λ (t : Bool). Kept (lent w) (checked t (lent w) (take_step (lent w) ch (length buf)))) (sym is)
      (checked-kept (lent w) g _ (λ t. take-kept (lent w) g ch (length buf)))
  call_kept (read_call out ch buf received) =
      subst (λ (t : Bool). Kept (lent w) (checked_out t (lent w) (length out) (read_step (lent w) ch (length buf) (bytes_in received)))) (sym is)
      (checked-out-kept (lent w) g (length out) _ (λ t. read_kept (lent w) g (long _ _ _ t) (bytes_in received) ch (length buf) (bytes-in received)))
  call_kept (write_call spending out ch bytes received) =
      subst (λ (t : Bool). Kept (lent w) (checked_out t (lent w) (length out) (write_step spending (lent w) ch (length out) (bytes_in bytes) (bytes_in received)))) (sym is)
      (checked-out-kept (lent w) g (length out) _
      (λ t. write_kept (lent w) g (long _ _ _ t) (bytes_in received) spending ch (length out) (bytes_in bytes) (bytes-in received)))
  call_kept (close_call out ch) =
      subst (λ (t : Bool). Kept (lent w) (checked_out t (lent w) (length out) (close_step (lent w) ch))) (sym is)
      (checked-out-kept (lent w) g (length out) _ (λ t. close-kept (lent w) g ch))
  call_kept front_taken =
      subst (λ (t : Bool). Kept (lent w) (checked t (lent w) (take_front_step (lent w)))) (sym is) (checked-kept (lent w) g _ (λ t. front_kept (lent w) g))
  call_kept (look_call (numbers_look ch)) =
      subst (λ (t : Bool). Kept (lent w) (checked t (lent w) (looked (lent w) (numbers_for (lent w) ch)))) (sym is) (checked-kept (lent w) g _ (λ t. numbers-kept (lent w) g ch))
  call_kept (accept_call out) =
      subst (λ (t : Bool). Kept (lent w) (checked_out t (lent w) (length out) (accept_step (lent w)))) (sym is) (checked-out-kept (lent w) g (length out) _ (λ t. accept-kept (lent w) g))
  call_kept (reject_call out) =
      subst (λ (t : Bool). Kept (lent w) (checked_out t (lent w) (length out) (reject_step (lent w)))) (sym is) (checked-out-kept (lent w) g (length out) _ (λ t. reject-kept (lent w) g))
  call_kept let_go_call =
      subst (λ (t : Bool). Kept (lent w) (checked t (lent w) (let_go_step (lent w)))) (sym is) (checked-kept (lent w) g _ (λ t. let-go-kept (lent w) g))
  call_kept (verdict_call out take remote credit) =
      let r : RemoteId = record { 0 = word_in remote.0 } in
      subst (λ (t : Bool). Kept (lent w) (checked_out t (lent w) (length out) (verdict_step (lent w) take r (word_in credit)))) (sym is)
      (checked-out-kept (lent w) g (length out) _ (λ t. verdict-kept (lent w) g take r (word_in credit) (word-in remote.0) (word-in credit)))

-- ---- a list of calls

-- the facts of the state that the bytes stand for, r behind them, and the stores' lengths
pub record Holds (n : Negotiated) (r : List ℕ) (rx store : ℕ) (w : World) : Type 0 where
  pub is-layout : w.state ≡ layout (state_of w.state) ++ r
  pub facts : Whole n (state_of w.state).header (state_of w.state).slots (state_of w.state).queue
  pub rx-length : length w.rx ≡ rx
  pub store_length : length w.store ≡ store

module _ (n : Negotiated) (r : List ℕ) (rx store : ℕ) where
  -- bytes that are a layout of a state with these facts
  pub holds_of : (w : World) (d : Connection) → w.state ≡ layout d ++ r → Whole n d.header d.slots d.queue → length w.rx ≡ rx → length w.store ≡ store
      → Holds n r rx store w
  holds_of w d e g a b =
      let z : state_of w.state ≡ d = ap state_of e ∙ state-forth d r (whole-fits n d g) in
      record {
        is-layout = e ∙ ap (λ (x : Connection). layout x ++ r) (sym z);
        facts = subst (λ (x : Connection). Whole n x.header x.slots x.queue) (sym z) g;
        rx-length = a;
        store_length = b;
      }

  module _ (w : World) (h : Holds n r rx store w) where
    pub holds-whole : is_whole w.state ≡ true
    unfolding is_whole
    holds-whole =
        let s = ap is_state h.is-layout ∙ layout-is-state (state_of w.state) r (whole-full n (state_of w.state) h.facts) in
        let t = whole-true n (state_of w.state) h.facts in
        rw (s, t)

    pub holds_kept : (x : Call) → Kept (lent w) (outcome w x)
    holds_kept x = call_kept w holds-whole (whole-own n (state_of w.state).header (state_of w.state).slots (state_of w.state).queue h.facts) x

    -- the state after a call
    pub state-after : (x : Call) → state_of (after w x).state ≡ changed_all (state_of w.state) (outcome w x).changes
    unfolding after
    state-after x =
        let k = holds_kept x in
        let c = state_of w.state in
        ap state_of (ap (λ (b : List ℕ). put_all b (outcome w x).changes) h.is-layout ∙ changes-layout c r (outcome w x).changes (whole-full n c h.facts) k.within)
        ∙ state-forth (changed_all c (outcome w x).changes) r
        (whole-fits n (changed_all c (outcome w x).changes)
        (subst (λ (m : Negotiated). Whole m (changed_all c (outcome w x).changes).header (changed_all c (outcome w x).changes).slots (changed_all c (outcome w x).changes).queue) h.facts.header.negotiated k.facts))

    pub holds_after : (x : Call) → Holds n r rx store (after w x)
    unfolding after
    holds_after x =
        let k = holds_kept x in
        let c = state_of w.state in
        holds_of _ (changed_all c (outcome w x).changes)
        (ap (λ (b : List ℕ). put_all b (outcome w x).changes) h.is-layout ∙ changes-layout c r (outcome w x).changes (whole-full n c h.facts) k.within)
        (subst (λ (m : Negotiated). Whole m (changed_all c (outcome w x).changes).header (changed_all c (outcome w x).changes).slots (changed_all c (outcome w x).changes).queue) h.facts.header.negotiated k.facts)
        (k.rx-length ∙ h.rx-length)
        (k.store_length ∙ h.store_length)

  pub holds-all : (w : World) → Holds n r rx store w → (cs : List Call) → Holds n r rx store (after_all w cs)
  unfolding after_all
  holds-all w h [] = h
  holds-all w h (x ∷ cs) = holds-all (after w x) (holds_after w h x) cs

-- ---- what make leaves

pub in-replicate : {A : Type 0} (k i : ℕ) (a : A) → get_or (replicate k a) i a ≡ a
in-replicate zero i a = refl
in-replicate (suc k) zero a = refl
in-replicate (suc k) (suc i) a = in-replicate k i a

pub every-replicate : {A : Type 0} (P : A → Type 0) (k : ℕ) (a : A) → P a → Every P (replicate k a)
every-replicate P zero a p = tt
every-replicate P (suc k) a p = (p, every-replicate P k a p)

limits-of : (c : ConnectionConfig) (a b : ℕ) (host device : Bool) → within_limits c ≡ true → Bounds (negotiated_of host device a b c)
unfolding negotiated_of
limits-of c a b host device e = record { within = within c e; payload = omega arith; version = omega arith }

pub fresh-whole : (n : Negotiated) → Bounds n → Whole n (fresh n).header (fresh n).slots (fresh n).queue
unfolding fresh queue_fine
fresh-whole n k =
    record {
      limits = k;
      header =
          record {
            negotiated = refl;
            next-some = omega arith;
            next_fits = omega arith;
            place-fits = omega arith;
            local_fits = omega arith;
            queue-fits = omega arith;
          };
      slots = record { full = length-replicate 64 empty_slot; each = λ i. subst (SlotWhole n i) (sym (in-replicate 64 i empty_slot)) (empty-whole n i) };
      pending-open = λ e. never e;
      queue =
          record {
            full = length-replicate 64 none_queued;
            fits = every-replicate OpenFits 64 none_queued (record { remote = omega arith; credit = omega arith; share = omega arith; length = omega arith });
            fine = refl;
          };
      offer = λ e. never e;
    }

put-start : (state l : List ℕ) → length l ≡ state_len → put state 0 l ≡ l ++ drop state_len state
unfolding put
put-start state l e = let z : 0 + length l ≡ state_len = omega arith in rw z

module _ (c : ConnectionConfig) (a b : ℕ) (host device : Bool) (state rx store : List ℕ) (e : within_limits c ≡ true) where
  pub made_holds : Holds (negotiated_of host device a b c) (drop state_len state) (length rx) (length store) (made c a b host device state rx store)
  unfolding made make_of
  made_holds =
      let n = negotiated_of host device a b c in
      let g = fresh-whole n (limits-of c a b host device e) in
      holds_of n (drop state_len state) (length rx) (length store) _ (fresh n)
      (ap (λ (x : Made). x.state) (cond-true (within_limits c) _ _ e) ∙ put-start state (layout (fresh n)) (length-layout (fresh n) (whole-full n (fresh n) g)))
      g refl refl

  -- the state is fresh
  pub made-state : state_of (made c a b host device state rx store).state ≡ fresh (negotiated_of host device a b c)
  unfolding made make_of
  made-state =
      let n = negotiated_of host device a b c in
      let g = fresh-whole n (limits-of c a b host device e) in
      ap state_of (ap (λ (x : Made). x.state) (cond-true (within_limits c) _ _ e) ∙ put-start state (layout (fresh n)) (length-layout (fresh n) (whole-full n (fresh n) g)))
      ∙ state-forth (fresh n) (drop state_len state) (whole-fits n (fresh n) g)

  short-made : stores_fit c (length rx) (length store) ≡ false
      → stores_fit (negotiated (lent (made c a b host device state rx store))).config (length (made c a b host device state rx store).rx) (length (made c a b host device state rx store).store) ≡ false
  unfolding negotiated_of
  short-made s =
      let k = made_holds in
      ap (λ (m : Negotiated). stores_fit m.config (length (made c a b host device state rx store).rx) (length (made c a b host device state rx store).store)) k.facts.header.negotiated
      ∙ ap (λ (y : ℕ). stores_fit c y (length (made c a b host device state rx store).store)) k.rx-length
      ∙ ap (λ (y : ℕ). stores_fit c (length rx) y) k.store_length ∙ s

unbroken : (n : Negotiated) (state rx store : List ℕ) (w : World) → Holds n (drop state_len state) (length rx) (length store) w → Unbroken n state rx store w
unbroken n state rx store w k =
    let r = drop state_len state in
    record {
      is-whole = holds-whole n r (length rx) (length store) w k;
      is-layout = k.is-layout;
      never = λ x. (holds_kept n r (length rx) (length store) w k x).answer;
      rx-length = k.rx-length;
      store_length = k.store_length;
      negotiated = k.facts.header.negotiated;
    }

-- at a start
pub starts : (s : Start) → Holds (agreed_in s) (drop state_len s.state) (length s.rx) (length s.store) (begins s)
starts s = made_holds s.config s.version s.most s.host s.device s.state s.rx s.store s.within

pub never-13 : Never13
never-13 s cs =
    unbroken (agreed_in s) s.state s.rx s.store (after_all (begins s) cs) (holds-all (agreed_in s) (drop state_len s.state) (length s.rx) (length s.store) (begins s) (starts s) cs)

-- ---- any whole state

pub whole-holds : (w : World) → Bytes w.state → is_whole w.state ≡ true → Holds (state_of w.state).header.negotiated (drop state_len w.state) (length w.rx) (length w.store) w
unfolding is_whole
whole-holds w y e =
    let k = and-true (is_state w.state) _ e in
    record {
      is-layout = sym (state-split w.state y k.0);
      facts = whole-facts (state_of w.state) (state-fits w.state y) k.1;
      rx-length = refl;
      store_length = refl;
    }

pub stays-whole : StaysWhole
stays-whole w y e cs =
    let n = (state_of w.state).header.negotiated in
    unbroken n w.state w.rx w.store (after_all w cs)
    (holds-all n (drop state_len w.state) (length w.rx) (length w.store) w (whole-holds w y e) cs)

-- ---- stores under their lengths

module _ (w : World) (is : is_whole w.state ≡ true)
    (short : stores_fit (negotiated (lent w)).config (length w.rx) (length w.store) ≡ false) where
  checked-8 : (t : Bool) (o : Outcome) → t ≡ true → checked t (lent w) o ≡ untouched (lent w) StoreShort
  unfolding checked
  checked-8 t o e = cond-true t _ _ e ∙ cond-false (stores_fit (negotiated (lent w)).config (length w.rx) (length w.store)) o _ short

  call-8 : (x : Call) → outcome w x ≡ untouched (lent w) StoreShort
  unfolding outcome open_outcome dispatch_outcome settle_outcome take_outcome read_outcome write_outcome close_outcome take_front_outcome look_outcome numbers_outcome accept_outcome reject_outcome let_go_outcome verdict_outcome checked_out
  call-8 (open_call out destination received) = checked-8 (is_whole w.state) _ is
  call-8 (dispatch_call out received) = checked-8 (is_whole w.state) _ is
  call-8 (settle_call out ch want) = checked-8 (is_whole w.state) _ is
  call-8 (take_call ch buf) = checked-8 (is_whole w.state) _ is
  call-8 (read_call out ch buf received) = checked-8 (is_whole w.state) _ is
  call-8 (write_call spending out ch bytes received) = checked-8 (is_whole w.state) _ is
  call-8 (close_call out ch) = checked-8 (is_whole w.state) _ is
  call-8 front_taken = checked-8 (is_whole w.state) _ is
  call-8 (look_call (numbers_look ch)) = checked-8 (is_whole w.state) _ is
  call-8 (accept_call out) = checked-8 (is_whole w.state) _ is
  call-8 (reject_call out) = checked-8 (is_whole w.state) _ is
  call-8 let_go_call = checked-8 (is_whole w.state) _ is
  call-8 (verdict_call out take remote credit) = checked-8 (is_whole w.state) _ is

  after-8 : (x : Call) → after w x ≡ w
  unfolding after
  after-8 x = ap (λ (o : Outcome). world_of o) (call-8 x)
    where
      world_of : Outcome → World
      world_of o = record { state = put_all w.state o.changes; rx = o.rx; store = o.store }

  all-8 : (cs : List Call) → after_all w cs ≡ w
  unfolding after_all
  all-8 [] = refl
  all-8 (x ∷ cs) = ap (λ (y : World). after_all y cs) (after-8 x) ∙ all-8 cs

  answer-8 : (x : Call) → answer_number (outcome w x).answer ≡ 8
  unfolding answer_number
  answer-8 x = ap (λ (o : Outcome). answer_number o.answer) (call-8 x)

pub always-8 : Always8
always-8 s f cs =
    let w = begins s in
    let is = holds-whole (agreed_in s) (drop state_len s.state) (length s.rx) (length s.store) w (starts s) in
    let short = short-made s.config s.version s.most s.host s.device s.state s.rx s.store s.within f in
    let z = all-8 w is short cs in
    (z, λ x. ap (λ (y : World). answer_number (outcome y x).answer) z ∙ answer-8 w is short x)
