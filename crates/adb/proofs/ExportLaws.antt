-- What the exported functions cite. Assumes nothing.
use mathlib.Core.Path.{◌≡◌, refl, sym, ap, subst, ◌∙◌}
use mathlib.Core.Bool.{Bool, true, false, ◌||◌, true≢false}
use mathlib.Core.List.{List, [], ◌∷◌}
use Prim.Native.Nat.{ℕ, suc, ◌%◌, ◌≤◌}
use native.Mathlib.Nat.{zero-add}
use native.Mathlib.Omega.{arith}
use lib.Dec.{ltb}
use lib.ListN.{length}
use borrow.Author.Tests.{ltb-false}
use Rattle.call_answer.specs.Export.{Does, Exported, MakesState}
use Rattle.le.specs.Le.{num_of, put, Bytes}
use Rattle.config.specs.declared.ConnectionConfig.{ConnectionConfig}
use Rattle.slot.proofs.Laws.{cond-true, cond-false}
use Rattle.le.specs.Rows.{rows}
use Rattle.state_whole.specs.Whole.{is_whole}
use Rattle.slot.specs.declared.Spending.TheVariants.{Within}
use Rattle.table.specs.declared.ChannelId.{ChannelId}
use Rattle.connection.specs.declared.Answer.{Answer}
use Rattle.call.specs.declared.Reply.{Reply}
use Rattle.connection.specs.Answer.{refusal_number, answer_number}
use Rattle.connection.specs.Calls.{Outcome, written_by, open_outcome, dispatch_outcome, settle_outcome, take_outcome, read_outcome, write_outcome, close_outcome, take_front_outcome, numbers_outcome, accept_outcome, reject_outcome, let_go_outcome}
use Rattle.call.specs.Promise.{lent_of, agreed_in, Leaves}
use Rattle.call_make.specs.Make.{make_in, answered, Makes}
use Rattle.connection.specs.declared.Refusal.{Refusal}
use Rattle.refusal.specs.Refusal.{number_of as number_by}
use Rattle.std.specs.Prelude.{Result, Ok, Err}
use Rattle.history.specs.Run.{bytes_in, Call, open_call, dispatch_call, settle_call, take_call, read_call, write_call, close_call, front_taken, look_call, numbers_look, look_outcome, accept_call, reject_call, let_go_call, World, outcome, after}
use Rattle.call_answer.specs.Answer.{numbers_of, answer_bytes, said_in}
use Rattle.adb.specs.Export.{world_of, is_short, called, exported, is_yes}
use Rattle.state.specs.State.{state_len}

-- ---- bytes

-- bytes as a caller's numbers are themselves
pub bytes_same : (l : List ℕ) → Bytes l → bytes_in l ≡ l
unfolding bytes_in
bytes_same [] y = refl
bytes_same (x ∷ l) y =
    let h = y 0 in
    let e : x % 256 ≡ x = omega arith in
    ap (λ (a : ℕ). a ∷ bytes_in l) e ∙ ap (λ (r : List ℕ). x ∷ r) (bytes_same l (λ k. y (suc k)))

-- ---- too few bytes

pub long-answer : (s a : ℕ) → is_short s a ≡ false → (state_len ≤ s) × (48 ≤ a)
unfolding is_short
long-answer s a e = long-by (ltb s state_len) (ltb a 48) refl refl e
  where
    long-by : (t u : Bool) → ltb s state_len ≡ t → ltb a 48 ≡ u → (t || u) ≡ false → (state_len ≤ s) × (48 ≤ a)
    long-by true u f g h = absurd (true≢false h)
    long-by false true f g h = absurd (true≢false h)
    long-by false false f g h = (ltb-false s state_len f, ltb-false a 48 g)

module _ (w : World) (c : Call) (out buf answer : List ℕ) where
  pub does-short : is_short (length w.state) (length answer) ≡ true → Does (exported w c out buf answer) 8 w.state w.rx w.store out buf answer
  unfolding exported
  does-short t =
      subst (λ (e : Exported). Does e 8 w.state w.rx w.store out buf answer) (sym (cond-true (is_short (length w.state) (length answer)) _ _ t))
      (record { number_is = refl; state-is = refl; rx-is = refl; store_is = refl; out-is = refl; buf-is = refl; answer-is = refl; said-is = refl })

  exported-is : is_short (length w.state) (length answer) ≡ false → exported w c out buf answer ≡ called w c out buf answer
  unfolding exported
  exported-is t = cond-false (is_short (length w.state) (length answer)) _ _ t

  does-called : (r : Reply) (number : ℕ) (state' rx' store' out' buf' answer' : List ℕ) → Leaves (agreed_in w.state) (outcome w c) 0 w.state out buf r state' rx' store' out' buf'
      → number ≡ answer_number r.answer → answer' ≡ put answer 0 (answer_bytes r.used r.written r.answer) → said_in answer' ≡ numbers_of r.used r.written r.answer → Does (called w c out buf answer) number state' rx' store' out' buf' answer'
  unfolding called after
  does-called r number state' rx' store' out' buf' answer' g f h q =
      record {
        number_is = f ∙ ap answer_number g.answer-is;
        state-is = g.state-is;
        rx-is = g.rx-is;
        store_is = g.store_is;
        out-is = g.out-is;
        buf-is = g.buf-is;
        answer-is = h ∙ ap (λ (x : Answer). put answer 0 (answer_bytes r.used r.written x)) g.answer-is
            ∙ ap (λ (x : ℕ). put answer 0 (answer_bytes x r.written (outcome w c).answer)) g.used-is
            ∙ ap (λ (x : ℕ). put answer 0 (answer_bytes (outcome w c).used x (outcome w c).answer)) (g.written_is ∙ zero-add (written_by (agreed_in w.state) (outcome w c)));
        said-is = q ∙ ap (λ (x : Answer). numbers_of r.used r.written x) g.answer-is ∙ ap (λ (x : ℕ). numbers_of x r.written (outcome w c).answer) g.used-is
            ∙ ap (λ (x : ℕ). numbers_of (outcome w c).used x (outcome w c).answer) (g.written_is ∙ zero-add (written_by (agreed_in w.state) (outcome w c)));
      }

  -- what the call leaves is what its definition does
  pub does_call : (o : Outcome) (r : Reply) (number : ℕ) (state' rx' store' out' buf' answer' : List ℕ) → is_short (length w.state) (length answer) ≡ false → o ≡ outcome w c
      → Leaves (agreed_in w.state) o 0 w.state out buf r state' rx' store' out' buf' → number ≡ answer_number r.answer
      → answer' ≡ put answer 0 (answer_bytes r.used r.written r.answer) → said_in answer' ≡ numbers_of r.used r.written r.answer → Does (exported w c out buf answer) number state' rx' store' out' buf' answer'
  does_call o r number state' rx' store' out' buf' answer' t e g f h q =
      subst (λ (x : Exported). Does x number state' rx' store' out' buf' answer') (sym (exported-is t))
      (does-called r number state' rx' store' out' buf' answer' (subst (λ (x : Outcome). Leaves (agreed_in w.state) x 0 w.state out buf r state' rx' store' out' buf') e g) f h q)

-- ---- each call is the theorems' call

module _ (state rx store : List ℕ) where
  abbrev w : World
  w = world_of state rx store

  pub open_is : (out destination received : List ℕ) → Bytes destination → Bytes received
      → open_outcome (is_whole state) (lent_of state rx store) (length out) destination received ≡ outcome w (open_call out destination received)
  unfolding outcome
  open_is out destination received d y =
      ap (λ (x : List ℕ). open_outcome (is_whole state) (lent_of state rx store) (length out) x received) (sym (bytes_same destination d))
      ∙ ap (open_outcome (is_whole state) (lent_of state rx store) (length out) (bytes_in destination)) (sym (bytes_same received y))

  pub dispatch-is : (out received : List ℕ) → Bytes received → dispatch_outcome (is_whole state) (lent_of state rx store) (length out) received ≡ outcome w (dispatch_call out received)
  unfolding outcome
  dispatch-is out received y = ap (dispatch_outcome (is_whole state) (lent_of state rx store) (length out)) (sym (bytes_same received y))

  pub settle_is : (out : List ℕ) (ch : ChannelId) (want : ℕ) → settle_outcome (is_whole state) (lent_of state rx store) (length out) ch want ≡ outcome w (settle_call out ch want)
  unfolding outcome
  settle_is out ch want = refl

  pub take-is : (ch : ChannelId) (buf : List ℕ) → take_outcome (is_whole state) (lent_of state rx store) ch (length buf) ≡ outcome w (take_call ch buf)
  unfolding outcome
  take-is ch buf = refl

  pub read_is : (out : List ℕ) (ch : ChannelId) (buf received : List ℕ) → Bytes received
      → read_outcome (is_whole state) (lent_of state rx store) (length out) ch (length buf) received ≡ outcome w (read_call out ch buf received)
  unfolding outcome
  read_is out ch buf received y = ap (read_outcome (is_whole state) (lent_of state rx store) (length out) ch (length buf)) (sym (bytes_same received y))

  pub write-is : (out : List ℕ) (ch : ChannelId) (given received : List ℕ) → Bytes given → Bytes received
      → write_outcome Within (is_whole state) (lent_of state rx store) (length out) ch given received ≡ outcome w (write_call Within out ch given received)
  unfolding outcome
  write-is out ch given received d y =
      ap (λ (x : List ℕ). write_outcome Within (is_whole state) (lent_of state rx store) (length out) ch x received) (sym (bytes_same given d))
      ∙ ap (write_outcome Within (is_whole state) (lent_of state rx store) (length out) ch (bytes_in given)) (sym (bytes_same received y))

  pub close-is : (out : List ℕ) (ch : ChannelId) → close_outcome (is_whole state) (lent_of state rx store) (length out) ch ≡ outcome w (close_call out ch)
  unfolding outcome
  close-is out ch = refl

  pub front-is : take_front_outcome (is_whole state) (lent_of state rx store) ≡ outcome w front_taken
  unfolding outcome
  front-is = refl

  pub numbers-is : (ch : ChannelId) → numbers_outcome (is_whole state) (lent_of state rx store) ch ≡ outcome w (look_call (numbers_look ch))
  unfolding outcome look_outcome
  numbers-is ch = refl

  pub accept-is : (out : List ℕ) → accept_outcome (is_whole state) (lent_of state rx store) (length out) ≡ outcome w (accept_call out)
  unfolding outcome
  accept-is out = refl

  pub reject-is : (out : List ℕ) → reject_outcome (is_whole state) (lent_of state rx store) (length out) ≡ outcome w (reject_call out)
  unfolding outcome
  reject-is out = refl

  pub let-go-is : let_go_outcome (is_whole state) (lent_of state rx store) ≡ outcome w let_go_call
  unfolding outcome
  let-go-is = refl

-- ---- make

-- the number of what it answers
made-number : (said : Result (Unit {0}) Refusal) → number_by refusal_number said ≡ answer_number (answered said)
unfolding answer_number
made-number (Ok done) = refl
made-number (Err refusal) = refl

pub makes-is : (c : ConnectionConfig) (a b h : ℕ) (host device said-device : Bool) (state state' : List ℕ) (said : Result (Unit {0}) Refusal) (r : ℕ) → host ≡ is_yes h
    → device ≡ said-device → Makes (make_in c a b host device state) said state' → r ≡ number_by refusal_number said → MakesState (make_in c a b (is_yes h) said-device state) r state'
makes-is c a b h host device said-device state state' said r e f g k =
    let g₁ = subst (λ (x : Bool). Makes (make_in c a b (is_yes h) x state) said state') f (subst (λ (x : Bool). Makes (make_in c a b x device state) said state') e g) in
    record { number_is = k ∙ made-number said ∙ ap answer_number g₁.answer-is; state-is = g₁.state-is }
