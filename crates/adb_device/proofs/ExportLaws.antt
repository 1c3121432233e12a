-- What the exported functions of a device's end cite. Assumes nothing.
use Rattle.call_answer.specs.Export.{Does, MakesState}
use Rattle.std.proofs.Common.{◌≡◌, refl, ap, ◌∙◌, Bool, true, false, ◌||◌, List, ℕ, ◌≤◌, ltb, length, Result, Ok, Err}
use mathlib.Core.Bool.{true≢false}
use borrow.Author.Tests.{ltb-false}
use Rattle.le.specs.Le.{put}
use Rattle.refusal.specs.Refusal.{number_of}
use Rattle.connection.specs.declared.Refusal.{Refusal}
use Rattle.connection.specs.Answer.{refusal_number, answer_number}
use Rattle.connection.specs.Calls.{Made}
use Rattle.call_make.specs.Make.{answered, Makes}
use Rattle.call_answer.specs.Answer.{said_in}
use Rattle.device.specs.declared.DeviceReply.{DeviceReply}
use Rattle.device.specs.Device.{device_len, Gives}
use Rattle.device.specs.Promise.{DeviceLeaves}
use Rattle.device.specs.Answer.{device_number}
use Rattle.adb_device.specs.Export.{device_numbers, device_bytes, is_short, left_by_call, exported}

pub long-answer : (s a : ℕ) → is_short s a ≡ false → (device_len ≤ s) × (48 ≤ a)
unfolding is_short
long-answer s a e = long-by (ltb s device_len) (ltb a 48) refl refl e
  where
    long-by : (t u : Bool) → ltb s device_len ≡ t → ltb a 48 ≡ u → (t || u) ≡ false → (device_len ≤ s) × (48 ≤ a)
    long-by true u f g h = absurd (true≢false h)
    long-by false true f g h = absurd (true≢false h)
    long-by false false f g h = (ltb-false s device_len f, ltb-false a 48 g)

module _ (b rx store out buf answer : List ℕ) (g : Gives) where
  -- too short: nothing is touched
  pub does-short : is_short (length b) (length answer) ≡ true → Does (exported b rx store g out buf answer) 8 b rx store out buf answer
  unfolding exported
  does-short e =
      rw e (record { number_is = refl; state-is = refl; rx-is = refl; store_is = refl; out-is = refl; buf-is = refl; answer-is = refl; said-is = refl })

  -- the call's promise is the export's
  pub does_call : (r : DeviceReply) (number : ℕ) (b' rx' store' out' buf' answer' : List ℕ) → is_short (length b) (length answer) ≡ false
      → DeviceLeaves g out buf r b' rx' store' out' buf' → number ≡ device_number r.answer
      → answer' ≡ put answer 0 (device_bytes r.used r.written r.answer) → said_in answer' ≡ device_numbers r.used r.written r.answer
      → Does (exported b rx store g out buf answer) number b' rx' store' out' buf' answer'
  unfolding exported left_by_call
  does_call r number b' rx' store' out' buf' answer' e l n a s =
      rw e
      (record {
        number_is = n ∙ ap device_number l.answer-is;
        state-is = l.state-is;
        rx-is = l.rx-is;
        store_is = l.store_is;
        out-is = l.out-is;
        buf-is = l.buf-is;
        answer-is = rw (l.answer-is, l.used-is, l.written_is) at a;
        said-is = rw (l.answer-is, l.used-is, l.written_is) at s;
      })

-- ---- make

-- the number of what it answers
made-number : (said : Result (Unit {0}) Refusal) → number_of refusal_number said ≡ answer_number (answered said)
unfolding answer_number
made-number (Ok done) = refl
made-number (Err refusal) = refl

pub makes-is : (m : Made) (said : Result (Unit {0}) Refusal) (r : ℕ) (state : List ℕ) → Makes m said state → r ≡ number_of refusal_number said → MakesState m r state
makes-is m said r state g k = record { number_is = k ∙ made-number said ∙ ap answer_number g.answer-is; state-is = g.state-is }
