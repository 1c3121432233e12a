-- What a read said, handed to a write. Assumes nothing.
--     handed         of numbers that make again the fields that they say, the text at its place, the id's word and the numbers, with room
--                    enough, give back the bytes used
--     handed-back    so do those of the first stat layout
use mathlib.Core.Path.{◌≡◌, refl}
use mathlib.Core.List.{List}
use Prim.Native.Nat.{ℕ, ◌≤◌, ◌<◌}
use native.Mathlib.Omega.{arith}
use lib.ListN.{length, take}
use borrow.Author.Tests.{le-ltb}
use Rattle.le.specs.Le.{num_of, part, put, Bytes}
use Rattle.exchange.specs.declared.SyncId.{SyncId}
use Rattle.exchange.specs.declared.StatLayout.TheVariants.{V1, V2}
use Rattle.exchange.specs.declared.Layout.{Layout}
use Rattle.exchange.specs.declared.Layout.TheVariants.{Text, Number, Stat, Entry, End}
use Rattle.exchange.specs.declared.Exchange.{Exchange}
use Rattle.sync.specs.declared.Fields.{Fields}
use Rattle.sync.specs.declared.Whole.{Whole}
use Rattle.sync.specs.declared.ReadError.TheVariants.{InvalidId, DataTooLarge}
use Rattle.std.specs.Prelude.{Some, None, Ok, Err}
use Rattle.exchange.specs.Exchange.{word_of, found_of, exchange_of, layout_number}
use Rattle.sync.specs.Message.{stat_of, either_of, fields_of, Answer, read_message, read_number, error_number}
use Rattle.sync_write.specs.Write.{numbers_of}
use Rattle.exchange.proofs.ExchangeLaws.{found_word, first-layout}
use Rattle.sync.proofs.ReadLaws.{says}
use Rattle.sync_write.proofs.RoundTrip.{read-write}
use Rattle.sync_v2.specs.Said.{said_of as said_by, write_found}
use Rattle.c_answer.specs.Answer.{counted, writes}
use Rattle.adb_sync.specs.Handed.{hands, writes_said, used_written}
use Rattle.adb_sync.specs.Export.{values_of, said_of, stat_from, fields_from}

-- numbers that make again the fields that they say, of each layout that an exchange has
abbrev pub Again : {V : Type 0} → (Fields → V) → (Layout → V → Fields) → Exchange → Type 0
Again of_fields to_fields x =
    (w : ℕ) (id : SyncId) (k : Layout) (s : List ℕ) → found_of x w ≡ Some (id, k) → to_fields k (of_fields (fields_of k s)) ≡ fields_of k s

module _ {V : Type 0} (of_fields : Fields → V) (to_fields : Layout → V → Fields) (x : Exchange) (again : Again of_fields to_fields x) where
  made_again : (n : ℕ) (id : SyncId) (k : Layout) (s : List ℕ) (f : Fields) → found_of x n ≡ Some (id, k) → f ≡ fields_of k s → to_fields k (of_fields f) ≡ f
  made_again n id k s f found e = rw e (again n id k s found)

  message-back : (s : List ℕ) (w : Whole) (out : List ℕ) → Bytes s → read_message x s ≡ Ok (Some w) → w.used ≤ length out
      → write_found to_fields x (of_fields w.message.fields) (part s w.at w.length) out (found_of x (word_of w.message.id)) ≡ record { result = Ok w.used; out = put out 0 (take w.used s) }
  unfolding write_found
  message-back s w out h e room =
      let m = w.message in
      let y = says x s w e in
      let k = y.layout in
      let word = found_word x (num_of (part s 0 4)) m.id k y.found in
      let found : found_of x (word_of m.id) ≡ Some (m.id, k) = rw (← word) y.found in
      let f : to_fields k (of_fields m.fields) ≡ m.fields = made_again (word_of m.id) m.id k s m.fields found y.known.fields-are in
      rw (found, f) (read-write x s w out h e room)

  handed-on : (s out answer : List ℕ) (r : Answer) → Bytes s → read_message x s ≡ r → read_number r ≡ 0 → (said_by of_fields r).used ≤ length out → 8 ≤ length answer
      → hands to_fields x (said_by of_fields r) s out answer ≡ used_written (said_by of_fields r) s out answer
  unfolding said_by writes counted error_number
  handed-on s out answer (Ok None) h e z room fit = absurd (omega arith)
  handed-on s out answer (Err InvalidId) h e z room fit = absurd (omega arith)
  handed-on s out answer (Err DataTooLarge) h e z room fit = absurd (omega arith)
  handed-on s out answer (Ok (Some w)) h e z room fit = rw (le-ltb (length answer) 8 fit, message-back s w out h e room)

  pub handed : (s out answer : List ℕ) → Bytes s → read_number (read_message x s) ≡ 0 → (said_by of_fields (read_message x s)).used ≤ length out → 8 ≤ length answer
      → hands to_fields x (said_by of_fields (read_message x s)) s out answer ≡ used_written (said_by of_fields (read_message x s)) s out answer
  handed s out answer h z room fit = handed-on s out answer (read_message x s) h refl z room fit

-- fields that were read, made again from their values
fields-again : (k : Layout) (s : List ℕ) → layout_number k < 5 → fields_from k (values_of (fields_of k s)) ≡ fields_of k s
unfolding fields_from values_of fields_of numbers_of stat_from either_of stat_of layout_number
fields-again Text s h = refl
fields-again Number s h = refl
fields-again (Stat V1) s h = refl
fields-again (Entry V1) s h = refl
fields-again (End V1) s h = refl
fields-again (Stat V2) s h = absurd (omega arith)
fields-again (Entry V2) s h = absurd (omega arith)
fields-again (End V2) s h = absurd (omega arith)

pub handed-back : (x : ℕ) (s out answer : List ℕ) → Bytes s → read_number (read_message (exchange_of x) s) ≡ 0 → (said_of (read_message (exchange_of x) s)).used ≤ length out → 8 ≤ length answer
    → writes_said x (said_of (read_message (exchange_of x) s)) s out answer ≡ used_written (said_of (read_message (exchange_of x) s)) s out answer
handed-back x =
    handed values_of fields_from (exchange_of x) (λ w id k s found. fields-again k s (first-layout x w id k found))
