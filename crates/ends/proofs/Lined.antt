-- What a call uses of a line: nothing, or the first frame, whole. Assumes nothing.
use mathlib.Core.Path.{◌≡◌, refl, sym, ap, subst, ◌∙◌}
use mathlib.Core.Bool.{true, false}
use mathlib.Core.List.{List, []}
use Prim.Native.Nat.{ℕ}
use native.Mathlib.Omega.{arith}
use lib.Dec.{eqb}
use lib.ListN.{take, drop}
use borrow.Author.Tests.{ne_eqb}
use Rattle.le.proofs.Parts.{by-test}
use Rattle.protocol.specs.declared.packet.Packet.{Packet}
use Rattle.protocol.specs.Command.{is_write}
use Rattle.protocol.specs.Packet.{payload_of, decode_of}
use Rattle.protocol.proofs.RoundTrip.{Says}
use Rattle.connection.specs.Answer.{answer_number}
use Rattle.connection.specs.Calls.{Outcome, body_of, frame_len}
use Rattle.connection.specs.Frames.{Sent}
use Rattle.history.specs.Run.{Call, open_call, dispatch_call, settle_call, take_call, read_call, write_call, close_call, front_taken, look_call, accept_call, reject_call, let_go_call, verdict_call, received_in}
use Rattle.history.specs.Seen.{Seen}
use Rattle.history.specs.Book.{is_early, payload_at}
use Rattle.history.proofs.Packets.{reads-write, reads-arg1, reads-payload}
use Rattle.history_frames.proofs.Receipt.{UsedBy, nothing, damaged, whole}
use Rattle.ends_lines.proofs.Carried.{Carried, carried-first, carried-whole, carried-same}
use Rattle.ends.specs.Ends.{handed}
use Rattle.ends.proofs.Books.{Uses, nothing as uses-none, packet as uses-one}
use Rattle.ends.proofs.Joint.{ahead}
use Rattle.std.specs.Prelude.{Option, Some, None}

-- the packet that a call used, as it was sent
pub data Packeted (received : List ℕ) (limit : ℕ) (o : Outcome) : Option Sent → Type 0 where
  idle : o.used ≡ 0 → Packeted received limit o None
  took : (k : Packet) (f : Sent) → Says received limit k → f.command ≡ k.command → f.arg0 ≡ k.arg0 → f.arg1 ≡ k.arg1 → f.payload ≡ body_of received k → o.used ≡ frame_len k
      → eqb (answer_number o.answer) 4 ≡ false → Packeted received limit o (Some f)

-- of a line that holds these frames
pub record Lined (line : List ℕ) (fs : List Sent) (received : List ℕ) (limit : ℕ) (o : Outcome) : Type 0 where
  pub got : Option Sent
  pub rest : List Sent
  pub frames-are : fs ≡ ahead got rest
  pub behind : Carried (drop o.used line) rest
  pub taken : Packeted received limit o got

-- the bytes that a call is lent are the first of the line
pub record Lends (received line : List ℕ) : Type 0 where
  pub count : ℕ
  pub first : received ≡ take count line

drop-none : (n : ℕ) (l : List ℕ) → n ≡ 0 → drop n l ≡ l
drop-none n l e = ap (λ (x : ℕ). drop x l) e

pub lined : (line : List ℕ) (fs : List Sent) → Carried line fs → (received : List ℕ) (limit : ℕ) (o : Outcome) → Lends received line → UsedBy received limit o → Lined line fs received limit o
lined line fs c received limit o le (nothing e) =
    record { got = None; rest = fs; frames-are = refl; behind = subst (λ (x : List ℕ). Carried x fs) (sym (drop-none o.used line e)) c; taken = idle e }
lined line fs c received limit o le (damaged n e) =
    absurd (carried-whole line fs c le.count limit n (ap (λ (x : List ℕ). decode_of x limit) (sym le.first) ∙ e))
lined line fs c received limit o le (whole k d sy us four) =
    let f = carried-first line fs c le.count limit k (ap (λ (x : List ℕ). decode_of x limit) (sym le.first) ∙ d) in
    record {
      got = Some f.frame;
      rest = f.rest;
      frames-are = f.frames-are;
      behind = subst (λ (x : ℕ). Carried (drop x line) f.rest) (sym us) f.behind;
      taken = took k f.frame sy f.command f.arg0 f.arg1 (f.payload ∙ ap (λ (x : List ℕ). payload_of x k.data_length) (sym le.first)) us four;
    }

-- as the books read it
pub uses-of : (received : List ℕ) (limit : ℕ) (o : Outcome) (got : Option Sent) (s : Seen) → s.used ≡ o.used → s.number ≡ answer_number o.answer
    → (is_early (answer_number o.answer) ≡ true → o.used ≡ 0) → Packeted received limit o got → Uses received s got
uses-of received limit o None s eu en late (idle e) = uses-none (eu ∙ e)
uses-of received limit o (Some f) s eu en late (took k g sy c a0 a1 pay us four) =
    let some : o.used ≡ 0 → ⊥ = λ z. omega arith in
    uses-one f (ne_eqb s.used 0 (λ z. some (sym eu ∙ z))) (ap (λ (n : ℕ). eqb n 4) en ∙ four)
    (ap is_early en ∙ by-test (is_early (answer_number o.answer)) (λ t. absurd (some (late t))) (λ t. t))
    (reads-write received limit k sy ∙ ap is_write (sym c)) (reads-arg1 received limit k sy ∙ sym a1)
    (ap (λ (n : ℕ). payload_at received n) (eu ∙ us) ∙ reads-payload received limit k sy ∙ sym pay)

-- ---- a call that is handed the first bytes of a line

bare : (line : List ℕ) → Lends [] line
bare line = record { count = 0; first = refl }

pub handed-lends : (line : List ℕ) (fs : List Sent) → Carried line fs → (n : ℕ) (c : Call) → Lends (received_in (handed (take n line) c)) line
unfolding received_in handed
handed-lends line fs c n (open_call out destination received) = record { count = n; first = carried-same line fs c n }
handed-lends line fs c n (dispatch_call out received) = record { count = n; first = carried-same line fs c n }
handed-lends line fs c n (settle_call out ch want) = bare line
handed-lends line fs c n (take_call ch buf) = bare line
handed-lends line fs c n (read_call out ch buf received) = record { count = n; first = carried-same line fs c n }
handed-lends line fs c n (write_call spending out ch bytes received) = record { count = n; first = carried-same line fs c n }
handed-lends line fs c n (close_call out ch) = bare line
handed-lends line fs c n front_taken = bare line
handed-lends line fs c n (look_call x) = bare line
handed-lends line fs c n (accept_call out) = bare line
handed-lends line fs c n (reject_call out) = bare line
handed-lends line fs c n let_go_call = bare line
handed-lends line fs c n (verdict_call out take remote credit) = bare line
