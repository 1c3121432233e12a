-- What a call of a device's end leaves: its step, and a verdict behind it. Assumes nothing.
use Rattle.std.proofs.Common.{◌≡◌, sym, ap, subst, ◌∙◌, true, List, [], ◌++◌, Option, Some, None, ℕ, ◌+◌, ◌≤◌, length, drop, length-append, arith}
use Rattle.le.specs.Le.{put}
use Rattle.le.proofs.Parts.{by-test, put-put, length-put}
use Rattle.config.specs.declared.negotiated.Negotiated.{Negotiated}
use Rattle.config.specs.Config.{Within}
use Rattle.config.proofs.Laws.{and-true}
use Rattle.state.specs.Change.{changed_all, put_all}
use Rattle.state.specs.State.{Connection, state_len, state_of, is_state, layout}
use Rattle.state.proofs.StateLaws.{state-forth}
use Rattle.state.proofs.ChangeLaws.{changes-bytes}
use Rattle.state_whole.specs.Whole.{is_whole, whole}
use Rattle.state_whole.proofs.WholeLaws.{length-layout, whole-full, whole-fits}
use Rattle.connection.specs.declared.Answer.{Answer}
use Rattle.connection.specs.Calls.{Outcome, written_by}
use Rattle.connection.specs.Frames.{frames_bytes}
use Rattle.connection.proofs.WholeWork.{Kept}
use Rattle.call.specs.declared.Reply.{Reply}
use Rattle.call.specs.Promise.{lent_of, agreed_in, Leaves, AdmitsState}
use Rattle.call.proofs.AdmitLaws.{admits-facts}
use Rattle.device_meets.specs.declared.Met.{Met}
use Rattle.device.specs.declared.DeviceAnswer.TheVariants.{Plain}
use Rattle.device.specs.declared.DeviceReply.{DeviceReply}
use Rattle.device.specs.Device.{is_waiting, judged, given, and_judged, behind, called}
use Rattle.device.specs.Promise.{Verdicts, JudgeRoom, Stays, Judges, DeviceLeaves, Handed}

module _ (b rx store : List ℕ) (o : Outcome) (out : ℕ) (g : AdmitsState b out) (k : Kept (lent_of b rx store) o) where
  -- the connection after the step
  abbrev next : List ℕ
  next = put_all b o.changes

  abbrev there : Connection
  there = changed_all (state_of b) o.changes

  is-a-state : is_state b ≡ true
  unfolding is_whole
  is-a-state = (and-true (is_state b) (whole (state_of b)) g.is-whole).0

  next-bytes : next ≡ layout there ++ drop state_len b
  next-bytes = changes-bytes b o.changes g.bytes is-a-state k.within

  pub state-is : state_of next ≡ there
  state-is = ap state_of next-bytes ∙ state-forth there (drop state_len b) (whole-fits (agreed_in b) there k.facts)

  pub agreed-stays : agreed_in next ≡ agreed_in b
  agreed-stays = ap (λ (c : Connection). c.header.negotiated) state-is ∙ k.facts.header.negotiated

  pub next-long : state_len ≤ length next
  next-long =
      let e = ap (λ (x : List ℕ). length x) next-bytes in
      let f = length-append (layout there) (drop state_len b) in
      let h = length-layout there (whole-full (agreed_in b) there k.facts) in
      omega arith

  pub next-within : Within (agreed_in next).config
  next-within = subst (λ (x : Negotiated). Within x.config) (sym agreed-stays) (admits-facts b out g).limits.within

-- where a step waits, it wrote an acknowledgement at most
abbrev pub ShortWait : Negotiated → Outcome → Type 0
ShortWait n o = is_waiting o.answer ≡ true → length (frames_bytes n o.frames) ≤ 28

-- the same where a packet was met
abbrev pub ShortIfMet : Negotiated → Outcome → Option Met → Type 0
ShortIfMet n o (Some m) = ShortWait n o
ShortIfMet n o None = Unit {0}

-- a step that was handed nothing, where a packet was met
pub handed-short : (n : Negotiated) (step : List ℕ → Outcome) (received : List ℕ) (m : Option Met) → Handed received m → ShortWait n (step []) → ShortIfMet n (step received) m
handed-short n step received None h s = tt
handed-short n step received (Some m) h s = subst (λ (x : List ℕ). ShortWait n (step x)) (sym h) s

module _ (b rx store out buf : List ℕ) (o : Outcome) (r : Reply) (b₁ rx₁ store₁ out₁ buf₁ : List ℕ) (l : Leaves (agreed_in b) o 0 b out buf r b₁ rx₁ store₁ out₁ buf₁) where
  abbrev first : List ℕ
  first = frames_bytes (agreed_in b) o.frames

  written-first : r.written ≡ length first
  unfolding written_by
  written-first = let e = l.written_is in omega arith

  first-fits : length first ≤ length out
  unfolding written_by
  first-fits = let h = l.out-fits in omega arith

  out-same : length out₁ ≡ length out
  out-same = ap (λ (x : List ℕ). length x) l.out-is ∙ (let f = first-fits in length-put out 0 first (omega arith))

  -- what the verdict asks
  pub judge-room : (m : Option Met) → AdmitsState b (length out) → Kept (lent_of b rx store) o → ShortIfMet (agreed_in b) o m → JudgeRoom b₁ out₁ r m
  judge-room None g k short = tt
  judge-room (Some m) g k short = λ w.
      let s = short (ap is_waiting (sym l.answer-is) ∙ w) in
      let e = written-first in
      let f = out-same in
      let h = g.room in
      record {
        within = rw l.state-is (next-within b rx store o (length out) g k);
        state-fits = rw l.state-is (next-long b rx store o (length out) g k);
        room = omega arith;
      }

  module _ (handled : Answer) (res : DeviceReply) (b₂ out₂ head state₂ : List ℕ) (e : state₂ ≡ head ++ b₂) where
    -- no verdict
    stays-leaves : Stays r b₁ out₁ res b₂ out₂ → DeviceLeaves (given head b o) out buf res state₂ rx₁ store₁ out₂ buf₁
    unfolding given written_by
    stays-leaves s =
        record {
          answer-is = ap (λ (x : DeviceReply). x.answer) s.reply-is ∙ ap Plain l.answer-is;
          used-is = ap (λ (x : DeviceReply). x.used) s.reply-is ∙ l.used-is;
          written_is = ap (λ (x : DeviceReply). x.written) s.reply-is ∙ written-first;
          state-is = e ∙ ap (λ (x : List ℕ). head ++ x) (s.state-is ∙ l.state-is);
          rx-is = l.rx-is;
          store_is = l.store_is;
          out-is = s.out-is ∙ l.out-is;
          out-fits = first-fits;
          buf-is = l.buf-is;
          buf-fits = l.buf-fits;
        }

    -- a verdict
    verdict-leaves : (m : Met) → Verdicts (judged (lent_of b₁ rx₁ store₁) handled m.verdict) m.used r.written b₁ out₁ res b₂ out₂
        → DeviceLeaves (and_judged (given head b o) m.used (judged (lent_of (given head b o).inner (given head b o).rx (given head b o).store) handled m.verdict)) out buf res state₂ rx₁ store₁ out₂ buf₁
    unfolding given and_judged
    verdict-leaves m v₀ =
        let v : Verdicts (judged (lent_of (put_all b o.changes) o.rx o.store) handled m.verdict) m.used r.written (put_all b o.changes) out₁ res b₂ out₂ = rw (l.state-is, l.rx-is, l.store_is) at v₀ in
        let second = frames_bytes (agreed_in (put_all b o.changes)) (judged (lent_of (put_all b o.changes) o.rx o.store) handled m.verdict).frames in
        let w = written-first in
        let f = out-same in
        let t = v.out-fits in
        let n = length-append first second in
        let fits : r.written + length second ≤ length out = omega arith in
        record {
          answer-is = v.answer-is;
          used-is = v.used-is;
          written_is = v.written_is ∙ ap (λ (x : ℕ). x + length second) w ∙ sym n;
          state-is = e ∙ ap (λ (x : List ℕ). head ++ x) v.state-is;
          rx-is = l.rx-is;
          store_is = l.store_is;
          out-is = v.out-is ∙ ap (λ (x : List ℕ). put x r.written second) l.out-is ∙ put-put out 0 first r.written second (omega arith) fits;
          out-fits = omega arith;
          buf-is = l.buf-is;
          buf-fits = l.buf-fits;
        }

    pub called-leaves : (m : Option Met) → Judges b₁ out₁ r m handled res b₂ out₂ → DeviceLeaves (called head b handled o m) out buf res state₂ rx₁ store₁ out₂ buf₁
    unfolding called behind
    called-leaves None j = stays-leaves j
    called-leaves (Some m) j =
        by-test (is_waiting r.answer)
        (λ t. rw (ap is_waiting (sym l.answer-is) ∙ t) (verdict-leaves m (j.waits t rx₁ store₁)))
        (λ t. rw (ap is_waiting (sym l.answer-is) ∙ t) (stays-leaves (j.ends t)))
