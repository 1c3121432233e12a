-- What answering the host's CNXN leaves. Assumes nothing.
use Rattle.std.proofs.Common.{◌≡◌, refl, sym, ap, ◌∙◌, Bool, true, false, List, [], ◌++◌, ℕ, ◌+◌, ◌-◌, ◌≤◌, ◌<◌, ltb, length, take, drop, set, take-append-drop, length-take, arith}
use Rattle.std.proofs.Math.Seq.{take-set-lt}
use Rattle.std.proofs.lemmas.List.{drop-set-lt}
use Rattle.std.proofs.lemmas.Slice.{between_to_end}
use lib.ListN.{length-set}
use borrow.Author.Tests.{lt-ltb, le-ltb}
use borrow.Rule.Slice.PartMut.{put_mid}
use Rattle.le.specs.Le.{part, put}
use Rattle.le.proofs.Parts.{put-none}
use Rattle.config.specs.declared.ConnectionConfig.{ConnectionConfig}
use Rattle.config.specs.declared.negotiated.Negotiated.{Negotiated}
use Rattle.config.specs.Negotiated.{negotiated_of}
use Rattle.protocol.specs.declared.packet.Packet.{Packet}
use Rattle.protocol.specs.Packet.{Puts}
use Rattle.protocol.proofs.PacketLaws.{frame-length}
use Rattle.call.specs.declared.Reply.{Reply}
use Rattle.connection.specs.declared.Answer.TheVariants.{Refused}
use Rattle.connection.specs.declared.Refusal.TheVariants.{OutShort}
use Rattle.call_make.specs.Make.{make_in, delayed_ack_name}
use Rattle.features.specs.Features.{has_feature}
use Rattle.device.specs.declared.DeviceAnswer.TheVariants.{Plain, Connected}
use Rattle.device.specs.declared.DeviceReply.{DeviceReply}
use Rattle.device.specs.Device.{text_at, inner_at, head_fine, head_of, inner_of, text_len, text_in, plain}
use Rattle.device.proofs.HeadLaws.{head-long, text_short, rest-back}
use Rattle.device_connect.specs.Connect.{cnxn_bytes, lists_delayed, flagged, made_anew, connected_as, BeginsAnew, ConnectDoes}

module _ (b : List ℕ) (e : head_fine b ≡ true) where
  -- what is lent to make
  lent-is : take (length (set b 0 1) - inner_at) (drop inner_at (set b 0 1)) ≡ inner_of b
  unfolding inner_of
  lent-is =
      let h = head-long b e in
      let n = length-set b 0 1 in
      between_to_end (set b 0 1) inner_at (length (set b 0 1)) (omega arith) ∙ drop-set-lt inner_at b 0 1 (omega arith)

  pub set-long : inner_at ≤ length (set b 0 1)
  set-long = let h = head-long b e in let n = length-set b 0 1 in omega arith

  pub begins-anew : (c : ConnectionConfig) (p : Packet) (ours theirs : Bool) (made : List ℕ)
      → made ≡ (make_in c p.arg0 p.arg1 ours theirs (take (length (set b 0 1) - inner_at) (drop inner_at (set b 0 1)))).state
      → BeginsAnew c p ours theirs b (put_mid inner_at (length (set b 0 1) - inner_at) (set b 0 1) made)
  unfolding flagged head_of made_anew
  begins-anew c p ours theirs made m =
      let h = head-long b e in
      rest-back (set b 0 1) inner_at made set-long
      ∙ ap (λ (x : List ℕ). x ++ made) (take-set-lt inner_at b 0 1 (omega arith))
      ∙ ap (λ (x : List ℕ). set (take inner_at b) 0 1 ++ x) (m ∙ ap (λ (x : List ℕ). (make_in c p.arg0 p.arg1 ours theirs x).state) lent-is)

  pub text-short : (text : List ℕ) → text ≡ text_in b → length text ≤ 4096
  unfolding text_in part
  text-short text t =
      let k = ap (λ (x : List ℕ). length x) t in
      let n = length-take (text_len b) (drop text_at b) in
      let s = text_short b e in
      omega arith

  -- its two parts make up the state
  parts : b ≡ head_of b ++ inner_of b
  unfolding head_of inner_of
  parts = sym (take-append-drop inner_at b)

  module _ (out : List ℕ) (c : ConnectionConfig) (p : Packet) (identity text : List ℕ) (t : text ≡ text_in b) where
    short-is : (v : Bool) → ltb (length out) (24 + length text) ≡ v → ltb (length out) (24 + length (text_in b)) ≡ v
    short-is v f = ap (λ (x : List ℕ). ltb (length out) (24 + length x)) (sym t) ∙ f

    -- ours does not fit
    pub connect-short : (r : Reply) (res : DeviceReply) → length out < 24 + length text → r ≡ record { answer = Refused OutShort; used = 0; written = 0 } → res ≡ plain r
        → ConnectDoes b out c p identity res b out
    unfolding connected_as
    connect-short r res f q s rx store =
        rw (short-is true (lt-ltb (length out) (24 + length text) f))
        (record {
          answer-is = ap (λ (x : DeviceReply). x.answer) s ∙ ap (λ (x : Reply). Plain x.answer) q;
          used-is = ap (λ (x : DeviceReply). x.used) s ∙ ap (λ (x : Reply). x.used) q;
          written_is = ap (λ (x : DeviceReply). x.written) s ∙ ap (λ (x : Reply). x.written) q;
          state-is = parts;
          rx-is = refl;
          store_is = refl;
          out-is = sym (put-none out 0);
          out-fits = omega arith;
          buf-is = sym (put-none [] 0);
          buf-fits = omega arith;
        })

    -- it fits
    pub connects : (written used : ℕ) (n : Negotiated) (ours theirs : Bool) (b' out' : List ℕ) → 24 + length text ≤ length out
        → Puts out 0 (cnxn_bytes c.max_payload text) written out' → ours ≡ has_feature text delayed_ack_name → theirs ≡ has_feature identity delayed_ack_name
        → BeginsAnew c p ours theirs b b' → n ≡ negotiated_of ours theirs p.arg0 p.arg1 c → used ≡ 24 + p.data_length
        → ConnectDoes b out c p identity (record { answer = Connected n; used = used; written = written }) b' out'
    unfolding connected_as lists_delayed cnxn_bytes
    connects written used n ours theirs b' out' f w o d s a u rx store =
        let long : length (cnxn_bytes c.max_payload text) ≡ 24 + length text = frame-length _ _ _ text _ in
        let x : ours ≡ has_feature (text_in b) delayed_ack_name = o ∙ ap (λ (y : List ℕ). has_feature y delayed_ack_name) t in
        let bytes : cnxn_bytes c.max_payload text ≡ cnxn_bytes c.max_payload (text_in b) = ap (cnxn_bytes c.max_payload) t in
        let same = ap (λ (y : List ℕ). length y) bytes in
        rw (short-is false (le-ltb (length out) (24 + length text) f), ← x, ← d)
        (record {
          answer-is = ap Connected a;
          used-is = u;
          written_is = let k = w.end_is in omega arith;
          state-is = s;
          rx-is = refl;
          store_is = refl;
          out-is = w.out-is ∙ ap (put out 0) bytes;
          out-fits = omega arith;
          buf-is = sym (put-none [] 0);
          buf-fits = omega arith;
        })
