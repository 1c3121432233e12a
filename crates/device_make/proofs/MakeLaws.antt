-- A device's end, put together from its parts. Assumes nothing.
use Rattle.std.proofs.Common.{◌≡◌, refl, sym, ap, subst, ◌∙◌, true, false, List, ◌++◌, ℕ, ◌≤◌, ◌<◌, ltb, leb, length, take, drop, length-append, Ok, Err, arith}
use borrow.Author.Tests.{lt-ltb, le-ltb, leb-true}
use Rattle.le.specs.Le.{bytes_of, put}
use Rattle.le.proofs.Laws.{length-bytes_of}
use Rattle.le.proofs.Parts.{put-put}
use Rattle.config.specs.declared.ConnectionConfig.{ConnectionConfig}
use Rattle.config.specs.Config.{within_limits}
use Rattle.config.proofs.Laws.{and-true}
use Rattle.slot.proofs.Laws.{cond-true, cond-false}
use Rattle.connection.specs.declared.Refusal.TheVariants.{BadConfig, StoreShort}
use Rattle.connection.specs.Calls.{Made}
use Rattle.call_make.specs.Make.{make_in, Makes}
use Rattle.device.specs.Device.{most_text, inner_at, device_len, head_of, inner_of}
use Rattle.device_make.specs.Make.{fits, head_made, inner_made, device_made, HeadRoom}

-- ---- the bytes ahead of the connection

-- flag, length and text, put one behind the other
pub puts-head : (head text head₁ head₂ head₃ : List ℕ) → HeadRoom head text → head₁ ≡ put head 0 (bytes_of 1 0) → head₂ ≡ put head₁ 1 (bytes_of 4 (length text)) → head₃ ≡ put head₂ 5 text
    → head₃ ≡ head_made text head
unfolding head_made
puts-head head text head₁ head₂ head₃ r e f g =
    let a = bytes_of 1 0 in
    let n = bytes_of 4 (length text) in
    let la = length-bytes_of 1 0 in
    let ln = length-bytes_of 4 (length text) in
    let lan = length-append a n in
    let w = r.whole in
    let s = r.short in
    g ∙ ap (λ (x : List ℕ). put x 5 text) (f ∙ ap (λ (x : List ℕ). put x 1 n) e ∙ put-put head 0 a 1 n (omega arith) (omega arith))
    ∙ put-put head 0 (a ++ n) 5 text (omega arith) (omega arith)

-- ---- what is made

module _ (c : ConnectionConfig) (text b : List ℕ) where
  pub make-short : length b < device_len → Makes (device_made c text b) (Err StoreShort) b
  unfolding device_made
  make-short h =
      subst (λ (x : Made). Makes x (Err StoreShort) b) (sym (cond-true (ltb (length b) device_len) _ _ (lt-ltb (length b) device_len h)))
      (record { answer-is = refl; state-is = refl })

  module _ (h : device_len ≤ length b) where
    pub make-bad : fits c (length text) ≡ false → Makes (device_made c text b) (Err BadConfig) b
    unfolding device_made
    make-bad t =
        subst (λ (x : Made). Makes x (Err BadConfig) b) (sym (cond-false (ltb (length b) device_len) _ _ (le-ltb (length b) device_len h) ∙ cond-false (fits c (length text)) _ _ t))
        (record { answer-is = refl; state-is = refl })

    -- head and inner: the parts that were lent; head' and inner' as they were left
    pub make-done : (head inner head' inner' : List ℕ) → fits c (length text) ≡ true → head ≡ take inner_at b → inner ≡ drop inner_at b → head' ≡ head_made text head
        → inner' ≡ (make_in c 0x0100_0001 c.max_payload false false inner).state → Makes (device_made c text b) (Ok tt) (head' ++ inner')
    unfolding device_made inner_made head_of inner_of
    make-done head inner head' inner' t e f g i =
        subst (λ (x : Made). Makes x (Ok tt) (head' ++ inner')) (sym (cond-false (ltb (length b) device_len) _ _ (le-ltb (length b) device_len h) ∙ cond-true (fits c (length text)) _ _ t))
        (record {
          answer-is = refl;
          state-is = ap (λ (x : List ℕ). x ++ inner') (g ∙ ap (head_made text) e)
              ∙ ap (λ (x : List ℕ). head_made text (take inner_at b) ++ x) (i ∙ ap (λ (x : List ℕ). (make_in c 0x0100_0001 c.max_payload false false x).state) f);
        })

    -- what laying out the first part asks
    pub head-room : (head : List ℕ) → fits c (length text) ≡ true → length head ≡ inner_at → HeadRoom head text
    unfolding fits
    head-room head t e = record { whole = e; short = leb-true (length text) most_text (and-true (within_limits c) (leb (length text) most_text) t).1 }
