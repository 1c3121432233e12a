-- A fresh state, put together from its parts. Assumes nothing.
use mathlib.Core.Path.{◌≡◌, refl, sym, ap, subst, ◌∙◌}
use mathlib.Core.Bool.{Bool, true, false}
use mathlib.Core.List.{List, [], ◌∷◌, ◌++◌, append_assoc, append-nil}
use Prim.Native.Nat.{ℕ, ◌+◌, ◌*◌, ◌≤◌, ◌<◌}
use native.Mathlib.Omega.{arith}
use lib.Dec.{ltb}
use lib.ListN.{length, take, drop, replicate, length-append, length-take, length-replicate, replicate-append-replicate}
use lib.Seq.{take-append-le, take-take, drop_at}
use borrow.Author.Tests.{lt-ltb, le-ltb}
use Rattle.le.specs.Le.{put}
use Rattle.le.proofs.Parts.{put-put, put-none}
use Rattle.config.specs.declared.ConnectionConfig.{ConnectionConfig}
use Rattle.config.specs.declared.negotiated.Negotiated.{Negotiated}
use Rattle.config.specs.Config.{within_limits}
use Rattle.config.specs.Negotiated.{negotiated_of}
use Rattle.state.specs.State.{none_queued}
use Rattle.slot.specs.declared.ChannelSlot.{ChannelSlot}
use Rattle.slot.specs.Slot.{empty_slot}
use Rattle.slot.proofs.Laws.{cond-true, cond-false}
use Rattle.state.specs.declared.Header.{Header}
use Rattle.state.specs.declared.QueuedOpen.{QueuedOpen}
use Rattle.le.specs.Rows.{flat}
use Rattle.state.specs.State.{header_len, queue_at, queued_len, slot_len, state_len, slot_bytes, queued_bytes, state_header, layout, put_slot, put_queued, put_header}
use Rattle.state.proofs.Fields.{length-slot, length-open, length-header}
use Rattle.le.proofs.RowLaws.{flat_append, length-flat}
use Rattle.connection.specs.declared.Refusal.{Refusal}
use Rattle.connection.specs.declared.Refusal.TheVariants.{BadConfig, StoreShort}
use Rattle.connection.specs.Calls.{Made, fresh, make_of}
use Rattle.call_make.specs.Make.{empty_slots, empty_queue, make_in, answered, Makes}
use Rattle.std.specs.Prelude.{Result, Ok, Err}

-- ---- the same record, put again and again

module _ {A : Type 0} (size : ℕ) (bytes : A → List ℕ) (sized : (a : A) → length (bytes a) ≡ size) (a : A) where
  -- one more
  one-more : (i : ℕ) → flat bytes (replicate i a) ++ bytes a ≡ flat bytes (replicate (i + 1) a)
  unfolding flat
  one-more i =
      ap (λ (x : List ℕ). flat bytes (replicate i a) ++ x) (sym (append-nil (bytes a)))
      ∙ sym (flat_append size bytes sized (replicate i a) (a ∷ []))
      ∙ ap (flat bytes) (replicate-append-replicate i 1 a)

  length-fill : (i : ℕ) → length (flat bytes (replicate i a)) ≡ i * size
  length-fill i = length-flat size bytes sized (replicate i a) ∙ ap (λ (n : ℕ). n * size) (length-replicate i a)

  fill_more : (b : List ℕ) (at i : ℕ) → at + i * size + size ≤ length b
      → put (put b at (flat bytes (replicate i a))) (at + i * size) (bytes a) ≡ put b at (flat bytes (replicate (i + 1) a))
  fill_more b at i h =
      let l = length-fill i in
      let s = sized a in
      put-put b at (flat bytes (replicate i a)) (at + i * size) (bytes a) (omega arith) (omega arith) ∙ ap (put b at) (one-more i)

pub slots-none : (b : List ℕ) → b ≡ put b header_len (empty_slots 0)
unfolding empty_slots flat
slots-none b = sym (put-none b header_len)

pub slots-more : (b b₁ b₂ : List ℕ) (s : ChannelSlot) (i : ℕ) → i < 64 → state_len ≤ length b → b₁ ≡ put b header_len (empty_slots i) → s ≡ empty_slot → b₂ ≡ put_slot b₁ i s
    → b₂ ≡ put b header_len (empty_slots (i + 1))
unfolding empty_slots put_slot
slots-more b b₁ b₂ s i h k e f g =
    g ∙ ap (λ (x : List ℕ). put x (header_len + i * slot_len) (slot_bytes s)) e ∙ ap (λ (x : ChannelSlot). put (put b header_len (flat slot_bytes (replicate i empty_slot))) (header_len + i * slot_len) (slot_bytes x)) f
    ∙ fill_more slot_len slot_bytes length-slot empty_slot b header_len i (omega arith)

pub opens-none : (b : List ℕ) → b ≡ put b queue_at (empty_queue 0)
unfolding empty_queue flat
opens-none b = sym (put-none b queue_at)

pub opens-more : (b b₁ b₂ : List ℕ) (q : QueuedOpen) (i : ℕ) → i < 64 → state_len ≤ length b → b₁ ≡ put b queue_at (empty_queue i) → q ≡ none_queued → b₂ ≡ put_queued b₁ i q
    → b₂ ≡ put b queue_at (empty_queue (i + 1))
unfolding empty_queue put_queued
opens-more b b₁ b₂ q i h k e f g =
    g ∙ ap (λ (x : List ℕ). put x (queue_at + i * queued_len) (queued_bytes q)) e ∙ ap (λ (x : QueuedOpen). put (put b queue_at (flat queued_bytes (replicate i none_queued))) (queue_at + i * queued_len) (queued_bytes x)) f
    ∙ fill_more queued_len queued_bytes length-open none_queued b queue_at i (omega arith)

-- ---- the whole

-- a put before another is one
put-before : (d : List ℕ) (at : ℕ) (a : List ℕ) (k : ℕ) (x : List ℕ) → at + length a ≡ k → k + length x ≤ length d → put (put d k x) at a ≡ put d at (a ++ x)
unfolding put
put-before d at a k x e h =
    let f = take k d in
    let r = drop (k + length x) d in
    let l : length f ≡ k = simp length-take (omega arith) in
    let g : f ++ x ++ r ≡ f ++ (x ++ r) = append_assoc f x r in
    let t : take at (f ++ (x ++ r)) ≡ take at d = take-append-le at f (x ++ r) (omega arith) ∙ take-take at k d (omega arith) in
    let u : drop (at + length a) (f ++ (x ++ r)) ≡ x ++ r = drop_at f (x ++ r) (at + length a) (omega arith) in
    let n : at + length (a ++ x) ≡ k + length x = omega (arith, length-append a x) in
    rw (g, t, u, n) (simp append_assoc)

slots-long : length (empty_slots 64) ≡ (64 * slot_len)
unfolding empty_slots
slots-long = let e = length-fill slot_len slot_bytes length-slot empty_slot 64 in omega arith

opens-long : length (empty_queue 64) ≡ (64 * queued_len)
unfolding empty_queue
opens-long = let e = length-fill queued_len queued_bytes length-open none_queued 64 in omega arith

-- slots, opens and header are the layout
fresh-bytes : (b : List ℕ) (n : Negotiated) → state_len ≤ length b
    → put_header (put (put b header_len (empty_slots 64)) queue_at (empty_queue 64)) (fresh n).header ≡ put b 0 (layout (fresh n))
unfolding put_header layout fresh empty_slots empty_queue
fresh-bytes b n k =
    let h = (fresh n).header in
    let s = slots-long in
    let o = opens-long in
    let l = length-header h in
    let z = length-append (empty_slots 64) (empty_queue 64) in
    ap (λ (x : List ℕ). put x 0 (state_header h)) (put-put b header_len (empty_slots 64) queue_at (empty_queue 64) (omega arith) (omega arith))
    ∙ put-before b 0 (state_header h) header_len (empty_slots 64 ++ empty_queue 64) (omega arith) (omega arith)
    ∙ ap (put b 0) (sym (append_assoc (state_header h) (empty_slots 64) (empty_queue 64)))

-- ---- what is made

module _ (b : List ℕ) (c : ConnectionConfig) (v m : ℕ) (host device : Bool) where
  pub make-short : (r : Result (Unit {0}) Refusal) → length b < state_len → r ≡ Err StoreShort → Makes (make_in c v m host device b) r b
  unfolding make_in
  make-short r h e =
      subst (λ (x : Made). Makes x r b) (sym (cond-true (ltb (length b) state_len) _ _ (lt-ltb (length b) state_len h))) (record { answer-is = ap answered e; state-is = refl })

  pub make-bad : (r : Result (Unit {0}) Refusal) → state_len ≤ length b → within_limits c ≡ false → r ≡ Err BadConfig → Makes (make_in c v m host device b) r b
  unfolding make_in make_of
  make-bad r h t e =
      subst (λ (x : Made). Makes x r b) (sym (cond-false (ltb (length b) state_len) _ _ (le-ltb (length b) state_len h) ∙ cond-false (within_limits c) _ _ t))
      (record { answer-is = ap answered e; state-is = refl })

  pub make-done : (r : Result (Unit {0}) Refusal) (n : Negotiated) (h : Header) (b₁ b₂ b₃ : List ℕ) → state_len ≤ length b → within_limits c ≡ true → n ≡ negotiated_of host device v m c
      → b₁ ≡ put b header_len (empty_slots 64) → b₂ ≡ put b₁ queue_at (empty_queue 64) → h ≡ (fresh n).header → b₃ ≡ put_header b₂ h → r ≡ Ok tt → Makes (make_in c v m host device b) r b₃
  unfolding make_in make_of
  make-done r n h b₁ b₂ b₃ k t d e f i g z =
      subst (λ (x : Made). Makes x r b₃) (sym (cond-false (ltb (length b) state_len) _ _ (le-ltb (length b) state_len k) ∙ cond-true (within_limits c) _ _ t))
      (record {
        answer-is = ap answered z;
        state-is = g ∙ ap (put_header b₂) i ∙ ap (λ (x : List ℕ). put_header x (fresh n).header) (f ∙ ap (λ (x : List ℕ). put x queue_at (empty_queue 64)) e) ∙ fresh-bytes b n k
            ∙ ap (λ (x : Negotiated). put b 0 (layout (fresh x))) d;
      })
