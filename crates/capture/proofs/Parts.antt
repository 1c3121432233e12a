-- What a reader reads of bytes is a first part of them, message by message, and it stops at what it does not take. Over any reader
-- whose refusals use nothing. Assumes nothing.
use mathlib.Core.Path.{◌≡◌, refl, ap, ◌∙◌}
use mathlib.Core.List.{List, ◌++◌, append_assoc}
use Prim.Native.Nat.{ℕ, zero, suc, ◌<◌}
use native.Mathlib.Omega.{arith}
use lib.ListN.{length, take, drop, length-drop, take-append-drop}
use Rattle.le.specs.Le.{Bytes}
use Rattle.le.proofs.Laws.{bytes_drop}
use Rattle.stream.specs.Stream.{Answer, waiting, message, refused, End, more, stopped, Reading, ahead, go_on, run, read_all, Stable, Every, none_left, each, written}

module _ {M : Type 0} where
  -- why a reader reads no further
  unfoldable pub Stops : (List ℕ → Answer M) → List ℕ → End → Type 0
  Stops read rest more = read rest ≡ waiting
  Stops read rest (stopped number) = read rest ≡ refused number 0

  pub record Parted (read : List ℕ → Answer M) (make : M → List ℕ) (Q : M → Type 0) (l : List ℕ) (r : Reading M) : Type 0 where
    pub all : written make r.messages ++ r.rest ≡ l
    pub each-is : Every Q r.messages
    pub stops : Stops read r.rest r.ending

-- what an accepted message's bytes are, and what is known of it
module _ {M : Type 0} (read : List ℕ → Answer M) (s : Stable read) (make : M → List ℕ) (Q : M → Type 0)
    (bytes-are : (l : List ℕ) (m : M) (n : ℕ) → Bytes l → read l ≡ message m n → take n l ≡ make m)
    (known : (l : List ℕ) (m : M) (n : ℕ) → Bytes l → read l ≡ message m n → Q m)
    (unused : (l : List ℕ) (number n : ℕ) → read l ≡ refused number n → n ≡ 0) where
  parted-at : (k : ℕ) (l : List ℕ) (a : Answer M) → Bytes l → read l ≡ a → length l < suc k
      → ((t : List ℕ) → Bytes t → length t < k → Parted read make Q t (run read k t)) → Parted read make Q l (go_on (run read k) l a)
  unfolding go_on ahead written Stops
  parted-at k l waiting b e h i = record { all = refl; each-is = none_left; stops = e }
  parted-at k l (message x n) b e h i =
      let m = s.moves l x n e in
      let w = s.within l x n e in
      let p = i (drop n l) (bytes_drop n l b) (rw (length-drop n l) (omega arith)) in
      let r = run read k (drop n l) in
      record {
        all = append_assoc (make x) (written make r.messages) r.rest ∙ rw (p.all, ← bytes-are l x n b e) (take-append-drop n l);
        each-is = each (known l x n b e) p.each-is;
        stops = p.stops;
      }
  parted-at k l (refused number n) b e h i =
      let z = unused l number n e in
      rw z (record { all = refl; each-is = none_left; stops = e ∙ ap (refused number) z })

  parted-run : (k : ℕ) (l : List ℕ) → Bytes l → length l < k → Parted read make Q l (run read k l)
  unfolding run
  parted-run zero l b h = absurd (omega arith)
  parted-run (suc k) l b h = parted-at k l (read l) b refl h (λ t. parted-run k t)

  pub parted : (l : List ℕ) → Bytes l → Parted read make Q l (read_all read l)
  unfolding read_all
  parted l b = parted-run (suc (length l)) l b (omega arith)
