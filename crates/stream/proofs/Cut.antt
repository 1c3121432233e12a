-- However a stream is cut into pieces, what is read of it is the same. Assumes nothing.
--     cut       pieces read one after the other give what the whole gives: messages, ending and rest
--     same-cut  so two ways to cut the same bytes give the same
--     arrives   messages that were written one behind the other, in whatever pieces they arrive, are read as they were
use mathlib.Core.Path.{◌≡◌, refl, sym, ap, ◌∙◌}
use mathlib.Core.List.{List, [], ◌∷◌, ◌++◌, append_assoc, append-nil}
use Prim.Native.Nat.{ℕ, zero, suc, ◌+◌, ◌-◌, ◌≤◌, ◌<◌}
use native.Mathlib.Omega.{arith}
use lib.ListN.{length, drop, length-append, length-drop}
use lib.Seq.{drop-append-le, drop_at, drop-drop}
use Rattle.stream.specs.Stream.{Answer, waiting, message, refused, End, more, stopped, Ends, Reading, joined, is_waiting, ahead, go_on, run, read_all, begun, fed_by, feed, feed_all, Stable, Every, none_left, each, written, ReadsBack}

-- a property that follows from another holds of every element that has that
pub every : {M : Type 0} {P Q : M → Type 0} → ((m : M) → P m → Q m) → (ms : List M) → Every P ms → Every Q ms
every f [] none_left = none_left
every f (m ∷ ms) (each p e) = each (f m p) (every f ms e)

-- a reader that answers as one whose answers stay
pub stable-as : {M : Type 0} (f g : List ℕ → Answer M) → ((l : List ℕ) → g l ≡ f l) → Stable f → Stable g
stable-as f g e s =
    record {
      none = e [] ∙ s.none;
      stays = λ l m h. e (l ++ m) ∙ s.stays l m (ap is_waiting (sym (e l)) ∙ h) ∙ sym (e l);
      moves = λ l x n h. s.moves l x n (sym (e l) ∙ h);
      within = λ l x n h. s.within l x n (sym (e l) ∙ h);
      refused-within = λ l r n h. s.refused-within l r n (sym (e l) ∙ h);
    }

module _ {M : Type 0} (read : List ℕ → Answer M) (s : Stable read) where
  -- a message's bytes are gone from the rest
  shorter : (l : List ℕ) (x : M) (n k : ℕ) → read l ≡ message x n → length l < suc k → length (drop n l) < k
  shorter l x n k e h =
      let m = s.moves l x n e in
      let w = s.within l x n e in
      rw (length-drop n l) (omega arith)

  -- more answers than bytes are enough
  enough-at : (k j : ℕ) (l : List ℕ) (a : Answer M) → read l ≡ a → length l < suc k → length l < suc j
      → ((t : List ℕ) → length t < k → length t < j → run read k t ≡ run read j t) → go_on (run read k) l a ≡ go_on (run read j) l a
  unfolding go_on
  enough-at k j l waiting e h g i = refl
  enough-at k j l (message x n) e h g i = ap (ahead x) (i (drop n l) (shorter l x n k e h) (shorter l x n j e g))
  enough-at k j l (refused r n) e h g i = refl

  enough : (k j : ℕ) (l : List ℕ) → length l < k → length l < j → run read k l ≡ run read j l
  unfolding run
  enough zero j l h g = absurd (omega arith)
  enough (suc k) zero l h g = absurd (omega arith)
  enough (suc k) (suc j) l h g = enough-at k j l (read l) refl h g (enough k j)

  -- all that is read of bytes, by what they begin with
  pub goes-on : (l : List ℕ) (x : M) (n : ℕ) → read l ≡ message x n → read_all read l ≡ ahead x (read_all read (drop n l))
  unfolding read_all run go_on
  goes-on l x n e =
      let h = shorter l x n (length l) e (omega arith) in
      rw e (ap (ahead x) (enough (length l) (suc (length (drop n l))) (drop n l) h (omega arith)))

  pub waits : (l : List ℕ) → read l ≡ waiting → read_all read l ≡ record { messages = []; ending = more; rest = l }
  unfolding read_all run go_on
  waits l e = rw e

  pub stops : (l : List ℕ) (r n : ℕ) → read l ≡ refused r n → read_all read l ≡ record { messages = []; ending = stopped r; rest = drop n l }
  unfolding read_all run go_on
  stops l r n e = rw e

  -- the rest is what stands behind some of the bytes
  pub record Left (l rest : List ℕ) : Type 0 where
    pub used : ℕ
    pub within : used ≤ length l
    pub is : drop used l ≡ rest

  left_at : (k : ℕ) (l : List ℕ) (a : Answer M) → read l ≡ a → ((t : List ℕ) → Left t (run read k t).rest) → Left l (go_on (run read k) l a).rest
  unfolding go_on ahead
  left_at k l waiting e i = record { used = 0; within = omega arith; is = refl }
  left_at k l (message x n) e i =
      let j = i (drop n l) in
      let w = s.within l x n e in
      let d = length-drop n l in
      record { used = n + j.used; within = omega arith; is = sym (drop-drop j.used n l) ∙ j.is }
  left_at k l (refused r n) e i = record { used = n; within = s.refused-within l r n e; is = refl }

  left : (k : ℕ) (l : List ℕ) → Left l (run read k l).rest
  unfolding run
  left zero l = record { used = 0; within = omega arith; is = refl }
  left (suc k) l = left_at k l (read l) refl (left k)

  pub rest-left : (l : List ℕ) → drop (length l - length (read_all read l).rest) l ≡ (read_all read l).rest
  unfolding read_all
  rest-left l =
      let f = left (suc (length l)) l in
      let n : length (drop f.used l) ≡ length (run read (suc (length l)) l).rest = ap length f.is in
      let d = length-drop f.used l in
      let e : length l - length (run read (suc (length l)) l).rest ≡ f.used = omega arith in
      ap (λ (k : ℕ). drop k l) e ∙ f.is

  -- where reading ended by a refusal, the reader gave that refusal
  ending_at : (P : ℕ → Type 0) → ((l : List ℕ) (r n : ℕ) → read l ≡ refused r n → P r) → (k : ℕ) (l : List ℕ) (a : Answer M) → read l ≡ a
      → ((t : List ℕ) → Ends P (run read k t).ending) → Ends P (go_on (run read k) l a).ending
  unfolding go_on ahead Ends
  ending_at P f k l waiting e i = tt
  ending_at P f k l (message x n) e i = i (drop n l)
  ending_at P f k l (refused r n) e i = f l r n e

  ending-by : (P : ℕ → Type 0) → ((l : List ℕ) (r n : ℕ) → read l ≡ refused r n → P r) → (k : ℕ) (l : List ℕ) → Ends P (run read k l).ending
  unfolding run Ends
  ending-by P f zero l = tt
  ending-by P f (suc k) l = ending_at P f k l (read l) refl (ending-by P f k)

  pub read-ends : (P : ℕ → Type 0) → ((l : List ℕ) (r n : ℕ) → read l ≡ refused r n → P r) → (l : List ℕ) → Ends P (read_all read l).ending
  unfolding read_all
  read-ends P f l = ending-by P f (suc (length l)) l

  -- a piece behind a message and what was read behind it
  fed-ahead : (x : M) (r : Reading M) (c : List ℕ) (e : End) → fed_by read (ahead x r) c e ≡ ahead x (fed_by read r c e)
  unfolding fed_by ahead
  fed-ahead x r c more = refl
  fed-ahead x r c (stopped n) = refl

  feed-ahead : (x : M) (r : Reading M) (c : List ℕ) → feed read (ahead x r) c ≡ ahead x (feed read r c)
  unfolding feed ahead
  feed-ahead x r c = fed-ahead x r c r.ending

  -- a piece behind bytes that were read
  behind-at : (k : ℕ) (l c : List ℕ) (a : Answer M) → read l ≡ a → length l < suc k
      → ((t : List ℕ) → length t < k → read_all read (t ++ c) ≡ feed read (run read k t) c)
      → read_all read (l ++ c) ≡ feed read (go_on (run read k) l a) c
  unfolding go_on read_all feed fed_by run is_waiting
  behind-at k l c waiting e h i = refl
  behind-at k l c (message x n) e h i =
      let m = s.moves l x n e in
      let w = s.within l x n e in
      let same : read (l ++ c) ≡ message x n = s.stays l c (ap is_waiting e) ∙ e in
      let d : drop n (l ++ c) ≡ drop n l ++ c = drop-append-le n l c w in
      let t = drop n l in
      let f = enough (length (l ++ c)) (suc (length (t ++ c))) (t ++ c) (rw (length-append t c, length-append l c, length-drop n l) (omega arith)) (omega arith) in
      rw (same, d) (ap (ahead x) (f ∙ i t (shorter l x n k e h))) ∙ sym (feed-ahead x (run read k t) c)
  behind-at k l c (refused r n) e h i =
      let same : read (l ++ c) ≡ refused r n = s.stays l c (ap is_waiting e) ∙ e in
      rw (same, drop-append-le n l c (s.refused-within l r n e))

  behind : (k : ℕ) (l c : List ℕ) → length l < k → read_all read (l ++ c) ≡ feed read (run read k l) c
  unfolding run
  behind zero l c h = absurd (omega arith)
  behind (suc k) l c h = behind-at k l c (read l) refl h (λ t. behind k t c)

  -- pieces behind bytes that were read
  all-behind : (l : List ℕ) (cs : List (List ℕ)) → feed_all read (read_all read l) cs ≡ read_all read (l ++ joined cs)
  unfolding feed_all joined read_all
  all-behind l [] = rw append-nil
  all-behind l (c ∷ cs) =
      ap (λ (r : Reading M). feed_all read r cs) (sym (behind (suc (length l)) l c (omega arith)))
      ∙ all-behind (l ++ c) cs
      ∙ ap (read_all read) (append_assoc l c (joined cs))

  begins : read_all read [] ≡ begun
  unfolding read_all run begun go_on
  begins = rw s.none

  pub cut : (cs : List (List ℕ)) → feed_all read begun cs ≡ read_all read (joined cs)
  cut cs = ap (λ (r : Reading M). feed_all read r cs) (sym begins) ∙ all-behind [] cs

  pub same-cut : (cs ds : List (List ℕ)) → joined cs ≡ joined ds → feed_all read begun cs ≡ feed_all read begun ds
  same-cut cs ds e = cut cs ∙ ap (read_all read) e ∙ sym (cut ds)

  -- messages that were written one behind the other
  all_back : (make : M → List ℕ) (k : ℕ) (ms : List M) → Every (ReadsBack read make) ms → length (written make ms) < k
      → run read k (written make ms) ≡ record { messages = ms; ending = more; rest = [] }
  unfolding written run go_on ahead
  all_back make zero ms e h = absurd (omega arith)
  all_back make (suc k) [] none_left h = rw s.none
  all_back make (suc k) (m ∷ ms) (each b e) h =
      let rest = written make ms in
      let r = b rest in
      let n = s.moves (make m ++ rest) m (length (make m)) r in
      let d : drop (length (make m)) (make m ++ rest) ≡ rest = drop_at (make m) rest (length (make m)) refl in
      rw (r, d) (ap (ahead m) (all_back make k ms e (omega (arith, length-append (make m) rest))))

  pub arrives : (make : M → List ℕ) (ms : List M) (cs : List (List ℕ)) → Every (ReadsBack read make) ms → joined cs ≡ written make ms
      → feed_all read begun cs ≡ record { messages = ms; ending = more; rest = [] }
  unfolding read_all
  arrives make ms cs e j =
      cut cs ∙ ap (read_all read) j ∙ all_back make (suc (length (written make ms))) ms e (omega arith)
