-- Bytes that arrive in pieces, read message by message. Assumes nothing.
use Rattle.std.specs.Prelude.{ℕ, zero, suc, ◌≤◌, ◌<◌, ◌≡◌, Bool, true, false, List, [], ◌∷◌, ◌++◌, length, drop}

-- what bytes begin with: nothing whole yet; a message; a refusal's number. The last two with the bytes that they use
-- A refusal is its number and not a reader's own error, for a C caller holds the number alone, and these laws are of what it sees too.
pub data Answer (M : Type 0) : Type 0 where
  waiting : Answer M
  message : M → ℕ → Answer M
  refused : ℕ → ℕ → Answer M

-- why reading ended: for want of bytes, or by a refusal's number
pub data End : Type 0 where
  more : End
  stopped : ℕ → End

-- a refusal that ended it has a property
unfoldable pub Ends : (ℕ → Type 0) → End → Type 0
Ends P more = Unit {0}
Ends P (stopped n) = P n

-- what was read of a stream so far: the messages, why reading ended, the bytes that are left
pub record Reading (M : Type 0) : Type 0 where
  pub messages : List M
  pub ending : End
  pub rest : List ℕ

-- all pieces, one behind the other
unfoldable pub joined : List (List ℕ) → List ℕ
joined [] = []
joined (c ∷ cs) = c ++ joined cs

-- every element of a list has a property
pub data Every {M : Type 0} (P : M → Type 0) : List M → Type 0 where
  none_left : Every P []
  each : {m : M} {ms : List M} → P m → Every P ms → Every P (m ∷ ms)

module _ {M : Type 0} where
  unfoldable pub is_waiting : Answer M → Bool
  is_waiting waiting = true
  is_waiting (message x n) = false
  is_waiting (refused r n) = false

  -- a message ahead of what was read behind it
  unfoldable pub ahead : M → Reading M → Reading M
  ahead x r = record { messages = x ∷ r.messages; ending = r.ending; rest = r.rest }

  -- what an answer on bytes l comes to, with the reading of what is behind a message
  unfoldable pub go_on : (List ℕ → Reading M) → List ℕ → Answer M → Reading M
  go_on next l waiting = record { messages = []; ending = more; rest = l }
  go_on next l (message x n) = ahead x (next (drop n l))
  go_on next l (refused r n) = record { messages = []; ending = stopped r; rest = drop n l }

  -- what is read by at most k answers
  unfoldable pub run : (List ℕ → Answer M) → ℕ → List ℕ → Reading M
  run read zero l = record { messages = []; ending = more; rest = l }
  run read (suc k) l = go_on (run read k) l (read l)

  -- all that is read of bytes l; a message uses a byte at least, so that these answers are enough
  unfoldable pub read_all : (List ℕ → Answer M) → List ℕ → Reading M
  read_all read l = run read (suc (length l)) l

  -- before any byte
  unfoldable pub begun : Reading M
  begun = record { messages = []; ending = more; rest = [] }

  -- what was read is kept, and a piece is read behind the rest; after a refusal it is only kept
  unfoldable pub fed_by : (List ℕ → Answer M) → Reading M → List ℕ → End → Reading M
  fed_by read r c more =
      let q = read_all read (r.rest ++ c) in
      record { messages = r.messages ++ q.messages; ending = q.ending; rest = q.rest }
  fed_by read r c (stopped n) = record { messages = r.messages; ending = stopped n; rest = r.rest ++ c }

  unfoldable pub feed : (List ℕ → Answer M) → Reading M → List ℕ → Reading M
  feed read r c = fed_by read r c r.ending

  -- one piece after the other
  unfoldable pub feed_all : (List ℕ → Answer M) → Reading M → List (List ℕ) → Reading M
  feed_all read r [] = r
  feed_all read r (c ∷ cs) = feed_all read (feed read r c) cs

  -- a reader whose answer, once given, does not change by what arrives later
  pub record Stable (read : List ℕ → Answer M) : Type 0 where
    pub none : read [] ≡ waiting
    pub stays : (l m : List ℕ) → is_waiting (read l) ≡ false → read (l ++ m) ≡ read l
    pub moves : (l : List ℕ) (x : M) (n : ℕ) → read l ≡ message x n → 0 < n
    pub within : (l : List ℕ) (x : M) (n : ℕ) → read l ≡ message x n → n ≤ length l
    pub refused-within : (l : List ℕ) (r n : ℕ) → read l ≡ refused r n → n ≤ length l

  -- what a writer makes of some messages, one behind the other
  unfoldable pub written : (M → List ℕ) → List M → List ℕ
  written make [] = []
  written make (m ∷ ms) = make m ++ written make ms

  -- what a writer makes is read as that message, whatever is behind it
  abbrev pub ReadsBack : (List ℕ → Answer M) → (M → List ℕ) → M → Type 0
  ReadsBack read make m = (rest : List ℕ) → read (make m ++ rest) ≡ message m (length (make m))
