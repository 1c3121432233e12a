-- The ids of the sync messages and the exchanges that have them (SYNC.TXT; docs/SCOPE.md, 10, for QUIT, FAIL and the
-- numbers of a listing's DONE, and 12 for LIS2, STA2 and DNT2). Assumes nothing.
use Rattle.std.specs.Prelude.{ℕ, ◌+◌, Bool, false, cond, List, [], ◌∷◌, ltb, eqb, ◌==◌, Option}
use Rattle.std.specs.List.{find}
use Rattle.le.specs.Le.{num_of}
use Rattle.exchange.specs.declared.SyncId.{SyncId}
use Rattle.exchange.specs.declared.SyncId.TheVariants.{List as LIST, Recv as RECV, Send as SEND, Stat as STAT, Data as DATA, Done as DONE, Quit as QUIT, Dent as DENT, Okay as OKAY, Fail as FAIL, Lis2 as LIS2, Sta2 as STA2, Dnt2 as DNT2}
use Rattle.exchange.specs.declared.StatLayout.{StatLayout}
use Rattle.exchange.specs.declared.StatLayout.TheVariants.{V1, V2}
use Rattle.exchange.specs.declared.Layout.{Layout}
use Rattle.exchange.specs.declared.Layout.TheVariants.{Text, Number, Stat, Entry, End}
use Rattle.exchange.specs.declared.Exchange.{Exchange}
use Rattle.exchange.specs.declared.Exchange.TheVariants.{Requests, ListReplies, StatReplies, RecvReplies, SendReplies, ListV2Replies, StatV2Replies, Unnamed}

-- an id's four letters in ASCII
unfoldable pub letters_of : SyncId → List ℕ
letters_of LIST = 76 ∷ 73 ∷ 83 ∷ 84 ∷ []
letters_of RECV = 82 ∷ 69 ∷ 67 ∷ 86 ∷ []
letters_of SEND = 83 ∷ 69 ∷ 78 ∷ 68 ∷ []
letters_of STAT = 83 ∷ 84 ∷ 65 ∷ 84 ∷ []
letters_of DATA = 68 ∷ 65 ∷ 84 ∷ 65 ∷ []
letters_of DONE = 68 ∷ 79 ∷ 78 ∷ 69 ∷ []
letters_of QUIT = 81 ∷ 85 ∷ 73 ∷ 84 ∷ []
letters_of DENT = 68 ∷ 69 ∷ 78 ∷ 84 ∷ []
letters_of OKAY = 79 ∷ 75 ∷ 65 ∷ 89 ∷ []
letters_of FAIL = 70 ∷ 65 ∷ 73 ∷ 76 ∷ []
letters_of LIS2 = 76 ∷ 73 ∷ 83 ∷ 50 ∷ []
letters_of STA2 = 83 ∷ 84 ∷ 65 ∷ 50 ∷ []
letters_of DNT2 = 68 ∷ 78 ∷ 84 ∷ 50 ∷ []

-- the word of an id: its letters, read as a little-endian number
unfoldable pub word_of : SyncId → ℕ
word_of id = num_of (letters_of id)

-- more than the 64k that one DATA may have (SYNC.TXT, SEND and RECV)
unfoldable pub is_over : SyncId → ℕ → Bool
is_over DATA n = ltb 65_536 n
is_over _ n = false

-- bytes of a stat: three words; of the second layout 68
abbrev pub stat_length : StatLayout → ℕ
stat_length V1 = 12
stat_length V2 = 68

-- bytes ahead of the text: the id, and a word, a stat, or a stat and a word
unfoldable pub head_of : Layout → ℕ
head_of Text = 8
head_of Number = 8
head_of (Stat v) = 4 + stat_length v
head_of (Entry v) = 8 + stat_length v
head_of (End v) = 8 + stat_length v

-- the longest text that its length can say; no text where there is no length
unfoldable pub longest_of : Layout → ℕ
longest_of Text = 0xffff_ffff
longest_of Number = 0
longest_of (Stat v) = 0
longest_of (Entry v) = 0xffff_ffff
longest_of (End v) = 0

-- layouts are told apart by a number
unfoldable pub layout_number : Layout → ℕ
layout_number Text = 0
layout_number Number = 1
layout_number (Stat V1) = 2
layout_number (Entry V1) = 3
layout_number (End V1) = 4
layout_number (Stat V2) = 5
layout_number (Entry V2) = 6
layout_number (End V2) = 7

-- a message of an exchange: its id, and what stands behind it
abbrev pub Row : Type 0
Row = SyncId × Layout

-- ours (SYNC.TXT, "The following sync requests are accepted", and SEND for DATA and DONE; docs/SCOPE.md, 10, for QUIT, and 12 for LIS2 and
-- STA2)
abbrev pub requests : List Row
requests = (LIST, Text) ∷ (RECV, Text) ∷ (SEND, Text) ∷ (STAT, Text) ∷ (DATA, Text) ∷ (DONE, Number) ∷ (QUIT, Number) ∷ (LIS2, Text) ∷ (STA2, Text) ∷ []

-- the replies to LIST (SYNC.TXT, LIST; docs/SCOPE.md, 10, for the four numbers of DONE)
abbrev pub list_replies : List Row
list_replies = (DENT, Entry V1) ∷ (DONE, End V1) ∷ []

-- the reply to STAT (docs/SCOPE.md, 10)
abbrev pub stat_replies : List Row
stat_replies = (STAT, Stat V1) ∷ []

-- the replies to RECV (SYNC.TXT, RECV; docs/SCOPE.md, 10, for FAIL)
abbrev pub recv_replies : List Row
recv_replies = (DATA, Text) ∷ (DONE, Number) ∷ (FAIL, Text) ∷ []

-- the replies to SEND (SYNC.TXT, SEND; docs/SCOPE.md, 10, for FAIL)
abbrev pub send_replies : List Row
send_replies = (OKAY, Number) ∷ (FAIL, Text) ∷ []

-- the replies to LIS2 (docs/SCOPE.md, 13)
abbrev pub list_v2_replies : List Row
list_v2_replies = (DNT2, Entry V2) ∷ (DONE, End V2) ∷ []

-- the reply to STA2 (docs/SCOPE.md, 13)
abbrev pub stat_v2_replies : List Row
stat_v2_replies = (STA2, Stat V2) ∷ []

-- the messages of an exchange
unfoldable pub rows_of : Exchange → List Row
rows_of Requests = requests
rows_of ListReplies = list_replies
rows_of StatReplies = stat_replies
rows_of RecvReplies = recv_replies
rows_of SendReplies = send_replies
rows_of ListV2Replies = list_v2_replies
rows_of StatV2Replies = stat_v2_replies
rows_of Unnamed = []

-- the message of an exchange that a word begins: the first whose id has this word
unfoldable pub found_of : Exchange → ℕ → Option Row
found_of x word = find (λ (m : Row). word_of m.0 == word) (rows_of x)

-- the exchange that a number names, of those of the first stat layout
unfoldable pub exchange_of : ℕ → Exchange
exchange_of n =
    cond (eqb n 0) Requests
    (cond (eqb n 1) ListReplies
    (cond (eqb n 2) StatReplies
    (cond (eqb n 3) RecvReplies
    (cond (eqb n 4) SendReplies Unnamed))))

-- and of those of the second stat layout
unfoldable pub exchange_v2_of : ℕ → Exchange
exchange_v2_of n = cond (eqb n 5) ListV2Replies (cond (eqb n 6) StatV2Replies Unnamed)
