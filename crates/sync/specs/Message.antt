-- The sync messages from bytes (SYNC.TXT; docs/SCOPE.md, 10 and 13, where it is silent). Assumes nothing.
use Rattle.std.specs.Prelude.{ℕ, ◌+◌, cond, List, ltb, length, Option, Some, None, Result, Ok, Err}
use Rattle.le.specs.Le.{num_of, signed, part}
use Rattle.stream.specs.Here.{IsHere}
use Rattle.exchange.specs.declared.SyncId.{SyncId}
use Rattle.exchange.specs.declared.Layout.{Layout}
use Rattle.exchange.specs.declared.StatLayout.{StatLayout}
use Rattle.exchange.specs.declared.StatLayout.TheVariants.{V1, V2}
use Rattle.exchange.specs.declared.Layout.TheVariants.{Text, Number, Stat, Entry, End}
use Rattle.exchange.specs.declared.Exchange.{Exchange}
use Rattle.sync.specs.declared.StatV1.{StatV1}
use Rattle.sync.specs.declared.StatV2.{StatV2}
use Rattle.sync.specs.declared.Stat.{Stat as EitherStat}
use Rattle.sync.specs.declared.Stat.TheVariants.{V1 as First, V2 as Second}
use Rattle.sync.specs.declared.Fields.{Fields}
use Rattle.sync.specs.declared.Fields.TheVariants.{Text as TextFields, Number as NumberFields, Stat as StatFields, Entry as EntryFields, End as EndFields}
use Rattle.sync.specs.declared.Whole.{Whole}
use Rattle.sync.specs.declared.ReadError.{ReadError}
use Rattle.sync.specs.declared.ReadError.TheVariants.{InvalidId, DataTooLarge}
use Rattle.refusal.specs.Refusal.{read_number_of}
use Rattle.exchange.specs.Exchange.{Row, is_over, stat_length, head_of, found_of}

-- the layout of a stat
abbrev pub stat_layout : EitherStat → StatLayout
stat_layout (First s) = V1
stat_layout (Second s) = V2

-- the layout that has these fields
abbrev pub layout_of : Fields → Layout
layout_of TextFields = Text
layout_of (NumberFields n) = Number
layout_of (StatFields s) = Stat (stat_layout s)
layout_of (EntryFields s) = Entry (stat_layout s)
layout_of (EndFields s n) = End (stat_layout s)

-- mode, size and time behind the id (SYNC.TXT, LIST, of a DENT; docs/SCOPE.md, 10, of a STAT reply)
unfoldable pub stat_of : List ℕ → StatV1
stat_of s = record { mode = record { 0 = num_of (part s 4 4) }; size = num_of (part s 8 4); mtime = num_of (part s 12 4) }

-- the second stat layout behind the id (docs/SCOPE.md, 13): access, change of contents and change of status are signed
unfoldable pub stat_v2_of : List ℕ → StatV2
stat_v2_of s =
    record {
      error = num_of (part s 4 4);
      dev = num_of (part s 8 8);
      ino = num_of (part s 16 8);
      mode = record { 0 = num_of (part s 24 4) };
      nlink = num_of (part s 28 4);
      uid = num_of (part s 32 4);
      gid = num_of (part s 36 4);
      size = num_of (part s 40 8);
      atime = signed 63 (num_of (part s 48 8));
      mtime = signed 63 (num_of (part s 56 8));
      ctime = signed 63 (num_of (part s 64 8));
    }

-- a stat of either layout
unfoldable pub either_of : StatLayout → List ℕ → EitherStat
either_of V1 s = First (stat_of s)
either_of V2 s = Second (stat_v2_of s)

-- the numbers behind the id, but for a text's length
unfoldable pub fields_of : Layout → List ℕ → Fields
fields_of Text s = TextFields
fields_of Number s = NumberFields (num_of (part s 4 4))
fields_of (Stat v) s = StatFields (either_of v s)
fields_of (Entry v) s = EntryFields (either_of v s)
fields_of (End v) s = EndFields (either_of v s) (num_of (part s (4 + stat_length v) 4))

-- the text's length: the number behind the id, of a DENT the fourth, of a DNT2 the twelfth
unfoldable pub length_of : Layout → List ℕ → ℕ
length_of Text s = num_of (part s 4 4)
length_of Number s = 0
length_of (Stat v) s = 0
length_of (Entry v) s = num_of (part s (4 + stat_length v) 4)
length_of (End v) s = 0

-- what received bytes begin with: a message, none yet, or a refusal
abbrev pub Answer : Type 0
Answer = Result (Option Whole) ReadError

-- the message of a known id, with the text behind its head
abbrev pub whole_of : List ℕ → SyncId → Layout → Whole
whole_of s id k =
    record {
      message = record { id = id; fields = fields_of k s };
      at = head_of k;
      length = length_of k s;
      used = head_of k + length_of k s;
    }

-- once the id is known: waiting for the head, 15, waiting for the text
unfoldable pub known_of : List ℕ → SyncId → Layout → Answer
known_of s id k =
    cond (ltb (length s) (head_of k)) (Ok None)
    (cond (is_over id (length_of k s)) (Err DataTooLarge)
    (cond (ltb (length s) (head_of k + length_of k s)) (Ok None)
    (Ok (Some (whole_of s id k)))))

-- 14, or what the known id gives
unfoldable pub named_of : List ℕ → Option Row → Answer
named_of s (Some (id, k)) = known_of s id k
named_of s None = Err InvalidId

-- under 4 bytes: waiting; then the id decides
unfoldable pub read_message : Exchange → List ℕ → Answer
read_message x s = cond (ltb (length s) 4) (Ok None) (named_of s (found_of x (num_of (part s 0 4))))

-- a message's text is here
abbrev pub TextHere : ℕ → Whole → Type 0
TextHere n w = IsHere n w.at w.length w.used

-- the number of a refusal
unfoldable pub error_number : ReadError → ℕ
error_number InvalidId = 14
error_number DataTooLarge = 15

-- the number of an answer: a refusal's own, 100 for waiting, 0 for a message
abbrev pub read_number : Answer → ℕ
read_number = read_number_of error_number

-- bytes used: those of a message with its text, none otherwise
unfoldable pub used_of : Answer → ℕ
used_of (Ok (Some w)) = w.used
used_of (Ok None) = 0
used_of (Err e) = 0
