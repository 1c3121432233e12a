-- The sync messages to bytes (SYNC.TXT; docs/SCOPE.md, 10 and 13, where it is silent). Assumes nothing.
use Rattle.std.specs.Prelude.{ℕ, ◌+◌, ◌≤◌, ◌<◌, ◌^◌, Bool, cond, not, List, [], ◌∷◌, ◌++◌, ltb, eqb, pos, length, get_or, Option, Some, None, Result, Ok, Err}
use Rattle.std.specs.Int.Signed.{mag}
use Rattle.le.specs.Le.{bytes_of, unsigned, put}
use Rattle.exchange.specs.declared.Layout.{Layout}
use Rattle.exchange.specs.declared.Exchange.{Exchange}
use Rattle.sync.specs.declared.StatV1.{StatV1}
use Rattle.sync.specs.declared.StatV2.{StatV2}
use Rattle.sync.specs.declared.Stat.{Stat}
use Rattle.sync.specs.declared.Stat.TheVariants.{V1, V2}
use Rattle.sync.specs.declared.Fields.{Fields}
use Rattle.sync.specs.declared.Fields.TheVariants.{Text as TextFields, Number as NumberFields, Stat as StatFields, Entry as EntryFields, End as EndFields}
use Rattle.sync.specs.declared.Message.{Message}
use Rattle.sync.specs.declared.ReadError.{ReadError}
use Rattle.sync.specs.declared.ReadError.TheVariants.{InvalidId, DataTooLarge}
use Rattle.sync.specs.Message.{error_number as read_refusal}
pub use Rattle.sync.specs.Message.{layout_of}
use Rattle.refusal.specs.Refusal.{number_of}
use Rattle.refusal.specs.declared.WriteError.{WriteError}
use Rattle.refusal.specs.declared.WriteError.TheVariants.{Refused, OutShort}
use Rattle.refusal.specs.Written.{Composed as ComposedOf, write_refusal}
pub use Rattle.refusal.specs.Written.{Writes}
use Rattle.exchange.specs.Exchange.{Row, word_of, is_over, head_of, longest_of, layout_number, found_of}

-- whether these are another layout's fields
unfoldable pub is_other : Layout → Fields → Bool
is_other k f = not (eqb (layout_number k) (layout_number (layout_of f)))

-- mode, size and time
unfoldable pub stat_bytes : StatV1 → List ℕ
stat_bytes s = bytes_of 4 s.mode.0 ++ bytes_of 4 s.size ++ bytes_of 4 s.mtime

-- of the second stat layout: error, device, inode, mode, links, owner and group
unfoldable pub about_bytes : StatV2 → List ℕ
about_bytes s =
    bytes_of 4 s.error ++ bytes_of 8 s.dev ++ bytes_of 8 s.ino ++ bytes_of 4 s.mode.0 ++ bytes_of 4 s.nlink ++ bytes_of 4 s.uid ++ bytes_of 4 s.gid

-- and size, access, change of contents and change of status
unfoldable pub times_bytes : StatV2 → List ℕ
times_bytes s =
    bytes_of 8 s.size ++ bytes_of 8 (unsigned 63 s.atime) ++ bytes_of 8 (unsigned 63 s.mtime) ++ bytes_of 8 (unsigned 63 s.ctime)

unfoldable pub stat_v2_bytes : StatV2 → List ℕ
stat_v2_bytes s = about_bytes s ++ times_bytes s

-- a stat of either layout
unfoldable pub either_bytes : Stat → List ℕ
either_bytes (V1 s) = stat_bytes s
either_bytes (V2 s) = stat_v2_bytes s

-- what stands between the id and a text of n bytes
unfoldable pub field_bytes : Fields → ℕ → List ℕ
field_bytes TextFields n = bytes_of 4 n
field_bytes (NumberFields a) n = bytes_of 4 a
field_bytes (StatFields s) n = either_bytes s
field_bytes (EntryFields s) n = either_bytes s ++ bytes_of 4 n
field_bytes (EndFields s a) n = either_bytes s ++ bytes_of 4 a

-- the numbers of fields, but those of a stat of the second layout
unfoldable pub numbers_of : Fields → List ℕ
numbers_of TextFields = []
numbers_of (NumberFields a) = a ∷ []
numbers_of (StatFields (V1 s)) = s.mode.0 ∷ s.size ∷ s.mtime ∷ []
numbers_of (EntryFields (V1 s)) = s.mode.0 ∷ s.size ∷ s.mtime ∷ []
numbers_of (EndFields (V1 s) a) = s.mode.0 ∷ s.size ∷ s.mtime ∷ a ∷ []
numbers_of (StatFields (V2 s)) = []
numbers_of (EntryFields (V2 s)) = []
numbers_of (EndFields (V2 s) a) = a ∷ []

-- each is of 32 bits
abbrev pub Words : Fields → Type 0
Words f = (k : ℕ) → get_or (numbers_of f) k 0 < 2 ^ 32

-- a stat of the second layout with nothing in it
abbrev pub no_stat_v2 : StatV2
no_stat_v2 =
    record {
      error = 0;
      dev = 0;
      ino = 0;
      mode = record { 0 = 0 };
      nlink = 0;
      uid = 0;
      gid = 0;
      size = 0;
      atime = pos 0;
      mtime = pos 0;
      ctime = pos 0;
    }

-- a stat where it is of the second layout
abbrev pub wide_in : Stat → StatV2
wide_in (V1 s) = no_stat_v2
wide_in (V2 s) = s

-- the stat of the second layout that fields have, nothing where they have none
unfoldable pub stat_v2_in : Fields → StatV2
stat_v2_in TextFields = no_stat_v2
stat_v2_in (NumberFields a) = no_stat_v2
stat_v2_in (StatFields s) = wide_in s
stat_v2_in (EntryFields s) = wide_in s
stat_v2_in (EndFields s a) = wide_in s

-- its numbers are of 32 and of 64 bits, and its times of 64 with a sign
pub record StatFits (s : StatV2) : Type 0 where
  pub error-fits : s.error < 2 ^ 32
  pub dev-fits : s.dev < 2 ^ 64
  pub ino-fits : s.ino < 2 ^ 64
  pub mode-fits : s.mode.0 < 2 ^ 32
  pub nlink-fits : s.nlink < 2 ^ 32
  pub uid-fits : s.uid < 2 ^ 32
  pub gid-fits : s.gid < 2 ^ 32
  pub size_fits : s.size < 2 ^ 64
  pub atime-fits : mag s.atime < 2 ^ 63
  pub mtime-fits : mag s.mtime < 2 ^ 63
  pub ctime-fits : mag s.ctime < 2 ^ 63

-- every number of the fields has its bits
pub record Fits (f : Fields) : Type 0 where
  pub words : Words f
  pub stat-fits : StatFits (stat_v2_in f)

-- what stands ahead of a text of n bytes
unfoldable pub head_bytes : Message → ℕ → List ℕ
head_bytes m n = bytes_of 4 (word_of m.id) ++ field_bytes m.fields n

-- the bytes of a message with this text
unfoldable pub message_bytes : Message → List ℕ → List ℕ
message_bytes m text = head_bytes m (length text) ++ text

-- what a writer asks: a text whose length has a field of 32 bits, and room for the message
pub record Room (out : List ℕ) (m : Message) (text : List ℕ) : Type 0 where
  pub small : length text ≤ 0xffff_ffff
  pub fits : head_of (layout_of m.fields) + length text ≤ length out

-- what writing answers: the bytes written, or a refusal
abbrev pub Written : Type 0
Written = Result ℕ (WriteError ReadError)

-- what writing gives: its answer, and the outgoing bytes after it
abbrev pub Composed : Type 0
Composed = ComposedOf (WriteError ReadError)

-- fields of another layout are refused by 14, data over the maximum by 15, a text past its length's field and a short buffer by 9
unfoldable pub write_known : Layout → Message → List ℕ → List ℕ → Composed
write_known k m text out =
    cond (is_other k m.fields) (record { result = Err (Refused InvalidId); out = out })
    (cond (is_over m.id (length text)) (record { result = Err (Refused DataTooLarge); out = out })
    (cond (ltb (longest_of k) (length text)) (record { result = Err OutShort; out = out })
    (cond (ltb (length out) (head_of k + length text)) (record { result = Err OutShort; out = out })
    (record { result = Ok (head_of k + length text); out = put out 0 (message_bytes m text) }))))

-- 14 for an id that is not the exchange's, or what its layout gives
unfoldable pub write_named : Message → List ℕ → List ℕ → Option Row → Composed
write_named m text out (Some (id, k)) = write_known k m text out
write_named m text out None = record { result = Err (Refused InvalidId); out = out }

-- writing a message of an exchange with this text to out
unfoldable pub write_message : Exchange → Message → List ℕ → List ℕ → Composed
write_message x m text out = write_named m text out (found_of x (word_of m.id))

-- the number of a refusal
abbrev pub error_number : WriteError ReadError → ℕ
error_number = write_refusal read_refusal

-- the number of its answer: a refusal's own, 0 for a message
abbrev pub written_number : Written → ℕ
written_number = number_of error_number
