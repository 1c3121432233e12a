-- A pcap file as bytes that arrive in pieces: a header, then records. Assumes nothing.
use Rattle.std.specs.Prelude.{ℕ, ◌≤◌, ◌≡◌, Bool, true, false, cond, List, [], ◌∷◌, ◌++◌, Some, None, Ok, Err, length, drop}
use Rattle.le.specs.Le.{part}
use Rattle.stream.specs.Stream.{Answer, waiting, message, refused, End, more, stopped, Reading, read_all, begun, feed, written}
use Rattle.pcap.specs.declared.Time.{Time}
use Rattle.pcap.specs.Header.{file_header, HeaderRead, read_header, header_number}
use Rattle.pcap.specs.Record.{Read, read_record, read_number, used_of, record_bytes, Words, write_record}

-- a frame with its time
pub record Got : Type 0 where
  pub time : Time
  pub frame : List ℕ

unfoldable pub answer_of : List ℕ → Read → Answer Got
answer_of s (Ok None) = waiting
answer_of s (Err e) = refused (read_number (Err e)) (used_of (Err e))
answer_of s (Ok (Some r)) = message (record { time = r.time; frame = part s 16 r.length }) (used_of (Ok (Some r)))

-- the reader of records, with frames up to a limit
unfoldable pub receives : ℕ → List ℕ → Answer Got
receives limit s = answer_of s (read_record limit s)

-- what was read of a file so far: whether its header was, and what was read behind it
pub record FileReading : Type 0 where
  pub headed : Bool
  pub reading : Reading Got

-- what bytes l come to, by what they begin with
unfoldable pub head_on : ℕ → List ℕ → HeaderRead → FileReading
head_on limit l (Ok None) = record { headed = false; reading = record { messages = []; ending = more; rest = l } }
head_on limit l (Err e) = record { headed = false; reading = record { messages = []; ending = stopped (header_number (Err e)); rest = l } }
head_on limit l (Ok (Some h)) = record { headed = true; reading = read_all (receives limit) (drop 24 l) }

-- all that is read of a file's bytes l
unfoldable pub read_file : ℕ → List ℕ → FileReading
read_file limit l = head_on limit l (read_header l)

-- before any byte
unfoldable pub file_begun : FileReading
file_begun = record { headed = false; reading = begun }

-- ahead of the header a piece joins what is there, and all is read; after a refusal it is only kept
unfoldable pub head_fed : ℕ → List ℕ → List ℕ → End → FileReading
head_fed limit rest c more = read_file limit (rest ++ c)
head_fed limit rest c (stopped n) = record { headed = false; reading = record { messages = []; ending = stopped n; rest = rest ++ c } }

-- a piece behind what was read
unfoldable pub feed_file : ℕ → FileReading → List ℕ → FileReading
feed_file limit f c =
    cond f.headed (record { headed = true; reading = feed (receives limit) f.reading c })
    (head_fed limit f.reading.rest c f.reading.ending)

-- one piece after the other
unfoldable pub feed_files : ℕ → FileReading → List (List ℕ) → FileReading
feed_files limit f [] = f
feed_files limit f (c ∷ cs) = feed_files limit (feed_file limit f c) cs

-- the bytes of a frame with its time
unfoldable pub bytes_for : Got → List ℕ
bytes_for g = record_bytes g.time g.frame

-- the file of some frames
unfoldable pub file_of : List Got → List ℕ
file_of gs = file_header ++ written bytes_for gs

-- a frame within a reader's limit, whose time is of 32 bits and that the writer wrote, into some buffer
pub record Sent (limit : ℕ) (g : Got) : Type 0 where
  pub within : length g.frame ≤ limit
  pub words : Words g.time
  pub buffer : List ℕ
  pub count : ℕ
  pub was-written : (write_record g.time g.frame buffer).result ≡ Ok count
