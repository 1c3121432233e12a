-- What the two programs do with all bytes that arrive, in whatever pieces (docs/SCOPE.md, 12). Assumes nothing.
use Rattle.std.specs.Prelude.{ℕ, ◌+◌, ◌≤◌, ◌≡◌, true, List, [], ◌∷◌, ◌++◌, length, take}
use Rattle.stream.specs.Stream.{Answer, waiting, message, refused, joined, begun, feed_all, Every, written}
use Rattle.protocol.specs.declared.packet.Packet.{Packet}
use Rattle.protocol.specs.Message.{message_size}
use Rattle.protocol.specs.Packet.{payload_limit, decode_of, decode_error_number}
use Rattle.pcap.specs.Header.{file_header, read_header}
use Rattle.pcap.specs.declared.ReadError.TheVariants.{InvalidLength}
use Rattle.pcap.specs.Record.{read_record, record_bytes}
use Rattle.pcap.specs.File.{Got, file_of, file_begun, feed_files}
use Rattle.capture.specs.Capture.{Next, is_long, next_frame, taken_of, zero_time}
use Rattle.protocol.specs.declared.packet.DecodeError.{DecodeError}
use Rattle.std.specs.Prelude.{Some, None, Ok, Err}

-- ---- frames to a capture

-- the bytes of the frame that held bytes begin with; what is not taken stays where it is
unfoldable pub answer_of : List ℕ → Next → Answer (List ℕ)
answer_of s (Ok None) = waiting
answer_of s (Ok (Some n)) = message (take n s) n
answer_of s (Err e) = refused (decode_error_number e) 0

-- the reader of whole frames, as bytes
unfoldable pub frames : ℕ → List ℕ → Answer (List ℕ)
frames hold s = answer_of s (next_frame hold s)

-- a frame's record at time 0
unfoldable pub record_of : List ℕ → List ℕ
record_of frame = record_bytes zero_time frame

-- what the first program writes of pieces that arrive: the file's header, and a record for each frame that it took
unfoldable pub captured : ℕ → List (List ℕ) → List ℕ
captured hold cs = file_header ++ written record_of (feed_all (frames hold) begun cs).messages

-- one whole frame, which decoding at limit 1,048,576 accepts, and of at most `hold` bytes
pub record IsFrame (hold : ℕ) (f : List ℕ) : Type 0 where
  pub packet : Packet
  pub accepted : decode_of f payload_limit ≡ Ok (Some packet)
  pub length-is : length f ≡ message_size + packet.data_length
  pub held : length f ≤ hold

-- what stands behind the last frame: an incomplete frame or nothing; one that decoding refuses; a longer one than is held
pub data Ended (hold : ℕ) (rest : List ℕ) : Type 0 where
  incomplete : decode_of rest payload_limit ≡ Ok None → Ended hold rest
  refusing : (e : DecodeError) → taken_of rest ≡ Err e → Ended hold rest
  too_long : is_long hold rest ≡ true → Ended hold rest

-- received bytes l are whole frames in their order, each with a record in the file, and a rest that has none
pub record Converts (hold : ℕ) (l file : List ℕ) : Type 0 where
  pub taken : List (List ℕ)
  pub rest : List ℕ
  pub all : joined taken ++ rest ≡ l
  pub whole : Every (IsFrame hold) taken
  pub ended : Ended hold rest
  pub file-is : file ≡ file_header ++ written record_of taken

-- ---- a capture to frames

-- the frames of records
unfoldable pub frames_of : List Got → List (List ℕ)
frames_of [] = []
frames_of (g ∷ gs) = g.frame ∷ frames_of gs

-- what the second program writes of pieces that arrive: the frame of each record that it took
unfoldable pub given : ℕ → List (List ℕ) → List ℕ
given hold cs = joined (frames_of (feed_files hold file_begun cs).reading.messages)

-- what stands behind the last record: an incomplete record or nothing; one that is refused, as one whose frame is longer than is held
pub data RecordsEnded (hold : ℕ) (rest : List ℕ) : Type 0 where
  cut_off : read_record hold rest ≡ Ok None → RecordsEnded hold rest
  refusing : read_record hold rest ≡ Err InvalidLength → RecordsEnded hold rest

-- a record's frame is held
abbrev pub Held : ℕ → Got → Type 0
Held hold g = length g.frame ≤ hold

-- a file without the header gives nothing; any other is records in their order, whose frames are held and given, and a rest
pub data Gives (hold : ℕ) (file out : List ℕ) : Type 0 where
  no_header : (read_header file ≡ Ok (Some (record {})) → ⊥) → out ≡ [] → Gives hold file out
  records : (gs : List Got) (rest : List ℕ) → file_of gs ++ rest ≡ file → Every (Held hold) gs → RecordsEnded hold rest → out ≡ joined (frames_of gs)
      → Gives hold file out

-- ---- there and back

-- what comes back of received bytes l is a first part of them, and what does not come back begins with no whole frame that is held
pub record ComesBack (hold : ℕ) (l out : List ℕ) : Type 0 where
  pub lost : List ℕ
  pub all : out ++ lost ≡ l
  pub ended : Ended hold lost
