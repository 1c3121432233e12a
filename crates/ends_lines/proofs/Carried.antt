-- Bytes that are frames, one behind the other: what is read of them, and of the first of them. Assumes nothing.
--     carried-reads    the frames that the bytes begin with are these
--     carried-append   frames behind others
--     carried-frames   the bytes of the frames that a call writes
--     carried-sees     what the first m bytes are decoded to, at any limit
--     carried-first    a packet that is decoded is the first frame; carried-whole: no check is refused
--     carried-bytes    they are bytes; carried-same: so a caller's numbers are they
--     carried-none     no bytes, no frames; carried-nothing: no frames, no bytes
use mathlib.Core.Path.{◌≡◌, refl, sym, ap, subst, ◌∙◌}
use mathlib.Core.Bool.{Bool, true, false, not, true≢false}
use mathlib.Core.List.{List, [], ◌∷◌, ◌++◌, append_assoc, map}
use Prim.Native.Nat.{ℕ, zero, suc, ◌+◌, ◌-◌, ◌^◌, ◌%◌, ◌≤◌, ◌<◌, min}
use native.Mathlib.Omega.{arith}
use lib.Dec.{eqb, ltb}
use lib.ListN.{length, take, drop, length-append, length-take}
use lib.Seq.{take-nil, take-take, take-append-add, take-append_seam, drop_at}
use borrow.Author.Tests.{eq-eqb, ltb-false}
use Rattle.le.specs.Le.{part, Bytes}
use Rattle.le.proofs.Laws.{bytes_take, bytes-bytes_of}
use Rattle.le.specs.Rows.{flat}
use Rattle.le.proofs.RowLaws.{Every}
use Rattle.config.specs.declared.negotiated.Negotiated.{Negotiated}
use Rattle.checksum.specs.Checksum.{policy_for, check_for}
use Rattle.checksum.proofs.ChecksumLaws.{check-small}
use Rattle.protocol.specs.declared.command.Command.{Command}
use Rattle.protocol.specs.declared.command.UnknownCommand.{UnknownCommand}
use Rattle.protocol.specs.declared.message.Message.{Message}
use Rattle.protocol.specs.declared.packet.Packet.{Packet}
use Rattle.protocol.specs.declared.packet.DecodeError.{DecodeError}
use Rattle.protocol.specs.declared.packet.DecodeError.TheVariants.{InvalidCommand, InvalidMagic, PayloadTooLarge, InvalidChecksum}
use Rattle.protocol.specs.Command.{magic_of, command_of}
use Rattle.protocol.specs.Message.{message_size, message_of, header_bytes}
use Rattle.protocol.specs.Packet.{payload_limit, payload_of, check_passes, packet_of, known_of, named_of, decode_of, used_of, message_for, packet_bytes, frame_for}
use Rattle.protocol.proofs.CommandLaws.{word-names, word_small, magic-small}
use Rattle.protocol.proofs.MessageLaws.{Words, length-header, read-header}
use Rattle.protocol.proofs.PacketLaws.{frame-length}
use Rattle.protocol.proofs.RoundTrip.{frame-payload, not-refused, own-check}
use Rattle.slot.proofs.Kept.{pick}
use Rattle.wire.specs.Wire.{credit_bytes, okay_bytes, close_bytes}
use Rattle.connection.specs.Frames.{Sent, Frame, okay_frame, close_frame, open_frame, write_frame, frame_bytes, frames_bytes}
use Rattle.connection.proofs.Sending.{sent_of, FrameFits}
use Rattle.history.specs.Run.{bytes_in}
use Rattle.history.specs.Seen.{sent_by, sent_in}
use Rattle.ends_lines.specs.Lines.{frames_on}
use Rattle.std.specs.Prelude.{Option, Some, None, Result, Ok, Err}

-- ---- bytes that are frames

-- the bytes of a frame, with some check that passes, and rest behind them
pub record Leads (l : List ℕ) (s : Sent) (rest : List ℕ) : Type 0 where
  pub check : ℕ
  pub arg0-fits : s.arg0 < 2 ^ 32
  pub arg1-fits : s.arg1 < 2 ^ 32
  pub check-fits : check < 2 ^ 32
  pub small : length s.payload ≤ payload_limit
  pub bytes : Bytes s.payload
  pub passes : check_passes check s.payload ≡ true
  pub stands : l ≡ packet_bytes s.command s.arg0 s.arg1 s.payload check ++ rest

-- the frames' bytes, one behind the other
pub data Carried : List ℕ → List Sent → Type 0 where
  none : Carried [] []
  more : (l : List ℕ) (s : Sent) (rest : List ℕ) (fs : List Sent) → Leads l s rest → Carried rest fs → Carried l (s ∷ fs)

pub carried-none : Carried [] []
carried-none = none

abbrev is-more : List Sent → Bool
is-more [] = false
is-more (s ∷ fs) = true

nothing-by : (l : List ℕ) (fs : List Sent) → Carried l fs → fs ≡ [] → l ≡ []
nothing-by _ _ none e = refl
nothing-by _ _ (more l s rest fs g c) e = absurd (true≢false (ap is-more e))

pub carried-nothing : (l : List ℕ) → Carried l [] → l ≡ []
carried-nothing l c = nothing-by l [] c refl

-- ---- what the first of them are decoded to

-- nothing yet, too long for the limit, or the whole frame
pub data Sees (s : Sent) (x : List ℕ) : Result (Option Packet) DecodeError → Type 0 where
  waits : Sees s x (Ok None)
  over : Sees s x (Err PayloadTooLarge)
  whole : message_size + length s.payload ≤ length x → payload_of x (length s.payload) ≡ s.payload
      → Sees s x (Ok (Some (record { command = s.command; arg0 = s.arg0; arg1 = s.arg1; data_length = length s.payload })))

module _ (l : List ℕ) (s : Sent) (rest : List ℕ) (g : Leads l s rest) where
  abbrev frame-in : List ℕ
  frame-in = packet_bytes s.command s.arg0 s.arg1 s.payload g.check

  abbrev header-in : Message
  header-in = message_for s.command s.arg0 s.arg1 s.payload g.check

  leads-length : length l ≡ 24 + length s.payload + length rest
  leads-length =
      let a = ap length g.stands in
      let b = length-append frame-in rest in
      let c = frame-length s.command s.arg0 s.arg1 s.payload g.check in
      omega arith

  leads-drop : drop (24 + length s.payload) l ≡ rest
  leads-drop =
      ap (drop (24 + length s.payload)) g.stands
      ∙ drop_at frame-in rest (24 + length s.payload) (frame-length s.command s.arg0 s.arg1 s.payload g.check)

  leads-header : l ≡ header_bytes header-in ++ (s.payload ++ rest)
  unfolding packet_bytes
  leads-header = g.stands ∙ append_assoc (header_bytes header-in) s.payload rest

  leads-words : Words header-in
  unfolding message_for
  leads-words =
      let small = g.small in
      record {
        command-fits = word_small s.command;
        arg0-fits = g.arg0-fits;
        arg1-fits = g.arg1-fits;
        length-fits = omega arith;
        check-fits = g.check-fits;
        magic-fits = magic-small s.command;
      }

  module _ (m : ℕ) where
    abbrev x : List ℕ
    x = take m l

    part-length : length x ≤ m
    part-length = let e = length-take m l in omega arith

    part-is : 24 ≤ length x → x ≡ header_bytes header-in ++ take (m - 24) (s.payload ++ rest)
    part-is h =
        let e = part-length in
        let n = length-header header-in in
        let k : m ≡ length (header_bytes header-in) + (m - 24) = omega arith in
        ap (take m) leads-header ∙ ap (λ (j : ℕ). take j (header_bytes header-in ++ (s.payload ++ rest))) k
        ∙ take-append-add (header_bytes header-in) (s.payload ++ rest) (m - 24)

    part-header : 24 ≤ length x → message_of x ≡ header-in
    part-header h = ap message_of (part-is h) ∙ read-header header-in (take (m - 24) (s.payload ++ rest)) leads-words

    part-payload : 24 + length s.payload ≤ length x → payload_of x (length s.payload) ≡ s.payload
    unfolding payload_of part
    part-payload h =
        let e = part-length in
        ap (λ (y : List ℕ). take (length s.payload) (drop 24 y)) (part-is (omega arith))
        ∙ ap (take (length s.payload)) (drop_at (header_bytes header-in) (take (m - 24) (s.payload ++ rest)) 24 (length-header header-in))
        ∙ take-take (length s.payload) (m - 24) (s.payload ++ rest) (omega arith)
        ∙ take-append_seam s.payload rest

    known-sees : (limit : ℕ) → Sees s x (known_of x limit s.command header-in)
    unfolding known_of message_for packet_of
    known-sees limit =
        let S : Result (Option Packet) DecodeError → Type 0 = Sees s x in
        pick S (not (eqb (magic_of s.command) (magic_of s.command)))
        (λ t. absurd (true≢false (sym t ∙ ap not (eq-eqb (magic_of s.command) (magic_of s.command) refl))))
        (λ t. pick S (ltb (min limit payload_limit) (length s.payload)) (λ u. over)
        (λ u. pick S (ltb (length x) (24 + length s.payload)) (λ v. waits)
        (λ v. let h = ltb-false (length x) (24 + length s.payload) v in
        let p = part-payload h in
        pick S (check_passes g.check (payload_of x (length s.payload))) (λ k. whole h p)
        (λ k. absurd (true≢false (sym (ap (check_passes g.check) p ∙ g.passes) ∙ k))))))

    leads-sees : (limit : ℕ) → Sees s x (decode_of x limit)
    unfolding decode_of named_of message_for
    leads-sees limit =
        let S : Result (Option Packet) DecodeError → Type 0 = Sees s x in
        pick S (ltb (length x) 24) (λ t. waits)
        (λ t. subst (λ (y : Message). S (named_of x limit y (command_of y.command))) (sym (part-header (ltb-false (length x) 24 t)))
        (subst (λ (w : Result Command UnknownCommand). S (named_of x limit header-in w)) (sym (word-names s.command)) (known-sees limit)))

-- what a reader of the first m bytes is told: it waits where there are no frames
pub data SeesFirst (fs : List Sent) (x : List ℕ) (r : Result (Option Packet) DecodeError) : Type 0 where
  sees-none : r ≡ Ok None → SeesFirst fs x r
  sees-one : (s : Sent) (rest : List Sent) → fs ≡ s ∷ rest → Sees s x r → SeesFirst fs x r

pub carried-sees : (l : List ℕ) (fs : List Sent) → Carried l fs → (m limit : ℕ) → SeesFirst fs (take m l) (decode_of (take m l) limit)
unfolding decode_of
carried-sees _ _ none m limit = sees-none (ap (λ (x : List ℕ). decode_of x limit) (take-nil m))
carried-sees _ _ (more l s rest fs g c) m limit = sees-one s fs refl (leads-sees l s rest g m limit)

-- the first frame, where a packet is decoded, and the frames behind it
pub record First (l : List ℕ) (fs : List Sent) (x : List ℕ) (k : Packet) : Type 0 where
  pub frame : Sent
  pub rest : List Sent
  pub frames-are : fs ≡ frame ∷ rest
  pub command : frame.command ≡ k.command
  pub arg0 : frame.arg0 ≡ k.arg0
  pub arg1 : frame.arg1 ≡ k.arg1
  pub payload : frame.payload ≡ payload_of x k.data_length
  pub inside : message_size + k.data_length ≤ length x
  pub behind : Carried (drop (message_size + k.data_length) l) rest

abbrev is-packet : Result (Option Packet) DecodeError → Bool
is-packet (Ok (Some k)) = true
is-packet (Ok None) = false
is-packet (Err (InvalidCommand word)) = false
is-packet (Err InvalidMagic) = false
is-packet (Err PayloadTooLarge) = false
is-packet (Err (InvalidChecksum used)) = false

abbrev packet-or : Packet → Result (Option Packet) DecodeError → Packet
packet-or d (Ok (Some k)) = k
packet-or d (Ok None) = d
packet-or d (Err (InvalidCommand word)) = d
packet-or d (Err InvalidMagic) = d
packet-or d (Err PayloadTooLarge) = d
packet-or d (Err (InvalidChecksum used)) = d

abbrev is-damaged : Result (Option Packet) DecodeError → Bool
is-damaged (Ok (Some k)) = false
is-damaged (Ok None) = false
is-damaged (Err (InvalidCommand word)) = false
is-damaged (Err InvalidMagic) = false
is-damaged (Err PayloadTooLarge) = false
is-damaged (Err (InvalidChecksum used)) = true

first-by : (l : List ℕ) (s : Sent) (rest : List ℕ) (fs : List Sent) → Leads l s rest → Carried rest fs → (x : List ℕ) (k : Packet)
    → (r : Result (Option Packet) DecodeError) → Sees s x r → r ≡ Ok (Some k) → First l (s ∷ fs) x k
first-by l s rest fs g c x k _ waits e = absurd (true≢false (sym (ap is-packet e)))
first-by l s rest fs g c x k _ over e = absurd (true≢false (sym (ap is-packet e)))
first-by l s rest fs g c x k _ (whole h p) e =
    subst (First l (s ∷ fs) x) (ap (packet-or k) e)
    (record {
      frame = s;
      rest = fs;
      frames-are = refl;
      command = refl;
      arg0 = refl;
      arg1 = refl;
      payload = sym p;
      inside = h;
      behind = subst (λ (y : List ℕ). Carried y fs) (sym (leads-drop l s rest g)) c;
    })

pub carried-first : (l : List ℕ) (fs : List Sent) → Carried l fs → (m limit : ℕ) (k : Packet)
    → decode_of (take m l) limit ≡ Ok (Some k) → First l fs (take m l) k
unfolding decode_of
carried-first _ _ none m limit k e = absurd (true≢false (sym (ap is-packet (sym (ap (λ (x : List ℕ). decode_of x limit) (take-nil m)) ∙ e))))
carried-first _ _ (more l s rest fs g c) m limit k e = first-by l s rest fs g c (take m l) k (decode_of (take m l) limit) (leads-sees l s rest g m limit) e

undamaged : (s : Sent) (x : List ℕ) (r : Result (Option Packet) DecodeError) → Sees s x r → is-damaged r ≡ false
undamaged s x _ waits = refl
undamaged s x _ over = refl
undamaged s x _ (whole h p) = refl

undamaged-by : (fs : List Sent) (x : List ℕ) (r : Result (Option Packet) DecodeError) → SeesFirst fs x r → is-damaged r ≡ false
undamaged-by fs x r (sees-none e) = ap is-damaged e
undamaged-by fs x r (sees-one s rest e h) = undamaged s x r h

pub carried-whole : (l : List ℕ) (fs : List Sent) → Carried l fs → (m limit n : ℕ) → decode_of (take m l) limit ≡ Err (InvalidChecksum n) → ⊥
carried-whole l fs c m limit n e = true≢false (sym (ap is-damaged e) ∙ undamaged-by fs (take m l) (decode_of (take m l) limit) (carried-sees l fs c m limit))

-- ---- the frames that they begin with

-- no bytes, no frames
sent-none : (k : ℕ) → sent_in k [] ≡ []
unfolding sent_in sent_by decode_of
sent-none zero = refl
sent-none (suc k) = refl

sent-one : (l : List ℕ) (s : Sent) (rest : List ℕ) → Leads l s rest → (k : ℕ) → sent_in (suc k) l ≡ s ∷ sent_in k rest
unfolding sent_in sent_by used_of
sent-one l s rest g k =
    let f = packet_bytes s.command s.arg0 s.arg1 s.payload g.check in
    let small = g.small in
    let a = not-refused s.command s.arg0 s.arg1 s.payload rest g.check payload_limit g.arg0-fits g.arg1-fits g.check-fits (omega arith) g.passes in
    let b = frame-payload s.command s.arg0 s.arg1 s.payload rest g.check in
    let d = drop_at f rest (24 + length s.payload) (frame-length s.command s.arg0 s.arg1 s.payload g.check) in
    ap (sent_in (suc k)) g.stands ∙ rw (a, d, b)

reads-in : (n : ℕ) (l : List ℕ) (fs : List Sent) → length l ≤ n → Carried l fs → sent_in n l ≡ fs
reads-in n _ _ h none = sent-none n
reads-in zero _ _ h (more l s rest fs g c) = let e = leads-length l s rest g in absurd (omega arith)
reads-in (suc n) _ _ h (more l s rest fs g c) =
    let e = leads-length l s rest g in
    sent-one l s rest g n ∙ ap (λ (x : List Sent). s ∷ x) (reads-in n rest fs (omega arith) c)

pub carried-reads : (l : List ℕ) (fs : List Sent) → Carried l fs → frames_on l ≡ fs
unfolding frames_on
carried-reads l fs c = reads-in (length l) l fs (omega arith) c

-- ---- frames behind others

pub carried-append : (a b : List ℕ) (fs gs : List Sent) → Carried a fs → Carried b gs → Carried (a ++ b) (fs ++ gs)
carried-append _ b _ gs none d = d
carried-append _ b _ gs (more l s rest fs g c) d =
    more (l ++ b) s (rest ++ b) (fs ++ gs)
    (record {
      check = g.check;
      arg0-fits = g.arg0-fits;
      arg1-fits = g.arg1-fits;
      check-fits = g.check-fits;
      small = g.small;
      bytes = g.bytes;
      passes = g.passes;
      stands = ap (λ (x : List ℕ). x ++ b) g.stands ∙ append_assoc (packet_bytes s.command s.arg0 s.arg1 s.payload g.check) rest b;
    })
    (carried-append rest b fs gs c d)

-- ---- the frames that a call writes

-- what an OPEN and a WRTE carry is bytes
abbrev pub FrameBytes : Frame → Type 0
FrameBytes (okay_frame ids len) = Unit {0}
FrameBytes (close_frame ids) = Unit {0}
FrameBytes (open_frame local credit destination) = Bytes destination
FrameBytes (write_frame ids bytes) = Bytes bytes

none-bytes : Bytes []
none-bytes k = omega arith

credit-bytes : (delayed : Bool) (len : ℕ) → Bytes (credit_bytes delayed len)
unfolding credit_bytes
credit-bytes true len = bytes-bytes_of 4 len
credit-bytes false len = none-bytes

sent-bytes : (n : Negotiated) (f : Frame) → FrameBytes f → Bytes (sent_of n f).payload
sent-bytes n (okay_frame ids len) h = credit-bytes n.delayed_ack len
sent-bytes n (close_frame ids) h = none-bytes
sent-bytes n (open_frame local credit destination) h = h
sent-bytes n (write_frame ids bytes) h = h

-- a frame is bytes as it is sent
frame-sent : (n : Negotiated) (f : Frame)
    → frame_bytes n f ≡ frame_for (sent_of n f).command (sent_of n f).arg0 (sent_of n f).arg1 (sent_of n f).payload (policy_for n.protocol_version)
unfolding frame_bytes okay_bytes close_bytes
frame-sent n (okay_frame ids len) = refl
frame-sent n (close_frame ids) = refl
frame-sent n (open_frame local credit destination) = refl
frame-sent n (write_frame ids bytes) = refl

pub carried-frames : (n : Negotiated) (fs : List Frame) → Every (FrameFits n) fs → Every FrameBytes fs → Carried (frames_bytes n fs) (map (sent_of n) fs)
unfolding frames_bytes flat
carried-frames n [] h y = none
carried-frames n (f ∷ fs) h y =
    let s = sent_of n f in
    let k = policy_for n.protocol_version in
    more (frame_bytes n f ++ frames_bytes n fs) s (frames_bytes n fs) (map (sent_of n) fs)
    (record {
      check = check_for k s.payload;
      arg0-fits = h.0.sent.arg0-fits;
      arg1-fits = h.0.sent.arg1-fits;
      check-fits = check-small k s.payload;
      small = h.0.sent.small;
      bytes = sent-bytes n f y.0;
      passes = own-check k s.payload;
      stands = ap (λ (x : List ℕ). x ++ frames_bytes n fs) (frame-sent n f);
    })
    (carried-frames n fs h.1 y.1)

-- ---- they are bytes

bytes-join : (a b : List ℕ) → Bytes a → Bytes b → Bytes (a ++ b)
bytes-join [] b h k j = k j
bytes-join (x ∷ a) b h k zero = h 0
bytes-join (x ∷ a) b h k (suc j) = bytes-join a b (λ i. h (suc i)) k j

header-bytes : (m : Message) → Bytes (header_bytes m)
unfolding header_bytes
header-bytes m =
    let c = bytes-bytes_of 4 m.command in
    let a = bytes-bytes_of 4 m.arg0 in
    let b = bytes-bytes_of 4 m.arg1 in
    let n = bytes-bytes_of 4 m.data_length in
    let d = bytes-bytes_of 4 m.data_check in
    let e = bytes-bytes_of 4 m.magic in
    bytes-join _ _ (bytes-join _ _ (bytes-join _ _ (bytes-join _ _ (bytes-join _ _ c a) b) n) d) e

frame-bytes : (c : Command) (a b : ℕ) (payload : List ℕ) (check : ℕ) → Bytes payload → Bytes (packet_bytes c a b payload check)
unfolding packet_bytes
frame-bytes c a b payload check h = bytes-join (header_bytes (message_for c a b payload check)) payload (header-bytes (message_for c a b payload check)) h

pub carried-bytes : (l : List ℕ) (fs : List Sent) → Carried l fs → Bytes l
carried-bytes _ _ none = none-bytes
carried-bytes _ _ (more l s rest fs g c) =
    subst Bytes (sym g.stands)
    (bytes-join (packet_bytes s.command s.arg0 s.arg1 s.payload g.check) rest
    (frame-bytes s.command s.arg0 s.arg1 s.payload g.check g.bytes) (carried-bytes rest fs c))

-- bytes as a caller's numbers are themselves
bytes-same : (l : List ℕ) → Bytes l → bytes_in l ≡ l
unfolding bytes_in
bytes-same [] y = refl
bytes-same (x ∷ l) y =
    let h = y 0 in
    let e : x % 256 ≡ x = omega arith in
    ap (λ (a : ℕ). a ∷ bytes_in l) e ∙ ap (λ (r : List ℕ). x ∷ r) (bytes-same l (λ k. y (suc k)))

pub carried-same : (l : List ℕ) (fs : List Sent) → Carried l fs → (m : ℕ) → bytes_in (take m l) ≡ take m l
carried-same l fs c m = bytes-same (take m l) (bytes_take m l (carried-bytes l fs c))
