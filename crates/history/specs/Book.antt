-- The book of each channel (docs/SCOPE.md, 8, whose words for what it counts are the names here): told from each
-- call's arguments, its answer and the frames that it wrote, its steps in the Rust's order but for its OKAYs, which are counted
-- last: where a call settles twice nothing was buffered at the first time, so that its OKAY carries 0. Assumes nothing.
use Rattle.std.specs.Prelude.{ℕ, suc, ◌+◌, ◌-◌, min, Bool, true, false, not, cond, ◌&&◌, ◌||◌, List, [], ◌∷◌, ◌++◌, eqb, leb, ltb, length, get_or, replicate}
use Rattle.le.specs.Le.{num_of, part}
use Rattle.config.specs.declared.negotiated.RxPolicy.{RxPolicy}
use Rattle.protocol.specs.declared.command.Command.TheVariants.{Close, Write}
use Rattle.protocol.specs.declared.message.Message.{Message}
use Rattle.protocol.specs.Command.{word_of, is_open, is_ready}
use Rattle.protocol.specs.Message.{message_size, message_of}
use Rattle.slot.specs.declared.ChannelSlot.{ChannelSlot}
use Rattle.slot.specs.Ids.{named_by}
use Rattle.slot.specs.Slot.{empty_slot, with_remote, with_numbers, settled_of}
use Rattle.table.specs.declared.ChannelId.{ChannelId}
use Rattle.table.specs.Table.{first}
use Rattle.connection.specs.Frames.{Sent}
use Rattle.history.specs.Run.{Call, open_call, dispatch_call, settle_call, take_call, read_call, write_call, close_call, front_taken, look_call, accept_call, reject_call, let_go_call, verdict_call, bytes_in}
use Rattle.history.specs.Seen.{Seen, Event, seen_of}

-- what is kept of one channel
pub record Book : Type 0 where
  -- the channel is in the table: from the call that fills its slot to the one in which the Rust empties it
  pub there : Bool
  -- its numbers: from the answer that filled the slot, and the OKAY that that call used or, of an accept, wrote
  pub local : ℕ
  pub remote : ℕ
  -- the credit in our OPEN for it, or in the OKAY by which we accepted it
  pub opening : ℕ
  -- bytes of the WRTEs that were used
  pub sent : ℕ
  pub accepted : List ℕ
  pub handed : List ℕ
  -- the credit in the OKAYs that were written
  pub acked : ℕ
  pub aside : ℕ
  -- closed by either end
  pub closed : Bool
  -- the device kept its rule at each WRTE counted in sent
  pub kept : Bool
  -- a call answered 11 for one of them
  pub over : Bool

-- an empty one
abbrev pub empty_book : Bool → ℕ → ℕ → ℕ → Book
empty_book there l r c =
    record {
      there = there;
      local = l;
      remote = r;
      opening = c;
      sent = 0;
      accepted = [];
      handed = [];
      acked = 0;
      aside = 0;
      closed = false;
      kept = true;
      over = false;
    }

-- that of a place with no channel
abbrev pub no_book : Book
no_book = empty_book false 0 0 0

-- empty when its slot is filled
abbrev pub new_book : ℕ → ℕ → ℕ → Book
new_book l r c = empty_book true l r c

-- with these bytes sent, accepted, handed over, acknowledged and set aside
abbrev with_bytes : Book → ℕ → List ℕ → List ℕ → ℕ → ℕ → Book
with_bytes b sent accepted handed acked aside =
    record {
      there = b.there;
      local = b.local;
      remote = b.remote;
      opening = b.opening;
      sent = sent;
      accepted = accepted;
      handed = handed;
      acked = acked;
      aside = aside;
      closed = b.closed;
      kept = b.kept;
      over = b.over;
    }

-- that of a place whose channel we closed: the credit in its OKAYs is kept until the place is filled again
abbrev pub gone_book : Book → Book
gone_book b = with_bytes no_book 0 [] [] b.acked 0

-- with these marks: closed, rule kept, answered 11
abbrev with_marks : Book → Bool → Bool → Bool → Book
with_marks b closed kept over =
    record {
      there = b.there;
      local = b.local;
      remote = b.remote;
      opening = b.opening;
      sent = b.sent;
      accepted = b.accepted;
      handed = b.handed;
      acked = b.acked;
      aside = b.aside;
      closed = closed;
      kept = kept;
      over = over;
    }

-- ---- entries: names in B change a book

-- the device's rule: what was sent before is below the opening credit and what was acknowledged before that call
abbrev pub within_rule : ℕ → Book → Bool
within_rule before b = ltb b.sent (b.opening + before)

-- sent: its length
abbrev pub sent_b : ℕ → ℕ → Book → Book
sent_b before n b = with_marks (with_bytes b (b.sent + n) b.accepted b.handed b.acked b.aside) b.closed (b.kept && within_rule before b) b.over

-- accepted: its payload
abbrev pub accepted_b : List ℕ → Book → Book
accepted_b bs b = with_bytes b b.sent (b.accepted ++ bs) b.handed b.acked b.aside

-- handed over: the bytes that the answer counts in the reader's buffer; their number is taken off set aside, down to 0
abbrev pub handed_b : List ℕ → Book → Book
handed_b bs b = with_bytes b b.sent b.accepted (b.handed ++ bs) b.acked (b.aside - length bs)

-- acknowledged: an OKAY's credit
abbrev pub acked_b : ℕ → Book → Book
acked_b k b = with_bytes b b.sent b.accepted b.handed (b.acked + k) b.aside

-- set aside: what a settling newly sets aside
abbrev pub aside_b : ℕ → Book → Book
aside_b n b = with_bytes b b.sent b.accepted b.handed b.acked (b.aside + n)

-- closed
abbrev pub closed_b : Book → Book
closed_b b = with_marks b true b.kept b.over

-- notes whether the call answered 11
abbrev pub over_b : Bool → Book → Book
over_b t b = with_marks b b.closed b.kept (b.over || t)

-- buffered is accepted less handed over, unacknowledged is accepted less acknowledged
unfoldable pub book_slot : Book → ChannelSlot
book_slot b = with_numbers (with_remote empty_slot (record { 0 = b.remote })) (length b.accepted - b.acked) b.aside 0 (length b.accepted - length b.handed)

-- what `settle_take` newly sets aside, within cap
unfoldable pub new_aside : RxPolicy → ℕ → Book → ℕ
new_aside p want b = min (settled_of (book_slot b) p want).slot.settled p.rx_cap - b.aside

-- a settling of `want` bytes
abbrev pub settle_b : RxPolicy → ℕ → Book → Book
settle_b p want b = aside_b (new_aside p want b) b

-- ---- answers and frames

-- a refusal's number: 0 is done, 100 waiting, 101 nothing there
abbrev pub is_refused : ℕ → Bool
is_refused number = not (eqb number 0) && ltb number 100

-- refused by 8, 9 or 13: the call did nothing
abbrev pub is_early : ℕ → Bool
is_early number = eqb number 8 || eqb number 9 || eqb number 13

-- an OKAY's payload as credit; one with no payload carries 0
unfoldable pub credit_in : List ℕ → ℕ
credit_in payload = cond (ltb (length payload) 4) 0 (num_of (part payload 0 4))

-- the credit of the OKAYs with this local number in arg0
unfoldable pub acks_of : ℕ → List Sent → ℕ
acks_of l [] = 0
acks_of l (f ∷ fs) = cond (is_ready f.command && eqb f.arg0 l) (credit_in f.payload) 0 + acks_of l fs

-- the credit in the last OPEN
unfoldable pub last_open : List Sent → ℕ → ℕ
last_open [] a = a
last_open (f ∷ fs) a = last_open fs (cond (is_open f.command) f.arg1 a)

-- the header of a frame that a call used
abbrev pub header_at : List ℕ → Message
header_at received = message_of received

-- its payload
abbrev pub payload_at : List ℕ → ℕ → List ℕ
payload_at received used = part received message_size (used - message_size)

-- a WRTE's header
abbrev pub is_wrte : Message → Bool
is_wrte m = eqb m.command (word_of Write)

-- a CLSE's header
abbrev pub is_clse : Message → Bool
is_clse m = eqb m.command (word_of Close)

-- its own by `closed_by`
abbrev pub own_end : ℕ → ℕ → Message → Bool
own_end l r m = is_clse m && named_by (record { local = record { 0 = l }; remote = record { 0 = r } }) m.arg0 m.arg1

-- ---- which channel a CLSE closes that is dispatched: told from the books of all places

-- a channel with this remote number is there
abbrev pub has_remote_id : ℕ → Book → Bool
has_remote_id r b = b.there && eqb b.remote r

-- such a channel that is not closed
abbrev pub is_live : ℕ → Book → Bool
is_live r b = has_remote_id r b && not b.closed

-- the place that a CLSE with that remote number and none of ours names: the first that is not closed; where all are, the first
abbrev pub named_in : ℕ → List Book → ℕ
named_in r d = cond (ltb (first (is_live r) d) (length d)) (first (is_live r) d) (first (has_remote_id r) d)

-- its own by dispatch: place i is the one that is named by a remote number, which is not 0, or the CLSE has its local number
abbrev pub closes_b : List Book → ℕ → Book → Message → Bool
closes_b d i b m = is_clse m && cond (eqb m.arg1 0) (not (eqb m.arg0 0) && (eqb (named_in m.arg0 d) i)) (eqb m.arg1 b.local)

-- ---- a packet that a call used. d: the books of all places before the call; i: this book's place

-- a WRTE: refused or not. One that comes to a closed slot is accepted as well: the Rust drops those of failed slots alone, which
-- 13 refuses
abbrev pub wrte_b : ℕ → List ℕ → ℕ → Book → Book
wrte_b before bs number b =
    cond (is_refused number) (over_b (eqb number 11) (sent_b before (length bs) b)) (accepted_b bs (sent_b before (length bs) b))

-- one that was dispatched
unfoldable pub frame_b : List Book → ℕ → ℕ → Message → List ℕ → ℕ → Book → Book
frame_b d i before m bs number b = cond (is_wrte m && eqb m.arg1 b.local) (wrte_b before bs number b) (cond (closes_b d i b m) (closed_b b) b)

-- one refused by 4: counted in sent
unfoldable pub damaged_b : ℕ → Message → List ℕ → Book → Book
damaged_b before m bs b = cond (is_wrte m && eqb m.arg1 b.local) (sent_b before (length bs) b) b

-- what it is to a call that is on no channel, or on another; `mine`: the call took it for the end of what it is on
unfoldable pub packet_b : List Book → ℕ → List ℕ → (Message → Bool) → Seen → Book → Book
packet_b d i received mine o b =
    cond (eqb o.used 0) b
    (cond (eqb o.number 4) (damaged_b b.acked (header_at received) (payload_at received o.used) b)
    (cond (mine (header_at received)) b (frame_b d i b.acked (header_at received) (payload_at received o.used) o.number b)))

-- ---- a read and a write on the channel

-- a read that used a packet: damaged; straight to the reader; its own end; or dispatched, with a second settling
unfoldable pub read_used_b : RxPolicy → List Book → ℕ → ℕ → ℕ → List ℕ → Seen → Book → Book
read_used_b p d i before room received o b =
    cond (eqb o.number 4) (damaged_b before (header_at received) (payload_at received o.used) b)
    (cond (is_wrte (header_at received) && eqb (header_at received).arg1 b.local && leb (o.used - message_size) room)
    (handed_b o.got (wrte_b before (payload_at received o.used) o.number b))
    (cond (own_end b.local b.remote (header_at received)) (closed_b b)
    (handed_b o.got (settle_b p room (frame_b d i before (header_at received) (payload_at received o.used) o.number b)))))

-- a read: refused early; with no packet used; with one
unfoldable pub read_b : RxPolicy → List Book → ℕ → ℕ → List ℕ → Seen → Book → Book
read_b p d i room received o b =
    cond (is_early o.number) b
    (cond (eqb o.used 0) (handed_b o.got (settle_b p room b)) (read_used_b p d i b.acked room received o (settle_b p room b)))

-- a write that used a packet: damaged; its own end; or dispatched
unfoldable pub write_b : List Book → ℕ → List ℕ → Seen → Book → Book
write_b d i received o b =
    cond (eqb o.used 0) b
    (cond (eqb o.number 4) (damaged_b b.acked (header_at received) (payload_at received o.used) b)
    (cond (own_end b.local b.remote (header_at received)) (closed_b b)
    (frame_b d i b.acked (header_at received) (payload_at received o.used) o.number b)))

-- ---- one call

-- whether a call's channel is this one
abbrev pub is_on : ℕ → Book → ChannelId → Bool
is_on i b ch = eqb ch.slot i && eqb b.local ch.local.0

-- dispatch takes no packet for itself
abbrev pub never : Message → Bool
never m = false

-- a CLSE that ends a pending open
abbrev pub ends_open : ℕ → Message → Bool
ends_open number m = is_clse m && is_refused number

-- one that ends another channel's read or write
abbrev pub ends_other : List Book → ChannelId → Message → Bool
ends_other d ch m = own_end ch.local.0 (get_or d ch.slot no_book).remote m

-- a call's steps but its OKAYs, for a channel that is in the table
unfoldable pub entry_on : RxPolicy → List Book → ℕ → Call → Seen → Book → Book
entry_on p d i (open_call out destination received) o b = packet_b d i (bytes_in received) (ends_open o.number) o b
entry_on p d i (dispatch_call out received) o b = packet_b d i (bytes_in received) never o b
entry_on p d i (settle_call out ch want) o b = cond (is_on i b ch && not (is_early o.number)) (settle_b p want b) b
entry_on p d i (take_call ch buf) o b = cond (is_on i b ch) (handed_b o.got b) b
entry_on p d i (read_call out ch buf received) o b =
    cond (is_on i b ch) (read_b p d i (length buf) (bytes_in received) o b) (packet_b d i (bytes_in received) (ends_other d ch) o b)
entry_on p d i (write_call spending out ch bytes received) o b =
    cond (is_on i b ch) (write_b d i (bytes_in received) o b) (packet_b d i (bytes_in received) (ends_other d ch) o b)
entry_on p d i (close_call out ch) o b = cond (is_on i b ch && not (is_refused o.number)) (gone_book b) b
entry_on p d i front_taken o b = b
entry_on p d i (look_call x) o b = b
entry_on p d i (accept_call out) o b = b
entry_on p d i (reject_call out) o b = b
entry_on p d i let_go_call o b = b
entry_on p d i (verdict_call out take remote credit) o b = b

-- the remote number in the OKAY by which a channel is accepted, and the credit that it carries; 0 where it carries none
unfoldable pub okay_remote : List Sent → ℕ
okay_remote [] = 0
okay_remote (f ∷ fs) = f.arg1

unfoldable pub okay_credit : List Sent → ℕ
okay_credit [] = 0
okay_credit (f ∷ fs) = credit_in f.payload

-- an accept that is done filled the slot that its answer names, with the numbers of the OKAY that it wrote
abbrev pub granted_b : ℕ → Seen → Book → Book
granted_b i o b = cond (eqb o.number 0 && eqb (get_or o.values 0 0) i) (new_book (get_or o.values 1 0) (okay_remote o.sent) (okay_credit o.sent)) b

-- an open that is done filled the slot that its answer names, with that local number; the remote number is its OKAY's. So did an
-- accept, and a verdict that takes
unfoldable pub opened_b : ℕ → ℕ → Call → Seen → Book → Book
opened_b i asked (open_call out destination received) o b =
    cond (eqb o.number 0 && eqb (get_or o.values 0 0) i) (new_book (get_or o.values 1 0) (header_at (bytes_in received)).arg0 asked) b
opened_b i asked (dispatch_call out received) o b = b
opened_b i asked (settle_call out ch want) o b = b
opened_b i asked (take_call ch buf) o b = b
opened_b i asked (read_call out ch buf received) o b = b
opened_b i asked (write_call spending out ch bytes received) o b = b
opened_b i asked (close_call out ch) o b = b
opened_b i asked front_taken o b = b
opened_b i asked (look_call x) o b = b
opened_b i asked (accept_call out) o b = granted_b i o b
opened_b i asked (reject_call out) o b = b
opened_b i asked let_go_call o b = b
opened_b i asked (verdict_call out take remote credit) o b = cond take (granted_b i o b) b

-- the frames whose OKAYs acknowledge: all, but the one by which a channel is accepted
abbrev pub acking : Call → List Sent → List Sent
acking (open_call out destination received) fs = fs
acking (dispatch_call out received) fs = fs
acking (settle_call out ch want) fs = fs
acking (take_call ch buf) fs = fs
acking (read_call out ch buf received) fs = fs
acking (write_call spending out ch bytes received) fs = fs
acking (close_call out ch) fs = fs
acking front_taken fs = fs
acking (look_call x) fs = fs
acking (accept_call out) fs = []
acking (reject_call out) fs = fs
acking let_go_call fs = fs
acking (verdict_call out take remote credit) fs = cond take [] fs

-- with the OKAYs written that have its local number in arg0, by a refused call too, after the call's other steps
unfoldable pub acks_b : List Sent → Book → Book
acks_b fs b = cond b.there (acked_b (acks_of b.local fs) b) b

-- the book at place i after a call. asked: the credit in the last OPEN written before it
unfoldable pub book_after : RxPolicy → List Book → ℕ → Call → Seen → ℕ → Book → Book
book_after p d asked c o i b = acks_b (acking c o.sent) (opened_b i asked c o (cond b.there (entry_on p d i c o b) b))

-- ---- all places

-- what f makes of each place's book
unfoldable pub each_place : (ℕ → Book → Book) → ℕ → List Book → List Book
each_place f i [] = []
each_place f i (b ∷ bs) = f i b ∷ each_place f (suc i) bs

-- all that is kept: the credit in the last OPEN written, and a book for each place of the table
pub record Ledger : Type 0 where
  pub asked : ℕ
  pub books : List Book

-- before the first call
abbrev pub clean : Ledger
clean = record { asked = 0; books = replicate 64 no_book }

-- the book of a place
abbrev pub book_at : Ledger → ℕ → Book
book_at l i = get_or l.books i no_book

-- the ledger after a call, of which o is what its caller sees
unfoldable pub entry : RxPolicy → Call → Seen → Ledger → Ledger
entry p c o l = record { asked = last_open o.sent l.asked; books = each_place (book_after p l.books l.asked c o) 0 l.books }

-- and after a list of calls
unfoldable pub ledger_of : RxPolicy → Ledger → List Event → Ledger
ledger_of p l [] = l
ledger_of p l (e ∷ es) = ledger_of p (entry p e.call (seen_of e) l) es
