-- The book of a channel after a call, by the packet that the call used. Assumes nothing.
use mathlib.Core.Path.{◌≡◌, refl, sym, ap, ap₂, subst, ◌∙◌}
use mathlib.Core.Bool.{Bool, true, false, not, cond, ◌&&◌, ◌||◌, true≢false}
use mathlib.Core.List.{List, [], ◌++◌}
use Prim.Native.Nat.{ℕ, ◌+◌, ◌-◌}
use lib.Dec.{eqb, ltb, leb}
use lib.ListN.{length, get_or}
use borrow.Author.Tests.{eqb-true}
use Rattle.le.specs.Le.{num_of}
use Rattle.le.proofs.Parts.{by-test}
use Rattle.slot.proofs.Kept.{pick}
use Rattle.slot.proofs.Laws.{cond-true, cond-false}
use Rattle.config.proofs.Laws.{and-true}
use Rattle.config.specs.declared.negotiated.RxPolicy.{RxPolicy}
use Rattle.protocol.specs.declared.command.Command.TheVariants.{Close, Write}
use Rattle.protocol.specs.declared.message.Message.{Message}
use Rattle.protocol.specs.Command.{is_write, word_of, letters_of}
use Rattle.protocol.specs.Message.{message_of}
use Rattle.le.specs.Le.{part}
use Rattle.slot.specs.Ids.{named_by}
use Rattle.table.specs.declared.ChannelId.{ChannelId}
use Rattle.connection.specs.Frames.{Sent}
use Rattle.history.specs.Run.{Call, open_call, dispatch_call, settle_call, take_call, read_call, write_call, close_call, front_taken, look_call, accept_call, reject_call, let_go_call, verdict_call, bytes_in, received_in}
use Rattle.history.specs.Seen.{Seen}
use Rattle.history.specs.Book.{Book, no_book, accepted_b, handed_b, sent_b, closed_b, over_b, settle_b, gone_book, is_refused, is_early, header_at, payload_at, is_wrte, is_clse, own_end, closes_b, wrte_b, frame_b, damaged_b, packet_b, read_used_b, read_b, write_b, is_on, never, ends_open, ends_other, entry_on}
use Rattle.ends.proofs.Amounts.{writes-to}
use Rattle.ends.proofs.Joint.{is-to, bytes-in}
use Rattle.std.specs.Prelude.{Option, Some, None}

-- what a call used of the received bytes: nothing, or a packet, undamaged
pub data Uses (received : List ℕ) (o : Seen) : Option Sent → Type 0 where
  nothing : o.used ≡ 0 → Uses received o None
  packet : (f : Sent) → eqb o.used 0 ≡ false → eqb o.number 4 ≡ false → is_early o.number ≡ false → is_wrte (header_at received) ≡ is_write f.command
      → (header_at received).arg1 ≡ f.arg1 → payload_at received o.used ≡ f.payload → Uses received o (Some f)

-- the book c of a channel whose book was b
pub record Moves (got : Option Sent) (number : ℕ) (b c : Book) : Type 0 where
  pub local : c.local ≡ b.local
  pub remote : c.remote ≡ b.remote
  pub opening : c.opening ≡ b.opening
  pub acked : c.acked ≡ b.acked
  pub other : is-to b.local got ≡ false → (c.accepted ≡ b.accepted) × ((c.sent ≡ b.sent) × (c.kept ≡ b.kept))
  pub sends : is-to b.local got ≡ true → (c.sent ≡ b.sent + length (bytes-in got)) × (c.kept ≡ (b.kept && ltb b.sent (b.opening + b.acked)))
  pub takes : is-to b.local got ≡ true → is_refused number ≡ false → c.accepted ≡ b.accepted ++ bytes-in got
  pub closed : c.closed ≡ false → b.closed ≡ false
  -- one that was refused
  pub overs : is-to b.local got ≡ true → is_refused number ≡ true → c.over ≡ (b.over || eqb number 11)
  pub refuses : is-to b.local got ≡ true → is_refused number ≡ true → c.accepted ≡ b.accepted

module _ (got : Option Sent) (number : ℕ) where
  -- no WRTE to it is used, and c differs from b in being closed at most
  moves-rest : (b c : Book) → closed_b c ≡ closed_b b → (c.closed ≡ false → b.closed ≡ false) → is-to b.local got ≡ false → Moves got number b c
  moves-rest b c same live e =
      record {
        local = ap (λ (x : Book). x.local) same;
        remote = ap (λ (x : Book). x.remote) same;
        opening = ap (λ (x : Book). x.opening) same;
        acked = ap (λ (x : Book). x.acked) same;
        other = λ t. (ap (λ (x : Book). x.accepted) same, (ap (λ (x : Book). x.sent) same, ap (λ (x : Book). x.kept) same));
        sends = λ t. absurd (true≢false (sym t ∙ e));
        takes = λ t. absurd (true≢false (sym t ∙ e));
        overs = λ t. absurd (true≢false (sym t ∙ e));
        refuses = λ t. absurd (true≢false (sym t ∙ e));
        closed = live;
      }

  moves-same : (b : Book) → is-to b.local got ≡ false → Moves got number b b
  moves-same b e = moves-rest b b refl (λ t. t) e

  moves-closed : (b : Book) → is-to b.local got ≡ false → Moves got number b (closed_b b)
  moves-closed b e = moves-rest b (closed_b b) refl (λ t. absurd (true≢false t)) e

  moves-wrte : (b : Book) (bs : List ℕ) → is-to b.local got ≡ true → bs ≡ bytes-in got → Moves got number b (wrte_b b.acked bs number b)
  moves-wrte b bs e q =
      let refused : Book = over_b (eqb number 11) (sent_b b.acked (length bs) b) in
      let taken : Book = accepted_b bs (sent_b b.acked (length bs) b) in
      by-test (is_refused number)
      (λ t. subst (Moves got number b) (sym (cond-true (is_refused number) refused taken t))
      (record {
        local = refl;
        remote = refl;
        opening = refl;
        acked = refl;
        other = λ n. absurd (true≢false (sym e ∙ n));
        sends = λ n. (ap (λ (x : List ℕ). b.sent + length x) q, refl);
        takes = λ n r. absurd (true≢false (sym t ∙ r));
        overs = λ n r. refl;
        refuses = λ n r. refl;
        closed = λ n. n;
      }))
      (λ t. subst (Moves got number b) (sym (cond-false (is_refused number) refused taken t))
      (record {
        local = refl;
        remote = refl;
        opening = refl;
        acked = refl;
        other = λ n. absurd (true≢false (sym e ∙ n));
        sends = λ n. (ap (λ (x : List ℕ). b.sent + length x) q, refl);
        takes = λ n r. ap (λ (x : List ℕ). b.accepted ++ x) q;
        overs = λ n r. absurd (true≢false (sym r ∙ t));
        refuses = λ n r. absurd (true≢false (sym r ∙ t));
        closed = λ n. n;
      }))

  -- what is handed over and set aside is none of it
  moves-handed : (bs : List ℕ) (b c : Book) → Moves got number b c → Moves got number b (handed_b bs c)
  moves-handed bs b c m =
      record { local = m.local; remote = m.remote; opening = m.opening; acked = m.acked; other = m.other; sends = m.sends; takes = m.takes; overs = m.overs; refuses = m.refuses; closed = m.closed }

  moves-settled : (p : RxPolicy) (want : ℕ) (b c : Book) → Moves got number b c → Moves got number b (settle_b p want c)
  moves-settled p want b c m =
      record { local = m.local; remote = m.remote; opening = m.opening; acked = m.acked; other = m.other; sends = m.sends; takes = m.takes; overs = m.overs; refuses = m.refuses; closed = m.closed }

  settled-moves : (p : RxPolicy) (want : ℕ) (b c : Book) → Moves got number (settle_b p want b) c → Moves got number b c
  settled-moves p want b c m =
      record { local = m.local; remote = m.remote; opening = m.opening; acked = m.acked; other = m.other; sends = m.sends; takes = m.takes; overs = m.overs; refuses = m.refuses; closed = m.closed }

-- ---- a packet

-- a CLSE is no WRTE
clse-write : (m : Message) → is_clse m ≡ true → is_wrte m ≡ false
unfolding word_of letters_of num_of
clse-write m e = ap (λ (x : ℕ). eqb x (word_of Write)) (eqb-true m.command (word_of Close) e)

none-wrte : is_wrte (header_at []) ≡ false
unfolding message_of word_of letters_of num_of part
none-wrte = refl

module _ (p : RxPolicy) (d : List Book) (i : ℕ) (o : Seen) (received : List ℕ) (f : Sent) (used : eqb o.used 0 ≡ false) (four : eqb o.number 4 ≡ false) (late : is_early o.number ≡ false)
    (wr : is_wrte (header_at received) ≡ is_write f.command) (ar : (header_at received).arg1 ≡ f.arg1) (pay : payload_at received o.used ≡ f.payload) where
  abbrev m : Message
  m = header_at received

  abbrev G : Book → Book → Type 0
  G b c = Moves (Some f) o.number b c

  own-is : (l : ℕ) → (is_wrte m && eqb m.arg1 l) ≡ writes-to l f
  own-is l = ap₂ (λ (x : Bool) (y : ℕ). x && eqb y l) wr ar

  end-not-to : (l : ℕ) → is_clse m ≡ true → is-to l (Some f) ≡ false
  end-not-to l e = sym (own-is l) ∙ ap (λ (x : Bool). x && eqb m.arg1 l) (clse-write m e)

  frame-moves : (b : Book) → G b (frame_b d i b.acked m (payload_at received o.used) o.number b)
  unfolding frame_b
  frame-moves b =
      by-test (is_wrte m && eqb m.arg1 b.local)
      (λ t. subst (G b) (sym (cond-true (is_wrte m && eqb m.arg1 b.local) (wrte_b b.acked (payload_at received o.used) o.number b) _ t))
      (moves-wrte (Some f) o.number b (payload_at received o.used) (sym (own-is b.local) ∙ t) pay))
      (λ t. let no = sym (own-is b.local) ∙ t in
      subst (G b) (sym (cond-false (is_wrte m && eqb m.arg1 b.local) (wrte_b b.acked (payload_at received o.used) o.number b) _ t))
      (pick (G b) (closes_b d i b m) (λ u. moves-closed (Some f) o.number b no) (λ u. moves-same (Some f) o.number b no)))

  packet-moves : (mine : Message → Bool) → (mine m ≡ true → is_clse m ≡ true) → (b : Book) → G b (packet_b d i received mine o b)
  unfolding packet_b
  packet-moves mine ends b =
      let rest : Book = cond (mine m) b (frame_b d i b.acked m (payload_at received o.used) o.number b) in
      subst (G b) (sym (cond-false (eqb o.used 0) b _ used ∙ cond-false (eqb o.number 4) (damaged_b b.acked m (payload_at received o.used) b) rest four))
      (by-test (mine m)
      (λ t. subst (G b) (sym (cond-true (mine m) b _ t)) (moves-same (Some f) o.number b (end-not-to b.local (ends t))))
      (λ t. subst (G b) (sym (cond-false (mine m) b _ t)) (frame-moves b)))

  own-end-clse : (x y : ℕ) → own_end x y m ≡ true → is_clse m ≡ true
  own-end-clse x y e = (and-true (is_clse m) (named_by (record { local = record { 0 = x }; remote = record { 0 = y } }) m.arg0 m.arg1) e).0

  used-moves : (room : ℕ) (b : Book) → G b (read_used_b p d i b.acked room received o b)
  unfolding read_used_b
  used-moves room b =
      let n = is_wrte m && eqb m.arg1 b.local in
      let fits = leb (o.used - 24) room in
      let straight : Book = handed_b o.got (wrte_b b.acked (payload_at received o.used) o.number b) in
      let acts : Book = handed_b o.got (settle_b p room (frame_b d i b.acked m (payload_at received o.used) o.number b)) in
      let ended : Book = cond (own_end b.local b.remote m) (closed_b b) acts in
      subst (G b) (sym (cond-false (eqb o.number 4) (damaged_b b.acked m (payload_at received o.used) b) (cond (n && fits) straight ended) four))
      (by-test (n && fits)
      (λ t. subst (G b) (sym (cond-true (n && fits) straight ended t))
      (moves-handed (Some f) o.number o.got b _ (moves-wrte (Some f) o.number b (payload_at received o.used) (sym (own-is b.local) ∙ (and-true n fits t).0) pay)))
      (λ t. subst (G b) (sym (cond-false (n && fits) straight ended t))
      (by-test (own_end b.local b.remote m)
      (λ u. subst (G b) (sym (cond-true (own_end b.local b.remote m) (closed_b b) acts u)) (moves-closed (Some f) o.number b (end-not-to b.local (own-end-clse b.local b.remote u))))
      (λ u. subst (G b) (sym (cond-false (own_end b.local b.remote m) (closed_b b) acts u))
      (moves-handed (Some f) o.number o.got b _ (moves-settled (Some f) o.number p room b _ (frame-moves b)))))))

  read-moves : (room : ℕ) (b : Book) → G b (read_b p d i room received o b)
  unfolding read_b
  read-moves room b =
      let w : Book = handed_b o.got (settle_b p room b) in
      let u : Book = read_used_b p d i b.acked room received o (settle_b p room b) in
      subst (G b) (sym (cond-false (is_early o.number) b (cond (eqb o.used 0) w u) late ∙ cond-false (eqb o.used 0) w u used))
      (settled-moves (Some f) o.number p room b u (used-moves room (settle_b p room b)))

  write-moves : (b : Book) → G b (write_b d i received o b)
  unfolding write_b
  write-moves b =
      let acts : Book = frame_b d i b.acked m (payload_at received o.used) o.number b in
      let rest : Book = cond (own_end b.local b.remote m) (closed_b b) acts in
      subst (G b) (sym (cond-false (eqb o.used 0) b _ used ∙ cond-false (eqb o.number 4) (damaged_b b.acked m (payload_at received o.used) b) rest four))
      (by-test (own_end b.local b.remote m)
      (λ u. subst (G b) (sym (cond-true (own_end b.local b.remote m) (closed_b b) acts u)) (moves-closed (Some f) o.number b (end-not-to b.local (own-end-clse b.local b.remote u))))
      (λ u. subst (G b) (sym (cond-false (own_end b.local b.remote m) (closed_b b) acts u)) (frame-moves b)))

  open-ends-clse : (number : ℕ) → ends_open number m ≡ true → is_clse m ≡ true
  open-ends-clse number e = (and-true (is_clse m) (is_refused number) e).0

  other-ends-clse : (ch : ChannelId) → ends_other d ch m ≡ true → is_clse m ≡ true
  other-ends-clse ch e = own-end-clse ch.local.0 (get_or d ch.slot no_book).remote e

-- ---- no packet

module _ (p : RxPolicy) (d : List Book) (i : ℕ) (o : Seen) (used : o.used ≡ 0) where
  abbrev N : Book → Book → Type 0
  N b c = Moves None o.number b c

  unused : eqb o.used 0 ≡ true
  unused = ap (λ (x : ℕ). eqb x 0) used

  packet-none : (received : List ℕ) (mine : Message → Bool) (b : Book) → N b (packet_b d i received mine o b)
  unfolding packet_b
  packet-none received mine b = subst (N b) (sym (cond-true (eqb o.used 0) b _ unused)) (moves-same None o.number b refl)

  read-none : (room : ℕ) (received : List ℕ) (b : Book) → N b (read_b p d i room received o b)
  unfolding read_b
  read-none room received b =
      pick (N b) (is_early o.number) (λ t. moves-same None o.number b refl)
      (λ t. subst (N b) (sym (cond-true (eqb o.used 0) (handed_b o.got (settle_b p room b)) _ unused))
      (moves-handed None o.number o.got b _ (moves-settled None o.number p room b b (moves-same None o.number b refl))))

  write-none : (received : List ℕ) (b : Book) → N b (write_b d i received o b)
  unfolding write_b
  write-none received b = subst (N b) (sym (cond-true (eqb o.used 0) b _ unused)) (moves-same None o.number b refl)

-- ---- each call

-- a call that looks at no received bytes
bare-to : (o : Seen) (got : Option Sent) → Uses [] o got → (l : ℕ) → is-to l got ≡ false
bare-to o None (nothing e) l = refl
bare-to o (Some f) (packet g a b c wr ar pay) l = ap (λ (x : Bool). x && eqb g.arg1 l) (sym wr ∙ none-wrte)

module _ (p : RxPolicy) (d : List Book) (i : ℕ) (o : Seen) (b : Book) where
  packet-by : (received : List ℕ) (mine : Message → Bool) → (mine (header_at received) ≡ true → is_clse (header_at received) ≡ true) → (got : Option Sent) → Uses received o got
      → Moves got o.number b (packet_b d i received mine o b)
  packet-by received mine ends None (nothing e) = packet-none p d i o e received mine b
  packet-by received mine ends (Some f) (packet g x y z wr ar pay) = packet-moves p d i o received f x y z wr ar pay mine ends b

  read-by : (room : ℕ) (received : List ℕ) (got : Option Sent) → Uses received o got → Moves got o.number b (read_b p d i room received o b)
  read-by room received None (nothing e) = read-none p d i o e room received b
  read-by room received (Some f) (packet g x y z wr ar pay) = read-moves p d i o received f x y z wr ar pay room b

  write-by : (received : List ℕ) (got : Option Sent) → Uses received o got → Moves got o.number b (write_b d i received o b)
  write-by received None (nothing e) = write-none p d i o e received b
  write-by received (Some f) (packet g x y z wr ar pay) = write-moves p d i o received f x y z wr ar pay b

module _ (p : RxPolicy) (d : List Book) (i : ℕ) (o : Seen) (got : Option Sent) (b : Book) where
  bare-moves : Uses [] o got → Moves got o.number b b
  bare-moves u = moves-same got o.number b (bare-to o got u b.local)

  own-ends : (x y : ℕ) (m : Message) → own_end x y m ≡ true → is_clse m ≡ true
  own-ends x y m e = (and-true (is_clse m) (named_by (record { local = record { 0 = x }; remote = record { 0 = y } }) m.arg0 m.arg1) e).0

  -- of a channel that is there after it
  pub entry-moves : (c : Call) → Uses (received_in c) o got → (entry_on p d i c o b).there ≡ true → Moves got o.number b (entry_on p d i c o b)
  unfolding entry_on received_in
  entry-moves (open_call out destination received) u t =
      packet-by p d i o b (bytes_in received) (ends_open o.number) (λ e. (and-true (is_clse (header_at (bytes_in received))) (is_refused o.number) e).0) got u
  entry-moves (dispatch_call out received) u t = packet-by p d i o b (bytes_in received) never (λ e. absurd (true≢false (sym e))) got u
  entry-moves (settle_call out ch want) u t =
      pick (Moves got o.number b) (is_on i b ch && not (is_early o.number)) (λ q. moves-settled got o.number p want b b (bare-moves u)) (λ q. bare-moves u)
  entry-moves (take_call ch buf) u t = pick (Moves got o.number b) (is_on i b ch) (λ q. moves-handed got o.number o.got b b (bare-moves u)) (λ q. bare-moves u)
  entry-moves (read_call out ch buf received) u t =
      pick (Moves got o.number b) (is_on i b ch) (λ q. read-by p d i o b (length buf) (bytes_in received) got u)
      (λ q. packet-by p d i o b (bytes_in received) (ends_other d ch) (own-ends ch.local.0 (get_or d ch.slot no_book).remote (header_at (bytes_in received))) got u)
  entry-moves (write_call spending out ch bytes received) u t =
      pick (Moves got o.number b) (is_on i b ch) (λ q. write-by p d i o b (bytes_in received) got u)
      (λ q. packet-by p d i o b (bytes_in received) (ends_other d ch) (own-ends ch.local.0 (get_or d ch.slot no_book).remote (header_at (bytes_in received))) got u)
  entry-moves (close_call out ch) u t =
      by-test (is_on i b ch && not (is_refused o.number))
      (λ q. absurd (true≢false (sym t ∙ ap (λ (x : Book). x.there) (cond-true (is_on i b ch && not (is_refused o.number)) (gone_book b) b q))))
      (λ q. subst (Moves got o.number b) (sym (cond-false (is_on i b ch && not (is_refused o.number)) (gone_book b) b q)) (bare-moves u))
  entry-moves front_taken u t = bare-moves u
  entry-moves (look_call x) u t = bare-moves u
  entry-moves (accept_call out) u t = bare-moves u
  entry-moves (reject_call out) u t = bare-moves u
  entry-moves let_go_call u t = bare-moves u
  entry-moves (verdict_call out take remote credit) u t = bare-moves u
