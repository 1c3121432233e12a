-- One call beside the book of one place: the call's steps, what it fills or empties, and the OKAYs that it wrote, together.
-- Assumes nothing.
use mathlib.Core.Path.{◌≡◌, refl, sym, ap, ap₂, subst, ◌∙◌}
use mathlib.Core.Bool.{Bool, true, false, not, cond, ◌&&◌, true≢false}
use mathlib.Core.List.{List, [], map, ◌∷◌}
use Prim.Native.Nat.{ℕ, ◌-◌, ◌^◌, ◌<◌, min}
use native.Mathlib.Omega.{arith}
use lib.Dec.{eqb}
use lib.ListN.{length, get_or, set, take, drop}
use Rattle.le.specs.Le.{part}
use borrow.Author.Tests.{eqb-true, eqb-false}
use Rattle.le.proofs.Parts.{by-test}
use Rattle.config.specs.declared.negotiated.RxPolicy.{RxPolicy}
use Rattle.config.proofs.Laws.{and-true}
use Rattle.incoming.specs.Incoming.{popped}
use Rattle.slot.specs.declared.ids.RemoteId.{RemoteId}
use Rattle.slot.specs.declared.ChannelSlot.{ChannelSlot}
use Rattle.slot.specs.declared.Spending.{Spending}
use Rattle.slot.specs.Slot.{empty_slot, emptied_slot, taken_of, accepted_slot}
use Rattle.slot.proofs.Kept.{pick}
use Rattle.slot.proofs.Laws.{cond-true, cond-false}
use Rattle.state.specs.declared.Header.{Header}
use Rattle.state.specs.Change.{Change}
use Rattle.state.specs.State.{is_ours}
use Rattle.table.specs.declared.ChannelId.{ChannelId}
use Rattle.table.specs.Table.{slot_in, allocated}
use Rattle.rx_store.specs.RxStore.{share_of}
use Rattle.connection.specs.declared.Answer.{Answer}
use Rattle.connection.specs.declared.Answer.TheVariants.{Done, Opened, Refused}
use Rattle.connection.specs.declared.Refusal.{Refusal}
use Rattle.connection.specs.Answer.{refusal_number, answer_number, answer_values}
use Rattle.connection.specs.Calls.{looked, Lent, Outcome, begun, dropped, ends, untouched, policy, body_of, is_there, slot_for, dispatch_step, settle_step, taken_by, take_step, read_step, write_step, close_step, take_front_by, take_front_step, open_step, is_offered, reject_on, accept_step, reject_step, let_go_step, verdict_step}
use Rattle.connection.specs.Frames.{Sent, okay_frame}
use Rattle.history.specs.Run.{Call, open_call, dispatch_call, settle_call, take_call, read_call, write_call, close_call, front_taken, look_call, Look, accept_call, reject_call, let_go_call, verdict_call, bytes_in}
use Rattle.history.specs.Seen.{Seen}
use Rattle.history.specs.Book.{granted_b, header_at, new_book, Book, no_book, gone_book, is_on, is_early, is_refused, settle_b, acked_b, read_b, write_b, packet_b, acks_of, acks_b, entry_on, opened_b, book_after, acking, okay_remote, okay_credit}
use Rattle.history.specs.Demand3.{run_of}
use Rattle.history.specs.NoLeak.{NoTake}
use Rattle.history.proofs.Acts.{acks_in, good-by}
use Rattle.history.proofs.Entries.{on, dispatch-good, settle-call, take-call, read-call, write-call, close-this, close-else, front-call, reject-on, reject-call, let-go-call}
use Rattle.history.proofs.Marks.{there-filled, Mark, Tame, tame-at, dispatch-tame, settle-tame, take-tame, read-tame, write-tame, front-tame, reject-tame-on, reject-tame, let-go-tame}
use Rattle.history.proofs.Good.{Terms, Tally, Good, Limits, Leaves, new-good, acked-none, handed-none}
use Rattle.history.proofs.Packets.{Marked, reads-arg0}
use Rattle.connection.proofs.Slots.{slots_by, slot-set-same, slot-set-other}
use Rattle.history.proofs.Places.{TableOk}
use Rattle.history.proofs.Opens.{and-false, refused-is, refused-some, open-call, Opens, fills, leaves, opens}
use Rattle.history.proofs.Steps.{saw, saw_of, Fine}
use Rattle.history.proofs.Accepts.{Accepts, takes, declines, taken_ids, allocated-inside, accepts-on, accepts, accepted-good, heard-remote, heard-credit}
use Rattle.config.specs.Negotiated.{offered_credit}
use Rattle.connection.proofs.Sending.{sent_of}
use Rattle.slot.specs.declared.ChannelError.{ChannelError}
use Rattle.std.specs.Prelude.{Option, Some, None, Result, Ok, Err}
use Rattle.state.specs.declared.QueuedOpen.{QueuedOpen}

run_none : (rx : List ℕ) (cap i : ℕ) (s : ChannelSlot) → s.buffered ≡ 0 → run_of rx cap i s ≡ []
unfolding run_of part
run_none rx cap i s e = ap (λ (n : ℕ). take n (drop s.head (share_of rx cap i))) e

-- a place with no channel, whose total is that of the last one
pub record Vacant (p : RxPolicy) (counts : Bool) (s : ChannelSlot) (b : Book) : Type 0 where
  pub gone : b.there ≡ false
  pub known : s.has_remote ≡ false
  pub tally : Tally p counts s.acked_total b.acked

-- the same of a slot and a book that are the same in these
vacant-by : (p : RxPolicy) (q : Bool) (s t : ChannelSlot) (b c : Book) → Vacant p q s b → t.has_remote ≡ s.has_remote → cond t.has_remote 0 t.acked_total ≡ cond s.has_remote 0 s.acked_total → c ≡ b → Vacant p q t c
vacant-by p q s t b c v e f g =
    let k = e ∙ v.known in
    let total : t.acked_total ≡ s.acked_total = sym (cond-false t.has_remote 0 _ k) ∙ f ∙ cond-false s.has_remote 0 _ v.known in
    record {
      gone = ap (λ (x : Book). x.there) g ∙ v.gone;
      known = k;
      tally =
          record {
            delayed = λ u d. total ∙ v.tally.delayed u d ∙ ap (λ (x : Book). min x.acked (2 ^ 64 - 1)) (sym g);
            plain = λ d. total ∙ v.tally.plain d;
          };
    }

-- of a slot that stays
vacant-stays : (p : RxPolicy) (q : Bool) (s t : ChannelSlot) (b c : Book) → Vacant p q s b → t ≡ s → c ≡ b → Vacant p q t c
vacant-stays p q s t b c v e g = vacant-by p q s t b c v (ap (λ (z : ChannelSlot). z.has_remote) e) (ap (λ (z : ChannelSlot). cond z.has_remote 0 z.acked_total) e) g

-- where there never was one
pub vacant-fresh : (p : RxPolicy) (q : Bool) (s : ChannelSlot) (b : Book) → s ≡ empty_slot → b ≡ no_book → Vacant p q s b
unfolding empty_slot
vacant-fresh p q s b e g =
    subst (λ (x : ChannelSlot). Vacant p q x b) (sym e)
    (subst (Vacant p q empty_slot) (sym g) (record { gone = refl; known = refl; tally = record { delayed = λ u d. omega arith; plain = λ d. refl } }))

-- what is kept of one place, between calls
pub record KeptAt (p : RxPolicy) (credit : Terms) (i : ℕ) (ss : List ChannelSlot) (rx : List ℕ) (b : Book) : Type 0 where
  pub full : (slot_in ss i).filled ≡ true → Good p credit (slot_in ss i) (run_of rx p.rx_cap i (slot_in ss i)) b
  pub none : (slot_in ss i).filled ≡ false → Vacant p credit.counts (slot_in ss i) b

-- the same after an outcome
abbrev pub KeptBy : RxPolicy → Terms → ℕ → List ChannelSlot → Outcome → Book → Type 0
KeptBy p credit i ss x b = KeptAt p credit i (slots_by ss x.changes) x.rx b

-- the OKAYs counted last, of a channel that is there and keeps its number; of none
acks-there : (fs : List Sent) (b : Book) (n : ℕ) → b.there ≡ true → b.local ≡ n → acks_b fs b ≡ acked_b (acks_of n fs) b
unfolding acks_b
acks-there fs b n t e = cond-true b.there _ _ t ∙ ap (λ (x : ℕ). acked_b (acks_of x fs) b) e

acks-gone : (fs : List Sent) (b : Book) → b.there ≡ false → acks_b fs b ≡ b
unfolding acks_b
acks-gone fs b t = cond-false b.there _ _ t

-- where no credit was written, none is acknowledged
acking-none : (c : Call) (fs : List Sent) (n : ℕ) → acks_of n fs ≡ 0 → acks_of n (acking c fs) ≡ 0
unfolding acks_of
acking-none (open_call out destination received) fs n e = e
acking-none (dispatch_call out received) fs n e = e
acking-none (settle_call out ch want) fs n e = e
acking-none (take_call ch buf) fs n e = e
acking-none (read_call out ch buf received) fs n e = e
acking-none (write_call spending out ch bytes received) fs n e = e
acking-none (close_call out ch) fs n e = e
acking-none front_taken fs n e = e
acking-none (look_call x) fs n e = e
acking-none (accept_call out) fs n e = refl
acking-none (reject_call out) fs n e = e
acking-none let_go_call fs n e = e
acking-none (verdict_call out take remote credit) fs n e = pick (λ (gs : List Sent). acks_of n gs ≡ 0) take (λ t. refl) (λ t. e)

module _ (p : RxPolicy) (credit : Terms) (i : ℕ) (ss : List ChannelSlot) (rx : List ℕ) (books : List Book) (asked : ℕ) (b : Book) (k : KeptAt p credit i ss rx b) where
  abbrev here : Book → Type 0
  here c = Good p credit (slot_in ss i) (run_of rx p.rx_cap i (slot_in ss i)) c

  -- the book of a place with no channel, where none is filled
  gone : (call : Call) (o : Seen) → b.there ≡ false → opened_b i asked call o b ≡ b → book_after p books asked call o i b ≡ b
  unfolding book_after
  gone call o n e =
      let z : opened_b i asked call o (cond b.there (entry_on p books i call o b) b) ≡ b = ap (opened_b i asked call o) (cond-false b.there _ _ n) ∙ e in
      ap (acks_b (acking call o.sent)) z ∙ acks-gone (acking call o.sent) b n

  -- that of a channel that stays
  stays : (call : Call) (x : Outcome) (fs : List Sent) → Good p credit (slot_in ss i) (run_of rx p.rx_cap i (slot_in ss i)) b → (slot_in (slots_by ss x.changes) i).local.0 ≡ (slot_in ss i).local.0
      → ((c : Book) → opened_b i asked call (saw_of x fs) c ≡ c)
      → Fine p credit ss i x (acked_b (acks_of b.local (acking call fs)) (entry_on p books i call (saw_of x fs) b)) → Fine p credit ss i x (book_after p books asked call (saw_of x fs) i b)
  unfolding book_after
  stays call x fs g el eo f =
      let o = saw_of x fs in
      let c = entry_on p books i call o b in
      good-by p credit _ _ _ _ _ _ refl refl
      (ap (acks_b (acking call fs)) (eo _ ∙ cond-true b.there _ _ g.there) ∙ acks-there (acking call fs) c b.local f.there (f.loc ∙ el ∙ sym g.loc)) f

  -- a call that fills and empties no slot
  pub plain-kept : (call : Call) (x : Outcome) (fs : List Sent) → Tame ss x.changes → ((c : Book) → opened_b i asked call (saw_of x fs) c ≡ c)
      → (here b → (slot_in ss i).filled ≡ true → Fine p credit ss i x (acked_b (acks_of b.local (acking call fs)) (entry_on p books i call (saw_of x fs) b)))
      → KeptBy p credit i ss x (book_after p books asked call (saw_of x fs) i b)
  plain-kept call x fs t eo ef =
      let m = tame-at ss x.changes t i in
      let fi = ap (λ (y : Mark). y.filled) m in
      record {
        full = λ f. let f0 = sym fi ∙ f in let g = k.full f0 in stays call x fs g (ap (λ (y : Mark). y.local) m) eo (ef g f0);
        none = λ f.
            let v = k.none (sym fi ∙ f) in
            vacant-by p _ _ _ b _ v (ap (λ (y : Mark). y.known) m) (ap (λ (y : Mark). y.left) m) (gone call (saw_of x fs) v.gone (eo b));
      }

  -- a refusal by 8, 9 or 13
  early-good : (call : Call) (r : Refusal) (fs : List Sent) → is_early (answer_number (Refused r)) ≡ true → here b → here (entry_on p books i call (saw (Refused r) 0 fs []) b)
  unfolding entry_on packet_b write_b read_b answer_number
  early-good (open_call out destination received) r fs e g = g
  early-good (dispatch_call out received) r fs e g = g
  early-good (settle_call out ch want) r fs e g =
      good-by p credit _ _ _ _ b _ refl refl (ap (λ (t : Bool). cond (is_on i b ch && not t) (settle_b p want b) b) e ∙ ap (λ (t : Bool). cond t (settle_b p want b) b) (and-false (is_on i b ch))) g
  early-good (take_call ch buf) r fs e g = pick here (is_on i b ch) (λ t. handed-none p credit _ _ b g) (λ t. g)
  early-good (read_call out ch buf received) r fs e g =
      pick here (is_on i b ch) (λ t. good-by p credit _ _ _ _ b _ refl refl (cond-true (is_early (refusal_number r)) _ _ e) g) (λ t. g)
  early-good (write_call spending out ch bytes received) r fs e g = pick here (is_on i b ch) (λ t. g) (λ t. g)
  early-good (close_call out ch) r fs e g =
      good-by p credit _ _ _ _ b _ refl refl (ap (λ (t : Bool). cond (is_on i b ch && not t) (gone_book b) b) (refused-is r) ∙ ap (λ (t : Bool). cond t (gone_book b) b) (and-false (is_on i b ch))) g
  early-good front_taken r fs e g = g
  early-good (look_call y) r fs e g = g
  early-good (accept_call out) r fs e g = g
  early-good (reject_call out) r fs e g = g
  early-good let_go_call r fs e g = g
  early-good (verdict_call out take remote credit) r fs e g = g

  refused-granted : (r : Refusal) (fs : List Sent) (c : Book) → granted_b i (saw (Refused r) 0 fs []) c ≡ c
  unfolding answer_number
  refused-granted r fs c = cond-false _ _ c (ap (λ (t : Bool). t && eqb (get_or (answer_values (Refused r)) 0 0) i) (refused-some r))

  refused-opened : (call : Call) (r : Refusal) (fs : List Sent) (c : Book) → opened_b i asked call (saw (Refused r) 0 fs []) c ≡ c
  unfolding opened_b answer_number
  refused-opened (open_call out destination received) r fs c =
      cond-false _ _ c (ap (λ (t : Bool). t && eqb (get_or (answer_values (Refused r)) 0 0) i) (refused-some r))
  refused-opened (dispatch_call out received) r fs c = refl
  refused-opened (settle_call out ch want) r fs c = refl
  refused-opened (take_call ch buf) r fs c = refl
  refused-opened (read_call out ch buf received) r fs c = refl
  refused-opened (write_call spending out ch bytes received) r fs c = refl
  refused-opened (close_call out ch) r fs c = refl
  refused-opened front_taken r fs c = refl
  refused-opened (look_call y) r fs c = refl
  refused-opened (accept_call out) r fs c = refused-granted r fs c
  refused-opened (reject_call out) r fs c = refl
  refused-opened let_go_call r fs c = refl
  refused-opened (verdict_call out take remote credit) r fs c = pick (λ (x : Book). x ≡ c) take (λ t. refused-granted r fs c) (λ t. refl)

  pub early-kept : (call : Call) (l : Lent) (r : Refusal) (fs : List Sent) → l.rx ≡ rx → is_early (answer_number (Refused r)) ≡ true → ((n : ℕ) → acks_of n fs ≡ 0)
      → KeptBy p credit i ss (untouched l r) (book_after p books asked call (saw_of (untouched l r) fs) i b)
  early-kept call l r fs er e z =
      plain-kept call (untouched l r) fs tt (refused-opened call r fs)
      (λ g f. good-by p credit _ _ _ _ _ _ refl (ap (λ (x : List ℕ). run_of x p.rx_cap i (slot_in ss i)) er) refl
      (acked-none p credit _ _ _ (early-good call r fs e g) (acks_of b.local (acking call fs)) (acking-none call fs b.local (z b.local))))

-- ---- each call, once it is not refused by 8, 9 or 13

module _ (credit : Terms) (l : Lent) (ok : TableOk (policy l) l.state.header.negotiated.config.channels l.state.slots l.rx)
    (lim : Limits (policy l) credit l.state.header.negotiated.config.max_payload)
    (apart : is_ours l.state.header.pending.what ≡ true → (slot_in l.state.slots l.state.header.pending.slot).filled ≡ false)
    (placed : is_ours l.state.header.pending.what ≡ true → l.state.header.pending.slot < 64)
    (books : List Book) (mk : Marked books l.state.slots) (asked : ℕ)
    (asks : is_ours l.state.header.pending.what ≡ true → (policy l).delayed ≡ true → asked ≡ credit.credit)
    (i : ℕ) (b : Book) (k : KeptAt (policy l) credit i l.state.slots l.rx b) where
  abbrev p : RxPolicy
  p = policy l

  abbrev ws : List ChannelSlot
  ws = l.state.slots

  -- the frames that a caller reads are the outcome's, and so is their credit
  pub record Hears (x : Outcome) (fs : List Sent) : Type 0 where
    pub acks : (n : ℕ) → acks_of n fs ≡ acks_in (policy l) n x.frames
    pub sent : fs ≡ map (sent_of l.state.header.negotiated) x.frames

  abbrev pub Follows : Call → Outcome → Type 0
  Follows call x = (fs : List Sent) → Hears x fs → KeptBy p credit i ws x (book_after p books asked call (saw_of x fs) i b)

  pub early-follows : (call : Call) (r : Refusal) → is_early (answer_number (Refused r)) ≡ true → Follows call (untouched l r)
  early-follows call r e fs hs = early-kept p credit i ws l.rx books asked b k call l r fs refl e hs.acks

  pub dispatch-follows : (out received : List ℕ) → Follows (dispatch_call out received) (dispatch_step l (bytes_in received))
  unfolding opened_b entry_on
  dispatch-follows out received fs hs =
      plain-kept p credit i ws l.rx books asked b k (dispatch_call out received) (dispatch_step l (bytes_in received)) fs (dispatch-tame l ok (bytes_in received)) (λ c. refl)
      (λ g f. dispatch-good l credit ok lim i f b g books mk (bytes_in received) fs (hs.acks b.local))

  pub settle-follows : (out : List ℕ) (ch : ChannelId) (want : ℕ) → Follows (settle_call out ch want) (settle_step l ch want)
  unfolding opened_b entry_on
  settle-follows out ch want fs hs =
      plain-kept p credit i ws l.rx books asked b k (settle_call out ch want) (settle_step l ch want) fs (settle-tame l ok ch want) (λ c. refl)
      (λ g f. settle-call l credit ok lim i f b g books mk ch want fs (hs.acks b.local))

  -- a take writes nothing
  taken-silent : (n : ℕ) (ch : ChannelId) (s : ChannelSlot) (y : Result (Option (ChannelSlot × ℕ)) ChannelError) → acks_in p n (taken_by l ch s (begun (dropped l.state.header) l) y).frames ≡ 0
  unfolding taken_by ends
  taken-silent n ch s (Ok (Some (t, m))) = refl
  taken-silent n ch s (Ok None) = refl
  taken-silent n ch s (Err e) = refl

  take-silent : (n : ℕ) (ch : ChannelId) (room : ℕ) → acks_in p n (take_step l ch room).frames ≡ 0
  unfolding take_step ends
  take-silent n ch room = pick (λ (x : Outcome). acks_in p n x.frames ≡ 0) (is_there l ch) (λ t. taken-silent n ch (slot_for l ch) (taken_of (slot_for l ch) room)) (λ t. refl)

  pub take-follows : (ch : ChannelId) (buf : List ℕ) → (credit.reads ≡ true → NoTake i (take_call ch buf)) → Follows (take_call ch buf) (take_step l ch (length buf))
  unfolding opened_b entry_on
  take-follows ch buf only fs hs =
      plain-kept p credit i ws l.rx books asked b k (take_call ch buf) (take_step l ch (length buf)) fs (take-tame l ok ch (length buf)) (λ c. refl)
      (λ g f. acked-none p credit _ _ _
      (take-call l credit ok lim i f b g books mk (length buf) ch (λ o t. only t (eqb-true ch.slot i (and-true (eqb ch.slot i) (eqb b.local ch.local.0) o).0)))
      (acks_of b.local fs) (hs.acks b.local ∙ take-silent b.local ch (length buf)))

  pub read-follows : (out : List ℕ) (ch : ChannelId) (buf received : List ℕ) → Follows (read_call out ch buf received) (read_step l ch (length buf) (bytes_in received))
  unfolding opened_b entry_on
  read-follows out ch buf received fs hs =
      plain-kept p credit i ws l.rx books asked b k (read_call out ch buf received) (read_step l ch (length buf) (bytes_in received)) fs (read-tame l ok ch (length buf) (bytes_in received)) (λ c. refl)
      (λ g f. read-call l credit ok lim i f b g books mk (length buf) (bytes_in received) fs ch (hs.acks b.local))

  pub write-follows : (spending : Spending) (out : List ℕ) (ch : ChannelId) (bytes received : List ℕ) → Follows (write_call spending out ch bytes received) (write_step spending l ch (length out) (bytes_in bytes) (bytes_in received))
  unfolding opened_b entry_on
  write-follows spending out ch bytes received fs hs =
      plain-kept p credit i ws l.rx books asked b k (write_call spending out ch bytes received) (write_step spending l ch (length out) (bytes_in bytes) (bytes_in received)) fs (write-tame l ok spending ch (length out) (bytes_in bytes) (bytes_in received)) (λ c. refl)
      (λ g f. write-call l credit ok lim i f b g books mk spending ch (length out) (bytes_in bytes) (bytes_in received) fs (hs.acks b.local))

  front-silent : (n : ℕ) (h : Header) (xs : List Change) (f : Option (QueuedOpen × Header)) → acks_in p n (take_front_by l h xs f).frames ≡ 0
  unfolding take_front_by ends
  front-silent n h xs (Some (q, less)) = refl
  front-silent n h xs None = refl

  pub front-follows : Follows front_taken (take_front_step l)
  unfolding opened_b entry_on take_front_step
  front-follows fs hs =
      plain-kept p credit i ws l.rx books asked b k front_taken (take_front_step l) fs (front-tame l ok) (λ c. refl)
      (λ g f. acked-none p credit _ _ _ (front-call l credit ok lim i f b g books mk) (acks_of b.local fs)
      (hs.acks b.local ∙ front-silent b.local (dropped l.state.header) (popped (dropped l.state.header) l.state.queue).changes (popped (dropped l.state.header) l.state.queue).result))

  -- ---- reject, let go

  reject-silent : (n : ℕ) → acks_in p n (reject_step l).frames ≡ 0
  unfolding reject_step reject_on ends
  reject-silent n = pick (λ (x : Outcome). acks_in p n x.frames ≡ 0) (is_offered l) (λ t. refl) (λ t. refl)

  pub reject-follows : (out : List ℕ) → Follows (reject_call out) (reject_step l)
  unfolding opened_b entry_on
  reject-follows out fs hs =
      plain-kept p credit i ws l.rx books asked b k (reject_call out) (reject_step l) fs (reject-tame l ok) (λ c. refl)
      (λ g f. acked-none p credit _ _ _ (reject-call l credit ok lim i f b g books mk) (acks_of b.local fs) (hs.acks b.local ∙ reject-silent b.local))

  -- an open that is refused at once
  refused-silent : (n : ℕ) (remote : RemoteId) (given : ℕ) → acks_in p n (verdict_step l false remote given).frames ≡ 0
  unfolding verdict_step reject_on ends
  refused-silent n remote given = refl

  refused-follows : (out : List ℕ) (remote : RemoteId) (given : ℕ) (r : RemoteId) (g : ℕ) → Follows (verdict_call out false remote given) (verdict_step l false r g)
  unfolding opened_b entry_on verdict_step
  refused-follows out remote given r n fs hs =
      plain-kept p credit i ws l.rx books asked b k (verdict_call out false remote given) (verdict_step l false r n) fs (reject-tame-on l ok (dropped l.state.header) r Done) (λ c. refl)
      (λ g f. acked-none p credit _ _ _ (reject-on l credit ok lim i f b g books mk r Done) (acks_of b.local fs) (hs.acks b.local ∙ refused-silent b.local r n))

  let-go-silent : (n : ℕ) → acks_in p n (let_go_step l).frames ≡ 0
  unfolding let_go_step ends
  let-go-silent n = pick (λ (x : Outcome). acks_in p n x.frames ≡ 0) (is_offered l) (λ t. refl) (λ t. refl)

  pub let-go-follows : Follows let_go_call (let_go_step l)
  unfolding opened_b entry_on
  let-go-follows fs hs =
      plain-kept p credit i ws l.rx books asked b k let_go_call (let_go_step l) fs (let-go-tame l ok) (λ c. refl)
      (λ g f. acked-none p credit _ _ _ (let-go-call l credit ok lim i f b g books mk) (acks_of b.local fs) (hs.acks b.local ∙ let-go-silent b.local))

  -- ---- accept

  -- changes that leave this slot and its bytes
  good-tame : (x : Outcome) → slots_by ws x.changes ≡ ws → x.rx ≡ l.rx → here p credit i ws l.rx books asked b k b → Fine p credit ws i x b
  good-tame x e er g =
      good-by p credit _ _ _ _ b b (ap (λ (z : List ChannelSlot). slot_in z i) e)
      (ap (λ (z : List ℕ). run_of z p.rx_cap i (slot_in (slots_by ws x.changes) i)) er ∙ ap (λ (z : List ChannelSlot). run_of l.rx p.rx_cap i (slot_in z i)) e) refl g

  module _ (offered : offered_credit l.state.header.negotiated ≡ credit.credit) (small : offered_credit l.state.header.negotiated < 2 ^ 31) (out : List ℕ) (fs : List Sent) where
    abbrev accept_e : Call
    accept_e = accept_call out

    -- an answer that is not done fills none
    declined-book : (x : Outcome) (c : Book) → eqb (answer_number x.answer) 0 ≡ false → opened_b i asked accept_e (saw_of x fs) c ≡ c
    unfolding opened_b
    declined-book x c e = cond-false _ _ c (ap (λ (t : Bool). t && eqb (get_or (answer_values x.answer) 0 0) i) e)

    -- one that is done fills the slot that it names
    taken-book : (x : Outcome) (c : Book) (ch : ChannelId) → x.answer ≡ Opened ch
        → opened_b i asked accept_e (saw_of x fs) c ≡ cond (eqb ch.slot i) (new_book ch.local.0 (okay_remote fs) (okay_credit fs)) c
    unfolding opened_b answer_number answer_values
    taken-book x c ch e =
        ap (λ (a : Answer). cond (eqb (answer_number a) 0 && eqb (get_or (answer_values a) 0 0) i) (new_book (get_or (answer_values a) 1 0) (okay_remote fs) (okay_credit fs)) c) e

    accept-by : (x : Outcome) → Accepts l x → Hears x fs → KeptBy p credit i ws x (book_after p books asked accept_e (saw_of x fs) i b)
    unfolding book_after entry_on acks_of
    accept-by x1 (declines x e t es er) hs =
        plain-kept p credit i ws l.rx books asked b k accept_e x fs t (λ c. declined-book x c e)
        (λ g f. acked-none p credit _ _ _
        (good-tame x es er g) 0 refl)
    accept-by x1 (takes x ch remote cr e0 e1 e2 er e5 eh) hs =
        let n = l.state.header.negotiated in
        let ids = taken_ids ch remote in
        let t = accepted_slot ids cr p in
        let j = ch.slot in
        let heard : fs ≡ map (sent_of n) (okay_frame ids (offered_credit n) ∷ []) = hs.sent ∙ ap (map (sent_of n)) e5 in
        let nb = new_book ch.local.0 (okay_remote fs) (okay_credit fs) in
        let ng : Good p credit t [] nb =
        subst (λ (z : ℕ). Good p credit t [] (new_book ch.local.0 z (okay_credit fs))) (sym (heard-remote n ids fs heard))
        (accepted-good p credit (okay_credit fs) ids cr (λ d. heard-credit n ids fs heard small d ∙ offered)) in
        let inner : Book = cond b.there b b in
        let same : inner ≡ b = pick (λ (z : Book). z ≡ b) b.there (λ q. refl) (λ q. refl) in
        let inside = allocated-inside (policy l) l.state.header ws l.rx ok ch e0 in
        record {
          full = λ f.
              by-test (eqb j i)
              (λ u. let e = eqb-true j i u in
              let sl : slot_in (slots_by ws x.changes) i ≡ t = ap (λ (z : List ChannelSlot). slot_in z i) e2 ∙ ap (λ (z : ℕ). slot_in (set ws z t) i) e ∙ slot-set-same ws i t (subst (λ (z : ℕ). z < length ws) e inside) in
              let nr : run_of x.rx p.rx_cap i t ≡ [] = run_none x.rx p.rx_cap i t (sym ng.run) in
              good-by p credit t _ [] _ (acked_b 0 nb) _ sl (ap (run_of x.rx p.rx_cap i) sl ∙ nr)
              (ap (acks_b []) (taken-book x inner ch e1 ∙ cond-true (eqb j i) nb inner u) ∙ acks-there [] nb ch.local.0 refl refl)
              (acked-none p credit t [] nb ng 0 refl))
              (λ u. let so = slot-set-other ws j i t (λ z. eqb-false j i u (sym z)) in
              let se : slot_in (slots_by ws x.changes) i ≡ slot_in ws i = ap (λ (z : List ChannelSlot). slot_in z i) e2 ∙ so in
              let f0 : (slot_in ws i).filled ≡ true = sym (ap (λ (s : ChannelSlot). s.filled) se) ∙ f in
              let g = k.full f0 in
              good-by p credit (slot_in ws i) _ (run_of l.rx p.rx_cap i (slot_in ws i)) _ (acked_b 0 b) _ se
              (ap (λ (z : List ℕ). run_of z p.rx_cap i (slot_in (slots_by ws x.changes) i)) er ∙ ap (run_of l.rx p.rx_cap i) se)
              (ap (acks_b []) (taken-book x inner ch e1 ∙ cond-false (eqb j i) nb inner u ∙ same) ∙ acks-there [] b b.local g.there refl) (acked-none p credit _ _ b g 0 refl));
          none = λ f.
              by-test (eqb j i)
              (λ u. let e = eqb-true j i u in
              let sl : slot_in (slots_by ws x.changes) i ≡ t = ap (λ (z : List ChannelSlot). slot_in z i) e2 ∙ ap (λ (z : ℕ). slot_in (set ws z t) i) e ∙ slot-set-same ws i t (subst (λ (z : ℕ). z < length ws) e inside) in
              absurd (true≢false (sym ng.filled ∙ sym (ap (λ (s : ChannelSlot). s.filled) sl) ∙ f)))
              (λ u. let so = slot-set-other ws j i t (λ z. eqb-false j i u (sym z)) in
              let se : slot_in (slots_by ws x.changes) i ≡ slot_in ws i = ap (λ (z : List ChannelSlot). slot_in z i) e2 ∙ so in
              let v = k.none (sym (ap (λ (s : ChannelSlot). s.filled) se) ∙ f) in
              vacant-stays p _ (slot_in ws i) _ b _ v se
              (gone p credit i ws l.rx books asked b k accept_e (saw_of x fs) v.gone (taken-book x b ch e1 ∙ cond-false (eqb j i) nb b u)));
        }

  pub accept-follows : offered_credit l.state.header.negotiated ≡ credit.credit → offered_credit l.state.header.negotiated < 2 ^ 31 → (out : List ℕ) → Follows (accept_call out) (accept_step l)
  accept-follows offered small out fs hs = accept-by offered small out fs (accept_step l) (accepts l ok) hs

  -- a verdict at once: one that takes is to a book what an accept is. asked for, what the call says; r, n: its numbers of 32 bits
  pub verdict-follows : offered_credit l.state.header.negotiated ≡ credit.credit → offered_credit l.state.header.negotiated < 2 ^ 31
      → (out : List ℕ) (take : Bool) (remote : RemoteId) (given : ℕ) (r : RemoteId) (n : ℕ) → Follows (verdict_call out take remote given) (verdict_step l take r n)
  unfolding book_after opened_b entry_on verdict_step
  verdict-follows offered small out true remote given r n fs hs = accept-by offered small out fs _ (accepts-on l ok r n (allocated l.state.header ws) refl) hs
  verdict-follows offered small out false remote given r n fs hs = refused-follows out remote given r n fs hs

  -- a call that only looks
  pub look-follows : (x : Look) (a : Answer) → Follows (look_call x) (looked l a)
  unfolding opened_b entry_on
  look-follows x a fs hs =
      plain-kept p credit i ws l.rx books asked b k (look_call x) (looked l a) fs tt (λ c. refl)
      (λ g f. acked-none p credit _ _ _ g (acks_of b.local fs) (hs.acks b.local))

  -- ---- close

  -- a CLSE carries no credit
  close-silent : (n : ℕ) (ch : ChannelId) → acks_in p n (close_step l ch).frames ≡ 0
  unfolding close_step ends
  close-silent n ch = pick (λ (x : Outcome). acks_in p n x.frames ≡ 0) (is_there l ch && (slot_for l ch).has_remote) (λ t. refl) (λ t. refl)

  -- an empty place stays as it is: the channel that is closed stands elsewhere
  close-empty : (ch : ChannelId) → (slot_in ws i).filled ≡ false → slot_in (slots_by ws (close_step l ch).changes) i ≡ slot_in ws i
  unfolding close_step ends
  close-empty ch f =
      pick (λ (x : Outcome). slot_in (slots_by ws x.changes) i ≡ slot_in ws i) (is_there l ch && (slot_for l ch).has_remote)
      (λ t. slot-set-other ws ch.slot i (emptied_slot (slot_for l ch))
      (λ e. true≢false (sym (there-filled l ok ch (and-true (is_there l ch) _ t).0) ∙ ap (λ (z : ℕ). (slot_in ws z).filled) (sym e) ∙ f)))
      (λ t. refl)

  module _ (out : List ℕ) (ch : ChannelId) (fs : List Sent) (hs : Hears (close_step l ch) fs) where
    abbrev closing : Outcome
    closing = close_step l ch

    abbrev close_o : Seen
    close_o = saw_of closing fs

    -- the channel that is closed is in the book no more
    book-this : here p credit i ws l.rx books asked b k b → (is_on i b ch && not (is_refused (answer_number closing.answer))) ≡ true → book_after p books asked (close_call out ch) close_o i b ≡ gone_book b
    unfolding book_after opened_b entry_on acks_b
    book-this g e = ap (acks_b fs) (cond-true b.there _ _ g.there ∙ cond-true (is_on i b ch && not (is_refused (answer_number closing.answer))) (gone_book b) b e)

    book-else : here p credit i ws l.rx books asked b k b → (is_on i b ch && not (is_refused (answer_number closing.answer))) ≡ false → book_after p books asked (close_call out ch) close_o i b ≡ acked_b (acks_of b.local fs) b
    unfolding book_after opened_b entry_on
    book-else g e =
        ap (acks_b fs) (cond-true b.there _ _ g.there ∙ cond-false (is_on i b ch && not (is_refused (answer_number closing.answer))) (gone_book b) b e)
        ∙ acks-there fs b b.local g.there refl

    -- what closing leaves of a slot
    emptied-none : (s : ChannelSlot) → (emptied_slot s).filled ≡ false
    unfolding emptied_slot empty_slot
    emptied-none s = refl

    emptied-vacant : (s t : ChannelSlot) (c : Book) → Tally p credit.counts s.acked_total b.acked → t ≡ emptied_slot s → c ≡ gone_book b → Vacant p credit.counts t c
    unfolding emptied_slot empty_slot
    emptied-vacant s t c y e g = subst (λ (x : ChannelSlot). Vacant p credit.counts x c) (sym e) (subst (Vacant p credit.counts (emptied_slot s)) (sym g) (record { gone = refl; known = refl; tally = y }))

    unopened : opened_b i asked (close_call out ch) close_o b ≡ b
    unfolding opened_b
    unopened = refl

    pub close_follows : KeptBy p credit i ws closing (book_after p books asked (close_call out ch) close_o i b)
    close_follows =
        record {
          full = λ f.
              by-test (slot_in ws i).filled
              (λ f0. let g = k.full f0 in
              let w = on l credit ok lim i f0 b g books mk ch in
              by-test (is_on i b ch)
              (λ o. absurd (true≢false (sym f ∙ ap (λ (z : ChannelSlot). z.filled) (close-this l credit ok lim i f0 b g books mk ch w o).0 ∙ emptied-none (slot_in ws i))))
              (λ o. good-by p credit _ _ _ _ _ _ refl refl (book-else g (ap (λ (t : Bool). t && not (is_refused (answer_number closing.answer))) o))
              (acked-none p credit _ _ _ (close-else l credit ok lim i f0 b g books mk ch w o) (acks_of b.local fs) (hs.acks b.local ∙ close-silent b.local ch))))
              (λ f0. absurd (true≢false (sym f ∙ ap (λ (z : ChannelSlot). z.filled) (close-empty ch f0) ∙ f0)));
          none = λ f.
              by-test (slot_in ws i).filled
              (λ f0. let g = k.full f0 in
              let w = on l credit ok lim i f0 b g books mk ch in
              by-test (is_on i b ch)
              (λ o. let c = close-this l credit ok lim i f0 b g books mk ch w o in
              emptied-vacant (slot_in ws i) _ _ g.tally c.0 (book-this g (ap₂ (λ (t u : Bool). t && not u) o c.1)))
              (λ o. absurd (true≢false (sym (close-else l credit ok lim i f0 b g books mk ch w o).filled ∙ f))))
              (λ f0. let v = k.none f0 in
              let e = close-empty ch f0 in
              vacant-stays p _ (slot_in ws i) _ b _ v e
              (gone p credit i ws l.rx books asked b k (close_call out ch) close_o v.gone unopened));
        }

  -- ---- open

  -- a channel in the table is not at the place of the pending open
  not-pending : (slot_in ws i).filled ≡ true → is_ours l.state.header.pending.what ≡ true → i ≡ l.state.header.pending.slot → ⊥
  not-pending f t e = true≢false (sym f ∙ ap (λ (z : ℕ). (slot_in ws z).filled) e ∙ apart t)

  -- the place of the pending open is one of the table's
  own-slot : is_ours l.state.header.pending.what ≡ true → (j : ℕ) (t : ChannelSlot) → j ≡ l.state.header.pending.slot → j ≡ i → slot_in (set ws j t) i ≡ t
  own-slot on j t e f =
      let z = ok.size in
      let h = placed on in
      ap (λ (x : ℕ). slot_in (set ws x t) i) f ∙ slot-set-same ws i t (omega arith)

  module _ (out destination received : List ℕ) (fs : List Sent) where
    abbrev open_e : Call
    open_e = open_call out destination received

    abbrev wslot : ℕ
    wslot = l.state.header.pending.slot

    abbrev wlocal : ℕ
    wlocal = l.state.header.pending.local.0

    -- an answer that is not done fills none
    undone-book : (x : Outcome) (c : Book) → eqb (answer_number x.answer) 0 ≡ false → opened_b i asked open_e (saw_of x fs) c ≡ c
    unfolding opened_b
    undone-book x c e = cond-false _ _ c (ap (λ (t : Bool). t && eqb (get_or (answer_values x.answer) 0 0) i) e)

    -- one that is done fills the slot that it names
    filled-book : (x : Outcome) (c : Book) → x.answer ≡ Opened (record { slot = wslot; local = l.state.header.pending.local })
        → opened_b i asked open_e (saw_of x fs) c ≡ cond (eqb wslot i) (new_book wlocal (header_at (bytes_in received)).arg0 asked) c
    unfolding opened_b answer_number answer_values
    filled-book x c e =
        ap (λ (a : Answer). cond (eqb (answer_number a) 0 && eqb (get_or (answer_values a) 0 0) i) (new_book (get_or (answer_values a) 1 0) (header_at (bytes_in received)).arg0 asked) c) e

    -- by what the open did
    open-by : (x : Outcome) → Opens l (bytes_in received) x → Hears x fs
        → (here p credit i ws l.rx books asked b k b → (slot_in ws i).filled ≡ true → Fine p credit ws i x (acked_b (acks_of b.local fs) (entry_on p books i open_e (saw_of x fs) b)))
        → KeptBy p credit i ws x (book_after p books asked open_e (saw_of x fs) i b)
    unfolding book_after
    open-by x1 (leaves x e t) hs ef = plain-kept p credit i ws l.rx books asked b k open_e x fs t (λ c. undone-book x c e) ef
    open-by x1 (fills x t q sy e1 e2 e3 e5 on off e4 rd mine us) hs ef =
        let o = saw_of x fs in
        let a0 = reads-arg0 (bytes_in received) _ q sy in
        let nb = new_book wlocal (header_at (bytes_in received)).arg0 asked in
        let ng = subst (λ (z : ℕ). Good p credit t [] (new_book wlocal z asked)) (sym a0)
        (subst (Leaves (λ (u : ChannelSlot). Good p credit u [] (new_book wlocal q.arg0 asked))) e4
        (new-good p credit asked l.state.header.pending.local (record { 0 = q.arg0 }) (asks on) (body_of (bytes_in received) q))) in
        let inner : Book = cond b.there (entry_on p books i open_e o b) b in
        let quiet : (n : ℕ) → acks_of n fs ≡ 0 = λ n. hs.acks n ∙ ap (acks_in p n) e5 in
        record {
          full = λ f.
              by-test (eqb wslot i)
              (λ u. let e = eqb-true wslot i u in
              let sl : slot_in (slots_by ws x.changes) i ≡ t = ap (λ (z : List ChannelSlot). slot_in z i) e2 ∙ own-slot on wslot t refl e in
              let nr : run_of x.rx p.rx_cap i t ≡ [] = run_none x.rx p.rx_cap i t (sym ng.run) in
              good-by p credit t _ [] _ (acked_b (acks_of wlocal fs) nb) _ sl (ap (run_of x.rx p.rx_cap i) sl ∙ nr)
              (ap (acks_b fs) (filled-book x inner e1 ∙ cond-true (eqb wslot i) nb inner u) ∙ acks-there fs nb wlocal refl refl)
              (acked-none p credit t [] nb ng (acks_of wlocal fs) (quiet wlocal)))
              (λ u. let so = slot-set-other ws wslot i t (λ z. eqb-false wslot i u (sym z)) in
              let se : slot_in (slots_by ws x.changes) i ≡ slot_in ws i = ap (λ (z : List ChannelSlot). slot_in z i) e2 ∙ so in
              let f0 : (slot_in ws i).filled ≡ true = sym (ap (λ (s : ChannelSlot). s.filled) se) ∙ f in
              let g = k.full f0 in
              let ff = ef g f0 in
              good-by p credit _ _ _ _ _ _ refl refl
              (ap (acks_b fs) (filled-book x inner e1 ∙ cond-false (eqb wslot i) nb inner u ∙ cond-true b.there _ b g.there)
              ∙ acks-there fs (entry_on p books i open_e o b) b.local ff.there (ff.loc ∙ ap (λ (s : ChannelSlot). s.local.0) se ∙ sym g.loc)) ff);
          none = λ f.
              by-test (eqb wslot i)
              (λ u. let e = eqb-true wslot i u in
              let sl : slot_in (slots_by ws x.changes) i ≡ t = ap (λ (z : List ChannelSlot). slot_in z i) e2 ∙ own-slot on wslot t refl e in
              absurd (true≢false (sym ng.filled ∙ sym (ap (λ (s : ChannelSlot). s.filled) sl) ∙ f)))
              (λ u. let so = slot-set-other ws wslot i t (λ z. eqb-false wslot i u (sym z)) in
              let se : slot_in (slots_by ws x.changes) i ≡ slot_in ws i = ap (λ (z : List ChannelSlot). slot_in z i) e2 ∙ so in
              let v = k.none (sym (ap (λ (s : ChannelSlot). s.filled) se) ∙ f) in
              vacant-stays p _ (slot_in ws i) _ b _ v se
              (gone p credit i ws l.rx books asked b k open_e o v.gone (filled-book x b e1 ∙ cond-false (eqb wslot i) nb b u)));
        }

  pub open-follows : (out destination received : List ℕ) → Follows (open_call out destination received) (open_step l (length out) (bytes_in destination) (bytes_in received))
  unfolding entry_on
  open-follows out destination received fs hs =
      open-by out destination received fs (open_step l (length out) (bytes_in destination) (bytes_in received)) (opens l ok (bytes_in received) (length out) (bytes_in destination)) hs
      (λ g f. open-call l credit ok lim i f b g books mk (bytes_in received) fs (length out) (bytes_in destination) (not-pending f) (hs.acks b.local))
