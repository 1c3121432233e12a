-- The owner's test of a packet is the one by which a device's end meets it. Assumes nothing.
use Rattle.std.proofs.Common.{◌≡◌, refl, sym, ap, ap₂, ◌∙◌, Bool, true, false, not, ◌&&◌, List, ℕ, ◌+◌, ◌<◌, eqb, ltb, length, get_or, Option, Some, None, Ok, arith}
use borrow.Author.Tests.{eqb-true, eq-eqb, ltb-true, ltb-false, lt-ltb}
use Rattle.le.specs.Le.{num_of}
use Rattle.le.proofs.Parts.{by-test}
use Rattle.config.specs.declared.negotiated.RxPolicy.{RxPolicy}
use Rattle.config.proofs.Laws.{and-true}
use Rattle.protocol.specs.declared.command.Command.{Command}
use Rattle.protocol.specs.declared.command.Command.TheVariants.{Sync, Connect, Open, Ready, Close, Write, Auth, StartTls}
use Rattle.protocol.specs.declared.packet.Packet.{Packet}
use Rattle.protocol.specs.Command.{letters_of, word_of}
use Rattle.protocol.specs.Message.{message_size}
use Rattle.protocol.specs.Packet.{decode_of}
use Rattle.protocol.proofs.RoundTrip.{says}
use Rattle.slot.specs.declared.ChannelSlot.{ChannelSlot}
use Rattle.slot.specs.declared.ids.LocalId.{LocalId}
use Rattle.slot.specs.Slot.{is_closed}
use Rattle.slot.proofs.Laws.{cond-true, cond-false}
use Rattle.state.specs.declared.Header.{Header}
use Rattle.table.specs.declared.Want.TheVariants.{Local}
use Rattle.table.specs.Table.{first, place_of, below, slot_in}
use Rattle.table_dispatch.proofs.DispatchLaws.{first_found}
use Rattle.history.specs.Book.{Book, no_book, header_at}
use Rattle.history.proofs.Places.{TableOk, first-le, found-filled, found_local, own-place}
use Rattle.history.proofs.Packets.{Marked, reads-arg1}
use Rattle.device_meets.specs.declared.Met.{Met}
use Rattle.device_meets.specs.Meets.{is_live_at, is_stream, ignored, unless_stream, met_as}
use Rattle.device_history.specs.Owner.{is_stream_of, names_stream, passes_as, passes}

-- ---- an open stream, in the books and in the table

module _ (p : RxPolicy) (n : ℕ) (ss : List ChannelSlot) (rx : List ℕ) (ok : TableOk p n ss rx) (d : List Book) (mk : Marked d ss)
    (loc : (j : ℕ) → (slot_in ss j).filled ≡ true → (get_or d j no_book).local ≡ (slot_in ss j).local.0) (l : ℕ) where
  abbrev who : LocalId
  who = record { 0 = l }

  abbrev F : ℕ
  F = first (is_stream_of l) d

  abbrev f : ℕ
  f = place_of (Local who) n ss

  live-at : (i : ℕ) → i < n → is_live_at ss (below n i) ≡ not (is_closed (slot_in ss i).state)
  unfolding is_live_at below
  live-at i h = rw (lt-ltb i n h) refl

  dead-at : (i : ℕ) → ltb i n ≡ false → is_live_at ss (below n i) ≡ false
  unfolding is_live_at below
  dead-at i h = rw h refl

  -- a book that has it is that of the slot which is found
  booked : F < length d → is_live_at ss (below n f) ≡ true
  unfolding is_stream_of
  booked h =
      let b = get_or d F no_book in
      let m = first_found (is_stream_of l) d no_book h in
      let a = and-true (b.there && not b.closed) (eqb b.local l) m in
      let c = and-true b.there (not b.closed) a.0 in
      let there : (slot_in ss F).filled ≡ true = sym (mk.there F) ∙ c.0 in
      let e = own-place p n ss rx ok F who there (sym (loc F there) ∙ eqb-true b.local l a.1) in
      ap (λ (x : ℕ). is_live_at ss (below n x)) e ∙ live-at F (ok.below F there) ∙ ap not (sym (mk.closed F there)) ∙ c.1

  -- and that of a slot which is found, and is not closed, has it
  unbooked : ltb F (length d) ≡ false → is_live_at ss (below n f) ≡ false
  unfolding is_stream_of
  unbooked h =
      by-test (ltb f n)
      (λ t. let k = ltb-true f n t in
      let there = found-filled p n ss rx ok who k in
      let b = get_or d f no_book in
      let e : b.local ≡ l = loc f there ∙ found_local p n ss rx ok who k in
      by-test (is_closed (slot_in ss f).state)
      (λ u. live-at f k ∙ ap not u)
      (λ u. let z = ok.size in
      let y = ok.most in
      let w = mk.size in
      let q : is_stream_of l b ≡ true = ap₂ (λ (x y : Bool). x && not y && eqb b.local l) (mk.there f ∙ there) (mk.closed f there ∙ u) ∙ eq-eqb b.local l e in
      let g = first-le (is_stream_of l) d f no_book (omega arith) q in
      let v = ltb-false F (length d) h in
      absurd (omega arith)))
      (λ t. dead-at f t)

  pub stream-agrees : names_stream d l ≡ is_stream n ss who
  unfolding names_stream is_stream
  stream-agrees =
      by-test (eqb l 0)
      (λ t. rw t refl)
      (λ t. rw t
      (by-test (ltb F (length d)) (λ u. u ∙ sym (booked (ltb-true F (length d) u))) (λ u. u ∙ sym (unbooked u))))

-- ---- what passes

-- by its command; t: whether it names an open stream
abbrev pub by_kind : Command → Bool → Bool
by_kind Sync t = true
by_kind Connect t = false
by_kind Open t = false
by_kind Ready t = t
by_kind Close t = t
by_kind Write t = t
by_kind Auth t = true
by_kind StartTls t = true

passes-word : (d : List Book) (a : ℕ) (c : Command) → passes_as d (word_of c) a ≡ by_kind c (names_stream d a)
unfolding passes_as word_of letters_of num_of
passes-word d a Sync = refl
passes-word d a Connect = refl
passes-word d a Open = refl
passes-word d a Ready = refl
passes-word d a Close = refl
passes-word d a Write = refl
passes-word d a Auth = refl
passes-word d a StartTls = refl

pub passes-is : (d : List Book) (received : List ℕ) (limit : ℕ) (k : Packet) → decode_of received limit ≡ Ok (Some k) → passes d (header_at received) ≡ by_kind k.command (names_stream d k.arg1)
passes-is d received limit k e =
    let r = says received limit k e in
    ap₂ (passes_as d) r.word-is (reads-arg1 received limit k r) ∙ passes-word d k.arg1 k.command

-- ---- what is met

none-some : {A : Type 0} (x : A) → ◌≡◌ {A = Option A} (Some x) None → ⊥
none-some x e = let z : ◌≡◌ {A = ℕ} 0 1 = cc in omega arith

module _ (h : Header) (ss : List ChannelSlot) (names : List ℕ) (k : Packet) (payload : List ℕ) where
  abbrev alive : Bool
  alive = is_stream h.negotiated.config.channels ss (record { 0 = k.arg1 })

  unless-none : unless_stream h.negotiated.config.channels ss k ≡ None → alive ≡ true
  unfolding unless_stream
  unless-none e = by-test alive (λ t. t) (λ t. absurd (none-some _ (sym (cond-false alive None (ignored (message_size + k.data_length)) t) ∙ e)))

  -- what is met by nobody passes
  pub met-none : (c : Command) → met_as h ss names k payload c ≡ None → by_kind c alive ≡ true
  unfolding met_as
  met-none Sync e = refl
  met-none Connect e = absurd (none-some _ e)
  met-none Open e = absurd (none-some _ e)
  met-none Ready e = unless-none e
  met-none Close e = unless-none e
  met-none Write e = unless-none e
  met-none Auth e = refl
  met-none StartTls e = refl

  -- what is met does not, and is used
  pub record MetSome (c : Command) (m : Met) : Type 0 where
    pub kept : by_kind c alive ≡ false
    pub used : m.used ≡ message_size + k.data_length

  same-used : (x y : Met) → ◌≡◌ {A = Option Met} (Some x) (Some y) → y.used ≡ x.used
  same-used x y e = ap used_in (sym e)
    where
      used_in : Option Met → ℕ
      used_in (Some z) = z.used
      used_in None = 0

  unless-some : (m : Met) → unless_stream h.negotiated.config.channels ss k ≡ Some m → (alive ≡ false) × (m.used ≡ message_size + k.data_length)
  unfolding unless_stream
  unless-some m e =
      by-test alive
      (λ t. absurd (none-some m (sym e ∙ cond-true alive None (ignored (message_size + k.data_length)) t)))
      (λ t. (t, same-used _ m (sym (cond-false alive None (ignored (message_size + k.data_length)) t) ∙ e)))

  pub met-some : (c : Command) (m : Met) → met_as h ss names k payload c ≡ Some m → MetSome c m
  unfolding met_as
  met-some Sync m e = absurd (none-some m (sym e))
  met-some Connect m e = record { kept = refl; used = same-used _ m e }
  met-some Open m e = record { kept = refl; used = same-used _ m e }
  met-some Ready m e = let z = unless-some m e in record { kept = z.0; used = z.1 }
  met-some Close m e = let z = unless-some m e in record { kept = z.0; used = z.1 }
  met-some Write m e = let z = unless-some m e in record { kept = z.0; used = z.1 }
  met-some Auth m e = absurd (none-some m (sym e))
  met-some StartTls m e = absurd (none-some m (sym e))
