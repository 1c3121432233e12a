-- An end's bytes and books between calls, in delayed mode: all that is kept of them by every call. Assumes nothing.
use mathlib.Core.Path.{◌≡◌, refl, sym, ap, subst, ◌∙◌}
use mathlib.Core.Bool.{Bool, true, false, true≢false}
use mathlib.Core.List.{List}
use Prim.Native.Nat.{ℕ, ◌+◌, ◌*◌, ◌^◌, ◌≤◌, ◌<◌}
use native.Mathlib.Omega.{arith}
use lib.ListN.{length}
use Rattle.config.specs.declared.negotiated.Negotiated.{Negotiated}
use Rattle.config.specs.Config.{stores_fit, cap_of}
use Rattle.config.specs.Negotiated.{policy_of}
use Rattle.state.specs.State.{is_ours, Connection, state_of}
use Rattle.table.specs.Table.{slot_in}
use Rattle.connection.proofs.Slots.{slots_by, slots-by}
use Rattle.connection.specs.Calls.{policy}
use Rattle.history.specs.Run.{Call, World, lent, outcome, after}
use Rattle.history.specs.Seen.{held_of, Seen, seen_of}
use Rattle.history.specs.Book.{Ledger, book_at, entry}
use Rattle.history.specs.Demand3.{place_slot, run_of}
use Rattle.history.specs.Numbers.{given_by}
use Rattle.history.proofs.Given.{Given, after-given}
use Rattle.history.proofs.Good.{Good}
use Rattle.history.proofs.Heard.{heard_of}
use Rattle.history.proofs.Places.{TableOk}
use Rattle.history.proofs.Never13.{Holds, state-after, holds_after}
use Rattle.history.proofs.Credited.{none-read}
use Rattle.history.proofs.Theorem.{Kept, table, empty, placed, terms, Stepped, step}
use Rattle.history.proofs.Written.{seen-is}

-- what was negotiated
abbrev pub agreed-of : World → Negotiated
agreed-of w = (state_of w.state).header.negotiated

-- r, rx, store: what lies behind the state, and the stores' lengths; at most g numbers were given out, at least b; y: the books
pub record Live (r : List ℕ) (rx store b g : ℕ) (w : World) (y : Ledger) : Type 0 where
  pub holds : Holds (agreed-of w) r rx store w
  pub long : (agreed-of w).config.channels * (2 * cap_of (agreed-of w).config) ≤ rx
  pub fit : stores_fit (agreed-of w).config rx store ≡ true
  pub kept : Kept none-read (agreed-of w) w y
  pub given : Given b g (state_of w.state)
  pub delayed : (policy_of (agreed-of w)).delayed ≡ true

-- what is seen of a call
abbrev pub seen-by : World → Call → Seen
seen-by w x = seen_of (record { call = x; held = held_of w x })

abbrev pub next-books : World → Ledger → Call → Ledger
next-books w y x = entry (policy_of (agreed-of w)) x (seen-by w x) y

module _ (r : List ℕ) (rx store b g : ℕ) (w : World) (y : Ledger) (live : Live r rx store b g w y) where
  abbrev m : Negotiated
  m = agreed-of w

  pub rows-long : m.config.channels * (2 * cap_of m.config) ≤ length w.rx
  rows-long = subst (λ (z : ℕ). m.config.channels * (2 * cap_of m.config) ≤ z) (sym live.holds.rx-length) live.long

  pub live-table : TableOk (policy (lent w)) (lent w).state.header.negotiated.config.channels (lent w).state.slots (lent w).rx
  live-table = table none-read w r rx store live.holds rows-long live.given.apart

  pub live-pending : is_ours (lent w).state.header.pending.what ≡ true
      → ((lent w).state.header.pending.slot < 64) × ((slot_in (lent w).state.slots (lent w).state.header.pending.slot).filled ≡ false)
  live-pending t = (placed none-read w r rx store live.holds rows-long live.given.apart t, empty none-read w r rx store live.holds rows-long live.given.apart t)

  -- what was negotiated stays
  pub agreed-stays : (x : Call) → agreed-of (after w x) ≡ m
  agreed-stays x = (holds_after m r rx store w live.holds x).facts.header.negotiated

  pub live-step : (x : Call) → Stepped none-read m w y x
  live-step x = step none-read m w r rx store live.holds live.long live.given.apart y live.kept x (λ i t. absurd (true≢false (sym t)))

  -- a call more
  pub live-next : (x : Call) → g + given_by x (seen-by w x) < 2 ^ 32 → Live r rx store b (g + given_by x (seen-by w x)) (after w x) (next-books w y x)
  live-next x small =
      let e = agreed-stays x in
      let s = live-step x in
      record {
        holds = subst (λ (n : Negotiated). Holds n r rx store (after w x)) (sym e) (holds_after m r rx store w live.holds x);
        long = subst (λ (n : Negotiated). n.config.channels * (2 * cap_of n.config) ≤ rx) (sym e) live.long;
        fit = subst (λ (n : Negotiated). stores_fit n.config rx store ≡ true) (sym e) live.fit;
        kept = subst (λ (n : Negotiated). Kept none-read n (after w x) (next-books w y x)) (sym e) s.kept;
        given = after-given w r rx store live.holds rows-long b g live.given x small;
        delayed = subst (λ (n : Negotiated). (policy_of n).delayed ≡ true) (sym e) live.delayed;
      }

  -- counted from what was given out so far
  pub live-from : Live r rx store live.given.k g w y
  live-from =
      let v = live.given in
      record {
        holds = live.holds;
        long = live.long;
        fit = live.fit;
        kept = live.kept;
        given =
            record { k = v.k; least = omega arith; le = v.le; below = v.below; pending-open = v.pending-open; away = v.away; apart = v.apart; next = v.next };
        delayed = live.delayed;
      }

  pub from-same : live-from.given.k ≡ live.given.k
  unfolding live-from
  from-same = refl

  -- the slots after a call
  pub slots-after : (x : Call) → (state_of (after w x).state).slots ≡ slots_by (state_of w.state).slots (outcome w x).changes
  slots-after x = ap (λ (d : Connection). d.slots) (state-after m r rx store w live.holds x) ∙ slots-by (state_of w.state) (outcome w x).changes

  pub seen-heard : (x : Call) → seen-by w x ≡ heard_of m (outcome w x)
  seen-heard x = seen-is m r rx store w live.holds x

  -- the book of a channel that is there, beside its slot
  pub book-good : (i : ℕ) → (place_slot w i).filled ≡ true
      → Good (policy_of m) (terms false m) (place_slot w i) (run_of w.rx (policy_of m).rx_cap i (place_slot w i)) (book_at y i)
  book-good i f = (live.kept.each i).full f

  pub there-slot : (i : ℕ) → (book_at y i).there ≡ true → (place_slot w i).filled ≡ true
  there-slot i t = by-filled (place_slot w i).filled refl
    where
      by-filled : (z : Bool) → (place_slot w i).filled ≡ z → z ≡ true
      by-filled true e = refl
      by-filled false e = absurd (true≢false (sym t ∙ ((live.kept.each i).none e).gone))

  -- there is a book for each of 64 places
  pub there-below : (i : ℕ) → (book_at y i).there ≡ true → i < 64
  there-below i t =
      let f = there-slot i t in
      let a = live-table.below i f in
      let b = live-table.most in
      omega arith
