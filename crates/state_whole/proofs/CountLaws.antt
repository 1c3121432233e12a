-- The counts of a filled slot of a whole state stay within their bound, and one meets it. Assumes nothing.
use mathlib.Core.Path.{◌≡◌, refl}
use mathlib.Core.Bool.{true}
use mathlib.Core.List.{List}
use Prim.Native.Nat.{ℕ}
use native.Mathlib.Omega.{arith}
use Rattle.le.specs.Le.{Bytes}
use Rattle.config.proofs.Laws.{and-true}
use Rattle.slot.specs.Slot.{empty_slot, with_numbers, slot_ok}
use Rattle.state.specs.State.{is_state, state_of}
use Rattle.state.proofs.StateLaws.{state-fits}
use Rattle.state_whole.specs.Whole.{whole, is_whole, most_count, CountsBounded}
use Rattle.state_whole.proofs.WholeLaws.{whole-facts}

pub counts-bounded : (b : List ℕ) → Bytes b → CountsBounded b
unfolding is_whole
counts-bounded b y e i filled =
    let w = whole-facts (state_of b) (state-fits b y) (and-true (is_state b) (whole (state_of b)) e).1 in
    let ok = ((w.slots.each i).live filled).ok in
    let fits = ok.run_fits in
    let cap = ok.cap-small in
    let aside = ok.settled-buffered in
    record { buffered = omega arith; settled = omega arith; head = omega arith }

-- with the largest cap, where as much is set aside as is held
pub bound-met : slot_ok (with_numbers empty_slot 0 16777216 0 most_count) 16777216 ≡ true
unfolding slot_ok empty_slot
bound-met = refl
