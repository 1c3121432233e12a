-- What `adb_stretch` cites. Assumes nothing.
use mathlib.Core.Path.{◌≡◌, refl, sym, ap, subst, ◌∙◌}
use mathlib.Core.Bool.{true, false}
use mathlib.Core.List.{List, ◌∷◌}
use Prim.Native.Nat.{ℕ}
use lib.ListN.{length}
use Rattle.le.specs.Le.{bytes_of, put}
use Rattle.le.specs.Rows.{flat}
use Rattle.slot.proofs.Laws.{cond-true, cond-false}
use Rattle.call_stretch.specs.Promise.{stretched_number, stretched_values, stretch_of, StretchLooks}
use Rattle.call_stretch.proofs.LookLaws.{refused-spares}
use Rattle.call_answer.specs.Answer.{said_in}
use Rattle.adb.specs.Export.{is_short}
use Rattle.adb.specs.Stretch.{Found, found_numbers, answered_by, stretch_found, Stretches, AdbStretchDoes}
use Rattle.connection.specs.declared.Refusal.{Refusal}
use Rattle.stretch.specs.declared.Stretch.{Stretch}
use Rattle.std.specs.Prelude.{Option, Result}

module _ (state rx opens received spare_rx spare_opens answer : List ℕ) where
  pub stretch-short : is_short (length state) (length answer) ≡ true → AdbStretchDoes state rx opens received spare_rx spare_opens answer 8 spare_rx spare_opens answer
  unfolding stretch_found
  stretch-short t =
      subst (λ (f : Found). Stretches f (length rx) (length opens) spare_rx spare_opens 8 spare_rx spare_opens answer) (sym (cond-true _ _ _ t))
      (record { number_is = refl; answer-is = refl; said-is = refl; rx-spared = refused-spares (length rx) true spare_rx; opens-spared = refused-spares (length opens) true spare_opens })

  pub stretch-called : is_short (length state) (length answer) ≡ false → (s : Result (Option Stretch) Refusal) (spare_rx₂ spare_opens₂ : List ℕ) → StretchLooks state rx opens received spare_rx spare_opens s spare_rx₂ spare_opens₂
      → (v : List ℕ) → v ≡ 0 ∷ 0 ∷ stretched_values s → (answer₂ : List ℕ) → (answer₂ ≡ put answer 0 (flat (bytes_of 8) v)) × (said_in answer₂ ≡ v)
      → (r : ℕ) → r ≡ stretched_number s → AdbStretchDoes state rx opens received spare_rx spare_opens answer r spare_rx₂ spare_opens₂ answer₂
  unfolding stretch_found answered_by
  stretch-called t s spare_rx₂ spare_opens₂ g v e answer₂ a r n =
      let z : v ≡ found_numbers (stretch_of state rx opens received (length spare_rx) (length spare_opens)) =
      e ∙ ap (λ (x : Result (Option Stretch) Refusal). 0 ∷ 0 ∷ stretched_values x) g.answer-is in
      subst (λ (f : Found). Stretches f (length rx) (length opens) spare_rx spare_opens r spare_rx₂ spare_opens₂ answer₂) (sym (cond-false _ _ _ t))
      (record {
        number_is = n ∙ ap stretched_number g.answer-is;
        answer-is = a.0 ∙ ap (λ (l : List ℕ). put answer 0 (flat (bytes_of 8) l)) z;
        said-is = a.1 ∙ z;
        rx-spared = g.rx-spared;
        opens-spared = g.store-spared;
      })
