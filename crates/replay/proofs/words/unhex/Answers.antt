use mathlib.Core.Path.{◌≡◌, sym, ap, ◌∙◌}
use Prim.Native.Nat.{ℕ, ◌<◌, ◌+◌, ◌*◌}
use native.Mathlib.Omega.{arith}
use mathlib.Core.List.{List, ◌∷◌}
use lib.ListN.{length, drop, set, length-set}
use Rattle.replay.specs.Words.{unhexed}
use Rattle.replay.proofs.WordsLaws.{stored, store_step, store-rest, unhexed-step, length-unhexed}
use Rattle.replay.proofs.words.unhex.Goals as goal

pub loop-i-preserved : goal.loop-i-preserved
loop-i-preserved c =
    let s = c.args.s.now in
    let d = c.args.out.now in
    let l = c.loop-i in
    let v = c.byte.result in
    let rest = unhexed (drop (2 * l.i + 2) s) in
    let e : drop l.i (unhexed s) ≡ v ∷ rest = l.invariant.2 ∙ unhexed-step s (2 * l.i) (omega arith) ∙ ap (λ (x : ℕ). x ∷ rest) (sym c.byte.ensures) in
    let h : l.i < length d = omega arith in
    let two : 2 * (l.i + 1) ≡ 2 * l.i + 2 = omega arith in (
      simp length-set (omega arith),
      ap (λ (o : List ℕ). set o l.i v) l.invariant.1 ∙ store_step d (unhexed s) l.i v rest h e,
      rw two (store-rest d (unhexed s) l.i v rest h e),
    )

pub returns-clause-puts : goal.returns-clause-puts
returns-clause-puts c =
    let s = c.args.s.now in
    let l = c.loop-i in
    let k = length-unhexed s in
    let n : l.i ≡ c.min-n.result = omega arith in
    rw (l.invariant.1, n) (stored c.args.out.now (unhexed s) c.min-n.result (omega arith))
