use mathlib.Core.Path.{refl}
use Rattle.std.proofs.Common.{◌≡◌, ℕ, ◌+◌, ◌%◌, ◌^◌, arith}
use Rattle.table.specs.Table.{next_local_id}
use Rattle.table.proofs.next_local.Goals as goal

-- the sum that wraps to 0, and any other
wrapped : (n m : ℕ) → m ≡ (n + 1) % 2 ^ 32 → m ≡ 0 → 1 ≡ next_local_id n
unfolding next_local_id
wrapped n m e z = omega arith

sum_is : (n m : ℕ) → m ≡ (n + 1) % 2 ^ 32 → (m ≡ 0 → ⊥) → m ≡ next_local_id n
unfolding next_local_id
sum_is n m e z = omega arith

pub returns-then-next-eq0 : goal.returns-then-next-eq0
returns-then-next-eq0 c = wrapped _ _ refl c.if-next-eq0.true

pub returns : goal.returns
returns c = sum_is _ _ refl c.if-next-eq0.false
