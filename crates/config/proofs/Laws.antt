-- Laws of the limits. Assumes nothing.
use mathlib.Core.Path.{◌≡◌, refl}
use mathlib.Core.Bool.{Bool, true, false, ◌&&◌}
use Prim.Native.Nat.{◌+◌, ◌*◌, ◌≤◌}
use native.Mathlib.Nat.{mul-le-mul}
use native.Mathlib.Omega.{arith}
use borrow.Author.Tests.{leb-true, le-leb}
use Rattle.config.specs.declared.ConnectionConfig.{ConnectionConfig}
use Rattle.config.specs.Config.{within_limits, Within, cap_of, ceiling_of, watermark_of, opening_credit}

pub and-true : (a b : Bool) → (a && b) ≡ true → (a ≡ true) × (b ≡ true)
and-true true b e = (refl, e)
and-true false b e = let z : true ≡ false = cc in (cc, cc)

-- the test is of the facts, both ways
pub within : (c : ConnectionConfig) → within_limits c ≡ true → Within c
unfolding within_limits
within c e =
    let e₅ = and-true _ _ e in
    let e₄ = and-true _ _ e₅.0 in
    let e₃ = and-true _ _ e₄.0 in
    let e₂ = and-true _ _ e₃.0 in
    let e₁ = and-true _ _ e₂.0 in
    record {
      one-channel = leb-true _ _ e₁.0;
      most-channels = leb-true _ _ e₁.1;
      one_byte = leb-true _ _ e₂.1;
      most-payload = leb-true _ _ e₃.1;
      most-rx = leb-true _ _ e₄.1;
      most-credit = leb-true _ _ e₅.1;
    }

pub within-holds : (c : ConnectionConfig) → Within c → within_limits c ≡ true
unfolding within_limits
within-holds c w =
    rw (
      le-leb _ _ w.one-channel,
      le-leb _ _ w.most-channels,
      le-leb _ _ w.one_byte,
      le-leb _ _ w.most-payload,
      le-leb _ _ w.most-rx,
      le-leb _ _ w.most-credit,
    )

-- what the limits promise of every connection
pub record Sound (c : ConnectionConfig) : Type 0 where
  pub watermark-some : 1 ≤ watermark_of c
  pub watermark-below : watermark_of c ≤ ceiling_of c
  pub credit-fits : opening_credit c + c.max_payload ≤ cap_of c + 1
  pub payload-fits : c.max_payload ≤ cap_of c
  pub cap-small : cap_of c ≤ 16_777_216

pub sound : (c : ConnectionConfig) → Within c → Sound c
unfolding cap_of ceiling_of watermark_of opening_credit
sound c w =
    record {
      watermark-some = omega arith;
      watermark-below = omega arith;
      credit-fits = omega arith;
      payload-fits = omega arith;
      cap-small = omega arith;
    }

-- a ceiling with a whole payload is one over the cap
pub ceiling-payload : (c : ConnectionConfig) → ceiling_of c + c.max_payload ≡ cap_of c + 1
unfolding cap_of ceiling_of
ceiling-payload c = omega arith

-- no store's length passes 2 ^ 31
pub rx-store-small : (c : ConnectionConfig) → Within c → c.channels * (2 * cap_of c) ≤ 2_147_483_648
unfolding cap_of
rx-store-small c w =
    let s : 2 * cap_of c ≤ 33_554_432 = omega arith in
    let z : c.channels * (2 * cap_of c) ≤ 64 * 33_554_432 = mul-le-mul w.most-channels s in
    omega arith

pub open-store-small : (c : ConnectionConfig) → Within c → c.channels * c.max_payload ≤ 67_108_864
open-store-small c w = let z : c.channels * c.max_payload ≤ 64 * 1_048_576 = mul-le-mul w.most-channels w.most-payload in omega arith
