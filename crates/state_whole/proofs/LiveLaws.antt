-- No function on a slot takes a filled slot out of a whole state. Assumes nothing.
use mathlib.Core.Path.{refl, sym, ap, subst, ◌∙◌}
use mathlib.Core.List.{List}
use Prim.Native.Nat.{ℕ, ◌^◌, ◌≤◌, ◌<◌}
use native.Mathlib.Omega.{arith}
use lib.IntN.{ℤ}
use lib.Signed.{mag}
use Rattle.le.specs.Le.{Bytes}
use Rattle.config.specs.declared.negotiated.Negotiated.{Negotiated}
use Rattle.config.specs.Negotiated.{policy_of}
use Rattle.slot.specs.declared.ChannelSlot.{ChannelSlot}
use Rattle.slot.specs.declared.ids.LocalId.{LocalId}
use Rattle.slot.specs.declared.ids.RemoteId.{RemoteId}
use Rattle.slot.specs.Wrote.{left_by}
use Rattle.slot.specs.Slot.{opening_slot, accepted_slot, opened_of, opened_by, ready_of, is_opening, is_failed, wrote_of, delivered_of, settled_of, take_len, taken_of, has_data, is_closed, spent_of, closed_slot, SlotOk}
use Rattle.credit.specs.Credit.{credit_of}
use Rattle.slot.proofs.Kept.{pick, ReadiedSound, ready-sound, wrote-sound, delivered-sound, settled-sound, took-sound, spent-sound, closed-sound}
use Rattle.slot.proofs.Stays.{Stays, CreditFits, credit-small, ReadiedStays, ready-stays, wrote-stays, delivered-stays, settled-stays, took-stays, spent-stays, closed-stays}
use Rattle.state_whole.proofs.WholeLaws.{Live}
use Rattle.credit.specs.declared.CreditFault.{CreditFault}
use Rattle.std.specs.Prelude.{Option, Some, None, Result, Ok, Err}
use Rattle.slot.specs.declared.ChannelError.{ChannelError}

-- a slot that a function left so, with numbers within its share, is as whole as it was
pub live-stays : (n : Negotiated) (i : ℕ) (s t : ChannelSlot) → Live n i s → Stays s t → SlotOk t (policy_of n).rx_cap → Live n i t
live-stays n i s t v k ok =
    let a = ok.run_fits in
    let b = ok.cap-small in
    let d = ok.settled-cap in
    record {
      filled = k.filled ∙ v.filled;
      place = v.place;
      opening = k.opening v.opening;
      failed = ap is_failed k.failed ∙ v.failed;
      remote = k.known ∙ v.remote;
      ok = ok;
      fits =
          record {
            local = subst (λ (x : LocalId). x.0 < 2 ^ 32) (sym k.local) v.fits.local;
            remote = subst (λ (x : RemoteId). x.0 < 2 ^ 32) (sym k.remote) v.fits.remote;
            budget = k.budget v.fits.budget;
            unacked = k.unacked v.fits.unacked;
            total = k.total v.fits.total;
            settled = omega arith;
            head = omega arith;
            buffered = omega arith;
          };
    }

abbrev pub ReadiedLive : Negotiated → ℕ → Result ChannelSlot CreditFault → Type 0
ReadiedLive n i (Ok t) = Live n i t
ReadiedLive n i (Err f) = Unit {0}

module _ (n : Negotiated) (i : ℕ) where
  both-live : (s : ChannelSlot) (r : Result ChannelSlot CreditFault) → Live n i s → ReadiedStays s r → ReadiedSound (policy_of n).rx_cap r → ReadiedLive n i r
  both-live s (Ok t) v k ok = live-stays n i s t v k ok
  both-live s (Err f) v k ok = tt

  pub ready-live : (s : ChannelSlot) (payload : List ℕ) → Live n i s → ReadiedLive n i (ready_of s payload (policy_of n))
  ready-live s payload v = both-live s (ready_of s payload (policy_of n)) v (ready-stays s payload (policy_of n)) (ready-sound s payload (policy_of n) (policy_of n).rx_cap v.ok)

  -- the OKAY that answers our OPEN
  module _ (local : LocalId) (remote : RemoteId) (place : i < n.config.channels) (cap : (policy_of n).rx_cap ≤ 16777216) (l : local.0 < 2 ^ 32) (r : remote.0 < 2 ^ 32) where
    opened-live-by : (c : Result ℤ CreditFault) → CreditFits c → ReadiedLive n i (opened_by (opening_slot local) remote c)
    unfolding opened_by opening_slot is_opening is_failed
    opened-live-by (Ok z) f =
        record {
          filled = refl;
          place = place;
          opening = refl;
          failed = refl;
          remote = refl;
          ok = record { settled-buffered = omega arith; settled-cap = omega arith; held-cap = omega arith; run_fits = omega arith; cap-small = cap };
          fits = record { local = l; remote = r; budget = f; unacked = omega arith; total = omega arith; settled = omega arith; head = omega arith; buffered = omega arith };
        }
    opened-live-by (Err b) f = tt

    pub opened-live : (payload : List ℕ) → Bytes payload → ReadiedLive n i (opened_of (opening_slot local) remote payload (policy_of n))
    unfolding opened_of opening_slot is_opening is_failed
    opened-live payload y =
        pick (ReadiedLive n i) (policy_of n).delayed (λ d. opened-live-by (credit_of payload) (credit-small payload y))
        (λ d.
        record {
          filled = refl;
          place = place;
          opening = refl;
          failed = refl;
          remote = refl;
          ok = record { settled-buffered = omega arith; settled-cap = omega arith; held-cap = omega arith; run_fits = omega arith; cap-small = cap };
          fits = record { local = l; remote = r; budget = omega arith; unacked = omega arith; total = omega arith; settled = omega arith; head = omega arith; buffered = omega arith };
        })

    -- an OPEN of the device's that is accepted
    pub accepted-live : (credit : ℕ) → credit < 2 ^ 32 → Live n i (accepted_slot (record { local = local; remote = remote }) credit (policy_of n))
    unfolding accepted_slot opening_slot is_opening is_failed
    accepted-live credit f =
        record {
          filled = refl;
          place = place;
          opening = refl;
          failed = refl;
          remote = refl;
          ok = record { settled-buffered = omega arith; settled-cap = omega arith; held-cap = omega arith; run_fits = omega arith; cap-small = cap };
          fits =
              record {
                local = l;
                remote = r;
                budget = pick (λ (z : ℤ). mag z < 2 ^ 63) (policy_of n).delayed (λ d. omega arith) (λ d. omega arith);
                unacked = omega arith;
                total = omega arith;
                settled = omega arith;
                head = omega arith;
                buffered = omega arith;
              };
        }

-- ---- so a filled slot stays one of a whole state

abbrev pub TakenLive : Negotiated → ℕ → Result (Option (ChannelSlot × ℕ)) ChannelError → Type 0
TakenLive n i (Ok (Some (t, k))) = Live n i t
TakenLive n i (Ok None) = Unit {0}
TakenLive n i (Err e) = Unit {0}

module _ (n : Negotiated) (i : ℕ) (s : ChannelSlot) (v : Live n i s) where
  pub wrote-live : (k : ℕ) → Live n i (left_by s (wrote_of s (policy_of n) k))
  wrote-live k = live-stays n i s _ v (wrote-stays s (policy_of n) k) (wrote-sound s (policy_of n) k v.ok)

  pub delivered-live : (k : ℕ) → Live n i (delivered_of s (policy_of n) k).slot
  delivered-live k = live-stays n i s _ v (delivered-stays s (policy_of n) k) (delivered-sound s (policy_of n) k (policy_of n).rx_cap v.ok)

  pub settled-live : (want : ℕ) → Live n i (settled_of s (policy_of n) want).slot
  settled-live want = live-stays n i s _ v (settled-stays s (policy_of n) want) (settled-sound s (policy_of n) want (policy_of n).rx_cap v.ok)

  pub taken_live : (room : ℕ) → TakenLive n i (taken_of s room)
  unfolding taken_of
  taken_live room =
      pick (TakenLive n i) (has_data s)
      (λ d. live-stays n i s _ v (took-stays s (take_len s room)) (took-sound s room (policy_of n).rx_cap v.ok))
      (λ d. pick (TakenLive n i) (is_closed s.state) (λ c. tt) (λ c. tt))

  pub spent-live : (k : ℕ) → Live n i (spent_of s (policy_of n) k)
  spent-live k = live-stays n i s _ v (spent-stays s (policy_of n) k) (spent-sound s (policy_of n) k (policy_of n).rx_cap v.ok)

  pub closed-live : Live n i (closed_slot s)
  closed-live = live-stays n i s _ v (closed-stays s) (closed-sound s (policy_of n).rx_cap v.ok)
