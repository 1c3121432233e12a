-- What the walks share: the machine values of a slot and of a policy, that each has its MIR type, and the step that opens a
-- lent slot. Assumes `Logic` where there is a model.
use Prim.Native.Nat.{ℕ}
use mathlib.Core.List.{[], ◌∷◌, List}
use seplogic.Ra.Ura.{Ura}
use base.Fraction.{full_share}
use lib.Dec.{T as Holds}
use mir.Val.{Val, WT, has_ty}
use base.Fml.{GName, Lft, Share, flft, fobs, fauth, fbor, fobor}
use types.Logic.{Logic}
use types.Kit.{Goal, Soaks, Item, ‵, Seq, ◌$◌, move}
use types.SemTy.{Body}
use denote.Laws.{Is, shows}
use denote.Memory.{mem, cell_at}
use denote.Steps.{opens, peeks}
use denote.Struct.Steps.{spelt}
use denote.Struct.Laws as LL
use Rattle.config.specs.declared.negotiated.RxPolicy.{RxPolicy}
use Rattle.config.specs.contracts.negotiated.RxPolicy as P
use Rattle.config.proofs.negotiated.RxPolicy.TheLaws as P'
use Rattle.slot.specs.declared.ChannelSlot.{ChannelSlot}
use Rattle.slot.specs.contracts.ChannelSlot as S
use Rattle.slot.proofs.ChannelSlot.TheLaws as S'

abbrev pub val : ChannelSlot → Val
val = LL.val S.the_type S'.the_laws

abbrev pub policy-val : RxPolicy → Val
policy-val = LL.val P.the_type P'.the_laws

-- the machine value v is that of the slot r; of the policy p
abbrev pub IsSlot : ChannelSlot → Val → Type 0
IsSlot r v = Is S.the_row r (v ∷ [])

abbrev pub IsPolicy : RxPolicy → Val → Type 0
IsPolicy p v = Is P.the_row p (v ∷ [])

module _ {M : Type 1} {𝓤 : Ura M} (𝓛 : Logic 𝓤) where
  pub typed : (r : ChannelSlot) (v : Val) → IsSlot r v → Holds (has_ty S'.mir v) × WT v
  typed r v is = ((LL.lawful S.the_type S'.the_laws 𝓛).typed r (v ∷ []) is).0

  pub policy-typed : (p : RxPolicy) (v : Val) → IsPolicy p v → Holds (has_ty P'.mir v) × WT v
  policy-typed p v is = ((LL.lawful P.the_type P'.the_laws 𝓛).typed p (v ∷ []) is).0

-- a slot behind a `&mut` is opened: what it owns, its cell with its machine value written out, and the open borrow
module _ {M : Type 1} {𝓤 : Ura M} {𝓛 : Logic 𝓤} {K : Type 0} {Γ : List (Item 𝓤)} {G : Goal 𝓤 𝓛.H} where
  pub opens-slot : K → Soaks G → {κ : Lft} {q : Share} (h : ChannelSlot) {γ : GName} (b o : ℕ)
      → (IsSlot h (val h) → Seq K 𝓛 (‵ ((S.the_row).own_val h (val h ∷ [])) ∷ ‵ (cell_at full_share (S.the_row).mir (val h ∷ []) b o) ∷ ‵ (fobor κ q (Body (mem S.the_row) b o γ)) ∷ ‵ (fobs γ ((S.the_row).coded.code h)) ∷ ‵ (fauth γ ((S.the_row).coded.code h)) ∷ Γ) G)
      → Seq K 𝓛 (‵ (fobs γ ((S.the_row).coded.code h)) ∷ ‵ (fbor κ (Body (mem S.the_row) b o γ)) ∷ ‵ (flft κ q) ∷ Γ) G
  opens-slot t z h b o k =
      opens t z S.the_row {h = h} b o (λ vs. spelt t S.the_row (Is S.the_row) (shows 𝓛 S.the_row) (LL.vals S.the_type S'.the_laws) (LL.tells S.the_type S'.the_laws) full_share h vs b o $
      move t (1 ∷ []) $ peeks t S.the_row (Is S.the_row) (shows 𝓛 S.the_row) h (val h ∷ []) k)
