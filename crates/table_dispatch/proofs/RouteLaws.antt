-- What holds of every packet's route, told by its command. Assumes nothing.
use mathlib.Core.Path.{◌≡◌, refl}
use mathlib.Core.Bool.{false}
use mathlib.Core.List.{List}
use Prim.Native.Nat.{ℕ}
use Rattle.le.specs.Le.{num_of}
use Rattle.config.specs.declared.negotiated.RxPolicy.{RxPolicy}
use Rattle.protocol.specs.declared.command.Command.{Command}
use Rattle.protocol.specs.declared.command.Command.TheVariants.{Sync, Connect, Open, Ready, Close, Write, Auth, StartTls}
use Rattle.protocol.specs.Command.{is_ready, is_close, is_write, is_the, word_of, letters_of}
use Rattle.slot.specs.declared.ChannelSlot.{ChannelSlot}
use Rattle.table_dispatch.specs.declared.DispatchOutcome.TheVariants.{IncomingOpen, Unmatched}
use Rattle.table_dispatch.specs.Dispatch.{left, close_of, grant_of, Dispatched, with, write_of, route_of}

-- a command that a connection does nothing for
pub record Idle (c : Command) : Type 0 where
  pub no-ready : is_ready c ≡ false
  pub no-close : is_close c ≡ false
  pub no_write : is_write c ≡ false

module _ (p : RxPolicy) (n : ℕ) (ss : List ChannelSlot) (a b : ℕ) (payload rx : List ℕ) (P : Command → Dispatched → Type 0) where
  -- what holds of an OPEN, a CLSE, a WRTE, an OKAY and of what is ignored, holds of every packet
  pub by-route : ((c : Command) → Idle c → P c (with (left Unmatched) rx)) → P Open (with (left (IncomingOpen (record { 0 = a }) b)) rx)
      → P Close (with (close_of n ss (record { 0 = a }) (record { 0 = b })) rx) → P Write (write_of p n ss (record { 0 = a }) (record { 0 = b }) payload rx)
      → P Ready (with (grant_of p n ss (record { 0 = a }) (record { 0 = b }) payload) rx) → (c : Command) → P c (route_of p n ss c a b payload rx)
  unfolding route_of is_ready is_close is_write is_the word_of letters_of num_of
  by-route rest opens closes writes readies Sync = rest Sync (record { no-ready = refl; no-close = refl; no_write = refl })
  by-route rest opens closes writes readies Connect = rest Connect (record { no-ready = refl; no-close = refl; no_write = refl })
  by-route rest opens closes writes readies Open = opens
  by-route rest opens closes writes readies Ready = readies
  by-route rest opens closes writes readies Close = closes
  by-route rest opens closes writes readies Write = writes
  by-route rest opens closes writes readies Auth = rest Auth (record { no-ready = refl; no-close = refl; no_write = refl })
  by-route rest opens closes writes readies StartTls = rest StartTls (record { no-ready = refl; no-close = refl; no_write = refl })
