-- A connection begins by either make: what the theorems over lists of calls ask of it is what either function promises. Assumes
-- nothing.
use Prim.Native.Nat.{ℕ}
use mathlib.Core.Path.{◌≡◌}
use mathlib.Core.Bool.{Bool}
use mathlib.Core.List.{List}
use Rattle.call_answer.specs.Export.{MakesState, limits_of}
use Rattle.features.specs.Features.{has_feature}
use Rattle.call_make.specs.Make.{make_in, delayed_ack_name}
use Rattle.adb.specs.Export.{is_yes}
use Rattle.adb.specs.Linked.{Making}
use Rattle.adb.specs.Promise.{AdbMakeDoes, AdbMakeFromCnxnDoes}

module _ (state left rx store : List ℕ) (channels payload most-rx acked version most host r : ℕ) (done : r ≡ 0) where
  begun : (device : Bool) → MakesState (make_in (limits_of channels payload most-rx acked) version most (is_yes host) device state) r left → Making
  begun device makes =
      record {
        config = limits_of channels payload most-rx acked;
        version = version;
        most = most;
        host = host;
        device = device;
        state = state;
        left = left;
        rx = rx;
        store = store;
        number = r;
        makes = makes;
        done = done;
      }

  -- by the device's flag
  pub by-make : (device : ℕ) → AdbMakeDoes state channels payload most-rx acked version most host device r left → Making
  by-make device makes = begun (is_yes device) makes

  -- by the payload of the device's CNXN
  pub by-cnxn : (identity : List ℕ) → AdbMakeFromCnxnDoes state channels payload most-rx acked version most identity host r left → Making
  by-cnxn identity makes = begun (has_feature identity delayed_ack_name) makes
