use Rattle.table_dispatch.proofs.DispatchLaws.{dispatches, dispatches-by, steps-left, local-filled, write-here, write-none}
use Rattle.rx_store.proofs.ShareLaws.{share_in}
use Rattle.table.proofs.Laws.{below-some, below-none}
use mathlib.Core.Path.{refl}
use Prim.Native.Nat.{◌*◌}
use native.Mathlib.Omega.{arith}
use Rattle.table_dispatch.proofs.write.Goals as goal

pub write_at-requires : goal.write_at-requires
write_at-requires c =
    let z = below-some _ _ _ c.place_below.ensures _ c.in-Some.is in
    record {
      state-fits = c.requires.state-fits;
      place-fits = omega arith;
      share-fits = share_in c.in-Some.i c.args.n (2 * c.args.policy.rx_cap) _ z.1 c.requires.rx-fits;
      sound = c.requires.slots-sound
          c.in-Some.i z.1 (local-filled c.args.state.now c.args.n c.in-Some.i c.args.ids.local z.0 z.1 (omega arith));
    }

pub returns-in-Some : goal.returns-in-Some
returns-in-Some c =
    let z = below-some _ _ _ c.place_below.ensures _ c.in-Some.is in
    dispatches-by _ _ _ _ _ _ (write-here c.args.ids.remote c.args.ids.local c.args.policy c.args.n c.args.state.now
    c.args.payload.now c.args.rx.now c.in-Some.i z.0 z.1 (omega arith)) c.write_at.ensures

pub returns-in-None : goal.returns-in-None
returns-in-None c =
    dispatches _ _ _ _ _ _ (write-none c.args.ids.remote c.args.ids.local c.args.policy c.args.n c.args.state.now
    c.args.payload.now c.args.rx.now _ refl (below-none _ _ _ c.place_below.ensures c.in-None.is))
    (steps-left _ _ _ refl)
