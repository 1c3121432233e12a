use mir.Syntax.{w64}
use mir.Facts.{to_z-of_z}
use Rattle.state.specs.State.{slot_of}
use Rattle.state.proofs.slot_of.Goals as goal

pub returns : goal.returns
unfolding slot_of
returns c = rw (to_z-of_z {w = w64} {z = c.get-3.result} (record { sfits = c.get-3.type_inv })) (cc)
