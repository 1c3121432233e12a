use Rattle.std.proofs.Common.{sym, ◌∙◌}
use Rattle.device_meets.proofs.MeetsLaws.{packet_fits}
use Rattle.device_dispatch.specs.Promise.{first_by}
use Rattle.device_dispatch.proofs.DispatchLaws.{decoded-some, decoded-none}
use Rattle.device_dispatch.proofs.dispatch_first.Goals as goal

pub payload_in-requires : goal.payload_in-requires
payload_in-requires c = (packet_fits c.args.received.now c.args.h.negotiated.config.max_payload _ _ _ c.decode.ensures c.in-Ok-Some.is c.in-Ok-Some.field-0-is).0

pub connect-requires : goal.connect-requires
connect-requires c =
    record {
      fine = c.requires.fine;
      most = (packet_fits c.args.received.now c.args.h.negotiated.config.max_payload _ _ _ c.decode.ensures c.in-Ok-Some.is c.in-Ok-Some.field-0-is).1;
    }

pub returns-then-is_cnxn : goal.returns-then-is_cnxn
unfolding first_by
returns-then-is_cnxn c =
    rw (decoded-some _ _ _ _ _ c.decode.ensures c.in-Ok-Some.is c.in-Ok-Some.field-0-is, ← c.is_cnxn.ensures, c.if-is_cnxn.true, ← c.payload_in.ensures)
    (c.connect.ensures _ _)

pub frame_len-requires : goal.frame_len-requires
frame_len-requires c = (packet_fits c.args.received.now c.args.h.negotiated.config.max_payload _ _ _ c.decode.ensures c.in-Ok-Some.is c.in-Ok-Some.field-0-is).1

pub returns-else-is_cnxn : goal.returns-else-is_cnxn
unfolding first_by
returns-else-is_cnxn c =
    rw (decoded-some _ _ _ _ _ c.decode.ensures c.in-Ok-Some.is c.in-Ok-Some.field-0-is, ← c.is_cnxn.ensures, c.if-is_cnxn.false, ← c.frame_len.ensures)
    c.dispatch_with.ensures

pub returns-in-Ok-None : goal.returns-in-Ok-None
unfolding first_by
returns-in-Ok-None c =
    rw (decoded-none _ _ _ _ c.decode.ensures c.in-Ok-None.is c.in-Ok-None.field-0-is) c.dispatch_with-in-Ok-None.ensures

pub returns-in-Err : goal.returns-in-Err
unfolding first_by
returns-in-Err c = rw (sym c.decode.ensures ∙ c.in-Err.is) c.dispatch_with-in-Err.ensures
