use Rattle.device_meets.proofs.MeetsLaws.{packet_fits}
use Rattle.device_meets.proofs.meets.Goals as goal

pub payload_in-requires : goal.payload_in-requires
payload_in-requires c =
    (packet_fits c.args.received.now c.args.h.negotiated.config.max_payload _ _ _ c.decode.ensures c.in-Ok-Some.is c.in-Ok-Some.field-0-is).0

pub by_command-requires : goal.by_command-requires
by_command-requires c =
    (c.requires, (packet_fits c.args.received.now c.args.h.negotiated.config.max_payload _ _ _ c.decode.ensures c.in-Ok-Some.is c.in-Ok-Some.field-0-is).1)
