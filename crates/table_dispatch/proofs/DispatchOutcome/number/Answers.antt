use Rattle.table_dispatch.specs.Dispatch.{outcome_number}
use Rattle.table_dispatch.proofs.DispatchOutcome.number.Goals as goal

pub returns-in-AckWrite : goal.returns-in-AckWrite
unfolding outcome_number
returns-in-AckWrite c = rw c.in-AckWrite.is

pub returns-in-CreditGranted : goal.returns-in-CreditGranted
unfolding outcome_number
returns-in-CreditGranted c = rw c.in-CreditGranted.is

pub returns-in-SlotClosed : goal.returns-in-SlotClosed
unfolding outcome_number
returns-in-SlotClosed c = rw c.in-SlotClosed.is

pub returns-in-DataBuffered : goal.returns-in-DataBuffered
unfolding outcome_number
returns-in-DataBuffered c = rw c.in-DataBuffered.is

pub returns-in-IncomingOpen : goal.returns-in-IncomingOpen
unfolding outcome_number
returns-in-IncomingOpen c = rw c.in-IncomingOpen.is

pub returns-in-CancelQueuedOpen : goal.returns-in-CancelQueuedOpen
unfolding outcome_number
returns-in-CancelQueuedOpen c = rw c.in-CancelQueuedOpen.is

pub returns-in-StrayReady : goal.returns-in-StrayReady
unfolding outcome_number
returns-in-StrayReady c = rw c.in-StrayReady.is

pub returns-in-ChannelFault : goal.returns-in-ChannelFault
unfolding outcome_number
returns-in-ChannelFault c = rw c.in-ChannelFault.is c.number.ensures

pub returns-in-Unmatched : goal.returns-in-Unmatched
unfolding outcome_number
returns-in-Unmatched c = rw c.in-Unmatched.is
