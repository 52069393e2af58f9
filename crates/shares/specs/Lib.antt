-- A hall's calls seen from each of its drives: its own share of them decides its record and its answers, the sentences of demand 3 hold of
-- it, of that about waiting what the quota leaves, a host reads its reports off the numbers of the hall ticks, the shift page shows what
-- the share says, and a drive that stays due and is not restarted meanwhile is sent at the latest when the quotas of the hall ticks add up
-- to the number of drives. Where all drives were fresh at first, the calls alone decide the shares and with them the log. No call gives a
-- drive anything twice. A drive arrives at the target that rules over its share, and stays there. It has travelled as far as its share makes
-- it move, and the bill is shared by that.
pub mod Shares
pub mod Once
pub mod WaitLaws
pub mod Bound
pub mod BoundWitnesses
pub mod SharedLog
pub mod Theorem
pub mod Waiting
pub mod Waited
pub mod HostLog
pub mod HallList
pub mod Decided
pub mod WaitingWitnesses
pub mod PageRead
pub mod Arrival
pub mod ArrivalWitnesses
pub mod Travelled
pub mod BillRead
pub mod Witnesses
