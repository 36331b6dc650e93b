use Rattle.replay_slots.proofs.Rows.{put_in, put-out}
use Rattle.replay_row.proofs.put.Goals as goal

pub returns-then-i-slots : goal.returns-then-i-slots
returns-then-i-slots c = put_in _ _ _ _ c.index_in-i.ensures c.if-i-slots.true c.slot_in.ensures

pub returns-else-i-slots : goal.returns-else-i-slots
returns-else-i-slots c = put-out _ _ _ c.index_in-i.ensures c.if-i-slots.false
