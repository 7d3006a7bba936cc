use Rattle.std.proofs.Common.{arith}
use Rattle.list_shelf.proofs.Table.{cleared_more}
use Rattle.list_shelf.proofs.slots.clear.Goals as goal

pub loop-slot-preserved : goal.loop-slot-preserved
loop-slot-preserved g c =
    cleared_more c.args.slots.now c.loop-slot.slots c.loop-slot.slot-index _ _ c.loop-slot-test.true (omega arith) c.loop-slot.invariant c.none-slot.ensures.0 c.none-slot.ensures.1
