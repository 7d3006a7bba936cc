use Rattle.shelf_examples.proofs.Held.{ordered_so}
use Rattle.shelf_examples.proofs.holding.pick_and_order.Goals as goal
use Rattle.slips.proofs.Ending.{order_granted}

pub unwrap-requires : goal.unwrap-requires
unwrap-requires g c = order_granted _ _ _ _ _ _ c.in_ok-slip.ensures.step _ _ c.order.ensures.step

pub returns : goal.returns
returns g c = ordered_so _ _ _ _ _ _ _ _ c.place-from.ensures c.in_ok-slip.ensures.step (rw c.unwrap.ensures at c.order.ensures.step)
