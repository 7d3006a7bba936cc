use Rattle.shelf_examples.proofs.Held.{together}
use Rattle.shelf_examples.proofs.holding.receive_then_pick.Goals as goal

pub returns : goal.returns
returns g c = together _ _ _ _ _ _ _ c.receive-received.ensures c.pick-picked.ensures.step
