use Rattle.shelf_examples.proofs.Held.{borrowed_so}
use Rattle.shelf_examples.proofs.holding.pick_and_return.Goals as goal
use Rattle.slips.proofs.Ending.{return_granted}

pub unwrap-requires : goal.unwrap-requires
unwrap-requires g c = return_granted _ _ _ _ _ _ c.in_ok-slip.ensures.step _ _ c.give_back.ensures.step

pub returns : goal.returns
returns g c = borrowed_so _ _ _ _ _ _ _ _ c.place-place.ensures c.in_ok-slip.ensures.step (rw c.unwrap.ensures at c.give_back.ensures.step)
