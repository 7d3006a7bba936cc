use Rattle.shelf.proofs.Stepping.{shown_step}
use Rattle.list_shelf.proofs.Table.{stands}
use Rattle.list_shelf.proofs.slots.place_in.Goals as goal

pub returns : goal.returns
returns g c =
    let read = rw c.in_ok-slot.ensures.ok_part at c.get.ensures.lookup in
    λ number. shown_step _ _ _ (stands c.args.slots.now c.args.place c.in_ok-slot.slot.now read.3.0 read.1)
