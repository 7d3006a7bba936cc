use Rattle.std.proofs.Common.{List, ap}
use Rattle.shelf.proofs.Stepping.{changed_so}
use Rattle.shelf.specs.declared.answer.Place.{Place}
use Rattle.list_shelf.proofs.Table.{stands, places_set}
use Rattle.list_shelf.proofs.slots.change_slot.Goals as goal

pub returns : goal.returns
returns g c =
    let slots = c.args.slots.now in
    let read = rw c.in_ok-slot.ensures.ok_part at c.get.ensures.lookup in
    λ number.
    changed_so _ _ _ (stands slots c.args.place c.in_ok-slot.slot.now read.3.0 read.1) c.args.change c.in_ok-counts.counts _ c.in_ok-counts.ensures
    (ap (λ (ps : List (Place g.row.I.Denot)). record { number = number; places = ps }) (places_set slots c.args.place _ c.in_ok-counts.counts))
