use Rattle.std.proofs.Common.{List, ap}
use Rattle.list_shelf.proofs.Table.{opened_by}
use Rattle.list_shelf.proofs.slot.ListShelf.open.Goals as goal
use Rattle.shelf.specs.declared.answer.Place.{Place}

pub returns : goal.returns
returns g c =
    let is = ap (λ (ps : List (Place g.row.I.Denot)). record { number = c.args.number; places = ps }) c.clear.ensures in
    record { is = is; opened = opened_by _ _ c.args.slots.now _ c.requires is }
