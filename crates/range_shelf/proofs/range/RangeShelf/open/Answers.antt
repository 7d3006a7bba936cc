use Rattle.std.proofs.Common.{List, ap}
use Rattle.bearings.specs.declared.bearing.Bearing.{Bearing}
use Rattle.range_shelf.proofs.Emptied.{range_empty, opened_by}
use Rattle.range_shelf.proofs.range.RangeShelf.open.Goals as goal
use Rattle.shelf.specs.declared.answer.Place.{Place}

pub returns : goal.returns
returns c =
    let empty = range_empty c.args.bearing c.none.result 20 c.none.ensures.0 c.none.ensures.1 in
    let is = ap (λ (ps : List (Place Bearing)). record { number = c.args.number; places = ps }) empty in
    record { is = is; opened = λ R limits. opened_by R limits c.args.number c.args.bearing c.requires _ is }
