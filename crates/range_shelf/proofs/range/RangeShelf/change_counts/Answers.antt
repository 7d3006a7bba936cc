use Rattle.std.proofs.Common.{◌<◌, List, length, ap, rules}
use Rattle.bearings.specs.declared.bearing.Bearing.{Bearing}
use Rattle.shelf.proofs.Stepping.{changed_so}
use Rattle.shelf.specs.declared.answer.Place.{Place}
use Rattle.range_shelf.proofs.Indexed.{places_set}
use Rattle.range_shelf.proofs.range.RangeShelf.change_counts.Goals as goal

pub returns : goal.returns
returns c =
    let s = c.args.self.now in
    let new = c.in_ok-counts-2.counts in
    let within : c.args.place < s.bearing.layers = rw c.in_ok-counts.ensures.ok_part at c.counts_at.ensures.within in
    let stored : c.args.place < length s.counts = search rules in
    changed_so _ _ _ (rw c.in_ok-counts.ensures.ok_part at c.counts_at.ensures.stands) c.args.change new _ c.in_ok-counts-2.ensures
    (ap (λ (ps : List (Place Bearing)). record { number = s.number; places = ps }) (places_set s.bearing s.counts c.args.place new stored))
