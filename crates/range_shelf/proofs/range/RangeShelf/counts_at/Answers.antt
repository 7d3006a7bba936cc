use Rattle.std.proofs.Common.{◌≤◌, length, rules}
use Rattle.range_shelf.proofs.Indexed.{place_found}
use Rattle.range_shelf.proofs.range.RangeShelf.counts_at.Goals as goal

pub returns-clause-stands : goal.returns-clause-stands
returns-clause-stands c =
    let s = c.args.self.now in
    let enough : s.bearing.layers ≤ length s.counts = search rules in
    rw c.copied.ensures (place_found s.bearing s.counts c.args.place c.get.result enough c.get.ensures.lookup)
