use Rattle.shelf.proofs.Stepping.{shown_step}
use Rattle.range_shelf.proofs.calls.RangeShelfShelf.place.Goals as goal

pub returns : goal.returns
returns c = shown_step _ _ _ (rw c.in_ok-counts.ensures.ok_part at c.counts_at.ensures.stands)
