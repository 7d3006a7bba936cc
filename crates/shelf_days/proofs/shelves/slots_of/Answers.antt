use Rattle.std.proofs.Common.{rules}
use Rattle.std.proofs.lemmas.Iterator.{YieldsList-from_map_by, YieldsList-from_slice}
use Rattle.std.proofs.lemmas.Iterator.Consumers.{YieldsList-at, map_from_collect}
use Rattle.std.proofs.lemmas.List.{map-id}
use Rattle.list_shelf.specs.declared.slot.Slot.{Slot}
use borrow.Author.Tests.{tests}
use Rattle.shelf_days.proofs.shelves.slots_of.Goals as goal

pub returns : goal.returns
returns g c =
    rw map-id at (map_from_collect {v = λ (slot : Slot g.row.I.Denot). slot.item} c.collect.result c.collect.ensures.ran
    (YieldsList-from_map_by _ (λ slot. slot.item) (λ item. item) (YieldsList-at c.map.ensures.source (YieldsList-from_slice c.args.items.now c.iter.ensures.rest)) c.map.ensures.closure (λ x r q k. search (rules, tests))))
