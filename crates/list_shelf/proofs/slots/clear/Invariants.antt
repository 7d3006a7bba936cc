use Rattle.std.proofs.Common.{◌≡◌, ◌++◌, map, take, drop}
use Rattle.list_shelf.proofs.slots.clear.Given as goal
use Rattle.list_shelf.specs.Slots.{places_of, emptied}

abbrev pub invariant-loop-slot : goal.invariant-loop-slot
invariant-loop-slot g l = places_of l.slots ≡ map emptied (take l.slot-index (places_of l.initial.slots)) ++ drop l.slot-index (places_of l.initial.slots)
