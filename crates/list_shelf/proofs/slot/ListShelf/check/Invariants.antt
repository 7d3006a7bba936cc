use Rattle.list_shelf.proofs.slot.ListShelf.check.Given as goal
use Rattle.std.proofs.Common.{◌≡◌, ℕ, ◌<◌, Some, None}
use Rattle.std.specs.List.{slice_get}
use Rattle.list_shelf.specs.Slots.{slot_items}

abbrev pub invariant-loop-place : goal.invariant-loop-place
invariant-loop-place g l = (k : ℕ) → k < l.place → (i : g.row.I.Denot) → slice_get (slot_items l.slots) k ≡ Some i → (g.B.RuleBook.rules l.book).outside i ≡ None
