-- How the counts of one place change, as the shelves' own code has it.
use Rattle.std.specs.Prelude.{◌≡◌, ℕ, ◌+◌, ◌-◌, cond, ◌||◌, Some, None, Ok, Err, Option, Result, ◌==◌, nat_lt}
use Rattle.std.specs.List.{slice_get}
use Rattle.rulebook.specs.declared.refusal.Refusal.{Refusal}
use Rattle.rulebook.specs.declared.refusal.Refusal.TheVariants.{OffShelf, Receipt, NoneOnHand, NoneOut}
use Rattle.shelf.specs.Stock.{Stock, with_counts}
use Rattle.shelf.specs.declared.answer.Place.{Place}
use Rattle.shelf.specs.declared.changes.Change.{Change}
use Rattle.shelf.specs.declared.changes.Change.TheVariants.{Receive, Take, Order, GiveBack}
use Rattle.shelf.specs.declared.counts.Counts.{Counts}

-- the refusal of a place off the shelf
abbrev pub off_shelf : Change → Refusal
off_shelf (Receive n) = OffShelf
off_shelf Take = OffShelf
off_shelf Order = NoneOut
off_shelf GiveBack = NoneOut

-- on hand and out after a change
abbrev pub counts_after : Change → (hand gone : ℕ) → Result (ℕ × ℕ) Refusal
counts_after (Receive n) hand gone = cond (n == 0 || nat_lt 60000 (hand + gone + n)) (Err Receipt) (Ok (hand + n, gone))
counts_after Take hand gone = cond (hand == 0) (Err NoneOnHand) (Ok (hand - 1, gone + 1))
counts_after Order hand gone = cond (gone == 0) (Err NoneOut) (Ok (hand, gone - 1))
counts_after GiveBack hand gone = cond (gone == 0) (Err NoneOut) (Ok (hand + 1, gone - 1))

abbrev pub numbers : Result Counts Refusal → Result (ℕ × ℕ) Refusal
numbers (Ok counts) = Ok (counts.on_hand, counts.out)
numbers (Err why) = Err why

abbrev pub place_after : {I : Type 0} → Change → Option (Place I) → Result (ℕ × ℕ) Refusal
place_after change None = Err (off_shelf change)
place_after change (Some p) = counts_after change p.on_hand p.out

-- the shelf s' has these counts at the place k and is else as s; or the change is refused and s' is s
abbrev pub ChangedTo : {I T : Type 0} → Result (ℕ × ℕ) Refusal → (k : ℕ) → Stock I → Result T Refusal → Stock I → Type 0
ChangedTo (Ok counts) k s (Ok done) s' = s' ≡ with_counts s k counts.0 counts.1
ChangedTo (Ok counts) k s (Err why) s' = ⊥
ChangedTo (Err reason) k s (Ok done) s' = ⊥
ChangedTo (Err reason) k s (Err why) s' = (why ≡ reason) × (s' ≡ s)

abbrev pub Changed : {I T : Type 0} → Change → (k : ℕ) → Stock I → Result T Refusal → Stock I → Type 0
Changed change k s r s' = ChangedTo (place_after change (slice_get s.places k)) k s r s'
