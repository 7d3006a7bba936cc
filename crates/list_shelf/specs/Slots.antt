-- The places that a table of slots holds.
use Rattle.std.specs.Prelude.{ℕ, List, map}
use Rattle.shelf.specs.Stock.{Stock}
use Rattle.shelf.specs.declared.answer.Place.{Place}
use Rattle.list_shelf.specs.declared.slot.Slot.{Slot}

abbrev pub place_of : {I : Type 0} → Slot I → Place I
place_of slot = record { item = slot.item; on_hand = slot.counts.on_hand; out = slot.counts.out }

abbrev pub places_of : {I : Type 0} → List (Slot I) → List (Place I)
places_of = map place_of

abbrev pub slot_items : {I : Type 0} → List (Slot I) → List I
slot_items = map (λ slot. slot.item)

-- the slots as a shelf of this number
abbrev pub stock_of : {I : Type 0} → ℕ → List (Slot I) → Stock I
stock_of number slots = record { number = number; places = places_of slots }

-- a place with its counts set to 0
abbrev pub emptied : {I : Type 0} → Place I → Place I
emptied p = record { item = p.item; on_hand = 0; out = 0 }
