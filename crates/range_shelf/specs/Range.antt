-- The places of a range shelf, and what opening one checks.
use Rattle.std.specs.Prelude.{◌≡◌, ℕ, ◌+◌, ◌<◌, ◌⊎◌, List, map, Some, None, Ok, Err, Result, slice_index}
use Rattle.std.specs.List.{range_with_len}
use Rattle.bearings.specs.Limits.{bearing_outside}
use Rattle.bearings.specs.declared.bearing.Bearing.{Bearing}
use Rattle.shelf.specs.Opening.{RefusesOpening}
use Rattle.shelf.specs.Stock.{Stock}
use Rattle.shelf.specs.declared.answer.Place.{Place}
use Rattle.shelf.specs.declared.counts.Counts.{Counts}
use Rattle.shelf.specs.declared.opening.OpeningRefusal.{OpeningRefusal}
use Rattle.shelf.specs.declared.opening.OpeningRefusal.TheVariants.{Item, ShelfNumber}
use Rattle.range_shelf.specs.declared.range.RangeShelf.{RangeShelf}

-- the bearing with this many layers
abbrev pub layered : Bearing → ℕ → Bearing
layered b n = record {
  plan = b.plan;
  layers = n;
  thickness = b.thickness;
  cover = b.cover;
  laminate = b.laminate;
  modulus = b.modulus;
  strength = b.strength;
}

-- the place i of a bearing's range, by how many are on hand and out at each place
abbrev pub range_place : Bearing → (hand gone : ℕ → ℕ) → ℕ → Place Bearing
range_place b hand gone i = record { item = layered b (i + 1); on_hand = hand i; out = gone i }

-- the same, by its own counts
abbrev pub counted_place : Bearing → ℕ → Counts → Place Bearing
counted_place b i counts = record { item = layered b (i + 1); on_hand = counts.on_hand; out = counts.out }

-- a place for each number of layers from 1 to the bearing's own
abbrev pub range_of : Bearing → (hand gone : ℕ → ℕ) → List (Place Bearing)
range_of b hand gone = map (range_place b hand gone) (range_with_len 0 b.layers)

-- on hand and out at the place i, by the stored counts
abbrev pub hand_at : List Counts → ℕ → ℕ
hand_at counts i = slice_index (map (λ c. c.on_hand) counts) i

abbrev pub gone_at : List Counts → ℕ → ℕ
gone_at counts i = slice_index (map (λ c. c.out) counts) i

abbrev pub range_places : Bearing → List Counts → List (Place Bearing)
range_places b counts = range_of b (hand_at counts) (gone_at counts)

abbrev pub range_stock : RangeShelf → Stock Bearing
range_stock s = record { number = s.number; places = range_places s.bearing s.counts }

-- a range shelf of this number may be opened from the bearing
pub record RangeOpenable (number : ℕ) (b : Bearing) : Type 0 where
  pub numbered : 0 < number
  pub within : bearing_outside b ≡ None

-- whether it may: the shelf number, then the bearing, which is named as the item of the place 0
abbrev pub RangeSays : (number : ℕ) → Bearing → Result (Unit {0}) OpeningRefusal → Type 0
RangeSays number b r =
    RefusesOpening r ShelfNumber (number ≡ 0)
    (((field : ℕ) × (bearing_outside b ≡ Some field) × (r ≡ Err (Item 0 field)))
    ⊎ ((bearing_outside b ≡ None) × (r ≡ Ok tt)))
