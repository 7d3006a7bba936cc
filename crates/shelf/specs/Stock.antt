-- What a shelf holds: its number, and its places from the front, place 0, to the last.
use Rattle.std.specs.Prelude.{ℕ, zero, suc, List, [], ◌∷◌, map, slice_index}
use Rattle.shelf.specs.declared.answer.Place.{Place}

pub record Stock (I : Type 0) : Type 0 where
  pub number : ℕ
  pub places : List (Place I)

-- what no call changes: the number, and the item of each place
pub record Layout (I : Type 0) : Type 0 where
  pub number : ℕ
  pub items : List I

abbrev pub items_of : {I : Type 0} → List (Place I) → List I
items_of = map (λ p. p.item)

abbrev pub layout : {I : Type 0} → Stock I → Layout I
layout s = record { number = s.number; items = items_of s.places }

-- how many are on hand at the place k, and how many of it are out; 0 off the shelf
abbrev pub on_hand : {I : Type 0} → Stock I → ℕ → ℕ
on_hand s k = slice_index (map (λ p. p.on_hand) s.places) k

abbrev pub out : {I : Type 0} → Stock I → ℕ → ℕ
out s k = slice_index (map (λ p. p.out) s.places) k

-- the same places, but for the counts at the place k
abbrev pub recounted : {I : Type 0} → List (Place I) → (k hand gone : ℕ) → List (Place I)
recounted [] k hand gone = []
recounted (p ∷ ps) zero hand gone = record { item = p.item; on_hand = hand; out = gone } ∷ ps
recounted (p ∷ ps) (suc k) hand gone = p ∷ recounted ps k hand gone

-- the same shelf, but for the counts at the place k
abbrev pub with_counts : {I : Type 0} → Stock I → (k hand gone : ℕ) → Stock I
with_counts s k hand gone = record { number = s.number; places = recounted s.places k hand gone }
