-- The places of a range: read, and changed at one place.
use Rattle.std.proofs.Common.{◌≡◌, ℕ, zero, suc, ◌+◌, ◌<◌, ◌≤◌, ◌≢◌, List, ◌∷◌, map, length, get_or, take, set, Some, None, Option, Bor, sym, refl, ap, ◌∙◌, subst, ap₂, arith}
use Rattle.std.proofs.lemmas.List.FromFn.{length-map-range_with_len, get_or-map-range_with_len}
use Rattle.std.proofs.lemmas.List.{length-map, length-take-le, get_or-take, map-set, get_or-map, get_or-set_same, get_or-set_other}
use Rattle.std.proofs.lemmas.Option.{slice_get-get_or, slice_get_past}
use Rattle.std.specs.List.{slice_get, range_with_len}
use Rattle.std.specs.Option.{option_map, option_copied}
use Rattle.std.specs.Slice.{IsItemAt}
use Rattle.bearings.specs.declared.bearing.Bearing.{Bearing}
use Rattle.shelf.specs.Stock.{recounted}
use Rattle.shelf.specs.declared.answer.Place.{Place}
use Rattle.shelf.specs.declared.counts.Counts.{Counts}
use Rattle.range_shelf.specs.Range.{layered, counted_place, range_place, range_of, hand_at, gone_at, range_places}

module _ (b : Bearing) (hand gone : ℕ → ℕ) where
  pub range_length : length (range_of b hand gone) ≡ b.layers
  range_length = length-map-range_with_len (range_place b hand gone) 0 b.layers

  pub range_at : (k : ℕ) → k < b.layers → slice_get (range_of b hand gone) k ≡ Some (range_place b hand gone k)
  range_at k lt =
      let n = range_length in
      let p = range_place b hand gone k in
      slice_get-get_or (range_of b hand gone) k p (omega arith) ∙ ap Some (get_or-map-range_with_len (range_place b hand gone) 0 b.layers k k p lt (omega arith))

  pub range_off : (k : ℕ) → b.layers ≤ k → slice_get (range_of b hand gone) k ≡ None
  range_off k off = let n = range_length in slice_get_past (range_of b hand gone) k (omega arith)

-- the place k, by the counts that are read there
pub place_read : (b : Bearing) (counts : List Counts) (k : ℕ) (d : Counts) → k < b.layers → k < length counts
    → slice_get (range_places b counts) k ≡ Some (counted_place b k (get_or counts k d))
place_read b counts k d lt stored =
    range_at b (hand_at counts) (gone_at counts) k lt
    ∙ ap₂ (λ (h o : ℕ). Some (record { item = layered b (k + 1); on_hand = h; out = o })) (get_or-map (λ (c : Counts). c.on_hand) counts k d 0 stored) (get_or-map (λ (c : Counts). c.out) counts k d 0 stored)

-- the same, by the counts that are found among those of the places
pub place_found : (b : Bearing) (counts : List Counts) (k : ℕ) (found : Option (Bor Counts)) → b.layers ≤ length counts → IsItemAt (take b.layers counts) k found
    → slice_get (range_places b counts) k ≡ option_map (counted_place b k) (option_copied found)
place_found b counts k None enough read =
    let n = length-take-le b.layers counts enough in
    let off : length (take b.layers counts) ≤ k = read.3 in
    range_off b (hand_at counts) (gone_at counts) k (omega arith)
place_found b counts k (Some c) enough read =
    let n = length-take-le b.layers counts enough in
    let lt : k < length (take b.layers counts) = read.3.0 in
    place_read b counts k c.now (omega arith) (omega arith) ∙ ap (λ (d : Counts). Some (counted_place b k d)) (sym (read.1 ∙ get_or-take b.layers counts k c.now (omega arith)))

module _ {I : Type 0} (f g : ℕ → Place I) where
  same_from : (a n : ℕ) → ((i : ℕ) → a ≤ i → g i ≡ f i) → map g (range_with_len a n) ≡ map f (range_with_len a n)
  same_from a zero same = refl
  same_from a (suc n) same = ap₂ ◌∷◌ (same a (omega arith)) (same_from (a + 1) n (λ i le. same i (omega arith)))

  -- places that differ in the counts of one
  recounted_from : (a n k j hand gone : ℕ) → a + k ≡ j → g j ≡ record { item = (f j).item; on_hand = hand; out = gone } → ((i : ℕ) → i ≢ j → g i ≡ f i)
      → map g (range_with_len a n) ≡ recounted (map f (range_with_len a n)) k hand gone
  recounted_from a zero k j hand gone at here other = refl
  recounted_from a (suc n) zero j hand gone at here other =
      let is : j ≡ a = omega arith in
      ap₂ ◌∷◌ (subst (λ (i : ℕ). g i ≡ record { item = (f i).item; on_hand = hand; out = gone }) is here) (same_from (a + 1) n (λ i le. other i (λ e. omega arith)))
  recounted_from a (suc n) (suc k) j hand gone at here other =
      ap₂ ◌∷◌ (other a (λ e. omega arith)) (recounted_from (a + 1) n k j hand gone (omega arith) here other)

module _ (counts : List Counts) (k : ℕ) (new : Counts) (count : Counts → ℕ) where
  count_same : k < length counts → get_or (map count (set counts k new)) k 0 ≡ count new
  count_same lt =
      let n = length-map counts count in
      ap (λ (ns : List ℕ). get_or ns k 0) (map-set count counts k new) ∙ get_or-set_same (map count counts) k (count new) 0 (omega arith)

  count_other : (j : ℕ) → j ≢ k → get_or (map count (set counts k new)) j 0 ≡ get_or (map count counts) j 0
  count_other j ne = ap (λ (ns : List ℕ). get_or ns j 0) (map-set count counts k new) ∙ get_or-set_other (map count counts) k j (count new) 0 ne

pub places_set : (b : Bearing) (counts : List Counts) (k : ℕ) (new : Counts) → k < length counts → range_places b (set counts k new) ≡ recounted (range_places b counts) k new.on_hand new.out
places_set b counts k new lt =
    recounted_from (range_place b (hand_at counts) (gone_at counts)) (range_place b (hand_at (set counts k new)) (gone_at (set counts k new))) 0 b.layers k k new.on_hand new.out (omega arith)
    (made k (count_same counts k new on_hand lt) (count_same counts k new out lt))
    (λ j ne. made j (count_other counts k new on_hand j ne) (count_other counts k new out j ne))
  where
    on_hand : Counts → ℕ
    on_hand c = c.on_hand

    out : Counts → ℕ
    out c = c.out

    made : (j : ℕ) {h h' o o' : ℕ} → h ≡ h' → o ≡ o' → ◌≡◌ {A = Place Bearing} (record { item = layered b (j + 1); on_hand = h; out = o }) (record { item = layered b (j + 1); on_hand = h'; out = o' })
    made j = ap₂ (λ (h o : ℕ). record { item = layered b (j + 1); on_hand = h; out = o })
