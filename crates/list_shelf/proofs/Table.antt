-- The slots of a table as places: read, changed at one place, and cleared.
use Rattle.std.proofs.Common.{◌≡◌, ℕ, zero, suc, ◌+◌, ◌<◌, List, [], ◌∷◌, ◌++◌, map, length, get_or, take, drop, set, Some, sym, refl, ap, ◌∙◌, subst, arith}
use Rattle.std.proofs.lemmas.List.Edits.{map_over_more}
use Rattle.std.proofs.lemmas.List.{length-map, map-set, get_or-map}
use Rattle.std.proofs.lemmas.Option.{slice_get_read, slice_get-map}
use Rattle.std.proofs.lemmas.Simd.{map-map}
use Rattle.std.specs.List.{slice_get}
use Rattle.std.specs.Option.{option_map}
use Rattle.rulebook.specs.Books.{Rules}
use Rattle.shelf.specs.Opening.{AllWithin, Openable, Opened}
use Rattle.shelf.specs.Stock.{Stock, recounted}
use Rattle.shelf.specs.declared.answer.Place.{Place}
use Rattle.shelf.specs.declared.counts.Counts.{Counts}
use Rattle.list_shelf.specs.Slots.{place_of, places_of, slot_items, emptied}
use Rattle.list_shelf.specs.declared.slot.Slot.{Slot}

-- the place of a slot that was read
pub stands : {I : Type 0} (slots : List (Slot I)) (k : ℕ) (slot : Slot I) → k < length slots → slot ≡ get_or slots k slot → slice_get (places_of slots) k ≡ Some (place_of slot)
stands slots k slot lt is = slice_get-map place_of slots k ∙ ap (option_map place_of) (slice_get_read slots _ k slot refl lt is)

-- a slot with other counts
pub places_set : {I : Type 0} (slots : List (Slot I)) (k : ℕ) (d : Slot I) (counts : Counts)
    → places_of (set slots k (record { item = (get_or slots k d).item; counts = counts })) ≡ recounted (places_of slots) k counts.on_hand counts.out
places_set [] k d counts = refl
places_set (x ∷ xs) zero d counts = refl
places_set (x ∷ xs) (suc k) d counts = ap (λ ps. place_of x ∷ ps) (places_set xs k d counts)

-- one slot more is cleared
pub cleared_more : {I : Type 0} (xs ys : List (Slot I)) (i : ℕ) (d : Slot I) (none : Counts) → i < length xs → i < length ys → places_of ys ≡ map emptied (take i (places_of xs)) ++ drop i (places_of xs)
    → none.on_hand ≡ 0 → none.out ≡ 0 → places_of (set ys i (record { item = (get_or ys i d).item; counts = none })) ≡ map emptied (take (i + 1) (places_of xs)) ++ drop (i + 1) (places_of xs)
cleared_more {I} xs ys i d none lt lt' so hand gone =
    let n = length-map xs place_of in
    let x = get_or ys i d in
    let new : Slot I = record { item = x.item; counts = none } in
    let is : place_of new ≡ emptied (place_of x) = λ j. record { item = x.item; on_hand = hand j; out = gone j } in
    map-set place_of ys i new ∙ ap (set (places_of ys) i) is
    ∙ map_over_more emptied (places_of xs) (places_of ys) i (place_of x) (omega arith) so (sym (get_or-map place_of ys i d (place_of x) lt'))

-- emptied places have a count of 0 each
pub emptied_count : {I : Type 0} (count : Place I → ℕ) → ((p : Place I) → count (emptied p) ≡ 0) → (ps : List (Place I)) (k : ℕ) → get_or (map count (map emptied ps)) k 0 ≡ 0
emptied_count count is [] k = refl
emptied_count count is (p ∷ ps) zero = is p
emptied_count count is (p ∷ ps) (suc k) = emptied_count count is ps k

pub opened_by : {I : Type 0} (R : Rules I) (number : ℕ) (slots : List (Slot I)) (s : Stock I) → Openable R.outside number (slot_items slots) → s ≡ record { number = number; places = map emptied (places_of slots) } → Opened R s
opened_by {I} R number slots s may is = subst (Opened R) (sym is) (record {
  numbered = may.numbered;
  some = omega (arith, may.some, counted);
  few = omega (arith, may.few, counted);
  within = subst (AllWithin R.outside) (sym (map-map (λ (p : Place I). p.item) emptied (places_of slots) ∙ map-map (λ (p : Place I). p.item) place_of slots)) may.within;
  none_on_hand = λ k. emptied_count (λ (p : Place I). p.on_hand) (λ p. refl) (places_of slots) k;
  none_out = λ k. emptied_count (λ (p : Place I). p.out) (λ p. refl) (places_of slots) k;
})
  where
    counted : length (map emptied (places_of slots)) ≡ length (slot_items slots)
    counted = length-map (places_of slots) emptied ∙ length-map slots place_of ∙ sym (length-map slots (λ (x : Slot I). x.item))
