-- A range with counts of 0: it is a shelf as opened.
use Rattle.std.proofs.Common.{◌≡◌, ℕ, zero, suc, ◌+◌, ◌<◌, map, get_or, replicate, None, Option, sym, refl, ap, ◌∙◌, subst, ap₂, arith}
use Rattle.std.proofs.lemmas.List.{length-map}
use Rattle.std.proofs.lemmas.Option.{slice_get-map, slice_get_within, same_Some}
use Rattle.std.specs.List.{range_with_len}
use Rattle.std.specs.Option.{option_map}
use Rattle.bearings.specs.Limits.{bearing_outside}
use Rattle.bearings.specs.declared.bearing.Bearing.{Bearing}
use Rattle.rulebook.specs.Books.{Rules}
use Rattle.shelf.specs.Opening.{AllWithin, Opened}
use Rattle.shelf.specs.Stock.{Stock, items_of}
use Rattle.shelf.specs.declared.answer.Place.{Place}
use Rattle.shelf.specs.declared.counts.Counts.{Counts}
use Rattle.range_shelf.proofs.Indexed.{range_length, range_at}
use Rattle.range_shelf.proofs.Layers.{layers_ends, fewer_within}
use Rattle.range_shelf.specs.Range.{range_place, range_of, range_places, RangeOpenable}

-- a count of 0 in every element
none_counted : (count : Counts → ℕ) (none : Counts) → count none ≡ 0 → (n k : ℕ) → get_or (map count (replicate n none)) k 0 ≡ 0
none_counted count none is zero k = refl
none_counted count none is (suc n) zero = is
none_counted count none is (suc n) (suc k) = none_counted count none is n k

pub range_empty : (b : Bearing) (none : Counts) (n : ℕ) → none.on_hand ≡ 0 → none.out ≡ 0 → range_places b (replicate n none) ≡ range_of b (λ _. 0) (λ _. 0)
range_empty b none n hand gone =
    ap₂ (range_of b) (λ j k. none_counted (λ (c : Counts). c.on_hand) none hand n k j) (λ j k. none_counted (λ (c : Counts). c.out) none gone n k j)

-- a count of 0 at every place
none_from : (count : Place Bearing → ℕ) (f : ℕ → Place Bearing) → ((i : ℕ) → count (f i) ≡ 0) → (a n k : ℕ) → get_or (map count (map f (range_with_len a n))) k 0 ≡ 0
none_from count f is a zero k = refl
none_from count f is a (suc n) zero = is a
none_from count f is a (suc n) (suc k) = none_from count f is (a + 1) n k

items_within : (b : Bearing) (hand gone : ℕ → ℕ) → bearing_outside b ≡ None → AllWithin bearing_outside (items_of (range_of b hand gone))
items_within b hand gone within k i e =
    let places = range_of b hand gone in
    let n = length-map places (λ (p : Place Bearing). p.item) in
    let m = range_length b hand gone in
    let on = slice_get_within (items_of places) k i e in
    let lt : k < b.layers = omega arith in
    let here = slice_get-map (λ (p : Place Bearing). p.item) places k ∙ ap (option_map (λ (p : Place Bearing). p.item)) (range_at b hand gone k lt) in
    subst (λ (x : Bearing). bearing_outside x ≡ None) (same_Some _ _ (sym here ∙ e)) (fewer_within b within (k + 1) (omega arith) (omega arith))

pub opened_by : (R : Rules Bearing) → R.outside ≡ bearing_outside → (number : ℕ) (b : Bearing) → RangeOpenable number b → (s : Stock Bearing) → s ≡ record { number = number; places = range_of b (λ _. 0) (λ _. 0) } → Opened R s
opened_by R limits number b may s is =
    let m = range_length b (λ _. 0) (λ _. 0) in
    let ends = layers_ends b may.within in
    let place = range_place b (λ _. 0) (λ _. 0) in
    subst (Opened R) (sym is) (record {
      numbered = may.numbered;
      some = omega arith;
      few = omega arith;
      within = subst (λ (outside : Bearing → Option ℕ). AllWithin outside (items_of (range_of b (λ _. 0) (λ _. 0)))) (sym limits) (items_within b (λ _. 0) (λ _. 0) may.within);
      none_on_hand = none_from (λ (p : Place Bearing). p.on_hand) place (λ i. refl) 0 b.layers;
      none_out = none_from (λ (p : Place Bearing). p.out) place (λ i. refl) 0 b.layers;
    })
