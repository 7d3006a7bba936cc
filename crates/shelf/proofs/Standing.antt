-- What a change of one place's counts leaves and gives.
use Rattle.std.proofs.Common.{◌≡◌, ℕ, zero, suc, ◌<◌, ◌≢◌, List, [], ◌∷◌, map, length, get_or, refl, ap, le_of_suc-le-suc, not-suc-le-zero}
use Rattle.shelf.specs.Stock.{items_of, recounted}
use Rattle.shelf.specs.declared.answer.Place.{Place}

module _ {I : Type 0} where
  pub items_recounted : (ps : List (Place I)) (k h o : ℕ) → items_of (recounted ps k h o) ≡ items_of ps
  items_recounted [] k h o = refl
  items_recounted (p ∷ ps) zero h o = refl
  items_recounted (p ∷ ps) (suc k) h o = ap (λ is. p.item ∷ is) (items_recounted ps k h o)

  -- any number of a place that is read off its counts, at the place that changed and at another
  module _ (count : Place I → ℕ) where
    pub count_same : (ps : List (Place I)) (k h o n : ℕ) → ((i : I) → count (record { item = i; on_hand = h; out = o }) ≡ n) → k < length (items_of ps) → get_or (map count (recounted ps k h o)) k 0 ≡ n
    count_same [] k h o n is lt = absurd (not-suc-le-zero lt)
    count_same (p ∷ ps) zero h o n is lt = is p.item
    count_same (p ∷ ps) (suc k) h o n is lt = count_same ps k h o n is (le_of_suc-le-suc lt)

    pub count_other : (ps : List (Place I)) (k h o j : ℕ) → k ≢ j → get_or (map count (recounted ps k h o)) j 0 ≡ get_or (map count ps) j 0
    count_other [] k h o j ne = refl
    count_other (p ∷ ps) zero h o zero ne = absurd (ne refl)
    count_other (p ∷ ps) zero h o (suc j) ne = refl
    count_other (p ∷ ps) (suc k) h o zero ne = refl
    count_other (p ∷ ps) (suc k) h o (suc j) ne = count_other ps k h o j (λ e. ne (ap suc e))
