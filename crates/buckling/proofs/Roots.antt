-- The root r: the greatest number that fits.
use Rattle.std.proofs.Common.{◌≡◌, ℕ, zero, suc, ◌+◌, ◌*◌, ◌<◌, ◌≤◌, Bool, true, false, leb, sym, ap, ◌∙◌, inl, inr, mul-le-mul_right, mul-le-mul, mul-pos, arith}
use Rattle.std.proofs.lemmas.Bool.{cases_lt, cases_Bool, both_ways, le-leb, lt-leb, leb-true}
use Rattle.bearings.proofs.Clearing.{cleared}
use Rattle.bearings.specs.Fractions.{◌over◌, ◌per◌, ◌same_as◌}
use Rattle.bearings.specs.declared.bearing.Plan.{Plan}
use Rattle.buckling.proofs.Fair.{FairPlan}
use Rattle.buckling.specs.Greatest.{greatest}
use Rattle.buckling.specs.Terms.{lesser_side, greater_side, under_root, root_fits, root}

pub greatest_is : (test : ℕ → Bool) (limit r : ℕ) → r ≤ limit → (0 < r → test r ≡ true) → ((k : ℕ) → r < k → test k ≡ false) → greatest test limit ≡ r
unfolding greatest
greatest_is test zero r low passes above = omega arith
greatest_is test (suc n) r low passes above =
    elim (cases_lt r (suc n)) [
      | inl below ↦ rw (above (suc n) below) (greatest_is test n r (omega arith) passes above)
      | inr reached ↦
          let e : r ≡ suc n = omega arith in
          let here : test (suc n) ≡ true = rw e at (passes (omega arith)) in
          rw here (sym e)
    ]

greatest_passes : (test : ℕ → Bool) (limit : ℕ) → 0 < greatest test limit → test (greatest test limit) ≡ true
unfolding greatest
greatest_passes test zero some = absurd (let never : ⊥ = omega arith in never)
greatest_passes test (suc n) some =
    elim (cases_Bool (test (suc n))) [
      | inl passes ↦ rw passes passes
      | inr fails ↦ rw fails (greatest_passes test n (rw fails at some))
    ]

greatest_most : (test : ℕ → Bool) (limit k : ℕ) → k ≤ limit → test k ≡ true → k ≤ greatest test limit
unfolding greatest
greatest_most test zero k low passes = omega arith
greatest_most test (suc n) k low passes =
    elim (cases_Bool (test (suc n))) [
      | inl here ↦ rw here low
      | inr fails ↦
          rw fails
          (elim (cases_lt k (suc n)) [
            | inl below ↦ greatest_most test n k (omega arith) passes
            | inr reached ↦ let e : k ≡ suc n = omega arith in absurd (both_ways (test (suc n)) fails (rw e at passes))
          ])
    ]

greatest_limit : (test : ℕ → Bool) (limit : ℕ) → greatest test limit ≤ limit
unfolding greatest
greatest_limit test zero = omega arith
greatest_limit test (suc n) =
    elim (cases_Bool (test (suc n))) [
      | inl here ↦ rw here (omega arith)
      | inr fails ↦ rw fails (omega (arith, greatest_limit test n))
    ]

-- r by what stands under the root
pub record Root (plan : Plan) (r : ℕ) : Type 0 where
  pub fits : r * r * (under_root plan).bottom ≤ 1000000 * (under_root plan).top
  pub next : 1000000 * (under_root plan).top < (r + 1) * (r + 1) * (under_root plan).bottom
  pub low : 1000 ≤ r
  pub high : r ≤ 1732

module _ (plan : Plan) (fair : FairPlan plan) where
  fits_under : (r : ℕ) → leb (r * r * (under_root plan).bottom) (1000000 * (under_root plan).top) ≡ root_fits plan r
  unfolding root_fits under_root
  fits_under r = cleared 1 (greater_side plan).bottom _ _ _ _ (omega arith) fair.greater_bottom (omega arith) (omega arith)

  pub root_under : Root plan (root plan)
  unfolding root
  root_under =
      let r = greatest (root_fits plan) 1732 in
      let low : 1000 ≤ greatest (root_fits plan) 1732 =
      greatest_most (root_fits plan) 1732 1000 (omega arith) (sym (fits_under 1000) ∙ le-leb _ _ (omega (arith, fair.root_low))) in
      let fits = leb-true _ _ (fits_under r ∙ greatest_passes (root_fits plan) 1732 (omega arith)) in
      record {
        fits = fits;
        next = elim (cases_lt (1000000 * (under_root plan).top) ((greatest (root_fits plan) 1732 + 1) * (greatest (root_fits plan) 1732 + 1) * (under_root plan).bottom)) [
          | inl so ↦ so
          | inr more ↦
              let small : greatest (root_fits plan) 1732 + 1 ≤ 1732 = elim (cases_lt 1732 (greatest (root_fits plan) 1732 + 1)) [
                | inl above ↦ let above_so : 1733 ≤ greatest (root_fits plan) 1732 + 1 = omega arith in
                    omega (arith, fair.root_high, fair.root_bottom, mul-le-mul_right (under_root plan).bottom (mul-le-mul above_so above_so))
                | inr so ↦ so
              ] in
              omega (arith, greatest_most (root_fits plan) 1732 (greatest (root_fits plan) 1732 + 1) small (sym (fits_under _) ∙ le-leb _ _ more))
        ];
        low = low;
        high = greatest_limit (root_fits plan) 1732;
      }

pub root_passes : (plan : Plan) → FairPlan plan → root_fits plan (root plan) ≡ true
root_passes plan fair = sym (fits_under plan fair (root plan)) ∙ le-leb _ _ (root_under plan fair).fits

pub root_most : (plan : Plan) → FairPlan plan → (k : ℕ) → root_fits plan k ≡ true → k ≤ root plan
root_most plan fair k passes =
    let r = root plan in
    let fits : k * k * (under_root plan).bottom ≤ 1000000 * (under_root plan).top = leb-true _ _ (fits_under plan fair k ∙ passes) in
    elim (cases_lt (root plan) k) [
      | inl more ↦
          let one : root plan + 1 ≤ k = omega arith in
          omega (arith, (root_under plan fair).next, mul-le-mul_right (under_root plan).bottom (mul-le-mul one one))
      | inr so ↦ so
    ]

-- the root of any two sides lies from 1,000 to 1,732
pub root_low : (lesser greater r : ℕ) → 1000000 * (greater + 2 * lesser) < (r + 1) * (r + 1) * greater → 1000 ≤ r
root_low lesser greater r next =
    elim (cases_lt r 1000) [
      | inl below ↦ let one : r + 1 ≤ 1000 = omega arith in omega (arith, mul-le-mul_right greater (mul-le-mul one one))
      | inr so ↦ so
    ]

pub root_high : (lesser greater r : ℕ) → 0 < greater → lesser ≤ greater → r * r * greater ≤ 1000000 * (greater + 2 * lesser) → r ≤ 1732
root_high lesser greater r pos ordered fits =
    elim (cases_lt 1732 r) [
      | inl more ↦ let one : 1733 ≤ r = omega arith in omega (arith, mul-le-mul_right greater (mul-le-mul one one))
      | inr so ↦ so
    ]

-- by sides in any unit
module _ (plan : Plan) (fair : FairPlan plan) (lesser greater : ℕ) (pos : 0 < greater)
    (sides : (lesser over greater) same_as (lesser_side plan per greater_side plan)) where
  fits_by : (r : ℕ) → leb (r * r * greater) (1000000 * (greater + 2 * lesser)) ≡ root_fits plan r
  unfolding root_fits
  fits_by r =
      let l = lesser_side plan in
      let m = greater_side plan in
      cleared greater (m.bottom * (m.top * l.bottom)) _ _ _ _ pos
      (mul-pos fair.greater_bottom (mul-pos fair.greater_top fair.lesser_bottom))
      (omega arith)
      (omega (arith, ap (λ z. 2000000 * m.bottom * z) sides))

  pub root_is : (r : ℕ) → lesser ≤ greater → r * r * greater ≤ 1000000 * (greater + 2 * lesser)
      → 1000000 * (greater + 2 * lesser) < (r + 1) * (r + 1) * greater → root plan ≡ r
  unfolding root
  root_is r ordered fits next =
      greatest_is (root_fits plan) 1732 r
      (root_high lesser greater r pos ordered fits)
      (λ _. sym (fits_by r) ∙ le-leb _ _ fits)
      (λ k above. let one : r + 1 ≤ k = omega arith in
      sym (fits_by k) ∙ lt-leb _ _ (omega (arith, mul-le-mul_right greater (mul-le-mul one one))))
