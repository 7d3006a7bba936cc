-- The whole terms that the code computes are the article's.
use Rattle.std.proofs.Common.{◌≡◌, ℕ, ◌+◌, ◌*◌, ◌/◌, ◌<◌, ◌≤◌, leb, None, ap, mul-le-mul, mul-le-mul_left, mul-pos, div-mul-le_self, arith}
use native.Mathlib.Nat.{div-le_of_le-mul}
use Rattle.std.proofs.lemmas.Bool.{le-leb, leb-true}
use Rattle.rulebook.specs.Cases.{load}
use Rattle.rulebook.specs.declared.case.Case.{Case}
use Rattle.bearings.proofs.Clearing.{cleared}
use Rattle.bearings.proofs.Inequalities.{BearingWithin, bearing_within}
use Rattle.bearings.proofs.Refusing.{FormKept}
use Rattle.bearings.proofs.Rounding.{up, up_low, up_least, down_greatest, same_up, same_down}
use Rattle.bearings.specs.Fractions.{Fraction, whole, ◌times◌, ◌per◌, ◌plus◌, ◌at_most◌, holds}
use Rattle.bearings.specs.Limits.{bearing_outside}
use Rattle.bearings.specs.Quantities.{area}
use Rattle.bearings.specs.declared.bearing.Bearing.{Bearing}
use Rattle.bearings.specs.declared.form.Form.{Form}
use Rattle.buckling.proofs.Fair.{fair_plan, fair_terms}
use Rattle.buckling.proofs.Roots.{Root, root_under, root_is, root_passes, root_most}
use Rattle.buckling.specs.Article.{buckling}
use Rattle.buckling.specs.Cleared.{PartsOf, SmallParts}
use Rattle.buckling.specs.Greatest.{IsGreatest, IsLeast}
use Rattle.buckling.specs.Terms.{WholeNumbers, root_fits, X₀, Y, root, X_millionths, X', Y_millionths, Y'}
use Rattle.buckling.specs.declared.parts.Parts.{Parts}

up_most : (a b n : ℕ) → a / b ≤ n → up a b ≤ n + 1
up_most a b n h = omega arith

module _ (q : Parts) (small : SmallParts q) (r : ℕ) (low : 1000 ≤ r) (high : r ≤ 1732) where
  pub divisor_low : 1000 * q.first.bottom ≤ q.first.bottom * r
  divisor_low = omega (arith, mul-le-mul_left q.first.bottom (low))

  pub divisor_high : q.first.bottom * r ≤ 44339200000
  divisor_high = omega (arith, mul-le-mul small.first_high (high))

  pub first_most : up (1000000000 * q.first.top) (q.first.bottom * r) ≤ 300000001
  first_most =
      up_most (1000000000 * q.first.top) (q.first.bottom * r) 300000000
      (div-le_of_le-mul (q.first.bottom * r) (omega (arith, divisor_low, small.first_ratio)))

  pub second_most : 1000000 * q.second.top / q.second.bottom ≤ 300000000
  second_most = div-le_of_le-mul q.second.bottom (omega (arith, small.second_ratio))

module _ (b : Bearing) (c : Case) (w : BearingWithin b) (q : Parts) (is : PartsOf b c q) (small : SmallParts q) (r : ℕ)
    (fits : r * r * q.greater ≤ 1000000 * (q.greater + 2 * q.lesser)) (next : 1000000 * (q.greater + 2 * q.lesser) < (r + 1) * (r + 1) * q.greater) (low : 1000 ≤ r) where
  same_root : root b.plan ≡ r
  same_root =
      root_is b.plan (fair_plan b.plan w.sides_so) q.lesser q.greater (omega (arith, small.lesser_low, small.ordered))
      is.sides_are r small.ordered fits next

  pub first_is : up (1000000000 * q.first.top) (q.first.bottom * r) ≡ X' b c
  unfolding X' X_millionths
  first_is =
      rw same_root
      (same_up (1000000000 * q.first.top) (q.first.bottom * r) _ _
      (mul-pos small.first_low (let pos : 0 < r = omega (arith, low) in pos))
      (omega (arith, mul-pos (fair_terms b c w).first_bottom (let pos : 0 < r = omega (arith, low) in pos)))
      (omega (arith, ap (λ z. 1000000000 * r * z) is.first_is)))

  pub second_is : 1000000 * q.second.top / q.second.bottom ≡ Y' b
  unfolding Y' Y_millionths
  second_is =
      same_down (1000000 * q.second.top) q.second.bottom _ _ small.second_low (omega (arith, (fair_terms b c w).second_bottom))
      (omega (arith, ap (λ z. 1000000 * z) is.second_is))

-- the code's comparison is the article's
compares_by : (P G at ab first second : ℕ) (A : Fraction) → 0 < at → 0 < A.top → at * A.bottom ≡ A.top * ab
    → leb (P * ab * first) (1000000 * G * at + P * ab * second)
    ≡ holds (whole P per A times whole first at_most whole (1000000 * G) plus whole P per A times whole second)
compares_by P G at ab first second A at_pos A_pos same =
    cleared at (A.top * A.top) _ _ _ _ at_pos (mul-pos A_pos A_pos)
    (omega (arith, ap (λ z. P * first * A.top * z) same))
    (omega (arith, ap (λ z. P * second * A.top * z) same))

pub compares : (b : Bearing) (c : Case) (f : Form) → FormKept b.plan b.thickness f
    → leb (load c * f.area.bottom * X' b c) (1000000 * b.modulus * f.area.top + load c * f.area.bottom * Y' b)
    ≡ holds (buckling b c)
unfolding buckling
compares b c f kept =
    compares_by (load c) b.modulus f.area.top f.area.bottom (X' b c) (Y' b)
    (area b.plan) kept.area_small.0.0 (fair_plan b.plan kept.sides).area_top kept.area_is

-- what the whole numbers are
module _ (b : Bearing) (c : Case) (w : BearingWithin b) where
  root_so : Root b.plan (root b.plan)
  root_so = root_under b.plan (fair_plan b.plan w.sides_so)

  divisor : 0 < 1 * ((X₀ b c).bottom * root b.plan)
  divisor = omega (arith, mul-pos (fair_terms b c w).first_bottom (let pos : 0 < root b.plan = omega (arith, root_so.low) in pos))

  root_greatest : IsGreatest (root_fits b.plan) (root b.plan)
  root_greatest = (root_passes b.plan (fair_plan b.plan w.sides_so), root_most b.plan (fair_plan b.plan w.sides_so))

  first_least : IsLeast (λ n. holds (X_millionths b c at_most whole n)) (X' b c)
  unfolding X' X_millionths
  first_least =
      let a = 1000000 * ((X₀ b c).top * 1000) in
      let d = 1 * ((X₀ b c).bottom * root b.plan) in
      (le-leb _ _ (omega (arith, up_low a d divisor)), λ k so. up_least a d k divisor (omega (arith, leb-true _ _ so)))

  second_greatest : IsGreatest (λ n. holds (whole n at_most Y_millionths b)) (Y' b)
  unfolding Y' Y_millionths
  second_greatest =
      let a = 1000000 * (Y b).top in
      let d = 1 * (Y b).bottom in
      (le-leb _ _ (omega (arith, div-mul-le_self a d)), λ k so. down_greatest a d k (omega (arith, (fair_terms b c w).second_bottom)) (omega (arith, leb-true _ _ so)))

pub whole_numbers : (b : Bearing) (c : Case) → bearing_outside b ≡ None → WholeNumbers b c
whole_numbers b c within =
    let w = bearing_within b within in
    record { root_is = root_greatest b c w; first_is = first_least b c w; second_is = second_greatest b c w }
