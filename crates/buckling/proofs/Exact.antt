-- The article by whole numbers and the exact one: what the first lets through meets the second, and what meets the second with its first term one
-- fiftieth larger is let through by the first.
use Rattle.std.proofs.Common.{◌≡◌, ℕ, ◌+◌, ◌*◌, ◌<◌, ◌≤◌, true, leb, None, sym, ◌∙◌, mul-le-mul_left, mul-pos, div-mul-le_self, arith}
use Rattle.std.proofs.lemmas.Bool.{leb-true, le-leb}
use Rattle.rulebook.specs.Cases.{load}
use Rattle.rulebook.specs.declared.case.Case.{Case}
use Rattle.bearings.proofs.Clearing.{cleared}
use Rattle.bearings.proofs.Inequalities.{bearing_within}
use Rattle.bearings.proofs.Rounding.{up_low, up_high, down_high}
use Rattle.bearings.specs.Fractions.{Fraction, ◌over◌, whole, ◌times◌, ◌per◌, ◌plus◌, ◌at_most◌, squared, holds}
use Rattle.bearings.specs.Limits.{bearing_outside}
use Rattle.bearings.specs.Quantities.{area}
use Rattle.bearings.specs.declared.bearing.Bearing.{Bearing}
use Rattle.buckling.proofs.Fair.{FairPlan, FairTerms, fair_plan, fair_terms}
use Rattle.buckling.proofs.Rings.{exact_from_found, found_from_exact}
use Rattle.buckling.proofs.Roots.{Root, root_under}
use Rattle.buckling.specs.Article.{buckling, exact_buckling, ProperTerms}
use Rattle.buckling.specs.Terms.{under_root, X₀, Y, root, X_millionths, X', Y_millionths, Y'}

-- the squares, cleared of the area, for any load and any fractions
module _ (P G : ℕ) (A F N R : Fraction) (pos : 0 < A.top) where
  squares_are :
      leb (P * A.bottom * F.top * N.bottom * (P * A.bottom * F.top * N.bottom) * R.bottom)
      (F.bottom * (G * A.top * N.bottom + P * A.bottom * N.top) * (F.bottom * (G * A.top * N.bottom + P * A.bottom * N.top)) * R.top)
      ≡ holds (squared (whole P per A times (whole 1 times F)) at_most squared (whole G plus whole P per A times N) times R)
  squares_are = cleared 1 (A.top * A.top) _ _ _ _ (omega arith) (mul-pos pos pos) (omega arith) (omega arith)

  larger_squares_are :
      leb (51 * (P * A.bottom * F.top * N.bottom) * (51 * (P * A.bottom * F.top * N.bottom)) * R.bottom)
      (50 * (F.bottom * (G * A.top * N.bottom + P * A.bottom * N.top)) * (50 * (F.bottom * (G * A.top * N.bottom + P * A.bottom * N.top))) * R.top)
      ≡ holds (squared (whole P per A times (102 over 100 times F)) at_most squared (whole G plus whole P per A times N) times R)
  larger_squares_are =
      cleared 1 (4 * (A.top * A.top)) _ _ _ _ (omega arith) (omega (arith, mul-pos pos pos)) (omega arith) (omega arith)

module _ (b : Bearing) (c : Case) (plan : FairPlan b.plan) (terms : FairTerms b c) where
  p : ℕ
  p = load c * (area b.plan).bottom

  g : ℕ
  g = b.modulus * (area b.plan).top

  found_is : leb (p * X' b c) (1000000 * g + p * Y' b) ≡ holds (buckling b c)
  unfolding p g buckling
  found_is = cleared 1 (area b.plan).top _ _ _ _ (omega arith) plan.area_top (omega arith) (omega arith)

  exact_is :
      leb (p * (X₀ b c).top * (Y b).bottom * (p * (X₀ b c).top * (Y b).bottom) * (under_root b.plan).bottom)
      ((X₀ b c).bottom * (g * (Y b).bottom + p * (Y b).top) * ((X₀ b c).bottom * (g * (Y b).bottom + p * (Y b).top)) * (under_root b.plan).top)
      ≡ holds (exact_buckling (whole 1) b c)
  unfolding p g exact_buckling
  exact_is = squares_are (load c) b.modulus (area b.plan) (X₀ b c) (Y b) (under_root b.plan) plan.area_top

  larger_is :
      leb (51 * (p * (X₀ b c).top * (Y b).bottom) * (51 * (p * (X₀ b c).top * (Y b).bottom)) * (under_root b.plan).bottom)
      (50 * ((X₀ b c).bottom * (g * (Y b).bottom + p * (Y b).top)) * (50 * ((X₀ b c).bottom * (g * (Y b).bottom + p * (Y b).top))) * (under_root b.plan).top)
      ≡ holds (exact_buckling (102 over 100) b c)
  unfolding p g exact_buckling
  larger_is = larger_squares_are (load c) b.modulus (area b.plan) (X₀ b c) (Y b) (under_root b.plan) plan.area_top

  root_is : Root b.plan (root b.plan)
  root_is = root_under b.plan plan

  divisor_pos : 0 < 1 * ((X₀ b c).bottom * root b.plan)
  divisor_pos = omega (arith, mul-pos terms.first_bottom (let pos : 0 < root b.plan = omega (arith, root_is.low) in pos))

  first_low : 1000000000 * (X₀ b c).top ≤ X' b c * ((X₀ b c).bottom * root b.plan)
  unfolding X' X_millionths
  first_low = omega (arith, up_low (1000000 * ((X₀ b c).top * 1000)) (1 * ((X₀ b c).bottom * root b.plan)) divisor_pos)

  first_high : X' b c * ((X₀ b c).bottom * root b.plan) ≤ 1000000000 * (X₀ b c).top + (X₀ b c).bottom * root b.plan
  unfolding X' X_millionths
  first_high = omega (arith, up_high (1000000 * ((X₀ b c).top * 1000)) (1 * ((X₀ b c).bottom * root b.plan)) divisor_pos)

  second_low : Y' b * (Y b).bottom ≤ 1000000 * (Y b).top
  unfolding Y' Y_millionths
  second_low = omega (arith, div-mul-le_self (1000000 * (Y b).top) (1 * (Y b).bottom))

  second_high : 1000000 * (Y b).top ≤ (Y' b + 1) * (Y b).bottom
  unfolding Y' Y_millionths
  second_high = omega (arith, down_high (1000000 * (Y b).top) (1 * (Y b).bottom) (omega (arith, terms.second_bottom)))

  found_exact : holds (buckling b c) ≡ true → holds (exact_buckling (whole 1) b c) ≡ true
  found_exact found =
      sym exact_is ∙ le-leb _ _
      (exact_from_found p (X₀ b c).top (X₀ b c).bottom (Y b).top (Y b).bottom g
      (root b.plan) (under_root b.plan).bottom (under_root b.plan).top (X' b c) (Y' b)
      first_low second_low root_is.fits (leb-true _ _ (found_is ∙ found)))

  larger_found : holds (exact_buckling (102 over 100) b c) ≡ true → holds (buckling b c) ≡ true
  larger_found larger =
      sym found_is ∙ le-leb _ _
      (found_from_exact p (X₀ b c).top (X₀ b c).bottom (Y b).top (Y b).bottom g
      (root b.plan) (under_root b.plan).bottom (under_root b.plan).top (X' b c) (Y' b)
      terms.first_bottom terms.second_bottom root_is.low
      (omega (arith, terms.large, mul-le-mul_left (X₀ b c).bottom root_is.high))
      first_high second_high root_is.next (leb-true _ _ (larger_is ∙ larger)))

-- a bearing within its limits that the article by whole numbers lets through meets the exact article
pub found_is_exact : (b : Bearing) (c : Case) → bearing_outside b ≡ None → holds (buckling b c) ≡ true → holds (exact_buckling (whole 1) b c) ≡ true
found_is_exact b c within =
    let w = bearing_within b within in found_exact b c (fair_plan b.plan w.sides_so) (fair_terms b c w)

-- one that meets the exact article even with its first term one fiftieth larger is let through
pub margin_is_found : (b : Bearing) (c : Case) → bearing_outside b ≡ None → holds (exact_buckling (102 over 100) b c) ≡ true → holds (buckling b c) ≡ true
margin_is_found b c within =
    let w = bearing_within b within in larger_found b c (fair_plan b.plan w.sides_so) (fair_terms b c w)

-- all parts are numbers
proper_by : (b : Bearing) (c : Case) (plan : FairPlan b.plan) (terms : FairTerms b c) → ProperTerms b c
unfolding X_millionths Y_millionths exact_buckling
proper_by b c plan terms =
    let T_pos : 0 < 1 * (area b.plan).top = omega (arith, plan.area_top) in
    let left_1 = mul-pos T_pos (mul-pos {m = 1} (omega arith) terms.first_bottom) in
    let left_102 = mul-pos T_pos (mul-pos {m = 100} (omega arith) terms.first_bottom) in
    let right = mul-pos {m = 1} (omega arith) (mul-pos T_pos terms.second_bottom) in
    record {
      lesser = plan.lesser_bottom;
      greater = plan.greater_bottom;
      under = plan.root_bottom;
      first = (terms.first_bottom, divisor_pos b c plan terms);
      second = (terms.second_bottom, omega (arith, terms.second_bottom));
      exact = (mul-pos left_1 left_1, (mul-pos (mul-pos right right) plan.root_bottom, (mul-pos left_102 left_102, (mul-pos (mul-pos right right) plan.root_bottom, tt))));
    }

pub proper_terms : (b : Bearing) (c : Case) → bearing_outside b ≡ None → ProperTerms b c
proper_terms b c within =
    let w = bearing_within b within in proper_by b c (fair_plan b.plan w.sides_so) (fair_terms b c w)
