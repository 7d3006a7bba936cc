-- The code's quotients are the article's terms, and are small.
use Rattle.std.proofs.Common.{◌≡◌, ℕ, ◌+◌, ◌*◌, ◌≤◌, min, max, sym, ap, subst, inl, inr, mul-le-mul, arith}
use Rattle.std.proofs.lemmas.Bool.{cases_lt}
use Rattle.rulebook.specs.declared.case.Case.{Case}
use Rattle.bearings.proofs.Inequalities.{BearingWithin}
use Rattle.bearings.specs.Bounds.{SidesWithin}
use Rattle.bearings.specs.Quantities.{shape_factor}
use Rattle.bearings.specs.declared.bearing.Bearing.{Bearing}
use Rattle.bearings.specs.declared.bearing.Plan.{Plan}
use Rattle.bearings.specs.declared.bearing.Plan.TheVariants.{Rectangle, Circle}
use Rattle.buckling.proofs.Fair.{deck_bottom, deck_top, deck_high}
use Rattle.buckling.specs.Cleared.{deck_units, PartsOf, SmallParts}
use Rattle.buckling.specs.Terms.{lesser_side, greater_side, X₀, Y}
use Rattle.buckling.specs.declared.parts.Parts.{Parts}

abbrev pub rectangle_quotients : (l w rubber h units : ℕ) → Parts
rectangle_quotients l w rubber h units = record {
  first = record { top = units * rubber * (h * (l + w)); bottom = 50 * (min l w * (l * w)) };
  second = record {
    top = 267 * (h * (l + w) * (h * (l + w)));
    bottom = 200 * (min l w * ((2 * (l * w) + h * (l + w)) * (4 * max l w + min l w)));
  };
  lesser = min l w;
  greater = max l w;
}

abbrev pub circle_quotients : (d rubber h units : ℕ) → Parts
circle_quotients d rubber h units = record {
  first = record { top = units * rubber * h; bottom = 20 * (d * d) };
  second = record { top = 267 * (h * h); bottom = 500 * (d * (d + h)) };
  lesser = 1;
  greater = 1;
}

-- a bearing by its fields
abbrev at : (n h c s g f : ℕ) → Plan → Bearing
at n h c s g f p = record { plan = p; layers = n; thickness = h; cover = c; laminate = s; modulus = g; strength = f }

module _ (n h c s g f : ℕ) (case : Case) where
  rectangle_second : (l w : ℕ) → let q : Parts = rectangle_quotients l w (n * h + 2 * c) h (deck_units case) in
      q.second.top * (Y (at n h c s g f (Rectangle l w))).bottom ≡ (Y (at n h c s g f (Rectangle l w))).top * q.second.bottom
  unfolding Y lesser_side greater_side shape_factor
  rectangle_second l w =
      elim (cases_lt l w) [
        | inl lt ↦ let lo : min l w ≡ l = omega arith in let hi : max l w ≡ w = omega arith in rw (lo, hi) (omega arith)
        | inr ge ↦ let lo : min l w ≡ w = omega arith in let hi : max l w ≡ l = omega arith in rw (lo, hi) (omega arith)
      ]

  rectangle_are : (l w : ℕ) → PartsOf (at n h c s g f (Rectangle l w)) case (rectangle_quotients l w (n * h + 2 * c) h (deck_units case))
  unfolding X₀ lesser_side greater_side shape_factor
  rectangle_are l w = record {
    first_is = rw (deck_bottom case, deck_top case) (omega arith);
    second_is = rectangle_second l w;
    sides_are = omega arith;
  }

  circle_are : (d : ℕ) → PartsOf (at n h c s g f (Circle d)) case (circle_quotients d (n * h + 2 * c) h (deck_units case))
  unfolding X₀ Y lesser_side greater_side shape_factor
  circle_are d = record {
    first_is = rw (deck_bottom case, deck_top case) (omega arith);
    second_is = omega arith;
    sides_are = omega arith;
  }

with_plan : (b : Bearing) (p : Plan) → b.plan ≡ p → at b.layers b.thickness b.cover b.laminate b.modulus b.strength p ≡ b
with_plan b p e =
    ap (λ x. at b.layers b.thickness b.cover b.laminate b.modulus b.strength x) (sym e)

pub rectangle_parts : (b : Bearing) (case : Case) (l w : ℕ) → b.plan ≡ Rectangle l w
    → PartsOf b case (rectangle_quotients l w (b.layers * b.thickness + 2 * b.cover) b.thickness (deck_units case))
rectangle_parts b case l w e =
    subst (λ x. PartsOf x case (rectangle_quotients l w (b.layers * b.thickness + 2 * b.cover) b.thickness (deck_units case)))
    (with_plan b (Rectangle l w) e)
    (rectangle_are b.layers b.thickness b.cover b.laminate b.modulus b.strength case l w)

pub circle_parts : (b : Bearing) (case : Case) (d : ℕ) → b.plan ≡ Circle d
    → PartsOf b case (circle_quotients d (b.layers * b.thickness + 2 * b.cover) b.thickness (deck_units case))
circle_parts b case d e =
    subst (λ x. PartsOf x case (circle_quotients d (b.layers * b.thickness + 2 * b.cover) b.thickness (deck_units case)))
    (with_plan b (Circle d) e)
    (circle_are b.layers b.thickness b.cover b.laminate b.modulus b.strength case d)

-- how small they are, of an admitted bearing
module _ (rubber h units : ℕ) (rh : rubber ≤ 342) (hl : 4 ≤ h) (hh : h ≤ 16) (uh : units ≤ 6) where
  rectangle_small_by : (l w : ℕ) → SidesWithin (Rectangle l w) → SmallParts (rectangle_quotients l w rubber h units)
  rectangle_small_by l w s =
      let lesser_low : 8 ≤ min l w = omega arith in
      let lesser_high : min l w ≤ 80 = omega arith in
      let greater_high : max l w ≤ 80 = omega arith in
      let sum_low : 16 ≤ l + w = omega arith in
      let sum_high : l + w ≤ 160 = omega arith in
      let low : 64 ≤ l * w = omega (arith, mul-le-mul s.0.0 s.1.0) in
      let high : l * w ≤ 6400 = omega (arith, mul-le-mul s.0.1 s.1.1) in
      let edge_low : 64 ≤ h * (l + w) = omega (arith, mul-le-mul hl sum_low) in
      let edge_high : h * (l + w) ≤ 2560 = omega (arith, mul-le-mul hh sum_high) in
      let both_low : 192 ≤ 2 * (l * w) + h * (l + w) = omega arith in
      let both_high : 2 * (l * w) + h * (l + w) ≤ 15360 = omega arith in
      let sides_low : 40 ≤ 4 * max l w + min l w = omega arith in
      let sides_high : 4 * max l w + min l w ≤ 400 = omega arith in
      let first_top = mul-le-mul (mul-le-mul uh rh) edge_high in
      let first_low = mul-le-mul lesser_low low in
      let first_high = mul-le-mul lesser_high high in
      let second_top = mul-le-mul edge_high edge_high in
      let second_low = mul-le-mul lesser_low (mul-le-mul both_low sides_low) in
      let second_high = mul-le-mul lesser_high (mul-le-mul both_high sides_high) in
      omega arith

  circle_small_by : (d : ℕ) → SidesWithin (Circle d) → SmallParts (circle_quotients d rubber h units)
  circle_small_by d s =
      let sum_low : 12 ≤ d + h = omega arith in
      let sum_high : d + h ≤ 96 = omega arith in
      let first_top = mul-le-mul (mul-le-mul uh rh) hh in
      let first_low = mul-le-mul s.0 s.0 in
      let first_high = mul-le-mul s.1 s.1 in
      let second_top = mul-le-mul hh hh in
      let second_low = mul-le-mul s.0 sum_low in
      let second_high = mul-le-mul s.1 sum_high in
      omega arith

rubber_high : (b : Bearing) → BearingWithin b → b.layers * b.thickness + 2 * b.cover ≤ 342
rubber_high b w =
    let so = w.lamination_so in omega (arith, mul-le-mul so.layers.1 so.thickness.1, so.cover.1)

module _ (b : Bearing) (c : Case) (so : BearingWithin b) where
  pub rectangle_small : (l w : ℕ) → b.plan ≡ Rectangle l w
      → SmallParts (rectangle_quotients l w (b.layers * b.thickness + 2 * b.cover) b.thickness (deck_units c))
  rectangle_small l w e =
      rectangle_small_by _ _ _ (rubber_high b so) so.lamination_so.thickness.0 so.lamination_so.thickness.1 (deck_high c) l w
      (subst SidesWithin e so.sides_so)

  pub circle_small : (d : ℕ) → b.plan ≡ Circle d
      → SmallParts (circle_quotients d (b.layers * b.thickness + 2 * b.cover) b.thickness (deck_units c))
  circle_small d e =
      circle_small_by _ _ _ (rubber_high b so) so.lamination_so.thickness.0 so.lamination_so.thickness.1 (deck_high c) d
      (subst SidesWithin e so.sides_so)
