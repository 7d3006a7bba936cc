-- What the limits say of the fractions in the article.
use Rattle.std.proofs.Common.{◌≡◌, ℕ, ◌+◌, ◌*◌, ◌<◌, ◌≤◌, min, Bool, true, false, cond, eqb, refl, mul-le-mul_right, mul-le-mul, mul-pos, arith}
use Rattle.rulebook.specs.declared.case.Case.{Case}
use Rattle.bearings.proofs.Inequalities.{BearingWithin}
use Rattle.bearings.specs.Bounds.{SidesWithin}
use Rattle.bearings.specs.Fractions.{◌over◌}
use Rattle.bearings.specs.Quantities.{area, shape_factor}
use Rattle.bearings.specs.declared.bearing.Bearing.{Bearing}
use Rattle.bearings.specs.declared.bearing.Plan.{Plan}
use Rattle.bearings.specs.declared.bearing.Plan.TheVariants.{Rectangle, Circle}
use Rattle.buckling.specs.Cleared.{deck_units}
use Rattle.buckling.specs.Terms.{lesser_side, greater_side, deck_factor, under_root, X₀, Y}

-- of a plan
pub record FairPlan (plan : Plan) : Type 0 where
  pub area_top : 0 < (area plan).top
  pub area_bottom : 0 < (area plan).bottom
  pub lesser_top : 0 < (lesser_side plan).top
  pub lesser_bottom : 0 < (lesser_side plan).bottom
  pub greater_top : 0 < (greater_side plan).top
  pub greater_bottom : 0 < (greater_side plan).bottom
  pub root_bottom : 0 < (under_root plan).bottom
  pub root_low : (under_root plan).bottom ≤ (under_root plan).top
  pub root_high : (under_root plan).top ≤ 3 * (under_root plan).bottom

pub fair_plan : (plan : Plan) → SidesWithin plan → FairPlan plan
unfolding area lesser_side greater_side under_root
fair_plan (Rectangle l w) s =
    let product = mul-le-mul s.0.0 s.1.0 in omega arith
fair_plan (Circle d) s =
    let square = mul-le-mul s.0 s.0 in omega arith

-- of a bearing under a case: the terms' bottoms, and the least that the first term can be
pub record FairTerms (b : Bearing) (c : Case) : Type 0 where
  pub first_bottom : 0 < (X₀ b c).bottom
  pub second_bottom : 0 < (Y b).bottom
  pub large : 2002 * ((X₀ b c).bottom * 1732) ≤ 19000000000 * (X₀ b c).top

-- the deck's factor is 64 hundredths for each of its units, of which there are 3 or 6
deck_cases : (t : Bool) → ((cond t (384 over 100) (192 over 100)).bottom ≡ 100) × ((cond t (384 over 100) (192 over 100)).top ≡ 64 * cond t 6 3) × (3 ≤ cond t 6 3) × (cond t 6 3 ≤ 6)
deck_cases true = (refl, refl, omega arith, omega arith)
deck_cases false = (refl, refl, omega arith, omega arith)

pub deck_bottom : (c : Case) → (deck_factor c).bottom ≡ 100
unfolding deck_factor
deck_bottom c = (deck_cases (eqb c.deck 1)).0

pub deck_top : (c : Case) → (deck_factor c).top ≡ 64 * deck_units c
unfolding deck_factor
deck_top c = (deck_cases (eqb c.deck 1)).1

pub deck_low : (c : Case) → 3 ≤ deck_units c
deck_low c = (deck_cases (eqb c.deck 1)).2

pub deck_high : (c : Case) → deck_units c ≤ 6
deck_high c = (deck_cases (eqb c.deck 1)).3

module _ (n h c s g f : ℕ) (case : Case) (nl : 1 ≤ n) (hl : 4 ≤ h) (cl : 1 ≤ c) where
  abbrev at : Plan → Bearing
  at p = record { plan = p; layers = n; thickness = h; cover = c; laminate = s; modulus = g; strength = f }

  second_bottom_at : (p : Plan) → SidesWithin p → 0 < (Y (at p)).bottom
  unfolding Y lesser_side greater_side shape_factor
  second_bottom_at (Rectangle l w) s =
      let product = mul-le-mul s.0.0 s.1.0 in
      mul-pos (omega arith) (mul-pos (mul-pos (omega arith) (omega arith)) (omega arith))
  second_bottom_at (Circle d) s = mul-pos (omega arith) (mul-pos (mul-pos (omega arith) (omega arith)) (omega arith))

  first_bottom_at : (p : Plan) → SidesWithin p → 0 < (X₀ (at p) case).bottom
  unfolding X₀ lesser_side shape_factor
  first_bottom_at (Rectangle l w) s =
      let lesser_low : 8 ≤ min l w = omega arith in
      rw (deck_bottom case) (omega (arith, mul-le-mul lesser_low (mul-le-mul s.0.0 s.1.0)))
  first_bottom_at (Circle d) s = rw (deck_bottom case) (omega (arith, mul-le-mul s.0 s.0))

  large_at : (p : Plan) → SidesWithin p → 2002 * ((X₀ (at p) case).bottom * 1732) ≤ 19000000000 * (X₀ (at p) case).top
  unfolding X₀ lesser_side shape_factor
  large_at (Rectangle l w) s =
      let lesser_high : min l w ≤ 80 = omega arith in
      let height_low : 6 ≤ n * h + 2 * c = omega (arith, mul-le-mul nl hl) in
      rw (deck_bottom case, deck_top case)
      (omega (
        arith,
        mul-le-mul_right w (mul-le-mul lesser_high s.0.1),
        mul-le-mul_right (l + w) (mul-le-mul (mul-le-mul (deck_low case) height_low) hl),
      ))
  large_at (Circle d) s =
      let height_low : 6 ≤ n * h + 2 * c = omega (arith, mul-le-mul nl hl) in
      rw (deck_bottom case, deck_top case)
      (omega (arith, mul-le-mul s.1 s.1, mul-le-mul (mul-le-mul (deck_low case) height_low) hl))

  fair_at : (p : Plan) → SidesWithin p → FairTerms (at p) case
  fair_at p s = record { first_bottom = first_bottom_at p s; second_bottom = second_bottom_at p s; large = large_at p s }

pub fair_terms : (b : Bearing) (c : Case) → BearingWithin b → FairTerms b c
fair_terms b c w =
    let so = w.lamination_so in
    fair_at b.layers b.thickness b.cover b.laminate b.modulus b.strength c
    so.layers.0 so.thickness.0 so.cover.0 b.plan w.sides_so
