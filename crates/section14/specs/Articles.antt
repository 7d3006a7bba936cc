-- The articles of Section 14, in inches, pounds, psi and radians. Each is a list of comparisons, all of which are to hold. The buckling article is
-- the crate `buckling`'s.
use Rattle.std.specs.Prelude.{ℕ, Bool, cond, List, [], ◌∷◌, map, ◌==◌}
use Rattle.rulebook.specs.Cases.{load}
use Rattle.rulebook.specs.declared.case.Case.{Case}
use Rattle.bearings.specs.Fractions.{Fraction, Comparison, ◌over◌, whole, ◌times◌, ◌per◌, ◌plus◌, ◌at_most◌, squared}
use Rattle.bearings.specs.Quantities.{shape_factor, stress, rubber_height}
use Rattle.bearings.specs.Units.{sixteenths, sixty_fourths, hundredths, thousands}
use Rattle.bearings.specs.declared.bearing.Bearing.{Bearing}
use Rattle.section14.specs.Axes.{Axis, axes}
use Rattle.section14.specs.Coefficients.{Coefficients, coefficients}

abbrev pub deforms_in_shear : Case → Bool
deforms_in_shear c = c.shear == 1

-- T, of the whole load, and V, of the live load
abbrev pub T : Bearing → Case → Fraction
T b c = stress (load c) b.plan

abbrev pub V : Bearing → Case → Fraction
V b c = stress c.live b.plan

-- GS
abbrev pub GS : Bearing → Fraction
GS b = whole b.modulus times shape_factor b.plan b.thickness

-- 1. Compression: T ≤ 1,600, T ≤ 1.66GS and V ≤ 0.66GS where the bearing deforms in shear; T ≤ 1,750, T ≤ 2.00GS and V ≤ 1.00GS where it is
-- fixed against that
abbrev pub stress_within : Bearing → Case → (most : ℕ) → Comparison
stress_within b c most = T b c at_most whole most

abbrev pub stress_within_GS : Bearing → (pounds : ℕ) → (factor : Fraction) → Comparison
stress_within_GS b pounds factor = stress pounds b.plan at_most factor times GS b

abbrev pub compression_by : (most : ℕ) → (total live : Fraction) → Bearing → Case → List Comparison
compression_by most total live b c = stress_within b c most ∷ stress_within_GS b (load c) total ∷ stress_within_GS b c.live live ∷ []

unfoldable pub compression : Bearing → Case → List Comparison
compression b c =
    cond (deforms_in_shear c)
    (compression_by 1600 (166 over 100) (66 over 100) b c)
    (compression_by 1750 (200 over 100) (100 over 100) b c)

-- 2. Shear: H ≥ 2M
unfoldable pub shear : Bearing → Case → List Comparison
shear b c = whole 2 times hundredths c.movement at_most rubber_height b ∷ []

-- q = (θ/n)(B/h)²
abbrev pub q : Bearing → Axis → Fraction
q b x = x.angle per whole b.layers times squared (x.base per sixteenths b.thickness)

abbrev pub row : Bearing → Case → Coefficients
row b c = coefficients b.plan (deforms_in_shear c)

-- 3. Uplift: T ≥ uGSq on each axis
abbrev pub uplift_on : Bearing → Case → Axis → Comparison
uplift_on b c x = (row b c).u times GS b times q b x at_most T b c

unfoldable pub uplift : Bearing → Case → List Comparison
uplift b c = map (uplift_on b c) (axes b.plan c)

-- 4. Rotation with compression: T ≤ kGS(1 − vq) on each axis, with kGSvq on the other side, as 1 − vq may be negative
abbrev pub rotation_on : Bearing → Case → Axis → Comparison
rotation_on b c x = T b c plus (row b c).k times GS b times ((row b c).v times q b x) at_most (row b c).k times GS b

unfoldable pub rotation : Bearing → Case → List Comparison
rotation b c = map (rotation_on b c) (axes b.plan c)

-- 6. Steel: s ≥ 3hT/F, with F in psi, and s ≥ 2hV/24,000
abbrev pub steel_total : Bearing → Case → Comparison
steel_total b c = whole 3 times sixteenths b.thickness times T b c per thousands b.strength at_most sixty_fourths b.laminate

abbrev pub steel_live : Bearing → Case → Comparison
steel_live b c = whole 2 times sixteenths b.thickness times V b c per whole 24000 at_most sixty_fourths b.laminate

unfoldable pub steel : Bearing → Case → List Comparison
steel b c = steel_total b c ∷ steel_live b c ∷ []
