-- The coefficients that the code reads, as whole numbers.
use Rattle.std.specs.Prelude.{ℕ, ◌*◌, ◌≤◌, Bool, true, false, cond}
use Rattle.rulebook.specs.declared.case.Case.{Case}
use Rattle.bearings.specs.Fractions.{Comparison, ◌over◌, ◌times◌, ◌same_as◌}
use Rattle.bearings.specs.declared.bearing.Bearing.{Bearing}
use Rattle.bearings.specs.declared.bearing.Plan.{Plan}
use Rattle.bearings.specs.declared.bearing.Plan.TheVariants.{Rectangle, Circle}
use Rattle.section14.specs.Articles.{deforms_in_shear, stress_within_GS}
use Rattle.section14.specs.Coefficients.{Coefficients, coefficients}
use Rattle.section14.specs.declared.coefficients.CompressionLimits.{CompressionLimits}
use Rattle.section14.specs.declared.coefficients.Row.{Row}

-- u in quarters, k and kv in eighths
pub record Clears (x : Coefficients) (r : Row) : Type 0 where
  pub u_is : (r.u over 4) same_as x.u
  pub k_is : (r.k over 8) same_as x.k
  pub kv_is : (r.kv over 8) same_as (x.k times x.v)
  pub u_high : r.u ≤ 4
  pub k_high : r.k ≤ 24
  pub kv_high : r.kv ≤ 3

-- where the table has the row of a plan and a shear mark
abbrev pub row_place : Plan → Bool → ℕ
row_place (Rectangle length width) deforms = cond deforms 0 1
row_place (Circle diameter) deforms = cond deforms 2 3

abbrev pub RowOf : Plan → Case → Row → Type 0
RowOf plan c r = Clears (coefficients plan (deforms_in_shear c)) r

-- of the compression article
abbrev pub compression_limits : Bool → CompressionLimits
compression_limits true = record { stress = 1600; total = 166; live = 66 }
compression_limits false = record { stress = 1750; total = 200; live = 100 }

-- nh², in sixteenths of an inch
abbrev pub layer_squares : Bearing → ℕ
layer_squares b = b.layers * (b.thickness * b.thickness)

-- a factor in hundredths
abbrev pub stress_within_hundredths_GS : Bearing → (pounds : ℕ) → (factor : ℕ) → Comparison
stress_within_hundredths_GS b pounds factor = stress_within_GS b pounds (factor over 100)
