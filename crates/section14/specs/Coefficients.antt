-- The rotation coefficients.
use Rattle.std.specs.Prelude.{Bool, true, false}
use Rattle.bearings.specs.Fractions.{Fraction, ◌over◌, whole}
use Rattle.bearings.specs.declared.bearing.Plan.{Plan}
use Rattle.bearings.specs.declared.bearing.Plan.TheVariants.{Rectangle, Circle}

pub record Coefficients : Type 0 where
  pub u : Fraction
  pub k : Fraction
  pub v : Fraction

-- by the plan, and whether the bearing deforms in shear
unfoldable pub coefficients : Plan → Bool → Coefficients
coefficients (Rectangle length width) true = record { u = whole 1; k = 1875 over 1000; v = 20 over 100 }
coefficients (Rectangle length width) false = record { u = whole 1; k = 225 over 100; v = 1 over 6 }
coefficients (Circle diameter) true = record { u = 75 over 100; k = 25 over 10; v = 15 over 100 }
coefficients (Circle diameter) false = record { u = 75 over 100; k = whole 3; v = 125 over 1000 }
