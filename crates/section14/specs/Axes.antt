-- The axes on which a rotation is checked.
use Rattle.std.specs.Prelude.{ℕ, max, List, [], ◌∷◌}
use Rattle.rulebook.specs.declared.case.Case.{Case}
use Rattle.bearings.specs.Fractions.{Fraction}
use Rattle.bearings.specs.Units.{halves, ten_thousandths}
use Rattle.bearings.specs.declared.bearing.Plan.{Plan}
use Rattle.bearings.specs.declared.bearing.Plan.TheVariants.{Rectangle, Circle}

-- the base B, inches, and the angle θ, radians
pub record Axis : Type 0 where
  pub base : Fraction
  pub angle : Fraction

-- by a base in half inches and an angle in ten-thousandths of a radian
abbrev pub axis : ℕ → ℕ → Axis
axis b θ = record { base = halves b; angle = ten_thousandths θ }

-- a rectangle: L with θx, and W with θz; a circle: D with the greater of the two angles
unfoldable pub axes : Plan → Case → List Axis
axes (Rectangle length width) c = axis length c.rotation_x ∷ axis width c.rotation_z ∷ []
axes (Circle diameter) c = axis diameter (max c.rotation_x c.rotation_z) ∷ []
