-- The axes on which a rotation is checked.
use Rattle.std.specs.Prelude.{ℕ, max, Bool, ◌&&◌}
use Rattle.rulebook.specs.declared.case.Case.{Case}
use Rattle.bearings.specs.declared.bearing.Plan.{Plan}
use Rattle.bearings.specs.declared.bearing.Plan.TheVariants.{Rectangle, Circle}

-- whether a test holds on each: of a rectangle L with θx, and W with θz; of a circle D with the greater of the two angles
unfoldable pub holds_on_axes : (test : (base angle : ℕ) → Bool) → Plan → Case → Bool
holds_on_axes test (Rectangle length width) c = test length c.rotation_x && test width c.rotation_z
holds_on_axes test (Circle diameter) c = test diameter (max c.rotation_x c.rotation_z)
