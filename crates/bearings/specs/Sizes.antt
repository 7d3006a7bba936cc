-- Heights and plan numbers, by which bearings are compared.
use Rattle.std.specs.Prelude.{ℕ, ◌+◌, ◌*◌}
use Rattle.bearings.specs.Fractions.{whole, ◌times◌, ◌plus◌, ◌same_as◌}
use Rattle.bearings.specs.Quantities.{area, rubber_height}
use Rattle.bearings.specs.Units.{sixteenths, sixty_fourths}
use Rattle.bearings.specs.declared.bearing.Bearing.{Bearing}
use Rattle.bearings.specs.declared.bearing.Plan.{Plan}
use Rattle.bearings.specs.declared.bearing.Plan.TheVariants.{Rectangle, Circle}
use Rattle.bearings.specs.declared.pad.Pad.{Pad}

-- nh + 2c, sixteenths of an inch
abbrev pub rubber_sixteenths : Bearing → ℕ
rubber_sixteenths b = b.layers * b.thickness + 2 * b.cover

-- sixty-fourths of an inch: n layers of h sixteenths, two covers of c sixteenths, n + 1 laminates of s sixty-fourths
abbrev pub bearing_height : Bearing → ℕ
bearing_height b = 4 * rubber_sixteenths b + (b.layers + 1) * b.laminate

-- sixty-fourths of an inch
abbrev pub pad_height : Pad → ℕ
pad_height p = 4 * p.thickness

-- 1,808 times the area in square inches, which is whole for both plans as π is 355/113
abbrev pub plan_number : Plan → ℕ
plan_number (Rectangle l w) = 452 * (l * w)
plan_number (Circle d) = 355 * (d * d)

-- What these numbers stand for, by the quantities in inches and square inches.
abbrev pub PlanNumber : Plan → ℕ → Type 0
PlanNumber plan n = whole n same_as (whole 1808 times area plan)

abbrev pub RubberHeight : Bearing → ℕ → Type 0
RubberHeight b n = sixteenths n same_as rubber_height b

-- all the rubber, and n + 1 laminates
abbrev pub Height : Bearing → ℕ → Type 0
Height b n = sixty_fourths n same_as (rubber_height b plus whole (b.layers + 1) times sixty_fourths b.laminate)

abbrev pub PadHeight : Pad → ℕ → Type 0
PadHeight p n = sixty_fourths n same_as sixteenths p.thickness
