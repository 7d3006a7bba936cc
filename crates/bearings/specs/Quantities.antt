-- The quantities of the articles, in inches, pounds and psi. A plan's sides are in half inches and a layer's thickness h in sixteenths.
use Rattle.std.specs.Prelude.{ℕ}
use Rattle.bearings.specs.Fractions.{Fraction, Proper, ◌over◌, whole, ◌times◌, ◌per◌, ◌plus◌}
use Rattle.bearings.specs.Units.{halves, sixteenths}
use Rattle.bearings.specs.declared.bearing.Bearing.{Bearing}
use Rattle.bearings.specs.declared.bearing.Plan.{Plan}
use Rattle.bearings.specs.declared.bearing.Plan.TheVariants.{Rectangle, Circle}

-- A, the area: LW, or πD²/4 with π = 355/113; square inches
unfoldable pub area : Plan → Fraction
area (Rectangle l w) = halves l times halves w
area (Circle d) = 355 over 113 times (halves d times halves d) per whole 4

-- S, the shape factor of a layer: LW/(2h(L+W)), or D/(4h)
unfoldable pub shape_factor : Plan → ℕ → Fraction
shape_factor (Rectangle l w) h = halves l times halves w per (whole 2 times sixteenths h times (halves l plus halves w))
shape_factor (Circle d) h = halves d per (whole 4 times sixteenths h)

-- the stress of a load in pounds over a plan: T for the whole load, V for the live load; psi
abbrev pub stress : ℕ → Plan → Fraction
stress load plan = whole load per area plan

-- H = nh + 2c, all the rubber of a bearing; inches
abbrev pub rubber_height : Bearing → Fraction
rubber_height b = whole b.layers times sixteenths b.thickness plus whole 2 times sixteenths b.cover

-- the quantities that the formulas divide by are numbers
abbrev pub ProperQuantities : Plan → ℕ → Type 0
ProperQuantities plan h = Proper (area plan) × Proper (shape_factor plan h)
