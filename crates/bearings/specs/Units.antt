-- The units of the fields, in inches, psi and radians.
use Rattle.std.specs.Prelude.{ℕ, ◌*◌}
use Rattle.bearings.specs.Fractions.{Fraction, ◌over◌, whole}

-- sides of a plan: inches
abbrev pub halves : ℕ → Fraction
halves n = n over 2

-- thicknesses of rubber: inches
abbrev pub sixteenths : ℕ → Fraction
sixteenths n = n over 16

-- thicknesses of steel: inches
abbrev pub sixty_fourths : ℕ → Fraction
sixty_fourths n = n over 64

-- movements: inches
abbrev pub hundredths : ℕ → Fraction
hundredths n = n over 100

-- rotations: radians
abbrev pub ten_thousandths : ℕ → Fraction
ten_thousandths n = n over 10000

-- yield strengths, from ksi: psi
abbrev pub thousands : ℕ → Fraction
thousands n = whole (1000 * n)
