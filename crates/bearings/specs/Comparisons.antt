-- Comparisons that the articles of several books make, by a plan, the thickness h of a layer in sixteenths of an inch and a shear modulus G in psi.
use Rattle.std.specs.Prelude.{ℕ}
use Rattle.bearings.specs.Fractions.{Comparison, ◌over◌, whole, ◌times◌, ◌at_most◌}
use Rattle.bearings.specs.Quantities.{shape_factor, stress}
use Rattle.bearings.specs.Units.{sixteenths, hundredths}
use Rattle.bearings.specs.declared.bearing.Plan.{Plan}

-- the stress of a load is at most so many psi
abbrev pub stress_in_psi : Plan → (pounds : ℕ) → (most : ℕ) → Comparison
stress_in_psi plan pounds most = stress pounds plan at_most whole most

-- the stress of a load is at most so many hundredths of GS
abbrev pub stress_in_hundredths : Plan → (h G : ℕ) → (pounds : ℕ) → (factor : ℕ) → Comparison
stress_in_hundredths plan h G pounds factor = stress pounds plan at_most factor over 100 times (whole G times shape_factor plan h)

-- twice a movement in hundredths of an inch is at most a height in sixteenths
abbrev pub twice_within : (movement : ℕ) → (height : ℕ) → Comparison
twice_within movement height = whole 2 times hundredths movement at_most sixteenths height
