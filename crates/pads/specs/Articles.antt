-- The articles for plain pads, in inches, pounds, psi and radians. Each is a list of comparisons, all of which are to hold.
use Rattle.std.specs.Prelude.{ℕ, List, [], ◌∷◌}
use Rattle.rulebook.specs.Cases.{load}
use Rattle.rulebook.specs.declared.case.Case.{Case}
use Rattle.bearings.specs.Fractions.{Fraction, Comparison, ◌over◌, whole, ◌times◌, ◌per◌, ◌at_most◌, squared}
use Rattle.bearings.specs.Limits.{pad_plan}
use Rattle.bearings.specs.Quantities.{shape_factor, stress}
use Rattle.bearings.specs.Units.{halves, sixteenths, hundredths, ten_thousandths}
use Rattle.bearings.specs.declared.pad.Pad.{Pad}

-- h, inches
abbrev pub h : Pad → Fraction
h p = sixteenths p.thickness

-- T, of the whole load
abbrev pub T : Pad → Case → Fraction
T p c = stress (load c) (pad_plan p)

-- GS
abbrev pub GS : Pad → Fraction
GS p = whole p.modulus times shape_factor (pad_plan p) p.thickness

-- 1. Compression: T ≤ 800 and T ≤ 1.00GS
abbrev pub stress_within : Pad → Case → Comparison
stress_within p c = T p c at_most whole 800

abbrev pub stress_within_GS : Pad → Case → Comparison
stress_within_GS p c = T p c at_most GS p

unfoldable pub compression : Pad → Case → List Comparison
compression p c = stress_within p c ∷ stress_within_GS p c ∷ []

-- 2. Shear: h ≥ 2M
unfoldable pub shear : Pad → Case → List Comparison
shear p c = whole 2 times hundredths c.movement at_most h p ∷ []

-- 3. Uplift: T ≥ 0.5GS(L/h)²θx and T ≥ 0.5GS(W/h)²θz; by a side in half inches and an angle in ten-thousandths of a radian
abbrev pub uplift_on : Pad → Case → (side angle : ℕ) → Comparison
uplift_on p c side angle = 5 over 10 times GS p times squared (halves side per h p) times ten_thousandths angle at_most T p c

unfoldable pub uplift : Pad → Case → List Comparison
uplift p c = uplift_on p c p.length c.rotation_x ∷ uplift_on p c p.width c.rotation_z ∷ []

-- 4. Stability: h ≤ L/3 and h ≤ W/3
abbrev pub stability_of : Pad → (side : ℕ) → Comparison
stability_of p side = h p at_most halves side per whole 3

unfoldable pub stability : Pad → List Comparison
stability p = stability_of p p.length ∷ stability_of p p.width ∷ []
