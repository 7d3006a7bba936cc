-- The limits of bearings and pads, a test for each field in the order of the fields.
use Rattle.std.specs.Prelude.{ℕ, ◌*◌, Bool, ◌&&◌, List, [], ◌∷◌, ◌++◌, Option, nat_le}
use Rattle.rulebook.specs.Tests.{between, first_failing}
use Rattle.bearings.specs.declared.bearing.Bearing.{Bearing}
use Rattle.bearings.specs.declared.bearing.Plan.{Plan}
use Rattle.bearings.specs.declared.bearing.Plan.TheVariants.{Rectangle, Circle}
use Rattle.bearings.specs.declared.pad.Pad.{Pad}

-- half inches
abbrev pub side : ℕ → Bool
side x = between 8 x 80

-- L and W, or D
abbrev pub sides : Plan → List Bool
sides (Rectangle l w) = side l ∷ side w ∷ []
sides (Circle d) = side d ∷ []

-- psi
abbrev pub shear_modulus : ℕ → Bool
shear_modulus g = between 80 g 180

-- n; h in sixteenths of an inch; c in sixteenths, with 10c ≤ 7h besides; s in sixty-fourths; G in psi; F in ksi
abbrev pub lamination : Bearing → List Bool
lamination b =
    between 1 b.layers 20
    ∷ between 4 b.thickness 16
    ∷ (between 1 b.cover 11 && nat_le (10 * b.cover) (7 * b.thickness))
    ∷ between 1 b.laminate 32
    ∷ shear_modulus b.modulus
    ∷ between 30 b.strength 100
    ∷ []

-- the first field outside its limits: of L, W, n, h, c, s, G, F, or of D, n, h, c, s, G, F
abbrev pub bearing_outside : Bearing → Option ℕ
bearing_outside b = first_failing (sides b.plan ++ lamination b)

abbrev pub pad_plan : Pad → Plan
pad_plan p = Rectangle p.length p.width

-- the first field outside its limits: of L, W, h, G, with h in sixteenths of an inch
abbrev pub pad_outside : Pad → Option ℕ
pad_outside p =
    first_failing
    (side p.length
    ∷ side p.width
    ∷ between 4 p.thickness 48
    ∷ shear_modulus p.modulus
    ∷ [])
