-- Limits as inequalities, in the form in which proofs use them.
use Rattle.std.specs.Prelude.{ℕ, ◌≤◌}
use Rattle.std.specs.Coded.{×_prop, le_prop}
use Rattle.bearings.specs.declared.bearing.Plan.{Plan}
use Rattle.bearings.specs.declared.bearing.Plan.TheVariants.{Rectangle, Circle}

abbrev pub Range : ℕ → ℕ → ℕ → Type 0
Range low x high = (low ≤ x) × (x ≤ high)

abbrev pub SidesWithin : Plan → Type 0
SidesWithin (Rectangle l w) = Range 8 l 80 × Range 8 w 80
SidesWithin (Circle d) = Range 8 d 80

-- for the check: there is one proof of it at most
pub sides_within_prop : (plan : Plan) → IsProp (SidesWithin plan)
sides_within_prop (Rectangle l w) = ×_prop (×_prop le_prop le_prop) (×_prop le_prop le_prop)
sides_within_prop (Circle d) = ×_prop le_prop le_prop

-- a plan, the thickness of a layer in sixteenths of an inch and a shear modulus in psi that lie within the limits of bearings, or of pads
pub record Limited (plan : Plan) (thickness modulus : ℕ) : Type 0 where
  pub sides : SidesWithin plan
  pub thickness_range : Range 4 thickness 48
  pub modulus_range : Range 80 modulus 180
