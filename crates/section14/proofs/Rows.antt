-- The four rows of the table.
use Rattle.std.proofs.Common.{ℕ, ◌<◌, Bool, true, false, List, [], ◌∷◌, get_or, arith}
use Rattle.bearings.specs.declared.bearing.Plan.{Plan}
use Rattle.bearings.specs.declared.bearing.Plan.TheVariants.{Rectangle, Circle}
use Rattle.section14.specs.Cleared.{Clears, row_place}
use Rattle.section14.specs.Coefficients.{Coefficients, coefficients}
use Rattle.section14.specs.declared.coefficients.Row.{Row}

abbrev line : (u k kv : ℕ) → Row
line u k kv = record { u = u; k = k; kv = kv }

abbrev pub table : List Row
table = line 4 15 3 ∷ line 4 18 3 ∷ line 3 20 3 ∷ line 3 24 3 ∷ []

pub table_clears : (plan : Plan) (deforms : Bool) → Clears (coefficients plan deforms) (get_or table (row_place plan deforms) (line 0 0 0))
unfolding coefficients
table_clears (Rectangle l w) true = omega arith
table_clears (Rectangle l w) false = omega arith
table_clears (Circle d) true = omega arith
table_clears (Circle d) false = omega arith

pub record ProperRow (x : Coefficients) : Type 0 where
  pub u_pos : 0 < x.u.bottom
  pub k_pos : 0 < x.k.bottom
  pub v_pos : 0 < x.v.bottom

pub row_proper : (plan : Plan) (deforms : Bool) → ProperRow (coefficients plan deforms)
unfolding coefficients
row_proper (Rectangle l w) true = omega arith
row_proper (Rectangle l w) false = omega arith
row_proper (Circle d) true = omega arith
row_proper (Circle d) false = omega arith
