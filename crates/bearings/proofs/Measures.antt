-- Plan numbers, by the area in square inches.
use Rattle.std.proofs.Common.{arith}
use Rattle.bearings.specs.Quantities.{area}
use Rattle.bearings.specs.Sizes.{plan_number, PlanNumber}
use Rattle.bearings.specs.declared.bearing.Plan.{Plan}
use Rattle.bearings.specs.declared.bearing.Plan.TheVariants.{Rectangle, Circle}

pub plan_number_so : (plan : Plan) → PlanNumber plan (plan_number plan)
unfolding area
plan_number_so (Rectangle l w) = omega arith
plan_number_so (Circle d) = omega arith
