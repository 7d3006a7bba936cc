use Rattle.std.proofs.Common.{ℕ, ◌*◌, ◌≤◌, mul-le-mul, arith}
use Rattle.bearings.specs.declared.axis.Axis.{Axis}
use Rattle.bearings.proofs.admitted.Admitted.turned_resistance.Goals as goal

turned : {r : ℕ} → r ≤ 32716800000 → (x : Axis) → r * (x.angle * (x.base * x.base)) ≤ 104693760000000000
turned high x = omega (arith, mul-le-mul high (mul-le-mul x.angle_high (mul-le-mul x.base_high x.base_high)))

pub overflow_mul-result-3 : goal.overflow_mul-result-3
overflow_mul-result-3 g c = omega (arith, turned c.resistance.ensures.high_bound c.args.axis)

pub returns : goal.returns
returns g c = record { is = simp c.resistance.ensures.is; high_bound = turned c.resistance.ensures.high_bound c.args.axis }
