-- Heights and plan numbers fit 32 bits.
use Rattle.std.proofs.Common.{◌^◌, ◌<◌, mul-le-mul, arith}
use Rattle.bearings.proofs.Inequalities.{BearingWithin, PadWithin}
use Rattle.bearings.specs.Bounds.{SidesWithin}
use Rattle.bearings.specs.Sizes.{bearing_height, pad_height, plan_number}
use Rattle.bearings.specs.declared.bearing.Bearing.{Bearing}
use Rattle.bearings.specs.declared.bearing.Plan.{Plan}
use Rattle.bearings.specs.declared.bearing.Plan.TheVariants.{Rectangle, Circle}
use Rattle.bearings.specs.declared.pad.Pad.{Pad}

pub height_fits : (b : Bearing) → BearingWithin b → bearing_height b < 2 ^ 32
height_fits b w =
    let so = w.lamination_so in
    omega (arith, mul-le-mul so.layers.1 so.thickness.1, mul-le-mul so.layers.1 so.laminate.1, so.cover.1, so.laminate.1)

pub pad_height_fits : (p : Pad) → PadWithin p → pad_height p < 2 ^ 32
pad_height_fits p w = omega (arith, w.thickness_so.1)

pub plan_fits : (plan : Plan) → SidesWithin plan → plan_number plan < 2 ^ 32
plan_fits (Rectangle l w) s = omega (arith, mul-le-mul s.0.1 s.1.1)
plan_fits (Circle d) s = omega (arith, mul-le-mul s.1 s.1)
