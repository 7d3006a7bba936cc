use Rattle.bearings.proofs.Refusing.{admitted, where_none}
use Rattle.bearings.proofs.admitted.Admitted.new.Goals as goal

pub invariant_of-result : goal.invariant_of-result
invariant_of-result g c =
    let so = admitted c.first_outside.result c.args.case.now c.in_ok-admit.ensures in
    let limits = where_none c.first_outside.result so.item c.first_outside.ensures.limited in
    record {
      item_within = rw c.first_outside.ensures.is at so.item_within;
      loads_within = so.loads;
      rest_within = so.rest;
      sides = limits.sides;
      thickness = limits.thickness_range;
      modulus = limits.modulus_range;
      load = so.demand.load_high;
      movement = so.demand.movement_high;
      rotations = so.demand.rotations_high;
      marks = so.demand.marks_high;
      area_is = rw c.plan.ensures at c.of.ensures.is.0;
      area_small = c.of.ensures.small.0;
      shape_area_is = rw (c.plan.ensures, c.thickness.ensures) at c.of.ensures.is.1;
      shape_area_small = c.of.ensures.small.1;
    }
