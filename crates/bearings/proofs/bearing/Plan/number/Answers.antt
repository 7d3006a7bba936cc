use Rattle.bearings.specs.declared.bearing.Plan.TheVariants.{Rectangle, Circle}
use Rattle.bearings.proofs.Measures.{plan_number_so}
use Rattle.bearings.proofs.bearing.Plan.number.Goals as goal

pub returns-in-Rectangle : goal.returns-in-Rectangle
returns-in-Rectangle c =
    record {
      is = rw c.in-Rectangle.is;
      area = rw c.in-Rectangle.is (plan_number_so (Rectangle c.in-Rectangle.length c.in-Rectangle.width));
    }

pub returns-in-Circle : goal.returns-in-Circle
returns-in-Circle c =
    record { is = rw c.in-Circle.is; area = rw c.in-Circle.is (plan_number_so (Circle c.in-Circle.diameter)) }
