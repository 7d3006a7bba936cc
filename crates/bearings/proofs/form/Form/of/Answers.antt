use Rattle.bearings.proofs.Shapes.{rectangle_is, rectangle_small, circle_is, circle_small}
use Rattle.bearings.proofs.form.Form.of.Goals as goal

pub returns-in-Rectangle : goal.returns-in-Rectangle
returns-in-Rectangle c =
    let l = c.in-Rectangle.length in
    let w = c.in-Rectangle.width in
    record {
      is = rw c.in-Rectangle.is (rectangle_is l w c.args.thickness);
      small = rectangle_small l w c.args.thickness (rw c.in-Rectangle.is at c.requires.sides) c.requires.low c.requires.high;
    }

pub returns-in-Circle : goal.returns-in-Circle
returns-in-Circle c =
    let d = c.in-Circle.diameter in
    record {
      is = rw c.in-Circle.is (circle_is d c.args.thickness);
      small = circle_small d c.args.thickness (rw c.in-Circle.is at c.requires.sides) c.requires.low c.requires.high;
    }
