use Rattle.std.proofs.Common.{arith}
use Rattle.bearings.proofs.Refusing.{bearing_so}
use Rattle.buckling.proofs.Quotients.{rectangle_parts, rectangle_small}
use Rattle.buckling.proofs.article.rectangle_parts.Goals as goal

pub overflow_mul-result-10 : goal.overflow_mul-result-10
overflow_mul-result-10 c =
    let a = c.args.admitted.now in
    let small = rectangle_small a.item a.case (bearing_so a.item a.item_within) c.args.length c.args.width c.requires in
    simp (c.min-lesser.ensures, c.max-greater.ensures) (omega (arith, small.second_high))

pub overflow_mul-result-11 : goal.overflow_mul-result-11
overflow_mul-result-11 c =
    let a = c.args.admitted.now in
    let small = rectangle_small a.item a.case (bearing_so a.item a.item_within) c.args.length c.args.width c.requires in
    simp (c.min-lesser.ensures, c.max-greater.ensures) (omega (arith, small.second_high))

pub returns : goal.returns
returns c =
    let a = c.args.admitted.now in
    record {
      is = simp (c.deck_units.ensures, c.rubber_height.ensures.is, c.min-lesser.ensures, c.max-greater.ensures)
          (rectangle_parts a.item a.case c.args.length c.args.width c.requires);
      small = simp (c.deck_units.ensures, c.rubber_height.ensures.is, c.min-lesser.ensures, c.max-greater.ensures)
          (rectangle_small a.item a.case (bearing_so a.item a.item_within) c.args.length c.args.width c.requires);
    }
