use Rattle.bearings.proofs.Refusing.{bearing_so}
use Rattle.buckling.proofs.Quotients.{circle_parts, circle_small}
use Rattle.buckling.proofs.article.circle_parts.Goals as goal

pub returns : goal.returns
returns c =
    let a = c.args.admitted.now in
    record {
      is = simp (c.deck_units.ensures, c.rubber_height.ensures.is) (circle_parts a.item a.case c.args.diameter c.requires);
      small = simp (c.deck_units.ensures, c.rubber_height.ensures.is) (circle_small a.item a.case (bearing_so a.item a.item_within) c.args.diameter c.requires);
    }
