use Rattle.section14.proofs.Held.{shear_held}
use Rattle.section14.proofs.articles.shear_holds.Goals as goal

pub returns : goal.returns
returns c = simp (c.shear_holds.ensures, c.rubber_height.ensures.is) (shear_held c.args.admitted.now.item c.args.admitted.now.case)
