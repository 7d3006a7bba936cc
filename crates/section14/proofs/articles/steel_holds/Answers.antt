use Rattle.section14.proofs.Held.{steel_held}
use Rattle.section14.proofs.articles.steel_holds.Goals as goal

pub returns : goal.returns
returns c = simp (c.steel_total_holds.ensures, c.steel_live_holds.ensures) (steel_held c.args.admitted.now.item c.args.admitted.now.case)
