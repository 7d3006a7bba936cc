use Rattle.bearings.proofs.Refusing.{form_kept}
use Rattle.section14.proofs.Held.{steel_live_held}
use Rattle.section14.proofs.articles.steel_live_holds.Goals as goal

pub returns : goal.returns
returns c = let a = c.args.admitted.now in steel_live_held a.item a.case a.form (form_kept a)
