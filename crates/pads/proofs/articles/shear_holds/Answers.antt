use Rattle.std.proofs.Common.{◌∙◌}
use Rattle.pads.proofs.Held.{shear_held}
use Rattle.pads.proofs.articles.shear_holds.Goals as goal

pub returns : goal.returns
returns c = c.shear_holds.ensures ∙ shear_held c.args.admitted.now.item c.args.admitted.now.case
