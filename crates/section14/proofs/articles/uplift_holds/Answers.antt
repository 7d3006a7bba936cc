use Rattle.std.proofs.Common.{rules, ◌∙◌}
use Rattle.section14.proofs.Held.{uplift_on_axes}
use Rattle.section14.proofs.articles.uplift_holds.Goals as goal

pub returns : goal.returns
returns c = c.holds_on_axes.ensures _ (λ x r k. search rules) ∙ uplift_on_axes c.args.admitted.now.item c.args.admitted.now.case
