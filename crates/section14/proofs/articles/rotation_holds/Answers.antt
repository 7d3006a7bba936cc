use Rattle.std.proofs.Common.{rules, ◌∙◌}
use Rattle.section14.proofs.Held.{rotation_on_axes}
use Rattle.section14.proofs.articles.rotation_holds.Goals as goal

pub returns : goal.returns
returns c = c.holds_on_axes.ensures _ (λ x r k. search rules) ∙ rotation_on_axes c.args.admitted.now.item c.args.admitted.now.case
