use Rattle.pads.proofs.Held.{stability_held}
use Rattle.pads.proofs.articles.stability_holds.Goals as goal

pub returns : goal.returns
returns c =
    simp (c.stability_holds_of.ensures, c.stability_holds_of-2.ensures) (stability_held c.args.admitted.now.item)
