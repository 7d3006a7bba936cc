use Rattle.pads.proofs.Held.{compression_held}
use Rattle.pads.proofs.articles.compression_holds.Goals as goal

pub returns : goal.returns
returns c =
    simp (c.stress_holds.ensures, c.load_holds.ensures, c.load.ensures) (compression_held c.args.admitted.now.item c.args.admitted.now.case)
