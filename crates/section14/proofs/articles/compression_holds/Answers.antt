use Rattle.section14.proofs.Held.{compression_held}
use Rattle.section14.proofs.articles.compression_holds.Goals as goal

pub returns : goal.returns
returns c =
    simp (c.stress_holds.ensures, c.load_holds.ensures, c.load_holds-2.ensures, c.load.ensures, c.compression_limits-most.ensures)
    (compression_held c.args.admitted.now.item c.args.admitted.now.case)
