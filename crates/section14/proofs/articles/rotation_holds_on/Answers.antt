use Rattle.bearings.proofs.Refusing.{form_kept}
use Rattle.section14.proofs.Held.{rotation_held}
use Rattle.section14.proofs.articles.rotation_holds_on.Goals as goal

pub returns : goal.returns
returns c =
    let a = c.args.admitted.now in
    simp (c.turned_resistance.ensures.is, c.layer_squares-squares.ensures.is, c.shaped_load.ensures.is, c.resistance.ensures.is)
    (rotation_held a.item a.case a.form (form_kept a) c.row-row.result c.row-row.ensures c.args.on.base c.args.on.angle)
