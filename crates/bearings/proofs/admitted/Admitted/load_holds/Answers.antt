use Rattle.bearings.proofs.Clearing.{load_cleared}
use Rattle.bearings.proofs.Shapes.{positive}
use Rattle.bearings.specs.Quantities.{area, shape_factor}
use Rattle.bearings.proofs.admitted.Admitted.load_holds.Goals as goal

pub returns : goal.returns
returns g c =
    let a = c.args.self.now in
    let plan = g.I.Elastomeric.plan a.item in
    let h = g.I.Elastomeric.thickness a.item in
    let so = positive plan h a.sides a.thickness.0 in
    simp c.resistance.ensures.is
    (load_cleared (area plan) (shape_factor plan h) a.form.shape_area.top a.form.shape_area.bottom
    a.shape_area_small.0.0 so.area_top so.shape_top a.shape_area_is c.args.pounds (g.I.Elastomeric.modulus a.item) c.args.factor)
