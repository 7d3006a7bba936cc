use Rattle.bearings.proofs.Clearing.{stress_cleared}
use Rattle.bearings.proofs.Shapes.{positive}
use Rattle.bearings.specs.Quantities.{area}
use Rattle.rulebook.specs.Cases.{load}
use Rattle.bearings.proofs.admitted.Admitted.stress_holds.Goals as goal

pub returns : goal.returns
returns g c =
    let a = c.args.self.now in
    let plan = g.I.Elastomeric.plan a.item in
    let so = positive plan (g.I.Elastomeric.thickness a.item) a.sides a.thickness.0 in
    simp c.load.ensures (stress_cleared (area plan) a.form.area.top a.form.area.bottom a.area_small.0.0 so.area_top a.area_is (load a.case) c.args.most)
