use Rattle.std.proofs.Common.{sym, ap, ◌∙◌}
use Rattle.bearings.proofs.Axes.{on_rectangle, on_circle}
use Rattle.bearings.proofs.admitted.Admitted.holds_on_axes.Goals as goal

pub returns-in-Rectangle : goal.returns-in-Rectangle
returns-in-Rectangle g c by known =
    simp (known _ c.test.result c.test.ensures, known _ c.test-in-Rectangle.result c.test-in-Rectangle.ensures)
    (on_rectangle by _ c.args.self.now.case c.in-Rectangle.length c.in-Rectangle.width (sym c.plan.ensures ∙ c.in-Rectangle.is))

pub returns : goal.returns
returns g c by known =
    known _ c.test-in-Circle.result c.test-in-Circle.ensures
    ∙ ap (by c.in-Circle.diameter) c.max.ensures
    ∙ on_circle by _ c.args.self.now.case c.in-Circle.diameter (sym c.plan.ensures ∙ c.in-Circle.is)
