-- The whole numbers that the articles compare: what they stand for, and how large they are.
use Rattle.std.specs.Prelude.{ℕ}
use Rattle.bearings.specs.Bounds.{Range}
use Rattle.bearings.specs.Fractions.{Fraction, ◌over◌, ◌times◌, ◌same_as◌}
use Rattle.bearings.specs.Quantities.{area, shape_factor}
use Rattle.bearings.specs.declared.bearing.Plan.{Plan}
use Rattle.bearings.specs.declared.form.Form.{Form}
use Rattle.bearings.specs.declared.form.Ratio.{Ratio}

abbrev pub fraction : Ratio → Fraction
fraction x = x.top over x.bottom

-- the area A of a plan, with common factors taken out
abbrev pub AreaOf : Plan → Ratio → Type 0
AreaOf plan x = fraction x same_as area plan

-- AS, the area times the shape factor of layers h sixteenths thick, with common factors taken out
abbrev pub ShapeAreaOf : Plan → ℕ → Ratio → Type 0
ShapeAreaOf plan h x = fraction x same_as (area plan times shape_factor plan h)

abbrev pub FormOf : Plan → ℕ → Form → Type 0
FormOf plan h f = AreaOf plan f.area × ShapeAreaOf plan h f.shape_area

-- what keeps every product of the articles within 64 bits
abbrev pub Small : Form → Type 0
Small f =
    (Range 1 f.area.top 2272000 × Range 1 f.area.bottom 1808)
    × (Range 1 f.shape_area.top 181760000 × Range 1 f.shape_area.bottom 43392)
