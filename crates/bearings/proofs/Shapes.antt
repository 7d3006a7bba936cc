-- The forms of the two plans.
use Rattle.std.proofs.Common.{ℕ, ◌+◌, ◌*◌, ◌<◌, ◌≤◌, mul-le-mul, arith}
use Rattle.bearings.specs.Bounds.{SidesWithin}
use Rattle.bearings.specs.Forms.{FormOf, Small}
use Rattle.bearings.specs.Quantities.{area, shape_factor}
use Rattle.bearings.specs.declared.bearing.Plan.{Plan}
use Rattle.bearings.specs.declared.bearing.Plan.TheVariants.{Rectangle, Circle}
use Rattle.bearings.specs.declared.form.Form.{Form}

abbrev pub rectangle_form : (l w h : ℕ) → Form
rectangle_form l w h = record {
  area = record { top = l * w; bottom = 4 };
  shape_area = record { top = l * w * (l * w); bottom = h * (l + w) };
}

abbrev pub circle_form : (d h : ℕ) → Form
circle_form d h = record {
  area = record { top = 355 * (d * d); bottom = 1808 };
  shape_area = record { top = 355 * (d * d * d); bottom = 904 * h };
}

pub rectangle_is : (l w h : ℕ) → FormOf (Rectangle l w) h (rectangle_form l w h)
unfolding area shape_factor
rectangle_is l w h = (
  omega arith,
  omega arith,
)

pub circle_is : (d h : ℕ) → FormOf (Circle d) h (circle_form d h)
unfolding area shape_factor
circle_is d h = (
  omega arith,
  omega arith,
)

pub rectangle_small : (l w h : ℕ) → SidesWithin (Rectangle l w) → 4 ≤ h → h ≤ 48 → Small (rectangle_form l w h)
rectangle_small l w h s low high =
    let product_low : 64 ≤ l * w = omega (arith, mul-le-mul s.0.0 s.1.0) in
    let product_high : l * w ≤ 6400 = omega (arith, mul-le-mul s.0.1 s.1.1) in
    let square_low = mul-le-mul product_low product_low in
    let square_high = mul-le-mul product_high product_high in
    let sum_low : 16 ≤ l + w = omega arith in
    let sum_high : l + w ≤ 160 = omega arith in
    let bottom_low = mul-le-mul low sum_low in
    let bottom_high = mul-le-mul high sum_high in
    omega arith

pub circle_small : (d h : ℕ) → SidesWithin (Circle d) → 4 ≤ h → h ≤ 48 → Small (circle_form d h)
circle_small d h s low high =
    let square_low : 64 ≤ d * d = omega (arith, mul-le-mul s.0 s.0) in
    let square_high : d * d ≤ 6400 = omega (arith, mul-le-mul s.1 s.1) in
    let cube_low = mul-le-mul square_low s.0 in
    let cube_high = mul-le-mul square_high s.1 in
    omega arith

-- areas and shape factors are above 0, and their bottoms too
pub record Positive (plan : Plan) (h : ℕ) : Type 0 where
  pub area_top : 0 < (area plan).top
  pub area_bottom : 0 < (area plan).bottom
  pub shape_top : 0 < (shape_factor plan h).top
  pub shape_bottom : 0 < (shape_factor plan h).bottom

pub positive : (plan : Plan) (h : ℕ) → SidesWithin plan → 4 ≤ h → Positive plan h
unfolding area shape_factor
positive (Rectangle l w) h s low =
    let product = mul-le-mul s.0.0 s.1.0 in
    let sum_low : 16 ≤ l + w = omega arith in
    let edge = mul-le-mul low sum_low in
    record { area_top = omega arith; area_bottom = omega arith; shape_top = omega arith; shape_bottom = omega (arith, edge) }
positive (Circle d) h s low =
    let square = mul-le-mul s.0 s.0 in
    record { area_top = omega arith; area_bottom = omega arith; shape_top = omega arith; shape_bottom = omega arith }
