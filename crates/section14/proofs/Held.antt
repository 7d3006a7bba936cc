-- The comparisons at an admitted bearing.
use Rattle.std.proofs.Common.{◌≡◌, ℕ, ◌+◌, ◌*◌, max, Bool, true, false, ◌&&◌, leb, [], ◌∷◌, map, refl, ap, ◌∙◌}
use Rattle.rulebook.specs.Cases.{load}
use Rattle.rulebook.specs.declared.case.Case.{Case}
use Rattle.bearings.proofs.Clearing.{one_holds, both_hold}
use Rattle.bearings.proofs.Refusing.{FormKept}
use Rattle.bearings.proofs.Shapes.{Positive, positive}
use Rattle.bearings.specs.Axes.{holds_on_axes}
use Rattle.bearings.specs.Comparisons.{twice_within}
use Rattle.bearings.specs.Sizes.{rubber_sixteenths}
use Rattle.bearings.specs.Fractions.{Comparison, holds, all_hold}
use Rattle.bearings.specs.Quantities.{area, shape_factor}
use Rattle.bearings.specs.declared.bearing.Bearing.{Bearing}
use Rattle.bearings.specs.declared.bearing.Plan.{Plan}
use Rattle.bearings.specs.declared.bearing.Plan.TheVariants.{Rectangle, Circle}
use Rattle.bearings.specs.declared.form.Form.{Form}
use Rattle.buckling.specs.Article.{buckling}
use Rattle.section14.proofs.Comparing.{rubber_cleared, steel_total_cleared, steel_live_cleared, uplift_cleared, rotation_cleared}
use Rattle.section14.proofs.Rows.{row_proper}
use Rattle.section14.specs.Articles.{deforms_in_shear, stress_within, compression, shear, uplift, uplift_on, rotation, rotation_on, steel_total, steel_live, steel, row}
use Rattle.section14.specs.Axes.{Axis, axis, axes}
use Rattle.section14.specs.Book.{section14_articles}
use Rattle.section14.specs.Cleared.{Clears, compression_limits, stress_within_hundredths_GS, layer_squares}
use Rattle.section14.specs.declared.coefficients.Row.{Row}

module _ (b : Bearing) (c : Case) (f : Form) (kept : FormKept b.plan b.thickness f) where
  so : Positive b.plan b.thickness
  so = positive b.plan b.thickness kept.sides kept.thickness.0

  pub steel_total_held : leb (3 * (b.thickness * load c * f.area.bottom)) (250 * (b.strength * b.laminate * f.area.top)) ≡ holds (steel_total b c)
  steel_total_held =
      steel_total_cleared (area b.plan) f.area.top f.area.bottom kept.area_small.0.0 so.area_top kept.area_is
      (load c) b.thickness b.laminate b.strength

  pub steel_live_held : leb (b.thickness * c.live * f.area.bottom) (3000 * (b.laminate * f.area.top)) ≡ holds (steel_live b c)
  steel_live_held =
      steel_live_cleared (area b.plan) f.area.top f.area.bottom kept.area_small.0.0 so.area_top kept.area_is
      c.live b.thickness b.laminate

  module _ (r : Row) (clears : Clears (row b c) r) (B θ : ℕ) where
    pub uplift_held :
        leb (r.u * (b.modulus * f.shape_area.top * (θ * (B * B)))) (625 * (layer_squares b * (load c * f.shape_area.bottom)))
        ≡ holds (uplift_on b c (axis B θ))
    uplift_held =
        uplift_cleared (area b.plan) (shape_factor b.plan b.thickness) f.shape_area.top f.shape_area.bottom
        kept.shape_area_small.0.0 so.area_top so.shape_top so.shape_bottom kept.shape_area_is
        (load c) b.modulus b.layers b.thickness B θ r.u (row b c).u
        (row_proper b.plan (deforms_in_shear c)).u_pos clears.u_is

    pub rotation_held :
        leb (5000 * (layer_squares b * (load c * f.shape_area.bottom)) + 4 * (r.kv * (b.modulus * f.shape_area.top * (θ * (B * B)))))
        (625 * (r.k * (b.modulus * f.shape_area.top * layer_squares b)))
        ≡ holds (rotation_on b c (axis B θ))
    rotation_held =
        rotation_cleared (area b.plan) (shape_factor b.plan b.thickness) f.shape_area.top f.shape_area.bottom
        kept.shape_area_small.0.0 so.area_top so.shape_top so.shape_bottom kept.shape_area_is
        (load c) b.modulus b.layers b.thickness B θ r.k r.kv
        (row b c).k (row b c).v
        (row_proper b.plan (deforms_in_shear c)).k_pos (row_proper b.plan (deforms_in_shear c)).v_pos
        clears.k_is clears.kv_is

-- whole articles, by their comparisons
pub shear_held : (b : Bearing) (c : Case) → holds (twice_within c.movement (rubber_sixteenths b)) ≡ all_hold (shear b c)
unfolding shear
shear_held b c = rubber_cleared c.movement b.layers b.thickness b.cover ∙ one_holds _

three : (x y z : Bool) → (x && y && z) ≡ (x && (y && (z && true)))
three true y z = both_hold y z
three false y z = refl

compression_cases : (t : Bool) (b : Bearing) (c : Case) → deforms_in_shear c ≡ t
    → (holds (stress_within b c (compression_limits t).stress) && holds (stress_within_hundredths_GS b (load c) (compression_limits t).total) && holds (stress_within_hundredths_GS b c.live (compression_limits t).live))
    ≡ all_hold (compression b c)
unfolding compression
compression_cases true b c e =
    rw e (three (holds (stress_within b c 1600)) (holds (stress_within_hundredths_GS b (load c) 166)) (holds (stress_within_hundredths_GS b c.live 66)))
compression_cases false b c e =
    rw e (three (holds (stress_within b c 1750)) (holds (stress_within_hundredths_GS b (load c) 200)) (holds (stress_within_hundredths_GS b c.live 100)))

pub compression_held : (b : Bearing) (c : Case)
    → (holds (stress_within b c (compression_limits (deforms_in_shear c)).stress) && holds (stress_within_hundredths_GS b (load c) (compression_limits (deforms_in_shear c)).total) && holds (stress_within_hundredths_GS b c.live (compression_limits (deforms_in_shear c)).live))
    ≡ all_hold (compression b c)
compression_held b c = compression_cases (deforms_in_shear c) b c refl

pub steel_held : (b : Bearing) (c : Case) → (holds (steel_total b c) && holds (steel_live b c)) ≡ all_hold (steel b c)
unfolding steel
steel_held b c = both_hold (holds (steel_total b c)) (holds (steel_live b c))

-- an article on the axes of a plan
on_axes : (on : Axis → Comparison) (plan : Plan) (c : Case) → holds_on_axes (λ B θ. holds (on (axis B θ))) plan c ≡ all_hold (map on (axes plan c))
unfolding axes holds_on_axes
on_axes on (Rectangle l w) c = both_hold (holds (on (axis l c.rotation_x))) (holds (on (axis w c.rotation_z)))
on_axes on (Circle d) c = one_holds (holds (on (axis d (max c.rotation_x c.rotation_z))))

pub uplift_on_axes : (b : Bearing) (c : Case) → holds_on_axes (λ B θ. holds (uplift_on b c (axis B θ))) b.plan c ≡ all_hold (uplift b c)
unfolding uplift
uplift_on_axes b c = on_axes (uplift_on b c) b.plan c

pub rotation_on_axes : (b : Bearing) (c : Case) → holds_on_axes (λ B θ. holds (rotation_on b c (axis B θ))) b.plan c ≡ all_hold (rotation b c)
unfolding rotation
rotation_on_axes b c = on_axes (rotation_on b c) b.plan c

-- all articles, of which the buckling article has one comparison
pub listed : (b : Bearing) (c : Case)
    → (all_hold (compression b c) ∷ all_hold (shear b c) ∷ all_hold (uplift b c) ∷ all_hold (rotation b c) ∷ holds (buckling b c) ∷ all_hold (steel b c) ∷ [])
    ≡ section14_articles b c
unfolding section14_articles
listed b c =
    ap (λ z. all_hold (compression b c) ∷ all_hold (shear b c) ∷ all_hold (uplift b c) ∷ all_hold (rotation b c) ∷ z ∷ all_hold (steel b c) ∷ [])
    (one_holds (holds (buckling b c)))
