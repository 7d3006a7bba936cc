-- Every side of every comparison is a number.
use Rattle.std.proofs.Common.{◌≡◌, ℕ, ◌*◌, ◌<◌, max, Bool, true, false, [], ◌∷◌, map, None, refl, mul-pos, arith}
use Rattle.rulebook.specs.declared.case.Case.{Case}
use Rattle.bearings.proofs.Inequalities.{BearingWithin, bearing_within}
use Rattle.bearings.proofs.Shapes.{Positive, positive}
use Rattle.bearings.specs.Fractions.{Comparison, Proper, AllProper, EveryProper}
use Rattle.bearings.specs.Limits.{bearing_outside}
use Rattle.bearings.specs.Quantities.{area, ProperQuantities}
use Rattle.bearings.specs.declared.bearing.Bearing.{Bearing}
use Rattle.bearings.specs.declared.bearing.Plan.{Plan}
use Rattle.bearings.specs.declared.bearing.Plan.TheVariants.{Rectangle, Circle}
use Rattle.buckling.specs.Article.{buckling}
use Rattle.section14.proofs.Rows.{ProperRow, row_proper}
use Rattle.section14.specs.Articles.{deforms_in_shear, GS, q, row, compression, shear, uplift, uplift_on, rotation, rotation_on, steel}
use Rattle.section14.specs.Axes.{Axis, axis, axes}
use Rattle.section14.specs.Book.{section14_comparisons}

module _ (b : Bearing) (c : Case) (w : BearingWithin b) where
  so : Positive b.plan b.thickness
  so = positive b.plan b.thickness w.sides_so w.lamination_so.thickness.0

  row_so : ProperRow (row b c)
  row_so = row_proper b.plan (deforms_in_shear c)

  T_proper : (pounds : ℕ) → 0 < 1 * (area b.plan).top
  T_proper pounds = omega (arith, so.area_top)

  GS_proper : Proper (GS b)
  GS_proper = omega (arith, so.shape_bottom)

  q_proper : (B θ : ℕ) → Proper (q b (axis B θ))
  q_proper B θ =
      let n_pos : 0 < b.layers = omega (arith, w.lamination_so.layers.0) in
      let h_pos : 0 < b.thickness = omega (arith, w.lamination_so.thickness.0) in
      omega (arith, mul-pos n_pos (mul-pos h_pos h_pos))

  compression_cases : (t : Bool) → deforms_in_shear c ≡ t → AllProper (compression b c)
  unfolding compression
  compression_cases true e = rw e (T_proper 0, (omega arith, (T_proper 0, (mul-pos (omega arith) GS_proper, (T_proper 0, (mul-pos (omega arith) GS_proper, tt))))))
  compression_cases false e = rw e (T_proper 0, (omega arith, (T_proper 0, (mul-pos (omega arith) GS_proper, (T_proper 0, (mul-pos (omega arith) GS_proper, tt))))))

  shear_proper : AllProper (shear b c)
  unfolding shear
  shear_proper = (omega arith, (omega arith, tt))

  uplift_left : (B θ : ℕ) → Proper (uplift_on b c (axis B θ)).left
  uplift_left B θ = mul-pos (mul-pos row_so.u_pos GS_proper) (q_proper B θ)

  rotation_left : (B θ : ℕ) → Proper (rotation_on b c (axis B θ)).left
  rotation_left B θ = mul-pos (T_proper 0) (mul-pos (mul-pos row_so.k_pos GS_proper) (mul-pos row_so.v_pos (q_proper B θ)))

  rotation_right : Proper (rotation_on b c (axis 0 0)).right
  rotation_right = mul-pos row_so.k_pos GS_proper

  buckling_proper : AllProper (buckling b c ∷ [])
  unfolding buckling
  buckling_proper = (mul-pos (T_proper 0) (omega arith), (mul-pos (omega arith) (mul-pos (T_proper 0) (omega arith)), tt))

  steel_proper : AllProper (steel b c)
  unfolding steel
  steel_proper =
      let F_pos : 0 < 1000 * b.strength = omega (arith, w.lamination_so.strength.0) in
      (mul-pos (mul-pos (omega arith) (T_proper 0)) F_pos, (omega arith, (mul-pos (mul-pos (omega arith) (T_proper 0)) (omega arith), (omega arith, tt))))

-- on the axes of a plan
on_axes : (on : Axis → Comparison) (plan : Plan) (c : Case) → ((B θ : ℕ) → Proper (on (axis B θ)).left) → ((B θ : ℕ) → Proper (on (axis B θ)).right)
    → AllProper (map on (axes plan c))
unfolding axes
on_axes on (Rectangle l w) c left right =
    (left l c.rotation_x, (right l c.rotation_x, (left w c.rotation_z, (right w c.rotation_z, tt))))
on_axes on (Circle d) c left right =
    (left d (max c.rotation_x c.rotation_z), (right d (max c.rotation_x c.rotation_z), tt))

uplift_proper : (b : Bearing) (c : Case) (w : BearingWithin b) → AllProper (uplift b c)
unfolding uplift
uplift_proper b c w = on_axes (uplift_on b c) b.plan c (uplift_left b c w) (λ _ _. T_proper b c w 0)

rotation_proper : (b : Bearing) (c : Case) (w : BearingWithin b) → AllProper (rotation b c)
unfolding rotation
rotation_proper b c w = on_axes (rotation_on b c) b.plan c (rotation_left b c w) (λ _ _. rotation_right b c w)

pub every_proper : (b : Bearing) (c : Case) → bearing_outside b ≡ None → EveryProper (section14_comparisons b c)
every_proper b c within =
    let w = bearing_within b within in (
      compression_cases b c w (deforms_in_shear c) refl,
      (
        shear_proper b c w,
        (
          uplift_proper b c w,
          (
            rotation_proper b c w,
            (
              buckling_proper b c w,
              (
                steel_proper b c w,
                tt,
              ),
            ),
          ),
        ),
      ),
    )

pub quantities_proper : (b : Bearing) → bearing_outside b ≡ None → ProperQuantities b.plan b.thickness
quantities_proper b within =
    let w = bearing_within b within in
    let so = positive b.plan b.thickness w.sides_so w.lamination_so.thickness.0 in
    (so.area_bottom, so.shape_bottom)
