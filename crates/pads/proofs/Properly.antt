-- Every side of every comparison is a number.
use Rattle.std.proofs.Common.{◌≡◌, ℕ, ◌<◌, None, mul-pos, arith}
use Rattle.rulebook.specs.declared.case.Case.{Case}
use Rattle.bearings.proofs.Inequalities.{PadWithin, pad_within}
use Rattle.bearings.proofs.Shapes.{Positive, positive}
use Rattle.bearings.specs.Fractions.{Proper, AllProper, EveryProper}
use Rattle.bearings.specs.Limits.{pad_outside, pad_plan}
use Rattle.bearings.specs.Quantities.{ProperQuantities}
use Rattle.bearings.specs.declared.pad.Pad.{Pad}
use Rattle.pads.specs.Articles.{T, GS, compression, shear, uplift_on, uplift, stability}
use Rattle.pads.specs.Book.{pad_comparisons}

module _ (p : Pad) (c : Case) (w : PadWithin p) where
  so : Positive (pad_plan p) p.thickness
  so = positive (pad_plan p) p.thickness w.sides_so w.thickness_so.0

  T_proper : Proper (T p c)
  T_proper = omega (arith, so.area_top)

  GS_proper : Proper (GS p)
  GS_proper = omega (arith, so.shape_bottom)

  compression_proper : AllProper (compression p c)
  unfolding compression
  compression_proper = (T_proper, (omega arith, (T_proper, (GS_proper, tt))))

  shear_proper : AllProper (shear p c)
  unfolding shear
  shear_proper = (omega arith, (omega arith, tt))

  uplift_left : (side angle : ℕ) → Proper (uplift_on p c side angle).left
  uplift_left side angle =
      let h_pos : 0 < p.thickness = omega (arith, w.thickness_so.0) in
      mul-pos (mul-pos (mul-pos (omega arith) GS_proper) (omega (arith, mul-pos h_pos h_pos))) (omega arith)

  uplift_proper : AllProper (uplift p c)
  unfolding uplift
  uplift_proper = (uplift_left p.length c.rotation_x, (T_proper, (uplift_left p.width c.rotation_z, (T_proper, tt))))

  stability_proper : AllProper (stability p)
  unfolding stability
  stability_proper = (omega arith, (omega arith, (omega arith, (omega arith, tt))))

pub every_proper : (p : Pad) (c : Case) → pad_outside p ≡ None → EveryProper (pad_comparisons p c)
every_proper p c within =
    let w = pad_within p within in (compression_proper p c w, (shear_proper p c w, (uplift_proper p c w, (stability_proper p c w, tt))))

pub quantities_proper : (p : Pad) → pad_outside p ≡ None → ProperQuantities (pad_plan p) p.thickness
quantities_proper p within =
    let w = pad_within p within in
    let so = positive (pad_plan p) p.thickness w.sides_so w.thickness_so.0 in
    (so.area_bottom, so.shape_bottom)
