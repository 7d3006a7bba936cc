-- The comparisons at an admitted pad.
use Rattle.std.proofs.Common.{◌≡◌, ℕ, ◌*◌, ◌&&◌, leb, ap, ◌∙◌}
use Rattle.rulebook.specs.Cases.{load}
use Rattle.rulebook.specs.declared.case.Case.{Case}
use Rattle.bearings.proofs.Clearing.{one_holds, both_hold}
use Rattle.bearings.proofs.Refusing.{FormKept}
use Rattle.bearings.proofs.Shapes.{Positive, positive}
use Rattle.bearings.specs.Axes.{holds_on_axes}
use Rattle.bearings.specs.Comparisons.{stress_in_psi, stress_in_hundredths, twice_within}
use Rattle.bearings.specs.Fractions.{holds, all_hold}
use Rattle.bearings.specs.Limits.{pad_plan}
use Rattle.bearings.specs.Quantities.{area, shape_factor, stress}
use Rattle.bearings.specs.declared.form.Form.{Form}
use Rattle.bearings.specs.declared.pad.Pad.{Pad}
use Rattle.pads.proofs.Comparing.{whole_GS, uplift_cleared}
use Rattle.pads.specs.Articles.{GS, stress_within, stress_within_GS, compression, shear, uplift_on, uplift, stability_of, stability}

module _ (p : Pad) (c : Case) (f : Form) (kept : FormKept (pad_plan p) p.thickness f) where
  so : Positive (pad_plan p) p.thickness
  so = positive (pad_plan p) p.thickness kept.sides kept.thickness.0

  pub uplift_held : (B θ : ℕ)
      → leb (2 * (p.modulus * f.shape_area.top * (θ * (B * B)))) (625 * (p.thickness * p.thickness * (load c * f.shape_area.bottom)))
      ≡ holds (uplift_on p c B θ)
  uplift_held B θ =
      uplift_cleared (area (pad_plan p)) (shape_factor (pad_plan p) p.thickness) f.shape_area.top f.shape_area.bottom
      kept.shape_area_small.0.0 so.area_top so.shape_top kept.shape_area_is (load c) p.modulus p.thickness B θ

-- whole articles, by their comparisons
pub compression_held : (p : Pad) (c : Case)
    → (holds (stress_in_psi (pad_plan p) (load c) 800) && holds (stress_in_hundredths (pad_plan p) p.thickness p.modulus (load c) 100)) ≡ all_hold (compression p c)
unfolding compression
compression_held p c =
    ap (λ x. holds (stress_within p c) && x) (whole_GS (stress (load c) (pad_plan p)) (GS p)) ∙ both_hold (holds (stress_within p c)) (holds (stress_within_GS p c))

pub shear_held : (p : Pad) (c : Case) → holds (twice_within c.movement p.thickness) ≡ all_hold (shear p c)
unfolding shear
shear_held p c = one_holds _

pub uplift_on_axes : (p : Pad) (c : Case) → holds_on_axes (λ B θ. holds (uplift_on p c B θ)) (pad_plan p) c ≡ all_hold (uplift p c)
unfolding uplift holds_on_axes
uplift_on_axes p c = both_hold (holds (uplift_on p c p.length c.rotation_x)) (holds (uplift_on p c p.width c.rotation_z))

pub stability_held : (p : Pad) → (holds (stability_of p p.length) && holds (stability_of p p.width)) ≡ all_hold (stability p)
unfolding stability
stability_held p = both_hold (holds (stability_of p p.length)) (holds (stability_of p p.width))
