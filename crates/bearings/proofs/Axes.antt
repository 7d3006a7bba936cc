-- A test on the axes of a plan, by the plan.
use Rattle.std.proofs.Common.{◌≡◌, ℕ, max, Bool, ◌&&◌, refl}
use Rattle.rulebook.specs.declared.case.Case.{Case}
use Rattle.bearings.specs.Axes.{holds_on_axes}
use Rattle.bearings.specs.declared.bearing.Plan.{Plan}
use Rattle.bearings.specs.declared.bearing.Plan.TheVariants.{Rectangle, Circle}

module _ (test : ℕ → ℕ → Bool) (plan : Plan) (c : Case) where
  pub on_rectangle : (l w : ℕ) → plan ≡ Rectangle l w → (test l c.rotation_x && test w c.rotation_z) ≡ holds_on_axes test plan c
  unfolding holds_on_axes
  on_rectangle l w is = rw is refl

  pub on_circle : (d : ℕ) → plan ≡ Circle d → test d (max c.rotation_x c.rotation_z) ≡ holds_on_axes test plan c
  unfolding holds_on_axes
  on_circle d is = rw is refl
