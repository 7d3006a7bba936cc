use Rattle.std.proofs.Common.{ℕ, ◌*◌, ◌≤◌, mul-le-mul, arith}
use Rattle.bearings.proofs.Refusing.{form_kept}
use Rattle.section14.proofs.Held.{steel_total_held}
use Rattle.section14.proofs.articles.steel_total_holds.Goals as goal

load_side : {thickness load bottom : ℕ} → thickness ≤ 48 → load ≤ 2000000 → bottom ≤ 1808 → thickness * load * bottom ≤ 173568000000
load_side thickness load bottom = omega (arith, mul-le-mul (mul-le-mul thickness load) bottom)

pub returns : goal.returns
returns c = let a = c.args.admitted.now in simp c.load.ensures (steel_total_held a.item a.case a.form (form_kept a))
