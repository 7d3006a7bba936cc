-- The buckling article: by whole numbers, which decide the verdict, and exactly.
use Rattle.std.specs.Prelude.{◌*◌, [], ◌∷◌}
use Rattle.rulebook.specs.Cases.{load}
use Rattle.rulebook.specs.declared.case.Case.{Case}
use Rattle.bearings.specs.Fractions.{Fraction, Comparison, Proper, AllProper, ◌over◌, whole, ◌times◌, ◌plus◌, ◌at_most◌, squared}
use Rattle.bearings.specs.Quantities.{stress}
use Rattle.bearings.specs.declared.bearing.Bearing.{Bearing}
use Rattle.buckling.specs.Terms.{lesser_side, greater_side, under_root, X₀, Y, X_millionths, Y_millionths, X', Y'}

-- T(X' − Y') ≤ 1,000,000·G, with T·Y' on the other side, as X' may be below Y'
unfoldable pub buckling : Bearing → Case → Comparison
buckling b c =
    stress (load c) b.plan times whole (X' b c)
    at_most whole (1000000 * b.modulus) plus stress (load c) b.plan times whole (Y' b)

-- T(fX − Y) ≤ G with the root exact, which is TfX ≤ G + TY. Neither side is negative, so it is compared by squares: as X² = X₀²/(1 + 2l/m), it is
-- (TfX₀)² ≤ (G + TY)²(1 + 2l/m). The article itself has the factor f = 1.
unfoldable pub exact_buckling : (f : Fraction) → Bearing → Case → Comparison
exact_buckling f b c =
    squared (stress (load c) b.plan times (f times X₀ b c))
    at_most squared (whole b.modulus plus stress (load c) b.plan times Y b) times under_root b.plan

-- what the article is made of are numbers: every part that is divided by something, and the exact article with X and with 1.02·X
pub record ProperTerms (b : Bearing) (c : Case) : Type 0 where
  pub lesser : Proper (lesser_side b.plan)
  pub greater : Proper (greater_side b.plan)
  pub under : Proper (under_root b.plan)
  pub first : Proper (X₀ b c) × Proper (X_millionths b c)
  pub second : Proper (Y b) × Proper (Y_millionths b)
  pub exact : AllProper (exact_buckling (whole 1) b c ∷ exact_buckling (102 over 100) b c ∷ [])
