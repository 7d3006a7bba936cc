-- The terms of the buckling article, in inches.
use Rattle.std.specs.Prelude.{ℕ, ◌*◌, min, max, Bool, cond, ◌==◌}
use Rattle.rulebook.specs.declared.case.Case.{Case}
use Rattle.bearings.specs.Fractions.{Fraction, ◌over◌, whole, ◌times◌, ◌per◌, ◌plus◌, ◌at_most◌, holds, rounded_up, rounded_down}
use Rattle.bearings.specs.Quantities.{shape_factor, rubber_height}
use Rattle.bearings.specs.Units.{halves}
use Rattle.bearings.specs.declared.bearing.Bearing.{Bearing}
use Rattle.bearings.specs.declared.bearing.Plan.{Plan}
use Rattle.bearings.specs.declared.bearing.Plan.TheVariants.{Rectangle, Circle}
use Rattle.buckling.specs.Greatest.{IsGreatest, IsLeast, greatest}

-- l, the lesser side; of a circle 0.8D
unfoldable pub lesser_side : Plan → Fraction
lesser_side (Rectangle length width) = halves (min length width)
lesser_side (Circle diameter) = 8 over 10 times halves diameter

-- m, the greater side; of a circle 0.8D
unfoldable pub greater_side : Plan → Fraction
greater_side (Rectangle length width) = halves (max length width)
greater_side (Circle diameter) = 8 over 10 times halves diameter

-- a: 3.84 where the deck is free to translate, else 1.92
unfoldable pub deck_factor : Case → Fraction
deck_factor c = cond (c.deck == 1) (384 over 100) (192 over 100)

-- 1 + 2l/m, whose root stands in X
unfoldable pub under_root : Plan → Fraction
under_root plan = whole 1 plus whole 2 times lesser_side plan per greater_side plan

-- X₀ = a(H/l)/S, which is X = a(H/l)/(S√(1+2l/m)) without its root
unfoldable pub X₀ : Bearing → Case → Fraction
X₀ b c = deck_factor c times (rubber_height b per lesser_side b.plan) per shape_factor b.plan b.thickness

-- Y = 2.67/(S(S+2)(1+l/(4m)))
unfoldable pub Y : Bearing → Fraction
Y b =
    267 over 100
    per (shape_factor b.plan b.thickness
    times (shape_factor b.plan b.thickness plus whole 2)
    times (whole 1 plus lesser_side b.plan per (whole 4 times greater_side b.plan)))

-- r²m ≤ 1,000,000(m + 2l)
unfoldable pub root_fits : Plan → ℕ → Bool
root_fits plan r = holds (whole (r * r) times greater_side plan at_most whole 1000000 times (greater_side plan plus whole 2 times lesser_side plan))

-- r, the greatest for which that holds; as l ≤ m, it is at most 1,732
unfoldable pub root : Plan → ℕ
root plan = greatest (root_fits plan) 1732

-- 1,000,000·X with r/1,000 in the place of the root
unfoldable pub X_millionths : Bearing → Case → Fraction
X_millionths b c = whole 1000000 times (X₀ b c per (root b.plan over 1000))

-- X': that, rounded up
unfoldable pub X' : Bearing → Case → ℕ
X' b c = rounded_up (X_millionths b c)

-- 1,000,000·Y
unfoldable pub Y_millionths : Bearing → Fraction
Y_millionths b = whole 1000000 times Y b

-- Y': that, rounded down
unfoldable pub Y' : Bearing → ℕ
Y' b = rounded_down (Y_millionths b)

-- What the three whole numbers of the article are: r the greatest that fits, X' the least at or above a million times X with r/1,000 in the place
-- of the root, Y' the greatest at or below a million times Y.
pub record WholeNumbers (b : Bearing) (c : Case) : Type 0 where
  pub root_is : IsGreatest (root_fits b.plan) (root b.plan)
  pub first_is : IsLeast (λ n. holds (X_millionths b c at_most whole n)) (X' b c)
  pub second_is : IsGreatest (λ n. holds (whole n at_most Y_millionths b)) (Y' b)
