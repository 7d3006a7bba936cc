-- The code's comparisons, cleared of fractions, are those of the articles. P is a load in pounds, A the area, S the shape factor, AS with the
-- code's st/sb, G the modulus.
use Rattle.std.proofs.Common.{◌≡◌, ℕ, ◌*◌, ◌<◌, leb, ap, mul-pos, arith}
use Rattle.bearings.proofs.Clearing.{cleared}
use Rattle.bearings.specs.Fractions.{Fraction, ◌over◌, whole, ◌times◌, ◌per◌, ◌at_most◌, squared, holds}
use Rattle.bearings.specs.Units.{halves, sixteenths, ten_thousandths}

module _ (A S : Fraction) (st sb : ℕ) (st_pos : 0 < st) (A_pos : 0 < A.top) (S_pos : 0 < S.top)
    (same : st * (A.bottom * S.bottom) ≡ A.top * S.top * sb) where
  pub uplift_cleared : (P G h b θ : ℕ) → leb (2 * (G * st * (θ * (b * b)))) (625 * (h * h * (P * sb)))
      ≡ holds (5 over 10 times (whole G times S) times squared (halves b per sixteenths h) times ten_thousandths θ at_most whole P per A)
  uplift_cleared P G h b θ =
      cleared st (640 * (A.top * S.top)) _ _ _ _ st_pos (omega (arith, mul-pos A_pos S_pos))
      (omega arith)
      (omega (arith, ap (λ z. 400000 * h * h * P * z) same))

-- a hundred hundredths
pub whole_GS : (T GS : Fraction) → holds (T at_most 100 over 100 times GS) ≡ holds (T at_most GS)
whole_GS T GS = cleared 100 1 _ _ _ _ (omega arith) (omega arith) (omega arith) (omega arith)

pub stability_cleared : (b h : ℕ) → leb (3 * h) (8 * b) ≡ holds (sixteenths h at_most halves b per whole 3)
stability_cleared b h = cleared 1 2 _ _ _ _ (omega arith) (omega arith) (omega arith) (omega arith)
