-- Comparisons of fractions, cleared of factors that both sides have.
use Rattle.std.proofs.Common.{◌≡◌, ℕ, ◌*◌, ◌<◌, ◌≤◌, Bool, true, false, ◌&&◌, leb, refl, ap, mul-le-mul_left, mul-pos, arith}
use native.Mathlib.Nat.{le_of_mul-le-mul_left}
use Rattle.std.proofs.lemmas.Bool.{leb-true, le-leb}
use Rattle.std.proofs.lemmas.Bool.Decides.{same_from_decides}
use Rattle.bearings.specs.Units.{sixteenths, hundredths}
use Rattle.bearings.specs.Fractions.{Fraction, ◌over◌, whole, ◌times◌, ◌per◌, ◌at_most◌, holds}

-- where j/k of x and y are a and b, they compare alike
pub cleared : (j k a b x y : ℕ) → 0 < j → 0 < k → j * x ≡ k * a → j * y ≡ k * b → leb a b ≡ leb x y
cleared j k a b x y jp kp ex ey =
    same_from_decides {P = a ≤ b} (leb a b) (leb x y)
    (leb-true a b, le-leb a b) (
      (λ t. let h : j * x ≤ j * y = mul-le-mul_left j (leb-true x y t) in le_of_mul-le-mul_left (let m : k * a ≤ k * b = omega arith in m) kp),
      (λ h. let m : k * a ≤ k * b = mul-le-mul_left k h in le-leb x y (le_of_mul-le-mul_left (let n : j * x ≤ j * y = omega arith in n) jp)),
    )

-- a stress, by an area at/ab with common factors taken out
pub stress_cleared : (A : Fraction) (at ab : ℕ) → 0 < at → 0 < A.top → at * A.bottom ≡ A.top * ab
    → (P most : ℕ) → leb (P * ab) (most * at) ≡ holds (whole P per A at_most whole most)
stress_cleared A at ab at_pos A_pos same P most =
    cleared at A.top _ _ _ _ at_pos A_pos (omega (arith, ap (λ z. P * z) same)) (omega arith)

-- a stress and a factor in hundredths of GS, by AS with the code's st/sb
pub load_cleared : (A S : Fraction) (st sb : ℕ) → 0 < st → 0 < A.top → 0 < S.top → st * (A.bottom * S.bottom) ≡ A.top * S.top * sb
    → (P G factor : ℕ) → leb (100 * (P * sb)) (factor * (G * st)) ≡ holds (whole P per A at_most factor over 100 times (whole G times S))
load_cleared A S st sb st_pos A_pos S_pos same P G factor =
    cleared st (A.top * S.top) _ _ _ _ st_pos (mul-pos A_pos S_pos) (omega (arith, ap (λ z. 100 * P * z) same)) (omega arith)

-- a movement in hundredths of an inch and a height h in sixteenths
pub shear_cleared : (M h : ℕ) → leb (8 * M) (25 * h) ≡ holds (whole 2 times hundredths M at_most sixteenths h)
shear_cleared M h = cleared 1 4 _ _ _ _ (omega arith) (omega arith) (omega arith) (omega arith)

-- one comparison, and two, that all hold
pub one_holds : (x : Bool) → x ≡ (x && true)
one_holds true = refl
one_holds false = refl

pub both_hold : (x y : Bool) → (x && y) ≡ (x && (y && true))
both_hold true true = refl
both_hold true false = refl
both_hold false y = refl
