-- The steps of the two lemmas that are not linear, over plain numbers: p for the load's part of the stress, x/e for the first term without its
-- root, y/f for the second, g for the modulus, s/m for what stands under the root, r for its root in thousandths, first and second for the terms
-- as whole millionths.
use Rattle.std.proofs.Common.{ℕ, ◌+◌, ◌*◌, ◌<◌, ◌≤◌, inl, inr, mul-le-mul_right, mul-le-mul, mul-le-mul_left, mul-pos, le_of_mul-le-mul_right, arith}
use Rattle.std.proofs.lemmas.Bool.{cases_lt}

module _ (p x e y f g r first second : ℕ) where
  -- what the rounded terms give of the exact ones
  rounded_gives : 1000000000 * x ≤ first * (e * r) → second * f ≤ 1000000 * y → p * first ≤ 1000000 * g + p * second
      → 1000 * (p * x * f) ≤ (e * (g * f + p * y)) * r
  rounded_gives up down found =
      omega (arith, mul-le-mul_left (p * f) up, mul-le-mul_left (e * r * f) found, mul-le-mul_left (p * e * r) down)

  -- and back, from a root one thousandth larger and a first term one fiftieth larger
  rounded_from : 0 < e → 0 < f → 1000 ≤ r → 2002 * (e * r) ≤ 19000000000 * x
      → first * (e * r) ≤ 1000000000 * x + e * r → 1000000 * y ≤ (second + 1) * f
      → 1020 * (p * x * f) ≤ (e * (g * f + p * y)) * (r + 1)
      → p * first ≤ 1000000 * g + p * second
  rounded_from ep fp root_low large up down exact =
      let root_pos : 0 < r = omega arith in
      let scaled : p * first * (e * r * f) ≤ (1000000 * g + p * second) * (e * r * f) =
      omega (
        arith,
        mul-le-mul_left (p * f) up,
        mul-le-mul_left (p * (e * r)) down,
        mul-le-mul_left (e * (g * f + p * y)) root_low,
        mul-le-mul_left (p * f) large,
      ) in
      le_of_mul-le-mul_right scaled (mul-pos (mul-pos ep root_pos) fp)

squares : (u v r m s : ℕ) → 1000 * u ≤ v * r → r * r * m ≤ 1000000 * s → u * u * m ≤ v * v * s
squares u v r m s h fits = omega (arith, mul-le-mul_right m (mul-le-mul h h), mul-le-mul_left (v * v) fits)

from_squares : (a b : ℕ) → a * a ≤ b * b → a ≤ b
from_squares a b h = elim (cases_lt b a) [ inr so ↦ so | inl more ↦ omega (arith, mul-le-mul more more) ]

unsquared : (u v r m s : ℕ) → 51 * u * (51 * u) * m ≤ 50 * v * (50 * v) * s → 1000000 * s < (r + 1) * (r + 1) * m → 1020 * u ≤ v * (r + 1)
unsquared u v r m s h next =
    let pos : 0 < m = elim (cases_lt 0 m) [ inl so ↦ so | inr none ↦ omega (arith, mul-le-mul_left ((r + 1) * (r + 1)) none) ] in
    let scaled : 1000 * (51 * u) * (1000 * (51 * u)) * m ≤ 50 * v * (r + 1) * (50 * v * (r + 1)) * m =
    omega (arith, mul-le-mul_left (50 * v * (50 * v)) next) in
    let rooted : 1000 * (51 * u) ≤ 50 * v * (r + 1) = from_squares _ _ (le_of_mul-le-mul_right scaled pos) in
    omega arith

module _ (p x e y f g r m s first second : ℕ) where
  pub exact_from_found : 1000000000 * x ≤ first * (e * r) → second * f ≤ 1000000 * y → r * r * m ≤ 1000000 * s
      → p * first ≤ 1000000 * g + p * second
      → p * x * f * (p * x * f) * m ≤ e * (g * f + p * y) * (e * (g * f + p * y)) * s
  exact_from_found up down fits found =
      squares (p * x * f) (e * (g * f + p * y)) r m s (rounded_gives p x e y f g r first second up down found) fits

  pub found_from_exact : 0 < e → 0 < f → 1000 ≤ r → 2002 * (e * r) ≤ 19000000000 * x
      → first * (e * r) ≤ 1000000000 * x + e * r → 1000000 * y ≤ (second + 1) * f → 1000000 * s < (r + 1) * (r + 1) * m
      → 51 * (p * x * f) * (51 * (p * x * f)) * m ≤ 50 * (e * (g * f + p * y)) * (50 * (e * (g * f + p * y))) * s
      → p * first ≤ 1000000 * g + p * second
  found_from_exact ep fp root_low large up down next exact =
      rounded_from p x e y f g r first second ep fp root_low large up down
      (unsquared (p * x * f) (e * (g * f + p * y)) r m s exact next)
