-- A fraction rounds alike however it is written.
use Rattle.std.proofs.Common.{◌≡◌, ℕ, ◌+◌, ◌*◌, ◌/◌, ◌%◌, ◌<◌, ◌≤◌, min, inl, inr, mul-le-mul_right, lt_of_mul-lt-mul_right, mul-lt-mul_of_pos_right, div-mul-le_self, le_of_mul-le-mul_right, arith}
use Rattle.std.proofs.lemmas.Bool.{cases_lt}

abbrev pub up : ℕ → ℕ → ℕ
up a b = a / b + min 1 (a % b)

pub up_low : (a b : ℕ) → 0 < b → a ≤ up a b * b
up_low a b h =
    elim (cases_lt 0 (a % b)) [
      | inl some ↦ let one : 1 ≤ min 1 (a % b) = omega arith in omega (arith, mul-le-mul_right b one)
      | inr none ↦ omega arith
    ]

pub up_high : (a b : ℕ) → 0 < b → up a b * b < a + b
up_high a b h =
    elim (cases_lt 0 (a % b)) [
      | inl some ↦ let one : min 1 (a % b) ≤ 1 = omega arith in omega (arith, mul-le-mul_right b one)
      | inr none ↦ let one : min 1 (a % b) ≤ 0 = omega arith in omega (arith, mul-le-mul_right b one)
    ]

pub down_high : (a b : ℕ) → 0 < b → a < (a / b + 1) * b
down_high a b h = omega arith

-- rounded up, the least that reaches; rounded down, the greatest that fits
pub up_least : (a b k : ℕ) → 0 < b → a ≤ k * b → up a b ≤ k
up_least a b k h so =
    let below : up a b < k + 1 = lt_of_mul-lt-mul_right b (let m : up a b * b < (k + 1) * b = omega (arith, up_high a b h) in m) in
    omega (arith, below)

pub down_greatest : (a b k : ℕ) → 0 < b → k * b ≤ a → k ≤ a / b
down_greatest a b k h so =
    let below : k < a / b + 1 = lt_of_mul-lt-mul_right b (let m : k * b < (a / b + 1) * b = omega (arith, down_high a b h) in m) in
    omega (arith, below)

-- the one number between these
only : (b x y : ℕ) (a : ℕ) → a ≤ x * b → x * b < a + b → a ≤ y * b → y * b < a + b → x ≡ y
only b x y a xl xh yl yh =
    let first : x < y + 1 = lt_of_mul-lt-mul_right b (let k : x * b < (y + 1) * b = omega arith in k) in
    let second : y < x + 1 = lt_of_mul-lt-mul_right b (let k : y * b < (x + 1) * b = omega arith in k) in
    omega (arith, first, second)

only_below : (b x y : ℕ) (a : ℕ) → x * b ≤ a → a < (x + 1) * b → y * b ≤ a → a < (y + 1) * b → x ≡ y
only_below b x y a xl xh yl yh =
    let first : x < y + 1 = lt_of_mul-lt-mul_right b (let k : x * b < (y + 1) * b = omega arith in k) in
    let second : y < x + 1 = lt_of_mul-lt-mul_right b (let k : y * b < (x + 1) * b = omega arith in k) in
    omega (arith, first, second)

pub same_up : (a b c d : ℕ) → 0 < b → 0 < d → a * d ≡ c * b → up a b ≡ up c d
same_up a b c d bp dp e =
    let l = mul-le-mul_right b (up_low c d dp) in
    let h = mul-lt-mul_of_pos_right (up_high c d dp) bp in
    only b (up a b) (up c d) a (up_low a b bp) (up_high a b bp)
    (le_of_mul-le-mul_right (let k : a * d ≤ up c d * b * d = omega arith in k) dp)
    (lt_of_mul-lt-mul_right d (let k : up c d * b * d < (a + b) * d = omega arith in k))

pub same_down : (a b c d : ℕ) → 0 < b → 0 < d → a * d ≡ c * b → a / b ≡ c / d
same_down a b c d bp dp e =
    let l = mul-le-mul_right b (div-mul-le_self c d) in
    let h = mul-lt-mul_of_pos_right (down_high c d dp) bp in
    only_below b (a / b) (c / d) a (div-mul-le_self a b) (down_high a b bp)
    (le_of_mul-le-mul_right (let k : c / d * b * d ≤ a * d = omega arith in k) dp)
    (lt_of_mul-lt-mul_right d (let k : a * d < (c / d + 1) * b * d = omega arith in k))
