-- The greatest and the least number that pass a test.
use Rattle.std.specs.Prelude.{◌≡◌, ℕ, zero, suc, ◌≤◌, Bool, true, cond}

abbrev pub IsGreatest : (ℕ → Bool) → ℕ → Type 0
IsGreatest test n = (test n ≡ true) × ((k : ℕ) → test k ≡ true → k ≤ n)

abbrev pub IsLeast : (ℕ → Bool) → ℕ → Type 0
IsLeast test n = (test n ≡ true) × ((k : ℕ) → test k ≡ true → n ≤ k)

-- the greatest of the numbers from 1 to `limit`; 0 where none of them passes
unfoldable pub greatest : (ℕ → Bool) → (limit : ℕ) → ℕ
greatest test zero = 0
greatest test (suc n) = cond (test (suc n)) (suc n) (greatest test n)
