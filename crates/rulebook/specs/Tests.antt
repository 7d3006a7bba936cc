-- A list of tests in their order, and the first that fails.
use Rattle.std.specs.Prelude.{ℕ, ◌+◌, Bool, true, false, ◌&&◌, List, [], ◌∷◌, Some, None, Option, nat_le}
use Rattle.std.specs.Option.{option_map}

-- both ends included
abbrev pub between : ℕ → ℕ → ℕ → Bool
between low x high = nat_le low x && nat_le x high

-- the place of the first test that fails, counted from 1; None where every test passes
abbrev pub first_failing : List Bool → Option ℕ
first_failing [] = None
first_failing (false ∷ tests) = Some 1
first_failing (true ∷ tests) = option_map (λ n. n + 1) (first_failing tests)
