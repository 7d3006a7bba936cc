-- The layers of a bearing within its limits, and the same bearing with fewer layers.
use Rattle.std.proofs.Common.{◌≡◌, ℕ, ◌≤◌, Bool, true, leb, List, [], ◌∷◌, ◌++◌, None, arith}
use Rattle.std.proofs.lemmas.Bool.{and_from, le-leb}
use Rattle.bearings.specs.Limits.{sides, bearing_outside}
use Rattle.bearings.specs.declared.bearing.Bearing.{Bearing}
use Rattle.rulebook.proofs.Passing.{between_ends, none_fails}
use Rattle.rulebook.specs.Tests.{between, first_failing}
use Rattle.range_shelf.specs.Range.{layered}

module _ (test : Bool) (rest : List Bool) where
  -- where no test fails, the one behind some others passes
  passes_behind : (before : List Bool) → first_failing (before ++ (test ∷ rest)) ≡ None → test ≡ true
  passes_behind [] none = (none_fails test rest none).0
  passes_behind (first ∷ before) none = passes_behind before (none_fails first (before ++ (test ∷ rest)) none).1

  -- and it may be exchanged for another that passes
  exchanged : (new : Bool) → new ≡ true → (before : List Bool) → first_failing (before ++ (test ∷ rest)) ≡ None → first_failing (before ++ (new ∷ rest)) ≡ None
  exchanged new is [] none = rw (is, (none_fails test rest none).1)
  exchanged new is (first ∷ before) none =
      let parts = none_fails first (before ++ (test ∷ rest)) none in rw (parts.0, exchanged new is before parts.1)

module _ (b : Bearing) (within : bearing_outside b ≡ None) where
  pub layers_ends : (1 ≤ b.layers) × (b.layers ≤ 20)
  layers_ends = between_ends 1 b.layers 20 (passes_behind _ _ (sides b.plan) within)

  pub fewer_within : (n : ℕ) → 1 ≤ n → n ≤ b.layers → bearing_outside (layered b n) ≡ None
  fewer_within n low high =
      let ends = layers_ends in
      let passes : between 1 n 20 ≡ true = and_from (leb 1 n) (leb n 20) (le-leb 1 n low) (le-leb n 20 (omega arith)) in
      exchanged _ _ (between 1 n 20) passes (sides b.plan) within
