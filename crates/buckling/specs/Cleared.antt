-- What the code computes on the way: the terms as quotients with common factors taken out, and how large these are.
use Rattle.std.specs.Prelude.{ℕ, ◌*◌, ◌≤◌, cond, ◌==◌}
use Rattle.rulebook.specs.declared.case.Case.{Case}
use Rattle.bearings.specs.Forms.{fraction}
use Rattle.bearings.specs.Fractions.{◌over◌, ◌per◌, ◌same_as◌}
use Rattle.bearings.specs.declared.bearing.Bearing.{Bearing}
use Rattle.buckling.specs.Terms.{lesser_side, greater_side, X₀, Y, X', Y'}
use Rattle.buckling.specs.declared.parts.Parts.{Parts}
use Rattle.buckling.specs.declared.parts.WholeTerms.{WholeTerms}

-- the deck's factor, 3.84 or 1.92, in units of 0.64
abbrev pub deck_units : Case → ℕ
deck_units c = cond (c.deck == 1) 6 3

pub record PartsOf (b : Bearing) (c : Case) (q : Parts) : Type 0 where
  pub first_is : fraction q.first same_as X₀ b c
  pub second_is : fraction q.second same_as Y b
  pub sides_are : (q.lesser over q.greater) same_as (lesser_side b.plan per greater_side b.plan)

-- what keeps every product within 64 bits
pub record SmallParts (q : Parts) : Type 0 where
  pub first_top : q.first.top ≤ 5253120
  pub first_low : 1 ≤ q.first.bottom
  pub first_high : q.first.bottom ≤ 25600000
  pub first_ratio : q.first.top ≤ 300 * q.first.bottom
  pub second_top : q.second.top ≤ 1749811200
  pub second_low : 1 ≤ q.second.bottom
  pub second_high : q.second.bottom ≤ 98304000000
  pub second_ratio : q.second.top ≤ 300 * q.second.bottom
  pub lesser_low : 1 ≤ q.lesser
  pub ordered : q.lesser ≤ q.greater
  pub greater_high : q.greater ≤ 80

abbrev pub whole_terms : Bearing → Case → WholeTerms
whole_terms b c = record { first = X' b c; second = Y' b }
