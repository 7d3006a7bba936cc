-- The lines of an input.
use Rattle.std.specs.Prelude.{ℕ, Bool, cond, not, List, [], ◌∷◌, ◌++◌, ◌==◌}

abbrev pub in_line : ℕ → Bool
in_line b = not (b == 10)

-- what stands behind the last newline is a line too, unless it is empty
abbrev pub last_line : List ℕ → List (List ℕ)
last_line [] = []
last_line (b ∷ bs) = (b ∷ bs) ∷ []

-- the lines of `part ++ bytes`, where `part` has no newline
abbrev pub lines_after : (part bytes : List ℕ) → List (List ℕ)
lines_after part [] = last_line part
lines_after part (b ∷ bs) = cond (in_line b) (lines_after (part ++ (b ∷ [])) bs) (part ∷ lines_after [] bs)

abbrev pub lines_of : List ℕ → List (List ℕ)
lines_of input = lines_after [] input
