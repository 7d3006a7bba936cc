-- The limits of a case.
use Rattle.std.specs.Prelude.{ℕ, ◌+◌, Bool, ◌&&◌, nat_le}
use Rattle.rulebook.specs.Tests.{between}
use Rattle.rulebook.specs.declared.case.Case.{Case}

-- the whole load, pounds
abbrev pub load : Case → ℕ
load c = c.dead + c.live

abbrev pub loads_within : Case → Bool
loads_within c = nat_le (load c) 2000000

-- hundredths of an inch, ten-thousandths of a radian, marks
abbrev pub rest_within : Case → Bool
rest_within c =
    between 0 c.movement 2000
    && between 0 c.rotation_x 500
    && between 0 c.rotation_z 500
    && between 0 c.deck 1
    && between 0 c.shear 1
