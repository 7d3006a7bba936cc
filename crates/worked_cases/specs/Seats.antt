-- The bearings, pads and cases of the worked cases, in table fields.
use Rattle.std.specs.Prelude.{ℕ}
use Rattle.rulebook.specs.declared.case.Case.{Case}
use Rattle.bearings.specs.declared.bearing.Bearing.{Bearing}
use Rattle.bearings.specs.declared.bearing.Plan.{Plan}
use Rattle.bearings.specs.declared.bearing.Plan.TheVariants.{Rectangle, Circle}
use Rattle.bearings.specs.declared.pad.Pad.{Pad}

-- by plan, n and s; h 8, c 4, G 100, F 36
abbrev pub bearing : Plan → (n s : ℕ) → Bearing
bearing plan n s = record { plan = plan; layers = n; thickness = 8; cover = 4; laminate = s; modulus = 100; strength = 36 }

abbrev pub bearing_A : Bearing
bearing_A = bearing (Rectangle 20 40) 5 8

abbrev pub bearing_C : Bearing
bearing_C = bearing (Circle 32) 5 8

-- bearing A with L 16 and n 18
abbrev pub slender : Bearing
slender = bearing (Rectangle 16 40) 18 8

abbrev pub pad : Pad
pad = record { length = 20; width = 40; thickness = 8; modulus = 100 }

-- PD, PL, M, θx, θz, deck, shear
abbrev pub case : (dead live movement rotation_x rotation_z deck shear : ℕ) → Case
case dead live movement rotation_x rotation_z deck shear = record {
  dead = dead;
  live = live;
  movement = movement;
  rotation_x = rotation_x;
  rotation_z = rotation_z;
  deck = deck;
  shear = shear;
}

abbrev pub case_A : Case
case_A = case 100000 88000 150 155 0 1 1
