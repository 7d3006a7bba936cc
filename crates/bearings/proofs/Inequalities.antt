-- The inequalities that the limits give.
use Rattle.std.proofs.Common.{◌≡◌, ◌*◌, ◌≤◌, Bool, true, leb, List, ◌∷◌, ◌++◌, None}
use Rattle.std.proofs.lemmas.Bool.{and_parts, leb-true}
use Rattle.rulebook.proofs.Passing.{between_ends, none_fails}
use Rattle.rulebook.specs.Cases.{load, loads_within, rest_within}
use Rattle.rulebook.specs.Tests.{between, first_failing}
use Rattle.rulebook.specs.declared.case.Case.{Case}
use Rattle.bearings.specs.Bounds.{Range, SidesWithin}
use Rattle.bearings.specs.Limits.{side, sides, lamination, bearing_outside, pad_outside}
use Rattle.bearings.specs.declared.bearing.Bearing.{Bearing}
use Rattle.bearings.specs.declared.bearing.Plan.{Plan}
use Rattle.bearings.specs.declared.bearing.Plan.TheVariants.{Rectangle, Circle}
use Rattle.bearings.specs.declared.pad.Pad.{Pad}

pub sides_then : (plan : Plan) (more : List Bool) → first_failing (sides plan ++ more) ≡ None → SidesWithin plan × (first_failing more ≡ None)
sides_then (Rectangle l w) more h =
    let first = none_fails (side l) (side w ∷ more) h in
    let second = none_fails (side w) more first.1 in
    let length = between_ends 8 l 80 first.0 in
    let width = between_ends 8 w 80 second.0 in
    ((length, width), second.1)
sides_then (Circle d) more h =
    let first = none_fails (side d) more h in (between_ends 8 d 80 first.0, first.1)

pub record LaminationWithin (b : Bearing) : Type 0 where
  pub layers : Range 1 b.layers 20
  pub thickness : Range 4 b.thickness 16
  pub cover : Range 1 b.cover 11
  pub laminate : Range 1 b.laminate 32
  pub modulus : Range 80 b.modulus 180
  pub strength : Range 30 b.strength 100

pub lamination_within : (b : Bearing) → first_failing (lamination b) ≡ None → LaminationWithin b
lamination_within b h =
    let layers = none_fails _ _ h in
    let thickness = none_fails _ _ layers.1 in
    let cover = none_fails _ _ thickness.1 in
    let laminate = none_fails _ _ cover.1 in
    let modulus = none_fails _ _ laminate.1 in
    let strength = none_fails _ _ modulus.1 in
    record {
      layers = between_ends 1 b.layers 20 layers.0;
      thickness = between_ends 4 b.thickness 16 thickness.0;
      cover = between_ends 1 b.cover 11 (and_parts (between 1 b.cover 11) (leb (10 * b.cover) (7 * b.thickness)) cover.0).0;
      laminate = between_ends 1 b.laminate 32 laminate.0;
      modulus = between_ends 80 b.modulus 180 modulus.0;
      strength = between_ends 30 b.strength 100 strength.0;
    }

pub record BearingWithin (b : Bearing) : Type 0 where
  pub sides_so : SidesWithin b.plan
  pub lamination_so : LaminationWithin b

pub bearing_within : (b : Bearing) → bearing_outside b ≡ None → BearingWithin b
bearing_within b h =
    let both = sides_then b.plan (lamination b) h in
    record { sides_so = both.0; lamination_so = lamination_within b both.1 }

pub record PadWithin (p : Pad) : Type 0 where
  pub sides_so : SidesWithin (Rectangle p.length p.width)
  pub thickness_so : Range 4 p.thickness 48
  pub modulus_so : Range 80 p.modulus 180

pub pad_within : (p : Pad) → pad_outside p ≡ None → PadWithin p
pad_within p h =
    let both = sides_then (Rectangle p.length p.width) _ h in
    let thickness = none_fails _ _ both.1 in
    let modulus = none_fails _ _ thickness.1 in
    record {
      sides_so = both.0;
      thickness_so = between_ends 4 p.thickness 48 thickness.0;
      modulus_so = between_ends 80 p.modulus 180 modulus.0;
    }

pub record CaseWithin (c : Case) : Type 0 where
  pub load_high : load c ≤ 2000000
  pub movement_high : c.movement ≤ 2000
  pub rotations_high : (c.rotation_x ≤ 500) × (c.rotation_z ≤ 500)
  pub marks_high : (c.deck ≤ 1) × (c.shear ≤ 1)

pub case_within : (c : Case) → loads_within c ≡ true → rest_within c ≡ true → CaseWithin c
case_within c loads rest =
    let shear = and_parts _ _ rest in
    let deck = and_parts _ _ shear.0 in
    let z = and_parts _ _ deck.0 in
    let x = and_parts _ _ z.0 in
    record {
      load_high = leb-true (load c) 2000000 loads;
      movement_high = (between_ends 0 c.movement 2000 x.0).1;
      rotations_high = ((between_ends 0 c.rotation_x 500 x.1).1, (between_ends 0 c.rotation_z 500 z.1).1);
      marks_high = ((between_ends 0 c.deck 1 deck.1).1, (between_ends 0 c.shear 1 shear.1).1);
    }
