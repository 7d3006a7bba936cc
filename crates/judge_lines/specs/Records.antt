-- What a line asks for: the kind, the item's fields and the case's fields, a word each.
use Rattle.std.specs.Prelude.{ℕ, cond, List, [], ◌∷◌, Ok, Err, Result, ◌==◌}
use Rattle.bearings.specs.declared.bearing.Bearing.{Bearing}
use Rattle.bearings.specs.declared.bearing.Plan.{Plan}
use Rattle.bearings.specs.declared.bearing.Plan.TheVariants as plan
use Rattle.bearings.specs.declared.pad.Pad.{Pad}
use Rattle.rulebook.specs.declared.case.Case.{Case}
use Rattle.judge_lines.specs.declared.fault.LineFault.{LineFault}
use Rattle.judge_lines.specs.declared.fault.WordFault.{WordFault}
use Rattle.judge_lines.specs.declared.fault.WordFault.TheVariants.{NoKind}
use Rattle.judge_lines.specs.declared.judgement.Item.{Item}
use Rattle.judge_lines.specs.declared.judgement.Item.TheVariants as item
use Rattle.judge_lines.specs.declared.judgement.Judgement.{Judgement}
use Rattle.judge_lines.specs.declared.judgement.Kind.{Kind}
use Rattle.judge_lines.specs.declared.judgement.Kind.TheVariants as is
use Rattle.judge_lines.specs.Readings.{Outcome, Reading, done, ◌then◌, next, byte, short, long, end}
use Rattle.judge_lines.specs.Words.{words}

-- R, C or P, and nothing else
abbrev pub kind_in : List ℕ → Result Kind WordFault
kind_in [] = Err NoKind
kind_in (b ∷ []) = cond (b == 82) (Ok is.Rectangle) (cond (b == 67) (Ok is.Circle) (cond (b == 80) (Ok is.Pad) (Err NoKind)))
kind_in (b ∷ c ∷ bs) = Err NoKind

abbrev pub kind : Reading Kind
kind = next kind_in

-- L W
abbrev pub rectangle : Reading Plan
rectangle = byte then λ length. byte then λ width. done (plan.Rectangle length width)

-- D
abbrev pub circle : Reading Plan
circle = byte then λ diameter. done (plan.Circle diameter)

-- n h c s G F
abbrev pub lamination : Plan → Reading Bearing
lamination plan =
    byte then λ layers.
    byte then λ thickness.
    byte then λ cover.
    byte then λ laminate.
    byte then λ modulus.
    byte then λ strength.
    done (record {
      plan = plan;
      layers = layers;
      thickness = thickness;
      cover = cover;
      laminate = laminate;
      modulus = modulus;
      strength = strength;
    })

-- L W h G
abbrev pub pad : Reading Pad
pad =
    byte then λ length.
    byte then λ width.
    byte then λ thickness.
    byte then λ modulus.
    done (record { length = length; width = width; thickness = thickness; modulus = modulus })

abbrev pub item_of : Kind → Reading Item
item_of is.Rectangle = rectangle then λ plan. lamination plan then λ bearing. done (item.Bearing bearing)
item_of is.Circle = circle then λ plan. lamination plan then λ bearing. done (item.Bearing bearing)
item_of is.Pad = pad then λ p. done (item.Pad p)

-- PD PL M thetax thetaz deck shear
abbrev pub case : Reading Case
case =
    long then λ dead.
    long then λ live.
    short then λ movement.
    short then λ rotation_x.
    short then λ rotation_z.
    byte then λ deck.
    byte then λ shear.
    done (record {
      dead = dead;
      live = live;
      movement = movement;
      rotation_x = rotation_x;
      rotation_z = rotation_z;
      deck = deck;
      shear = shear;
    })

abbrev pub judgement : Reading Judgement
judgement =
    kind then λ k.
    item_of k then λ i.
    case then λ c.
    end then λ _.
    done (record { item = i; case = c })

abbrev pub result_of : {X : Type 0} → Outcome X → Result X LineFault
result_of (Ok read) = Ok read.0
result_of (Err fault) = Err fault

-- for every line: its judgement, or its first fault
abbrev pub judgement_of : List ℕ → Result Judgement LineFault
judgement_of line = result_of (judgement (record { place = 1; left = words line }))
