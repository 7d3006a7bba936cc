-- The texts of items and answers.
use Rattle.std.specs.Prelude.{ℕ, List, ◌++◌, Ok, Err, codes, decimal}
use Rattle.bearings.specs.declared.bearing.Bearing.{Bearing}
use Rattle.bearings.specs.declared.bearing.Plan.{Plan}
use Rattle.bearings.specs.declared.bearing.Plan.TheVariants.{Rectangle, Circle}
use Rattle.bearings.specs.declared.pad.Pad.{Pad}
use Rattle.rulebook.specs.Refusals.{refusal_text}
use Rattle.shelf.specs.Answers.{Answer}
use Rattle.shelf.specs.declared.answer.Granted.{Granted}
use Rattle.shelf.specs.declared.answer.Granted.TheVariants.{Done, Picked, Shown, Counted}
use Rattle.shelf.specs.declared.answer.Places.{Places}
use Rattle.judge_lines.specs.declared.judgement.Item.{Item}
use Rattle.judge_lines.specs.declared.judgement.Item.TheVariants as item

-- n h c s G F
abbrev pub lamination_text : Bearing → List ℕ
lamination_text b =
    decimal b.layers ++ (codes " " ++ (decimal b.thickness
    ++ (codes " " ++ (decimal b.cover
    ++ (codes " " ++ (decimal b.laminate
    ++ (codes " " ++ (decimal b.modulus
    ++ (codes " " ++ decimal b.strength)))))))))

abbrev pub bearing_text : Plan → Bearing → List ℕ
bearing_text (Rectangle length width) b = codes "R " ++ (decimal length ++ (codes " " ++ (decimal width ++ (codes " " ++ lamination_text b))))
bearing_text (Circle diameter) b = codes "C " ++ (decimal diameter ++ (codes " " ++ lamination_text b))

-- L W h G
abbrev pub pad_text : Pad → List ℕ
pad_text p =
    codes "P " ++ (decimal p.length
    ++ (codes " " ++ (decimal p.width
    ++ (codes " " ++ (decimal p.thickness
    ++ (codes " " ++ decimal p.modulus))))))

-- an item as its line writes it
abbrev pub item_text : Item → List ℕ
item_text (item.Bearing b) = bearing_text b.plan b
item_text (item.Pad p) = pad_text p

-- what is granted, where `written` is the item that a line can write
abbrev pub granted_text : {I : Type 0} → (written : I → Item) → Granted I → List ℕ
granted_text written Done = codes "done"
granted_text written (Picked number place) = codes "slip: shelf " ++ (decimal number ++ (codes ", place " ++ decimal place))
granted_text written (Shown place) =
    codes "place: " ++ (item_text (written place.item)
    ++ (codes ", on hand " ++ (decimal place.on_hand
    ++ (codes ", out " ++ decimal place.out))))
granted_text written (Counted number count) = codes "places: " ++ (decimal count ++ (codes ", shelf " ++ decimal number))

abbrev pub answer_text : {I : Type 0} → (written : I → Item) → Answer I → List ℕ
answer_text written (Ok granted) = granted_text written granted
answer_text written (Err why) = refusal_text why

abbrev pub opened_text : Places → List ℕ
opened_text places = codes "opened: shelf " ++ (decimal places.number ++ (codes ", " ++ (decimal places.count ++ codes " places")))

abbrev pub answer_line : {I : Type 0} → (written : I → Item) → Answer I → List ℕ
answer_line written answer = answer_text written answer ++ codes "\n"
