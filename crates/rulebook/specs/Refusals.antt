-- The refusals' numbers and texts.
use Rattle.std.specs.Prelude.{ℕ, List, ◌++◌, codes, decimal}
use Rattle.rulebook.specs.declared.refusal.Refusal.{Refusal}
use Rattle.rulebook.specs.declared.refusal.Refusal.TheVariants.{Item, OffShelf, Receipt, Loads, Rest, NoneOnHand, OtherShelf, NoneOut}

abbrev pub number_of : Refusal → ℕ
number_of (Item field) = 2
number_of OffShelf = 4
number_of Receipt = 5
number_of Loads = 6
number_of Rest = 7
number_of NoneOnHand = 8
number_of OtherShelf = 9
number_of NoneOut = 10

abbrev pub reason_text : Refusal → List ℕ
reason_text (Item field) = codes "field " ++ (decimal field ++ codes " of the item is outside its limits")
reason_text OffShelf = codes "the place is off the shelf"
reason_text Receipt = codes "a receipt of 0, or one above 60000 at its place"
reason_text Loads = codes "the loads are outside their limit"
reason_text Rest = codes "movement, rotation or mark is outside its range"
reason_text NoneOnHand = codes "no item on hand passes"
reason_text OtherShelf = codes "the slip is of another shelf"
reason_text NoneOut = codes "the place is off the shelf or has none out"

-- the text of a refusal: its number, and the reason
abbrev pub refusal_text : Refusal → List ℕ
refusal_text why = codes "refused " ++ (decimal (number_of why) ++ (codes ": " ++ reason_text why))
