-- The numbers and texts of the refusals of an opening.
use Rattle.std.specs.Prelude.{ℕ, List, ◌++◌, codes, decimal}
use Rattle.shelf.specs.declared.opening.OpeningRefusal.{OpeningRefusal}
use Rattle.shelf.specs.declared.opening.OpeningRefusal.TheVariants.{ItemCount, Item, ShelfNumber}

abbrev pub opening_number : OpeningRefusal → ℕ
opening_number ItemCount = 1
opening_number (Item place field) = 2
opening_number ShelfNumber = 3

abbrev pub opening_reason : OpeningRefusal → List ℕ
opening_reason ItemCount = codes "no item, or more than 200"
opening_reason (Item place field) =
    codes "field " ++ (decimal field ++ (codes " of the item at place " ++ (decimal place ++ codes " is outside its limits")))
opening_reason ShelfNumber = codes "the shelf number is 0"

-- the text of a refusal: its number, and the reason
abbrev pub opening_text : OpeningRefusal → List ℕ
opening_text why = codes "refused " ++ (decimal (opening_number why) ++ (codes ": " ++ opening_reason why))
