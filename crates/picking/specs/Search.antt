-- What the search for the best place answers, and what it keeps as it goes from the front to the last place.
use Rattle.std.specs.Prelude.{◌≡◌, ℕ, ◌<◌, ◌≢◌, List, Some, None, Option}
use Rattle.rulebook.specs.Books.{Rules}
use Rattle.rulebook.specs.declared.case.Case.{Case}
use Rattle.rulebook.specs.declared.size.Size.{Size}
use Rattle.shelf.specs.Choice.{Passes, Serves, Before, NoneServes, Best}
use Rattle.shelf.specs.declared.answer.Place.{Place}
use Rattle.picking.specs.declared.found.Found.{Found}

-- no item on hand passes; or this place is the best
abbrev pub BestSays : {I : Type 0} → Rules I → List I → (hand : ℕ → ℕ) → Case → Option ℕ → Type 0
BestSays R items hand c None = NoneServes R items hand c
BestSays R items hand c (Some k) = Best R items hand c k

-- at a place something is on hand, and it passes
abbrev pub PlaceServes : {I : Type 0} → Rules I → Case → Place I → Type 0
PlaceServes R c p = (0 < p.on_hand) × Passes R p.item c

abbrev pub SizeOf : {I : Type 0} → Rules I → I → Size → Type 0
SizeOf R i size = (size.height ≡ R.height i) × (size.plan_number ≡ R.plan_number i)

-- of the places below n, this is the best
pub record FoundIs {I : Type 0} (R : Rules I) (items : List I) (hand : ℕ → ℕ) (c : Case) (n : ℕ) (found : Found) : Type 0 where
  pub item : I
  pub below : found.place < n
  pub serves : Serves R items hand c found.place item
  pub size : SizeOf R item found.size
  pub first : (k : ℕ) → k < n → (i : I) → k ≢ found.place → Serves R items hand c k i → Before R found.place item k i

abbrev pub FoundBelow : {I : Type 0} → Rules I → List I → (hand : ℕ → ℕ) → Case → (n : ℕ) → Option Found → Type 0
FoundBelow {I} R items hand c n None = (k : ℕ) → k < n → (i : I) → Serves R items hand c k i → ⊥
FoundBelow R items hand c n (Some found) = FoundIs R items hand c n found
