-- Which place serves a case best, by the items of the places and a count on hand for each.
use Rattle.std.specs.Prelude.{◌≡◌, ℕ, ◌<◌, true, ◌≢◌, ◌⊎◌, List, Some}
use Rattle.std.specs.List.{slice_get}
use Rattle.rulebook.specs.Books.{Rules, verdict_of}
use Rattle.rulebook.specs.Verdicts.{numbered_0}
use Rattle.rulebook.specs.declared.case.Case.{Case}

-- the book's verdict on the item under the case is 0
abbrev pub Passes : {I : Type 0} → Rules I → I → Case → Type 0
Passes R i c = numbered_0 (verdict_of R i c) ≡ true

-- at the place k an item i is on hand that passes
pub record Serves {I : Type 0} (R : Rules I) (items : List I) (hand : ℕ → ℕ) (c : Case) (k : ℕ) (i : I) : Type 0 where
  pub stands : slice_get items k ≡ Some i
  pub passing : Passes R i c
  pub some : 0 < hand k

-- the item i at the place k is lower than i' at k'; or as high and smaller in plan number; or alike in both and nearer to the front
abbrev pub Before : {I : Type 0} → Rules I → (k : ℕ) (i : I) (k' : ℕ) (i' : I) → Type 0
Before R k i k' i' =
    (R.height i < R.height i')
    ⊎ (((R.height i ≡ R.height i') × (R.plan_number i < R.plan_number i'))
    ⊎ ((R.height i ≡ R.height i') × (R.plan_number i ≡ R.plan_number i') × (k < k')))

-- no item on hand passes
abbrev pub NoneServes : {I : Type 0} → Rules I → List I → (ℕ → ℕ) → Case → Type 0
NoneServes {I} R items hand c = (k : ℕ) (i : I) → Serves R items hand c k i → ⊥

-- at the place k an item serves, and it comes before the item of every other place that serves
pub record Best {I : Type 0} (R : Rules I) (items : List I) (hand : ℕ → ℕ) (c : Case) (k : ℕ) : Type 0 where
  pub item : I
  pub serves : Serves R items hand c k item
  pub first : (k' : ℕ) (i' : I) → k' ≢ k → Serves R items hand c k' i' → Before R k item k' i'
