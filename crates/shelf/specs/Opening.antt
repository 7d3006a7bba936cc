-- What opening a shelf checks, and what a shelf is when it was just opened.
use Rattle.std.specs.Prelude.{◌≡◌, ℕ, ◌<◌, ◌≤◌, ◌⊎◌, List, length, Some, None, Ok, Err, Option, Result}
use Rattle.std.specs.List.{slice_get}
use Rattle.rulebook.specs.Books.{Rules}
use Rattle.shelf.specs.Stock.{Stock, layout, on_hand, out}
use Rattle.shelf.specs.declared.opening.OpeningRefusal.{OpeningRefusal}
use Rattle.shelf.specs.declared.opening.OpeningRefusal.TheVariants.{ItemCount, Item, ShelfNumber}

-- limits of items: the first field outside, or None
abbrev pub Limits : Type 0 → Type 0
Limits I = I → Option ℕ

-- every item lies within the limits
abbrev pub AllWithin : {I : Type 0} → Limits I → List I → Type 0
AllWithin {I} outside items = (k : ℕ) (i : I) → slice_get items k ≡ Some i → outside i ≡ None

-- the item at the place k is the first that lies outside the limits, and the field is its first that does
pub record FirstOutside {I : Type 0} (outside : Limits I) (items : List I) (k field : ℕ) : Type 0 where
  pub item : I
  pub stands : slice_get items k ≡ Some item
  pub fails : outside item ≡ Some field
  pub before : (j : ℕ) → j < k → (i : I) → slice_get items j ≡ Some i → outside i ≡ None

-- a shelf of this number and these items may be opened
pub record Openable {I : Type 0} (outside : Limits I) (number : ℕ) (items : List I) : Type 0 where
  pub numbered : 0 < number
  pub some : 1 ≤ length items
  pub few : length items ≤ 200
  pub within : AllWithin outside items

-- one check of an opening: for this cause it is refused so; else the rest says the result
abbrev pub RefusesOpening : {T : Type 0} → Result T OpeningRefusal → OpeningRefusal → (cause rest : Type 0) → Type 0
RefusesOpening r why cause rest = (cause × (r ≡ Err why)) ⊎ ((cause → ⊥) × rest)

-- whether it may: the shelf number, then how many items there are, then each item
abbrev pub OpeningSays : {I : Type 0} → Limits I → (number : ℕ) → List I → Result (Unit {0}) OpeningRefusal → Type 0
OpeningSays outside number items r =
    RefusesOpening r ShelfNumber (number ≡ 0)
    (RefusesOpening r ItemCount ((length items ≡ 0) ⊎ (200 < length items))
    (((k : ℕ) × (field : ℕ) × FirstOutside outside items k field × (r ≡ Err (Item k field)))
    ⊎ (AllWithin outside items × (r ≡ Ok tt))))

-- a shelf as opened under a book's rules
pub record Opened {I : Type 0} (R : Rules I) (s : Stock I) : Type 0 where
  pub numbered : 0 < s.number
  pub some : 1 ≤ length s.places
  pub few : length s.places ≤ 200
  pub within : AllWithin R.outside (layout s).items
  pub none_on_hand : (k : ℕ) → on_hand s k ≡ 0
  pub none_out : (k : ℕ) → out s k ≡ 0
