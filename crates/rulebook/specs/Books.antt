-- What a rule book means, for items of any kind.
use Rattle.std.specs.Prelude.{ℕ, Bool, true, false, cond, ◌&&◌, List, [], ◌∷◌, Some, None, Ok, Err, Option, Result}
use Rattle.rulebook.specs.declared.case.Case.{Case}
use Rattle.rulebook.specs.declared.refusal.Refusal.{Refusal}
use Rattle.rulebook.specs.declared.refusal.Refusal.TheVariants.{Item, Loads, Rest}
use Rattle.rulebook.specs.declared.size.Size.{Size}
use Rattle.rulebook.specs.declared.verdict.Verdict.{Verdict}
use Rattle.rulebook.specs.Cases.{loads_within, rest_within}
use Rattle.rulebook.specs.Tests.{first_failing}
use Rattle.rulebook.specs.Verdicts.{verdict_by}

pub record Rules (I : Type 0) : Type 0 where
  -- how many articles the book has
  pub count : ℕ
  -- the first field of an item outside its limits, counted from 1; None where the item lies within them
  pub outside : I → Option ℕ
  -- whether a case's loads, and whether the rest of it, lie within the limits
  pub loads : Case → Bool
  pub rest : Case → Bool
  -- whether each article holds, in their order; it speaks of items and cases within the limits
  pub articles : I → Case → List Bool
  -- of an item within the limits: its height, in the book's unit of height, and its plan number, which grows with its area
  pub height : I → ℕ
  pub plan_number : I → ℕ

abbrev pub within : Option ℕ → Bool
within None = true
within (Some field) = false

-- the refusal of an item outside its limits
abbrev pub item_refusal : Option ℕ → Option Refusal
item_refusal (Some field) = Some (Item field)
item_refusal None = None

-- the first refusal that applies: the item, then the loads, then the rest of the case
abbrev pub refusal : Option ℕ → (loads rest : Bool) → Option Refusal
refusal (Some field) loads rest = Some (Item field)
refusal None loads rest = cond loads (cond rest None (Some Rest)) (Some Loads)

-- the same, by the limits of a case
abbrev pub refusal_of : Option ℕ → Case → Option Refusal
refusal_of outside c = refusal outside (loads_within c) (rest_within c)

-- an answer, unless it is refused
abbrev pub answered : {A : Type 0} → Option Refusal → A → Result A Refusal
answered (Some why) answer = Err why
answered None answer = Ok answer

-- the first article that does not hold decides
abbrev pub verdict_of : {I : Type 0} → Rules I → I → Case → Result Verdict Refusal
verdict_of R i c = answered (refusal (R.outside i) (R.loads c) (R.rest c)) (verdict_by (first_failing (R.articles i c)))

abbrev pub size_of : {I : Type 0} → Rules I → I → Result Size Refusal
size_of R i = answered (item_refusal (R.outside i)) (record { height = R.height i; plan_number = R.plan_number i })

abbrev pub height_of : {I : Type 0} → Rules I → I → Result ℕ Refusal
height_of R i = answered (item_refusal (R.outside i)) (R.height i)

abbrev pub plan_number_of : {I : Type 0} → Rules I → I → Result ℕ Refusal
plan_number_of R i = answered (item_refusal (R.outside i)) (R.plan_number i)

abbrev pub every : List Bool → Bool
every [] = true
every (test ∷ tests) = test && every tests

-- an item passes under a case: both lie within the limits, and every article holds
abbrev pub passes : {I : Type 0} → Rules I → I → Case → Bool
passes R i c = within (R.outside i) && (R.loads c && (R.rest c && every (R.articles i c)))
