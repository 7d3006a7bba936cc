-- What the examples that hold slips do to a shelf.
use Rattle.std.specs.Prelude.{◌≡◌, ℕ, List, ◌∷◌, Ok, Err, Result}
use Rattle.history.specs.Guarantee.{Guarantee}
use Rattle.history.specs.History.{Event, event, Goes}
use Rattle.rulebook.specs.Books.{Rules}
use Rattle.rulebook.specs.declared.case.Case.{Case}
use Rattle.rulebook.specs.declared.refusal.Refusal.{Refusal}
use Rattle.shelf.specs.Answers.{Answer, Right}
use Rattle.shelf.specs.Calls.{Call, picks, orders, returns}
use Rattle.shelf.specs.Opening.{Opened}
use Rattle.shelf.specs.Steps.{Step}
use Rattle.shelf.specs.Stock.{Stock, layout, on_hand, out}
use Rattle.shelf.specs.declared.answer.Granted.TheVariants.{Done, Picked}
use Rattle.slips.specs.Slips.{picked}
use Rattle.slips.specs.declared.slip.Slip.{Slip}
use Rattle.shelf_examples.specs.declared.unended.Unended.{Unended}
use Rattle.shelf_examples.specs.declared.unended.Unended.TheVariants.{NotPicked, NotReturned}

-- a pick that named the place k, and then its order; or a refused pick
abbrev pub Ordered : {I : Type 0} → Rules I → Case → Stock I → Result ℕ Refusal → Stock I → Type 0
Ordered {I} R c s (Ok k) s' = (s₁ : Stock I) × Step s (picks R c) (Ok (Picked s.number k)) s₁ × Step s₁ (orders s.number k) (Ok Done) s'
Ordered R c s (Err why) s' = Step s (picks R c) (Err why) s'

-- the place that a pick names, or its refusal; the shelf stays as it was
abbrev pub Borrowed : {I : Type 0} → Rules I → Case → Stock I → Result ℕ Refusal → Stock I → Type 0
Borrowed R c s (Ok k) s' = Right (layout s) (on_hand s) (out s) (picks R c) (Ok (Picked s.number k)) × (s' ≡ s)
Borrowed R c s (Err why) s' = Right (layout s) (on_hand s) (out s) (picks R c) (Err why) × (s' ≡ s)

-- a pick and the return of its slip; or a refused pick; or a pick, and a refused return that handed its slip back
abbrev pub Returned : {I T : Type 0} → Rules I → Case → Stock I → Result T Unended → Stock I → Type 0
Returned {I} R c s (Ok done) s' =
    (s₁ : Stock I) × (slip : Slip) × Step s (picks R c) (Ok (Picked slip.number slip.place)) s₁ × Step s₁ (returns slip.number slip.place) (Ok Done) s'
Returned R c s (Err (NotPicked why)) s' = Step s (picks R c) (Err why) s'
Returned {I} R c s (Err (NotReturned back)) s' =
    (s₁ : Stock I) × Step s (picks R c) (Ok (Picked back.slip.number back.slip.place)) s₁ × Step s₁ (returns back.slip.number back.slip.place) (Err back.why) s'

-- two picks, one after the other
abbrev pub TwoPicks : {I : Type 0} → Rules I → Case → Stock I → (first second : Result Slip Refusal) → Stock I → Type 0
TwoPicks {I} R c s first second s' = (s₁ : Stock I) × Step s (picks R c) (picked first) s₁ × Step s₁ (picks R c) (picked second) s'

-- the guarantee of two calls that were made one after the other, behind whatever history since an opening led to them
abbrev pub GuaranteedTogether : {I : Type 0} → Stock I → (first : Call I) (said : Answer I) (second : Call I) (said₂ : Answer I) → Stock I → Type 0
GuaranteedTogether {I} s first said second said₂ s' =
    (book : Rules I) (opened : Stock I) (past : List (Event I)) → Opened book opened → Goes opened past s → Guarantee opened (event second said₂ ∷ event first said ∷ past) s'
