-- A pick and the end of its slip, with the numbers of the shelf and of the place.
use Rattle.std.proofs.Common.{◌≡◌, ℕ, [], ◌∷◌, Ok, sym, refl, subst₂}
use Rattle.history.proofs.Runs.{guaranteed}
use Rattle.history.specs.History.{event}
use Rattle.rulebook.specs.Books.{Rules}
use Rattle.rulebook.specs.declared.case.Case.{Case}
use Rattle.shelf.proofs.Named.{named}
use Rattle.shelf.specs.Answers.{Answer, Right}
use Rattle.shelf.specs.Calls.{Call, picks, orders, returns}
use Rattle.shelf.specs.Steps.{Step}
use Rattle.shelf.specs.Stock.{Stock, layout, on_hand, out}
use Rattle.shelf.specs.declared.answer.Granted.TheVariants.{Done, Picked}
use Rattle.shelf_examples.specs.Holding.{GuaranteedTogether}
use Rattle.slips.proofs.Ending.{returned_as_was}

module _ {I : Type 0} (R : Rules I) (c : Case) (s s₁ s₂ : Stock I) (number k place : ℕ) (same : place ≡ k) (step : Step s (picks R c) (Ok (Picked number k)) s₁) where
  own : number ≡ s.number
  own = (named (layout s) (on_hand s) (out s) R c number k step.right).own

  picked_so : Step s (picks R c) (Ok (Picked s.number place)) s₁
  picked_so = subst₂ (λ (n p : ℕ). Step s (picks R c) (Ok (Picked n p)) s₁) own (sym same) step

  pub ordered_so : Step s₁ (orders number k) (Ok Done) s₂ → (x : Stock I) × Step s (picks R c) (Ok (Picked s.number place)) x × Step x (orders s.number place) (Ok Done) s₂
  ordered_so h = (s₁, picked_so, subst₂ (λ (n p : ℕ). Step s₁ (orders n p) (Ok Done) s₂) own (sym same) h)

  pub borrowed_so : Step s₁ (returns number k) (Ok Done) s₂ → Right (layout s) (on_hand s) (out s) (picks R c) (Ok (Picked s.number place)) × (s₂ ≡ s)
  borrowed_so h = (picked_so.right, returned_as_was R c s s₁ number k step s₂ h)

-- two calls, each by its own contract, are a history
pub together : {I : Type 0} (s s₁ s' : Stock I) (first : Call I) (said : Answer I) (second : Call I) (said₂ : Answer I) → Step s first said s₁ → Step s₁ second said₂ s'
    → GuaranteedTogether s first said second said₂ s'
together s s₁ s' first said second said₂ one two = guaranteed s s' (event second said₂ ∷ event first said ∷ []) (s₁, (s, refl, one), two)
