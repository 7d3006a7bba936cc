-- Histories: lists of calls with their answers, the latest first.
use Rattle.std.specs.Prelude.{◌≡◌, List, [], ◌∷◌, reverse}
use Rattle.rulebook.specs.Books.{Rules}
use Rattle.shelf.specs.Calls.{Call, asked}
use Rattle.shelf.specs.Steps.{Step}
use Rattle.shelf.specs.Stock.{Stock}
use Rattle.shelf.specs.Answers.{Answer}
use Rattle.shelf.specs.declared.request.Request.{Request}

-- a call with its answer
pub record Event (I : Type 0) : Type 0 where
  pub call : Call I
  pub answer : Answer I

abbrev pub event : {I : Type 0} → Call I → Answer I → Event I
event call answer = record { call = call; answer = answer }

-- the history takes the shelf from s to s': each link is what the contract of that call states
abbrev pub Goes : {I : Type 0} → Stock I → List (Event I) → Stock I → Type 0
Goes s [] s' = s' ≡ s
Goes {I} s (e ∷ past) s' = (s₁ : Stock I) × Goes s past s₁ × Step s₁ e.call e.answer s'

-- calls under one book with their answers, in their order
abbrev pub events : {I : Type 0} → Rules I → List Request → List (Answer I) → List (Event I)
events R [] answers = []
events R (call ∷ calls) [] = []
events R (call ∷ calls) (answer ∷ answers) = event (asked R call) answer ∷ events R calls answers

-- the same as a history
abbrev pub history_of : {I : Type 0} → Rules I → List Request → List (Answer I) → List (Event I)
history_of R calls answers = reverse (events R calls answers)
