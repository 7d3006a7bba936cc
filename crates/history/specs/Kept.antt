-- What holds of a history on a shelf that was opened, for any items, books and shelves.
use Rattle.std.specs.Prelude.{◌≡◌, ℕ, ◌+◌, ◌≤◌, true, ◌≢◌, ◌↔◌, Ok, Err, List, ◌∷◌, ◌++◌}
use Rattle.rulebook.specs.Books.{Rules}
use Rattle.rulebook.specs.declared.case.Case.{Case}
use Rattle.rulebook.specs.declared.refusal.Refusal.TheVariants.{NoneOnHand}
use Rattle.shelf.specs.Answers.{Answer, Right}
use Rattle.shelf.specs.Calls.{Call, picks}
use Rattle.shelf.specs.Choice.{NoneServes, Best}
use Rattle.shelf.specs.Stock.{Stock, Layout, layout, on_hand, out}
use Rattle.shelf.specs.declared.answer.Granted.TheVariants.{Picked}
use Rattle.history.specs.Account.{received, picked, ordered, returned, on_hand_by, out_by}
use Rattle.history.specs.History.{Event, event, Goes}

-- Account: number and items are as opened, on hand is what was received, less picked, plus returned, and out what was picked, less returned and ordered;
-- both together are at most 60,000
pub record Accounted {I : Type 0} (opened : Stock I) (past : List (Event I)) (s : Stock I) : Type 0 where
  pub same : layout s ≡ layout opened
  pub on_hand_is : (k : ℕ) → on_hand s k + picked past k ≡ received past k + returned past k
  pub out_is : (k : ℕ) → out s k + returned past k + ordered past k ≡ picked past k
  pub few : (k : ℕ) → on_hand s k + out s k ≤ 60000

-- Choice: a pick says 8 exactly when no item on hand passes, and else names this shelf and the best place
pub record PickSays {I : Type 0} (R : Rules I) (shelf : Layout I) (hand : ℕ → ℕ) (c : Case) (answer : Answer I) : Type 0 where
  pub eight : (answer ≡ Err NoneOnHand) ↔ NoneServes R shelf.items hand c
  pub names : answer ≢ Err NoneOnHand → (k : ℕ) × (answer ≡ Ok (Picked shelf.number k)) × Best R shelf.items hand c k

pub record Kept {I : Type 0} (opened : Stock I) (past : List (Event I)) (s : Stock I) : Type 0 where
  -- at each point of the history, after the older calls and before the newer ones, the shelf is as the account of the older ones has it
  pub account : (newer older : List (Event I)) → past ≡ newer ++ older → (s₁ : Stock I) × Goes opened older s₁ × Goes s₁ newer s × Accounted opened older s₁
  -- each pick that no check ahead of 8 turns away, by the account of the calls before it
  pub choice : (newer older : List (Event I)) (R : Rules I) (c : Case) (answer : Answer I) → past ≡ newer ++ (event (picks R c) answer ∷ older)
      → R.loads c ≡ true → R.rest c ≡ true → PickSays R (layout opened) (on_hand_by older) c answer
  -- each answer is the one that the checks of its call give, by the account of the calls before it
  pub answers : (newer older : List (Event I)) (call : Call I) (answer : Answer I) → past ≡ newer ++ (event call answer ∷ older)
      → Right (layout opened) (on_hand_by older) (out_by older) call answer
