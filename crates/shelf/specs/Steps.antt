-- What a call with its answer does to a shelf.
use Rattle.std.specs.Prelude.{◌≡◌, ℕ, ◌+◌, ◌-◌, Ok, Err}
use Rattle.rulebook.specs.declared.refusal.Refusal.TheVariants.{OffShelf, NoneOnHand}
use Rattle.shelf.specs.Answers.{Answer, Right, Off, Refuses}
use Rattle.shelf.specs.Calls.{Call, receives, picks, orders, returns, asks_place, asks_places}
use Rattle.shelf.specs.Stock.{Stock, layout, on_hand, out, with_counts}
use Rattle.shelf.specs.declared.answer.Granted.TheVariants.{Done, Picked, Shown, Counted}

-- what an answered call moves: something at one place, or nothing
pub data Movement : Type 0 where
  receipt : (place count : ℕ) → Movement
  pick : (place : ℕ) → Movement
  order : (place : ℕ) → Movement
  return : (place : ℕ) → Movement
  nothing : Movement

abbrev pub where_done : {I : Type 0} → Answer I → Movement → Movement
where_done (Ok Done) movement = movement
where_done (Err why) movement = nothing
where_done (Ok (Picked number place)) movement = nothing
where_done (Ok (Shown place)) movement = nothing
where_done (Ok (Counted number count)) movement = nothing

abbrev pub where_picked : {I : Type 0} → Answer I → Movement
where_picked (Ok (Picked number place)) = pick place
where_picked (Ok Done) = nothing
where_picked (Err why) = nothing
where_picked (Ok (Shown place)) = nothing
where_picked (Ok (Counted number count)) = nothing

-- a granted receipt, pick, order or return moves something at its own place; a refused call and a question move nothing
abbrev pub movement : {I : Type 0} → Call I → Answer I → Movement
movement (receives k n) answer = where_done answer (receipt k n)
movement (picks R c) answer = where_picked answer
movement (orders number k) answer = where_done answer (order k)
movement (returns number k) answer = where_done answer (return k)
movement (asks_place k) answer = nothing
movement asks_places answer = nothing

-- the shelf after a movement
abbrev pub moved : {I : Type 0} → Stock I → Movement → Stock I
moved s (receipt k n) = with_counts s k (on_hand s k + n) (out s k)
moved s (pick k) = with_counts s k (on_hand s k - 1) (out s k + 1)
moved s (order k) = with_counts s k (on_hand s k) (out s k - 1)
moved s (return k) = with_counts s k (on_hand s k + 1) (out s k - 1)
moved s nothing = s

-- from the shelf s, by the call with its answer, to the shelf s'
pub record Step {I : Type 0} (s : Stock I) (call : Call I) (answer : Answer I) (s' : Stock I) : Type 0 where
  pub right : Right (layout s) (on_hand s) (out s) call answer
  pub change : s' ≡ moved s (movement call answer)

-- the taking of one at the place k
pub record Takes {I : Type 0} (k : ℕ) (s : Stock I) (answer : Answer I) (s' : Stock I) : Type 0 where
  pub right : Refuses answer OffShelf (Off (layout s) k) (Refuses answer NoneOnHand (on_hand s k ≡ 0) (answer ≡ Ok Done))
  pub change : s' ≡ moved s (where_done answer (pick k))
