-- Which answer to a call is right, by the shelf's layout and by counts on hand and out.
use Rattle.std.specs.Prelude.{◌≡◌, ℕ, ◌+◌, ◌<◌, ◌≤◌, false, ◌≢◌, ◌⊎◌, length, Some, Ok, Err, Result}
use Rattle.std.specs.List.{slice_get}
use Rattle.rulebook.specs.declared.refusal.Refusal.{Refusal}
use Rattle.rulebook.specs.declared.refusal.Refusal.TheVariants.{OffShelf, Receipt, Loads, Rest, NoneOnHand, OtherShelf, NoneOut}
use Rattle.shelf.specs.Calls.{Call, receives, picks, orders, returns, asks_place, asks_places}
use Rattle.shelf.specs.Choice.{NoneServes, Best}
use Rattle.shelf.specs.Stock.{Layout}
use Rattle.shelf.specs.declared.answer.Granted.{Granted}
use Rattle.shelf.specs.declared.answer.Granted.TheVariants.{Done, Picked, Shown, Counted}
use Rattle.shelf.specs.declared.answer.Place.{Place}

-- what is answered to a call: what it grants, or why it is refused
abbrev pub Answer : Type 0 → Type 0
Answer I = Result (Granted I) Refusal

-- a call's result as an answer
abbrev pub reply : {I T : Type 0} → (T → Granted I) → Result T Refusal → Answer I
reply granted (Ok result) = Ok (granted result)
reply granted (Err why) = Err why

abbrev pub done : {I T : Type 0} → Result T Refusal → Answer I
done = reply (λ _. Done)

abbrev pub shown : {I : Type 0} → Result (Place I) Refusal → Answer I
shown = reply Shown

-- one check of a call: for this cause it is refused so; else the rest says the answer
abbrev pub Refuses : {I : Type 0} → Answer I → Refusal → (cause rest : Type 0) → Type 0
Refuses answer why cause rest = (cause × (answer ≡ Err why)) ⊎ ((cause → ⊥) × rest)

-- the place k is off the shelf
abbrev pub Off : {I : Type 0} → Layout I → ℕ → Type 0
Off shelf k = length shelf.items ≤ k

-- the end of a slip with these numbers
abbrev pub SlipEnds : {I : Type 0} → Layout I → (gone : ℕ → ℕ) → (number k : ℕ) → Answer I → Type 0
SlipEnds shelf gone number k answer =
    Refuses answer OtherShelf (number ≢ shelf.number)
    (Refuses answer NoneOut (Off shelf k ⊎ (gone k ≡ 0))
    (answer ≡ Ok Done))

-- the checks of each call in their order, and what it answers where none of them refuses it
abbrev pub Right : {I : Type 0} → Layout I → (hand gone : ℕ → ℕ) → Call I → Answer I → Type 0
Right shelf hand gone (receives k n) answer =
    Refuses answer OffShelf (Off shelf k)
    (Refuses answer Receipt ((n ≡ 0) ⊎ (60000 < hand k + gone k + n))
    (answer ≡ Ok Done))
Right shelf hand gone (picks R c) answer =
    Refuses answer Loads (R.loads c ≡ false)
    (Refuses answer Rest (R.rest c ≡ false)
    (Refuses answer NoneOnHand (NoneServes R shelf.items hand c)
    ((k : ℕ) × (answer ≡ Ok (Picked shelf.number k)) × Best R shelf.items hand c k)))
Right shelf hand gone (orders number k) answer = SlipEnds shelf gone number k answer
Right shelf hand gone (returns number k) answer = SlipEnds shelf gone number k answer
Right {I} shelf hand gone (asks_place k) answer =
    Refuses answer OffShelf (Off shelf k)
    ((i : I) × (slice_get shelf.items k ≡ Some i) × (answer ≡ Ok (Shown (record { item = i; on_hand = hand k; out = gone k }))))
Right shelf hand gone asks_places answer =
    answer ≡ Ok (Counted shelf.number (length shelf.items))
