-- The account of a history: what was received, picked, ordered and returned at each place, by the answers alone.
use Rattle.std.specs.Prelude.{ℕ, ◌+◌, ◌-◌, cond, List, [], ◌∷◌, ◌==◌}
use Rattle.shelf.specs.Steps.{Movement, receipt, pick, order, return, nothing, movement}
use Rattle.history.specs.History.{Event}

-- n where the place is k, and else 0
abbrev pub at : (place k n : ℕ) → ℕ
at place k n = cond (place == k) n 0

-- what one movement receives at the place k, and how many it picks, orders and returns there
abbrev pub receives_at : Movement → ℕ → ℕ
receives_at (receipt place n) k = at place k n
receives_at (pick place) k = 0
receives_at (order place) k = 0
receives_at (return place) k = 0
receives_at nothing k = 0

abbrev pub picks_at : Movement → ℕ → ℕ
picks_at (receipt place n) k = 0
picks_at (pick place) k = at place k 1
picks_at (order place) k = 0
picks_at (return place) k = 0
picks_at nothing k = 0

abbrev pub orders_at : Movement → ℕ → ℕ
orders_at (receipt place n) k = 0
orders_at (pick place) k = 0
orders_at (order place) k = at place k 1
orders_at (return place) k = 0
orders_at nothing k = 0

abbrev pub returns_at : Movement → ℕ → ℕ
returns_at (receipt place n) k = 0
returns_at (pick place) k = 0
returns_at (order place) k = 0
returns_at (return place) k = at place k 1
returns_at nothing k = 0

-- the sum over a history
abbrev pub summed : {I : Type 0} → (Movement → ℕ → ℕ) → List (Event I) → ℕ → ℕ
summed count [] k = 0
summed count (e ∷ past) k = summed count past k + count (movement e.call e.answer) k

-- the sum of the receipts granted for the place k
abbrev pub received : {I : Type 0} → List (Event I) → ℕ → ℕ
received = summed receives_at

-- the number of granted picks that named it
abbrev pub picked : {I : Type 0} → List (Event I) → ℕ → ℕ
picked = summed picks_at

-- the number of granted orders of slips with it
abbrev pub ordered : {I : Type 0} → List (Event I) → ℕ → ℕ
ordered = summed orders_at

-- the number of granted returns of slips with it
abbrev pub returned : {I : Type 0} → List (Event I) → ℕ → ℕ
returned = summed returns_at

-- on hand by the account: received, plus returned, less picked
abbrev pub on_hand_by : {I : Type 0} → List (Event I) → ℕ → ℕ
on_hand_by past k = (received past k + returned past k) - picked past k

-- out by the account: picked, less returned and ordered
abbrev pub out_by : {I : Type 0} → List (Event I) → ℕ → ℕ
out_by past k = picked past k - (returned past k + ordered past k)
