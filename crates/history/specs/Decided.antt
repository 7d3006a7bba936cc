-- The calls of a history decide its answers and its end.
use Rattle.std.specs.Prelude.{◌≡◌, List, map}
use Rattle.shelf.specs.Calls.{Call}
use Rattle.shelf.specs.Stock.{Stock}
use Rattle.history.specs.History.{Event, Goes}

abbrev pub calls_of : {I : Type 0} → List (Event I) → List (Call I)
calls_of = map (λ e. e.call)

-- two histories from one shelf with the same calls have the same answers, and end with the same shelf
abbrev pub Decided : Type 0 → Type 0
Decided I =
    (s t t' : Stock I) (past past' : List (Event I)) → calls_of past ≡ calls_of past' → Goes s past t → Goes s past' t' → (past ≡ past') × (t ≡ t')
