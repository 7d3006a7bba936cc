-- What holds of picks under the Section 14 book, over every shelf of bearings.
use Rattle.std.specs.Prelude.{◌≡◌, ℕ, ◌-◌, true, List, ◌∷◌, ◌++◌, Some, None, Ok}
use Rattle.std.specs.List.{slice_get}
use Rattle.bearings.specs.Fractions.{◌over◌, whole, holds}
use Rattle.bearings.specs.declared.bearing.Bearing.{Bearing}
use Rattle.buckling.specs.Article.{exact_buckling}
use Rattle.rulebook.specs.Books.{Rules}
use Rattle.rulebook.specs.declared.case.Case.{Case}
use Rattle.section14.specs.Book.{section14_rules}
use Rattle.shelf.specs.Calls.{picks}
use Rattle.shelf.specs.Opening.{Opened}
use Rattle.shelf.specs.Stock.{Stock, layout}
use Rattle.shelf.specs.declared.answer.Granted.TheVariants.{Picked}
use Rattle.history.specs.History.{Event, event, Goes}

-- the article of that number, counted from 1, holds
abbrev pub ArticleHolds : {I : Type 0} → Rules I → I → Case → (number : ℕ) → Type 0
ArticleHolds R i c number = slice_get (R.articles i c) (number - 1) ≡ Some true

-- Buckling: the bearing that a granted pick names meets the exact article, T(X − Y) ≤ G with its root exact, under that pick's own case
abbrev pub Buckling : Type 0
Buckling =
    (book : Rules Bearing) (opened s : Stock Bearing) (past : List (Event Bearing)) → Opened book opened → Goes opened past s
    → (newer older : List (Event Bearing)) (c : Case) (number k : ℕ) → past ≡ newer ++ (event (picks section14_rules c) (Ok (Picked number k)) ∷ older)
    → (b : Bearing) × (slice_get (layout opened).items k ≡ Some b) × (holds (exact_buckling (whole 1) b c) ≡ true)

-- Margin: article 5 is found to hold wherever the exact article holds even with 1.02·X in the place of X
abbrev pub Margin : Type 0
Margin =
    (b : Bearing) (c : Case) → section14_rules.outside b ≡ None → section14_rules.loads c ≡ true → section14_rules.rest c ≡ true
    → holds (exact_buckling (102 over 100) b c) ≡ true → ArticleHolds section14_rules b c 5
