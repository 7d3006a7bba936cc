-- The guarantee over every list of calls.
use Rattle.std.specs.Prelude.{◌≡◌, List, ◌++◌, length, Ok, Err, Result}
use Rattle.rulebook.specs.Books.{Rules}
use Rattle.shelf.specs.Opening.{Opened}
use Rattle.shelf.specs.Stock.{Stock}
use Rattle.shelf.specs.Answers.{Answer}
use Rattle.shelf.specs.declared.request.Request.{Request}
use Rattle.history.specs.History.{Event, Goes, history_of}
use Rattle.history.specs.Kept.{Kept}
use Rattle.history.specs.Section14.{Buckling, Margin}

-- The guarantee of a history that led from the shelf as opened to the shelf s: it is one, and account and choice hold at each point of it. Buckling and
-- margin stand beside it: they speak of every history on a shelf of bearings, and of every bearing and case.
pub record Guarantee {I : Type 0} (opened : Stock I) (past : List (Event I)) (s : Stock I) : Type 0 where
  pub history : Goes opened past s
  pub kept : Kept opened past s
  pub buckling : Buckling
  pub margin : Margin

-- The calls of a list, under the book R and with their new answers, lead from the shelf s to s', and the guarantee holds of them behind whatever history
-- led to s from a shelf as opened, under this or another book. Where memory is wanting, nothing has changed.
abbrev pub Served : {I T E : Type 0} → Rules I → List Request → (before after : List (Answer I)) → (s s' : Stock I) → Result T E → Type 0
Served {I} R calls before after s s' (Ok done) =
    (new : List (Answer I)) × (after ≡ before ++ new) × (length new ≡ length calls) × Goes s (history_of R calls new) s'
    × ((book : Rules I) (opened : Stock I) (past : List (Event I)) → Opened book opened → Goes opened past s → Guarantee opened (history_of R calls new ++ past) s')
Served R calls before after s s' (Err why) = (after ≡ before) × (s' ≡ s)
