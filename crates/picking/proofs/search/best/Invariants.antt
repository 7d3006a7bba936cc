use Rattle.picking.proofs.search.best.Given as goal
use Rattle.picking.specs.Search.{FoundBelow}
use Rattle.shelf.specs.Stock.{layout, on_hand}

abbrev pub invariant-loop-place : goal.invariant-loop-place
invariant-loop-place g l =
    FoundBelow (g.B.RuleBook.rules l.book) (layout (g.S.Shelf.meaning l.shelf)).items (on_hand (g.S.Shelf.meaning l.shelf)) l.case l.place l.found
