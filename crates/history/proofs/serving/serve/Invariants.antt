use Rattle.std.proofs.Common.{◌≡◌, ◌+◌, ◌≤◌, List, ◌++◌, length, take, vec_items, vec_len, vec_capacity}
use Rattle.history.proofs.serving.serve.Given as goal
use Rattle.history.specs.History.{Goes, history_of}
use Rattle.shelf.specs.Answers.{Answer}

abbrev pub invariant-loop-call : goal.invariant-loop-call
invariant-loop-call g l =
    (vec_len l.answers + length l.calls ≤ vec_capacity l.answers + l.call-index)
    × ((new : List (Answer g.row.B-Item.Denot)) × (vec_items l.answers ≡ vec_items l.initial.answers ++ new) × (length new ≡ l.call-index)
    × Goes (g.S.Shelf.meaning l.initial.shelf) (history_of (g.B.RuleBook.rules l.book) (take l.call-index l.calls) new) (g.S.Shelf.meaning l.shelf))
