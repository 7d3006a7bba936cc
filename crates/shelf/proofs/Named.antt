-- What a granted pick names.
use Rattle.std.proofs.Common.{◌≡◌, ℕ, Ok, sym, subst, inl, inr}
use Rattle.rulebook.specs.Books.{Rules}
use Rattle.rulebook.specs.declared.case.Case.{Case}
use Rattle.shelf.specs.Answers.{Right}
use Rattle.shelf.specs.Calls.{picks}
use Rattle.shelf.specs.Choice.{Best}
use Rattle.shelf.specs.Stock.{Layout}
use Rattle.shelf.specs.declared.answer.Granted.TheVariants.{Picked}

-- this shelf, and the best place
pub record Named {I : Type 0} (R : Rules I) (shelf : Layout I) (hand : ℕ → ℕ) (c : Case) (number k : ℕ) : Type 0 where
  pub own : number ≡ shelf.number
  pub best : Best R shelf.items hand c k

pub named : {I : Type 0} (shelf : Layout I) (hand gone : ℕ → ℕ) (R : Rules I) (c : Case) (number k : ℕ) → Right shelf hand gone (picks R c) (Ok (Picked number k)) → Named R shelf hand c number k
named shelf hand gone R c number k (inl h) = absurd (cc h.1)
named shelf hand gone R c number k (inr (_, inl h)) = absurd (cc h.1)
named shelf hand gone R c number k (inr (_, inr (_, inl h))) = absurd (cc h.1)
named shelf hand gone R c number k (inr (_, inr (_, inr (_, h)))) =
    let same : k ≡ h.0 = cc h.1 in
    let own : number ≡ shelf.number = cc h.1 in
    record { own = own; best = subst (Best R shelf.items hand c) (sym same) h.2 }
