-- Buckling and margin, under the Section 14 book.
use Rattle.std.proofs.Common.{◌≡◌, Bool, true, List, [], ◌∷◌, Some, Ok, refl, ap, subst}
use Rattle.std.proofs.lemmas.Bool.{and_parts, and_from}
use Rattle.std.specs.List.{slice_get}
use Rattle.bearings.specs.Fractions.{all_hold, holds}
use Rattle.bearings.specs.declared.bearing.Bearing.{Bearing}
use Rattle.buckling.proofs.Exact.{found_is_exact, margin_is_found}
use Rattle.buckling.specs.Article.{buckling}
use Rattle.rulebook.proofs.Passing.{passing_parts}
use Rattle.rulebook.specs.Books.{every}
use Rattle.rulebook.specs.declared.case.Case.{Case}
use Rattle.section14.specs.Articles.{compression, shear, uplift, rotation, steel}
use Rattle.section14.specs.Book.{section14_rules, section14_articles}
use Rattle.shelf.proofs.Named.{named}
use Rattle.shelf.specs.Calls.{picks}
use Rattle.shelf.specs.Stock.{Layout, layout, on_hand, out}
use Rattle.shelf.specs.declared.answer.Granted.TheVariants.{Picked}
use Rattle.history.proofs.Balance.{balance}
use Rattle.history.proofs.Law.{call_behind}
use Rattle.history.specs.History.{Event, Goes}
use Rattle.history.specs.Section14.{Buckling, Margin}

-- where every article holds, the fifth does
fifth : (a₁ a₂ a₃ a₄ a₅ a₆ : Bool) → every (a₁ ∷ a₂ ∷ a₃ ∷ a₄ ∷ a₅ ∷ a₆ ∷ []) ≡ true → a₅ ≡ true
fifth a₁ a₂ a₃ a₄ a₅ a₆ h =
    let h₂ = (and_parts a₁ _ h).1 in
    let h₃ = (and_parts a₂ _ h₂).1 in
    let h₄ = (and_parts a₃ _ h₃).1 in
    let h₅ = (and_parts a₄ _ h₄).1 in
    (and_parts a₅ _ h₅).0

passing_buckles : (b : Bearing) (c : Case) → every (section14_articles b c) ≡ true → holds (buckling b c) ≡ true
unfolding section14_articles
passing_buckles b c h =
    (and_parts (holds (buckling b c)) true
    (fifth (all_hold (compression b c)) (all_hold (shear b c)) (all_hold (uplift b c)) (all_hold (rotation b c)) (all_hold (buckling b c ∷ [])) (all_hold (steel b c)) h)).0

pub buckling_so : Buckling
buckling_so book opened s past new goes newer older c number k e =
    let behind = call_behind book opened new newer older (picks section14_rules c) (Ok (Picked number k)) s (subst (λ (es : List (Event Bearing)). Goes opened es s) e goes) in
    let s₁ = behind.0 in
    let best = (named (layout s₁) (on_hand s₁) (out s₁) section14_rules c number k behind.3.right).best in
    let parts = passing_parts section14_rules best.item c best.serves.passing in
    let same = (balance opened older s₁ behind.2).same in (
      best.item,
      subst (λ (shelf : Layout Bearing). slice_get shelf.items k ≡ Some best.item) same best.serves.stands,
      found_is_exact best.item c parts.item (passing_buckles best.item c parts.articles),
    )

pub margin_so : Margin
unfolding section14_articles
margin_so b c within loads rest exact = ap Some (and_from (holds (buckling b c)) true (margin_is_found b c within exact) refl)
