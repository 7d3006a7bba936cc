-- A slip that was just handed over can be ended on its shelf, and its return leaves the shelf as it was before the pick.
use Rattle.std.proofs.Common.{◌≡◌, ℕ, zero, suc, ◌+◌, ◌-◌, ◌<◌, List, [], ◌∷◌, map, length, get_or, Ok, Err, Result, IsOk, refl, ap, ◌∙◌, subst, ap₂, arith}
use Rattle.std.proofs.lemmas.Option.{slice_get_within}
use Rattle.rulebook.specs.Books.{Rules}
use Rattle.rulebook.specs.declared.case.Case.{Case}
use Rattle.rulebook.specs.declared.refusal.Refusal.{Refusal}
use Rattle.shelf.proofs.Named.{Named, named}
use Rattle.shelf.proofs.Standing.{items_recounted, count_same}
use Rattle.shelf.specs.Answers.{SlipEnds}
use Rattle.shelf.specs.Calls.{picks, orders, returns}
use Rattle.shelf.specs.Steps.{Step}
use Rattle.shelf.specs.Stock.{Stock, layout, on_hand, out, recounted, with_counts}
use Rattle.shelf.specs.declared.answer.Granted.TheVariants.{Done, Picked}
use Rattle.shelf.specs.declared.answer.Place.{Place}
use Rattle.slips.specs.Slips.{ended}
use Rattle.slips.specs.declared.slip.HandedBack.{HandedBack}

-- an end of a slip of this shelf whose place has one out is not refused
ends : {I : Type 0} (s : Stock I) (number k : ℕ) (why : Refusal) → number ≡ s.number → k < length (layout s).items → 0 < out s k → SlipEnds (layout s) (out s) number k (Err why) → ⊥
ends s number k why own on some h = grind arith

module _ {I : Type 0} (R : Rules I) (c : Case) (s s₁ : Stock I) (number k : ℕ) (step : Step s (picks R c) (Ok (Picked number k)) s₁) where
  name : Named R (layout s) (on_hand s) c number k
  name = named (layout s) (on_hand s) (out s) R c number k step.right

  on_shelf : k < length (layout s).items
  on_shelf = slice_get_within (layout s).items k name.best.item name.best.serves.stands

  taken : Stock I
  taken = with_counts s k (on_hand s k - 1) (out s k + 1)

  is_taken : s₁ ≡ taken
  unfolding taken
  is_taken = step.change

  taken_items : (layout taken).items ≡ (layout s).items
  unfolding taken
  taken_items = items_recounted s.places k (on_hand s k - 1) (out s k + 1)

  taken_out : out taken k ≡ out s k + 1
  unfolding taken
  taken_out = count_same (λ (p : Place I). p.out) s.places k (on_hand s k - 1) (out s k + 1) (out s k + 1) (λ i. refl) on_shelf

  taken_hand : on_hand taken k ≡ on_hand s k - 1
  unfolding taken
  taken_hand = count_same (λ (p : Place I). p.on_hand) s.places k (on_hand s k - 1) (out s k + 1) (on_hand s k - 1) (λ i. refl) on_shelf

  end_granted : (why : Refusal) → SlipEnds (layout s₁) (out s₁) number k (Err why) → ⊥
  unfolding taken
  end_granted why h =
      let long = ap length taken_items in
      let on : k < length (layout taken).items = omega (arith, long, on_shelf) in
      let some : 0 < out taken k = omega (arith, taken_out) in
      ends taken number k why name.own on some (subst (λ (x : Stock I). SlipEnds (layout x) (out x) number k (Err why)) is_taken h)

  pub order_granted : (r : Result (Unit {0}) HandedBack) (s₂ : Stock I) → Step s₁ (orders number k) (ended r) s₂ → IsOk r
  order_granted (Ok done) s₂ h = refl
  order_granted (Err back) s₂ h = absurd (end_granted back.why h.right)

  pub return_granted : (r : Result (Unit {0}) HandedBack) (s₂ : Stock I) → Step s₁ (returns number k) (ended r) s₂ → IsOk r
  return_granted (Ok done) s₂ h = refl
  return_granted (Err back) s₂ h = absurd (end_granted back.why h.right)

  -- the counts set twice, and set to what they were
  set_twice : (ps : List (Place I)) (j h o h' o' : ℕ) → recounted (recounted ps j h o) j h' o' ≡ recounted ps j h' o'
  set_twice [] j h o h' o' = refl
  set_twice (p ∷ ps) zero h o h' o' = refl
  set_twice (p ∷ ps) (suc j) h o h' o' = ap (λ qs. p ∷ qs) (set_twice ps j h o h' o')

  set_same : (ps : List (Place I)) (j : ℕ) → recounted ps j (get_or (map (λ (p : Place I). p.on_hand) ps) j 0) (get_or (map (λ (p : Place I). p.out) ps) j 0) ≡ ps
  set_same [] j = refl
  set_same (p ∷ ps) zero = refl
  set_same (p ∷ ps) (suc j) = ap (λ qs. p ∷ qs) (set_same ps j)

  pub returned_as_was : (s₂ : Stock I) → Step s₁ (returns number k) (Ok Done) s₂ → s₂ ≡ s
  unfolding taken
  returned_as_was s₂ h =
      let some = name.best.serves.some in
      let hand : on_hand taken k + 1 ≡ on_hand s k = omega (arith, taken_hand, some) in
      let gone : out taken k - 1 ≡ out s k = omega (arith, taken_out) in
      let to : s₂ ≡ with_counts taken k (on_hand taken k + 1) (out taken k - 1) = subst (λ (x : Stock I). s₂ ≡ with_counts x k (on_hand x k + 1) (out x k - 1)) is_taken h.change in
      let places : recounted taken.places k (on_hand taken k + 1) (out taken k - 1) ≡ s.places =
      ap₂ (λ (x y : ℕ). recounted taken.places k x y) hand gone ∙ set_twice s.places k (on_hand s k - 1) (out s k + 1) (on_hand s k) (out s k) ∙ set_same s.places k in
      to ∙ ap (λ (ps : List (Place I)). record { number = s.number; places = ps }) places
