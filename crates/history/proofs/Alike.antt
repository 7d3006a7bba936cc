-- A call has one right answer, so the calls of a history decide its answers and its end.
use Rattle.std.proofs.Common.{◌≡◌, ℕ, List, [], ◌∷◌, Ok, sym, refl, ap, ◌∙◌, subst, ap₂, inl, inr, arith}
use native.Mathlib.Decide.{ℕ_discrete}
use Rattle.std.proofs.lemmas.Option.{same_Some}
use Rattle.rulebook.specs.Books.{Rules}
use Rattle.rulebook.specs.declared.case.Case.{Case}
use Rattle.rulebook.specs.declared.refusal.Refusal.{Refusal}
use Rattle.shelf.specs.Answers.{Answer, Right, Refuses}
use Rattle.shelf.specs.Calls.{Call, receives, picks, orders, returns, asks_place, asks_places}
use Rattle.shelf.specs.Choice.{Best, Before}
use Rattle.shelf.specs.Steps.{Step, movement, moved}
use Rattle.shelf.specs.Stock.{Stock, Layout, layout, on_hand, out}
use Rattle.shelf.specs.declared.answer.Granted.TheVariants.{Picked, Shown}
use Rattle.history.specs.Decided.{calls_of, Decided}
use Rattle.history.specs.History.{Event}

refused_alike : {I : Type 0} (a a' : Answer I) (why : Refusal) (cause rest rest' : Type 0) → (rest → rest' → a ≡ a') → Refuses a why cause rest → Refuses a' why cause rest' → a ≡ a'
refused_alike a a' why cause rest rest' else (inl h) (inl h') = h.1 ∙ sym h'.1
refused_alike a a' why cause rest rest' else (inl h) (inr h') = absurd (h'.0 h.0)
refused_alike a a' why cause rest rest' else (inr h) (inl h') = absurd (h.0 h'.0)
refused_alike a a' why cause rest rest' else (inr h) (inr h') = else h.1 h'.1

best_alike : {I : Type 0} (R : Rules I) (items : List I) (hand : ℕ → ℕ) (c : Case) (k k' : ℕ) → Best R items hand c k → Best R items hand c k' → k ≡ k'
best_alike R items hand c k k' h h' = go (ℕ_discrete k k')
  where
    go : Dec (k ≡ k') → k ≡ k'
    go (yes e) = e
    go (no ne) =
        let one : Before R k h.item k' h'.item = h.first k' h'.item (λ e. ne (sym e)) h'.serves in
        let other : Before R k' h'.item k h.item = h'.first k h.item ne h.serves in
        omega arith

module _ {I : Type 0} (shelf : Layout I) (hand gone : ℕ → ℕ) (a a' : Answer I) where
  right_alike : (call : Call I) → Right shelf hand gone call a → Right shelf hand gone call a' → a ≡ a'
  right_alike (receives k n) = refused_alike a a' _ _ _ _ (refused_alike a a' _ _ _ _ (λ h h'. h ∙ sym h'))
  right_alike (picks R c) =
      refused_alike a a' _ _ _ _ (refused_alike a a' _ _ _ _ (refused_alike a a' _ _ _ _
      (λ h h'. h.1 ∙ ap (λ (k : ℕ). Ok (Picked shelf.number k)) (best_alike R shelf.items hand c h.0 h'.0 h.2 h'.2) ∙ sym h'.1)))
  right_alike (orders number k) = refused_alike a a' _ _ _ _ (refused_alike a a' _ _ _ _ (λ h h'. h ∙ sym h'))
  right_alike (returns number k) = refused_alike a a' _ _ _ _ (refused_alike a a' _ _ _ _ (λ h h'. h ∙ sym h'))
  right_alike (asks_place k) =
      refused_alike a a' _ _ _ _ (λ h h'. h.2 ∙ ap (λ (i : I). Ok (Shown (record { item = i; on_hand = hand k; out = gone k }))) (same_Some _ _ (sym h.1 ∙ h'.1)) ∙ sym h'.2)
  right_alike asks_places = λ h h'. h ∙ sym h'

pub decided : (I : Type 0) → Decided I
decided I s t t' [] [] same h h' = (refl, h ∙ sym h')
decided I s t t' [] (e' ∷ past') same h h' = absurd (cc)
decided I s t t' (e ∷ past) [] same h h' = absurd (cc)
decided I s t t' (e ∷ past) (e' ∷ past') same h h' =
    let tails : calls_of past ≡ calls_of past' = cc in
    let calls : e.call ≡ e'.call = cc in
    let before = decided I s h.0 h'.0 past past' tails h.1 h'.1 in
    let step : Step h.0 e'.call e'.answer t' = subst (λ (x : Stock I). Step x e'.call e'.answer t') (sym before.1) h'.2 in
    let right : Right (layout h.0) (on_hand h.0) (out h.0) e.call e'.answer =
    subst (λ (call : Call I). Right (layout h.0) (on_hand h.0) (out h.0) call e'.answer) (sym calls) step.right in
    let said : e.answer ≡ e'.answer = right_alike (layout h.0) (on_hand h.0) (out h.0) e.answer e'.answer e.call h.2.right right in
    let both : e ≡ e' = λ i. record { call = calls i; answer = said i } in
    (ap₂ ◌∷◌ both before.0, h.2.change ∙ ap (λ (x : Event I). moved h.0 (movement x.call x.answer)) both ∙ sym step.change)
