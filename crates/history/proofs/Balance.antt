-- What the calls of a history did to the counts.
use Rattle.std.proofs.Common.{◌≡◌, ℕ, ◌+◌, ◌-◌, ◌<◌, ◌≤◌, ◌≢◌, ◌⊎◌, List, [], ◌∷◌, length, sym, refl, ap, ◌∙◌, subst, inl, inr, arith}
use native.Mathlib.Decide.{ℕ_discrete}
use Rattle.std.proofs.lemmas.Bool.{eq-eqb, ne_eqb}
use Rattle.std.proofs.lemmas.Option.{slice_get_within}
use Rattle.shelf.proofs.Standing.{items_recounted, count_same, count_other}
use Rattle.shelf.specs.Answers.{Answer, Right}
use Rattle.shelf.specs.Calls.{Call, receives, picks, orders, returns, asks_place, asks_places}
use Rattle.shelf.specs.Steps.{Movement, receipt, pick, order, return, nothing, movement, moved}
use Rattle.shelf.specs.Stock.{Stock, layout, on_hand, out, with_counts}
use Rattle.shelf.specs.declared.answer.Place.{Place}
use Rattle.history.specs.Account.{at, receives_at, picks_at, orders_at, returns_at, received, picked, ordered, returned}
use Rattle.history.specs.History.{Event, Goes}

at_same : (place k n : ℕ) → place ≡ k → at place k n ≡ n
at_same place k n e = rw (eq-eqb place k e)

at_other : (place k n : ℕ) → place ≢ k → at place k n ≡ 0
at_other place k n ne = rw (ne_eqb place k ne)

-- number and items are kept, and the counts are those before with what was received, picked, ordered and returned
pub record Balance {I : Type 0} (from to : Stock I) (rec pic ord ret : ℕ → ℕ) : Type 0 where
  pub same : layout to ≡ layout from
  pub hand : (k : ℕ) → on_hand to k + pic k ≡ on_hand from k + rec k + ret k
  pub gone : (k : ℕ) → out to k + ret k + ord k ≡ out from k + pic k

-- what a movement needs of the shelf
abbrev Allowed : {I : Type 0} → Stock I → Movement → Type 0
Allowed s (receipt k n) = (k < length (layout s).items) × (on_hand s k + out s k + n ≤ 60000)
Allowed s (pick k) = (k < length (layout s).items) × (0 < on_hand s k)
Allowed s (order k) = (k < length (layout s).items) × (0 < out s k)
Allowed s (return k) = (k < length (layout s).items) × (0 < out s k)
Allowed s nothing = Unit {0}

-- a right answer moves what the shelf allows
module _ {I : Type 0} (s : Stock I) where
  pub allowed : (call : Call I) (answer : Answer I) → Right (layout s) (on_hand s) (out s) call answer → Allowed s (movement call answer)
  allowed (receives k n) a h = grind arith
  allowed (picks R c) a (inl h) = rw h.1 tt
  allowed (picks R c) a (inr (_, inl h)) = rw h.1 tt
  allowed (picks R c) a (inr (_, inr (_, inl h))) = rw h.1 tt
  allowed (picks R c) a (inr (_, inr (_, inr (_, h)))) =
      rw h.1 (slice_get_within (layout s).items h.0 h.2.item h.2.serves.stands, h.2.serves.some)
  allowed (orders number k) a h = grind arith
  allowed (returns number k) a h = grind arith
  allowed (asks_place k) a h = tt
  allowed asks_places a h = tt

-- the counts at any place, after those of the place k were set
module _ {I : Type 0} (s : Stock I) (k h o : ℕ) (within : k < length (layout s).items) (j : ℕ) where
  set_counts : ((k ≡ j) × (on_hand (with_counts s k h o) j ≡ h) × (out (with_counts s k h o) j ≡ o) × (on_hand s k ≡ on_hand s j) × (out s k ≡ out s j))
      ⊎ ((k ≢ j) × (on_hand (with_counts s k h o) j ≡ on_hand s j) × (out (with_counts s k h o) j ≡ out s j))
  set_counts = go (ℕ_discrete k j)
    where
      go : Dec (k ≡ j) → ((k ≡ j) × (on_hand (with_counts s k h o) j ≡ h) × (out (with_counts s k h o) j ≡ o) × (on_hand s k ≡ on_hand s j) × (out s k ≡ out s j))
          ⊎ ((k ≢ j) × (on_hand (with_counts s k h o) j ≡ on_hand s j) × (out (with_counts s k h o) j ≡ out s j))
      go (yes e) = inl (
        e,
        subst (λ (x : ℕ). on_hand (with_counts s k h o) x ≡ h) e (count_same (λ (p : Place I). p.on_hand) s.places k h o h (λ i. refl) within),
        subst (λ (x : ℕ). out (with_counts s k h o) x ≡ o) e (count_same (λ (p : Place I). p.out) s.places k h o o (λ i. refl) within),
        ap (on_hand s) e,
        ap (out s) e,
      )
      go (no ne) = inr (ne, count_other (λ (p : Place I). p.on_hand) s.places k h o j ne, count_other (λ (p : Place I). p.out) s.places k h o j ne)

module _ {I : Type 0} (from : Stock I) (rec pic ord ret : ℕ → ℕ) (s : Stock I) (was : Balance from s rec pic ord ret) where
  kept_layout : (k h o : ℕ) → layout (with_counts s k h o) ≡ layout from
  kept_layout k h o = ap (λ (is : List I). record { number = s.number; items = is }) (items_recounted s.places k h o) ∙ was.same

  moves : (m : Movement) → Allowed s m
      → Balance from (moved s m) (λ k. rec k + receives_at m k) (λ k. pic k + picks_at m k) (λ k. ord k + orders_at m k) (λ k. ret k + returns_at m k)
  moves (receipt k n) (within, may) =
      let set = set_counts s k (on_hand s k + n) (out s k) within in
      record { same = kept_layout k _ _; hand = λ j. let now = set j in grind (arith, at_same, at_other, was.hand j); gone = λ j. let now = set j in grind (arith, at_same, at_other, was.gone j) }
  moves (pick k) (within, may) =
      let set = set_counts s k (on_hand s k - 1) (out s k + 1) within in
      record { same = kept_layout k _ _; hand = λ j. let now = set j in grind (arith, at_same, at_other, was.hand j); gone = λ j. let now = set j in grind (arith, at_same, at_other, was.gone j) }
  moves (order k) (within, may) =
      let set = set_counts s k (on_hand s k) (out s k - 1) within in
      record { same = kept_layout k _ _; hand = λ j. let now = set j in grind (arith, at_same, at_other, was.hand j); gone = λ j. let now = set j in grind (arith, at_same, at_other, was.gone j) }
  moves (return k) (within, may) =
      let set = set_counts s k (on_hand s k + 1) (out s k - 1) within in
      record { same = kept_layout k _ _; hand = λ j. let now = set j in grind (arith, at_same, at_other, was.hand j); gone = λ j. let now = set j in grind (arith, at_same, at_other, was.gone j) }
  moves nothing ok = record { same = was.same; hand = λ j. omega (arith, was.hand j); gone = λ j. omega (arith, was.gone j) }

pub balance : {I : Type 0} (from : Stock I) (past : List (Event I)) (s : Stock I) → Goes from past s → Balance from s (received past) (picked past) (ordered past) (returned past)
balance {I} from [] s e =
    let start : Balance from from (λ k. 0) (λ k. 0) (λ k. 0) (λ k. 0) = record { same = refl; hand = λ k. omega arith; gone = λ k. omega arith } in
    subst (λ (t : Stock I). Balance from t (λ k. 0) (λ k. 0) (λ k. 0) (λ k. 0)) (sym e) start
balance {I} from (e ∷ past) s (s₁, goes, step) =
    subst (λ (t : Stock I). Balance from t (received (e ∷ past)) (picked (e ∷ past)) (ordered (e ∷ past)) (returned (e ∷ past))) (sym step.change)
    (moves from (received past) (picked past) (ordered past) (returned past) s₁ (balance from past s₁ goes) (movement e.call e.answer) (allowed s₁ e.call e.answer step.right))

-- on hand and out together stay within their limit
module _ {I : Type 0} (s : Stock I) (was : (k : ℕ) → on_hand s k + out s k ≤ 60000) where
  few_moves : (m : Movement) → Allowed s m → (j : ℕ) → on_hand (moved s m) j + out (moved s m) j ≤ 60000
  few_moves (receipt k n) (within, may) j = let now = set_counts s k (on_hand s k + n) (out s k) within j in grind (arith, was k, was j)
  few_moves (pick k) (within, may) j = let now = set_counts s k (on_hand s k - 1) (out s k + 1) within j in grind (arith, was k, was j)
  few_moves (order k) (within, may) j = let now = set_counts s k (on_hand s k) (out s k - 1) within j in grind (arith, was k, was j)
  few_moves (return k) (within, may) j = let now = set_counts s k (on_hand s k + 1) (out s k - 1) within j in grind (arith, was k, was j)
  few_moves nothing ok j = was j

pub stays_few : {I : Type 0} (from : Stock I) → ((k : ℕ) → on_hand from k + out from k ≤ 60000) → (past : List (Event I)) (s : Stock I) → Goes from past s → (k : ℕ) → on_hand s k + out s k ≤ 60000
stays_few {I} from start [] s e k = subst (λ (t : Stock I). on_hand t k + out t k ≤ 60000) (sym e) (start k)
stays_few {I} from start (e ∷ past) s (s₁, goes, step) k =
    subst (λ (t : Stock I). on_hand t k + out t k ≤ 60000) (sym step.change)
    (few_moves s₁ (stays_few from start past s₁ goes) (movement e.call e.answer) (allowed s₁ e.call e.answer step.right) k)
