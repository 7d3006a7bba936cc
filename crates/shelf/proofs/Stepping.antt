-- What stands at a place is shown, a change that it allows is made there, and a change of one place's counts is the step that the call's contract states.
use Rattle.std.proofs.Common.{◌≡◌, ℕ, ◌+◌, ◌-◌, Bool, true, false, cond, ◌||◌, eqb, ltb, ◌≢◌, ◌⊎◌, map, Some, None, Ok, Err, Option, Result, sym, refl, ap, ◌∙◌, subst, ap₂, inl, inr, arith}
use Rattle.std.proofs.lemmas.Bool.{eqb-true, eqb-false, ltb-true, ltb-false, or_cases, or_parts}
use Rattle.std.proofs.lemmas.List.{length-map}
use Rattle.std.proofs.lemmas.Option.{slice_get-map, slice_get_within, slice_get_cases, get_or_from_slice_get, none-some}
use Rattle.std.specs.List.{slice_get}
use Rattle.std.specs.Option.{option_map}
use Rattle.rulebook.specs.declared.refusal.Refusal.{Refusal}
use Rattle.rulebook.specs.declared.refusal.Refusal.TheVariants.{Receipt, NoneOnHand, NoneOut}
use Rattle.shelf.specs.Answers.{done, Off, SlipEnds}
use Rattle.shelf.specs.Calls.{receives, orders, returns, asks_place}
use Rattle.shelf.specs.Changes.{off_shelf, counts_after, place_after, ChangedTo, Changed}
use Rattle.shelf.specs.Steps.{Step, Takes, moved, where_done, Movement, order, return}
use Rattle.shelf.specs.Stock.{Stock, layout, on_hand, out, with_counts}
use Rattle.shelf.specs.declared.answer.Granted.TheVariants.{Shown}
use Rattle.shelf.specs.declared.answer.Place.{Place}
use Rattle.shelf.specs.declared.changes.Change.{Change}
use Rattle.shelf.specs.declared.changes.Change.TheVariants.{Receive, Take, Order, GiveBack}
use Rattle.shelf.specs.declared.counts.Counts.{Counts}

module _ {I : Type 0} (s : Stock I) (k : ℕ) (p : Place I) (there : slice_get s.places k ≡ Some p) where
  pub place_on : Off (layout s) k → ⊥
  place_on off = let w = slice_get_within s.places k p there in let n = length-map s.places (λ (p : Place I). p.item) in omega arith

  read : {X : Type 0} (f : Place I → X) → slice_get (map f s.places) k ≡ Some (f p)
  read f = slice_get-map f s.places k ∙ ap (option_map f) there

  pub hand_is : on_hand s k ≡ p.on_hand
  hand_is = get_or_from_slice_get _ k _ 0 (read (λ (p : Place I). p.on_hand))

  pub out_is : out s k ≡ p.out
  out_is = get_or_from_slice_get _ k _ 0 (read (λ (p : Place I). p.out))

  pub shown_step : Step s (asks_place k) (Ok (Shown p)) s
  shown_step = record {
    right = inr (place_on, (p.item, read (λ (p : Place I). p.item), ap₂ (λ (h o : ℕ). Ok (Shown (record { item = p.item; on_hand = h; out = o }))) (sym hand_is) (sym out_is)));
    change = refl;
  }

  pub changed_so : (change : Change) (counts : Counts) (s' : Stock I) → Ok (counts.on_hand, counts.out) ≡ counts_after change p.on_hand p.out → s' ≡ with_counts s k counts.on_hand counts.out
      → Changed {T = Unit {0}} change k s (Ok tt) s'
  changed_so change counts s' is same = rw there (rw (sym is) same)

pub place_off : {I : Type 0} (s : Stock I) (k : ℕ) → slice_get s.places k ≡ None → Off (layout s) k
place_off {I} s k e = elim (slice_get_cases s.places k).1 [
  | inl (p, lt, there, same) ↦ absurd (none-some p (sym e ∙ there))
  | inr (past, none) ↦ let n = length-map s.places (λ (p : Place I). p.item) in omega arith
]

module _ {I T : Type 0} (s s' : Stock I) (k : ℕ) where
  -- refused off the shelf, else changed by the counts at the place
  Either : Change → Result T Refusal → Type 0
  Either change r =
      (Off (layout s) k × (r ≡ Err (off_shelf change)) × (s' ≡ s))
      ⊎ ((Off (layout s) k → ⊥) × ChangedTo (counts_after change (on_hand s k) (out s k)) k s r s')

  either_at : (change : Change) (r : Result T Refusal) (o : Option (Place I)) → slice_get s.places k ≡ o → ChangedTo (place_after change o) k s r s' → Either change r
  unfolding Either
  either_at change (Ok x) None e h = absurd h
  either_at change (Err why) None e h = inl (place_off s k e, ap Err h.0, h.1)
  either_at change r (Some p) e h =
      inr (place_on s k p e, subst (λ (c : Result (ℕ × ℕ) Refusal). ChangedTo c k s r s') (ap₂ (counts_after change) (sym (hand_is s k p e)) (sym (out_is s k p e))) h)

  either : (change : Change) (r : Result T Refusal) → Changed change k s r s' → Either change r
  either change r h = either_at change r (slice_get s.places k) refl h

  -- a change that a test refuses
  tested : (b : Bool) (why : Refusal) (hand gone : ℕ) (r : Result T Refusal) → ChangedTo (cond b (Err why) (Ok (hand, gone))) k s r s'
      → ((b ≡ true) × (r ≡ Err why) × (s' ≡ s)) ⊎ ((b ≡ false) × ((x : T) × (r ≡ Ok x)) × (s' ≡ with_counts s k hand gone))
  tested true why hand gone (Ok x) h = absurd h
  tested true why hand gone (Err reason) h = inl (refl, ap Err h.0, h.1)
  tested false why hand gone (Ok x) h = inr (refl, (x, refl), h)
  tested false why hand gone (Err reason) h = absurd h

  module _ (n : ℕ) (r : Result T Refusal) where
    pub receive_step : Changed (Receive n) k s r s' → Step s (receives k n) (done r) s'
    unfolding Either
    receive_step h = elim (either (Receive n) r h) [
      | inl off ↦ rw off.1 (record { right = inl (off.0, refl); change = off.2 })
      | inr (on, h) ↦ elim (tested (eqb n 0 || ltb 60000 (on_hand s k + out s k + n)) Receipt (on_hand s k + n) (out s k) r h) [
        | inl (b, e, same) ↦ rw e (record {
          right = inr (on, inl (elim (or_cases (eqb n 0) _ b) [ inl z ↦ inl (eqb-true n 0 z) | inr l ↦ inr (ltb-true 60000 _ l) ], refl));
          change = same;
        })
        | inr (b, (x, e), is) ↦ let parts = or_parts (eqb n 0) _ b in rw e (record {
          right = inr (on, inr ((λ g. elim g [ inl z ↦ eqb-false n 0 parts.0 z | inr l ↦ let m = ltb-false 60000 _ parts.1 in omega arith ]), refl));
          change = is;
        })
      ]
    ]

  module _ (r : Result T Refusal) where
    pub take_step : Changed Take k s r s' → Takes k s (done r) s'
    unfolding Either
    take_step h = elim (either Take r h) [
      | inl off ↦ rw off.1 (record { right = inl (off.0, refl); change = off.2 })
      | inr (on, h) ↦ elim (tested (eqb (on_hand s k) 0) NoneOnHand (on_hand s k - 1) (out s k + 1) r h) [
        | inl (b, e, same) ↦ rw e (record { right = inr (on, inl (eqb-true (on_hand s k) 0 b, refl)); change = same })
        | inr (b, (x, e), is) ↦ rw e (record { right = inr (on, inr (eqb-false (on_hand s k) 0 b, refl)); change = is })
      ]
    ]

    -- the end of a slip of this shelf
    ends : (number : ℕ) → number ≡ s.number → (change : Change) (hand : ℕ) (m : Movement) → off_shelf change ≡ NoneOut → counts_after change (on_hand s k) (out s k) ≡ cond (eqb (out s k) 0) (Err NoneOut) (Ok (hand, out s k - 1))
        → moved s m ≡ with_counts s k hand (out s k - 1) → Changed change k s r s' → SlipEnds (layout s) (out s) number k (done r) × (s' ≡ moved s (where_done {I = I} (done r) m))
    unfolding Either
    ends number same change hand m off after to h =
        let own : number ≢ s.number → ⊥ = λ ne. ne same in
        elim (either change r h) [
          | inl gone ↦ let e = gone.1 ∙ ap Err off in rw e (inr (own, inl (inl gone.0, refl)), gone.2)
          | inr (on, h) ↦
              let h' = subst (λ (c : Result (ℕ × ℕ) Refusal). ChangedTo c k s r s') after h in
              elim (tested (eqb (out s k) 0) NoneOut hand (out s k - 1) r h') [
                | inl (b, e, as_was) ↦ rw e (inr (own, inl (inr (eqb-true (out s k) 0 b), refl)), as_was)
                | inr (b, (x, e), is) ↦ rw e (inr (own, inr ((λ g. elim g [ inl o ↦ on o | inr z ↦ eqb-false (out s k) 0 b z ]), refl)), is ∙ sym to)
              ]
        ]

    pub order_step : (number : ℕ) → number ≡ s.number → Changed Order k s r s' → Step s (orders number k) (done r) s'
    order_step number same h = let e = ends number same Order (on_hand s k) (order k) refl refl refl h in record { right = e.0; change = e.1 }

    pub return_step : (number : ℕ) → number ≡ s.number → Changed GiveBack k s r s' → Step s (returns number k) (done r) s'
    return_step number same h = let e = ends number same GiveBack (on_hand s k + 1) (return k) refl refl refl h in record { right = e.0; change = e.1 }
