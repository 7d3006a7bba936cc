-- The account and the choice of every history.
use Rattle.std.proofs.Common.{◌≡◌, ℕ, true, List, [], ◌∷◌, ◌++◌, sym, refl, subst, inl, inr, arith}
use mathlib.Core.Path.{subst₃, fun_ext}
use Rattle.std.proofs.lemmas.Bool.{both_ways}
use Rattle.rulebook.specs.Books.{Rules}
use Rattle.rulebook.specs.declared.case.Case.{Case}
use Rattle.shelf.specs.Answers.{Answer, Right}
use Rattle.shelf.specs.Calls.{Call, picks}
use Rattle.shelf.specs.Opening.{Opened}
use Rattle.shelf.specs.Steps.{Step}
use Rattle.shelf.specs.Stock.{Stock, Layout, layout, on_hand, out}
use Rattle.history.proofs.Balance.{balance, stays_few}
use Rattle.history.specs.Account.{on_hand_by, out_by}
use Rattle.history.specs.History.{Event, event, Goes}
use Rattle.history.specs.Kept.{Accounted, PickSays, Kept}

module _ {I : Type 0} where
  -- a history, cut in two
  pub goes_parts : (newer older : List (Event I)) (s₀ s : Stock I) → Goes s₀ (newer ++ older) s → (s₁ : Stock I) × Goes s₀ older s₁ × Goes s₁ newer s
  goes_parts [] older s₀ s goes = (s, goes, refl)
  goes_parts (e ∷ newer) older s₀ s (s₂, goes, step) = let cut = goes_parts newer older s₀ s₂ goes in (cut.0, cut.1, (s₂, cut.2, step))

  -- two histories, one behind the other
  pub goes_on : (newer older : List (Event I)) (s₀ s s' : Stock I) → Goes s₀ older s → Goes s newer s' → Goes s₀ (newer ++ older) s'
  goes_on [] older s₀ s s' before e = subst (Goes s₀ older) (sym e) before
  goes_on (e ∷ newer) older s₀ s s' before (s₁, goes, step) = (s₁, goes_on newer older s₀ s s₁ before goes, step)

  module _ (R : Rules I) (opened : Stock I) (new : Opened R opened) where
    pub accounted : (past : List (Event I)) (s : Stock I) → Goes opened past s → Accounted opened past s
    accounted past s goes =
        let all = balance opened past s goes in
        record { same = all.same; on_hand_is = λ k. omega (arith, all.hand k, new.none_on_hand k); out_is = λ k. omega (arith, all.gone k, new.none_out k); few = stays_few opened (λ k. omega (arith, new.none_on_hand k, new.none_out k)) past s goes }

    -- what is right by the counts is right by the account
    by_account : (past : List (Event I)) (s : Stock I) (call : Call I) (answer : Answer I) → Goes opened past s
        → Right (layout s) (on_hand s) (out s) call answer → Right (layout opened) (on_hand_by past) (out_by past) call answer
    by_account past s call answer goes right =
        let all = accounted past s goes in
        let hand : on_hand s ≡ on_hand_by past = fun_ext (λ k. omega (arith, all.on_hand_is k)) in
        let gone : out s ≡ out_by past = fun_ext (λ k. omega (arith, all.out_is k)) in
        subst₃ (λ (x : Layout I) (h o : ℕ → ℕ). Right x h o call answer) all.same hand gone right

    -- the call behind a part of a history
    pub call_behind : (newer older : List (Event I)) (call : Call I) (answer : Answer I) (s : Stock I) → Goes opened (newer ++ (event call answer ∷ older)) s
        → (s₁ : Stock I) × (s₂ : Stock I) × Goes opened older s₁ × Step s₁ call answer s₂
    call_behind newer older call answer s goes =
        let cut = goes_parts newer (event call answer ∷ older) opened s goes in
        let last = cut.1 in
        (last.0, cut.0, last.1, last.2)

    right_behind : (newer older : List (Event I)) (call : Call I) (answer : Answer I) (s : Stock I) → Goes opened (newer ++ (event call answer ∷ older)) s
        → Right (layout opened) (on_hand_by older) (out_by older) call answer
    right_behind newer older call answer s goes =
        let at = call_behind newer older call answer s goes in by_account older at.0 call answer at.2 at.3.right

    pub kept : (past : List (Event I)) (s : Stock I) → Goes opened past s → Kept opened past s
    kept past s goes = record {
      account = λ newer older e.
          let cut = goes_parts newer older opened s (subst (λ (es : List (Event I)). Goes opened es s) e goes) in
          (cut.0, cut.1, cut.2, accounted older cut.0 cut.1);
      choice = λ newer older R c answer e loads rest.
          pick_says R (layout opened) (on_hand_by older) (out_by older) c answer (right_behind newer older (picks R c) answer s (subst (λ (es : List (Event I)). Goes opened es s) e goes)) loads rest;
      answers = λ newer older call answer e.
          right_behind newer older call answer s (subst (λ (es : List (Event I)). Goes opened es s) e goes);
    }
      where
        pick_says : (R : Rules I) (shelf : Layout I) (hand gone : ℕ → ℕ) (c : Case) (answer : Answer I) → Right shelf hand gone (picks R c) answer
            → R.loads c ≡ true → R.rest c ≡ true → PickSays R shelf hand c answer
        pick_says R shelf hand gone c answer (inl h) loads rest = absurd (both_ways (R.loads c) h.0 loads)
        pick_says R shelf hand gone c answer (inr (_, inl h)) loads rest = absurd (both_ways (R.rest c) h.0 rest)
        pick_says R shelf hand gone c answer (inr (_, inr (_, inl h))) loads rest = record { eight = (λ e. h.0, λ none. h.1); names = λ ne. absurd (ne h.1) }
        pick_says R shelf hand gone c answer (inr (_, inr (_, inr (some, h)))) loads rest =
            record { eight = (λ e. cc (e, h.1), λ none. absurd (some none)); names = λ ne. h }
