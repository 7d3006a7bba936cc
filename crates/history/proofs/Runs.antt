-- A list of calls, one call longer.
use Rattle.std.proofs.Common.{◌≡◌, ℕ, ◌+◌, ◌<◌, ◌≤◌, List, [], ◌∷◌, ◌++◌, reverse, length, get_or, take, sym, refl, ap, ◌∙◌, subst, arith, length-take-le}
use mathlib.Core.List.{reverse-append}
use Rattle.std.proofs.lemmas.List.{take_more, take_all}
use Rattle.rulebook.specs.Books.{Rules}
use Rattle.shelf.specs.Calls.{asked}
use Rattle.shelf.specs.Opening.{Opened}
use Rattle.shelf.specs.Steps.{Step}
use Rattle.shelf.specs.Stock.{Stock}
use Rattle.shelf.specs.Answers.{Answer}
use Rattle.shelf.specs.declared.request.Request.{Request}
use Rattle.history.proofs.Bearings.{buckling_so, margin_so}
use Rattle.history.proofs.Law.{goes_on, kept}
use Rattle.history.specs.Guarantee.{Guarantee}
use Rattle.history.specs.History.{Event, event, Goes, events, history_of}

module _ {I : Type 0} (R : Rules I) where
  events_more : (calls : List Request) (answers : List (Answer I)) (call : Request) (answer : Answer I) → length calls ≡ length answers
      → events R (calls ++ (call ∷ [])) (answers ++ (answer ∷ [])) ≡ events R calls answers ++ (event (asked R call) answer ∷ [])
  events_more [] [] call answer e = refl
  events_more [] (a ∷ answers) call answer e = absurd (omega arith)
  events_more (c ∷ calls) [] call answer e = absurd (omega arith)
  events_more (c ∷ calls) (a ∷ answers) call answer e = ap (λ (es : List (Event I)). event (asked R c) a ∷ es) (events_more calls answers call answer (omega arith))

  pub goes_more : (s₀ s s' : Stock I) (calls : List Request) (answers : List (Answer I)) (i : ℕ) (d : Request) (answer : Answer I) → i < length calls → length answers ≡ i
      → Goes s₀ (history_of R (take i calls) answers) s → Step s (asked R (get_or calls i d)) answer s' → Goes s₀ (history_of R (take (i + 1) calls) (answers ++ (answer ∷ []))) s'
  goes_more s₀ s s' calls answers i d answer lt long goes step =
      let even : length (take i calls) ≡ length answers = omega (arith, length-take-le i calls (omega arith)) in
      let is : history_of R (take (i + 1) calls) (answers ++ (answer ∷ [])) ≡ event (asked R (get_or calls i d)) answer ∷ history_of R (take i calls) answers =
      ap reverse (ap (λ (cs : List Request). events R cs (answers ++ (answer ∷ []))) (take_more calls i d lt) ∙ events_more (take i calls) answers (get_or calls i d) answer even)
      ∙ reverse-append (events R (take i calls) answers) (event (asked R (get_or calls i d)) answer ∷ []) in
      subst (λ (es : List (Event I)). Goes s₀ es s') (sym is) (s, goes, step)

-- every call was made
pub goes_all : {I : Type 0} (R : Rules I) (s s' : Stock I) (calls : List Request) (answers : List (Answer I)) (i : ℕ) → length calls ≤ i → Goes s (history_of R (take i calls) answers) s' → Goes s (history_of R calls answers) s'
goes_all {I} R s s' calls answers i all goes = subst (λ (cs : List Request). Goes s (history_of R cs answers) s') (take_all i calls all) goes

-- the guarantee of calls behind whatever history since an opening led to them
pub guaranteed : {I : Type 0} (s s' : Stock I) (now : List (Event I)) → Goes s now s' → (book : Rules I) (opened : Stock I) (past : List (Event I)) → Opened book opened → Goes opened past s
    → Guarantee opened (now ++ past) s'
guaranteed s s' now goes book opened past new before =
    let all = goes_on now past opened s s' before goes in
    record { history = all; kept = kept book opened new (now ++ past) s' all; buckling = buckling_so; margin = margin_so }
