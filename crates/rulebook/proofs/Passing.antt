-- What it says of tests that the first failing one is found, or none.
use Rattle.std.proofs.Common.{◌≡◌, ℕ, ◌+◌, ◌≤◌, Bool, true, false, ◌&&◌, eqb, leb, ◌⊎◌, List, [], ◌∷◌, Some, None, Ok, Option, sym, refl, ap, ◌∙◌, inl, inr, arith}
use Rattle.std.proofs.lemmas.Bool.{and_parts, leb-true, ne_eqb}
use Rattle.std.specs.Option.{option_map}
use Rattle.rulebook.specs.Books.{Rules, every, within, refusal, answered, passes, verdict_of}
use Rattle.rulebook.specs.Tests.{between, first_failing}
use Rattle.rulebook.specs.Verdicts.{verdict_by, numbered_0, passing}
use Rattle.rulebook.specs.declared.case.Case.{Case}

-- both ends, as inequalities
pub between_ends : (low x high : ℕ) → between low x high ≡ true → (low ≤ x) × (x ≤ high)
between_ends low x high h =
    let parts = and_parts (leb low x) (leb x high) h in (leb-true low x parts.0, leb-true x high parts.1)

unmapped : (o : Option ℕ) → option_map (λ n. n + 1) o ≡ None → o ≡ None
unmapped None h = refl
unmapped (Some n) h = let clash : ◌≡◌ {A = Option ℕ} (Some (n + 1)) None = h in cc

-- where no test fails, the first passes and none of the others fails
pub none_fails : (test : Bool) (tests : List Bool) → first_failing (test ∷ tests) ≡ None → (test ≡ true) × (first_failing tests ≡ None)
none_fails true tests h = (refl, unmapped (first_failing tests) h)
none_fails false tests h = let clash : ◌≡◌ {A = Option ℕ} (Some 1) None = h in (cc, cc)

-- where every test passes, none fails first, and the other way round
first_or_every : (tests : List Bool) → ((first_failing tests ≡ None) × (every tests ≡ true)) ⊎ ((k : ℕ) × (first_failing tests ≡ Some (k + 1)) × (every tests ≡ false))
first_or_every [] = inl (refl, refl)
first_or_every (false ∷ tests) = inr (0, refl, refl)
first_or_every (true ∷ tests) =
    elim (first_or_every tests) [
      | inl none ↦ inl (ap (option_map (λ n. n + 1)) none.0, none.1)
      | inr some ↦ inr (some.0 + 1, ap (option_map (λ n. n + 1)) some.1, some.2)
    ]

-- an answer that passes is one by every article
passing_by : (tests : List Bool) → passing (Ok (verdict_by (first_failing tests))) ≡ every tests
passing_by tests =
    elim (first_or_every tests) [
      | inl none ↦ ap (λ o. passing (Ok (verdict_by o))) none.0 ∙ sym none.1
      | inr some ↦ ap (λ o. passing (Ok (verdict_by o))) some.1 ∙ sym some.2
    ]

pub passes_so : (outside : Option ℕ) (loads rest : Bool) (tests : List Bool)
    → passing (answered (refusal outside loads rest) (verdict_by (first_failing tests))) ≡ (within outside && (loads && (rest && every tests)))
passes_so None true true tests = passing_by tests
passes_so None true false tests = refl
passes_so None false rest tests = refl
passes_so (Some field) loads rest tests = refl

-- the number of a first failing article is above 0
number_above : (n : ℕ) → false ≡ eqb (n + 1) 0
number_above n = sym (ne_eqb (n + 1) 0 (λ e. omega (arith, e)))

numbered_by : (tests : List Bool) → passing (Ok (verdict_by (first_failing tests))) ≡ numbered_0 (Ok (verdict_by (first_failing tests)))
numbered_by tests =
    elim (first_or_every tests) [
      | inl none ↦ rw none.0
      | inr some ↦ rw some.1 (number_above some.0)
    ]

pub numbered_so : (outside : Option ℕ) (loads rest : Bool) (tests : List Bool)
    → passing (answered (refusal outside loads rest) (verdict_by (first_failing tests))) ≡ numbered_0 (answered (refusal outside loads rest) (verdict_by (first_failing tests)))
numbered_so None true true tests = numbered_by tests
numbered_so None true false tests = refl
numbered_so None false rest tests = refl
numbered_so (Some field) loads rest tests = refl

-- the verdict is number 0 exactly where the item passes
pub numbered_is_passes : {I : Type 0} (R : Rules I) (i : I) (c : Case) → numbered_0 (verdict_of R i c) ≡ passes R i c
numbered_is_passes R i c =
    sym (numbered_so (R.outside i) (R.loads c) (R.rest c) (R.articles i c)) ∙ passes_so (R.outside i) (R.loads c) (R.rest c) (R.articles i c)

within_none : (outside : Option ℕ) → within outside ≡ true → outside ≡ None
within_none None h = refl
within_none (Some field) h = let clash : ◌≡◌ {A = Bool} false true = h in cc

-- what a passing item has: it lies within the limits, and every article holds
pub record Passing {I : Type 0} (R : Rules I) (i : I) (c : Case) : Type 0 where
  pub item : R.outside i ≡ None
  pub loads : R.loads c ≡ true
  pub rest : R.rest c ≡ true
  pub articles : every (R.articles i c) ≡ true

pub passing_parts : {I : Type 0} (R : Rules I) (i : I) (c : Case) → numbered_0 (verdict_of R i c) ≡ true → Passing R i c
passing_parts R i c h =
    let a = and_parts (within (R.outside i)) _ (sym (numbered_is_passes R i c) ∙ h) in
    let b = and_parts (R.loads c) _ a.1 in
    let d = and_parts (R.rest c) _ b.1 in
    record { item = within_none (R.outside i) a.0; loads = b.0; rest = d.0; articles = d.1 }
