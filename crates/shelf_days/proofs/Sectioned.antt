-- The text of sections, one section on.
use Rattle.std.proofs.Common.{◌≡◌, ℕ, ◌+◌, List, [], ◌∷◌, ◌++◌, length, ap, arith, ◌∙◌, sym, refl, subst, append_assoc, append-nil}
use Rattle.std.proofs.lemmas.List.Sums.{sum_by-cons}
use Rattle.std.specs.List.{sum_by}
use Rattle.day_sections.proofs.Parting.{sections_length}
use Rattle.day_sections.specs.Collecting.{Line}
use Rattle.day_sections.specs.Sections.{sections_of}
use Rattle.shelf_days.specs.Days.{SectionSays, DaySays}

-- the number of the line behind a section
pub numbered_start : (lines : List Line) (left : List (List Line)) → left ≡ sections_of lines → 1 + sum_by length left ≡ 1 + length lines
numbered_start lines left same = omega (arith, ap (sum_by length) same ∙ sections_length lines)

pub numbered_more : (n total : ℕ) (section : List Line) (old left : List (List Line)) → n + sum_by length old ≡ total → old ≡ section ∷ left → n + length section + sum_by length left ≡ total
numbered_more n total section old left so cut = omega (arith, ap (sum_by length) cut ∙ sum_by-cons length section left)

-- what is still to come makes the whole: the text so far, with whatever answers the sections left, the first line of which has the number n, answers all
pub record Onward (n : ℕ) (left all : List (List Line)) (text : List ℕ) : Type 0 where
  pub on : (more : List ℕ) → DaySays n left more → DaySays 1 all (text ++ more)

pub onward_start : (left all : List (List Line)) (text : List ℕ) → left ≡ all → text ≡ [] → Onward 1 left all text
onward_start left all text same none = record { on = λ more says. subst (λ (t : List ℕ). DaySays 1 all (t ++ more)) (sym none) (subst (λ (ss : List (List Line)). DaySays 1 ss more) same says) }

pub onward_more : (n : ℕ) (section : List Line) (old left all : List (List Line)) (text answered text' : List ℕ) → Onward n old all text → old ≡ section ∷ left
    → SectionSays n section answered → text' ≡ text ++ answered → Onward (n + length section) left all text'
onward_more n section old left all text answered text' so cut says is =
    record {
      on = λ more later.
          let both : DaySays n (section ∷ left) (answered ++ more) = (answered, more, refl, says, later) in
          let all_of = so.on (answered ++ more) (subst (λ (ss : List (List Line)). DaySays n ss (answered ++ more)) (sym cut) both) in
          subst (DaySays 1 all) (rw (is, append_assoc)) all_of;
    }

pub onward_end : (n : ℕ) (left all : List (List Line)) (text : List ℕ) → Onward n left all text → left ≡ [] → DaySays 1 all text
onward_end n left all text so none = subst (DaySays 1 all) (append-nil text) (so.on [] (subst (λ (ss : List (List Line)). DaySays n ss []) (sym none) refl))
