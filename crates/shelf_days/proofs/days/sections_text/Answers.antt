use Rattle.std.proofs.Common.{ℕ, List, ◌++◌, string_bytes, ap, ◌∙◌}
use Rattle.shelf_days.proofs.Sectioned.{numbered_more, onward_more}
use Rattle.shelf_days.proofs.days.sections_text.Goals as goal

pub loop-section-preserved : goal.loop-section-preserved
loop-section-preserved c =
    let cut = c.in-Some.ensures.steps in
    let first = c.loop-section.first in
    let section = c.in-Some.section.now in
    record {
      numbered = numbered_more first _ section _ _ c.loop-section.invariant.numbered cut;
      onward = onward_more first section _ _ _ _ (string_bytes c.in_ok-answered.answered) _ c.loop-section.invariant.onward cut c.in_ok-answered.ensures
          (c.in_ok-push_str.ensures.bytes ∙ ap (λ (xs : List ℕ). string_bytes c.loop-section.text ++ xs) c.as_str.ensures.value);
    }
