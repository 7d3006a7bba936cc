use Rattle.std.proofs.Common.{ap, ◌∙◌}
use Rattle.rulebook.proofs.Passing.{passes_so, numbered_so}
use Rattle.rulebook.specs.Verdicts.{passing}
use Rattle.rulebook.proofs.book.item_passes.Goals as goal

pub returns : goal.returns
returns g c =
    let rules = g.B.RuleBook.rules c.args.book.now in
    let item = c.args.item.now in
    let case = c.args.case.now in
    let answer = c.is_pass.ensures ∙ ap passing c.verdict.ensures in
    record {
      is = answer ∙ passes_so (rules.outside item) (rules.loads case) (rules.rest case) (rules.articles item case);
      number = answer ∙ numbered_so (rules.outside item) (rules.loads case) (rules.rest case) (rules.articles item case);
    }
