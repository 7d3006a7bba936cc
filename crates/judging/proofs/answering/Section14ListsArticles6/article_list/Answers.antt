use Rattle.std.proofs.Common.{◌∙◌}
use Rattle.judging.proofs.Listed.{listed}
use Rattle.judging.proofs.answering.Section14ListsArticles6.article_list.Goals as goal

pub returns : goal.returns
returns c = c.article_list.ensures.is ∙ listed _ _ _
