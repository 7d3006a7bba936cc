use Rattle.section14.proofs.Rows.{table_clears}
use Rattle.section14.proofs.articles.row.Goals as goal

pub returns : goal.returns
returns c = simp c.place_of_row.ensures (table_clears c.args.plan.now _)
