use Rattle.section14.proofs.Properly.{every_proper, quantities_proper}
use Rattle.section14.proofs.book.article_list.Goals as goal

pub returns-in_err-admitted-clause-proper : goal.returns-in_err-admitted-clause-proper
returns-in_err-admitted-clause-proper c = every_proper c.args.bearing.now c.args.case.now

pub returns-in_err-admitted-clause-quantities : goal.returns-in_err-admitted-clause-quantities
returns-in_err-admitted-clause-quantities c = quantities_proper c.args.bearing.now

pub returns-clause-proper : goal.returns-clause-proper
returns-clause-proper c = every_proper c.args.bearing.now c.args.case.now

pub returns-clause-quantities : goal.returns-clause-quantities
returns-clause-quantities c = quantities_proper c.args.bearing.now
