use Rattle.buckling.proofs.Exact.{proper_terms}
use Rattle.buckling.proofs.Wholes.{whole_numbers}
use Rattle.buckling.proofs.article.whole_terms.Goals as goal

pub returns-in_err-admitted-clause-rounded : goal.returns-in_err-admitted-clause-rounded
returns-in_err-admitted-clause-rounded c = whole_numbers c.args.bearing.now c.args.case.now

pub returns-in_err-admitted-clause-proper : goal.returns-in_err-admitted-clause-proper
returns-in_err-admitted-clause-proper c = proper_terms c.args.bearing.now c.args.case.now

pub returns-clause-rounded : goal.returns-clause-rounded
returns-clause-rounded c = whole_numbers c.args.bearing.now c.args.case.now

pub returns-clause-proper : goal.returns-clause-proper
returns-clause-proper c = proper_terms c.args.bearing.now c.args.case.now
