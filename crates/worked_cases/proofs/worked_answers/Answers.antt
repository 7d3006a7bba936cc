use Rattle.worked_cases.proofs.Computed.{thirteen_cases, answers_so}
use Rattle.worked_cases.proofs.worked_answers.Goals as goal

pub returns : goal.returns
returns c = record { joint = thirteen_cases; answers = answers_so }
