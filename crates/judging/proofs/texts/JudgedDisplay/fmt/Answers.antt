use Rattle.judging.proofs.texts.JudgedDisplay.fmt.Goals as goal

pub returns-in-Pad-clause-writes : goal.returns-in-Pad-clause-writes
returns-in-Pad-clause-writes g c = λ plain ok. rw c.in-Pad.is (c.write-in-Pad.ensures.writes plain ok)
