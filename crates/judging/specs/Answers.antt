-- The answer to a line.
use Rattle.std.specs.Prelude.{ℕ, Bool, List, Ok, Err, Result}
use Rattle.std.specs.Result.{result_map_both}
use Rattle.bearings.specs.declared.bearing.Bearing.{Bearing}
use Rattle.bearings.specs.declared.pad.Pad.{Pad}
use Rattle.judge_lines.specs.Records.{judgement_of}
use Rattle.judge_lines.specs.declared.fault.LineFault.{LineFault}
use Rattle.judge_lines.specs.declared.judgement.Item.{Item}
use Rattle.judge_lines.specs.declared.judgement.Item.TheVariants as item
use Rattle.judge_lines.specs.declared.judgement.Judgement.{Judgement}
use Rattle.pads.specs.Book.{pad_rules}
use Rattle.rulebook.specs.Books.{Rules, verdict_of}
use Rattle.rulebook.specs.declared.case.Case.{Case}
use Rattle.rulebook.specs.declared.refusal.Refusal.{Refusal}
use Rattle.rulebook.specs.declared.verdict.Verdict.{Verdict}
use Rattle.section14.specs.Book.{section14_rules}
use Rattle.judging.specs.declared.answer.Judged.{Judged}
use Rattle.judging.specs.declared.answer.Judged.TheVariants as judged_as
use Rattle.judging.specs.declared.answer.NoVerdict.{NoVerdict}
use Rattle.judging.specs.declared.answer.NoVerdict.TheVariants.{NoJudgement, Refused}

-- whether each article of a book holds, unless the book refuses
abbrev pub articles_of : {I : Type 0} → Rules I → I → Case → Result (List Bool) Refusal
articles_of R i c = result_map_both (λ verdict. R.articles i c) (λ why. why) (verdict_of R i c)

-- the verdict, and beside it each article
abbrev pub findings : {I : Type 0} → Rules I → I → Case → Result (Verdict × List Bool) Refusal
findings R i c = result_map_both (λ verdict. (verdict, R.articles i c)) (λ why. why) (verdict_of R i c)

abbrev pub bearing_judged : Bearing → Case → Result Judged Refusal
bearing_judged b c = result_map_both (λ found. judged_as.Bearing found.0 found.1) (λ why. why) (findings section14_rules b c)

abbrev pub pad_judged : Pad → Case → Result Judged Refusal
pad_judged p c = result_map_both (λ found. judged_as.Pad found.0 found.1) (λ why. why) (findings pad_rules p c)

abbrev pub item_judged : Item → Case → Result Judged Refusal
item_judged (item.Bearing b) c = bearing_judged b c
item_judged (item.Pad p) c = pad_judged p c

abbrev pub answer_of : Result Judgement LineFault → Result Judged NoVerdict
answer_of (Ok judgement) = result_map_both (λ judged. judged) Refused (item_judged judgement.item judgement.case)
answer_of (Err fault) = Err (NoJudgement fault)

abbrev pub answer_to : List ℕ → Result Judged NoVerdict
answer_to line = answer_of (judgement_of line)
