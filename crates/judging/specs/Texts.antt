-- The text of an answer.
use Rattle.std.specs.Prelude.{ℕ, Bool, true, false, List, [], ◌++◌, codes, decimal, slice_index_or, Ok, Err, Result}
use Rattle.judge_lines.specs.Lines.{lines_of}
use Rattle.pads.specs.Book.{pad_names}
use Rattle.rulebook.specs.Refusals.{number_of, reason_text}
use Rattle.rulebook.specs.Verdicts.{verdict_number}
use Rattle.rulebook.specs.declared.verdict.Verdict.{Verdict}
use Rattle.section14.specs.Book.{section14_names}
use Rattle.judge_lines.specs.Texts.{fault_text}
use Rattle.std.specs.List.{flat_map}
use Rattle.judging.specs.Answers.{answer_to}
use Rattle.judging.specs.declared.answer.Judged.{Judged}
use Rattle.judging.specs.declared.answer.Judged.TheVariants.{Bearing, Pad}
use Rattle.judging.specs.declared.answer.NoVerdict.{NoVerdict}
use Rattle.judging.specs.declared.answer.NoVerdict.TheVariants.{NoJudgement, Refused}

abbrev pub held_text : Bool → List ℕ
held_text true = codes "held"
held_text false = codes "violated"

-- the article at the place k of the list, counted from 0: its name, and whether it holds
abbrev pub article : List (List ℕ) → List Bool → ℕ → List ℕ
article names articles k = slice_index_or names k [] ++ (codes " " ++ held_text (slice_index_or articles k false))

-- the verdict, and the first three articles
abbrev pub verdict_text : List (List ℕ) → Verdict → List Bool → List ℕ
verdict_text names verdict articles =
    codes "verdict " ++ (decimal (verdict_number verdict)
    ++ (codes ": " ++ (article names articles 0
    ++ (codes ", " ++ (article names articles 1
    ++ (codes ", " ++ article names articles 2))))))

abbrev pub judged_text : Judged → List ℕ
judged_text (Bearing verdict articles) =
    verdict_text section14_names verdict articles
    ++ (codes ", " ++ (article section14_names articles 3
    ++ (codes ", " ++ (article section14_names articles 4
    ++ (codes ", " ++ article section14_names articles 5)))))
judged_text (Pad verdict articles) = verdict_text pad_names verdict articles ++ (codes ", " ++ article pad_names articles 3)

abbrev pub no_verdict_text : NoVerdict → List ℕ
no_verdict_text (NoJudgement fault) = codes "no judgement: word " ++ (decimal fault.word ++ (codes " " ++ fault_text fault.what))
no_verdict_text (Refused why) = codes "refused " ++ (decimal (number_of why) ++ (codes ": " ++ reason_text why))

abbrev pub answer_text : Result Judged NoVerdict → List ℕ
answer_text (Ok judged) = judged_text judged
answer_text (Err why) = no_verdict_text why

abbrev pub line_text : List ℕ → List ℕ
line_text line = answer_text (answer_to line) ++ codes "\n"

abbrev pub answers_text : List ℕ → List ℕ
answers_text input = flat_map line_text (lines_of input)
