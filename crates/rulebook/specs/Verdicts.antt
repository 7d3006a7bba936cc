-- Verdicts and their numbers.
use Rattle.std.specs.Prelude.{ℕ, Bool, true, false, Some, None, Ok, Err, Option, Result, ◌==◌}
use Rattle.rulebook.specs.declared.refusal.Refusal.{Refusal}
use Rattle.rulebook.specs.declared.verdict.Verdict.{Verdict}
use Rattle.rulebook.specs.declared.verdict.Verdict.TheVariants.{Passes, Fails}

-- by the first article that does not hold, if any
abbrev pub verdict_by : Option ℕ → Verdict
verdict_by None = Passes
verdict_by (Some article) = Fails article

-- 0 where every article holds, else the number of the first that does not
abbrev pub verdict_number : Verdict → ℕ
verdict_number Passes = 0
verdict_number (Fails article) = article

-- whether an answer is a verdict of number 0
abbrev pub numbered_0 : Result Verdict Refusal → Bool
numbered_0 (Ok verdict) = verdict_number verdict == 0
numbered_0 (Err why) = false

-- whether an answer is a verdict that every article holds
abbrev pub passing : Result Verdict Refusal → Bool
passing (Ok Passes) = true
passing (Ok (Fails article)) = false
passing (Err why) = false
