use Rattle.std.proofs.Common.{◌≡◌, ◌++◌, string_bytes}
use Rattle.judging.specs.Texts.{answers_text, line_text}
use Rattle.judge_lines.specs.Lines.{lines_of}
use Rattle.std.specs.List.{flat_map}
use Rattle.judging.proofs.lines.answers.Given as goal

abbrev pub invariant-loop-line : goal.invariant-loop-line
invariant-loop-line l = string_bytes l.text ++ flat_map line_text (lines_of l.line-iterator.rest.now) ≡ answers_text l.input
