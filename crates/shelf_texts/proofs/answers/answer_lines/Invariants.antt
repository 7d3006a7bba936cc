use Rattle.std.proofs.Common.{◌≡◌, take, string_bytes}
use Rattle.std.specs.List.{flat_map}
use Rattle.shelf_texts.proofs.answers.answer_lines.Given as goal
use Rattle.shelf_texts.specs.Texts.{answer_line}

abbrev pub invariant-loop-answer : goal.invariant-loop-answer
invariant-loop-answer g l = string_bytes l.text ≡ flat_map (answer_line g.I.AsItem.written) (take l.answer-index l.answers)
