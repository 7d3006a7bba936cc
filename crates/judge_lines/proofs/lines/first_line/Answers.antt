use Rattle.std.proofs.Common.{length, arith, rules}
use Rattle.std.proofs.lemmas.List.Sums.{prefix_len_is}
use Rattle.judge_lines.specs.Lines.{in_line}
use Rattle.judge_lines.proofs.LineCutting.{cut_at, whole}
use Rattle.judge_lines.proofs.lines.first_line.Goals as goal

pub returns-in-Some : goal.returns-in-Some
returns-in-Some c =
    let bytes = c.args.bytes.now in
    let end = c.in-Some.end in
    let cut = cut_at bytes end (prefix_len_is in_line bytes end 0 (search rules) (search rules) (search rules)) in
    record { line = cut.0; rest = cut.1 }

pub returns-in-None : goal.returns-in-None
returns-in-None c =
    let bytes = c.args.bytes.now in
    let cut = whole bytes (prefix_len_is in_line bytes (length bytes) 0 (omega arith) (search rules) (search rules)) in
    record { line = cut.0; rest = cut.1 }
