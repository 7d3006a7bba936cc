use Rattle.std.proofs.Common.{◌<◌, length, ap, rules}
use Rattle.judge_lines.proofs.LineCutting.{lines_cut}
use Rattle.judge_lines.proofs.lines.LinesIterator.next.Goals as goal

pub returns : goal.returns
returns c =
    let bytes = c.args.self.now.rest.now in
    let some : 0 < length bytes = search rules in
    let cut = lines_cut bytes c.first_line.result.0.now c.first_line.result.1.now some c.first_line.ensures.line c.first_line.ensures.rest in
    let longer = ap length cut in
    record { steps = cut; goes = search rules }
