use Rattle.std.proofs.Common.{◌-◌, length, take, drop, arith, rules}
use Rattle.std.proofs.lemmas.List.Sums.{prefix_len_is, position_or_len_is}
use Rattle.judge_lines.specs.Words.{blank}
use Rattle.judge_lines.proofs.Cutting.{no_word, word_cut}
use Rattle.judge_lines.proofs.words.first_word.Goals as goal

pub returns-in_err-start : goal.returns-in_err-start
returns-in_err-start c =
    let bytes = c.args.bytes.now in
    let none = no_word bytes (prefix_len_is blank bytes (length bytes) 0 (omega arith) (search rules) (search rules)) in
    search rules

pub returns : goal.returns
returns c =
    let bytes = c.args.bytes.now in
    let start = c.in_ok-start.start in
    let at = take (length bytes - start) (drop start bytes) in
    let end = c.unwrap_or-end.result in
    let before = prefix_len_is blank bytes start 0 (search rules) (search rules) (search rules) in
    let size = position_or_len_is blank at end 0 (search rules) (search rules) (search rules) in
    let cut = word_cut bytes start end before (search rules) size in
    record { word = cut.0; shorter = cut.1 }
