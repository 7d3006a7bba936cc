use Rattle.std.proofs.Common.{◌≡◌, min, true, take}
use Rattle.std.specs.Str.Parse.{digits_value}
use Rattle.std.specs.Str.{all_ascii_digits}
use Rattle.judge_lines.proofs.numeral.read_number.Given as goal

abbrev pub invariant-loop-byte : goal.invariant-loop-byte
invariant-loop-byte l =
    (all_ascii_digits (take l.byte-index l.word) ≡ true) × (l.number ≡ min (digits_value 10 (take l.byte-index l.word)) 4294967296)
