use Rattle.std.proofs.Common.{sym, ◌∙◌}
use Rattle.judge_lines.proofs.Counting.{digits_more, counted_more, number_not}
use Rattle.judge_lines.proofs.numeral.read_number.Goals as goal

pub returns-then-not-is_ascii_digit-clause-is : goal.returns-then-not-is_ascii_digit-clause-is
returns-then-not-is_ascii_digit-clause-is c =
    number_not c.args.largest c.args.word.now c.loop-byte.byte-index c.loop-byte-test.true (sym c.if-not-is_ascii_digit.ensures.value)

pub loop-byte-preserved : goal.loop-byte-preserved
loop-byte-preserved c = (
  digits_more c.args.word.now c.loop-byte.byte-index c.loop-byte-test.true c.loop-byte.invariant.0 (sym c.if-not-is_ascii_digit.ensures.value),
  c.min-number.ensures ∙ rw c.from.ensures (counted_more c.args.word.now c.loop-byte.byte-index c.loop-byte.number 4294967296 c.loop-byte-test.true c.loop-byte.invariant.1 c.if-not-is_ascii_digit.ensures.cases),
)
