-- What the reader of a line does, by the readings of its words.
use Rattle.std.specs.Prelude.{◌≡◌, Ok, Err, Result}
use Rattle.judge_lines.specs.Readings.{Point, Outcome, Reading}
use Rattle.judge_lines.specs.Words.{words}
use Rattle.judge_lines.specs.declared.fault.LineFault.{LineFault}
use Rattle.judge_lines.specs.declared.words.Words.{Words}

abbrev pub point_of : Words → Point
point_of w = record { place = w.place; left = words w.rest.now }

abbrev pub outcome : {X : Type 0} → Result X LineFault → Point → Outcome X
outcome (Ok x) p = Ok (x, p)
outcome (Err fault) p = Err fault

-- from `before`, where the reader stood, the reading gives `r` and leaves it at `after`
abbrev pub Reads : {X : Type 0} → Reading X → (before after : Words) → Result X LineFault → Type 0
Reads reading before after r = outcome r (point_of after) ≡ reading (point_of before)
