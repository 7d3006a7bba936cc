-- The text of a line's fault.
use Rattle.std.specs.Prelude.{ℕ, List, ◌++◌, codes, decimal}
use Rattle.judge_lines.specs.declared.fault.LineFault.{LineFault}
use Rattle.judge_lines.specs.declared.fault.WordFault.{WordFault}
use Rattle.judge_lines.specs.declared.fault.WordFault.TheVariants.{Missing, NoKind, NotANumber, TooLarge, OneTooMany}

abbrev pub fault_text : WordFault → List ℕ
fault_text Missing = codes "is missing"
fault_text NoKind = codes "is no kind"
fault_text NotANumber = codes "is not a number"
fault_text TooLarge = codes "is too large"
fault_text OneTooMany = codes "is one too many"

-- the word, and what is wrong with it
abbrev pub line_fault_text : LineFault → List ℕ
line_fault_text fault = codes "word " ++ (decimal fault.word ++ (codes " " ++ fault_text fault.what))
