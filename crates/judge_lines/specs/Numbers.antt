-- The number that a word writes.
use Rattle.std.specs.Prelude.{ℕ, cond, List, Ok, Err, Result, nat_le}
use Rattle.std.specs.Str.Parse.{digits_value}
use Rattle.std.specs.Str.{all_ascii_digits}
use Rattle.judge_lines.specs.declared.fault.WordFault.{WordFault}
use Rattle.judge_lines.specs.declared.fault.WordFault.TheVariants.{NotANumber, TooLarge}

-- decimal digits and nothing else, of a value of at most `largest`
abbrev pub number_in : (largest : ℕ) (word : List ℕ) → Result ℕ WordFault
number_in largest word =
    cond (all_ascii_digits word) (cond (nat_le (digits_value 10 word) largest) (Ok (digits_value 10 word)) (Err TooLarge)) (Err NotANumber)
