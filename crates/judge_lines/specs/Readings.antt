-- Reading the words of a line one after the other, up to the first fault.
use Rattle.std.specs.Prelude.{ℕ, ◌+◌, List, [], ◌∷◌, Ok, Err, Result}
use Rattle.judge_lines.specs.declared.fault.LineFault.{LineFault}
use Rattle.judge_lines.specs.declared.fault.WordFault.{WordFault}
use Rattle.judge_lines.specs.declared.fault.WordFault.TheVariants.{Missing, OneTooMany}
use Rattle.judge_lines.specs.Numbers.{number_in}

-- how far a line is read
pub record Point : Type 0 where
  -- the number of the next word, counted from 1
  pub place : ℕ
  -- the words from it on
  pub left : List (List ℕ)

-- a value, with how far it was read, or the first fault
abbrev pub Outcome : Type 0 → Type 0
Outcome X = Result (X × Point) LineFault

abbrev pub Reading : Type 0 → Type 0
Reading X = Point → Outcome X

abbrev pub done : {X : Type 0} → X → Reading X
done x p = Ok (x, p)

-- what follows a value that was read; a fault stays
abbrev pub onward : {X Y : Type 0} → Outcome X → (X → Reading Y) → Outcome Y
onward (Ok read) next = next read.0 read.1
onward (Err fault) next = Err fault

infixr 20 ◌then◌
abbrev pub ◌then◌ : {X Y : Type 0} → Reading X → (X → Reading Y) → Reading Y
reading then next = λ p. onward (reading p) next

-- what is made of the word at `place`, or what is wrong with it
abbrev pub made_of : {X : Type 0} → Result X WordFault → ℕ → List (List ℕ) → Outcome X
made_of (Ok x) place after = Ok (x, record { place = place + 1; left = after })
made_of (Err what) place after = Err (record { word = place; what = what })

abbrev pub next_of : {X : Type 0} → (List ℕ → Result X WordFault) → ℕ → List (List ℕ) → Outcome X
next_of make place [] = Err (record { word = place; what = Missing })
next_of make place (word ∷ after) = made_of (make word) place after

-- the next word
abbrev pub next : {X : Type 0} → (List ℕ → Result X WordFault) → Reading X
next make p = next_of make p.place p.left

-- a number that a field holds
abbrev pub number : (largest : ℕ) → Reading ℕ
number largest = next (number_in largest)

abbrev pub byte : Reading ℕ
byte = number 255

abbrev pub short : Reading ℕ
short = number 65535

abbrev pub long : Reading ℕ
long = number 4294967295

-- no word is left
abbrev pub end_of : ℕ → List (List ℕ) → Outcome (Unit {0})
end_of place [] = Ok (tt, record { place = place; left = [] })
end_of place (word ∷ after) = Err (record { word = place; what = OneTooMany })

abbrev pub end : Reading (Unit {0})
end p = end_of p.place p.left
