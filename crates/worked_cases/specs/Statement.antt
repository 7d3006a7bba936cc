-- The thirteen worked cases, from the definitions alone.
use Rattle.std.specs.Prelude.{◌≡◌, List, [], ◌∷◌, map, Ok, Result}
use Rattle.rulebook.specs.Books.{verdict_of}
use Rattle.rulebook.specs.declared.case.Case.{Case}
use Rattle.rulebook.specs.declared.refusal.Refusal.{Refusal}
use Rattle.rulebook.specs.declared.verdict.Verdict.{Verdict}
use Rattle.rulebook.specs.declared.verdict.Verdict.TheVariants.{Passes, Fails}
use Rattle.bearings.specs.declared.bearing.Bearing.{Bearing}
use Rattle.bearings.specs.declared.bearing.Plan.TheVariants.{Rectangle}
use Rattle.bearings.specs.declared.pad.Pad.{Pad}
use Rattle.buckling.specs.Cleared.{whole_terms}
use Rattle.buckling.specs.Terms.{X', Y'}
use Rattle.section14.specs.Book.{section14_rules}
use Rattle.pads.specs.Book.{pad_rules}
use Rattle.worked_cases.specs.declared.answers.WorkedAnswers.{WorkedAnswers}
use Rattle.worked_cases.specs.Seats.{bearing, bearing_A, bearing_C, slender, pad, case, case_A}

abbrev pub of_bearing : Bearing → Case → Result Verdict Refusal
of_bearing = verdict_of section14_rules

abbrev pub of_pad : Pad → Case → Result Verdict Refusal
of_pad = verdict_of pad_rules

-- what the definitions answer to cases 1 to 6 and 8 to 13
abbrev pub asked : List (Result Verdict Refusal)
asked =
    -- 1 to 6: bearing A under case A; more live load; more movement; more rotation, twice; thinner laminates
    of_bearing bearing_A case_A
    ∷ of_bearing bearing_A (case 99999 88001 150 155 0 1 1)
    ∷ of_bearing bearing_A (case 100000 88000 151 155 0 1 1)
    ∷ of_bearing bearing_A (case 100000 88000 150 177 0 1 1)
    ∷ of_bearing bearing_A (case 100000 88000 150 156 0 1 1)
    ∷ of_bearing (bearing (Rectangle 20 40) 5 2) case_A
    -- 8 and 9: a slender bearing, with the deck free to translate and not
    ∷ of_bearing slender (case 20000 20000 0 0 0 1 1)
    ∷ of_bearing slender (case 20000 20000 0 0 0 0 1)
    -- 10 and 11: bearing C, a circle
    ∷ of_bearing bearing_C (case 100000 50000 0 45 60 0 0)
    ∷ of_bearing bearing_C (case 100000 50000 0 45 61 0 0)
    -- 12 and 13: a pad
    ∷ of_pad pad (case 60000 40000 25 37 0 1 1)
    ∷ of_pad pad (case 60000 40000 25 38 0 1 1)
    ∷ []

-- all thirteen: the twelve verdicts, and of case 7 X' and Y' of bearing A where the deck is free to translate
abbrev pub ThirteenCases : Type 0
ThirteenCases =
    (asked ≡ (
    Ok Passes
    ∷ Ok (Fails 1)
    ∷ Ok (Fails 2)
    ∷ Ok (Fails 3)
    ∷ Ok (Fails 4)
    ∷ Ok (Fails 6)
    ∷ Ok (Fails 5)
    ∷ Ok Passes
    ∷ Ok Passes
    ∷ Ok (Fails 3)
    ∷ Ok Passes
    ∷ Ok (Fails 3)
    ∷ []))
    × ((X' bearing_A case_A ≡ 122207) × (Y' bearing_A ≡ 41076))

-- the table that `worked_answers` returns is what the definitions answer
abbrev pub AnswersOf : WorkedAnswers → Type 0
AnswersOf r = (map Ok r.verdicts ≡ asked) × (r.terms ≡ whole_terms bearing_A case_A)
