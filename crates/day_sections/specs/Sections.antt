-- The sections of lines: each begins with an opening, but for what stands in front of the first opening.
use Rattle.std.specs.Prelude.{ℕ, ◌+◌, Bool, true, false, cond, not, List, [], ◌∷◌, ◌++◌, Ok, Err}
use Rattle.std.specs.List.{prefix_len}
use Rattle.judge_lines.specs.declared.entry.Entry.TheVariants as entry
use Rattle.day_sections.specs.Collecting.{Line}

abbrev pub opens : Line → Bool
opens (Ok (entry.Opening opening)) = true
opens (Ok (entry.Item item)) = false
opens (Ok (entry.Call call)) = false
opens (Err fault) = false

abbrev pub goes_on : Line → Bool
goes_on line = not (opens line)

-- a section that has ended, unless it is empty
abbrev pub ended : List Line → List (List Line)
ended [] = []
ended (line ∷ lines) = (line ∷ lines) ∷ []

-- the sections of `section ++ lines`, where `section` is the beginning of one
abbrev pub sections_after : (section lines : List Line) → List (List Line)
sections_after section [] = ended section
sections_after section (line ∷ lines) = cond (opens line) (ended section ++ sections_after (line ∷ []) lines) (sections_after (section ++ (line ∷ [])) lines)

abbrev pub sections_of : List Line → List (List Line)
sections_of lines = sections_after [] lines

-- how many lines the first section has
abbrev pub section_length : List Line → ℕ
section_length [] = 0
section_length (line ∷ lines) = 1 + prefix_len goes_on lines
