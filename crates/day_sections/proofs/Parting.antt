-- The first section of lines, and the sections behind it.
use Rattle.std.proofs.Common.{◌≡◌, ◌+◌, ◌<◌, true, false, List, [], ◌∷◌, ◌++◌, length, take, drop, refl, ◌∙◌, ⊎_elim, append_assoc, append-nil, one-add, arith}
use Rattle.std.proofs.lemmas.List.{length-append}
use Rattle.std.proofs.lemmas.List.Sums.{sum_by-append}
use Rattle.std.proofs.lemmas.Bool.{cases_Bool}
use Rattle.std.specs.List.{prefix_len, sum_by}
use Rattle.day_sections.specs.Collecting.{Line}
use Rattle.day_sections.specs.Sections.{opens, goes_on, ended, sections_after, sections_of, section_length}

ended_is : (section : List Line) → 0 < length section → ended section ≡ section ∷ []
ended_is [] h = absurd (omega arith)
ended_is (line ∷ lines) h = refl

-- a line that opens a section begins one wherever it stands
opening_begins : (line : Line) (lines : List Line) → sections_of (line ∷ lines) ≡ sections_after (line ∷ []) lines
opening_begins line lines = grind arith

-- a section goes on to the next opening
section_ends : (section lines : List Line) → 0 < length section
    → sections_after section lines ≡ (section ++ take (prefix_len goes_on lines) lines) ∷ sections_of (drop (prefix_len goes_on lines) lines)
section_ends section [] h = grind (arith, ended_is, append-nil)
section_ends section (line ∷ lines) h =
    ⊎_elim
    (λ (e : opens line ≡ true). rw (e, ended_is section h, append-nil section, e))
    (λ (e : opens line ≡ false).
    let some : 0 < length (section ++ (line ∷ [])) = simp length-append (omega arith) in
    rw (e, one-add (prefix_len goes_on lines)) (section_ends (section ++ (line ∷ [])) lines some ∙ rw (append_assoc section (line ∷ []) (take (prefix_len goes_on lines) lines))))
    (cases_Bool (opens line))

-- what `first_section` answers
pub sections_cut : (lines section rest : List Line) → 0 < length lines → section ≡ take (section_length lines) lines → rest ≡ drop (section_length lines) lines → sections_of lines ≡ section ∷ sections_of rest
sections_cut [] section rest some s r = absurd (omega arith)
sections_cut (line ∷ lines) section rest some s r = grind (arith, opening_begins, section_ends (line ∷ []) lines, one-add)

ended_length : (section : List Line) → sum_by length (ended section) ≡ length section
ended_length [] = refl
ended_length (line ∷ lines) = omega arith

after_length : (section lines : List Line) → sum_by length (sections_after section lines) ≡ length section + length lines
after_length section [] = omega (arith, ended_length section)
after_length section (line ∷ lines) = grind (arith, sum_by-append, ended_length, length-append, after_length (line ∷ []) lines, after_length (section ++ (line ∷ [])) lines)

-- the sections have all of the lines
pub sections_length : (lines : List Line) → sum_by length (sections_of lines) ≡ length lines
sections_length lines = omega (arith, after_length [] lines)
