-- What may be wrong with the lines behind an opening.
use Rattle.std.specs.Prelude.{ℕ, ◌+◌, Bool, true, false, cond, not, ◌&&◌, ◌||◌, List, [], ◌∷◌, Some, None, Ok, Err, Option, Result}
use Rattle.bearings.specs.declared.bearing.Plan.{Plan}
use Rattle.bearings.specs.declared.bearing.Plan.TheVariants.{Rectangle, Circle}
use Rattle.judge_lines.specs.declared.entry.Entry.TheVariants as entry
use Rattle.judge_lines.specs.declared.entry.Sort.{Sort}
use Rattle.judge_lines.specs.declared.entry.Sort.TheVariants.{Bearings, Pads, Range}
use Rattle.judge_lines.specs.declared.judgement.Item.{Item}
use Rattle.judge_lines.specs.declared.judgement.Item.TheVariants as item
use Rattle.day_sections.specs.Collecting.{Line}
use Rattle.day_sections.specs.declared.section.Before.{Before}
use Rattle.day_sections.specs.declared.section.Before.TheVariants.{Nothing, Items, Calls}
use Rattle.day_sections.specs.declared.section.SectionFault.{SectionFault}
use Rattle.day_sections.specs.declared.section.SectionFault.TheVariants.{Word, OutOfOrder}

abbrev pub rectangular : Plan → Bool
rectangular (Rectangle length width) = true
rectangular (Circle diameter) = false

-- whether nothing stands before a line, and whether calls do
abbrev pub first : Before → Bool
first Nothing = true
first Items = false
first Calls = false

abbrev pub called : Before → Bool
called Nothing = false
called Items = false
called Calls = true

-- whether a shelf of the sort takes the item: a list of bearings takes bearings, one of pads takes pads, and a range takes one rectangular bearing
abbrev pub takes : Sort → Before → Item → Bool
takes Bearings before (item.Bearing b) = true
takes Bearings before (item.Pad p) = false
takes Pads before (item.Bearing b) = false
takes Pads before (item.Pad p) = true
takes Range before (item.Bearing b) = first before && rectangular b.plan
takes Range before (item.Pad p) = false

-- what stands before the next line; or what is wrong with this one: it can't be read, it is an item that the shelf does not take or that stands behind
-- a call, or an opening
abbrev pub behind_line : Sort → Before → Line → Result Before SectionFault
behind_line sort before (Err fault) = Err (Word fault)
behind_line sort before (Ok (entry.Opening opening)) = Err OutOfOrder
behind_line sort before (Ok (entry.Item i)) = cond (called before || not (takes sort before i)) (Err OutOfOrder) (Ok Items)
behind_line sort before (Ok (entry.Call call)) = Ok Calls

-- a line at fault, and what is wrong with it
abbrev pub Fault : Type 0
Fault = ℕ × SectionFault

-- the fault of the line n, or what comes behind it
abbrev pub fault_at : ℕ → Result Before SectionFault → (Before → Option Fault) → Option Fault
fault_at n (Ok before) next = next before
fault_at n (Err what) next = Some (n, what)

-- the first fault of lines that are numbered from n
abbrev pub fault_from : Sort → Before → (n : ℕ) → List Line → Option Fault
fault_from sort before n [] = None
fault_from sort before n (line ∷ lines) = fault_at n (behind_line sort before line) (λ after. fault_from sort after (n + 1) lines)

-- the first fault of the lines behind an opening, the first of which is the line 0
abbrev pub fault_of : Sort → List Line → Option Fault
fault_of sort lines = fault_from sort Nothing 0 lines
