-- The text that answers the sections of a text of shelves.
use Rattle.std.specs.Prelude.{◌≡◌, ℕ, ◌+◌, cond, ◌⊎◌, List, [], ◌∷◌, ◌++◌, map, length, Some, None, Ok, Err, codes, Option, Result, ◌==◌}
use Rattle.std.specs.List.{filter_map, flat_map}
use Rattle.bearings.specs.declared.bearing.Bearing.{Bearing}
use Rattle.day_sections.specs.Collecting.{Line, bearing_in, pad_in, request_in}
use Rattle.day_sections.specs.Faults.{Fault, fault_of}
use Rattle.day_sections.specs.Texts.{no_shelf_text}
use Rattle.day_sections.specs.declared.section.NoShelf.{NoShelf}
use Rattle.day_sections.specs.declared.section.SectionFault.{SectionFault}
use Rattle.day_sections.specs.declared.section.SectionFault.TheVariants.{Word, OutOfOrder}
use Rattle.history.specs.History.{Goes, history_of}
use Rattle.pads.specs.Book.{pad_rules}
use Rattle.range_shelf.specs.Range.{range_of, RangeOpenable, RangeSays}
use Rattle.rulebook.specs.Books.{Rules}
use Rattle.section14.specs.Book.{section14_rules}
use Rattle.shelf.specs.Answers.{Answer}
use Rattle.shelf.specs.Opening.{Openable, OpeningSays}
use Rattle.shelf.specs.OpeningRefusals.{opening_text}
use Rattle.shelf.specs.Stock.{Stock}
use Rattle.shelf.specs.declared.opening.OpeningRefusal.{OpeningRefusal}
use Rattle.shelf.specs.declared.opening.OpeningRefusal.TheVariants.{ItemCount, ShelfNumber}
use Rattle.shelf.specs.declared.request.Request.{Request}
use Rattle.shelf_texts.specs.Texts.{answer_line, opened_text}
use Rattle.judge_lines.specs.declared.entry.Entry.TheVariants as entry
use Rattle.judge_lines.specs.declared.entry.Opening.{Opening}
use Rattle.judge_lines.specs.declared.entry.Sort.{Sort}
use Rattle.judge_lines.specs.declared.entry.Sort.TheVariants.{Bearings, Pads, Range}
use Rattle.judge_lines.specs.declared.judgement.Item.{Item}
use Rattle.judge_lines.specs.declared.judgement.Item.TheVariants as item

-- a shelf of these items as it is opened: all counts are 0
abbrev pub freshly : {I : Type 0} → ℕ → List I → Stock I
freshly number items = record { number = number; places = map (λ i. record { item = i; on_hand = 0; out = 0 }) items }

abbrev pub refused_line : OpeningRefusal → List ℕ
refused_line why = opening_text why ++ codes "\n"

abbrev pub fault_line : NoShelf → List ℕ
fault_line fault = no_shelf_text fault ++ codes "\n"

-- the text of calls on the shelf s as opened: the line of the opening, and a line for each answer of a history of the calls
abbrev pub CallsSay : {I : Type 0} → Rules I → (I → Item) → Stock I → List Request → List ℕ → Type 0
CallsSay {I} R written s calls text =
    (answers : List (Answer I)) × (s' : Stock I) × (length answers ≡ length calls) × Goes s (history_of R calls answers) s'
    × (text ≡ (opened_text (record { count = length s.places; number = s.number }) ++ codes "\n") ++ flat_map (answer_line written) answers)

-- the text of a list shelf: why it is not opened, or its calls
abbrev pub ListSays : {I : Type 0} → Rules I → (I → Item) → ℕ → List I → List Request → List ℕ → Type 0
ListSays R written number items calls text =
    ((why : OpeningRefusal) × OpeningSays R.outside number items (Err why) × (text ≡ refused_line why))
    ⊎ (Openable R.outside number items × CallsSay R written (freshly number items) calls text)

-- the text of a range shelf from the first of the bearings, likewise; without one it is refused by its number, else for want of an item
abbrev pub RangeTextSays : ℕ → List Bearing → List Request → List ℕ → Type 0
RangeTextSays number [] calls text = text ≡ refused_line (cond (number == 0) ShelfNumber ItemCount)
RangeTextSays number (b ∷ bs) calls text =
    ((why : OpeningRefusal) × RangeSays number b (Err why) × (text ≡ refused_line why))
    ⊎ (RangeOpenable number b × CallsSay section14_rules item.Bearing (record { number = number; places = range_of b (λ _. 0) (λ _. 0) }) calls text)

-- the text of a section without a fault, by the lines behind its opening
abbrev pub ShelfSays : Sort → ℕ → List Line → List ℕ → Type 0
ShelfSays Bearings number lines text = ListSays section14_rules item.Bearing number (filter_map bearing_in lines) (filter_map request_in lines) text
ShelfSays Pads number lines text = ListSays pad_rules item.Pad number (filter_map pad_in lines) (filter_map request_in lines) text
ShelfSays Range number lines text = RangeTextSays number (filter_map bearing_in lines) (filter_map request_in lines) text

-- the opening that the first line of a section is, or what is wrong with that line
abbrev pub opening_of : Line → Result Opening SectionFault
opening_of (Ok (entry.Opening opening)) = Ok opening
opening_of (Ok (entry.Item i)) = Err OutOfOrder
opening_of (Ok (entry.Call call)) = Err OutOfOrder
opening_of (Err fault) = Err (Word fault)

-- an opening, or the first fault of the lines behind it, where the line behind it has the number n
abbrev pub unless_at_fault : Opening → (n : ℕ) → Option Fault → Result Opening NoShelf
unless_at_fault opening n None = Ok opening
unless_at_fault opening n (Some fault) = Err (record { line = n + fault.0; what = fault.1 })

-- the same by the first line of a section, which has the number n, and the lines behind it
abbrev pub opened_by : (n : ℕ) → Result Opening SectionFault → List Line → Result Opening NoShelf
opened_by n (Ok opening) lines = unless_at_fault opening (n + 1) (fault_of opening.sort lines)
opened_by n (Err what) lines = Err (record { line = n; what = what })

-- the text of a section by its opening and the lines behind it: that of its shelf; or the line of its first fault
abbrev pub SectionBy : Result Opening NoShelf → List Line → List ℕ → Type 0
SectionBy (Ok opening) lines text = ShelfSays opening.sort opening.number lines text
SectionBy (Err fault) lines text = text ≡ fault_line fault

-- the text of a section whose first line has the number n
abbrev pub SectionSays : (n : ℕ) → List Line → List ℕ → Type 0
SectionSays n [] text = text ≡ []
SectionSays n (line ∷ lines) text = SectionBy (opened_by n (opening_of line) lines) lines text

-- the text of sections whose first line has the number n: that of each, in their order
abbrev pub DaySays : ℕ → List (List Line) → List ℕ → Type 0
DaySays n [] text = text ≡ []
DaySays n (section ∷ sections) text =
    (first : List ℕ) × (rest : List ℕ) × (text ≡ first ++ rest) × SectionSays n section first × DaySays (n + length section) sections rest
