-- What a line of a shelf's text stands for: the head and what it asks for, a word each.
use Rattle.std.specs.Prelude.{ℕ, cond, List, [], ◌∷◌, Ok, Err, codes, Result}
use Rattle.shelf.specs.declared.request.Request.{Request}
use Rattle.shelf.specs.declared.request.Request.TheVariants as request
use Rattle.std.specs.Str.{bytes_eq}
use Rattle.judge_lines.specs.declared.entry.Call.{Call}
use Rattle.judge_lines.specs.declared.entry.Call.TheVariants as call
use Rattle.judge_lines.specs.declared.entry.Entry.{Entry}
use Rattle.judge_lines.specs.declared.entry.Entry.TheVariants as entry
use Rattle.judge_lines.specs.declared.entry.Head.{Head}
use Rattle.judge_lines.specs.declared.entry.Head.TheVariants as is
use Rattle.judge_lines.specs.declared.entry.Sort.TheVariants as sort
use Rattle.judge_lines.specs.declared.fault.LineFault.{LineFault}
use Rattle.judge_lines.specs.declared.fault.WordFault.{WordFault}
use Rattle.judge_lines.specs.declared.judgement.Kind.{Kind}
use Rattle.judge_lines.specs.Readings.{Reading, done, ◌then◌, next, long, end}
use Rattle.judge_lines.specs.Records.{kind_in, item_of, case, result_of}
use Rattle.judge_lines.specs.Words.{words}

-- the openings and the calls
abbrev pub heads : List (List ℕ × Head)
heads =
    (codes "bearings", is.Opening sort.Bearings)
    ∷ (codes "pads", is.Opening sort.Pads)
    ∷ (codes "range", is.Opening sort.Range)
    ∷ (codes "receive", is.Call call.Receive)
    ∷ (codes "pick", is.Call call.Pick)
    ∷ (codes "order", is.Call call.Order)
    ∷ (codes "return", is.Call call.GiveBack)
    ∷ (codes "place", is.Call call.Place)
    ∷ (codes "places", is.Call call.Places)
    ∷ []

abbrev pub item_head : Result Kind WordFault → Result Head WordFault
item_head (Ok kind) = Ok (is.Item kind)
item_head (Err what) = Err what

-- the head beside the word, where it stands in the list; else the kind of an item
abbrev pub head_among : List (List ℕ × Head) → List ℕ → Result Head WordFault
head_among [] word = item_head (kind_in word)
head_among (row ∷ rows) word = cond (bytes_eq word row.0) (Ok row.1) (head_among rows word)

abbrev pub head_in : List ℕ → Result Head WordFault
head_in word = head_among heads word

abbrev pub head : Reading Head
head = next head_in

abbrev pub call_of : Call → Reading Request
call_of call.Receive = long then λ place. long then λ count. done (request.Receive place count)
call_of call.Pick = case then λ c. done (request.Pick c)
call_of call.Order = long then λ number. long then λ place. done (request.Order number place)
call_of call.GiveBack = long then λ number. long then λ place. done (request.GiveBack number place)
call_of call.Place = long then λ place. done (request.Place place)
call_of call.Places = done request.Places

abbrev pub fields_of : Head → Reading Entry
fields_of (is.Opening s) = long then λ number. done (entry.Opening (record { sort = s; number = number }))
fields_of (is.Item kind) = item_of kind then λ i. done (entry.Item i)
fields_of (is.Call c) = call_of c then λ r. done (entry.Call r)

abbrev pub entry_in : Reading Entry
entry_in = head then λ h. fields_of h then λ e. end then λ _. done e

-- for every line: its entry, or its first fault
abbrev pub entry_of : List ℕ → Result Entry LineFault
entry_of line = result_of (entry_in (record { place = 1; left = words line }))
