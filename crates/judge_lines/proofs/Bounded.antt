-- How large the number of a word at fault may be.
use Rattle.std.proofs.Common.{ℕ, ◌+◌, ◌<◌, ◌≤◌, List, [], ◌∷◌, Ok, Err, Result, IfErr, arith, rules}
use Rattle.bearings.specs.declared.bearing.Bearing.{Bearing}
use Rattle.bearings.specs.declared.bearing.Plan.{Plan}
use Rattle.bearings.specs.declared.bearing.Plan.TheVariants as form
use Rattle.bearings.specs.declared.pad.Pad.{Pad}
use Rattle.judge_lines.specs.Entries.{head_in, head, call_of, fields_of, entry_in, entry_of}
use Rattle.judge_lines.specs.Numbers.{number_in}
use Rattle.judge_lines.specs.Readings.{Point, Outcome, Reading, done, onward, ◌then◌, made_of, next_of, next, byte, short, long, end_of, end}
use Rattle.judge_lines.specs.Records.{kind_in, kind, rectangle, circle, lamination, pad, item_of, case, judgement, result_of, judgement_of}
use Rattle.judge_lines.specs.Words.{words}
use Rattle.rulebook.specs.declared.case.Case.{Case}
use Rattle.shelf.specs.declared.request.Request.{Request}
use Rattle.shelf.specs.declared.request.Request.TheVariants as request
use Rattle.judge_lines.specs.declared.entry.Call.{Call}
use Rattle.judge_lines.specs.declared.entry.Call.TheVariants as call
use Rattle.judge_lines.specs.declared.entry.Entry.{Entry}
use Rattle.judge_lines.specs.declared.entry.Entry.TheVariants as entry
use Rattle.judge_lines.specs.declared.entry.Head.{Head}
use Rattle.judge_lines.specs.declared.entry.Head.TheVariants as is
use Rattle.judge_lines.specs.declared.fault.WordFault.{WordFault}
use Rattle.judge_lines.specs.declared.judgement.Item.{Item}
use Rattle.judge_lines.specs.declared.judgement.Item.TheVariants as item
use Rattle.judge_lines.specs.declared.judgement.Judgement.{Judgement}
use Rattle.judge_lines.specs.declared.judgement.Kind.{Kind}
use Rattle.judge_lines.specs.declared.judgement.Kind.TheVariants as kinds

-- n words at most were read from `place` on, and a word at fault is one of them
abbrev Ends : {X : Type 0} → (n place : ℕ) → Outcome X → Type 0
Ends n place (Ok read) = read.1.place ≤ place + n
Ends n place (Err fault) = fault.word < place + n

abbrev Within : {X : Type 0} → (n : ℕ) → Reading X → Type 0
Within n reading = (p : Point) → Ends n p.place (reading p)

shift : {X : Type 0} (n a k b : ℕ) (o : Outcome X) → a + n ≤ b + k → Ends n a o → Ends k b o
shift n a k b (Ok read) le h = omega arith
shift n a k b (Err fault) le h = omega arith

widen : {X : Type 0} (n k : ℕ) (r : Reading X) → n ≤ k → Within n r → Within k r
widen n k r le h p = shift n p.place k p.place (r p) (omega arith) (h p)

made_ends : {X : Type 0} (r : Result X WordFault) (place : ℕ) (after : List (List ℕ)) → Ends 1 place (made_of r place after)
made_ends (Ok x) place after = omega arith
made_ends (Err what) place after = omega arith

next_ends : {X : Type 0} (make : List ℕ → Result X WordFault) (place : ℕ) (left : List (List ℕ)) → Ends 1 place (next_of make place left)
next_ends make place [] = omega arith
next_ends make place (word ∷ after) = made_ends (make word) place after

next_within : {X : Type 0} (make : List ℕ → Result X WordFault) → Within 1 (next make)
next_within make p = next_ends make p.place p.left

end_ends : (place : ℕ) (left : List (List ℕ)) → Ends 1 place (end_of place left)
end_ends place [] = omega arith
end_ends place (word ∷ after) = omega arith

end_within : Within 1 end
end_within p = end_ends p.place p.left

done_within : {X : Type 0} (x : X) → Within 0 (done x)
done_within x p = omega arith

onward_ends : {X Y : Type 0} (m n place : ℕ) (o : Outcome X) (f : X → Reading Y) → Ends m place o → ((x : X) → Within n (f x)) → Ends (m + n) place (onward o f)
onward_ends m n place (Ok read) f h rest = shift n read.1.place (m + n) place (f read.0 read.1) (omega arith) (rest read.0 read.1)
onward_ends m n place (Err fault) f h rest = omega arith

then_within : {X Y : Type 0} (m n : ℕ) (r : Reading X) (f : X → Reading Y) → Within m r → ((x : X) → Within n (f x)) → Within (m + n) (r then f)
then_within m n r f h rest p = onward_ends m n p.place (r p) f (h p) rest

-- one word, and what follows it
word_then : {X Y : Type 0} (n : ℕ) (make : List ℕ → Result X WordFault) (f : X → Reading Y) → ((x : X) → Within n (f x)) → Within (1 + n) (next make then f)
word_then n make f rest = then_within 1 n (next make) f (next_within make) rest

lamination_within : (plan : Plan) → Within 6 (lamination plan)
lamination_within plan =
    word_then 5 _ _ (λ n. word_then 4 _ _ (λ h. word_then 3 _ _ (λ c. word_then 2 _ _ (λ s. word_then 1 _ _ (λ g. word_then 0 _ _ (λ f. done_within {X = Bearing} (record { plan = plan; layers = n; thickness = h; cover = c; laminate = s; modulus = g; strength = f })))))))

bearing_within : (plan : Plan) → Within 6 (lamination plan then λ b. done (item.Bearing b))
bearing_within plan = then_within 6 0 (lamination plan) _ (lamination_within plan) (λ b. done_within {X = Item} (item.Bearing b))

item_within : (k : Kind) → Within 8 (item_of k)
item_within kinds.Rectangle =
    then_within 2 6 rectangle _ (word_then 1 _ _ (λ l. word_then 0 _ _ (λ w. done_within {X = Plan} (form.Rectangle l w)))) (λ plan. bearing_within plan)
item_within kinds.Circle = widen 7 8 _ (omega arith)
    (then_within 1 6 circle _ (word_then 0 _ _ (λ d. done_within {X = Plan} (form.Circle d))) (λ plan. bearing_within plan))
item_within kinds.Pad = widen 4 8 _ (omega arith)
    (then_within 4 0 pad _ (word_then 3 _ _ (λ l. word_then 2 _ _ (λ w. word_then 1 _ _ (λ h. word_then 0 _ _ (λ g. done_within {X = Pad} (record { length = l; width = w; thickness = h; modulus = g }))))))
    (λ p. done_within {X = Item} (item.Pad p)))

case_within : Within 7 case
case_within =
    word_then 6 _ _ (λ dead. word_then 5 _ _ (λ live. word_then 4 _ _ (λ m. word_then 3 _ _ (λ x. word_then 2 _ _ (λ z. word_then 1 _ _ (λ d. word_then 0 _ _ (λ s. done_within {X = Case} (record { dead = dead; live = live; movement = m; rotation_x = x; rotation_z = z; deck = d; shear = s }))))))))

few : {X : Type 0} (n : ℕ) (o : Outcome X) → Ends n 1 o → IfErr (result_of o) (λ fault. fault.word ≤ n)
few n (Ok read) h = search rules
few n (Err fault) h = omega arith

pub judgement_few : (line : List ℕ) → IfErr (judgement_of line) (λ fault. fault.word ≤ 17)
judgement_few line =
    few 17 _ (word_then 16 kind_in _ (λ k. then_within 8 8 (item_of k) _ (item_within k) (λ i. then_within 7 1 case _ case_within (λ c. then_within 1 0 end _ end_within (λ _. done_within {X = Judgement} (record { item = i; case = c }))))) (record { place = 1; left = words line }))

-- the fields of each call
place_within : (f : ℕ → Request) → Within 1 (long then λ n. done (f n))
place_within f = word_then 0 _ _ (λ n. done_within {X = Request} (f n))

slip_within : (f : ℕ → ℕ → Request) → Within 2 (long then λ a. long then λ b. done (f a b))
slip_within f = word_then 1 _ _ (λ a. place_within (f a))

call_within : (c : Call) → Within 7 (call_of c)
call_within call.Receive = widen 2 7 _ (omega arith) (slip_within (λ place count. request.Receive place count))
call_within call.Pick = then_within 7 0 case _ case_within (λ c. done_within {X = Request} (request.Pick c))
call_within call.Order = widen 2 7 _ (omega arith) (slip_within (λ number place. request.Order number place))
call_within call.GiveBack = widen 2 7 _ (omega arith) (slip_within (λ number place. request.GiveBack number place))
call_within call.Place = widen 1 7 _ (omega arith) (place_within (λ place. request.Place place))
call_within call.Places = widen {X = Request} 0 7 (done request.Places) (omega arith) (done_within {X = Request} request.Places)

fields_within : (h : Head) → Within 8 (fields_of h)
fields_within (is.Opening s) = widen 1 8 _ (omega arith) (word_then 0 _ _ (λ n. done_within {X = Entry} (entry.Opening (record { sort = s; number = n }))))
fields_within (is.Item kind) = then_within 8 0 (item_of kind) _ (item_within kind) (λ i. done_within {X = Entry} (entry.Item i))
fields_within (is.Call c) = widen 7 8 _ (omega arith) (then_within 7 0 (call_of c) _ (call_within c) (λ r. done_within {X = Entry} (entry.Call r)))

pub entry_few : (line : List ℕ) → IfErr (entry_of line) (λ fault. fault.word ≤ 10)
entry_few line =
    few 10 _ (word_then 9 head_in _ (λ h. then_within 8 1 (fields_of h) _ (fields_within h) (λ e. then_within 1 0 end _ end_within (λ _. done_within {X = Entry} e))) (record { place = 1; left = words line }))
