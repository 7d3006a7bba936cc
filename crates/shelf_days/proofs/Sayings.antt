-- The text of the calls on a shelf that was just opened.
use Rattle.std.proofs.Common.{◌≡◌, ℕ, List, [], ◌∷◌, ◌++◌, map, length, Some, Ok, codes, refl, ap, ◌∙◌, subst, ap₂, inr}
use Rattle.std.proofs.lemmas.List.{length-map}
use Rattle.std.specs.List.{flat_map, slice_get}
use Rattle.bearings.specs.declared.bearing.Bearing.{Bearing}
use Rattle.history.specs.History.{Goes, history_of}
use Rattle.list_shelf.specs.Slots.{places_of, slot_items, emptied}
use Rattle.list_shelf.specs.declared.slot.Slot.{Slot}
use Rattle.range_shelf.specs.Range.{range_of, RangeOpenable}
use Rattle.rulebook.specs.Books.{Rules}
use Rattle.section14.specs.Book.{section14_rules}
use Rattle.shelf.specs.Answers.{Answer}
use Rattle.shelf.specs.Calls.{asks_places}
use Rattle.shelf.specs.Opening.{Openable}
use Rattle.shelf.specs.Steps.{Step}
use Rattle.shelf.specs.Stock.{Stock, layout}
use Rattle.shelf.specs.declared.answer.Granted.TheVariants.{Counted}
use Rattle.shelf.specs.declared.answer.Place.{Place}
use Rattle.shelf.specs.declared.answer.Places.{Places}
use Rattle.shelf.specs.declared.request.Request.{Request}
use Rattle.shelf_texts.specs.Texts.{answer_line, opened_text}
use Rattle.judge_lines.specs.declared.judgement.Item.{Item}
use Rattle.judge_lines.specs.declared.judgement.Item.TheVariants as item
use Rattle.shelf_days.specs.Days.{CallsSay, ListSays, RangeTextSays, freshly}

-- the answer to the question about the places
places_are : {I : Type 0} (s : Stock I) (places : Places) → Step s asks_places (Ok (Counted places.number places.count)) s → places ≡ record { count = length s.places; number = s.number }
places_are {I} s places step =
    let counted : places.count ≡ length (layout s).items = cc step.right in
    let numbered : places.number ≡ s.number = cc step.right in
    ap₂ (λ (n m : ℕ). record { count = n; number = m }) (counted ∙ length-map s.places (λ (p : Place I). p.item)) numbered

pub calls_say : {I : Type 0} (R : Rules I) (written : I → Item) (s s' : Stock I) (calls : List Request) (places : Places) (before after slice new : List (Answer I)) (head text : List ℕ)
    → Step s asks_places (Ok (Counted places.number places.count)) s → before ≡ [] → slice ≡ after → after ≡ before ++ new → length new ≡ length calls → Goes s (history_of R calls new) s'
    → head ≡ opened_text places ++ codes "\n" → text ≡ head ++ flat_map (answer_line written) slice → CallsSay R written s calls text
calls_say {I} R written s s' calls places before after slice new head text step none whole more long goes headed is =
    let all : slice ≡ new = whole ∙ more ∙ ap (λ (xs : List (Answer I)). xs ++ new) none in (
      new,
      s',
      long,
      goes,
      is ∙ ap₂ (λ (h : List ℕ) (xs : List (Answer I)). h ++ flat_map (answer_line written) xs) (headed ∙ ap (λ (p : Places). opened_text p ++ codes "\n") (places_are s places step)) all,
    )

-- slots with their counts set to 0 are the shelf of their items as it is opened
fresh_places : {I : Type 0} (slots : List (Slot I)) → map emptied (places_of slots) ≡ map (λ i. record { item = i; on_hand = 0; out = 0 }) (slot_items slots)
fresh_places [] = refl
fresh_places (slot ∷ slots) = ap (λ ps. record { item = slot.item; on_hand = 0; out = 0 } ∷ ps) (fresh_places slots)

freshly_opened : {I : Type 0} (number : ℕ) (slots : List (Slot I)) → record { number = number; places = map emptied (places_of slots) } ≡ freshly number (slot_items slots)
freshly_opened {I} number slots = ap (λ (ps : List (Place I)). record { number = number; places = ps }) (fresh_places slots)

-- a list shelf that was opened, and its calls
pub list_says : {I : Type 0} (R : Rules I) (written : I → Item) (number : ℕ) (slots : List (Slot I)) (s : Stock I) (calls : List Request) (text : List ℕ) → Openable R.outside number (slot_items slots)
    → s ≡ record { number = number; places = map emptied (places_of slots) } → CallsSay R written s calls text → ListSays R written number (slot_items slots) calls text
list_says {I} R written number slots s calls text may is says = inr (may, subst (λ (x : Stock I). CallsSay R written x calls text) (is ∙ freshly_opened number slots) says)

-- the text of a range shelf from its first bearing
pub first_says : (number : ℕ) (bearings : List Bearing) (b : Bearing) (calls : List Request) (text : List ℕ) → Some b ≡ slice_get bearings 0 → RangeTextSays number (b ∷ []) calls text → RangeTextSays number bearings calls text
first_says number [] b calls text first says = cc
first_says number (x ∷ xs) b calls text first says = let same : b ≡ x = cc in subst (λ (y : Bearing). RangeTextSays number (y ∷ xs) calls text) same says

-- a range shelf that was opened from the first of the bearings, and its calls
pub range_says : (number : ℕ) (b : Bearing) (s : Stock Bearing) (calls : List Request) (text : List ℕ) → RangeOpenable number b
    → s ≡ record { number = number; places = range_of b (λ _. 0) (λ _. 0) } → CallsSay section14_rules item.Bearing s calls text → RangeTextSays number (b ∷ []) calls text
range_says number b s calls text may is says = inr (may, subst (λ (x : Stock Bearing). CallsSay section14_rules item.Bearing x calls text) is says)
