use Rattle.std.proofs.Common.{◌≡◌, ℕ, ◌<◌, ◌≢◌, List, length, get_or, Some, None, sym, refl, ap, ◌∙◌, subst, inl, inr, arith, below_more}
use Rattle.std.proofs.lemmas.List.{length-map}
use Rattle.std.proofs.lemmas.Option.{slice_get_read, slice_get-map, slice_get_within, same_Some}
use Rattle.std.proofs.lemmas.Bool.{eqb-false}
use Rattle.std.specs.List.{slice_get}
use Rattle.std.specs.Option.{option_map}
use Rattle.list_shelf.proofs.slot.ListShelf.check.Goals as goal
use Rattle.list_shelf.specs.Slots.{slot_items}
use Rattle.list_shelf.specs.declared.slot.Slot.{Slot}
use Rattle.shelf.specs.Opening.{AllWithin}

-- the item of a slot that was read
stands : {I : Type 0} (slots : List (Slot I)) (k : ℕ) (slot : Slot I) → k < length slots → slot ≡ get_or slots k slot → slice_get (slot_items slots) k ≡ Some slot.item
stands {I} slots k slot lt is = slice_get-map (λ (x : Slot I). x.item) slots k ∙ ap (option_map (λ (x : Slot I). x.item)) (slice_get_read slots _ k slot refl lt is)

pub loop-place-preserved : goal.loop-place-preserved
loop-place-preserved g c =
    let slots = c.args.slots.now in
    let outside = (g.B.RuleBook.rules c.args.book.now).outside in
    let here = stands slots c.loop-place.place c.index-slots-place.result c.loop-place-test.true c.index-slots-place.is in
    below_more (λ k. (i : g.row.I.Denot) → slice_get (slot_items slots) k ≡ Some i → outside i ≡ None) c.loop-place.place c.loop-place.invariant
    (λ i e. subst (λ (x : g.row.I.Denot). outside x ≡ None) (same_Some _ _ (sym here ∙ e)) (sym c.in_default.ensures))

pub returns : goal.returns
returns g c =
    let slots = c.args.slots.now in
    let n = length-map slots (λ (x : Slot g.row.I.Denot). x.item) in
    let some : length slots ≢ 0 = eqb-false (length slots) 0 (sym c.if-is_empty.ensures) in
    let within : AllWithin (g.B.RuleBook.rules c.args.book.now).outside (slot_items slots) =
    λ k i e. let w = slice_get_within (slot_items slots) k i e in c.loop-place.invariant k (omega (arith, w, c.loop-place-test.false)) i e in
    record {
      says = inr (c.if-number-eq0.false, inr ((λ wrong. elim wrong [ inl none ↦ some (omega arith) | inr more ↦ omega (arith, more, c.if-slots-gt-MOST_ITEMS.false) ]), inr (within, refl)));
      ok = record { numbered = omega (arith, c.if-number-eq0.false); some = omega (arith, some); few = omega (arith, c.if-slots-gt-MOST_ITEMS.false); within = within };
    }
