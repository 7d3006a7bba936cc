-- What it says of an item and a case that they are admitted, or refused.
use Rattle.std.proofs.Common.{◌≡◌, ℕ, Bool, true, false, Some, None, Ok, Err, Option, IfNone, refl}
use Rattle.rulebook.specs.Books.{refusal, answered, within}
use Rattle.rulebook.specs.Cases.{loads_within, rest_within}
use Rattle.rulebook.specs.declared.case.Case.{Case}
use Rattle.rulebook.specs.declared.refusal.Refusal.{Refusal}
use Rattle.std.proofs.lemmas.Bool.{false≢true}
use Rattle.bearings.proofs.Inequalities.{BearingWithin, CaseWithin, bearing_within, case_within}
use Rattle.bearings.specs.Bounds.{Range, SidesWithin}
use Rattle.bearings.specs.Forms.{AreaOf, ShapeAreaOf}
use Rattle.bearings.specs.Limits.{bearing_outside}
use Rattle.bearings.specs.declared.admitted.Admitted.{Admitted}
use Rattle.bearings.specs.declared.bearing.Bearing.{Bearing}
use Rattle.bearings.specs.declared.bearing.Plan.{Plan}
use Rattle.bearings.specs.declared.form.Form.{Form}

-- an item and a case that both lie within their limits
pub record BothWithin (outside : Option ℕ) (c : Case) : Type 0 where
  pub item : outside ≡ None
  pub item_within : within outside ≡ true
  pub loads : loads_within c ≡ true
  pub rest : rest_within c ≡ true
  pub demand : CaseWithin c

parts : (outside : Option ℕ) (loads rest : Bool) → Ok tt ≡ answered {A = Unit {0}} (refusal outside loads rest) tt → (outside ≡ None) × (within outside ≡ true) × (loads ≡ true) × (rest ≡ true)
parts None true true h = (refl, refl, refl, refl)
parts None true false h = (refl, refl, refl, cc)
parts None false rest h = (refl, refl, cc, cc)
parts (Some field) loads rest h = (cc, cc, cc, cc)

pub admitted : (outside : Option ℕ) (c : Case) → Ok tt ≡ answered {A = Unit {0}} (refusal outside (loads_within c) (rest_within c)) tt → BothWithin outside c
admitted outside c h =
    let so = parts outside (loads_within c) (rest_within c) h in
    record { item = so.0; item_within = so.1; loads = so.2; rest = so.3; demand = case_within c so.2 so.3 }

pub refused : (o : Option Refusal) (why : Refusal) → Err why ≡ answered {A = Unit {0}} o tt → o ≡ Some why
refused None why h = cc
refused (Some other) why h = cc

-- what holds of an item within its limits
pub where_none : {P : Type 0} (o : Option ℕ) → o ≡ None → IfNone o P → P
where_none None h p = p
where_none (Some field) h p = cc

pub none_outside : (outside : Option ℕ) → within outside ≡ true → outside ≡ None
none_outside None h = refl
none_outside (Some field) h = absurd (false≢true h)

-- what is admitted is not refused
admitted_none : (outside : Option ℕ) (loads rest : Bool) → within outside ≡ true → loads ≡ true → rest ≡ true → refusal outside loads rest ≡ None
admitted_none None true true i l r = refl
admitted_none None true false i l r = absurd (false≢true r)
admitted_none None false rest i l r = absurd (false≢true l)
admitted_none (Some field) loads rest i l r = absurd (false≢true i)

pub not_refused : {I : Type 0} {d : _} (a : Admitted I d) → refusal (d.outside a.item) (loads_within a.case) (rest_within a.case) ≡ None
not_refused a = admitted_none _ _ _ a.item_within a.loads_within a.rest_within

-- the form of an admitted item, by its plan and the thickness of a layer
pub record FormKept (plan : Plan) (h : ℕ) (form : Form) : Type 0 where
  pub sides : SidesWithin plan
  pub thickness : Range 4 h 48
  pub area_is : AreaOf plan form.area
  pub area_small : Range 1 form.area.top 2272000 × Range 1 form.area.bottom 1808
  pub shape_area_is : ShapeAreaOf plan h form.shape_area
  pub shape_area_small : Range 1 form.shape_area.top 181760000 × Range 1 form.shape_area.bottom 43392

pub form_kept : {I : Type 0} {d : _} (a : Admitted I d) → FormKept (d.plan a.item) (d.thickness a.item) a.form
form_kept a = record {
  sides = a.sides;
  thickness = a.thickness;
  area_is = a.area_is;
  area_small = a.area_small;
  shape_area_is = a.shape_area_is;
  shape_area_small = a.shape_area_small;
}

pub bearing_so : (b : Bearing) → within (bearing_outside b) ≡ true → BearingWithin b
bearing_so b h = bearing_within b (none_outside (bearing_outside b) h)
