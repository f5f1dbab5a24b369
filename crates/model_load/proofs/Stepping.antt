-- Edits made one after another, and taken back.
use Rattle.std.specs.Prelude.{◌≡◌, ◌+◌, ℕ, List, [], ◌∷◌, ◌++◌, None, Some, Ok, Err, length, reverse, refl}
use Rattle.std.specs.Option.{option_map_or}
use Rattle.std.proofs.Common.{ap, arith, sym, subst, ◌∙◌}
use Rattle.std.proofs.lemmas.List.{length-append, reverse-append}
use Rattle.model_store.specs.Store.{IsButLast, StoredModel, refusal_of}
use Rattle.model_store.specs.StoreLaws.{left_front}
use Rattle.user_model.specs.Edited.{edited}
use Rattle.user_model.specs.Model.{ModelValue}
use Rattle.user_model.specs.Refusals.{first_refusal}
use Rattle.user_model.specs.Undone.{before}
use Rattle.user_model.specs.declared.edit.Edit.{Edit}
use Rattle.user_model.specs.declared.refusal.ApplyFault.{ApplyFault}
use Rattle.user_model.specs.declared.refusal.Refusal.{Refusal as EditRefusal}
use Rattle.user_model.specs.declared.refusal.ApplyFault.TheVariants.{Memory, Refused}
use Rattle.user_model.specs.declared.undo.Undo.{Undo}
use Rattle.model_load.specs.Loads.{AreEditsMade, AreMadeBy, IsLastStep, IsNextStep, IsUnmade, LeadBack, accepted_first, after_edits, apply_fault, unmade_behind}
use Rattle.model_load.specs.declared.fault.Unmade.{Unmade}
use Rattle.model_load.specs.declared.fault.Unmade.TheVariants as part

-- ---- one edit

-- what is taken back is what was before
pub taken_back : (old mid new : StoredModel) (undo : Undo) → IsLastStep old undo mid
    → new.model ≡ before mid.model undo → IsButLast new.parked mid.parked → new ≡ old
taken_back old mid new undo step model but =
    let same = model ∙ step.back in
    let front = left_front old.parked mid.parked new.parked mid.model undo step.parked but in
    λ i. record { model = same i; parked = front i }

-- ---- undos, the last first

pub last_first : (undos : List Undo) (undo : Undo)
    → reverse (undos ++ undo ∷ []) ≡ undo ∷ reverse undos
last_first undos undo = reverse-append undos (undo ∷ [])

-- the last undo is that of the last step
pub last_step : (start now : StoredModel) (longer shorter : List Undo) (undo : Undo)
    → longer ≡ shorter ++ undo ∷ [] → LeadBack start (reverse longer) now
    → (old : StoredModel) × LeadBack start (reverse shorter) old × IsLastStep old undo now
last_step start now longer shorter undo e h =
    subst (λ us. LeadBack start us now) (ap reverse e ∙ last_first shorter undo) h

pub one_step : (start old now : StoredModel) (longer shorter : List Undo) (undo : Undo)
    → longer ≡ shorter ++ undo ∷ [] → LeadBack start (reverse shorter) old → IsLastStep old undo now
    → LeadBack start (reverse longer) now
one_step start old now longer shorter undo e h step =
    subst (λ us. LeadBack start us now) (sym (ap reverse e ∙ last_first shorter undo))
    (old, h, step)

-- a refused edit leaves what leads back
pub kept_back : (start now new : StoredModel) (undos more : List Undo) → new ≡ now → more ≡ undos
    → LeadBack start (reverse undos) now → LeadBack start (reverse more) new
kept_back start now new undos more same e h =
    subst (λ us. LeadBack start (reverse us) new) (sym e)
    (subst (LeadBack start (reverse undos)) (sym same) h)

-- ---- all edits

pub record MadeSoFar (start : StoredModel) (edits : List Edit) (undos : List Undo) (now : StoredModel)
    (left : List Edit) : Type 0 where
  pub back : LeadBack start (reverse undos) now
  pub after : after_edits start.model edits ≡ after_edits now.model left
  pub count : accepted_first start.model edits ≡ length undos + accepted_first now.model left

after_first : (model : ModelValue) (edit : Edit) (edits : List Edit)
    → after_edits model (edit ∷ edits)
    ≡ option_map_or Err (first_refusal model edit) (after_edits (edited model edit) edits)
unfolding after_edits
after_first model edit edits = refl

after_none : (model : ModelValue) → after_edits model [] ≡ Ok model
unfolding after_edits
after_none model = refl

count_first : (model : ModelValue) (edit : Edit) (edits : List Edit)
    → accepted_first model (edit ∷ edits)
    ≡ option_map_or (λ _. 0) (first_refusal model edit)
    (1 + accepted_first (edited model edit) edits)
unfolding accepted_first
count_first model edit edits = refl

-- one more was accepted
counted : (start now : ModelValue) (edits left rest : List Edit) (edit : Edit) (new : ModelValue)
    (undos more : List Undo) (undo : Undo) → left ≡ edit ∷ rest → first_refusal now edit ≡ None
    → new ≡ edited now edit → more ≡ undos ++ undo ∷ []
    → accepted_first start edits ≡ length undos + accepted_first now left
    → accepted_first start edits ≡ length more + accepted_first new rest
counted start now edits left rest edit new undos more undo e accepted after put h =
    let one : accepted_first now left ≡ 1 + accepted_first new rest =
    ap (accepted_first now) e ∙ (count_first now edit rest
    ∙ (ap (λ o. option_map_or (λ _. 0) o (1 + accepted_first (edited now edit) rest)) accepted
    ∙ ap (λ m. 1 + accepted_first m rest) (sym after))) in
    let longer : length more ≡ length undos + 1 =
    ap length put ∙ length-append undos (undo ∷ []) in
    omega (arith, h, one, longer)

pub one_made : (start now new : StoredModel) (edits left rest : List Edit) (edit : Edit)
    (undos more : List Undo) → left ≡ edit ∷ rest → MadeSoFar start edits undos now left
    → IsNextStep now edit new undos more → MadeSoFar start edits more new rest
one_made start now new edits left rest edit undos more e h step = record {
  back = one_step start now new more undos step.undo step.put h.back step.step;
  after =
      h.after ∙ (ap (after_edits now.model) e ∙ (after_first now.model edit rest
      ∙ (ap (λ o. option_map_or Err o (after_edits (edited now.model edit) rest)) step.accepted
      ∙ ap (λ m. after_edits m rest) (sym step.after))));
  count =
      counted start.model now.model edits left rest edit new.model undos more step.undo e
      step.accepted step.after step.put h.count;
}

-- the edit behind those that were made is refused
none_accepted : (now : ModelValue) (left rest : List Edit) (edit : Edit) (refusal : EditRefusal)
    → left ≡ edit ∷ rest → Some refusal ≡ first_refusal now edit → accepted_first now left ≡ 0
none_accepted now left rest edit refusal e refused =
    ap (accepted_first now) e ∙ (count_first now edit rest
    ∙ ap (λ o. option_map_or (λ _. 0) o (1 + accepted_first (edited now edit) rest)) (sym refused))

pub one_refused : (start now : StoredModel) (edits left rest : List Edit) (edit : Edit)
    (undos more : List Undo) (made : ℕ) (fault : ApplyFault) (given : Unmade)
    → left ≡ edit ∷ rest → MadeSoFar start edits undos now left
    → refusal_of fault ≡ first_refusal now.model edit → more ≡ undos → made ≡ length more
    → given ≡ unmade_behind made fault → IsUnmade start.model edits given
one_refused start now edits left rest edit undos more made fault given e h refused same long is =
    subst (IsUnmade start.model edits) (sym is) (by fault refused)
  where
    by : (fault : ApplyFault) → refusal_of fault ≡ first_refusal now.model edit
        → IsUnmade start.model edits (unmade_behind made fault)
    by (Refused refusal) refused = (
      h.after ∙ (ap (after_edits now.model) e ∙ (after_first now.model edit rest
          ∙ ap (λ o. option_map_or Err o (after_edits (edited now.model edit) rest))
          (sym refused))),
      let none : accepted_first now.model left ≡ 0 =
          none_accepted now.model left rest edit refusal e refused in
          let count : accepted_first start.model edits
          ≡ length undos + accepted_first now.model left = h.count in
          let all : length more ≡ length undos = ap length same in
          omega (arith, none, count, all, long),
    )
    by Memory refused = tt

pub all_made : (start now : StoredModel) (edits left : List Edit) (undos : List Undo) → left ≡ []
    → MadeSoFar start edits undos now left → AreEditsMade start edits undos now
all_made start now edits left undos e h = record {
  made = h.after ∙ (ap (after_edits now.model) e ∙ after_none now.model);
  back = h.back;
}

-- ---- for good

-- what is made of the answer of a load
pub load_unmade : (start new : StoredModel) (edits : List Edit) (why : Unmade) (given : ApplyFault)
    → given ≡ apply_fault why → IsUnmade start.model edits why → new ≡ start
    → AreMadeBy start edits (Err given) new
load_unmade start new edits why given is h same =
    subst (λ f. AreMadeBy start edits (Err f) new) (sym is) (by why h)
  where
    by : (why : Unmade) → IsUnmade start.model edits why
        → AreMadeBy start edits (Err (apply_fault why)) new
    by (part.Refused index refusal) h = (h.0, same)
    by part.Memory h = same

pub load_made : (start now new : StoredModel) (edits : List Edit) (undos : List Undo)
    → AreEditsMade start edits undos now → new.model ≡ now.model → new.parked ≡ start.parked
    → AreMadeBy start edits (Ok tt) new
load_made start now new edits undos h model parked = (h.made ∙ ap Ok (sym model), parked)
