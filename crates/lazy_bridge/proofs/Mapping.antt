-- What the map has of the items that differ, set anew in turn.
use Rattle.std.specs.Prelude.{◌≡◌, ◌&&◌, ◌||◌, Bool, true, false, cond, not, None, Some, refl, List}
use Rattle.std.specs.FinMap as finite
use Rattle.std.proofs.Common.{ap, subst, ◌∙◌}
use Rattle.address_map.specs.AddressMap.{AddressMap}
use Rattle.address_map.specs.Noted.{Noted}
use Rattle.aff_core.specs.Address.{Address}
use Rattle.fresh_bridging.specs.Entries.{Entry, expression_in, function_in, is_kept}
use Rattle.lazy_bridge.specs.Expressed.{SetsAt, expr_at, is_marked}
use Rattle.lazy_bridge.specs.Mentioned.{NotesPairs, contents_name, is_noted}
use Rattle.lazy_bridge.proofs.Names.{still_noted}
use Rattle.leaf_update.specs.Others.{among}
use Rattle.push_laws.specs.Edits.{AttachedEdit, IsMappedAnew}
use Rattle.touched_items.specs.Differences.{groups_in, variables_in}
use Rattle.touched_items.specs.declared.differing.Differing.{Differing}

unmarked_is : (b old : Bool) → cond b false old ≡ (not b && old)
unmarked_is true old = refl
unmarked_is false old = refl

noted_is : (was now old : Bool)
    → cond now true (cond was false old) ≡ ((old && not was) || now)
noted_is true true true = refl
noted_is true true false = refl
noted_is true false true = refl
noted_is true false false = refl
noted_is false true true = refl
noted_is false true false = refl
noted_is false false true = refl
noted_is false false false = refl

-- what groups were is taken out, and then what they are is put
mapped_with : (old forgotten expressed last : AddressMap) (d : Differing) (standing : List Entry)
    → SetsAt (λ _. None) (variables_in (groups_in d.before)) (expr_at old) (expr_at forgotten)
    → SetsAt (λ _. false) (variables_in (groups_in d.before)) (is_marked old) (is_marked forgotten)
    → SetsAt (λ v. Some (function_in standing v)) (variables_in (groups_in d.after))
    (expr_at forgotten) (expr_at expressed)
    → SetsAt (λ v. is_kept (expression_in standing v)) (variables_in (groups_in d.after))
    (is_marked forgotten) (is_marked expressed)
    → last.exprs ≡ expressed.exprs → last.kept ≡ expressed.kept
    → (e : AttachedEdit) → old.exprs ≡ e.places.exprs → old.kept ≡ e.places.kept → d ≡ e.d
    → ((var at : Address)
    → is_noted last.noted var at
    ≡ ((is_noted e.places.noted var at && not (contents_name e.d.before var at))
    || contents_name e.d.after var at))
    → IsMappedAnew e standing last
mapped_with old forgotten expressed last d standing gone unmarked put marked exprs kept e
    same_exprs same_kept same_d noted =
    record {
      exprs = λ v. subst (λ (x : Differing). finite.get last.exprs v
          ≡ cond (among (variables_in (groups_in x.after)) v) (Some (function_in standing v))
          (cond (among (variables_in (groups_in x.before)) v) None (finite.get e.places.exprs v)))
          same_d
          (ap (λ m. finite.get m v) exprs
          ∙ put v
          ∙ ap (cond (among (variables_in (groups_in d.after)) v) (Some (function_in standing v)))
          (gone v
          ∙ ap (λ m. cond (among (variables_in (groups_in d.before)) v) None (finite.get m v))
          same_exprs));
      marks = λ v. subst (λ (x : Differing). is_marked last v
          ≡ cond (among (variables_in (groups_in x.after)) v) (is_kept (expression_in standing v))
          (not (among (variables_in (groups_in x.before)) v) && is_marked e.places v))
          same_d
          ((λ i. is_marked (record last { kept = kept i }) v)
          ∙ marked v
          ∙ ap (cond (among (variables_in (groups_in d.after)) v)
          (is_kept (expression_in standing v)))
          (unmarked v
          ∙ (λ i. cond (among (variables_in (groups_in d.before)) v) false
          (is_marked (record old { kept = same_kept i }) v))
          ∙ unmarked_is (among (variables_in (groups_in d.before)) v) (is_marked e.places v)));
      noted = noted;
    }

-- and then so of rows and the objective
pub mapped_anew : (old forgotten expressed without last : AddressMap) (d : Differing)
    (standing : List Entry)
    → SetsAt (λ _. None) (variables_in (groups_in d.before)) (expr_at old) (expr_at forgotten)
    → SetsAt (λ _. false) (variables_in (groups_in d.before)) (is_marked old) (is_marked forgotten)
    → SetsAt (λ v. Some (function_in standing v)) (variables_in (groups_in d.after))
    (expr_at forgotten) (expr_at expressed)
    → SetsAt (λ v. is_kept (expression_in standing v)) (variables_in (groups_in d.after))
    (is_marked forgotten) (is_marked expressed)
    → last.exprs ≡ expressed.exprs → last.kept ≡ expressed.kept
    → NotesPairs (contents_name d.before) false old.noted without.noted
    → NotesPairs (contents_name d.after) true without.noted last.noted
    → (e : AttachedEdit) → old.exprs ≡ e.places.exprs → old.kept ≡ e.places.kept
    → old.noted ≡ e.places.noted → d ≡ e.d → IsMappedAnew e standing last
mapped_anew old forgotten expressed without last d standing gone unmarked put marked exprs kept
    unnoted noted e same_exprs same_kept same_noted same_d =
    mapped_with old forgotten expressed last d standing gone unmarked put marked exprs kept e
    same_exprs same_kept same_d
    (λ var at. subst (λ (x : Differing). is_noted last.noted var at
    ≡ ((is_noted e.places.noted var at && not (contents_name x.before var at))
    || contents_name x.after var at))
    same_d
    (noted var at
    ∙ ap (cond (contents_name d.after var at) true)
    (unnoted var at
    ∙ ap (λ (n : Noted). cond (contents_name d.before var at) false (is_noted n var at))
    same_noted)
    ∙ noted_is (contents_name d.before var at) (contents_name d.after var at)
    (is_noted e.places.noted var at)))

-- or these name what they named
pub mapped_alike : (old forgotten last : AddressMap) (d : Differing) (standing : List Entry)
    → SetsAt (λ _. None) (variables_in (groups_in d.before)) (expr_at old) (expr_at forgotten)
    → SetsAt (λ _. false) (variables_in (groups_in d.before)) (is_marked old) (is_marked forgotten)
    → SetsAt (λ v. Some (function_in standing v)) (variables_in (groups_in d.after))
    (expr_at forgotten) (expr_at last)
    → SetsAt (λ v. is_kept (expression_in standing v)) (variables_in (groups_in d.after))
    (is_marked forgotten) (is_marked last)
    → last.noted ≡ old.noted
    → ((var at : Address) → contents_name d.before var at ≡ contents_name d.after var at)
    → (e : AttachedEdit) → old.exprs ≡ e.places.exprs → old.kept ≡ e.places.kept
    → old.noted ≡ e.places.noted → d ≡ e.d → IsMappedAnew e standing last
mapped_alike old forgotten last d standing gone unmarked put marked stay alike e same_exprs
    same_kept same_noted same_d =
    mapped_with old forgotten last last d standing gone unmarked put marked refl refl e same_exprs
    same_kept same_d
    (λ var at. ap (λ (n : Noted). is_noted n var at) (stay ∙ same_noted)
    ∙ still_noted e
    (subst (λ (x : Differing). (v a : Address) → contents_name x.before v a
    ≡ contents_name x.after v a) same_d alike) var at)
