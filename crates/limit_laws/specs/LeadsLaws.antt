-- Edits that pass each test but those of limits can be refused for a limit alone; and where none is
-- refused, the model that they lead to is the one that they make.
use Rattle.std.specs.Prelude.{◌≡◌, ℕ, Bool, true, false, if◌then◌else◌, List, [], ◌∷◌, ◌++◌, Option, Some, None, Result, Ok, Err, map, refl}
use Rattle.std.specs.Option.{option_map_or}
use Rattle.std.proofs.Common.{sym, ◌∙◌, ap, subst, true≢false}
use Rattle.std.proofs.lemmas.Option.{none-some, same_Some}
use Rattle.limit_laws.specs.Leads.{AllPass, Leads, PassesTests, all_edited}
use Rattle.limit_laws.specs.Limits.{IsFull, LimitsAlone}
use Rattle.model_load.specs.Loads.{after_edits}
use Rattle.user_model.specs.Edited.{edited}
use Rattle.user_model.specs.Model.{ModelValue, has_lower_bound, has_upper_bound}
use Rattle.user_model.specs.Refusals.{counts, first_of, first_refusal, full_at, meets_bad_dimension, meets_bad_interval, meets_bound_already_set, meets_delete_not_allowed, meets_function_shape, meets_name_taken, meets_output_index, meets_set_type_mismatch, meets_unknown_name, refusal_tests}
use Rattle.user_model.specs.Sets.{sets_lower, sets_upper}
use Rattle.user_model.specs.declared.edit.Edit.{Edit}
use Rattle.user_model.specs.declared.refusal.Refusal.{Refusal}

-- ---- one edit

-- each refusal whose test may hold is of a limit
abbrev AreLimits : List (Bool × Refusal) → Type 0
AreLimits [] = Unit {0}
AreLimits (test ∷ tests) = (test.0 ≡ true → IsFull test.1) × AreLimits tests

first_is_full : (tests : List (Bool × Refusal)) (s : Refusal) → AreLimits tests
    → first_of tests ≡ Some s → IsFull s
first_is_full [] s h e = absurd (none-some s e)
first_is_full (test ∷ tests) s h e = by test.0 h.0 (first_is_full tests s h.1) e
  where
    by : (b : Bool) → (b ≡ true → IsFull test.1) → (first_of tests ≡ Some s → IsFull s)
        → (if b then Some test.1 else first_of tests) ≡ Some s → IsFull s
    by true full others e = subst IsFull (same_Some test.1 s e) (full refl)
    by false full others e = others e

of_counts : (counted : List (ℕ × ℕ)) → AreLimits (map full_at counted)
of_counts [] = tt
of_counts (c ∷ counted) = (λ e. tt, of_counts counted)

fails : (b : Bool) → b ≡ false → b ≡ true → ⊥
fails b f t = true≢false (sym t ∙ f)

full_alone : (m : ModelValue) (e : Edit) (s : Refusal) → PassesTests m e
    → first_refusal m e ≡ Some s → IsFull s
unfolding first_refusal
full_alone m e s p h =
    first_is_full (refusal_tests m e) s (
      fails (meets_unknown_name m e) p.known,
      (
        fails (meets_name_taken m e) p.free,
        (
          fails (meets_function_shape m e) p.shaped,
          (
            fails (meets_bad_dimension m e) p.dimension,
            (
              fails (meets_output_index m e) p.output,
              (
                fails (meets_bad_interval e) p.interval,
                (
                  fails (meets_bound_already_set sets_lower has_lower_bound m e) p.lower,
                  (
                    fails (meets_bound_already_set sets_upper has_upper_bound m e) p.upper,
                    (
                      fails (meets_set_type_mismatch m e) p.of_type,
                      (
                        fails (meets_delete_not_allowed m e) p.deletable,
                        of_counts (counts m e),
                      ),
                    ),
                  ),
                ),
              ),
            ),
          ),
        ),
      ),
    ) h

-- ---- one after another

abbrev refused_for : Refusal → Result ModelValue Refusal
refused_for r = Err r

same_refusal : (r s : Refusal) → refused_for r ≡ refused_for s → r ≡ s
same_refusal r s e = cc

pub limits_alone : (es : List Edit) (m : ModelValue) → AllPass m es → LimitsAlone m es
unfolding after_edits
limits_alone [] m p s h = absurd (cc h)
limits_alone (e ∷ es) m p s h =
    by (first_refusal m e) refl (limits_alone es (edited m e) p.1 s) h
  where
    by : (o : Option Refusal) → first_refusal m e ≡ o
        → (after_edits (edited m e) es ≡ Err s → IsFull s)
        → option_map_or Err o (after_edits (edited m e) es) ≡ Err s → IsFull s
    by None is others h = others h
    by (Some r) is others h = full_alone m e s p.0 (is ∙ ap Some (same_refusal r s h))

-- where none is refused, the model is the one that they lead to
pub made_after : (es : List Edit) (model m : ModelValue) → after_edits model es ≡ Ok m
    → m ≡ all_edited model es
unfolding after_edits
made_after [] model m e = cc
made_after (edit ∷ es) model m e =
    by (first_refusal model edit) e (made_after es (edited model edit) m)
  where
    by : (o : Option Refusal)
        → option_map_or Err o (after_edits (edited model edit) es) ≡ Ok m
        → (after_edits (edited model edit) es ≡ Ok m → m ≡ all_edited (edited model edit) es)
        → m ≡ all_edited (edited model edit) es
    by None e rest = rest e
    by (Some refusal) e rest = cc

-- ---- edits, and others after them

pub both_edited : (es fs : List Edit) (model : ModelValue)
    → all_edited model (es ++ fs) ≡ all_edited (all_edited model es) fs
both_edited [] fs model = refl
both_edited (e ∷ es) fs model = both_edited es fs (edited model e)

pub pass_both : (es fs : List Edit) (m : ModelValue) → AllPass m es → AllPass (all_edited m es) fs
    → AllPass m (es ++ fs)
pass_both [] fs m p q = q
pass_both (e ∷ es) fs m p q = (p.0, pass_both es fs (edited m e) p.1 q)

pub leads_none : (m : ModelValue) → Leads m [] m
leads_none m = record { passes = tt; is = refl }

pub leads_first : (e : Edit) (es : List Edit) (m n k : ModelValue) → PassesTests m e
    → edited m e ≡ n → Leads n es k → Leads m (e ∷ es) k
leads_first e es m n k p is l = record {
  passes = (p, subst (λ x. AllPass x es) (sym is) l.passes);
  is = ap (λ x. all_edited x es) is ∙ l.is;
}

pub leads_both : (es fs : List Edit) (m n k : ModelValue) → Leads m es n → Leads n fs k
    → Leads m (es ++ fs) k
leads_both es fs m n k l r = record {
  passes = pass_both es fs m l.passes (subst (λ x. AllPass x fs) (sym l.is) r.passes);
  is = both_edited es fs m ∙ ap (λ x. all_edited x fs) l.is ∙ r.is;
}
