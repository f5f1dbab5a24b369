-- Expressions put in one after another, each of a variable of its own.
use Rattle.std.specs.Prelude.{◌≡◌, false, cond, List, [], ◌∷◌, ◌++◌, Some, None, map, refl}
use Rattle.std.specs.FinMap as finite
use Rattle.std.specs.FinMap.Entries.{find}
use Rattle.std.specs.List.{AllByRecursion, IsDistinct}
use Rattle.std.specs.Ordering.{eq_by_cmp}
use Rattle.std.proofs.Common.{append_assoc, sym, ap, subst, ◌∙◌}
use Rattle.address_map.specs.AddressMap.{AddressMap}
use Rattle.aff_core.specs.Address.{Address, address_cmp, address_eq, address_total, exact_addresses}
use Rattle.aff_core.specs.Function.{Function}
use Rattle.aff_core.specs.Rising.{HasDistinctKeys}
use Rattle.aff_core.specs.KeyOrder.{address_order, either_way}

-- a key that stands once isn't found before it
pub not_before : {X : Type 0} (done rest : List (Address × X)) (e : Address × X)
    → HasDistinctKeys address_cmp (done ++ e ∷ rest) → find address_cmp e.0 done ≡ None
unfolding IsDistinct
not_before [] rest e h = refl
not_before {X} (d ∷ done) rest e h =
    ap (λ b. cond b (Some d.1) (find address_cmp e.0 done)) (either_way address_order d.0 e.0
    (last done h.0))
    ∙ not_before done rest e h.1
  where
    last : (es : List (Address × X))
        → AllByRecursion (λ y. eq_by_cmp address_cmp d.0 y ≡ false)
        (map (λ f. f.0) (es ++ e ∷ rest))
        → address_eq d.0 e.0 ≡ false
    last [] k = k.0
    last (f ∷ es) k = last es k.1

pub record PutSoFar (old now : AddressMap) (all left : List (Address × Function)) : Type 0 where
  pub done : List (Address × Function)
  pub parts : all ≡ done ++ left
  pub exprs : now.exprs ≡ finite.from_entries done
  pub vars : now.vars ≡ old.vars
  pub rows : now.rows ≡ old.rows
  pub noted : now.noted ≡ old.noted
  pub kept : now.kept ≡ old.kept

pub put_start : (old : AddressMap) (all : List (Address × Function)) → old.exprs ≡ finite.empty
    → PutSoFar old old all all
put_start old all none = record {
  done = [];
  parts = refl;
  exprs = none;
  vars = refl;
  rows = refl;
  noted = refl;
  kept = refl;
}

pub put_next : (old now after : AddressMap) (all left rest : List (Address × Function))
    (at : Address) (f : Function) → PutSoFar old now all left → left ≡ (at, f) ∷ rest
    → HasDistinctKeys address_cmp all → after.exprs ≡ finite.insert now.exprs at f
    → after.vars ≡ now.vars → after.rows ≡ now.rows → after.noted ≡ now.noted
    → after.kept ≡ now.kept → PutSoFar old after all rest
put_next old now after all left rest at f h next apart is vars rows noted kept =
    let whole = h.parts ∙ ap (λ l. h.done ++ l) next in
    record {
      done = h.done ++ (at, f) ∷ [];
      parts = whole ∙ sym (append_assoc h.done ((at, f) ∷ []) rest);
      exprs =
          is
          ∙ ap (λ m. finite.insert m at f) h.exprs
          ∙ sym (finite.from_entries_push address_total exact_addresses h.done at f
          (not_before h.done rest (at, f) (subst (HasDistinctKeys address_cmp) whole apart)));
      vars = vars ∙ h.vars;
      rows = rows ∙ h.rows;
      noted = noted ∙ h.noted;
      kept = kept ∙ h.kept;
    }
