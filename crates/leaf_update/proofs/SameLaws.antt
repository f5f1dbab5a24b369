-- Rows, objectives and functions of indices are the same where they are read as the same: each index
-- that they name has an address, and no two addresses have one index.
use Rattle.std.specs.Prelude.{◌≡◌, ◌≢◌, ◌↔◌, ◌&&◌, ◌==◌, ℕ, Bool, true, false, IsTrue, MatchBool, cond, List, [], ◌∷◌, All, Option, Some, None, map, unwrap_or, refl}
use Rattle.std.specs.Bool.{Decides}
use Rattle.std.specs.Cmp.Lexicographic.{pointwise, pointwise_decides}
use Rattle.std.specs.FinMap as finite
use Rattle.std.specs.FinMap.{find}
use Rattle.std.specs.Ordering.{eq_by_cmp, nat_cmp}
use Rattle.std.proofs.Common.{sym, ◌∙◌, ap, subst}
use Rattle.std.proofs.lemmas.Bool.Decides.{Decides-and, Decides-eqb}
use Rattle.std.proofs.lemmas.List.Elements.{All-head, All-tail}
use Rattle.std.proofs.lemmas.Option.{none-some, same_Some}
use Rattle.ratio_core.specs.Rational.{Rational, rational_eq, zero_ℚ}
use Rattle.ratio_core.specs.RationalLaws.{rational_eq_Decides}
use Rattle.address_map.specs.Places.{AreIndicesOneToOne, Indices}
use Rattle.aff_core.specs.Function.{Function, coefficient, terms_of}
use Rattle.aff_core.specs.FunctionLaws.{same_coefficients, same_function}
use Rattle.aff_core.specs.KeyOrder.{key_eq-Decides}
use Rattle.leaf_update.specs.Named.{ObjectiveNames, RowNames}
use Rattle.leaf_model.specs.ReadThrough.{address_in, named, read_objective, read_row}
use Rattle.solver_store.specs.SolverFunction.{SolverFunction}
use Rattle.solver_store.specs.declared.leaf.LeafObjective.{LeafObjective}
use Rattle.solver_store.specs.declared.leaf.LeafObjective.TheVariants as objective
use Rattle.solver_store.specs.declared.leaf.LeafRow.{LeafRow}
use Rattle.solver_store.specs.declared.leaf.LeafRow.TheVariants as row
use Rattle.std_form.specs.NameLaws.{IsIndexNamed, IsTermIndexNamed, NamesNamed, address_in_is, coefficient_named, constant_named, index_order}

-- ---- by their terms

abbrev pub term_eq : ℕ × Rational → ℕ × Rational → Bool
term_eq s t = (s.0 == t.0) && rational_eq s.1 t.1

term_eq-Decides : (s t : ℕ × Rational) → Decides (term_eq s t) (s ≡ t)
term_eq-Decides s t =
    let parts = Decides-and (s.0 == t.0) (rational_eq s.1 t.1) (Decides-eqb s.0 t.0)
    (rational_eq_Decides s.1 t.1) in
    (λ e. λ i. ((parts.0 e).0 i, (parts.0 e).1 i), λ e. parts.1 (ap (λ u. u.0) e, ap (λ u. u.1) e))

pub by_terms : (f g : SolverFunction) → f.constant ≡ g.constant → (r : Bool)
    → r ≡ pointwise term_eq (terms_of f) (terms_of g) → IsTrue r ↔ (f ≡ g)
by_terms f g constant r is =
    let decides = pointwise_decides term_eq-Decides (terms_of f) (terms_of g) in
    (λ t. same_function f g (decides.0 (sym is ∙ t)) constant, λ e. is ∙ decides.1 (ap terms_of e))

-- ---- by what they are read as

-- what is found among terms is one of them
term_found : (P : ℕ × Rational → Type 0) (ts : List (ℕ × Rational)) (i : ℕ) (q : Rational)
    → All P ts → find nat_cmp i ts ≡ Some q → P (i, q)
term_found P [] i q h e = absurd (none-some q e)
term_found P (t ∷ ts) i q h e =
    by (eq_by_cmp nat_cmp i t.0) refl e (term_found P ts i q (All-tail P t ts h))
  where
    by : (b : Bool) → eq_by_cmp nat_cmp i t.0 ≡ b → cond b (Some t.1) (find nat_cmp i ts) ≡ Some q
        → (find nat_cmp i ts ≡ Some q → P (i, q)) → P (i, q)
    by true same is later =
        subst P (λ j. (sym ((key_eq-Decides index_order i t.0).0 same) j, same_Some t.1 q is j))
        (All-head P t ts h)
    by false other is later = later is

module _ (indices : Indices) (one : AreIndicesOneToOne indices) where
  index_alike : (i j : ℕ) → IsIndexNamed indices i → IsIndexNamed indices j
      → address_in indices i ≡ address_in indices j → i ≡ j
  index_alike i j h k e =
      same_Some i j (sym h.1
      ∙ ap (finite.get indices)
      (sym (address_in_is indices one h.0 i h.1) ∙ e ∙ address_in_is indices one k.0 j k.1)
      ∙ k.1)

  function_alike : (f g : SolverFunction) → NamesNamed indices f → NamesNamed indices g
      → named indices f ≡ named indices g → f ≡ g
  function_alike f g h k e =
      same_coefficients index_order f g (λ i. at i (finite.get f.terms i) (finite.get g.terms i) refl refl)
      (sym (constant_named indices f) ∙ ap (λ (w : Function). w.constant) e
      ∙ constant_named indices g)
    where
      by_address : (i : ℕ) → IsIndexNamed indices i → coefficient f i ≡ coefficient g i
      by_address i n =
          sym (coefficient_named indices one f n.0 i n.1 h)
          ∙ ap (λ (w : Function). coefficient w n.0) e
          ∙ coefficient_named indices one g n.0 i n.1 k

      is_named : (w : SolverFunction) → NamesNamed indices w → (i : ℕ) (q : Rational)
          → finite.get w.terms i ≡ Some q → IsIndexNamed indices i
      is_named w all i q there =
          term_found (IsTermIndexNamed indices) (terms_of w) i q all
          (sym (finite.get-entries w.terms i) ∙ there)

      at : (i : ℕ) (o p : Option Rational) → finite.get f.terms i ≡ o → finite.get g.terms i ≡ p
          → coefficient f i ≡ coefficient g i
      at i (Some q) p m n = by_address i (is_named f h i q m)
      at i None (Some q) m n = by_address i (is_named g k i q n)
      at i None None m n = ap (λ o. unwrap_or o zero_ℚ) (m ∙ sym n)

  functions_alike : (fs gs : List SolverFunction) → All (NamesNamed indices) fs
      → All (NamesNamed indices) gs → map (named indices) fs ≡ map (named indices) gs → fs ≡ gs
  functions_alike [] [] h k e = refl
  functions_alike [] (g ∷ gs) h k e = cc
  functions_alike (f ∷ fs) [] h k e = cc
  functions_alike (f ∷ fs) (g ∷ gs) h k e =
      let first : named indices f ≡ named indices g = cc in
      let rest : map (named indices) fs ≡ map (named indices) gs = cc in
      (λ i. function_alike f g (All-head (NamesNamed indices) f fs h)
      (All-head (NamesNamed indices) g gs k) first i
      ∷ functions_alike fs gs (All-tail (NamesNamed indices) f fs h)
      (All-tail (NamesNamed indices) g gs k) rest i)

  row_alike : (r s : LeafRow) → RowNames indices r → RowNames indices s
      → read_row indices r ≡ read_row indices s → r ≡ s
  row_alike (row.Plain i set) (row.Plain j other) h k e =
      let read : address_in indices i ≡ address_in indices j = cc in
      let same : set ≡ other = cc in
      (λ n. row.Plain (index_alike i j h k read n) (same n))
  row_alike (row.Affine f set) (row.Affine g other) h k e =
      let read : named indices f ≡ named indices g = cc in
      let same : set ≡ other = cc in
      (λ n. row.Affine (function_alike f g h k read n) (same n))
  row_alike (row.AffineVec fs set) (row.AffineVec gs other) h k e =
      let read : map (named indices) fs ≡ map (named indices) gs = cc in
      let same : set ≡ other = cc in
      (λ n. row.AffineVec (functions_alike fs gs h k read n) (same n))
  row_alike (row.Plain i set) (row.Affine g other) h k e = cc
  row_alike (row.Plain i set) (row.AffineVec gs other) h k e = cc
  row_alike (row.Affine f set) (row.Plain j other) h k e = cc
  row_alike (row.Affine f set) (row.AffineVec gs other) h k e = cc
  row_alike (row.AffineVec fs set) (row.Plain j other) h k e = cc
  row_alike (row.AffineVec fs set) (row.Affine g other) h k e = cc

  objective_alike : (o p : LeafObjective) → ObjectiveNames indices o → ObjectiveNames indices p
      → read_objective indices o ≡ read_objective indices p → o ≡ p
  objective_alike (objective.Plain sense i) (objective.Plain other j) h k e =
      let read : address_in indices i ≡ address_in indices j = cc in
      let same : sense ≡ other = cc in
      (λ n. objective.Plain (same n) (index_alike i j h k read n))
  objective_alike (objective.Affine sense f) (objective.Affine other g) h k e =
      let read : named indices f ≡ named indices g = cc in
      let same : sense ≡ other = cc in
      (λ n. objective.Affine (same n) (function_alike f g h k read n))
  objective_alike (objective.Plain sense i) (objective.Affine other g) h k e = cc
  objective_alike (objective.Affine sense f) (objective.Plain other j) h k e = cc

  -- so what tests them tests what they are read as
  pub row_read : (r s : LeafRow) → RowNames indices r → RowNames indices s → (b : Bool)
      → MatchBool b (r ≡ s) (r ≢ s)
      → MatchBool b (read_row indices r ≡ read_row indices s)
      (read_row indices r ≢ read_row indices s)
  row_read r s h k true e = ap (read_row indices) e
  row_read r s h k false n = λ e. n (row_alike r s h k e)

  pub objective_read : (o p : LeafObjective) → ObjectiveNames indices o → ObjectiveNames indices p
      → (b : Bool) → MatchBool b (o ≡ p) (o ≢ p)
      → MatchBool b (read_objective indices o ≡ read_objective indices p)
      (read_objective indices o ≢ read_objective indices p)
  objective_read o p h k true e = ap (read_objective indices) e
  objective_read o p h k false n = λ e. n (objective_alike o p h k e)
