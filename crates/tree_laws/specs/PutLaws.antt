-- An item with expressions put in is the item with its dual, in which they are put in.
use Rattle.std.specs.Prelude.{◌≡◌, Bool, true, false, List, [], ◌∷◌, All, map, refl}
use Rattle.std.specs.List.{list_all}
use Rattle.std.proofs.Common.{sym, ap, ap₂, ◌∙◌, true≢false}
use Rattle.std.proofs.lemmas.List.Elements.{All-cons, All-head, All-nil, All-tail}
use Rattle.ratio_core.specs.Rational.{Rational, neg_ℚ, one_ℚ, zero_ℚ}
use Rattle.rational_laws.specs.Field.{neg_ℚ-zero}
use Rattle.set_core.specs.declared.set.Set.{Set}
use Rattle.set_core.specs.declared.set.Set.TheVariants.{LessThan}
use Rattle.aff_core.specs.Address.{Address, address_cmp}
use Rattle.aff_core.specs.Arithmetic.{composed}
use Rattle.aff_core.specs.ArithmeticLaws.{coefficient-composed, constant-composed}
use Rattle.aff_core.specs.Function.{Function, IsNegated, coefficient, negated, value_of, variable}
use Rattle.aff_core.specs.FunctionLaws.{is_negated, same_coefficients}
use Rattle.aff_core.specs.KeyOrder.{address_order}
use Rattle.aff_core.specs.declared.sense.Sense.{Sense}
use Rattle.aff_core.specs.declared.sense.Sense.TheVariants.{Min, Max}
use Rattle.linear_laws.specs.EvaluationLaws.{evaluated_value}
use Rattle.linear_laws.specs.ListLaws.{evaluated_negated, slope_negated}
use Rattle.item_core.specs.declared.image.Expression.{Expression}
use Rattle.item_core.specs.declared.image.Expression.TheVariants.{Kept, Bridged}
use Rattle.item_core.specs.declared.item.Body.{Body}
use Rattle.item_core.specs.declared.item.Body.TheVariants.{Group, Free, Plain, Affine, PlainVec, AffineVec, PlainObj, AffineObj}
use Rattle.item_core.specs.declared.item.Item.{Item}
use Rattle.item_core.specs.Item.{functions_of, is_group, variables_of}
use Rattle.bridge_face.specs.Law.{Miss, cost_by, expressed, held, held_body, row_functions, row_set}
use Rattle.fresh_bridging.specs.BodyLaws.{functions_put}
use Rattle.fresh_bridging.specs.Entries.{Entry, expression_in, function_in, is_kept, objective_by, plain_or_affine, put_in, put_in_body, vector_by}
use Rattle.fresh_bridging.specs.MentionLaws.{composed-variable}
use Rattle.tree_laws.specs.Carried.{through}

-- ---- negated functions

pub negated_composed : (e : Address → Function) (f : Function)
    → negated (composed e f) ≡ composed e (negated f)
negated_composed e f =
    same_coefficients address_order (negated (composed e f)) (composed e (negated f))
    (λ v. outer.coefficients v ∙ ap neg_ℚ (coefficient-composed address_order e f v)
    ∙ sym (slope_negated f (negated f) inner (λ u. coefficient (e u) v))
    ∙ sym (coefficient-composed address_order e (negated f) v))
    (outer.constant ∙ ap neg_ℚ (constant-composed address_order e f) ∙ sym values
    ∙ sym (constant-composed address_order e (negated f)))
  where
    outer : IsNegated (composed e f) (negated (composed e f))
    outer = is_negated address_order (composed e f) (negated (composed e f)) refl

    inner : IsNegated f (negated f)
    inner = is_negated address_order f (negated f) refl

    values : value_of (negated f) (λ u. (e u).constant) ≡ neg_ℚ (value_of f (λ u. (e u).constant))
    values =
        sym (evaluated_value (negated f) (λ u. (e u).constant))
        ∙ evaluated_negated one_ℚ f (negated f) inner (λ u. (e u).constant)
        ∙ ap neg_ℚ (evaluated_value f (λ u. (e u).constant))

pub cost_composed : (sense : Sense) (e : Address → Function) (f : Function)
    → cost_by sense (composed e f) ≡ composed e (cost_by sense f)
cost_composed Min e f = refl
cost_composed Max e f = negated_composed e f

-- a function that doesn't mention a variable has no cost of it
pub cost_misses : (sense : Sense) (f : Function) (v : Address) → coefficient f v ≡ zero_ℚ
    → coefficient (cost_by sense f) v ≡ zero_ℚ
cost_misses Min f v h = h
cost_misses Max f v h =
    (is_negated address_order f (negated f) refl).coefficients v ∙ ap neg_ℚ h ∙ neg_ℚ-zero

-- ---- what a body's functions are

-- a row's functions and a group's are its own
pub row_misses : (b : Body) (v : Address) → Miss (functions_of b) v → Miss (row_functions b) v
row_misses (PlainObj sense var) v h =
    All-cons (λ f. coefficient f v ≡ zero_ℚ) (cost_by sense (variable var)) []
    (cost_misses sense (variable var) v
    (All-head (λ f. coefficient f v ≡ zero_ℚ) (variable var) [] h))
    (All-nil (λ f. coefficient f v ≡ zero_ℚ))
row_misses (AffineObj sense func) v h =
    All-cons (λ f. coefficient f v ≡ zero_ℚ) (cost_by sense func) []
    (cost_misses sense func v (All-head (λ f. coefficient f v ≡ zero_ℚ) func [] h))
    (All-nil (λ f. coefficient f v ≡ zero_ℚ))
row_misses _ v h = h

pub group_functions : (b : Body) → is_group b ≡ true
    → functions_of b ≡ map (variable {R = address_cmp}) (variables_of b)
group_functions (Group set vars) h = refl
group_functions (Free vars) h = refl
group_functions _ h = absurd (true≢false (sym h))

pub group_row_functions : (b : Body) → is_group b ≡ true
    → row_functions b ≡ map (variable {R = address_cmp}) (variables_of b)
group_row_functions (Group set vars) h = refl
group_row_functions (Free vars) h = refl
group_row_functions _ h = absurd (true≢false (sym h))

-- ---- put in

objective_row : (sense : Sense) (e : Expression)
    → row_functions (objective_by sense e) ≡ cost_by sense (expressed e) ∷ []
objective_row sense (Kept var) = refl
objective_row sense (Bridged func) = refl

objective_bound : (bound : Rational) (sense : Sense) (e : Expression)
    → row_set bound (objective_by sense e) ≡ LessThan bound
objective_bound bound sense (Kept var) = refl
objective_bound bound sense (Bridged func) = refl

plain_row : (e : Expression) (set : Set)
    → row_functions (plain_or_affine e set) ≡ functions_of (plain_or_affine e set)
plain_row (Kept var) set = refl
plain_row (Bridged func) set = refl

plain_row_set : (bound : Rational) (e : Expression) (set : Set)
    → row_set bound (plain_or_affine e set) ≡ set
plain_row_set bound (Kept var) set = refl
plain_row_set bound (Bridged func) set = refl

vector_row : (b : Bool) (es : List Expression) (set : Set)
    → row_functions (vector_by b es set) ≡ functions_of (vector_by b es set)
unfolding vector_by
vector_row true es set = refl
vector_row false es set = refl

vector_row_set : (bound : Rational) (b : Bool) (es : List Expression) (set : Set)
    → row_set bound (vector_by b es set) ≡ set
unfolding vector_by
vector_row_set bound true es set = refl
vector_row_set bound false es set = refl

module _ (entries : List Entry) where
  pub row_functions_put : (b : Body) → is_group b ≡ false
      → row_functions (put_in_body entries b)
      ≡ map (composed (function_in entries)) (row_functions b)
  unfolding put_in_body
  row_functions_put (Group set vars) h = absurd (true≢false h)
  row_functions_put (Free vars) h = absurd (true≢false h)
  row_functions_put (Plain var set) h =
      plain_row (expression_in entries var) set ∙ functions_put entries (Plain var set) h
  row_functions_put (Affine func set) h = refl
  row_functions_put (PlainVec vars set) h =
      vector_row (list_all is_kept (map (expression_in entries) vars))
      (map (expression_in entries) vars) set
      ∙ functions_put entries (PlainVec vars set) h
  row_functions_put (AffineVec funcs set) h = refl
  row_functions_put (PlainObj sense var) h =
      objective_row sense (expression_in entries var)
      ∙ ap (λ f. cost_by sense f ∷ []) (sym (composed-variable (function_in entries) var))
      ∙ ap (λ f. f ∷ []) (cost_composed sense (function_in entries) (variable var))
  row_functions_put (AffineObj sense func) h =
      ap (λ f. f ∷ []) (cost_composed sense (function_in entries) func)

  row_set_put : (bound : Rational) (b : Body) → is_group b ≡ false
      → row_set bound (put_in_body entries b) ≡ row_set bound b
  unfolding put_in_body
  row_set_put bound (Group set vars) h = absurd (true≢false h)
  row_set_put bound (Free vars) h = absurd (true≢false h)
  row_set_put bound (Plain var set) h = plain_row_set bound (expression_in entries var) set
  row_set_put bound (PlainVec vars set) h =
      vector_row_set bound (list_all is_kept (map (expression_in entries) vars))
      (map (expression_in entries) vars) set
  row_set_put bound (PlainObj sense var) h = objective_bound bound sense (expression_in entries var)
  row_set_put bound _ h = refl

  -- so a further child with its dual
  pub held_put : (bound : Rational) (b : Body) (w : List Rational) → is_group b ≡ false
      → held_body bound (put_in_body entries b) w ≡ through entries (held_body bound b w)
  held_put bound b w h =
      ap₂ (λ fs s. record { duals = w; functions = fs; set = s }) (row_functions_put b h)
      (row_set_put bound b h)

  pub all_put : (bound : Rational) (items : List Item) (ys : List (List Rational))
      → All (λ c. is_group c.body ≡ false) items
      → held bound (map (put_in entries) items) ys ≡ map (through entries) (held bound items ys)
  all_put bound [] ys h = refl
  all_put bound (c ∷ cs) [] h = refl
  all_put bound (c ∷ cs) (y ∷ ys) h =
      ap₂ ◌∷◌ (held_put bound c.body y (All-head (λ x. is_group x.body ≡ false) c cs h))
      (all_put bound cs ys (All-tail (λ x. is_group x.body ≡ false) c cs h))
