-- A body with expressions put in: its functions are composed, its set and its number of components
-- stay, and so does its kind where what it names is kept.
use Rattle.std.specs.Prelude.{◌≡◌, ◌≤◌, ℕ, Bool, true, false, ◌&&◌, List, [], ◌∷◌, All, length, map, refl}
use Rattle.std.proofs.Common.{sym, ap, ap₂, subst, ◌∙◌, true≢false}
use Rattle.std.specs.List.{list_all}
use Rattle.std.proofs.lemmas.List.{length-map}
use Rattle.std.proofs.lemmas.List.Elements.{All-map, All-weaker}
use Rattle.set_core.specs.Shapes.{IsSetOf, is_scalar}
use Rattle.set_core.specs.declared.set.Set.{Set}
use Rattle.set_core.specs.declared.set.Set.TheVariants.{LessThan, Reals}
use Rattle.aff_core.specs.Address.{Address, address_cmp}
use Rattle.aff_core.specs.Arithmetic.{composed}
use Rattle.aff_core.specs.Function.{Function, variable}
use Rattle.aff_core.specs.declared.sense.Sense.{Sense}
use Rattle.aff_core.specs.declared.sense.Sense.TheVariants.{Min, Max}
use Rattle.item_core.specs.declared.image.Expression.{Expression}
use Rattle.item_core.specs.declared.image.Expression.TheVariants.{Kept, Bridged}
use Rattle.item_core.specs.declared.item.Body.{Body}
use Rattle.item_core.specs.declared.item.Body.TheVariants.{Group, Free, Plain, PlainVec, PlainObj, AffineObj}
use Rattle.item_core.specs.declared.item.Item.{Item}
use Rattle.item_core.specs.Item.{functions_of, is_group, set_of}
use Rattle.item_core.specs.KindOf.{kind_of_body, plain_kind_of}
use Rattle.item_core.specs.Valid.{FitsItsFunction, IsValidItem, NamesNothingBelow, below}
use Rattle.bridge_face.specs.Law.{expressed}
use Rattle.fresh_bridging.specs.Entries.{Entry, expression_in, function_in, is_kept, kept_in, objective_by, plain_or_affine, put_in, put_in_body, vector_by}
use Rattle.fresh_bridging.specs.MentionLaws.{AllOmit, composed-variable, composed_omits}
use Rattle.fresh_bridging.specs.TableLaws.{is_plain_kind}

-- ---- functions

plain_functions : (e : Expression) (set : Set)
    → functions_of (plain_or_affine e set) ≡ expressed e ∷ []
plain_functions (Kept var) set = refl
plain_functions (Bridged func) set = refl

objective_functions : (sense : Sense) (e : Expression)
    → functions_of (objective_by sense e) ≡ expressed e ∷ []
objective_functions sense (Kept var) = refl
objective_functions sense (Bridged func) = refl

kept_functions : (es : List Expression) → list_all is_kept es ≡ true
    → map variable (kept_in es) ≡ map expressed es
unfolding kept_in
kept_functions [] h = refl
kept_functions (Kept var ∷ es) h = ap (λ fs. variable var ∷ fs) (kept_functions es h)
kept_functions (Bridged func ∷ es) h = absurd (true≢false (sym h))

vector_functions : (b : Bool) (es : List Expression) (set : Set) → list_all is_kept es ≡ b
    → functions_of (vector_by b es set) ≡ map expressed es
unfolding vector_by
vector_functions true es set h = kept_functions es h
vector_functions false es set h = refl

composed_variables : (e : Address → Function) (vars : List Address)
    → map e vars ≡ map (composed {R = address_cmp} e) (map (variable {R = address_cmp}) vars)
composed_variables e [] = refl
composed_variables e (v ∷ vs) =
    ap₂ (λ f fs. f ∷ fs) (sym (composed-variable e v)) (composed_variables e vs)

looked_up : (entries : List Entry) (vars : List Address)
    → map expressed (map (expression_in entries) vars) ≡ map (function_in entries) vars
looked_up entries [] = refl
looked_up entries (v ∷ vs) = ap (λ fs. function_in entries v ∷ fs) (looked_up entries vs)

-- each function, composed with what stands for its variables
pub functions_put : (entries : List Entry) (b : Body) → is_group b ≡ false
    → functions_of (put_in_body entries b) ≡ map (composed (function_in entries)) (functions_of b)
unfolding put_in_body
functions_put entries (Group set vars) h = absurd (true≢false h)
functions_put entries (Free vars) h = absurd (true≢false h)
functions_put entries (Plain var set) h =
    plain_functions (expression_in entries var) set
    ∙ ap (λ f. f ∷ []) (sym (composed-variable (function_in entries) var))
functions_put entries (PlainVec vars set) h =
    vector_functions (list_all is_kept (map (expression_in entries) vars))
    (map (expression_in entries) vars) set refl
    ∙ looked_up entries vars ∙ composed_variables (function_in entries) vars
functions_put entries (PlainObj sense var) h =
    objective_functions sense (expression_in entries var)
    ∙ ap (λ f. f ∷ []) (sym (composed-variable (function_in entries) var))
functions_put entries _ h = refl

-- ---- sets

plain_set : (e : Expression) (set : Set) → set_of (plain_or_affine e set) ≡ set
plain_set (Kept var) set = refl
plain_set (Bridged func) set = refl

objective_set : (sense : Sense) (e : Expression) → set_of (objective_by sense e) ≡ Reals 1
objective_set sense (Kept var) = refl
objective_set sense (Bridged func) = refl

vector_set : (b : Bool) (es : List Expression) (set : Set) → set_of (vector_by b es set) ≡ set
unfolding vector_by
vector_set true es set = refl
vector_set false es set = refl

pub set_put : (entries : List Entry) (b : Body) → is_group b ≡ false
    → set_of (put_in_body entries b) ≡ set_of b
unfolding put_in_body
set_put entries (Group set vars) h = absurd (true≢false h)
set_put entries (Free vars) h = absurd (true≢false h)
set_put entries (Plain var set) h = plain_set (expression_in entries var) set
set_put entries (PlainVec vars set) h =
    vector_set (list_all is_kept (map (expression_in entries) vars))
    (map (expression_in entries) vars) set
set_put entries (PlainObj sense var) h = objective_set sense (expression_in entries var)
set_put entries _ h = refl

-- ---- shapes

plain_fits : (e : Expression) (set : Set) → is_scalar set ≡ true
    → FitsItsFunction (plain_or_affine e set)
plain_fits (Kept var) set h = h
plain_fits (Bridged func) set h = h

vector_fits : (b : Bool) (es : List Expression) (set : Set) → is_scalar set ≡ false
    → FitsItsFunction (vector_by b es set)
unfolding vector_by
vector_fits true es set h = h
vector_fits false es set h = h

objective_fits : (sense : Sense) (e : Expression) → FitsItsFunction (objective_by sense e)
objective_fits sense (Kept var) = tt
objective_fits sense (Bridged func) = tt

fits_put : (entries : List Entry) (b : Body) → FitsItsFunction b
    → FitsItsFunction (put_in_body entries b)
unfolding put_in_body
fits_put entries (Plain var set) h = plain_fits (expression_in entries var) set h
fits_put entries (PlainVec vars set) h =
    vector_fits (list_all is_kept (map (expression_in entries) vars))
    (map (expression_in entries) vars) set h
fits_put entries (PlainObj sense var) h = objective_fits sense (expression_in entries var)
fits_put entries _ h = h

-- ---- validity

pub length_put : (entries : List Entry) (b : Body) → is_group b ≡ false
    → length (functions_of (put_in_body entries b)) ≡ length (functions_of b)
length_put entries b h =
    ap length (functions_put entries b h)
    ∙ length-map (functions_of b) (composed (function_in entries))

-- an item with expressions put in that mention nothing below it is valid
pub valid_put : (entries : List Entry) (item : Item) → is_group item.body ≡ false → IsValidItem item
    → ((rest : List ℕ) → AllOmit (below item.at rest) entries) → IsValidItem (put_in entries item)
valid_put entries item row valid omit = record {
  function = fits_put entries item.body valid.function;
  some = subst (λ n. 1 ≤ n) (sym same) valid.some;
  at_most = subst (λ n. n ≤ 32767) (sym same) valid.at_most;
  set = subst (λ s. IsSetOf (length (functions_of (put_in_body entries item.body))) s)
      (sym (set_put entries item.body row)) (subst (λ n. IsSetOf n (set_of item.body)) (sym same)
      valid.set);
  depth = valid.depth;
  others = λ _.
      subst (All (NamesNothingBelow item.at)) (sym (functions_put entries item.body row))
      (All-map (NamesNothingBelow item.at) (composed (function_in entries)) (functions_of item.body)
      (All-weaker (NamesNothingBelow item.at) (λ f. NamesNothingBelow item.at
      (composed (function_in entries) f))
      (λ f h rest. composed_omits entries f (below item.at rest) (omit rest) (h rest))
      (functions_of item.body) (valid.others row)));
}
  where
    same : length (functions_of (put_in_body entries item.body)) ≡ length (functions_of item.body)
    same = length_put entries item.body row

-- ---- kinds

-- what the body names is kept
abbrev pub KeepsNamed : List Entry → Body → Type 0
KeepsNamed entries b =
    is_plain_kind (kind_of_body b) ≡ true → (v : Address) → is_kept (expression_in entries v) ≡ true

plain_is_plain : (set : Set) → is_plain_kind (plain_kind_of set) ≡ true
plain_is_plain (LessThan u) = refl
plain_is_plain _ = refl

kept_plain : (e : Expression) (set : Set) → is_kept e ≡ true
    → kind_of_body (plain_or_affine e set) ≡ plain_kind_of set
unfolding kind_of_body
kept_plain (Kept var) set h = refl
kept_plain (Bridged func) set h = absurd (true≢false (sym h))

kept_vector : (b : Bool) (es : List Expression) (set : Set) → b ≡ true
    → kind_of_body (vector_by b es set) ≡ plain_kind_of set
unfolding kind_of_body vector_by
kept_vector true es set h = refl
kept_vector false es set h = absurd (true≢false (sym h))

kept_objective : (sense : Sense) (e : Expression) (var : Address) → is_kept e ≡ true
    → kind_of_body (objective_by sense e) ≡ kind_of_body (PlainObj sense var)
unfolding kind_of_body
kept_objective Min (Kept w) var h = refl
kept_objective Max (Kept w) var h = refl
kept_objective sense (Bridged func) var h = absurd (true≢false (sym h))

all_kept : (entries : List Entry) (vars : List Address)
    → ((v : Address) → is_kept (expression_in entries v) ≡ true)
    → list_all is_kept (map (expression_in entries) vars) ≡ true
all_kept entries [] h = refl
all_kept entries (v ∷ vs) h = ap₂ ◌&&◌ (h v) (all_kept entries vs h)

sense_is_plain : (sense : Sense) (var : Address)
    → is_plain_kind (kind_of_body (PlainObj sense var)) ≡ true
unfolding kind_of_body
sense_is_plain Min var = refl
sense_is_plain Max var = refl

affine_objective : (sense : Sense) (f g : Function)
    → kind_of_body (AffineObj sense f) ≡ kind_of_body (AffineObj sense g)
unfolding kind_of_body
affine_objective Min f g = refl
affine_objective Max f g = refl

pub kind_put : (entries : List Entry) (b : Body) → KeepsNamed entries b
    → kind_of_body (put_in_body entries b) ≡ kind_of_body b
unfolding put_in_body kind_of_body
kind_put entries (Plain var set) h =
    kept_plain (expression_in entries var) set (h (plain_is_plain set) var)
kind_put entries (PlainVec vars set) h =
    kept_vector (list_all is_kept (map (expression_in entries) vars))
    (map (expression_in entries) vars) set
    (all_kept entries vars (h (plain_is_plain set)))
kind_put entries (PlainObj sense var) h =
    kept_objective sense (expression_in entries var) var (h (sense_is_plain sense var) var)
kind_put entries (AffineObj sense func) h =
    affine_objective sense (composed (function_in entries) func) func
kind_put entries _ h = refl
