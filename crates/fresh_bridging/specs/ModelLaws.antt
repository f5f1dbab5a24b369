-- Each group, row and objective of a valid model gives a valid item, which names the user's
-- variables alone.
use Rattle.std.specs.Prelude.{◌≡◌, ◌≢◌, ◌⊎◌, ◌≤◌, ℕ, zero, suc, Bool, true, false, ◌||◌, cond, List, [], ◌∷◌, All, Contains, Option, Some, None, is_some, length, map, unwrap_or, refl}
use Rattle.std.proofs.Common.{arith, inl, inr, sym, ap, subst, ◌∙◌, true≢false}
use Rattle.std.specs.FinMap as finite
use Rattle.std.specs.List.{list_any}
use Rattle.std.proofs.lemmas.List.{length-map}
use Rattle.std.proofs.lemmas.List.Elements.{All-append, All-cons, All-head, All-map, All-nil, All-tail, All-weaker}
use Rattle.std.proofs.lemmas.Bool.{false_from_ne_true}
use Rattle.ratio_core.specs.Rational.{zero_ℚ}
use Rattle.set_core.specs.Shapes.{IsSetOf, is_norm_cone, is_scalar, least_dimension}
use Rattle.set_core.specs.declared.set.Set.{Set}
use Rattle.set_core.specs.declared.set.Set.TheVariants.{Reals}
use Rattle.aff_core.specs.Address.{Address, address_cmp, address_eq, address_eq-Decides, root_address, root_number}
use Rattle.aff_core.specs.Function.{Function, coefficient, variable}
use Rattle.aff_core.specs.FunctionLaws.{coefficient-variable_other}
use Rattle.aff_core.specs.KeyOrder.{address_order}
use Rattle.aff_core.specs.declared.root.Root.TheVariants as root
use Rattle.item_core.specs.declared.item.Item.{Item}
use Rattle.item_core.specs.declared.item.Body.{Body}
use Rattle.item_core.specs.declared.item.Body.TheVariants.{PlainObj, AffineObj}
use Rattle.item_core.specs.Item.{functions_of, is_group, set_of}
use Rattle.item_core.specs.Valid.{FitsItsFunction, IsValidItem, NamesNothingBelow, below}
use Rattle.user_model.specs.Functions.{components, func_mentions, has_term, is_scalar_function}
use Rattle.user_model.specs.Model.{ModelValue, objective_mentions, variable_address}
use Rattle.user_model.specs.Valid.{IsValid, IsValidGroup, IsValidObjective, IsValidRow, Stands}
use Rattle.user_model.specs.declared.function.UserFunc.{UserFunc}
use Rattle.user_model.specs.declared.function.UserFunc.TheVariants.{Plain, Affine, PlainVec, AffineVec}
use Rattle.user_model.specs.declared.group.Group.{Group}
use Rattle.user_model.specs.declared.group.GroupVar.{GroupVar}
use Rattle.user_model.specs.declared.objective.Objective.{Objective}
use Rattle.user_model.specs.declared.objective.Objective.TheVariants as objective
use Rattle.user_model.specs.declared.row.Row.{Row}
use Rattle.fresh_bridging.specs.ModelImage.{group_item, model_image, objective_item, objective_items, row_body, row_item}
use Rattle.fresh_bridging.specs.OmitLaws.{Owns}

at_least_one : (s : Set) → 1 ≤ least_dimension s
at_least_one s = by (is_norm_cone s)
  where
    by : (b : Bool) → 1 ≤ cond b 2 1
    by true = omega arith
    by false = omega arith

some_of : (n : ℕ) (s : Set) → IsSetOf n s → 1 ≤ n
some_of n s h = omega (arith, at_least_one s, h.enough)

-- ---- groups

pub group_valid : (group : Group) → IsValidGroup group → IsValidItem (group_item group)
group_valid group h =
    let vars = map (λ v. variable_address v.number) group.vars in
    let count : length (map variable vars) ≡ length group.vars = length-map vars variable
    ∙ length-map group.vars (λ v. variable_address v.number) in
    record {
      function = tt;
      some = omega (arith, count, some_of (length group.vars) group.set h.set);
      at_most = omega (arith, count, h.limit);
      set = subst (λ n. IsSetOf n group.set) (sym count) h.set;
      depth = omega arith;
      others = λ no. absurd (true≢false no);
    }

pub group_size : (group : Group) → IsValidGroup group
    → length (functions_of (group_item group).body) ≤ 4096
group_size group h =
    let vars = map (λ v. variable_address v.number) group.vars in
    omega (
      arith,
      length-map vars (variable {R = address_cmp}),
      length-map group.vars
          (λ v. variable_address v.number),
      h.limit,
    )

-- ---- functions name the user's variables alone

-- no function mentions an address of another root
abbrev pub OfVariables : List Function → Type 0
OfVariables fs = All (λ f. (v : Address) → v.root ≢ root.Variable → coefficient f v ≡ zero_ℚ) fs

unmentioned : (f : Function) (v : Address) → has_term v f ≡ false → coefficient f v ≡ zero_ℚ
unmentioned f v h = by (finite.get f.terms v) refl h
  where
    by : (o : Option _) → finite.get f.terms v ≡ o → is_some o ≡ false
        → unwrap_or (finite.get f.terms v) zero_ℚ ≡ zero_ℚ
    by None e k = ap (λ o. unwrap_or o zero_ℚ) e
    by (Some q) e k = absurd (true≢false k)

stands_root : (groups : List Group) (v : Address) → Stands groups v → v.root ≡ root.Variable
stands_root groups v h = ap (λ (a : Address). a.root) h.address

none_of : {A : Type 0} (p : A → Bool) (x : A) (xs : List A) → list_any p (x ∷ xs) ≡ false
    → (p x ≡ false) × (list_any p xs ≡ false)
none_of p x xs h = by (p x) refl h
  where
    by : (b : Bool) → p x ≡ b → (b || list_any p xs) ≡ false
        → (p x ≡ false) × (list_any p xs ≡ false)
    by true e k = absurd (true≢false k)
    by false e k = (e, k)

variables_omit : (vars : List Address) (v : Address) → list_any (address_eq v) vars ≡ false
    → All (λ f. coefficient f v ≡ zero_ℚ) (map (variable {R = address_cmp}) vars)
variables_omit [] v h = All-nil (λ f. coefficient f v ≡ zero_ℚ)
variables_omit (u ∷ us) v h =
    let parts = none_of (address_eq v) u us h in
    All-cons (λ f. coefficient f v ≡ zero_ℚ) (variable u) (map (variable {R = address_cmp}) us)
    (coefficient-variable_other address_order u v
    (λ same. true≢false (sym ((address_eq-Decides v u).1 same) ∙ parts.0)))
    (variables_omit us v parts.1)

functions_omit : (fs : List Function) (v : Address) → list_any (has_term v) fs ≡ false
    → All (λ f. coefficient f v ≡ zero_ℚ) fs
functions_omit [] v h = All-nil (λ f. coefficient f v ≡ zero_ℚ)
functions_omit (f ∷ fs) v h =
    let parts = none_of (has_term v) f fs h in
    All-cons (λ g. coefficient g v ≡ zero_ℚ) f fs (unmentioned f v parts.0)
    (functions_omit fs v parts.1)

pub row_omits : (func : UserFunc) (s : Set) (v : Address) → func_mentions v func ≡ false
    → All (λ f. coefficient f v ≡ zero_ℚ) (functions_of (row_body func s))
row_omits (Plain var) s v h =
    All-cons (λ f. coefficient f v ≡ zero_ℚ) (variable var) []
    (coefficient-variable_other address_order var v
    (λ same. true≢false (sym ((address_eq-Decides v var).1 same) ∙ h)))
    (All-nil (λ f. coefficient f v ≡ zero_ℚ))
row_omits (Affine f) s v h =
    All-cons (λ g. coefficient g v ≡ zero_ℚ) f [] (unmentioned f v h)
    (All-nil (λ g. coefficient g v ≡ zero_ℚ))
row_omits (PlainVec vars) s v h = variables_omit vars v h
row_omits (AffineVec fs) s v h = functions_omit fs v h

-- of all at once: a fact of each element at each index
each_at : {A B : Type 0} (P : B → A → Type 0) (Q : B → Type 0) (xs : List A)
    → ((b : B) → Q b → All (P b) xs)
    → All (λ x. (b : B) → Q b → P b x) xs
each_at P Q [] h = All-nil (λ x. (b : _) → Q b → P b x)
each_at P Q (x ∷ xs) h =
    All-cons (λ y. (b : _) → Q b → P b y) x xs (λ b q. All-head (P b) x xs (h b q))
    (each_at P Q xs (λ b q. All-tail (P b) x xs (h b q)))

pub row_variables : (groups : List Group) (row : Row) → IsValidRow groups row
    → OfVariables (functions_of (row_item row).body)
row_variables groups row h =
    each_at (λ v f. coefficient f v ≡ zero_ℚ) (λ v. v.root ≢ root.Variable)
    (functions_of (row_item row).body)
    (λ v other. row_omits row.func row.set v (false_from_ne_true (func_mentions v row.func)
    (λ t. other (stands_root groups v (h.stand v t)))))

-- ---- rows

row_fits : (func : UserFunc) (s : Set) → is_scalar s ≡ is_scalar_function func
    → FitsItsFunction (row_body func s)
row_fits (Plain var) s h = h
row_fits (Affine f) s h = h
row_fits (PlainVec vars) s h = h
row_fits (AffineVec fs) s h = h

pub row_count : (func : UserFunc) (s : Set)
    → length (functions_of (row_body func s)) ≡ components func
row_count (PlainVec vars) s = length-map vars variable
row_count _ s = refl

pub row_set_is : (func : UserFunc) (s : Set) → set_of (row_body func s) ≡ s
row_set_is (Plain var) s = refl
row_set_is (Affine f) s = refl
row_set_is (PlainVec vars) s = refl
row_set_is (AffineVec fs) s = refl

pub row_no_group : (func : UserFunc) (s : Set) → is_group (row_body func s) ≡ false
row_no_group (Plain var) s = refl
row_no_group (Affine f) s = refl
row_no_group (PlainVec vars) s = refl
row_no_group (AffineVec fs) s = refl

-- what names variables alone names nothing below an address of another root
pub names_nothing : (at : Address) → at.root ≢ root.Variable → (fs : List Function) → OfVariables fs
    → All (NamesNothingBelow at) fs
names_nothing at other fs h =
    All-weaker (λ f. (v : Address) → v.root ≢ root.Variable → coefficient f v ≡ zero_ℚ)
    (NamesNothingBelow at)
    (λ f k rest. k (below at rest) other) fs h

row_root : root.Row ≢ root.Variable
row_root e = let apart : 2 ≡ 0 = ap root_number e in omega (arith, apart)

objective_root : root.Objective ≢ root.Variable
objective_root e = let apart : 3 ≡ 0 = ap root_number e in omega (arith, apart)

pub row_valid : (groups : List Group) (row : Row) → IsValidRow groups row
    → IsValidItem (row_item row)
row_valid groups row h =
    let count = row_count row.func row.set in
    record {
      function = row_fits row.func row.set h.shape;
      some = subst (λ n. 1 ≤ n) (sym count) (some_of (components row.func) row.set h.set);
      at_most = subst (λ n. n ≤ 32767) (sym count) (omega (arith, h.limit));
      set = subst (λ n. IsSetOf n (set_of (row_body row.func row.set))) (sym count)
          (subst (IsSetOf (components row.func)) (sym (row_set_is row.func row.set)) h.set);
      depth = omega arith;
      others = λ _. names_nothing (root_address root.Row row.id) row_root
          (functions_of (row_item row).body) (row_variables groups row h);
    }

-- ---- the objective

pub objective_omits : (o : Objective) (v : Address) → objective_mentions v o ≡ false
    → All (λ item. All (λ f. coefficient f v ≡ zero_ℚ) (functions_of item.body)) (objective_items o)
objective_omits objective.Feasibility v h =
    All-nil (λ item. All (λ f. coefficient f v ≡ zero_ℚ) (functions_of item.body))
objective_omits (objective.Plain sense var) v h =
    All-cons (λ item. All (λ f. coefficient f v ≡ zero_ℚ) (functions_of item.body))
    (objective_item (PlainObj sense var)) []
    (All-cons (λ f. coefficient f v ≡ zero_ℚ) (variable var) []
    (coefficient-variable_other address_order var v
    (λ same. true≢false (sym ((address_eq-Decides v var).1 same) ∙ h)))
    (All-nil (λ f. coefficient f v ≡ zero_ℚ)))
    (All-nil (λ item. All (λ f. coefficient f v ≡ zero_ℚ) (functions_of item.body)))
objective_omits (objective.Affine sense func) v h =
    All-cons (λ item. All (λ f. coefficient f v ≡ zero_ℚ) (functions_of item.body))
    (objective_item (AffineObj sense func)) []
    (All-cons (λ f. coefficient f v ≡ zero_ℚ) func [] (unmentioned func v h)
    (All-nil (λ f. coefficient f v ≡ zero_ℚ)))
    (All-nil (λ item. All (λ f. coefficient f v ≡ zero_ℚ) (functions_of item.body)))

one_valid : (b : Body) → FitsItsFunction b → length (functions_of b) ≡ 1 → set_of b ≡ Reals 1
    → OfVariables (functions_of b) → IsValidItem (objective_item b)
one_valid b fits count set of = record {
  function = fits;
  some = omega (arith, count);
  at_most = omega (arith, count);
  set = subst (λ n. IsSetOf n (set_of b)) (sym count)
      (subst (IsSetOf 1) (sym set) (record {
        dimension = refl;
        enough = omega arith;
        uncrossed = refl;
      }));
  depth = omega arith;
  others = λ _. names_nothing (root_address root.Objective 0) objective_root (functions_of b) of;
}

-- a further item of the model: a row or the objective
pub record IsFurther (item : Item) : Type 0 where
  pub valid : IsValidItem item
  pub no_group : is_group item.body ≡ false
  pub count : length (functions_of item.body) ≤ 4096
  pub root : (item.at.root ≡ root.Row) ⊎ (item.at.root ≡ root.Objective)
  pub top : length item.at.positions ≡ 0

pub row_further : (groups : List Group) (row : Row) → IsValidRow groups row
    → IsFurther (row_item row)
row_further groups row h = record {
  valid = row_valid groups row h;
  no_group = row_no_group row.func row.set;
  count = omega (arith, row_count row.func row.set, h.limit);
  root = inl refl;
  top = refl;
}

one_further : (b : Body) → FitsItsFunction b → is_group b ≡ false → length (functions_of b) ≡ 1
    → set_of b ≡ Reals 1
    → ((v : Address) → v.root ≢ root.Variable
    → All (λ item. All (λ f. coefficient f v ≡ zero_ℚ) (functions_of item.body))
    (objective_item b ∷ []))
    → All IsFurther (objective_item b ∷ [])
one_further b fits no_group count set k =
    All-cons IsFurther (objective_item b) []
    (record {
      valid = one_valid b fits count set
          (each_at (λ v f. coefficient f v ≡ zero_ℚ) (λ v. v.root ≢ root.Variable) (functions_of b)
          (λ v other. All-head (λ item. All (λ f. coefficient f v ≡ zero_ℚ)
          (functions_of item.body)) (objective_item b) [] (k v other)));
      no_group = no_group;
      count = omega (arith, count);
      root = inr refl;
      top = refl;
    })
    (All-nil IsFurther)

pub objective_further : (groups : List Group) (o : Objective) → IsValidObjective groups o
    → All IsFurther (objective_items o)
objective_further groups o h = by o (λ v other. objective_omits o v
    (false_from_ne_true (objective_mentions v o) (λ t. other (stands_root groups v (h.stand v t)))))
  where
    by : (o : Objective) → ((v : Address) → v.root ≢ root.Variable
        → All (λ item. All (λ f. coefficient f v ≡ zero_ℚ) (functions_of item.body))
        (objective_items o))
        → All IsFurther (objective_items o)
    by objective.Feasibility k = All-nil IsFurther
    by (objective.Plain sense var) k = one_further (PlainObj sense var) tt refl refl refl k
    by (objective.Affine sense func) k = one_further (AffineObj sense func) tt refl refl refl k

pub further : (model : ModelValue) → IsValid model → All IsFurther (model_image model).others
further model valid =
    All-append IsFurther (map row_item model.rows) (objective_items model.objective)
    (All-map IsFurther row_item model.rows
    (All-weaker (IsValidRow model.groups) (λ r. IsFurther (row_item r)) (row_further model.groups)
    model.rows valid.parts.valid_rows))
    (objective_further model.groups model.objective valid.parts.valid_objective)

-- ---- a group owns nothing at or below another root

pub group_owns : (group : Group) (v : Address) → Owns (group_item group) v
    → (v.root ≡ root.Group) ⊎ (v.root ≡ root.Variable)
group_owns group v (inl b) = inl (ap (λ (a : Address). a.root) b.is)
group_owns group v (inr c) = inr (named (map (λ g. g.number) group.vars)
    (subst (λ vs. Contains vs v) (numbered group.vars) c))
  where
    numbered : (vars : List GroupVar)
        → map (λ g. variable_address g.number) vars
        ≡ map variable_address (map (λ g. g.number) vars)
    numbered [] = refl
    numbered (g ∷ gs) = ap (λ l. variable_address g.number ∷ l) (numbered gs)

    named : (ns : List ℕ) → Contains (map variable_address ns) v → v.root ≡ root.Variable
    named [] (place, inside, is) = absurd (omega (arith, inside))
    named (n ∷ ns) (zero, inside, is) = ap (λ (a : Address). a.root) (sym is)
    named (n ∷ ns) (suc place, inside, is) = named ns (place, omega (arith, inside), is)

pub not_owned : (group : Group) (v : Address) → (v.root ≡ root.Row) ⊎ (v.root ≡ root.Objective)
    → ¬ (Owns (group_item group) v)
not_owned group v which o = numbers (group_owns group v o) which
  where
    numbers : (v.root ≡ root.Group) ⊎ (v.root ≡ root.Variable)
        → (v.root ≡ root.Row) ⊎ (v.root ≡ root.Objective) → ⊥
    numbers (inl a) (inl b) = let n : 1 ≡ 2 = ap root_number (sym a ∙ b) in omega (arith, n)
    numbers (inl a) (inr b) = let n : 1 ≡ 3 = ap root_number (sym a ∙ b) in omega (arith, n)
    numbers (inr a) (inl b) = let n : 0 ≡ 2 = ap root_number (sym a ∙ b) in omega (arith, n)
    numbers (inr a) (inr b) = let n : 0 ≡ 3 = ap root_number (sym a ∙ b) in omega (arith, n)
