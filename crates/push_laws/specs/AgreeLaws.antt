-- What stands for the variables that found items name: for those of the planned groups what is
-- planned, and for others what a map tells.
use Rattle.std.specs.Prelude.{◌≡◌, zero, suc, Bool, true, false, ◌||◌, ◌++◌, cond, find, List, [], ◌∷◌, All, Contains, flat_map, map, Option, Some, None, refl}
use Rattle.std.specs.List.{list_any}
use Rattle.std.specs.Option.{option_map_or}
use Rattle.std.proofs.Common.{arith, ap, ap₂, subst, sym, ◌∙◌}
use Rattle.std.proofs.lemmas.List.{append-nil, map-append}
use Rattle.std.proofs.lemmas.List.Elements.{All-append, All-cons, All-nil, All-weaker, Contains-append_left, Contains-append_right}
use Rattle.std.proofs.lemmas.Map.Views.{Contains-from_any}
use Rattle.aff_core.specs.Address.{Address, address_cmp, address_eq, address_eq-Decides}
use Rattle.aff_core.specs.Function.{variable}
use Rattle.aff_core.specs.FunctionLaws.{terms-variable}
use Rattle.address_map.specs.AddressMap.{AddressMap}
use Rattle.bridge_face.specs.Law.{Miss}
use Rattle.found_plan.specs.Read.{named_by, named_in, named_in_objective, named_in_row, own_entries, own_entry, read_entries, read_expression}
use Rattle.fresh_bridging.specs.Entries.{Entry, expression_in}
use Rattle.fresh_bridging.specs.ModelImage.{objective_items, row_body, row_item}
use Rattle.item_core.specs.Item.{functions_of}
use Rattle.item_core.specs.declared.image.Expression.{Expression}
use Rattle.item_core.specs.declared.image.Expression.TheVariants.{Kept}
use Rattle.item_core.specs.declared.item.Item.{Item}
use Rattle.local_laws.specs.MentionLaws.{names_listed}
use Rattle.local_laws.specs.Stays.{AgreeOn}
use Rattle.model_bridging.specs.Found.{found_others}
use Rattle.set_core.specs.declared.set.Set.{Set}
use Rattle.user_model.specs.Model.{variable_address}
use Rattle.user_model.specs.declared.function.UserFunc.{UserFunc}
use Rattle.user_model.specs.declared.function.UserFunc.TheVariants.{Plain, Affine, PlainVec, AffineVec}
use Rattle.user_model.specs.declared.group.Group.{Group}
use Rattle.user_model.specs.declared.group.GroupVar.{GroupVar}
use Rattle.user_model.specs.declared.objective.Objective.{Objective}
use Rattle.user_model.specs.declared.objective.Objective.TheVariants as objective
use Rattle.user_model.specs.declared.row.Row.{Row}

-- ---- what stands for a variable

abbrev pub is_one_of : List Address → Address → Bool
is_one_of us v = list_any (λ u. address_eq u v) us

pub contains_one_of : (us : List Address) (v : Address) → is_one_of us v ≡ true → Contains us v
contains_one_of us v e =
    Contains-from_any {eq = λ a b. address_eq b a} (λ a b h. sym ((address_eq-Decides b a).0 h)) v us
    e

pub one_of_contained : (us : List Address) (v : Address) → Contains us v → is_one_of us v ≡ true
one_of_contained [] v c = absurd (omega (arith, c.1))
one_of_contained (u ∷ us) v (zero, inside, is) =
    ap (λ b. b || is_one_of us v) ((address_eq-Decides u v).1 is)
one_of_contained (u ∷ us) v (suc i, inside, is) =
    by (address_eq u v) (one_of_contained us v (i, omega (arith, inside), is))
  where
    by : (b : Bool) → is_one_of us v ≡ true → (b || is_one_of us v) ≡ true
    by true e = refl
    by false e = e

-- the variables that groups have of their own
abbrev pub own_variables : List Group → List Address
own_variables groups =
    map (λ (v : GroupVar). variable_address v.number) (flat_map (λ (g : Group). g.vars) groups)

module _ {X : Type 0} (at : X → Address) (f : Address → Expression) (rest : List Entry)
    (v : Address) where
  abbrev entry : X → Entry
  entry x = record { component = at x; expression = f (at x) }

  mapped : (xs : List X)
      → expression_in (map entry xs ++ rest) v
      ≡ cond (is_one_of (map at xs) v) (f v) (expression_in rest v)
  mapped [] = refl
  mapped (x ∷ xs) = by (address_eq (at x) v) refl (mapped xs)
    where
      by : (b : Bool) → address_eq (at x) v ≡ b
          → expression_in (map entry xs ++ rest) v
          ≡ cond (is_one_of (map at xs) v) (f v) (expression_in rest v)
          → option_map_or (λ (e : Entry). e.expression) (cond b (Some (entry x))
          (find (λ (e : Entry). address_eq e.component v) (map entry xs ++ rest))) (Kept v)
          ≡ cond (b || is_one_of (map at xs) v) (f v) (expression_in rest v)
      by true e later = ap f ((address_eq-Decides (at x) v).0 e)
      by false e later = later

own_flat : (standing : List Entry) (groups : List Group)
    → own_entries standing groups
    ≡ map (own_entry standing) (flat_map (λ (g : Group). g.vars) groups)
own_flat standing [] = refl
own_flat standing (g ∷ gs) =
    ap (λ l. map (own_entry standing) g.vars ++ l) (own_flat standing gs)
    ∙ sym (map-append (own_entry standing) g.vars (flat_map (λ (g : Group). g.vars) gs))

pub found_standing : (standing : List Entry) (places : AddressMap) (groups : List Group)
    (vs : List Address) (v : Address)
    → expression_in (own_entries standing groups ++ read_entries places vs) v
    ≡ cond (is_one_of (own_variables groups) v) (expression_in standing v)
    (cond (is_one_of vs v) (read_expression places v) (Kept v))
found_standing standing places groups vs v =
    ap (λ l. expression_in (l ++ read_entries places vs) v) (own_flat standing groups)
    ∙ mapped (λ (x : GroupVar). variable_address x.number) (expression_in standing)
    (read_entries places vs) v (flat_map (λ (g : Group). g.vars) groups)
    ∙ ap (cond (is_one_of (own_variables groups) v) (expression_in standing v))
    (ap (λ l. expression_in l v) (sym (append-nil (read_entries places vs)))
    ∙ mapped (λ u. u) (read_expression places) [] v vs
    ∙ ap (λ l. cond (is_one_of l v) (read_expression places v) (Kept v)) (itself vs))
  where
    itself : (us : List Address) → map (λ u. u) us ≡ us
    itself [] = refl
    itself (u ∷ us) = ap (λ l. u ∷ l) (itself us)

-- ---- what an item names

named_variable : (v : Address) → named_in (variable {R = address_cmp} v) ≡ v ∷ []
named_variable v = ap (map (λ t. t.0)) (terms-variable address_cmp v)

named_variables : (vs : List Address) → flat_map named_in (map variable vs) ≡ vs
named_variables [] = refl
named_variables (v ∷ vs) = ap₂ ◌++◌ (named_variable v) (named_variables vs)

row_names : (func : UserFunc) (set : Set)
    → flat_map named_in (functions_of (row_body func set)) ≡ named_in_row func
row_names (Plain var) set = append-nil (named_in (variable var)) ∙ named_variable var
row_names (Affine f) set = append-nil (named_in f)
row_names (PlainVec vars) set = named_variables vars
row_names (AffineVec fs) set = refl

abbrev Names : List Address → Item → Type 0
Names all i = (v : Address) → ¬ (Miss (functions_of i.body) v) → Contains all v

objective_names : (o : Objective)
    → All (Names (named_in_objective o)) (objective_items o)
objective_names objective.Feasibility = All-nil (Names [])
objective_names (objective.Plain sense var) =
    All-cons (Names (var ∷ [])) _ []
    (λ v m. subst (λ l. Contains l v)
    (append-nil (named_in (variable var)) ∙ named_variable var)
    ((names_listed (variable var ∷ []) v).1 m))
    (All-nil (Names (var ∷ [])))
objective_names (objective.Affine sense f) =
    All-cons (Names (named_in f)) _ []
    (λ v m. subst (λ l. Contains l v) (append-nil (named_in f))
    ((names_listed (f ∷ []) v).1 m))
    (All-nil (Names (named_in f)))

rows_name : (rows : List Row)
    → All (Names (flat_map (λ (r : Row). named_in_row r.func) rows)) (map row_item rows)
rows_name [] = All-nil (Names [])
rows_name (r ∷ rows) =
    let later = flat_map (λ (r : Row). named_in_row r.func) rows in
    All-cons (Names (named_in_row r.func ++ later)) (row_item r) (map row_item rows)
    (λ v m. Contains-append_left (named_in_row r.func) later v
    (subst (λ l. Contains l v) (row_names r.func r.set)
    ((names_listed (functions_of (row_body r.func r.set)) v).1 m)))
    (All-weaker (Names later) (Names (named_in_row r.func ++ later))
    (λ i h v m. Contains-append_right (named_in_row r.func) later v (h v m))
    (map row_item rows) (rows_name rows))

pub others_name : (rows : List Row) (o : Option Objective)
    → All (Names (named_by rows o)) (found_others rows o)
others_name rows o =
    let first = flat_map (λ (r : Row). named_in_row r.func) rows in
    let last = option_map_or named_in_objective o [] in
    All-append (Names (first ++ last)) (map row_item rows) (option_map_or objective_items o [])
    (All-weaker (Names first) (Names (first ++ last))
    (λ i h v m. Contains-append_left first last v (h v m)) (map row_item rows) (rows_name rows))
    (All-weaker (Names last) (Names (first ++ last))
    (λ i h v m. Contains-append_right first last v (h v m))
    (option_map_or objective_items o []) (of_some o))
  where
    of_some : (o : Option Objective)
        → All (Names (option_map_or named_in_objective o [])) (option_map_or objective_items o [])
    of_some None = All-nil (Names [])
    of_some (Some x) = objective_names x

-- what agrees on all that the found rows and the objective name agrees on each of them
pub others_agree : (rows : List Row) (o : Option Objective) (es fs : List Entry)
    → ((v : Address) → Contains (named_by rows o) v → expression_in es v ≡ expression_in fs v)
    → All (λ i. AgreeOn es fs i.body) (found_others rows o)
others_agree rows o es fs h =
    All-weaker (Names (named_by rows o)) (λ i. AgreeOn es fs i.body)
    (λ i names v m. h v (names v m)) (found_others rows o) (others_name rows o)
