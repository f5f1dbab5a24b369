-- The plain functions of a valid model's rows and objective name the model's variables. And where two
-- images of a list are the same, they are so at each place.
use Rattle.std.specs.Prelude.{◌≡◌, true, List, [], ◌∷◌, All, Contains, map, refl}
use Rattle.std.proofs.lemmas.List.Elements.{All-append, All-cons, All-contains_itself, All-head, All-nil, All-tail, All-weaker}
use Rattle.aff_core.specs.Address.{Address, address_eq-Decides}
use Rattle.found_plan.specs.Marked.{plain_in, plain_in_objective, plain_in_row}
use Rattle.leaf_update.specs.LeavesLaws.{among_contained}
use Rattle.map_laws.specs.EachLaws.{cons_head, cons_tail}
use Rattle.push_laws.specs.AgreeLaws.{own_variables}
use Rattle.tree_laws.specs.UserLaws.{stands_in}
use Rattle.user_model.specs.Functions.{func_mentions}
use Rattle.user_model.specs.Model.{objective_mentions}
use Rattle.user_model.specs.Valid.{IsValidRow, Stands}
use Rattle.user_model.specs.declared.function.UserFunc.{UserFunc}
use Rattle.user_model.specs.declared.function.UserFunc.TheVariants.{Plain, Affine, PlainVec, AffineVec}
use Rattle.user_model.specs.declared.group.Group.{Group}
use Rattle.user_model.specs.declared.objective.Objective.{Objective}
use Rattle.user_model.specs.declared.objective.Objective.TheVariants as objective
use Rattle.user_model.specs.declared.row.Row.{Row}

-- ---- plain functions name the model's variables

module _ (groups : List Group) where
  abbrev pub IsOwn : Address → Type 0
  IsOwn v = Contains (own_variables groups) v

  func_plain : (f : UserFunc)
      → ((at : Address) → func_mentions at f ≡ true → Stands groups at)
      → All IsOwn (plain_in_row f)
  func_plain (Plain var) stand =
      All-cons IsOwn var []
      (stands_in groups var (stand var ((address_eq-Decides var var).1 refl))) (All-nil IsOwn)
  func_plain (Affine f) stand = All-nil IsOwn
  func_plain (PlainVec vars) stand =
      All-weaker (Contains vars) IsOwn
      (λ v c. stands_in groups v (stand v (among_contained v vars c))) vars
      (All-contains_itself vars)
  func_plain (AffineVec fs) stand = All-nil IsOwn

  pub rows_plain : (rows : List Row) → All (IsValidRow groups) rows → All IsOwn (plain_in rows)
  rows_plain [] h = All-nil IsOwn
  rows_plain (r ∷ rows) h =
      All-append IsOwn (plain_in_row r.func) (plain_in rows)
      (func_plain r.func (All-head (IsValidRow groups) r rows h).stand)
      (rows_plain rows (All-tail (IsValidRow groups) r rows h))

  pub objective_plain : (o : Objective)
      → ((at : Address) → objective_mentions at o ≡ true → Stands groups at)
      → All IsOwn (plain_in_objective o)
  objective_plain objective.Feasibility stand = All-nil IsOwn
  objective_plain (objective.Plain sense var) stand =
      All-cons IsOwn var []
      (stands_in groups var (stand var ((address_eq-Decides var var).1 refl))) (All-nil IsOwn)
  objective_plain (objective.Affine sense f) stand = All-nil IsOwn

-- ---- lists

pub each_same : {A B : Type 0} (f g : A → B) (xs : List A) → map f xs ≡ map g xs
    → All (λ x. f x ≡ g x) xs
each_same f g [] e = All-nil (λ x. f x ≡ g x)
each_same f g (x ∷ xs) e =
    All-cons (λ x. f x ≡ g x) x xs (cons_head (f x) (g x) (map f xs) (map g xs) e)
    (each_same f g xs (cons_tail (f x) (g x) (map f xs) (map g xs) e))
