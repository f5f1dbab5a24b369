-- The rows that are made of a file's constraints have names that are apart.
use Rattle.std.specs.Prelude.{◌≡◌, ◌≢◌, ℕ, zero, suc, ◌+◌, ◌^◌, ◌<◌, ◌≤◌, Bool, true, false, List, [], ◌∷◌, ◌++◌, All, AllPairs, Option, Some, None, Ok, bytes_eq, length, option_and_then, option_to_list, slice_get, slice_set, if◌then◌else◌, refl}
use Rattle.std.specs.Map.{lookup}
use Rattle.std.proofs.Common.{ap, ap₂, append-nil, append_assoc, arith, subst, sym, ◌∙◌}
use Rattle.std.proofs.lemmas.List.Elements.{All-append, All-cons, All-head, All-nil, All-set, All-tail}
use Rattle.std.proofs.lemmas.List.Kept.{AllPairs-cons}
use Rattle.map_laws.specs.EachLaws.{all_first, all_second}
use Rattle.map_laws.specs.PairLaws.{AllPairs-head, AllPairs-tail}
use Rattle.mof_file.specs.File.{FileValue}
use Rattle.mof_values.specs.Walked.{Walked}
use Rattle.mof_file.specs.declared.constraints.FileConstraint.{FileConstraint}
use Rattle.mof_file.specs.declared.objectives.FileObjective.{FileObjective}
use Rattle.mof_file.specs.declared.objectives.FileObjective.TheVariants.{Feasibility, Optimize}
use Rattle.user_model.specs.declared.edit.Edit.{Edit}
use Rattle.user_model.specs.declared.edit.Edit.TheVariants.{AddGroup, AddRow}
use Rattle.mof_read.specs.Edits.{Sorted, edits_of, nothing, objective_edits, sorted_of, with_constraint, with_constraints, with_group, with_row}
use Rattle.mof_read.specs.Groups.{Owners, becomes_group, group_at, in_order, left_after, plain_names}
use Rattle.mof_read.specs.NameLaws.{MadeNamesAreNew, RowsAreApart, given, given_apart, length-all_names, made_new, row_names}
use Rattle.mof_read.specs.Names.{all_names, and_name, row_name, with_own_names}

abbrev Apart : List (List ℕ) → Type 0
Apart names = AllPairs {X = List ℕ} (λ a b. a ≢ b) names

-- without one of them
dropped : {X : Type 0} (R : X → X → Type 0) (xs : List X) (y : X) (ys : List X)
    → AllPairs R (xs ++ (y ∷ ys)) → AllPairs R (xs ++ ys)
dropped R [] y ys h = AllPairs-tail R y ys h
dropped R (x ∷ xs) y ys h =
    let head = AllPairs-head R x (xs ++ (y ∷ ys)) h in
    AllPairs-cons R x (xs ++ ys)
    (All-append (R x) xs ys (all_first (R x) xs (y ∷ ys) head)
    (All-tail (R x) y ys (all_second (R x) xs (y ∷ ys) head)))
    (dropped R xs y ys (AllPairs-tail R x (xs ++ (y ∷ ys)) h))

row_names-append : (es fs : List Edit) → row_names (es ++ fs) ≡ row_names es ++ row_names fs
row_names-append [] fs = refl
row_names-append (AddRow name func set ∷ es) fs = ap (λ ns. name ∷ ns) (row_names-append es fs)
row_names-append (e ∷ es) fs = row_names-append es fs

-- ---- rows

module _ (taken : List (List ℕ)) (count : ℕ) (few : length taken ≤ count)
    (small : count < 2 ^ 64) where
  abbrev Given : ℕ → List FileConstraint → List (List ℕ)
  Given k cs = given taken count few small k cs

  rows_apart : (k : ℕ) (s : Sorted) (cs : List FileConstraint)
      → Apart (row_names s.rows ++ Given k cs)
      → Apart (row_names (with_constraints taken count k s cs).rows)
  unfolding given with_constraint
  rows_apart k s [] h = subst Apart (append-nil (row_names s.rows)) h
  rows_apart k s (c ∷ cs) h =
      by (becomes_group s.owners c.func c.set)
      (rows_apart (k + 1) (with_group s c) cs
      (dropped (λ a b. a ≢ b) (row_names s.rows) (row_name taken count (k + 1) c.name)
      (Given (k + 1) cs) h))
      (rows_apart (k + 1) (with_row taken count (k + 1) s c) cs
      (subst Apart (ap (λ ns. ns ++ Given (k + 1) cs)
      (sym (row_names-append s.rows
      (AddRow (row_name taken count (k + 1) c.name) c.func c.set ∷ []))))
      (subst Apart (sym (append_assoc (row_names s.rows)
      (row_name taken count (k + 1) c.name ∷ []) (Given (k + 1) cs))) h)))
    where
      by : (b : Bool)
          → Apart (row_names (with_constraints taken count (k + 1) (with_group s c) cs).rows)
          → Apart (row_names (with_constraints taken count (k + 1)
          (with_row taken count (k + 1) s c) cs).rows)
          → Apart (row_names (with_constraints taken count (k + 1)
          (if b then with_group s c else with_row taken count (k + 1) s c) cs).rows)
      by true group row = group
      by false group row = row

-- ---- groups are no rows

abbrev IsQuiet : Option Edit → Type 0
IsQuiet edit = row_names (option_to_list edit) ≡ []

groups_quiet : (taken : List (List ℕ)) (count k : ℕ) (s : Sorted) (cs : List FileConstraint)
    → All IsQuiet s.groups → All IsQuiet (with_constraints taken count k s cs).groups
unfolding with_constraint
groups_quiet taken count k s [] h = h
groups_quiet taken count k s (c ∷ cs) h =
    by (becomes_group s.owners c.func c.set)
    (groups_quiet taken count (k + 1) (with_group s c) cs
    (All-append IsQuiet s.groups (Some (AddGroup (plain_names c.func) c.set) ∷ []) h
    (All-cons IsQuiet (Some (AddGroup (plain_names c.func) c.set)) [] refl (All-nil IsQuiet))))
    (groups_quiet taken count (k + 1) (with_row taken count (k + 1) s c) cs h)
  where
    by : (b : Bool) → All IsQuiet (with_constraints taken count (k + 1) (with_group s c) cs).groups
        → All IsQuiet (with_constraints taken count (k + 1)
        (with_row taken count (k + 1) s c) cs).groups
        → All IsQuiet (with_constraints taken count (k + 1)
        (if b then with_group s c else with_row taken count (k + 1) s c) cs).groups
    by true group row = group
    by false group row = row

quiet_at : (left : List (Option Edit)) (g : ℕ) → All IsQuiet left
    → IsQuiet (option_and_then (λ group. group) (slice_get left g))
quiet_at [] g h = refl
quiet_at (edit ∷ left) zero h = All-head IsQuiet edit left h
quiet_at (edit ∷ left) (suc g) h = quiet_at left g (All-tail IsQuiet edit left h)

order_quiet : (owners : Owners) (left : List (Option Edit)) (names : List (List ℕ))
    → All IsQuiet left → row_names (in_order owners left names) ≡ []
order_quiet owners left [] h = refl
order_quiet owners left (name ∷ names) h =
    by (lookup (bytes_eq name) owners) (order_quiet owners left names h)
    (λ g. order_quiet owners (slice_set left g None) names (All-set IsQuiet left g None refl h))
  where
    both_empty : (es fs : List Edit) → row_names es ≡ [] → row_names fs ≡ []
        → row_names (es ++ fs) ≡ []
    both_empty es fs e f = row_names-append es fs ∙ ap₂ (λ a b. a ++ b) e f

    by : (owner : Option ℕ) → row_names (in_order owners left names) ≡ []
        → ((g : ℕ) → row_names (in_order owners (slice_set left g None) names) ≡ [])
        → row_names (option_to_list (group_at left owner name)
        ++ in_order owners (left_after left owner) names) ≡ []
    by None alone grouped = alone
    by (Some g) alone grouped =
        both_empty (option_to_list (group_at left (Some g) name))
        (in_order owners (slice_set left g None) names) (quiet_at left g h) (grouped g)

objective_quiet : (objective : FileObjective) → row_names (objective_edits objective) ≡ []
objective_quiet Feasibility = refl
objective_quiet (Optimize sense func) = refl

-- ---- a file

same_count : (earlier : List (List ℕ)) (cs : List FileConstraint)
    → length (with_own_names earlier cs) ≡ length cs
same_count earlier [] = refl
same_count earlier (c ∷ cs) = ap suc (same_count (and_name earlier c.name) cs)

module _ (file : FileValue) (small : length file.constraints < 2 ^ 64) where
  few : length (all_names [] file.constraints) ≤ length file.constraints
  few = omega (arith, length-all_names [] file.constraints)

  sorted_apart : Apart (row_names (sorted_of file.constraints).rows)
  unfolding sorted_of
  sorted_apart =
      subst
      (λ n. Apart (row_names (with_constraints (all_names [] file.constraints) n 0 nothing
      (with_own_names [] file.constraints)).rows))
      (sym (same_count [] file.constraints))
      (rows_apart (all_names [] file.constraints) (length file.constraints) few small 0 nothing
      (with_own_names [] file.constraints)
      (given_apart (all_names [] file.constraints) (length file.constraints) few small 0 []
      file.constraints (λ a h. h) (omega arith)))

  sorted_quiet : All IsQuiet (sorted_of file.constraints).groups
  unfolding sorted_of
  sorted_quiet =
      groups_quiet (all_names [] file.constraints) (length (with_own_names [] file.constraints)) 0
      nothing (with_own_names [] file.constraints) (All-nil IsQuiet)

  pub file_rows_apart : RowsAreApart (edits_of file)
  unfolding edits_of
  file_rows_apart =
      let s = sorted_of file.constraints in
      let groups = in_order s.owners s.groups file.variables in
      subst Apart
      (sym (row_names-append (groups ++ s.rows) (objective_edits file.objective)
      ∙ ap₂ (λ a b. a ++ b)
      (row_names-append groups s.rows
      ∙ ap (λ a. a ++ row_names s.rows)
      (order_quiet s.owners s.groups file.variables sorted_quiet))
      (objective_quiet file.objective)
      ∙ append-nil (row_names s.rows)))
      sorted_apart

  pub file_names_new : MadeNamesAreNew file.constraints
  file_names_new k some within =
      made_new (all_names [] file.constraints) (length file.constraints) few small k some within

-- of the file that a walk gives
one_file : (walk : Walked FileValue) (f g : FileValue) → walk ≡ Ok f → walk ≡ Ok g → f ≡ g
one_file walk f g a b = cc

pub names_new_in : (walk : Walked FileValue) (f g : FileValue) → walk ≡ Ok f → walk ≡ Ok g
    → length f.constraints < 2 ^ 64 → MadeNamesAreNew g.constraints
names_new_in walk f g a b small =
    subst (λ (h : FileValue). MadeNamesAreNew h.constraints) (one_file walk f g a b)
    (file_names_new f small)
