-- The edits of a file add groups and rows, and give an objective. So of the model that they make no
-- more row numbers were given than it has rows.
use Rattle.std.specs.Prelude.{◌≡◌, ◌+◌, ℕ, zero, suc, List, [], ◌∷◌, ◌++◌, All, Bool, true, false, IfSome, Option, Some, None, Result, Ok, Err, if◌then◌else◌, bytes_eq, length, option_and_then, option_to_list, slice_get, refl}
use Rattle.std.specs.Map.{lookup}
use Rattle.std.specs.Option.{option_map_or}
use Rattle.std.proofs.Common.{arith, subst, sym}
use Rattle.std.proofs.lemmas.List.{length-append}
use Rattle.std.proofs.lemmas.List.Elements.{All-append, All-cons, All-head, All-nil, All-set, All-tail}
use Rattle.model_load.specs.Loads.{after_edits}
use Rattle.io_face.specs.Told.{Told}
use Rattle.io_face.specs.declared.shelf.FetchFault.{FetchFault}
use Rattle.io_face.specs.declared.shelf.FetchFault.TheVariants as fetch
use Rattle.file_command.specs.Loading.{IsModelOf}
use Rattle.model_store.specs.Store.{StoredModel}
use Rattle.mof_fetch.specs.Fetched.{fault_of, read_of, walked}
use Rattle.mof_fetch.specs.declared.fault.FileFault.TheVariants.{Failed, Memory, TooLong}
use Rattle.mof_file.specs.declared.constraints.FileConstraint.{FileConstraint}
use Rattle.mof_file.specs.declared.objectives.FileObjective.{FileObjective}
use Rattle.mof_file.specs.declared.objectives.FileObjective.TheVariants.{Feasibility, Optimize}
use Rattle.mof_file.specs.File.{FileValue, file_in}
use Rattle.mof_read.specs.Edits.{Sorted, edits_in, edits_of, nothing, objective_edits, sorted_of, with_constraint, with_constraints, with_group, with_row}
use Rattle.mof_read.specs.Groups.{Owners, becomes_group, group_at, in_order, left_after}
use Rattle.mof_read.specs.Names.{all_names, with_own_names}
use Rattle.mof_values.specs.Walked.{Walked, ◌>>=◌}
use Rattle.user_model.specs.Edited.{edited, located}
use Rattle.user_model.specs.Model.{ModelValue, empty_model}
use Rattle.user_model.specs.Refusals.{first_refusal}
use Rattle.user_model.specs.declared.edit.Edit.{Edit}
use Rattle.user_model.specs.declared.edit.Edit.TheVariants as edit
use Rattle.user_model.specs.declared.refusal.Refusal.{Refusal}
use Rattle.user_model.specs.declared.row.Row.{Row}

-- one of a file's edits
abbrev pub IsOfFile : Edit → Type 0
IsOfFile (edit.AddGroup names set) = Unit {0}
IsOfFile (edit.AddRow name func set) = Unit {0}
IsOfFile (edit.Objective sense func) = Unit {0}
IsOfFile _ = ⊥

-- as many row numbers were given as it has rows
abbrev pub InStep : ModelValue → Type 0
InStep model = model.next.row ≡ length model.rows

one_in_step : (model : ModelValue) (e : Edit) → IsOfFile e → InStep model → InStep (edited model e)
unfolding edited
one_in_step model (edit.AddGroup names set) h s = s
one_in_step model (edit.AddRow name func set) h s =
    let last : Row = record {
      id = model.next.row;
      name = name;
      func = located model func;
      set = set;
    } in
    let more = length-append model.rows (last ∷ []) in omega (arith, s, more)
one_in_step model (edit.Objective sense func) h s = s
one_in_step model _ h s = absurd h

same_ok : {A B : Type 0} (a b : A) (r : Result A B) → r ≡ Ok a → r ≡ Ok b → a ≡ b
same_ok a b r e f = cc

never_ok : {A B : Type 0} (a : A) (b : B) → Err b ≡ Ok a → ⊥
never_ok a b e = cc

-- edits one after another
all_in_step : (es : List Edit) (model new : ModelValue) → All IsOfFile es → InStep model
    → after_edits model es ≡ Ok new → InStep new
unfolding after_edits
all_in_step [] model new h s made = subst InStep (same_ok model new (Ok model) refl made) s
all_in_step (e ∷ es) model new h s made =
    by (first_refusal model e)
    (all_in_step es (edited model e) new (All-tail IsOfFile e es h)
    (one_in_step model e (All-head IsOfFile e es h) s)) made
  where
    by : (o : Option Refusal) → (after_edits (edited model e) es ≡ Ok new → InStep new)
        → option_map_or Err o (after_edits (edited model e) es) ≡ Ok new → InStep new
    by None others made = others made
    by (Some refusal) others made = absurd (never_ok new refusal made)

-- ---- the edits of a file

abbrev IsSome_of_file : Option Edit → Type 0
IsSome_of_file o = IfSome o IsOfFile

listed : (o : Option Edit) → IsSome_of_file o → All IsOfFile (option_to_list o)
listed None h = All-nil IsOfFile
listed (Some e) h = All-cons IsOfFile e [] h (All-nil IsOfFile)

-- what is at a place of such a list
one_there : (left : List (Option Edit)) (g : ℕ) → All IsSome_of_file left
    → IsSome_of_file (option_and_then (λ group. group) (slice_get left g))
one_there [] g h = tt
one_there (None ∷ left) zero h = tt
one_there (Some e ∷ left) zero h = All-head IsSome_of_file (Some e) left h
one_there (o ∷ left) (suc g) h = one_there left g (All-tail IsSome_of_file o left h)

in_order_of_file : (owners : Owners) (left : List (Option Edit)) (names : List (List ℕ))
    → All IsSome_of_file left → All IsOfFile (in_order owners left names)
in_order_of_file owners left [] h = All-nil IsOfFile
in_order_of_file owners left (name ∷ names) h =
    by (lookup (bytes_eq name) owners) (λ now there. in_order_of_file owners now names there)
  where
    by : (o : Option ℕ)
        → ((now : List (Option Edit)) → All IsSome_of_file now
        → All IsOfFile (in_order owners now names))
        → All IsOfFile (option_to_list (group_at left o name)
        ++ in_order owners (left_after left o) names)
    by None others =
        All-append IsOfFile (option_to_list (group_at left None name))
        (in_order owners (left_after left None) names) (listed (group_at left None name) tt)
        (others left h)
    by (Some g) others =
        All-append IsOfFile (option_to_list (group_at left (Some g) name))
        (in_order owners (left_after left (Some g)) names)
        (listed (group_at left (Some g) name) (one_there left g h))
        (others (left_after left (Some g)) (All-set IsSome_of_file left g None tt h))

record AreOfFile (s : Sorted) : Type 0 where
  groups : All IsSome_of_file s.groups
  rows : All IsOfFile s.rows

one_sorted : (taken : List (List ℕ)) (count k : ℕ) (s : Sorted) (c : FileConstraint) → AreOfFile s
    → AreOfFile (with_constraint taken count k s c)
unfolding with_constraint
one_sorted taken count k s c h = by (becomes_group s.owners c.func c.set)
  where
    by : (b : Bool)
        → AreOfFile (if b then with_group s c else with_row taken count k s c)
    by true = record {
      groups = All-append IsSome_of_file s.groups _ h.groups
          (All-cons IsSome_of_file _ [] tt (All-nil IsSome_of_file));
      rows = h.rows;
    }
    by false = record {
      groups = h.groups;
      rows = All-append IsOfFile s.rows _ h.rows (All-cons IsOfFile _ [] tt (All-nil IsOfFile));
    }

all_sorted : (taken : List (List ℕ)) (count k : ℕ) (s : Sorted) (cs : List FileConstraint)
    → AreOfFile s → AreOfFile (with_constraints taken count k s cs)
all_sorted taken count k s [] h = h
all_sorted taken count k s (c ∷ cs) h =
    all_sorted taken count (k + 1) (with_constraint taken count (k + 1) s c) cs
    (one_sorted taken count (k + 1) s c h)

sorted_of_file : (cs : List FileConstraint) → AreOfFile (sorted_of cs)
unfolding sorted_of
sorted_of_file cs =
    all_sorted (all_names [] cs) (length (with_own_names [] cs)) 0 nothing (with_own_names [] cs)
    (record { groups = All-nil IsSome_of_file; rows = All-nil IsOfFile })

objective_of_file : (o : FileObjective) → All IsOfFile (objective_edits o)
objective_of_file Feasibility = All-nil IsOfFile
objective_of_file (Optimize sense func) = All-cons IsOfFile _ [] tt (All-nil IsOfFile)

edits_of_file : (file : FileValue) → All IsOfFile (edits_of file)
unfolding edits_of
edits_of_file file =
    All-append IsOfFile _ (objective_edits file.objective)
    (All-append IsOfFile _ (sorted_of file.constraints).rows
    (in_order_of_file (sorted_of file.constraints).owners (sorted_of file.constraints).groups
    file.variables (sorted_of_file file.constraints).groups)
    (sorted_of_file file.constraints).rows)
    (objective_of_file file.objective)

read_of_file : (walk : Walked FileValue) (edits : List Edit)
    → (walk >>= (λ file. Ok (edits_of file))) ≡ Ok edits → All IsOfFile edits
read_of_file (Ok file) edits is =
    subst (All IsOfFile) (same_ok (edits_of file) edits (Ok (edits_of file)) refl is) (edits_of_file file)
read_of_file (Err reason) edits is = absurd (never_ok edits reason is)

walked_of_file : (walk : Walked (List Edit)) (edits : List Edit)
    → ((some : List Edit) → walk ≡ Ok some → All IsOfFile some) → Ok edits ≡ walked walk
    → All IsOfFile edits
walked_of_file (Ok some) edits h is =
    subst (All IsOfFile) (sym (same_ok edits some (Ok edits) refl is)) (h some refl)
walked_of_file (Err reason) edits h is = absurd (never_ok edits (fault_of reason) (sym is))

given_of_file : (given : Result (List ℕ) FetchFault) (edits : List Edit)
    → Ok edits ≡ read_of given → All IsOfFile edits
unfolding edits_in
given_of_file (Ok bytes) edits is =
    walked_of_file (edits_in bytes) edits (λ some e. read_of_file (file_in bytes) some e) is
given_of_file (Err fetch.Failed) edits is = absurd (never_ok edits Failed (sym is))
given_of_file (Err fetch.TooLong) edits is = absurd (never_ok edits TooLong (sym is))
given_of_file (Err fetch.Memory) edits is = absurd (never_ok edits Memory (sym is))

-- ---- so

-- as many row numbers as there are rows
pub file_in_step : (shelf : Told) (name : List ℕ) (stored : StoredModel)
    → IsModelOf shelf name stored
    → stored.model.next.row ≡ length stored.model.rows
file_in_step shelf name stored h =
    all_in_step h.edits empty_model stored.model (given_of_file h.read.0 h.edits h.read.2) refl
    h.made
