-- The edits of the dual pass each test but those of limits: names are new and stand in the model
-- where they are mentioned, and sets suit their functions.
use Rattle.std.specs.Prelude.{◌≡◌, ◌≢◌, ℕ, zero, suc, ◌<◌, true, false, cond, List, [], ◌∷◌, ◌++◌, All, AllPairs, Some, find, flat_map, is_some, length, map, slice_index_or, refl}
use Rattle.std.specs.Option.{option_map}
use Rattle.std.specs.Str.{bytes_eq}
use Rattle.std.proofs.Common.{sym, ◌∙◌, ap, arith, subst}
use Rattle.std.proofs.lemmas.List.{append-nil}
use Rattle.std.proofs.lemmas.List.Concat.{flat_map-append}
use Rattle.std.proofs.lemmas.List.Elements.{All-append, All-cons, All-head, All-nil, All-tail, All-weaker}
use Rattle.std.proofs.lemmas.Slice.Eq.{bytes_eq-Decides}
use Rattle.map_laws.specs.EachLaws.{all_both, all_first, all_second}
use Rattle.map_laws.specs.PairLaws.{AllPairs-across, AllPairs-first, AllPairs-second}
use Rattle.ratio_core.specs.Rational.{zero_ℚ}
use Rattle.set_core.specs.Shapes.{IsSetOf}
use Rattle.set_core.specs.Membership.{dual_of}
use Rattle.set_core.specs.declared.set.Set.{Set}
use Rattle.set_core.specs.declared.set.Set.TheVariants.{EqualTo, GreaterThan, Interval, LessThan, Nonnegatives, Nonpositives, NormInfinityCone, NormOneCone, Reals, Zeros}
use Rattle.user_model.specs.declared.group.Group.{Group}
use Rattle.user_model.specs.declared.group.GroupVar.{GroupVar}
use Rattle.user_model.specs.declared.row.Row.{Row}
use Rattle.user_model.specs.Edited.{edited, numbered_from}
use Rattle.user_model.specs.Model.{ModelValue}
use Rattle.certificates.specs.Points.{variables_of}
use Rattle.group_numbering.specs.NewGroups.{NewGroup}
use Rattle.dual_model.specs.DualOf.{each_placed, part_name, two_groups, group_groups, groups_for, new_groups, own_groups, part_names, row_groups}
use Rattle.dual_model.specs.RowPartLaws.{HasSetOf, length-part_names}
use Rattle.limit_laws.specs.Leads.{AllPass}
use Rattle.limit_laws.specs.NewNames.{IsNewIn, group_passes, named_first, other_name}
use Rattle.dualization.specs.DualEdits.{edit_of_group}

-- ---- names

abbrev pub var_name : GroupVar → List ℕ
var_name v = v.name

-- a name that is one of theirs is found
pub is_named : (vs : List GroupVar) (j : ℕ) → j < length (map var_name vs)
    → is_some (option_map (λ (v : GroupVar). v.number)
    (find (λ (v : GroupVar). bytes_eq v.name (slice_index_or (map var_name vs) j [])) vs)) ≡ true
is_named [] j h = absurd (omega (arith, h))
is_named (v ∷ vs) zero h =
    ap (λ b. is_some (option_map (λ (v : GroupVar). v.number)
    (cond b (Some v) (find (λ (w : GroupVar). bytes_eq w.name v.name) vs))))
    ((bytes_eq-Decides v.name v.name).1 refl)
is_named (v ∷ vs) (suc j) h =
    named_first (bytes_eq v.name (slice_index_or (map var_name vs) j [])) v
    (find (λ (w : GroupVar). bytes_eq w.name (slice_index_or (map var_name vs) j [])) vs)
    (is_named vs j (omega (arith, h)))

pub no_row_named : (rows : List Row) (name : List ℕ) → All {X = Row} (λ r. r.name ≢ name) rows
    → is_some (find (λ (r : Row). bytes_eq r.name name) rows) ≡ false
no_row_named [] name h = refl
no_row_named (r ∷ rows) name h =
    ap (λ b. is_some (cond b (Some r) (find (λ (r : Row). bytes_eq r.name name) rows)))
    (other_name r.name name (All-head (λ (r : Row). r.name ≢ name) r rows h))
    ∙ no_row_named rows name (All-tail (λ (r : Row). r.name ≢ name) r rows h)

-- ---- sets of n components

pub dual_set : (n : ℕ) (set : Set) → IsSetOf n set → IsSetOf n (dual_of set)
dual_set n (LessThan u) h =
    record { dimension = h.dimension; enough = h.enough; uncrossed = refl }
dual_set n (GreaterThan l) h =
    record { dimension = h.dimension; enough = h.enough; uncrossed = refl }
dual_set n (EqualTo a) h =
    record { dimension = h.dimension; enough = h.enough; uncrossed = refl }
dual_set n (Interval l u) h =
    record { dimension = h.dimension; enough = h.enough; uncrossed = refl }
dual_set n (Reals d) h =
    record { dimension = h.dimension; enough = h.enough; uncrossed = refl }
dual_set n (Zeros d) h =
    record { dimension = h.dimension; enough = h.enough; uncrossed = refl }
dual_set n (Nonnegatives d) h =
    record { dimension = h.dimension; enough = h.enough; uncrossed = refl }
dual_set n (Nonpositives d) h =
    record { dimension = h.dimension; enough = h.enough; uncrossed = refl }
dual_set n (NormInfinityCone d) h =
    record { dimension = h.dimension; enough = h.enough; uncrossed = refl }
dual_set n (NormOneCone d) h =
    record { dimension = h.dimension; enough = h.enough; uncrossed = refl }

-- ---- groups

abbrev HasNewSet : NewGroup → Type 0
HasNewSet g = IsSetOf (length g.names) g.set

two_have : (above below k : ℕ) → All HasNewSet (two_groups above below k)
two_have above below k =
    let first : NewGroup =
    record { names = part_name above k 1 ∷ []; set = GreaterThan zero_ℚ } in
    let second : NewGroup = record { names = part_name below k 1 ∷ []; set = LessThan zero_ℚ } in
    let at_least : HasNewSet first =
    record { dimension = refl; enough = omega arith; uncrossed = refl } in
    let at_most : HasNewSet second =
    record { dimension = refl; enough = omega arith; uncrossed = refl } in
    All-cons HasNewSet first (second ∷ []) at_least
    (All-cons HasNewSet second [] at_most (All-nil HasNewSet))

for_row : (k n : ℕ) (set : Set) → IsSetOf n set → All HasNewSet (groups_for k n set)
for_row k n (Interval l u) h = two_have 121 122 k
for_row k n set h =
    All-cons HasNewSet (record { names = part_names 121 k 1 n; set = dual_of set }) []
    (subst (λ m. IsSetOf m (dual_of set)) (sym (length-part_names 121 k 1 n)) (dual_set n set h))
    (All-nil HasNewSet)

for_group : (k : ℕ) (set : Set) → All HasNewSet (own_groups k set)
for_group k (Interval l u) = two_have 112 113 k
for_group k set = All-nil HasNewSet

for_rows : (k : ℕ) (rows : List Row) → All HasSetOf rows
    → All HasNewSet (each_placed row_groups k rows)
for_rows k [] h = All-nil HasNewSet
for_rows k (r ∷ rows) h =
    All-append HasNewSet (row_groups k r) (each_placed row_groups (suc k) rows)
    (for_row k _ r.set (All-head HasSetOf r rows h))
    (for_rows (suc k) rows (All-tail HasSetOf r rows h))

for_groups : (k : ℕ) (groups : List Group) → All HasNewSet (each_placed group_groups k groups)
for_groups k [] = All-nil HasNewSet
for_groups k (g ∷ groups) =
    All-append HasNewSet (group_groups k g) (each_placed group_groups (suc k) groups)
    (for_group k g.set) (for_groups (suc k) groups)

pub new_sets : (model : ModelValue) → All HasSetOf model.rows → All HasNewSet (new_groups model)
new_sets model h =
    All-append HasNewSet (each_placed row_groups 1 model.rows)
    (each_placed group_groups 1 model.groups) (for_rows 1 model.rows h)
    (for_groups 1 model.groups)

abbrev group_names : List NewGroup → List (List ℕ)
group_names gs = flat_map (λ g. g.names) gs

pub names_again : (n : ℕ) (names : List (List ℕ)) → map var_name (numbered_from n names) ≡ names
names_again n [] = refl
names_again n (name ∷ names) = ap (λ ns. name ∷ ns) (names_again (suc n) names)

-- variables with names of their own
named_apart : (n : ℕ) (names : List (List ℕ)) (other : List ℕ) → All (λ a. a ≢ other) names
    → IsNewIn (numbered_from n names) other
named_apart n [] other h = All-nil (λ (v : GroupVar). v.name ≢ other)
named_apart n (name ∷ names) other h =
    All-cons (λ (v : GroupVar). v.name ≢ other) (record { number = n; name = name })
    (numbered_from (suc n) names) (All-head (λ a. a ≢ other) name names h)
    (named_apart (suc n) names other (All-tail (λ a. a ≢ other) name names h))

pub groups_pass : (gs : List NewGroup) (m : ModelValue) → All HasNewSet gs
    → All (IsNewIn (variables_of m.groups)) (group_names gs)
    → AllPairs {X = List ℕ} (λ a b. a ≢ b) (group_names gs) → AllPass m (map edit_of_group gs)
unfolding edited
groups_pass [] m sets new apart = tt
groups_pass (g ∷ gs) m sets new apart =
    let made : Group = record {
      id = m.next.group;
      vars = numbered_from m.next.variable g.names;
      set = g.set;
    } in
    let later : List (List ℕ) = group_names gs in
    let old : List GroupVar = variables_of m.groups in
    let variables_after : variables_of (m.groups ++ made ∷ []) ≡ old ++ made.vars =
    flat_map-append (λ (h : Group). h.vars) m.groups (made ∷ [])
    ∙ ap (λ vs. old ++ vs) (append-nil made.vars) in
    let later_new : All (IsNewIn (old ++ made.vars)) later =
    All-weaker (λ b. IsNewIn old b × All (λ a. a ≢ b) g.names) (IsNewIn (old ++ made.vars))
    (λ b both. All-append (λ (v : GroupVar). v.name ≢ b) old made.vars both.0
    (named_apart m.next.variable g.names b both.1)) later
    (all_both (IsNewIn old) (λ b. All (λ a. a ≢ b) g.names) later
    (all_second (IsNewIn old) g.names later new) (AllPairs-across (λ a b. a ≢ b) g.names later apart))
    in (
      group_passes m g.names g.set (All-head HasNewSet g gs sets)
          (all_first (IsNewIn old) g.names later new)
          (AllPairs-first (λ a b. a ≢ b) g.names later apart),
      groups_pass gs (edited m (edit_of_group g)) (All-tail HasNewSet g gs sets)
          (subst (λ vs. All (IsNewIn vs) later) (sym variables_after) later_new)
          (AllPairs-second (λ a b. a ≢ b) g.names later apart),
    )
