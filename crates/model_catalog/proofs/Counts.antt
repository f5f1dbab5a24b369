-- The counts of the rows that bound a variable, as a row comes or goes.
use Rattle.std.proofs.Common.{◌≡◌, ◌≢◌, add-zero, ℕ, ◌+◌, ◌-◌, ◌<◌, ◌≤◌, ◌&&◌, Bool, true, false, cond, List, [], ◌∷◌, length, Option, Some, None, refl, sym, ap, subst, ◌∙◌, arith, inl, inr}
use Rattle.std.specs.Prelude.{IfSome, IsNone, IsSome, count_by, is_some}
use Rattle.std.specs.Option.{option_map, option_to_list}
use Rattle.std.proofs.lemmas.Bool.{cases_eq, eq-eqb, false_from_ne_true, ne_eqb}
use Rattle.std.proofs.lemmas.Option.{same_Some}
use Rattle.aff_core.specs.Address.{Address, address_eq, address_eq-Decides}
use Rattle.aff_core.specs.declared.root.Root.TheVariants.{Variable as AtVariable}
use Rattle.numbered_list.specs.Numbered.{Rise, IsAt, find, set_at}
use Rattle.numbered_list.specs.Laws.{IsAt-find}
use Rattle.numbered_list.specs.SetLaws.{find-set_at_same, find-set_at_other, length-set_at}
use Rattle.user_model.specs.declared.row.Row.{Row}
use Rattle.user_model.specs.Edited.{row_number}
use Rattle.user_model.specs.Model.{bounds_above, bounds_below, is_variable, variable_address}
use Rattle.user_model.specs.Sets.{sets_lower, sets_upper}
use Rattle.set_core.specs.declared.set.Set.{Set}
use Rattle.model_catalog.specs.declared.variable.Variable.{Variable}
use Rattle.model_catalog.specs.declared.index.Bounds.{Bounds}
use Rattle.model_catalog.specs.Index.{AreBoundsCounted, CountsBounds, SetsBounds, bound_count, counted, is_number, recounted, variable_number}
use Rattle.model_catalog.proofs.Weights.{sum_set_at}

-- ---- the variable of an address

pub variable_at_root : (a : Address) (m : ℕ) → a.root ≡ AtVariable → length a.positions ≡ 0
    → m ≡ a.number → (n : ℕ) → address_eq (variable_address n) a ≡ is_number (Some m) n
variable_at_root a m root short number n =
    elim (cases_eq m n) [
      | inl same ↦ (address_eq-Decides (variable_address n) a).1 (is same) ∙ sym (eq-eqb m n same)
      | inr other ↦ false_from_ne_true (address_eq (variable_address n) a)
          (λ e. other (number ∙ sym (ap (λ x. x.number)
          ((address_eq-Decides (variable_address n) a).0 e)))) ∙ sym (ne_eqb m n other)
    ]
  where
    nothing : (xs : List ℕ) → length xs ≡ 0 → [] ≡ xs
    nothing [] e = refl
    nothing (x ∷ xs) e = absurd (omega arith)

    is : m ≡ n → variable_address n ≡ a
    is same =
        λ i. record {
          root = sym root i;
          number = (sym same ∙ number) i;
          positions = nothing a.positions short i;
        }

pub other_root : (a : Address) → a.root ≢ AtVariable → (n : ℕ)
    → address_eq (variable_address n) a ≡ false
other_root a never n =
    false_from_ne_true (address_eq (variable_address n) a)
    (λ e. never (sym (ap (λ x. x.root) ((address_eq-Decides (variable_address n) a).0 e))))

pub below_root : (a : Address) → length a.positions ≢ 0 → (n : ℕ)
    → address_eq (variable_address n) a ≡ false
below_root a never n =
    false_from_ne_true (address_eq (variable_address n) a)
    (λ e. never (sym (ap (λ x. length x.positions)
    ((address_eq-Decides (variable_address n) a).0 e))))

-- ---- one variable

abbrev pub same_variable : {v w : Variable} → v.number ≡ w.number → v.group ≡ w.group
    → v.lower ≡ w.lower → v.upper ≡ w.upper → v ≡ w
same_variable a b c d = λ i. record { number = a i; group = b i; lower = c i; upper = d i }

not_counted : (row : Row) (v : Variable) → is_variable v.number row.func ≡ false
    → counted (Some row) v ≡ v
not_counted row v none =
    same_variable refl refl (plus_nothing v.lower (sets_lower row.set))
    (plus_nothing v.upper (sets_upper row.set))
  where
    plus_nothing : (count : ℕ) (b : Bool) → count + cond (is_variable v.number row.func && b) 1 0
        ≡ count
    plus_nothing count b = ap (λ x. count + cond (x && b) 1 0) none ∙ add-zero count

not_counted_at : (row : Row) (n : ℕ) (o : Option Variable) → IsAt variable_number n o
    → is_variable n row.func ≡ false → option_map (counted (Some row)) o ≡ o
not_counted_at row n None at none = refl
not_counted_at row n (Some v) at none =
    ap Some (not_counted row v (ap (λ m. is_variable m row.func) at ∙ none))

-- ---- the variables

-- a row that is none of the variables that are kept
pub none_counted : (row : Row) (kept : List Variable)
    → ((n : ℕ) → IsSome (find variable_number n kept) → is_variable n row.func ≡ false) → (n : ℕ)
    → option_map (counted (Some row)) (find variable_number n kept) ≡ find variable_number n kept
none_counted row kept none n = by_place (find variable_number n kept) refl
  where
    by_place : (o : Option Variable) → find variable_number n kept ≡ o
        → option_map (counted (Some row)) (find variable_number n kept)
        ≡ find variable_number n kept
    by_place None e = ap (option_map (counted (Some row))) e ∙ sym e
    by_place (Some v) e =
        not_counted_at row n (find variable_number n kept) (IsAt-find variable_number n kept)
        (none n (ap_some e))
      where
        ap_some : find variable_number n kept ≡ Some v → IsSome (find variable_number n kept)
        ap_some e = subst IsSome (sym e) refl

-- the variable of a row is not kept
pub missing_counted : (row : Row) (m : ℕ) (kept : List Variable)
    → ((n : ℕ) → is_variable n row.func ≡ is_number (Some m) n)
    → find variable_number m kept ≡ None → (n : ℕ)
    → option_map (counted (Some row)) (find variable_number n kept) ≡ find variable_number n kept
missing_counted row m kept is absent =
    none_counted row kept (λ n some. is n
    ∙ ne_eqb m n (λ same. not_there (find variable_number n kept)
    (ap (λ k. find variable_number k kept) (sym same) ∙ absent) some))
  where
    not_there : (o : Option Variable) → o ≡ None → IsSome o → ⊥
    not_there None e some = let both : false ≡ true = some in cc
    not_there (Some v) e some = cc

-- the variable of a row that sets bounds, as it is kept
module _ {row : Option Row} {kept : List Variable} {bounds : Bounds}
    (s : SetsBounds row kept bounds) where
  abbrev its : Variable
  its = bounds.variable

  its_number : its.number ≡ s.number
  its_number =
      let has = subst (IsAt variable_number s.number) s.found
      (IsAt-find variable_number s.number kept) in
      has

  its_found : find variable_number its.number kept ≡ Some its
  its_found = ap (λ n. find variable_number n kept) its_number ∙ s.found

  -- it is there, so none is added in its place
  pub bounds_room : {room : ℕ} → IsNone (find variable_number its.number kept)
      → length kept < room
  bounds_room none = absurd (let both : true ≡ false = ap is_some (sym its_found) ∙ none in cc)

  -- for a variable of its number the row is one of those that are counted
  one : (v : Variable) (test : Set → Bool) → v.number ≡ its.number
      → bound_count (λ r. is_variable v.number r.func && test r.set) row
      ≡ cond (test s.own.set) 1 0
  one v test number =
      ap (bound_count (λ r. is_variable v.number r.func && test r.set)) s.is
      ∙ ap (λ b. cond {A = ℕ} (b && test s.own.set) 1 0)
      (ap (λ k. is_variable k s.own.func) number
      ∙ (s.variable its.number ∙ eq-eqb s.number its.number (sym its_number)))

  below : (v : Variable) → v.number ≡ its.number
      → bound_count (bounds_below v.number) row ≡ bounds.lower
  below v number = one v sets_lower number ∙ sym s.lower

  above : (v : Variable) → v.number ≡ its.number
      → bound_count (bounds_above v.number) row ≡ bounds.upper
  above v number = one v sets_upper number ∙ sym s.upper

  -- for a variable of another number it is not
  other_at : (n : ℕ) → its.number ≢ n
      → option_map (counted row) (find variable_number n kept) ≡ find variable_number n kept
  other_at n other =
      ap (λ (o : Option Row). option_map (counted o) (find variable_number n kept)) s.is
      ∙ not_counted_at s.own n (find variable_number n kept) (IsAt-find variable_number n kept)
      (s.variable n ∙ ne_eqb s.number n (λ e. other (its_number ∙ e)))

  -- another of its number in its place
  module _ (v : Variable) {after : List Variable}
      (is : after ≡ set_at variable_number its.number (Some v) kept) where
    pub bounds_length : Rise variable_number kept → length after ≡ length kept
    bounds_length rise =
        omega (
          arith,
          ap length is,
          length-set_at variable_number its.number (Some v) kept rise,
          ap (λ o. length (option_to_list o)) its_found,
        )

    beside : (n : ℕ) → v.number ≡ its.number → its.number ≢ n
        → find variable_number n after ≡ find variable_number n kept
    beside n number other =
        ap (find variable_number n) is
        ∙ find-set_at_other variable_number n its.number (Some v) kept (λ e. other (sym e)) number

    here : v.number ≡ its.number → find variable_number its.number after ≡ Some v
    here number =
        ap (find variable_number its.number) is
        ∙ find-set_at_same variable_number its.number (Some v) kept number

    pub bounds_counted : v.number ≡ its.number → v.group ≡ its.group
        → v.lower ≡ its.lower + bounds.lower → v.upper ≡ its.upper + bounds.upper → (n : ℕ)
        → find variable_number n after ≡ option_map (counted row) (find variable_number n kept)
    bounds_counted number group lower upper n =
        elim (cases_eq its.number n) [
          | inl same ↦
              subst (λ k. find variable_number k after ≡ option_map (counted row)
              (find variable_number k kept)) same
              (here number
              ∙ (ap Some (same_variable {v = v} {w = counted row its} number group
              (lower ∙ sym (ap (λ k. its.lower + k) (below its refl)))
              (upper ∙ sym (ap (λ k. its.upper + k) (above its refl))))
              ∙ sym (ap (option_map (counted row)) its_found)))
          | inr other ↦ beside n number other ∙ sym (other_at n other)
        ]

  -- where every variable has the row among its counts, the bounds can be taken from them
  module _ (all : (n : ℕ) → IfSome (find variable_number n kept) (λ v. AreBoundsCounted row v)) where
    pub bounds_fit : (bounds.lower ≤ its.lower) × (bounds.upper ≤ its.upper)
    bounds_fit =
        let has : AreBoundsCounted row its =
        subst (λ o. IfSome o (λ v. AreBoundsCounted row v)) its_found (all its.number) in (
          subst (λ k. k ≤ its.lower) (below its refl) has.0,
          subst (λ k. k ≤ its.upper) (above its refl) has.1,
        )

    pub bounds_discounted : (v : Variable) {after : List Variable}
        → after ≡ set_at variable_number its.number (Some v) kept → v.number ≡ its.number
        → v.group ≡ its.group → v.lower ≡ its.lower - bounds.lower
        → v.upper ≡ its.upper - bounds.upper → (n : ℕ)
        → option_map (counted row) (find variable_number n after) ≡ find variable_number n kept
    bounds_discounted v {after} is number group lower upper n =
        elim (cases_eq its.number n) [
          | inl same ↦
              subst (λ k. option_map (counted row) (find variable_number k after)
              ≡ find variable_number k kept) same
              (ap (option_map (counted row)) (here v is number)
              ∙ (ap Some (same_variable {v = counted row v} {w = its} number group
              (omega (arith, lower, below v number, bounds_fit.0))
              (omega (arith, upper, above v number, bounds_fit.1)))
              ∙ sym its_found))
          | inr other ↦ ap (option_map (counted row)) (beside v is n number other)
              ∙ other_at n other
        ]

-- ---- a row that takes another's place

module _ {rows after : List Row} (k : ℕ) {new old seen : Option Row} (rise : Rise row_number rows)
    (is : after ≡ set_at row_number k new rows) (was : old ≡ find row_number k rows)
    (seen_is : seen ≡ new) where
  count_moved : (test : Row → Bool) → count_by test after + bound_count test old
      ≡ count_by test rows + bound_count test seen
  count_moved test =
      let moved = sum_set_at row_number (λ r. cond (test r) 1 0) k new rows rise in
      omega (
        arith,
        moved,
        ap (count_by test) is,
        ap (bound_count test) was,
        ap (bound_count test) seen_is,
      )

  -- the old row is counted after the new one is
  pub still_counted : (kept more : List Variable) → CountsBounds rows kept
      → ((n : ℕ) → find variable_number n more ≡ option_map (counted seen)
      (find variable_number n kept)) → (n : ℕ) → IfSome (find variable_number n more)
      (λ v. AreBoundsCounted old v)
  still_counted kept more counts entries n =
      subst (λ o. IfSome o (λ v. AreBoundsCounted old v)) (sym (entries n))
      (by_place (find variable_number n kept) (counts n))
    where
      by_place : (o : Option Variable) → o ≡ option_map (recounted rows) o
          → IfSome (option_map (counted seen) o) (λ v. AreBoundsCounted old v)
      by_place None e = tt
      by_place (Some v) e =
          let same = same_Some v (recounted rows v) e in (
            omega (arith, ap (λ x. x.lower) same, count_moved (bounds_below v.number)),
            omega (arith, ap (λ x. x.upper) same, count_moved (bounds_above v.number)),
          )

  -- and both give the counts of the rows now
  pub recounted_after : (kept more left : List Variable) → CountsBounds rows kept
      → ((n : ℕ) → find variable_number n more ≡ option_map (counted seen)
      (find variable_number n kept))
      → ((n : ℕ) → option_map (counted old) (find variable_number n left) ≡ find variable_number n
      more) → (n : ℕ) → find variable_number n left ≡ option_map (recounted after)
      (find variable_number n kept)
  recounted_after kept more left counts entries back n =
      by_places (find variable_number n kept) (find variable_number n left) (counts n)
      (back n ∙ entries n)
    where
      left_count : {m j x y : ℕ} (bounds : ℕ → Row → Bool) → m ≡ j → y ≡ count_by (bounds j) rows
          → x + bound_count (bounds m) old ≡ y + bound_count (bounds j) seen
          → x ≡ count_by (bounds j) after
      left_count {j = j} bounds number own moved =
          let same = ap (λ i. bound_count (bounds i) old) number in
          let sums = count_moved (bounds j) in omega arith

      by_places : (o p : Option Variable) → o ≡ option_map (recounted rows) o
          → option_map (counted old) p ≡ option_map (counted seen) o
          → p ≡ option_map (recounted after) o
      by_places None None e same = refl
      by_places None (Some v) e same = cc
      by_places (Some v) None e same = cc
      by_places (Some v) (Some w) e same =
          let own = same_Some v (recounted rows v) e in
          let moved = same_Some (counted old w) (counted seen v) same in
          let number : w.number ≡ v.number = ap (λ x. x.number) moved in
          ap Some (same_variable {v = w} {w = recounted after v} number (ap (λ x. x.group) moved)
          (left_count bounds_below number (ap (λ x. x.lower) own) (ap (λ x. x.lower) moved))
          (left_count bounds_above number (ap (λ x. x.upper) own) (ap (λ x. x.upper) moved)))
