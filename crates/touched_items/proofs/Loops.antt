-- Loops that list, filter, count and read.
use Rattle.std.specs.Prelude.{◌≡◌, ◌≤◌, ◌<◌, ◌+◌, ◌++◌, ◌||◌, ℕ, suc, Bool, true, false, cond, drop, List, [], ◌∷◌, Option, Some, None, count_by, filter, flat_map, get_or, length, map, take, unwrap_or, refl}
use Rattle.std.specs.Borrow.{Bor}
use Rattle.std.specs.Cmp.{eq_by_cmp_equiv}
use Rattle.std.specs.FinMap as finite
use Rattle.std.specs.List.{filter_map, list_any}
use Rattle.std.specs.List.Retain.{DiffersFromLast, IsFiltered}
use Rattle.std.specs.List.Sorted.{IsPermutation, IsSorted}
use Rattle.std.specs.Option.{option_to_list}
use Rattle.std.proofs.Common.{arith, sym, ap, subst, ◌∙◌, append_assoc, append-nil}
use Rattle.std.proofs.lemmas.List.{drop_all, map-append, take_more}
use Rattle.std.proofs.lemmas.List.Elements.{filter-append, filter_map-append}
use Rattle.std.proofs.lemmas.List.Filters.{dedup_is}
use Rattle.std.proofs.lemmas.List.Kept.{Contains-dedup, Contains-from_dedup, IsStrictlySortedBy-dedup}
use Rattle.std.proofs.lemmas.List.Sorted.{Contains-permutation, IsPermutation-sym}
use Rattle.std.proofs.lemmas.List.Sums.{sum_by-append}
use Rattle.address_map.specs.Noted.{AddressSet, Noted, noted_items}
use Rattle.aff_core.specs.Address.{Address, address_cmp, address_eq, address_eq-Decides, address_total, root_address}
use Rattle.aff_core.specs.declared.root.Root.TheVariants as root
use Rattle.map_laws.specs.LoopLaws.{next_item}
use Rattle.map_laws.specs.MadeLaws.{entries_empty}
use Rattle.numbered_list.specs.declared.change.Change.{Change}
use Rattle.user_model.specs.declared.row.Row.{Row}
use Rattle.user_model.specs.declared.undo.Undo.{Undo}
use Rattle.touched_items.specs.Search.{AreInOrder, is_objective, is_row}

-- one more item of a list
next : {A : Type 0} (xs : List A) (i : ℕ) (x : A) → x ≡ get_or xs i x → i < length xs
    → take (i + 1) xs ≡ take i xs ++ x ∷ []
next xs i x is lt = take_more xs i x lt ∙ ap (λ y. take i xs ++ y ∷ []) (sym is)

-- ---- what passes

pub pushed_if : (p : Address → Bool) (xs : List Address) (i : ℕ) (x : Address)
    → x ≡ get_or xs i x → i < length xs → (b : Bool) → b ≡ p x → (old new : List Address)
    → old ≡ filter p (take i xs) → new ≡ old ++ cond b (x ∷ []) []
    → new ≡ filter p (take (i + 1) xs)
pushed_if p xs i x is lt b test old new so_far pushed =
    pushed
    ∙ (λ j. so_far j ++ cond (test j) (x ∷ []) [])
    ∙ sym (ap (filter p) (next xs i x is lt) ∙ filter-append p (take i xs) (x ∷ []))

-- ---- what is noted

pub nothing_noted : (noted : Noted) (var : Address) → finite.get noted var ≡ None
    → noted_items noted var ≡ []
nothing_noted noted var e =
    ap (λ o. finite.keys (unwrap_or o finite.empty)) e
    ∙ ap (map (λ e. e.0)) (entries_empty address_cmp)

pub noted_here : (noted : Noted) (var : Address) (items : AddressSet) → finite.get noted var ≡ Some items
    → noted_items noted var ≡ finite.keys items
noted_here noted var items e = ap (λ o. finite.keys (unwrap_or o finite.empty)) e

-- one more address of a set
pub one_listed : {X : Type 0} (left rest : List (Address × X)) (e : Address × X)
    (old new all : List Address) → left ≡ e ∷ rest → old ++ map (λ e. e.0) left ≡ all
    → new ≡ old ++ e.0 ∷ [] → new ++ map (λ e. e.0) rest ≡ all
one_listed left rest e old new all next so_far pushed =
    ap (λ l. l ++ map (λ e. e.0) rest) pushed
    ∙ append_assoc old (e.0 ∷ []) (map (λ e. e.0) rest)
    ∙ ap (λ es. old ++ map (λ e. e.0) es) (sym next)
    ∙ so_far

-- ---- sorted, and each once

pub ordered_once : (listed sorted once : List Address) → IsPermutation listed sorted
    → IsSorted address_cmp sorted → IsFiltered (DiffersFromLast address_eq) [] sorted once
    → AreInOrder listed once
ordered_once listed sorted once moved rise kept =
    subst (AreInOrder listed) (sym (dedup_is address_eq sorted once kept)) (record {
      rising = IsStrictlySortedBy-dedup address_total (λ x y. refl) sorted rise;
      same = λ at. (
        λ h. Contains-permutation sorted listed at (IsPermutation-sym listed sorted moved)
            (Contains-from_dedup address_eq sorted at h),
        λ h. Contains-dedup (eq_by_cmp_equiv address_total) (λ x y. (address_eq-Decides x y).0)
            sorted at (Contains-permutation listed sorted at moved h),
      );
    })

-- ---- rows that are read

module _ (h : Address → Option Row) (xs : List Address) (i : ℕ) (x : Address)
    (is : x ≡ get_or xs i x) (lt : i < length xs) (olds : List (Bor Row))
    (so_far : map (λ r. r.now) olds ≡ filter_map h (take i xs)) where
  one_more : filter_map h (take (i + 1) xs) ≡ filter_map h (take i xs) ++ filter_map h (x ∷ [])
  one_more = ap (filter_map h) (next xs i x is lt) ∙ filter_map-append h (take i xs) (x ∷ [])

  one_option : (o : Option Row) → o ≡ h x → filter_map h (x ∷ []) ≡ option_to_list o
  one_option o e = by (h x) ∙ ap option_to_list (sym e)
    where
      by : (p : Option Row) → filter_map (λ (y : Address). p) (x ∷ []) ≡ option_to_list p
      by None = refl
      by (Some r) = refl

  pub row_pushed : (news : List (Bor Row)) (r : Bor Row) → Some r.now ≡ h x → news ≡ olds ++ r ∷ []
      → map (λ r. r.now) news ≡ filter_map h (take (i + 1) xs)
  row_pushed news r e pushed =
      ap (map (λ r. r.now)) pushed
      ∙ map-append (λ (r : Bor Row). r.now) olds (r ∷ [])
      ∙ (λ j. so_far j ++ sym (one_option (Some r.now) e) j)
      ∙ sym one_more

  pub row_missing : None ≡ h x → map (λ r. r.now) olds ≡ filter_map h (take (i + 1) xs)
  row_missing e =
      so_far
      ∙ sym (append-nil (filter_map h (take i xs)))
      ∙ ap (λ l. filter_map h (take i xs) ++ l) (sym (one_option None e))
      ∙ sym one_more

pub counted_more : (p : Address → Bool) (xs : List Address) (i : ℕ) (x : Address)
    → x ≡ get_or xs i x → i < length xs
    → count_by p (take (i + 1) xs) ≡ count_by p (take i xs) + count_by p (x ∷ [])
counted_more p xs i x is lt =
    ap (count_by p) (next xs i x is lt) ∙ sum_by-append (λ x. cond (p x) 1 0) (take i xs) (x ∷ [])

-- rows and the objective are no more than there are addresses
pub reads_counted : (xs : List Address)
    → count_by is_row xs + cond (list_any is_objective xs) 1 0 ≤ length xs
reads_counted [] = omega arith
reads_counted (x ∷ xs) =
    subst (λ n. n + cond (is_objective x || list_any is_objective xs) 1 0 ≤ suc (length xs))
    (sym (sum_by-append (λ y. cond (is_row y) 1 0) (x ∷ []) xs))
    (by (is_row x) (is_objective x) refl refl (reads_counted xs))
  where
    apart : is_row x ≡ true → is_objective x ≡ true → ⊥
    apart r o =
        let same : root.Row ≡ root.Objective =
        ap (λ (a : Address). a.root) (sym ((address_eq-Decides x (root_address root.Row x.number)).0 r)
        ∙ (address_eq-Decides x (root_address root.Objective 0)).0 o) in
        cc

    by : (r o : Bool) → is_row x ≡ r → is_objective x ≡ o
        → count_by is_row xs + cond (list_any is_objective xs) 1 0 ≤ length xs
        → ((0 + cond r 1 0) + count_by is_row xs) + cond (o || list_any is_objective xs) 1 0
        ≤ suc (length xs)
    by true true e f later = absurd (apart e f)
    by true false e f later = omega arith
    by false true e f later = omega arith
    by false false e f later = omega arith

-- ---- what undos list, one after another

module _ {X : Type 0} (f : Undo → List (Change X)) (undos : List Undo) (i : ℕ) where
  pub one_undo : (u : Undo) (old new : List (Change X)) → u ≡ get_or undos i u → i < length undos
      → new ≡ old ++ f u → old ++ flat_map f (drop i undos) ≡ flat_map f undos
      → new ++ flat_map f (drop (i + 1) undos) ≡ flat_map f undos
  one_undo u old new is lt pushed so_far =
      ap (λ cs. cs ++ flat_map f (drop (i + 1) undos)) pushed
      ∙ append_assoc old (f u) (flat_map f (drop (i + 1) undos))
      ∙ ap (λ us. old ++ flat_map f us) (sym (next_item undos undos i u (λ j. undos) is lt))
      ∙ so_far

  pub all_undos : (made : List (Change X)) → length undos ≤ i
      → made ++ flat_map f (drop i undos) ≡ flat_map f undos → made ≡ flat_map f undos
  all_undos made end so_far =
      sym (append-nil made) ∙ ap (λ us. made ++ flat_map f us) (sym (drop_all i undos end)) ∙ so_far
