-- What the entries of a table, and its numbers beside them, say of the map from names to numbers.
use Rattle.std.proofs.Common.{◌≡◌, ◌≢◌, ◌-◌, ◌||◌, ◌++◌, ℕ, zero, suc, Bool, true, false, cond, List, [], ◌∷◌, length, take, set, get_or, slice_get, position, None, Some, nat_eq, map as mapped, refl, sym, ap, subst, ◌∙◌, arith, true≢false}
use Rattle.std.specs.Cmp.{nat_eq_equiv}
use Rattle.std.specs.Cmp.Lexicographic.{slice_cmp, texts_ties, nat_list_eq_equiv, nat_list_cmp_total, bytes_decides}
use Rattle.std.specs.FinMap as map
use Rattle.std.specs.FinMap.{find}
use Rattle.std.specs.List.{IsDistinct, list_any, swap_remove}
use Rattle.std.specs.Map.{keys_of, values_of, lookup}
use Rattle.std.specs.Option.{option_map, option_map_or}
use Rattle.std.specs.Ordering.{nat_cmp, eq_by_cmp}
use Rattle.std.specs.Str.{bytes_eq}
use Rattle.std.proofs.lemmas.Bool.Decides.{nat_tests}
use Rattle.std.proofs.lemmas.List.{take-map, map-set, length-map, map_push}
use Rattle.std.proofs.Math.ListN.{get_or-map}
use Rattle.std.proofs.lemmas.List.Quantifiers.{position-Some}
use Rattle.std.proofs.lemmas.Map.Entries.{place_from_lookup, lookup_from_place}
use Rattle.std.proofs.lemmas.Option.{slice_get-map, same_Some, none-some, slice_get-get_or}
use Rattle.std.proofs.lemmas.Bool.{eqb-true}
use Rattle.indexmap.specs.IndexSet.{insert_key, swap_remove_by}
use Rattle.indexmap.proofs.MapLemmas.{swap_remove-default}
use Rattle.name_index.specs.InStep.{InStep}
use Rattle.name_index.specs.NameTable.{NumbersByName, IsNumberFree, IsOneToOne, IsNameAt}

-- a table's names with their numbers, in its own order
abbrev pub Entries : Type 0
Entries = List (List ℕ × ℕ)

-- the map that contracts see of the entries
abbrev pub numbers_of : Entries → NumbersByName
numbers_of es = map.from_entries es

-- equal bytes, by either test
same_bytes : (x y : List ℕ) → bytes_eq x y ≡ true → x ≡ y
same_bytes x y e = (bytes_decides x y).0 e

find-lookup : (es : Entries) (name : List ℕ) → find (slice_cmp nat_cmp) name es
    ≡ lookup (bytes_eq name) es
find-lookup [] name = refl
find-lookup (e ∷ es) name =
    λ i. cond (sym (texts_ties name e.0) i) (Some e.1) (find-lookup es name i)

-- the map has at a name what a look-up among the entries finds
pub get-numbers_of : (es : Entries) (name : List ℕ)
    → map.get (numbers_of es) name ≡ lookup (bytes_eq name) es
get-numbers_of es name = map.get-from_entries nat_list_cmp_total es name ∙ find-lookup es name

-- a number at its index among the entries
value_at : (es : Entries) (i : ℕ) (name : List ℕ) (id : ℕ) → slice_get es i ≡ Some (name, id)
    → slice_get (values_of es) i ≡ Some id
value_at es i name id at = slice_get-map (λ e. e.1) es i ∙ ap (option_map (λ e. e.1)) at

stands_nowhere : (ids : List ℕ) (id : ℕ) → list_any (nat_eq id) ids ≡ false → (i : ℕ)
    → slice_get ids i ≢ Some id
stands_nowhere [] id absent i at = none-some id at
stands_nowhere (x ∷ xs) id absent zero at = grind (arith, nat_tests)
stands_nowhere (x ∷ xs) id absent (suc i) at = stands_nowhere xs id (grind (arith, nat_tests)) i at

place_of_number : (es : Entries) (id : ℕ) → list_any (nat_eq id) (values_of es) ≡ true
    → (i : ℕ) × (name : List ℕ) × (slice_get es i ≡ Some (name, id))
place_of_number [] id stands = absurd (true≢false (sym stands))
place_of_number (e ∷ es) id stands =
    elim (nat_eq id e.1) as (λ b. nat_eq id e.1 ≡ b → (b || list_any (nat_eq id) (values_of es))
    ≡ true → (i : ℕ) × (name : List ℕ) × (slice_get (e ∷ es) i ≡ Some (name, id))) [
      | true ↦ λ same later. (0, e.0, ap (λ (k : ℕ). Some (e.0, k)) (sym (eqb-true id e.1 same)))
      | false ↦ λ same later. let place =
          place_of_number es id later in (suc place.0, place.1, place.2)
    ] refl stands

-- the entries with each number before its name
abbrev turned : Entries → List (ℕ × List ℕ)
turned [] = []
turned (e ∷ es) = (e.1, e.0) ∷ turned es

keys-turned : (es : Entries) → keys_of (turned es) ≡ values_of es
keys-turned [] = refl
keys-turned (e ∷ es) = ap (λ ids. e.1 ∷ ids) (keys-turned es)

turned_at : (es : Entries) (i : ℕ) (name : List ℕ) (id : ℕ) → slice_get es i ≡ Some (name, id)
    → slice_get (turned es) i ≡ Some (id, name)
turned_at [] i name id at = absurd (none-some (name, id) at)
turned_at (e ∷ es) zero name id at = ap (option_map (λ (x : List ℕ × ℕ). (x.1, x.0))) at
turned_at (e ∷ es) (suc i) name id at = turned_at es i name id at

names_differ : map.IsAntisymmetric (slice_cmp nat_cmp)
names_differ = map.slice_cmp-IsAntisymmetric map.nat_cmp-IsAntisymmetric

turned_test : (name q : List ℕ) → bytes_eq name q ≡ eq_by_cmp (slice_cmp nat_cmp) q name
turned_test name q = nat_list_eq_equiv.symm name q ∙ texts_ties q name

with_value : (es : Entries) (i id : ℕ) → slice_get (values_of es) i ≡ Some id
    → (name : List ℕ) × (slice_get es i ≡ Some (name, id))
with_value [] i id at = absurd (none-some id at)
with_value (e ∷ es) zero id at = (e.0, ap (λ (k : ℕ). Some (e.0, k)) (same_Some e.1 id at))
with_value (e ∷ es) (suc i) id at = with_value es i id at

-- an edit by `swap_remove`, seen through a function of the items
map-swap_remove : {X Y : Type 0} (f : X → Y) (xs : List X) (i : ℕ) (d : X)
    → mapped f (swap_remove xs i d) ≡ swap_remove (mapped f xs) i (f d)
map-swap_remove f xs i d =
    let n = length xs - 1 in
    let m : length (mapped f xs) - 1 ≡ n = ap (λ k. k - 1) (length-map xs f) in
    sym (take-map f n (set xs i (get_or xs n d)))
    ∙ ap (take n) (map-set f xs i (get_or xs n d)
    ∙ ap (set (mapped f xs) i) (sym (get_or-map f xs n d)))
    ∙ ap (λ k. take k (set (mapped f xs) i (get_or (mapped f xs) k (f d)))) (sym m)

swap_remove_by-found : {X : Type 0} (test : X → Bool) (xs : List X) (i : ℕ) (d : X)
    → position test xs ≡ Some i → swap_remove_by test xs ≡ swap_remove xs i d
swap_remove_by-found test [] i d found = absurd (none-some i found)
swap_remove_by-found test (x ∷ xs) i d found =
    ap (λ r. option_map_or (λ n. swap_remove (x ∷ xs) n x) r (x ∷ xs)) found
    ∙ swap_remove-default (x ∷ xs) i x d (omega arith)

module _ (es : Entries) (ids : List ℕ) (step : InStep es ids) where
  -- the number of the name at an index
  pub get_at : (i : ℕ) (name : List ℕ) (id : ℕ) → slice_get es i ≡ Some (name, id)
      → map.get (numbers_of es) name ≡ Some id
  get_at i name id at =
      get-numbers_of es name ∙ lookup_from_place nat_list_eq_equiv es i name id
      step.names_distinct at

  -- a name that has a number stands at some index with it
  pub place_from_get : (name : List ℕ) (id : ℕ) → map.get (numbers_of es) name ≡ Some id
      → (i : ℕ) × (slice_get es i ≡ Some (name, id))
  place_from_get name id got =
      let place = place_from_lookup (bytes_eq name) es id (sym (get-numbers_of es name) ∙ got) in (
        place.0,
        subst (λ (n : List ℕ). slice_get es place.0 ≡ Some (n, id))
            (sym (same_bytes name place.1 place.3)) place.2,
      )

  name_at : (i : ℕ) (name : List ℕ) (id : ℕ) → slice_get es i ≡ Some (name, id)
      → lookup (nat_eq id) (turned es) ≡ Some name
  name_at i name id at =
      let distinct : IsDistinct nat_eq (keys_of (turned es)) =
      subst (IsDistinct nat_eq) (sym (keys-turned es ∙ step.in_step)) step.numbers_distinct in
      lookup_from_place nat_eq_equiv (turned es) i id name distinct (turned_at es i name id at)

  -- no number stands at two indices, so no two names have one number
  pub one_to_one : IsOneToOne (numbers_of es)
  one_to_one one other id got found =
      let here = place_from_get one id got in
      let there = place_from_get other id found in
      same_Some one other (sym (name_at here.0 one id here.1) ∙ name_at there.0 other id there.1)

  -- the name that has a number is the only one
  name_at_from : (name : List ℕ) (id : ℕ) → map.get (numbers_of es) name ≡ Some id
      → IsNameAt (numbers_of es) id (Some name)
  name_at_from name id got other = (
    λ same. ap (map.get (numbers_of es)) (sym (same_Some name other same)) ∙ got,
    λ found. ap Some (one_to_one name other id got found),
  )

  -- the name at the index where a number stands
  get_at_position : (i : ℕ) (name : List ℕ) (other id : ℕ) → position (nat_eq id) ids ≡ Some i
      → slice_get es i ≡ Some (name, other) → map.get (numbers_of es) name ≡ Some id
  get_at_position i name other id found at =
      let fact = position-Some (nat_eq id) ids i 0 found in
      let stands : slice_get ids i ≡ Some id =
      slice_get-get_or ids i 0 fact.0 ∙ ap Some (sym (eqb-true id (get_or ids i 0) fact.1)) in
      let same : other ≡ id = same_Some other id (sym (value_at es i name other at) ∙ ap
      (λ l. slice_get l i) step.in_step ∙ stands) in
      get_at i name other at ∙ ap Some same

  -- the answer where a number stands
  pub name_at_position : (i : ℕ) (name : List ℕ) (other id : ℕ) → position (nat_eq id) ids ≡ Some i
      → slice_get es i ≡ Some (name, other) → IsNameAt (numbers_of es) id (Some name)
  name_at_position i name other id found at =
      name_at_from name id (get_at_position i name other id found at)

  -- a number that stands nowhere is no name's
  free_from_absent : (id : ℕ) → list_any (nat_eq id) ids ≡ false → IsNumberFree (numbers_of es) id
  free_from_absent id absent name got =
      let place = place_from_get name id got in
      stands_nowhere ids id absent place.0 (ap (λ l. slice_get l place.0) (sym step.in_step)
      ∙ value_at es place.0 name id place.1)

  -- the answer where it stands nowhere
  pub none_at_absent : (id : ℕ) → list_any (nat_eq id) ids ≡ false
      → IsNameAt (numbers_of es) id None
  none_at_absent id absent name =
      (λ same. absurd (none-some name same), λ got. absurd (free_from_absent id absent name got))

  -- and a number that is no name's stands nowhere
  pub absent_from_free : (id : ℕ) → IsNumberFree (numbers_of es) id
      → list_any (nat_eq id) ids ≡ false
  absent_from_free id free =
      elim (list_any (nat_eq id) ids) as (λ b. list_any (nat_eq id) ids ≡ b → b ≡ false) [
        | true ↦ λ stands. let place =
            place_of_number es id (ap (list_any (nat_eq id)) step.in_step ∙ stands) in
            absurd (free place.1 (get_at place.0 place.1 id place.2))
        | false ↦ λ stands. refl
      ] refl

  -- where a number stands, its name stands too
  pub entry_at : (i id : ℕ) → position (nat_eq id) ids ≡ Some i
      → (name : List ℕ) × (slice_get es i ≡ Some (name, id))
  entry_at i id found =
      let fact = position-Some (nat_eq id) ids i 0 found in
      let stands : slice_get ids i ≡ Some id =
      slice_get-get_or ids i 0 fact.0 ∙ ap Some (sym (eqb-true id (get_or ids i 0) fact.1)) in
      with_value es i id (ap (λ l. slice_get l i) step.in_step ∙ stands)

  -- a new name and a new number, appended
  pub add_in_step : (name : List ℕ) (id : ℕ) (more : Entries) (others : List ℕ)
      → IsNumberFree (numbers_of es) id → more ≡ es ++ (name, id) ∷ []
      → others ≡ insert_key nat_eq ids id
      → IsDistinct bytes_eq (keys_of more) → IsDistinct nat_eq others → InStep more others
  add_in_step name id more others free entries numbers names_distinct numbers_distinct =
      let last : others ≡ ids ++ id ∷ [] = numbers ∙ ap (λ b. cond b ids (ids ++ id ∷ []))
      (absent_from_free id free) in
      record {
        names_distinct = names_distinct;
        numbers_distinct = numbers_distinct;
        in_step = ap values_of entries ∙ map_push (λ (e : List ℕ × ℕ). e.1) es (name, id)
            ∙ ap (λ l. l ++ id ∷ []) step.in_step ∙ sym last;
      }

  -- one name and its number, where the last ones take their place
  pub remove_in_step : (i id : ℕ) (gone : List ℕ × ℕ) (fewer : Entries) (others : List ℕ)
      → position (nat_eq id) ids ≡ Some i → fewer ≡ swap_remove es i gone
      → others ≡ swap_remove_by (nat_eq id) ids → IsDistinct bytes_eq (keys_of fewer)
      → IsDistinct nat_eq others → InStep fewer others
  remove_in_step i id gone fewer others found entries numbers names_distinct numbers_distinct =
      record {
        names_distinct = names_distinct;
        numbers_distinct = numbers_distinct;
        in_step = ap values_of entries ∙ map-swap_remove (λ (e : List ℕ × ℕ). e.1) es i gone
            ∙ ap (λ l. swap_remove l i gone.1) step.in_step
            ∙ sym (numbers ∙ swap_remove_by-found (nat_eq id) ids i gone.1 found);
      }

-- after a new name and its number the map has them too
pub numbers-add : (es more : Entries) (name : List ℕ) (id : ℕ) → map.get (numbers_of es) name ≡ None
    → more ≡ es ++ (name, id) ∷ [] → numbers_of more ≡ map.insert (numbers_of es) name id
numbers-add es more name id free entries =
    ap numbers_of entries ∙ map.from_entries_push nat_list_cmp_total names_differ es name id
    (sym (map.get-from_entries nat_list_cmp_total es name) ∙ free)

-- where a look-up finds the same but for one name, the map is without that name
pub numbers-remove : (es fewer : Entries) (name : List ℕ)
    → ((q : List ℕ) → lookup (bytes_eq q) fewer ≡ cond (bytes_eq name q) None
    (lookup (bytes_eq q) es)) → numbers_of fewer ≡ map.remove (numbers_of es) name
numbers-remove es fewer name looks =
    map.same_map nat_list_cmp_total names_differ _ _ (λ q.
    get-numbers_of fewer q ∙ looks q
    ∙ (λ i. cond (turned_test name q i) None (sym (get-numbers_of es q) i))
    ∙ sym (map.get-remove nat_list_cmp_total (numbers_of es) name q))
