-- Loops over a list: what they have made of the items so far, and what is left of them.
use Rattle.std.specs.Prelude.{◌≡◌, ℕ, ◌+◌, ◌<◌, ◌≤◌, Bool, true, false, ◌||◌, List, [], ◌∷◌, ◌++◌, Some, map, length, take, drop, get_or, slice_get, slice_index_or, refl}
use Rattle.std.specs.List.{list_any, flat_map}
use Rattle.std.proofs.Math.ListN.{set}
use Rattle.std.proofs.Common.{arith, subst, sym, ap, ◌∙◌, append_assoc}
use Rattle.std.proofs.lemmas.List.{drop_more, drop_all, map-append, take_all, take_more, get_or_at, get_or_default, append-nil, length-append, length-map, length-take-le, length-drop}
use Rattle.std.proofs.lemmas.List.Edits.{map_over_more}
use Rattle.std.proofs.lemmas.List.Folds.{list_any-append}
use Rattle.map_laws.specs.PlaceLaws.{drop_at}

-- ---- from the first to the last, pushing what is made of each item

pub map-take_more : {X Y : Type 0} (f : X → Y) (xs : List X) (i : ℕ) (x : X) → x ≡ get_or xs i x
    → i < length xs → map f (take (i + 1) xs) ≡ map f (take i xs) ++ f x ∷ []
map-take_more f xs i x is lt =
    ap (map f) (take_more xs i x lt) ∙ map-append f (take i xs) (get_or xs i x ∷ [])
    ∙ ap (λ y. map f (take i xs) ++ f y ∷ []) (sym is)

-- what is left begins with the next item
pub next_item : {X : Type 0} (all items : List X) (i : ℕ) (x : X) → items ≡ all
    → x ≡ get_or items i x → i < length items → drop i all ≡ x ∷ drop (i + 1) all
next_item all items i x e is lt =
    drop_more all i x (subst (λ l. i < length l) e lt)
    ∙ ap (λ y. y ∷ drop (i + 1) all) (ap (λ l. get_or l i x) (sym e) ∙ sym is)

-- ---- from the first to the last, where a test of the items that are left is a test of all

module _ {X : Type 0} (p : X → Bool) (xs : List X) (i : ℕ) (x : X)
    (so_far : list_any p (drop i xs) ≡ list_any p xs) (here : slice_get xs i ≡ Some x) where
  at : list_any p (drop i xs) ≡ (p x || list_any p (drop (i + 1) xs))
  at = ap (list_any p) (drop_at i x xs here)

  pub any_found : p x ≡ true → true ≡ list_any p xs
  any_found e = sym (ap (λ b. b || list_any p (drop (i + 1) xs)) e) ∙ (sym at ∙ so_far)

  pub any_more : p x ≡ false → list_any p (drop (i + 1) xs) ≡ list_any p xs
  any_more e = sym (ap (λ b. b || list_any p (drop (i + 1) xs)) e) ∙ (sym at ∙ so_far)

-- where each item is a list
module _ {X Y : Type 0} (p : Y → Bool) (f : X → List Y) (xs : List X) (i : ℕ) (x : X)
    (so_far : list_any p (flat_map f (drop i xs)) ≡ list_any p (flat_map f xs))
    (here : slice_get xs i ≡ Some x) where
  at_each : list_any p (flat_map f (drop i xs))
      ≡ (list_any p (f x) || list_any p (flat_map f (drop (i + 1) xs)))
  at_each = ap (λ ys. list_any p (flat_map f ys)) (drop_at i x xs here)
      ∙ list_any-append p (f x) (flat_map f (drop (i + 1) xs))

  pub each_found : list_any p (f x) ≡ true → true ≡ list_any p (flat_map f xs)
  each_found e = sym (ap (λ b. b || list_any p (flat_map f (drop (i + 1) xs))) e)
      ∙ (sym at_each ∙ so_far)

  pub each_more : list_any p (f x) ≡ false
      → list_any p (flat_map f (drop (i + 1) xs)) ≡ list_any p (flat_map f xs)
  each_more e = sym (ap (λ b. b || list_any p (flat_map f (drop (i + 1) xs))) e)
      ∙ (sym at_each ∙ so_far)

-- ---- from the first to the last, each item changed in its place

module _ {X : Type 0} (f : X → X) where
  -- the first i are changed, and the others stand as they were
  pub record IsPast (all left : List X) (i : ℕ) : Type 0 where
    pub past : left ≡ map f (take i all) ++ drop i all

  pub past_none : (all : List X) → IsPast all all 0
  past_none all = record { past = refl }

  pub as_long : (all left : List X) (i : ℕ) → i < length all → IsPast all left i → i < length left
  as_long all left i lt h = omega (
    arith,
    ap length h.past,
    length-append (map f (take i all))
        (drop i all),
    length-map (take i all) f,
    length-take-le i all (omega arith),
    length-drop i
        all,
  )

  -- the next item stands as it was
  pub as_it_was : (all left : List X) (i : ℕ) (d : X) → i < length all → IsPast all left i
      → slice_index_or left i d ≡ slice_index_or all i d
  as_it_was all left i d lt h =
      let done = map f (take i all) in
      let long : length done ≡ i = length-map (take i all) f ∙ length-take-le i all (omega arith) in
      ap (λ xs. slice_index_or xs i d) (h.past ∙ ap (λ xs. done ++ xs) (drop_more all i d lt))
      ∙ get_or_at done (slice_index_or all i d) (drop (i + 1) all) d i long

  -- one more is changed
  pub past_more : (all left : List X) (i : ℕ) (d x : X) → i < length all → IsPast all left i
      → x ≡ f (slice_index_or left i d) → IsPast all (set left i x) (i + 1)
  past_more all left i d x lt h is =
      let itself = get_or_default left i d (slice_index_or left i d) (as_long all left i lt h) in
      record {
        past = ap (set left i) is
            ∙ map_over_more f all left i (slice_index_or left i d) lt h.past itself;
      }

  -- all are changed
  pub past_all : (all left : List X) (i : ℕ) → length all ≤ i → IsPast all left i → left ≡ map f all
  past_all all left i end h =
      h.past ∙ rw (drop_all i all end, take_all i all end) (append-nil (map f all))

-- ---- from the last to the first

-- one more was taken
pub taken_more : {A : Type 0} {all left : List A} (rest : List A) (x : A) (taken : List A)
    → all ≡ left ++ taken → left ≡ rest ++ x ∷ [] → all ≡ rest ++ x ∷ taken
taken_more rest x taken all_is left_is =
    all_is ∙ (ap (λ l. l ++ taken) left_is ∙ append_assoc rest (x ∷ []) taken)

-- nothing is left
pub taken_all : {A : Type 0} {all left : List A} (taken : List A) → all ≡ left ++ taken → left ≡ []
    → taken ≡ all
taken_all taken all_is none = sym (all_is ∙ ap (λ l. l ++ taken) none)
