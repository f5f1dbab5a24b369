-- The names of the dual's variables are apart: a name gives its letter, its item and its component.
use Rattle.std.specs.Prelude.{◌≡◌, ◌≢◌, ℕ, zero, suc, ◌+◌, ◌^◌, ◌<◌, ◌≤◌, ◌%◌, List, [], ◌∷◌, ◌++◌, All, AllPairs, decimal, flat_map, length, slice_index_or, refl}
use Rattle.std.specs.List.{AllByRecursion, IsDistinct}
use Rattle.std.specs.Str.{bytes_eq}
use Rattle.std.specs.Str.Parse.{digits_value}
use Rattle.std.proofs.Common.{sym, ◌∙◌, ap, ap₂, arith, subst}
use Rattle.std.proofs.Math.Nat.{mod-lt}
use Rattle.std.proofs.lemmas.Fmt.{decimal_by_steps, decimal_is_IsNumeral}
use Rattle.std.proofs.lemmas.List.{append-nil, append_assoc}
use Rattle.std.proofs.lemmas.List.Elements.{All-append, All-cons, All-head, All-nil, All-tail, All-weaker}
use Rattle.std.proofs.lemmas.List.Kept.{AllPairs-cons}
use Rattle.std.proofs.lemmas.Map.Made.{IsDistinct-from_AllPairs}
use Rattle.std.proofs.lemmas.Slice.Eq.{bytes_eq-Decides}
use Rattle.map_laws.specs.EachLaws.{cons_head, cons_tail}
use Rattle.map_laws.specs.PairLaws.{AllPairs-append, AllPairs-nil}
use Rattle.set_core.specs.declared.set.Set.{Set}
use Rattle.set_core.specs.declared.set.Set.TheVariants.{Interval}
use Rattle.user_model.specs.declared.group.Group.{Group}
use Rattle.user_model.specs.declared.row.Row.{Row}
use Rattle.group_numbering.specs.NewGroups.{NewGroup}
use Rattle.dual_model.specs.DualOf.{each_placed, group_groups, groups_for, own_groups, part_name, part_names, row_groups, row_size}

-- ---- a name gives its parts

abbrev Small : ℕ → Type 0
Small n = n < 2 ^ 64

-- no byte is the `_` of names
abbrev NoBar : List ℕ → Type 0
NoBar bs = AllByRecursion (λ b. b ≢ 95) bs

below_bar : (n : ℕ) → n < 10 → 48 + n ≢ 95
below_bar n h e = absurd (omega (arith, h, e))

bar_behind : (ds : List ℕ) (b : ℕ) → NoBar ds → b ≢ 95 → NoBar (ds ++ b ∷ [])
bar_behind [] b h k = (k, tt)
bar_behind (d ∷ ds) b h k = (h.0, bar_behind ds b h.1 k)

last_digit : (n : ℕ) → n % 10 < 10
last_digit n = mod-lt n (omega arith)

no_bar : (n : ℕ) → Small n → NoBar (decimal n)
no_bar n h =
    decimal_by_steps (λ _ ds. NoBar ds) (λ n small. (below_bar n small, tt))
    (λ n ds _ digits. bar_behind ds (48 + n % 10) digits (below_bar (n % 10) (last_digit n))) n h

-- what is in front of the first bar, and what is behind it
at_bar : (a b c d : List ℕ) → NoBar a → NoBar c → a ++ 95 ∷ b ≡ c ++ 95 ∷ d → (a ≡ c) × (b ≡ d)
at_bar [] b [] d h k e = (refl, cons_tail 95 95 b d e)
at_bar [] b (y ∷ c) d h k e = absurd (k.0 (sym (cons_head 95 y b (c ++ 95 ∷ d) e)))
at_bar (x ∷ a) b [] d h k e = absurd (h.0 (cons_head x 95 (a ++ 95 ∷ b) d e))
at_bar (x ∷ a) b (y ∷ c) d h k e =
    let rest = at_bar a b c d h.1 k.1 (cons_tail x y (a ++ 95 ∷ b) (c ++ 95 ∷ d) e) in
    (ap₂ (λ z zs. z ∷ zs) (cons_head x y (a ++ 95 ∷ b) (c ++ 95 ∷ d) e) rest.0, rest.1)

pub same_number : (m n : ℕ) → Small m → Small n → decimal m ≡ decimal n → m ≡ n
same_number m n p q e =
    sym (decimal_is_IsNumeral m p).1 ∙ ap (digits_value 10) e ∙ (decimal_is_IsNumeral n q).1

module _ (l i c : ℕ) (m j d : ℕ) (e : part_name l i c ≡ part_name m j d) where
  same_letter : l ≡ m
  same_letter = cons_head l m (decimal i ++ 95 ∷ decimal c) (decimal j ++ 95 ∷ decimal d) e

  parts_at_bar : Small i → Small j → (decimal i ≡ decimal j) × (decimal c ≡ decimal d)
  parts_at_bar p q =
      at_bar (decimal i) (decimal c) (decimal j) (decimal d) (no_bar i p) (no_bar j q)
      (cons_tail l m (decimal i ++ 95 ∷ decimal c) (decimal j ++ 95 ∷ decimal d) e)

  same_item : Small i → Small j → i ≡ j
  same_item p q = same_number i j p q (parts_at_bar p q).0

  same_component : Small i → Small j → Small c → Small d → c ≡ d
  same_component p q r s = same_number c d r s (parts_at_bar p q).1

-- ---- names of one item, and of items from one on

record OfItem (L : ℕ → Type 0) (k : ℕ) (name : List ℕ) : Type 0 where
  pub letter : ℕ
  pub of_kind : L letter
  pub component : ℕ
  pub is : name ≡ part_name letter k component

record FromItem (L : ℕ → Type 0) (k : ℕ) (name : List ℕ) : Type 0 where
  pub item : ℕ
  pub low : k ≤ item
  pub high : Small item
  pub of_item : OfItem L item name

abbrev Apart : List (List ℕ) → Type 0
Apart names = AllPairs {X = List ℕ} (λ a b. a ≢ b) names

abbrev names_in : List NewGroup → List (List ℕ)
names_in gs = flat_map (λ g. g.names) gs

pub names_joined : (gs hs : List NewGroup) → names_in (gs ++ hs) ≡ names_in gs ++ names_in hs
names_joined [] hs = refl
names_joined (g ∷ gs) hs =
    ap (λ ns. g.names ++ ns) (names_joined gs hs)
    ∙ sym (append_assoc g.names (names_in gs) (names_in hs))

-- names that are apart from each other and of one item
record AreOfItem (L : ℕ → Type 0) (k : ℕ) (names : List (List ℕ)) : Type 0 where
  pub of_item : All (OfItem L k) names
  pub apart : Apart names

record AreFromItem (L : ℕ → Type 0) (k : ℕ) (names : List (List ℕ)) : Type 0 where
  pub from_item : All (FromItem L k) names
  pub apart : Apart names

module _ (L : ℕ → Type 0) where
  other_item : (k : ℕ) → Small k → (a b : List ℕ) → OfItem L k a → FromItem L (suc k) b → a ≢ b
  other_item k small a b h from e =
      let same = same_item h.letter k h.component from.of_item.letter from.item
      from.of_item.component (sym h.is ∙ e ∙ from.of_item.is) small from.high in
      absurd (omega (arith, same, from.low))

  from_here : (k : ℕ) → Small k → (a : List ℕ) → OfItem L k a → FromItem L k a
  from_here k small a h = record { item = k; low = omega arith; high = small; of_item = h }

  from_later : (k : ℕ) (a : List ℕ) → FromItem L (suc k) a → FromItem L k a
  from_later k a h =
      record { item = h.item; low = omega (arith, h.low); high = h.high; of_item = h.of_item }

  placed_apart : {X : Type 0} (f : ℕ → X → List NewGroup) (k : ℕ) (xs : List X)
      → All {X = X} (λ x. (k : ℕ) → Small k → AreOfItem L k (names_in (f k x))) xs
      → k + length xs < 2 ^ 64 → AreFromItem L k (names_in (each_placed f k xs))
  placed_apart f k [] h size =
      record { from_item = All-nil (FromItem L k); apart = AllPairs-nil (λ a b. a ≢ b) }
  placed_apart f k (x ∷ xs) h size =
      let small : Small k = omega (arith, size) in
      let here = All-head (λ x. (k : ℕ) → Small k → AreOfItem L k (names_in (f k x))) x xs h k small
      in
      let later = placed_apart f (suc k) xs
      (All-tail (λ x. (k : ℕ) → Small k → AreOfItem L k (names_in (f k x))) x xs h)
      (omega (arith, size)) in
      let first : List (List ℕ) = names_in (f k x) in
      let others : List (List ℕ) = names_in (each_placed f (suc k) xs) in
      subst (AreFromItem L k) (sym (names_joined (f k x) (each_placed f (suc k) xs)))
      (record {
        from_item = All-append (FromItem L k) first others
            (All-weaker (OfItem L k) (FromItem L k) (from_here k small) first here.of_item)
            (All-weaker (FromItem L (suc k)) (FromItem L k) (from_later k) others later.from_item);
        apart = AllPairs-append (λ a b. a ≢ b) first others here.apart later.apart
            (All-weaker (OfItem L k) (λ a. All (λ b. a ≢ b) others)
            (λ a of_item. All-weaker (FromItem L (suc k)) (λ b. a ≢ b)
            (λ b from. other_item k small a b of_item from) others later.from_item)
            first here.of_item);
      })

-- ---- rows and groups

abbrev RowLetter : ℕ → Type 0
RowLetter letter = 120 < letter

abbrev OwnLetter : ℕ → Type 0
OwnLetter letter = letter < 120

-- names of two letters
two_of_item : (L : ℕ → Type 0) (above below k : ℕ) → Small k → L above → L below → above < below
    → AreOfItem L k (part_name above k 1 ∷ part_name below k 1 ∷ [])
two_of_item L above below k small p q h =
    let a : List ℕ = part_name above k 1 in
    let b : List ℕ = part_name below k 1 in
    record {
      of_item =
          All-cons (OfItem L k) a (b ∷ [])
          (record { letter = above; of_kind = p; component = 1; is = refl })
          (All-cons (OfItem L k) b []
          (record { letter = below; of_kind = q; component = 1; is = refl }) (All-nil (OfItem L k)));
      apart =
          AllPairs-cons (λ a b. a ≢ b) a (b ∷ [])
          (All-cons (λ c. a ≢ c) b [] other_letter (All-nil (λ c. a ≢ c)))
          (AllPairs-cons (λ a b. a ≢ b) b [] (All-nil (λ c. b ≢ c)) (AllPairs-nil (λ a b. a ≢ b)));
    }
  where
    other_letter : part_name above k 1 ≢ part_name below k 1
    other_letter e =
        let same = same_letter above k 1 below k 1 e in absurd (omega (arith, same, h))

record HasComponent (k first : ℕ) (name : List ℕ) : Type 0 where
  pub component : ℕ
  pub low : first ≤ component
  pub small : Small component
  pub is : name ≡ part_name 121 k component

components_from : (k i n : ℕ) → i + n < 2 ^ 64 → All (HasComponent k i) (part_names 121 k i n)
components_from k i zero size = All-nil (HasComponent k i)
components_from k i (suc n) size =
    All-cons (HasComponent k i) (part_name 121 k i) (part_names 121 k (suc i) n)
    (record { component = i; low = omega arith; small = omega (arith, size); is = refl })
    (All-weaker (HasComponent k (suc i)) (HasComponent k i)
    (λ a h. record { component = h.component; low = omega (arith, h.low); small = h.small; is = h.is })
    (part_names 121 k (suc i) n) (components_from k (suc i) n (omega (arith, size))))

components_apart : (k i n : ℕ) → Small k → i + n < 2 ^ 64 → Apart (part_names 121 k i n)
components_apart k i zero small size = AllPairs-nil (λ a b. a ≢ b)
components_apart k i (suc n) small size =
    AllPairs-cons (λ a b. a ≢ b) (part_name 121 k i) (part_names 121 k (suc i) n)
    (All-weaker (HasComponent k (suc i)) (λ b. part_name 121 k i ≢ b) other
    (part_names 121 k (suc i) n) (components_from k (suc i) n (omega (arith, size))))
    (components_apart k (suc i) n small (omega (arith, size)))
  where
    other : (b : List ℕ) → HasComponent k (suc i) b → part_name 121 k i ≢ b
    other b h e =
        let same = same_component 121 k i 121 k h.component (e ∙ h.is) small small
        (omega (arith, size)) h.small in absurd (omega (arith, same, h.low))

all_of_item : (k n : ℕ) → n + 1 < 2 ^ 64 → All (OfItem RowLetter k) (part_names 121 k 1 n)
all_of_item k n size =
    All-weaker (HasComponent k 1) (OfItem RowLetter k)
    (λ a h. record { letter = 121; of_kind = omega arith; component = h.component; is = h.is })
    (part_names 121 k 1 n) (components_from k 1 n (omega (arith, size)))

row_of_item : (n : ℕ) (set : Set) → n + 1 < 2 ^ 64 → (k : ℕ) → Small k
    → AreOfItem RowLetter k (names_in (groups_for k n set))
row_of_item n (Interval l u) size k small =
    two_of_item RowLetter 121 122 k small (omega arith) (omega arith) (omega arith)
row_of_item n set size k small =
    subst (AreOfItem RowLetter k) (sym (append-nil (part_names 121 k 1 n))) (record {
      of_item = all_of_item k n size;
      apart = components_apart k 1 n small (omega (arith, size));
    })

own_of_item : (set : Set) (k : ℕ) → Small k → AreOfItem OwnLetter k (names_in (own_groups k set))
own_of_item (Interval l u) k small =
    two_of_item OwnLetter 112 113 k small (omega arith) (omega arith) (omega arith)
own_of_item set k small =
    record { of_item = All-nil (OfItem OwnLetter k); apart = AllPairs-nil (λ a b. a ≢ b) }

-- a row has no more components than a name can count
abbrev pub HasFewComponents : Row → Type 0
HasFewComponents r = row_size r + 1 < 2 ^ 64

module _ (rows : List Row) (groups : List Group) (few : All HasFewComponents rows)
    (few_rows : length rows < 2 ^ 63) (few_groups : length groups < 2 ^ 63) where
  of_rows : AreFromItem RowLetter 1 (names_in (each_placed row_groups 1 rows))
  of_rows =
      placed_apart RowLetter row_groups 1 rows
      (All-weaker HasFewComponents
      (λ r. (k : ℕ) → Small k → AreOfItem RowLetter k (names_in (row_groups k r)))
      (λ r h. row_of_item (row_size r) r.set h) rows few) (omega (arith, few_rows))

  each_group : All {X = Group} (λ g. (k : ℕ) → Small k
      → AreOfItem OwnLetter k (names_in (group_groups k g))) groups
  each_group = λ i d lt k small. own_of_item (slice_index_or groups i d).set k small

  of_groups : AreFromItem OwnLetter 1 (names_in (each_placed group_groups 1 groups))
  of_groups =
      placed_apart OwnLetter group_groups 1 groups each_group (omega (arith, few_groups))

  other_kind : (a b : List ℕ) → FromItem RowLetter 1 a → FromItem OwnLetter 1 b → a ≢ b
  other_kind a b h k e =
      let same = same_letter h.of_item.letter h.item h.of_item.component k.of_item.letter k.item
      k.of_item.component (sym h.of_item.is ∙ e ∙ k.of_item.is) in
      absurd (omega (arith, same, h.of_item.of_kind, k.of_item.of_kind))

  pub names_apart : Apart (names_in (each_placed row_groups 1 rows ++ each_placed group_groups 1 groups))
  names_apart =
      let first : List (List ℕ) = names_in (each_placed row_groups 1 rows) in
      let second : List (List ℕ) = names_in (each_placed group_groups 1 groups) in
      subst Apart (sym (names_joined (each_placed row_groups 1 rows)
      (each_placed group_groups 1 groups)))
      (AllPairs-append (λ a b. a ≢ b) first second of_rows.apart of_groups.apart
      (All-weaker (FromItem RowLetter 1) (λ a. All (λ b. a ≢ b) second)
      (λ a h. All-weaker (FromItem OwnLetter 1) (λ b. a ≢ b) (λ b k. other_kind a b h k) second
      of_groups.from_item) first of_rows.from_item))

  pub names_distinct : IsDistinct bytes_eq
      (names_in (each_placed row_groups 1 rows ++ each_placed group_groups 1 groups))
  names_distinct =
      IsDistinct-from_AllPairs bytes_eq-Decides
      (names_in (each_placed row_groups 1 rows ++ each_placed group_groups 1 groups)) names_apart
