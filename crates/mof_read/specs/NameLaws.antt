-- The names of a file's rows: no two rows have one, and one that is made is no constraint's.
--     RowsAreApart edits           no two of the rows have one name
--     MadeNamesAreNew cs           no constraint of the file has a name that is made
use Rattle.std.specs.Prelude.{◌≡◌, ◌≢◌, ◌⊎◌, ℕ, zero, suc, ◌+◌, ◌*◌, ◌^◌, ◌<◌, ◌≤◌, Bool, true, false, ◌||◌, List, [], ◌∷◌, ◌++◌, All, AllPairs, Contains, Option, Some, None, bytes_eq, cond, decimal, length, refl}
use Rattle.std.specs.Cmp.Lexicographic.{nat_list_eq_equiv}
use Rattle.std.specs.List.{list_any}
use Rattle.std.specs.Set.{is_member}
use Rattle.std.specs.Str.Parse.{digits_value}
use Rattle.std.proofs.Common.{ap, arith, inl, inr, length-append, subst, suc-mul, sym, true≢false, ◌∙◌}
use Rattle.std.proofs.Math.Nat.{mul-le-mul_right}
use Rattle.std.proofs.lemmas.Fmt.{decimal_is_IsNumeral_wide}
use Rattle.std.proofs.lemmas.List.Elements.{All-cons, All-nil, All-weaker}
use Rattle.std.proofs.lemmas.List.Folds.{list_any-append}
use Rattle.std.proofs.lemmas.List.Kept.{AllPairs-cons}
use Rattle.std.proofs.lemmas.Map.Made.{IsDistinct-from_AllPairs, length-le_from_is_member}
use Rattle.std.proofs.lemmas.Map.Views.{Contains-from_any}
use Rattle.std.proofs.lemmas.Nat.{mul-le}
use Rattle.std.proofs.lemmas.Slice.Eq.{bytes_eq-Decides}
use Rattle.map_laws.specs.PairLaws.{AllPairs-nil}
use Rattle.mof_file.specs.declared.constraints.FileConstraint.{FileConstraint}
use Rattle.user_model.specs.declared.edit.Edit.{Edit}
use Rattle.user_model.specs.declared.edit.Edit.TheVariants.{AddRow}
use Rattle.mof_read.specs.Names.{all_names, and_name, first_free, numbered, own_name, row_name, with_own_names}

-- the names of the rows that edits add
abbrev pub row_names : List Edit → List (List ℕ)
row_names [] = []
row_names (AddRow name func set ∷ edits) = name ∷ row_names edits
row_names (edit ∷ edits) = row_names edits

abbrev pub RowsAreApart : List Edit → Type 0
RowsAreApart edits = AllPairs {X = List ℕ} (λ a b. a ≢ b) (row_names edits)

abbrev pub InTaken : List (List ℕ) → List ℕ → Type 0
InTaken taken name = list_any (bytes_eq name) taken ≡ true

abbrev pub NotTaken : List (List ℕ) → List ℕ → Type 0
NotTaken taken name = list_any (bytes_eq name) taken ≡ false

-- of each place in the file, whether or not the constraint there is unnamed
abbrev pub MadeNamesAreNew : List FileConstraint → Type 0
MadeNamesAreNew cs =
    (k : ℕ) → 1 ≤ k → k ≤ length cs
    → NotTaken (all_names [] cs) (row_name (all_names [] cs) (length cs) k None)

-- ---- names

same_bytes : (a b : List ℕ) → bytes_eq a b ≡ true → a ≡ b
same_bytes a b = (bytes_eq-Decides a b).0

own_bytes : (a : List ℕ) → bytes_eq a a ≡ true
own_bytes a = (bytes_eq-Decides a a).1 refl

numbered-injective : (m n : ℕ) → m < 10 ^ 64 → n < 10 ^ 64 → numbered m ≡ numbered n → m ≡ n
numbered-injective m n p q e =
    let same : decimal m ≡ decimal n = cc in
    sym (decimal_is_IsNumeral_wide m p).1 ∙ ap (digits_value 10) same
    ∙ (decimal_is_IsNumeral_wide n q).1

not_both : (taken : List (List ℕ)) (a b : List ℕ) → InTaken taken a → NotTaken taken b → a ≢ b
not_both taken a b in_it out e =
    true≢false (sym in_it ∙ ap (λ c. list_any (bytes_eq c) taken) e ∙ out)

-- ---- some try is free

module _ (step : ℕ) (some : 1 ≤ step) where
  -- the names of n, n + step and so on, t of them
  steps : ℕ → ℕ → List (List ℕ)
  steps zero n = []
  steps (suc t) n = numbered n ∷ steps t (n + step)

  -- the name of a number from m on
  record IsFrom (m : ℕ) (name : List ℕ) : Type 0 where
    pub number : ℕ
    pub above : m ≤ number
    pub small : number < 10 ^ 64
    pub is : name ≡ numbered number

  less : (t n : ℕ) → n + suc t * step < 10 ^ 64 → (n + step) + t * step < 10 ^ 64
  less t n h = omega (arith, h, suc-mul t step)

  first_small : (t n : ℕ) → n + t * step < 10 ^ 64 → n < 10 ^ 64
  first_small t n h = omega (arith, h)

  each_step : (t n m : ℕ) → m ≤ n → n + t * step < 10 ^ 64 → All (IsFrom m) (steps t n)
  unfolding steps
  each_step zero n m le h = All-nil (IsFrom m)
  each_step (suc t) n m le h =
      All-cons (IsFrom m) (numbered n) (steps t (n + step))
      (record { number = n; above = le; small = first_small (suc t) n h; is = refl })
      (each_step t (n + step) m (omega (arith, le)) (less t n h))

  other_step : (n : ℕ) (name : List ℕ) → n < 10 ^ 64 → IsFrom (n + step) name → numbered n ≢ name
  other_step n name small from e =
      let same : n ≡ from.number =
      numbered-injective n from.number small from.small (e ∙ from.is) in
      omega (arith, same, from.above, some)

  steps_apart : (t n : ℕ) → n + t * step < 10 ^ 64
      → AllPairs {X = List ℕ} (λ a b. a ≢ b) (steps t n)
  unfolding steps
  steps_apart zero n h = AllPairs-nil (λ a b. a ≢ b)
  steps_apart (suc t) n h =
      AllPairs-cons (λ a b. a ≢ b) (numbered n) (steps t (n + step))
      (All-weaker (IsFrom (n + step)) (λ b. numbered n ≢ b)
      (λ b from. other_step n b (first_small (suc t) n h) from) (steps t (n + step))
      (each_step t (n + step) (n + step) (omega arith) (less t n h)))
      (steps_apart t (n + step) (less t n h))

  length-steps : (t n : ℕ) → length (steps t n) ≡ t
  unfolding steps
  length-steps zero n = refl
  length-steps (suc t) n = ap suc (length-steps t (n + step))

  module _ (taken : List (List ℕ)) where
    -- a free name is found, or all that were tried are taken
    found : (t n : ℕ) → NotTaken taken (numbered (first_free taken step t n))
        ⊎ All (InTaken taken) (steps (suc t) n)
    unfolding steps
    found zero n = by (list_any (bytes_eq (numbered n)) taken) refl
      where
        by : (b : Bool) → list_any (bytes_eq (numbered n)) taken ≡ b
            → NotTaken taken (numbered n) ⊎ All (InTaken taken) (steps 1 n)
        by true e = inr (All-cons (InTaken taken) (numbered n) [] e (All-nil (InTaken taken)))
        by false e = inl e
    found (suc t) n =
        by (list_any (bytes_eq (numbered n)) taken) refl (found t (n + step))
      where
        by : (b : Bool) → list_any (bytes_eq (numbered n)) taken ≡ b
            → NotTaken taken (numbered (first_free taken step t (n + step)))
            ⊎ All (InTaken taken) (steps (suc t) (n + step))
            → NotTaken taken (numbered (cond b (first_free taken step t (n + step)) n))
            ⊎ All (InTaken taken) (steps (suc (suc t)) n)
        by true e (inl free) = inl free
        by true e (inr all) =
            inr (All-cons (InTaken taken) (numbered n) (steps (suc t) (n + step)) e all)
        by false e rest = inl e

    at_member : (P : List ℕ → Type 0) (names : List (List ℕ)) (q : List ℕ) → All P names
        → is_member bytes_eq names q ≡ true → P q
    at_member P names q all e =
        let place : Contains names q = Contains-from_any same_bytes q names e in
        subst P place.2 (all place.0 q place.1)

    -- as many tries as there are names find one that isn't taken
    pub is_free : (n : ℕ) → n + suc (length taken) * step < 10 ^ 64
        → NotTaken taken (numbered (first_free taken step (length taken) n))
    is_free n h = by (found (length taken) n)
      where
        by : NotTaken taken (numbered (first_free taken step (length taken) n))
            ⊎ All (InTaken taken) (steps (suc (length taken)) n)
            → NotTaken taken (numbered (first_free taken step (length taken) n))
        by (inl free) = free
        by (inr all) =
            let tries = steps (suc (length taken)) n in
            let most : length tries ≤ length taken =
            length-le_from_is_member nat_list_eq_equiv tries taken
            (IsDistinct-from_AllPairs bytes_eq-Decides tries (steps_apart (suc (length taken)) n h))
            (λ q e. at_member (InTaken taken) tries q all e) in
            absurd (omega (arith, most, length-steps (suc (length taken)) n))

    -- ---- how far the first that is free is

    record IsAway (n m : ℕ) (most : ℕ) : Type 0 where
      pub times : ℕ
      pub few : times ≤ most
      pub is : m ≡ n + times * step

    away : (t n : ℕ) → IsAway n (first_free taken step t n) t
    away zero n = record { times = 0; few = omega arith; is = omega arith }
    away (suc t) n = by (list_any (bytes_eq (numbered n)) taken) (away t (n + step))
      where
        by : (b : Bool) → IsAway (n + step) (first_free taken step t (n + step)) t
            → IsAway n (cond b (first_free taken step t (n + step)) n) (suc t)
        by true rest = record {
          times = suc rest.times;
          few = omega (arith, rest.few);
          is = omega (arith, rest.is, suc-mul rest.times step);
        }
        by false rest = record { times = 0; few = omega arith; is = omega arith }

-- numbers that are up to the step, with steps added, are the same only where they were
same_start : (step j k a b : ℕ) → 1 ≤ j → j ≤ step → 1 ≤ k → k ≤ step
    → j + a * step ≡ k + b * step → j ≡ k
same_start step j k a b j_some j_few k_some k_few e = by (compare_lem a b)
  where
    compare_lem : (a b : ℕ) → (a ≡ b) ⊎ ((suc a ≤ b) ⊎ (suc b ≤ a))
    compare_lem zero zero = inl refl
    compare_lem zero (suc b) = inr (inl (omega arith))
    compare_lem (suc a) zero = inr (inr (omega arith))
    compare_lem (suc a) (suc b) = more (compare_lem a b)
      where
        more : (a ≡ b) ⊎ ((suc a ≤ b) ⊎ (suc b ≤ a))
            → (suc a ≡ suc b) ⊎ ((suc (suc a) ≤ suc b) ⊎ (suc (suc b) ≤ suc a))
        more (inl same) = inl (ap suc same)
        more (inr (inl low)) = inr (inl (omega (arith, low)))
        more (inr (inr low)) = inr (inr (omega (arith, low)))

    by : (a ≡ b) ⊎ ((suc a ≤ b) ⊎ (suc b ≤ a)) → j ≡ k
    by (inl same) = omega (arith, e, ap (λ c. c * step) same)
    by (inr (inl low)) =
        absurd (omega (arith, e, mul-le-mul_right step low, suc-mul a step, j_few, k_some))
    by (inr (inr low)) =
        absurd (omega (arith, e, mul-le-mul_right step low, suc-mul b step, k_few, j_some))

-- ---- the names of a file's constraints

length-and_name : (earlier : List (List ℕ)) (name : Option (List ℕ))
    → length (and_name earlier name) ≤ suc (length earlier)
length-and_name earlier None = omega arith
length-and_name earlier (Some name) = by (list_any (bytes_eq name) earlier)
  where
    by : (b : Bool) → length (cond b earlier (earlier ++ name ∷ [])) ≤ suc (length earlier)
    by true = omega arith
    by false = simp length-append (omega arith)

pub length-all_names : (earlier : List (List ℕ)) (cs : List FileConstraint)
    → length (all_names earlier cs) ≤ length earlier + length cs
length-all_names earlier [] = omega arith
length-all_names earlier (c ∷ cs) =
    omega (
      arith,
      length-all_names (and_name earlier c.name) cs,
      length-and_name earlier c.name,
    )

-- what is taken stays taken
still_taken : (earlier : List (List ℕ)) (name : Option (List ℕ)) (a : List ℕ)
    → InTaken earlier a → InTaken (and_name earlier name) a
still_taken earlier None a h = h
still_taken earlier (Some name) a h = by (list_any (bytes_eq name) earlier)
  where
    by : (b : Bool) → InTaken (cond b earlier (earlier ++ name ∷ [])) a
    by true = h
    by false =
        list_any-append (bytes_eq a) earlier (name ∷ [])
        ∙ ap (λ b. b || list_any (bytes_eq a) (name ∷ [])) h

still_in_all : (earlier : List (List ℕ)) (cs : List FileConstraint) (a : List ℕ)
    → InTaken earlier a → InTaken (all_names earlier cs) a
still_in_all earlier [] a h = h
still_in_all earlier (c ∷ cs) a h =
    still_in_all (and_name earlier c.name) cs a (still_taken earlier c.name a h)

now_taken : (earlier : List (List ℕ)) (name : List ℕ) → InTaken (and_name earlier (Some name)) name
now_taken earlier name = by (list_any (bytes_eq name) earlier) refl
  where
    or_true : (b c : Bool) → c ≡ true → (b || c) ≡ true
    or_true true c e = refl
    or_true false c e = e

    by : (b : Bool) → list_any (bytes_eq name) earlier ≡ b
        → InTaken (cond b earlier (earlier ++ name ∷ [])) name
    by true e = e
    by false e =
        list_any-append (bytes_eq name) earlier (name ∷ [])
        ∙ or_true (list_any (bytes_eq name) earlier) (bytes_eq name name || false)
        (ap (λ b. b || false) (own_bytes name))

-- ---- the names that rows would have, were each constraint one

module _ (taken : List (List ℕ)) (count : ℕ) (few : length taken ≤ count)
    (small : count < 2 ^ 64) where
  abbrev made : ℕ → List ℕ
  made k = row_name taken count k None

  enough : (k : ℕ) → k ≤ count → k + suc (length taken) * count < 10 ^ 64
  enough k within =
      let product : suc (length taken) * count ≤ (2 ^ 64) * (2 ^ 64) =
      mul-le (suc (length taken)) count (2 ^ 64) (2 ^ 64) (omega (arith, few, small))
      (omega (arith, small)) in
      omega (arith, product, within, small)

  pub made_new : (k : ℕ) → 1 ≤ k → k ≤ count → NotTaken taken (made k)
  made_new k some within = is_free count (omega (arith, some, within)) taken k (enough k within)

  number_small : (k t : ℕ) → k ≤ count → t ≤ length taken → k + t * count < 10 ^ 64
  number_small k t within h =
      let product : t * count ≤ suc (length taken) * count =
      mul-le-mul_right count (omega (arith, h)) in
      omega (arith, product, enough k within)

  made_apart : (j k : ℕ) → 1 ≤ j → j ≤ count → 1 ≤ k → k ≤ count → made j ≡ made k → j ≡ k
  made_apart j k j_some j_few k_some k_few e =
      let some : 1 ≤ count = omega (arith, j_some, j_few) in
      let p = away count some taken (length taken) j in
      let q = away count some taken (length taken) k in
      same_start count j k p.times q.times j_some j_few k_some k_few
      (sym p.is
      ∙ numbered-injective (first_free taken count (length taken) j)
      (first_free taken count (length taken) k)
      (subst (λ n. n < 10 ^ 64) (sym p.is) (number_small j p.times j_few p.few))
      (subst (λ n. n < 10 ^ 64) (sym q.is) (number_small k q.times k_few q.few)) e
      ∙ q.is)

  -- the names of the constraints after the k-th
  unfoldable pub given : ℕ → List FileConstraint → List (List ℕ)
  given k [] = []
  given k (c ∷ cs) = row_name taken count (k + 1) c.name ∷ given (k + 1) cs

  -- a name that a constraint has, and none of these had before, or one that is made later
  abbrev IsLater : ℕ → List (List ℕ) → List ℕ → Type 0
  IsLater k earlier name =
      (InTaken taken name × NotTaken earlier name)
      ⊎ ((j : ℕ) × (k < j) × (j ≤ count) × (name ≡ made j))

  sooner : (k : ℕ) (earlier : List (List ℕ)) (more : Option (List ℕ)) (name : List ℕ)
      → IsLater (k + 1) (and_name earlier more) name → IsLater k earlier name
  sooner k earlier more name (inl (own, new)) =
      inl (own, by (list_any (bytes_eq name) earlier) refl)
    where
      by : (b : Bool) → list_any (bytes_eq name) earlier ≡ b → b ≡ false
      by false e = refl
      by true e = absurd (true≢false (sym (still_taken earlier more name e) ∙ new))
  sooner k earlier more name (inr (j, above, within, is)) =
      inr (j, omega (arith, above), within, is)

  -- the name of one constraint
  one_later : (k : ℕ) (earlier : List (List ℕ)) (name : Option (List ℕ))
      → ((a : List ℕ) → InTaken (and_name earlier name) a → InTaken taken a)
      → k + 1 ≤ count
      → IsLater k earlier (row_name taken count (k + 1) (own_name earlier name))
  one_later k earlier None holds within = inr (k + 1, omega arith, within, refl)
  one_later k earlier (Some name) holds within =
      by (list_any (bytes_eq name) earlier) refl
    where
      by : (b : Bool) → list_any (bytes_eq name) earlier ≡ b
          → IsLater k earlier (row_name taken count (k + 1) (cond b None (Some name)))
      by true e = inr (k + 1, omega arith, within, refl)
      by false e = inl (holds name (now_taken earlier name), e)

  each_later : (k : ℕ) (earlier : List (List ℕ)) (cs : List FileConstraint)
      → ((a : List ℕ) → InTaken (all_names earlier cs) a → InTaken taken a)
      → k + length cs ≤ count
      → All (IsLater k earlier) (given k (with_own_names earlier cs))
  unfolding given
  each_later k earlier [] holds within = All-nil (IsLater k earlier)
  each_later k earlier (c ∷ cs) holds within =
      All-cons (IsLater k earlier) (row_name taken count (k + 1) (own_name earlier c.name))
      (given (k + 1) (with_own_names (and_name earlier c.name) cs))
      (one_later k earlier c.name
      (λ a h. holds a (still_in_all (and_name earlier c.name) cs a h)) (omega (arith, within)))
      (All-weaker (IsLater (k + 1) (and_name earlier c.name)) (IsLater k earlier)
      (λ name h. sooner k earlier c.name name h)
      (given (k + 1) (with_own_names (and_name earlier c.name) cs))
      (each_later (k + 1) (and_name earlier c.name) cs holds (omega (arith, within))))

  -- it is taken from this constraint on, or it is made for it
  abbrev IsNow : ℕ → List (List ℕ) → Option (List ℕ) → List ℕ → Type 0
  IsNow k earlier name b =
      (InTaken taken b × InTaken (and_name earlier name) b)
      ⊎ (b ≡ made (k + 1))

  -- a name is apart from what comes later
  from_later : (k : ℕ) (earlier : List (List ℕ)) (name : Option (List ℕ)) (b : List ℕ)
      → ((a : List ℕ) → InTaken (and_name earlier name) a → InTaken taken a)
      → k + 1 ≤ count → IsLater (k + 1) (and_name earlier name) b
      → row_name taken count (k + 1) (own_name earlier name) ≢ b
  from_later k earlier name b holds within later e = by (of name refl) later
    where
      of : (o : Option (List ℕ)) → name ≡ o → IsNow k earlier name b
      of None is = inr (sym e ∙ ap (λ o. row_name taken count (k + 1) (own_name earlier o)) is)
      of (Some a) is = by_test (list_any (bytes_eq a) earlier) refl
        where
          by_test : (t : Bool) → list_any (bytes_eq a) earlier ≡ t → IsNow k earlier name b
          by_test true there =
              inr (sym e ∙ ap (λ o. row_name taken count (k + 1) (own_name earlier o)) is
              ∙ ap (λ t. row_name taken count (k + 1) (cond t None (Some a))) there)
          by_test false new =
              let same : b ≡ a =
              sym e ∙ ap (λ o. row_name taken count (k + 1) (own_name earlier o)) is
              ∙ ap (λ t. row_name taken count (k + 1) (cond t None (Some a))) new in
              let there : InTaken (and_name earlier name) b =
              subst (InTaken (and_name earlier name)) (sym same)
              (subst (λ o. InTaken (and_name earlier o) a) (sym is) (now_taken earlier a)) in
              inl (holds b there, there)

      by : IsNow k earlier name b → IsLater (k + 1) (and_name earlier name) b → ⊥
      by (inl (own, there)) (inl (own_too, new)) = true≢false (sym there ∙ new)
      by (inl (own, there)) (inr (j, above, few_enough, is)) =
          not_both taken b (made j) own (made_new j (omega (arith, above)) few_enough) is
      by (inr is) (inl (own, new)) =
          not_both taken b (made (k + 1)) own (made_new (k + 1) (omega arith) within) is
      by (inr is) (inr (j, above, few_enough, was)) =
          let same : k + 1 ≡ j = made_apart (k + 1) j (omega arith) within (omega (arith, above))
          few_enough (sym is ∙ was) in
          omega (arith, same, above)

  pub given_apart : (k : ℕ) (earlier : List (List ℕ)) (cs : List FileConstraint)
      → ((a : List ℕ) → InTaken (all_names earlier cs) a → InTaken taken a)
      → k + length cs ≤ count
      → AllPairs {X = List ℕ} (λ a b. a ≢ b) (given k (with_own_names earlier cs))
  unfolding given
  given_apart k earlier [] holds within = AllPairs-nil (λ a b. a ≢ b)
  given_apart k earlier (c ∷ cs) holds within =
      let rest = given (k + 1) (with_own_names (and_name earlier c.name) cs) in
      AllPairs-cons (λ a b. a ≢ b) (row_name taken count (k + 1) (own_name earlier c.name)) rest
      (All-weaker (IsLater (k + 1) (and_name earlier c.name))
      (λ b. row_name taken count (k + 1) (own_name earlier c.name) ≢ b)
      (λ b later. from_later k earlier c.name b
      (λ a h. holds a (still_in_all (and_name earlier c.name) cs a h)) (omega (arith, within)) later)
      rest (each_later (k + 1) (and_name earlier c.name) cs holds (omega (arith, within))))
      (given_apart (k + 1) (and_name earlier c.name) cs holds (omega (arith, within)))
