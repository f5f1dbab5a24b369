-- The names of the slacks: each is free, and no two are alike.
use Rattle.std.specs.Prelude.{◌≡◌, ◌≢◌, ◌⊎◌, ℕ, zero, suc, ◌+◌, ◌*◌, ◌^◌, ◌<◌, ◌≤◌, Bool, true, false, ◌||◌, List, [], ◌∷◌, All, AllPairs, Contains, bytes_eq, cond, decimal, find, length, map, refl}
use Rattle.std.specs.Cmp.Lexicographic.{nat_list_eq_equiv}
use Rattle.std.specs.List.{IsDistinct, list_any}
use Rattle.std.specs.Set.{is_member}
use Rattle.std.specs.Str.Parse.{digits_value}
use Rattle.std.proofs.Common.{ap, arith, inl, inr, subst, suc-mul, sym, ◌∙◌}
use Rattle.std.proofs.Math.Nat.{mul-le-mul_right}
use Rattle.std.proofs.lemmas.Fmt.{decimal_is_IsNumeral_wide}
use Rattle.std.proofs.lemmas.List.{length-map}
use Rattle.std.proofs.lemmas.List.Elements.{All-cons, All-nil, All-weaker}
use Rattle.std.proofs.lemmas.List.Kept.{AllPairs-cons}
use Rattle.std.proofs.lemmas.Map.Made.{IsDistinct-from_AllPairs, length-le_from_is_member}
use Rattle.std.proofs.lemmas.Map.Views.{Contains-from_any}
use Rattle.std.proofs.lemmas.Nat.{mul-le}
use Rattle.std.proofs.lemmas.Slice.Eq.{bytes_eq-Decides}
use Rattle.map_laws.specs.OptionLaws.{is_some-option_map}
use Rattle.map_laws.specs.PairLaws.{AllPairs-nil}
use Rattle.model_laws.specs.Found.{is_some-find}
use Rattle.user_model.specs.declared.group.GroupVar.{GroupVar}
use Rattle.user_model.specs.Model.{ModelValue, variables}
use Rattle.user_model.specs.Refusals.{has_variable_named}
use Rattle.relaxed_model.specs.Relaxed.{free_name, free_names, free_number, slack_name}

-- ---- names and their numbers

abbrev Small : ℕ → Type 0
Small n = n < 10 ^ 64

slack_name-injective : (m n : ℕ) → Small m → Small n → slack_name m ≡ slack_name n → m ≡ n
slack_name-injective m n p q e =
    let same : decimal m ≡ decimal n = cc in
    sym (decimal_is_IsNumeral_wide m p).1 ∙ ap (digits_value 10) same
    ∙ (decimal_is_IsNumeral_wide n q).1

any_named : (vars : List GroupVar) (name : List ℕ)
    → list_any (λ (v : GroupVar). bytes_eq v.name name) vars ≡ true
    → list_any (bytes_eq name) (map (λ (v : GroupVar). v.name) vars) ≡ true
any_named [] name e = e
any_named (v ∷ vars) name e =
    ap (λ b. b || list_any (bytes_eq name) (map (λ (v : GroupVar). v.name) vars))
    (either (bytes_eq v.name name) (bytes_eq name v.name)
    (λ h. (bytes_eq-Decides name v.name).1 (sym ((bytes_eq-Decides v.name name).0 h)))
    (λ h. (bytes_eq-Decides v.name name).1 (sym ((bytes_eq-Decides name v.name).0 h))))
    ∙ by (bytes_eq v.name name) e (any_named vars name)
  where
    either : (a b : Bool) → (a ≡ true → b ≡ true) → (b ≡ true → a ≡ true) → b ≡ a
    either true b h k = h refl
    either false true h k = sym (k refl)
    either false false h k = refl

    by : (b : Bool) → (b || list_any (λ (v : GroupVar). bytes_eq v.name name) vars) ≡ true
        → (list_any (λ (v : GroupVar). bytes_eq v.name name) vars ≡ true
        → list_any (bytes_eq name) (map (λ (v : GroupVar). v.name) vars) ≡ true)
        → (b || list_any (bytes_eq name) (map (λ (v : GroupVar). v.name) vars)) ≡ true
    by true e rest = refl
    by false e rest = rest e

module _ (model : ModelValue) where
  abbrev taken : List (List ℕ)
  taken = map (λ (v : GroupVar). v.name) (variables model)

  abbrev IsTaken : List ℕ → Type 0
  IsTaken name = has_variable_named model name ≡ true

  abbrev pub IsNameFree : List ℕ → Type 0
  IsNameFree name = has_variable_named model name ≡ false

  taken_in : (name : List ℕ) → IsTaken name → is_member bytes_eq taken name ≡ true
  taken_in name e =
      any_named (variables model) name
      (sym (is_some-find (λ (v : GroupVar). bytes_eq v.name name) (variables model))
      ∙ sym (is_some-option_map (λ (v : GroupVar). v.number)
      (find (λ (v : GroupVar). bytes_eq v.name name) (variables model))) ∙ e)

  -- ---- some try is free

  module _ (step : ℕ) (some : 1 ≤ step) where
    -- the names of n, n + step and so on, t of them
    steps : ℕ → ℕ → List (List ℕ)
    steps zero n = []
    steps (suc t) n = slack_name n ∷ steps t (n + step)

    -- the name of a number from m on
    record IsFrom (m : ℕ) (name : List ℕ) : Type 0 where
      pub number : ℕ
      pub above : m ≤ number
      pub small : Small number
      pub is : name ≡ slack_name number

    less : (t n : ℕ) → n + suc t * step < 10 ^ 64 → (n + step) + t * step < 10 ^ 64
    less t n h = omega (arith, h, suc-mul t step)

    first_small : (t n : ℕ) → n + t * step < 10 ^ 64 → Small n
    first_small t n h = omega (arith, h)

    each_step : (t n m : ℕ) → m ≤ n → n + t * step < 10 ^ 64 → All (IsFrom m) (steps t n)
    unfolding steps
    each_step zero n m le h = All-nil (IsFrom m)
    each_step (suc t) n m le h =
        All-cons (IsFrom m) (slack_name n) (steps t (n + step))
        (record { number = n; above = le; small = first_small (suc t) n h; is = refl })
        (each_step t (n + step) m (omega (arith, le)) (less t n h))

    other_step : (n : ℕ) (name : List ℕ) → Small n → IsFrom (n + step) name → slack_name n ≢ name
    other_step n name small from e =
        let same : n ≡ from.number =
        slack_name-injective n from.number small from.small (e ∙ from.is) in
        omega (arith, same, from.above, some)

    steps_apart : (t n : ℕ) → n + t * step < 10 ^ 64
        → AllPairs {X = List ℕ} (λ a b. a ≢ b) (steps t n)
    unfolding steps
    steps_apart zero n h = AllPairs-nil (λ a b. a ≢ b)
    steps_apart (suc t) n h =
        AllPairs-cons (λ a b. a ≢ b) (slack_name n) (steps t (n + step))
        (All-weaker (IsFrom (n + step)) (λ b. slack_name n ≢ b)
        (λ b from. other_step n b (first_small (suc t) n h) from) (steps t (n + step))
        (each_step t (n + step) (n + step) (omega arith) (less t n h)))
        (steps_apart t (n + step) (less t n h))

    length-steps : (t n : ℕ) → length (steps t n) ≡ t
    unfolding steps
    length-steps zero n = refl
    length-steps (suc t) n = ap suc (length-steps t (n + step))

    -- a free name is found, or all that were tried are taken
    found : (t n : ℕ) → IsNameFree (slack_name (free_number model step t n))
        ⊎ All IsTaken (steps (suc t) n)
    unfolding steps
    found zero n = by (has_variable_named model (slack_name n)) refl
      where
        by : (b : Bool) → has_variable_named model (slack_name n) ≡ b
            → IsNameFree (slack_name n) ⊎ All IsTaken (steps 1 n)
        by true e = inr (All-cons IsTaken (slack_name n) [] e (All-nil IsTaken))
        by false e = inl e
    found (suc t) n =
        by (has_variable_named model (slack_name n)) refl (found t (n + step))
      where
        by : (b : Bool) → has_variable_named model (slack_name n) ≡ b
            → IsNameFree (slack_name (free_number model step t (n + step)))
            ⊎ All IsTaken (steps (suc t) (n + step))
            → IsNameFree (slack_name (cond b (free_number model step t (n + step)) n))
            ⊎ All IsTaken (steps (suc (suc t)) n)
        by true e (inl free) = inl free
        by true e (inr all) =
            inr (All-cons IsTaken (slack_name n) (steps (suc t) (n + step)) e all)
        by false e rest = inl e

    at_member : (P : List ℕ → Type 0) (names : List (List ℕ)) (q : List ℕ) → All P names
        → is_member bytes_eq names q ≡ true → P q
    at_member P names q all e =
        let place : Contains names q =
        Contains-from_any (λ a b. (bytes_eq-Decides a b).0) q names e in
        subst P place.2 (all place.0 q place.1)

    -- as many tries as the model has variables find a name that is free
    is_free : (n : ℕ) → n + suc (length (variables model)) * step < 10 ^ 64
        → IsNameFree (free_name model step n)
    is_free n h =
        elim (found (length (variables model)) n) [
          | inl free ↦ free
          | inr all ↦
              let tries = steps (suc (length (variables model))) n in
              let most : length tries ≤ length taken =
              length-le_from_is_member nat_list_eq_equiv tries taken
              (IsDistinct-from_AllPairs bytes_eq-Decides tries
              (steps_apart (suc (length (variables model))) n h))
              (λ q e. taken_in q (at_member IsTaken tries q all e)) in
              absurd (omega (
                arith,
                most,
                length-steps (suc (length (variables model))) n,
                length-map (variables model) (λ (v : GroupVar). v.name),
              ))
        ]

    -- ---- how far the first that is free is

    record IsAway (n m most : ℕ) : Type 0 where
      pub times : ℕ
      pub few : times ≤ most
      pub is : m ≡ n + times * step

    away : (t n : ℕ) → IsAway n (free_number model step t n) t
    away zero n = record { times = 0; few = omega arith; is = omega arith }
    away (suc t) n = by (has_variable_named model (slack_name n)) (away t (n + step))
      where
        by : (b : Bool) → IsAway (n + step) (free_number model step t (n + step)) t
            → IsAway n (cond b (free_number model step t (n + step)) n) (suc t)
        by true rest = record {
          times = suc rest.times;
          few = omega (arith, rest.few);
          is = omega (arith, rest.is, suc-mul rest.times step);
        }
        by false rest = record { times = 0; few = omega arith; is = omega arith }

-- numbers that are up to the step, with steps added, are the same only where they were
same_start : (step j k a b : ℕ) → 1 ≤ j → j ≤ step → 1 ≤ k → k ≤ step
    → j + a * step ≡ k + b * step → j ≡ k
same_start step j k a b j_some j_few k_some k_few e = by (compare_lem a b)
  where
    compare_lem : (a b : ℕ) → (a ≡ b) ⊎ ((suc a ≤ b) ⊎ (suc b ≤ a))
    compare_lem zero zero = inl refl
    compare_lem zero (suc b) = inr (inl (omega arith))
    compare_lem (suc a) zero = inr (inr (omega arith))
    compare_lem (suc a) (suc b) = more (compare_lem a b)
      where
        more : (a ≡ b) ⊎ ((suc a ≤ b) ⊎ (suc b ≤ a))
            → (suc a ≡ suc b) ⊎ ((suc (suc a) ≤ suc b) ⊎ (suc (suc b) ≤ suc a))
        more (inl same) = inl (ap suc same)
        more (inr (inl low)) = inr (inl (omega (arith, low)))
        more (inr (inr low)) = inr (inr (omega (arith, low)))

    by : (a ≡ b) ⊎ ((suc a ≤ b) ⊎ (suc b ≤ a)) → j ≡ k
    by (inl same) = omega (arith, e, ap (λ c. c * step) same)
    by (inr (inl low)) =
        absurd (omega (arith, e, mul-le-mul_right step low, suc-mul a step, j_few, k_some))
    by (inr (inr low)) =
        absurd (omega (arith, e, mul-le-mul_right step low, suc-mul b step, k_few, j_some))

-- ---- as many names as there are steps

module _ (model : ModelValue) (count : ℕ) (few : length (variables model) < 2 ^ 64)
    (small : count < 2 ^ 64) where
  abbrev size : ℕ
  size = length (variables model)

  enough : (k : ℕ) → k ≤ count → k + suc size * count < 10 ^ 64
  enough k within =
      let product : suc size * count ≤ (2 ^ 64) * (2 ^ 64) =
      mul-le (suc size) count (2 ^ 64) (2 ^ 64) (omega (arith, few)) (omega (arith, small)) in
      omega (arith, product, within, small)

  one_free : (k : ℕ) → 1 ≤ k → k ≤ count → IsNameFree model (free_name model count k)
  one_free k some within =
      is_free model count (omega (arith, some, within)) k (enough k within)

  number_small : (k t : ℕ) → k ≤ count → t ≤ size → Small (k + t * count)
  number_small k t within h =
      let product : t * count ≤ suc size * count = mul-le-mul_right count (omega (arith, h)) in
      omega (arith, product, enough k within)

  apart : (j k : ℕ) → 1 ≤ j → j ≤ count → 1 ≤ k → k ≤ count
      → free_name model count j ≡ free_name model count k → j ≡ k
  apart j k j_some j_few k_some k_few e =
      let some : 1 ≤ count = omega (arith, j_some, j_few) in
      let p = away model count some size j in
      let q = away model count some size k in
      same_start count j k p.times q.times j_some j_few k_some k_few
      (sym p.is
      ∙ slack_name-injective (free_number model count size j) (free_number model count size k)
      (subst Small (sym p.is) (number_small j p.times j_few p.few))
      (subst Small (sym q.is) (number_small k q.times k_few q.few)) e
      ∙ q.is)

  -- the name of a place from k on
  record IsPlaced (k : ℕ) (name : List ℕ) : Type 0 where
    pub place : ℕ
    pub from : k ≤ place
    pub to : place ≤ count
    pub is : name ≡ free_name model count place

  placed : (k c : ℕ) → k + c ≤ suc count → All (IsPlaced k) (free_names model count k c)
  placed k zero h = All-nil (IsPlaced k)
  placed k (suc c) h =
      All-cons (IsPlaced k) (free_name model count k) (free_names model count (suc k) c)
      (record { place = k; from = omega arith; to = omega (arith, h); is = refl })
      (All-weaker (IsPlaced (suc k)) (IsPlaced k)
      (λ name p. record { place = p.place; from = omega (arith, p.from); to = p.to; is = p.is })
      (free_names model count (suc k) c) (placed (suc k) c (omega (arith, h))))

  names_apart_from : (k c : ℕ) → 1 ≤ k → k + c ≤ suc count
      → AllPairs {X = List ℕ} (λ a b. a ≢ b) (free_names model count k c)
  names_apart_from k zero some h = AllPairs-nil (λ a b. a ≢ b)
  names_apart_from k (suc c) some h =
      AllPairs-cons (λ a b. a ≢ b) (free_name model count k) (free_names model count (suc k) c)
      (All-weaker (IsPlaced (suc k)) (λ b. free_name model count k ≢ b) other
      (free_names model count (suc k) c) (placed (suc k) c (omega (arith, h))))
      (names_apart_from (suc k) c (omega arith) (omega (arith, h)))
    where
      other : (b : List ℕ) → IsPlaced (suc k) b → free_name model count k ≢ b
      other b p e =
          let same : k ≡ p.place = apart k p.place some (omega (arith, h))
          (omega (arith, p.from)) p.to (e ∙ p.is) in
          absurd (omega (arith, same, p.from))

  pub names_apart : AllPairs {X = List ℕ} (λ a b. a ≢ b) (free_names model count 1 count)
  names_apart = names_apart_from 1 count (omega arith) (omega arith)

  pub names_distinct : IsDistinct bytes_eq (free_names model count 1 count)
  names_distinct =
      IsDistinct-from_AllPairs bytes_eq-Decides (free_names model count 1 count) names_apart

  pub names_free : All (IsNameFree model) (free_names model count 1 count)
  names_free =
      All-weaker (IsPlaced 1) (IsNameFree model)
      (λ name p. subst (IsNameFree model) (sym p.is) (one_free p.place p.from p.to))
      (free_names model count 1 count) (placed 1 count (omega arith))
