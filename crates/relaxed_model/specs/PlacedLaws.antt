-- The points of the relaxation: the numbers of the model's variables, and behind them those of the
-- slacks.
--     first_part last_part      of a list with a number for each variable of the relaxation
use Rattle.std.specs.Prelude.{◌≡◌, ◌≢◌, ℕ, zero, suc, ◌+◌, ◌<◌, ◌≤◌, cond, List, [], ◌∷◌, ◌++◌, All, AllPairs, drop, length, map, take, refl}
use Rattle.std.proofs.Common.{ap, ap₂, arith, sym, ◌∙◌}
use Rattle.std.proofs.lemmas.List.{length-append, length-map, length-take-le, map-append, take-append-drop}
use Rattle.std.proofs.lemmas.List.Concat.{flat_map-append}
use Rattle.std.proofs.lemmas.List.Elements.{All-cons, All-head, All-nil, All-tail}
use Rattle.std.proofs.lemmas.List.Kept.{AllPairs-cons}
use Rattle.std.proofs.lemmas.Map.Made.{IsDistinct-from_AllPairs}
use Rattle.map_laws.specs.EachLaws.{map_same_on}
use Rattle.map_laws.specs.PairLaws.{AllPairs-nil}
use Rattle.ratio_core.specs.Rational.{Rational, zero_ℚ}
use Rattle.aff_core.specs.Address.{Address, address_eq, address_eq-Decides}
use Rattle.aff_core.specs.KeyOrder.{address_order, other_key}
use Rattle.aff_core.specs.Points.{spread}
use Rattle.linear_laws.specs.PointLaws.{spread_at}
use Rattle.user_model.specs.declared.group.Group.{Group}
use Rattle.user_model.specs.declared.group.GroupVar.{GroupVar}
use Rattle.user_model.specs.Consistent.{IsConsistent}
use Rattle.user_model.specs.Model.{ModelValue, variable_address, variables}
use Rattle.certificates.specs.Points.{address_of, addresses_of, at_point, variables_of}
use Rattle.group_numbering.specs.NewGroups.{numbered_groups, variable_count}
use Rattle.group_numbering.specs.NumberLaws.{numbers_from}
use Rattle.group_numbering.specs.PlaceLaws.{addresses_from, group_addresses, length-addresses_from, numbers_at}
use Rattle.relaxed_model.specs.FunctionLaws.{other_number}
use Rattle.relaxed_model.specs.OwnLaws.{IsNumberedBelow}
use Rattle.relaxed_model.specs.Relaxed.{free_names, relaxed_model, slack_count, slack_group, slack_names}

-- ---- numbers at two lists of addresses

abbrev IsOff : Address → Address → Type 0
IsOff v u = v ≢ u

spread_off : (us : List Address) (x : List Rational) (v : Address) → All (IsOff v) us
    → spread us x v ≡ zero_ℚ
spread_off [] x v off = refl
spread_off (a ∷ us) [] v off = refl
spread_off (a ∷ us) (q ∷ x) v off =
    ap (λ b. cond b q (spread us x v))
    (other_key address_order v a (All-head (IsOff v) a us off))
    ∙ spread_off us x v (All-tail (IsOff v) a us off)

spread_first : (us vs : List Address) (x s : List Rational) (v : Address) → length x ≡ length us
    → All (IsOff v) vs → spread (us ++ vs) (x ++ s) v ≡ spread us x v
spread_first [] vs [] s v size off = spread_off vs s v off
spread_first [] vs (q ∷ x) s v size off = absurd (omega (arith, size))
spread_first (a ∷ us) vs [] s v size off = absurd (omega (arith, size))
spread_first (a ∷ us) vs (q ∷ x) s v size off =
    ap (λ p. cond (address_eq v a) q p) (spread_first us vs x s v (omega (arith, size)) off)

spread_second : (us vs : List Address) (x s : List Rational) (v : Address) → length x ≡ length us
    → All (IsOff v) us → spread (us ++ vs) (x ++ s) v ≡ spread vs s v
spread_second [] vs [] s v size off = refl
spread_second [] vs (q ∷ x) s v size off = absurd (omega (arith, size))
spread_second (a ∷ us) vs [] s v size off = absurd (omega (arith, size))
spread_second (a ∷ us) vs (q ∷ x) s v size off =
    ap (λ b. cond b q (spread (us ++ vs) (x ++ s) v))
    (other_key address_order v a (All-head (IsOff v) a us off))
    ∙ spread_second us vs x s v (omega (arith, size)) (All-tail (IsOff v) a us off)

-- ---- numbers of variables

off_later : (v : Address) (n k : ℕ) → v.number < n → All (IsOff v) (addresses_from n k)
off_later v n zero h = All-nil (IsOff v)
off_later v n (suc k) h =
    All-cons (IsOff v) (variable_address n) (addresses_from (suc n) k) (other_number v n h)
    (off_later v (suc n) k (omega (arith, h)))

off_earlier : (n m : ℕ) (vars : List GroupVar) → n ≤ m → All (IsNumberedBelow n) vars
    → All (IsOff (variable_address m)) (addresses_of vars)
off_earlier n m [] h below = All-nil (IsOff (variable_address m))
off_earlier n m (v ∷ vars) h below =
    All-cons (IsOff (variable_address m)) (address_of v) (addresses_of vars)
    (λ e. other_number (address_of v) m
    (let less = All-head (IsNumberedBelow n) v vars below in omega (arith, less, h)) (sym e))
    (off_earlier n m vars h (All-tail (IsNumberedBelow n) v vars below))

apart_from : (n k : ℕ) → AllPairs (λ (a b : Address). a ≢ b) (addresses_from n k)
apart_from n zero = AllPairs-nil (λ a b. a ≢ b)
apart_from n (suc k) =
    AllPairs-cons (λ a b. a ≢ b) (variable_address n) (addresses_from (suc n) k)
    (off_later (variable_address n) (suc n) k (omega arith)) (apart_from (suc n) k)

-- ---- the variables of the relaxation

pub length-free_names : (model : ModelValue) (step k count : ℕ)
    → length (free_names model step k count) ≡ count
length-free_names model step k zero = refl
length-free_names model step k (suc count) = ap suc (length-free_names model step (suc k) count)

pub variable_count-slacks : (names : List (List ℕ))
    → variable_count (map slack_group names) ≡ length names
variable_count-slacks [] = refl
variable_count-slacks (name ∷ names) =
    let rest = variable_count-slacks names in omega (arith, rest)

module _ (model : ModelValue) (consistent : IsConsistent model) where
  abbrev first : ℕ
  first = model.next.variable

  abbrev count : ℕ
  count = slack_count model.rows

  abbrev own_addresses : List Address
  own_addresses = addresses_of (variables model)

  abbrev slacks : List Group
  slacks = numbered_groups model.next.group first (map slack_group (slack_names model))

  count_is : variable_count (map slack_group (slack_names model)) ≡ count
  count_is =
      variable_count-slacks (slack_names model) ∙ length-free_names model count 1 count

  pub relaxed_addresses : addresses_of (variables (relaxed_model model))
      ≡ own_addresses ++ addresses_from first count
  relaxed_addresses =
      ap addresses_of (flat_map-append (λ (g : Group). g.vars) model.groups slacks)
      ∙ map-append address_of (variables model) (variables_of slacks)
      ∙ ap (λ us. own_addresses ++ us)
      (group_addresses model.next.group first (map slack_group (slack_names model))
      ∙ ap (addresses_from first) count_is)

  pub length-relaxed : length (variables (relaxed_model model)) ≡ length (variables model) + count
  length-relaxed =
      sym (length-map (variables (relaxed_model model)) address_of)
      ∙ ap length relaxed_addresses
      ∙ length-append own_addresses (addresses_from first count)
      ∙ ap₂ ◌+◌ (length-map (variables model) address_of) (length-addresses_from first count)

  -- a point of the model, and behind it numbers of the slacks
  module _ (x s : List Rational) (size : length x ≡ length (variables model)) where
    placed : (v : Address) → at_point (relaxed_model model) (x ++ s) v
        ≡ spread (own_addresses ++ addresses_from first count) (x ++ s) v
    placed v = ap (λ us. spread us (x ++ s) v) relaxed_addresses

    own_size : length x ≡ length own_addresses
    own_size = size ∙ sym (length-map (variables model) address_of)

    pub own_numbers : (v : Address) → v.number < first
        → at_point (relaxed_model model) (x ++ s) v ≡ at_point model x v
    own_numbers v h =
        placed v
        ∙ spread_first own_addresses (addresses_from first count) x s v own_size
        (off_later v first count h)

    slack_number : (m : ℕ) → first ≤ m
        → at_point (relaxed_model model) (x ++ s) (variable_address m)
        ≡ spread (addresses_from first count) s (variable_address m)
    slack_number m h =
        placed (variable_address m)
        ∙ spread_second own_addresses (addresses_from first count) x s (variable_address m) own_size
        (off_earlier first m (variables model) h consistent.given_variables)

    each_slack : (n k : ℕ) → first ≤ n
        → All (λ (v : Address). at_point (relaxed_model model) (x ++ s) v
        ≡ spread (addresses_from first count) s v) (addresses_from n k)
    each_slack n zero h =
        All-nil (λ (v : Address). at_point (relaxed_model model) (x ++ s) v
        ≡ spread (addresses_from first count) s v)
    each_slack n (suc k) h =
        All-cons (λ (v : Address). at_point (relaxed_model model) (x ++ s) v
        ≡ spread (addresses_from first count) s v) (variable_address n) (addresses_from (suc n) k)
        (slack_number n h) (each_slack (suc n) k (omega (arith, h)))

    pub slack_numbers : length s ≡ count
        → numbers_from (at_point (relaxed_model model) (x ++ s)) first count ≡ s
    slack_numbers e =
        let us : List Address = addresses_from first count in
        sym (numbers_at (at_point (relaxed_model model) (x ++ s)) first count)
        ∙ map_same_on (at_point (relaxed_model model) (x ++ s)) (spread us s) us
        (each_slack first count (omega arith))
        ∙ spread_at us s (IsDistinct-from_AllPairs address_eq-Decides us (apart_from first count))
        (length-addresses_from first count ∙ sym e)

-- ---- the parts of a list with a number for each variable of the relaxation

abbrev pub first_part : ModelValue → List Rational → List Rational
first_part model z = take (length (variables model)) z

abbrev pub last_part : ModelValue → List Rational → List Rational
last_part model z = drop (length (variables model)) z

pub parts_join : (model : ModelValue) (z : List Rational)
    → first_part model z ++ last_part model z ≡ z
parts_join model z = take-append-drop (length (variables model)) z

module _ (model : ModelValue) (consistent : IsConsistent model) (z : List Rational)
    (size : length z ≡ length (variables (relaxed_model model))) where
  pub length-first_part : length (first_part model z) ≡ length (variables model)
  length-first_part =
      length-take-le (length (variables model)) z
      (omega (arith, size, length-relaxed model consistent))

  pub length-last_part : length (last_part model z) ≡ slack_count model.rows
  length-last_part =
      omega (
        arith,
        size,
        length-relaxed model consistent,
        length-first_part,
        ap length (parts_join model z),
        length-append (first_part model z) (last_part model z),
      )
