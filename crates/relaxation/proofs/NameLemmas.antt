-- The texts of the slacks' names, and the search for one that is free.
use Rattle.std.specs.Prelude.{◌≡◌, ℕ, zero, suc, ◌+◌, ◌-◌, ◌*◌, ◌^◌, ◌<◌, ◌≤◌, Bool, true, false, List, [], ◌∷◌, ◌++◌, Option, Some, None, is_some, length, refl}
use Rattle.std.specs.Option.{option_map}
use Rattle.std.proofs.Common.{ap, arith, length-append, suc-mul, sym, ◌∙◌}
use Rattle.std.proofs.lemmas.Bool.{cond-false, cond-true}
use Rattle.std.proofs.lemmas.Nat.{mul-le}
use Rattle.std.proofs.Math.Nat.{mul-le-mul_right}
use Rattle.name_index.specs.Name.{HasBadLength, HasNameLength}
use Rattle.aff_core.specs.Address.{Address}
use Rattle.certificates.specs.Points.{variables_of}
use Rattle.user_model.specs.declared.group.Group.{Group}
use Rattle.user_model.specs.Model.{ModelValue, variable_address, variable_named}
use Rattle.user_model.specs.Refusals.{has_variable_named}
use Rattle.user_model.specs.Valid.{IsValid}
use Rattle.relaxed_model.specs.Relaxed.{free_name, free_names, free_number, slack_name}

-- ---- texts

pub short_name : (digits text : List ℕ) → text ≡ 126 ∷ digits → length digits ≤ 40
    → HasNameLength text
short_name digits text e short =
    let long : length text ≡ suc (length digits) = ap length e in
    (omega (arith, long), omega (arith, long, short))

pub not_both : (text : List ℕ) → HasNameLength text → HasBadLength text → ⊥
not_both text good bad = omega (arith, good.0, good.1, bad)

pub ruleset texts = (short_name, not_both)

-- ---- one try

pub is_named : (model : ModelValue) (name : List ℕ) (found : Option Address) (b : Bool)
    → found ≡ option_map variable_address (variable_named model name) → b ≡ is_some found
    → b ≡ has_variable_named model name
is_named model name found b e h = h ∙ ap is_some e ∙ by (variable_named model name)
  where
    by : (o : Option ℕ) → is_some (option_map variable_address o) ≡ is_some o
    by None = refl
    by (Some n) = refl

pub stays_small : (n first tried step tries : ℕ) → n ≤ first + tried * step → tried < tries
    → first + tries * step < 2 ^ 63 → n + step < 2 ^ 64
stays_small n first tried step tries h within reach =
    let least : suc tried ≤ tries = omega (arith, within) in
    let less : suc tried * step ≤ tries * step = mul-le-mul_right step least in
    omega (arith, h, less, suc-mul tried step, reach)

pub goes_on : (n first tried step : ℕ) → n ≤ first + tried * step
    → n + step ≤ first + (tried + 1) * step
goes_on n first tried step h =
    let same : tried + 1 ≡ suc tried = omega arith in
    let parted : (tried + 1) * step ≡ tried * step + step =
    ap (λ k. k * step) same ∙ suc-mul tried step in
    omega (arith, h, parted)

module _ (model : ModelValue) (step tried tries n : ℕ) (within : tried < tries) where
  left : free_number model step (tries - tried) n
      ≡ free_number model step (suc (tries - (tried + 1))) n
  left =
      let one_more : tries - tried ≡ suc (tries - (tried + 1)) = omega (arith, within) in
      ap (λ k. free_number model step k n) one_more

  pub is_found : (all : ℕ) → free_number model step (tries - tried) n ≡ all
      → has_variable_named model (slack_name n) ≡ false → all ≡ n
  is_found all so_far new = sym so_far ∙ left ∙ cond-false _ _ _ new

  pub is_later : (all : ℕ) → free_number model step (tries - tried) n ≡ all
      → has_variable_named model (slack_name n) ≡ true
      → free_number model step (tries - (tried + 1)) (n + step) ≡ all
  is_later all so_far there = sym (cond-true _ _ _ there) ∙ sym left ∙ so_far

pub is_last : (model : ModelValue) (step tried tries n all : ℕ) → tries ≤ tried
    → free_number model step (tries - tried) n ≡ all → all ≡ n
is_last model step tried tries n all past so_far =
    let none_left : tries - tried ≡ zero = omega (arith, past) in
    sym so_far ∙ ap (λ k. free_number model step k n) none_left

pub ruleset tries = (stays_small, goes_on, is_found, is_later, is_last)

-- ---- the variables

pub few_variables : (model : ModelValue) (groups : List Group) → groups ≡ model.groups
    → IsValid model → length (variables_of groups) ≤ 65535
few_variables model groups e valid =
    let same = ap (λ gs. length (variables_of gs)) e in omega (arith, same, valid.within.variables)

pub first_variables : (groups rest : List Group) (g : Group) → groups ≡ g ∷ rest
    → length (variables_of groups) ≡ length g.vars + length (variables_of rest)
first_variables groups rest g e =
    ap (λ gs. length (variables_of gs)) e ∙ length-append g.vars (variables_of rest)

-- ---- one name more

pub names_more : (model : ModelValue) (step k n : ℕ)
    → free_names model step k (n + 1)
    ≡ free_names model step k n ++ free_name model step (k + n) ∷ []
names_more model step k zero =
    let same : k ≡ k + 0 = omega arith in ap (λ k. free_name model step k ∷ []) same
names_more model step k (suc n) =
    let more : suc n + 1 ≡ suc (n + 1) = omega arith in
    let place : suc k + n ≡ k + suc n = omega arith in
    ap (free_names model step k) more
    ∙ ap (λ t. free_name model step k ∷ t) (names_more model step (suc k) n
    ∙ ap (λ p. free_names model step (suc k) n ++ free_name model step p ∷ []) place)

pub one_more : (model : ModelValue) (step tries i : ℕ) (groups : List Group)
    (names new : List (List ℕ)) (name : List ℕ) → groups ≡ model.groups
    → tries ≡ length (variables_of groups) → names ≡ free_names model step 1 i
    → name ≡ slack_name (free_number model step tries (1 + i)) → new ≡ names ++ name ∷ []
    → new ≡ free_names model step 1 (i + 1)
one_more model step tries i groups names new name e count so_far is more =
    let all = count ∙ ap (λ gs. length (variables_of gs)) e in
    more ∙ ap (λ ns. ns ++ name ∷ []) so_far
    ∙ ap (λ t. free_names model step 1 i ++ t ∷ [])
    (is ∙ ap (λ t. slack_name (free_number model step t (1 + i))) all)
    ∙ sym (names_more model step 1 i)

pub in_reach : (i count tries : ℕ) (groups : List Group) (model : ModelValue) → i < count
    → count ≤ 131070 → groups ≡ model.groups → IsValid model
    → tries ≡ length (variables_of groups) → (1 + i) + tries * count < 2 ^ 63
in_reach i count tries groups model h few e valid all =
    let small : tries ≤ 65535 = omega (arith, all, few_variables model groups e valid) in
    let less : tries * count ≤ 65535 * 131070 = mul-le tries count 65535 131070 small few in
    omega (arith, less, h, few)

pub ruleset names = (few_variables, one_more, in_reach)
