-- Pairs noted one after another.
use Rattle.std.specs.Prelude.{◌≡◌, ◌≢◌, ◌⊎◌, ◌||◌, ◌&&◌, Bool, true, false, cond, List, [], ◌∷◌, OnOk, Option, Some, None, Result, Ok, Err, is_some, unwrap_or, refl}
use Rattle.std.specs.FinMap as finite
use Rattle.std.specs.FinMap.Entries.{find}
use Rattle.std.specs.List.{list_any}
use Rattle.std.specs.Option.{option_copied, option_map_or}
use Rattle.std.proofs.Common.{inl, inr, sym, ap, subst, ◌∙◌, true≢false}
use Rattle.address_map.specs.Noted.{AddressSet, IsNotedAt, Noted, noted_in, with_item, without_item}
use Rattle.aff_core.specs.Address.{Address, address_cmp, address_eq, address_eq-Decides, address_total, root_address}
use Rattle.aff_core.specs.declared.root.Root.TheVariants as root
use Rattle.aff_core.specs.Function.{Function, terms_of}
use Rattle.aff_core.specs.KeyOrder.{address_order, other_key, same_key}
use Rattle.lazy_bridge.specs.Mentioned.{IsMentionIndex, NotesPairs, contents_name, is_noted, row_names}
use Rattle.lazy_bridge.proofs.Sets.{IsSetting, setting_done, setting_more}
use Rattle.touched_items.specs.Differences.{rows_in}
use Rattle.touched_items.specs.declared.differing.ModelItems.{ModelItems}
use Rattle.user_model.specs.Functions.{has_term}
use Rattle.user_model.specs.Model.{ModelValue, objective_mentions}
use Rattle.user_model.specs.declared.objective.Objective.{Objective}
use Rattle.user_model.specs.declared.row.Row.{Row}

-- ---- tests

and_false : (a : Bool) → (a && false) ≡ false
and_false true = refl
and_false false = refl

and_true : (a : Bool) → a ≡ (a && true)
and_true true = refl
and_true false = refl

and_or : (a b c : Bool) → ((a && b) || (a && c)) ≡ (a && (b || c))
and_or true b c = refl
and_or false b c = refl

pub any_both : {X : Type 0} (b : Bool) (p : X → Bool) (xs : List X)
    → list_any (λ x. b && p x) xs ≡ (b && list_any p xs)
any_both b p [] = sym (and_false b)
any_both b p (x ∷ xs) = ap (λ r. (b && p x) || r) (any_both b p xs) ∙ and_or b (p x) (list_any p xs)

-- ---- a loop over what names

pub same_notes : (f g : Address → Address → Bool) (told : Bool) (old new : Noted)
    → ((v at : Address) → f v at ≡ g v at) → NotesPairs f told old new → NotesPairs g told old new
same_notes f g told old new same h v at =
    h v at ∙ ap (λ b. cond b told (is_noted old v at)) (same v at)

module _ {X : Type 0} (f : X → Address → Address → Bool) (told : Bool) where
  abbrev pub any_names : List X → Address → Address → Bool
  any_names xs v at = list_any (λ x. f x v at) xs

  abbrev here : X → Address × Address → Bool
  here x k = f x k.0 k.1

  abbrev notes_at : Noted → Address × Address → Bool
  notes_at noted k = is_noted noted k.0 k.1

  -- what is noted now, with what is left to note, is what all is to be
  abbrev pub IsNoting : List X → List X → Noted → Noted → Type 0
  IsNoting all left old now =
      IsSetting here (λ _. told) all left (notes_at old) (notes_at now)

  pub noting_more : (all left rest : List X) (x : X) (old now after : Noted)
      → IsNoting all left old now → left ≡ x ∷ rest → NotesPairs (f x) told now after
      → IsNoting all rest old after
  noting_more all left rest x old now after h next notes =
      setting_more here (λ _. told) all left rest x (notes_at old) (notes_at now)
      (notes_at after) h next (λ k. notes k.0 k.1)

  pub noting_done : (all left : List X) (old now : Noted) → IsNoting all left old now → left ≡ []
      → NotesPairs (any_names all) told old now
  noting_done all left old now h none v at =
      setting_done here (λ _. told) all left (notes_at old) (notes_at now) h none (v, at)

-- ---- the terms of a function

found : {X : Type 0} (v : Address) (ts : List (Address × X))
    → list_any (λ t. address_eq v t.0) ts ≡ is_some (find address_cmp v ts)
found v [] = refl
found {X} v (t ∷ ts) = by (address_eq v t.0) (found v ts)
  where
    by : (b : Bool)
        → list_any (λ (u : Address × X). address_eq v u.0) ts ≡ is_some (find address_cmp v ts)
        → (b || list_any (λ (u : Address × X). address_eq v u.0) ts)
        ≡ is_some (cond b (Some t.1) (find address_cmp v ts))
    by true later = refl
    by false later = later

pub terms_name : (f : Function) (v : Address)
    → list_any (λ t. address_eq v t.0) (terms_of f) ≡ has_term v f
terms_name f v = found v (terms_of f) ∙ ap is_some (sym (finite.get-entries f.terms v))

-- ---- nothing noted

pub none_noted : (noted : Noted) (v at : Address) → noted ≡ finite.empty
    → is_noted noted v at ≡ false
none_noted noted v at none =
    ap (λ n. is_noted n v at) none
    ∙ ap (λ (o : Option AddressSet). is_some (finite.get (unwrap_or o finite.empty) at))
    (finite.get-empty address_cmp v)
    ∙ ap is_some (finite.get-empty address_cmp at)

-- ---- loops

-- what a variable, a term, a function and a row of an item name
abbrev pub var_names : Address → Address → Address → Address → Bool
var_names item x v at = address_eq at item && address_eq v x

abbrev pub term_names : {X : Type 0} → Address → Address × X → Address → Address → Bool
term_names item t v at = address_eq at item && address_eq v t.0

abbrev pub function_names : Address → Function → Address → Address → Bool
function_names item f v at = address_eq at item && has_term v f

pub vars_done : (item : Address) (told : Bool) (vars left : List Address) (old now : Noted)
    → IsNoting (var_names item) told vars left old now → left ≡ []
    → NotesPairs (λ v at. address_eq at item && list_any (address_eq v) vars) told old now
vars_done item told vars left old now h none =
    same_notes (any_names (var_names item) told vars)
    (λ v at. address_eq at item && list_any (address_eq v) vars) told old now
    (λ v at. any_both (address_eq at item) (address_eq v) vars)
    (noting_done (var_names item) told vars left old now h none)

pub functions_done : (item : Address) (told : Bool) (fs left : List Function) (old now : Noted)
    → IsNoting (function_names item) told fs left old now → left ≡ []
    → NotesPairs (λ v at. address_eq at item && list_any (has_term v) fs) told old now
functions_done item told fs left old now h none =
    same_notes (any_names (function_names item) told fs)
    (λ v at. address_eq at item && list_any (has_term v) fs) told old now
    (λ v at. any_both (address_eq at item) (has_term v) fs)
    (noting_done (function_names item) told fs left old now h none)

pub terms_done : (item : Address) (told : Bool) (f : Function) (left : List _) (old now : Noted)
    → IsNoting (term_names item) told (terms_of f) left old now → left ≡ []
    → NotesPairs (λ v at. address_eq at item && has_term v f) told old now
terms_done item told f left old now h none =
    same_notes (any_names (term_names item) told (terms_of f))
    (λ v at. address_eq at item && has_term v f) told old now
    (λ v at. any_both (address_eq at item) (λ t. address_eq v t.0) (terms_of f)
    ∙ ap (λ b. address_eq at item && b) (terms_name f v))
    (noting_done (term_names item) told (terms_of f) left old now h none)

-- ---- a model

both_noted : (rows objective : Bool)
    → cond objective true (cond rows true false) ≡ (rows || objective)
both_noted true true = refl
both_noted true false = refl
both_noted false true = refl
both_noted false false = refl

-- nothing was noted, then the rows, and then the objective
pub indexed : (model : ModelValue) (given : List Row) (objective : Objective)
    (start rows all : Noted) → given ≡ model.rows → objective ≡ model.objective
    → NotesPairs (λ v at. list_any (λ row. row_names row v at) given) true start rows
    → start ≡ finite.empty
    → NotesPairs (λ v at. address_eq at (root_address root.Objective 0)
    && objective_mentions v objective) true rows all
    → IsMentionIndex model all
indexed model given objective start rows all same_rows same_objective first_given none second_given v at =
    let first = subst (λ rs. NotesPairs (λ v at. list_any (λ row. row_names row v at) rs) true start rows)
    same_rows first_given in
    let second = subst (λ (o : Objective). NotesPairs (λ v at.
    address_eq at (root_address root.Objective 0) && objective_mentions v o) true rows all)
    same_objective second_given in
    let named = address_eq at (root_address root.Objective 0)
    && objective_mentions v model.objective in
    let listed = list_any (λ row. row_names row v at) model.rows in
    second v at
    ∙ ap (cond named true) (first v at ∙ ap (cond listed true) (none_noted start v at none))
    ∙ both_noted listed named

-- ---- some items

both_told : (rows objective told old : Bool)
    → cond objective told (cond rows told old) ≡ cond (rows || objective) told old
both_told true true told old = refl
both_told true false told old = refl
both_told false objective told old = refl

or_nothing : (a b : Bool) → a ≡ (a || (b && false))
or_nothing true b = refl
or_nothing false true = refl
or_nothing false false = refl

-- the rows of some items, and then their objective
module _ (contents : ModelItems) (told : Bool) (old rows : Noted)
    (first : NotesPairs (λ v at. list_any (λ row. row_names row v at) (rows_in contents)) told old rows)
  where
    pub without_objective : option_copied contents.objective ≡ None
        → NotesPairs (contents_name contents) told old rows
    without_objective none v at =
        first v at
        ∙ ap (λ b. cond b told (is_noted old v at))
        (or_nothing (list_any (λ row. row_names row v at) (rows_in contents))
        (address_eq at (root_address root.Objective 0))
        ∙ ap (λ (o : Option Objective). list_any (λ row. row_names row v at) (rows_in contents)
        || (address_eq at (root_address root.Objective 0)
        && option_map_or (objective_mentions v) o false)) (sym none))

    pub with_objective : (o : Objective) → option_copied contents.objective ≡ Some o
        → (all : Noted)
        → NotesPairs (λ v at. address_eq at (root_address root.Objective 0) && objective_mentions v o)
        told rows all
        → NotesPairs (contents_name contents) told old all
    with_objective o some all second v at =
        let named = address_eq at (root_address root.Objective 0) && objective_mentions v o in
        let listed = list_any (λ row. row_names row v at) (rows_in contents) in
        second v at
        ∙ ap (cond named told) (first v at)
        ∙ both_told listed named told (is_noted old v at)
        ∙ ap (λ (o : Option Objective). cond (list_any (λ row. row_names row v at) (rows_in contents)
        || (address_eq at (root_address root.Objective 0)
        && option_map_or (objective_mentions v) o false)) told (is_noted old v at)) (sym some)

-- ---- one pair

same_or_other : (v u : Address) → (v ≡ u) ⊎ (v ≢ u)
same_or_other v u = by (address_eq v u) refl
  where
    by : (b : Bool) → address_eq v u ≡ b → (v ≡ u) ⊎ (v ≢ u)
    by true e = inl ((address_eq-Decides v u).0 e)
    by false e = inr (λ same. true≢false (sym ((address_eq-Decides v u).1 same) ∙ e))

-- a pair, by what is there of the variable
one_set : (old new : Noted) (var item : Address) (told : Bool)
    → ((at : Address) → is_noted new var at ≡ cond (address_eq at item) told (is_noted old var at))
    → ((v : Address) → v ≢ var → noted_in new v ≡ noted_in old v)
    → NotesPairs (λ v at. address_eq at item && address_eq v var) told old new
one_set old new var item told here elsewhere v at = by (same_or_other v var)
  where
    by : (v ≡ var) ⊎ (v ≢ var)
        → is_noted new v at
        ≡ cond (address_eq at item && address_eq v var) told (is_noted old v at)
    by (inl same) =
        subst (λ u. is_noted new u at
        ≡ cond (address_eq at item && address_eq u var) told (is_noted old u at)) (sym same)
        (here at
        ∙ ap (λ b. cond b told (is_noted old var at)) (and_true (address_eq at item))
        ∙ ap (λ b. cond (address_eq at item && b) told (is_noted old var at))
        (sym (same_key address_order var)))
    by (inr other) =
        ap (λ s. is_some (finite.get s at)) (elsewhere v other)
        ∙ ap (λ b. cond b told (is_noted old v at)) (sym (and_false (address_eq at item)))
        ∙ ap (λ b. cond (address_eq at item && b) told (is_noted old v at))
        (sym (other_key address_order v var other))

some_or : (b : Bool) (given o : Option (Unit {0}))
    → is_some (cond b given o) ≡ cond b (is_some given) (is_some o)
some_or true given o = refl
some_or false given o = refl

pub noted_one : (old new : Noted) (var item : Address)
    → IsNotedAt old new var (with_item (noted_in old var) item)
    → NotesPairs (λ v at. address_eq at item && address_eq v var) true old new
noted_one old new var item h =
    one_set old new var item true
    (λ at. ap (λ s. is_some (finite.get s at)) h.here
    ∙ ap is_some (finite.get-insert address_total (noted_in old var) item tt at)
    ∙ some_or (address_eq at item) (Some tt) (finite.get (noted_in old var) at))
    h.elsewhere

pub unnoted_one : (old new : Noted) (var item : Address)
    → IsNotedAt old new var (without_item (noted_in old var) item)
    → NotesPairs (λ v at. address_eq at item && address_eq v var) false old new
unnoted_one old new var item h =
    one_set old new var item false
    (λ at. ap (λ s. is_some (finite.get s at)) h.here
    ∙ ap is_some (finite.get-remove address_total (noted_in old var) item at)
    ∙ some_or (address_eq at item) None (finite.get (noted_in old var) at))
    h.elsewhere

pub noted_if : {T E P Q : Type 0} (r : Result T E) → (P → Q) → OnOk r P → OnOk r Q
noted_if (Ok v) f h = f h
noted_if (Err e) f h = h

-- by what was noted
pub told_as : (told b : Bool) → told ≡ b → (names : Address → Address → Bool) (old new : Noted)
    → NotesPairs names b old new → NotesPairs names told old new
told_as told b e names old new h = subst (λ t. NotesPairs names t old new) (sym e) h

-- a pair that is noted already
pub noted_before : (noted : Noted) (var item : Address) → is_noted noted var item ≡ true
    → NotesPairs (λ v at. address_eq at item && address_eq v var) true noted noted
noted_before noted var item there =
    one_set noted noted var item true (λ at. by at (address_eq at item) refl) (λ v other. refl)
  where
    by : (at : Address) (b : Bool) → address_eq at item ≡ b
        → is_noted noted var at ≡ cond b true (is_noted noted var at)
    by at true e = ap (is_noted noted var) ((address_eq-Decides at item).0 e) ∙ there
    by at false e = refl
