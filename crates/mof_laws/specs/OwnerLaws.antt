-- The owners of variables, where no two variables have one name: each group's are appended.
use Rattle.std.specs.Prelude.{◌≡◌, ℕ, zero, suc, ◌<◌, All, ⊤, Bool, true, false, ◌||◌, not, List, [], ◌∷◌, ◌++◌, length, map, Option, Some, None, bytes_eq, is_none, slice_index_or, refl}
use Rattle.std.specs.List.{list_all, list_any}
use Rattle.std.specs.Map.{lookup}
use Rattle.std.proofs.Common.{ap, append-nil, append_assoc, arith, subst, sym, ◌∙◌}
use Rattle.std.proofs.lemmas.Bool.{and_from, cond-false, cond-true, false≢true, or_from, or_left, or_right}
use Rattle.std.proofs.lemmas.List.Elements.{All-cons, All-head, All-tail}
use Rattle.std.proofs.lemmas.List.Folds.{list_any-append}
use Rattle.std.proofs.lemmas.Slice.Eq.{bytes_eq-Decides}
use Rattle.map_laws.specs.EachLaws.{all_first, all_second}
use Rattle.indexmap.specs.IndexMap.{insert_entry}
use Rattle.user_model.specs.declared.group.Group.{Group}
use Rattle.user_model.specs.declared.group.GroupVar.{GroupVar}
use Rattle.model_laws.specs.Variables.{vars_in}
use Rattle.mof_read.specs.Groups.{Owners, are_new, is_free, with_owners}
use Rattle.mof_laws.specs.FunctionLaws.{ApartBy}
use Rattle.mof_laws.specs.ReadBack.{var_names}

-- a later variable has another name
abbrev pub Other : GroupVar → GroupVar → Type 0
Other v w = bytes_eq w.name v.name ≡ false

abbrev pub found : Owners → List ℕ → Option ℕ
found owners n = lookup (bytes_eq n) owners

-- the variables of the k-th group
abbrev pub pairs : ℕ → List GroupVar → Owners
pairs k vars = map (λ v. (v.name, k)) vars

-- no owner has the variable
abbrev pub IsNew : Owners → GroupVar → Type 0
IsNew owners v = found owners v.name ≡ None

-- ---- look-ups

found_step : (n : List ℕ) (x : List ℕ × ℕ) (xs ys : Owners) (b : Bool) → bytes_eq n x.0 ≡ b
    → found (x ∷ xs) n ≡ None → (found xs n ≡ None → found (xs ++ ys) n ≡ found ys n)
    → found (x ∷ (xs ++ ys)) n ≡ found ys n
found_step n x xs ys true e h later =
    let here : Some x.1 ≡ None = sym (cond-true (bytes_eq n x.0) (Some x.1) (found xs n) e)
    ∙ h in cc
found_step n x xs ys false e h later =
    cond-false (bytes_eq n x.0) (Some x.1) (found (xs ++ ys) n) e
    ∙ later (sym (cond-false (bytes_eq n x.0) (Some x.1) (found xs n) e) ∙ h)

pub found_later : (n : List ℕ) (xs ys : Owners) → found xs n ≡ None
    → found (xs ++ ys) n ≡ found ys n
found_later n [] ys h = refl
found_later n (x ∷ xs) ys h = found_step n x xs ys (bytes_eq n x.0) refl h (found_later n xs ys)

first_step : (n : List ℕ) (k : ℕ) (x : List ℕ × ℕ) (xs ys : Owners) (b : Bool) → bytes_eq n x.0 ≡ b
    → found (x ∷ xs) n ≡ Some k → (found xs n ≡ Some k → found (xs ++ ys) n ≡ Some k)
    → found (x ∷ (xs ++ ys)) n ≡ Some k
first_step n k x xs ys true e h later =
    cond-true (bytes_eq n x.0) (Some x.1) (found (xs ++ ys) n) e
    ∙ sym (cond-true (bytes_eq n x.0) (Some x.1) (found xs n) e) ∙ h
first_step n k x xs ys false e h later =
    cond-false (bytes_eq n x.0) (Some x.1) (found (xs ++ ys) n) e
    ∙ later (sym (cond-false (bytes_eq n x.0) (Some x.1) (found xs n) e) ∙ h)

found_first : (n : List ℕ) (k : ℕ) (xs ys : Owners) → found xs n ≡ Some k
    → found (xs ++ ys) n ≡ Some k
found_first n k [] ys h = let none : None ≡ Some k = h in cc
found_first n k (x ∷ xs) ys h =
    first_step n k x xs ys (bytes_eq n x.0) refl h (found_first n k xs ys)

missing : (n : List ℕ) (k : ℕ) (vars : List GroupVar)
    → All {X = GroupVar} (λ v. bytes_eq n v.name ≡ false) vars → found (pairs k vars) n ≡ None
missing n k [] h = refl
missing n k (v ∷ vs) h =
    cond-false (bytes_eq n v.name) (Some k) (found (pairs k vs) n)
    (All-head (λ v. bytes_eq n v.name ≡ false) v vs h)
    ∙ missing n k vs (All-tail (λ v. bytes_eq n v.name ≡ false) v vs h)

there_step : (n : List ℕ) (k : ℕ) (v : GroupVar) (vs : List GroupVar) (b : Bool)
    → bytes_eq n v.name ≡ b
    → list_any (λ w. bytes_eq n w.name) (v ∷ vs) ≡ true
    → (list_any (λ w. bytes_eq n w.name) vs ≡ true → found (pairs k vs) n ≡ Some k)
    → found (pairs k (v ∷ vs)) n ≡ Some k
there_step n k v vs true e h later = cond-true (bytes_eq n v.name) (Some k) (found (pairs k vs) n) e
there_step n k v vs false e h later =
    cond-false (bytes_eq n v.name) (Some k) (found (pairs k vs) n) e
    ∙ later (sym (ap (λ b. b || list_any (λ w. bytes_eq n w.name) vs) e) ∙ h)

-- each variable of the group is there
there : (n : List ℕ) (k : ℕ) (vars : List GroupVar) → list_any (λ w. bytes_eq n w.name) vars ≡ true
    → found (pairs k vars) n ≡ Some k
there n k [] h = absurd (false≢true h)
there n k (v ∷ vs) h = there_step n k v vs (bytes_eq n v.name) refl h (there n k vs)

-- ---- owners that are appended

last_step : (es : Owners) (e : List ℕ × ℕ) (n : List ℕ) (k : ℕ) (b : Bool) → bytes_eq n e.0 ≡ b
    → found (e ∷ es) n ≡ None → (found es n ≡ None
    → insert_entry bytes_eq es n k ≡ es ++ (n, k) ∷ [])
    → insert_entry bytes_eq (e ∷ es) n k ≡ e ∷ (es ++ (n, k) ∷ [])
last_step es e n k true is h later =
    let here : Some e.1 ≡ None = sym (cond-true (bytes_eq n e.0) (Some e.1) (found es n) is)
    ∙ h in cc
last_step es e n k false is h later =
    cond-false (bytes_eq n e.0) ((e.0, k) ∷ es) (e ∷ insert_entry bytes_eq es n k) is
    ∙ ap (λ xs. e ∷ xs) (later (sym (cond-false (bytes_eq n e.0) (Some e.1) (found es n) is) ∙ h))

insert_last : (es : Owners) (n : List ℕ) (k : ℕ) → found es n ≡ None
    → insert_entry bytes_eq es n k ≡ es ++ (n, k) ∷ []
insert_last [] n k h = refl
insert_last (e ∷ es) n k h = last_step es e n k (bytes_eq n e.0) refl h (insert_last es n k)

pub with_owners_is : (es : Owners) (k : ℕ) (vars : List GroupVar) → All (IsNew es) vars
    → ApartBy Other vars
    → with_owners es (var_names vars) k ≡ es ++ pairs k vars
with_owners_is es k [] new apart = sym (append-nil es)
with_owners_is es k (v ∷ vs) new apart =
    ap (λ o. with_owners o (var_names vs) k)
    (insert_last es v.name k (All-head (IsNew es) v vs new))
    ∙ with_owners_is (es ++ (v.name, k) ∷ []) k vs
    (λ i d within. found_later (slice_index_or vs i d).name es ((v.name, k) ∷ [])
    (All-tail (IsNew es) v vs new i d within)
    ∙ cond-false (bytes_eq (slice_index_or vs i d).name v.name) (Some k) None (apart.0 i d within))
    apart.1
    ∙ append_assoc es ((v.name, k) ∷ []) (pairs k vs)

pub new_names : (seen : List (List ℕ)) (vars : List GroupVar)
    → All {X = GroupVar} (λ v. list_any (bytes_eq v.name) seen ≡ false) vars → ApartBy Other vars
    → are_new seen (var_names vars) ≡ true
new_names seen [] h apart = refl
new_names seen (v ∷ vs) h apart =
    and_from _ _ (ap (λ b. not b) (All-head (λ v. list_any (bytes_eq v.name) seen ≡ false) v vs h))
    (new_names (seen ++ v.name ∷ []) vs
    (λ i d within. list_any-append (bytes_eq (slice_index_or vs i d).name) seen (v.name ∷ [])
    ∙ or_from _ _ (All-tail (λ v. list_any (bytes_eq v.name) seen ≡ false) v vs h i d within)
    (or_from _ _ (apart.0 i d within) refl))
    apart.1)

pub all_free : (es : Owners) (vars : List GroupVar) → All (IsNew es) vars
    → list_all (is_free es) (var_names vars) ≡ true
all_free es [] new = refl
all_free es (v ∷ vs) new =
    and_from _ _ (ap is_none (All-head (IsNew es) v vs new))
    (all_free es vs (All-tail (IsNew es) v vs new))

-- ---- the owners of all groups

-- from the k-th on
abbrev pub owned : ℕ → List Group → Owners
owned k [] = []
owned k (g ∷ gs) = pairs k g.vars ++ owned (suc k) gs

-- these owners have the variables of each group
abbrev pub AllOwned : Owners → ℕ → List Group → Type 0
AllOwned owners k [] = ⊤
AllOwned owners k (g ∷ gs) =
    All {X = GroupVar} (λ v. found owners v.name ≡ Some k) g.vars × AllOwned owners (suc k) gs

-- two lists that are apart, one behind the other
pub record AreListsApart {X : Type 0} (R : X → X → Type 0) (xs ys : List X) : Type 0 where
  pub one : ApartBy R xs
  pub other : ApartBy R ys
  pub both : All {X = X} (λ y. All {X = X} (λ x. R x y) xs) ys

pub parted : {X : Type 0} (R : X → X → Type 0) (xs ys : List X) → ApartBy R (xs ++ ys)
    → AreListsApart R xs ys
parted R [] ys h =
    record { one = tt; other = h; both = λ k d within. λ i e inside. absurd (omega arith) }
parted R (x ∷ xs) ys h =
    let rest = parted R xs ys h.1 in
    record {
      one = (all_first (R x) xs ys h.0, rest.one);
      other = rest.other;
      both = λ k d within. All-cons (λ z. R z (slice_index_or ys k d)) x xs
          (all_second (R x) xs ys h.0 k d within) (rest.both k d within);
    }

-- the variables of later groups are new to this one's owners
pub later_new : (es : Owners) (k : ℕ) (vars later : List GroupVar) → All (IsNew es) (vars ++ later)
    → ApartBy Other (vars ++ later) → All (IsNew (es ++ pairs k vars)) later
later_new es k vars later new apart = λ i d within.
    found_later (slice_index_or later i d).name es (pairs k vars)
    (all_second (IsNew es) vars later new i d within)
    ∙ missing (slice_index_or later i d).name k vars
    ((parted Other vars later apart).both i d within)

-- ---- each group's variables are owned by it

list_there : (vars : List GroupVar) (k : ℕ) (d : GroupVar) → k < length vars
    → list_any (λ w. bytes_eq (slice_index_or vars k d).name w.name) vars ≡ true
list_there [] k d h = absurd (omega arith)
list_there (v ∷ vs) zero d h = or_left _ _ ((bytes_eq-Decides v.name v.name).1 refl)
list_there (v ∷ vs) (suc k) d h = or_right _ _ (list_there vs k d (omega arith))

pub all_owned : (es : Owners) (k : ℕ) (gs : List Group) → All (IsNew es) (vars_in gs)
    → ApartBy Other (vars_in gs) → AllOwned (es ++ owned k gs) k gs
all_owned es k [] new apart = tt
all_owned es k (g ∷ gs) new apart =
    let parts = parted Other g.vars (vars_in gs) apart in (
      (λ i d within.
          found_later (slice_index_or g.vars i d).name es (pairs k g.vars ++ owned (suc k) gs)
          (all_first (IsNew es) g.vars (vars_in gs) new i d within)
          ∙ found_first (slice_index_or g.vars i d).name k (pairs k g.vars) (owned (suc k) gs)
          (there (slice_index_or g.vars i d).name k g.vars (list_there g.vars i d within))),
      subst (λ o. AllOwned o (suc k) gs) (append_assoc es (pairs k g.vars) (owned (suc k) gs))
          (all_owned (es ++ pairs k g.vars) (suc k) gs
          (later_new es k g.vars (vars_in gs) new apart) parts.other),
    )

-- a name of some variable is owned
some_owned : (n : List ℕ) (es : Owners)
    → list_any (λ e. bytes_eq n e.0) es ≡ true → is_none (found es n) ≡ false
some_owned n [] h = absurd (false≢true h)
some_owned n (e ∷ es) h = by (bytes_eq n e.0) refl h (some_owned n es)
  where
    by : (b : Bool) → bytes_eq n e.0 ≡ b → list_any (λ e. bytes_eq n e.0) (e ∷ es) ≡ true
        → (list_any (λ e. bytes_eq n e.0) es ≡ true → is_none (found es n) ≡ false)
        → is_none (found (e ∷ es) n) ≡ false
    by true is any later = ap is_none (cond-true (bytes_eq n e.0) (Some e.1) (found es n) is)
    by false is any later =
        ap is_none (cond-false (bytes_eq n e.0) (Some e.1) (found es n) is)
        ∙ later (sym (ap (λ b. b || list_any (λ e. bytes_eq n e.0) es) is) ∙ any)

group_owned : (n : List ℕ) (k : ℕ) (vs : List GroupVar) (gs : List Group)
    → list_any
    (λ e. bytes_eq n e.0) (owned (suc k) gs) ≡ list_any (bytes_eq n) (var_names (vars_in gs))
    → list_any (λ e. bytes_eq n e.0) (pairs k vs ++ owned (suc k) gs)
    ≡ list_any (bytes_eq n) (var_names (vs ++ vars_in gs))
group_owned n k [] gs rest = rest
group_owned n k (v ∷ vs) gs rest = ap (λ b. bytes_eq n v.name || b) (group_owned n k vs gs rest)

names_owned : (n : List ℕ) (k : ℕ) (gs : List Group)
    → list_any (λ e. bytes_eq n e.0) (owned k gs) ≡ list_any (bytes_eq n) (var_names (vars_in gs))
names_owned n k [] = refl
names_owned n k (g ∷ gs) = group_owned n k g.vars gs (names_owned n (suc k) gs)

pub known_owned : (n : List ℕ) (gs : List Group)
    → list_any (bytes_eq n) (var_names (vars_in gs)) ≡ true
    → is_none (found (owned 0 gs) n) ≡ false
known_owned n gs h = some_owned n (owned 0 gs) (names_owned n 0 gs ∙ h)
