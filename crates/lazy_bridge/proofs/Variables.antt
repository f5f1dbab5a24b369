-- Variables of groups set one after another.
use Rattle.std.specs.Prelude.{◌≡◌, ◌≤◌, ◌<◌, ◌+◌, ◌||◌, ℕ, Bool, true, false, cond, List, [], ◌∷◌, ◌++◌, MatchOption, Option, Some, None, get_or, is_some, length, map, take, refl}
use Rattle.std.specs.Borrow.{Bor}
use Rattle.std.specs.FinMap as finite
use Rattle.std.specs.FinMap.{FinMap}
use Rattle.std.proofs.Common.{sym, ap, subst, ◌∙◌, append-nil}
use Rattle.std.proofs.lemmas.Grind.{flat_map-append}
use Rattle.std.proofs.lemmas.List.{map-append, take_all, take_more}
use Rattle.std.proofs.lemmas.List.Folds.{list_any-append}
use Rattle.address_map.specs.Noted.{AddressSet, with_item, without_item}
use Rattle.aff_core.specs.Address.{Address, address_cmp, address_eq, address_eq-Decides, address_total}
use Rattle.aff_core.specs.Function.{Function}
use Rattle.fresh_bridging.specs.Entries.{is_kept}
use Rattle.item_core.specs.declared.image.Expression.{Expression}
use Rattle.item_core.specs.declared.image.Expression.TheVariants.{Kept}
use Rattle.leaf_update.specs.Others.{among}
use Rattle.lazy_bridge.specs.Expressed.{SetsAt, SetsOne}
use Rattle.touched_items.specs.Differences.{variables_in}
use Rattle.user_model.specs.Model.{variable_address}
use Rattle.user_model.specs.declared.group.Group.{Group}
use Rattle.user_model.specs.declared.group.GroupVar.{GroupVar}

abbrev Functions : Type 0
Functions = FinMap address_cmp Function

abbrev pub numbered : List GroupVar → List Address
numbered vars = map (λ (v : GroupVar). variable_address v.number) vars

module _ {T : Type 0} (value : Address → T) (old now new : Address → T) where
  two : (a b : Bool) (v o : T) → cond b v (cond a v o) ≡ cond (a || b) v o
  two true true v o = λ i. v
  two true false v o = λ i. v
  two false b v o = λ i. cond b v o

  -- some, and then others
  sets_both : (xs ys : List Address) → SetsAt value xs old now → SetsAt value ys now new
      → SetsAt value (xs ++ ys) old new
  sets_both xs ys first second v =
      second v
      ∙ ap (cond (among ys v) (value v)) (first v)
      ∙ two (among xs v) (among ys v) (value v) (old v)
      ∙ ap (λ b. cond b (value v) (old v)) (sym (list_any-append (address_eq v) xs ys))

  or_false : (b : Bool) → b ≡ (b || false)
  or_false true = refl
  or_false false = refl

  sets_one : (x : Address) → SetsOne value x now new → SetsAt value (x ∷ []) now new
  sets_one x one v = one v ∙ ap (λ b. cond b (value v) (now v)) (or_false (address_eq v x))

  pub vars_more : (vars : List GroupVar) (i : ℕ) (x : GroupVar) (at : Address)
      → x ≡ get_or vars i x → i < length vars → at ≡ variable_address x.number
      → SetsAt value (numbered (take i vars)) old now → SetsOne value at now new
      → SetsAt value (numbered (take (i + 1) vars)) old new
  vars_more vars i x at is lt address so_far one =
      subst (λ l. SetsAt value l old new)
      (sym (ap numbered (take_more vars i x lt)
      ∙ ap (λ y. numbered (take i vars ++ y ∷ [])) (sym is)
      ∙ map-append (λ (v : GroupVar). variable_address v.number) (take i vars) (x ∷ [])))
      (sets_both (numbered (take i vars)) (variable_address x.number ∷ []) so_far
      (subst (λ a. SetsAt value (a ∷ []) now new) address (sets_one at one)))

  pub groups_more : (groups : List (Bor Group)) (i : ℕ) (x : Bor Group) (vars : List GroupVar)
      → x ≡ get_or groups i x → i < length groups → vars ≡ x.now.vars
      → SetsAt value (variables_in (map (λ g. g.now) (take i groups))) old now
      → SetsAt value (numbered vars) now new
      → SetsAt value (variables_in (map (λ g. g.now) (take (i + 1) groups))) old new
  groups_more groups i x vars is lt own so_far one =
      subst (λ l. SetsAt value l old new)
      (sym (ap (λ l. variables_in (map (λ (g : Bor Group). g.now) l)) (take_more groups i x lt)
      ∙ ap (λ y. variables_in (map (λ (g : Bor Group). g.now) (take i groups ++ y ∷ []))) (sym is)
      ∙ ap variables_in (map-append (λ (g : Bor Group). g.now) (take i groups) (x ∷ []))
      ∙ flat_map-append (λ (g : Group). numbered g.vars)
      (map (λ (g : Bor Group). g.now) (take i groups)) (x.now ∷ [])
      ∙ ap (λ l. variables_in (map (λ (g : Bor Group). g.now) (take i groups)) ++ l)
      (append-nil (numbered x.now.vars))))
      (sets_both (variables_in (map (λ (g : Bor Group). g.now) (take i groups)))
      (numbered x.now.vars) so_far
      (subst (λ l. SetsAt value (numbered l) now new) own one))

-- all of them
module _ {T : Type 0} (value : Address → T) (old now : Address → T) where
  pub vars_all : (vars : List GroupVar) (i : ℕ) → length vars ≤ i
      → SetsAt value (numbered (take i vars)) old now → SetsAt value (numbered vars) old now
  vars_all vars i end so_far =
      subst (λ l. SetsAt value (numbered l) old now) (take_all i vars end) so_far

  pub groups_all : (groups : List (Bor Group)) (i : ℕ) → length groups ≤ i
      → SetsAt value (variables_in (map (λ g. g.now) (take i groups))) old now
      → SetsAt value (variables_in (map (λ g. g.now) groups)) old now
  groups_all groups i end so_far =
      subst (λ l. SetsAt value (variables_in (map (λ (g : Bor Group). g.now) l)) old now)
      (take_all i groups end) so_far

-- ---- one

some_or : {X : Type 0} (b : Bool) (given o : Option X)
    → is_some (cond b given o) ≡ cond b (is_some given) (is_some o)
some_or true given o = refl
some_or false given o = refl

pub marked : (old new : AddressSet) (var : Address) → new ≡ with_item old var
    → SetsOne (λ _. true) var (λ v. is_some (finite.get old v)) (λ v. is_some (finite.get new v))
marked old new var e v =
    ap (λ s. is_some (finite.get s v)) e
    ∙ ap is_some (finite.get-insert address_total old var tt v)
    ∙ some_or (address_eq v var) (Some tt) (finite.get old v)

pub unmarked : (old new : AddressSet) (var : Address) → new ≡ without_item old var
    → SetsOne (λ _. false) var (λ v. is_some (finite.get old v)) (λ v. is_some (finite.get new v))
unmarked old new var e v =
    ap (λ s. is_some (finite.get s v)) e
    ∙ ap is_some (finite.get-remove address_total old var v)
    ∙ some_or (address_eq v var) None (finite.get old v)

pub kept_as : (kept b : Bool) → kept ≡ b → (var : Address) (old new : Address → Bool)
    → SetsOne (λ _. b) var old new → SetsOne (λ _. kept) var old new
kept_as kept b e var old new h = subst (λ k. SetsOne (λ _. k) var old new) (sym e) h

pub forgotten : (old new : Functions) (var : Address) → new ≡ finite.remove old var
    → SetsOne (λ _. None) var (λ v. finite.get old v) (λ v. finite.get new v)
forgotten old new var e v =
    ap (λ m. finite.get m v) e ∙ finite.get-remove address_total old var v

pub expressed : (old new : Functions) (var : Address) (value : Address → Function) (f : Function)
    → new ≡ finite.insert old var f → f ≡ value var
    → SetsOne (λ v. Some (value v)) var (λ v. finite.get old v) (λ v. finite.get new v)
expressed old new var value f e is v =
    ap (λ m. finite.get m v) e
    ∙ finite.get-insert address_total old var f v
    ∙ by (address_eq v var) refl
  where
    by : (b : Bool) → address_eq v var ≡ b
        → cond b (Some f) (finite.get old v) ≡ cond b (Some (value v)) (finite.get old v)
    by true same =
        ap Some (is ∙ ap value (sym ((address_eq-Decides v var).0 same)))
    by false other = refl

-- a mark where a variable stands for it
pub if_kept : (old put new : AddressSet) (var : Address) (e : Address → Expression)
    (kept : Option Address) (marks : Bool) → put ≡ old
    → MatchOption kept (is_kept (e var) ≡ false) (λ k. e var ≡ Kept k) → marks ≡ is_some kept
    → SetsOne (λ _. marks) var (λ v. is_some (finite.get put v)) (λ v. is_some (finite.get new v))
    → SetsOne (λ v. is_kept (e v)) var (λ v. is_some (finite.get old v))
    (λ v. is_some (finite.get new v))
if_kept old put new var e kept marks same told is sets v =
    sets v
    ∙ ap (λ s. cond (address_eq v var) marks (is_some (finite.get s v))) same
    ∙ by (address_eq v var) refl
  where
    mark : (k : Option Address) → MatchOption k (is_kept (e var) ≡ false) (λ u. e var ≡ Kept u)
        → is_some k ≡ is_kept (e var)
    mark None h = sym h
    mark (Some u) h = sym (ap is_kept h)

    by : (b : Bool) → address_eq v var ≡ b
        → cond b marks (is_some (finite.get old v)) ≡ cond b (is_kept (e v)) (is_some (finite.get old v))
    by true at =
        is ∙ mark kept told ∙ ap (λ u. is_kept (e u)) (sym ((address_eq-Decides v var).0 at))
    by false at = refl
