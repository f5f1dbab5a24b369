-- What comparisons tell of sets and of lists of variables.
use Rattle.std.specs.Prelude.{◌≡◌, ◌≢◌, ◌↔◌, ◌==◌, ◌&&◌, Bool, true, false, IsTrue, MatchBool, List, [], ◌∷◌, length, map, refl}
use Rattle.std.specs.List.{list_all, zip}
use Rattle.std.proofs.Common.{arith, sym, ap, ap₂, subst, ◌∙◌, true≢false}
use Rattle.std.proofs.lemmas.Bool.Decides.{Decides-eqb}
use Rattle.aff_core.specs.Address.{Address}
use Rattle.map_laws.specs.EachLaws.{cons_head, cons_tail}
use Rattle.set_core.specs.declared.set.Set.{Set}
use Rattle.set_core.specs.SetLaws.{same_sets}
use Rattle.set_core.specs.contracts.set.SetPartialEq.TheImpl as sets
use Rattle.user_model.specs.Model.{variable_address}
use Rattle.user_model.specs.declared.group.GroupVar.{GroupVar}

pub sets_same : (s t : Set) (r : Bool) → r ≡ (sets.ghosts).eq s t → IsTrue r ↔ (s ≡ t)
sets_same s t r is = by r (subst (λ b. MatchBool b (s ≡ t) (s ≢ t)) (sym is) (same_sets s t))
  where
    by : (b : Bool) → MatchBool b (s ≡ t) (s ≢ t) → IsTrue b ↔ (s ≡ t)
    by true e = (λ _. e, λ _. refl)
    by false n = (λ t. absurd (true≢false (sym t)), λ e. absurd (n e))

abbrev addresses : List GroupVar → List Address
addresses vs = map (λ v. variable_address v.number) vs

both_true : (a b : Bool) → (a && b) ≡ true → (a ≡ true) × (b ≡ true)
both_true true b e = (refl, e)
both_true false b e = absurd (true≢false (sym e))

all_same : (xs ys : List GroupVar) → length xs ≡ length ys
    → list_all (λ p. p.0.number == p.1.number) (zip xs ys) ≡ true → addresses xs ≡ addresses ys
all_same [] [] n e = refl
all_same [] (y ∷ ys) n e = absurd (omega arith)
all_same (x ∷ xs) [] n e = absurd (omega arith)
all_same (x ∷ xs) (y ∷ ys) n e =
    let parts = both_true (x.number == y.number)
    (list_all (λ p. p.0.number == p.1.number) (zip xs ys)) e in
    let rest = all_same xs ys (omega arith) parts.1 in
    λ i. variable_address ((Decides-eqb x.number y.number).0 parts.0 i) ∷ rest i

same_all : (xs ys : List GroupVar) → length xs ≡ length ys → addresses xs ≡ addresses ys
    → list_all (λ p. p.0.number == p.1.number) (zip xs ys) ≡ true
same_all [] [] n e = refl
same_all [] (y ∷ ys) n e = absurd (omega arith)
same_all (x ∷ xs) [] n e = absurd (omega arith)
same_all (x ∷ xs) (y ∷ ys) n e =
    ap₂ (λ a b. a && b)
    ((Decides-eqb x.number y.number).1
    (ap (λ (a : Address). a.number)
    (cons_head (variable_address x.number) (variable_address y.number) (addresses xs)
    (addresses ys) e)))
    (same_all xs ys (omega arith)
    (cons_tail (variable_address x.number) (variable_address y.number) (addresses xs)
    (addresses ys) e))

pub variables_same : (xs ys : List GroupVar) (r : Bool) → length xs ≡ length ys
    → r ≡ list_all (λ p. p.0.number == p.1.number) (zip xs ys)
    → IsTrue r ↔ (addresses xs ≡ addresses ys)
variables_same xs ys r n is = (
  λ t. all_same xs ys n (sym is ∙ t),
  λ e. is ∙ same_all xs ys n e,
)
