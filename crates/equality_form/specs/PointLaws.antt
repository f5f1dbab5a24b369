-- What of a point of the equality form the variables' columns give.
use Rattle.std.specs.Prelude.{◌≡◌, suc, ◌≤◌, List, [], ◌∷◌, ◌++◌, All, drop, length, map, refl}
use Rattle.std.proofs.Common.{sym, ◌∙◌, ap, arith, subst}
use Rattle.std.proofs.lemmas.List.Elements.{All-cons, All-head, All-nil, All-tail}
use Rattle.ratio_core.specs.Rational.{Rational, neg_ℚ, ◌*ℚ◌, ◌+ℚ◌, ◌-ℚ◌}
use Rattle.rational_laws.specs.Dot.{dot}
use Rattle.rational_laws.specs.Field.{+ℚ_assoc, zero-+ℚ}
use Rattle.rational_laws.specs.Ring.{as_expression, by_ring, ring₅}
use Rattle.aff_core.specs.Address.{Address}
use Rattle.solver_store.specs.declared.leaf.LeafVar.{LeafVar}
use Rattle.solver_store.specs.declared.leaf.LeafVar.TheVariants.{Free, Nonneg}
use Rattle.tableau_core.specs.Row.{cell}
use Rattle.equality_form.specs.Columns.{parts_among}
use Rattle.equality_form.specs.EqualityForm.{numbers_at}
use Rattle.equality_form.specs.ReadBack.{values_in}
use Rattle.equality_form.specs.Right.{Admits}
use Rattle.equality_form.specs.SlackLaws.{IsNonneg}

-- ---- the numbers of variables

regrouped : (g p q s t : Rational)
    → g *ℚ p +ℚ (neg_ℚ g *ℚ q +ℚ (s +ℚ t)) ≡ (g *ℚ (p -ℚ q) +ℚ s) +ℚ t
regrouped = ring₅ _ (λ ρ. simp as_expression (by_ring ρ _ _ refl))

-- weighed, the columns of the variables are the variables
pub parts_dot : (vars : List (Address × LeafVar)) (g : Address → Rational) (rest x : List Rational)
    → length (parts_among vars) ≤ length x
    → dot (numbers_at (parts_among vars) g ++ rest) x
    ≡ dot (map (λ var. g var.0) vars) (values_in vars x)
    +ℚ dot rest (drop (length (parts_among vars)) x)
parts_dot [] g rest x h = sym (zero-+ℚ (dot rest x))
parts_dot ((v, Free) ∷ vars) g rest [] h = absurd (omega (arith, h))
parts_dot ((v, Free) ∷ vars) g rest (p ∷ []) h = absurd (omega (arith, h))
parts_dot ((v, Free) ∷ vars) g rest (p ∷ q ∷ x) h =
    ap (λ s. g v *ℚ p +ℚ (neg_ℚ (g v) *ℚ q +ℚ s)) (parts_dot vars g rest x (omega (arith, h)))
    ∙ regrouped (g v) p q (dot (map (λ var. g var.0) vars) (values_in vars x))
    (dot rest (drop (length (parts_among vars)) x))
parts_dot ((v, Nonneg) ∷ vars) g rest [] h = absurd (omega (arith, h))
parts_dot ((v, Nonneg) ∷ vars) g rest (p ∷ x) h =
    ap (λ s. g v *ℚ p +ℚ s) (parts_dot vars g rest x (omega (arith, h)))
    ∙ sym (+ℚ_assoc (g v *ℚ p) (dot (map (λ var. g var.0) vars) (values_in vars x))
    (dot rest (drop (length (parts_among vars)) x)))

pub length-values_in : (vars : List (Address × LeafVar)) (x : List Rational)
    → length (values_in vars x) ≡ length vars
length-values_in [] x = refl
length-values_in (var ∷ vars) x = ap suc (length-values_in vars _)

-- the variables may have the numbers of a point that isn't negative
pub admitted : (vars : List (Address × LeafVar)) (p : Address → Rational) (x : List Rational)
    → map (λ var. p var.0) vars ≡ values_in vars x → length (parts_among vars) ≤ length x
    → All IsNonneg x → All (λ var. Admits var.1 (p var.0)) vars
admitted [] p x e h n = All-nil (λ var. Admits var.1 (p var.0))
admitted ((v, Free) ∷ vars) p [] e h n = absurd (omega (arith, h))
admitted ((v, Free) ∷ vars) p (q ∷ []) e h n = absurd (omega (arith, h))
admitted ((v, Free) ∷ vars) p (q ∷ r ∷ x) e h n =
    All-cons (λ var. Admits var.1 (p var.0)) (v, Free) vars tt
    (admitted vars p x (ap (drop 1) e) (omega (arith, h))
    (All-tail IsNonneg r x (All-tail IsNonneg q (r ∷ x) n)))
admitted ((v, Nonneg) ∷ vars) p [] e h n = absurd (omega (arith, h))
admitted ((v, Nonneg) ∷ vars) p (q ∷ x) e h n =
    All-cons (λ var. Admits var.1 (p var.0)) (v, Nonneg) vars
    (subst IsNonneg (sym (ap (λ l. cell l 0) e)) (All-head IsNonneg q x n))
    (admitted vars p x (ap (drop 1) e) (omega (arith, h)) (All-tail IsNonneg q x n))
