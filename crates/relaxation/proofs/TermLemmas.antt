-- The slacks as terms, one after another: each is of a variable that has none yet.
use Rattle.std.specs.Prelude.{◌≡◌, ℕ, zero, suc, ◌+◌, ◌<◌, false, List, [], ◌∷◌, ◌++◌, length, map, take}
use Rattle.std.specs.List.{AllByRecursion, IsDistinct}
use Rattle.std.specs.Str.{bytes_eq}
use Rattle.std.proofs.Common.{ap, arith, get_or, subst, sym, ◌∙◌}
use Rattle.std.proofs.lemmas.Map.Keys.{IsDistinct-cons, IsDistinct-head, IsDistinct-tail}
use Rattle.named_aff.specs.declared.terms.NamedTerm.{NamedTerm}
use Rattle.named_aff.specs.Distinct.{HasDistinctNames, one_distinct}
use Rattle.relaxation.specs.RelaxedEdits.{slack_term}

-- what is made of the items so far, and of one more
pub mapped_next : {X Y : Type 0} (f : X → Y) (xs : List X) (i : ℕ) (x : X) → i < length xs
    → x ≡ get_or xs i x → map f (take (i + 1) xs) ≡ map f (take i xs) ++ f x ∷ []
mapped_next f [] i x lt e = absurd (omega (arith, lt))
mapped_next f (y ∷ ys) zero x lt e = ap (λ z. f z ∷ []) (sym e)
mapped_next f (y ∷ ys) (suc i) x lt e =
    let more : suc i + 1 ≡ suc (i + 1) = omega arith in
    ap (λ k. map f (take k (y ∷ ys))) more
    ∙ ap (λ zs. f y ∷ zs) (mapped_next f ys i x (omega (arith, lt)) e)

abbrev with_next : List (List ℕ) → ℕ → List ℕ → List NamedTerm
with_next names i name = map slack_term (take i names) ++ slack_term name ∷ []

all_among : (P : List ℕ → Type 0) (names : List (List ℕ)) (i : ℕ) (name : List ℕ)
    → i < length names → name ≡ get_or names i name → AllByRecursion P names
    → AllByRecursion P (map (λ (t : NamedTerm). t.variable) (with_next names i name))
all_among P [] i name lt e h = absurd (omega (arith, lt))
all_among P (n ∷ names) zero name lt e h = (subst P (sym e) h.0, tt)
all_among P (n ∷ names) (suc i) name lt e h =
    (h.0, all_among P names i name (omega (arith, lt)) e h.1)

pub next_apart : (names : List (List ℕ)) (i : ℕ) (name : List ℕ) → i < length names
    → name ≡ get_or names i name → IsDistinct bytes_eq names
    → HasDistinctNames (with_next names i name)
next_apart [] i name lt e h = absurd (omega (arith, lt))
next_apart (n ∷ names) zero name lt e h = one_distinct (slack_term name)
next_apart (n ∷ names) (suc i) name lt e h =
    IsDistinct-cons bytes_eq n (map (λ (t : NamedTerm). t.variable) (with_next names i name))
    (all_among (λ m. bytes_eq n m ≡ false) names i name (omega (arith, lt)) e
    (IsDistinct-head bytes_eq n names h))
    (next_apart names i name (omega (arith, lt)) e (IsDistinct-tail bytes_eq n names h))
