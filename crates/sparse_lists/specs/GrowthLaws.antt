-- Laws of lists that grow by several places.
use Rattle.std.specs.Prelude.{◌≡◌, ℕ, ◌+◌, ◌<◌, ◌≤◌, List, [], ◌∷◌, ◌++◌, length, refl}
use Rattle.std.proofs.Common.{sym, ◌∙◌, ap, arith, subst}
use Rattle.std.proofs.lemmas.List.{append-nil, append_assoc, length-append}
use Rattle.ratio_core.specs.Rational.{Rational}
use Rattle.sparse_lists.specs.Across.{ArePutAcross, GrowBy, IsStartOf, list_at}

module _ (a : List (List Rational)) where
  pub grow_none : (place : ℕ) → ((b : ℕ) → length (list_at a b) ≤ place)
      → GrowBy place place (λ b. []) a a
  grow_none place low = record {
    long = refl;
    low = low;
    width = λ b c. omega arith;
    each = λ b row c e s. subst (IsStartOf (list_at a b)) (sym (append-nil row)) s;
  }

  pub grow_one : (place next : ℕ) (number : ℕ → Rational) (b : List (List Rational))
      → ArePutAcross place number a b → next ≡ place + 1
      → GrowBy place next (λ k. number k ∷ []) a b
  grow_one place next number b h e = record {
    long = h.long;
    low = λ k. omega (arith, h.low k, e);
    width = λ k c. sym e;
    each = λ k row c d s. h.each k row c d s;
  }

  pub grow_then : (place mid next : ℕ) (more others : ℕ → List Rational)
      (b c : List (List Rational)) → GrowBy place mid more a b → GrowBy mid next others b c
      → GrowBy place next (λ k. more k ++ others k) a c
  grow_then place mid next more others b c h g = record {
    long = g.long ∙ h.long;
    low = g.low;
    width = λ k d. ap (λ n. place + n) (length-append (more k) (others k))
        ∙ sum_lem place (length (more k)) (length (others k)) mid next (h.width k d)
        (g.width k (omega (arith, d, h.long)));
    each = λ k row d e s. subst (IsStartOf (list_at c k)) (append_assoc row (more k) (others k))
        (g.each k (row ++ more k) (omega (arith, d, h.long))
        (length-append row (more k) ∙ ap (λ n. n + length (more k)) e ∙ h.width k d)
        (h.each k row d e s));
  }
    where
      sum_lem : (p m o mid next : ℕ) → p + m ≡ mid → mid + o ≡ next → p + (m + o) ≡ next
      sum_lem p m o mid next e f = omega (arith, e, f)

  pub grow_same : (place next : ℕ) (more others : ℕ → List Rational) (b : List (List Rational))
      → ((k : ℕ) → k < length a → more k ≡ others k) → GrowBy place next more a b
      → GrowBy place next others a b
  grow_same place next more others b same h = record {
    long = h.long;
    low = h.low;
    width = λ k d. ap (λ l. place + length l) (sym (same k d)) ∙ h.width k d;
    each = λ k row d e s. subst (λ l. IsStartOf (list_at b k) (row ++ l)) (same k d)
        (h.each k row d e s);
  }

pub put_same : (place : ℕ) (f g : ℕ → Rational) (a b : List (List Rational))
    → ((k : ℕ) → f k ≡ g k) → ArePutAcross place f a b → ArePutAcross place g a b
put_same place f g a b same h = record {
  long = h.long;
  each = λ k row c d s. subst (λ q. IsStartOf (list_at b k) (row ++ q ∷ [])) (same k)
      (h.each k row c d s);
  low = h.low;
}
