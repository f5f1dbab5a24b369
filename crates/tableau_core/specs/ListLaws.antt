-- Lists of the numbers f 0, f 1, .., made one after another.
use Rattle.std.specs.Prelude.{◌≡◌, ℕ, ◌+◌, ◌<◌, List, [], ◌∷◌, ◌++◌, length}
use Rattle.std.proofs.Common.{sym, ◌∙◌, ap, arith, subst}
use Rattle.std.proofs.lemmas.List.{get_or_append_left, get_or_push, length_push}
use Rattle.ratio_core.specs.Rational.{Rational, zero_ℚ}
use Rattle.simplex_laws.specs.BoundedSumLaws.{same_or_other}
use Rattle.tableau_core.specs.Row.{cell}
use Rattle.tableau_core.specs.Start.{IsListOf}

pub lists_same : (m n : ℕ) (f g : ℕ → Rational) (row : List Rational) → m ≡ n
    → ((k : ℕ) → k < m → f k ≡ g k) → IsListOf m f row → IsListOf n g row
lists_same m n f g row e h l = record {
  long = l.long ∙ e;
  cells = λ k b. let here : k < m = subst (λ x. k < x) (sym e) b in l.cells k here ∙ h k here;
}

pub listed_none : (f : ℕ → Rational) (row : List Rational) → row ≡ [] → IsListOf 0 f row
listed_none f row e = record { long = ap length e; cells = λ k b. absurd (omega (arith, b)) }

pub listed_more : (n : ℕ) (f : ℕ → Rational) (row next : List Rational) (x : Rational)
    → IsListOf n f row → x ≡ f n → next ≡ row ++ x ∷ [] → IsListOf (n + 1) f next
listed_more n f row next x l is e = record {
  long = ap length e ∙ length_push row x ∙ ap (λ k. k + 1) l.long;
  cells = λ k b. ap (λ xs. cell xs k) e
      ∙ same_or_other (cell (row ++ x ∷ []) k ≡ f k) k n
      (λ q. get_or_push row x zero_ℚ k (l.long ∙ sym q) ∙ is ∙ ap f (sym q))
      (λ m. get_or_append_left row (x ∷ []) zero_ℚ k
      (subst (λ j. k < j) (sym l.long) (omega (arith, b, m))) ∙ l.cells k (omega (arith, b, m)));
}
