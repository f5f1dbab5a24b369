-- Lists of numbers that are made one after another.
use Rattle.std.specs.Prelude.{◌≡◌, ℕ, zero, suc, ◌+◌, ◌-◌, ◌<◌, ◌≤◌, List, [], ◌∷◌, ◌++◌, ◌⊎◌, length, replicate, take, refl}
use Rattle.std.proofs.Common.{inl, inr, sym, ◌∙◌, ap, ap₂, arith, subst}
use Rattle.std.proofs.lemmas.Bool.{cases_lt}
use Rattle.std.proofs.lemmas.List.{get_or_append_left, length-append, length-replicate}
use Rattle.std.proofs.Math.Seq.{get_or-append_seam}
use Rattle.ratio_core.specs.Rational.{Fits, Rational, zero_ℚ}
use Rattle.rational_laws.specs.Fitting.{Fits_zero}
use Rattle.tableau_core.specs.Row.{AllFit, cell}
use Rattle.tableau_core.specs.Start.{IsListOf}

pub none-fit : (row : List Rational) → row ≡ [] → AllFit row
none-fit row e = subst AllFit (sym e) (λ _. Fits_zero)

-- ---- one number more

pub appended-cell : (n : ℕ) (f : ℕ → Rational) (row next : List Rational) (x : Rational)
    → IsListOf n f row → next ≡ row ++ x ∷ [] → (j : ℕ) → j < n → cell next j ≡ f j
appended-cell n f row next x h e j b =
    ap (λ l. cell l j) e ∙ get_or_append_left row (x ∷ []) zero_ℚ j
    (subst (λ m. j < m) (sym h.long) b) ∙ h.cells j b

pub appended-last : (n : ℕ) (row next : List Rational) (x : Rational) → length row ≡ n
    → next ≡ row ++ x ∷ [] → cell next n ≡ x
appended-last n row next x long e = ap₂ cell e (sym long) ∙ get_or-append_seam row x [] zero_ℚ

fit-append : (row : List Rational) (x : Rational) → AllFit row → Fits x → AllFit (row ++ x ∷ [])
fit-append [] x h f zero = f
fit-append [] x h f (suc k) = Fits_zero
fit-append (y ∷ row) x h f zero = h zero
fit-append (y ∷ row) x h f (suc k) = fit-append row x (λ i. h (suc i)) f k

pub fit-more : (row next : List Rational) (x : Rational) → AllFit row → Fits x
    → next ≡ row ++ x ∷ [] → AllFit next
fit-more row next x h f e = subst AllFit (sym e) (fit-append row x h f)

-- a number is below c, or not
pub below_or_past : (P : Type 0) (j c : ℕ) → (j < c → P) → (c ≤ j → P) → P
below_or_past P j c below past = by_end (cases_lt j c)
  where
    by_end : (j < c) ⊎ (c ≤ j) → P
    by_end (inl b) = below b
    by_end (inr h) = past h

-- ---- zeros at the end

pub zeros-cell : (n k : ℕ) → cell (replicate n zero_ℚ) k ≡ zero_ℚ
zeros-cell zero k = refl
zeros-cell (suc n) zero = refl
zeros-cell (suc n) (suc k) = zeros-cell n k

padded-cell : (row : List Rational) (n k : ℕ) → cell (row ++ replicate n zero_ℚ) k ≡ cell row k
padded-cell [] n k = zeros-cell n k
padded-cell (x ∷ row) n zero = refl
padded-cell (x ∷ row) n (suc k) = padded-cell row n k

past-cell : (row : List Rational) (k : ℕ) → length row ≤ k → cell row k ≡ zero_ℚ
past-cell [] k h = refl
past-cell (x ∷ row) zero h = absurd (omega (arith, h))
past-cell (x ∷ row) (suc k) h = past-cell row k (omega (arith, h))

take-whole : (row : List Rational) (n : ℕ) → length row ≤ n → take n row ≡ row
take-whole [] zero h = refl
take-whole [] (suc n) h = refl
take-whole (x ∷ row) zero h = absurd (omega (arith, h))
take-whole (x ∷ row) (suc n) h = ap (λ l. x ∷ l) (take-whole row n (omega (arith, h)))

module _ (c m n : ℕ) (row next : List Rational) (z : Rational) (long : length row ≡ c)
    (count : n ≡ length row) (is_zero : z ≡ zero_ℚ)
    (e : next ≡ take (c + m) row ++ replicate (c + m - n) z) where
  padded_is : next ≡ row ++ replicate m zero_ℚ
  padded_is =
      e ∙ ap₂ ◌++◌ (take-whole row (c + m) (omega (arith, long)))
      (ap₂ replicate (count_lem n c m (count ∙ long)) is_zero)
    where
      count_lem : (n c m : ℕ) → n ≡ c → c + m - n ≡ m
      count_lem n c m e = omega (arith, e)

  pub fit-padded : AllFit row → AllFit next
  fit-padded h k = subst Fits (sym (ap (λ l. cell l k) padded_is ∙ padded-cell row m k)) (h k)

  pub listed-padded : (f : ℕ → Rational) → IsListOf c f row
      → ((j : ℕ) → c ≤ j → j < c + m → f j ≡ zero_ℚ) → IsListOf (c + m) f next
  listed-padded f h z = record {
    long = ap length padded_is ∙ length-append row (replicate m zero_ℚ)
        ∙ ap₂ ◌+◌ h.long (length-replicate m zero_ℚ);
    cells = λ j b. ap (λ l. cell l j) padded_is ∙ padded-cell row m j ∙ cases_cell j b;
  }
    where
      cases_cell : (j : ℕ) → j < c + m → cell row j ≡ f j
      cases_cell j b =
          below_or_past (cell row j ≡ f j) j c (λ k. h.cells j k)
          (λ k. past-cell row j (omega (arith, h.long, k)) ∙ sym (z j k b))
