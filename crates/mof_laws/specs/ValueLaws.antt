-- Numbers and sets that were written read back.
use Rattle.std.specs.Prelude.{◌≡◌, ℕ, ◌^◌, ◌<◌, ℤ, pos, negsuc, Bool, true, false, List, Some, None, Ok, codes, option_map, is_some, nat_lt, refl}
use Rattle.std.proofs.Common.{ap, sym, ◌∙◌}
use Rattle.std.proofs.lemmas.Bool.{and_parts, cond-false, cond-true, eqb-true, lt-ltb}
use Rattle.ratio_core.specs.Rational.{Fits, Rational, same_parts, whole_ℚ}
use Rattle.ratio_core.specs.TextLaws.{reads_back}
use Rattle.set_core.specs.Shapes.{dimension_of}
use Rattle.set_core.specs.declared.set.Set.{Set}
use Rattle.set_core.specs.declared.set.Set.TheVariants.{LessThan, GreaterThan, EqualTo, Interval, Reals, Zeros, Nonnegatives, Nonpositives, NormInfinityCone, NormOneCone}
use Rattle.ratio_core.specs.Text.{text_of}
use Rattle.serde_json.specs.Data.{Data, number, string}
use Rattle.serde_json.specs.Find.{as_integer, as_object, get, of_integer}
use Rattle.mof_values.specs.declared.fault.MofFault.TheVariants.{BadNumber, Shape}
use Rattle.mof_values.specs.Sets.{interval_of, set_of, sized, typed_set_of, vector_set_of}
use Rattle.mof_values.specs.Values.{a_number, an_integer, field, index_in, number_of}
use Rattle.mof_values.specs.Walked.{◌>>=◌, here, mapped, or_fault}
use Rattle.mof_write.specs.Values.{count_data, is_short, number_data, set_data}
use Rattle.mof_write.specs.Sayable.{SetFits}
use Rattle.mof_laws.specs.WalkLaws.{by_type, field_back}

-- ---- numbers

integer_is : (z : ℤ) → as_integer (of_integer z) ≡ Some z
integer_is (pos n) = refl
integer_is (negsuc n) = refl

whole_is : (q : Rational) → q.den ≡ 1 → whole_ℚ q.num ≡ q
unfolding whole_ℚ
whole_is q e = same_parts (whole_ℚ q.num) q (ap (λ d. (q.num, d)) (sym e))

pub number_back : (q : Rational) → Fits q → a_number (number_data q) ≡ Ok q
unfolding a_number number_of number_data
number_back q h = by (is_short q) refl
  where
    by : (b : Bool) → is_short q ≡ b → a_number (number_data q) ≡ Ok q
    by true e =
        ap a_number (cond-true (is_short q) (number (of_integer q.num)) (string (text_of q)) e)
        ∙ ap (λ o. or_fault (BadNumber here) (option_map whole_ℚ o)) (integer_is q.num)
        ∙ ap Ok (whole_is q (eqb-true _ _ (and_parts _ _ e).0))
    by false e =
        ap a_number (cond-false (is_short q) (number (of_integer q.num)) (string (text_of q)) e)
        ∙ ap (or_fault (BadNumber here)) (reads_back q h)

pub count_back : (n : ℕ) → n < 2 ^ 32 → an_integer (count_data n) ≡ Ok n
unfolding an_integer number_of index_in whole_ℚ
count_back n h =
    ap (or_fault (Shape here)) (cond-true (nat_lt n (2 ^ 32)) (Some n) None (lt-ltb _ _ h))

-- ---- sets

-- a set by its type
set_from : (d : Data) (type : List ℕ) (set : Set) → is_some (as_object d) ≡ true
    → get (codes "type") d ≡ Some (string type) → typed_set_of type d ≡ Ok set → set_of d ≡ Ok set
unfolding set_of
set_from d type set object typed is = by_type typed_set_of d type set object typed is

module _ (d : Data) (n : ℕ) (found : get (codes "dimension") d ≡ Some (count_data n))
    (h : n < 2 ^ 32) where
  sized_back : (set : ℕ → Set) → sized set d ≡ Ok (set n)
  sized_back set =
      ap (mapped set) (field_back an_integer (codes "dimension") d (count_data n) n found
      (count_back n h))

pub set_back : (set : Set) → SetFits set → dimension_of set < 2 ^ 32
    → set_of (set_data set) ≡ Ok set
unfolding set_data typed_set_of vector_set_of interval_of
set_back (LessThan u) f h =
    set_from _ (codes "LessThan") _ refl refl
    (ap (mapped LessThan) (field_back a_number (codes "upper") _ _ u refl (number_back u f)))
set_back (GreaterThan l) f h =
    set_from _ (codes "GreaterThan") _ refl refl
    (ap (mapped GreaterThan) (field_back a_number (codes "lower") _ _ l refl (number_back l f)))
set_back (EqualTo a) f h =
    set_from _ (codes "EqualTo") _ refl refl
    (ap (mapped EqualTo) (field_back a_number (codes "value") _ _ a refl (number_back a f)))
set_back (Interval l u) f h =
    set_from (set_data (Interval l u)) (codes "Interval") (Interval l u) refl refl
    (ap (λ w. w >>= (λ lower. field a_number "upper" (set_data (Interval l u))
    >>= (λ upper. Ok (Interval lower upper))))
    (field_back a_number (codes "lower") _ _ l refl (number_back l f.0))
    ∙ ap (λ w. w >>= (λ upper. Ok (Interval l upper)))
    (field_back a_number (codes "upper") _ _ u refl (number_back u f.1)))
set_back (Reals n) f h = set_from _ (codes "Reals") _ refl refl (sized_back _ n refl h Reals)
set_back (Zeros n) f h = set_from _ (codes "Zeros") _ refl refl (sized_back _ n refl h Zeros)
set_back (Nonnegatives n) f h =
    set_from _ (codes "Nonnegatives") _ refl refl (sized_back _ n refl h Nonnegatives)
set_back (Nonpositives n) f h =
    set_from _ (codes "Nonpositives") _ refl refl (sized_back _ n refl h Nonpositives)
set_back (NormInfinityCone n) f h =
    set_from _ (codes "NormInfinityCone") _ refl refl (sized_back _ n refl h NormInfinityCone)
set_back (NormOneCone n) f h =
    set_from _ (codes "NormOneCone") _ refl refl (sized_back _ n refl h NormOneCone)
