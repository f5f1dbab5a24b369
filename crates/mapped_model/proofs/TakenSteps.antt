-- Duals of the uses taken back, one after the other.
use Rattle.std.specs.Prelude.{◌≡◌, ℕ, ◌+◌, ◌<◌, ◌≤◌, zero, suc, List, [], ◌∷◌, ◌++◌, Option, Some, None, Ok, Err, All, drop, length, map, refl}
use Rattle.std.proofs.Common.{ap, ap₂, append-nil, append_assoc, arith, get_or, inl, inr, subst, sym, ◌∙◌}
use Rattle.std.proofs.Math.ListN.{drop_of_length-le}
use Rattle.std.proofs.lemmas.List.{drop_more, get_or_default, length-map}
use Rattle.map_file.specs.declared.map_text.MapText.{MapText}
use Rattle.map_file.specs.declared.use_text.UseText.{UseText}
use Rattle.map_file.specs.Shaped.{NamesMap}
use Rattle.mapped_model.proofs.Pairs.{map_here, matrix_at}
use Rattle.mapped_model.specs.Taking.{TellsDual, TellsEach}
use Rattle.mapped_model.specs.Tells.{TakesEach, matrix_in, taken_each}
use Rattle.mapped_model.specs.Uses.{matrix_of}
use Rattle.mapped_model.specs.declared.fault.MappingFault.{MappingFault}
use Rattle.mapped_model.specs.declared.fault.MappingFault.TheVariants as fault
use Rattle.ratio_core.specs.Rational.{Rational}
use Rattle.set_map.specs.Fitting.{AppliedFits}
use Rattle.set_map.specs.Matrices.{Matrix, applied, transposed}

module _ (maps : List MapText) (uses : List UseText) (ys : List (List Rational)) where
  -- those before a place are taken back, and what is left says what all say
  pub record AreTaken (i : ℕ) (before duals : List (List Rational)) : Type 0 where
    pub same : duals ++ taken_each maps (drop i uses) (drop i ys)
        ≡ before ++ taken_each maps uses ys
    pub takes : (exceeds : Option (List ℕ)) → TakesEach maps (drop i uses) (drop i ys) exceeds
        → TakesEach maps uses ys exceeds

  pub none_taken_back : (duals : List (List Rational)) → AreTaken 0 duals duals
  none_taken_back duals = record { same = refl; takes = λ exceeds h. h }

  module _ (i : ℕ) (before duals : List (List Rational)) (h : AreTaken i before duals)
      (u : UseText) (y : List Rational) (here : u ≡ get_or uses i u) (dual : y ≡ get_or ys i y)
      (within : i < length uses) (behind : i < length ys) where
    uses_left : drop i uses ≡ u ∷ drop (i + 1) uses
    uses_left = drop_more uses i u within ∙ ap (λ v. v ∷ drop (i + 1) uses) (sym here)

    ys_left : drop i ys ≡ y ∷ drop (i + 1) ys
    ys_left = drop_more ys i y behind ∙ ap (λ v. v ∷ drop (i + 1) ys) (sym dual)

    back : (exceeds : Option (List ℕ))
        → TakesEach maps (u ∷ drop (i + 1) uses) (y ∷ drop (i + 1) ys) exceeds
        → TakesEach maps uses ys exceeds
    back exceeds k =
        h.takes exceeds (subst (λ us. TakesEach maps us (drop i ys) exceeds) (sym uses_left)
        (subst (λ zs. TakesEach maps (u ∷ drop (i + 1) uses) zs exceeds) (sym ys_left) k))

    pub unfit_here : ¬ (AppliedFits (transposed (matrix_in maps u)) y)
        → TakesEach maps uses ys (Some u.row)
    unfit_here unfit = back (Some u.row) (inr (unfit, refl))

    pub one_taken_back : (w : List Rational) (next : List (List Rational))
        → AppliedFits (transposed (matrix_in maps u)) y
        → w ≡ applied (transposed (matrix_in maps u)) y → next ≡ duals ++ w ∷ []
        → AreTaken (i + 1) before next
    one_taken_back w next fits is pushed = record {
      same =
          ap (λ ds. ds ++ taken_each maps (drop (i + 1) uses) (drop (i + 1) ys)) pushed
          ∙ append_assoc duals (w ∷ []) (taken_each maps (drop (i + 1) uses) (drop (i + 1) ys))
          ∙ ap (λ v. duals ++ v ∷ taken_each maps (drop (i + 1) uses) (drop (i + 1) ys)) is
          ∙ ap₂ (λ us zs. duals ++ taken_each maps us zs) (sym uses_left) (sym ys_left)
          ∙ h.same;
      takes = λ exceeds k. back exceeds (inl (fits, k));
    }

  pub all_taken_back : (i : ℕ) (before duals : List (List Rational)) → AreTaken i before duals
      → length uses ≤ i
      → TakesEach maps uses ys None × (duals ≡ before ++ taken_each maps uses ys)
  all_taken_back i before duals h le =
      let none = drop_of_length-le uses le in (
        h.takes None (subst (λ us. TakesEach maps us (drop i ys) None) (sym none) refl),
        sym (append-nil duals)
            ∙ ap (λ us. duals ++ taken_each maps us (drop i ys)) (sym none) ∙ h.same,
      )

-- as many duals as uses
pub as_many : (uses : List UseText) (maps : List MapText) (ys : List (List Rational))
    → map (λ y. length y) ys ≡ map (λ u. length (matrix_in maps u)) uses
    → length ys ≡ length uses
as_many uses maps ys e =
    sym (length-map ys (λ y. length y)) ∙ ap length e
    ∙ length-map uses (λ u. length (matrix_in maps u))

none_equal : {n : ℕ} {ns : List ℕ} → [] ≡ n ∷ ns → ⊥
none_equal e = cc

-- each of its size
pub size_at : (maps : List MapText) (uses : List UseText) (ys : List (List Rational)) (i : ℕ)
    (u : UseText) (y : List Rational)
    → map (λ y. length y) ys ≡ map (λ u. length (matrix_in maps u)) uses → i < length uses
    → length (get_or ys i y) ≡ length (matrix_in maps (get_or uses i u))
size_at maps [] ys i u y e lt = absurd (omega (arith, lt))
size_at maps (v ∷ uses) [] i u y e lt = absurd (none_equal e)
size_at maps (v ∷ uses) (z ∷ ys) zero u y e lt = cc
size_at maps (v ∷ uses) (z ∷ ys) (suc i) u y e lt =
    let rest : map (λ y. length y) ys ≡ map (λ u. length (matrix_in maps u)) uses = cc in
    size_at maps uses ys i u y rest (omega (arith, lt))

-- ---- a use

module _ (maps : List MapText) (uses : List UseText) (ys : List (List Rational))
    (matrices : List Matrix) (same : matrices ≡ map matrix_of maps)
    (named : All (NamesMap maps) uses)
    (sizes : map (λ y. length y) ys ≡ map (λ u. length (matrix_in maps u)) uses) (i : ℕ)
    (u : UseText) (here : u ≡ get_or uses i u) (lt : i < length uses) (matrix : Matrix)
    (is : matrix ≡ get_or matrices u.map []) (y : List Rational) (dual : y ≡ get_or ys i []) where
  matrix_is : matrix ≡ matrix_in maps u
  matrix_is =
      is ∙ ap (λ ms. get_or ms u.map []) same
      ∙ matrix_at maps u.map [] (map_here maps uses i u named here lt)

  behind : i < length ys
  behind = subst (λ n. i < n) (sym (as_many uses maps ys sizes)) lt

  dual_is : y ≡ get_or ys i y
  dual_is = dual ∙ get_or_default ys i [] y behind

  pub size_is : length y ≡ length matrix
  size_is =
      ap length dual ∙ size_at maps uses ys i u [] sizes lt
      ∙ ap (λ v. length (matrix_in maps v)) (sym here) ∙ ap length (sym matrix_is)

  module _ (before duals : List (List Rational)) (h : AreTaken maps uses ys i before duals) where
    pub each_failed : (reason : MappingFault) → TellsDual matrix u.row y (Err reason)
        → TellsEach maps uses ys before (Err reason)
    each_failed (fault.BadMaps line) tells = absurd tells
    each_failed (fault.BadMap map) tells = absurd tells
    each_failed (fault.Refused refusal) tells = absurd tells
    each_failed (fault.Overflow name) tells =
        subst (λ n. TakesEach maps uses ys (Some n)) (sym tells.1)
        (unfit_here maps uses ys i before duals h u y here dual_is lt behind
        (λ fits. tells.0 (subst (λ m. AppliedFits (transposed m) y) (sym matrix_is) fits)))
    each_failed fault.Memory tells = tt

    pub each_taken : (w : List Rational) (next : List (List Rational))
        → TellsDual matrix u.row y (Ok w) → next ≡ duals ++ w ∷ []
        → AreTaken maps uses ys (i + 1) before next
    each_taken w next tells pushed =
        one_taken_back maps uses ys i before duals h u y here dual_is lt behind w next
        (subst (λ m. AppliedFits (transposed m) y) matrix_is tells.0)
        (tells.1 ∙ ap (λ m. applied (transposed m) y) matrix_is) pushed
