-- The duals of rows, one row after another, and the variables for which what is left fits.
use Rattle.std.specs.Prelude.{◌≡◌, ℕ, zero, suc, ◌+◌, ◌<◌, ◌≤◌, List, [], ◌∷◌, ◌++◌, All, Result, drop, length, map, take, refl}
use Rattle.std.proofs.Common.{ap, ap₂, append-nil, append_assoc, arith, get_or, inl, inr, length-drop, subst, sym, ◌∙◌}
use Rattle.std.proofs.lemmas.List.{map_push}
use Rattle.std.proofs.lemmas.List.Elements.{All-append, All-cons, All-head, All-nil, All-tail}
use Rattle.ratio_core.specs.declared.fault.NumberFault.{NumberFault}
use Rattle.ratio_core.specs.Answers.{ExactWhere}
use Rattle.ratio_core.specs.AnsweredLaws.{exact_as}
use Rattle.ratio_core.specs.Folds.{sum_from}
use Rattle.ratio_core.specs.Rational.{Rational, zero_ℚ}
use Rattle.aff_core.specs.Address.{Address}
use Rattle.aff_core.specs.Function.{coefficient}
use Rattle.dual_laws.specs.Held.{adjoint}
use Rattle.user_model.specs.declared.objective.Objective.{Objective}
use Rattle.user_model.specs.declared.group.GroupVar.{GroupVar}
use Rattle.user_model.specs.declared.row.Row.{Row}
use Rattle.user_model.specs.Model.{ModelValue}
use Rattle.certificates.specs.Points.{address_of, addresses_of, functions_of, objective_function, sense_of}
use Rattle.certificates.specs.Duals.{reduced_cost, rows_with}
use Rattle.cert_core.specs.Folds.{AddUp, CostFits, adjoint_parts}
use Rattle.cert_core.proofs.Made.{MadeSoFar}
use Rattle.cert_core.proofs.Parts.{adjoint_is}
use Rattle.cert_core.specs.Checked.{HasEachDual, HasRowDuals}
use Rattle.dual_parts.specs.Parts.{joined}
use Rattle.dual_parts.specs.PartLaws.{length-joined}
use Rattle.dual_model.specs.Carried.{carried_rows, carried_variable, part_size}
use Rattle.dual_model.specs.DualOf.{row_size}
use Rattle.dual_model.specs.RowPartLaws.{HasSetOf, total_parts}
use Rattle.dualization.specs.Fitting.{FirstJoin, FirstLeft, JoinFits, JoinsFit, LeftFits}

-- ---- rows

-- what was made of the first rows, and what is left of the others: together they are the whole
pub record JoinedSoFar (rows left : List Row) (x rest : List Rational)
    (made : List (List Rational)) : Type 0 where
  pub whole : made ++ carried_rows left rest ≡ carried_rows rows x
  pub fit : JoinsFit left rest → JoinsFit rows x
  pub first : (name : List ℕ) → FirstJoin left rest name → FirstJoin rows x name
  pub size : total_parts left ≤ length rest

pub joined_none : (rows left : List Row) (x : List Rational) (made : List (List Rational))
    → left ≡ rows → made ≡ [] → total_parts rows ≤ length x → JoinedSoFar rows left x x made
joined_none rows left x made e n h = record {
  whole = ap (λ ys. ys ++ carried_rows left x) n ∙ ap (λ rs. carried_rows rs x) e;
  fit = subst (λ rs. JoinsFit rs x) e;
  first = λ name. subst (λ rs. FirstJoin rs x name) e;
  size = subst (λ rs. total_parts rs ≤ length x) (sym e) h;
}

module _ (rows left others : List Row) (r : Row) (x rest own behind : List Rational)
    (made : List (List Rational)) (next : left ≡ r ∷ others)
    (own_is : own ≡ take (part_size r) rest) (behind_is : behind ≡ drop (part_size r) rest)
    (so : JoinedSoFar rows left x rest made) where
  pub joined_size : part_size r ≤ length rest
  joined_size =
      let all = subst (λ rs. total_parts rs ≤ length rest) next so.size in omega (arith, all)

  pub joined_unfit : ¬ (JoinFits r.set own) → FirstJoin rows x r.name
  joined_unfit unfit =
      so.first r.name (subst (λ rs. FirstJoin rs rest r.name) (sym next)
      (inl (subst (λ ys. ¬ (JoinFits r.set ys)) own_is unfit, refl)))

  pub joined_more : (new : List (List Rational)) (y : List Rational) → JoinFits r.set own
      → y ≡ joined r.set own → new ≡ made ++ y ∷ [] → JoinedSoFar rows others x behind new
  joined_more new y fits y_is new_is =
      let here = subst (JoinFits r.set) own_is fits in
      let all = subst (λ rs. total_parts rs ≤ length rest) next so.size in
      subst (λ ys. JoinedSoFar rows others x ys new) (sym behind_is) (record {
        whole =
            ap (λ ys. ys ++ carried_rows others (drop (part_size r) rest)) new_is
            ∙ append_assoc made (y ∷ []) (carried_rows others (drop (part_size r) rest))
            ∙ ap (λ z. made ++ z ∷ carried_rows others (drop (part_size r) rest))
            (y_is ∙ ap (joined r.set) own_is)
            ∙ ap (λ rs. made ++ carried_rows rs rest) (sym next) ∙ so.whole;
        fit = λ h. so.fit (subst (λ rs. JoinsFit rs rest) (sym next) (here, h));
        first = λ name h. so.first name
            (subst (λ rs. FirstJoin rs rest name) (sym next) (inr (here, h)));
        size = omega (arith, all, length-drop (part_size r) rest);
      })

pub joined_all : (rows left : List Row) (x rest : List Rational) (made : List (List Rational))
    → left ≡ [] → JoinedSoFar rows left x rest made → JoinsFit rows x × (made ≡ carried_rows rows x)
joined_all rows left x rest made e so = (
  so.fit (subst (λ rs. JoinsFit rs rest) (sym e) tt),
  sym (append-nil made) ∙ ap (λ rs. made ++ carried_rows rs rest) (sym e) ∙ so.whole,
)

-- ---- the duals have the rows' sizes

length-take_of : (n : ℕ) (x : List Rational) → n ≤ length x → length (take n x) ≡ n
length-take_of zero x h = refl
length-take_of (suc n) [] h = absurd (omega (arith, h))
length-take_of (suc n) (q ∷ x) h = ap suc (length-take_of n x (omega (arith, h)))

length-carried : (rows : List Row) (x : List Rational) → length (carried_rows rows x) ≡ length rows
length-carried [] x = refl
length-carried (r ∷ rows) x = ap suc (length-carried rows (drop (part_size r) x))

each_dual : (rows : List Row) (x : List Rational) → All HasSetOf rows → total_parts rows ≤ length x
    → All HasEachDual (rows_with (carried_rows rows x) rows)
each_dual [] x sets h = All-nil HasEachDual
each_dual (r ∷ rows) x sets h =
    All-cons HasEachDual
    (record {
      duals = joined r.set (take (part_size r) x);
      functions = functions_of r.func;
      set = r.set;
    })
    (rows_with (carried_rows rows (drop (part_size r) x)) rows)
    (length-joined (row_size r) r.set (take (part_size r) x) (All-head HasSetOf r rows sets)
    (length-take_of (part_size r) x (omega (arith, h))))
    (each_dual rows (drop (part_size r) x) (All-tail HasSetOf r rows sets)
    (omega (arith, h, length-drop (part_size r) x)))

pub carried_sizes : (rows : List Row) (x : List Rational) → All HasSetOf rows
    → total_parts rows ≤ length x → HasRowDuals rows (carried_rows rows x)
carried_sizes rows x sets h =
    record { each = length-carried rows x; components = each_dual rows x sets h }

-- ---- variables

module _ (model : ModelValue) (duals : List (List Rational)) where
  abbrev pub AllLeft : List GroupVar → Type 0
  AllLeft vars = All (LeftFits model duals) (addresses_of vars)

  abbrev pub First : List GroupVar → List ℕ → Type 0
  First vars name = FirstLeft model duals vars name

  left_both : (vs ws : List GroupVar) → AllLeft vs → AllLeft ws → AllLeft (vs ++ ws)
  left_both [] ws h k = k
  left_both (v ∷ vs) ws h k =
      All-cons (LeftFits model duals) (address_of v) (addresses_of (vs ++ ws))
      (All-head (LeftFits model duals) (address_of v) (addresses_of vs) h)
      (left_both vs ws (All-tail (LeftFits model duals) (address_of v) (addresses_of vs) h) k)

  first_of_first : (vs ws : List GroupVar) (name : List ℕ) → First vs name → First (vs ++ ws) name
  first_of_first [] ws name h = absurd h
  first_of_first (v ∷ vs) ws name (inl h) = inl h
  first_of_first (v ∷ vs) ws name (inr h) = inr (h.0, first_of_first vs ws name h.1)

  first_of_second : (vs ws : List GroupVar) (name : List ℕ) → AllLeft vs → First ws name
      → First (vs ++ ws) name
  first_of_second [] ws name h k = k
  first_of_second (v ∷ vs) ws name h k =
      inr (
        All-head (LeftFits model duals) (address_of v) (addresses_of vs) h,
        first_of_second vs ws name
            (All-tail (LeftFits model duals) (address_of v) (addresses_of vs) h) k,
      )

  pub record TestedSoFar (all left : List GroupVar) : Type 0 where
    pub fit : AllLeft left → AllLeft all
    pub first : (name : List ℕ) → First left name → First all name

  pub tested_none : (all : List GroupVar) → TestedSoFar all all
  tested_none all = record { fit = λ h. h; first = λ name h. h }

  pub tested_more : (all left vs others : List GroupVar) → left ≡ vs ++ others → AllLeft vs
      → TestedSoFar all left → TestedSoFar all others
  tested_more all left vs others next h so = record {
    fit = λ k. so.fit (subst AllLeft (sym next) (left_both vs others h k));
    first = λ name k. so.first name (subst (λ xs. First xs name) (sym next)
        (first_of_second vs others name h k));
  }

  pub tested_unfit : (all left vs others : List GroupVar) → left ≡ vs ++ others
      → TestedSoFar all left → (name : List ℕ) → First vs name → First all name
  tested_unfit all left vs others next so name h =
      so.first name (subst (λ xs. First xs name) (sym next) (first_of_first vs others name h))

  pub tested_all : (all left : List GroupVar) → left ≡ [] → TestedSoFar all left → AllLeft all
  tested_all all left e so = so.fit (subst AllLeft (sym e) (All-nil (LeftFits model duals)))

  pub one_left : (v : GroupVar) → LeftFits model duals (address_of v) → AllLeft (v ∷ [])
  one_left v h = All-cons (LeftFits model duals) (address_of v) [] h (All-nil (LeftFits model duals))

  pub one_unfit : (v : GroupVar) → ¬ (LeftFits model duals (address_of v)) → First (v ∷ []) v.name
  one_unfit v n = inl (n, refl)

-- ---- numbers made one after another

pub take_one : {X : Type 0} (xs : List X) (i : ℕ) (x : X) → x ≡ get_or xs i x → i < length xs
    → take (i + 1) xs ≡ take i xs ++ x ∷ []
take_one [] i x e lt = absurd (omega (arith, lt))
take_one (y ∷ xs) zero x e lt = ap (λ z. z ∷ []) (sym e)
take_one (y ∷ xs) (suc i) x e lt =
    let more : suc i + 1 ≡ suc (i + 1) = omega arith in
    ap (λ n. take n (y ∷ xs)) more ∙ ap (λ zs. y ∷ zs) (take_one xs i x e (omega (arith, lt)))

pub made_more : {X : Type 0} (F : X → Type 0) (f : X → Rational) (xs : List X) (i : ℕ) (x : X)
    (q : Rational) (made new : List Rational) → x ≡ get_or xs i x → i < length xs → F x → q ≡ f x
    → new ≡ made ++ q ∷ [] → MadeSoFar F f xs i made → MadeSoFar F f xs (i + 1) new
made_more F f xs i x q made new at lt fits q_is new_is h =
    let more = take_one xs i x at lt in
    record {
      fits = subst (All F) (sym more) (All-append F (take i xs) (x ∷ []) h.fits
          (All-cons F x [] fits (All-nil F)));
      is = new_is ∙ ap₂ (λ m y. m ++ y ∷ []) h.is q_is ∙ sym (map_push f (take i xs) x)
          ∙ ap (map f) (sym more);
    }

-- ---- what is left, by the adjoints

module _ {T : Type 0} (items : T → List Rational) (r : Result T NumberFault) (model : ModelValue)
    (duals : List (List Rational)) (us : List Address) where
  abbrev a : Address → Rational
  a v = adjoint (rows_with duals model.rows) v

  abbrev Costs : Objective → List Address → Type 0
  Costs o at =
      ExactWhere r (All (λ v. CostFits (sense_of o) (coefficient (objective_function o) v) (a v)) at)
      (λ x. items x ≡ map (λ v. reduced_cost (sense_of o)
      (coefficient (objective_function o) v) (a v)) at)

  abbrev Sum : List Row → Address → Rational
  Sum rows v = sum_from zero_ℚ (adjoint_parts (rows_with duals rows) v)

  each_sum : (vs : List Address) → map (Sum model.rows) vs ≡ map a vs
  each_sum [] = refl
  each_sum (v ∷ vs) =
      ap₂ (λ q qs. q ∷ qs) (adjoint_is (rows_with duals model.rows) v) (each_sum vs)

  pub left_told : (o : Objective) (rows : List Row) (at : List Address) (sums : List Rational)
      → o ≡ model.objective → rows ≡ model.rows → at ≡ us
      → All (λ v. AddUp zero_ℚ (adjoint_parts (rows_with duals rows) v)) us
      → sums ≡ map (Sum rows) us
      → (map a at ≡ sums → Costs o at)
      → ExactWhere r (All (LeftFits model duals) us) (λ x. items x ≡ map (carried_variable model duals) us)
  left_told o rows at sums o_is rows_is at_is fits sums_is told =
      let up = subst (λ rs. All (λ v. AddUp zero_ℚ (adjoint_parts (rows_with duals rs) v)) us)
      rows_is fits in
      let same : map a at ≡ sums =
      ap (map a) at_is ∙ sym (each_sum us) ∙ ap (λ rs. map (Sum rs) us) (sym rows_is) ∙ sym sums_is
      in
      let costs = subst (λ vs. Costs model.objective vs) at_is
      (subst (λ x. Costs x at) o_is (told same)) in
      exact_as r
      (All (λ v. CostFits (sense_of model.objective)
      (coefficient (objective_function model.objective) v) (a v)) us)
      (All (LeftFits model duals) us)
      (λ x. items x ≡ map (λ v. reduced_cost (sense_of model.objective)
      (coefficient (objective_function model.objective) v) (a v)) us)
      (λ x. items x ≡ map (carried_variable model duals) us)
      (λ h k d lt. (up k d lt, h k d lt)) (λ h k d lt. (h k d lt).1) (λ x e. e) costs
