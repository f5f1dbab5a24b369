-- What is carried back to a row by an edge: its dual, by those of its child rows in order.
use Rattle.std.specs.Prelude.{ℕ, ◌-◌, List, [], ◌∷◌, ◌++◌, take, drop, length, replicate, All}
use Rattle.std.specs.List.{zip}
use Rattle.ratio_core.specs.Folds.{FoldFits, sum_from}
use Rattle.ratio_core.specs.Rational.{Rational, SumFits, zero_ℚ}
use Rattle.rational_laws.specs.Dot.{minus, negated, plus}
use Rattle.item_core.specs.declared.edge.Edge.{Edge}
use Rattle.item_core.specs.declared.family.Family.{Family}
use Rattle.item_core.specs.declared.family.Family.TheVariants as family
use Rattle.item_core.specs.declared.item.Item.{Item}
use Rattle.item_core.specs.Edge.{family_of}
use Rattle.item_core.specs.Item.{functions_of}

-- the number of components
abbrev pub size : Item → ℕ
size item = length (functions_of item.body)

abbrev pub first_of : List (List Rational) → List Rational
first_of [] = []
first_of (y ∷ ys) = y

abbrev pub second_of : List (List Rational) → List Rational
second_of [] = []
second_of (y ∷ ys) = first_of ys

-- one list after another
abbrev pub joined : List (List Rational) → List Rational
joined [] = []
joined (y ∷ ys) = y ++ joined ys

abbrev pub tail_of : List Rational → List Rational
tail_of [] = []
tail_of (r ∷ y) = y

abbrev pub head_of : List Rational → Rational
head_of [] = zero_ℚ
head_of (r ∷ y) = r

-- of (p, q) with n numbers each, the numbers q_i - p_i
abbrev pub across : ℕ → List Rational → List Rational
across n y = minus (drop n y) (take n y)

unfoldable pub back_by : Family → Item → List (List Rational) → List Rational
back_by family.GreaterLess item ys = negated (first_of ys)
back_by family.OrthantFlip item ys = negated (first_of ys)
back_by family.Vectorize item ys = first_of ys
back_by family.ScalarFunctionize item ys = first_of ys
back_by family.VectorFunctionize item ys = first_of ys
back_by family.ScalarSlack item ys = first_of ys
back_by family.VectorSlack item ys = first_of ys
back_by family.SplitSet item ys = plus (first_of ys) (second_of ys)
back_by family.Scalarize item ys = joined ys
back_by family.DropReals item ys = replicate (size item) zero_ℚ
back_by family.NormInfinity item ys =
    sum_from zero_ℚ (first_of ys) ∷ across (size item - 1) (first_of ys)
back_by family.NormOne item ys =
    head_of (first_of ys) ∷ across (size item - 1) (tail_of (first_of ys))
back_by _ item ys = []

abbrev pub back_of : Edge → Item → List (List Rational) → List Rational
back_of edge item ys = back_by (family_of edge) item ys

-- ---- what must fit

abbrev pub SumsFit : List Rational → List Rational → Type 0
SumsFit p q = All (λ r. SumFits r.0 r.1) (zip p q)

-- the differences of `across`
abbrev pub AcrossFits : ℕ → List Rational → Type 0
AcrossFits n y = SumsFit (drop n y) (negated (take n y))

-- each sum that the family's duals are made of
unfoldable pub BackFitsBy : Family → Item → List (List Rational) → Type 0
BackFitsBy family.SplitSet item ys = SumsFit (first_of ys) (second_of ys)
BackFitsBy family.NormInfinity item ys =
    FoldFits zero_ℚ (first_of ys) × AcrossFits (size item - 1) (first_of ys)
BackFitsBy family.NormOne item ys = AcrossFits (size item - 1) (tail_of (first_of ys))
BackFitsBy _ item ys = Unit {0}

abbrev pub BackFits : Edge → Item → List (List Rational) → Type 0
BackFits edge item ys = BackFitsBy (family_of edge) item ys
