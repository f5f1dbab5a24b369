-- A certificate of the model whose mapped rows are in cones, with the duals of these rows taken back.
--
-- A mapped row M f in the cone stands for the row f, which is in the cone seen through M.
use Rattle.std.specs.Prelude.{◌≡◌, false, List, [], ◌∷◌, Option, Some, None, length}
use Rattle.ratio_core.specs.Rational.{Rational}
use Rattle.set_core.specs.Shapes.{is_scalar}
use Rattle.set_map.specs.Combinations.{mapped}
use Rattle.set_map.specs.MappedSet.{MappedSet}
use Rattle.set_map.specs.Matrices.{AreInverse, ArePair, applied, transposed}
use Rattle.user_model.specs.declared.row.Row.{Row}
use Rattle.certificates.specs.declared.certificate.Certificate.{Certificate}
use Rattle.certificates.specs.declared.certificate.Certificate.TheVariants.{Optimal, Infeasible, Unbounded}
use Rattle.certificates.specs.Points.{functions_of}
use Rattle.mapped_certificates.specs.SeenRow.{SeenRow}

-- ---- rows that stand for others

-- M f in the cone under the row's name, where M has an inverse
pub record IsMappedRow (s : MappedSet) (own row : Row) : Type 0 where
  pub name : own.name ≡ row.name
  pub functions : functions_of own.func ≡ mapped s.matrix (functions_of row.func)
  pub set : own.set ≡ s.cone
  pub cone : is_scalar s.cone ≡ false
  pub pair : ArePair s.matrix s.inverse
  pub inverse : AreInverse s.matrix s.inverse
  pub size : length (functions_of row.func) ≡ length s.matrix

-- the row itself, where it isn't mapped
abbrev pub StandsForSeen : Option MappedSet → Row → Row → Type 0
StandsForSeen None own row = own ≡ row
StandsForSeen (Some s) own row = IsMappedRow s own row

-- the rows of a model, each of which stands for one that is seen so
abbrev pub StandForSeen : List Row → List SeenRow → Type 0
StandForSeen [] [] = Unit {0}
StandForSeen [] (r ∷ rows) = ⊥
StandForSeen (own ∷ owns) [] = ⊥
StandForSeen (own ∷ owns) (r ∷ rows) = StandsForSeen r.seen own r.row × StandForSeen owns rows

-- ---- duals taken back

abbrev pub taken_by : Option MappedSet → List Rational → List Rational
taken_by None y = y
taken_by (Some s) y = applied (transposed s.matrix) y

abbrev pub all_taken : List SeenRow → List (List Rational) → List (List Rational)
all_taken rows [] = []
all_taken [] (y ∷ ys) = y ∷ ys
all_taken (r ∷ rows) (y ∷ ys) = taken_by r.seen y ∷ all_taken rows ys

abbrev pub taken_back : List SeenRow → Certificate → Certificate
taken_back rows (Optimal value x duals vars) = Optimal value x (all_taken rows duals) vars
taken_back rows (Infeasible gap duals vars) = Infeasible gap (all_taken rows duals) vars
taken_back rows (Unbounded x d) = Unbounded x d
