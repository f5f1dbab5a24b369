-- Lists of entries by their keys: in strictly rising order, or distinct.
use Rattle.std.specs.Prelude.{List, IsTrue, map}
use Rattle.std.specs.List.{IsDistinct}
use Rattle.std.specs.Ordering.{eq_by_cmp}
use Rattle.std.specs.declared.cmp.Ordering.{Ordering}
use Rattle.std.specs.FinMap.{is_sorted}
use Rattle.aff_core.specs.Address.{Address, address_cmp}

-- each key is above all earlier ones
pub record RiseBy {K X : Type 0} (R : K → K → Ordering) (es : List (K × X)) : Type 0 where
  pub rising : IsTrue (is_sorted R es)

abbrev pub RiseStrictly : {X : Type 0} → List (Address × X) → Type 0
RiseStrictly es = RiseBy address_cmp es

-- no two entries have one key
abbrev pub HasDistinctKeys : {K X : Type 0} → (K → K → Ordering) → List (K × X) → Type 0
HasDistinctKeys R es = IsDistinct (eq_by_cmp R) (map (λ e. e.0) es)
