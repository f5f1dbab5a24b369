-- A row in its own set, or in a cone that is seen through a map.
--     InSeen RecSeen     what is in the set, and in its recession set
--     DualSeen low_seen  what is in its dual, and the least product with a dual
use Rattle.std.specs.Prelude.{List, Option, Some, None}
use Rattle.ratio_core.specs.Rational.{Rational, zero_ℚ}
use Rattle.set_core.specs.declared.set.Set.{Set}
use Rattle.set_core.specs.Membership.{Dual, In, low_of, recession}
use Rattle.set_map.specs.MappedSet.{DualMapped, InMapped, MappedSet, RecMapped}
use Rattle.user_model.specs.declared.row.Row.{Row}

pub record SeenRow : Type 0 where
  pub row : Row
  pub seen : Option MappedSet

-- ---- by whether it is seen through a map

abbrev pub InBy : Set → Option MappedSet → List Rational → Type 0
InBy set None v = In set v
InBy set (Some s) v = InMapped s v

abbrev pub RecBy : Set → Option MappedSet → List Rational → Type 0
RecBy set None v = In (recession set) v
RecBy set (Some s) v = RecMapped s v

abbrev pub DualBy : Set → Option MappedSet → List Rational → Type 0
DualBy set None w = Dual set w
DualBy set (Some s) w = DualMapped s w

abbrev pub low_by : Set → Option MappedSet → List Rational → Rational
low_by set None w = low_of set w
low_by set (Some s) w = zero_ℚ

-- ---- of a row

abbrev pub InSeen : SeenRow → List Rational → Type 0
InSeen r v = InBy r.row.set r.seen v

abbrev pub RecSeen : SeenRow → List Rational → Type 0
RecSeen r v = RecBy r.row.set r.seen v

abbrev pub DualSeen : SeenRow → List Rational → Type 0
DualSeen r w = DualBy r.row.set r.seen w

abbrev pub low_seen : SeenRow → List Rational → Rational
low_seen r w = low_by r.row.set r.seen w
