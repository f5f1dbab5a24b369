-- Points of a model.
use Rattle.ratio_core.specs.Rational.{Rational}
use Rattle.aff_core.specs.Address.{Address}
use Rattle.aff_core.specs.Points.{spread}
use Rattle.cert_core.specs.declared.point.ModelPoint.{ModelPoint}

-- the numbers of a point, which are 0 where no variable stands
abbrev pub numbers_in : ModelPoint → Address → Rational
numbers_in p = spread p.variables.now p.numbers.now
