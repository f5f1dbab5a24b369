use Rattle.std.specs.Prelude.{refl}
use Rattle.std.proofs.Common.{ap₂, arith, subst, sym}
use Rattle.set_core.specs.declared.set.Set.TheVariants.{EqualTo, GreaterThan, Interval, LessThan, Nonnegatives, Nonpositives, NormInfinityCone, NormOneCone, Reals, Zeros}
use Rattle.bridge_tests.specs.SampleLaws.{IsSampleSet, sample_interval, sample_of_one, sample_of_three}
use Rattle.bridge_tests.proofs.samples.sample_set.Goals as goal

pub returns-in-LessThan : goal.returns-in-LessThan
returns-in-LessThan c =
    sample_of_one (LessThan c.args.number) refl (record {
      dimension = refl;
      enough = omega arith;
      uncrossed = refl;
    })

pub returns-in-GreaterThan : goal.returns-in-GreaterThan
returns-in-GreaterThan c =
    sample_of_one (GreaterThan c.args.number) refl (record {
      dimension = refl;
      enough = omega arith;
      uncrossed = refl;
    })

pub returns-in-EqualTo : goal.returns-in-EqualTo
returns-in-EqualTo c =
    sample_of_one (EqualTo c.args.number) refl (record {
      dimension = refl;
      enough = omega arith;
      uncrossed = refl;
    })

pub returns-in-Interval : goal.returns-in-Interval
returns-in-Interval c =
    subst IsSampleSet (sym (ap₂ Interval c.zero.ensures c.one.ensures)) sample_interval

pub returns-in-Reals : goal.returns-in-Reals
returns-in-Reals c = sample_of_three (Reals 3) refl refl (omega arith) refl

pub returns-in-Zeros : goal.returns-in-Zeros
returns-in-Zeros c = sample_of_three (Zeros 3) refl refl (omega arith) refl

pub returns-in-Nonnegatives : goal.returns-in-Nonnegatives
returns-in-Nonnegatives c = sample_of_three (Nonnegatives 3) refl refl (omega arith) refl

pub returns-in-Nonpositives : goal.returns-in-Nonpositives
returns-in-Nonpositives c = sample_of_three (Nonpositives 3) refl refl (omega arith) refl

pub returns-in-NormInfinityCone : goal.returns-in-NormInfinityCone
returns-in-NormInfinityCone c = sample_of_three (NormInfinityCone 3) refl refl (omega arith) refl

pub returns-in-NormOneCone : goal.returns-in-NormOneCone
returns-in-NormOneCone c = sample_of_three (NormOneCone 3) refl refl (omega arith) refl
