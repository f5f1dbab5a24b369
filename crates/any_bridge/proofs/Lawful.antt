-- Each family keeps the law.
use Rattle.item_core.specs.declared.family.Family.{Family}
use Rattle.item_core.specs.declared.family.Family.TheVariants.{GreaterLess, OrthantFlip, NonposVar, ObjFlip, Vectorize, Scalarize, ScalarFunctionize, VectorFunctionize, VectorizeVar, ObjFunctionize, SplitSet, DropReals, ZerosVar, FreeVar, ScalarSlack, VectorSlack, Later, ObjSlack, NormInfinity, NormOne}
use Rattle.bridge_face.specs.GroupLaws.{group_lawful}
use Rattle.bridge_face.specs.Law.{IsLawful}
use Rattle.bridge_face.specs.ObjectiveLaws.{objective_lawful}
use Rattle.bridge_face.specs.OneRowLaws.{row_lawful}
use Rattle.bridges_flip.specs.GreaterLessLaws as greater_less
use Rattle.bridges_flip.specs.NonposVarLaws as nonpos_var
use Rattle.bridges_flip.specs.ObjFlipLaws as obj_flip
use Rattle.bridges_flip.specs.OrthantFlipLaws as orthant_flip
use Rattle.bridges_norm.specs.NormInfinityLaws as norm_infinity
use Rattle.bridges_norm.specs.NormOneLaws.{norm_one_lawful}
use Rattle.bridges_shape.specs.ObjFunctionizeLaws as obj_functionize
use Rattle.bridges_shape.specs.ScalarFunctionizeLaws as scalar_functionize
use Rattle.bridges_shape.specs.ScalarizeLaws.{scalarize_lawful}
use Rattle.bridges_shape.specs.VectorFunctionizeLaws as vector_functionize
use Rattle.bridges_shape.specs.VectorizeLaws as vectorize
use Rattle.bridges_shape.specs.VectorizeVarLaws as vectorize_var
use Rattle.bridges_slack.specs.LaterLaws as later
use Rattle.bridges_slack.specs.ObjSlackLaws.{obj_slack_lawful}
use Rattle.bridges_slack.specs.ScalarSlackLaws as scalar_slack
use Rattle.bridges_slack.specs.VectorSlackLaws as vector_slack
use Rattle.bridges_split.specs.DropRealsLaws.{drop_reals_lawful}
use Rattle.bridges_split.specs.FreeVarLaws as free_var
use Rattle.bridges_split.specs.SplitSetLaws.{split_set_lawful}
use Rattle.bridges_split.specs.ZerosVarLaws.{zeros_var_lawful}

pub every_lawful : (family : Family) → IsLawful family
every_lawful GreaterLess = row_lawful greater_less.rule
every_lawful OrthantFlip = row_lawful orthant_flip.rule
every_lawful NonposVar = group_lawful nonpos_var.rule
every_lawful ObjFlip = objective_lawful obj_flip.rule
every_lawful Vectorize = row_lawful vectorize.rule
every_lawful Scalarize = scalarize_lawful
every_lawful ScalarFunctionize = row_lawful scalar_functionize.rule
every_lawful VectorFunctionize = row_lawful vector_functionize.rule
every_lawful VectorizeVar = group_lawful vectorize_var.rule
every_lawful ObjFunctionize = objective_lawful obj_functionize.rule
every_lawful SplitSet = split_set_lawful
every_lawful DropReals = drop_reals_lawful
every_lawful ZerosVar = zeros_var_lawful
every_lawful FreeVar = group_lawful free_var.rule
every_lawful ScalarSlack = group_lawful scalar_slack.rule
every_lawful VectorSlack = group_lawful vector_slack.rule
every_lawful Later = group_lawful later.rule
every_lawful ObjSlack = obj_slack_lawful
every_lawful NormInfinity = row_lawful norm_infinity.rule
every_lawful NormOne = norm_one_lawful
