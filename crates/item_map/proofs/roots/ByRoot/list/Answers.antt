use Rattle.std.proofs.Common.{sym, ap}
use Rattle.item_map.specs.ItemLists.{list_of}
use Rattle.item_map.proofs.roots.ByRoot.list.Goals as goal

pub returns-in-Variable : goal.returns-in-Variable
returns-in-Variable g c = ap (list_of c.args.self.now) (sym c.in-Variable.is)

pub returns-in-Group : goal.returns-in-Group
returns-in-Group g c = ap (list_of c.args.self.now) (sym c.in-Group.is)

pub returns-in-Row : goal.returns-in-Row
returns-in-Row g c = ap (list_of c.args.self.now) (sym c.in-Row.is)

pub returns-in-Objective : goal.returns-in-Objective
returns-in-Objective g c = ap (list_of c.args.self.now) (sym c.in-Objective.is)
