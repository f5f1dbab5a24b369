use Rattle.std.proofs.Common.{refl, sym, ◌∙◌}
use Rattle.mapped_model.proofs.mapping.planned_by.Goals as goal

pub returns-then-has_lone : goal.returns-then-has_lone
returns-then-has_lone c = (c.requires.right, sym c.has_lone.ensures ∙ c.if-has_lone.true, refl)

pub returns : goal.returns
returns c = record {
  valid = c.rows-valid.ensures.valid;
  right = c.requires.right;
  many = sym c.has_lone.ensures ∙ c.if-has_lone.false;
  maps = c.requires.maps;
  edits = c.in_ok-edits.ensures;
}
