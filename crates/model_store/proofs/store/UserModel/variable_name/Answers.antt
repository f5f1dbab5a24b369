use Rattle.std.proofs.Common.{◌≡◌, None, Some, ap, subst, ◌∙◌}
use Rattle.std.specs.Option.{option_copied}
use Rattle.user_model.specs.Model.{name_at}
use Rattle.model_store.proofs.Addresses.{name_found}
use Rattle.model_store.proofs.store.UserModel.variable_name.Goals as goal

pub returns-in_err-number : goal.returns-in_err-number
returns-in_err-number c =
    ap option_copied c.from_residual.ensures ∙ name_found c.args.self.now.model c.args.at.now None
    c.in_err-number.ensures

pub returns : goal.returns
returns c =
    subst (λ s. option_copied c.variable_name.result ≡ name_at s.model c.args.at.now) c.self.view_is
    (c.variable_name.ensures ∙ name_found c.self.inside.catalog.model c.args.at.now
    (Some c.in_ok-number.number) c.in_ok-number.ensures)
