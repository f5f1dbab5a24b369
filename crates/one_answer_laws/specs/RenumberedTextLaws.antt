-- Texts name variables and rows, and no numbers: those of the renumbered model are the same.
use Rattle.std.specs.Prelude.{◌≡◌, ◌==◌, ℕ, Bool, true, false, cond, List, [], ◌∷◌, ◌++◌, Option, Some, None, codes, find, flat_map, map, option_and_then, slice_get, refl}
use Rattle.std.proofs.Common.{ap, ap₂, sym, ◌∙◌}
use Rattle.std.specs.FinMap.{entries}
use Rattle.std.specs.List.{zip}
use Rattle.std.specs.Option.{option_map}
use Rattle.std.specs.Ordering.{is_eq, is_le}
use Rattle.std.proofs.lemmas.List.{map-append}
use Rattle.aff_core.specs.Address.{Address, address_cmp, address_eq}
use Rattle.aff_core.specs.Function.{Function, terms_of}
use Rattle.aff_core.specs.declared.root.Root.{Root}
use Rattle.aff_core.specs.declared.root.Root.TheVariants.{Variable, Group, Row, Objective}
use Rattle.bridged_report.specs.Addresses.{address_text, group_name, position_text, root_text, row_name, written}
use Rattle.bridged_report.specs.Functions.{components_text, constant_texts, function_text, sum_text, term_text}
use Rattle.bridged_report.specs.Lines.{LeafLine, body_text, bridged_text, in_order, joined, objective_line, put_before, row_line, sense_text, variable_line, var_text}
use Rattle.bridged_report.specs.Places.{place_at, place_from}
use Rattle.bridged_report.specs.Sets.{set_text}
use Rattle.cert_text.specs.Text as certificates
use Rattle.cert_text.specs.Text.{certificate_lines, certificate_text, dual_lines, row_lines, text_of_lines, variable_lines}
use Rattle.certificates.specs.declared.certificate.Certificate.{Certificate}
use Rattle.certificates.specs.declared.certificate.Certificate.TheVariants.{Infeasible, Optimal, Unbounded}
use Rattle.item_core.specs.declared.item.Body.{Body}
use Rattle.item_core.specs.declared.item.Body.TheVariants as body
use Rattle.leaf_model.specs.LeafModel.{LeafModel}
use Rattle.numbered_list.specs.Numbered as numbered
use Rattle.ratio_core.specs.Rational.{Rational}
use Rattle.ratio_core.specs.Text.{text_of}
use Rattle.report_core.specs.declared.refused.Place.TheVariants as place
use Rattle.report_core.specs.Words.{newline}
use Rattle.solver_store.specs.declared.leaf.LeafVar.{LeafVar}
use Rattle.user_model.specs.Edited.{group_number, row_number}
use Rattle.user_model.specs.Model.{ModelValue, name_at, variable_address, variables}
use Rattle.user_model.specs.declared.group.Group as groups
use Rattle.user_model.specs.declared.group.GroupVar.{GroupVar}
use Rattle.user_model.specs.declared.row.Row as rows
use Rattle.renumbering_laws.specs.RenamedForm.{map_kept}
use Rattle.renumbering_laws.specs.RenamedFunctions.{constant-renamed, terms-renamed}
use Rattle.renumbering_laws.specs.RenamedItems.{map_either, renamed, renamed_body}
use Rattle.renumbering_laws.specs.RenamedLeaves.{AreRenamedLeaves}
use Rattle.renumbering_laws.specs.RenumberedCertificateLaws.{variables-renumbered}
use Rattle.renumbering_laws.specs.RenumberedModel.{IsRising, Renumbering, number_by, number_same, renumbered, renumbered_group, renumbered_model, renumbered_row, renumbered_variable, renumbers}

find_moved : {A B : Type 0} (p : A → Bool) (q : B → Bool) (f : A → B)
    → ((x : A) → q (f x) ≡ p x) → (xs : List A) → find q (map f xs) ≡ option_map f (find p xs)
find_moved p q f same [] = refl
find_moved p q f same (x ∷ xs) =
    ap₂ (λ b o. cond b (Some (f x)) o) (same x) (find_moved p q f same xs) ∙ over (p x)
  where
    over : (b : Bool) → cond b (Some (f x)) (option_map f (find p xs))
        ≡ option_map f (cond b (Some x) (find p xs))
    over true = refl
    over false = refl

-- a line for each of two lists' elements
zip_kept : {A B C D : Type 0} (f : A → B) (k : B × C → D) (h : A × C → D)
    → ((x : A) (y : C) → k (f x, y) ≡ h (x, y)) → (xs : List A) (ys : List C)
    → map k (zip (map f xs) ys) ≡ map h (zip xs ys)
zip_kept f k h same [] ys = refl
zip_kept f k h same (x ∷ xs) [] = refl
zip_kept f k h same (x ∷ xs) (y ∷ ys) = ap₂ (λ a b. a ∷ b) (same x y) (zip_kept f k h same xs ys)

module _ (ν : Renumbering) (rising : IsRising ν) (model : ModelValue) where
  abbrev renewed : ModelValue
  renewed = renumbered_model ν model

  -- ---- names

  name_at-renumbered : (at : Address) → name_at renewed (renumbered ν at) ≡ name_at model at
  name_at-renumbered at =
      ap (λ vars. option_map (λ v. v.name)
      (find (λ v. address_eq (variable_address v.number) (renumbered ν at)) vars))
      (variables-renumbered ν model.groups)
      ∙ ap (option_map (λ v. v.name))
      (find_moved (λ v. address_eq (variable_address v.number) at)
      (λ v. address_eq (variable_address v.number) (renumbered ν at)) (renumbered_variable ν)
      (λ v. ap is_eq ((renumbers ν rising).order (variable_address v.number) at)) (variables model))
      ∙ over (find (λ v. address_eq (variable_address v.number) at) (variables model))
    where
      over : (o : Option GroupVar)
          → option_map (λ v. v.name) (option_map (renumbered_variable ν) o)
          ≡ option_map (λ v. v.name) o
      over None = refl
      over (Some v) = refl

  first_name : (vars : List GroupVar)
      → option_map (λ v. v.name) (slice_get (map (renumbered_variable ν) vars) 0)
      ≡ option_map (λ v. v.name) (slice_get vars 0)
  first_name [] = refl
  first_name (v ∷ vs) = refl

  group_name-renumbered : (n : ℕ) → group_name renewed (ν.group n) ≡ group_name model n
  group_name-renumbered n =
      ap (option_and_then (λ g. option_map (λ v. v.name) (slice_get g.vars 0)))
      (find_moved (λ g. group_number g == n) (λ g. group_number g == ν.group n) (renumbered_group ν)
      (λ g. number_same ν.group rising.group g.id n) model.groups)
      ∙ over (numbered.find group_number n model.groups)
    where
      over : (o : Option groups.Group)
          → option_and_then (λ g. option_map (λ v. v.name) (slice_get g.vars 0))
          (option_map (renumbered_group ν) o)
          ≡ option_and_then (λ g. option_map (λ v. v.name) (slice_get g.vars 0)) o
      over None = refl
      over (Some g) = first_name g.vars

  row_name-renumbered : (n : ℕ) → row_name renewed (ν.row n) ≡ row_name model n
  row_name-renumbered n =
      ap (option_map (λ r. r.name))
      (find_moved (λ r. row_number r == n) (λ r. row_number r == ν.row n) (renumbered_row ν)
      (λ r. number_same ν.row rising.row r.id n) model.rows)
      ∙ over (numbered.find row_number n model.rows)
    where
      over : (o : Option rows.Row)
          → option_map (λ r. r.name) (option_map (renumbered_row ν) o) ≡ option_map (λ r. r.name) o
      over None = refl
      over (Some r) = refl

  place_from-renumbered : (r : Root) (n : ℕ)
      → place_from renewed r (number_by ν r n) ≡ place_from model r n
  place_from-renumbered Variable n =
      ap (option_map place.Var) (name_at-renumbered (variable_address n))
  place_from-renumbered Group n = ap (option_map place.Var) (group_name-renumbered n)
  place_from-renumbered Row n = ap (option_map place.Row) (row_name-renumbered n)
  place_from-renumbered Objective n = refl

  pub place-renumbered : (at : Address) → place_at renewed (renumbered ν at) ≡ place_at model at
  place-renumbered at = place_from-renumbered at.root at.number

  root_text-renumbered : (r : Root) (n : ℕ)
      → root_text renewed r (number_by ν r n) ≡ root_text model r n
  root_text-renumbered Variable n =
      ap (λ name. codes "v:" ++ written name) (name_at-renumbered (variable_address n))
  root_text-renumbered Group n = ap (λ name. codes "g:" ++ written name) (group_name-renumbered n)
  root_text-renumbered Row n = ap (λ name. codes "r:" ++ written name) (row_name-renumbered n)
  root_text-renumbered Objective n = refl

  address_text-renumbered : (at : Address)
      → address_text renewed (renumbered ν at) ≡ address_text model at
  unfolding address_text
  address_text-renumbered at =
      ap (λ t. t ++ flat_map position_text at.positions) (root_text-renumbered at.root at.number)

  -- ---- functions and bodies

  function_text-renumbered : (f : Function)
      → function_text renewed (renamed (renumbered ν) f) ≡ function_text model f
  unfolding function_text
  function_text-renumbered f =
      let renaming = renumbers ν rising in
      ap₂ (λ ts c. sum_text (map (term_text renewed) ts ++ constant_texts c))
      (terms-renamed (renumbered ν) renaming.order f)
      (constant-renamed (renumbered ν) renaming.order f)
      ∙ ap (λ parts. sum_text (parts ++ constant_texts f.constant))
      (map_kept (λ t. (renumbered ν t.0, t.1)) (term_text renewed) (term_text model)
      (λ t. ap (λ name. text_of t.1 ++ codes "*" ++ name) (address_text-renumbered t.0))
      (terms_of f))

  body_text-renumbered : (b : Body)
      → body_text renewed (renamed_body (renumbered ν) b) ≡ body_text model b
  body_text-renumbered (body.Plain var set) =
      ap (λ name. set_text set ++ codes " : 1*" ++ name) (address_text-renumbered var)
  body_text-renumbered (body.Affine f set) =
      ap (λ text. set_text set ++ codes " : " ++ text) (function_text-renumbered f)
  body_text-renumbered (body.AffineVec fs set) =
      ap (λ texts. set_text set ++ codes " : " ++ components_text texts)
      (map_kept (renamed (renumbered ν)) (function_text renewed) (function_text model)
      function_text-renumbered fs)
  body_text-renumbered (body.PlainObj sense var) =
      ap (λ name. sense_text sense ++ codes " 1*" ++ name) (address_text-renumbered var)
  body_text-renumbered (body.AffineObj sense f) =
      ap (λ text. sense_text sense ++ codes " " ++ text) (function_text-renumbered f)
  body_text-renumbered (body.Group set vars) = refl
  body_text-renumbered (body.Free vars) = refl
  body_text-renumbered (body.PlainVec vars set) = refl

  -- ---- lines

  abbrev moved_line : LeafLine → LeafLine
  moved_line line = (renumbered ν line.0, line.1)

  variable_line-renumbered : (e : Address × LeafVar)
      → variable_line renewed (renumbered ν e.0, e.1) ≡ moved_line (variable_line model e)
  variable_line-renumbered e =
      ap (λ name. (renumbered ν e.0, codes "var " ++ name ++ codes " " ++ var_text e.1 ++ newline))
      (address_text-renumbered e.0)

  row_line-renumbered : (e : Address × Body)
      → row_line renewed (renumbered ν e.0, renamed_body (renumbered ν) e.1)
      ≡ moved_line (row_line model e)
  row_line-renumbered e =
      ap₂
      (λ name text. (renumbered ν e.0, codes "row " ++ name ++ codes " " ++ text ++ newline))
      (address_text-renumbered e.0) (body_text-renumbered e.1)

  objective_line-renumbered : (e : Address × Body)
      → objective_line renewed (renumbered ν e.0, renamed_body (renumbered ν) e.1)
      ≡ moved_line (objective_line model e)
  objective_line-renumbered e =
      ap (λ text. (renumbered ν e.0, text ++ newline)) (body_text-renumbered e.1)

  put_before-moved : (line : LeafLine) (lines : List LeafLine)
      → put_before (moved_line line) (map moved_line lines) ≡ map moved_line (put_before line lines)
  put_before-moved line [] = refl
  put_before-moved line (other ∷ others) =
      ap₂
      (λ c l. cond (is_le c) (moved_line line ∷ moved_line other ∷ map moved_line others)
      (moved_line other ∷ l)) ((renumbers ν rising).order line.0 other.0)
      (put_before-moved line others)
      ∙ over (is_le (address_cmp line.0 other.0))
    where
      over : (b : Bool)
          → cond b (moved_line line ∷ moved_line other ∷ map moved_line others)
          (moved_line other ∷ map moved_line (put_before line others))
          ≡ map moved_line (cond b (line ∷ other ∷ others) (other ∷ put_before line others))
      over true = refl
      over false = refl

  in_order-moved : (lines : List LeafLine)
      → in_order (map moved_line lines) ≡ map moved_line (in_order lines)
  in_order-moved [] = refl
  in_order-moved (line ∷ lines) =
      ap (put_before (moved_line line)) (in_order-moved lines)
      ∙ put_before-moved line (in_order lines)

  joined-moved : (lines : List LeafLine) → joined (map moved_line lines) ≡ joined lines
  joined-moved [] = refl
  joined-moved (line ∷ lines) = ap (λ t. line.1 ++ t) (joined-moved lines)

  -- ---- the solver's model

  pub bridged-renumbered : (one other : LeafModel) → AreRenamedLeaves (renumbered ν) one other
      → bridged_text renewed other ≡ bridged_text model one
  unfolding bridged_text
  bridged-renumbered one other l =
      let vars = entries one.variables in
      let rows = entries one.rows in
      let goals = entries one.objective in
      let move : Address × Body → Address × Body = λ e.
      (renumbered ν e.0, renamed_body (renumbered ν) e.1) in
      (λ i. joined (in_order (map (variable_line renewed) (l.variables i)
      ++ map (row_line renewed) (l.rows i)))
      ++ joined (map (objective_line renewed) (l.objective i)))
      ∙ (λ i. joined (in_order (map_either {B = Address × LeafVar} (λ e. (renumbered ν e.0, e.1))
      (variable_line renewed) (variable_line model) moved_line variable_line-renumbered vars i
      ++ map_either move (row_line renewed) (row_line model) moved_line row_line-renumbered rows i))
      ++ joined (map_either move (objective_line renewed) (objective_line model) moved_line
      objective_line-renumbered goals i))
      ∙ (λ i. joined (in_order (sym (map-append moved_line (map (variable_line model) vars)
      (map (row_line model) rows)) i))
      ++ joined-moved (map (objective_line model) goals) i)
      ∙ ap (λ t. t ++ joined (map (objective_line model) goals))
      (ap joined (in_order-moved (map (variable_line model) vars ++ map (row_line model) rows))
      ∙ joined-moved (in_order (map (variable_line model) vars ++ map (row_line model) rows)))

-- ---- certificates

module _ (ν : Renumbering) where
  variable_lines-renumbered : (word : List ℕ) (vars : List GroupVar) (x : List Rational)
      → variable_lines word (map (renumbered_variable ν) vars) x ≡ variable_lines word vars x
  variable_lines-renumbered word vars x =
      zip_kept (renumbered_variable ν) (certificates.variable_line word)
      (certificates.variable_line word) (λ v q. refl) vars x

  row_lines-renumbered : (rs : List rows.Row) (duals : List (List Rational))
      → row_lines (map (renumbered_row ν) rs) duals ≡ row_lines rs duals
  row_lines-renumbered rs duals =
      zip_kept (renumbered_row ν) certificates.row_line certificates.row_line (λ r q. refl) rs duals

  dual_lines-renumbered : (vars : List GroupVar) (rs : List rows.Row)
      (duals : List (List Rational)) (x : List Rational)
      → dual_lines (map (renumbered_variable ν) vars) (map (renumbered_row ν) rs) duals x
      ≡ dual_lines vars rs duals x
  dual_lines-renumbered vars rs duals x =
      ap₂ (λ a b. a ++ b) (row_lines-renumbered rs duals)
      (variable_lines-renumbered (codes "dual var ") vars x)

  lines-renumbered : (vars : List GroupVar) (rs : List rows.Row) (c : Certificate)
      → certificate_lines (map (renumbered_variable ν) vars) (map (renumbered_row ν) rs) c
      ≡ certificate_lines vars rs c
  lines-renumbered vars rs (Optimal value x duals y) =
      ap₂ (λ a b. certificates.number_line (codes "optimal ") value ∷ a ++ b)
      (variable_lines-renumbered (codes "primal ") vars x) (dual_lines-renumbered vars rs duals y)
  lines-renumbered vars rs (Infeasible gap duals y) =
      ap (λ a. certificates.number_line (codes "infeasible ") gap ∷ a)
      (dual_lines-renumbered vars rs duals y)
  lines-renumbered vars rs (Unbounded x d) =
      ap₂ (λ a b. codes "unbounded" ∷ a ++ b)
      (variable_lines-renumbered (codes "primal ") vars x)
      (variable_lines-renumbered (codes "ray ") vars d)

  pub certificate_text-renumbered : (model : ModelValue) (c : Certificate)
      → certificate_text (variables (renumbered_model ν model)) (renumbered_model ν model).rows c
      ≡ certificate_text (variables model) model.rows c
  unfolding certificate_text
  certificate_text-renumbered model c =
      ap (λ vars. text_of_lines (certificate_lines vars (map (renumbered_row ν) model.rows) c))
      (variables-renumbered ν model.groups)
      ∙ ap text_of_lines (lines-renumbered (variables model) model.rows c)
