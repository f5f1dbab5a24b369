-- The lines of a plan: what stands there, and the lines of what is left.
use Rattle.std.proofs.Common.{◌≡◌, ℕ, suc, ◌<◌, ◌≤◌, Option, List, ◌∷◌, ◌++◌, length, drop, get_or, sym, ap, ◌∙◌, append_assoc, drop-cons, drop_of_length-le}
use Rattle.std.specs.List.{flat_map, zip}
use Rattle.std.proofs.lemmas.List.{append-nil}
use Rattle.bridge_graph.specs.declared.Choice.{Choice}
use Rattle.item_core.specs.declared.kind.Kind.{Kind}
use Rattle.report_core.specs.Plan.{kind_line}

abbrev Choices : Type 0
Choices = List (Choice × Option ℕ)

-- the lines of what is left from a place on
abbrev pub lines_from : ℕ → List Kind → Choices → List ℕ
lines_from place kinds choices = flat_map kind_line (zip (drop place kinds) (drop place choices))

pub lines_more : (kinds : List Kind) (choices : Choices) (place : ℕ) (kind : Kind)
    (choice : Choice × Option ℕ) (now all : List ℕ)
    → place < length kinds → place < length choices
    → kind ≡ get_or kinds place kind → choice ≡ get_or choices place choice
    → now ++ lines_from place kinds choices ≡ all
    → (now ++ kind_line (kind, choice)) ++ lines_from (suc place) kinds choices ≡ all
lines_more kinds choices place kind choice now all in_kinds in_choices is_kind is_choice before =
    let k : drop place kinds ≡ kind ∷ drop (suc place) kinds =
    drop-cons kinds place kind in_kinds ∙ ap (λ x. x ∷ drop (suc place) kinds) (sym is_kind) in
    let c : drop place choices ≡ choice ∷ drop (suc place) choices =
    drop-cons choices place choice in_choices ∙ ap (λ x. x ∷ drop (suc place) choices)
    (sym is_choice) in
    append_assoc now (kind_line (kind, choice)) (lines_from (suc place) kinds choices)
    ∙ sym (ap (λ x. now ++ flat_map kind_line (zip x (drop place choices))) k
    ∙ ap (λ x. now ++ flat_map kind_line (zip (kind ∷ drop (suc place) kinds) x)) c)
    ∙ before

pub lines_all : (kinds : List Kind) (choices : Choices) (place : ℕ) (now all : List ℕ)
    → length kinds ≤ place → now ++ lines_from place kinds choices ≡ all → now ≡ all
lines_all kinds choices place now all h before =
    sym (append-nil now)
    ∙ sym (ap (λ x. now ++ flat_map kind_line (zip x (drop place choices)))
    (drop_of_length-le kinds h))
    ∙ before
