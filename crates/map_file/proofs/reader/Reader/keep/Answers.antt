use Rattle.std.proofs.Common.{◌≡◌, ℕ, List, Some, length, bytes_eq, cond, refl, rules, ap₂, ◌∙◌}
use Rattle.std.specs.HashMap.{get_by_text}
use Rattle.std.specs.String.{string_bytes}
use Rattle.std.proofs.lemmas.Map.Text.{hash_map_updates_text}
use Rattle.map_file.proofs.InStep.{of_parts, with_map}
use Rattle.map_file.proofs.reader.Reader.keep.Goals as goal
use Rattle.map_file.proofs.reader.Reader.keep.Goals.{in-Ok-push, in-Err}

pub returns : goal.returns
returns c =
    let name : string_bytes c.in-Ok.name ≡ c.args.map.name = search rules in
    let places : (q : List ℕ) → get_by_text c.insert.new.self q
    ≡ cond (bytes_eq c.args.map.name q) (Some (length c.args.self.now.maps))
    (get_by_text c.args.self.now.places q) =
    λ q. hash_map_updates_text (string_bytes c.in-Ok.name) c.args.self.now.places c.insert.new.self
    (Some c.len-place.result) c.in_ok-insert.ensures.updates q
    ∙ ap₂ (λ b p. cond (bytes_eq b q) (Some p) (get_by_text c.args.self.now.places q)) name
    c.len-place.ensures in
    elim c.match-push.branch [
      | in-Ok-push w ↦
          rw w.result-is (
            with_map c.args.self.now _ c.args.map c.requires.in_step c.requires.alone
                c.requires.whole c.requires.new_name w.in-Ok-push.ensures.ok refl refl places,
            ap₂ (λ ms m. of_parts ms c.args.self.now.uses m) w.in-Ok-push.ensures.ok
                c.requires.alone,
          )
      | in-Err w ↦ rw w.result-is tt
    ]
