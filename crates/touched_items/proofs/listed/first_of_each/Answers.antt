use Rattle.std.proofs.Common.{arith, rules, length, ◌≡◌, ◌≤◌}
use Rattle.std.proofs.lemmas.Fn.{always_returns_same, dedup_same}
use Rattle.touched_items.specs.FirstLaws.{are_first, have_one, number_in}
use Rattle.touched_items.proofs.listed.first_of_each.Goals as goal

pub returns : goal.returns
returns g c =
    let xs = c.args.changes.items in
    let ys = c.sort_by_key.new.self.items in
    let zs = c.dedup_by_key.new.self.items in
    let fewer : length zs ≤ length ys = omega (
      arith,
      c.dedup_by_key.ensures.bound,
      c.dedup_by_key.new.self.ok.0,
      c.sort_by_key.new.self.ok.0,
    ) in
    let long : length ys ≡ length xs = omega (
      arith,
      c.sort_by_key.ensures.len,
      c.sort_by_key.new.self.ok.0,
      c.args.changes.ok.0,
    ) in
    are_first xs ys zs
    (c.sort_by_key.ensures.stable number_in (always_returns_same _ _ _ (λ a r f k. search rules)))
    (c.in_ok-sort_by_key.ensures.sorted number_in
    (always_returns_same _ _ _ (λ a r f k. search rules)))
    (dedup_same _ have_one _ (λ x y b f x' y' k. search rules) ys zs c.dedup_by_key.ensures.filtered)
    fewer long
