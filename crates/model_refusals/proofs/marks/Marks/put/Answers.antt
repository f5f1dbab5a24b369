use Rattle.std.proofs.Common.{◌/◌, ◌%◌, ◌^◌}
use Rattle.model_refusals.proofs.MarkLemmas.{three_set, three_stay}
use Rattle.model_refusals.proofs.marks.Marks.put.Goals as goal

pub returns-clause-put : goal.returns-clause-put
returns-clause-put c =
    let hash = c.args.hash in
    three_set c.args.self.now c.put_bit.new.self c.put_bit-2.new.self c.put_bit-3.new.self
    (hash / 2 ^ 45 % 524288) (hash / 2 ^ 26 % 524288) (hash / 2 ^ 7 % 524288) c.put_bit.ensures
    c.put_bit-2.ensures c.put_bit-3.ensures

pub returns-clause-kept : goal.returns-clause-kept
returns-clause-kept c = λ other.
    let hash = c.args.hash in
    three_stay c.args.self.now c.put_bit.new.self c.put_bit-2.new.self c.put_bit-3.new.self
    (hash / 2 ^ 45 % 524288) (hash / 2 ^ 26 % 524288) (hash / 2 ^ 7 % 524288) c.put_bit.ensures
    c.put_bit-2.ensures c.put_bit-3.ensures (other / 2 ^ 45 % 524288) (other / 2 ^ 26 % 524288)
    (other / 2 ^ 7 % 524288)
