use Rattle.std.proofs.Common.{[], refl, arith}
use Rattle.std.proofs.lemmas.Result.{err_from_is_err_and}
use Rattle.ifs_image.specs.Reading.{items_at, kind_at}
use Rattle.ifs_image.proofs.Loops.{goes_on, stops, is_done}
use Rattle.ifs_image.proofs.reading.so_many_kinds.Goals as goal

pub returns-in_err-kind : goal.returns-in_err-kind
returns-in_err-kind c =
    let p = err_from_is_err_and c.from_residual.result c.from_residual.ensures.1 in
    let q = c.in_err-kind.ensures in
    rw (p.1, p.2) (stops (λ _. kind_at) c.args.count c.entries.counter c.entries.kinds.items c.entries.reader (items_at (λ _. kind_at) c.args.count [] c.args.reader.now) c.in_err-kind.field-0.0 c.entries-test.true (λ _. q.0) c.entries.invariant.so_far q.1, q.1)

pub entries-preserved : goal.entries-preserved
entries-preserved c = record {
  so_many = omega (arith, c.push.ensures.len, c.entries.invariant.so_many);
  so_far = goes_on (λ _. kind_at) c.args.count c.entries.counter c.entries.kinds.items c.push.new.self.items c.entries.reader c.kind.new.self c.in_ok-kind.field-0 (items_at (λ _. kind_at) c.args.count [] c.args.reader.now) c.entries-test.true c.in_ok-kind.ensures c.push.ensures.items c.entries.invariant.so_far;
}

pub returns : goal.returns
returns c = is_done (λ _. kind_at) c.args.count c.entries.counter c.entries.kinds.items c.entries.kinds.items c.entries.reader (items_at (λ _. kind_at) c.args.count [] c.args.reader.now) c.entries-test.false refl c.entries.invariant.so_far
