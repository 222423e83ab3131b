use Rattle.std.proofs.Common.{◌≡◌, ◌∙◌, ◌+◌, List, ℕ, [], sym, ap, subst, length, take, All, arith}
use Rattle.std.specs.Simd.{first_chunks}
use Rattle.std.proofs.lemmas.Result.{err_from_is_err_and}
use Rattle.std.proofs.lemmas.List.{length-map}
use Rattle.ifs_image.specs.Lent.{op_in, ops_in, IsInstruction}
use Rattle.ifs_image.specs.Reading.{items_at, instruction_at}
use Rattle.ifs_image.proofs.Loops.{goes_on, stops, is_done}
use Rattle.ifs_image.proofs.Words.{one_more, words_are, length-words}
use Rattle.ifs_image.proofs.reading.code_of.Goals as goal

pub returns-in_err-op-clause-given : goal.returns-in_err-op-clause-given
returns-in_err-op-clause-given c =
    let p = err_from_is_err_and c.from_residual.result c.from_residual.ensures.1 in
    rw (p.1, p.2) (stops (λ _. instruction_at) c.args.count c.entries.counter (ops_in (first_chunks 4 c.entries.counter c.args.reader.now.left)) c.entries.here (items_at (λ _. instruction_at) c.args.count [] c.args.reader.now) c.in_err-op.field-0.0 c.entries-test.true c.in_err-op.ensures c.entries.invariant.so_far)

pub entries-preserved : goal.entries-preserved
entries-preserved c =
    let more = one_more c.entries.counter c.args.reader.now.left c.entries.here c.op.new.self c.in_ok-op.field-0 c.entries.invariant.read c.in_ok-op.ensures in
    record {
      read = more.read;
      so_far = goes_on (λ _. instruction_at) c.args.count c.entries.counter (ops_in (first_chunks 4 c.entries.counter c.args.reader.now.left)) (ops_in (first_chunks 4 (c.entries.counter + 1) c.args.reader.now.left)) c.entries.here c.op.new.self c.in_ok-op.field-0 (items_at (λ _. instruction_at) c.args.count [] c.args.reader.now) c.entries-test.true c.in_ok-op.ensures more.ops c.entries.invariant.so_far;
    }

pub slice_bounds-new-end : goal.slice_bounds-new-end
slice_bounds-new-end c =
    let at_end : c.from.result ≡ c.entries.counter = omega (arith, c.from.ensures, c.entries-test.false, c.entries.auto.counter-end) in
    let all : take c.from.result c.words-words.result.now ≡ first_chunks 4 c.entries.counter c.args.reader.now.left = ap (λ (n : ℕ). take n c.words-words.result.now) at_end ∙ words_are c.entries.counter c.args.reader.now.left c.entries.here c.words-words.result.now c.entries.invariant.read c.words-words.ensures in
    at_end ∙ sym (ap length all ∙ length-words c.entries.counter c.args.reader.now.left)

pub new-requires : goal.new-requires
new-requires c =
    let at_end : c.from.result ≡ c.entries.counter = omega (arith, c.from.ensures, c.entries-test.false, c.entries.auto.counter-end) in
    let all : take c.from.result c.words-words.result.now ≡ first_chunks 4 c.entries.counter c.args.reader.now.left = ap (λ (n : ℕ). take n c.words-words.result.now) at_end ∙ words_are c.entries.counter c.args.reader.now.left c.entries.here c.words-words.result.now c.entries.invariant.read c.words-words.ensures in
    subst (λ (words : List (List ℕ)). All IsInstruction words) (sym all) c.entries.invariant.read.good

pub returns-clause-given : goal.returns-clause-given
returns-clause-given c =
    let at_end : c.from.result ≡ c.entries.counter = omega (arith, c.from.ensures, c.entries-test.false, c.entries.auto.counter-end) in
    let all : take c.from.result c.words-words.result.now ≡ first_chunks 4 c.entries.counter c.args.reader.now.left = ap (λ (n : ℕ). take n c.words-words.result.now) at_end ∙ words_are c.entries.counter c.args.reader.now.left c.entries.here c.words-words.result.now c.entries.invariant.read c.words-words.ensures in
    is_done (λ _. instruction_at) c.args.count c.entries.counter (ops_in (first_chunks 4 c.entries.counter c.args.reader.now.left)) c.new.result c.entries.here (items_at (λ _. instruction_at) c.args.count [] c.args.reader.now) c.entries-test.false (c.new.ensures ∙ ap ops_in all) c.entries.invariant.so_far

pub returns-clause-count : goal.returns-clause-count
returns-clause-count c =
    let at_end : c.from.result ≡ c.entries.counter = omega (arith, c.from.ensures, c.entries-test.false, c.entries.auto.counter-end) in
    let all : take c.from.result c.words-words.result.now ≡ first_chunks 4 c.entries.counter c.args.reader.now.left = ap (λ (n : ℕ). take n c.words-words.result.now) at_end ∙ words_are c.entries.counter c.args.reader.now.left c.entries.here c.words-words.result.now c.entries.invariant.read c.words-words.ensures in
    let words = take c.from.result c.words-words.result.now in
    ap length c.new.ensures ∙ length-map words op_in ∙ ap length all ∙ length-words c.entries.counter c.args.reader.now.left ∙ sym at_end ∙ c.from.ensures
