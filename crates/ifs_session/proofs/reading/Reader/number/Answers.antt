use Rattle.std.proofs.Common.{◌≡◌, ◌<◌, ◌^◌, Some, ap, ◌∙◌, sym, arith}
use Rattle.ifs_session.proofs.ReadBack.{number_front}
use Rattle.ifs_session.proofs.reading.Reader.number.Goals as goal

pub returns-then-number-most-clause-reads : goal.returns-then-number-most-clause-reads
returns-then-number-most-clause-reads c = λ n rest le stops e.
    let lt : n < 2 ^ 64 = omega (arith, le, c.ranges.most.fits) in
    let front = number_front n c.digits_in.result rest c.in-Some.left.now c.split_at.result.0.now c.split_at.result.1.now lt stops ((rw c.in-Some.is at c.self.view_is) ∙ e) c.digits_in.ensures.value c.split_at.ensures.front c.split_at.ensures.back in
    let found = c.spelled_by.ensures n lt front.0 in
    let same : c.in-Some-spelled_by.number ≡ n = grind (arith, found, c.in-Some-spelled_by.is) in
    absurd (omega (arith, same, le, c.if-number-most.true))

pub returns-clause-reads : goal.returns-clause-reads
returns-clause-reads c = λ n rest le stops e.
    let lt : n < 2 ^ 64 = omega (arith, le, c.ranges.most.fits) in
    let front = number_front n c.digits_in.result rest c.in-Some.left.now c.split_at.result.0.now c.split_at.result.1.now lt stops ((rw c.in-Some.is at c.self.view_is) ∙ e) c.digits_in.ensures.value c.split_at.ensures.front c.split_at.ensures.back in
    let found = c.spelled_by.ensures n lt front.0 in
    let same : c.in-Some-spelled_by.number ≡ n = grind (arith, found, c.in-Some-spelled_by.is) in
    record { is = same; leaves = ap Some front.1 }

pub returns-in_default-spelled_by-clause-reads : goal.returns-in_default-spelled_by-clause-reads
returns-in_default-spelled_by-clause-reads c = λ n rest le stops e.
    let lt : n < 2 ^ 64 = omega (arith, le, c.ranges.most.fits) in
    let front = number_front n c.digits_in.result rest c.in-Some.left.now c.split_at.result.0.now c.split_at.result.1.now lt stops ((rw c.in-Some.is at c.self.view_is) ∙ e) c.digits_in.ensures.value c.split_at.ensures.front c.split_at.ensures.back in
    let found = c.spelled_by.ensures n lt front.0 in
    let no = sym c.in_default-spelled_by.is ∙ found in
    absurd cc
