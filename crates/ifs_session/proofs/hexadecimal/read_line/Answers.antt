use Rattle.std.proofs.Common.{arith}
use Rattle.std.proofs.lemmas.Result.{err_from_is_err_and}
use Rattle.ifs_session.proofs.HexReading.{line_start, high_read, low_read, digit_fails, at_hand_read, at_hand_starves}
use Rattle.ifs_session.proofs.HexReading.{line_ends, odd_digit, digit_too_many}
use Rattle.ifs_session.proofs.hexadecimal.read_line.Goals as goal

pub digits-init : goal.digits-init
digits-init g c = line_start _ _ c.requires

pub returns-in_err-take_at_hand : goal.returns-in_err-take_at_hand
returns-in_err-take_at_hand g c =
    let p = err_from_is_err_and c.from_residual.result c.from_residual.ensures.1 in
    rw (p.1, p.2) (at_hand_starves c.in_err-take_at_hand.field-0.0 c.take_at_hand.new.bytes.items _ c.digits.invariant c.in_err-take_at_hand.ensures)

pub returns-in_err-high : goal.returns-in_err-high
returns-in_err-high g c =
    let p = err_from_is_err_and c.from_residual-in_err-high.result c.from_residual-in_err-high.ensures.1 in
    rw (p.1, p.2) (digit_fails _ c.in_err-high.field-0.0 (at_hand_read c.digits.invariant c.in_ok-take_at_hand.ensures) c.in_err-high.ensures)

pub returns-in_default : goal.returns-in_default
returns-in_default g c = line_ends (at_hand_read c.digits.invariant c.in_ok-take_at_hand.ensures) (rw c.in_default.is at c.in_ok-high.ensures)

pub returns-then-len-ge-BYTES : goal.returns-then-len-ge-BYTES
returns-then-len-ge-BYTES g c =
    let now = at_hand_read c.digits.invariant c.in_ok-take_at_hand.ensures in
    let high = rw c.in-Some.is at c.in_ok-high.ensures in
    digit_too_many c.in-Some.high now high (omega (arith, c.take_at_hand.new.bytes.ok.0, now.begins.within))

pub returns-in_err-low : goal.returns-in_err-low
returns-in_err-low g c =
    let now = at_hand_read c.digits.invariant c.in_ok-take_at_hand.ensures in
    let high = rw c.in-Some.is at c.in_ok-high.ensures in
    let p = err_from_is_err_and c.from_residual-in_err-low.result c.from_residual-in_err-low.ensures.1 in
    rw (p.1, p.2) (digit_fails _ c.in_err-low.field-0.0 (high_read c.in-Some.high now high (omega (arith, c.take_at_hand.new.bytes.ok.0))) c.in_err-low.ensures)

pub returns-in_default-2 : goal.returns-in_default-2
returns-in_default-2 g c =
    let now = at_hand_read c.digits.invariant c.in_ok-take_at_hand.ensures in
    let high = rw c.in-Some.is at c.in_ok-high.ensures in
    odd_digit (high_read c.in-Some.high now high (omega (arith, c.take_at_hand.new.bytes.ok.0))) (rw c.in_default-2.is at c.in_ok-low.ensures)

pub digits-preserved : goal.digits-preserved
digits-preserved g c =
    let now = at_hand_read c.digits.invariant c.in_ok-take_at_hand.ensures in
    let high = rw c.in-Some.is at c.in_ok-high.ensures in
    let low = rw c.in-Some-2.is at c.in_ok-low.ensures in
    rw c.in-Ok.ensures.items (low_read c.in-Some-2.low (high_read c.in-Some.high now high (omega (arith, c.take_at_hand.new.bytes.ok.0))) low)

pub returns-in_default-push : goal.returns-in_default-push
returns-in_default-push g c =
    let now = at_hand_read c.digits.invariant c.in_ok-take_at_hand.ensures in
    let high = rw c.in-Some.is at c.in_ok-high.ensures in
    let low = rw c.in-Some-2.is at c.in_ok-low.ensures in
    (_, low_read c.in-Some-2.low (high_read c.in-Some.high now high (omega (arith, c.take_at_hand.new.bytes.ok.0))) low)
