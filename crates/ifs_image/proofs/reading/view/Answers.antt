use Rattle.std.proofs.Common.{arith, rules, Ok, Err}
use Rattle.ifs_image.specs.declared.fault.ImageFault.TheVariants.{Trailing}
use Rattle.ifs_image.specs.Reading.{cursor, image_of}
use Rattle.ifs_image.proofs.ImageLaws.{parts_taken, is_found, only_it}
use Rattle.ifs_image.proofs.StopImages.{is_first}
use Rattle.ifs_image.proofs.reading.view.Goals as goal

pub new-requires : goal.new-requires
new-requires c = (parts_taken (cursor 0 c.args.bytes.now) (c.in_ok-parts.parts, c.parts_of.new.reader) (λ i. omega (arith, c.type_inv.bytes i)) (rw c.new-reader.ensures at c.in_ok-parts.ensures.given)).fits

pub returns-in_err-parts-clause-only : goal.returns-in_err-parts-clause-only
unfolding image_of
returns-in_err-parts-clause-only c = only_it c.args.bytes.now c.from_residual.result (search rules)

pub returns-then-not-is_at_end-clause-only : goal.returns-then-not-is_at_end-clause-only
unfolding image_of
returns-then-not-is_at_end-clause-only c = only_it c.args.bytes.now (Err (Trailing c.at.result)) (search rules)

pub returns-clause-found : goal.returns-clause-found
unfolding image_of
returns-clause-found c = is_found c.args.bytes.now (Ok c.new.result) (λ i. omega (arith, c.type_inv.bytes i)) (search rules)

pub returns-clause-only : goal.returns-clause-only
unfolding image_of
returns-clause-only c = only_it c.args.bytes.now (Ok c.new.result) (search rules)

pub returns-in_err-parts-clause-why : goal.returns-in_err-parts-clause-why
unfolding image_of
returns-in_err-parts-clause-why c = is_first c.args.bytes.now c.from_residual.result (λ i. omega (arith, c.type_inv.bytes i)) (search rules)

pub returns-then-not-is_at_end-clause-why : goal.returns-then-not-is_at_end-clause-why
unfolding image_of
returns-then-not-is_at_end-clause-why c = is_first c.args.bytes.now (Err (Trailing c.at.result)) (λ i. omega (arith, c.type_inv.bytes i)) (search rules)
