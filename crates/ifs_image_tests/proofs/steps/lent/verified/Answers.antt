use Rattle.ifs_image_tests.proofs.steps.lent.verified.Goals as goal

pub returns-clause-kept : goal.returns-clause-kept
returns-clause-kept c = c.headline.ensures c.args.bytes.now c.in_ok-image.image (record { spelled = c.in_ok-image.ensures.spelled; accepted = c.in_ok-image.ensures.accepted })
