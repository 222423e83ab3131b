-- What comes of the course is what comes of the moment.
use Rattle.std.proofs.Common.{subst}
use Rattle.std.proofs.lemmas.Option.{IfSome_then}
use Rattle.ifs_levels.specs.inner.Courses.{AreAllOfCourse}
use Rattle.ifs_levels.proofs.Coming.{all_at}
use Rattle.ifs_levels.proofs.searching.outcomes.Goals as goal

pub returns-clause-found : goal.returns-clause-found
returns-clause-found c =
    IfSome_then c.in_ok-found.found c.in_ok-found.ensures.all
    (λ outcomes all. all_at c.args.policy.now c.args.moment c.in-Some.course outcomes.items (cc) c.in-Some.ensures.there (subst (λ scope. AreAllOfCourse scope c.in-Some.course outcomes.items) c.of-2.ensures all))
