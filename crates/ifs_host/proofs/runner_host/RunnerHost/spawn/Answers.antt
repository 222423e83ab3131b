use Rattle.std.proofs.Common.{[], ◌∷◌, Some, ap, subst, ◌∙◌}
use Rattle.ifs_host.specs.declared.runner.RunnerEvent.TheVariants.{Spawned}
use Rattle.ifs_host.specs.Runners.{RunnerTells}
use Rattle.ifs_host.specs.Children.{with_running}
use Rattle.ifs_host.proofs.runner_host.RunnerHost.spawn.Goals as goal

pub returns-in-Ok : goal.returns-in-Ok
returns-in-Ok g c =
    let number = g.Q.Runner.number c.in-Ok.child in
    record {
      number = Some number;
      place = c.requires;
      waits = c.run.ensures ∙ ap (λ h. with_running (c.args.start, number) h.waiting) c.self.view_is;
      log = subst (λ h. RunnerTells (Spawned c.args.text.now (Some number) ∷ []) h.told (g.Q.Runner.told c.spawn.new.self)) c.self.view_is c.in-Ok.ensures.log;
    }
