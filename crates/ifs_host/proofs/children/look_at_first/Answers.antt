use Rattle.std.proofs.Common.{ℕ, List, ◌∙◌, ◌∷◌, ◌++◌, ap, sym, map, not}
use Rattle.ifs_host.specs.Children.{Program, if_stays}
use Rattle.ifs_host.proofs.Reaping.{first_of}
use Rattle.ifs_host.proofs.children.look_at_first.Goals as goal

pub returns-clause-looks : goal.returns-clause-looks
returns-clause-looks g c =
    let first : Program = (c.remove-first.result.start, g.Q.Runner.number c.remove-first.result.child) in
    let rest : List Program = map {B = Program} (λ it. (it.start, g.Q.Runner.number it.child)) c.remove-first.new.self.items in
    record {
      program = first;
      rest = rest;
      gone = c.reap-gone.result;
      stood =
          first_of (λ it. (it.start, g.Q.Runner.number it.child)) c.args.late.now.items c.remove-first.result
          c.requires.some c.remove-first.ensures.value
          ∙ ap (λ items. first ∷ map {B = Program} (λ it. (it.start, g.Q.Runner.number it.child)) items) (sym c.remove-first.ensures.items);
      left =
          c.keep_if.ensures.items
          ∙ ap (λ (n : ℕ). rest ++ if_stays (not c.reap-gone.result) (c.remove-first.result.start, n)) c.reap-gone.ensures.number;
      log = c.reap-gone.ensures.log;
    }
