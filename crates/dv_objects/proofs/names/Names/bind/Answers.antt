use Rattle.std.proofs.Common.{◌∙◌, ap}
use Rattle.dv_objects.proofs.NamesLemmas.{shown, with_name_shown}
use Rattle.dv_objects.proofs.names.Names.bind.Goals as goal

pub returns-clause-ok : goal.returns-clause-ok
returns-clause-ok g c =
    rw (← c.self.view_is)
    (ap (shown (λ k. k.now)) c.in_ok-insert.ensures.entries
    ∙ with_name_shown (λ k. k.now) c.args.name c.args.id c.self.inside.bound.entries)
