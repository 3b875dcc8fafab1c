use Rattle.std.proofs.Common.{◌∙◌, ap, sym}
use Rattle.dv_objects.specs.Names.{number_of}
use Rattle.dv_objects.proofs.NamesLemmas.{number_of_shown}
use Rattle.dv_objects.proofs.names.Names.find.Goals as goal

pub returns : goal.returns
returns g c =
    c.copied.ensures ∙ c.get.ensures.value
    ∙ sym (number_of_shown (λ k. k.now) c.args.name.now c.self.inside.bound.entries)
    ∙ ap (number_of c.args.name.now) c.self.view_is
