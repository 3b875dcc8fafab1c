use Rattle.std.proofs.Common.{◌∙◌, ap}
use Rattle.dv_posts.specs.Batches.{joined}
use Rattle.dv_posts.specs.Posts.{of}
use Rattle.dv_json.proofs.driving.MarkingDriver.keep.Goals as goal

pub returns-in_ok-remains_of-in-Ok-clause-ends : goal.returns-in_ok-remains_of-in-Ok-clause-ends
returns-in_ok-remains_of-in-Ok-clause-ends g c =
    let end = c.in-Ok.field-0 in
    let comes = c.in-Ok.ensures in
    record {
      world = end.world;
      means = comes.ends.means;
      lawful = comes.ends.lawful;
      complete = λ caller. ap (λ batches. of caller (joined batches)) comes.batches ∙ c.requires.complete caller;
      ran = comes.ends.ran;
      remains = c.in_ok-remains_of-in-Ok.ensures;
    }
