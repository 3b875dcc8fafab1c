use Rattle.std.proofs.Common.{ap, sym, ◌∙◌}
use Rattle.dv_objects.specs.Inlines.{resume_at}
use Rattle.dv_objects.proofs.InlinesLemmas.{found_at, none_keyless, kept_put, resume_none, reached_body, kept_reached}
use Rattle.dv_objects.proofs.InlinesLemmas.{resume_some}
use Rattle.dv_objects.proofs.inlines.Inlines.resume.Goals as goal

pub invariant_of-self-in_err-key : goal.invariant_of-self-in_err-key
invariant_of-self-in_err-key c =
    kept_put c.self.inside.parked c.self.inside.kept.items c.args.place c.resume.new.self
    (none_keyless c.args.input c.in-Some.waiting.now c.resume.new.self c.in_err-key.ensures) c.self.invariant

pub returns-in_err-key : goal.returns-in_err-key
returns-in_err-key c =
    let found = found_at c.self.inside.kept.items c.args.place c.in-Some.waiting.now c.in-Some.ensures.item.3.0
    c.in-Some.ensures.value in
    rw c.from_residual.ensures
    (resume_none c.self.inside.parked c.args.place c.self.inside.kept.items c.args.input c.in-Some.waiting.now
    c.resume.new.self found c.in_err-key.ensures ∙ ap (resume_at c.args.place c.args.input) c.self.view_is)

pub invariant_of-self-in_default-unpark : goal.invariant_of-self-in_default-unpark
invariant_of-self-in_default-unpark c =
    let found = found_at c.self.inside.kept.items c.args.place c.in-Some.waiting.now c.in-Some.ensures.item.3.0
    c.in-Some.ensures.value in
    kept_reached c.self.inside.parked c.unpark.new.self c.args.place c.self.inside.kept.items c.args.input
    c.in_ok-key.input c.in-Some.waiting.now c.resume.new.self c.in_ok-key.key c.self.invariant found c.in_ok-key.ensures
    c.unpark.ensures.rest

pub returns-in_default-unpark : goal.returns-in_default-unpark
returns-in_default-unpark c =
    let found = found_at c.self.inside.kept.items c.args.place c.in-Some.waiting.now c.in-Some.ensures.item.3.0
    c.in-Some.ensures.value in
    absurd (reached_body c.self.inside.parked c.args.place c.self.inside.kept.items c.args.input c.in_ok-key.input
    c.in-Some.waiting.now c.resume.new.self c.in_ok-key.key c.self.invariant found c.in_ok-key.ensures
    (sym c.in_default-unpark.ensures.value))

pub invariant_of-self-2 : goal.invariant_of-self-2
invariant_of-self-2 c =
    let found = found_at c.self.inside.kept.items c.args.place c.in-Some.waiting.now c.in-Some.ensures.item.3.0
    c.in-Some.ensures.value in
    kept_reached c.self.inside.parked c.unpark.new.self c.args.place c.self.inside.kept.items c.args.input
    c.in_ok-key.input c.in-Some.waiting.now c.resume.new.self c.in_ok-key.key c.self.invariant found c.in_ok-key.ensures
    c.unpark.ensures.rest

pub returns : goal.returns
returns c =
    let found = found_at c.self.inside.kept.items c.args.place c.in-Some.waiting.now c.in-Some.ensures.item.3.0
    c.in-Some.ensures.value in
    resume_some c.self.inside.parked c.unpark.new.self c.args.place c.self.inside.kept.items c.args.input
    c.in_ok-key.input c.in-Some.waiting.now c.resume.new.self c.in_ok-key.key c.in-Some-unpark.body c.self.invariant
    found
    c.in_ok-key.ensures (sym c.in-Some-unpark.ensures.value) c.unpark.ensures.rest
    ∙ ap (resume_at c.args.place c.args.input) c.self.view_is
