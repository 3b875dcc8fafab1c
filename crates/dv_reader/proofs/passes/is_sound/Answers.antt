use Rattle.std.proofs.Common.{sym, ap, ◌∙◌}
use Rattle.dv_document.specs.View.{view}
use Rattle.dv_questions.specs.Questions.{every}
use Rattle.dv_reader.specs.Refusal.{answers}
use Rattle.dv_reader.proofs.Sound.{sound}
use Rattle.dv_reader.proofs.passes.is_sound.Goals as goal

pub returns : goal.returns
returns c = λ is.
    let d = view c.args.json in
    let draft = c.args.draft.now in
    let s = draft.script in
    let v = draft.version in
    sound d draft (ap (λ ps. answers (every v s.classes ps s.bodies s.cooperators) d draft)
    (sym c.as_slice-pools.ensures)
    ∙ ap (λ bs. answers (every v s.classes c.as_slice-pools.result.now bs s.cooperators) d draft)
    (sym c.as_slice-bodies.ensures)
    ∙ ap (λ cs. answers (every v s.classes c.as_slice-pools.result.now c.as_slice-bodies.result.now cs) d draft)
    (sym c.as_slice-cooperators.ensures) ∙ sym c.answers.ensures ∙ is)
