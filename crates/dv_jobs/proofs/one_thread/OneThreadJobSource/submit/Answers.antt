use Rattle.std.proofs.Common.{rules, ◌≡◌, ◌++◌, ◌∷◌, [], length}
use Rattle.dv_jobs.proofs.JobLemmas.{one_more, one_more_in_row, room_for_one}
use Rattle.dv_jobs.proofs.one_thread.OneThreadJobSource.submit.Goals as goal

pub invariant_of-self-2 : goal.invariant_of-self-2
invariant_of-self-2 g c =
    let grown : c.push_reserved.new.self.items ≡ c.self.inside.answers.items ++ c.answer.result ∷ [] = search rules in
    let row = one_more c.self.inside.answers.items _ c.answer.result
    (length c.self.inside.answers.items) c.args.work grown (search rules) (search rules) in (
      one_more_in_row c.self.inside.answers.items _ c.args.work c.self.invariant.0 row,
      room_for_one c.self.inside.answers.items _ c.answer.result (search rules) grown,
    )
