use Rattle.std.proofs.Common.{◌≡◌, ◌∷◌, ◌++◌, [], rules, string_bytes}
use Rattle.dv_json.proofs.Cuts.{on_err}
use Rattle.dv_json.proofs.printing.end_line.Goals as goal

pub returns-in_err-write_when_full-clause-err : goal.returns-in_err-write_when_full-clause-err
returns-in_err-write_when_full-clause-err g c =
    let ended : string_bytes c.push.new.self ≡ string_bytes c.args.gathered.now ++ 10 ∷ [] = search rules in
    on_err c.from_residual-in_err-write_when_full.result _ (rw ended at c.in_err-write_when_full.ensures.err)
