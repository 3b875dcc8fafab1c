use Rattle.std.proofs.lemmas.Result.{IfOk-weaker}
use Rattle.serde_json.specs.View.{view}
use Rattle.dv_why.specs.Why.{IsToldOf}
use Rattle.dv_why.proofs.Told.{json_told}
use Rattle.dv_why.proofs.why.refusal.Goals as goal

pub returns-in-BadVersion : goal.returns-in-BadVersion
returns-in-BadVersion c =
    let fault = c.args.fault in
    let bytes = c.args.bytes.now in
    IfOk-weaker c.of_json.result _ (λ told. IsToldOf fault bytes (view told))
    (λ told h. json_told fault bytes (view told) c.in-BadVersion.is h) c.of_json.ensures
