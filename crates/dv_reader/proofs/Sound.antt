-- A document that answers all six questions at once answers each.
use Rattle.std.proofs.Common.{◌≡◌, suc, true}
use Rattle.serde_json.specs.Data.{Data}
use Rattle.dv_script.specs.declared.limits.TheConstants.{MOST_LEVELS}
use Rattle.dv_forms.specs.declared.want.Want.TheVariants as want
use Rattle.dv_forms.specs.declared.want.Keyed.TheVariants as keyed
use Rattle.dv_grammar.specs.declared.draft.Draft.{Draft}
use Rattle.dv_questions.specs.Questions.{Asked, words, names, classes, pools, bodies, cooperators, every}
use Rattle.dv_questions.proofs.Weaker.{IsWeaker, weaker, words_too, names_too, classes_too, pools_too, bodies_too}
use Rattle.dv_questions.proofs.Weaker.{cooperators_too}
use Rattle.dv_reader.specs.Refusal.{answers}
use Rattle.dv_reader.specs.Passes.{IsSound}

-- the question that asks all at once of a draft
abbrev pub every_of : Draft → Asked
every_of draft =
    every draft.version draft.script.classes draft.script.pools draft.script.bodies draft.script.cooperators

pub sound : (d : Data) (draft : Draft) → answers (every_of draft) d draft ≡ true → IsSound d draft
sound d draft h =
    let v = draft.version in
    let table = draft.script.classes in
    let ps = draft.script.pools in
    let bs = draft.script.bodies in
    let cs = draft.script.cooperators in
    let each : (a : Asked) → IsWeaker (every v table ps bs cs) a → answers a d draft ≡ true =
    λ a weak. weaker (every v table ps bs cs) a weak (suc MOST_LEVELS) (want.Keyed (keyed.Script v)) d h in
    record {
      words_suit = each (words v) (words_too v table ps bs cs);
      names_suit = each (names v) (names_too v table ps bs cs);
      classes_suit = each (classes table) (classes_too v table ps bs cs);
      pools_suit = each (pools ps) (pools_too v table ps bs cs);
      bodies_suit = each (bodies bs) (bodies_too v table ps bs cs);
      cooperators_suit = each (cooperators cs) (cooperators_too v table ps bs cs);
    }
