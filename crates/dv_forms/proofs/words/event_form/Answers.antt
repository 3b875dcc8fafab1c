use Rattle.std.proofs.Common.{◌≡◌, true, ◌++◌, refl}
use Rattle.std.proofs.Math.Bool.{or-true}
use Rattle.dv_forms.specs.declared.want.CallKind.TheVariants.{Action, Event}
use Rattle.dv_forms.specs.Words.{apart, has_word, own_forms}
use Rattle.dv_forms.proofs.RowLemmas.{front_none}
use Rattle.dv_forms.proofs.words.event_form.Goals as goal

are_apart : apart (own_forms Event ++ own_forms Action) ≡ true
are_apart = refl

pub returns-in-Some-clause-wants : goal.returns-in-Some-clause-wants
returns-in-Some-clause-wants c =
    rw (
      front_none (own_forms Event) (own_forms Action) c.args.word.now c.args.given c.in-Some.form.0.now are_apart
          c.in-Some.ensures.wants,
      c.in-Some.ensures.wants,
    ) refl

pub returns-in-Some-clause-since : goal.returns-in-Some-clause-since
returns-in-Some-clause-since c = λ version late.
    rw (c.in-Some.ensures.since version late) (or-true (has_word (own_forms Event) c.args.word.now version))
