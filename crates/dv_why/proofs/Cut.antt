-- The line of a script of which a prefix was written.
use Rattle.std.proofs.Common.{◌≡◌, ℕ, ◌+◌, List, [], ◌∷◌, ◌++◌, Option, IfErr, Result, Ok, Err, subst, sym}
use Rattle.dv_forms.specs.declared.limits.TheConstants.{WIDEST_BYTES}
use Rattle.dv_journal.specs.Sink.{AppendsPrefix}
use Rattle.dv_reader.specs.declared.error.ScriptFault.{ScriptFault}
use Rattle.dv_source.specs.Source.{IsFrontOf}
use Rattle.dv_why.specs.Explaining.{GivesUp}
use Rattle.dv_why.specs.Why.{Answers}
use Rattle.dv_why.specs.declared.explaining.WhyFault.{WhyFault}
use Rattle.dv_why.specs.declared.explaining.WhyFault.TheVariants.{WriteFault}

pub line_cut : {A : Type 0} (r : Result A WhyFault) (left before after : Option (List ℕ)) (bytes line said : List ℕ)
    (fault : Option ScriptFault) → IfErr r (λ f. f ≡ WriteFault) → IsFrontOf left (WIDEST_BYTES + 1) bytes
    → Answers bytes fault line → said ≡ line ++ 10 ∷ [] → AppendsPrefix before after said
    → IfErr r (λ f. GivesUp f left before after)
line_cut (Ok x) left before after bytes line said fault is front answers whole cut = tt
line_cut (Err f) left before after bytes line said fault is front answers whole cut =
    subst (λ g. GivesUp g left before after) (sym is)
    (bytes, line, fault, front, answers, subst (AppendsPrefix before after) whole cut)
