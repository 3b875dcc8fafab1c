-- A line of which a prefix was written.
use Rattle.std.proofs.Common.{◌≡◌, ℕ, List, [], ◌∷◌, ◌++◌, Option, IfErr, Result, Ok, Err, subst, sym}
use Rattle.serde_json.specs.Data.{Data}
use Rattle.serde_json.specs.Written.{IsInOrder}
use Rattle.dv_journal.specs.Sink.{AppendsPrefix}
use Rattle.dv_language.specs.Language.{GivesUp, IsLanguage}
use Rattle.dv_language.specs.declared.language.LanguageFault.{LanguageFault}
use Rattle.dv_language.specs.declared.language.LanguageFault.TheVariants.{WriteFault}

pub line_cut : {A : Type 0} (r : Result A LanguageFault) (d : Data) (line bytes : List ℕ) (before after : Option (List ℕ))
    → IfErr r (λ fault. fault ≡ WriteFault) → IsLanguage d → IsInOrder line d → bytes ≡ line ++ 10 ∷ []
    → AppendsPrefix before after bytes → IfErr r (λ fault. GivesUp fault before after)
line_cut (Ok x) d line bytes before after is says order whole cut = tt
line_cut (Err fault) d line bytes before after is says order whole cut =
    subst (λ f. GivesUp f before after) (sym is) (d, line, says, order, subst (AppendsPrefix before after) whole cut)
