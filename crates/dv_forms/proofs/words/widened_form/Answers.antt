use Rattle.std.proofs.Common.{◌≡◌, ℕ, true, List, Option, Some, None, IfSome, sym}
use Rattle.std.proofs.Math.Bool.{or-true}
use Rattle.dv_forms.specs.declared.want.CallKind.{CallKind}
use Rattle.dv_forms.specs.Words.{has_word, may_stand, narrower, own_forms}
use Rattle.dv_forms.proofs.words.widened_form.Goals as goal

-- a word of the narrower place may stand at the place
inner_stands : (c n : CallKind) (word : List ℕ) (version : ℕ) → narrower c ≡ Some n
    → has_word (own_forms n) word version ≡ true → may_stand c word version ≡ true
inner_stands c n word version is h = rw (is, h) (or-true (has_word (own_forms c) word version))

weaker : {X : Type 0} (P Q : X → Type 0) → ((x : X) → P x → Q x) → (o : Option X) → IfSome o P → IfSome o Q
weaker P Q k None h = tt
weaker P Q k (Some x) h = k x h

pub returns-in-Some-narrower-clause-since : goal.returns-in-Some-narrower-clause-since
returns-in-Some-narrower-clause-since c =
    weaker _ _ (λ form since version late. inner_stands c.args.call c.in-Some-narrower.inner c.args.word.now version
    (sym c.in-Some-narrower.ensures) (since version late))
    c.own_form-in-Some-narrower.result c.own_form-in-Some-narrower.ensures.since
