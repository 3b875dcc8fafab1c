use Rattle.std.proofs.lemmas.Iterator.{YieldsList-from_chars, YieldsList-from_take, text_from_collect}
use Rattle.dv_why.specs.Why.{first_characters}
use Rattle.dv_why.specs.declared.line.TheConstants.{MOST_SHOWN}
use Rattle.dv_why.proofs.line.shown.Goals as goal

pub returns : goal.returns
unfolding first_characters
returns c =
    let all = YieldsList-from_take MOST_SHOWN (YieldsList-from_chars c.args.text.now c.utf8.text cc) cc in
    text_from_collect c.collect.result c.collect.ensures.ran all
