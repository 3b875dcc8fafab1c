use Rattle.std.proofs.Common.{◌≡◌, true, false, codes, sym, ◌∙◌}
use Rattle.std.proofs.lemmas.Bool.{leb-true}
use Rattle.serde_json.specs.View.{view}
use Rattle.dv_script.specs.declared.limits.TheConstants.{MOST_BODIES, MOST_CALLERS, MOST_CLASSES, MOST_COOPERATORS}
use Rattle.dv_script.specs.declared.limits.TheConstants.{MOST_POOLS}
use Rattle.dv_forms.specs.Limits.{most_nodes}
use Rattle.dv_reader.specs.Limits.{all_nodes, is_small}
use Rattle.dv_why.specs.Counts.{count_in}
use Rattle.dv_why.specs.Documents.{version_in}
use Rattle.dv_why.specs.Wrong.{many_posts}
use Rattle.dv_why.proofs.Few.{few_small, not_more, not_cut}
use Rattle.dv_why.proofs.counts.too_many.Goals as goal

pub returns-in-Some-clause-wrong : goal.returns-in-Some-clause-wrong
returns-in-Some-clause-wrong c =
    let found = rw c.in-Some.is at c.in_ok-misfit.ensures.wrong in
    many_posts found.0 found.1 found.2

pub returns-clause-wrong : goal.returns-clause-wrong
returns-clause-wrong c =
    let d = view c.args.json.now in
    let draft = c.requires.refused.0 in
    let small : is_small d draft ≡ true = few_small d draft c.requires.shallow c.requires.refused.1.shape (record {
      nodes =
          leb-true (all_nodes d) (most_nodes (version_in d))
          (rw c.version_of-version.ensures at (sym c.in_ok-few.ensures ∙ c.if-not-few.false));
      classes = not_more MOST_CLASSES (count_in (codes "classes") d) (sym c.is_long.ensures ∙ c.if-is_long.false);
      pools = not_more MOST_POOLS (count_in (codes "pools") d) (sym c.is_long-2.ensures ∙ c.if-is_long-2.false);
      bodies = not_more MOST_BODIES (count_in (codes "bodies") d) (sym c.is_long-3.ensures ∙ c.if-is_long-3.false);
      cooperators =
          not_more MOST_COOPERATORS (count_in (codes "cooperators") d)
          (sym c.is_long-4.ensures ∙ c.if-is_long-4.false);
      callers = not_more MOST_CALLERS (count_in (codes "callers") d) (sym c.is_long-5.ensures ∙ c.if-is_long-5.false);
      posts = c.in_ok-misfit.ensures.none c.in_default.is;
      ticks = rw c.items_of.ensures at (not_cut _ _ c.ticks_among.ensures c.if-ticks_among-gt-MOST_TICKS.false);
    }) in
    let large : is_small d draft ≡ false = c.requires.refused.2 in
    cc
