-- Two runs of one script in the same batches lead to one world.
use Rattle.std.proofs.Common.{◌≡◌, ℕ, All, List, [], ◌∷◌, ◌++◌, Some, Contains, sym, ap, subst, ◌∙◌, inl, inr}
use Rattle.std.proofs.lemmas.List.Elements.{All-head, All-tail}
use Rattle.dv_engine.specs.Report.{ReportsOf}
use Rattle.dv_engine.specs.declared.report.Report.{Report}
use Rattle.dv_definition.specs.Scripts.{Leads}
use Rattle.dv_journal.specs.Line.{text_of}
use Rattle.dv_journal.specs.declared.journal.Journal.{Journal}
use Rattle.dv_orders.proofs.Listing.{every_order, one_order}
use Rattle.dv_orders.proofs.Members.{In, contains_from, in_from, of_map}
use Rattle.dv_orders.specs.Orders.{empty_batches, orders}
use Rattle.dv_run.specs.Output.{output}
use Rattle.dv_loop.proofs.Leading.{each_script_leads_to_one_world}
use Rattle.dv_reader.proofs.Documents.{one_at_most}
use Rattle.dv_reader.specs.Refusal.{Says}
use Rattle.dv_replay.specs.Laws.{AloneAllIsDecided, AreAlike, BatchesDecide, EveryRunIsListed, EveryRunIsSurveyed}
use Rattle.dv_run.specs.Headline.{IsRun, SaysReport}
use Rattle.dv_script.specs.declared.script.Script.{Script}
use Rattle.dv_world.specs.World.{World}

pub every_run : EveryRunIsListed
every_run script report runs =
    (every_order script report.batches).0 (record { lawful = runs.reports.lawful; complete = runs.complete })

-- two reports that tell of one world are alike
of_one_world : (script : Script) (a b : Report) (w : World) → ReportsOf w a → ReportsOf w b → AreAlike script script a b
of_one_world script a b w one other = record {
  journal = one.journal ∙ sym other.journal;
  outcomes = one.outcomes ∙ sym other.outcomes;
  text =
      ap (λ (j : Journal). text_of script.classes j.entries ++ output script.classes a.outcomes)
      (one.journal ∙ sym other.journal)
      ∙ ap (λ outcomes. text_of script.classes b.journal.entries ++ output script.classes outcomes)
      (one.outcomes ∙ sym other.outcomes);
  stopped = one.stopped ∙ sym other.stopped;
}

-- two runs of a script in the same batches are alike
same_batches : (script : Script) (a b : Report) → IsRun script a → IsRun script b → a.batches ≡ b.batches
    → AreAlike script script a b
same_batches script a b one other same =
    let w = one.reports.world in
    let v = other.reports.world in
    let means : Leads script b.batches w = subst (λ batches. Leads script batches w) same one.reports.means in
    let is : v ≡ w = each_script_leads_to_one_world script b.batches v w other.reports.means means in
    of_one_world script a b w one.reports.tells (subst (λ u. ReportsOf u b) is other.reports.tells)

-- an input says one script
one_script : (input : List ℕ) (s t : Script) (a b : Report) → SaysReport (Some input) s a → SaysReport (Some input) t b
    → t ≡ s
one_script input s t a b one other =
    one_at_most other.bytes t s other.says (subst (λ bytes. Says bytes s) (one.read ∙ sym other.read) one.says)

pub batches_decide : BatchesDecide
batches_decide input s t a b one other same =
    let is : t ≡ s = one_script input s t a b one other in
    subst (λ script. AreAlike s script a b) (sym is)
    (same_batches s a b one.runs (subst (λ script. IsRun script b) is other.runs) same)

only_one : {X : Type 0} (x y : X) → In x (y ∷ []) → x ≡ y
only_one x y (inl is) = sym is
only_one x y (inr none) = absurd none

only : {X : Type 0} (x y : X) (xs : List X) → xs ≡ y ∷ [] → Contains xs x → x ≡ y
only x y xs is h = only_one x y (subst (In x) is (in_from x xs h))

pub alone_all_is_decided : AloneAllIsDecided
alone_all_is_decided input s t a b one other none =
    let is : t ≡ s = one_script input s t a b one other in
    let empty = empty_batches s.events in
    let listed : orders s ≡ empty ∷ [] = one_order s none in
    let first : a.batches ≡ empty = only a.batches empty (orders s) listed (every_run s a one.runs) in
    let second : b.batches ≡ empty =
    only b.batches empty (orders s) listed (every_run s b (subst (λ script. IsRun script b) is other.runs)) in
    batches_decide input s t a b one other (first ∙ sym second)

-- what holds of all holds of each
of_each : {X : Type 0} (P : X → Type 0) (x : X) (xs : List X) → All P xs → In x xs → P x
of_each P x [] all h = absurd h
of_each P x (y ∷ ys) all (inl is) = subst P is (All-head P y ys all)
of_each P x (y ∷ ys) all (inr h) = of_each P x ys (All-tail P y ys all) h

pub every_run_is_surveyed : EveryRunIsSurveyed
every_run_is_surveyed format script survey all report runs =
    let listed : In report.batches (orders script) =
    in_from report.batches (orders script) (every_run script report runs) in
    let found =
    of_map (λ (r : Report). r.batches) report.batches all.reports (subst (In report.batches) (sym all.took) listed) in
    let other = found.0 in (
      other,
      contains_from other all.reports found.1,
      same_batches script report other runs (of_each (IsRun script) other all.reports all.runs found.1) (sym found.2),
    )
