use Rattle.std.proofs.Common.{◌≡◌, ℕ, List, ◌++◌, ◌∷◌, [], length, ap, sym, ◌∙◌, subst, refl, arith}
use Rattle.std.proofs.lemmas.Grind.{common_steps}
use Rattle.dv_clock.specs.Clock.{IsIndexOf, Joins}
use Rattle.dv_clock.specs.declared.call.Call.{Call}
use Rattle.dv_clock.specs.declared.call.CallState.TheVariants.{Waiting}
use Rattle.dv_clock.proofs.CallsLemmas.{index_with}
use Rattle.dv_clock.proofs.clock.Clock.at.Goals as goal

pub invariant_of-self-2 : goal.invariant_of-self-2
invariant_of-self-2 c =
    let call : Call = record { due = c.args.due; state = Waiting c.args.what } in
    let number : c.len-number.result ≡ length c.self.inside.calls.items = grind (arith, common_steps) in
    let joined = subst (λ (n : ℕ). Joins c.self.inside.waiting c.schedule.new.waiting (c.args.due, n)) number
    c.in_ok-schedule.ensures.joined in
    let grown : IsIndexOf c.schedule.new.waiting (c.self.inside.calls.items ++ call ∷ []) = index_with
    c.self.inside.waiting c.schedule.new.waiting c.self.inside.calls.items call refl c.self.invariant.1 joined in
    let items : c.self.inside.calls.items ++ call ∷ [] ≡ c.add.new.calls.items =
    sym (ap (λ (xs : List Call). xs ++ call ∷ []) c.in_ok-make_room.ensures.kept) ∙ sym c.add.ensures in
    (c.self.invariant.0, subst (λ (xs : List Call). IsIndexOf c.schedule.new.waiting xs) items grown)
