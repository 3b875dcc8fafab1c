-- A tree may hold itself through `Shared`: where it keeps what it holds.
use mathlib.Core.Former.{Former, this, const, pair, via}
use mathlib.Core.Path.{refl}
use base.Fml.{ftrue}
use base.Stored.{gnil}
use denote.Hole.Fix.{over}
use denote.HoleLaws.{Alike}
use denote.HolePlaces.{Recodes, struct_places, laid, one_value}
use denote.Memory.{part_of}
use denote.Model.Placed.{view_places}
use denote.Param.Weighed.{Weighed}
use denote.RattleType.{RattleType}
use denote.RawPtr.{Ptr}
use denote.Sharing.{nothing}
use Rattle.std.specs.contracts.alloc.Global as global
use Rattle.std.specs.contracts.sync.Arc as arc
use Rattle.std.specs.contracts.impls.GlobalAllocator.TheImpl.{ghosts}
use Rattle.std.specs.declared.alloc.Global.{Global}
use Rattle.std.specs.declared.sync.Arc.{Arc}
use Rattle.dv_value.specs.contracts.shared.Shared as shared
use Rattle.dv_value.specs.contracts.shared.Shared.TheInside as inside
use Rattle.dv_value.specs.declared.shared.Shared.TheInside.{Inside}
use Rattle.dv_value.specs.declared.shared.Shared.TheView.{view, invariant}

abbrev pub the_former : Former {0} → Former {0}
the_former held = held

abbrev pub the_weighed : {held : Former {0}} → Weighed held → Weighed (the_former held)
the_weighed weighed = weighed

-- the one field, an `Arc`: its pointer, and its value
abbrev field : Former {0}
field = via (pair (const Ptr) this) Inside (λ X a. (a.held.ptr, a.held.value))
    (λ X v. record { held = record { ptr = v.0; value = v.1 } }) (λ X a. refl) (λ X v. refl)

abbrev holding : {X Y : Type 0} → Arc X Global → Y → Arc Y Global
holding a y = record { ptr = a.ptr; value = y }

abbrev arc_of : RattleType → RattleType
arc_of A = arc.the_row A global.the_row ghosts

module _ (A B : RattleType) (h : A.Denot → B.Denot) where
  arc_places : Alike A B h → Alike (arc_of A) (arc_of B) (λ b. holding b (h b.value))
  unfolding part_of
  arc_places alike = record {
    mir_same = λ i. (arc_of (one_value A (alike.mir_same i) (λ _. ftrue) (λ _ _. nothing) gnil)).mir;
    own_same =
        λ b i.
        (arc_of (one_value A (alike.mir_same i) (alike.own_same b.value i) (alike.shr_same b.value i) gnil)).own_val
        (holding b tt);
    shr_same =
        λ b i.
        (arc_of (one_value A (alike.mir_same i) (alike.own_same b.value i) (alike.shr_same b.value i) gnil)).shr_at
        (holding b tt);
  }

  pub the_places : Alike A B h → Alike (shared.the_row A) (shared.the_row B) ((the_former this).map A.Denot B.Denot h)
  the_places alike =
      view_places field this view (λ X Y k u. refl) (λ X u. refl) A.Denot B.Denot h (shared.the_row A).coded
      (shared.the_row B).coded
      (invariant A.Denot) (invariant B.Denot) (λ u p q. refl) (λ u p q. refl) (λ u e. tt) (λ u e. tt)
      (over (inside.the_row A)) (over (inside.the_row B))
      (struct_places (inside.the_type A) (inside.the_type B) ((λ b. holding b (h b.value)), tt) _ (λ d. refl) refl (
        laid _ _ _ (arc_places alike),
        tt,
      ))

  pub the_codes_placed : Recodes A B h
      → Recodes (shared.the_row A) (shared.the_row B) ((the_former this).map A.Denot B.Denot h)
  the_codes_placed recodes b = recodes b
