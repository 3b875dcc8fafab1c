-- A tree may hold itself through `Boxed`: where it keeps what it holds.
use mathlib.Core.Former.{Former, this, const, pair, via}
use mathlib.Core.Path.{refl}
use base.Fml.{ftrue}
use base.Stored.{gnil}
use denote.Hole.Fix.{over}
use denote.HoleLaws.{Alike}
use denote.HolePlaces.{Recodes, struct_places, laid, one_value}
use denote.Memory.{part_of}
use denote.Model.Placed.{view_places}
use denote.Param.Weighed.{Weighed}
use denote.RattleType.{RattleType}
use denote.RawPtr.{Ptr}
use denote.Sharing.{nothing}
use Rattle.std.specs.contracts.alloc.Global as global
use Rattle.std.specs.contracts.boxed.Box as box
use Rattle.std.specs.contracts.impls.GlobalAllocator.TheImpl.{ghosts}
use Rattle.std.specs.declared.alloc.Global.{Global}
use Rattle.std.specs.declared.boxed.Box.{Box}
use Rattle.dv_value.specs.contracts.boxed.Boxed as boxed
use Rattle.dv_value.specs.contracts.boxed.Boxed.TheInside as inside
use Rattle.dv_value.specs.declared.boxed.Boxed.TheInside.{Inside}
use Rattle.dv_value.specs.declared.boxed.Boxed.TheView.{view, invariant}

abbrev pub the_former : Former {0} → Former {0}
the_former held = held

abbrev pub the_weighed : {held : Former {0}} → Weighed held → Weighed (the_former held)
the_weighed weighed = weighed

-- the one field, a `Box`: its pointer and allocator, and its value
abbrev field : Former {0}
field = via (pair (const (Ptr × Global)) this) Inside (λ X a. ((a.held.ptr, a.held.alloc), a.held.value))
    (λ X v. record { held = record { ptr = v.0.0; alloc = v.0.1; value = v.1 } }) (λ X a. refl) (λ X v. refl)

abbrev holding : {X Y : Type 0} → Box X Global → Y → Box Y Global
holding b y = record { ptr = b.ptr; alloc = b.alloc; value = y }

abbrev box_of : RattleType → RattleType
box_of A = box.the_row A global.the_row ghosts

module _ (A B : RattleType) (h : A.Denot → B.Denot) where
  box_places : Alike A B h → Alike (box_of A) (box_of B) (λ b. holding b (h b.value))
  unfolding part_of
  box_places alike = record {
    mir_same = λ i. (box_of (one_value A (alike.mir_same i) (λ _. ftrue) (λ _ _. nothing) gnil)).mir;
    own_same =
        λ b i.
        (box_of (one_value A (alike.mir_same i) (alike.own_same b.value i) (alike.shr_same b.value i) gnil)).own_val
        (holding b tt);
    shr_same =
        λ b i.
        (box_of (one_value A (alike.mir_same i) (alike.own_same b.value i) (alike.shr_same b.value i) gnil)).shr_at
        (holding b tt);
  }

  pub the_places : Alike A B h → Alike (boxed.the_row A) (boxed.the_row B) ((the_former this).map A.Denot B.Denot h)
  the_places alike =
      view_places field this view (λ X Y k u. refl) (λ X u. refl) A.Denot B.Denot h (boxed.the_row A).coded
      (boxed.the_row B).coded
      (invariant A.Denot) (invariant B.Denot) (λ u p q. refl) (λ u p q. refl) (λ u e. tt) (λ u e. tt)
      (over (inside.the_row A)) (over (inside.the_row B))
      (struct_places (inside.the_type A) (inside.the_type B) ((λ b. holding b (h b.value)), tt) _ (λ d. refl) refl (
        laid _ _ _ (box_places alike),
        tt,
      ))

  pub the_codes_placed : Recodes A B h
      → Recodes (boxed.the_row A) (boxed.the_row B) ((the_former this).map A.Denot B.Denot h)
  the_codes_placed recodes b = recodes b
