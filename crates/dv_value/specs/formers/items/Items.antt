-- A tree may hold itself through `Items`: where they keep what they hold.
use mathlib.Core.Former.{Former, this, list, via, children}
use mathlib.Core.List.{List, []}
use mathlib.Core.Path.{◌≡◌, refl, sym}
use base.Stored.{code_map}
use denote.Hole.Carrier.{listed, list-listed}
use denote.Hole.Fix.{over}
use denote.HoleLaws.{Alike}
use denote.HolePlaces.{Recodes, struct_places, laid}
use denote.Model.Placed.{view_places}
use denote.Param.Weighed.{Weighed, w_list}
use denote.RattleType.{RattleType}
use Rattle.std.specs.contracts.alloc.Global as global
use Rattle.std.specs.contracts.impls.GlobalAllocator.TheImpl.{ghosts}
use Rattle.std.specs.declared.alloc.Global.{Global}
use Rattle.std.specs.formers.vec.Vec as vec
use Rattle.dv_value.specs.contracts.items.Items as items
use Rattle.dv_value.specs.contracts.items.Items.TheInside as inside
use Rattle.dv_value.specs.declared.items.Items.TheInside.{Inside}
use Rattle.dv_value.specs.declared.items.Items.TheView.{view, invariant}

abbrev pub the_former : Former {0} → Former {0}
the_former held = list held

abbrev pub the_weighed : {held : Former {0}} → Weighed held → Weighed (the_former held)
the_weighed weighed = w_list weighed

pub the_empty : List ⊥
the_empty = []

abbrev pub the_items : (X : Type 0) → List X → List X
the_items X xs = xs

pub the_items_listed : (X : Type 0) (xs : List X) → listed _ (children (the_former this) X xs) ≡ the_items X xs
the_items_listed X xs = list-listed X xs

-- the one field, a `Vec`
abbrev field : Former {0}
field =
    via (vec.the_former this Global) Inside (λ X a. a.items) (λ X v. record { items = v }) (λ X a. refl) (λ X v. refl)

module _ (A B : RattleType) (h : A.Denot → B.Denot) where
  pub the_places : Alike A B h → Alike (items.the_row A) (items.the_row B) ((the_former this).map A.Denot B.Denot h)
  the_places alike =
      view_places field (list this) view (λ X Y k u. refl) (λ X u. refl) A.Denot B.Denot h (items.the_row A).coded
      (items.the_row B).coded
      (invariant A.Denot) (invariant B.Denot) (λ u p q. refl) (λ u p q. refl) (λ u e. tt) (λ u e. tt)
      (over (inside.the_row A)) (over (inside.the_row B))
      (struct_places (inside.the_type A) (inside.the_type B) (vec.mapped h, tt) _ (λ d. refl) refl (
        laid _ _ _ (vec.the_places global.the_row ghosts A B h alike),
        tt,
      ))

  pub the_codes_placed : Recodes A B h
      → Recodes (items.the_row A) (items.the_row B) ((the_former this).map A.Denot B.Denot h)
  the_codes_placed recodes xs = sym (code_map A.coded.code B.coded.code h (λ x. sym (recodes x)) xs)
