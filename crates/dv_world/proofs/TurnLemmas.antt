-- The bodies of the turns of a loop.
use Rattle.std.proofs.Common.{◌≡◌, ℕ, zero, suc, List, [], ◌∷◌, refl, sym, subst, ◌∙◌}
use Rattle.dv_objects.specs.Looping.{after_turns, body_or_last, turn_begun}
use Rattle.dv_objects.specs.declared.looping_call.LoopingCall.{LoopingCall}
use Rattle.dv_script.specs.declared.body.Body.{Body}
use Rattle.dv_world.specs.Laws.{TurnsHaveTheirBodies}

-- where none is left, the body stays
last_stays : (turn : ℕ) (body : Body) → body_or_last turn body [] ≡ body
last_stays zero body = refl
last_stays (suc turn) body = refl

-- a loop by the bodies that are left
by_bodies : (turn : ℕ) (x : LoopingCall) (bodies : List Body) → x.bodies ≡ bodies
    → (after_turns turn x).body ≡ body_or_last turn x.body bodies
by_bodies zero x bodies is = refl
by_bodies (suc turn) x [] is =
    subst (λ (bs : List Body). (after_turns turn (turn_begun bs x)).body ≡ x.body) (sym is)
    (by_bodies turn x [] is ∙ last_stays turn x.body)
by_bodies (suc turn) x (next ∷ rest) is =
    subst (λ (bs : List Body). (after_turns turn (turn_begun bs x)).body ≡ body_or_last turn next rest) (sym is)
    (by_bodies turn (record x { body = next; bodies = rest }) rest refl)

pub turns_have_their_bodies : TurnsHaveTheirBodies
turns_have_their_bodies turn x = by_bodies turn x x.bodies refl
