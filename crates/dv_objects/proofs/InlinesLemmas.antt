-- Keys, and the bodies that are parked under them.
use Rattle.std.proofs.Common.{◌≡◌, ◌≢◌, ◌<◌, ℕ, zero, suc, length, get_or, List, [], ◌∷◌, ◌++◌, Option, None, Some}
use Rattle.std.proofs.Common.{IsSome, true, false, slice_get, slice_set, refl, sym, ap, ◌∙◌, subst}
use Rattle.std.proofs.lemmas.List.{map-append}
use Rattle.std.proofs.lemmas.Option.{slice_get-map, slice_get-get_or}
use Rattle.std.specs.Option.{option_map}
use Rattle.dv_inline.specs.Parked.{Bodies, body_under, Changes}
use Rattle.dv_inline.specs.Position.{Position}
use Rattle.dv_value.specs.declared.value.Value.{Value}
use Rattle.dv_objects.specs.Inlines.{Inlines, GoneOn, gone_on, resume_found, resume_at, end_adding_at, end_adding}
use Rattle.dv_objects.specs.Inlines.{awaited_by}
use Rattle.dv_objects.specs.Inlines.{awaiting, seen, seen_all, IsOther, Lacks, IsApart, IsKept}
use Rattle.dv_objects.specs.Waiting.{body_of, resume, taken, is_adding, added, awaited_of}
use Rattle.dv_objects.specs.declared.waiting.Waiting.{Waiting}
use Rattle.dv_objects.specs.declared.waiting.Waiting.TheVariants.{Nothing, Adding, Arrived, Awaiting}

-- it has no key
abbrev pub IsKeyless : Waiting ℕ → Type 0
IsKeyless Nothing = Unit
IsKeyless Adding = Unit
IsKeyless (Arrived input) = Unit
IsKeyless (Awaiting awaited key) = ⊥

-- it has no key, or this one, under which a body is parked
abbrev pub IsOnly : Bodies → ℕ → Waiting ℕ → Type 0
IsOnly bodies key Nothing = Unit
IsOnly bodies key Adding = Unit
IsOnly bodies key (Arrived input) = Unit
IsOnly bodies key (Awaiting awaited other) = (other ≡ key) × IsSome (body_under bodies other)

-- none has this key but the one at a place
abbrev pub LacksBeside : ℕ → ℕ → List (Waiting ℕ) → Type 0
LacksBeside key place [] = Unit
LacksBeside key zero (waiting ∷ kept) = Lacks key kept
LacksBeside key (suc place) (waiting ∷ kept) = IsOther key waiting × LacksBeside key place kept

-- under every other key is what was there
abbrev pub Stay : Bodies → Bodies → ℕ → Type 0
Stay old new key = (other : ℕ) → other ≢ key → body_under new other ≡ body_under old other

-- one more that doesn't wait
lacks_more : (key : ℕ) (kept : List (Waiting ℕ)) → Lacks key kept → Lacks key (kept ++ Nothing ∷ [])
lacks_more key [] h = (tt, tt)
lacks_more key (w ∷ kept) h = (h.0, lacks_more key kept h.1)

apart_more : (bodies : Bodies) (kept : List (Waiting ℕ)) (w : Waiting ℕ) → IsApart bodies kept w
    → IsApart bodies (kept ++ Nothing ∷ []) w
apart_more bodies kept Nothing h = tt
apart_more bodies kept Adding h = tt
apart_more bodies kept (Arrived input) h = tt
apart_more bodies kept (Awaiting awaited key) h = (h.0, lacks_more key kept h.1)

pub kept_more : (bodies : Bodies) (kept : List (Waiting ℕ)) → IsKept bodies kept → IsKept bodies (kept ++ Nothing ∷ [])
kept_more bodies [] h = (tt, tt)
kept_more bodies (w ∷ kept) h = (apart_more bodies kept w h.0, kept_more bodies kept h.1)

pub seen_more : (bodies : Bodies) (kept : List (Waiting ℕ))
    → seen_all bodies (kept ++ Nothing ∷ []) ≡ seen_all bodies kept ++ Nothing ∷ []
seen_more bodies kept = map-append (seen bodies) kept (Nothing ∷ [])

-- where the bodies stay, and one without a key is put at a place
other_keyless : (key : ℕ) (w : Waiting ℕ) → IsKeyless w → IsOther key w
other_keyless key Nothing h = tt
other_keyless key Adding h = tt
other_keyless key (Arrived input) h = tt
other_keyless key (Awaiting awaited other) h = absurd h

apart_keyless : (bodies : Bodies) (kept : List (Waiting ℕ)) (w : Waiting ℕ) → IsKeyless w → IsApart bodies kept w
apart_keyless bodies kept Nothing h = tt
apart_keyless bodies kept Adding h = tt
apart_keyless bodies kept (Arrived input) h = tt
apart_keyless bodies kept (Awaiting awaited other) h = absurd h

lacks_set : (key : ℕ) (kept : List (Waiting ℕ)) (place : ℕ) (w : Waiting ℕ) → IsOther key w → Lacks key kept
    → Lacks key (slice_set kept place w)
lacks_set key [] place w o h = tt
lacks_set key (x ∷ kept) zero w o h = (o, h.1)
lacks_set key (x ∷ kept) (suc place) w o h = (h.0, lacks_set key kept place w o h.1)

apart_put : (bodies : Bodies) (kept : List (Waiting ℕ)) (place : ℕ) (w x : Waiting ℕ) → IsKeyless w
    → IsApart bodies kept x → IsApart bodies (slice_set kept place w) x
apart_put bodies kept place w Nothing k h = tt
apart_put bodies kept place w Adding k h = tt
apart_put bodies kept place w (Arrived input) k h = tt
apart_put bodies kept place w (Awaiting awaited key) k h = (h.0, lacks_set key kept place w (other_keyless key w k) h.1)

pub kept_put : (bodies : Bodies) (kept : List (Waiting ℕ)) (place : ℕ) (w : Waiting ℕ) → IsKeyless w
    → IsKept bodies kept → IsKept bodies (slice_set kept place w)
kept_put bodies [] place w k h = tt
kept_put bodies (x ∷ kept) zero w k h = (apart_keyless bodies kept w k, h.1)
kept_put bodies (x ∷ kept) (suc place) w k h =
    (apart_put bodies kept place w x k h.0, kept_put bodies kept place w k h.1)

pub seen_put : (bodies : Bodies) (kept : List (Waiting ℕ)) (place : ℕ) (w : Waiting ℕ)
    → seen_all bodies (slice_set kept place w) ≡ slice_set (seen_all bodies kept) place (seen bodies w)
seen_put bodies [] place w = refl
seen_put bodies (x ∷ kept) zero w = refl
seen_put bodies (x ∷ kept) (suc place) w = ap (λ (xs : Inlines). seen bodies x ∷ xs) (seen_put bodies kept place w)

-- where what is under a key changes, those with another key are seen as before
seen_other : (old new : Bodies) (key : ℕ) (w : Waiting ℕ) → Stay old new key → IsOther key w → seen new w ≡ seen old w
seen_other old new key Nothing f h = refl
seen_other old new key Adding f h = refl
seen_other old new key (Arrived input) f h = refl
seen_other old new key (Awaiting awaited other) f h = ap (awaiting awaited) (f other h)

seen_cons : (x y : Waiting Position) (xs ys : Inlines) → x ≡ y → xs ≡ ys → x ∷ xs ≡ y ∷ ys
seen_cons x y xs ys h k = cc

seen_lacking : (old new : Bodies) (key : ℕ) (kept : List (Waiting ℕ)) → Stay old new key → Lacks key kept
    → seen_all new kept ≡ seen_all old kept
seen_lacking old new key [] f h = refl
seen_lacking old new key (w ∷ kept) f h =
    seen_cons _ _ _ _ (seen_other old new key w f h.0) (seen_lacking old new key kept f h.1)

pub seen_set : (old new : Bodies) (key place : ℕ) (kept : List (Waiting ℕ)) (w : Waiting ℕ) → Stay old new key
    → LacksBeside key place kept
    → seen_all new (slice_set kept place w) ≡ slice_set (seen_all old kept) place (seen new w)
seen_set old new key place [] w f h = refl
seen_set old new key zero (x ∷ kept) w f h = ap (λ (xs : Inlines). seen new w ∷ xs) (seen_lacking old new key kept f h)
seen_set old new key (suc place) (x ∷ kept) w f h =
    seen_cons _ _ _ _ (seen_other old new key x f h.0) (seen_set old new key place kept w f h.1)

-- and kept as before
some_stays : (o p : Option Position) → o ≡ p → IsSome p → IsSome o
some_stays o p e h = subst (λ (q : Option Position). IsSome q) (sym e) h

apart_lacking : (old new : Bodies) (key : ℕ) (kept : List (Waiting ℕ)) (w : Waiting ℕ) → Stay old new key
    → IsOther key w → IsApart old kept w → IsApart new kept w
apart_lacking old new key kept Nothing f o h = tt
apart_lacking old new key kept Adding f o h = tt
apart_lacking old new key kept (Arrived input) f o h = tt
apart_lacking old new key kept (Awaiting awaited other) f o h = (some_stays _ _ (f other o) h.0, h.1)

kept_lacking : (old new : Bodies) (key : ℕ) (kept : List (Waiting ℕ)) → Stay old new key → Lacks key kept
    → IsKept old kept → IsKept new kept
kept_lacking old new key [] f l h = tt
kept_lacking old new key (w ∷ kept) f l h =
    (apart_lacking old new key kept w f l.0 h.0, kept_lacking old new key kept f l.1 h.1)

other_only : (bodies : Bodies) (other key : ℕ) (w : Waiting ℕ) → other ≢ key → IsOnly bodies key w → IsOther other w
other_only bodies other key Nothing ne o = tt
other_only bodies other key Adding ne o = tt
other_only bodies other key (Arrived input) ne o = tt
other_only bodies other key (Awaiting awaited same) ne o = λ (p : same ≡ other). ne (sym p ∙ o.0)

apart_only : (bodies : Bodies) (key : ℕ) (kept : List (Waiting ℕ)) (w : Waiting ℕ) → Lacks key kept
    → IsOnly bodies key w → IsApart bodies kept w
apart_only bodies key kept Nothing l o = tt
apart_only bodies key kept Adding l o = tt
apart_only bodies key kept (Arrived input) l o = tt
apart_only bodies key kept (Awaiting awaited same) l o = (o.1, subst (λ (k : ℕ). Lacks k kept) (sym o.0) l)

apart_set : (old new : Bodies) (key place : ℕ) (kept : List (Waiting ℕ)) (w x : Waiting ℕ) → Stay old new key
    → IsOther key x → IsOnly new key w → IsApart old kept x → IsApart new (slice_set kept place w) x
apart_set old new key place kept w Nothing f l o h = tt
apart_set old new key place kept w Adding f l o h = tt
apart_set old new key place kept w (Arrived input) f l o h = tt
apart_set old new key place kept w (Awaiting awaited other) f l o h =
    (some_stays _ _ (f other l) h.0, lacks_set other kept place w (other_only new other key w l o) h.1)

pub kept_set : (old new : Bodies) (key place : ℕ) (kept : List (Waiting ℕ)) (w : Waiting ℕ) → Stay old new key
    → LacksBeside key place kept → IsOnly new key w → IsKept old kept → IsKept new (slice_set kept place w)
kept_set old new key place [] w f l o h = tt
kept_set old new key zero (x ∷ kept) w f l o h = (apart_only new key kept w l o, kept_lacking old new key kept f l h.1)
kept_set old new key (suc place) (x ∷ kept) w f l o h =
    (apart_set old new key place kept w x f l.0 o h.0, kept_set old new key place kept w f l.1 o h.1)

none_some : (o : Option Position) → o ≡ None → IsSome o → ⊥
none_some None e h = cc
none_some (Some body) e h = cc

some_is : (o : Option Position) (body : Position) → o ≡ Some body → IsSome o
some_is o body e = subst (λ (q : Option Position). IsSome q) (sym e) refl

-- under a vacant key none is kept
other_vacant : (bodies : Bodies) (key : ℕ) (kept : List (Waiting ℕ)) (w : Waiting ℕ) → body_under bodies key ≡ None
    → IsApart bodies kept w → IsOther key w
other_vacant bodies key kept Nothing v h = tt
other_vacant bodies key kept Adding v h = tt
other_vacant bodies key kept (Arrived input) v h = tt
other_vacant bodies key kept (Awaiting awaited other) v h =
    λ (p : other ≡ key). none_some (body_under bodies other) (ap (body_under bodies) p ∙ v) h.0

pub vacant_lacks : (bodies : Bodies) (key : ℕ) (kept : List (Waiting ℕ)) → body_under bodies key ≡ None
    → IsKept bodies kept → Lacks key kept
vacant_lacks bodies key [] v h = tt
vacant_lacks bodies key (w ∷ kept) v h = (other_vacant bodies key kept w v h.0, vacant_lacks bodies key kept v h.1)

pub lacks_beside : (key place : ℕ) (kept : List (Waiting ℕ)) → Lacks key kept → LacksBeside key place kept
lacks_beside key place [] h = tt
lacks_beside key zero (w ∷ kept) h = h.1
lacks_beside key (suc place) (w ∷ kept) h = (h.0, lacks_beside key place kept h.1)

-- the key of the one at a place is nobody else's
lacks_found : (other place awaited key : ℕ) (kept : List (Waiting ℕ)) → Lacks other kept
    → slice_get kept place ≡ Some (Awaiting awaited key) → key ≢ other
lacks_found other place awaited key [] l g = absurd cc
lacks_found other zero awaited key (w ∷ kept) l g =
    let same : w ≡ Awaiting awaited key = cc in subst (IsOther other) same l.0
lacks_found other (suc place) awaited key (w ∷ kept) l g = lacks_found other place awaited key kept l.1 g

other_found : (bodies : Bodies) (place awaited key : ℕ) (kept : List (Waiting ℕ)) (w : Waiting ℕ)
    → IsApart bodies kept w → slice_get kept place ≡ Some (Awaiting awaited key) → IsOther key w
other_found bodies place awaited key kept Nothing h g = tt
other_found bodies place awaited key kept Adding h g = tt
other_found bodies place awaited key kept (Arrived input) h g = tt
other_found bodies place awaited key kept (Awaiting earlier other) h g =
    λ (p : other ≡ key). lacks_found other place awaited key kept h.1 g (sym p)

pub found_lacks : (bodies : Bodies) (place awaited key : ℕ) (kept : List (Waiting ℕ)) → IsKept bodies kept
    → slice_get kept place ≡ Some (Awaiting awaited key) → LacksBeside key place kept
found_lacks bodies place awaited key [] h g = tt
found_lacks bodies zero awaited key (w ∷ kept) h g =
    let same : w ≡ Awaiting awaited key = cc in (subst (IsApart bodies kept) same h.0).1
found_lacks bodies (suc place) awaited key (w ∷ kept) h g =
    (other_found bodies place awaited key kept w h.0 g, found_lacks bodies place awaited key kept h.1 g)

-- and its body is parked
pub found_body : (bodies : Bodies) (place awaited key : ℕ) (kept : List (Waiting ℕ)) → IsKept bodies kept
    → slice_get kept place ≡ Some (Awaiting awaited key) → IsSome (body_under bodies key)
found_body bodies place awaited key [] h g = absurd cc
found_body bodies zero awaited key (w ∷ kept) h g =
    let same : w ≡ Awaiting awaited key = cc in (subst (IsApart bodies kept) same h.0).0
found_body bodies (suc place) awaited key (w ∷ kept) h g = found_body bodies place awaited key kept h.1 g

pub found_none : (bodies : Bodies) (place awaited key : ℕ) (kept : List (Waiting ℕ)) → IsKept bodies kept
    → slice_get kept place ≡ Some (Awaiting awaited key) → body_under bodies key ≡ None → ⊥
found_none bodies place awaited key kept h g n =
    none_some (body_under bodies key) n (found_body bodies place awaited key kept h g)

-- what is seen at a place
pub seen_at : (bodies : Bodies) (place : ℕ) (kept : List (Waiting ℕ)) (found : Option (Waiting ℕ))
    → slice_get kept place ≡ found → slice_get (seen_all bodies kept) place ≡ option_map (seen bodies) found
seen_at bodies place kept found g = slice_get-map (seen bodies) kept place ∙ ap (option_map (seen bodies)) g

-- one at a place that awaited, whose body was parked under this key, is put there without a key
pub kept_out : (old new : Bodies) (place awaited key : ℕ) (kept : List (Waiting ℕ)) (w : Waiting ℕ) → IsKept old kept
    → slice_get kept place ≡ Some (Awaiting awaited key) → Changes old new key None → IsOnly new key w
    → IsKept new (slice_set kept place w)
kept_out old new place awaited key kept w h g c o =
    kept_set old new key place kept w c.others (found_lacks old place awaited key kept h g) o h

pub seen_out : (old new : Bodies) (place awaited key : ℕ) (kept : List (Waiting ℕ)) (w : Waiting ℕ) → IsKept old kept
    → slice_get kept place ≡ Some (Awaiting awaited key) → Changes old new key None
    → seen_all new (slice_set kept place w) ≡ slice_set (seen_all old kept) place (seen new w)
seen_out old new place awaited key kept w h g c =
    seen_set old new key place kept w c.others (found_lacks old place awaited key kept h g)

-- a body is parked under a vacant key, for the one at a place
pub kept_in : (old new : Bodies) (place awaited key : ℕ) (kept : List (Waiting ℕ)) (body : Position) → IsKept old kept
    → body_under old key ≡ None → Changes old new key (Some body)
    → IsKept new (slice_set kept place (Awaiting awaited key))
kept_in old new place awaited key kept body h v c =
    kept_set old new key place kept (Awaiting awaited key) c.others
    (lacks_beside key place kept (vacant_lacks old key kept v h)) (refl, some_is (body_under new key) body c.changed) h

pub seen_in : (old new : Bodies) (place awaited key : ℕ) (kept : List (Waiting ℕ)) (body : Position) → IsKept old kept
    → body_under old key ≡ None → Changes old new key (Some body)
    → seen_all new (slice_set kept place (Awaiting awaited key))
    ≡ slice_set (seen_all old kept) place (Awaiting awaited body)
seen_in old new place awaited key kept body h v c =
    seen_set old new key place kept (Awaiting awaited key) c.others
    (lacks_beside key place kept (vacant_lacks old key kept v h))
    ∙ ap (λ (o : Option Position). slice_set (seen_all old kept) place (awaiting awaited o)) c.changed

-- one that has a key awaits
pub record Awaits (w : Waiting ℕ) (key : ℕ) : Type 0 where
  pub awaited : ℕ
  pub is : w ≡ Awaiting awaited key

awaits_by : (w : Waiting ℕ) (key : ℕ) → Some key ≡ body_of w → Awaits w key
awaits_by Nothing key e = absurd cc
awaits_by Adding key e = absurd cc
awaits_by (Arrived input) key e = absurd cc
awaits_by (Awaiting awaited other) key e =
    let same : other ≡ key = cc in record { awaited = awaited; is = ap (Awaiting awaited) same }

-- one at a place that awaited has been begun to be added
pub kept_begun : (old new : Bodies) (place key : ℕ) (kept : List (Waiting ℕ)) (w : Waiting ℕ) → IsKept old kept
    → slice_get kept place ≡ Some w → Some key ≡ body_of w → Changes old new key None
    → IsKept new (slice_set kept place Adding)
kept_begun old new place key kept w h g e c =
    let a = awaits_by w key e in
    kept_out old new place a.awaited key kept Adding h (g ∙ ap Some a.is) c tt

pub seen_begun : (old new : Bodies) (place key : ℕ) (kept : List (Waiting ℕ)) (w : Waiting ℕ) → IsKept old kept
    → slice_get kept place ≡ Some w → Some key ≡ body_of w → Changes old new key None
    → seen_all new (slice_set kept place Adding) ≡ slice_set (seen_all old kept) place Adding
seen_begun old new place key kept w h g e c =
    let a = awaits_by w key e in
    seen_out old new place a.awaited key kept Adding h (g ∙ ap Some a.is) c

-- what a step of one answers, and what it leaves
abbrev Left : Type 0
Left = Option (ℕ × Value) × Waiting ℕ

abbrev LeftSeen : Type 0
LeftSeen = Option (Position × Value) × Waiting Position

abbrev left_none : Waiting Position → LeftSeen
left_none w = (None, w)

abbrev left_some : Position → Value → Waiting Position → LeftSeen
left_some body input w = (Some (body, input), w)

abbrev gone_none : Inlines → GoneOn
gone_none inlines = (None, inlines)

abbrev gone_some : Position → Value → Inlines → GoneOn
gone_some body input inlines = (Some (body, input), inlines)

no_pair : (p : ℕ × Value) → Some p ≡ None → ⊥
no_pair p e = cc

no_input : (i : Value) → Some i ≡ None → ⊥
no_input i e = cc

-- what comes reaches no body
keyless_by : (w x : Waiting ℕ) → w ≡ x → IsKeyless x → IsKeyless w
keyless_by w x e h = subst IsKeyless (sym e) h

pub none_keyless : (input : Value) (w left : Waiting ℕ) → (None, left) ≡ resume input w → IsKeyless left
none_keyless input Nothing left e = keyless_by left Nothing (ap (λ (p : Left). p.1) e) tt
none_keyless input Adding left e = keyless_by left (Arrived input) (ap (λ (p : Left). p.1) e) tt
none_keyless input (Arrived earlier) left e = keyless_by left (Arrived earlier) (ap (λ (p : Left). p.1) e) tt
none_keyless input (Awaiting awaited key) left e = absurd (no_pair (key, input) (sym (ap (λ (p : Left). p.0) e)))

none_resumes : (bodies : Bodies) (input : Value) (w left : Waiting ℕ) → (None, left) ≡ resume input w
    → left_none (seen bodies left) ≡ resume input (seen bodies w)
none_resumes bodies input Nothing left e = ap (λ (p : Left). left_none (seen bodies p.1)) e
none_resumes bodies input Adding left e = ap (λ (p : Left). left_none (seen bodies p.1)) e
none_resumes bodies input (Arrived earlier) left e = ap (λ (p : Left). left_none (seen bodies p.1)) e
none_resumes bodies input (Awaiting awaited key) left e = absurd (no_pair (key, input) (sym (ap (λ (p : Left). p.0) e)))

pub resume_none : (bodies : Bodies) (place : ℕ) (kept : List (Waiting ℕ)) (input : Value) (w left : Waiting ℕ)
    → slice_get kept place ≡ Some w → (None, left) ≡ resume input w
    → gone_none (seen_all bodies (slice_set kept place left)) ≡ resume_at place input (seen_all bodies kept)
resume_none bodies place kept input w left g e =
    ap gone_none (seen_put bodies kept place left)
    ∙ ap (λ (l : LeftSeen). gone_on place l (seen_all bodies kept)) (none_resumes bodies input w left e)
    ∙ ap (λ (o : Option (Waiting Position)). resume_found o place input (seen_all bodies kept))
    (sym (seen_at bodies place kept (Some w) g))

-- what comes reaches the body with this key
pub record Reaches (input arrived : Value) (w left : Waiting ℕ) (key : ℕ) : Type 0 where
  pub awaited : ℕ
  pub was : w ≡ Awaiting awaited key
  pub is : left ≡ Nothing
  pub same : arrived ≡ input

pair_is : (p q : ℕ × Value) → Some p ≡ Some q → p ≡ q
pair_is p q e = cc

reaches_by : (input arrived : Value) (w left : Waiting ℕ) (key : ℕ) → (Some (key, arrived), left) ≡ resume input w
    → Reaches input arrived w left key
reaches_by input arrived Nothing left key e = absurd (no_pair (key, arrived) (ap (λ (p : Left). p.0) e))
reaches_by input arrived Adding left key e = absurd (no_pair (key, arrived) (ap (λ (p : Left). p.0) e))
reaches_by input arrived (Arrived earlier) left key e = absurd (no_pair (key, arrived) (ap (λ (p : Left). p.0) e))
reaches_by input arrived (Awaiting awaited other) left key e =
    let pair = pair_is (key, arrived) (other, input) (ap (λ (p : Left). p.0) e) in
    record {
      awaited = awaited;
      was = ap (λ (p : ℕ × Value). Awaiting awaited p.0) (sym pair);
      is = ap (λ (p : Left). p.1) e;
      same = ap (λ (p : ℕ × Value). p.1) pair;
    }

pub reached_body : (old : Bodies) (place : ℕ) (kept : List (Waiting ℕ)) (input arrived : Value) (w left : Waiting ℕ)
    (key : ℕ) → IsKept old kept → slice_get kept place ≡ Some w → (Some (key, arrived), left) ≡ resume input w
    → body_under old key ≡ None → ⊥
reached_body old place kept input arrived w left key h g e n =
    let r = reaches_by input arrived w left key e in
    found_none old place r.awaited key kept h (g ∙ ap Some r.was) n

pub kept_reached : (old new : Bodies) (place : ℕ) (kept : List (Waiting ℕ)) (input arrived : Value) (w left : Waiting ℕ)
    (key : ℕ) → IsKept old kept → slice_get kept place ≡ Some w → (Some (key, arrived), left) ≡ resume input w
    → Changes old new key None → IsKept new (slice_set kept place left)
kept_reached old new place kept input arrived w left key h g e c =
    let r = reaches_by input arrived w left key e in
    kept_out old new place r.awaited key kept left h (g ∙ ap Some r.was) c (subst (IsOnly new key) (sym r.is) tt)

pub resume_some : (old new : Bodies) (place : ℕ) (kept : List (Waiting ℕ)) (input arrived : Value) (w left : Waiting ℕ)
    (key : ℕ) (body : Position) → IsKept old kept → slice_get kept place ≡ Some w
    → (Some (key, arrived), left) ≡ resume input w → body_under old key ≡ Some body → Changes old new key None →
    gone_some body arrived (seen_all new (slice_set kept place left)) ≡ resume_at place input (seen_all old kept)
resume_some old new place kept input arrived w left key body h g e b c =
    let r = reaches_by input arrived w left key e in
    let found = g ∙ ap Some r.was in
    ap (λ (v : Value). gone_some body v (seen_all new (slice_set kept place left))) r.same
    ∙ ap (λ (x : Waiting ℕ). gone_some body input (seen_all new (slice_set kept place x))) r.is
    ∙ ap (gone_some body input) (seen_out old new place r.awaited key kept Nothing h found c)
    ∙ ap (λ (o : Option (Waiting Position)). resume_found o place input (seen_all old kept))
    (sym (seen_at old place kept
    (Some (Awaiting r.awaited key)) found ∙ ap (λ (o : Option Position). Some (awaiting r.awaited o)) b))

-- what came meanwhile is taken out
abbrev Took : Type 0
Took = Option Value × Waiting ℕ

pub took_keyless : (i : Value) (w left : Waiting ℕ) → (Some i, left) ≡ taken w → IsKeyless left
took_keyless i Nothing left e = absurd (no_input i (ap (λ (p : Took). p.0) e))
took_keyless i Adding left e = absurd (no_input i (ap (λ (p : Took). p.0) e))
took_keyless i (Arrived input) left e = keyless_by left Nothing (ap (λ (p : Took). p.1) e) tt
took_keyless i (Awaiting awaited key) left e = absurd (no_input i (ap (λ (p : Took). p.0) e))

input_is : (i j : Value) → Some i ≡ Some j → i ≡ j
input_is i j e = cc

took_added : (bodies : Bodies) (awaited : ℕ) (body : Position) (i : Value) (w left : Waiting ℕ)
    → (Some i, left) ≡ taken w → left_some body i (seen bodies left) ≡ added awaited body (seen bodies w)
took_added bodies awaited body i Nothing left e = absurd (no_input i (ap (λ (p : Took). p.0) e))
took_added bodies awaited body i Adding left e = absurd (no_input i (ap (λ (p : Took). p.0) e))
took_added bodies awaited body i (Arrived input) left e =
    ap (λ (x : Waiting ℕ). left_some body i (seen bodies x)) (ap (λ (p : Took). p.1) e)
    ∙ ap (λ (v : Value). left_some body v Nothing) (input_is i input (ap (λ (p : Took). p.0) e))
took_added bodies awaited body i (Awaiting earlier key) left e = absurd (no_input i (ap (λ (p : Took). p.0) e))

pub end_some : (bodies : Bodies) (place awaited : ℕ) (kept : List (Waiting ℕ)) (body : Position) (i : Value)
    (w left : Waiting ℕ) → slice_get kept place ≡ Some w → (Some i, left) ≡ taken w
    → gone_some body i (seen_all bodies (slice_set kept place left))
    ≡ end_adding place awaited body (seen_all bodies kept)
end_some bodies place awaited kept body i w left g e =
    ap (gone_some body i) (seen_put bodies kept place left)
    ∙ ap (λ (l : LeftSeen). gone_on place l (seen_all bodies kept)) (took_added bodies awaited body i w left e)
    ∙ ap (λ (o : Option (Waiting Position)). end_adding_at o place awaited body (seen_all bodies kept))
    (sym (seen_at bodies place kept (Some w) g))

-- nothing came meanwhile
pub took_none : (w left : Waiting ℕ) → (None, left) ≡ taken w → left ≡ w
took_none Nothing left e = ap (λ (p : Took). p.1) e
took_none Adding left e = ap (λ (p : Took). p.1) e
took_none (Arrived input) left e = absurd (no_input input (sym (ap (λ (p : Took). p.0) e)))
took_none (Awaiting awaited key) left e = ap (λ (p : Took). p.1) e

waiting_is : (w x : Waiting ℕ) → Some w ≡ Some x → w ≡ x
waiting_is w x e = cc

-- what was found is put back
set_found : (kept : List (Waiting ℕ)) (place : ℕ) (w : Waiting ℕ) → slice_get kept place ≡ Some w
    → slice_set kept place w ≡ kept
set_found [] place w g = refl
set_found (x ∷ kept) zero w g = ap (λ (y : Waiting ℕ). y ∷ kept) (sym (waiting_is x w g))
set_found (x ∷ kept) (suc place) w g = ap (λ (l : List (Waiting ℕ)). x ∷ l) (set_found kept place w g)

-- so all is as it was, where nothing came and nothing was parked
pub none_put : (old new : Bodies) (place : ℕ) (kept : List (Waiting ℕ)) (w left : Waiting ℕ)
    → slice_get kept place ≡ Some w → (None, left) ≡ taken w → new ≡ old
    → seen_all new (slice_set kept place left) ≡ seen_all old kept
none_put old new place kept w left g e h =
    ap (λ (b : Bodies). seen_all b (slice_set kept place left)) h
    ∙ ap (λ (x : Waiting ℕ). seen_all old (slice_set kept place x)) (took_none w left e)
    ∙ ap (seen_all old) (set_found kept place w g)

none_added_by : (awaited earlier : ℕ) (body : Position) (o : Option Position)
    → left_none (awaiting earlier o) ≡ added awaited body (awaiting earlier o)
none_added_by awaited earlier body None = refl
none_added_by awaited earlier body (Some other) = refl

none_added : (bodies : Bodies) (awaited : ℕ) (body : Position) (w left : Waiting ℕ) → (None, left) ≡ taken w
    → is_adding left ≡ false → left_none (seen bodies left) ≡ added awaited body (seen bodies w)
none_added bodies awaited body Nothing left e n = ap (λ (p : Took). left_none (seen bodies p.1)) e
none_added bodies awaited body Adding left e n =
    let no : true ≡ false = sym (ap (λ (p : Took). is_adding p.1) e) ∙ n in absurd cc
none_added bodies awaited body (Arrived input) left e n = absurd (no_input input (sym (ap (λ (p : Took). p.0) e)))
none_added bodies awaited body (Awaiting earlier key) left e n =
    ap (λ (p : Took). left_none (seen bodies p.1)) e ∙ none_added_by awaited earlier body (body_under bodies key)

pub end_none : (bodies : Bodies) (place awaited : ℕ) (kept : List (Waiting ℕ)) (body : Position) (w left : Waiting ℕ)
    → slice_get kept place ≡ Some w → (None, left) ≡ taken w → is_adding left ≡ false
    → gone_none (seen_all bodies (slice_set kept place left)) ≡ end_adding place awaited body (seen_all bodies kept)
end_none bodies place awaited kept body w left g e n =
    let same = took_none w left e in
    ap (λ (x : Waiting ℕ). gone_none (seen_all bodies (slice_set kept place x))) same
    ∙ ap gone_none (seen_put bodies kept place w)
    ∙ ap (λ (x : Waiting ℕ). gone_none (slice_set (seen_all bodies kept) place (seen bodies x))) (sym same)
    ∙ ap (λ (l : LeftSeen). gone_on place l (seen_all bodies kept)) (none_added bodies awaited body w left e n)
    ∙ ap (λ (o : Option (Waiting Position)). end_adding_at o place awaited body (seen_all bodies kept))
    (sym (seen_at bodies place kept (Some w) g))

-- it is being added, and awaits from then on
adding_is : (w : Waiting ℕ) → is_adding w ≡ true → w ≡ Adding
adding_is Nothing e = absurd cc
adding_is Adding e = refl
adding_is (Arrived input) e = absurd cc
adding_is (Awaiting awaited key) e = absurd cc

pub end_adds : (old new : Bodies) (place awaited key : ℕ) (kept : List (Waiting ℕ)) (body : Position)
    (w left : Waiting ℕ) → IsKept old kept → slice_get kept place ≡ Some w → (None, left) ≡ taken w
    → is_adding left ≡ true → body_under old key ≡ None → Changes old new key (Some body) →
    gone_none (seen_all new (slice_set kept place (Awaiting awaited key)))
    ≡ end_adding place awaited body (seen_all old kept)
end_adds old new place awaited key kept body w left h g e a v c =
    let is : w ≡ Adding = sym (took_none w left e) ∙ adding_is left a in
    ap gone_none (seen_in old new place awaited key kept body h v c)
    ∙ ap (λ (o : Option (Waiting Position)). end_adding_at o place awaited body (seen_all old kept))
    (sym (seen_at old place kept (Some Adding) (g ∙ ap Some is)))

-- the number of the Deferred that one awaits
awaited_some : (awaited : ℕ) (o : Option Position) → IsSome o → Some awaited ≡ awaited_of (awaiting awaited o)
awaited_some awaited None h = absurd (none_some None refl h)
awaited_some awaited (Some body) h = refl

awaited_seen : (bodies : Bodies) (later : List (Waiting ℕ)) (w : Waiting ℕ) → IsApart bodies later w
    → awaited_of w ≡ awaited_of (seen bodies w)
awaited_seen bodies later Nothing h = refl
awaited_seen bodies later Adding h = refl
awaited_seen bodies later (Arrived input) h = refl
awaited_seen bodies later (Awaiting awaited key) h = awaited_some awaited (body_under bodies key) h.0

pub awaited_is : (bodies : Bodies) (place : ℕ) (kept : List (Waiting ℕ)) (w : Waiting ℕ) → IsKept bodies kept
    → slice_get kept place ≡ Some w → awaited_of w ≡ awaited_by place (seen_all bodies kept)
awaited_is bodies place [] w h g = absurd cc
awaited_is bodies zero (x ∷ kept) w h g =
    let same : x ≡ w = cc in
    subst (λ (y : Waiting ℕ). awaited_of y ≡ awaited_of (seen bodies x)) same (awaited_seen bodies kept x h.0)
awaited_is bodies (suc place) (x ∷ kept) w h g = awaited_is bodies place kept w h.1 g

-- what a look-up found
pub found_at : (kept : List (Waiting ℕ)) (place : ℕ) (w : Waiting ℕ) → place < length kept → w ≡ get_or kept place w
    → slice_get kept place ≡ Some w
found_at kept place w h e = slice_get-get_or kept place w h ∙ ap Some (sym e)
