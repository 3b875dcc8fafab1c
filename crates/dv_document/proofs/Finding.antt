-- The member of a key, among those that come one after another.
use Rattle.std.proofs.Common.{◌≡◌, List, ℕ, true, false, Some, sym, ap, ◌∙◌}
use Rattle.std.proofs.lemmas.Bool.{false≢true}
use Rattle.std.proofs.lemmas.Slice.Eq.{bytes_eq-Decides}
use Rattle.std.specs.Str.{bytes_eq}
use Rattle.serde_json.specs.Data.{Data, Members, put}
use Rattle.serde_json.specs.Find.{get_member}
use Rattle.serde_json.proofs.Views.{get_member-put, get_member-put_other}

-- the next one has it
pub found_next : (q k : List ℕ) (d : Data) (ms ns : Members) → ms ≡ put k d ns → bytes_eq k q ≡ true
    → Some d ≡ get_member q ms
found_next q k d ms ns e same =
    let key : k ≡ q = (bytes_eq-Decides k q).0 same in
    sym (ap (get_member q) e ∙ ap (λ l. get_member l (put k d ns)) (sym key) ∙ get_member-put k d ns)

-- it is looked for among the others
pub found_later : (q k : List ℕ) (d : Data) (ms ns : Members) → ms ≡ put k d ns → bytes_eq k q ≡ false
    → get_member q ns ≡ get_member q ms
found_later q k d ms ns e other =
    sym (ap (get_member q) e
    ∙ get_member-put_other q k d ns (λ h. false≢true (sym other ∙ (bytes_eq-Decides k q).1 (sym h))))
