-- Between a value's place and its end as many values begin as it has nodes.
use Rattle.std.proofs.Common.{◌≡◌, ℕ, ◌+◌, ◌-◌, ◌≤◌, List, ◌++◌, drop, take, length, map, sym, ap, ◌∙◌, subst, arith}
use Rattle.std.proofs.Math.Logic.{∥∥₁_elim}
use Rattle.std.proofs.lemmas.List.{drop-drop, drop-map, take-append-drop, take-map}
use Rattle.std.specs.Coded.{Coded-set, coded_ℕ}
use Rattle.json.specs.Token.{Token}
use Rattle.json.specs.Strict.{HasUniqueKeys}
use Rattle.json.specs.Tape.{node_token}
use Rattle.json.specs.Tree.{json_tokens}
use Rattle.json.specs.declared.tape.Node.{Node}
use Rattle.dv_document.specs.Nodes.{beginnings, nodes}
use Rattle.dv_document.specs.Places.{Begins, tokens_from}
use Rattle.dv_document.specs.Tokens.{data_at, value_at}
use Rattle.dv_document.proofs.Counts.{beginnings_append, counts}
use Rattle.dv_document.proofs.Here.{Follows, whole}
use Rattle.dv_document.proofs.Values.{value_at-begins}

counts_here : (ts rest : List Token) → ∥ Begins ts ∥₁ → ts ≡ json_tokens (value_at ts) ++ rest
    → beginnings ts ≡ nodes (data_at ts) + beginnings rest
unfolding data_at
counts_here ts rest b e =
    ∥∥₁_elim b (Coded-set coded_ℕ _ _) (λ h. ap beginnings e
    ∙ counts (value_at ts) rest (subst HasUniqueKeys (sym (value_at-begins ts h.0 h.1)) h.2))

between_of : (ns : List Node) (at end : ℕ) → at ≤ end
    → map node_token (take (end - at) (drop at ns)) ++ tokens_from (map node_token ns) end ≡ tokens_from (map node_token ns) at
between_of ns at end order =
    let all = map node_token ns in
    let inside : map node_token (take (end - at) (drop at ns)) ≡ take (end - at) (drop at all) =
    sym (take-map node_token (end - at) (drop at ns)) ∙ ap (take (end - at)) (sym (drop-map node_token at ns)) in
    let sum : at + (end - at) ≡ end = omega (arith, order) in
    let later : drop end all ≡ drop (end - at) (drop at all) =
    ap (λ n. drop n all) (sym sum) ∙ sym (drop-drop (end - at) at all) in
    ap (λ ts. ts ++ drop end all) inside ∙ ap (λ ts. take (end - at) (drop at all) ++ ts) later
    ∙ take-append-drop (end - at) (drop at all)

-- the tokens between two places
between : (ns : List Node) (ts : List Token) → map node_token ns ≡ ts → (at end : ℕ) → at ≤ end
    → map node_token (take (end - at) (drop at ns)) ++ tokens_from ts end ≡ tokens_from ts at
between ns ts e at end order =
    subst (λ us. map node_token (take (end - at) (drop at ns)) ++ tokens_from us end ≡ tokens_from us at) e
    (between_of ns at end order)

pub counted : (ns : List Node) (ts : List Token) → map node_token ns ≡ ts → (at end : ℕ) → ∥ Begins (tokens_from ts at) ∥₁
    → Follows (tokens_from ts at) (tokens_from ts end) → at ≤ end
    → beginnings (map node_token (take (end - at) (drop at ns))) ≡ nodes (data_at (tokens_from ts at))
counted ns ts e at end b follows order =
    let us = tokens_from ts at in
    let here = whole us b in
    let rest : tokens_from ts end ≡ drop (length (json_tokens (value_at us))) us = follows (value_at us) _ here in
    let all : beginnings us ≡ nodes (data_at us) + beginnings (tokens_from ts end) =
    counts_here us (tokens_from ts end) b (here ∙ ap (λ vs. json_tokens (value_at us) ++ vs) (sym rest)) in
    let parts : beginnings us ≡ beginnings (map node_token (take (end - at) (drop at ns))) + beginnings (tokens_from ts end) =
    ap beginnings (sym (between ns ts e at end order))
    ∙ beginnings_append (map node_token (take (end - at) (drop at ns))) (tokens_from ts end) in
    omega (arith, all, parts)
