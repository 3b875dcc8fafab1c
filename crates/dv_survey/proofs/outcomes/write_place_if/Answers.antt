use Rattle.std.proofs.Common.{◌++◌, ◌∙◌, ap, codes, string_bytes, sym}
use Rattle.dv_survey.proofs.Pieces.{on_ok, with_piece}
use Rattle.dv_survey.proofs.PlacesLemmas.{place_written}
use Rattle.dv_survey.specs.Outcomes.{place_if, place_text}
use Rattle.dv_survey.proofs.outcomes.write_place_if.Goals as goal

pub returns-in_ok-write_u64 : goal.returns-in_ok-write_u64
returns-in_ok-write_u64 c =
    let old = string_bytes c.args.out.now in
    let mid = string_bytes c.write_u64.new.out in
    let new = string_bytes c.write_space.new.out in
    let place = c.args.place in
    let digits = c.in_ok-write_u64.ensures ∙ ap (λ l. old ++ l) (place_written place c.ranges.place.fits) in
    on_ok c.write_space.result c.write_space.ensures
    (λ e. with_piece old mid new (place_text place) (codes " ") digits e
    ∙ ap (λ came. old ++ place_if came place) (sym c.if-is_marked.true))
