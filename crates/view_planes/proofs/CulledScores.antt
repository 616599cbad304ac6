-- What score each node of a mesh has.
use Rattle.std.proofs.Common.{◌≡◌, ℕ, true, false, List, map, Some, sym, ap, ◌∙◌}
use Rattle.std.specs.Prelude.{slice_get, option_map}
use Rattle.std.proofs.lemmas.Bool.{cond-true, cond-false}
use Rattle.std.proofs.lemmas.Option.{slice_get-map}
use Rattle.file_model.specs.declared.fields.Node.{Node}
use Rattle.round_model.specs.Scores.{score_of}
use Rattle.view_planes.specs.Planes.{PlanesSeen, is_culled, culled_score}

score_at : (seen : PlanesSeen) (nodes : List Node) (v : ℕ) (n : Node) → slice_get nodes v ≡ Some n → slice_get (map (culled_score seen) nodes) v ≡ Some (culled_score seen n)
score_at seen nodes v n here = slice_get-map (culled_score seen) nodes v ∙ ap (option_map (culled_score seen)) here

pub score_of_culled : (seen : PlanesSeen) (nodes : List Node) (v : ℕ) (n : Node) → slice_get nodes v ≡ Some n → is_culled seen.planes n.ball ≡ true → slice_get (map (culled_score seen) nodes) v ≡ Some 0
score_of_culled seen nodes v n here culled =
    score_at seen nodes v n here ∙ ap (λ (s : ℕ). Some s) (cond-true (is_culled seen.planes n.ball) 0 (score_of seen.view.eye seen.view.focal n) culled)

pub score_in_front : (seen : PlanesSeen) (nodes : List Node) (v : ℕ) (n : Node) (s : ℕ) → slice_get nodes v ≡ Some n → is_culled seen.planes n.ball ≡ false → slice_get (map (score_of seen.view.eye seen.view.focal) nodes) v ≡ Some s → slice_get (map (culled_score seen) nodes) v ≡ Some s
score_in_front seen nodes v n s here front score =
    score_at seen nodes v n here ∙ ap (λ (t : ℕ). Some t) (cond-false (is_culled seen.planes n.ball) 0 (score_of seen.view.eye seen.view.focal n) front)
    ∙ sym (slice_get-map (score_of seen.view.eye seen.view.focal) nodes v ∙ ap (option_map (score_of seen.view.eye seen.view.focal)) here) ∙ score
