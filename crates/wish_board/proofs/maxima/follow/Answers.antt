-- The view that left is lowered, and the one that came is raised.
use Rattle.std.proofs.Common.{◌≡◌, ◌∙◌, sym, refl, subst, length, Option, Some, None}
use Rattle.std.specs.Prelude.{slice_set}
use Rattle.tier_model.specs.Ranks.{Posted}
use Rattle.wish_board.specs.Maxima.{AreGreatest}
use Rattle.wish_board.proofs.MaximaLemmas.{AreBut, but-left, but-none, but-raised, but-nothing, scored_at}
use Rattle.wish_board.proofs.maxima.follow.Goals.{in-Some, in_default}
use Rattle.wish_board.proofs.maxima.follow.Goals as goal
use Rattle.wish_board.proofs.maxima.follow.Goals.{After-index-views-slot}

left : (c : After-index-views-slot) → AreBut (length c.args.greatest.now) c.args.views.now c.index-views-slot.result c.match-earlier.greatest
left c =
    let nodes = length c.args.greatest.now in
    let views = c.args.views.now in
    let was : (o : Option Posted) → c.args.earlier.now ≡ o → AreGreatest nodes (slice_set views c.args.slot o) c.args.greatest.now =
    (λ o is. subst (λ (p : Option Posted). AreGreatest nodes (slice_set views c.args.slot p) c.args.greatest.now) is c.requires.greatest) in
    elim c.match-earlier.branch [
      | in-Some w ↦ rw w.greatest-is (but-left nodes views c.args.slot w.in-Some.left c.index-views-slot.result c.args.greatest.now w.lower.new.greatest c.requires.slot c.index-views-slot.is (was (Some w.in-Some.left) w.in-Some.is) w.lower.ensures)
      | in_default w ↦ rw w.greatest-is (but-none nodes views c.args.slot c.index-views-slot.result c.args.greatest.now c.requires.slot c.index-views-slot.is (was None w.in_default.is))
    ]

pub raise-requires : goal.raise-requires
raise-requires c =
    scored_at (length c.args.greatest.now) c.args.views.now c.args.slot c.index-views-slot.result c.in-Some-views.view c.requires.scored c.requires.slot c.index-views-slot.is c.in-Some-views.is
    ∙ sym (left (goal.at.raise-requires c).After-index-views-slot).all_nodes

pub returns-in-Some-views : goal.returns-in-Some-views
returns-in-Some-views c =
    let nodes = length c.args.greatest.now in
    let but = subst (λ (o : Option Posted). AreBut nodes c.args.views.now o c.match-earlier.greatest) c.in-Some-views.is (left (goal.at.returns-in-Some-views c).After-index-views-slot) in
    but-raised nodes (length c.match-earlier.greatest) c.args.views.now c.in-Some-views.view c.match-earlier.greatest c.raise.new.greatest but refl c.raise.ensures

pub returns-in_default-views : goal.returns-in_default-views
returns-in_default-views c =
    let nodes = length c.args.greatest.now in
    but-nothing nodes c.args.views.now c.match-earlier.greatest
    (subst (λ (o : Option Posted). AreBut nodes c.args.views.now o c.match-earlier.greatest) c.in_default-views.is (left (goal.at.returns-in_default-views c).After-index-views-slot))
