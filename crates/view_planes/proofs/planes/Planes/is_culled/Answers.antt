use Rattle.std.proofs.Common.{◌≡◌, ℕ, suc, ◌+◌, ◌<◌, Bool, true, false, ◌||◌, List, ◌∷◌, length, get_or, drop, sym, ap, ◌∙◌, add-one}
use Rattle.std.proofs.Math.Seq.{drop-cons}
use Rattle.grid_vertex.specs.declared.balls.Ball.{Ball}
use Rattle.view_planes.specs.HalfSpaces.{HalfSpaceSeen, is_behind}
use Rattle.view_planes.specs.Planes.{PlanesSeen, is_culled}
use Rattle.view_planes.proofs.planes.Planes.is_culled.Goals as goal

split_at : (planes : List HalfSpaceSeen) (i : ℕ) (plane : HalfSpaceSeen) → i < length planes → plane ≡ get_or planes i plane → drop i planes ≡ plane ∷ drop (i + 1) planes
split_at planes i plane less is = rw (add-one) (drop-cons planes i plane less ∙ ap (λ (p : HalfSpaceSeen). p ∷ drop (suc i) planes) (sym is))

by_first : (planes items : List HalfSpaceSeen) (ball : Ball) (i : ℕ) (plane : HalfSpaceSeen) (b : Bool) → items ≡ planes → i < length items → plane ≡ get_or items i plane → is_behind plane ball ≡ b → is_culled (drop i planes) ball ≡ is_culled planes ball → is_culled planes ball ≡ (b || is_culled (drop (i + 1) planes) ball)
by_first planes items ball i plane b same less is behind before =
    sym before ∙ ap (λ (ps : List HalfSpaceSeen). is_culled (drop i ps) ball) (sym same) ∙ ap (λ (ps : List HalfSpaceSeen). is_culled ps ball) (split_at items i plane less is)
    ∙ ap (λ (t : Bool). t || is_culled (drop (i + 1) items) ball) behind ∙ ap (λ (ps : List HalfSpaceSeen). b || is_culled (drop (i + 1) ps) ball) same

pub returns-then-is_behind : goal.returns-then-is_behind
returns-then-is_behind c =
    let same = c.as_slice-plane-items.ensures.value ∙ ap (λ (p : PlanesSeen). p.planes) c.self.view_is in
    sym (by_first c.args.self.now.planes c.as_slice-plane-items.result.now c.args.ball.now c.loop-plane.plane-index c.plane-item.result true same c.loop-plane-test.true c.plane-item.is (sym c.is_behind.ensures ∙ c.if-is_behind.true) c.loop-plane.invariant)

pub loop-plane-preserved : goal.loop-plane-preserved
loop-plane-preserved c =
    let same = c.as_slice-plane-items.ensures.value ∙ ap (λ (p : PlanesSeen). p.planes) c.self.view_is in
    sym (by_first c.args.self.now.planes c.as_slice-plane-items.result.now c.args.ball.now c.loop-plane.plane-index c.plane-item.result false same c.loop-plane-test.true c.plane-item.is (sym c.is_behind.ensures ∙ c.if-is_behind.false) c.loop-plane.invariant)
