-- The difference of two heads is that of the lists.
use Rattle.std.proofs.Common.{rules, ◌≡◌, ◌∙◌, sym, ap, refl, arith, ℕ, ◌+◌, ◌<◌, ◌≤◌, length, drop, get_or, List, [], ◌∷◌, ℤ, pos, Bool, true, false}
use Rattle.std.specs.Prelude.{Option, Some, None, option_map, if◌then◌else◌}
use Rattle.std.specs.declared.cmp.Ordering.{Ordering}
use Rattle.std.specs.declared.cmp.Ordering.TheVariants.{Less, Equal, Greater}
use Rattle.std.specs.Ordering.{int_eq}
use Rattle.std.proofs.lemmas.Int.{to_z-of_z}
use Rattle.std.proofs.lemmas.List.{drop_more}
use borrow.Author.Tests.{ltb-true}
use mir.Syntax.{w64}
use mir.Val.{SFits}
use Rattle.edge_chain.specs.declared.differences.Difference.{Difference}
use Rattle.edge_chain.specs.declared.edges.Edge.{Edge}
use Rattle.edge_chain.specs.Edges.{edge_cmp}
use Rattle.edge_chain.specs.Gaps.{Gap, gap_by, first_gap}
use Rattle.edge_chain.specs.Differences.{difference_at, difference_of}
use Rattle.edge_chain.proofs.PlaceLaws.{none_left}
use Rattle.edge_chain.proofs.differences.first_gap.Goals as goal

tie_gap : (t : Bool) (g : Gap Edge) (rest : Option (Gap Edge)) (d : Difference) → Some d ≡ option_map difference_of (if t then None else Some g) → Some d ≡ option_map difference_of (if t then rest else Some g)
tie_gap true g rest d h = absurd cc
tie_gap false g rest d h = h

some_gap : (o : Ordering) (e f : Edge × ℤ) (rest : Option (Gap Edge)) (d : Difference) → Some d ≡ option_map difference_of (gap_by edge_cmp o e f None) → Some d ≡ option_map difference_of (gap_by edge_cmp o e f rest)
some_gap Less e f rest d h = h
some_gap Equal e f rest d h = tie_gap (int_eq e.1 f.1) (e.0, e.1, f.1) rest d h
some_gap Greater e f rest d h = h

heads : (e f : Edge × ℤ) (es fs ours theirs : List (Edge × ℤ)) (d : Difference) → ours ≡ e ∷ es → theirs ≡ f ∷ fs → Some d ≡ option_map difference_of (gap_by edge_cmp (edge_cmp e.0 f.0) e f None) → Some d ≡ option_map difference_of (first_gap edge_cmp ours theirs)
heads e f es fs ours theirs d x y h = rw (x, y) (some_gap (edge_cmp e.0 f.0) e f (first_gap edge_cmp es fs) d h)

pub returns-in-Some : goal.returns-in-Some
returns-in-Some c =
    let ours : c.loop-at.at < length c.args.here.now = omega arith in
    let theirs : c.loop-at.at < length c.args.there.now = omega arith in
    heads _ _ _ _ _ _ c.in-Some.difference (drop_more c.args.here.now c.loop-at.at _ ours) (drop_more c.args.there.now c.loop-at.at _ theirs) c.in-Some.ensures
    ∙ ap (option_map difference_of) (sym c.loop-at.invariant)

ours_longer : (here there ours theirs es : List (Edge × ℤ)) (e : Edge × ℤ) (d : Difference) → first_gap edge_cmp here there ≡ first_gap edge_cmp ours theirs → ours ≡ e ∷ es → theirs ≡ [] → d ≡ difference_at e.0 e.1 (pos 0) → Some d ≡ option_map difference_of (first_gap edge_cmp here there)
ours_longer here there ours theirs es e d same x y is = rw (same, x, y, is) refl

theirs_longer : (here there ours theirs es : List (Edge × ℤ)) (e : Edge × ℤ) (d : Difference) → first_gap edge_cmp here there ≡ first_gap edge_cmp ours theirs → ours ≡ [] → theirs ≡ e ∷ es → d ≡ difference_at e.0 (pos 0) e.1 → Some d ≡ option_map difference_of (first_gap edge_cmp here there)
theirs_longer here there ours theirs es e d same x y is = rw (same, x, y, is) refl

next_at : (es : List (Edge × ℤ)) (at k : ℕ) (d e : Edge × ℤ) → k ≡ at → k < length es → e ≡ get_or es k d → drop at es ≡ e ∷ drop (k + 1) es
next_at es at k d e same within is = ap (λ n. drop n es) (sym same) ∙ drop_more es k d within ∙ ap (λ (x : Edge × ℤ). x ∷ drop (k + 1) es) (sym is)

pub returns-in-Some-default : goal.returns-in-Some-default
returns-in-Some-default c =
    let e = c.in-Some-default.field-0-0.now in
    let fits : SFits w64 e.1 = search rules in
    let found = c.in-Some-default.ensures.lookup in
    let within : c.min-both.result < length c.args.here.now = ltb-true _ _ (sym found.0) in
    let at : c.min-both.result ≡ c.loop-at.at = omega arith in
    let over : length c.args.there.now ≤ c.loop-at.at = omega arith in
    ours_longer c.args.here.now c.args.there.now _ _ _ e c.at.result c.loop-at.invariant (next_at c.args.here.now c.loop-at.at c.min-both.result _ e at within found.1) (none_left c.args.there.now c.loop-at.at over)
    (c.at.ensures ∙ ap (λ (z : ℤ). difference_at e.0 z (pos 0)) (to_z-of_z w64 e.1 fits))

pub returns-in-None-Some : goal.returns-in-None-Some
returns-in-None-Some c =
    let e = c.in-None-Some.field-0-1.now in
    let fits : SFits w64 e.1 = search rules in
    let found = c.in-None-Some.ensures'.lookup in
    let within : c.min-both.result < length c.args.there.now = ltb-true _ _ (sym found.0) in
    let at : c.min-both.result ≡ c.loop-at.at = omega arith in
    let over : length c.args.here.now ≤ c.loop-at.at = omega arith in
    theirs_longer c.args.here.now c.args.there.now _ _ _ e c.at-in-None-Some.result c.loop-at.invariant (none_left c.args.here.now c.loop-at.at over) (next_at c.args.there.now c.loop-at.at c.min-both.result _ e at within found.1)
    (c.at-in-None-Some.ensures ∙ ap (λ (z : ℤ). difference_at e.0 (pos 0) z) (to_z-of_z w64 e.1 fits))
